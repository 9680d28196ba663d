-- What sessions beside each other leave: each hands its seat back, and its transcript where memory was there.

use Rattle.std.specs.Prelude.{ℕ, ◌≡◌, ◌+◌, List, [], ◌∷◌, Some, Ok, ⊤, IfOk}
use Rattle.timing_defs.specs.declared.design.Design.{Design}
use Rattle.timing_defs.specs.declared.edits.Entry.{Entry}
use Rattle.timing_defs.specs.declared.scripts.Script.{Script}
use Rattle.timing_defs.specs.declared.scripts.Transcript.{Transcript}
use Rattle.version_board.specs.Callers.{Standing, Sitting, IsSeatOf, IsSame, IsNew}
use Rattle.session_engine.specs.Versions.{Versioned}
use Rattle.session_engine.specs.Looking.{meant}
use Rattle.session_engine.specs.Running.{Ran}
use Rattle.shell_session.specs.declared.sessions.Ended.{Ended}

-- a session that began at the seat `s` hands back that seat, and a transcript that is legal for its script
abbrev pub HandsBack : Sitting Entry Design → Script → Ended → Type 0
HandsBack s script e =
    IsSame s e.seat
    × IfOk e.outcome (λ t. (o : Design) → s.view.origin ≡ Some o → Ran o s.view.first s.view.number script s.view e.seat.view t)

-- each of them does, in order
abbrev pub EachHandsBack : List (Sitting Entry Design) → List Script → List Ended → Type 0
EachHandsBack [] [] [] = ⊤
EachHandsBack (s ∷ seats) (script ∷ scripts) (e ∷ ended) = HandsBack s script e × EachHandsBack seats scripts ended
EachHandsBack seats scripts ended = ⊥

-- new seats of a board, numbered from `n`
abbrev pub AreNew : Standing Versioned → ℕ → List (Sitting Entry Design) → Type 0
AreNew b n [] = ⊤
AreNew b n (s ∷ seats) = IsNew n s × IsSeatOf meant b s × AreNew b (n + 1) seats

-- the transcripts of sessions that all had memory
abbrev pub AreTold : List Ended → List Transcript → Type 0
AreTold [] [] = ⊤
AreTold (e ∷ ended) (t ∷ ts) = (e.outcome ≡ Ok t) × AreTold ended ts
AreTold ended ts = ⊥
