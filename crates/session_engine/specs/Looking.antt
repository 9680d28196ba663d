-- What a session's looks at the board tell it: the view of its seat before and after, and the version that it holds.

use Rattle.std.specs.Prelude.{ℕ, ◌≡◌, ◌+◌, ◌<◌, ◌≤◌, List, [], ◌∷◌, ◌++◌, length, Option, Some, None}
use mathlib.Core.List.{IsPrefix}
use Rattle.timing_defs.specs.declared.design.Design.{Design}
use Rattle.timing_defs.specs.declared.edits.Eco.{Eco}
use Rattle.timing_defs.specs.declared.edits.Entry.{Entry}
use Rattle.timing_defs.specs.declared.reports.Query.{Query}
use Rattle.timing_defs.specs.declared.scripts.Command.{Command}
use Rattle.timing_defs.specs.declared.scripts.Command.TheVariants.{Take, Await, Ask, Change}
use Rattle.timing_defs.specs.declared.scripts.Answer.{Answer}
use Rattle.timing_defs.specs.declared.scripts.Answer.TheVariants.{Taken, Reached, NotYet, Accepted, Refused, No, Told as told_answer}
use Rattle.timing_rules.specs.Checks.{Refuses}
use Rattle.timing_rules.specs.Questions.{Told, query_fault}
use Rattle.timing_rules.specs.Sessions.{Looks, entry_by}
use Rattle.version_board.specs.declared.views.View.{View}
use Rattle.version_board.specs.History.{Meaning}
use Rattle.version_board.specs.Callers.{meaning}
use Rattle.session_engine.specs.Versions.{Versioned}

-- what a seat of a board of versions knows
abbrev pub Sight : Type 0
Sight = View Entry Design

-- a version stands for its journal, from its first number over its origin; an entry is of its session's seat
abbrev pub meant : Meaning Versioned Entry Design
meant = meaning (λ v. v.journal) (λ v. v.first) (λ v. v.origin) (λ e. e.session)

-- the version is that of the seat's last look
abbrev pub Holds : Sight → Versioned → Type 0
Holds w held = (held.first ≡ w.first) × (Some held.origin ≡ w.origin) × (held.journal ≡ w.seen)

-- the seat looked, and saw these numbers; it added nothing
abbrev pub Saw : Sight → List ℕ → Sight → Type 0
Saw v ns w = (w.looks ≡ v.looks ++ ns) × IsPrefix v.seen w.seen × (w.mine ≡ v.mine)

-- the seat looked some times, or not at all, and added nothing
abbrev pub Looked : Sight → Sight → Type 0
Looked v w = (ns : List ℕ) × Saw v ns w

-- the seat looked, at last at this number
abbrev pub SawLast : Sight → ℕ → Sight → Type 0
SawLast v n w = (ns : List ℕ) × Saw v (ns ++ n ∷ []) w

-- the seat looked, and added an entry to the list that it saw last
abbrev pub Adds : Sight → Entry → Sight → Type 0
Adds v e w =
    (ns : List ℕ) × (log : List Entry) × (w.looks ≡ v.looks ++ (ns ++ (w.first + length log) ∷ [])) × IsPrefix v.seen log
    × (w.seen ≡ log ++ e ∷ []) × (w.mine ≡ v.mine ++ e ∷ [])

-- a version was offered: it is on the board with its entry, or the newest one was seen
abbrev pub Offers : Sight → Entry → Sight → Versioned → Option Versioned → Type 0
Offers v e w next None = Adds v e w × Holds w next
Offers v e w next (Some newest) = Saw v (newest.number ∷ []) w × Holds w newest

-- an awaited number is reached at the last look, behind fewer looks than there may be, which all saw lower numbers
abbrev pub Reaches : Sight → ℕ → ℕ → ℕ → Sight → ℕ → Type 0
Reaches v before number looks w reached =
    (ns : List ℕ) × (last : ℕ) × Saw v (ns ++ reached ∷ []) w × (length ns < looks) × Looks before number last ns × (last ≤ reached) × (number ≤ reached)

-- an awaited number is reached, or it is not yet there at as many looks
abbrev pub Waits : Sight → Versioned → ℕ → ℕ → Sight → Versioned → Answer → Type 0
Waits v held number looks w after Reached = Reaches v held.number number looks w after.number
Waits v held number looks w after (NotYet seen) = Saw v seen w × (length seen ≡ looks) × Looks held.number number after.number seen
Waits v held number looks w after answer = ⊥

-- what a design answers a question
abbrev pub Tells : Design → Query → Answer → Type 0
Tells d q (told_answer r) = Told d q r
Tells d q (No x) = query_fault d q ≡ Some x
Tells d q answer = ⊥

-- an ECO is accepted with its entry, or refused over the newest version
abbrev pub Changes : ℕ → Sight → Eco → Sight → Versioned → Answer → Type 0
Changes who v eco w after Accepted = Adds v (entry_by who eco) w
Changes who v eco w after (Refused x) = SawLast v after.number w × Refuses after.stored.design eco x
Changes who v eco w after answer = ⊥

-- a command is answered: the seat's view before and after, the version that is held before and after
abbrev pub Answers : ℕ → Sight → Versioned → Command → Sight → Versioned → Answer → Type 0
Answers who v held Take w after answer = SawLast v after.number w × (answer ≡ Taken)
Answers who v held (Await number looks) w after answer = Waits v held number looks w after answer
Answers who v held (Ask q) w after answer = (w ≡ v) × (after ≡ held) × Tells after.stored.design q answer
Answers who v held (Change eco) w after answer = Changes who v eco w after answer
