-- A live run begins: its desk has the last seat of its board, and sessions have the others.
use Rattle.std.proofs.Common.{◌≡◌, ℕ, ◌+◌, ◌++◌, List, [], ◌∷◌, length, Option, Result, Ok, Err, IfOk, IfErr, refl, sym, ap, ◌∙◌, subst, arith, length-append}
use Rattle.std.specs.Arc.{arc_value}
use Rattle.timing_defs.specs.declared.constraints.Derates.{Derates}
use Rattle.timing_defs.specs.declared.design.Design.{Design}
use Rattle.timing_defs.specs.declared.edits.Entry.{Entry}
use Rattle.version_board.specs.Callers.{Standing, Sitting}
use Rattle.session_engine.specs.Versions.{Versioned}
use Rattle.session_engine.specs.Looking.{meant}
use Rattle.live_journal.specs.declared.desks.Unkept.{Unkept}
use Rattle.live_journal.specs.Desk.{Setting, IsBoardOf, IsSeatAt}
use Rattle.live_doors.specs.declared.door.Lost.{Lost}
use Rattle.live_session.specs.declared.replies.Manner.{Manner}
use Rattle.live_session.specs.Talks.{AtDoor}
use Rattle.live_run.specs.declared.ended.Parted.{Parted}
use Rattle.live_run.specs.declared.ended.Ended.{Ended}
use Rattle.live_run.specs.declared.ended.LiveClosed.{LiveClosed}
use Rattle.live_run.specs.Sessions.{EachHandsBack, AreNew}
use Rattle.live_run.specs.Closing.{IsDeskOf}
use Rattle.live_run.specs.Runs.{AtFile, IsLiveRun, file_of}
use Rattle.live_run.proofs.PoppedLaws.{new_popped}

module _ (b : Standing Versioned) (n : ℕ) (s : Setting Design) (of : IsBoardOf meant s b) (number : s.number ≡ n + 1) where
  -- the last seat is the desk's, and the others are those of sessions
  pub desk_seat : (all seats : List (Sitting Entry Design)) (seat : Sitting Entry Design) → all ≡ seats ++ seat ∷ [] → length all ≡ n + 1 → AreNew b 1 all
      → IsSeatAt s seat × AreNew b 1 seats × (length seats ≡ n)
  desk_seat all seats seat parts long new =
      let p = new_popped b 1 seats seat (subst (AreNew b 1) parts new) in
      let more : length (seats ++ seat ∷ []) ≡ length seats + 1 = length-append seats (seat ∷ []) in
      let same : length all ≡ length (seats ++ seat ∷ []) = ap length parts in
      let many : length seats ≡ n = omega (arith, more, same, long) in
      let last : 1 + length seats ≡ n + 1 = omega (arith, many) in (
        (
          p.2.0 ∙ of.0,
          p.2.1 ∙ of.1,
          p.2.2 ∙ of.2,
          p.1.0 ∙ last ∙ sym number,
          p.1.2,
        ),
        p.0,
        many,
      )

  pub desk_of : (sessions : ℕ) → b.seats ≡ n + 1 → sessions ≡ n → IsDeskOf s b sessions
  desk_of sessions seats many = record {
    board = of;
    number = number ∙ ap (λ k. k + 1) (sym many);
    seats = seats ∙ ap (λ k. k + 1) (sym many);
  }

-- as many as there are seats
pub as_many : {D : Type 0} {B : _} (told : D → AtDoor) (lines : ℕ → Option (List (List ℕ))) (denies : ℕ → Lost → Type 0) (manner : Manner) (seats : List (Sitting Entry Design)) (ended : List (Ended D B))
    → EachHandsBack told lines denies manner seats ended → length ended ≡ length seats
as_many told lines denies manner [] [] back = refl
as_many told lines denies manner (s ∷ seats) (e ∷ ended) back = let n = as_many told lines denies manner seats ended back.1 in omega (arith, n)
as_many told lines denies manner [] (e ∷ ended) back = absurd back
as_many told lines denies manner (s ∷ seats) [] back = absurd back

-- a run from a version's origin is one from that of an equal one
pub run_alike : {D : Type 0} (told : D → AtDoor) (lines : ℕ → Option (List (List ℕ))) (denies : ℕ → Lost → Type 0) (manner other : Manner) (v w : Versioned) (J : List Entry)
    (before after : AtFile) (derates factors : Derates) (parted : List (Parted D)) (kept : Result Unit Unkept) → manner ≡ other → v ≡ w → derates ≡ factors
    → IsLiveRun told lines denies manner v.origin v.first J before after derates parted kept → IsLiveRun told lines denies other w.origin w.first J before after factors parted kept
run_alike told lines denies manner other v w J before after derates factors parted kept same is alike run =
    subst (λ (x : Versioned). IsLiveRun told lines denies other x.origin x.first J before after factors parted kept) is
    (subst (λ d. IsLiveRun told lines denies other v.origin v.first J before after d parted kept) alike
    (subst (λ m. IsLiveRun told lines denies m v.origin v.first J before after derates parted kept) same run))

module _ {D F : Type 0} (written : F → Option (List ℕ)) (faults : F → ℕ) (r : Result (LiveClosed D F) (Option F)) where
  pub runs_alike : (told : D → AtDoor) (lines : ℕ → Option (List (List ℕ))) (denies : ℕ → Lost → Type 0) (manner other : Manner) (v w : Versioned) (before : AtFile) (derates factors : Derates)
      → manner ≡ other → v ≡ w → derates ≡ factors
      → IfOk r (λ (c : LiveClosed D F). IsLiveRun told lines denies manner v.origin v.first (arc_value c.last).journal before (file_of written faults c.journal) derates c.sessions.items c.kept)
      → IfOk r (λ (c : LiveClosed D F). IsLiveRun told lines denies other w.origin w.first (arc_value c.last).journal before (file_of written faults c.journal) factors c.sessions.items c.kept)
  runs_alike told lines denies manner other v w before derates factors same is alike h = alike_at r h
    where
      alike_at : (x : Result (LiveClosed D F) (Option F))
          → IfOk x (λ (c : LiveClosed D F). IsLiveRun told lines denies manner v.origin v.first (arc_value c.last).journal before (file_of written faults c.journal) derates c.sessions.items c.kept)
          → IfOk x (λ (c : LiveClosed D F). IsLiveRun told lines denies other w.origin w.first (arc_value c.last).journal before (file_of written faults c.journal) factors c.sessions.items c.kept)
      alike_at (Ok c) run =
          run_alike told lines denies manner other v w (arc_value c.last).journal before (file_of written faults c.journal) derates factors c.sessions.items c.kept same is alike run
      alike_at (Err j) run = tt

  pub file_alike : (journal : Option F) → IfErr r (λ j. j ≡ journal) → IfErr r (λ j. file_of written faults j ≡ file_of written faults journal)
  file_alike journal h = back_at r h
    where
      back_at : (x : Result (LiveClosed D F) (Option F)) → IfErr x (λ j. j ≡ journal) → IfErr x (λ j. file_of written faults j ≡ file_of written faults journal)
      back_at (Ok c) same = tt
      back_at (Err j) same = ap (file_of written faults) same
