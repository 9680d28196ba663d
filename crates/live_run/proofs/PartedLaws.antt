-- What live sessions leave, by the scripts of their commands and the transcripts of their rows.
use Rattle.std.proofs.Common.{◌≡◌, ℕ, ◌+◌, ◌≤◌, ◌++◌, List, [], ◌∷◌, map, length, Bool, true, false, not, Option, Result, Ok, Some, None, refl, sym, ap, ◌∙◌, subst, arith}
use Rattle.timing_defs.specs.declared.design.Design.{Design}
use Rattle.timing_defs.specs.declared.edits.Entry.{Entry}
use Rattle.timing_defs.specs.declared.scripts.Command.{Command}
use Rattle.timing_defs.specs.declared.scripts.Row.{Row}
use Rattle.timing_defs.specs.declared.scripts.Script.{Script}
use Rattle.timing_defs.specs.declared.scripts.Transcript.{Transcript}
use Rattle.timing_rules.specs.Sessions.{GrewBy, row_looks, added_entries}
use Rattle.version_board.specs.Callers.{Standing, Sitting, IsSeatOf, IsSame, IsNew}
use Rattle.session_engine.specs.Versions.{Versioned}
use Rattle.session_engine.specs.Looking.{meant}
use Rattle.session_engine.specs.Running.{Ran}
use Rattle.live_doors.specs.declared.door.Lost.{Lost}
use Rattle.live_session.specs.declared.replies.Manner.{Manner}
use Rattle.live_session.specs.declared.replies.TalkEnd.{TalkEnd}
use Rattle.live_session.specs.Talks.{AtDoor, Telling, telling, Exactly}
use Rattle.live_session.proofs.AfterLaws.{safer}
use Rattle.seated_session.specs.Seated.{fresh, HasRun}
use Rattle.live_run.specs.declared.ended.Parted.{Parted}
use Rattle.live_run.specs.declared.ended.Ended.{Ended}
use Rattle.live_run.specs.Sessions.{IsParted, HandsBack, EachHandsBack, EachParted, AreNew}
use Rattle.live_run.specs.Closing.{AreConfirmed, seat_left, parted_left}
use Rattle.live_run.proofs.WholeLaws.{EachRan}

-- a session at a new seat ran its commands from there
ran_there : (n : ℕ) (s t : Sitting Entry Design) (commands : List Command) (rows : List Row) → IsNew n s → IsSame s t → HasRun t.view commands rows
    → (o : Design) → s.view.origin ≡ Some o
    → Ran o s.view.first s.view.number (record { commands = commands }) s.view t.view (record { rows = rows })
ran_there n s t commands rows new same run o is =
    let far : Ran o t.view.first t.view.number (record { commands = commands }) (fresh t.view) t.view (record { rows = rows }) = run o (same.2 ∙ is) in
    let near : Ran o s.view.first t.view.number (record { commands = commands }) (fresh t.view) t.view (record { rows = rows }) =
    subst (λ f. Ran o f t.view.number (record { commands = commands }) (fresh t.view) t.view (record { rows = rows })) same.3 far in
    let here : Ran o s.view.first s.view.number (record { commands = commands }) (fresh t.view) t.view (record { rows = rows }) =
    subst (λ k. Ran o s.view.first k (record { commands = commands }) (fresh t.view) t.view (record { rows = rows })) same.1 near in
    record {
      legal = here.legal;
      mine = here.mine ∙ ap (λ l. l ++ added_entries s.view.number commands rows) (sym new.2);
      looks = subst (λ l. GrewBy l t.view.looks (row_looks false rows)) (sym new.3) here.looks;
    }

failed_still : (torn sound : Bool) → (torn ≡ true → sound ≡ false) → torn ≡ true → not sound ≡ true
failed_still torn sound fails is = ap not (fails is)

module _ {D : Type 0} (told : D → AtDoor) where
  -- what a session told stays so where more is known of the journal
  parted_still : (lines : Option (List (List ℕ))) (denies : Lost → Type 0) (manner : Manner) (safe upto : ℕ) (failed torn : Bool) (commands : List Command) (rows : List Row)
      (door : Option D) (clean : Bool) (end : TalkEnd) → safe ≤ upto → (failed ≡ true → torn ≡ true)
      → IsParted told lines denies (telling safe failed manner) commands rows door clean end → IsParted told lines denies (telling upto torn manner) commands rows door clean end
  parted_still lines denies manner safe upto failed torn commands rows (Some door) clean end rises stays (start, opened, talked) =
      (start, opened, safer (Exactly commands rows) (telling safe failed manner) start (told door) upto torn rises stays clean end talked)
  parted_still lines denies manner safe upto failed torn commands rows None clean end rises stays h = h

  -- sessions by their scripts and transcripts
  pub record Scripted {B : _} (lines : ℕ → Option (List (List ℕ))) (denies : ℕ → Lost → Type 0) (way : Telling) (n : ℕ) (begun : List (Sitting Entry Design)) (ended : List (Ended D B)) : Type 0 where
    pub scripts : List Script
    pub ts : List Transcript
    pub ran : EachRan begun (map seat_left ended) scripts ts
    pub each : EachParted told lines denies way n scripts ts (map parted_left ended)

  pub scripted : {B : _} (lines : ℕ → Option (List (List ℕ))) (denies : ℕ → Lost → Type 0) (manner : Manner) (upto : ℕ) (sound : Bool) (b : Standing Versioned) (n : ℕ)
      (begun : List (Sitting Entry Design)) (ended : List (Ended D B)) → AreNew b n begun → EachHandsBack told lines denies manner begun ended
      → AreConfirmed upto sound ended → Scripted lines denies (telling upto (not sound) manner) n begun ended
  scripted lines denies manner upto sound b n [] [] new back sure = record { scripts = []; ts = []; ran = tt; each = tt }
  scripted lines denies manner upto sound b n (s ∷ begun) (e ∷ ended) new back sure =
      let one = back.0 in
      let rest = scripted lines denies manner upto sound b (n + 1) begun ended new.2 back.1 sure.2 in
      record {
        scripts = record { commands = one.commands } ∷ rest.scripts;
        ts = record { rows = one.rows } ∷ rest.ts;
        ran = ((one.same, ran_there n s e.seat one.commands one.rows new.0 one.same one.ran), rest.ran);
        each = (
          subst (λ k. IsParted told (lines k) (denies k) (telling upto (not sound) manner) one.commands one.rows e.parted.door e.parted.outcome.clean e.parted.outcome.end) new.0.0
              (parted_still (lines s.view.number) (denies s.view.number) manner e.receipt.upto upto e.receipt.torn (not sound) one.commands one.rows e.parted.door e.parted.outcome.clean e.parted.outcome.end
              sure.0 (failed_still e.receipt.torn sound sure.1) one.left),
          rest.each,
        );
      }
  scripted lines denies manner upto sound b n [] (e ∷ ended) new back sure = absurd back
  scripted lines denies manner upto sound b n (s ∷ begun) [] new back sure = absurd back
