-- What a session leaves that was held at a new seat.
use Rattle.std.proofs.Common.{◌≡◌, ℕ, List, [], ◌++◌, Bool, true, false, Option, Some, None, refl, sym, ap, ◌∙◌, subst}
use Rattle.timing_defs.specs.declared.design.Design.{Design}
use Rattle.timing_defs.specs.declared.edits.Entry.{Entry}
use Rattle.timing_defs.specs.declared.scripts.Command.{Command}
use Rattle.timing_defs.specs.declared.scripts.Row.{Row}
use Rattle.version_board.specs.Callers.{Sitting, IsSame, IsNew}
use Rattle.live_doors.specs.Doors.{Deed, IsUntouched}
use Rattle.live_journal.specs.declared.cells.Known.{Known}
use Rattle.live_doors.specs.declared.door.Lost.{Lost}
use Rattle.live_session.specs.declared.replies.Manner.{Manner}
use Rattle.live_session.specs.declared.replies.TalkEnd.{TalkEnd}
use Rattle.live_session.specs.Talks.{AtDoor, at_door, telling, Talked}
use Rattle.live_session.proofs.AfterLaws.{exactly}
use Rattle.seated_session.specs.Seated.{Seated, HasRun, HasAnswered}
use Rattle.seated_session.proofs.Runs.{answered_run}
use Rattle.live_run.specs.declared.ended.Ended.{Ended}
use Rattle.live_run.specs.Sessions.{IsOpened, IsUnopened, IsParted, HandsBack}

-- a session at a new seat that took no command
nothing_run : (n : ℕ) (s : Sitting Entry Design) → IsNew n s → HasRun s.view [] []
nothing_run n s new = λ o is. record { legal = (tt, tt); mine = new.2; looks = ([], new.3, tt) }

pub same_then : (s t u : Sitting Entry Design) → IsSame s t → IsSame t u → IsSame s u
same_then s t u a b = (b.0 ∙ a.0, b.1 ∙ a.1, b.2 ∙ a.2, b.3 ∙ a.3)

-- a door that tells the same
pub still_at : {left left' : Option (List (List ℕ))} {trace trace' : Option (List Deed)} {faults faults' : ℕ} → left' ≡ left → trace' ≡ trace → faults' ≡ faults
    → at_door left trace faults ≡ at_door left' trace' faults'
still_at {left} {left'} {trace} {trace'} {faults} {faults'} a b c =
    ap (λ l. at_door l trace faults) (sym a) ∙ ap (λ t. at_door left' t faults) (sym b) ∙ ap (λ f. at_door left' trace' f) (sym c)

-- a door that was just opened at a seat
pub opened_at : (at lines : ℕ → Option (List (List ℕ))) (n k : ℕ) (start : AtDoor) → at ≡ lines → k ≡ n → start.left ≡ at n → IsUntouched start.trace
    → start.faults ≡ 0 → IsOpened (lines k) start
opened_at at lines n k start same is left trace faults =
    record { left = left ∙ ap (λ f. f n) same ∙ ap lines (sym is); trace = trace; faults = faults }

module _ {D : Type 0} {B : _} (told : D → AtDoor) (lines : ℕ → Option (List (List ℕ))) (denies : ℕ → Lost → Type 0) (manner : Manner) (s : Sitting Entry Design) (e : Ended D B) where
  -- it leaves its seat as it was where its door was not opened
  pub shut : (n : ℕ) → IsNew n s → e.seat ≡ s → e.parted.door ≡ None → IsUnopened (denies s.view.number) e.parted.outcome.end → e.parted.outcome.clean ≡ true
      → HandsBack told lines denies manner s e
  shut n new is none end all = record {
    same = subst (IsSame s) (sym is) (refl, refl, refl, refl);
    commands = [];
    rows = [];
    ran = subst (λ (t : Sitting Entry Design). HasRun t.view [] []) (sym is) (nothing_run n s new);
    left =
        subst (λ (d : Option D). IsParted told (lines s.view.number) (denies s.view.number) (telling e.receipt.upto e.receipt.torn manner) [] [] d e.parted.outcome.clean e.parted.outcome.end) (sym none)
        (refl, refl, end, all);
  }

  -- and else its commands and their rows are those that it talked about
  pub talked_back : (a : Seated) (door closed : D) (start : AtDoor) → e.seat ≡ a.seat → e.receipt ≡ a.known → e.parted.door ≡ Some closed
      → told door ≡ told closed → IsSame s a.seat
      → IsOpened (lines s.view.number) start
      → Talked (HasAnswered a) (telling a.known.upto a.known.torn manner) start (told door) e.parted.outcome.clean e.parted.outcome.end
      → HandsBack told lines denies manner s e
  talked_back a door closed start is knows there still same opened talk =
      let clean = e.parted.outcome.clean in
      let end = e.parted.outcome.end in
      let way = telling a.known.upto a.known.torn manner in
      let whole = subst (λ (d : AtDoor). Talked (HasAnswered a) way start d clean end) still talk in
      let x = exactly (HasAnswered a) way start (told closed) clean end whole in
      record {
        same = subst (IsSame s) (sym is) same;
        commands = x.0;
        rows = x.1;
        ran = subst (λ (t : Sitting Entry Design). HasRun t.view x.0 x.1) (sym is) (answered_run a x.0 x.1 x.2);
        left =
            subst (λ (d : Option D). IsParted told (lines s.view.number) (denies s.view.number) (telling e.receipt.upto e.receipt.torn manner) x.0 x.1 d clean end) (sym there)
            (subst (λ (k : Known). IsParted told (lines s.view.number) (denies s.view.number) (telling k.upto k.torn manner) x.0 x.1 (Some closed) clean end) (sym knows) (start, opened, x.3));
      }
