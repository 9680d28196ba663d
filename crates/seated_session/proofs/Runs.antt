-- What a session has answered goes on with each command, and is a run of its commands.

use Rattle.std.proofs.Common.{◌≡◌, ℕ, ◌+◌, false, List, [], ◌∷◌, ◌++◌, map, length, Option, Some, None, Result, Ok, Err, refl, sym, ap, subst, ◌∙◌, length-append}
use Rattle.std.specs.Prelude.{if◌then◌else◌, option_map}
use Rattle.timing_defs.specs.declared.design.Design.{Design}
use Rattle.timing_defs.specs.declared.edits.Entry.{Entry}
use Rattle.timing_defs.specs.declared.scripts.Command.{Command}
use Rattle.timing_defs.specs.declared.scripts.Row.{Row}
use Rattle.timing_rules.specs.Sessions.{GrewBy, mark_of, row_looks, added_entries}
use Rattle.version_board.specs.Callers.{Sitting, IsSame}
use Rattle.session_engine.specs.Versions.{Versioned}
use Rattle.session_engine.specs.Looking.{Sight, Looked}
use Rattle.session_engine.specs.Running.{begun_after, IsRun, RunsOn, Ran}
use Rattle.session_engine.proofs.Numbers.{grew_more, grew_front}
use Rattle.session_engine.proofs.Kept.{ordered_kept, true_kept}
use Rattle.session_engine.proofs.Rows.{ran_all}
use Rattle.live_session.specs.declared.replies.Unanswered.{Unanswered}
use Rattle.live_session.specs.declared.replies.Unanswered.TheVariants.{Memory as no_memory, Full as no_number}
use Rattle.live_session.specs.Turns.{Remains, Runs}
use Rattle.seated_session.specs.Seated.{Seated, fresh, HasRun, RanAt, HasAnswered}

-- a run is one from any start with the same entries and looks
run_from : (o : Design) (first who : ℕ) (v u : Sight) (commands : List Command) (w : Sight) (held : Versioned) (rows : List Row)
    → v.mine ≡ u.mine → v.looks ≡ u.looks → IsRun o first who v commands w held rows → IsRun o first who u commands w held rows
run_from o first who v u commands w held rows mine looks run =
    record {
      ordered = run.ordered;
      told = run.told;
      mine = run.mine ∙ ap (λ (m : List Entry). m ++ added_entries who commands rows) mine;
      low = run.low;
      last = run.last;
      looks = subst (λ (l : List ℕ). GrewBy l w.looks (row_looks false rows ++ (if begun_after false rows then [] else held.number ∷ []))) looks run.looks;
    }

-- a session that holds a version has run, too
pub has_run : (w : Sight) (held : Option Versioned) (answered : ℕ) (commands : List Command) (rows : List Row) → RanAt w held answered commands rows → HasRun w commands rows
has_run w None answered commands rows h = h
has_run w (Some held) answered commands rows h = λ o is.
    ran_all o w.first w.number (record { commands = commands }) (fresh w) w held commands rows rows refl refl (h.0 o is)

-- the seat's view before and after, with its number, origin and first number as before
module _ (v w : Sight) (number : w.number ≡ v.number) (origin : w.origin ≡ v.origin) (first : w.first ≡ v.first) where
  -- a run up to the first view, named by the second
  run_then : (held : Versioned) (answered : ℕ) (commands : List Command) (rows : List Row) (o : Design) → RanAt v (Some held) answered commands rows
      → w.origin ≡ Some o → IsRun o w.first w.number (fresh w) commands v held rows
  run_then held answered commands rows o h is =
      run_from o w.first w.number (fresh v) (fresh w) commands v held rows refl refl
      (subst (λ f. IsRun o f w.number (fresh v) commands v held rows) (sym first)
      (subst (λ n. IsRun o v.first n (fresh v) commands v held rows) (sym number) (h.0 o (sym origin ∙ is))))

  -- one more command is answered
  pub ran_on : (who : ℕ) (held : Versioned) (answered place : ℕ) (c : Command) (after : Versioned) (row : Row) → v.number ≡ who → place ≡ answered + 1
      → RunsOn who v held place c w after row
      → (commands : List Command) (rows : List Row) → RanAt v (Some held) answered commands rows → RanAt w (Some after) place (commands ++ c ∷ []) (rows ++ row ∷ [])
  ran_on who held answered place c after row is at on commands rows h =
      let count : answered ≡ length commands = h.1 in
      let place_is : place ≡ length commands + 1 = at ∙ ap (λ n. n + 1) count in (
        (λ o there.
            let run : IsRun o w.first w.number (fresh w) commands v held rows = run_then held answered commands rows o h there in
            subst (λ n. IsRun o w.first n (fresh w) (commands ++ c ∷ []) w after (rows ++ row ∷ [])) (sym (number ∙ is))
            (on o w.first (fresh w) commands rows (sym first) (sym origin ∙ there) place_is
            (subst (λ n. IsRun o w.first n (fresh w) commands v held rows) (number ∙ is) run))),
        place_is ∙ sym (length-append commands (c ∷ [])),
      )

  -- the session goes on no more: it may have looked at the board
  pub ran_out : (held : Versioned) (answered : ℕ) (none : Option Versioned) (later : ℕ) → none ≡ None → Looked v w
      → (commands : List Command) (rows : List Row) → RanAt v (Some held) answered commands rows → RanAt w none later commands rows
  ran_out held answered none later is looked commands rows h = subst (λ (x : Option Versioned). RanAt w x later commands rows) (sym is) (λ o there.
      let run : IsRun o w.first w.number (fresh w) commands v held rows = run_then held answered commands rows o h there in
      record {
        legal = (
          ordered_kept v.seen w.seen looked.1.1 w.first w.number false 1 w.first commands (map mark_of rows) run.ordered,
          true_kept v.seen w.seen looked.1.1 o w.first commands rows run.told,
        );
        mine = looked.1.2 ∙ run.mine;
        looks =
            grew_front [] w.looks (row_looks false rows) []
            (grew_more [] v.looks w.looks (row_looks false rows) (if begun_after false rows then [] else held.number ∷ []) looked.0 [] run.looks looked.1.0 tt);
      })

-- a session whose seat, version and count are these has answered what it had
pub ran_still : (s : Seated) (seat : Sitting Entry Design) (held : Option Versioned) (answered : ℕ) → s.seat ≡ seat → s.held ≡ held → s.answered ≡ answered
    → Remains (HasAnswered s) (RanAt seat.view held answered)
ran_still s seat held answered is_seat is_held is_answered = λ before above ran.
    subst (λ (n : ℕ). RanAt seat.view held n before above) is_answered
    (subst (λ (h : Option Versioned). RanAt seat.view h s.answered before above) is_held
    (subst (λ (x : Sitting Entry Design). RanAt x.view s.held s.answered before above) is_seat ran))

-- the version that was taken out of a session
pub taken_is : {A : Type 0} (value : A → Versioned) (inside got : Option A) (one : A) (held : Option Versioned)
    → held ≡ option_map value inside → got ≡ inside → got ≡ Some one → held ≡ Some (value one)
taken_is value inside got one held is same some = is ∙ ap (option_map value) (sym same ∙ some)

-- what runs on from what stays runs on
pub runs_on : (Ran Ran0 Ran' : List Command → List Row → Type 0) (c : Command) (r : Result Row Unanswered) → Remains Ran Ran0 → Runs Ran0 Ran' c r → Runs Ran Ran' c r
runs_on Ran Ran0 Ran' c (Ok row) stays runs = λ before above ran. runs before above (stays before above ran)
runs_on Ran Ran0 Ran' c (Err no_memory) stays runs = λ before above ran. runs before above (stays before above ran)
runs_on Ran Ran0 Ran' c (Err no_number) stays runs = (
  (λ before above ran. runs.0 before above (stays before above ran)),
  (λ before above ran. runs.1 before above (stays before above ran)),
)

pub answered_run : (s : Seated) (commands : List Command) (rows : List Row) → HasAnswered s commands rows → HasRun s.seat.view commands rows
answered_run s commands rows h = has_run s.seat.view s.held s.answered commands rows h

-- a seat that stays the same, twice
pub same_twice : (a b c : Sitting Entry Design) → IsSame a b → IsSame b c → IsSame a c
same_twice a b c h k = (k.0 ∙ h.0, k.1 ∙ h.1, k.2 ∙ h.2, k.3 ∙ h.3)
