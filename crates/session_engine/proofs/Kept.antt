-- What holds over a beginning of a journal holds over the whole.

use Rattle.std.proofs.Common.{ℕ, Bool, List, subst}
use mathlib.Core.List.{IsPrefix}
use Rattle.timing_defs.specs.declared.design.Design.{Design}
use Rattle.timing_defs.specs.declared.edits.Entry.{Entry}
use Rattle.timing_defs.specs.declared.scripts.Command.{Command}
use Rattle.timing_defs.specs.declared.scripts.Script.{Script}
use Rattle.timing_defs.specs.declared.scripts.Row.{Row}
use Rattle.timing_defs.specs.declared.scripts.Transcript.{Transcript}
use Rattle.timing_rules.specs.Sessions.{Mark, OrderedFrom, AreTrue, Legal}
use Rattle.timing_rules.proofs.LongerJournals.{ordered_longer, true_longer, legal_longer}

module _ (J L : List Entry) (p : IsPrefix J L) where
  pub ordered_kept : (first session : ℕ) (begun : Bool) (place before : ℕ) (commands : List Command) (marks : List Mark)
      → OrderedFrom J first session begun place before commands marks → OrderedFrom L first session begun place before commands marks
  ordered_kept first session begun place before commands marks h =
      subst (λ K. OrderedFrom K first session begun place before commands marks) p.1 (ordered_longer J p.0 first session begun place before commands marks h)

  pub true_kept : (origin : Design) (first : ℕ) (commands : List Command) (rows : List Row) → AreTrue origin J first commands rows → AreTrue origin L first commands rows
  true_kept origin first commands rows h =
      subst (λ K. AreTrue origin K first commands rows) p.1 (true_longer J p.0 origin first commands rows h)

  -- what is legal over what a session has seen is legal over the whole journal
  pub legal_kept : (origin : Design) (first session : ℕ) (script : Script) (t : Transcript) → Legal origin J first session script t → Legal origin L first session script t
  legal_kept origin first session script t h =
      subst (λ K. Legal origin K first session script t) p.1 (legal_longer J p.0 origin first session script t h)
