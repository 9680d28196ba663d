use Rattle.std.proofs.Common.{◌∙◌, ap, sym, inr, Option, List, ℕ}
use Rattle.std.specs.Prelude.{option_map}
use Rattle.timing_defs.specs.declared.faults.Fault.TheVariants.{RcNotTree}
use Rattle.design_link.proofs.checks.check_trees.Goals as goal

pub returns-in-Some : goal.returns-in-Some
returns-in-Some c = inr (ap (λ (o : Option (List ℕ)). option_map RcNotTree o) (sym (c.in_ok-least.ensures) ∙ c.in-Some.is))

pub returns-in-None : goal.returns-in-None
returns-in-None c = ap (λ (o : Option (List ℕ)). option_map RcNotTree o) (sym (c.in_ok-least.ensures) ∙ c.in-None.is)
