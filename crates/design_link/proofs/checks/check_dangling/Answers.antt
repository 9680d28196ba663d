use Rattle.std.proofs.Common.{◌∙◌, ap, sym, inr, Option, List, ℕ}
use Rattle.std.specs.Prelude.{option_map}
use Rattle.timing_defs.specs.declared.faults.Fault.TheVariants.{ConstraintDangling}
use Rattle.timing_defs.specs.NetChecks.{least}
use Rattle.design_link.proofs.checks.check_dangling.Goals as goal

pub returns-in-Some : goal.returns-in-Some
returns-in-Some c =
    inr (ap (λ (o : Option (List ℕ)). option_map ConstraintDangling o)
    (sym (c.in_ok-least.ensures ∙ ap least c.as_slice.ensures ∙ c.in_ok-names.ensures) ∙ c.in-Some.is))

pub returns : goal.returns
returns c =
    ap (λ (o : Option (List ℕ)). option_map ConstraintDangling o)
    (sym (c.in_ok-least.ensures ∙ ap least c.as_slice.ensures ∙ c.in_ok-names.ensures) ∙ c.in-None.is)
