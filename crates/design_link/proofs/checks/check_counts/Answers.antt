use Rattle.std.proofs.Common.{ap, sym, inr}
use Rattle.std.specs.Prelude.{option_map}
use Rattle.timing_defs.specs.declared.faults.Fault.TheVariants.{TooLarge}
use Rattle.design_link.proofs.checks.check_counts.Goals as goal

pub returns-in-Some : goal.returns-in-Some
returns-in-Some c = inr (ap (option_map TooLarge) (sym c.in-Some.ensures))

pub returns-in-None : goal.returns-in-None
returns-in-None c = ap (option_map TooLarge) (sym c.in-None.ensures)
