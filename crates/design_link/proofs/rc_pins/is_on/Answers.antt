use Rattle.std.proofs.Common.{ap, false}
use Rattle.std.specs.Prelude.{nat_eq}
use Rattle.std.specs.Option.{option_map_or}
use Rattle.design_link.proofs.rc_pins.is_on.Goals as goal

pub returns-in-Some : goal.returns-in-Some
returns-in-Some c = ap (λ o. option_map_or (nat_eq c.args.net) o false) c.in-Some.ensures.value

pub returns-in-None : goal.returns-in-None
returns-in-None c = ap (λ o. option_map_or (nat_eq c.args.net) o false) c.in-None.ensures.value
