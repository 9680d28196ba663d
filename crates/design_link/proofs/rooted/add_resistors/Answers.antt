use Rattle.std.proofs.Common.{◌∷◌, [], List}
use Rattle.std.specs.List.{filter_map, flat_map}
use Rattle.timing_defs.specs.declared.parasitics.RcRes.{RcRes}
use Rattle.design_link.specs.Rooted.{bare_pin}
use Rattle.design_link.proofs.DanglingLaws.{grown}
use Rattle.design_link.proofs.RootedLaws.{ends_both}
use Rattle.design_link.proofs.rooted.add_resistors.Goals as goal

pub loop-resistor-preserved : goal.loop-resistor-preserved
loop-resistor-preserved c =
    grown (λ (xs : List RcRes). filter_map bare_pin (flat_map (λ r. r.a ∷ r.b ∷ []) xs)) ends_both c.args.pins.now c.loop-resistor.pins c.add_ends.new.pins c.args.ress.now
    c.loop-resistor.resistor-index c.resistor-item.result c.loop-resistor-test.true c.resistor-item.is c.loop-resistor.invariant c.in_ok-add_ends.ensures
