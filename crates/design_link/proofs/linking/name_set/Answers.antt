use Rattle.std.proofs.Common.{ap, ◌∙◌}
use Rattle.std.proofs.lemmas.List.{take_all}
use Rattle.timing_defs.specs.Netlist.{is_listed}
use Rattle.design_link.proofs.LinkLaws.{set_more}
use Rattle.design_link.proofs.linking.name_set.Goals as goal

pub loop-name-preserved : goal.loop-name-preserved
loop-name-preserved c =
    set_more c.loop-name.set.keys c.add_name.new.set.keys c.args.names.now c.loop-name.name-index c.name-item.result c.loop-name-test.true c.name-item.is c.loop-name.invariant
    c.in_ok-add_name.ensures

pub returns : goal.returns
returns c = λ q. c.loop-name.invariant q ∙ ap (λ xs. is_listed xs q) (take_all c.loop-name.name-index c.args.names.now c.loop-name-test.false)
