use Rattle.std.specs.List.{filter_map}
use Rattle.std.proofs.lemmas.List.Elements.{filter_map-append}
use Rattle.timing_rules.specs.Checks.{dangling_object}
use Rattle.design_link.proofs.DanglingLaws.{grown}
use Rattle.design_link.proofs.objects.add_list.Goals as goal

pub loop-object-preserved : goal.loop-object-preserved
loop-object-preserved c =
    grown (filter_map (dangling_object c.args.store.now.design c.args.dir)) (filter_map-append (dangling_object c.args.store.now.design c.args.dir))
    c.args.names.now c.loop-object.names c.add_object.new.names c.args.objects.now c.loop-object.object-index c.object-item.result c.loop-object-test.true c.object-item.is
    c.loop-object.invariant c.in_ok-add_object.ensures
