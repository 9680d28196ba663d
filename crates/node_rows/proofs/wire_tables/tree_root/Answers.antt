use Rattle.std.proofs.Common.{sym, ◌∙◌}
use Rattle.node_rows.proofs.TreeSteps.{some_root, tree_net}
use Rattle.node_rows.proofs.wire_tables.tree_root.Goals as goal

pub unreachable-requires : goal.unreachable-requires
unreachable-requires c =
    some_root c.args.store.now c.laws.ensures.numbered c.laws.ensures.linked c.args.net c.args.rc.now c.args.pins.now c.requires.sound c.requires.rc c.requires.on
    (sym c.driver_of.ensures ∙ c.in-None.is)

pub returns : goal.returns
returns c =
    tree_net c.args.store.now c.laws.ensures.numbered c.laws.ensures.linked c.args.net c.args.rc.now c.args.pins.now c.requires.sound c.requires.rc c.requires.on
    c.in-Some.root (sym c.driver_of.ensures ∙ c.in-Some.is) c.requires.ress
