use Rattle.std.proofs.Common.{sym, ◌∙◌}
use Rattle.timing_rules.specs.Stages.{named_node}
use Rattle.timed_paths.proofs.LaunchLaws.{network_known, network_unknown}
use Rattle.timed_paths.proofs.launches.is_network.Goals as goal

pub returns-in-Some : goal.returns-in-Some
returns-in-Some c =
    c.is_network.ensures
    ∙ network_known c.args.graph.now c.args.store.now c.requires c.laws.ensures.numbered c.laws.ensures.linked c.laws-2.ensures (named_node c.args.node.now) c.in-Some.number
    (sym c.in-Some.is ∙ c.number_of.ensures.value)

pub returns-in-None : goal.returns-in-None
returns-in-None c =
    network_unknown c.args.graph.now c.args.store.now c.requires c.laws.ensures.numbered (named_node c.args.node.now) (sym c.in-None.is ∙ c.number_of.ensures.value)
