use Rattle.std.proofs.Common.{◌∙◌, nat_lt, ap}
use Rattle.timing_defs.specs.NetChecks.{nodes_of_rc}
use Rattle.design_link.specs.Nodes.{nodes_in}
use Rattle.design_link.proofs.NodeLaws.{different_same}
use Rattle.design_link.proofs.net_nodes.is_large.Goals as goal

pub returns : goal.returns
returns c =
    ap (nat_lt 65535) (c.len.ensures ∙ different_same (nodes_in c.in_ok-nodes.nodes) (nodes_of_rc c.args.store.now.design c.args.rc.now) c.in_ok-nodes.ensures)
