use Rattle.std.proofs.Common.{arith}
use Rattle.path_cones.proofs.Growing.{further_among, further_some}
use Rattle.path_cones.proofs.reaching.ends_and.Goals as goal

pub returns-clause-some : goal.returns-clause-some
returns-clause-some c =
    further_some c.args.graph.now c.args.ends.now c.args.nodes.now c.in_ok-found.found.keys c.add_nodes.new.found.keys c.requires.ends c.requires.nodes c.in_ok-found.ensures
    c.in_ok-add_nodes.ensures (let long = c.len.ensures in let few = c.if-len.false in omega (arith, long, few))

pub returns-clause-among : goal.returns-clause-among
returns-clause-among c =
    further_among c.args.graph.now c.args.ends.now c.args.nodes.now c.in_ok-found.found.keys c.add_nodes.new.found.keys c.requires.ends c.requires.nodes c.in_ok-found.ensures
    c.in_ok-add_nodes.ensures
