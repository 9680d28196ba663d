use Rattle.path_cones.proofs.ConeParts.{among_again}
use Rattle.path_cones.proofs.fans.fan_among.Goals as goal

pub returns-clause-among : goal.returns-clause-among
returns-clause-among c = among_again c.in_ok-found.found.keys c.args.nodes.now c.cone_of.result c.in_ok-found.ensures.among c.cone_of.ensures.same
