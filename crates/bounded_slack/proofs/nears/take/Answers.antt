use Rattle.std.proofs.Common.{◌∙◌}
use Rattle.bounded_slack.specs.Cuts.{sum_at}
use Rattle.bounded_slack.proofs.Nearing.{near_taken}
use Rattle.bounded_slack.proofs.nears.take.Goals as goal

pub arcs_into-requires : goal.arcs_into-requires
arcs_into-requires g c = c.requires.searching.front.0.low

pub spread-requires-clause-net : goal.spread-requires-clause-net
spread-requires-clause-net g c = c.requires.net.shape

pub spread-requires-clause-held : goal.spread-requires-clause-held
spread-requires-clause-held g c = c.requires.searching.front.0

pub spread-requires-clause-arcs : goal.spread-requires-clause-arcs
spread-requires-clause-arcs g c = c.as_slice.ensures ∙ c.in_ok-arcs.ensures

pub returns : goal.returns
returns g c =
    near_taken (g.F.Fan.net c.args.fan.now) c.args.bound.most (sum_at c.args.reached.now) (sum_at c.spread.new.reached) c.args.nodes.now c.push.new.self c.args.held c.as_slice.result.now
    c.requires.searching (c.as_slice.ensures ∙ c.in_ok-arcs.ensures) c.in_ok-spread.ensures c.in_ok-push.ensures.ok
