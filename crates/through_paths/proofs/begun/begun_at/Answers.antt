use Rattle.std.proofs.Common.{◌∙◌}
use Rattle.path_search.specs.Ranks.{places_before}
use Rattle.through_paths.proofs.BegunLaws.{begun_by}
use Rattle.through_paths.proofs.begun.begun_at.Goals as goal

pub returns : goal.returns
returns c =
    begun_by (places_before c.args.order.now.graph.now c.args.order.now.nodes.now) c.args.order.now.nodes.now c.args.wanted.now c.args.place c.pass_all-passed.result c.next_pass.result c.as_slice.result.now
    (c.as_slice.ensures ∙ c.in_ok-before.ensures.value) c.pass_all-passed.ensures.value c.next_pass.ensures.value
