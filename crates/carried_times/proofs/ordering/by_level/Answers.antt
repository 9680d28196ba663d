use Rattle.std.proofs.Common.{[], map, ap, ◌∙◌}
use Rattle.std.specs.Prelude.{nat_eq}
use Rattle.std.proofs.lemmas.Result.{IfOk-weaker}
use Rattle.indexmap.specs.IndexSet.{insert_all}
use Rattle.carried_times.specs.Ordered.{node_of}
use Rattle.carried_times.proofs.Orderings.{sorted_same}
use Rattle.carried_times.proofs.ordering.by_level.Goals as goal

pub returns : goal.returns
returns c =
    IfOk-weaker c.set_of.result _ _
    (λ new put.
    sorted_same c.args.graph.now c.args.nodes.now c.into_vec-leveled.result.items c.sort_leveled.new.nodes.items new.keys
    (c.into_vec-leveled.ensures ∙ c.in_ok-with_levels.ensures)
    c.sort_leveled.ensures
    (put ∙ ap (λ ls. insert_all nat_eq [] (map node_of ls)) c.as_slice.ensures.value))
    c.set_of.ensures
