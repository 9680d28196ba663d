use Rattle.std.proofs.Common.{[], map, ap, ◌∙◌}
use Rattle.std.specs.Prelude.{nat_eq}
use Rattle.std.proofs.lemmas.Result.{IfOk-weaker}
use Rattle.indexmap.specs.IndexSet.{insert_all}
use Rattle.path_cones.specs.Reaching.{leveled_at, node_of}
use Rattle.path_cones.proofs.Orders.{ordered_again, same_again}
use Rattle.path_cones.proofs.leveling.by_level.Goals as goal

pub returns-clause-ordered : goal.returns-clause-ordered
returns-clause-ordered c =
    IfOk-weaker c.set_of.result _ _
    (λ new put.
    ordered_again c.args.graph.now c.args.ends.now c.args.nodes.now.keys c.into_vec-leveled.result.items c.sort_leveled.new.nodes.items new.keys
    c.requires c.as_slice.ensures.unique
    (c.into_vec-leveled.ensures ∙ c.in_ok-with_depths.ensures ∙ ap (map (leveled_at c.args.graph.now)) c.as_slice.ensures.keys)
    c.sort_leveled.ensures.same c.sort_leveled.ensures.falling
    (put ∙ ap (λ ls. insert_all nat_eq [] (map node_of ls)) c.as_slice-2.ensures.value))
    c.set_of.ensures

pub returns-clause-same : goal.returns-clause-same
returns-clause-same c =
    IfOk-weaker c.set_of.result _ _
    (λ new put.
    same_again c.args.graph.now c.args.ends.now c.args.nodes.now.keys c.into_vec-leveled.result.items c.sort_leveled.new.nodes.items new.keys
    c.requires c.as_slice.ensures.unique
    (c.into_vec-leveled.ensures ∙ c.in_ok-with_depths.ensures ∙ ap (map (leveled_at c.args.graph.now)) c.as_slice.ensures.keys)
    c.sort_leveled.ensures.same c.sort_leveled.ensures.falling
    (put ∙ ap (λ ls. insert_all nat_eq [] (map node_of ls)) c.as_slice-2.ensures.value))
    c.set_of.ensures
