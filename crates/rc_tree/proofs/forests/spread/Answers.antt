use Rattle.std.proofs.Common.{rules, ◌<◌, length, get_or, [], ap, subst, ◌∙◌}
use Rattle.rc_tree.specs.Loops.{AreVisited}
use Rattle.rc_tree.specs.declared.forests.Row.{Row}
use Rattle.rc_tree.proofs.Growing.{spread_more}
use Rattle.rc_tree.proofs.forests.spread.Goals as goal

pub loop-place-preserved : goal.loop-place-preserved
loop-place-preserved c =
    let low : c.loop-place.place < length c.loop-place.all.rows.items = search rules in
    spread_more c.args.segments.now (length c.args.forest.places.items) c.loop-place.place c.args.first c.args.links.now c.args.forest c.loop-place.all c.in_ok-all.all c.requires.links
    low c.loop-place.invariant
    (subst (λ ks. AreVisited c.args.segments.now (length c.loop-place.all.places.items) c.loop-place.place c.args.first ks c.loop-place.all c.in_ok-all.all)
    (c.links_at.ensures ∙ ap (λ (r : Row). get_or c.args.links.now r.node []) c.row_at-node.ensures) c.in_ok-all.ensures.visited)
