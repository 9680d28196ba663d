use Rattle.std.proofs.Common.{rules, ◌<◌, length}
use Rattle.rc_tree.proofs.Linking.{listed_none, listed_more, listed_a, listed_b}
use Rattle.rc_tree.proofs.links.own_links.Goals as goal

pub loop-index-init : goal.loop-index-init
loop-index-init c = listed_none c.args.segments.now c.args.count c.in_ok-links.links.items c.in_ok-links.ensures.len c.in_ok-links.ensures.none

pub add_segment-requires-clause-a : goal.add_segment-requires-clause-a
add_segment-requires-clause-a c =
    let low : c.loop-index.index < length c.args.segments.now = search rules in
    listed_a c.args.segments.now c.args.count c.loop-index.index c.loop-index.links.items c.segment_at.result c.requires low c.loop-index.invariant c.segment_at.ensures

pub add_segment-requires-clause-b : goal.add_segment-requires-clause-b
add_segment-requires-clause-b c =
    let low : c.loop-index.index < length c.args.segments.now = search rules in
    listed_b c.args.segments.now c.args.count c.loop-index.index c.loop-index.links.items c.segment_at.result c.requires low c.loop-index.invariant c.segment_at.ensures

pub loop-index-preserved : goal.loop-index-preserved
loop-index-preserved c =
    let low : c.loop-index.index < length c.args.segments.now = search rules in
    listed_more c.args.segments.now c.args.count c.loop-index.index c.loop-index.links.items c.in_ok-links-2.links.items c.segment_at.result c.requires low c.loop-index.invariant c.segment_at.ensures c.in_ok-links-2.ensures.added
