use Rattle.std.proofs.Common.{◌≡◌, ◌<◌, ◌==◌, get_or, take, length, arith}
use Rattle.std.proofs.lemmas.List.{get_or_read, length-take}
use Rattle.std.proofs.lemmas.List.Sums.{count_by-le-length}
use Rattle.levelizer.specs.declared.links.Link.{Link}
use Rattle.levelizer.proofs.sweeping.in_counts.Goals as goal

pub overflow_add-index_mut : goal.overflow_add-index_mut
overflow_add-index_mut c =
    let arc : Link = get_or c.args.arcs.now c.loop-arc.arc-index (record { from = 0; to = 0 }) in
    let within = c.requires c.loop-arc.arc-index (record { from = 0; to = 0 }) c.loop-arc-test.true in
    let low : arc.to < length c.loop-arc.counts.items = omega (arith, within.1, c.loop-arc.invariant.long) in
    let read : c.index_mut.result.now ≡ get_or c.loop-arc.counts.items arc.to 0 =
    get_or_read c.loop-arc.counts.items arc.to c.index_mut.result.now low c.index_mut.ensures.value 0 in
    let count = c.loop-arc.invariant.each arc.to in
    let few = count_by-le-length (λ (a : Link). a.to == arc.to) (take c.loop-arc.arc-index c.args.arcs.now) in
    let long = length-take c.loop-arc.arc-index c.args.arcs.now in
    omega arith
