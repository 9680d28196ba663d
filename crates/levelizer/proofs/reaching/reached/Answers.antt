use Rattle.std.proofs.Common.{◌≡◌, ◌<◌, length, get_or, ap, ◌∙◌, arith}
use Rattle.std.specs.Vec.{with_items}
use Rattle.std.proofs.lemmas.List.{with_items_is}
use Rattle.levelizer.proofs.Places.{room_there, room_holds}
use Rattle.levelizer.proofs.Reach.{next_marked, reaching_more, reaching_all, heads_within}
use Rattle.levelizer.proofs.reaching.reached.Goals as goal

pub heads-heads-requires-clause-node : goal.heads-heads-requires-clause-node
heads-heads-requires-clause-node c =
    let low : c.loop-done.done < length c.loop-done.queue = omega (arith, c.len.ensures) in
    let is : get_or c.as_slice.result.now c.loop-done.done 0 ≡ get_or c.loop-done.queue c.loop-done.done 0 = ap (λ xs. get_or xs c.loop-done.done 0) c.as_slice.ensures in
    let next = next_marked c.args.n c.args.arcs.now c.args.first.now c.loop-done.marks.items c.loop-done.queue c.loop-done.done _ c.loop-done.invariant low is in
    (room_there c.args.n c.args.arcs.now c.in_ok-fan.fan.starts c.in_ok-fan.fan.heads.items c.in_ok-fan.ensures _ next.1).0

pub heads-heads-requires-clause-rising : goal.heads-heads-requires-clause-rising
heads-heads-requires-clause-rising c =
    let low : c.loop-done.done < length c.loop-done.queue = omega (arith, c.len.ensures) in
    let is : get_or c.as_slice.result.now c.loop-done.done 0 ≡ get_or c.loop-done.queue c.loop-done.done 0 = ap (λ xs. get_or xs c.loop-done.done 0) c.as_slice.ensures in
    let next = next_marked c.args.n c.args.arcs.now c.args.first.now c.loop-done.marks.items c.loop-done.queue c.loop-done.done _ c.loop-done.invariant low is in
    (room_there c.args.n c.args.arcs.now c.in_ok-fan.fan.starts c.in_ok-fan.fan.heads.items c.in_ok-fan.ensures _ next.1).1

pub heads-heads-requires-clause-within : goal.heads-heads-requires-clause-within
heads-heads-requires-clause-within c =
    let low : c.loop-done.done < length c.loop-done.queue = omega (arith, c.len.ensures) in
    let is : get_or c.as_slice.result.now c.loop-done.done 0 ≡ get_or c.loop-done.queue c.loop-done.done 0 = ap (λ xs. get_or xs c.loop-done.done 0) c.as_slice.ensures in
    let next = next_marked c.args.n c.args.arcs.now c.args.first.now c.loop-done.marks.items c.loop-done.queue c.loop-done.done _ c.loop-done.invariant low is in
    let there = room_there c.args.n c.args.arcs.now c.in_ok-fan.fan.starts c.in_ok-fan.fan.heads.items c.in_ok-fan.ensures _ next.1 in
    omega (arith, there.2)

pub mark_all-requires-in-loop-done-clause-nodes : goal.mark_all-requires-in-loop-done-clause-nodes
mark_all-requires-in-loop-done-clause-nodes c =
    let low : c.loop-done.done < length c.loop-done.queue = omega (arith, c.len.ensures) in
    let is : get_or c.as_slice.result.now c.loop-done.done 0 ≡ get_or c.loop-done.queue c.loop-done.done 0 = ap (λ xs. get_or xs c.loop-done.done 0) c.as_slice.ensures in
    let next = next_marked c.args.n c.args.arcs.now c.args.first.now c.loop-done.marks.items c.loop-done.queue c.loop-done.done _ c.loop-done.invariant low is in
    let heads = c.heads-heads.ensures ∙ room_holds c.args.n c.args.arcs.now c.in_ok-fan.fan.starts c.in_ok-fan.fan.heads.items c.in_ok-fan.ensures _ next.1 in
    λ k d l.
    let within = heads_within c.args.n c.args.arcs.now (get_or c.as_slice.result.now c.loop-done.done 0) c.heads-heads.result.now c.requires.within heads k d l in
    omega (arith, within, ap length c.deref_mut-in-loop-done.ensures.value, c.loop-done.invariant.long)

pub loop-done-preserved : goal.loop-done-preserved
loop-done-preserved c =
    let low : c.loop-done.done < length c.loop-done.queue = omega (arith, c.len.ensures) in
    let is : get_or c.as_slice.result.now c.loop-done.done 0 ≡ get_or c.loop-done.queue c.loop-done.done 0 = ap (λ xs. get_or xs c.loop-done.done 0) c.as_slice.ensures in
    let next = next_marked c.args.n c.args.arcs.now c.args.first.now c.loop-done.marks.items c.loop-done.queue c.loop-done.done _ c.loop-done.invariant low is in
    let heads = c.heads-heads.ensures ∙ room_holds c.args.n c.args.arcs.now c.in_ok-fan.fan.starts c.in_ok-fan.fan.heads.items c.in_ok-fan.ensures _ next.1 in
    let long : length c.mark_all-in-loop-done.new.marks ≡ length c.loop-done.marks.items = c.mark_all-in-loop-done.auto.marks ∙ ap length c.deref_mut-in-loop-done.ensures.value in
    let marks_is : (with_items c.loop-done.marks c.mark_all-in-loop-done.new.marks).items ≡ c.mark_all-in-loop-done.new.marks =
    with_items_is c.loop-done.marks c.mark_all-in-loop-done.new.marks (omega (arith, long)) in
    rw marks_is
    (reaching_more c.args.n c.args.arcs.now c.args.first.now c.loop-done.marks.items c.mark_all-in-loop-done.new.marks c.loop-done.queue c.mark_all-in-loop-done.new.queue
    c.heads-heads.result.now c.loop-done.done (get_or c.as_slice.result.now c.loop-done.done 0) c.loop-done.invariant low is heads long
    (rw c.deref_mut-in-loop-done.ensures.value at c.in_ok-mark_all-2.ensures))

pub returns : goal.returns
returns c =
    rw c.from_vec.ensures
    (reaching_all c.args.n c.args.arcs.now c.args.first.now c.loop-done.marks.items c.loop-done.queue c.loop-done.done c.loop-done.invariant (omega (arith, c.len.ensures)))
