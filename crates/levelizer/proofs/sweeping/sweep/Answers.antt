use Rattle.std.proofs.Common.{◌≡◌, ◌+◌, ◌<◌, length, get_or, replicate, ap, ◌∙◌, inl, inr, arith}
use Rattle.std.specs.Vec.{with_items}
use Rattle.std.proofs.lemmas.Bool.{cases_lt}
use Rattle.std.proofs.lemmas.List.{get_or_read, get_or_past, get_or-replicate, with_items_is}
use Rattle.levelizer.proofs.Places.{room_there, room_holds}
use Rattle.levelizer.proofs.Sweeps.{next_node, queue_short, fan_waits, fan_within, sweep-none, sweep-more, sweep-all}
use Rattle.levelizer.proofs.sweeping.sweep.Goals as goal

pub loop-done-init : goal.loop-done-init
loop-done-init c =
    let zeros : c.in_ok-levels.levels.items ≡ replicate c.args.n 0 = c.in_ok-levels.ensures.items_if_clones_equal (λ y e. e) in
    sweep-none c.args.n c.args.arcs.now c.in_ok-queue.queue c.in_ok-levels.levels.items c.in_ok-waiting.waiting.items
    (omega (arith, c.in_ok-levels.ensures.len)) (omega (arith, c.in_ok-waiting.ensures.len))
    (λ m. elim (cases_lt m c.args.n) [
      | inl low ↦ ap (λ xs. get_or xs m 0) zeros ∙ get_or-replicate c.args.n m 0 0 low
      | inr high ↦ get_or_past c.in_ok-levels.levels.items m 0 (omega (arith, c.in_ok-levels.ensures.len))
    ]) c.in_ok-waiting.ensures.each
    (rw c.as_slice.ensures.value at c.in_ok-queue.ensures)

pub index-requires : goal.index-requires
index-requires c =
    let low : c.loop-done.done < length c.loop-done.queue = omega (arith, c.len.ensures) in
    let is : get_or c.as_slice-in-loop-done.result.now c.loop-done.done 0 ≡ get_or c.loop-done.queue c.loop-done.done 0 = ap (λ xs. get_or xs c.loop-done.done 0) c.as_slice-in-loop-done.ensures in
    let next = next_node c.args.n c.args.arcs.now c.loop-done.done c.loop-done.queue c.loop-done.levels.items c.loop-done.waiting.items _ c.loop-done.invariant low is in
    omega (arith, next.0, c.loop-done.invariant.levels_long)

pub overflow_add-next : goal.overflow_add-next
overflow_add-next c =
    let low : c.loop-done.done < length c.loop-done.queue = omega (arith, c.len.ensures) in
    let is : get_or c.as_slice-in-loop-done.result.now c.loop-done.done 0 ≡ get_or c.loop-done.queue c.loop-done.done 0 = ap (λ xs. get_or xs c.loop-done.done 0) c.as_slice-in-loop-done.ensures in
    let next = next_node c.args.n c.args.arcs.now c.loop-done.done c.loop-done.queue c.loop-done.levels.items c.loop-done.waiting.items _ c.loop-done.invariant low is in
    let read : c.index.result.now ≡ get_or c.loop-done.levels.items (get_or c.as_slice-in-loop-done.result.now c.loop-done.done 0) 0 =
    get_or_read c.loop-done.levels.items (get_or c.as_slice-in-loop-done.result.now c.loop-done.done 0) c.index.result.now (omega (arith, next.0, c.loop-done.invariant.levels_long)) c.index.ensures 0 in
    omega (arith, next.2, c.ranges.n)

pub heads-heads-requires-clause-node : goal.heads-heads-requires-clause-node
heads-heads-requires-clause-node c =
    let low : c.loop-done.done < length c.loop-done.queue = omega (arith, c.len.ensures) in
    let is : get_or c.as_slice-in-loop-done.result.now c.loop-done.done 0 ≡ get_or c.loop-done.queue c.loop-done.done 0 = ap (λ xs. get_or xs c.loop-done.done 0) c.as_slice-in-loop-done.ensures in
    let next = next_node c.args.n c.args.arcs.now c.loop-done.done c.loop-done.queue c.loop-done.levels.items c.loop-done.waiting.items _ c.loop-done.invariant low is in
    (room_there c.args.n c.args.arcs.now c.in_ok-fan.fan.starts c.in_ok-fan.fan.heads.items c.in_ok-fan.ensures _ next.0).0

pub heads-heads-requires-clause-rising : goal.heads-heads-requires-clause-rising
heads-heads-requires-clause-rising c =
    let low : c.loop-done.done < length c.loop-done.queue = omega (arith, c.len.ensures) in
    let is : get_or c.as_slice-in-loop-done.result.now c.loop-done.done 0 ≡ get_or c.loop-done.queue c.loop-done.done 0 = ap (λ xs. get_or xs c.loop-done.done 0) c.as_slice-in-loop-done.ensures in
    let next = next_node c.args.n c.args.arcs.now c.loop-done.done c.loop-done.queue c.loop-done.levels.items c.loop-done.waiting.items _ c.loop-done.invariant low is in
    (room_there c.args.n c.args.arcs.now c.in_ok-fan.fan.starts c.in_ok-fan.fan.heads.items c.in_ok-fan.ensures _ next.0).1

pub heads-heads-requires-clause-within : goal.heads-heads-requires-clause-within
heads-heads-requires-clause-within c =
    let low : c.loop-done.done < length c.loop-done.queue = omega (arith, c.len.ensures) in
    let is : get_or c.as_slice-in-loop-done.result.now c.loop-done.done 0 ≡ get_or c.loop-done.queue c.loop-done.done 0 = ap (λ xs. get_or xs c.loop-done.done 0) c.as_slice-in-loop-done.ensures in
    let next = next_node c.args.n c.args.arcs.now c.loop-done.done c.loop-done.queue c.loop-done.levels.items c.loop-done.waiting.items _ c.loop-done.invariant low is in
    let there = room_there c.args.n c.args.arcs.now c.in_ok-fan.fan.starts c.in_ok-fan.fan.heads.items c.in_ok-fan.ensures _ next.0 in
    omega (arith, there.2)

pub raise-requires : goal.raise-requires
raise-requires c =
    let low : c.loop-done.done < length c.loop-done.queue = omega (arith, c.len.ensures) in
    let is : get_or c.as_slice-in-loop-done.result.now c.loop-done.done 0 ≡ get_or c.loop-done.queue c.loop-done.done 0 = ap (λ xs. get_or xs c.loop-done.done 0) c.as_slice-in-loop-done.ensures in
    let next = next_node c.args.n c.args.arcs.now c.loop-done.done c.loop-done.queue c.loop-done.levels.items c.loop-done.waiting.items _ c.loop-done.invariant low is in
    let heads = c.heads-heads.ensures ∙ room_holds c.args.n c.args.arcs.now c.in_ok-fan.fan.starts c.in_ok-fan.fan.heads.items c.in_ok-fan.ensures _ next.0 in
    λ k d l.
    let within = fan_within c.heads-heads.result.now c.loop-done.waiting.items
    (rw heads (fan_waits c.args.n c.args.arcs.now c.loop-done.done c.loop-done.queue c.loop-done.levels.items c.loop-done.waiting.items _ c.requires c.loop-done.invariant next.1)) k d l in
    omega (arith, within, c.deref_mut.ensures.len, c.loop-done.invariant.levels_long, c.loop-done.invariant.waiting_long)

pub free-requires : goal.free-requires
free-requires c =
    let low : c.loop-done.done < length c.loop-done.queue = omega (arith, c.len.ensures) in
    let is : get_or c.as_slice-in-loop-done.result.now c.loop-done.done 0 ≡ get_or c.loop-done.queue c.loop-done.done 0 = ap (λ xs. get_or xs c.loop-done.done 0) c.as_slice-in-loop-done.ensures in
    let next = next_node c.args.n c.args.arcs.now c.loop-done.done c.loop-done.queue c.loop-done.levels.items c.loop-done.waiting.items _ c.loop-done.invariant low is in
    let heads = c.heads-heads.ensures ∙ room_holds c.args.n c.args.arcs.now c.in_ok-fan.fan.starts c.in_ok-fan.fan.heads.items c.in_ok-fan.ensures _ next.0 in
    rw (heads, c.deref_mut-in-loop-done.ensures.value) (fan_waits c.args.n c.args.arcs.now c.loop-done.done c.loop-done.queue c.loop-done.levels.items c.loop-done.waiting.items _ c.requires c.loop-done.invariant next.1)

pub loop-done-smaller : goal.loop-done-smaller
loop-done-smaller c =
    let short = queue_short c.args.n c.args.arcs.now c.loop-done.done c.loop-done.queue c.loop-done.levels.items c.loop-done.waiting.items c.loop-done.invariant in
    omega (arith, c.len.ensures)

pub loop-done-preserved : goal.loop-done-preserved
loop-done-preserved c =
    let low : c.loop-done.done < length c.loop-done.queue = omega (arith, c.len.ensures) in
    let is : get_or c.as_slice-in-loop-done.result.now c.loop-done.done 0 ≡ get_or c.loop-done.queue c.loop-done.done 0 = ap (λ xs. get_or xs c.loop-done.done 0) c.as_slice-in-loop-done.ensures in
    let next = next_node c.args.n c.args.arcs.now c.loop-done.done c.loop-done.queue c.loop-done.levels.items c.loop-done.waiting.items _ c.loop-done.invariant low is in
    let heads = c.heads-heads.ensures ∙ room_holds c.args.n c.args.arcs.now c.in_ok-fan.fan.starts c.in_ok-fan.fan.heads.items c.in_ok-fan.ensures _ next.0 in
    let read : c.index.result.now ≡ get_or c.loop-done.levels.items (get_or c.as_slice-in-loop-done.result.now c.loop-done.done 0) 0 =
    get_or_read c.loop-done.levels.items (get_or c.as_slice-in-loop-done.result.now c.loop-done.done 0) c.index.result.now (omega (arith, next.0, c.loop-done.invariant.levels_long)) c.index.ensures 0 in
    let levels_long : length c.raise.new.levels ≡ length c.loop-done.levels.items = c.raise.auto.levels ∙ ap length c.deref_mut.ensures.value in
    let waiting_long : length c.free.new.waiting ≡ length c.loop-done.waiting.items = c.free.auto.waiting ∙ ap length c.deref_mut-in-loop-done.ensures.value in
    let levels_is : (with_items c.loop-done.levels c.raise.new.levels).items ≡ c.raise.new.levels = with_items_is c.loop-done.levels c.raise.new.levels (omega (arith, levels_long)) in
    let waiting_is : (with_items c.loop-done.waiting c.free.new.waiting).items ≡ c.free.new.waiting = with_items_is c.loop-done.waiting c.free.new.waiting (omega (arith, waiting_long)) in
    rw (levels_is, waiting_is)
    (sweep-more c.args.n c.args.arcs.now c.loop-done.done c.loop-done.queue c.free.new.queue c.loop-done.levels.items c.raise.new.levels
    c.loop-done.waiting.items c.free.new.waiting c.heads-heads.result.now (get_or c.as_slice-in-loop-done.result.now c.loop-done.done 0) (c.index.result.now + 1) 0
    c.loop-done.invariant low is heads (ap (λ k. k + 1) read) levels_long waiting_long
    (rw c.deref_mut.ensures.value at c.raise.ensures)
    (rw c.deref_mut-in-loop-done.ensures.value at c.in_ok-free.ensures.waiting)
    (rw c.deref_mut-in-loop-done.ensures.value at c.in_ok-free.ensures.queue)
    c.in_ok-free.ensures.kept c.in_ok-free.ensures.grown)

pub returns : goal.returns
returns c =
    sweep-all c.args.n c.args.arcs.now c.loop-done.done c.loop-done.queue c.loop-done.levels.items c.loop-done.waiting.items c.requires
    c.loop-done.invariant (omega (arith, c.len.ensures))
