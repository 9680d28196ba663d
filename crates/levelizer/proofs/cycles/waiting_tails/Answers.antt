use Rattle.std.proofs.Common.{◌≡◌, length, ap, ◌∙◌, arith}
use Rattle.std.specs.Vec.{with_items}
use Rattle.std.proofs.lemmas.List.{with_items_is}
use Rattle.levelizer.proofs.Walks.{tails-more, tails-all}
use Rattle.levelizer.proofs.cycles.waiting_tails.Goals as goal

pub loop-arc-preserved : goal.loop-arc-preserved
loop-arc-preserved c =
    let long : length c.note_tail.new.tails ≡ length c.loop-arc.tails.items = c.note_tail.auto.tails ∙ ap length c.deref_mut.ensures.value in
    let is : (with_items c.loop-arc.tails c.note_tail.new.tails).items ≡ c.note_tail.new.tails = with_items_is c.loop-arc.tails c.note_tail.new.tails (omega (arith, long)) in
    rw is (tails-more c.args.arcs.now c.args.waiting.now c.loop-arc.tails.items c.note_tail.new.tails c.loop-arc.arc-index (record { from = 0; to = 0 })
    c.loop-arc-test.true long (rw c.deref_mut.ensures.value at c.note_tail.ensures) c.loop-arc.invariant)

pub returns-clause-each : goal.returns-clause-each
returns-clause-each c = tails-all c.args.arcs.now c.args.waiting.now c.loop-arc.tails.items c.loop-arc.arc-index (omega arith) c.loop-arc.invariant
