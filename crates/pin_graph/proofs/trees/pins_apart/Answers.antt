use Rattle.std.proofs.Common.{◌≡◌, ◌<◌, ◌∙◌, length, get_or, take, ap, arith}
use Rattle.std.specs.Vec.{with_items}
use Rattle.std.proofs.lemmas.List.{take_more, with_items_is}
use Rattle.timing_defs.specs.declared.kinds.ArcKind.TheVariants.{Comb}
use Rattle.timing_defs.specs.declared.kinds.Tran.TheVariants.{Rise}
use Rattle.pin_graph.specs.declared.pin_arcs.PinArc.{PinArc}
use Rattle.pin_graph.proofs.TreeLaws.{noted_more}
use Rattle.pin_graph.proofs.trees.pins_apart.Goals as goal

pub loop-arc-preserved : goal.loop-arc-preserved
loop-arc-preserved c =
    let d : PinArc = record { from = 0; from_tran = Rise; to = 0; to_tran = Rise; kind = Comb } in
    let within = c.requires c.loop-arc.arc-index d c.loop-arc-test.true in
    let long : length c.note.new.entries ≡ length c.loop-arc.entries.items = c.note.auto.entries ∙ ap length c.deref_mut.ensures.value in
    let is : (with_items c.loop-arc.entries c.note.new.entries).items ≡ c.note.new.entries = with_items_is c.loop-arc.entries c.note.new.entries (omega (arith, long)) in
    let low : (get_or c.args.arcs.now c.loop-arc.arc-index d).to < length c.loop-arc.entries.items = omega (arith, within.1, c.loop-arc.invariant.long) in
    rw (is, take_more c.args.arcs.now c.loop-arc.arc-index d c.loop-arc-test.true)
    (noted_more c.args.network.now (take c.loop-arc.arc-index c.args.arcs.now) (get_or c.args.arcs.now c.loop-arc.arc-index d) c.loop-arc.entries.items c.loop-arc.apart
    c.loop-arc.invariant c.note.new.entries c.note.new.apart low
    (rw c.deref_mut.ensures.value at c.in_ok-note.ensures.entries) (rw c.deref_mut.ensures.value at c.in_ok-note.ensures.apart))
