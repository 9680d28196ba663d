use Rattle.std.proofs.Common.{◌++◌, ◌∙◌}
use Rattle.pin_graph.proofs.NodesAfter.{dirty_are}
use Rattle.pin_graph.proofs.replacing.dirty_pins.Goals as goal

pub returns : goal.returns
returns c =
    dirty_are c.args.base.now c.args.store.now (record { insts = c.args.touched.now.insts; nets = c.args.touched.now.nets }) c.in_ok-pins.pins c.in_ok-gone.gone c.add_all.new.numbers c.distinct.result
    c.in_ok-pins.ensures.each c.in_ok-gone.ensures (c.in_ok-add_all.ensures ∙ (λ k. c.in_ok-pins.pins ++ c.as_slice.ensures k)) c.distinct.ensures.same
    c.laws.ensures.numbered c.laws.ensures.linked c.laws-2.ensures.numbered c.laws-2.ensures.linked c.requires.longer
