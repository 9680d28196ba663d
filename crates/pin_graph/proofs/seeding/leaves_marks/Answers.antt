use Rattle.std.proofs.Common.{◌∙◌, sym, ap}
use Rattle.std.specs.List.{list_all}
use Rattle.pin_graph.specs.Seeds.{is_unmarked}
use Rattle.pin_graph.proofs.MarksLeft.{marks_alike}
use Rattle.pin_graph.proofs.seeding.leaves_marks.Goals as goal

pub returns : goal.returns
returns c = λ yes.
    marks_alike c.args.base.now c.args.graph.now (record { insts = c.args.touched.now.insts; nets = c.args.touched.now.nets }) c.requires.made c.kept.ensures.numbered c.kept-2.ensures.numbered
    c.kept.ensures.kept c.kept-2.ensures.kept c.args.pins.now c.in_ok-gone.gone c.requires.pins c.in_ok-gone.ensures
    (sym c.are_unmarked.ensures ∙ c.if-not-are_unmarked.false)
    (sym (ap (list_all (is_unmarked c.args.base.now c.args.graph.now)) c.as_slice.ensures) ∙ sym c.are_unmarked-2.ensures ∙ yes)
