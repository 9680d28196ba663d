use Rattle.std.proofs.Common.{◌∙◌, codes}
use Rattle.std.proofs.lemmas.Result.{on_ok_weaker}
use Rattle.design_maker.specs.Constants.{output_head, arc_text, gate_output}
use Rattle.design_maker.proofs.Steps.{five}
use Rattle.design_maker.proofs.constants.push_gate_output.Goals as goal

pub returns : goal.returns
unfolding gate_output
returns c =
    on_ok_weaker c.push-2.result
    (λ e. e ∙ rw (c.in_ok-push_arc.ensures, c.in_ok-push.ensures, c.in_ok-push_output_head.ensures)
    (five c.args.out.now.items (output_head (codes "Z")) (codes "timing () { related_pin : \"A B\"; timing_sense : positive_unate;\n")
    (arc_text (codes "ld") c.args.delay.now c.args.slew.now) (codes "}\n}\n")))
    c.push-2.ensures
