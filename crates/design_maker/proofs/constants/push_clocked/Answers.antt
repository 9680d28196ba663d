use Rattle.std.proofs.Common.{◌∙◌, codes}
use Rattle.std.proofs.lemmas.Result.{on_ok_weaker}
use Rattle.design_maker.specs.Constants.{clocked_head}
use Rattle.design_maker.proofs.Steps.{four}
use Rattle.design_maker.proofs.constants.push_clocked.Goals as goal

pub returns : goal.returns
unfolding clocked_head
returns c =
    on_ok_weaker c.push-3.result
    (λ e. e ∙ rw (c.in_ok-push-2.ensures, c.in_ok-push.ensures)
    (four c.args.out.now.items (codes "timing () { related_pin : \"CK\"; timing_type : ") c.args.sort.now (codes ";\n")))
    c.push-3.ensures
