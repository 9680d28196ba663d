use Rattle.std.proofs.Common.{◌∙◌, ◌+◌, ◌++◌, ◌∷◌, codes, decimal}
use Rattle.std.proofs.lemmas.Result.{on_ok_weaker}
use Rattle.design_maker.specs.Draws.{chosen}
use Rattle.design_maker.specs.Sessions.{drawn_cell, resize_text}
use Rattle.design_maker.proofs.Steps.{six}
use Rattle.design_maker.proofs.sessions.push_resize.Goals as goal

pub returns : goal.returns
unfolding resize_text
returns c =
    on_ok_weaker c.push-4.result
    (λ e. e ∙ rw (c.in_ok-push-3.ensures, c.cell_of.ensures, c.in_ok-push-2.ensures, c.in_ok-push_place.ensures, c.choose.ensures.value, c.in_ok-push.ensures)
    (six c.args.out.now.items (codes "repower_gate g") (decimal c.args.lane ++ (95 ∷ decimal (1 + chosen c.args.x c.args.gates))) (codes " ") (drawn_cell c.args.x) (codes "\n")))
    c.push-4.ensures
