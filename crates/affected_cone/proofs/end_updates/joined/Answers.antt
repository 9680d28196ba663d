use Rattle.std.proofs.Common.{◌++◌, List, ap, subst, ◌∙◌}
use Rattle.affected_cone.specs.declared.ends.EndSlacks.{EndSlacks}
use Rattle.affected_cone.specs.Cuts.{IsInOrder}
use Rattle.affected_cone.proofs.SearchLaws.{ok_more}
use Rattle.affected_cone.proofs.end_updates.joined.Goals as goal

pub returns-in-Ok : goal.returns-in-Ok
returns-in-Ok c =
    ok_more c.in_order.result
    (λ sorted h.
    subst (λ (all : List EndSlacks). IsInOrder all sorted) (c.in-Ok.ensures ∙ ap (λ (es : List EndSlacks). es ++ c.args.found.now) c.in_ok-all.ensures) h)
    c.in_order.ensures
