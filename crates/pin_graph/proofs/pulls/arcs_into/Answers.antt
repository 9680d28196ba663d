use Rattle.std.proofs.Common.{◌≡◌, ◌∙◌, ◌==◌, List, filter, sym, ap, subst}
use Rattle.std.specs.Prelude.{IfOk}
use Rattle.pin_graph.specs.declared.pin_arcs.PinArc.{PinArc}
use Rattle.pin_graph.proofs.PullLaws.{into_is}
use Rattle.pin_graph.proofs.pulls.arcs_into.Goals as goal

pub returns : goal.returns
returns c =
    subst (λ (xs : List PinArc). IfOk c.arcs_to.result (λ found. found ≡ xs))
    (ap (filter (λ arc. arc.to == c.args.pin)) (c.as_slice.ensures ∙ c.in_ok-arcs.ensures)
    ∙ sym (into_is c.args.store.now c.laws.ensures.numbered c.laws.ensures.linked c.args.pin)) c.arcs_to.ensures
