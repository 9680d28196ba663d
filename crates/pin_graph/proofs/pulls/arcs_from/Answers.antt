use Rattle.std.proofs.Common.{◌≡◌, ◌∙◌, ◌==◌, List, filter, sym, ap, subst}
use Rattle.std.specs.Prelude.{IfOk}
use Rattle.pin_graph.specs.declared.pin_arcs.PinArc.{PinArc}
use Rattle.pin_graph.proofs.PullLaws.{from_is}
use Rattle.pin_graph.proofs.pulls.arcs_from.Goals as goal

pub returns : goal.returns
returns c =
    subst (λ (xs : List PinArc). IfOk c.arcs_out.result (λ found. found ≡ xs))
    (ap (filter (λ arc. arc.from == c.args.pin)) (c.as_slice.ensures ∙ c.in_ok-arcs.ensures)
    ∙ sym (from_is c.args.store.now c.laws.ensures.numbered c.laws.ensures.linked c.args.pin)) c.arcs_out.ensures
