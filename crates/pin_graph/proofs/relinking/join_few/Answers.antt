use Rattle.std.proofs.Common.{◌≡◌, ◌<◌, ◌∙◌, ℕ, List, length, get_or, refl, sym, subst}
use Rattle.std.proofs.lemmas.List.{get_or_default}
use Rattle.pin_graph.specs.declared.arcs.GraphArc.{GraphArc}
use Rattle.pin_graph.specs.NodeArcs.{none_arc}
use Rattle.pin_graph.proofs.MergeLaws.{ok_map, joined_place, added_place}
use Rattle.pin_graph.proofs.relinking.join_few.Goals as goal

pub returns-in-Some : goal.returns-in-Some
returns-in-Some c =
    let h = subst (λ (xs : List GraphArc). (c.in-Some.place < length xs) × ((get_or xs c.in-Some.place none_arc).from ≡ c.args.arc.from)) c.as_slice.ensures.value c.in-Some.ensures.found in
    joined_place c.args.arcs.now.items c.args.arc c.index.result.now c.joined_arc.result c.in-Some.place h
    (get_or_default c.args.arcs.now.items c.in-Some.place none_arc c.index.result.now h.0 ∙ sym c.index.ensures) c.joined_arc.ensures

pub returns-in-None : goal.returns-in-None
returns-in-None c =
    ok_map c.push_arc.result
    (λ put. added_place c.args.arcs.now.items c.push_arc.new.arcs.items c.args.arc
    (subst (λ (xs : List GraphArc). (k : ℕ) → k < length xs → (get_or xs k none_arc).from ≡ c.args.arc.from → ⊥) c.as_slice.ensures.value (c.in-None.ensures.none refl)) put)
    c.push_arc.ensures
