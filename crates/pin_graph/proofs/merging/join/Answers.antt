use Rattle.std.proofs.Common.{◌∙◌, sym}
use Rattle.std.proofs.lemmas.List.{get_or_default}
use Rattle.pin_graph.specs.NodeArcs.{none_arc}
use Rattle.pin_graph.proofs.MergeLaws.{ok_map, joined_at, added_at}
use Rattle.pin_graph.proofs.merging.join.Goals as goal

pub returns-in-Some-clause-joined : goal.returns-in-Some-clause-joined
returns-in-Some-clause-joined c =
    joined_at c.args.arcs.now.items c.as_slice.result.now c.args.places.now c.args.arc c.index.result.now c.joined_arc.result c.in-Some.place
    c.as_slice.ensures.value c.in-Some.ensures c.requires.noted
    (λ low. get_or_default c.args.arcs.now.items c.in-Some.place none_arc c.index.result.now low ∙ sym c.index.ensures) c.joined_arc.ensures

pub returns-in-None-clause-joined : goal.returns-in-None-clause-joined
returns-in-None-clause-joined c =
    ok_map c.push_arc.result
    (λ put. added_at c.args.arcs.now.items c.push_arc.new.arcs.items c.as_slice.result.now c.args.places.now c.args.arc c.as_slice.ensures.value c.in-None.ensures c.requires.noted put)
    c.push_arc.ensures
