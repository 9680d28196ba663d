use Rattle.std.proofs.Common.{◌≡◌, ◌++◌, ◌∙◌, List, ℕ, take, drop, sym, ap}
use Rattle.timing_rules.specs.Checks.{is_loop}
use Rattle.pin_graph.proofs.LoopLaws.{nodes_are, turned_loop, turned_ok}
use Rattle.pin_graph.proofs.loops.loop_of.Goals as goal

pub names_of-requires : goal.names_of-requires
names_of-requires c = nodes_are c.args.store.now c.laws.ensures.numbered c.laws.ensures.linked c.args.nodes.now c.requires

pub returns : goal.returns
returns c =
    let same : c.as_slice-2.result.now ≡ c.as_slice.result.now = c.as_slice-2.ensures ∙ sym c.as_slice.ensures in
    turned_ok c.from_place.result c.args.store.now.design
    (drop c.least_place-place.result c.as_slice-2.result.now ++ take c.least_place-place.result c.as_slice-2.result.now)
    (ap (λ (ns : List (List ℕ)). is_loop c.args.store.now.design (drop c.least_place-place.result ns ++ take c.least_place-place.result ns)) same
    ∙ turned_loop c.args.store.now c.laws.ensures.numbered c.laws.ensures.linked c.args.nodes.now c.as_slice.result.now c.least_place-place.result
    c.requires (c.as_slice.ensures ∙ c.in_ok-names.ensures) c.least_place-place.ensures.within c.least_place-place.ensures.least)
    c.from_place.ensures
