use Rattle.std.proofs.Common.{◌≡◌, ◌<◌, ◌∙◌, List, [], ℕ, true, map, length, get_or, Some, sym, ap, subst}
use Rattle.std.specs.Prelude.{All}
use Rattle.pin_graph.specs.declared.pin_arcs.PinArc.{PinArc}
use Rattle.netlist_store.specs.Numbering.{is_number}
use Rattle.pin_graph.specs.Joins.{pin_arcs}
use Rattle.pin_graph.specs.Loops.{number_name}
use Rattle.pin_graph.specs.Trees.{AreAllApart}
use Rattle.pin_graph.proofs.TreeLaws.{arcs_within, tree_none, tree_least, apart_numbers}
use Rattle.pin_graph.proofs.trees.check_tree.Goals as goal

pub pins_apart-requires : goal.pins_apart-requires
pins_apart-requires c =
    subst (λ (arcs : List PinArc). All (λ a. (a.from < length c.args.network.now) × (a.to < length c.args.network.now)) arcs) (sym c.requires.arcs)
    (arcs_within c.args.store.now c.laws.ensures.numbered c.laws.ensures.linked c.requires.fault c.args.network.now c.requires.network)

pub names_of-requires : goal.names_of-requires
names_of-requires c =
    let all : AreAllApart c.args.network.now (pin_arcs c.args.store.now) c.in_ok-apart.apart =
    subst (λ (arcs : List PinArc). AreAllApart c.args.network.now arcs c.in_ok-apart.apart) c.requires.arcs c.in_ok-apart.ensures in
    subst (λ (ns : List ℕ). All (λ n. is_number c.args.store.now.pins n ≡ true) ns) (sym c.as_slice.ensures)
    (apart_numbers c.args.store.now c.laws.ensures.numbered c.laws.ensures.linked c.requires.fault c.args.network.now c.requires.network c.in_ok-apart.apart all)

pub returns-then-is_empty-clause-ok : goal.returns-then-is_empty-clause-ok
returns-then-is_empty-clause-ok c =
    let all : AreAllApart c.args.network.now (pin_arcs c.args.store.now) c.in_ok-apart.apart =
    subst (λ (arcs : List PinArc). AreAllApart c.args.network.now arcs c.in_ok-apart.apart) c.requires.arcs c.in_ok-apart.ensures in
    tree_none c.args.store.now c.laws.ensures.numbered c.laws.ensures.linked c.requires.fault c.args.network.now c.requires.network c.in_ok-apart.apart all
    c.in_ok-names.names (c.in_ok-names.ensures ∙ ap (map (number_name c.args.store.now)) c.as_slice.ensures) (c.is_empty.ensures.0 c.if-is_empty.true)

pub returns-clause-refused : goal.returns-clause-refused
returns-clause-refused c =
    let all : AreAllApart c.args.network.now (pin_arcs c.args.store.now) c.in_ok-apart.apart =
    subst (λ (arcs : List PinArc). AreAllApart c.args.network.now arcs c.in_ok-apart.apart) c.requires.arcs c.in_ok-apart.ensures in (
      c.requires.no_loop,
      tree_least c.args.store.now c.laws.ensures.numbered c.laws.ensures.linked c.requires.fault c.args.network.now c.requires.network c.in_ok-apart.apart all
          c.as_slice-2.result.now c.least_place-place.result
          (c.as_slice-2.ensures ∙ c.in_ok-names.ensures ∙ ap (map (number_name c.args.store.now)) c.as_slice.ensures)
          c.least_place-place.ensures.within c.least_place-place.ensures.least
          ∙ ap Some (ap (λ (ns : List (List ℕ)). get_or ns c.least_place-place.result []) (c.as_slice-2.ensures ∙ sym c.as_slice-3.ensures) ∙ sym c.in_ok-name.ensures),
    )
