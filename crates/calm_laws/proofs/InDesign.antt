-- Arcs between nodes of a linked design: they lead from nodes of the design, and those into a node are those out of another.

use Rattle.std.proofs.Common.{◌≡◌, ℕ, zero, suc, ◌<◌, true, List, [], map, length, Option, None, Some, refl, sym, ap, subst, ◌∙◌, inl, inr, arith}
use Rattle.std.specs.Prelude.{Contains, ◌-◌, find, ◌&&◌, if◌then◌else◌}
use Rattle.std.specs.List.{list_any, flat_map}
use Rattle.std.specs.Option.{option_map_or, option_to_list}
use Rattle.std.specs.Str.{bytes_eq}
use Rattle.std.proofs.lemmas.Bool.{cases_Bool, and_parts, and_from}
use Rattle.std.proofs.lemmas.List.Elements.{Contains-append_right}
use Rattle.timing_defs.specs.declared.kinds.Tran.{Tran}
use Rattle.timing_defs.specs.declared.kinds.Tran.TheVariants.{Rise, Fall}
use Rattle.timing_defs.specs.declared.netlist.Inst.{Inst}
use Rattle.timing_defs.specs.declared.design.Design.{Design}
use Rattle.timing_defs.specs.Netlist.{Pin, Node, name_of, same_node, same_pin, same_tran, port_pin, inst_pins, pins, both_nodes, nodes, net_of, is_on, is_driver, driver}
use Rattle.timing_rules.specs.Clocking.{driver_on}
use Rattle.timing_rules.specs.Rows.{arcs_in, all_arcs_in, cell_arcs_in, net_arcs_in}
use Rattle.timing_rules.specs.Required.{arcs_out}
use Rattle.timing_rules.proofs.RowLaws.{ArePlacedNodes, AreHighNodes}
use Rattle.timing_defs.proofs.SameNames.{same_is, same_self}
use Rattle.timing_defs.proofs.Members.{some_is, none_in, in_map_back, in_flat_map, in_flat_map_back, in_filter, kept_in, passes_in, any_in, any_back, found_in, found_by}
use Rattle.netlist_store.specs.Linked.{IsLinked}
use Rattle.store_pins.proofs.PinNames.{pins_apart}
use Rattle.calm_laws.proofs.CellNodes.{tran_is, leads, enters}
use Rattle.calm_laws.proofs.KnownCells.{owner_within}

pub self_tran : (t : Tran) → same_tran t t ≡ true
self_tran Rise = refl
self_tran Fall = refl

of_both : (pin : Pin) (n : Node) → Contains (both_nodes pin) n → n.pin ≡ pin
of_both pin n (zero, low, is) = ap (λ (m : Node). m.pin) (sym is)
of_both pin n (suc zero, low, is) = ap (λ (m : Node). m.pin) (sym is)
of_both pin n (suc (suc i), low, is) = absurd (omega (arith, low))

both_in : (pin : Pin) (t : Tran) → Contains (both_nodes pin) (record { pin = pin; tran = t })
both_in pin Rise = (0, omega arith, refl)
both_in pin Fall = (1, omega arith, refl)

module _ (d : Design) where
  pub node_within : (n : Node) → Contains (pins d) n.pin → Contains (nodes d) n
  node_within n c = in_flat_map both_nodes (pins d) n.pin n c (both_in n.pin n.tran)

  pub pin_within : (n : Node) → Contains (nodes d) n → Contains (pins d) n.pin
  pin_within n c =
      let p = in_flat_map_back both_nodes (pins d) n c in
      subst (λ (q : Pin). Contains (pins d) q) (sym (of_both p.item n p.inside)) p.within

module _ (d : Design) (linked : IsLinked d) where
  -- pins and nodes of one name
  pub one_pin : (a b : Pin) → Contains (pins d) a → Contains (pins d) b → name_of a ≡ name_of b → a ≡ b
  one_pin a b ca cb e =
      some_is (sym (found_by name_of (pins d) a (pins_apart d linked) ca) ∙ ap (λ n. find (λ (p : Pin). bytes_eq (name_of p) n) (pins d)) e ∙ found_by name_of (pins d) b (pins_apart d linked) cb)

  pub one_node : (a b : Node) → Contains (pins d) a.pin → Contains (pins d) b.pin → name_of a.pin ≡ name_of b.pin → a.tran ≡ b.tran → a ≡ b
  one_node a b ca cb name tran = let pin = one_pin a.pin b.pin ca cb name in λ k. record { pin = pin k; tran = tran k }

  -- an arc leads from a node of the design
  from_driver : (o : Option (List ℕ)) (p : Pin) → Contains (driver_on d o) p → Contains (pins d) p
  from_driver None p c = absurd (none_in p c)
  from_driver (Some net) p c = by (driver d net) refl c
    where
      by : (o : Option Pin) → driver d net ≡ o → Contains (option_to_list o) p → Contains (pins d) p
      by None e m = absurd (none_in p m)
      by (Some q) e (zero, low, is) = subst (λ (r : Pin). Contains (pins d) r) is (found_in (λ pin. is_driver pin && is_on net pin) (pins d) q e)
      by (Some q) e (suc i, low, is) = absurd (omega (arith, low))

  from_inst : (to : Node) (inst : Inst) → Contains d.insts inst → (from : Node) → Contains (cell_arcs_in d to inst) from → Contains (pins d) from.pin
  from_inst to inst there from c =
      let m = kept_in (leads d to) (flat_map both_nodes (inst_pins d inst)) from c in
      let r = in_flat_map_back both_nodes (inst_pins d inst) from m in
      subst (λ (p : Pin). Contains (pins d) p) (sym (of_both r.item from r.inside))
      (Contains-append_right (map port_pin d.ports) (flat_map (inst_pins d) d.insts) r.item (in_flat_map (inst_pins d) d.insts inst r.item there r.within))

  pub from_within : (to : Node) → Contains (pins d) to.pin → (from : Node) → Contains (arcs_in d to) from → Contains (pins d) from.pin
  unfolding arcs_in
  from_within to there from c =
      let all = kept_in (enters d to) (all_arcs_in d to) from c in
      elim (cases_Bool (is_driver to.pin)) [
        | inl e ↦ by to.pin.owner refl
            (subst (λ (xs : List Node). Contains xs from) (ap (λ b. if b then option_map_or (cell_arcs_in d to) to.pin.owner [] else net_arcs_in d to) e) all)
        | inr e ↦
            let m = in_map_back (λ (pin : Pin). record { pin = pin; tran = to.tran }) (driver_on d (net_of to.pin)) from
            (subst (λ (xs : List Node). Contains xs from) (ap (λ b. if b then option_map_or (cell_arcs_in d to) to.pin.owner [] else net_arcs_in d to) e) all) in
            subst (λ (p : Pin). Contains (pins d) p) (ap (λ (n : Node). n.pin) m.same) (from_driver (net_of to.pin) m.item m.within)
      ]
    where
      by : (o : Option Inst) → to.pin.owner ≡ o → Contains (option_map_or (cell_arcs_in d to) o []) from → Contains (pins d) from.pin
      by None e m = absurd (none_in from m)
      by (Some inst) e m = from_inst to inst (owner_within d linked to.pin inst there e) from m

  -- an arc out of a node is one into another, and back
  pub out_in : (n to : Node) → Contains (pins d) n.pin → Contains (arcs_out d n) to → Contains (nodes d) to × Contains (arcs_in d to) n
  out_in n to there c =
      let m = kept_in (λ t. list_any (same_node n) (arcs_in d t)) (nodes d) to c in
      let r = any_back (same_node n) (arcs_in d to) (passes_in (λ t. list_any (same_node n) (arcs_in d t)) (nodes d) to c) in
      let parts = and_parts (same_pin n.pin r.item.pin) (same_tran n.tran r.item.tran) r.passes in
      let same = one_node n r.item there (from_within to (pin_within d to m) r.item r.within) (same_is (name_of n.pin) (name_of r.item.pin) parts.0) (tran_is n.tran r.item.tran parts.1) in
      (m, subst (λ (x : Node). Contains (arcs_in d to) x) (sym same) r.within)

  pub in_out : (n to : Node) → Contains (nodes d) to → Contains (arcs_in d to) n → Contains (arcs_out d n) to
  in_out n to there c =
      in_filter (λ x. list_any (same_node n) (arcs_in d x)) (nodes d) to there
      (any_in (same_node n) (arcs_in d to) n c (and_from (same_pin n.pin n.pin) (same_tran n.tran n.tran) (same_self (name_of n.pin)) (self_tran n.tran)))

-- places that rise along the arcs between nodes of a design
pub record ArePlaces (d : Design) (place : Node → ℕ) : Type 0 where
  pub rising : (to : Node) → Contains (pins d) to.pin → (from : Node) → Contains (arcs_in d to) from → place from < place to
  pub short : (n : Node) → Contains (pins d) n.pin → place n < length (nodes d)

module _ (d : Design) (linked : IsLinked d) (place : Node → ℕ) (places : ArePlaces d place) where
  pub placed_nodes : ArePlacedNodes d (λ n. Contains (pins d) n.pin) place
  placed_nodes = record {
    closed = from_within d linked;
    rising = places.rising;
    low = λ n c. (let low = places.short n c in omega (arith, low));
  }

  abbrev pub height_of : Node → ℕ
  height_of n = length (nodes d) - place n

  pub high_nodes : AreHighNodes d (λ n. Contains (pins d) n.pin) height_of
  high_nodes = record {
    closed = λ n c to out. (pin_within d to (out_in d linked n to c out).0);
    rising = λ n c to out.
        (let o = out_in d linked n to c out in
        let there = pin_within d to o.0 in
        let up = places.rising to there n o.1 in
        let low = places.short to there in
        omega (arith, up, low));
    low = λ n c. (omega arith);
  }
