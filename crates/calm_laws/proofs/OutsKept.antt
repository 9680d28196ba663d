-- The arcs out of a node that is no seed, and that leads to none in either design, are those of the base.

use Rattle.std.proofs.Common.{◌≡◌, ℕ, Bool, true, false, List, [], map, filter, Option, None, Some, refl, sym, ap, subst, ◌∙◌, inl, inr}
use Rattle.std.specs.Prelude.{Contains, ◌&&◌}
use Rattle.std.specs.List.{list_any, flat_map}
use Rattle.std.specs.Option.{option_map_or, option_to_list}
use Rattle.std.specs.Str.{bytes_eq}
use Rattle.std.proofs.lemmas.Bool.{cases_Bool, true≢false, false≢true, and_parts, and_from}
use Rattle.std.proofs.lemmas.List.Elements.{Contains-append_cases, Contains-append_right}
use Rattle.timing_defs.specs.declared.kinds.Split.TheVariants.{Late}
use Rattle.timing_defs.specs.declared.library.CellPin.{CellPin}
use Rattle.timing_defs.specs.declared.netlist.Inst.{Inst}
use Rattle.timing_defs.specs.declared.design.Design.{Design}
use Rattle.timing_defs.specs.Netlist.{Pin, Node, name_of, same_tran, port_pin, cell_pin, cell_pins, cell_of, inst_pins, pins, nodes, net_of, is_on, is_driver, driver}
use Rattle.timing_rules.specs.Clocking.{driver_on}
use Rattle.timing_rules.specs.Rows.{arcs_in, row}
use Rattle.timing_defs.specs.RowTimes.{slew_in}
use Rattle.timing_rules.specs.Required.{arcs_out}
use Rattle.timing_rules.specs.Paths.{named, same_named}
use Rattle.timing_defs.specs.Touches.{Touch}
use Rattle.timing_rules.specs.Cones.{is_seed, led_to_before, leads_to_seed}
use Rattle.timing_defs.proofs.SameNames.{same_is, same_self}
use Rattle.timing_defs.proofs.Members.{some_is, in_cases, none_in, in_map, in_map_back, in_flat_map, in_flat_map_back, in_filter, kept_in, any_in, found_passes}
use Rattle.netlist_store.specs.Linked.{IsLinked}
use Rattle.netlist_store.specs.Numbering.{Stored}
use Rattle.netlist_store.specs.Applying.{IsEditOf}
use Rattle.netlist_store.proofs.SeenPins.{seen}
use Rattle.node_rows.proofs.MergeLaws.{AreMatched}
use Rattle.eco_laws.proofs.EditOf.{base_linked, edited_linked}
use Rattle.calm_laws.proofs.Calm.{AreAlike, IsArcPair, IsCalm}
use Rattle.calm_laws.proofs.PairLaws.{pair_of, pair_from}
use Rattle.calm_laws.proofs.AlikeLaws.{twin_of, owner_same, name_same, cell_same}
use Rattle.calm_laws.proofs.CellNodes.{key_node, inst_keys, leads, enters, into_output, into_port, into_sink}
use Rattle.calm_laws.proofs.ArcsKept.{arcs_kept}
use Rattle.calm_laws.proofs.CalmStep.{delay_kept}
use Rattle.calm_laws.proofs.KnownCells.{owner_within}
use Rattle.calm_laws.proofs.InDesign.{self_tran, node_within, pin_within, one_node, from_within, out_in, in_out}
use Rattle.calm_laws.proofs.NoSeeds.{either_none}
use Rattle.calm_laws.proofs.NoSeedCalm.{HasCalm, no_seed_calm}
use Rattle.calm_laws.proofs.Forward.{alike_base}
use Rattle.calm_laws.proofs.BackStep.{IsOutPair}

none_at : {X : Type 0} (p : X → Bool) (xs : List X) (x : X) → list_any p xs ≡ false → Contains xs x → p x ≡ false
none_at p xs x none c = elim (cases_Bool (p x)) [
  | inl e ↦ absurd (true≢false (sym (any_in p xs x c e) ∙ none))
  | inr e ↦ e
]

and_right : (a b : Bool) → b ≡ true → (a && b) ≡ false → a ≡ false
and_right true b h e = absurd (true≢false (sym h ∙ e))
and_right false b h e = refl

-- the pin of the cell that a pin of an instance is
own_pin : (d : Design) (inst : Inst) (pin : Pin) → Contains (pins d) pin → pin.owner ≡ Some inst
    → (p : CellPin) × (Contains (cell_pins (cell_of d Late inst)) p × (cell_pin inst p ≡ pin))
own_pin d inst pin c e = elim (Contains-append_cases (map port_pin d.ports) (flat_map (inst_pins d) d.insts) pin c) [
  | inl h ↦
      let m = in_map_back port_pin d.ports pin h in
      let f : None ≡ Some inst = ap (λ (q : Pin). q.owner) m.same ∙ e in
      absurd (cc)
  | inr h ↦
      let a = in_flat_map_back (inst_pins d) d.insts pin h in
      let m = in_map_back (cell_pin a.item) (cell_pins (cell_of d Late a.item)) pin a.inside in
      let f : a.item ≡ inst = some_is (ap (λ (q : Pin). q.owner) m.same ∙ e) in
      (m.item, (subst (λ (j : Inst). Contains (cell_pins (cell_of d Late j)) m.item) f m.within, ap (λ (j : Inst). cell_pin j m.item) (sym f) ∙ m.same))
]

module _ (base : Stored) (touch : Touch) (edited : Stored) (made : IsEditOf base touch edited) where
  abbrev d : Design
  d = base.design

  abbrev d2 : Design
  d2 = edited.design

  was_linked : IsLinked d
  was_linked = base_linked base touch edited made

  now_linked : IsLinked d2
  now_linked = edited_linked base touch edited made

  module _ (n2 : Node) (there : Contains (pins d2) n2.pin) (has : HasCalm d d2 n2) where
    abbrev n : Node
    n = has.node

    alike : AreAlike n n2
    alike = has.calm.kept.alike

    -- a node that the base's node leads to is in the edited design
    record IsThere (to : Node) : Type 0 where
      node : Node
      within : Contains (pins d2) node.pin
      same : AreAlike to node

    on_cell : (to : Node) → Contains (pins d) to.pin → (inst : Inst) → to.pin.owner ≡ Some inst → n.pin.owner ≡ Some inst → IsThere to
    on_cell to c inst e f =
        let twin = twin_of n.pin.owner n2.pin.owner (owner_same n n2 alike) inst f in
        let own = own_pin d inst to.pin c e in
        let p = own.0 in
        let listed : Contains (cell_pins (cell_of d2 Late twin.twin)) p = subst (λ o. Contains (cell_pins o) p) (cell_same d d2 has.calm.framed Late inst twin.twin twin.cell) own.1.0 in
        let inside : Contains (inst_pins d2 twin.twin) (cell_pin twin.twin p) = in_map (cell_pin twin.twin) (cell_pins (cell_of d2 Late twin.twin)) p listed in
        record {
          node = record { pin = cell_pin twin.twin p; tran = to.tran };
          within =
              Contains-append_right (map port_pin d2.ports) (flat_map (inst_pins d2) d2.insts) (cell_pin twin.twin p)
              (in_flat_map (inst_pins d2) d2.insts twin.twin (cell_pin twin.twin p) (owner_within d2 now_linked n2.pin twin.twin there twin.owner) inside);
          same = record {
            pin = (λ k. record { owner = Some (twin.name k, twin.cell k); own = p.name; dir = p.dir }) ∙ ap seen own.1.1;
            tran = refl;
          };
        }

    on_net : (to : Node) → Contains (pins d) to.pin → (net : List ℕ) → net_of to.pin ≡ Some net → net_of n.pin ≡ Some net → IsThere to
    on_net to c net e f =
        let on : is_on net to.pin ≡ true = ap (λ o. option_map_or (bytes_eq net) o false) e ∙ same_self net in
        let old : Contains (map seen (filter (is_on net) (pins d))) (seen to.pin) =
        in_map seen (filter (is_on net) (pins d)) to.pin (in_filter (is_on net) (pins d) to.pin c on) in
        let new : Contains (map seen (filter (is_on net) (pins d2))) (seen to.pin) = subst (λ xs. Contains xs (seen to.pin)) (sym (has.left net f).seen) old in
        let m = in_map_back seen (filter (is_on net) (pins d2)) (seen to.pin) new in
        record {
          node = record { pin = m.item; tran = to.tran };
          within = kept_in (is_on net) (pins d2) m.item m.within;
          same = record { pin = m.same; tran = refl };
        }

    -- an arc into a node leads from its instance or its net
    still_there : (to : Node) → Contains (pins d) to.pin → Contains (arcs_in d to) n → IsThere to
    still_there to c arc = elim (cases_Bool (is_driver to.pin)) [
      | inl e ↦ by_owner e to.pin.owner refl
      | inr e ↦ by_net e (net_of to.pin) refl
    ]
      where
        by_owner : is_driver to.pin ≡ true → (o : Option Inst) → to.pin.owner ≡ o → IsThere to
        by_owner e None f = absurd (none_in n (subst (λ xs. Contains xs n) (into_port d to e f) arc))
        by_owner e (Some inst) f =
            let k = subst (λ xs. Contains xs n) (into_output d to inst e f) arc in
            let m = in_map_back (key_node inst) (inst_keys d inst) n (kept_in (λ from. leads d to from && enters d to from) (map (key_node inst) (inst_keys d inst)) n k) in
            on_cell to c inst f (ap (λ (x : Node). x.pin.owner) (sym m.same))

        by_net : is_driver to.pin ≡ false → (o : Option (List ℕ)) → net_of to.pin ≡ o → IsThere to
        by_net e o f =
            let k = kept_in (enters d to) (map (λ (pin : Pin). record { pin = pin; tran = to.tran }) (driver_on d (net_of to.pin))) n
            (subst (λ xs. Contains xs n) (into_sink d to e) arc) in
            let m = in_map_back (λ (pin : Pin). record { pin = pin; tran = to.tran }) (driver_on d (net_of to.pin)) n k in
            by o f (subst (λ net. Contains (driver_on d net) n.pin) f
            (subst (λ (p : Pin). Contains (driver_on d (net_of to.pin)) p) (ap (λ (x : Node). x.pin) m.same) m.within))
          where
            by : (net : Option (List ℕ)) → net_of to.pin ≡ net → Contains (driver_on d net) n.pin → IsThere to
            by None g h = absurd (none_in n.pin h)
            by (Some net) g h = drives (driver d net) refl h
              where
                drives : (p : Option Pin) → driver d net ≡ p → Contains (option_to_list p) n.pin → IsThere to
                drives None i j = absurd (none_in n.pin j)
                drives (Some q) i j = elim (in_cases q [] n.pin j) [
                  | inl same ↦
                      let passes = and_parts (is_driver n.pin) (is_on net n.pin) (ap (λ (p : Pin). is_driver p && is_on net p) (sym same) ∙ found_passes (λ pin. is_driver pin && is_on net pin) (pins d) q i) in
                      on_net to c net g (joined (net_of n.pin) passes.1)
                  | inr none ↦ absurd (none_in n.pin none)
                ]
                  where
                    joined : (o : Option (List ℕ)) → option_map_or (bytes_eq net) o false ≡ true → o ≡ Some net
                    joined None x = absurd (false≢true x)
                    joined (Some m) x = ap Some (sym (same_is net m x))

    -- where it leads to no seed
    module _ (leads_none : leads_to_seed d d2 touch n2 ≡ false) where
      parts : (list_any (is_seed d d2 touch) (arcs_out d2 n2) ≡ false) × (list_any (λ to. is_seed d d2 touch to && led_to_before d n2 to) (nodes d2) ≡ false)
      parts = either_none (list_any (is_seed d d2 touch) (arcs_out d2 n2)) (list_any (λ to. is_seed d d2 touch to && led_to_before d n2 to) (nodes d2)) leads_none

      -- an arc of the edited design is one of the base
      from_new : (to2 : Node) → Contains (arcs_out d2 n2) to2 → (to : Node) × (Contains (arcs_out d n) to × (IsCalm d d2 to to2 × IsArcPair d d2 to to2 n n2))
      from_new to2 c =
          let o = out_in d2 now_linked n2 to2 there c in
          let h = no_seed_calm base touch edited made to2 (pin_within d2 to2 o.0) (none_at (is_seed d d2 touch) (arcs_out d2 n2) to2 parts.0 c) in
          let p = pair_of (IsArcPair d d2 h.node to2) (arcs_in d h.node) (arcs_in d2 to2) (arcs_kept d d2 h.node to2 h.calm) n2 o.1 in
          let within = from_within d was_linked h.node h.within p.0 p.1.0 in
          let same : p.0 ≡ n =
          one_node d was_linked p.0 n within has.within (name_same p.0 n2 p.1.1.alike ∙ sym (name_same n n2 alike)) (sym p.1.1.alike.tran ∙ alike.tran) in
          let pair : IsArcPair d d2 h.node to2 n n2 = subst (λ x. IsArcPair d d2 h.node to2 x n2) same p.1.1 in
          (h.node, (in_out d was_linked n h.node (node_within d h.node h.within) pair.before, (h.calm, pair)))

      -- and the other way round
      module _ (to : Node) (c : Contains (arcs_out d n) to) (t : IsThere to) where
        named_there : same_named (named to) (named t.node) ≡ true
        named_there =
            and_from (bytes_eq (name_of to.pin) (name_of t.node.pin)) (same_tran to.tran t.node.tran)
            (ap (bytes_eq (name_of to.pin)) (sym (name_same to t.node t.same)) ∙ same_self (name_of to.pin))
            (ap (same_tran to.tran) t.same.tran ∙ self_tran to.tran)

        led : led_to_before d n2 t.node ≡ true
        led =
            ap (λ o. option_map_or (λ before. list_any (λ next. same_named (named next) (named t.node)) (arcs_out d before)) o false) has.told
            ∙ any_in (λ next. same_named (named next) (named t.node)) (arcs_out d n) to c named_there

        no_seed_there : is_seed d d2 touch t.node ≡ false
        no_seed_there =
            and_right (is_seed d d2 touch t.node) (led_to_before d n2 t.node) led
            (none_at (λ x. is_seed d d2 touch x && led_to_before d n2 x) (nodes d2) t.node parts.1 (node_within d2 t.node t.within))

        at_base : Contains (pins d) to.pin
        at_base = pin_within d to (out_in d was_linked n to has.within c).0

        calm_there : IsCalm d d2 to t.node
        calm_there =
            let h = no_seed_calm base touch edited made t.node t.within no_seed_there in
            subst (λ x. IsCalm d d2 x t.node) (alike_base base touch edited made to t.node at_base t.same h.node h.told) h.calm

        pair_there : IsArcPair d d2 to t.node n n2
        pair_there =
            let p = pair_from (IsArcPair d d2 to t.node) (arcs_in d to) (arcs_in d2 t.node) (arcs_kept d d2 to t.node calm_there) n (out_in d was_linked n to has.within c).1 in
            subst (λ x. IsArcPair d d2 to t.node n x)
            (one_node d2 now_linked p.0 n2 (from_within d2 now_linked t.node t.within p.0 p.1.0) there
            (sym (name_same n p.0 p.1.1.alike) ∙ name_same n n2 alike) (p.1.1.alike.tran ∙ sym alike.tran)) p.1.1

      from_old : (to : Node) → Contains (arcs_out d n) to → (to2 : Node) × (Contains (arcs_out d2 n2) to2 × (IsCalm d d2 to to2 × IsArcPair d d2 to to2 n n2))
      from_old to c =
          let o = out_in d was_linked n to has.within c in
          let t = still_there to (pin_within d to o.0) o.1 in
          let pair = pair_there to c t in
          (t.node, (in_out d2 now_linked n2 t.node (node_within d2 t.node t.within) pair.after, (calm_there to c t, pair)))

      -- the arcs out, with their delays where the row is the same
      pub outs_kept : row d n ≡ row d2 n2 → AreMatched (arcs_out d n) (arcs_out d2 n2) (IsOutPair d d2 n n2)
      outs_kept rows = record {
        there = λ to c. (let r = from_old to c in (r.0, r.1.0, pair_out to r.0 c r.1.0 r.1.1.0 r.1.1.1));
        back = λ to2 c. (let r = from_new to2 c in (r.0, r.1.0, pair_out r.0 to2 r.1.0 c r.1.1.0 r.1.1.1));
      }
        where
          pair_out : (to to2 : Node) → Contains (arcs_out d n) to → Contains (arcs_out d2 n2) to2 → IsCalm d d2 to to2 → IsArcPair d d2 to to2 n n2
              → IsOutPair d d2 n n2 to to2
          pair_out to to2 c c2 calm pair = record {
            before = c;
            after = c2;
            alike = calm.kept.alike;
            delays = λ split. delay_kept d d2 to to2 calm n n2 pair split (row d n) (row d2 n2) (ap (slew_in split) rows);
          }
