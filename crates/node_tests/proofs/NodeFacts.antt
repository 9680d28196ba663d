-- The slews of nodes of a design in which no quantity of slews and arrivals leaves its limit.

use Rattle.std.proofs.Common.{◌≡◌, ℕ, pos, Bool, true, false, not, List, Option, None, Some, refl, sym, ap, subst, ◌∙◌, arith}
use Rattle.std.specs.Prelude.{Contains, ◌||◌}
use Rattle.std.specs.Option.{option_map_or}
use Rattle.std.proofs.lemmas.Bool.{true≢false}
use Rattle.sta_units.specs.Numbers.{is_within}
use Rattle.timing_defs.specs.declared.kinds.Split.{Split}
use Rattle.timing_defs.specs.declared.kinds.Split.TheVariants.{Early, Late}
use Rattle.timing_defs.specs.declared.kinds.Tran.{Tran}
use Rattle.timing_defs.specs.declared.kinds.Tran.TheVariants.{Rise, Fall}
use Rattle.timing_defs.specs.declared.parasitics.NetRc.{NetRc}
use Rattle.timing_defs.specs.declared.design.Design.{Design}
use Rattle.timing_defs.specs.Netlist.{Pin, Node, pins, nodes, both_nodes, net_of}
use Rattle.timing_defs.specs.Wires.{net_load, rc_of, sum_of, res_of}
use Rattle.timing_rules.specs.Rows.{slew}
use Rattle.timing_rules.specs.Range.{within_some, either_split, wires_within, net_wires_within, is_large_rc, is_net_origin, is_loaded, fine_slew}
use Rattle.netlist_store.specs.Numbering.{Stored, IsNumbered}
use Rattle.netlist_store.specs.Linked.{IsLinked}
use Rattle.pin_graph.specs.Nodes.{node_number}
use Rattle.pin_graph.specs.Graphs.{Graphed, IsGraph}
use Rattle.pin_graph.specs.RowTables.{AreRowsFine}
use Rattle.timing_defs.proofs.Members.{in_flat_map}
use Rattle.store_pins.proofs.PinLaws.{pin_told}
use Rattle.pin_graph.proofs.JoinLaws.{net_listed}
use Rattle.pin_graph.proofs.GraphRows.{Stands, level, placed}
use Rattle.node_rows.proofs.FineLaws.{fine_slew_is}
use Rattle.node_tests.proofs.FineSlews.{IsCalm, all_fine, slew_within}

either_none : (a b : Bool) → (a || b) ≡ false → (a ≡ false) × (b ≡ false)
either_none false b h = (refl, h)
either_none true b h = absurd (true≢false h)

not_false : (b : Bool) → not b ≡ false → b ≡ true
not_false true h = refl
not_false false h = absurd (true≢false h)

neither : (f : Split → Bool) → either_split f ≡ false → (split : Split) → f split ≡ false
neither f h Early = (either_none (f Early) (f Late) h).0
neither f h Late = (either_none (f Early) (f Late) h).1

both_in : (pin : Pin) (t : Tran) → Contains (both_nodes pin) (record { pin = pin; tran = t })
both_in pin Rise = (0, omega arith, refl)
both_in pin Fall = (1, omega arith, refl)

-- the load of a net, and its wires, are within their limits
net_fine : (d : Design) (net : List ℕ) (split : Split) → is_net_origin d net ≡ false → (is_within (net_load d split net) ≡ true) × (net_wires_within d split (Some net) ≡ true)
net_fine d net split h =
    let parts = either_none (either_split (λ t. not (is_within (net_load d t net)))) (option_map_or (is_large_rc d) (rc_of d net) false) h in
    (not_false (is_within (net_load d split net)) (neither (λ t. not (is_within (net_load d t net))) parts.0 split), by (rc_of d net) parts.1)
  where
    by : (o : Option NetRc) → option_map_or (is_large_rc d) o false ≡ false → option_map_or (wires_within d split) o true ≡ true
    by None e = refl
    by (Some rc) e =
        let k = either_none (not (is_within (sum_of res_of rc.ress))) (either_split (λ t. not (wires_within d t rc))) e in
        not_false (wires_within d split rc) (neither (λ t. not (wires_within d t rc)) k.1 split)

module _ (g : Graphed) (num : IsNumbered g.stored) (linked : IsLinked g.stored.design) (is : IsGraph g) (fine : AreRowsFine g.stored.design) where
  in_nodes : (n : Node) → Stands g num linked is n → Contains (nodes g.stored.design) n
  in_nodes n s = in_flat_map both_nodes (pins g.stored.design) n.pin n s.1.has.within (both_in n.pin n.tran)

  loaded : (split : Split) (n : Node) → Stands g num linked is n → is_loaded g.stored.design split n ≡ true
  loaded split n s = by (net_of n.pin) refl
    where
      by : (o : Option (List ℕ)) → net_of n.pin ≡ o → is_loaded g.stored.design split n ≡ true
      by None e = ap (λ o. is_within (option_map_or (net_load g.stored.design split) o (pos 0))) e
      by (Some net) e =
          ap (λ o. is_within (option_map_or (net_load g.stored.design split) o (pos 0))) e
          ∙ (net_fine g.stored.design net split (fine.nets net (net_listed g.stored num linked n.pin net s.1.has.within e))).0

  wired : (split : Split) (n : Node) → Stands g num linked is n → net_wires_within g.stored.design split (net_of n.pin) ≡ true
  wired split n s = by (net_of n.pin) refl
    where
      by : (o : Option (List ℕ)) → net_of n.pin ≡ o → net_wires_within g.stored.design split (net_of n.pin) ≡ true
      by None e = ap (net_wires_within g.stored.design split) e
      by (Some net) e =
          ap (net_wires_within g.stored.design split) e ∙ (net_fine g.stored.design net split (fine.nets net (net_listed g.stored num linked n.pin net s.1.has.within e))).1

  still : (split : Split) → IsCalm g.stored.design split (Stands g num linked is)
  still split = record { calm = λ n s. fine.nodes n (in_nodes n s) split; loaded = loaded split; wired = wired split }

  node_fine : (split : Split) (n : Node) → Contains (pins g.stored.design) n.pin → (fine_slew g.stored.design split n ≡ true) × (within_some (slew g.stored.design split n) ≡ true)
  node_fine split n c =
      let p = pin_told g.stored num linked n.pin c in
      let s : Stands g num linked is n = (node_number p.0 n.tran, record { pin = p.0; has = p.1; number = refl }) in
      let fixed = fine_slew_is g.stored.design split (Stands g num linked is) (level g num linked is) (placed g num linked is) in (
        all_fine g.stored.design split (Stands g num linked is) (level g num linked is) (placed g num linked is) (still split) fixed n s,
        slew_within g.stored.design split (Stands g num linked is) (level g num linked is) (placed g num linked is) (still split) fixed n s,
      )

pub slews_fine : (g : Graphed) (s : Stored) → g.stored ≡ s → IsNumbered s → IsLinked s.design → IsGraph g → AreRowsFine s.design
    → (split : Split) (n : Node) → Contains (pins s.design) n.pin → (fine_slew s.design split n ≡ true) × (within_some (slew s.design split n) ≡ true)
slews_fine g s same num linked is fine =
    subst
    (λ (z : Stored). (split : Split) (n : Node) → Contains (pins z.design) n.pin → (fine_slew z.design split n ≡ true) × (within_some (slew z.design split n) ≡ true)) same
    (node_fine g (subst (λ (z : Stored). IsNumbered z) (sym same) num) (subst (λ (z : Stored). IsLinked z.design) (sym same) linked) is
    (subst (λ (z : Stored). AreRowsFine z.design) (sym same) fine))
