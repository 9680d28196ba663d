-- The arcs into a node are those of its pin; where an ECO left the pin and the clock network they are the same.

use Rattle.std.proofs.Common.{◌≡◌, ◌≢◌, ℕ, ◌≤◌, ◌==◌, Bool, true, false, not, List, [], ◌∷◌, ◌++◌, filter, length, Option, None, Some, refl, sym, ap, ◌∙◌, inl, inr, arith}
use Rattle.std.specs.Prelude.{◌&&◌, ◌||◌, if◌then◌else◌}
use Rattle.std.specs.List.{cons_option, filter_map, range_with_len}
use Rattle.std.specs.Option.{option_map_or}
use Rattle.std.proofs.lemmas.Bool.{cases_Bool, cases_lt, cases_eq, eqb-true, eq-eqb, ne_eqb, false_from_ne_true}
use Rattle.std.proofs.lemmas.List.Elements.{filter-append}
use Rattle.timing_defs.specs.declared.kinds.Tran.TheVariants.{Rise, Fall}
use Rattle.timing_defs.specs.Touches.{Touch}
use Rattle.netlist_store.specs.Applying.{IsEditOf}
use Rattle.netlist_store.specs.Linked.{IsLinked}
use Rattle.netlist_store.specs.Numbering.{Stored, IsNumbered}
use Rattle.eco_laws.proofs.EditOf.{base_linked, edited_linked}
use Rattle.pin_graph.specs.declared.arcs.GraphArc.{GraphArc}
use Rattle.pin_graph.specs.declared.pin_arcs.PinArc.{PinArc}
use Rattle.pin_graph.specs.Joins.{before, pin_arcs}
use Rattle.pin_graph.specs.Networks.{is_comb_arc}
use Rattle.pin_graph.specs.Nodes.{node_number, pin_under}
use Rattle.pin_graph.specs.NodeArcs.{marked, may_enter, stands, node_arc, standing_arc, net_arc, net_pair, net_arcs_into, net_node_arcs, node_arcs}
use Rattle.pin_graph.specs.Pulls.{arcs_into, is_left}
use Rattle.pin_graph.proofs.JoinLaws.{net_arc_back}
use Rattle.pin_graph.proofs.NodeLaws.{under_number}
use Rattle.pin_graph.proofs.PullLists.{filter_flat, flat_none, flat_one}
use Rattle.pin_graph.proofs.LinksLeft.{before_same, into_same}

-- an arc into another pin is not into the node
module _ (network : List Bool) (node pin : ℕ) (under : pin_under node ≡ pin) where
  ends_not : (arc : GraphArc) (n : ℕ) → pin_under arc.to ≡ n → n ≢ pin → (arc.to == node) ≡ false
  ends_not arc n is other = false_from_ne_true (arc.to == node) (λ e. other (sym is ∙ ap pin_under (eqb-true arc.to node e) ∙ under))

  pair_away : (n from : ℕ) → n ≢ pin → filter (λ arc. arc.to == node) (net_pair network n from) ≡ []
  pair_away n from other = by (may_enter network from n)
    where
      by : (b : Bool) → filter (λ arc. arc.to == node)
          (if b then net_arc (node_number from Rise) (node_number n Rise) ∷ net_arc (node_number from Fall) (node_number n Fall) ∷ [] else []) ≡ []
      by false = refl
      by true =
          rw (ends_not (net_arc (node_number from Rise) (node_number n Rise)) n (under_number n Rise) other)
          (rw (ends_not (net_arc (node_number from Fall) (node_number n Fall)) n (under_number n Fall) other) refl)

  net_away : (s : Stored) (n : ℕ) → n ≢ pin → filter (λ arc. arc.to == node) (net_arcs_into s network n) ≡ []
  net_away s n other = by (before s n)
    where
      by : (o : Option ℕ) → filter (λ arc. arc.to == node) (option_map_or (net_pair network n) o []) ≡ []
      by None = refl
      by (Some from) = pair_away n from other

  net_into : (s : Stored) → IsNumbered s → IsLinked s.design → filter (λ arc. arc.to == node) (net_node_arcs s network) ≡ filter (λ arc. arc.to == node) (net_arcs_into s network pin)
  net_into s num linked =
      filter_flat (λ arc. arc.to == node) (net_arcs_into s network) (range_with_len 0 (length s.pins))
      ∙ elim (cases_lt pin (length s.pins)) [
        | inl low ↦ flat_one (λ n. filter (λ arc. arc.to == node) (net_arcs_into s network n)) (length s.pins) pin low (λ n l other. net_away s n other)
        | inr high ↦
            flat_none (λ n. filter (λ arc. arc.to == node) (net_arcs_into s network n)) (length s.pins) (λ n l. net_away s n (λ e. omega arith))
            ∙ sym (ap (λ o. filter (λ arc. arc.to == node) (option_map_or (net_pair network pin) o [])) (none (before s pin) refl high))
      ]
    where
      none : (o : Option ℕ) → before s pin ≡ o → length s.pins ≤ pin → o ≡ None
      none None e high = refl
      none (Some from) e high = let low = (net_arc_back s num linked from pin e).sink_number.below in absurd (omega arith)

  -- of the arcs of cells
  cell_put : (a : PinArc) (arcs : List GraphArc) → pin_under (node_arc a).to ≢ pin
      → filter (λ arc. arc.to == node) (cons_option (standing_arc network a) arcs) ≡ filter (λ arc. arc.to == node) arcs
  cell_put a arcs other = by (stands network a && may_enter network a.from a.to)
    where
      by : (b : Bool) → filter (λ arc. arc.to == node) (cons_option (if b then Some (node_arc a) else None) arcs) ≡ filter (λ arc. arc.to == node) arcs
      by false = refl
      by true = rw (ends_not (node_arc a) (pin_under (node_arc a).to) refl other) refl

  one_more : (o : Option GraphArc) (xs ys : List GraphArc) → filter (λ arc. arc.to == node) xs ≡ filter (λ arc. arc.to == node) ys
      → filter (λ arc. arc.to == node) (cons_option o xs) ≡ filter (λ arc. arc.to == node) (cons_option o ys)
  one_more None xs ys same = same
  one_more (Some a) xs ys same = elim (cases_Bool (a.to == node)) [
    | inl e ↦ rw e (ap (λ zs. a ∷ zs) same)
    | inr e ↦ rw e same
  ]

  cell_into : (arcs : List PinArc) → filter (λ arc. arc.to == node) (filter_map (standing_arc network) arcs)
      ≡ filter (λ arc. arc.to == node) (filter_map (standing_arc network) (filter (λ arc. arc.to == pin) arcs))
  cell_into [] = refl
  cell_into (a ∷ more) = elim (cases_eq a.to pin) [
    | inl e ↦
        rw (eq-eqb a.to pin e)
        (one_more (standing_arc network a) (filter_map (standing_arc network) more) (filter_map (standing_arc network) (filter (λ arc. arc.to == pin) more)) (cell_into more))
    | inr e ↦
        rw (ne_eqb a.to pin e)
        (cell_put a (filter_map (standing_arc network) more) (λ f. e (sym (under_number a.to a.to_tran) ∙ f)) ∙ cell_into more)
  ]

  -- the arcs into a node
  pub raw_is : (s : Stored) → IsNumbered s → IsLinked s.design → filter (λ arc. arc.to == node) (node_arcs s network)
      ≡ filter (λ arc. arc.to == node) (net_arcs_into s network pin ++ filter_map (standing_arc network) (arcs_into s pin))
  raw_is s num linked =
      filter-append (λ arc. arc.to == node) (net_node_arcs s network) (filter_map (standing_arc network) (pin_arcs s))
      ∙ (λ k. net_into s num linked k ++ cell_into (pin_arcs s) k)
      ∙ sym (filter-append (λ arc. arc.to == node) (net_arcs_into s network pin) (filter_map (standing_arc network) (arcs_into s pin)))

-- of a pin that an ECO left
module _ (s : Stored) (touch : Touch) (s2 : Stored) (made : IsEditOf s touch s2) (num : IsNumbered s) (num2 : IsNumbered s2) where
  module _ (network network2 : List Bool) (same : (pin : ℕ) → marked network2 pin ≡ marked network pin) where
    entering : (from to : ℕ) → may_enter network2 from to ≡ may_enter network from to
    entering from to = λ k. not (same to k) || same from k

    standing : (arc : PinArc) → standing_arc network2 arc ≡ standing_arc network arc
    standing arc = λ k.
        if (is_comb_arc arc || (same arc.from k && not (same arc.to k))) && entering arc.from arc.to k then Some (node_arc arc) else None

    pub raw_left : (node : ℕ) → is_left s s2 touch (pin_under node) ≡ true
        → filter (λ arc. arc.to == node) (node_arcs s2 network2) ≡ filter (λ arc. arc.to == node) (node_arcs s network)
    raw_left node left =
        raw_is network2 node (pin_under node) refl s2 num2 (edited_linked s touch s2 made)
        ∙ ap (filter (λ arc. arc.to == node))
        (λ k. option_map_or (λ from. if entering from (pin_under node) k
        then net_arc (node_number from Rise) (node_number (pin_under node) Rise) ∷ net_arc (node_number from Fall) (node_number (pin_under node) Fall) ∷ []
        else []) (before_same s touch s2 made num num2 (pin_under node) left k) []
        ++ filter_map (λ arc. standing arc k) (into_same s touch s2 made num num2 (pin_under node) left k))
        ∙ sym (raw_is network node (pin_under node) refl s num (base_linked s touch s2 made))
