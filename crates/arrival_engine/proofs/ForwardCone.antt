-- The nodes that an ECO affects are a cone of its scheme: levels rise along arcs, and a node that is not affected keeps its row.

use Rattle.std.proofs.Common.{◌≡◌, ℕ, ◌+◌, ◌<◌, ◌≤◌, Bool, true, false, not, ◌||◌, List, [], ◌∷◌, map, get_or, Option, None, Some, refl, sym, ap, subst, ◌∙◌, inl, inr, arith}
use Rattle.std.specs.Prelude.{Contains, All, is_some, if◌then◌else◌}
use Rattle.std.specs.List.{list_any}
use Rattle.std.specs.Option.{option_map_or}
use Rattle.std.proofs.lemmas.Bool.{cases_Bool, true≢false}
use Rattle.std.proofs.lemmas.List.{get_or_default}
use Rattle.timing_defs.specs.declared.rows.NodeRow.{NodeRow}
use Rattle.timing_defs.specs.Netlist.{Node, name_of}
use Rattle.timing_rules.specs.Rows.{arcs_in, row, empty_row}
use Rattle.timing_rules.specs.Paths.{named}
use Rattle.timing_defs.specs.Touches.{Touch}
use Rattle.timing_rules.specs.Cones.{same_row, row_differs, is_seed, is_forward}
use Rattle.netlist_store.specs.Linked.{IsLinked}
use Rattle.netlist_store.specs.Numbering.{Stored, number_of, IsNumbered}
use Rattle.netlist_store.specs.Applying.{IsEditOf}
use Rattle.level_cone.specs.Cone.{Cone, affected, IsCone}
use Rattle.eco_laws.proofs.EditOf.{base_linked, edited_linked}
use Rattle.eco_laws.proofs.Numbers.{number_of_both}
use Rattle.calm_laws.proofs.NoSeedCalm.{HasCalm}
use Rattle.calm_laws.proofs.SameRows.{row_told}
use Rattle.calm_laws.proofs.Forward.{has_calm, row_kept}
use Rattle.pin_graph.specs.declared.arcs.GraphArc.{GraphArc}
use Rattle.pin_graph.specs.Nodes.{node_at, node_bound, node_number}
use Rattle.pin_graph.specs.Graphs.{Graphed, IsGraph, IsArc, fan_at, level_at, of_node, kind_between}
use Rattle.timing_rules.specs.Cones.{has_register_arc}
use Rattle.levelizer.specs.Levels.{greatest}
use Rattle.pin_graph.specs.RowTables.{row_numbered}
use Rattle.std.proofs.Math.Nat.{le-max_left, le-max_right}
use Rattle.timing_defs.proofs.Members.{some_is, none_in, in_cases, in_map, in_map_back, any_in, any_back}
use Rattle.store_pins.proofs.PinLaws.{pin_told}
use Rattle.pin_graph.proofs.NodeLaws.{HasNode, node_told, node_below, has_node}
use Rattle.pin_graph.proofs.GraphRows.{Stands, level, placed}
use Rattle.calm_laws.proofs.QuietNodes.{named_in}
use Rattle.arrival_engine.specs.Updated.{froms_of, forward_cone}

greatest_over : (xs : List ℕ) (x : ℕ) → Contains xs x → x ≤ greatest xs
greatest_over [] x c = absurd (none_in x c)
greatest_over (y ∷ ys) x c = elim (in_cases y ys x c) [
  | inl e ↦ let m = le-max_left y (greatest ys) in omega (arith, e, m)
  | inr d ↦ let rest = greatest_over ys x d in let m = le-max_right y (greatest ys) in omega (arith, rest, m)
]

-- levels rise along arcs
arc_rises : (g : Graphed) → IsGraph g → (k : ℕ) → k < node_bound g.stored → (arc : GraphArc) → Contains (fan_at g.ins k) arc → level_at g arc.from < level_at g k
arc_rises g is k low arc c =
    let over = greatest_over (map (λ (b : GraphArc). level_at g b.from + 1) (fan_at g.ins k)) (level_at g arc.from + 1) (in_map (λ (b : GraphArc). level_at g b.from + 1) (fan_at g.ins k) arc c) in
    let own = is.levels.level k low in
    omega (arith, over, own)

-- the parts of a test of nodes at a number
of_none : (s : Stored) (p : Node → Bool) (k : ℕ) → node_at s k ≡ None → of_node s p k ≡ false
of_none s p k e = ap (λ o. option_map_or p o false) e

of_some : (s : Stored) (p : Node → Bool) (k : ℕ) (n : Node) → node_at s k ≡ Some n → of_node s p k ≡ p n
of_some s p k n e = ap (λ o. option_map_or p o false) e

either_parts : (a b : Bool) → (a || b) ≡ false → (a ≡ false) × (b ≡ false)
either_parts true b h = absurd (true≢false h)
either_parts false b h = (refl, h)

module _ (base g : Graphed) (touch : Touch) (made : IsEditOf base.stored touch g.stored) (num : IsNumbered base.stored) (num2 : IsNumbered g.stored) (is : IsGraph base) (is2 : IsGraph g) where
  abbrev s : Stored
  s = base.stored

  abbrev s2 : Stored
  s2 = g.stored

  abbrev cone : Cone NodeRow
  cone = forward_cone s touch g

  linked : IsLinked s.design
  linked = base_linked s touch s2 made

  linked2 : IsLinked s2.design
  linked2 = edited_linked s touch s2 made

  -- an arc into a node, as the definitions have it
  module _ (k : ℕ) (low : k < node_bound s2) where
    arc_is : (arc : GraphArc) → Contains (fan_at g.ins k) arc → IsArc s2 arc × (arc.to ≡ k)
    arc_is arc c = (is2.ins k low).sound arc c

    from_low : (m : ℕ) → Contains (froms_of g k) m → m < node_bound s2
    from_low m c =
        let a = in_map_back (λ (arc : GraphArc). arc.from) (fan_at g.ins k) m c in
        let arc = (arc_is a.item a.within).0 in
        subst (λ (x : ℕ). x < node_bound s2) a.same (node_below s2 arc.from a.item.from (has_node s2 num2 linked2 a.item.from arc.from arc.from_number))

    -- the node before it of each arc of the design
    module _ (n2 : Node) (at : node_at s2 k ≡ Some n2) where
      pub here : HasNode s2 n2 k
      here = has_node s2 num2 linked2 k n2 at

      pub before : (from : Node) → Contains (arcs_in s2.design n2) from → (m : ℕ) × HasNode s2 from m
      before from c = (placed g num2 linked2 is2).closed n2 (k, here) from c

      arc_of : Node → ℕ → GraphArc
      arc_of from m = record { from = m; to = k; kind = kind_between s2.design from n2; edge = has_register_arc s2.design from n2 }

      pub from_there : (from : Node) (c : Contains (arcs_in s2.design n2) from) → Contains (froms_of g k) (before from c).0
      unfolding arc_of
      from_there from c =
          let b = before from c in
          in_map (λ (arc : GraphArc). arc.from) (fan_at g.ins k) (arc_of from b.0)
          ((is2.ins k low).all (arc_of from b.0)
          (record { from = from; from_number = node_told s2 from b.0 b.1; to = n2; to_number = at; within = c; kind = refl; edge = refl }) refl)

      -- where no number before it differs no node before it does
      pub none_differs : list_any cone.differs (froms_of g k) ≡ false → list_any (row_differs s.design s2.design) (arcs_in s2.design n2) ≡ false
      none_differs h = elim (cases_Bool (list_any (row_differs s.design s2.design) (arcs_in s2.design n2))) [
        | inl e ↦
            let r = any_back (row_differs s.design s2.design) (arcs_in s2.design n2) e in
            let b = before r.item r.within in
            absurd (true≢false (sym (any_in cone.differs (froms_of g k) b.0 (from_there r.item r.within)
            (of_some s2 (row_differs s.design s2.design) b.0 r.item (node_told s2 r.item b.0 b.1) ∙ r.passes)) ∙ h))
        | inr e ↦ e
      ]

      module _ (none : affected cone k ≡ false) where
        halves : (of_node s2 (is_seed s.design s2.design touch) k ≡ false) × (list_any cone.differs (froms_of g k) ≡ false)
        halves = either_parts (of_node s2 (is_seed s.design s2.design touch) k) (list_any cone.differs (froms_of g k)) none

        pub not_forward : is_forward s.design s2.design touch n2 ≡ false
        not_forward = rw (sym (of_some s2 (is_seed s.design s2.design touch) k n2 at) ∙ halves.0) (none_differs halves.1)

        abbrev pub kept_node : HasCalm s.design s2.design n2
        kept_node = has_calm s touch s2 made n2 here.has.within not_forward

        -- the number is that of the node in the base
        pub kept_number : HasNode s kept_node.node k
        kept_number =
            let it = named_in s.design (named n2) kept_node.node kept_node.told in
            let p = pin_told s num linked kept_node.node.pin it.0 in
            let same : number_of s2.pins (name_of n2.pin) ≡ number_of s.pins (name_of n2.pin) =
            number_of_both s touch s2 made num num2 (name_of n2.pin) (ap is_some (sym (ap (number_of s.pins) it.1.0) ∙ p.1.number)) (ap is_some here.has.number) in
            let pin : p.0 ≡ here.pin = some_is (sym p.1.number ∙ ap (number_of s.pins) it.1.0 ∙ sym same ∙ here.has.number) in
            record { pin = p.0; has = p.1; number = here.number ∙ (λ i. node_number (sym pin i) (sym it.1.1 i)) }

        pub rows_kept : row s.design kept_node.node ≡ row s2.design n2
        rows_kept =
            row_kept s touch s2 made n2 here.has.within not_forward (Stands base num linked is) (level base num linked is) (placed base num linked is) (k, kept_number)
            (Stands g num2 linked2 is2) (level g num2 linked2 is2) (placed g num2 linked2 is2) (k, here)

        node_calm : cone.was k ≡ cone.now k
        node_calm =
            ap (λ o. if is_some o then row_numbered s k else empty_row) at
            ∙ ap (λ o. option_map_or (row s.design) o empty_row) (node_told s kept_node.node k kept_number)
            ∙ rows_kept
            ∙ sym (ap (λ o. option_map_or (row s2.design) o empty_row) at)

        node_still : cone.differs k ≡ false
        node_still =
            of_some s2 (row_differs s.design s2.design) k n2 at
            ∙ ap (λ o. option_map_or (λ (b : Node). not (same_row (row s.design b) (row s2.design n2))) o true) kept_node.told
            ∙ ap not ((row_told (row s.design kept_node.node) (row s2.design n2)).1 rows_kept)

  gap_calm : (k : ℕ) → node_at s2 k ≡ None → cone.was k ≡ cone.now k
  gap_calm k e = ap (λ o. if is_some o then row_numbered s k else empty_row) e ∙ sym (ap (λ o. option_map_or (row s2.design) o empty_row) e)

  pub is_cone : IsCone cone
  is_cone = record {
    low = λ k low. all_of (λ m. m < node_bound s2) (froms_of g k) (from_low k low);
    rising = λ k low. all_of (λ m. level_at g m < level_at g k) (froms_of g k) (lower k low);
    calm = λ k low none. by_node k (node_at s2 k) refl (gap_calm k) (λ n e. node_calm k low n e none);
    still = λ k low none. by_node k (node_at s2 k) refl (of_none s2 (row_differs s.design s2.design) k) (λ n e. node_still k low n e none);
  }
    where
      by_node : {P : Type 0} (k : ℕ) (o : Option Node) → node_at s2 k ≡ o → (node_at s2 k ≡ None → P) → ((n : Node) → node_at s2 k ≡ Some n → P) → P
      by_node k None e f h = f e
      by_node k (Some n) e f h = h n e

      all_of : (P : ℕ → Type 0) (xs : List ℕ) → ((x : ℕ) → Contains xs x → P x) → All P xs
      all_of P xs each i d low = each (get_or xs i d) (i, low, get_or_default xs i (get_or xs i d) d low)

      lower : (k : ℕ) → k < node_bound s2 → (m : ℕ) → Contains (froms_of g k) m → level_at g m < level_at g k
      lower k low m c =
          let a = in_map_back (λ (arc : GraphArc). arc.from) (fan_at g.ins k) m c in
          subst (λ (x : ℕ). level_at g x < level_at g k) a.same (arc_rises g is2 k low a.item a.within)
