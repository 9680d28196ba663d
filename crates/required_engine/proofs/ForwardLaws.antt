-- Where no quantity of slews and arrivals leaves its limit, every node is fine, and so is every arc.

use Rattle.std.proofs.Common.{◌≡◌, ℕ, zero, suc, ◌<◌, ℤ, Bool, true, false, not, List, [], ◌∷◌, Option, None, Some, refl, sym, ap, ◌∙◌, inl, inr, arith}
use Rattle.std.specs.Prelude.{Contains, ◌&&◌, ◌||◌}
use Rattle.std.specs.List.{list_any}
use Rattle.std.specs.Option.{option_map_or}
use Rattle.std.proofs.lemmas.Bool.{cases_Bool, or_parts, and_from, true≢false}
use Rattle.timing_defs.specs.declared.kinds.Split.{Split}
use Rattle.timing_defs.specs.declared.kinds.Tran.{Tran}
use Rattle.timing_defs.specs.declared.kinds.Tran.TheVariants.{Rise, Fall}
use Rattle.timing_defs.specs.declared.design.Design.{Design}
use Rattle.timing_defs.specs.Netlist.{Pin, Node, pins, nodes, both_nodes, is_driver}
use Rattle.timing_rules.specs.Rows.{arcs_in, slew, slew_of, arrival_of, launch_edges, row}
use Rattle.timing_rules.specs.Range.{within_some, looked_within, is_loaded, fine_slew, has_raw_delay, scaled_delay, fine_delay}
use Rattle.netlist_store.specs.Linked.{IsLinked}
use Rattle.netlist_store.specs.Numbering.{Stored, IsNumbered}
use Rattle.node_rows.specs.Evaluation.{is_wide_looked, is_wide_scaled, is_wide_in}
use Rattle.node_rows.proofs.FineLaws.{IsFine, IsCarried, fine_more, wide_is_origin}
use Rattle.pin_graph.specs.Graphs.{Graphed, IsGraph}
use Rattle.pin_graph.specs.RowTables.{AreRowsFine}
use Rattle.timing_defs.proofs.Members.{none_in, in_cases, in_flat_map}
use Rattle.pin_graph.proofs.NodeLaws.{HasNode}
use Rattle.pin_graph.proofs.GraphRows.{Stands, level, placed}
use Rattle.required_engine.proofs.CarriedLaws.{carried}

both_in : (pin : Pin) (t : Tran) → Contains (both_nodes pin) (record { pin = pin; tran = t })
both_in pin Rise = (0, omega arith, refl)
both_in pin Fall = (1, omega arith, refl)

pub node_listed : (s : Stored) (node : Node) (k : ℕ) → HasNode s node k → Contains (nodes s.design) node
node_listed s node k h = in_flat_map both_nodes (pins s.design) node.pin node h.has.within (both_in node.pin node.tran)

none_at : {X : Type 0} (f : X → Bool) (xs : List X) → list_any f xs ≡ false → (x : X) → Contains xs x → f x ≡ false
none_at f [] none x c = absurd (none_in x c)
none_at f (y ∷ ys) none x c = elim (in_cases y ys x c) [
  | inl e ↦ ap f (sym e) ∙ (or_parts (f y) (list_any f ys) none).0
  | inr d ↦ none_at f ys (or_parts (f y) (list_any f ys) none).1 x d
]

not_false : (b : Bool) → not b ≡ false → b ≡ true
not_false true h = refl
not_false false h = absurd (true≢false h)

none_of_four : (a b c e : Bool) → (a || b || c || e) ≡ false → (a ≡ false) × ((b ≡ false) × ((c ≡ false) × (e ≡ false)))
none_of_four a b c e h =
    let x = or_parts (a || b || c) e h in
    let y = or_parts (a || b) c x.0 in
    let z = or_parts a b y.0 in
    (z.0, (z.1, (y.1, x.1)))

-- an arc of a node that is fine, from one that is fine
module _ (d : Design) (split : Split) (to : Node) (near : is_wide_in d split (row d) to ≡ false) (borne : IsCarried d split to) (from : Node)
    (c : Contains (arcs_in d to) from) (slewed : fine_slew d split from ≡ true) where
  parts : (list_any (λ f. is_wide_looked d split to f (row d f)) (arcs_in d to) ≡ false)
      × ((list_any (λ f. is_wide_scaled d split to f (row d f)) (arcs_in d to) ≡ false)
      × ((not (within_some (slew_of d split (row d) to)) ≡ false)
      × (list_any (λ edge. not (within_some (arrival_of d split (row d) to edge))) (launch_edges d) ≡ false)))
  parts =
      none_of_four (list_any (λ f. is_wide_looked d split to f (row d f)) (arcs_in d to)) (list_any (λ f. is_wide_scaled d split to f (row d f)) (arcs_in d to))
      (not (within_some (slew_of d split (row d) to))) (list_any (λ edge. not (within_some (arrival_of d split (row d) to edge))) (launch_edges d)) near

  looked : is_wide_looked d split to from (row d from) ≡ false
  looked = none_at (λ f. is_wide_looked d split to f (row d f)) (arcs_in d to) parts.0 from c

  scaled : is_wide_scaled d split to from (row d from) ≡ false
  scaled = none_at (λ f. is_wide_scaled d split to f (row d f)) (arcs_in d to) parts.1.0 from c

  looked_both : is_driver to.pin ≡ true → (x : ℤ) → slew d split from ≡ Some x
      → (looked_within d split from to (λ arc. arc.slew) x ≡ true) × (looked_within d split from to (λ arc. arc.delay) x ≡ true)
  looked_both drives x e =
      let both =
      or_parts (not (looked_within d split from to (λ arc. arc.slew) x)) (not (looked_within d split from to (λ arc. arc.delay) x))
      (sym (ap (λ o. option_map_or (λ y. not (looked_within d split from to (λ arc. arc.slew) y) || not (looked_within d split from to (λ arc. arc.delay) y)) o false) e)
      ∙ and_right drives looked) in
      (not_false (looked_within d split from to (λ arc. arc.slew) x) both.0, not_false (looked_within d split from to (λ arc. arc.delay) x) both.1)
    where
      and_right : {b : Bool} → is_driver to.pin ≡ true → (is_driver to.pin && b) ≡ false → b ≡ false
      and_right g h = rw g at h

  raw_fine : has_raw_delay d split from to ≡ true
  raw_fine = elim (cases_Bool (is_driver to.pin)) [
    | inl g ↦ rw g (and_from (fine_slew d split from && is_loaded d split to) (option_map_or (looked_within d split from to (λ arc. arc.delay)) (slew d split from) true)
        (and_from (fine_slew d split from) (is_loaded d split to) slewed (borne.load g)) (by g (slew d split from) refl))
    | inr g ↦ rw g (borne.delays g from c)
  ]
    where
      by : is_driver to.pin ≡ true → (o : Option ℤ) → slew d split from ≡ o → option_map_or (looked_within d split from to (λ arc. arc.delay)) (slew d split from) true ≡ true
      by g None e = ap (λ o. option_map_or (looked_within d split from to (λ arc. arc.delay)) o true) e
      by g (Some x) e = ap (λ o. option_map_or (looked_within d split from to (λ arc. arc.delay)) o true) e ∙ (looked_both g x e).1

  pub delay_fine : fine_delay d split from to ≡ true
  delay_fine = and_from (has_raw_delay d split from to) (within_some (scaled_delay d split from to)) raw_fine (not_false (within_some (scaled_delay d split from to)) scaled)

-- all nodes are fine
module _ (g : Graphed) (num : IsNumbered g.stored) (linked : IsLinked g.stored.design) (is : IsGraph g) (fine : AreRowsFine g.stored.design)
    (split : Split) where
  abbrev d : Design
  d = g.stored.design

  borne : (n : Node) → Stands g num linked is n → IsCarried d split n
  borne n s = carried g.stored linked fine n s.0 s.1 split

  near : (n : Node) → Stands g num linked is n → ((from : Node) → Contains (arcs_in d n) from → IsFine d split from) → is_wide_in d split (row d) n ≡ false
  near n s before = elim (cases_Bool (is_wide_in d split (row d) n)) [
    | inl wide ↦
        let origin = wide_is_origin d split (Stands g num linked is) (level g num linked is) (placed g num linked is) n s before (borne n s) wide in
        absurd (true≢false (sym origin ∙ fine.nodes n (node_listed g.stored n s.0 s.1) split))
    | inr e ↦ e
  ]

  fine_below : (k : ℕ) (n : Node) → Stands g num linked is n → level g num linked is n < k → IsFine d split n
  fine_below zero n s low = absurd (omega (arith, low))
  fine_below (suc k) n s low =
      let before : (from : Node) → Contains (arcs_in d n) from → IsFine d split from =
      λ from c. fine_below k from ((placed g num linked is).closed n s from c) (let up = (placed g num linked is).rising n s from c in omega (arith, low, up)) in
      fine_more d split (Stands g num linked is) (level g num linked is) (placed g num linked is) n s before (borne n s) (near n s before)

  pub node_fine : (n : Node) → Stands g num linked is n → IsFine d split n
  node_fine n s = fine_below (suc (level g num linked is n)) n s (omega arith)

  pub node_near : (n : Node) → Stands g num linked is n → is_wide_in d split (row d) n ≡ false
  node_near n s = near n s (λ from c. node_fine from ((placed g num linked is).closed n s from c))

  module _ (to : Node) (s : Stands g num linked is to) (from : Node) (c : Contains (arcs_in d to) from) where
    from_stands : Stands g num linked is from
    from_stands = (placed g num linked is).closed to s from c

    pub arc_delay : fine_delay d split from to ≡ true
    arc_delay = delay_fine d split to (node_near to s) (borne to s) from c (node_fine from from_stands).slew
