-- Range along a pass over the nodes: where the nodes before a node are fine, a quantity of the node that leaves its limit is an
-- origin, and where none does the node is fine.

use Rattle.std.proofs.Common.{◌≡◌, ℕ, zero, suc, ℤ, Bool, true, false, not, List, [], ◌∷◌, Option, None, Some, refl, sym, ap, ◌∙◌, inl, inr, arith}
use Rattle.std.specs.Prelude.{Contains, nat_eq, length, is_none, option_map, ◌&&◌, ◌||◌, if◌then◌else◌}
use Rattle.std.specs.List.{filter_map, list_all, list_any}
use Rattle.std.specs.Option.{option_map_or}
use Rattle.std.proofs.lemmas.Bool.{cases_Bool, false≢true, true≢false, and_parts, and_from, eqb-true, eq-eqb}
use Rattle.sta_units.specs.Numbers.{is_within}
use Rattle.timing_defs.specs.declared.kinds.Split.{Split}
use Rattle.timing_defs.specs.declared.kinds.Split.TheVariants.{Early, Late}
use Rattle.timing_defs.specs.declared.kinds.Tran.{Tran}
use Rattle.timing_defs.specs.declared.kinds.Tran.TheVariants.{Rise, Fall}
use Rattle.timing_defs.specs.declared.design.Design.{Design}
use Rattle.timing_defs.specs.Netlist.{Node, nodes, net_of, is_driver, same_tran}
use Rattle.timing_defs.specs.Wires.{wire_delay}
use Rattle.timing_rules.specs.Rows.{arcs_in, net_name, slew, slew_of, arrival, arrival_of, launch_edges, edge_time, step, row, as_fs}
use Rattle.timing_defs.specs.RowTimes.{slew_in, time_on, times_in}
use Rattle.timing_rules.specs.Range.{within_some, looked_within, is_loaded, net_wires_within, slew_parts, slew_inputs, fine_slew_within, fine_slew, has_raw_delay, scaled_delay, fine_delay, arrival_inputs, fine_arrival_within, fine_arrival, is_looked_origin, is_scaled_origin, is_slew_origin, is_arrival_origin, is_forward_origin}
use Rattle.node_rows.specs.Evaluation.{is_wide_looked, is_wide_scaled, is_wide_in}
use Rattle.timing_rules.proofs.RowLaws.{stable, ArePlacedNodes, row_is, first_in, later_in}

-- tests over lists
all_agree : {X : Type 0} (f g : X → Bool) (xs : List X) → ((x : X) → Contains xs x → f x ≡ g x) → list_all f xs ≡ list_all g xs
all_agree f g [] same = refl
all_agree f g (x ∷ xs) same = λ k. same x (first_in x xs) k && all_agree f g xs (λ y c. same y (later_in x xs y c)) k

all_from : {X : Type 0} (f : X → Bool) (xs : List X) → ((x : X) → Contains xs x → f x ≡ true) → list_all f xs ≡ true
all_from f [] each = refl
all_from f (x ∷ xs) each = and_from (f x) (list_all f xs) (each x (first_in x xs)) (all_from f xs (λ y c. each y (later_in x xs y c)))

either_none : (a b : Bool) → (a || b) ≡ false → (a ≡ false) × (b ≡ false)
either_none false b h = (refl, h)
either_none true b h = absurd (true≢false h)

none_at : {X : Type 0} (f : X → Bool) (xs : List X) → list_any f xs ≡ false → (x : X) → Contains xs x → f x ≡ false
none_at f [] none x (i, low, is) = absurd (omega (arith, low))
none_at f (y ∷ ys) none x (zero, low, is) = ap f (sym is) ∙ (either_none (f y) (list_any f ys) none).0
none_at f (y ∷ ys) none x (suc i, low, is) = none_at f ys (either_none (f y) (list_any f ys) none).1 x (i, omega (arith, low), is)

none_from : {X : Type 0} (f : X → Bool) (xs : List X) → ((x : X) → Contains xs x → f x ≡ false) → list_any f xs ≡ false
none_from f [] each = refl
none_from f (x ∷ xs) each = let e = each x (first_in x xs) in rw e (none_from f xs (λ y c. each y (later_in x xs y c)))

some_at : {X : Type 0} (f : X → Bool) (xs : List X) → list_any f xs ≡ true → (x : X) × (Contains xs x × (f x ≡ true))
some_at f [] h = absurd (false≢true h)
some_at f (x ∷ xs) h = elim (cases_Bool (f x)) [
  | inl e ↦ (x, (first_in x xs, e))
  | inr e ↦ let r = some_at f xs (rw e at h) in (r.0, (later_in x xs r.0 r.1.0, r.1.1))
]

any_from : {X : Type 0} (f : X → Bool) (xs : List X) (x : X) → Contains xs x → f x ≡ true → list_any f xs ≡ true
any_from f [] x (i, low, is) e = absurd (omega (arith, low))
any_from f (y ∷ ys) x (zero, low, is) e = let g : f y ≡ true = ap f is ∙ e in rw g refl
any_from f (y ∷ ys) x (suc i, low, is) e = elim (cases_Bool (f y)) [ inl g ↦ rw g refl | inr g ↦ rw g (any_from f ys x (i, omega (arith, low), is) e) ]

-- the times of a row are the arrivals on the launch edges
same_edge : (e edge : ℕ × Tran) → (nat_eq e.0 edge.0 && same_tran e.1 edge.1) ≡ true → e ≡ edge
same_edge (n, t) (m, u) h =
    let k = and_parts (nat_eq n m) (same_tran t u) h in λ j. (eqb-true n m k.0 j, same t u k.1 j)
  where
    same : (t u : Tran) → same_tran t u ≡ true → t ≡ u
    same Rise Rise g = refl
    same Rise Fall g = absurd (false≢true g)
    same Fall Rise g = absurd (false≢true g)
    same Fall Fall g = refl

self_edge : (edge : ℕ × Tran) → (nat_eq edge.0 edge.0 && same_tran edge.1 edge.1) ≡ true
self_edge (n, Rise) = and_from (nat_eq n n) true (eq-eqb n n refl) refl
self_edge (n, Fall) = and_from (nat_eq n n) true (eq-eqb n n refl) refl

module _ (a : ℕ × Tran → Option ℤ) (edge : ℕ × Tran) where
  no_time : a edge ≡ None → (edges : List (ℕ × Tran)) → time_on (filter_map (λ e. option_map (edge_time e) (a e)) edges) edge ≡ None
  no_time none [] = refl
  no_time none (e ∷ es) = by (a e) refl (no_time none es)
    where
      by : (o : Option ℤ) → a e ≡ o → time_on (filter_map (λ e. option_map (edge_time e) (a e)) es) edge ≡ None → time_on (filter_map (λ e. option_map (edge_time e) (a e)) (e ∷ es)) edge ≡ None
      by None f rest = rw f rest
      by (Some t) f rest = elim (cases_Bool (nat_eq e.0 edge.0 && same_tran e.1 edge.1)) [
        | inl g ↦ let k : Some t ≡ None = sym f ∙ ap a (same_edge e edge g) ∙ none in absurd (cc)
        | inr g ↦ rw f (rw g rest)
      ]

  one_time : (t : ℤ) → a edge ≡ Some t → (edges : List (ℕ × Tran)) → Contains edges edge
      → time_on (filter_map (λ e. option_map (edge_time e) (a e)) edges) edge ≡ Some t
  one_time t is [] (i, low, at) = absurd (omega (arith, low))
  one_time t is (e ∷ es) c = elim (cases_Bool (nat_eq e.0 edge.0 && same_tran e.1 edge.1)) [
    | inl g ↦ let f : a e ≡ Some t = ap a (same_edge e edge g) ∙ is in rw f (rw g refl)
    | inr g ↦ other g (a e) refl (one_time t is es (later c g))
  ]
    where
      later : Contains (e ∷ es) edge → (nat_eq e.0 edge.0 && same_tran e.1 edge.1) ≡ false → Contains es edge
      later (zero, low, at) g = absurd (true≢false (sym (self_edge edge) ∙ ap (λ (z : ℕ × Tran). nat_eq z.0 edge.0 && same_tran z.1 edge.1) (sym at) ∙ g))
      later (suc i, low, at) g = (i, omega (arith, low), at)

      other : (nat_eq e.0 edge.0 && same_tran e.1 edge.1) ≡ false → (o : Option ℤ) → a e ≡ o
          → time_on (filter_map (λ e. option_map (edge_time e) (a e)) es) edge ≡ Some t → time_on (filter_map (λ e. option_map (edge_time e) (a e)) (e ∷ es)) edge ≡ Some t
      other g None f rest = rw f rest
      other g (Some u) f rest = rw f (rw g rest)

  pub time_told : (edges : List (ℕ × Tran)) → Contains edges edge → time_on (filter_map (λ e. option_map (edge_time e) (a e)) edges) edge ≡ a edge
  time_told edges c = by (a edge) refl
    where
      by : (o : Option ℤ) → a edge ≡ o → time_on (filter_map (λ e. option_map (edge_time e) (a e)) edges) edge ≡ a edge
      by None f = no_time f edges ∙ sym f
      by (Some t) f = one_time t f edges c ∙ sym f

fs_told : (o : Option ℤ) → option_map (λ s. s.0) (as_fs o) ≡ o
fs_told None = refl
fs_told (Some t) = refl

or_right : (a b : Bool) → b ≡ true → (a || b) ≡ true
or_right true b h = refl
or_right false b h = h

-- one of four
or_first : (a b c e : Bool) → a ≡ true → (a || b || c || e) ≡ true
or_first a b c e h = rw h refl

or_second : (a b c e : Bool) → b ≡ true → (a || b || c || e) ≡ true
or_second true b c e h = refl
or_second false b c e h = rw h refl

or_third : (a b c e : Bool) → c ≡ true → (a || b || c || e) ≡ true
or_third true b c e h = refl
or_third false true c e h = refl
or_third false false c e h = rw h refl

none_of_four : (a b c e : Bool) → (a || b || c || e) ≡ false → (a ≡ false) × ((b ≡ false) × ((c ≡ false) × (e ≡ false)))
none_of_four a b c e h =
    let x = either_none (a || b || c) e h in
    let y = either_none (a || b) c x.0 in
    let z = either_none a b y.0 in
    (z.0, (z.1, (y.1, x.1)))

-- a fine node
module _ (d : Design) (split : Split) where
  slew_next_agree : (f g : Node → Bool) (to : Node) → ((from : Node) → Contains (arcs_in d to) from → f from ≡ g from)
      → (slew_inputs d split f to && within_some (slew d split to)) ≡ (slew_inputs d split g to && within_some (slew d split to))
  slew_next_agree f g to same = λ k.
      all_agree (λ from. is_none (slew d split from) || (f from && slew_parts d split from to))
      (λ from. is_none (slew d split from) || (g from && slew_parts d split from to)) (arcs_in d to)
      (λ from c. ap (λ b. is_none (slew d split from) || (b && slew_parts d split from to)) (same from c)) k
      && within_some (slew d split to)

  arrival_next_agree : (edge : ℕ × Tran) (f g : Node → Bool) (to : Node) → ((from : Node) → Contains (arcs_in d to) from → f from ≡ g from)
      → (arrival_inputs d split edge f to && within_some (arrival d split to edge)) ≡ (arrival_inputs d split edge g to && within_some (arrival d split to edge))
  arrival_next_agree edge f g to same = λ k.
      all_agree (λ from. is_none (arrival d split from edge) || (f from && fine_delay d split from to))
      (λ from. is_none (arrival d split from edge) || (g from && fine_delay d split from to)) (arcs_in d to)
      (λ from c. ap (λ b. is_none (arrival d split from edge) || (b && fine_delay d split from to)) (same from c)) k
      && within_some (arrival d split to edge)

  module _ (Stands : Node → Type 0) (place : Node → ℕ) (placed : ArePlacedNodes d Stands place) where
    pub fine_slew_is : (n : Node) → Stands n → fine_slew d split n ≡ (slew_inputs d split (fine_slew d split) n && within_some (slew d split n))
    unfolding fine_slew
    fine_slew_is n s =
        let low = placed.low n s in
        stable (λ f to. slew_inputs d split f to && within_some (slew d split to)) (arcs_in d) Stands place slew_next_agree placed.closed placed.rising
        (fine_slew_within d split) (λ k m. refl) (suc (length (nodes d))) n s (omega (arith, low))

    pub fine_arrival_is : (edge : ℕ × Tran) (n : Node) → Stands n
        → fine_arrival d split edge n ≡ (arrival_inputs d split edge (fine_arrival d split edge) n && within_some (arrival d split n edge))
    unfolding fine_arrival
    fine_arrival_is edge n s =
        let low = placed.low n s in
        stable (λ f to. arrival_inputs d split edge f to && within_some (arrival d split to edge)) (arcs_in d) Stands place (arrival_next_agree edge)
        placed.closed placed.rising (fine_arrival_within d split edge) (λ k m. refl) (suc (length (nodes d))) n s (omega (arith, low))

    slew_told : (n : Node) → Stands n → slew d split n ≡ slew_of d split (row d) n
    slew_told n s = ap (slew_in split) (row_is d Stands place placed n s) ∙ by split
      where
        by : (t : Split) → slew_in t (step d (row d) n) ≡ slew_of d t (row d) n
        by Early = fs_told (slew_of d Early (row d) n)
        by Late = fs_told (slew_of d Late (row d) n)

    arrival_told : (n : Node) → Stands n → (edge : ℕ × Tran) → Contains (launch_edges d) edge → arrival d split n edge ≡ arrival_of d split (row d) n edge
    arrival_told n s edge c = ap (λ r. time_on (times_in split r) edge) (row_is d Stands place placed n s) ∙ by split
      where
        by : (t : Split) → time_on (times_in t (step d (row d) n)) edge ≡ arrival_of d t (row d) n edge
        by Early = time_told (arrival_of d Early (row d) n) edge (launch_edges d) c
        by Late = time_told (arrival_of d Late (row d) n) edge (launch_edges d) c

-- a node whose slew and arrivals have values within their limits
pub record IsFine (d : Design) (split : Split) (node : Node) : Type 0 where
  pub slew : fine_slew d split node ≡ true
  pub arrivals : (edge : ℕ × Tran) → Contains (launch_edges d) edge → fine_arrival d split edge node ≡ true

-- the load of a driver, and the wires to a sink, are within their limits
pub record IsCarried (d : Design) (split : Split) (to : Node) : Type 0 where
  pub load : is_driver to.pin ≡ true → is_loaded d split to ≡ true
  pub wires : is_driver to.pin ≡ false → net_wires_within d split (net_of to.pin) ≡ true
  pub delays : is_driver to.pin ≡ false → (from : Node) → Contains (arcs_in d to) from → is_within (wire_delay d split (net_name to.pin) from.pin to.pin) ≡ true

not_false : (b : Bool) → not b ≡ false → b ≡ true
not_false true h = refl
not_false false h = absurd (true≢false h)

false_not : (b : Bool) → b ≡ true → not b ≡ false
false_not b h = ap not h

or_false : (a b : Bool) → a ≡ false → b ≡ false → (a || b) ≡ false
or_false a b g h = rw g h

module _ (d : Design) (split : Split) (Stands : Node → Type 0) (place : Node → ℕ) (placed : ArePlacedNodes d Stands place) (to : Node) (stands : Stands to)
    (fine : (from : Node) → Contains (arcs_in d to) from → IsFine d split from) (carried : IsCarried d split to) where
  -- along an arc
  module _ (from : Node) (c : Contains (arcs_in d to) from) (near : is_wide_looked d split to from (row d from) ≡ false) where
    looked_both : is_driver to.pin ≡ true → (x : ℤ) → slew d split from ≡ Some x
        → (looked_within d split from to (λ arc. arc.slew) x ≡ true) × (looked_within d split from to (λ arc. arc.delay) x ≡ true)
    looked_both drives x e =
        let parts =
        either_none (not (looked_within d split from to (λ arc. arc.slew) x)) (not (looked_within d split from to (λ arc. arc.delay) x))
        (sym (ap (λ o. option_map_or (λ y. not (looked_within d split from to (λ arc. arc.slew) y) || not (looked_within d split from to (λ arc. arc.delay) y)) o false) e)
        ∙ and_right drives near) in
        (not_false (looked_within d split from to (λ arc. arc.slew) x) parts.0, not_false (looked_within d split from to (λ arc. arc.delay) x) parts.1)
      where
        and_right : {b : Bool} → is_driver to.pin ≡ true → (is_driver to.pin && b) ≡ false → b ≡ false
        and_right g h = rw g at h

    parts_fine : slew_parts d split from to ≡ true
    parts_fine = by (slew d split from) refl
      where
        by : (o : Option ℤ) → slew d split from ≡ o → slew_parts d split from to ≡ true
        by None e = ap (λ o. option_map_or (λ x. if is_driver to.pin then is_loaded d split to && looked_within d split from to (λ arc. arc.slew) x else net_wires_within d split (net_of to.pin)) o true) e
        by (Some x) e =
            ap (λ o. option_map_or (λ y. if is_driver to.pin then is_loaded d split to && looked_within d split from to (λ arc. arc.slew) y else net_wires_within d split (net_of to.pin)) o true) e
            ∙ elim (cases_Bool (is_driver to.pin)) [
              | inl g ↦ rw g (and_from (is_loaded d split to) (looked_within d split from to (λ arc. arc.slew) x) (carried.load g) (looked_both g x e).0)
              | inr g ↦ rw g (carried.wires g)
            ]

    raw_fine : has_raw_delay d split from to ≡ true
    raw_fine = elim (cases_Bool (is_driver to.pin)) [
      | inl g ↦ rw g (and_from (fine_slew d split from && is_loaded d split to) (option_map_or (looked_within d split from to (λ arc. arc.delay)) (slew d split from) true)
          (and_from (fine_slew d split from) (is_loaded d split to) (fine from c).slew (carried.load g)) (by g (slew d split from) refl))
      | inr g ↦ rw g (carried.delays g from c)
    ]
      where
        by : is_driver to.pin ≡ true → (o : Option ℤ) → slew d split from ≡ o → option_map_or (looked_within d split from to (λ arc. arc.delay)) (slew d split from) true ≡ true
        by g None e = ap (λ o. option_map_or (looked_within d split from to (λ arc. arc.delay)) o true) e
        by g (Some x) e = ap (λ o. option_map_or (looked_within d split from to (λ arc. arc.delay)) o true) e ∙ (looked_both g x e).1

  -- where no looked-up value leaves its limit
  module _ (looked : list_any (λ from. is_wide_looked d split to from (row d from)) (arcs_in d to) ≡ false) where
    near_at : (from : Node) → Contains (arcs_in d to) from → is_wide_looked d split to from (row d from) ≡ false
    near_at from c = none_at (λ from. is_wide_looked d split to from (row d from)) (arcs_in d to) looked from c

    slew_fed : slew_inputs d split (fine_slew d split) to ≡ true
    slew_fed =
        all_from (λ from. is_none (slew d split from) || (fine_slew d split from && slew_parts d split from to)) (arcs_in d to)
        (λ from c. or_right (is_none (slew d split from)) (fine_slew d split from && slew_parts d split from to)
        (and_from (fine_slew d split from) (slew_parts d split from to) (fine from c).slew (parts_fine from c (near_at from c))))

    -- nor a scaled one
    module _ (far : list_any (λ from. is_wide_scaled d split to from (row d from)) (arcs_in d to) ≡ false) where
      delay_fine : (from : Node) → Contains (arcs_in d to) from → fine_delay d split from to ≡ true
      delay_fine from c =
          and_from (has_raw_delay d split from to) (within_some (scaled_delay d split from to)) (raw_fine from c (near_at from c))
          (not_false (within_some (scaled_delay d split from to)) (none_at (λ from. is_wide_scaled d split to from (row d from)) (arcs_in d to) far from c))

      arrivals_fed : (edge : ℕ × Tran) → Contains (launch_edges d) edge → arrival_inputs d split edge (fine_arrival d split edge) to ≡ true
      arrivals_fed edge m =
          all_from (λ from. is_none (arrival d split from edge) || (fine_arrival d split edge from && fine_delay d split from to)) (arcs_in d to)
          (λ from c. or_right (is_none (arrival d split from edge)) (fine_arrival d split edge from && fine_delay d split from to)
          (and_from (fine_arrival d split edge from) (fine_delay d split from to) ((fine from c).arrivals edge m) (delay_fine from c)))

  -- a node none of whose quantities leaves its limit is fine
  pub fine_more : is_wide_in d split (row d) to ≡ false → IsFine d split to
  fine_more near =
      let parts =
      none_of_four (list_any (λ from. is_wide_looked d split to from (row d from)) (arcs_in d to))
      (list_any (λ from. is_wide_scaled d split to from (row d from)) (arcs_in d to)) (not (within_some (slew_of d split (row d) to)))
      (list_any (λ edge. not (within_some (arrival_of d split (row d) to edge))) (launch_edges d)) near in
      record {
        slew =
            fine_slew_is d split Stands place placed to stands
            ∙ and_from (slew_inputs d split (fine_slew d split) to) (within_some (slew d split to)) (slew_fed parts.0)
            (ap within_some (slew_told d split Stands place placed to stands) ∙ not_false (within_some (slew_of d split (row d) to)) parts.1.1.0);
        arrivals = λ edge m.
            fine_arrival_is d split Stands place placed edge to stands
            ∙ and_from (arrival_inputs d split edge (fine_arrival d split edge) to) (within_some (arrival d split to edge)) (arrivals_fed parts.0 parts.1.0 edge m)
            (ap within_some (arrival_told d split Stands place placed to stands edge m)
            ∙ not_false (within_some (arrival_of d split (row d) to edge))
            (none_at (λ e. not (within_some (arrival_of d split (row d) to e))) (launch_edges d) parts.1.1.1 edge m));
      }

  -- a quantity that leaves its limit is an origin
  pub wide_is_origin : is_wide_in d split (row d) to ≡ true → is_forward_origin d split to ≡ true
  wide_is_origin wide = elim (cases_Bool (list_any (λ from. is_wide_looked d split to from (row d from)) (arcs_in d to))) [
    | inl e ↦ looked_one e
    | inr e ↦ elim (cases_Bool (list_any (λ from. is_wide_scaled d split to from (row d from)) (arcs_in d to))) [
      | inl f ↦ scaled_one e f
      | inr f ↦ elim (cases_Bool (within_some (slew_of d split (row d) to))) [
        | inl g ↦ arrival_one e f (let h = rw g at (rw f at (rw e at wide)) in h)
        | inr g ↦ slew_one e g
      ]
    ]
  ]
    where
      looked_one : list_any (λ from. is_wide_looked d split to from (row d from)) (arcs_in d to) ≡ true → is_forward_origin d split to ≡ true
      looked_one e =
          let r = some_at (λ from. is_wide_looked d split to from (row d from)) (arcs_in d to) e in
          let wide = λ (o : Option ℤ). option_map_or
          (λ x. not (looked_within d split r.0 to (λ arc. arc.slew) x) || not (looked_within d split r.0 to (λ arc. arc.delay) x)) o false in
          let k = and_parts (is_driver to.pin) (wide (slew d split r.0)) r.1.1 in
          let o : is_looked_origin d split to r.0 ≡ true =
          and_from (is_driver to.pin && fine_slew d split r.0 && is_loaded d split to) (wide (slew d split r.0))
          (and_from (is_driver to.pin && fine_slew d split r.0) (is_loaded d split to) (and_from (is_driver to.pin) (fine_slew d split r.0) k.0 (fine r.0 r.1.0).slew)
          (carried.load k.0)) k.1 in
          or_first (list_any (is_looked_origin d split to) (arcs_in d to)) (list_any (is_scaled_origin d split to) (arcs_in d to)) (is_slew_origin d split to)
          (list_any (is_arrival_origin d split to) (launch_edges d)) (any_from (is_looked_origin d split to) (arcs_in d to) r.0 r.1.0 o)

      scaled_one : list_any (λ from. is_wide_looked d split to from (row d from)) (arcs_in d to) ≡ false
          → list_any (λ from. is_wide_scaled d split to from (row d from)) (arcs_in d to) ≡ true → is_forward_origin d split to ≡ true
      scaled_one e f =
          let r = some_at (λ from. is_wide_scaled d split to from (row d from)) (arcs_in d to) f in
          let o : is_scaled_origin d split to r.0 ≡ true = and_from (has_raw_delay d split r.0 to) (not (within_some (scaled_delay d split r.0 to))) (raw_fine r.0 r.1.0 (near_at e r.0 r.1.0)) r.1.1 in
          or_second (list_any (is_looked_origin d split to) (arcs_in d to)) (list_any (is_scaled_origin d split to) (arcs_in d to)) (is_slew_origin d split to)
          (list_any (is_arrival_origin d split to) (launch_edges d)) (any_from (is_scaled_origin d split to) (arcs_in d to) r.0 r.1.0 o)

      slew_one : list_any (λ from. is_wide_looked d split to from (row d from)) (arcs_in d to) ≡ false → within_some (slew_of d split (row d) to) ≡ false
          → is_forward_origin d split to ≡ true
      slew_one e g =
          let o : is_slew_origin d split to ≡ true =
          and_from (slew_inputs d split (fine_slew d split) to) (not (within_some (slew d split to))) (slew_fed e) (ap not (ap within_some (slew_told d split Stands place placed to stands) ∙ g)) in
          or_third (list_any (is_looked_origin d split to) (arcs_in d to)) (list_any (is_scaled_origin d split to) (arcs_in d to)) (is_slew_origin d split to)
          (list_any (is_arrival_origin d split to) (launch_edges d)) o

      arrival_one : list_any (λ from. is_wide_looked d split to from (row d from)) (arcs_in d to) ≡ false
          → list_any (λ from. is_wide_scaled d split to from (row d from)) (arcs_in d to) ≡ false
          → list_any (λ edge. not (within_some (arrival_of d split (row d) to edge))) (launch_edges d) ≡ true → is_forward_origin d split to ≡ true
      arrival_one e f h =
          let r = some_at (λ edge. not (within_some (arrival_of d split (row d) to edge))) (launch_edges d) h in
          let o : is_arrival_origin d split to r.0 ≡ true =
          and_from (arrival_inputs d split r.0 (fine_arrival d split r.0) to) (not (within_some (arrival d split to r.0))) (arrivals_fed e f r.0 r.1.0)
          (ap (λ v. not (within_some v)) (arrival_told d split Stands place placed to stands r.0 r.1.0) ∙ r.1.1) in
          or_right (list_any (is_looked_origin d split to) (arcs_in d to) || list_any (is_scaled_origin d split to) (arcs_in d to) || is_slew_origin d split to)
          (list_any (is_arrival_origin d split to) (launch_edges d)) (any_from (is_arrival_origin d split to) (launch_edges d) r.0 r.1.0 o)

and_never : (a b : Bool) → b ≡ false → (a && b) ≡ false
and_never true b h = h
and_never false b h = refl

-- where none leaves its limit no origin stands at the node
module _ (d : Design) (split : Split) (Stands : Node → Type 0) (place : Node → ℕ) (placed : ArePlacedNodes d Stands place) (to : Node) (stands : Stands to) where
  pub no_origin : is_wide_in d split (row d) to ≡ false → is_forward_origin d split to ≡ false
  no_origin near =
      let parts =
      none_of_four (list_any (λ from. is_wide_looked d split to from (row d from)) (arcs_in d to))
      (list_any (λ from. is_wide_scaled d split to from (row d from)) (arcs_in d to)) (not (within_some (slew_of d split (row d) to)))
      (list_any (λ edge. not (within_some (arrival_of d split (row d) to edge))) (launch_edges d)) near in
      all_none (list_any (is_looked_origin d split to) (arcs_in d to)) (list_any (is_scaled_origin d split to) (arcs_in d to)) (is_slew_origin d split to)
      (list_any (is_arrival_origin d split to) (launch_edges d))
      (none_from (is_looked_origin d split to) (arcs_in d to) (λ from c. looked_none from (none_at (λ f. is_wide_looked d split to f (row d f)) (arcs_in d to) parts.0 from c)))
      (none_from (is_scaled_origin d split to) (arcs_in d to)
      (λ from c. and_never (has_raw_delay d split from to) (not (within_some (scaled_delay d split from to)))
      (none_at (λ f. is_wide_scaled d split to f (row d f)) (arcs_in d to) parts.1.0 from c)))
      (and_never (slew_inputs d split (fine_slew d split) to) (not (within_some (slew d split to)))
      (ap (λ v. not (within_some v)) (slew_told d split Stands place placed to stands) ∙ parts.1.1.0))
      (none_from (is_arrival_origin d split to) (launch_edges d)
      (λ edge m. and_never (arrival_inputs d split edge (fine_arrival d split edge) to) (not (within_some (arrival d split to edge)))
      (ap (λ v. not (within_some v)) (arrival_told d split Stands place placed to stands edge m)
      ∙ none_at (λ e. not (within_some (arrival_of d split (row d) to e))) (launch_edges d) parts.1.1.1 edge m)))
    where
      all_none : (a b c e : Bool) → a ≡ false → b ≡ false → c ≡ false → e ≡ false → (a || b || c || e) ≡ false
      all_none a b c e f g h k = rw f (rw g (rw h k))

      looked_none : (from : Node) → is_wide_looked d split to from (row d from) ≡ false → is_looked_origin d split to from ≡ false
      looked_none from h =
          by (is_driver to.pin) (fine_slew d split from) (is_loaded d split to)
          (option_map_or (λ x. not (looked_within d split from to (λ arc. arc.slew) x) || not (looked_within d split from to (λ arc. arc.delay) x)) (slew d split from) false) h
        where
          by : (a b c e : Bool) → (a && e) ≡ false → (a && b && c && e) ≡ false
          by false b c e g = refl
          by true b c e g = and_never (b && c) e g
