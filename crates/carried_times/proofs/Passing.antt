-- Times of nodes that are found one after another.

use Rattle.std.proofs.Common.{◌≡◌, ◌⊎◌, ℕ, zero, suc, ◌+◌, ◌<◌, ℤ, Bool, true, false, List, [], ◌∷◌, ◌++◌, length, length-append, take, get_or, Option, None, Some, refl, sym, ap, subst, ◌∙◌, inl, inr, arith}
use Rattle.std.specs.Prelude.{Contains, nat_eq, position, slice_get}
use Rattle.std.specs.Option.{option_map_or}
use Rattle.std.proofs.lemmas.List.{take_more}
use Rattle.std.proofs.lemmas.Option.{slice_get-get_or}
use Rattle.std.proofs.lemmas.List.Elements.{Contains-push_cases}
use Rattle.timing_defs.specs.declared.kinds.Split.{Split}
use Rattle.timing_defs.specs.declared.kinds.Split.TheVariants.{Early, Late}
use Rattle.timing_defs.proofs.Members.{some_is, none_in}
use Rattle.pin_graph.specs.declared.arcs.GraphArc.{GraphArc}
use Rattle.pin_graph.specs.Graphs.{Graphed, fan_at}
use Rattle.bounded_changes.specs.Carried.{IsBeyond}
use Rattle.bounded_changes.proofs.Outermost.{keep_beyond, add_beyond, self_beyond}
use Rattle.edit_reach.specs.Reach.{is_in}
use Rattle.carried_times.specs.declared.carried.Carried.{Carried}
use Rattle.carried_times.specs.Carry.{no_times, merged}
use Rattle.carried_times.specs.Sides.{Sided, found_at, carried_step, whole_told, Covers, AreCovered, IsPassed, ArePassed, IsMore, IsTold, AreTold}

-- lists that grow by one
get_more : {X : Type 0} (xs : List X) (y : X) (i : ℕ) (x : X) → slice_get xs i ≡ Some x → slice_get (xs ++ y ∷ []) i ≡ Some x
get_more [] y zero x e = absurd (cc)
get_more [] y (suc i) x e = absurd (cc)
get_more (z ∷ zs) y zero x e = e
get_more (z ∷ zs) y (suc i) x e = get_more zs y i x e

get_last : {X : Type 0} (xs : List X) (y : X) (i : ℕ) (x : X) → slice_get (xs ++ y ∷ []) i ≡ Some x → (slice_get xs i ≡ Some x) ⊎ ((i ≡ length xs) × (y ≡ x))
get_last [] y zero x e = inr (refl, some_is e)
get_last [] y (suc i) x e = absurd (cc)
get_last (z ∷ zs) y zero x e = inl e
get_last (z ∷ zs) y (suc i) x e = elim (get_last zs y i x e) [ inl h ↦ inl h | inr (p, q) ↦ inr (ap suc p, q) ]

found_more : (nodes : List ℕ) (times : List Carried) (y : Carried) (n : ℕ) (t : Carried) → found_at nodes times n ≡ Some t → found_at nodes (times ++ y ∷ []) n ≡ Some t
found_more nodes times y n t = by (position (λ m. nat_eq n m) nodes)
  where
    by : (o : Option ℕ) → option_map_or (slice_get times) o (Some no_times) ≡ Some t → option_map_or (slice_get (times ++ y ∷ [])) o (Some no_times) ≡ Some t
    by None e = e
    by (Some p) e = get_more times y p t e

-- merged times are beyond both
merged_first : (c o other : Carried) → AreCovered c other → AreCovered (merged c o) other
merged_first c o other h Early v e = keep_beyond Early c.early o.early v (h Early v e)
merged_first c o other h Late v e = keep_beyond Late c.late o.late v (h Late v e)

covers_self : (split : Split) (o : Option ℤ) → Covers split o o
covers_self split o v e = subst (λ (p : Option ℤ). IsBeyond split p v) (sym e) (self_beyond split v)

merged_last : (c o : Carried) → AreCovered (merged c o) o
merged_last c o Early v e = add_beyond Early c.early o.early v (covers_self Early o.early v e)
merged_last c o Late v e = add_beyond Late c.late o.late v (covers_self Late o.late v e)

self_covered : (c : Carried) → AreCovered c c
self_covered c Early = covers_self Early c.early
self_covered c Late = covers_self Late c.late

module _ (a b : Sided) (nodes : List ℕ) where
  -- one arc more
  passed_more : (times : List Carried) (found more : Carried) (arcs : List GraphArc) (arc : GraphArc) → ArePassed a b nodes times found arcs → IsMore a b nodes times found arc more
      → ArePassed a b nodes times more (arcs ++ arc ∷ [])
  passed_more times found more arcs arc before is x c = elim (Contains-push_cases arcs arc x c) [
    | inl old ↦
        let p = before x old in
        record {
          before = p.before;
          there = p.there;
          beyond =
              subst (λ (m : Carried). AreCovered m (carried_step a b x.from x.to p.before)) (sym is.is)
              (merged_first found (carried_step a b arc.from arc.to is.before) (carried_step a b x.from x.to p.before) p.beyond);
        }
    | inr same ↦ subst (λ (y : GraphArc). IsPassed a b nodes times more y) same (record {
      before = is.before;
      there = is.there;
      beyond =
          subst (λ (m : Carried). AreCovered m (carried_step a b arc.from arc.to is.before)) (sym is.is)
          (merged_last found (carried_step a b arc.from arc.to is.before));
    })
  ]

  pub passed_next : (times : List Carried) (found more : Carried) (arcs : List GraphArc) (i : ℕ) (d : GraphArc) → i < length arcs → ArePassed a b nodes times found (take i arcs)
      → IsMore a b nodes times found (get_or arcs i d) more → ArePassed a b nodes times more (take (i + 1) arcs)
  passed_next times found more arcs i d low before is =
      subst (λ (xs : List GraphArc). ArePassed a b nodes times more xs) (sym (take_more arcs i d low)) (passed_more times found more (take i arcs) (get_or arcs i d) before is)

  pub passed_none : (times : List Carried) (found : Carried) → ArePassed a b nodes times found []
  passed_none times found arc c = absurd (none_in arc c)

  module _ (g : Graphed) (seeds : List ℕ) where
    -- the times of a node
    pub told_seed : (times : List Carried) (n : ℕ) → is_in seeds n ≡ true → IsTold a b g seeds nodes times n (merged (whole_told a n) (whole_told b n))
    told_seed times n e = record {
      before = λ f. merged_first (whole_told a n) (whole_told b n) (whole_told a n) (self_covered (whole_told a n));
      after = λ f. merged_last (whole_told a n) (whole_told b n);
      arcs = λ f. absurd (never (is_in seeds n) e f);
    }
      where
        never : (t : Bool) → t ≡ true → t ≡ false → ⊥
        never true e f = absurd (cc)
        never false e f = absurd (cc)

    pub told_other : (times : List Carried) (n : ℕ) (found : Carried) → is_in seeds n ≡ false → ArePassed a b nodes times found (fan_at g.ins n) → IsTold a b g seeds nodes times n found
    told_other times n found e h = record {
      before = λ f. absurd (never (is_in seeds n) f e);
      after = λ f. absurd (never (is_in seeds n) f e);
      arcs = λ f arc c. h arc c;
    }
      where
        never : (t : Bool) → t ≡ true → t ≡ false → ⊥
        never true e f = absurd (cc)
        never false e f = absurd (cc)

    told_later : (times : List Carried) (y : Carried) (n : ℕ) (found : Carried) → IsTold a b g seeds nodes times n found → IsTold a b g seeds nodes (times ++ y ∷ []) n found
    told_later times y n found h = record {
      before = h.before;
      after = h.after;
      arcs = λ f arc c.
          let p = h.arcs f arc c in
          record { before = p.before; there = found_more nodes times y arc.from p.before p.there; beyond = p.beyond };
    }

    -- one node more
    pub told_next : (times : List Carried) (n : ℕ) (found : Carried) → slice_get nodes (length times) ≡ Some n → AreTold a b g seeds nodes times → IsTold a b g seeds nodes times n found
        → AreTold a b g seeds nodes (times ++ found ∷ [])
    told_next times n found at before is i m c node_at time_at = elim (get_last times found i c time_at) [
      | inl old ↦ told_later times found m c (before i m c node_at old)
      | inr (last, same) ↦
          let here : m ≡ n = some_is (sym node_at ∙ ap (slice_get nodes) last ∙ at) in
          subst (λ (k : ℕ). IsTold a b g seeds nodes (times ++ found ∷ []) k c) (sym here)
          (subst (λ (t : Carried). IsTold a b g seeds nodes (times ++ found ∷ []) n t) same (told_later times found n found is))
    ]

    pub told_none : AreTold a b g seeds nodes []
    told_none i m c node_at time_at = absurd (none_at i c time_at)
      where
        none_at : (i : ℕ) (c : Carried) → slice_get [] i ≡ Some c → ⊥
        none_at zero c e = absurd (cc)
        none_at (suc i) c e = absurd (cc)

    -- the same in a loop over the nodes
    pub told_step : (times more seen : List Carried) (items : List ℕ) (i d : ℕ) (found : Carried) → items ≡ nodes → i < length items → length times ≡ i → AreTold a b g seeds nodes times
        → seen ≡ times → IsTold a b g seeds nodes seen (get_or items i d) found → more ≡ times ++ found ∷ [] → (length more ≡ i + 1) × AreTold a b g seeds nodes more
    told_step times more seen items i d found same low count before is_seen told put =
        let at : slice_get nodes (length times) ≡ Some (get_or items i d) = (λ k. slice_get (sym same k) (count k)) ∙ slice_get-get_or items i d low in
        let is = subst (λ (ts : List Carried). IsTold a b g seeds nodes ts (get_or items i d) found) is_seen told in
        let long = length-append times (found ∷ []) in
        let size : length (times ++ found ∷ []) ≡ i + 1 = omega (arith, long, count) in
        subst (λ (ts : List Carried). (length ts ≡ i + 1) × AreTold a b g seeds nodes ts) (sym put) (size, told_next times (get_or items i d) found at before is)
