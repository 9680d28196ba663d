-- The first of reached nodes.

use Rattle.std.proofs.Common.{◌≡◌, ◌⊎◌, ℕ, ◌+◌, ℤ, Bool, true, false, List, [], ◌∷◌, Option, None, Some, refl, sym, ap, subst, ◌∙◌, inl, inr}
use Rattle.std.specs.Prelude.{◌*◌, if◌then◌else◌, Contains}
use Rattle.std.specs.Option.{option_map_or}
use Rattle.std.specs.Ordering.{int_cmp, ordering_reverse, is_lt}
use Rattle.std.specs.Cmp.{IsTotalOrder}
use Rattle.std.specs.declared.cmp.Ordering.{Ordering}
use Rattle.std.specs.declared.cmp.Ordering.TheVariants.{Less, Equal, Greater}
use Rattle.std.proofs.lemmas.Bool.{cases_Bool, false≢true}
use Rattle.std.proofs.lemmas.Cmp.{then_total, on_total, back_total, int_cmp_total}
use Rattle.timing_defs.specs.declared.kinds.Split.{Split}
use Rattle.timing_defs.specs.declared.kinds.Split.TheVariants.{Early, Late}
use Rattle.timing_defs.specs.declared.kinds.Tran.{Tran}
use Rattle.timing_defs.proofs.Members.{some_is, none_in, first_in, later_in, in_cases}
use Rattle.netlist_store.specs.Numbering.{Stored}
use Rattle.path_search.specs.Ranks.{number_cmp}
use Rattle.path_search.proofs.NumberNames.{number_total}
use Rattle.slack_summaries.specs.declared.outermost.Reached.{Reached}
use Rattle.slack_summaries.specs.Outermost.{arrival_numbered, split_cmp, reached_cmp, goes_first, better, reached_at, with_node, outermost_from}

split_total : (split : Split) → IsTotalOrder (split_cmp split)
split_total Early = int_cmp_total
split_total Late = back_total int_cmp_total

reached_total : (s : Stored) (split : Split) → IsTotalOrder (reached_cmp s split)
reached_total s split =
    then_total {R = λ a b. split_cmp split a.time b.time} {S = λ a b. number_cmp s a.node b.node}
    (on_total (λ (r : Reached). r.time) (split_total split)) (on_total (λ (r : Reached). r.node) (number_total s))

less_of : (o : Ordering) → is_lt o ≡ true → o ≡ Less
less_of Less e = refl
less_of Equal e = let bad : false ≡ true = e in absurd (cc)
less_of Greater e = let bad : false ≡ true = e in absurd (cc)

itself_by : (o : Ordering) → o ≡ ordering_reverse o → is_lt o ≡ false
itself_by Less e = let bad : Less ≡ Greater = e in absurd (cc)
itself_by Equal e = refl
itself_by Greater e = refl

none_some : {X : Type 0} (x : X) → None ≡ Some x → ⊥
none_some x e = cc

-- the two nodes of some pins
abbrev pub AreOf : List ℕ → ℕ → Type 0
AreOf pins n = (pin : ℕ) × Contains pins pin × ((n ≡ 2 * pin) ⊎ (n ≡ 2 * pin + 1))

module _ (s : Stored) (split : Split) (edge : ℕ × Tran) where
  itself : (a : Reached) → goes_first s split a a ≡ false
  itself a = itself_by (reached_cmp s split a a) ((reached_total s split).antisymm a a)

  on : (a b c : Reached) → goes_first s split a b ≡ true → goes_first s split b c ≡ true → goes_first s split a c ≡ true
  on a b c h k = ap is_lt ((reached_total s split).trans a b c (less_of (reached_cmp s split a b) h) (less_of (reached_cmp s split b c) k))

  -- none of some nodes is reached, or the first of those that are
  abbrev pub IsBest : (ℕ → Type 0) → Option Reached → Type 0
  IsBest P None = (n : ℕ) → P n → arrival_numbered s split edge n ≡ None
  IsBest P (Some b) =
      P b.node × (arrival_numbered s split edge b.node ≡ Some b.time)
      × ((n : ℕ) (time : ℤ) → P n → arrival_numbered s split edge n ≡ Some time → goes_first s split (reached_at n time) b ≡ false)

  same_best : (P Q : ℕ → Type 0) → ((n : ℕ) → P n → Q n) → ((n : ℕ) → Q n → P n) → (best : Option Reached) → IsBest P best → IsBest Q best
  same_best P Q there back None is = λ n q. is n (back n q)
  same_best P Q there back (Some b) is = (there b.node is.0, is.1, λ n time q e. is.2 n time (back n q) e)

  abbrev Or : (ℕ → Type 0) → ℕ → ℕ → Type 0
  Or P node n = P n ⊎ (n ≡ node)

  -- a node more
  step : (P : ℕ → Type 0) (best : Option Reached) (node : ℕ) → IsBest P best → IsBest (Or P node) (with_node s split edge best node)
  step P best node is = by (arrival_numbered s split edge node) refl
    where
      left_as : (b : Option Reached) → IsBest P b → arrival_numbered s split edge node ≡ None → IsBest (Or P node) b
      left_as None k h = λ n q. (elim q [ inl p ↦ k n p | inr e ↦ ap (arrival_numbered s split edge) e ∙ h ])
      left_as (Some b) k h = (
        inl k.0,
        k.1,
        λ n time q e. (elim q [
          | inl p ↦ k.2 n time p e
          | inr same ↦ absurd (none_some time (sym h ∙ sym (ap (arrival_numbered s split edge) same) ∙ e))
        ]),
      )

      with_one : (t : ℤ) → arrival_numbered s split edge node ≡ Some t → (b : Option Reached) → IsBest P b → IsBest (Or P node) (Some (better s split b (reached_at node t)))
      with_one t h None k = (
        inr refl,
        h,
        λ n time q e. (elim q [
          | inl p ↦ absurd (none_some time (sym (k n p) ∙ e))
          | inr same ↦
              let times : time ≡ t = some_is (sym e ∙ ap (arrival_numbered s split edge) same ∙ h) in
              ap (λ m. goes_first s split (reached_at m time) (reached_at node t)) same ∙ ap (λ u. goes_first s split (reached_at node u) (reached_at node t)) times
              ∙ itself (reached_at node t)
        ]),
      )
      with_one t h (Some b) k = elim (cases_Bool (goes_first s split (reached_at node t) b)) [
        | inl first ↦
            subst (λ (c : Bool). IsBest (Or P node) (Some (if c then reached_at node t else b))) (sym first) (
              inr refl,
              h,
              λ n time q e. (elim q [
                | inl p ↦ elim (cases_Bool (goes_first s split (reached_at n time) (reached_at node t))) [
                  | inl less ↦ absurd (false≢true (sym (k.2 n time p e) ∙ on (reached_at n time) (reached_at node t) b less first))
                  | inr not_less ↦ not_less
                ]
                | inr same ↦
                    let times : time ≡ t = some_is (sym e ∙ ap (arrival_numbered s split edge) same ∙ h) in
                    ap (λ m. goes_first s split (reached_at m time) (reached_at node t)) same
                    ∙ ap (λ u. goes_first s split (reached_at node u) (reached_at node t)) times ∙ itself (reached_at node t)
              ]),
            )
        | inr later ↦
            subst (λ (c : Bool). IsBest (Or P node) (Some (if c then reached_at node t else b))) (sym later) (
              inl k.0,
              k.1,
              λ n time q e. (elim q [
                | inl p ↦ k.2 n time p e
                | inr same ↦
                    let times : time ≡ t = some_is (sym e ∙ ap (arrival_numbered s split edge) same ∙ h) in
                    ap (λ m. goes_first s split (reached_at m time) b) same ∙ ap (λ u. goes_first s split (reached_at node u) b) times ∙ later
              ]),
            )
      ]

      by : (o : Option ℤ) → arrival_numbered s split edge node ≡ o → IsBest (Or P node) (with_node s split edge best node)
      by None h =
          subst (λ (o : Option ℤ). IsBest (Or P node) (option_map_or (λ time. Some (better s split best (reached_at node time))) o best)) (sym h) (left_as best is h)
      by (Some t) h =
          subst (λ (o : Option ℤ). IsBest (Or P node) (option_map_or (λ time. Some (better s split best (reached_at node time))) o best)) (sym h) (with_one t h best is)

  all_best : (pins : List ℕ) (P : ℕ → Type 0) (best : Option Reached) → IsBest P best → IsBest (λ n. P n ⊎ AreOf pins n) (outermost_from s split edge best pins)
  all_best [] P best is =
      same_best P (λ n. P n ⊎ AreOf [] n) (λ n p. inl p) (λ n q. elim q [ inl p ↦ p | inr a ↦ absurd (none_in a.0 a.1) ]) best is
  all_best (pin ∷ pins) P best is =
      same_best (λ n. Or (Or P (2 * pin)) (2 * pin + 1) n ⊎ AreOf pins n) (λ n. P n ⊎ AreOf (pin ∷ pins) n) there back
      (outermost_from s split edge (with_node s split edge (with_node s split edge best (2 * pin)) (2 * pin + 1)) pins)
      (all_best pins (Or (Or P (2 * pin)) (2 * pin + 1)) (with_node s split edge (with_node s split edge best (2 * pin)) (2 * pin + 1))
      (step (Or P (2 * pin)) (with_node s split edge best (2 * pin)) (2 * pin + 1) (step P best (2 * pin) is)))
    where
      there : (n : ℕ) → Or (Or P (2 * pin)) (2 * pin + 1) n ⊎ AreOf pins n → P n ⊎ AreOf (pin ∷ pins) n
      there n (inl (inl (inl p))) = inl p
      there n (inl (inl (inr e))) = inr (pin, first_in pin pins, inl e)
      there n (inl (inr e)) = inr (pin, first_in pin pins, inr e)
      there n (inr a) = inr (a.0, later_in pin pins a.0 a.1, a.2)

      of_first : (n other : ℕ) → pin ≡ other → (n ≡ 2 * other) ⊎ (n ≡ 2 * other + 1) → Or (Or P (2 * pin)) (2 * pin + 1) n
      of_first n other same (inl e) = inl (inr (e ∙ ap (λ m. 2 * m) (sym same)))
      of_first n other same (inr e) = inr (e ∙ ap (λ m. 2 * m + 1) (sym same))

      back : (n : ℕ) → P n ⊎ AreOf (pin ∷ pins) n → Or (Or P (2 * pin)) (2 * pin + 1) n ⊎ AreOf pins n
      back n (inl p) = inl (inl (inl p))
      back n (inr a) = elim (in_cases pin pins a.0 a.1) [
        | inl e ↦ inl (of_first n a.0 e a.2)
        | inr d ↦ inr (a.0, d, a.2)
      ]

  pub best_of : (pins : List ℕ) → IsBest (AreOf pins) (outermost_from s split edge None pins)
  best_of pins =
      same_best (λ n. ⊥ ⊎ AreOf pins n) (AreOf pins) (λ n q. elim q [ inl p ↦ absurd p | inr a ↦ a ]) (λ n a. inr a) (outermost_from s split edge None pins)
      (all_best pins (λ n. ⊥) None (λ n p. absurd p))
