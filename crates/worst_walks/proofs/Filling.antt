-- Filling the table node by node.

use Rattle.std.proofs.Common.{◌≡◌, ℕ, ◌+◌, ◌<◌, ◌≤◌, ℤ, pos, Bool, true, false, ◌==◌, if◌then◌else◌, ◌⊎◌, inl, inr, List, [], ◌∷◌, length, slice_index_or, Option, Some, None, refl, sym, ap, subst, ◌∙◌, arith}
use Rattle.std.specs.Prelude.{slice_set, All, replicate}
use Rattle.std.specs.Cmp.{IsStrictWeakOrder}
use Rattle.std.specs.List.{list_any}
use Rattle.std.proofs.lemmas.Bool.{cases_eq, cases_lt, or_parts, eq-eqb, ne_eqb, eqb-true}
use Rattle.std.proofs.lemmas.Bool.Decides.{Decides-int_eq}
use Rattle.std.proofs.lemmas.Int.{ints}
use Rattle.std.proofs.lemmas.List.{get_or-set_same, get_or-set_other, get_or-replicate, get_or_past, length-set, length-replicate}
use Rattle.std.proofs.lemmas.List.Elements.{All-head, All-tail, All-nil}
use Rattle.std.proofs.lemmas.Option.{none-some, same_Some}
use Rattle.sta_units.specs.Numbers.{Within}
use Rattle.worst_walks.specs.declared.cones.WalkArc.{WalkArc}
use Rattle.worst_walks.specs.declared.cones.Cone.{Cone}
use Rattle.worst_walks.specs.declared.tables.Entry.{Entry}
use Rattle.worst_walks.specs.Best.{BestOf, better}
use Rattle.worst_walks.specs.Walks.{count_of, listed_into, is_first, arcs_into, delay_in, delay_between, AreApart, IsArcInto, IsCone}
use Rattle.worst_walks.specs.Tables.{row_in, ahead, through, relaxed, pushed, spread, IsBounded, IsCandidate, IsFilled}
use Rattle.worst_walks.proofs.BestLaws.{best_alike, best_one, best_both}

-- entries are ordered
ahead-chain : (rank : ℕ → ℕ) (x y z : Entry) → ahead rank x y ≡ false → ahead rank y z ≡ false → ahead rank x z ≡ false
ahead-chain rank x y z a b = grind (arith, ints, Decides-int_eq)

ahead-one_way : (rank : ℕ → ℕ) (x y : Entry) → ahead rank x y ≡ true → ahead rank y x ≡ false
ahead-one_way rank x y a = grind (arith, ints, Decides-int_eq)

pub entries : (rank : ℕ → ℕ) → IsStrictWeakOrder (ahead rank)
entries rank = record { one_way = ahead-one_way rank; chain = ahead-chain rank }

-- what a cone says of the arcs that a walk follows
followed : (cone : Cone) (P : List WalkArc → Type 0) (n : ℕ) (first : Bool) → P [] → P (listed_into cone n)
    → P (if first then [] else listed_into cone n)
followed cone P n true none there = none
followed cone P n false none there = there

pub arcs_there : (cone : Cone) (n : ℕ) → IsCone cone → n < count_of cone → All (IsArcInto cone n) (arcs_into cone n)
unfolding arcs_into
arcs_there cone n good low =
    followed cone (All (IsArcInto cone n)) n (is_first cone n) (All-nil (IsArcInto cone n)) (good.arcs n low)

pub arcs_apart : (cone : Cone) (n : ℕ) → IsCone cone → n < count_of cone → AreApart (arcs_into cone n)
unfolding arcs_into
arcs_apart cone n good low = followed cone AreApart n (is_first cone n) tt (good.apart n low)

-- a delay is that of an arc
delay-by : (cone : Cone) (k n : ℕ) (arc : WalkArc) (arcs : List WalkArc) (d : ℤ) (same : Bool) → (arc.from == n) ≡ same
    → IsArcInto cone k arc → (delay_in arcs n ≡ Some d → IsArcInto cone k (record { from = n; delay = d }))
    → (if same then Some arc.delay else delay_in arcs n) ≡ Some d → IsArcInto cone k (record { from = n; delay = d })
delay-by cone k n arc arcs d true e h more f =
    let from : arc.from ≡ n = eqb-true arc.from n e in
    let at : arc.delay ≡ d = same_Some arc.delay d f in
    (subst (λ m. k < m) from h.0, subst (λ m. m < count_of cone) from h.1, subst Within at h.2)
delay-by cone k n arc arcs d false e h more f = more f

pub delay_there : (cone : Cone) (k n : ℕ) (arcs : List WalkArc) (d : ℤ) → All (IsArcInto cone k) arcs → delay_in arcs n ≡ Some d
    → IsArcInto cone k (record { from = n; delay = d })
delay_there cone k n [] d h e = absurd (none-some d e)
delay_there cone k n (arc ∷ arcs) d h e =
    delay-by cone k n arc arcs d (arc.from == n) refl (All-head (IsArcInto cone k) arc arcs h)
    (delay_there cone k n arcs d (All-tail (IsArcInto cone k) arc arcs h)) e

delay_low-by : (cone : Cone) (k n : ℕ) (arcs : List WalkArc) (o : Option ℤ) → delay_in arcs n ≡ o → All (IsArcInto cone k) arcs → n ≤ k → delay_in arcs n ≡ None
delay_low-by cone k n arcs None e h low = e
delay_low-by cone k n arcs (Some d) e h low = let there = (delay_there cone k n arcs d h e).0 in absurd (omega arith)

delay_low : (cone : Cone) (k n : ℕ) → IsCone cone → k < count_of cone → n ≤ k → delay_between cone n k ≡ None
delay_low cone k n good low under =
    delay_low-by cone k n (arcs_into cone k) (delay_in (arcs_into cone k) n) refl (arcs_there cone k good low) under

delay_apart : (arcs : List WalkArc) (m : ℕ) → list_any (λ other. other.from == m) arcs ≡ false → delay_in arcs m ≡ None
delay_apart [] m e = refl
delay_apart (arc ∷ arcs) m e =
    let parts = or_parts (arc.from == m) (list_any (λ (other : WalkArc). other.from == m) arcs) e in
    rw parts.0 (delay_apart arcs m parts.1)

-- nothing beside an entry
pub better_none : {X : Type 0} (before : X → X → Bool) (o : Option X) → better before o None ≡ o
better_none before None = refl
better_none before (Some x) = refl

through_none : (k : ℕ) (o : Option Entry) → through k o None ≡ None
through_none k None = refl
through_none k (Some after) = refl

-- a push, row by row
module _ (rank : ℕ → ℕ) (node : ℕ) (after : Entry) where
  pub pushed_len : (arcs : List WalkArc) (rows : List (Option Entry)) → length (pushed rank node after rows arcs) ≡ length rows
  pushed_len [] rows = refl
  pushed_len (arc ∷ arcs) rows =
      pushed_len arcs (relaxed rank node after rows arc)
      ∙ length-set rows arc.from (better (ahead rank) (row_in rows arc.from) (through node (Some after) (Some arc.delay)))

  relaxed_same : (rows : List (Option Entry)) (arc : WalkArc) → arc.from < length rows
      → row_in (relaxed rank node after rows arc) arc.from ≡ better (ahead rank) (row_in rows arc.from) (through node (Some after) (Some arc.delay))
  relaxed_same rows arc low =
      get_or-set_same rows arc.from (better (ahead rank) (row_in rows arc.from) (through node (Some after) (Some arc.delay))) None low

  relaxed_other : (rows : List (Option Entry)) (arc : WalkArc) (n : ℕ) → (n ≡ arc.from → ⊥) → row_in (relaxed rank node after rows arc) n ≡ row_in rows n
  relaxed_other rows arc n other =
      get_or-set_other rows arc.from n (better (ahead rank) (row_in rows arc.from) (through node (Some after) (Some arc.delay))) None other

  pushed_at : (arcs : List WalkArc) (rows : List (Option Entry)) (n : ℕ) → All (λ arc. arc.from < length rows) arcs → AreApart arcs
      → row_in (pushed rank node after rows arcs) n ≡ better (ahead rank) (row_in rows n) (through node (Some after) (delay_in arcs n))
  pushed_at [] rows n low apart = sym (better_none (ahead rank) (row_in rows n))
  pushed_at (arc ∷ arcs) rows n low apart =
      let here : arc.from < length rows = All-head (λ (a : WalkArc). a.from < length rows) arc arcs low in
      let long : length (relaxed rank node after rows arc) ≡ length rows = pushed_len (arc ∷ []) rows in
      let rest : All (λ a. a.from < length (relaxed rank node after rows arc)) arcs =
      subst (λ m. All (λ (a : WalkArc). a.from < m) arcs) (sym long) (All-tail (λ (a : WalkArc). a.from < length rows) arc arcs low) in
      let more = pushed_at arcs (relaxed rank node after rows arc) n rest apart.1 in
      elim (cases_eq n arc.from) [
        | inl same ↦ let at : (arc.from == n) ≡ true = eq-eqb arc.from n (sym same) in
            rw at (more
            ∙ ap (λ o. better (ahead rank) (row_in (relaxed rank node after rows arc) n) (through node (Some after) o))
            (subst (λ m. delay_in arcs m ≡ None) (sym same) (delay_apart arcs arc.from apart.0))
            ∙ better_none (ahead rank) (row_in (relaxed rank node after rows arc) n)
            ∙ subst (λ m. row_in (relaxed rank node after rows arc) m ≡ better (ahead rank) (row_in rows m) (through node (Some after) (Some arc.delay))) (sym same) (relaxed_same rows arc here))
        | inr other ↦ let off : (arc.from == n) ≡ false = ne_eqb arc.from n (λ e. other (sym e)) in
            rw off (more ∙ ap (λ o. better (ahead rank) o (through node (Some after) (delay_in arcs n))) (relaxed_other rows arc n other))
      ]

arcs_low : (cone : Cone) (k len : ℕ) (arcs : List WalkArc) → count_of cone ≡ len → All (IsArcInto cone k) arcs → All (λ arc. arc.from < len) arcs
arcs_low cone k len arcs e h = λ i d l. subst (λ m. (slice_index_or arcs i d).from < m) e (h i d l).1

spread-by : (rank : ℕ → ℕ) (cone : Cone) (k n : ℕ) (rows : List (Option Entry)) (o : Option Entry) → IsCone cone → k < count_of cone → length rows ≡ count_of cone
    → row_in (spread rank cone k o rows) n ≡ better (ahead rank) (row_in rows n) (through k o (delay_between cone n k))
spread-by rank cone k n rows None good low long = sym (better_none (ahead rank) (row_in rows n))
spread-by rank cone k n rows (Some after) good low long =
    pushed_at rank k after (arcs_into cone k) rows n
    (arcs_low cone k (length rows) (arcs_into cone k) (sym long) (arcs_there cone k good low)) (arcs_apart cone k good low)

spread_len : (rank : ℕ → ℕ) (cone : Cone) (k : ℕ) (o : Option Entry) (rows : List (Option Entry)) → length (spread rank cone k o rows) ≡ length rows
spread_len rank cone k None rows = refl
spread_len rank cone k (Some after) rows = pushed_len rank k after (arcs_into cone k) rows

-- bounds
bounded_cond : (b : ℕ) (told : Bool) (x y : Entry) → IsBounded b (Some x) → IsBounded b (Some y) → IsBounded b (if told then Some y else Some x)
bounded_cond b true x y f g = g
bounded_cond b false x y f g = f

bounded_better : (b : ℕ) (before : Entry → Entry → Bool) (o p : Option Entry) → IsBounded b o → IsBounded b p → IsBounded b (better before o p)
bounded_better b before None p f g = g
bounded_better b before (Some x) None f g = f
bounded_better b before (Some x) (Some y) f g = bounded_cond b (before y x) x y f g

pub bounded_more : (j k : ℕ) (o : Option Entry) → j ≤ k → IsBounded j o → IsBounded k o
bounded_more j k None low f = tt
bounded_more j k (Some x) low f = omega arith

bounded_through : (k : ℕ) (o : Option Entry) (d : Option ℤ) → IsBounded k o → ((x : ℤ) → d ≡ Some x → Within x) → IsBounded (k + 1) (through k o d)
bounded_through k None d f g = tt
bounded_through k (Some after) None f g = tt
bounded_through k (Some after) (Some x) f g = let w = g x refl in omega (arith, ints)

-- one node more
module _ (rank : ℕ → ℕ) (cone : Cone) (end k : ℕ) (rows : List (Option Entry)) (good : IsCone cone) (low : k < count_of cone) (h : IsFilled rank cone end k rows) where
  abbrev after_it : List (Option Entry)
  after_it = spread rank cone k (row_in rows k) rows

  abbrev step : ℕ → Option Entry
  step n = through k (row_in rows k) (delay_between cone n k)

  at : (n : ℕ) → row_in after_it n ≡ better (ahead rank) (row_in rows n) (step n)
  at n = spread-by rank cone k n rows (row_in rows k) good low h.long

  quiet : (n : ℕ) → (n ≤ k) ⊎ (k < end) → step n ≡ None
  quiet n (inl under) = ap (through k (row_in rows k)) (delay_low cone k n good low under) ∙ through_none k (row_in rows k)
  quiet n (inr over) = ap (λ o. through k o (delay_between cone n k)) (h.below k over)

  same : (n : ℕ) → (n ≤ k) ⊎ (k < end) → row_in after_it n ≡ row_in rows n
  same n why = at n ∙ ap (better (ahead rank) (row_in rows n)) (quiet n why) ∙ better_none (ahead rank) (row_in rows n)

  side : (n : ℕ) → n ≤ end → (n ≤ k) ⊎ (k < end)
  side n under = elim (cases_lt k end) [ inl less ↦ inr less | inr more ↦ inl (omega arith) ]

  taken : (n j : ℕ) (entry : Entry) → j ≤ k → through j (row_in rows j) (delay_between cone n j) ≡ Some entry
      → through j (row_in after_it j) (delay_between cone n j) ≡ Some entry
  taken n j entry under e = ap (λ o. through j o (delay_between cone n j)) (same j (inl under)) ∙ e

  given : (n j : ℕ) (entry : Entry) → j ≤ k → through j (row_in after_it j) (delay_between cone n j) ≡ Some entry
      → through j (row_in rows j) (delay_between cone n j) ≡ Some entry
  given n j entry under e = ap (λ o. through j o (delay_between cone n j)) (sym (same j (inl under))) ∙ e

  grown : (n : ℕ) (entry : Entry) → IsCandidate cone rows k n entry ⊎ (step n ≡ Some entry) → IsCandidate cone after_it (k + 1) n entry
  grown n entry (inl c) = let under = c.1 in (c.0, omega arith, taken n c.0 entry (omega arith) c.2)
  grown n entry (inr e) = (k, omega arith, taken n k entry (omega arith) e)

  shrunk : (n : ℕ) (entry : Entry) → IsCandidate cone after_it (k + 1) n entry → IsCandidate cone rows k n entry ⊎ (step n ≡ Some entry)
  shrunk n entry c =
      let under = c.1 in
      let was = given n c.0 entry (omega arith) c.2 in
      elim (cases_eq c.0 k) [
        | inl is ↦ inr (subst (λ i. through i (row_in rows i) (delay_between cone n i) ≡ Some entry) is was)
        | inr other ↦ inl (c.0, omega arith, was)
      ]

  best : (n : ℕ) → (n ≡ end → ⊥) → BestOf (ahead rank) (IsCandidate cone after_it (k + 1) n) (row_in after_it n)
  best n other =
      subst (BestOf (ahead rank) (IsCandidate cone after_it (k + 1) n)) (sym (at n))
      (best_alike (ahead rank) (λ entry. IsCandidate cone rows k n entry ⊎ (step n ≡ Some entry)) (IsCandidate cone after_it (k + 1) n)
      (better (ahead rank) (row_in rows n) (step n)) (grown n) (shrunk n)
      (best_both (ahead rank) (IsCandidate cone rows k n) (λ entry. step n ≡ Some entry) (row_in rows n) (step n) (entries rank)
      (h.each n other) (best_one (ahead rank) (entries rank) (step n))))

  within : (n : ℕ) → IsBounded (k + 1) (row_in after_it n)
  within n =
      subst (IsBounded (k + 1)) (sym (at n))
      (bounded_better (k + 1) (ahead rank) (row_in rows n) (step n) (bounded_more k (k + 1) (row_in rows n) (omega arith) (h.bounded n))
      (bounded_through k (row_in rows k) (delay_between cone n k) (h.bounded k)
      (λ x e. (delay_there cone k n (arcs_into cone k) x (arcs_there cone k good low) e).2)))

  pub filled_more : IsFilled rank cone end (k + 1) (spread rank cone k (row_in rows k) rows)
  filled_more = record {
    long = spread_len rank cone k (row_in rows k) rows ∙ h.long;
    last = same end (side end (omega arith)) ∙ h.last;
    below = λ n under. same n (side n (omega arith)) ∙ h.below n under;
    each = best;
    bounded = within;
  }

-- before the first node
abbrev no_rows : ℕ → List (Option Entry)
no_rows n = replicate n None

no_rows-len : (n : ℕ) → length (no_rows n) ≡ n
no_rows-len n = length-replicate n None

module _ (rank : ℕ → ℕ) (cone : Cone) (end : ℕ) (low : end < count_of cone) where
  abbrev first_rows : List (Option Entry)
  first_rows = slice_set (replicate (count_of cone) None) end (Some (record { total = pos 0; next = end }))

  first_last : row_in first_rows end ≡ Some (record { total = pos 0; next = end })
  first_last =
      let long = no_rows-len (count_of cone) in
      get_or-set_same (replicate (count_of cone) None) end (Some (record { total = pos 0; next = end })) None (omega arith)

  empty : (n : ℕ) → row_in (replicate (count_of cone) None) n ≡ None
  empty n = elim (cases_lt n (count_of cone)) [
    | inl under ↦ get_or-replicate (count_of cone) n None None under
    | inr over ↦ get_or_past (replicate (count_of cone) None) n None (let long = no_rows-len (count_of cone) in omega arith)
  ]

  first_other : (n : ℕ) → (n ≡ end → ⊥) → row_in first_rows n ≡ None
  first_other n other =
      get_or-set_other (replicate (count_of cone) None) end n (Some (record { total = pos 0; next = end })) None other ∙ empty n

  first_bounded : (n : ℕ) → IsBounded 0 (row_in first_rows n)
  first_bounded n = elim (cases_eq n end) [
    | inl same ↦ subst (IsBounded 0) (sym (subst (λ m. row_in first_rows m ≡ Some (record { total = pos 0; next = end })) (sym same) first_last)) (omega arith)
    | inr other ↦ subst (IsBounded 0) (sym (first_other n other)) tt
  ]

  pub filled_none : IsFilled rank cone end 0 (slice_set (replicate (count_of cone) None) end (Some (record { total = pos 0; next = end })))
  filled_none = record {
    long = length-set (replicate (count_of cone) None) end (Some (record { total = pos 0; next = end })) ∙ length-replicate (count_of cone) None;
    last = first_last;
    below = λ n under. first_other n (λ e. let is = e in absurd (omega arith));
    each = λ n other. subst (BestOf (ahead rank) (IsCandidate cone first_rows 0 n)) (sym (first_other n other)) (λ entry c. let under = c.1 in absurd (omega arith));
    bounded = first_bounded;
  }

pub filled_as : (rank : ℕ → ℕ) (cone : Cone) (end k : ℕ) (rows after : List (Option Entry)) → IsCone cone → k < count_of cone → IsFilled rank cone end k rows
    → after ≡ spread rank cone k (row_in rows k) rows → IsFilled rank cone end (k + 1) after
filled_as rank cone end k rows after good low h e = subst (IsFilled rank cone end (k + 1)) (sym e) (filled_more rank cone end k rows good low h)
