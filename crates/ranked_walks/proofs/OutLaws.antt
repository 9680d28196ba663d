-- The arcs out of the nodes of a cone, listed in one pass, and the best way on by one of them.

use Rattle.std.proofs.Common.{◌≡◌, ℕ, zero, suc, ◌+◌, ◌<◌, ◌≤◌, ℤ, Bool, true, false, ◌==◌, if◌then◌else◌, ◌⊎◌, inl, inr, List, [], ◌∷◌, ◌++◌, length, slice_index_or, replicate, Option, Some, None, refl, sym, ap, subst, ◌∙◌, arith}
use Rattle.std.specs.Prelude.{slice_set, All}
use Rattle.std.specs.List.{list_any}
use Rattle.std.proofs.Math.Numerals.{add-one}
use Rattle.std.proofs.lemmas.Bool.{cases_eq, or_parts, eq-eqb, ne_eqb}
use Rattle.std.proofs.lemmas.List.{get_or-set_same, get_or-set_other, get_or-replicate, length-set, length-replicate, append-nil}
use Rattle.std.proofs.lemmas.List.Elements.{All-head, All-tail, All-nil, All-cons, All-append}
use Rattle.std.proofs.lemmas.Option.{none-some}
use Rattle.worst_walks.specs.declared.cones.WalkArc.{WalkArc}
use Rattle.worst_walks.specs.declared.cones.Cone.{Cone}
use Rattle.worst_walks.specs.declared.tables.Entry.{Entry}
use Rattle.worst_walks.specs.Best.{BestOf, better}
use Rattle.worst_walks.specs.Walks.{count_of, arcs_into, delay_in, delay_between, AreApart, IsArcInto, IsCone}
use Rattle.worst_walks.specs.Tables.{row_in, ahead, through, IsKnown, IsTable}
use Rattle.worst_walks.proofs.BestLaws.{best_alike, best_one, best_both}
use Rattle.worst_walks.proofs.Filling.{entries, arcs_there, arcs_apart, delay_there}
use Rattle.worst_walks.proofs.Optimal.{came, row_low}
use Rattle.ranked_walks.specs.declared.branches.OutArc.{OutArc}
use Rattle.ranked_walks.specs.Branches.{is_barred}
use Rattle.ranked_walks.specs.Outs.{arc_to, outs_below, outs_in, listed, free_entry, best_free, AreListed, IsOut}
use Rattle.ranked_walks.proofs.Bests.{IsFree}

-- a list after the arcs into a node
delay_apart : (arcs : List WalkArc) (m : ℕ) → list_any (λ (other : WalkArc). other.from == m) arcs ≡ false → delay_in arcs m ≡ None
delay_apart [] m e = refl
delay_apart (arc ∷ arcs) m e =
    let parts = or_parts (arc.from == m) (list_any (λ (other : WalkArc). other.from == m) arcs) e in
    rw parts.0 (delay_apart arcs m parts.1)

listed_len : (node : ℕ) (arcs : List WalkArc) (outs : List (List OutArc)) → length (listed node outs arcs) ≡ length outs
listed_len node [] outs = refl
listed_len node (arc ∷ arcs) outs =
    listed_len node arcs (slice_set outs arc.from (outs_in outs arc.from ++ record { to = node; delay = arc.delay } ∷ []))
    ∙ length-set outs arc.from (outs_in outs arc.from ++ record { to = node; delay = arc.delay } ∷ [])

listed_at : (node : ℕ) (arcs : List WalkArc) (outs : List (List OutArc)) (n : ℕ) → All (λ (arc : WalkArc). arc.from < length outs) arcs → AreApart arcs
    → outs_in (listed node outs arcs) n ≡ outs_in outs n ++ arc_to node (delay_in arcs n)
listed_at node [] outs n low apart = sym (append-nil (outs_in outs n))
listed_at node (arc ∷ arcs) outs n low apart =
    let new : List OutArc = outs_in outs arc.from ++ record { to = node; delay = arc.delay } ∷ [] in
    let here : arc.from < length outs = All-head (λ (a : WalkArc). a.from < length outs) arc arcs low in
    let rest : All (λ (a : WalkArc). a.from < length (slice_set outs arc.from (outs_in outs arc.from ++ record { to = node; delay = arc.delay } ∷ []))) arcs =
    subst (λ m. All (λ (a : WalkArc). a.from < m) arcs) (sym (length-set outs arc.from (outs_in outs arc.from ++ record { to = node; delay = arc.delay } ∷ []))) (All-tail (λ (a : WalkArc). a.from < length outs) arc arcs low) in
    let more = listed_at node arcs (slice_set outs arc.from (outs_in outs arc.from ++ record { to = node; delay = arc.delay } ∷ [])) n rest apart.1 in
    elim (cases_eq n arc.from) [
      | inl same ↦ let at : (arc.from == n) ≡ true = eq-eqb arc.from n (sym same) in
          rw at (more
          ∙ ap (λ o. outs_in (slice_set outs arc.from (outs_in outs arc.from ++ record { to = node; delay = arc.delay } ∷ [])) n ++ arc_to node o)
          (subst (λ m. delay_in arcs m ≡ None) (sym same) (delay_apart arcs arc.from apart.0))
          ∙ append-nil (outs_in (slice_set outs arc.from (outs_in outs arc.from ++ record { to = node; delay = arc.delay } ∷ [])) n)
          ∙ subst (λ m. outs_in (slice_set outs arc.from (outs_in outs arc.from ++ record { to = node; delay = arc.delay } ∷ [])) m ≡ outs_in outs m ++ record { to = node; delay = arc.delay } ∷ []) (sym same)
          (get_or-set_same outs arc.from (outs_in outs arc.from ++ record { to = node; delay = arc.delay } ∷ []) [] here))
      | inr other ↦ let off : (arc.from == n) ≡ false = ne_eqb arc.from n (λ e. other (sym e)) in
          rw off (more ∙ ap (λ xs. xs ++ arc_to node (delay_in arcs n))
          (get_or-set_other outs arc.from n (outs_in outs arc.from ++ record { to = node; delay = arc.delay } ∷ []) [] other))
    ]

arcs_low : (cone : Cone) (k len : ℕ) (arcs : List WalkArc) → count_of cone ≡ len → All (IsArcInto cone k) arcs → All (λ (arc : WalkArc). arc.from < len) arcs
arcs_low cone k len arcs e h = λ i d l. subst (λ m. (slice_index_or arcs i d).from < m) e (h i d l).1

pub listed_none : (cone : Cone) (outs : List (List OutArc)) → outs ≡ replicate (count_of cone) [] → AreListed cone 0 outs
listed_none cone outs e = record {
  long = ap length e ∙ length-replicate (count_of cone) [];
  each = λ n low. ap (λ xs. outs_in xs n) e ∙ get_or-replicate (count_of cone) n [] [] low;
}

listed-more : (cone : Cone) (k : ℕ) (outs after : List (List OutArc)) → IsCone cone → k < count_of cone → AreListed cone k outs
    → after ≡ listed k outs (arcs_into cone k) → AreListed cone (suc k) after
listed-more cone k outs after good low h e = record {
  long = ap length e ∙ listed_len k (arcs_into cone k) outs ∙ h.long;
  each = λ n under.
      ap (λ xs. outs_in xs n) e
      ∙ listed_at k (arcs_into cone k) outs n (arcs_low cone k (length outs) (arcs_into cone k) (sym h.long) (arcs_there cone k good low)) (arcs_apart cone k good low)
      ∙ ap (λ xs. xs ++ arc_to k (delay_between cone n k)) (h.each n under);
}

pub listed_more : (cone : Cone) (k : ℕ) (outs after : List (List OutArc)) → IsCone cone → k < count_of cone → AreListed cone k outs
    → after ≡ listed k outs (arcs_into cone k) → AreListed cone (k + 1) after
listed_more cone k outs after good low h e = subst (λ m. AreListed cone m after) (sym (add-one k)) (listed-more cone k outs after good low h e)

-- what the arcs out are
out_one : (cone : Cone) (count n k : ℕ) (o : Option ℤ) → delay_between cone n k ≡ o → IsCone cone → k < count_of cone → count_of cone ≤ count → All (IsOut count) (arc_to k o)
out_one cone count n k None e good low there = All-nil (IsOut count)
out_one cone count n k (Some d) e good low there =
    All-cons (IsOut count) (record { to = k; delay = d }) [] (omega arith, (delay_there cone k n (arcs_into cone k) d (arcs_there cone k good low) e).2) (All-nil (IsOut count))

pub outs_fine : (cone : Cone) (count n k : ℕ) → IsCone cone → k ≤ count_of cone → count_of cone ≤ count → All (IsOut count) (outs_below cone n k)
outs_fine cone count n zero good low there = All-nil (IsOut count)
outs_fine cone count n (suc k) good low there =
    All-append (IsOut count) (outs_below cone n k) (arc_to k (delay_between cone n k)) (outs_fine cone count n k good (omega arith) there)
    (out_one cone count n k (delay_between cone n k) refl good (omega arith) there)

-- the best of the free entries
free_known-by : (rows : List (Option Entry)) (arc : OutArc) (count : ℕ) (told : Bool) (o : Option Entry) → IsOut count arc → IsKnown count (if told then None else through arc.to o (Some arc.delay))
free_known-by rows arc count true o out = tt
free_known-by rows arc count false None out = tt
free_known-by rows arc count false (Some after) out = out.0

pub free_known : (rows : List (Option Entry)) (barred : List ℕ) (arc : OutArc) (count : ℕ) → IsOut count arc → IsKnown count (free_entry rows barred arc)
free_known rows barred arc count out = free_known-by rows arc count (is_barred barred arc.to) (row_in rows arc.to) out

module _ (rank : ℕ → ℕ) (rows : List (Option Entry)) (barred : List ℕ) where
  abbrev IsBy : List OutArc → Entry → Type 0
  IsBy [] entry = ⊥
  IsBy (arc ∷ arcs) entry = (free_entry rows barred arc ≡ Some entry) ⊎ IsBy arcs entry

  by_fold : (P : Entry → Type 0) (o : Option Entry) (arcs : List OutArc) → BestOf (ahead rank) P o → BestOf (ahead rank) (λ e. P e ⊎ IsBy arcs e) (best_free rank rows barred o arcs)
  by_fold P o [] best = best_alike (ahead rank) P (λ e. P e ⊎ ⊥) o (λ e p. inl p) (λ e h. elim h [ inl p ↦ p | inr none ↦ absurd none ]) best
  by_fold P o (arc ∷ arcs) best =
      best_alike (ahead rank) (λ e. (P e ⊎ (free_entry rows barred arc ≡ Some e)) ⊎ IsBy arcs e) (λ e. P e ⊎ ((free_entry rows barred arc ≡ Some e) ⊎ IsBy arcs e))
      (best_free rank rows barred (better (ahead rank) o (free_entry rows barred arc)) arcs)
      (λ e h. elim h [ inl f ↦ elim f [ inl p ↦ inl p | inr here ↦ inr (inl here) ] | inr later ↦ inr (inr later) ])
      (λ e h. elim h [ inl p ↦ inl (inl p) | inr f ↦ elim f [ inl here ↦ inl (inr here) | inr later ↦ inr later ] ])
      (by_fold (λ e. P e ⊎ (free_entry rows barred arc ≡ Some e)) (better (ahead rank) o (free_entry rows barred arc)) arcs
      (best_both (ahead rank) P (λ e. free_entry rows barred arc ≡ Some e) o (free_entry rows barred arc) (entries rank) best (best_one (ahead rank) (entries rank) (free_entry rows barred arc))))

  by_parts : (xs ys : List OutArc) (e : Entry) → IsBy (xs ++ ys) e → IsBy xs e ⊎ IsBy ys e
  by_parts [] ys e h = inr h
  by_parts (x ∷ xs) ys e h = elim h [ inl here ↦ inl (inl here) | inr later ↦ elim (by_parts xs ys e later) [ inl l ↦ inl (inr l) | inr r ↦ inr r ] ]

  by_left : (xs ys : List OutArc) (e : Entry) → IsBy xs e → IsBy (xs ++ ys) e
  by_left [] ys e h = absurd h
  by_left (x ∷ xs) ys e h = elim h [ inl here ↦ inl here | inr later ↦ inr (by_left xs ys e later) ]

  by_right : (xs ys : List OutArc) (e : Entry) → IsBy ys e → IsBy (xs ++ ys) e
  by_right [] ys e h = h
  by_right (x ∷ xs) ys e h = inr (by_right xs ys e h)

  free-told : (j : ℕ) (d : ℤ) (e : Entry) (told : Bool) → is_barred barred j ≡ told → (if told then None else through j (row_in rows j) (Some d)) ≡ Some e
      → (is_barred barred j ≡ false) × (through j (row_in rows j) (Some d) ≡ Some e)
  free-told j d e true at f = absurd (none-some e f)
  free-told j d e false at f = (at, f)

  module _ (cone : Cone) (n : ℕ) where
    one-free : (k : ℕ) (o : Option ℤ) (e : Entry) → delay_between cone n k ≡ o → IsBy (arc_to k o) e → IsFree cone rows barred n e
    one-free k None e at h = absurd h
    one-free k (Some d) e at h = elim h [
      | inl here ↦ let f = free-told k d e (is_barred barred k) refl here in (k, f.0, ap (through k (row_in rows k)) at ∙ f.1)
      | inr none ↦ absurd none
    ]

    by_free : (k : ℕ) (e : Entry) → IsBy (outs_below cone n k) e → IsFree cone rows barred n e
    by_free zero e h = absurd h
    by_free (suc k) e h = elim (by_parts (outs_below cone n k) (arc_to k (delay_between cone n k)) e h) [
      | inl less ↦ by_free k e less
      | inr here ↦ one-free k (delay_between cone n k) e refl here
    ]

    free-one : (k : ℕ) (o : Option ℤ) (e : Entry) → is_barred barred k ≡ false → through k (row_in rows k) o ≡ Some e → IsBy (arc_to k o) e
    free-one k None e free f = absurd (none-some e (sym (through_none (row_in rows k)) ∙ f))
      where
        through_none : (r : Option Entry) → through k r None ≡ None
        through_none None = refl
        through_none (Some after) = refl
    free-one k (Some d) e free f = inl (ap (λ (b : Bool). if b then None else through k (row_in rows k) (Some d)) free ∙ f)

    free_by : (k j : ℕ) (e : Entry) → j < k → is_barred barred j ≡ false → through j (row_in rows j) (delay_between cone n j) ≡ Some e → IsBy (outs_below cone n k) e
    free_by zero j e low free f = absurd (omega arith)
    free_by (suc k) j e low free f = elim (cases_eq j k) [
      | inl same ↦ by_right (outs_below cone n k) (arc_to k (delay_between cone n k)) e
          (free-one k (delay_between cone n k) e (subst (λ m. is_barred barred m ≡ false) same free) (subst (λ m. through m (row_in rows m) (delay_between cone n m) ≡ Some e) same f))
      | inr other ↦ by_left (outs_below cone n k) (arc_to k (delay_between cone n k)) e (free_by k j e (omega arith) free f)
    ]

    -- the best way on from a node
    pub best_on : (end : ℕ) → IsCone cone → IsTable rank cone end rows → BestOf (ahead rank) (IsFree cone rows barred n) (best_free rank rows barred None (outs_below cone n (count_of cone)))
    best_on end good h =
        best_alike (ahead rank) (λ e. ⊥ ⊎ IsBy (outs_below cone n (count_of cone)) e) (IsFree cone rows barred n) (best_free rank rows barred None (outs_below cone n (count_of cone)))
        (λ e b. elim b [ inl none ↦ absurd none | inr by ↦ by_free (count_of cone) e by ])
        (λ e f. let via = came f.0 (row_in rows f.0) (delay_between cone n f.0) e f.2 in
        inr (free_by (count_of cone) f.0 e (row_low rank cone end rows good h f.0 via.after via.row) f.1 f.2))
        (by_fold (λ e. ⊥) None (outs_below cone n (count_of cone)) (λ e none. none))
