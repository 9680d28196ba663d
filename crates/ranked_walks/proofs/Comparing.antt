-- Walks that begin alike, compared.

use Rattle.std.proofs.Common.{◌≡◌, ℕ, ◌≤◌, ℤ, ◌≤ℤ◌, true, false, ◌&&◌, inl, inr, List, [], ◌∷◌, ◌++◌, map, refl, sym, ap, subst, ◌∙◌, arith}
use Rattle.std.specs.Prelude.{int_lt, nat_lt}
use Rattle.std.specs.Ordering.{nat_cmp, int_cmp, int_eq, ordering_then, ordering_reverse, is_lt, is_gt}
use Rattle.std.specs.declared.cmp.Ordering.{Ordering}
use Rattle.std.specs.declared.cmp.Ordering.TheVariants.{Less, Equal, Greater}
use Rattle.std.specs.Cmp.Lexicographic.{slice_cmp}
use Rattle.std.proofs.lemmas.Bool.{cases_Bool, cases_lt, both_ways, or_parts}
use Rattle.std.proofs.lemmas.Bool.Decides.{Decides-int_eq}
use Rattle.std.proofs.lemmas.Cmp.{tied_itself, int_cmp_total, nat_list_cmp_total}
use Rattle.std.proofs.lemmas.Int.{ints}
use Rattle.worst_walks.specs.declared.cones.Walk.{Walk}
use Rattle.worst_walks.specs.declared.tables.Entry.{Entry}
use Rattle.worst_walks.specs.Walks.{comes_before, whole_list, ranks_along}
use Rattle.worst_walks.specs.Tables.{ahead}
use Rattle.worst_walks.proofs.Optimal.{head_less, head_same}

reversed : (o : Ordering) → is_lt (ordering_reverse o) ≡ is_gt o
reversed Less = refl
reversed Equal = refl
reversed Greater = refl

not_after : (xs ys : List ℕ) → is_gt (slice_cmp nat_cmp xs ys) ≡ is_lt (slice_cmp nat_cmp ys xs)
not_after xs ys = sym (ap is_lt (nat_list_cmp_total.antisymm ys xs) ∙ reversed (slice_cmp nat_cmp xs ys))

tied : (a b : ℤ) (o : Ordering) → a ≡ b → is_lt (ordering_then (int_cmp a b) o) ≡ is_lt o
tied a b o e =
    ap (λ c. is_lt (ordering_then (int_cmp c b) o)) e ∙ ap (λ r. is_lt (ordering_then r o)) (tied_itself int_cmp_total b)

greater : (a b : ℤ) (o : Ordering) → int_lt a b ≡ false → int_lt b a ≡ true → is_lt (ordering_then (int_cmp a b) o) ≡ false
greater a b o e f = rw (e, f) refl

lesser : (a b : ℤ) (o : Ordering) → int_lt a b ≡ true → is_lt (ordering_then (int_cmp a b) o) ≡ true
lesser a b o e = rw e refl

front : (rank : ℕ → ℕ) (ps xs ys : List ℕ) → is_gt (slice_cmp nat_cmp (map rank xs) (map rank ys)) ≡ false
    → is_gt (slice_cmp nat_cmp (map rank (ps ++ xs)) (map rank (ps ++ ys))) ≡ false
front rank [] xs ys h = h
front rank (p ∷ ps) xs ys h = head_same (rank p) (map rank (ps ++ xs)) (map rank (ps ++ ys)) (front rank ps xs ys h)

-- by slack, where slacks differ
module _ (rank : ℕ → ℕ) (before : ℕ → List ℕ) (v w : Walk) where
  pub slack_below : v.slack ≤ℤ w.slack → (v.slack ≡ w.slack → ⊥) → comes_before rank before v w ≡ true
  slack_below le other =
      let e : int_lt v.slack w.slack ≡ true = grind (arith, ints) in
      lesser v.slack w.slack (slice_cmp nat_cmp (ranks_along rank before v) (ranks_along rank before w)) e

  pub slack_above : w.slack ≤ℤ v.slack → (v.slack ≡ w.slack → ⊥) → comes_before rank before v w ≡ false
  slack_above le other =
      let e : int_lt v.slack w.slack ≡ false = grind (arith, ints) in
      let f : int_lt w.slack v.slack ≡ true = grind (arith, ints) in
      greater v.slack w.slack (slice_cmp nat_cmp (ranks_along rank before v) (ranks_along rank before w)) e f

  pub not_before : w.slack ≤ℤ v.slack → (v.slack ≡ w.slack → is_gt (slice_cmp nat_cmp (ranks_along rank before w) (ranks_along rank before v)) ≡ false)
      → comes_before rank before v w ≡ false
  not_before le order = elim (cases_Bool (int_eq v.slack w.slack)) [
    | inl same ↦ let e = (Decides-int_eq v.slack w.slack).0 same in
        tied v.slack w.slack (slice_cmp nat_cmp (ranks_along rank before v) (ranks_along rank before w)) e
        ∙ sym (not_after (ranks_along rank before w) (ranks_along rank before v)) ∙ order e
    | inr other ↦ slack_above le (λ e. both_ways (int_eq v.slack w.slack) other ((Decides-int_eq v.slack w.slack).1 e))
  ]

  -- the same nodes first, and then lists in order
  pub begun : (n : ℕ) (ps xs ys : List ℕ) → w.nodes ≡ n ∷ (ps ++ xs) → v.nodes ≡ n ∷ (ps ++ ys) → is_gt (slice_cmp nat_cmp (map rank xs) (map rank ys)) ≡ false
      → is_gt (slice_cmp nat_cmp (ranks_along rank before w) (ranks_along rank before v)) ≡ false
  begun n ps xs ys e f h =
      subst (λ ns. is_gt (slice_cmp nat_cmp (map rank (whole_list before ns)) (ranks_along rank before v)) ≡ false) (sym e)
      (subst (λ ns. is_gt (slice_cmp nat_cmp (map rank (before n ++ (n ∷ (ps ++ xs)))) (map rank (whole_list before ns))) ≡ false) (sym f)
      (front rank (before n) (n ∷ (ps ++ xs)) (n ∷ (ps ++ ys)) (head_same (rank n) (map rank (ps ++ xs)) (map rank (ps ++ ys)) (front rank ps xs ys h))))

-- of two entries of a node
pub not_ahead : (rank : ℕ → ℕ) (c b : Entry) → ahead rank c b ≡ false → c.total ≤ℤ b.total
not_ahead rank c b e = let parts = (or_parts (int_lt b.total c.total) (int_eq c.total b.total && nat_lt (rank c.next) (rank b.next)) e).0 in grind (arith, ints)

pub tied_ahead : (rank : ℕ → ℕ) (c b : Entry) → ahead rank c b ≡ false → c.total ≡ b.total → rank b.next ≤ rank c.next
tied_ahead rank c b e same = grind (arith, ints, Decides-int_eq)

-- first nodes not after each other, and at the same one the rest
pub by_rank : (rank : ℕ → ℕ) (p m : ℕ) (ps ns : List ℕ) → rank p ≤ rank m → (rank p ≡ rank m → p ≡ m)
    → (p ≡ m → is_gt (slice_cmp nat_cmp (map rank ps) (map rank ns)) ≡ false)
    → is_gt (slice_cmp nat_cmp (map rank (p ∷ ps)) (map rank (m ∷ ns))) ≡ false
by_rank rank p m ps ns le one rest = elim (cases_lt (rank p) (rank m)) [
  | inl less ↦ head_less (rank p) (rank m) (map rank ps) (map rank ns) less
  | inr more ↦ let same : rank p ≡ rank m = omega arith in
      subst (λ r. is_gt (slice_cmp nat_cmp (r ∷ map rank ps) (map rank (m ∷ ns))) ≡ false) (sym same)
      (head_same (rank m) (map rank ps) (map rank ns) (rest (one same)))
]
