-- Paths by slack and then by nodes: no two tie.

use Rattle.std.proofs.Common.{◌≡◌, ℤ, ◌<ℤ◌, ◌≤ℤ◌, true, false, List, [], ◌∷◌, refl, sym, ap, subst, ◌∙◌, arith}
use Rattle.std.specs.Cmp.{IsTotalOrder, then_total, on_total, nat_cmp_total, int_cmp_total, tied_itself, upto}
use Rattle.std.specs.Cmp.Lexicographic.{slice_cmp, lists_total}
use Rattle.std.specs.Ordering.{nat_cmp, int_cmp, ordering_then, ordering_reverse, is_lt, is_gt, MatchOrdering}
use Rattle.std.specs.declared.cmp.Ordering.{Ordering}
use Rattle.std.specs.declared.cmp.Ordering.TheVariants.{Less, Equal, Greater}
use Rattle.std.proofs.lemmas.Cmp.{int_ranked}
use Rattle.std.proofs.lemmas.Int.{ints}
use Rattle.std.proofs.lemmas.Map.Lookups.{exact_bytes}
use Rattle.timing_defs.specs.declared.kinds.Tran.{Tran}
use Rattle.timing_defs.specs.declared.kinds.Tran.TheVariants.{Rise, Fall}
use Rattle.timing_rules.specs.Paths.{Named, tran_cmp, named_cmp, nodes_cmp}
use Rattle.timing_rules.specs.Ranking.{Ranked, comes_before}
use Rattle.design_paths.proofs.FirstLists.{IsOrder}

tran_total : IsTotalOrder tran_cmp
tran_total = record { antisymm = flip; trans = link; congr = level }
  where
    flip : (x y : Tran) → tran_cmp x y ≡ ordering_reverse (tran_cmp y x)
    flip Rise Rise = refl
    flip Rise Fall = refl
    flip Fall Rise = refl
    flip Fall Fall = refl

    link : (x y z : Tran) → tran_cmp x y ≡ Less → tran_cmp y z ≡ Less → tran_cmp x z ≡ Less
    link Rise Rise z e f = f
    link Rise Fall Fall e f = e
    link Rise Fall Rise e f = absurd (cc)
    link Fall Rise z e f = absurd (cc)
    link Fall Fall z e f = f

    level : (x y z : Tran) → tran_cmp x y ≡ Equal → tran_cmp x z ≡ tran_cmp y z
    level Rise Rise z e = refl
    level Fall Fall z e = refl
    level Rise Fall z e = absurd (cc)
    level Fall Rise z e = absurd (cc)

named_total : IsTotalOrder named_cmp
named_total =
    then_total {R = λ (a b : Named). slice_cmp nat_cmp a.0 b.0} {S = λ (a b : Named). tran_cmp a.1 b.1}
    (on_total (λ (n : Named). n.0) (lists_total nat_cmp_total)) (on_total (λ (n : Named). n.1) tran_total)

abbrev pub rank_cmp : Ranked → Ranked → Ordering
rank_cmp a b = ordering_then (int_cmp a.0 b.0) (nodes_cmp a.1 b.1)

rank_total : IsTotalOrder rank_cmp
rank_total =
    then_total {R = λ (a b : Ranked). int_cmp a.0 b.0} {S = λ (a b : Ranked). nodes_cmp a.1 b.1}
    (on_total (λ (r : Ranked). r.0) int_cmp_total) (on_total (λ (r : Ranked). r.1) (lists_total named_total))

-- what ties is the same
pub then_equal : (o p : Ordering) → ordering_then o p ≡ Equal → (o ≡ Equal) × (p ≡ Equal)
then_equal Less p e = absurd (cc)
then_equal Equal p e = (refl, e)
then_equal Greater p e = absurd (cc)

same_tran : (a b : Tran) → tran_cmp a b ≡ Equal → a ≡ b
same_tran Rise Rise e = refl
same_tran Fall Fall e = refl
same_tran Rise Fall e = absurd (cc)
same_tran Fall Rise e = absurd (cc)

same_node : (a b : Named) → named_cmp a b ≡ Equal → a ≡ b
same_node a b e =
    let parts = then_equal (slice_cmp nat_cmp a.0 b.0) (tran_cmp a.1 b.1) e in
    let name : a.0 ≡ b.0 = exact_bytes a.0 b.0 parts.0 in
    let tran : a.1 ≡ b.1 = same_tran a.1 b.1 parts.1 in
    λ i. (name i, tran i)

same_nodes : (a b : List Named) → nodes_cmp a b ≡ Equal → a ≡ b
same_nodes [] [] e = refl
same_nodes [] (m ∷ ms) e = absurd (cc)
same_nodes (n ∷ ns) [] e = absurd (cc)
same_nodes (n ∷ ns) (m ∷ ms) e =
    let parts = then_equal (named_cmp n m) (nodes_cmp ns ms) e in
    let one : n ≡ m = same_node n m parts.0 in
    let others : ns ≡ ms = same_nodes ns ms parts.1 in
    λ i. one i ∷ others i

pub same_int : (x y : ℤ) → int_cmp x y ≡ Equal → x ≡ y
same_int x y e = subst (λ (o : Ordering). MatchOrdering o (x <ℤ y) (x ≡ y) (y <ℤ x)) e (int_ranked x y (int_cmp x y) refl)

same_rank : (a b : Ranked) → rank_cmp a b ≡ Equal → a ≡ b
same_rank a b e =
    let parts = then_equal (int_cmp a.0 b.0) (nodes_cmp a.1 b.1) e in
    let slack : a.0 ≡ b.0 = same_int a.0 b.0 parts.0 in
    let nodes : a.1 ≡ b.1 = same_nodes a.1 b.1 parts.1 in
    λ i. (slack i, nodes i)

-- the laws of an order whose ties are the same
module _ {K : Type 0} (R : K → K → Ordering) (total : IsTotalOrder R) (exact : (a b : K) → R a b ≡ Equal → a ≡ b) where
  turned : (o : Ordering) → is_lt (ordering_reverse o) ≡ is_gt o
  turned Less = refl
  turned Equal = refl
  turned Greater = refl

  back : (x y : K) → is_lt (R x y) ≡ is_gt (R y x)
  back x y = ap is_lt (total.antisymm x y) ∙ turned (R y x)

  neither : (o : Ordering) → is_lt o ≡ false → is_gt o ≡ false → o ≡ Equal
  neither Less e f = absurd (cc)
  neither Equal e f = refl
  neither Greater e f = absurd (cc)

  not_both : (o : Ordering) → is_lt o ≡ true → is_gt o ≡ false
  not_both Less e = refl
  not_both Equal e = absurd (cc)
  not_both Greater e = absurd (cc)

  pub order_of : IsOrder (λ x y. is_lt (R x y))
  order_of = record {
    itself = λ x. ap is_lt (tied_itself total x);
    chain = λ x y z e f. (back x z ∙ upto total z y x (sym (back y z) ∙ f) (sym (back x y) ∙ e));
    turns = λ x y e. (back y x ∙ not_both (R x y) e);
    apart = λ x y e f. exact x y (neither (R x y) e (sym (back y x) ∙ f));
  }

pub path_order : IsOrder comes_before
path_order = order_of rank_cmp rank_total same_rank

-- orders by a number first
module _ (x y : ℤ) (o : Ordering) where
  abbrev Ranks : Ordering → Type 0
  Ranks p = MatchOrdering p (x <ℤ y) (x ≡ y) (y <ℤ x)

  pub up_to : is_lt (ordering_then (int_cmp x y) o) ≡ true → x ≤ℤ y
  up_to h = by (int_cmp x y) refl (int_ranked x y (int_cmp x y) refl)
    where
      by : (p : Ordering) → int_cmp x y ≡ p → Ranks p → x ≤ℤ y
      by Less e m = omega (arith, ints)
      by Equal e m = omega (arith, ints)
      by Greater e m = let bad : false ≡ true = sym (ap (λ (q : Ordering). is_lt (ordering_then q o)) e) ∙ h in absurd (cc)

  pub down_to : is_lt (ordering_then (int_cmp x y) o) ≡ false → y ≤ℤ x
  down_to h = by (int_cmp x y) refl (int_ranked x y (int_cmp x y) refl)
    where
      by : (p : Ordering) → int_cmp x y ≡ p → Ranks p → y ≤ℤ x
      by Less e m = let bad : true ≡ false = sym (ap (λ (q : Ordering). is_lt (ordering_then q o)) e) ∙ h in absurd (cc)
      by Equal e m = omega (arith, ints)
      by Greater e m = omega (arith, ints)

  pub not_before : y <ℤ x → is_lt (ordering_then (int_cmp x y) o) ≡ false
  not_before low = by (int_cmp x y) refl (int_ranked x y (int_cmp x y) refl)
    where
      by : (p : Ordering) → int_cmp x y ≡ p → Ranks p → is_lt (ordering_then (int_cmp x y) o) ≡ false
      by Less e m = absurd (omega (arith, ints))
      by Equal e m = absurd (omega (arith, ints))
      by Greater e m = ap (λ (q : Ordering). is_lt (ordering_then q o)) e
