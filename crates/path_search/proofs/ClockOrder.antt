-- Clock pins' nodes in the order of their names, rise before fall.

use Rattle.std.proofs.Common.{◌≡◌, true, false, not, Option, None, Some, refl, sym, ap, ◌∙◌}
use Rattle.std.specs.Cmp.{IsTotalOrder, then_total, nat_cmp_total}
use Rattle.std.specs.Cmp.Lexicographic.{slice_cmp, lists_total}
use Rattle.std.specs.Ordering.{nat_cmp, ordering_reverse, is_gt}
use Rattle.std.specs.declared.cmp.Ordering.{Ordering}
use Rattle.std.specs.declared.cmp.Ordering.TheVariants.{Less, Equal, Greater}
use Rattle.std.proofs.lemmas.Bool.{true≢false, false≢true}
use Rattle.timing_defs.specs.declared.kinds.Tran.{Tran}
use Rattle.timing_defs.specs.declared.kinds.Tran.TheVariants.{Rise, Fall}
use Rattle.timing_defs.specs.Netlist.{Node}
use Rattle.timing_rules.specs.Paths.{Named, named, tran_cmp, named_cmp, clock_not_after}

tran_total : IsTotalOrder tran_cmp
tran_total = record { antisymm = flip; trans = chain; congr = level }
  where
    flip : (x y : Tran) → tran_cmp x y ≡ ordering_reverse (tran_cmp y x)
    flip Rise Rise = refl
    flip Rise Fall = refl
    flip Fall Rise = refl
    flip Fall Fall = refl

    chain : (x y z : Tran) → tran_cmp x y ≡ Less → tran_cmp y z ≡ Less → tran_cmp x z ≡ Less
    chain Rise Rise z e f = f
    chain Rise Fall Fall e f = e
    chain Rise Fall Rise e f = absurd (cc)
    chain Fall Rise z e f = absurd (cc)
    chain Fall Fall z e f = f

    level : (x y z : Tran) → tran_cmp x y ≡ Equal → tran_cmp x z ≡ tran_cmp y z
    level Rise Rise z e = refl
    level Fall Fall z e = refl
    level Rise Fall z e = absurd (cc)
    level Fall Rise z e = absurd (cc)

names_total : IsTotalOrder (slice_cmp nat_cmp)
names_total = lists_total nat_cmp_total

abbrev by_name : Named → Named → Ordering
by_name a b = slice_cmp nat_cmp a.0 b.0

abbrev by_tran : Named → Named → Ordering
by_tran a b = tran_cmp a.1 b.1

by_name_total : IsTotalOrder by_name
by_name_total = record {
  antisymm = λ x y. names_total.antisymm x.0 y.0;
  trans = λ x y z. names_total.trans x.0 y.0 z.0;
  congr = λ x y z. names_total.congr x.0 y.0 z.0;
}

by_tran_total : IsTotalOrder by_tran
by_tran_total = record {
  antisymm = λ x y. tran_total.antisymm x.1 y.1;
  trans = λ x y z. tran_total.trans x.1 y.1 z.1;
  congr = λ x y z. tran_total.congr x.1 y.1 z.1;
}

named_total : IsTotalOrder named_cmp
named_total = then_total {R = by_name} {S = by_tran} by_name_total by_tran_total

module _ {K : Type 0} (R : K → K → Ordering) (total : IsTotalOrder R) where
  self_order : (x : K) (o : Ordering) → R x x ≡ o → not (is_gt (R x x)) ≡ true
  self_order x Less e = ap (λ (q : Ordering). not (is_gt q)) e
  self_order x Equal e = ap (λ (q : Ordering). not (is_gt q)) e
  self_order x Greater e = let f : Greater ≡ ordering_reverse Greater = sym e ∙ total.antisymm x x ∙ ap ordering_reverse e in absurd (cc)

  back_order : (x y : K) (o : Ordering) → R x y ≡ o → not (is_gt (R x y)) ≡ false → not (is_gt (R y x)) ≡ true
  back_order x y Less e h = absurd (true≢false (sym (ap (λ (q : Ordering). not (is_gt q)) e) ∙ h))
  back_order x y Equal e h = absurd (true≢false (sym (ap (λ (q : Ordering). not (is_gt q)) e) ∙ h))
  back_order x y Greater e h = ap (λ (q : Ordering). not (is_gt q)) (total.antisymm y x ∙ ap ordering_reverse e)

  next_order : (x y z : K) (o p : Ordering) → R x y ≡ o → R y z ≡ p → not (is_gt (R x y)) ≡ true → not (is_gt (R y z)) ≡ true → not (is_gt (R x z)) ≡ true
  next_order x y z Equal p e f h k = ap (λ (q : Ordering). not (is_gt q)) (total.congr x y z e) ∙ k
  next_order x y z Less Less e f h k = ap (λ (q : Ordering). not (is_gt q)) (total.trans x y z e f)
  next_order x y z Less Equal e f h k =
      let back : R z y ≡ Equal = total.antisymm z y ∙ ap ordering_reverse f in
      let less : R z x ≡ Greater = total.congr z y x back ∙ total.antisymm y x ∙ ap ordering_reverse e in
      ap (λ (q : Ordering). not (is_gt q)) (total.antisymm x z ∙ ap ordering_reverse less)
  next_order x y z Less Greater e f h k = absurd (false≢true (sym (ap (λ (q : Ordering). not (is_gt q)) f) ∙ k))
  next_order x y z Greater p e f h k = absurd (false≢true (sym (ap (λ (q : Ordering). not (is_gt q)) e) ∙ h))

pub not_after_self : (a : Option Node) → clock_not_after a a ≡ true
not_after_self None = refl
not_after_self (Some a) = self_order named_cmp named_total (named a) (named_cmp (named a) (named a)) refl

pub not_after_back : (a b : Option Node) → clock_not_after a b ≡ false → clock_not_after b a ≡ true
not_after_back None b h = absurd (true≢false h)
not_after_back (Some a) None h = refl
not_after_back (Some a) (Some b) h = back_order named_cmp named_total (named a) (named b) (named_cmp (named a) (named b)) refl h

pub not_after_next : (a b c : Option Node) → clock_not_after a b ≡ true → clock_not_after b c ≡ true → clock_not_after a c ≡ true
not_after_next None b c h k = refl
not_after_next (Some a) None c h k = absurd (false≢true h)
not_after_next (Some a) (Some b) None h k = absurd (false≢true k)
not_after_next (Some a) (Some b) (Some c) h k =
    next_order named_cmp named_total (named a) (named b) (named c) (named_cmp (named a) (named b)) (named_cmp (named b) (named c)) refl refl h k
