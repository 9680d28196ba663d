-- The greatest need of some tests, test by test.

use Rattle.std.proofs.Common.{◌≡◌, ℕ, zero, suc, ◌+◌, ◌<◌, ◌≤◌, ℤ, unsigned_abs, Bool, true, false, ◌&&◌, List, [], ◌∷◌, filter, drop, length, get_or, Option, None, Some, Result, Ok, Err, refl, ap, sym, ◌∙◌, inl, inr, arith, add-one}
use Rattle.std.specs.Prelude.{IfErr}
use Rattle.std.specs.List.{list_all}
use Rattle.std.proofs.Math.Seq.{drop-cons}
use Rattle.std.proofs.lemmas.Bool.{cases_Bool, false≢true, and_parts, le-leb}
use Rattle.sta_units.specs.Numbers.{limit, is_within}
use Rattle.timing_defs.specs.declared.kinds.Split.TheVariants.{Late}
use Rattle.timing_defs.specs.declared.library.CellTest.{CellTest}
use Rattle.timing_defs.specs.Lookup.{look}
use Rattle.timing_rules.specs.Rows.{outer_some}
use Rattle.node_tests.specs.declared.needs.TestEnds.{TestEnds}
use Rattle.node_tests.specs.Needs.{is_test_between, is_need_in, greatest_need}

-- what is known holds of each error
pub any_err : {T E : Type 0} (r : Result T E) (A : Type 0) → A → IfErr r (λ _. A)
any_err (Ok x) A a = tt
any_err (Err e) A a = a

pub more : {X : Type 0} (xs : List X) (i : ℕ) (x : X) → i < length xs → x ≡ get_or xs i x → drop i xs ≡ x ∷ drop (i + 1) xs
more xs i x low e = rw (add-one, drop-cons xs i x) (ap (λ y. y ∷ drop (suc i) xs) (sym e))

pub each_at : {X : Type 0} (p : X → Bool) (xs : List X) (i : ℕ) (x : X) → list_all p xs ≡ true → i < length xs → x ≡ get_or xs i x → p x ≡ true
each_at p [] i x all low e = absurd (omega arith)
each_at p (y ∷ ys) zero x all low e = ap p e ∙ (and_parts (p y) (list_all p ys) all).0
each_at p (y ∷ ys) (suc i) x all low e = each_at p ys i x (and_parts (p y) (list_all p ys) all).1 (omega arith) e

module _ (p q : CellTest → Bool) where
  fine_first : (test : CellTest) (tests : List CellTest) → list_all q (filter p (test ∷ [])) ≡ true → list_all q (filter p (test ∷ tests)) ≡ list_all q (filter p tests)
  fine_first test tests h = elim (cases_Bool (p test)) [
    | inl e ↦
        let here : (q test && true) ≡ true = rw e at h in
        rw e (ap (λ b. b && list_all q (filter p tests)) (and_parts (q test) true here).0)
    | inr e ↦ rw e refl
  ]

  wrong_first : (test : CellTest) (tests : List CellTest) → list_all q (filter p (test ∷ [])) ≡ false → list_all q (filter p (test ∷ tests)) ≡ false
  wrong_first test tests h = elim (cases_Bool (p test)) [
    | inl e ↦
        let here : (q test && true) ≡ false = rw e at h in
        rw e (by (q test) here)
    | inr e ↦
        let none : true ≡ false = rw e at h in
        absurd (false≢true (sym none))
  ]
    where
      by : (b : Bool) → (b && true) ≡ false → (b && list_all q (filter p tests)) ≡ false
      by true h = absurd (false≢true (sym h))
      by false h = refl

module _ (clock_slew data_slew : ℤ) (ends : TestEnds) where
  more_need : (best next : Option ℤ) (test : CellTest) (tests : List CellTest) → next ≡ greatest_need clock_slew data_slew best (filter (is_test_between ends) (test ∷ []))
      → greatest_need clock_slew data_slew next (filter (is_test_between ends) tests) ≡ greatest_need clock_slew data_slew best (filter (is_test_between ends) (test ∷ tests))
  more_need best next test tests e = elim (cases_Bool (is_test_between ends test)) [
    | inl h ↦
        let f : next ≡ greatest_need clock_slew data_slew best (test ∷ []) = rw h at e in
        rw h (ap (λ v. greatest_need clock_slew data_slew v (filter (is_test_between ends) tests)) f)
    | inr h ↦
        let f : next ≡ greatest_need clock_slew data_slew best [] = rw h at e in
        rw h (ap (λ v. greatest_need clock_slew data_slew v (filter (is_test_between ends) tests)) f)
  ]

  -- what holds as the tests from a place on are still to come
  pub record IsPassing (tests : List CellTest) (best : Option ℤ) (i : ℕ) : Type 0 where
    pub need : greatest_need clock_slew data_slew best (filter (is_test_between ends) (drop i tests)) ≡ greatest_need clock_slew data_slew None (filter (is_test_between ends) tests)
    pub fine : list_all (is_need_in clock_slew data_slew) (filter (is_test_between ends) (drop i tests)) ≡ list_all (is_need_in clock_slew data_slew) (filter (is_test_between ends) tests)

  pub passed : (tests : List CellTest) (best next : Option ℤ) (i : ℕ) (test : CellTest) → i < length tests → test ≡ get_or tests i test
      → next ≡ greatest_need clock_slew data_slew best (filter (is_test_between ends) (test ∷ []))
      → list_all (is_need_in clock_slew data_slew) (filter (is_test_between ends) (test ∷ [])) ≡ true
      → IsPassing tests best i → IsPassing tests next (i + 1)
  passed tests best next i test low at e fine p =
      let cut = more tests i test low at in
      record {
        need = more_need best next test (drop (i + 1) tests) e
            ∙ ap (λ xs. greatest_need clock_slew data_slew best (filter (is_test_between ends) xs)) (sym cut) ∙ p.need;
        fine = sym (fine_first (is_test_between ends) (is_need_in clock_slew data_slew) test (drop (i + 1) tests) fine)
            ∙ ap (λ xs. list_all (is_need_in clock_slew data_slew) (filter (is_test_between ends) xs)) (sym cut) ∙ p.fine;
      }

  pub failed : (tests : List CellTest) (best : Option ℤ) (i : ℕ) (test : CellTest) → i < length tests → test ≡ get_or tests i test
      → list_all (is_need_in clock_slew data_slew) (filter (is_test_between ends) (test ∷ [])) ≡ false
      → IsPassing tests best i → list_all (is_need_in clock_slew data_slew) (filter (is_test_between ends) tests) ≡ false
  failed tests best i test low at wrong p =
      sym p.fine ∙ ap (λ xs. list_all (is_need_in clock_slew data_slew) (filter (is_test_between ends) xs)) (more tests i test low at)
      ∙ wrong_first (is_test_between ends) (is_need_in clock_slew data_slew) test (drop (i + 1) tests) wrong

pub within_of : (a x : ℤ) → a ≡ x → unsigned_abs a ≤ limit → is_within x ≡ true
within_of a x e h = sym (ap is_within e) ∙ le-leb (unsigned_abs a) limit h

-- a test that stands between the two nodes
module _ (clock_slew data_slew : ℤ) (ends : TestEnds) (test : CellTest) (stands : is_test_between ends test ≡ true) where
  pub its_wrong : is_need_in clock_slew data_slew test ≡ false → list_all (is_need_in clock_slew data_slew) (filter (is_test_between ends) (test ∷ [])) ≡ false
  its_wrong h = rw stands (ap (λ b. b && true) h)

  pub its_fine : is_need_in clock_slew data_slew test ≡ true → list_all (is_need_in clock_slew data_slew) (filter (is_test_between ends) (test ∷ [])) ≡ true
  its_fine h = rw stands (ap (λ b. b && true) h)

  pub its_need : (best : Option ℤ) (next told : ℤ) → next ≡ look test.need clock_slew data_slew → Some told ≡ outer_some Late best (Some next)
      → Some told ≡ greatest_need clock_slew data_slew best (filter (is_test_between ends) (test ∷ []))
  its_need best next told e f = rw stands (f ∙ ap (λ (v : ℤ). outer_some Late best (Some v)) e)
