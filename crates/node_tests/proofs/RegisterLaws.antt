-- The tests of a register's data node, clock pin by clock pin.

use Rattle.std.proofs.Common.{◌≡◌, ℤ, Bool, true, false, not, List, [], ◌∷◌, ◌++◌, map, filter, length, Option, None, Some, refl, sym, ap, ◌∙◌, inl, inr, arith}
use Rattle.std.specs.Prelude.{option_map, option_and_then, nat_lt, ◌&&◌, ◌||◌}
use Rattle.std.specs.List.{cons_option, filter_map, flat_map, list_any}
use Rattle.std.proofs.lemmas.Bool.{cases_Bool, false≢true, lt-ltb}
use Rattle.timing_defs.specs.declared.kinds.Split.TheVariants.{Early, Late}
use Rattle.timing_defs.specs.declared.kinds.Kind.{Kind}
use Rattle.timing_defs.specs.declared.library.CellPin.{CellPin}
use Rattle.timing_defs.specs.declared.library.CellTest.{CellTest}
use Rattle.timing_defs.specs.declared.netlist.Inst.{Inst}
use Rattle.timing_defs.specs.declared.design.Design.{Design}
use Rattle.timing_defs.specs.Lookup.{look}
use Rattle.timing_defs.specs.Netlist.{Node, cell_pin, cell_pins, cell_of, inst_pins, both_nodes}
use Rattle.timing_rules.specs.Clocking.{is_network}
use Rattle.timing_rules.specs.Rows.{arrival, outermost, outer_some, slew}
use Rattle.timing_defs.specs.Kinds.{data_split, clock_split}
use Rattle.timing_rules.specs.Tests.{network_walk, first_edge, test_on, library_tests, need_at, test_along, register_tests}
use Rattle.timing_rules.specs.Range.{need_within, fine_slew, is_need_origin_at}
use Rattle.node_tests.specs.Registers.{captured, test_at, clock_nodes, tests_by, is_wide_by}

off : {X Y : Type 0} (o : Option X) → option_and_then {U = Y} (λ x. None) o ≡ None
off None = refl
off (Some x) = refl

-- where a look-up has no value all have none
none_outer : {X : Type 0} (value : X → Option ℤ) (xs : List X) → ((x : X) → value x ≡ None) → outermost Late value None xs ≡ None
none_outer value [] none = refl
none_outer value (x ∷ xs) none = ap (λ o. outermost Late value (outer_some Late None o) xs) (none x) ∙ none_outer value xs none

module _ (d : Design) (kind : Kind) (inst : Inst) (target clock : Node) where
  -- the time that the tests need, once both slews are there
  pub need_told : (x y : ℤ) → slew d (clock_split kind) clock ≡ Some x → slew d (data_split kind) target ≡ Some y
      → need_at d kind inst target clock ≡ outermost Late (λ test. Some (look test.need x y)) None (library_tests d kind inst target clock)
  need_told x y e f =
      ap (λ o. outermost Late (λ test. option_and_then (λ v. option_map (look test.need v) (slew d (data_split kind) target)) o) None (library_tests d kind inst target clock)) e
      ∙ ap (λ o. outermost Late (λ test. option_map (look test.need x) o) None (library_tests d kind inst target clock)) f

  pub no_clock_slew : slew d (clock_split kind) clock ≡ None → need_at d kind inst target clock ≡ None
  no_clock_slew e =
      none_outer (λ test. option_and_then (λ v. option_map (look test.need v) (slew d (data_split kind) target)) (slew d (clock_split kind) clock))
      (library_tests d kind inst target clock)
      (λ test. ap (option_and_then (λ v. option_map (look test.need v) (slew d (data_split kind) target))) e)

  pub no_data_slew : slew d (data_split kind) target ≡ None → need_at d kind inst target clock ≡ None
  no_data_slew e =
      none_outer (λ test. option_and_then (λ v. option_map (look test.need v) (slew d (data_split kind) target)) (slew d (clock_split kind) clock))
      (library_tests d kind inst target clock)
      (λ test. ap (λ o. option_and_then (λ v. option_map (look test.need v) o) (slew d (clock_split kind) clock)) e ∙ by (slew d (clock_split kind) clock) test)
    where
      by : (o : Option ℤ) (test : CellTest) → option_and_then (λ v. option_map (look test.need v) None) o ≡ None
      by None test = refl
      by (Some v) test = refl

  pub no_test : library_tests d kind inst target clock ≡ [] → need_at d kind inst target clock ≡ None
  no_test e =
      ap (outermost Late (λ test. option_and_then (λ v. option_map (look test.need v) (slew d (data_split kind) target)) (slew d (clock_split kind) clock)) None) e

  -- the test is the capture with that need
  pub test_is : test_at d kind inst target clock ≡ option_and_then (captured d clock) (need_at d kind inst target clock)
  test_is = by (need_at d kind inst target clock) refl
    where
      empty : (o : Option (List Node)) → need_at d kind inst target clock ≡ None → option_and_then (test_along d kind inst target clock) o ≡ None
      empty None e = refl
      empty (Some walk) e =
          ap (λ n. option_and_then (λ edge. option_and_then (λ need. option_and_then (λ early. option_map (test_on clock walk edge need early) (arrival d Late clock edge))
          (arrival d Early clock edge)) n) (first_edge d walk)) e ∙ off (first_edge d walk)

      some : (o : Option (List Node)) (n : ℤ) → need_at d kind inst target clock ≡ Some n → option_and_then (test_along d kind inst target clock) o
          ≡ option_and_then (λ walk. option_and_then (λ edge. option_and_then (λ early. option_map (test_on clock walk edge n early) (arrival d Late clock edge))
          (arrival d Early clock edge)) (first_edge d walk)) o
      some None n e = refl
      some (Some walk) n e =
          ap (λ m. option_and_then (λ edge. option_and_then (λ need. option_and_then (λ early. option_map (test_on clock walk edge need early) (arrival d Late clock edge))
          (arrival d Early clock edge)) m) (first_edge d walk)) e

      by : (o : Option ℤ) → need_at d kind inst target clock ≡ o → test_at d kind inst target clock ≡ option_and_then (captured d clock) o
      by None e = empty (network_walk d clock) e
      by (Some n) e = some (network_walk d clock) n e

  -- where both slews are fine, a need leaves its limit where the clock pin is of the network
  pub origin_is : fine_slew d (data_split kind) target ≡ true → fine_slew d (clock_split kind) clock ≡ true
      → is_need_origin_at d kind target inst clock ≡ (is_network d clock.pin && not (need_within d kind target clock inst))
  origin_is e f = rw e (rw f (by (is_network d clock.pin)))
    where
      by : (b : Bool) → ((b && true) && true && not (need_within d kind target clock inst)) ≡ (b && not (need_within d kind target clock inst))
      by true = refl
      by false = refl

-- filters
kept_map : {X Y : Type 0} (p : X → Bool) (f : X → Option Y) (xs : List X) → ((x : X) → p x ≡ false → f x ≡ None) → filter_map f (filter p xs) ≡ filter_map f xs
kept_map p f [] none = refl
kept_map p f (x ∷ xs) none = elim (cases_Bool (p x)) [
  | inl e ↦ rw e (ap (cons_option (f x)) (kept_map p f xs none))
  | inr e ↦ let g = none x e in rw e (rw g (kept_map p f xs none))
]

empty_is : {X : Type 0} (xs : List X) → nat_lt 0 (length xs) ≡ false → xs ≡ []
empty_is [] e = refl
empty_is (x ∷ xs) e = absurd (false≢true (sym e ∙ lt-ltb 0 (length (x ∷ xs)) (omega arith)))

map_more : {X Y : Type 0} (f : X → Option Y) (xs ys : List X) → filter_map f (xs ++ ys) ≡ filter_map f xs ++ filter_map f ys
map_more f [] ys = refl
map_more {Y = Y} f (x ∷ xs) ys = ap (cons_option (f x)) (map_more f xs ys) ∙ by (f x)
  where
    by : (o : Option Y) → cons_option o (filter_map f xs ++ filter_map f ys) ≡ cons_option o (filter_map f xs) ++ filter_map f ys
    by None = refl
    by (Some y) = refl

any_more : {X : Type 0} (p : X → Bool) (xs ys : List X) → list_any p (xs ++ ys) ≡ (list_any p xs || list_any p ys)
any_more p [] ys = refl
any_more p (x ∷ xs) ys = ap (λ b. p x || b) (any_more p xs ys) ∙ by (p x) (list_any p xs) (list_any p ys)
  where
    by : (a b c : Bool) → (a || (b || c)) ≡ ((a || b) || c)
    by true b c = refl
    by false b c = refl

module _ (d : Design) (kind : Kind) (inst : Inst) (target : Node) where
  by_pins : (pins : List CellPin) → filter_map (test_at d kind inst target) (flat_map both_nodes (map (cell_pin inst) pins)) ≡ flat_map (tests_by d kind inst target) pins
  by_pins [] = refl
  by_pins (p ∷ ps) =
      map_more (test_at d kind inst target) (clock_nodes inst p) (flat_map both_nodes (map (cell_pin inst) ps)) ∙ ap (λ ts. tests_by d kind inst target p ++ ts) (by_pins ps)

  wide_by_pins : (pins : List CellPin) → list_any (is_need_origin_at d kind target inst) (flat_map both_nodes (map (cell_pin inst) pins)) ≡ list_any (is_wide_by d kind inst target) pins
  wide_by_pins [] = refl
  wide_by_pins (p ∷ ps) =
      any_more (is_need_origin_at d kind target inst) (clock_nodes inst p) (flat_map both_nodes (map (cell_pin inst) ps)) ∙ ap (λ b. is_wide_by d kind inst target p || b) (wide_by_pins ps)

  no_library : (clock : Node) → nat_lt 0 (length (library_tests d kind inst target clock)) ≡ false → test_at d kind inst target clock ≡ None
  no_library clock e =
      test_is d kind inst target clock
      ∙ ap (option_and_then (captured d clock)) (no_test d kind inst target clock (empty_is (library_tests d kind inst target clock) e))

  pub register_is : register_tests d kind target inst ≡ flat_map (tests_by d kind inst target) (cell_pins (cell_of d Late inst))
  register_is =
      kept_map (λ clock. nat_lt 0 (length (library_tests d kind inst target clock))) (test_at d kind inst target) (flat_map both_nodes (inst_pins d inst)) no_library
      ∙ by_pins (cell_pins (cell_of d Late inst))

  pub wide_is : list_any (is_need_origin_at d kind target inst) (flat_map both_nodes (inst_pins d inst)) ≡ list_any (is_wide_by d kind inst target) (cell_pins (cell_of d Late inst))
  wide_is = wide_by_pins (cell_pins (cell_of d Late inst))
