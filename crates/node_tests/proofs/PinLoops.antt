-- The tests of a register's data node, pin by pin of its cell.

use Rattle.std.proofs.Common.{◌≡◌, ℕ, ◌+◌, ◌<◌, Bool, true, false, List, [], ◌∷◌, ◌++◌, take, length, get_or, Option, None, Some, refl, sym, ap, subst, ◌∙◌, arith, append_assoc}
use Rattle.std.specs.Prelude.{◌||◌, option_and_then}
use Rattle.std.specs.List.{cons_option, flat_map, list_any}
use Rattle.std.specs.Option.{option_to_list}
use Rattle.std.proofs.lemmas.List.{take_more, take_all}
use Rattle.std.proofs.lemmas.List.Folds.{list_any-append, list_any_at}
use Rattle.timing_defs.specs.declared.kinds.Tran.TheVariants.{Rise, Fall}
use Rattle.timing_defs.specs.declared.kinds.Split.TheVariants.{Late}
use Rattle.timing_defs.specs.declared.library.CellPin.{CellPin}
use Rattle.timing_defs.specs.declared.faults.Fault.{Fault}
use Rattle.timing_defs.specs.declared.faults.Fault.TheVariants.{UnknownInstance, UnknownNet, UnknownCell, UnknownPin, NameTaken, PinsDiffer, AlreadyConnected, NotConnected, InUse, ManyDrivers, Loop, ClockNotTree, ConstraintDangling, RcNotTree, RcPinsDiffer, OutOfRange, TooLarge, Memory as no_room}
use Rattle.timing_defs.specs.declared.library.Cell.{Cell}
use Rattle.timing_defs.specs.Netlist.{cell_of, cell_pins}
use Rattle.timing_rules.specs.Tests.{Test}
use Rattle.netlist_store.specs.Numbering.{Stored, inst_numbered}
use Rattle.node_rows.specs.Evaluation.{IsPlaced}
use Rattle.node_tests.specs.declared.node_test.NodeTest.{NodeTest}
use Rattle.node_tests.specs.declared.registers.Asked.{Asked}
use Rattle.node_tests.specs.declared.registers.PinTests.{PinTests}
use Rattle.node_tests.specs.NodeTests.{AreTests, MayBeTest}
use Rattle.node_tests.specs.Registers.{ArePinTests, late_pins, pin_node, asked_test, is_pin_wide, pin_tests_of}

-- a fault that stands where less leaves its limit stands where more does
pub placed_more : (a b : Bool) (name : List ℕ) (fault : Fault) → (a ≡ true → b ≡ true) → IsPlaced a name fault → IsPlaced b name fault
placed_more a b name (OutOfRange place) more h = (h.0, more h.1)
placed_more a b name no_room more h = tt
placed_more a b name (UnknownInstance n) more h = absurd h
placed_more a b name (UnknownNet n) more h = absurd h
placed_more a b name (UnknownCell n) more h = absurd h
placed_more a b name (UnknownPin n) more h = absurd h
placed_more a b name (NameTaken n) more h = absurd h
placed_more a b name (PinsDiffer n) more h = absurd h
placed_more a b name (AlreadyConnected n) more h = absurd h
placed_more a b name (NotConnected n) more h = absurd h
placed_more a b name (InUse n) more h = absurd h
placed_more a b name (ManyDrivers n) more h = absurd h
placed_more a b name (Loop n) more h = absurd h
placed_more a b name (ClockNotTree n) more h = absurd h
placed_more a b name (ConstraintDangling n) more h = absurd h
placed_more a b name (RcNotTree n) more h = absurd h
placed_more a b name (RcPinsDiffer n) more h = absurd h
placed_more a b name (TooLarge n) more h = absurd h

pub or_first : (a b : Bool) → a ≡ true → (a || b) ≡ true
or_first a b h = rw h refl

pub or_second : (a b : Bool) → b ≡ true → (a || b) ≡ true
or_second true b h = refl
or_second false b h = h

pub or_neither : (a b : Bool) → a ≡ false → b ≡ false → (a || b) ≡ false
or_neither a b h k = rw h k

module _ (s : Stored) where
  tests_append : (xs ys : List NodeTest) (ts us : List Test) → AreTests s xs ts → AreTests s ys us → AreTests s (xs ++ ys) (ts ++ us)
  tests_append [] ys [] us h k = k
  tests_append [] ys (t ∷ ts) us h k = absurd h
  tests_append (x ∷ xs) ys [] us h k = absurd h
  tests_append (x ∷ xs) ys (t ∷ ts) us h k = (h.0, tests_append xs ys ts us h.1 k)

  as_list : (o : Option NodeTest) (t : Option Test) → MayBeTest s o t → AreTests s (option_to_list o) (option_to_list t)
  as_list None None h = tt
  as_list None (Some t) h = absurd h
  as_list (Some o) None h = absurd h
  as_list (Some o) (Some t) h = (h, tt)

two : (ts : List Test) (a b : Option Test) → (ts ++ option_to_list a) ++ option_to_list b ≡ ts ++ cons_option a (cons_option b [])
two ts None None = append_assoc ts [] []
two ts None (Some b) = append_assoc ts [] (b ∷ [])
two ts (Some a) None = append_assoc ts (a ∷ []) []
two ts (Some a) (Some b) = append_assoc ts (a ∷ []) (b ∷ [])

flat_more : {X Y : Type 0} (f : X → List Y) (xs ys : List X) → flat_map f (xs ++ ys) ≡ flat_map f xs ++ flat_map f ys
flat_more f [] ys = refl
flat_more f (x ∷ xs) ys = ap (λ zs. f x ++ zs) (flat_more f xs ys) ∙ sym (append_assoc (f x) (flat_map f xs) (flat_map f ys))

-- the tests against the first pins of a cell
pub record AreGathered (asked : Asked) (pins : List CellPin) (tests : List NodeTest) (i : ℕ) : Type 0 where
  pub told : AreTests asked.store.now tests (flat_map (pin_tests_of asked) (take i pins))
  pub fine : list_any (is_pin_wide asked) (take i pins) ≡ false

module _ (asked : Asked) (pins : List CellPin) where
  pub none_gathered : (tests : List NodeTest) → tests ≡ [] → AreGathered asked pins tests 0
  none_gathered tests e = record { told = subst (λ (ts : List NodeTest). AreTests asked.store.now ts []) (sym e) tt; fine = refl }

  module _ (tests : List NodeTest) (i : ℕ) (pin : CellPin) (low : i < length pins) (here : pin ≡ get_or pins i pin) (had : AreGathered asked pins tests i) where
    more : take (i + 1) pins ≡ take i pins ++ pin ∷ []
    more = take_more pins i pin low ∙ ap (λ p. take i pins ++ p ∷ []) (sym here)

    pub gathered : (found : PinTests) (one next : List NodeTest) → ArePinTests asked pin found → is_pin_wide asked pin ≡ false
        → one ≡ tests ++ option_to_list found.rise → next ≡ one ++ option_to_list found.fall → AreGathered asked pins next (i + 1)
    gathered found one next are calm put put2 =
        let first = tests_append asked.store.now tests (option_to_list found.rise) (flat_map (pin_tests_of asked) (take i pins))
        (option_to_list (asked_test asked (pin_node asked.store.now asked.inst pin Rise))) had.told
        (as_list asked.store.now found.rise (asked_test asked (pin_node asked.store.now asked.inst pin Rise)) are.rise) in
        let both = tests_append asked.store.now (tests ++ option_to_list found.rise) (option_to_list found.fall)
        (flat_map (pin_tests_of asked) (take i pins) ++ option_to_list (asked_test asked (pin_node asked.store.now asked.inst pin Rise)))
        (option_to_list (asked_test asked (pin_node asked.store.now asked.inst pin Fall))) first
        (as_list asked.store.now found.fall (asked_test asked (pin_node asked.store.now asked.inst pin Fall)) are.fall) in
        let by_pin : flat_map (pin_tests_of asked) (take (i + 1) pins) ≡ flat_map (pin_tests_of asked) (take i pins) ++ (pin_tests_of asked pin ++ []) =
        ap (flat_map (pin_tests_of asked)) more ∙ flat_more (pin_tests_of asked) (take i pins) (pin ∷ []) in
        record {
          told =
              subst (λ (ts : List NodeTest). AreTests asked.store.now ts (flat_map (pin_tests_of asked) (take (i + 1) pins))) (sym (put2 ∙ ap (λ ts. ts ++ option_to_list found.fall) put))
              (subst (λ (ts : List Test). AreTests asked.store.now ((tests ++ option_to_list found.rise) ++ option_to_list found.fall) ts)
              (two (flat_map (pin_tests_of asked) (take i pins)) (asked_test asked (pin_node asked.store.now asked.inst pin Rise)) (asked_test asked (pin_node asked.store.now asked.inst pin Fall))
              ∙ ap (λ ts. flat_map (pin_tests_of asked) (take i pins) ++ ts) (sym (nothing (pin_tests_of asked pin))) ∙ sym by_pin) both);
          fine = ap (list_any (is_pin_wide asked)) more ∙ list_any-append (is_pin_wide asked) (take i pins) (pin ∷ [])
              ∙ or_neither (list_any (is_pin_wide asked) (take i pins)) (is_pin_wide asked pin || false) had.fine (or_neither (is_pin_wide asked pin) false calm refl);
        }
      where
        nothing : (ts : List Test) → ts ++ [] ≡ ts
        nothing [] = refl
        nothing (t ∷ ts) = ap (λ us. t ∷ us) (nothing ts)

    pub wide_found : (name : List ℕ) (fault : Fault) → IsPlaced (is_pin_wide asked pin) name fault → IsPlaced (list_any (is_pin_wide asked) pins) name fault
    wide_found name fault =
        placed_more (is_pin_wide asked pin) (list_any (is_pin_wide asked) pins) name fault (λ wide. list_any_at (is_pin_wide asked) pins i pin low (ap (is_pin_wide asked) (sym here) ∙ wide))

  pub all_gathered : (tests : List NodeTest) → AreGathered asked pins tests (length pins)
      → AreTests asked.store.now tests (flat_map (pin_tests_of asked) pins) × (list_any (is_pin_wide asked) pins ≡ false)
  all_gathered tests had = (
    subst (λ (ps : List CellPin). AreTests asked.store.now tests (flat_map (pin_tests_of asked) ps)) (take_all (length pins) pins (omega arith)) had.told,
    ap (list_any (is_pin_wide asked)) (sym (take_all (length pins) pins (omega arith))) ∙ had.fine,
  )

-- as the code has it
pub gathered_as : (asked : Asked) (items : List CellPin) (cell : Cell) → option_and_then (cell_of asked.store.now.design Late) (inst_numbered asked.store.now asked.inst) ≡ Some cell
    → items ≡ cell.pins → (tests : List NodeTest) (i : ℕ) (pin : CellPin) → i < length items → pin ≡ get_or items i pin → AreGathered asked (late_pins asked.store.now asked.inst) tests i
    → (found : PinTests) (one next : List NodeTest) → ArePinTests asked pin found → is_pin_wide asked pin ≡ false
    → one ≡ tests ++ option_to_list found.rise → next ≡ one ++ option_to_list found.fall → AreGathered asked (late_pins asked.store.now asked.inst) next (i + 1)
gathered_as asked items cell e same tests i pin low here had found one next are calm put put2 =
    let its : items ≡ late_pins asked.store.now asked.inst = same ∙ sym (ap cell_pins e) in
    gathered asked (late_pins asked.store.now asked.inst) tests i pin (subst (λ (ps : List CellPin). i < length ps) its low) (subst (λ (ps : List CellPin). pin ≡ get_or ps i pin) its here) had
    found one next are calm put put2

pub wide_as : (asked : Asked) (items : List CellPin) (cell : Cell) → option_and_then (cell_of asked.store.now.design Late) (inst_numbered asked.store.now asked.inst) ≡ Some cell
    → items ≡ cell.pins → (i : ℕ) (pin : CellPin) → i < length items → pin ≡ get_or items i pin → (name : List ℕ) (fault : Fault) → IsPlaced (is_pin_wide asked pin) name fault
    → IsPlaced (list_any (is_pin_wide asked) (late_pins asked.store.now asked.inst)) name fault
wide_as asked items cell e same i pin low here name fault =
    let its : items ≡ late_pins asked.store.now asked.inst = same ∙ sym (ap cell_pins e) in
    placed_more (is_pin_wide asked pin) (list_any (is_pin_wide asked) (late_pins asked.store.now asked.inst)) name fault
    (λ wide. list_any_at (is_pin_wide asked) (late_pins asked.store.now asked.inst) i pin (subst (λ (ps : List CellPin). i < length ps) its low)
    (ap (is_pin_wide asked) (sym (subst (λ (ps : List CellPin). pin ≡ get_or ps i pin) its here)) ∙ wide))
