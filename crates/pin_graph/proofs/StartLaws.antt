-- Where clocks begin and where they end, as lists grow.

use Rattle.std.proofs.Common.{◌≡◌, ℕ, ◌+◌, ◌<◌, Bool, true, false, List, [], ◌∷◌, ◌++◌, length, get_or, Option, None, Some, Result, Ok, Err, refl, sym, ap, ◌∙◌, inl, inr, arith, length-append}
use Rattle.std.specs.Prelude.{is_some, option_and_then, option_map, ◌&&◌, IfOk}
use Rattle.std.specs.List.{filter_map}
use Rattle.std.specs.Option.{option_map_or}
use Rattle.std.proofs.lemmas.Bool.{cases_eq, false≢true}
use Rattle.std.proofs.lemmas.List.{append-nil, get_or_append_left, get_or_push}
use Rattle.timing_defs.specs.declared.kinds.Split.TheVariants.{Late}
use Rattle.timing_defs.specs.declared.library.Cell.{Cell}
use Rattle.timing_defs.specs.declared.netlist.Inst.{Inst}
use Rattle.timing_defs.specs.Netlist.{Pin, is_driver, cell_of}
use Rattle.timing_defs.specs.Edits.{inst_named}
use Rattle.timing_rules.specs.Clocking.{cell_tests}
use Rattle.timing_rules.specs.Rows.{is_input_port}
use Rattle.netlist_store.specs.Numbering.{Stored, name_at, number_of, is_number, inst_numbered}
use Rattle.pin_graph.specs.Joins.{own_number}
use Rattle.pin_graph.specs.Networks.{inst_tests, tests_of}
use Rattle.timing_defs.proofs.Members.{some_is}
use Rattle.store_pins.proofs.PinLaws.{told_at}

pub number_is : (names : List (Option (List ℕ))) (name : List ℕ) (n : ℕ) → Some n ≡ number_of names name → is_number names n ≡ true
number_is names name n e = ap is_some (told_at names name n (sym e))

-- whether a pin is an input port, by what is told of it
pub owned_input : (o : Option Pin) (owner : Option ℕ) (i : ℕ) → is_some owner ≡ is_some (option_and_then (λ p. p.owner) o) → owner ≡ Some i
    → false ≡ option_map_or is_input_port o false
owned_input None owner i e f = refl
owned_input (Some p) owner i e f = by p.owner refl
  where
    by : (w : Option Inst) → p.owner ≡ w → false ≡ is_input_port p
    by None own = absurd (false≢true (sym (ap is_some own) ∙ sym e ∙ ap is_some f))
    by (Some j) own = sym (ap (λ x. option_map_or (λ (inst : Inst). false) x true && is_driver p) own)

pub free_input : (o : Option Pin) (owner : Option ℕ) (d : Bool) → is_some owner ≡ is_some (option_and_then (λ p. p.owner) o) → owner ≡ None
    → option_map is_driver o ≡ Some d → d ≡ option_map_or is_input_port o false
free_input None owner d e f g = absurd (cc)
free_input (Some p) owner d e f g = by p.owner refl
  where
    by : (w : Option Inst) → p.owner ≡ w → d ≡ is_input_port p
    by None own = sym (some_is g) ∙ sym (ap (λ x. option_map_or (λ (inst : Inst). false) x true && is_driver p) own)
    by (Some j) own = absurd (false≢true (sym (ap is_some f) ∙ e ∙ ap is_some own))

pub gap_tests : (s : Stored) (n : ℕ) (pins : List ℕ) → is_number s.insts n ≡ false → pins ≡ pins ++ tests_of s n
gap_tests s n pins e = by (name_at s.insts n) refl
  where
    by : (o : Option (List ℕ)) → name_at s.insts n ≡ o → pins ≡ pins ++ tests_of s n
    by None h =
        let none : inst_numbered s n ≡ None = ap (option_and_then (inst_named s.design.insts)) h in
        sym (ap (λ o. pins ++ option_map_or (inst_tests s) o []) none ∙ append-nil pins)
    by (Some name) h = absurd (false≢true (sym e ∙ ap is_some h))

pub tests_put : (s : Stored) (n : ℕ) (inst : Inst) (cell : Cell) (old new : List ℕ) → inst_numbered s n ≡ Some inst
    → option_and_then (cell_of s.design Late) (inst_numbered s n) ≡ Some cell → new ≡ old ++ filter_map (λ test. own_number s inst test.clock) cell.tests
    → new ≡ old ++ tests_of s n
tests_put s n inst cell old new e f put =
    let g : cell_of s.design Late inst ≡ Some cell = sym (ap (option_and_then (cell_of s.design Late)) e) ∙ f in
    put ∙ ap (λ ks. old ++ ks)
    (sym (ap (λ o. option_map_or (inst_tests s) o []) e ∙ ap (λ o. filter_map (λ test. own_number s inst test.clock) (cell_tests o)) g))

-- the marks of both, so far
pub record AreBoth (a b marks : List Bool) (i : ℕ) : Type 0 where
  pub count : length marks ≡ i
  pub each : (m : ℕ) → m < i → get_or marks m false ≡ (get_or a m false && get_or b m false)

pub both_none : (a b marks : List Bool) → marks ≡ [] → AreBoth a b marks 0
both_none a b marks e = record { count = ap length e; each = λ m low. absurd (omega arith) }

pub both_more : (a b marks marks2 : List Bool) (i : ℕ) (here : Bool) → AreBoth a b marks i → here ≡ (get_or a i false && get_or b i false) → marks2 ≡ marks ++ here ∷ []
    → AreBoth a b marks2 (i + 1)
both_more a b marks marks2 i here had is put = record {
  count = omega (arith, ap length put, length-append marks (here ∷ []), had.count);
  each = λ m low. elim (cases_eq m i) [
    | inl same ↦
        ap (λ ms. get_or ms m false) put ∙ get_or_push marks here false m (had.count ∙ sym same) ∙ is
        ∙ ap (λ k. get_or a k false && get_or b k false) (sym same)
    | inr other ↦
        ap (λ ms. get_or ms m false) put ∙ get_or_append_left marks (here ∷ []) false m (omega (arith, had.count)) ∙ had.each m (omega arith)
  ];
}

-- what two clauses of one answer say together
pub marks_ok : {E : Type 0} (P : List Bool → Type 0) (r : Result (List Bool) E) (a b : List Bool)
    → ((marks : List Bool) → length marks ≡ length a → ((m : ℕ) → m < length a → get_or marks m false ≡ (get_or a m false && get_or b m false)) → P marks)
    → IfOk r (λ marks. length marks ≡ length a)
    → IfOk r (λ marks. (m : ℕ) → m < length a → get_or marks m false ≡ (get_or a m false && get_or b m false))
    → IfOk r P
marks_ok P (Ok marks) a b f h k = f marks h k
marks_ok P (Err e) a b f h k = tt
