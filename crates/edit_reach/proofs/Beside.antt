-- The pins of seeds, the ports and the pins of instances with tests are all that may be endpoints beside nodes.

use Rattle.std.proofs.Common.{◌≡◌, ℕ, ◌+◌, ◌<◌, Bool, true, false, not, List, [], ◌∷◌, ◌++◌, map, length, get_or, take, append_assoc, Option, Some, None, refl, sym, ap, subst, ◌∙◌, inl, inr}
use Rattle.std.specs.Prelude.{nat_eq, Contains, is_some, if◌then◌else◌, option_and_then}
use Rattle.std.specs.List.{filter_map, flat_map, list_any}
use Rattle.std.specs.Option.{option_map_or}
use Rattle.std.specs.Str.{bytes_eq}
use Rattle.std.proofs.lemmas.Bool.{false≢true, eqb-true, and_parts}
use Rattle.std.proofs.lemmas.List.{append-nil, take_more}
use Rattle.std.proofs.lemmas.List.Concat.{flat_map-append}
use Rattle.std.proofs.lemmas.List.Elements.{All-contains, Contains-append_left, Contains-append_right}
use Rattle.indexmap.specs.IndexSet.{insert_all}
use Rattle.timing_defs.specs.declared.kinds.Split.TheVariants.{Late}
use Rattle.timing_defs.specs.declared.library.Cell.{Cell}
use Rattle.timing_defs.specs.declared.library.CellPin.{CellPin}
use Rattle.timing_defs.specs.declared.library.CellTest.{CellTest}
use Rattle.timing_defs.specs.declared.netlist.Inst.{Inst}
use Rattle.timing_defs.specs.Netlist.{Pin, name_of, pin_named, is_driver, cell_of, cell_pins}
use Rattle.timing_rules.specs.Clocking.{cell_tests}
use Rattle.timing_rules.specs.Tests.{tests_pin, is_endpoint}
use Rattle.timing_defs.specs.Edits.{inst_named}
use Rattle.netlist_store.specs.Linked.{IsLinked}
use Rattle.netlist_store.specs.Numbering.{Stored, name_at, number_of, is_number, pin_numbered, inst_numbered, owner_number, IsNumbered}
use Rattle.pin_graph.specs.Joins.{own_number}
use Rattle.pin_graph.specs.Nodes.{pin_under}
use Rattle.timing_defs.proofs.Members.{some_is, any_back, in_map, in_filter_map, in_flat_map}
use Rattle.store_pins.proofs.PinLaws.{HasNumber, pin_at_number, inst_told, own_back}
use Rattle.edit_reach.proofs.Insertions.{grown}
use Rattle.edit_reach.specs.Reach.{is_in, IsBeside, HasDirty}
use Rattle.edit_reach.specs.Besides.{inst_under, is_some_test, is_tested, tested_under, port_of, port_under, pins_of_cell, inst_pins_at}

-- what is put into a set is in it, and what is in a list stands there
pub put_in : (xs new : List ℕ) → new ≡ insert_all nat_eq [] xs → (x : ℕ) → Contains xs x → is_in new x ≡ true
put_in xs new e x c =
    subst (λ ns. is_in ns x ≡ true) (sym e)
    (All-contains (λ y. is_in (insert_all nat_eq [] xs) y ≡ true) xs x (grown (λ y. Unit {0}) xs [] (λ i d l. tt)).there c)

pub stands_in : (xs : List ℕ) (x : ℕ) → is_in xs x ≡ true → Contains xs x
stands_in xs x h = let r = any_back (nat_eq x) xs h in subst (Contains xs) (sym (eqb-true x r.item r.passes)) r.within

-- a gap has no instance
pub gap_owner : (s : Stored) (pin : ℕ) → is_number s.pins pin ≡ false → owner_number s pin ≡ None
gap_owner s pin gap = by (name_at s.pins pin) refl
  where
    by : (o : Option (List ℕ)) → name_at s.pins pin ≡ o → owner_number s pin ≡ None
    by None h =
        ap (λ o. option_and_then (λ (inst : Inst). number_of s.insts inst.name) (option_and_then (λ (p : Pin). p.owner) (option_and_then (pin_named s.design) o))) h
    by (Some name) h = absurd (false≢true (sym gap ∙ ap is_some h))

pub gap_pins : (s : Stored) (n : ℕ) (pins : List ℕ) → is_number s.insts n ≡ false → pins ≡ pins ++ inst_pins_at s n
gap_pins s n pins gap = by (name_at s.insts n) refl
  where
    by : (o : Option (List ℕ)) → name_at s.insts n ≡ o → pins ≡ pins ++ inst_pins_at s n
    by None h =
        let none : inst_numbered s n ≡ None = ap (option_and_then (inst_named s.design.insts)) h in
        sym (ap (λ o. pins ++ option_map_or (λ inst. pins_of_cell s inst (cell_pins (cell_of s.design Late inst))) o []) none ∙ append-nil pins)
    by (Some name) h = absurd (false≢true (sym gap ∙ ap is_some h))

pub pins_put : (s : Stored) (n : ℕ) (inst : Inst) (cell : Cell) (old new : List ℕ) → inst_numbered s n ≡ Some inst
    → option_and_then (cell_of s.design Late) (inst_numbered s n) ≡ Some cell → new ≡ old ++ pins_of_cell s inst cell.pins → new ≡ old ++ inst_pins_at s n
pins_put s n inst cell old new e f put =
    let g : cell_of s.design Late inst ≡ Some cell = sym (ap (option_and_then (cell_of s.design Late)) e) ∙ f in
    put ∙ ap (λ ks. old ++ ks)
    (sym (ap (λ o. option_map_or (λ inst. pins_of_cell s inst (cell_pins (cell_of s.design Late inst))) o []) e ∙ ap (λ o. pins_of_cell s inst (cell_pins o)) g))

pub flat_more : {X Y : Type 0} (f : X → List Y) (base ys ys' : List Y) (xs : List X) (i : ℕ) (x : X) → i < length xs → x ≡ get_or xs i x
    → ys ≡ base ++ flat_map f (take i xs) → ys' ≡ ys ++ f x → ys' ≡ base ++ flat_map f (take (i + 1) xs)
flat_more {X} f base ys ys' xs i x low here had put =
    let more : flat_map f (take (i + 1) xs) ≡ flat_map f (take i xs) ++ f x =
    ap (flat_map f) (take_more xs i x low) ∙ flat_map-append f (take i xs) (get_or xs i x ∷ [])
    ∙ ap (λ (z : X). flat_map f (take i xs) ++ flat_map f (z ∷ [])) (sym here)
    ∙ ap (λ zs. flat_map f (take i xs) ++ zs) (append-nil (f x)) in
    put ∙ ap (λ zs. zs ++ f x) had ∙ append_assoc base (flat_map f (take i xs)) (f x) ∙ ap (λ zs. base ++ zs) (sym more)

module _ (s : Stored) (num : IsNumbered s) (linked : IsLinked s.design) where
  -- a pin is among those of its instance
  pub own_pins_at : (pin inst : ℕ) → is_number s.pins pin ≡ true → owner_number s pin ≡ Some inst → Contains (inst_pins_at s inst) pin
  own_pins_at pin inst there owner =
      let p = pin_at_number s num linked pin there in
      by p.0 p.1 p.0.owner refl (sym (ap (λ o. option_and_then (λ (i : Inst). number_of s.insts i.name) (option_and_then (λ (x : Pin). x.owner) o)) p.1.pin) ∙ owner)
    where
      by : (p : Pin) → HasNumber s p pin → (o : Option Inst) → p.owner ≡ o → option_and_then (λ (i : Inst). number_of s.insts i.name) p.owner ≡ Some inst
          → Contains (inst_pins_at s inst) pin
      by p has None e f = let g : None ≡ Some inst = sym (ap (option_and_then (λ (i : Inst). number_of s.insts i.name)) e) ∙ f in absurd (cc)
      by p has (Some i) e f =
          let own = own_back s.design linked p i has.within e in
          let t = inst_told s num linked i own.inst in
          let same : t.0 ≡ inst = some_is (sym t.1.number ∙ sym (ap (option_and_then (λ (j : Inst). number_of s.insts j.name)) e) ∙ f) in
          let at : inst_numbered s inst ≡ Some i = sym (ap (inst_numbered s) same) ∙ t.1.inst in
          let told : own_number s i own.pin.name ≡ Some pin = sym (ap (λ (q : Pin). number_of s.pins (name_of q)) own.same) ∙ has.number in
          subst (λ (xs : List ℕ). Contains xs pin) (sym (ap (λ o. option_map_or (λ inst. pins_of_cell s inst (cell_pins (cell_of s.design Late inst))) o []) at))
          (in_filter_map (λ (q : CellPin). own_number s i q.name) (cell_pins (cell_of s.design Late i)) own.pin pin own.within told)

  -- whether a pin may be an endpoint: no instance has it, or one whose cell has tests
  abbrev may_end : Stored → ℕ → Bool
  may_end t pin = option_map_or (is_tested t) (owner_number t pin) true

  -- an endpoint may be one
  end_may : (pin : ℕ) → option_map_or (is_endpoint s.design) (pin_numbered s pin) false ≡ true → is_number s.pins pin ≡ true → may_end s pin ≡ true
  end_may pin end there =
      let p = pin_at_number s num linked pin there in
      by p.0 p.1 p.0.owner refl (and_parts (not (is_driver p.0)) (option_map_or (tests_pin s.design p.0.own) p.0.owner true) (sym (ap (λ o. option_map_or (is_endpoint s.design) o false) p.1.pin) ∙ end)).1
    where
      some_test : (own : List ℕ) (tests : List CellTest) → list_any (λ test. bytes_eq test.pin own) tests ≡ true → is_some_test tests ≡ true
      some_test own [] h = absurd (false≢true h)
      some_test own (test ∷ tests) h = refl

      owned : (p : Pin) → HasNumber s p pin → owner_number s pin ≡ option_and_then (λ (i : Inst). number_of s.insts i.name) p.owner
      owned p has = ap (λ o. option_and_then (λ (i : Inst). number_of s.insts i.name) (option_and_then (λ (x : Pin). x.owner) o)) has.pin

      by : (p : Pin) → HasNumber s p pin → (o : Option Inst) → p.owner ≡ o → option_map_or (tests_pin s.design p.own) p.owner true ≡ true → may_end s pin ≡ true
      by p has None e f = ap (λ o. option_map_or (is_tested s) o true) (owned p has ∙ ap (option_and_then (λ (i : Inst). number_of s.insts i.name)) e)
      by p has (Some i) e f =
          let t = inst_told s num linked i (own_back s.design linked p i has.within e).inst in
          let number : owner_number s pin ≡ Some t.0 = owned p has ∙ ap (option_and_then (λ (j : Inst). number_of s.insts j.name)) e ∙ t.1.number in
          let tests : list_any (λ test. bytes_eq test.pin p.own) (cell_tests (cell_of s.design Late i)) ≡ true = sym (ap (λ o. option_map_or (tests_pin s.design p.own) o true) e) ∙ f in
          ap (λ o. option_map_or (is_tested s) o true) number
          ∙ ap (λ o. option_map_or (λ inst. is_some_test (cell_tests (cell_of s.design Late inst))) o false) t.1.inst
          ∙ some_test p.own (cell_tests (cell_of s.design Late i)) tests

  pub all_beside : (seeds nodes insts pins dirty : List ℕ) → insts ≡ insert_all nat_eq [] (filter_map (tested_under s) nodes)
      → pins ≡ (map pin_under seeds ++ filter_map (port_under s) nodes) ++ flat_map (inst_pins_at s) insts → dirty ≡ insert_all nat_eq [] pins → HasDirty s seeds nodes dirty
  all_beside seeds nodes insts pins dirty from all of = record { first = first; each = λ n pin h there end near. each n pin h there near (owner_number s pin) refl (end_may pin end there) }
    where
      put : (pin : ℕ) → Contains ((map pin_under seeds ++ filter_map (port_under s) nodes) ++ flat_map (inst_pins_at s) insts) pin → is_in dirty pin ≡ true
      put pin c = put_in pins dirty of pin (subst (λ (xs : List ℕ). Contains xs pin) (sym all) c)

      first : (n : ℕ) → is_in seeds n ≡ true → is_in dirty (pin_under n) ≡ true
      first n h =
          put (pin_under n)
          (Contains-append_left (map pin_under seeds ++ filter_map (port_under s) nodes) (flat_map (inst_pins_at s) insts) (pin_under n)
          (Contains-append_left (map pin_under seeds) (filter_map (port_under s) nodes) (pin_under n) (in_map pin_under seeds n (stands_in seeds n h))))

      port : (n pin : ℕ) → IsBeside s (pin_under n) pin → owner_number s pin ≡ None → port_under s n ≡ Some pin
      port n pin (inl same) e = ap (port_of (pin_under n)) (ap (owner_number s) same ∙ e) ∙ ap Some same
      port n pin (inr (inst, a, b)) e = let f : None ≡ Some inst = sym e ∙ b in absurd (cc)

      own : (n pin inst : ℕ) → IsBeside s (pin_under n) pin → owner_number s pin ≡ Some inst → inst_under s n ≡ Some inst
      own n pin inst (inl same) e = ap (owner_number s) same ∙ e
      own n pin inst (inr (other, a, b)) e = a ∙ sym b ∙ e

      each : (n pin : ℕ) → is_in nodes n ≡ true → is_number s.pins pin ≡ true → IsBeside s (pin_under n) pin → (o : Option ℕ) → owner_number s pin ≡ o → may_end s pin ≡ true
          → is_in dirty pin ≡ true
      each n pin h there near None e may =
          put pin
          (Contains-append_left (map pin_under seeds ++ filter_map (port_under s) nodes) (flat_map (inst_pins_at s) insts) pin
          (Contains-append_right (map pin_under seeds) (filter_map (port_under s) nodes) pin (in_filter_map (port_under s) nodes n pin (stands_in nodes n h) (port n pin near e))))
      each n pin h there near (Some inst) e may =
          let tested : is_tested s inst ≡ true = sym (ap (λ o. option_map_or (is_tested s) o true) e) ∙ may in
          let told : tested_under s n ≡ Some inst =
          ap (option_and_then (λ i. if is_tested s i then Some i else None)) (own n pin inst near e) ∙ ap (λ (b : Bool). if b then Some inst else None) tested in
          let c = stands_in insts inst (put_in (filter_map (tested_under s) nodes) insts from inst (in_filter_map (tested_under s) nodes n inst (stands_in nodes n h) told)) in
          put pin
          (Contains-append_right (map pin_under seeds ++ filter_map (port_under s) nodes) (flat_map (inst_pins_at s) insts) pin
          (in_flat_map (inst_pins_at s) insts inst pin c (own_pins_at pin inst there e)))
