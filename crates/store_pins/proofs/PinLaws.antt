-- Pins, instances and their numbers in a store.

use Rattle.std.proofs.Common.{◌≡◌, ℕ, zero, suc, ◌<◌, true, false, List, [], ◌∷◌, ◌++◌, ◌+◌, ◌≤◌, map, length, drop, length-append, get_or, Option, None, Some, refl, sym, ap, subst, ◌∙◌, inl, inr, arith}
use Rattle.std.specs.Prelude.{find, is_some, option_and_then, option_map, ◌&&◌, Contains}
use Rattle.std.specs.List.{flat_map}
use Rattle.std.specs.Option.{option_map_or}
use Rattle.std.specs.Str.{bytes_eq}
use Rattle.std.proofs.lemmas.Bool.{false≢true, and_parts}
use Rattle.std.proofs.lemmas.List.Elements.{Contains-append_right, Contains-append_cases}
use Rattle.std.proofs.lemmas.List.Quantifiers.{position-Some}
use Rattle.timing_defs.specs.declared.kinds.Split.TheVariants.{Late}
use Rattle.timing_defs.specs.declared.kinds.Dir.TheVariants.{Input, Output}
use Rattle.timing_defs.specs.declared.library.Cell.{Cell}
use Rattle.timing_defs.specs.declared.library.CellPin.{CellPin}
use Rattle.timing_defs.specs.declared.library.CellArc.{CellArc}
use Rattle.timing_defs.specs.declared.library.CellTest.{CellTest}
use Rattle.timing_defs.specs.declared.netlist.Inst.{Inst}
use Rattle.timing_defs.specs.declared.design.Design.{Design}
use Rattle.timing_defs.specs.Netlist.{Pin, name_of, full_name, port_pin, cell_pin, cell_pins, cell_of, inst_pins, pins, pin_named, same_dir}
use Rattle.timing_defs.specs.Edits.{inst_named}
use Rattle.timing_defs.specs.Lookup.{is_well_formed}
use Rattle.netlist_store.specs.Linked.{IsLinked}
use Rattle.timing_defs.specs.Documents.{is_cell_arc, is_cell_test, is_pin_of, has_pin}
use Rattle.netlist_store.specs.Numbering.{Stored, name_at, number_of, is_named, is_number, inst_numbered, pin_numbered, owner_number, IsNumbered}
use Rattle.store_pins.proofs.PinNames.{insts_apart, pins_apart, arcs_good, tests_good}
use Rattle.timing_defs.proofs.SameNames.{same_is}
use Rattle.timing_defs.proofs.Members.{some_is, in_map, in_map_back, in_flat_map, in_flat_map_back, any_back, all_in, found_in, found_passes, found_by}

get_at : (names : List (Option (List ℕ))) (n : ℕ) → get_or names n None ≡ name_at names n
get_at [] n = refl
get_at (o ∷ os) zero = refl
get_at (o ∷ os) (suc n) = get_at os n

named_is : (name : List ℕ) (o : Option (List ℕ)) → is_named name o ≡ true → o ≡ Some name
named_is name None e = absurd (false≢true e)
named_is name (Some n) e = ap Some (same_is n name e)

-- the number of a name stands for it
pub told_at : (names : List (Option (List ℕ))) (name : List ℕ) (n : ℕ) → number_of names name ≡ Some n → name_at names n ≡ Some name
told_at names name n e =
    let p = position-Some (is_named name) names n None e in
    sym (get_at names n) ∙ named_is name (get_or names n None) p.1

pub below_bound : (names : List (Option (List ℕ))) (name : List ℕ) (n : ℕ) → name_at names n ≡ Some name → n < length names
below_bound [] n name e = absurd (cc)
below_bound (o ∷ os) name zero e = omega arith
below_bound (o ∷ os) name (suc n) e = let rest = below_bound os name n e in omega arith

pub there : {X : Type 0} (o : Option X) → is_some o ≡ true → (x : X) × (o ≡ Some x)
there None e = absurd (false≢true e)
there (Some x) e = (x, refl)

-- a pin of the design, and its number
pub record HasNumber (s : Stored) (p : Pin) (n : ℕ) : Type 0 where
  pub within : Contains (pins s.design) p
  pub number : number_of s.pins (name_of p) ≡ Some n
  pub name : name_at s.pins n ≡ Some (name_of p)
  pub pin : pin_numbered s n ≡ Some p
  pub below : n < length s.pins

-- an instance of the design, and its number
pub record IsInst (s : Stored) (i : Inst) (n : ℕ) : Type 0 where
  pub within : Contains s.design.insts i
  pub number : number_of s.insts i.name ≡ Some n
  pub name : name_at s.insts n ≡ Some i.name
  pub inst : inst_numbered s n ≡ Some i
  pub below : n < length s.insts

-- a pin of an instance: a pin of its cell
pub record IsOwn (d : Design) (i : Inst) (p : Pin) : Type 0 where
  pub inst : Contains d.insts i
  pub pin : CellPin
  pub within : Contains (cell_pins (cell_of d Late i)) pin
  pub same : p ≡ cell_pin i pin

-- an arc of a cell, and the pins that it joins
pub record IsJoining (cell : Cell) (arc : CellArc) : Type 0 where
  pub from : CellPin
  pub from_within : Contains cell.pins from
  pub from_name : from.name ≡ arc.from
  pub to : CellPin
  pub to_within : Contains cell.pins to
  pub to_name : to.name ≡ arc.to
  pub to_dir : same_dir Output to.dir ≡ true

module _ (s : Stored) (num : IsNumbered s) (linked : IsLinked s.design) where
  pub pin_found : (p : Pin) → Contains (pins s.design) p → pin_named s.design (name_of p) ≡ Some p
  pin_found p c = found_by name_of (pins s.design) p (pins_apart s.design linked) c

  pub pin_told : (p : Pin) → Contains (pins s.design) p → (n : ℕ) × HasNumber s p n
  pin_told p c =
      let found = pin_found p c in
      let some = there (number_of s.pins (name_of p)) (num.pin_names (name_of p) ∙ ap is_some found) in
      let name = told_at s.pins (name_of p) some.0 some.1 in (
        some.0,
        record {
          within = c;
          number = some.1;
          name = name;
          pin = ap (option_and_then (pin_named s.design)) name ∙ found;
          below = below_bound s.pins (name_of p) some.0 name;
        },
      )

  pub pin_of_number : (n : ℕ) (p : Pin) → pin_numbered s n ≡ Some p → HasNumber s p n
  pin_of_number n p e = by (name_at s.pins n) refl
    where
      by : (o : Option (List ℕ)) → name_at s.pins n ≡ o → HasNumber s p n
      by None h = let f : pin_numbered s n ≡ None = ap (option_and_then (pin_named s.design)) h in absurd (cc)
      by (Some name) h =
          let f : pin_named s.design name ≡ Some p = sym (ap (option_and_then (pin_named s.design)) h) ∙ e in
          let same : name_of p ≡ name = same_is (name_of p) name (found_passes (λ q. bytes_eq (name_of q) name) (pins s.design) p f) in
          record {
            within = found_in (λ q. bytes_eq (name_of q) name) (pins s.design) p f;
            number = num.pins.distinct n (name_of p) (h ∙ ap Some (sym same));
            name = h ∙ ap Some (sym same);
            pin = e;
            below = below_bound s.pins name n h;
          }

  -- a number that is told stands for a pin
  pub pin_at_number : (n : ℕ) → is_number s.pins n ≡ true → (p : Pin) × HasNumber s p n
  pin_at_number n e = by (name_at s.pins n) refl
    where
      by : (o : Option (List ℕ)) → name_at s.pins n ≡ o → (p : Pin) × HasNumber s p n
      by None h = absurd (false≢true (sym (ap is_some h) ∙ e))
      by (Some name) h =
          let some = there (pin_named s.design name) (sym (num.pin_names name) ∙ ap is_some (num.pins.distinct n name h)) in
          (some.0, pin_of_number n some.0 (ap (option_and_then (pin_named s.design)) h ∙ some.1))

  pub inst_found : (i : Inst) → Contains s.design.insts i → inst_named s.design.insts i.name ≡ Some i
  inst_found i c = found_by (λ (j : Inst). j.name) s.design.insts i (insts_apart s.design linked) c

  pub inst_told : (i : Inst) → Contains s.design.insts i → (n : ℕ) × IsInst s i n
  inst_told i c =
      let found = inst_found i c in
      let some = there (number_of s.insts i.name) (num.inst_names i.name ∙ ap is_some found) in
      let name = told_at s.insts i.name some.0 some.1 in (
        some.0,
        record {
          within = c;
          number = some.1;
          name = name;
          inst = ap (option_and_then (inst_named s.design.insts)) name ∙ found;
          below = below_bound s.insts i.name some.0 name;
        },
      )

  pub inst_of_number : (n : ℕ) (i : Inst) → inst_numbered s n ≡ Some i → IsInst s i n
  inst_of_number n i e = by (name_at s.insts n) refl
    where
      by : (o : Option (List ℕ)) → name_at s.insts n ≡ o → IsInst s i n
      by None h = let f : inst_numbered s n ≡ None = ap (option_and_then (inst_named s.design.insts)) h in absurd (cc)
      by (Some name) h =
          let f : inst_named s.design.insts name ≡ Some i = sym (ap (option_and_then (inst_named s.design.insts)) h) ∙ e in
          let same : i.name ≡ name = same_is i.name name (found_passes (λ (j : Inst). bytes_eq j.name name) s.design.insts i f) in
          record {
            within = found_in (λ (j : Inst). bytes_eq j.name name) s.design.insts i f;
            number = num.insts.distinct n i.name (h ∙ ap Some (sym same));
            name = h ∙ ap Some (sym same);
            inst = e;
            below = below_bound s.insts name n h;
          }

module _ (d : Design) (linked : IsLinked d) where
  pub own_in : (i : Inst) (q : CellPin) → Contains d.insts i → Contains (cell_pins (cell_of d Late i)) q → Contains (pins d) (cell_pin i q)
  own_in i q c e =
      Contains-append_right (map port_pin d.ports) (flat_map (inst_pins d) d.insts) (cell_pin i q)
      (in_flat_map (inst_pins d) d.insts i (cell_pin i q) c (in_map (cell_pin i) (cell_pins (cell_of d Late i)) q e))

  pub own_back : (p : Pin) (i : Inst) → Contains (pins d) p → p.owner ≡ Some i → IsOwn d i p
  own_back p i c e = elim (Contains-append_cases (map port_pin d.ports) (flat_map (inst_pins d) d.insts) p c) [
    | inl h ↦
        let m = in_map_back port_pin d.ports p h in
        let f : None ≡ Some i = ap (λ (q : Pin). q.owner) m.same ∙ e in
        absurd (cc)
    | inr h ↦
        let a = in_flat_map_back (inst_pins d) d.insts p h in
        let m = in_map_back (cell_pin a.item) (cell_pins (cell_of d Late a.item)) p a.inside in
        let f : a.item ≡ i = some_is (ap (λ (q : Pin). q.owner) m.same ∙ e) in
        record {
          inst = subst (λ (j : Inst). Contains d.insts j) f a.within;
          pin = m.item;
          within = subst (λ (j : Inst). Contains (cell_pins (cell_of d Late j)) m.item) f m.within;
          same = sym m.same ∙ ap (λ (j : Inst). cell_pin j m.item) f;
        }
  ]

  pub own_pins : (i : Inst) (p : Pin) → Contains d.insts i → Contains (inst_pins d i) p → IsOwn d i p
  own_pins i p c e =
      let m = in_map_back (cell_pin i) (cell_pins (cell_of d Late i)) p e in
      record { inst = c; pin = m.item; within = m.within; same = sym m.same }

  pub joining : (i : Inst) (cell : Cell) (arc : CellArc) → cell_of d Late i ≡ Some cell → Contains cell.arcs arc → IsJoining cell arc
  joining i cell arc e c =
      let good : is_cell_arc cell arc ≡ true = all_in (is_cell_arc cell) cell.arcs arc (arcs_good d.late linked.late cell i.cell e) c in
      let one = and_parts (is_pin_of cell arc.from && has_pin cell Output arc.to && is_well_formed arc.delay) (is_well_formed arc.slew) good in
      let two = and_parts (is_pin_of cell arc.from && has_pin cell Output arc.to) (is_well_formed arc.delay) one.0 in
      let three = and_parts (is_pin_of cell arc.from) (has_pin cell Output arc.to) two.0 in
      let from = any_back (λ (p : CellPin). bytes_eq p.name arc.from) cell.pins three.0 in
      let to = pointed (find (λ (p : CellPin). bytes_eq p.name arc.to) cell.pins) three.1 in
      record {
        from = from.item;
        from_within = from.within;
        from_name = same_is from.item.name arc.from from.passes;
        to = to.0;
        to_within = found_in (λ (p : CellPin). bytes_eq p.name arc.to) cell.pins to.0 to.1;
        to_name = same_is to.0.name arc.to (found_passes (λ (p : CellPin). bytes_eq p.name arc.to) cell.pins to.0 to.1);
        to_dir = to.2;
      }
    where
      pointed : (o : Option CellPin) → option_map_or (same_dir Output) (option_map (λ p. p.dir) o) false ≡ true → (p : CellPin) × (o ≡ Some p) × (same_dir Output p.dir ≡ true)
      pointed None h = absurd (false≢true h)
      pointed (Some p) h = (p, refl, h)

  -- the clock pin of a test
  pub clocking : (i : Inst) (cell : Cell) (test : CellTest) → cell_of d Late i ≡ Some cell → Contains cell.tests test
      → (q : CellPin) × Contains cell.pins q × (q.name ≡ test.clock)
  clocking i cell test e c =
      let good : is_cell_test cell test ≡ true = all_in (is_cell_test cell) cell.tests test (tests_good d.late linked.late cell i.cell e) c in
      let one = and_parts (has_pin cell Input test.pin && is_pin_of cell test.clock) (is_well_formed test.need) good in
      let two = and_parts (has_pin cell Input test.pin) (is_pin_of cell test.clock) one.0 in
      let q = any_back (λ (p : CellPin). bytes_eq p.name test.clock) cell.pins two.1 in
      (q.item, q.within, same_is q.item.name test.clock q.passes)

-- the instance that owns a pin, and its number
pub record IsOwner (s : Stored) (p : Pin) (n : ℕ) : Type 0 where
  pub inst : Inst
  pub owns : p.owner ≡ Some inst
  pub there : IsInst s inst n

module _ (s : Stored) (num : IsNumbered s) (linked : IsLinked s.design) where
  pub owner_told : (pin n : ℕ) (p : Pin) → pin_numbered s pin ≡ Some p → owner_number s pin ≡ Some n → IsOwner s p n
  owner_told pin n p e own = by p.owner refl
    where
      told : option_and_then (λ (i : Inst). number_of s.insts i.name) p.owner ≡ Some n
      told = sym (ap (λ o. option_and_then (λ (i : Inst). number_of s.insts i.name) (option_and_then (λ (q : Pin). q.owner) o)) e) ∙ own

      by : (o : Option Inst) → p.owner ≡ o → IsOwner s p n
      by None h = let f : None ≡ Some n = sym (ap (option_and_then (λ (i : Inst). number_of s.insts i.name)) h) ∙ told in absurd (cc)
      by (Some i) h =
          let here = pin_of_number s num linked pin p e in
          let own = own_back s.design linked p i here.within h in
          let is = inst_told s num linked i own.inst in
          let f : number_of s.insts i.name ≡ Some n = sym (ap (option_and_then (λ (j : Inst). number_of s.insts j.name)) h) ∙ told in
          record {
            inst = i;
            owns = h;
            there = subst (λ (m : ℕ). IsInst s i m) (some_is (sym is.1.number ∙ f)) is.1;
          }

  -- a pin without a number of an owner is a port
  pub no_owner : (pin : ℕ) (p : Pin) → pin_numbered s pin ≡ Some p → is_some (option_and_then (λ (q : Pin). q.owner) (pin_numbered s pin)) ≡ false → p.owner ≡ None
  no_owner pin p e none = by p.owner (sym (ap (λ o. is_some (option_and_then (λ (q : Pin). q.owner) o)) e) ∙ none)
    where
      by : (o : Option Inst) → is_some o ≡ false → o ≡ None
      by None f = refl
      by (Some i) f = absurd (false≢true (sym f))

  -- what stands at an instance's number is that instance
  pub inst_at : (p : Pin) (n : ℕ) (owner : IsOwner s p n) (name : List ℕ) → name_at s.insts n ≡ Some name → name ≡ owner.inst.name
  inst_at p n owner name e = some_is (sym e ∙ owner.there.name)

-- the name of a pin of an instance, after the instance's
pub own_of : (name : List ℕ) (p : Pin) (i : Inst) (word : List ℕ) → p.owner ≡ Some i → name ≡ name_of p → word ≡ i.name
    → (length word + 1 ≤ length name) × (drop (length word + 1) name ≡ p.own)
own_of name p i word owns e same =
    let whole : name ≡ word ++ 58 ∷ p.own = e ∙ ap (λ o. full_name o p.own) owns ∙ ap (λ w. w ++ 58 ∷ p.own) (sym same) in (
      omega (arith, ap length whole, length-append word (58 ∷ p.own)),
      ap (drop (length word + 1)) whole ∙ behind word,
    )
  where
    behind : (w : List ℕ) → drop (length w + 1) (w ++ 58 ∷ p.own) ≡ p.own
    behind [] = refl
    behind (x ∷ w) = ap (λ n. drop n (x ∷ (w ++ 58 ∷ p.own))) (let e : suc (length w) + 1 ≡ suc (length w + 1) = omega arith in e) ∙ behind w
