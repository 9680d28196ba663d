-- A net is in use exactly where a pin is on its number.

use Rattle.std.proofs.Common.{◌≡◌, ℕ, ◌+◌, Bool, true, false, List, [], ◌∷◌, ◌++◌, length, Option, None, Some, refl, sym, ap, ◌∙◌, inl, inr, arith, not}
use Rattle.std.specs.Prelude.{◌==◌, nat_eq, find, option_and_then, option_map, is_some, count_by, cond, if◌then◌else◌}
use Rattle.std.specs.List.{list_any, list_all}
use Rattle.std.specs.Option.{option_map_or}
use Rattle.std.specs.Str.{bytes_eq}
use Rattle.std.proofs.lemmas.Bool.{cases_Bool, false≢true, or_left, or_right, or_cases, not-true, eqb-true, eq-eqb, not_from_false, ne_eqb}
use Rattle.std.proofs.lemmas.List.Sums.{sum_by-cons}
use Rattle.timing_defs.specs.declared.kinds.Split.TheVariants.{Late}
use Rattle.timing_defs.specs.declared.netlist.Port.{Port}
use Rattle.timing_defs.specs.declared.netlist.Inst.{Inst}
use Rattle.timing_defs.specs.declared.netlist.Conn.{Conn}
use Rattle.timing_defs.specs.declared.library.CellPin.{CellPin}
use Rattle.timing_defs.specs.Netlist.{Pin, net_of, port_pin, cell_pin, cell_pins, cell_of, pin_named, pin_at, conn_net}
use Rattle.timing_defs.specs.Edits.{inst_named, has_colon, before_last, after_last, joins_net, net_in_use}
use Rattle.netlist_store.specs.Numbering.{Stored, name_at, number_of, pin_numbered, net_number, is_on_number, IsNumbered}
use Rattle.netlist_store.specs.Linked.{IsLinked}
use Rattle.netlist_store.proofs.ShardLaws.{same_is, same_self}
use Rattle.netlist_store.proofs.NumberLaws.{number_at, some_is}
use Rattle.netlist_store.proofs.ListLaws.{found_passes, found_keeps, found_by_name}
use Rattle.netlist_store.proofs.LinkLaws.{kept_of, is_linked_inst}
use Rattle.netlist_store.proofs.ConnLaws.{some_of, usable_late, has_pin_of, inst_parts}
use Rattle.netlist_store.proofs.PinsByWord.{before_is, after_is, colon_in, is_plain, plain_pins, pin_by_word, pin_by_port}

any_found : {X : Type 0} (p : X → Bool) (xs : List X) → list_any p xs ≡ true → (x : X) × (find p xs ≡ Some x)
any_found p [] h = absurd (false≢true h)
any_found p (x ∷ xs) h = elim (cases_Bool (p x)) [
  | inl e ↦ (x, rw e refl)
  | inr e ↦ let rest = any_found p xs (rw e at h) in (rest.0, rw e rest.1)
]

found_any : {X : Type 0} (p q : X → Bool) (xs : List X) (x : X) → find p xs ≡ Some x → q x ≡ true → list_any q xs ≡ true
found_any p q [] x f h = absurd (cc)
found_any p q (y ∷ ys) x f h = elim (cases_Bool (p y)) [
  | inl e ↦ let g : y ≡ x = some_is (rw e at f) in rw (ap q g ∙ h) refl
  | inr e ↦ or_right (q y) (list_any q ys) (found_any p q ys x (rw e at f) h)
]

joins_is : (net : List ℕ) (o : Option (List ℕ)) → option_map_or (bytes_eq net) o false ≡ true → o ≡ Some net
joins_is net None h = absurd (false≢true h)
joins_is net (Some q) h = ap Some (sym (same_is net q h))

number_is : (n : ℕ) (o : Option ℕ) → option_map_or (nat_eq n) o false ≡ true → o ≡ Some n
number_is n None h = absurd (false≢true h)
number_is n (Some m) h = ap Some (sym (eqb-true n m h))

pub then_some : {X Y : Type 0} (f : X → Option Y) (o : Option X) (y : Y) → option_and_then f o ≡ Some y → (x : X) × (o ≡ Some x) × (f x ≡ Some y)
then_some f None y e = absurd (cc)
then_some f (Some x) y e = (x, refl, e)

pub map_some : {X Y : Type 0} (f : X → Y) (o : Option X) (y : Y) → option_map f o ≡ Some y → (x : X) × (o ≡ Some x) × (f x ≡ y)
map_some f None y e = absurd (cc)
map_some f (Some x) y e = (x, refl, some_is e)

is_mapped : {X Y : Type 0} (f : X → Y) (o : Option X) → is_some (option_map f o) ≡ true → is_some o ≡ true
is_mapped f None h = h
is_mapped f (Some x) h = refl

module _ (s : Stored) (numbered : IsNumbered s) (linked : IsLinked s.design) (name : List ℕ) (net : ℕ) (here : number_of s.nets name ≡ Some net) where
  on_from : (w : List ℕ) (pin : Pin) → pin_named s.design w ≡ Some pin → net_of pin ≡ Some name → (p : ℕ) × (is_on_number s net p ≡ true)
  on_from w pin found on =
      let k = some_of (number_of s.pins w) (numbered.pin_names w ∙ ap is_some found) in
      let stands : name_at s.pins k.0 ≡ Some w = number_at s.pins w k.0 k.1 in
      let row : pin_numbered s k.0 ≡ Some pin = ap (option_and_then (pin_named s.design)) stands ∙ found in
      let it : net_number s k.0 ≡ Some net =
      ap (λ o. option_and_then (number_of s.nets) (option_and_then net_of o)) row ∙ ap (option_and_then (number_of s.nets)) on ∙ here in
      (k.0, ap (λ o. option_map_or (nat_eq net) o false) it ∙ eq-eqb net net refl)

  of_port : list_any (λ port. bytes_eq port.name name) s.design.ports ≡ true → (p : ℕ) × (is_on_number s net p ≡ true)
  of_port h =
      let test = λ (port : Port). bytes_eq port.name name in
      let k = any_found test s.design.ports h in
      let same : k.0.name ≡ name = same_is k.0.name name (found_passes test s.design.ports k.0 k.1) in
      let plain : has_colon name ≡ false =
      ap has_colon (sym same) ∙ not-true (has_colon k.0.name) (found_keeps test (λ port. not (has_colon port.name)) s.design.ports k.0 linked.ports k.1) in
      on_from name (port_pin k.0) (pin_by_port name plain s.design ∙ ap (option_map port_pin) k.1) (ap Some same)

  of_conn : list_any (λ inst. list_any (joins_net name) inst.conns) s.design.insts ≡ true → (p : ℕ) × (is_on_number s net p ≡ true)
  of_conn h =
      let d = s.design in
      let kept = kept_of d linked in
      let test = λ (i : Inst). list_any (joins_net name) i.conns in
      let k = any_found test d.insts h in
      let i = k.0 in
      let its = inst_parts d.early d.late d.nets i (found_keeps test (is_linked_inst d.early d.late d.nets) d.insts i kept.inst_links k.1) in
      let m = any_found (joins_net name) i.conns (found_passes test d.insts i k.1) in
      let conn = m.0 in
      let joins : conn.net ≡ Some name = joins_is name conn.net (found_passes (joins_net name) i.conns conn m.1) in
      let c = its.links.its_cell in
      let late : cell_of d Late i ≡ Some c = usable_late d.early d.late i.cell c its.links.usable in
      let own_test = λ (p : CellPin). bytes_eq p.name conn.pin in
      let has : has_pin_of c conn ≡ true = found_keeps (joins_net name) (has_pin_of c) i.conns conn its.links.its_pins m.1 in
      let pin = some_of (find own_test c.pins) (is_mapped (λ (p : CellPin). p.dir) (find own_test c.pins) has) in
      let own : pin.0.name ≡ conn.pin = same_is pin.0.name conn.pin (found_passes own_test c.pins pin.0 pin.1) in
      let plain : has_colon conn.pin ≡ false =
      ap has_colon (sym own) ∙ not-true (has_colon pin.0.name)
      (found_keeps own_test is_plain c.pins pin.0 (ap (λ o. list_all is_plain (cell_pins o)) (sym late) ∙ plain_pins d linked i) pin.1) in
      let w = i.name ++ 58 ∷ conn.pin in
      let inst : inst_named d.insts (before_last w) ≡ Some i =
      ap (inst_named d.insts) (before_is i.name conn.pin plain) ∙ found_by_name (λ x. x.name) test d.insts i kept.inst_names k.1 in
      let at_pin : pin_at d i (after_last w) ≡ Some (cell_pin i pin.0) =
      ap (pin_at d i) (after_is i.name conn.pin plain) ∙ ap (λ o. option_map (cell_pin i) (find own_test (cell_pins o))) late
      ∙ ap (option_map (cell_pin i)) pin.1 in
      let found : pin_named d w ≡ Some (cell_pin i pin.0) =
      pin_by_word d linked w (colon_in i.name conn.pin) ∙ ap (option_and_then (λ i. pin_at d i (after_last w))) inst ∙ at_pin in
      on_from w (cell_pin i pin.0) found
      (ap (conn_net i.conns) own ∙ ap (option_and_then (λ c. c.net)) (found_by_name (λ c. c.pin) (joins_net name) i.conns conn its.distinct m.1) ∙ joins)

  pub used_by : (w : List ℕ) (pin : Pin) → pin_named s.design w ≡ Some pin → net_of pin ≡ Some name → net_in_use s.design name ≡ true
  used_by w pin found on = elim (cases_Bool (has_colon w)) [
    | inl colon ↦
        let d = s.design in
        let by_word : option_and_then (λ i. pin_at d i (after_last w)) (inst_named d.insts (before_last w)) ≡ Some pin = sym (pin_by_word d linked w colon) ∙ found in
        let i = then_some (λ i. pin_at d i (after_last w)) (inst_named d.insts (before_last w)) pin by_word in
        let cp = map_some (cell_pin i.0) (find (λ pin. bytes_eq pin.name (after_last w)) (cell_pins (cell_of d Late i.0))) pin i.2 in
        let its : conn_net i.0.conns cp.0.name ≡ Some name = ap net_of cp.2 ∙ on in
        let conn = then_some (λ (c : Conn). c.net) (find (λ c. bytes_eq c.pin cp.0.name) i.0.conns) name its in
        let one : joins_net name conn.0 ≡ true = ap (λ o. option_map_or (bytes_eq name) o false) conn.2 ∙ same_self name in
        or_right (list_any (λ port. bytes_eq port.name name) d.ports) (list_any (λ inst. list_any (joins_net name) inst.conns) d.insts)
        (found_any (λ i. bytes_eq i.name (before_last w)) (λ inst. list_any (joins_net name) inst.conns) d.insts i.0 i.1
        (found_any (λ c. bytes_eq c.pin cp.0.name) (joins_net name) i.0.conns conn.0 conn.1 one))
    | inr plain ↦
        let d = s.design in
        let by_port : option_map port_pin (find (λ p. bytes_eq p.name w) d.ports) ≡ Some pin = sym (pin_by_port w plain d) ∙ found in
        let port = map_some port_pin (find (λ p. bytes_eq p.name w) d.ports) pin by_port in
        let same : port.0.name ≡ name = some_is (ap net_of port.2 ∙ on) in
        or_left (list_any (λ port. bytes_eq port.name name) d.ports) (list_any (λ inst. list_any (joins_net name) inst.conns) d.insts)
        (found_any (λ p. bytes_eq p.name w) (λ port. bytes_eq port.name name) d.ports port.0 port.1 (ap (λ k. bytes_eq k name) same ∙ same_self name))
  ]

  used_of : (p : ℕ) → is_on_number s net p ≡ true → net_in_use s.design name ≡ true
  used_of p h =
      let q = then_some (number_of s.nets) (option_and_then net_of (pin_numbered s p)) net (number_is net (net_number s p) h) in
      let pin = then_some net_of (pin_numbered s p) q.0 q.1 in
      let w = then_some (pin_named s.design) (name_at s.pins p) pin.0 pin.1 in
      let same : q.0 ≡ name = some_is (sym (number_at s.nets q.0 net q.2) ∙ number_at s.nets name net here) in
      used_by w.0 pin.0 w.2 (pin.2 ∙ ap Some same)

  some_on : net_in_use s.design name ≡ true → (p : ℕ) × (is_on_number s net p ≡ true)
  some_on h = elim (or_cases (list_any (λ port. bytes_eq port.name name) s.design.ports) (list_any (λ inst. list_any (joins_net name) inst.conns) s.design.insts) h) [
    | inl e ↦ of_port e
    | inr e ↦ of_conn e
  ]

  pub in_use : (pins : List ℕ) → ((pin : ℕ) → count_by (nat_eq pin) pins ≡ (if is_on_number s net pin then 1 else 0))
      → not (length pins == 0) ≡ net_in_use s.design name
  in_use [] count = elim (cases_Bool (net_in_use s.design name)) [
    | inl h ↦
        let p = some_on h in
        let f : 0 ≡ 1 = count p.0 ∙ ap (λ b. if b then 1 else 0) p.1 in
        absurd (omega (arith, f))
    | inr h ↦ sym h
  ]
  in_use (p ∷ ps) count = elim (cases_Bool (is_on_number s net p)) [
    | inl h ↦ long ∙ sym (used_of p h)
    | inr h ↦
        let f : count_by (nat_eq p) (p ∷ ps) ≡ 0 = count p ∙ ap (λ b. if b then 1 else 0) h in
        let g : count_by (nat_eq p) (p ∷ ps) ≡ 1 + count_by (nat_eq p) ps = counted in
        absurd (omega (arith, f, g))
  ]
    where
      long : not (length (p ∷ ps) == 0) ≡ true
      long = not_from_false (length (p ∷ ps) == 0) (ne_eqb (length (p ∷ ps)) 0 (λ e. omega (arith, e)))

      counted : count_by (nat_eq p) (p ∷ ps) ≡ 1 + count_by (nat_eq p) ps
      counted = sum_by-cons (λ x. cond (nat_eq p x) 1 0) p ps ∙ ap (λ b. cond b 1 0 + count_by (nat_eq p) ps) (eq-eqb p p refl)
