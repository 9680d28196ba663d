-- Stores that are alike have the same links by numbers.

use Rattle.std.proofs.Common.{◌≡◌, ◌⊎◌, ℕ, zero, suc, true, false, List, [], ◌∷◌, ◌++◌, map, filter, length, Option, None, Some, refl, sym, ap, subst, ◌∙◌, inl, inr, arith}
use Rattle.std.specs.Prelude.{is_some, nat_eq, option_and_then, option_map, ◌&&◌, if◌then◌else◌, Contains}
use Rattle.std.specs.List.{cons_option, filter_map, flat_map, range_with_len}
use Rattle.std.specs.Option.{option_map_or}
use Rattle.std.specs.Str.{bytes_eq}
use Rattle.std.proofs.lemmas.Bool.{false≢true, and_from, eqb-true, eq-eqb}
use Rattle.std.proofs.lemmas.List.Elements.{Contains-append_left, Contains-append_cases}
use Rattle.timing_defs.specs.declared.kinds.Split.TheVariants.{Late}
use Rattle.timing_defs.specs.declared.kinds.Dir.{Dir}
use Rattle.timing_defs.specs.declared.library.Cell.{Cell}
use Rattle.timing_defs.specs.declared.library.CellPin.{CellPin}
use Rattle.timing_defs.specs.declared.netlist.Port.{Port}
use Rattle.timing_defs.specs.declared.netlist.Inst.{Inst}
use Rattle.timing_defs.specs.declared.design.Design.{Design}
use Rattle.timing_defs.specs.Netlist.{Pin, name_of, full_name, port_pin, cell_pin, cell_pins, cell_of, inst_pins, pins, pin_named, net_of, is_on, is_driver, drives_as, driver}
use Rattle.timing_rules.specs.Clocking.{cell_arcs, cell_tests}
use Rattle.timing_defs.specs.Edits.{inst_named}
use Rattle.timing_rules.specs.Rows.{is_input_port}
use Rattle.timing_defs.specs.NetChecks.{net_fault}
use Rattle.netlist_store.specs.Linked.{IsLinked}
use Rattle.netlist_store.specs.Numbering.{Stored, name_at, number_of, inst_numbered, pin_numbered, is_on_number, AreNumbers, IsNumbered, AreKept}
use Rattle.netlist_store.proofs.SeenPins.{Seen, seen, seen_owner, seen_on}
use Rattle.pin_graph.specs.declared.pin_arcs.PinArc.{PinArc}
use Rattle.pin_graph.specs.Alike.{PinShape, ArcShape, Shape, pin_shape, arc_shape, shape_of, shape_in, named_shape, IsSameNet, AreAlike}
use Rattle.pin_graph.specs.Joins.{numbered_arc, inst_arcs, pin_arcs, net_before, before}
use Rattle.store_pins.specs.Drivers.{driver_number}
use Rattle.pin_graph.specs.Networks.{edge_from, inst_tests, clock_ports, clock_pins}
use Rattle.pin_graph.specs.Kept.{HaveSameLinks}
use Rattle.timing_defs.proofs.SameNames.{same_is, same_self}
use Rattle.timing_defs.proofs.Members.{some_is, none_in, in_map, in_map_back, in_flat_map_back, in_filter, passes_in, kept_in, found_in, found_passes, found_some}
use Rattle.store_pins.proofs.PinLaws.{told_at, there, HasNumber, pin_found, pin_told, pin_of_number, inst_found, own_in}
use Rattle.pin_graph.proofs.WalkLaws.{both_same}
use Rattle.store_pins.proofs.DriverLaws.{is_the_driver, on_net, driving}
use Rattle.pin_graph.proofs.JoinLaws.{then_back, mapped_back, numbered_as, net_listed}

-- numberings of the same names
flip_kept : (xs ys : List (Option (List ℕ))) → AreKept xs ys → AreKept ys xs
flip_kept xs ys h = record { numbers = λ w m n a b. sym (h.numbers w n m b a); names = λ n a b e f. sym (h.names n b a f e) }

name_kept : (xs ys : List (Option (List ℕ))) → AreNumbers xs → AreKept xs ys → ((w : List ℕ) → is_some (number_of xs w) ≡ true → is_some (number_of ys w) ≡ true)
    → (n : ℕ) (w : List ℕ) → name_at xs n ≡ Some w → name_at ys n ≡ Some w
name_kept xs ys num kept some n w e =
    let has = num.distinct n w e in
    let m = there (number_of ys w) (some w (ap is_some has)) in
    ap (name_at ys) (kept.numbers w n m.0 has m.1) ∙ told_at ys w m.0 m.1

names_kept : (xs ys : List (Option (List ℕ))) → AreNumbers xs → AreNumbers ys → AreKept xs ys → ((w : List ℕ) → is_some (number_of ys w) ≡ is_some (number_of xs w))
    → (n : ℕ) → name_at ys n ≡ name_at xs n
names_kept xs ys num num2 kept same n = by (name_at xs n) (name_at ys n) refl refl
  where
    by : (o p : Option (List ℕ)) → name_at xs n ≡ o → name_at ys n ≡ p → name_at ys n ≡ name_at xs n
    by (Some w) p e f = name_kept xs ys num kept (λ v h. same v ∙ h) n w e ∙ sym e
    by None None e f = f ∙ sym e
    by None (Some w) e f = f ∙ sym (name_kept ys xs num2 (flip_kept xs ys kept) (λ v h. sym (same v) ∙ h) n w f)

same_names : (xs ys : List (Option (List ℕ))) → length ys ≡ length xs → ((n : ℕ) → name_at ys n ≡ name_at xs n) → ys ≡ xs
same_names [] [] long each = refl
same_names [] (y ∷ ys) long each = absurd (omega (arith, long))
same_names (x ∷ xs) [] long each = absurd (omega (arith, long))
same_names (x ∷ xs) (y ∷ ys) long each = λ k. each zero k ∷ same_names xs ys (omega (arith, long)) (λ n. each (suc n)) k

lists_kept : (xs ys : List (Option (List ℕ))) → AreNumbers xs → AreNumbers ys → AreKept xs ys → length ys ≡ length xs
    → ((w : List ℕ) → is_some (number_of ys w) ≡ is_some (number_of xs w)) → ys ≡ xs
lists_kept xs ys num num2 kept long same = same_names xs ys long (names_kept xs ys num num2 kept same)

some_mapped : {X Y : Type 0} (f : X → Y) (o : Option X) → is_some (option_map f o) ≡ is_some o
some_mapped f None = refl
some_mapped f (Some x) = refl

filter_map_map : {X Y Z : Type 0} (h : Y → Option Z) (f : X → Y) (xs : List X) → filter_map (λ x. h (f x)) xs ≡ filter_map h (map f xs)
filter_map_map h f [] = refl
filter_map_map h f (x ∷ xs) = ap (cons_option (h (f x))) (filter_map_map h f xs)

-- a pin of the same name and direction; its instance may have another cell and other connections
pub record IsTwin (p p2 : Pin) : Type 0 where
  pub owner : option_map (λ (i : Inst). i.name) p2.owner ≡ option_map (λ (i : Inst). i.name) p.owner
  pub own : p2.own ≡ p.own
  pub dir : p2.dir ≡ p.dir

twin_names : (o o2 : Option Inst) (own own2 : List ℕ) → option_map (λ (i : Inst). i.name) o2 ≡ option_map (λ (i : Inst). i.name) o → own2 ≡ own → full_name o2 own2 ≡ full_name o own
twin_names None None own own2 e f = f
twin_names None (Some j) own own2 e f = absurd (cc)
twin_names (Some i) None own own2 e f = absurd (cc)
twin_names (Some i) (Some j) own own2 e f = λ k. some_is e k ++ 58 ∷ f k

twin_drives : (o o2 : Option Inst) (dir dir2 : Dir) → option_map (λ (i : Inst). i.name) o2 ≡ option_map (λ (i : Inst). i.name) o → dir2 ≡ dir → drives_as o2 dir2 ≡ drives_as o dir
twin_drives None None dir dir2 e f = ap (drives_as None) f
twin_drives None (Some j) dir dir2 e f = absurd (cc)
twin_drives (Some i) None dir dir2 e f = absurd (cc)
twin_drives (Some i) (Some j) dir dir2 e f = ap (drives_as (Some i)) f

twin_free : (o o2 : Option Inst) → option_map (λ (i : Inst). i.name) o2 ≡ option_map (λ (i : Inst). i.name) o
    → option_map_or (λ (i : Inst). false) o2 true ≡ option_map_or (λ (i : Inst). false) o true
twin_free None None e = refl
twin_free None (Some j) e = absurd (cc)
twin_free (Some i) None e = absurd (cc)
twin_free (Some i) (Some j) e = refl

module _ (p p2 : Pin) (twin : IsTwin p p2) where
  pub same_name : name_of p2 ≡ name_of p
  same_name = twin_names p.owner p2.owner p.own p2.own twin.owner twin.own

  pub same_drives : is_driver p2 ≡ is_driver p
  same_drives = twin_drives p.owner p2.owner p.dir p2.dir twin.owner twin.dir

  pub same_input : is_input_port p2 ≡ is_input_port p
  same_input = λ k. twin_free p.owner p2.owner twin.owner k && same_drives k

owner_seen : (o : Option Inst) → option_map (λ (i : Inst). i.name) o ≡ option_map (λ x. x.0) (seen_owner o)
owner_seen None = refl
owner_seen (Some i) = refl

seen_twin : (p p2 : Pin) → seen p2 ≡ seen p → IsTwin p p2
seen_twin p p2 e = record {
  owner = owner_seen p2.owner ∙ ap (λ (x : Seen). option_map (λ y. y.0) x.owner) e ∙ sym (owner_seen p.owner);
  own = ap (λ (x : Seen). x.own) e;
  dir = ap (λ (x : Seen). x.dir) e;
}

-- an instance of the same name, whose cell has the same shape
record IsTwinInst (d d2 : Design) (i : Inst) : Type 0 where
  inst : Inst
  within : Contains d2.insts inst
  name : inst.name ≡ i.name
  shape : shape_in d2 inst ≡ shape_in d i

module _ (d d2 : Design) (linked : IsLinked d) (insts : (name : List ℕ) → named_shape d2 name ≡ named_shape d name) where
  twin_inst : (i : Inst) → Contains d.insts i → inst_named d.insts i.name ≡ Some i → IsTwinInst d d2 i
  twin_inst i c found =
      let m = mapped_back (shape_in d2) (inst_named d2.insts i.name) (shape_in d i) (insts i.name ∙ ap (option_map (shape_in d)) found) in
      record {
        inst = m.0;
        within = found_in (λ (j : Inst). bytes_eq j.name i.name) d2.insts m.0 m.1;
        name = same_is m.0.name i.name (found_passes (λ (j : Inst). bytes_eq j.name i.name) d2.insts m.0 m.1);
        shape = m.2;
      }

-- a pin of a cell of the same shape
twin_pin : (o o2 : Option Cell) → option_map shape_of o2 ≡ option_map shape_of o → (q : CellPin) → Contains (cell_pins o) q
    → (q2 : CellPin) × Contains (cell_pins o2) q2 × (pin_shape q2 ≡ pin_shape q)
twin_pin None o2 e q c = absurd (none_in q c)
twin_pin (Some cell) None e q c = absurd (cc)
twin_pin (Some cell) (Some cell2) e q c =
    let same : map pin_shape cell2.pins ≡ map pin_shape cell.pins = ap (λ (x : Shape). x.pins) (some_is e) in
    let m = in_map_back pin_shape cell2.pins (pin_shape q) (subst (λ (xs : List PinShape). Contains xs (pin_shape q)) (sym same) (in_map pin_shape cell.pins q c)) in
    (m.item, m.within, m.same)

-- each pin has a twin
module _ (s s2 : Stored) (num : IsNumbered s) (linked : IsLinked s.design) (linked2 : IsLinked s2.design) (ports : s2.design.ports ≡ s.design.ports)
    (insts : (name : List ℕ) → named_shape s2.design name ≡ named_shape s.design name) where
  pub twin_of : (p : Pin) → Contains (pins s.design) p → (p2 : Pin) × Contains (pins s2.design) p2 × IsTwin p p2
  twin_of p c = elim (Contains-append_cases (map port_pin s.design.ports) (flat_map (inst_pins s.design) s.design.insts) p c) [
    | inl h ↦ (
      p,
      Contains-append_left (map port_pin s2.design.ports) (flat_map (inst_pins s2.design) s2.design.insts) p
          (subst (λ (ps : List Port). Contains (map port_pin ps) p) (sym ports) h),
      record { owner = refl; own = refl; dir = refl },
    )
    | inr h ↦
        let a = in_flat_map_back (inst_pins s.design) s.design.insts p h in
        let m = in_map_back (cell_pin a.item) (cell_pins (cell_of s.design Late a.item)) p a.inside in
        let i = twin_inst s.design s2.design linked insts a.item a.within (inst_found s num linked a.item a.within) in
        let q = twin_pin (cell_of s.design Late a.item) (cell_of s2.design Late i.inst) i.shape m.item m.within in
        let twin : IsTwin (cell_pin a.item m.item) (cell_pin i.inst q.0) =
        record { owner = ap Some i.name; own = ap (λ (x : PinShape). x.name) q.2; dir = ap (λ (x : PinShape). x.dir) q.2 } in
        (cell_pin i.inst q.0, own_in s2.design linked2 i.inst q.0 i.within q.1, subst (λ (x : Pin). IsTwin x (cell_pin i.inst q.0)) m.same twin)
  ]

  pub twin_named : (num2 : IsNumbered s2) (w : List ℕ) → is_some (pin_named s.design w) ≡ true → is_some (pin_named s2.design w) ≡ true
  twin_named num2 w e =
      let p = there (pin_named s.design w) e in
      let c = found_in (λ q. bytes_eq (name_of q) w) (pins s.design) p.0 p.1 in
      let named : name_of p.0 ≡ w = same_is (name_of p.0) w (found_passes (λ q. bytes_eq (name_of q) w) (pins s.design) p.0 p.1) in
      let t = twin_of p.0 c in
      ap (λ n. is_some (pin_named s2.design n)) (sym (same_name p.0 t.0 t.2 ∙ named)) ∙ ap is_some (pin_found s2 num2 linked2 t.0 t.1)

-- what a store's lists tell of the cells of instances, by name and shape
module _ {Y : Type 0} (read : Stored → Inst → List Y) (told : List (Option (List ℕ)) → List ℕ → Option Shape → List Y)
    (is : (s : Stored) (i : Inst) → read s i ≡ told s.pins i.name (shape_in s.design i)) where
  named_told : (s : Stored) (w : List ℕ)
      → option_map_or (read s) (inst_named s.design.insts w) [] ≡ option_map_or (told s.pins w) (named_shape s.design w) []
  named_told s w = by (inst_named s.design.insts w) refl
    where
      by : (o : Option Inst) → inst_named s.design.insts w ≡ o → option_map_or (read s) o [] ≡ option_map_or (told s.pins w) (option_map (shape_in s.design) o) []
      by None e = refl
      by (Some i) e =
          is s i ∙ ap (λ n. told s.pins n (shape_in s.design i)) (same_is i.name w (found_passes (λ (j : Inst). bytes_eq j.name w) s.design.insts i e))

  by_name : (s : Stored) (o : Option (List ℕ)) → option_map_or (read s) (option_and_then (inst_named s.design.insts) o) []
      ≡ option_map_or (λ w. option_map_or (told s.pins w) (named_shape s.design w) []) o []
  by_name s None = refl
  by_name s (Some w) = named_told s w

  read_same : (s s2 : Stored) → s2.pins ≡ s.pins → s2.insts ≡ s.insts → ((name : List ℕ) → named_shape s2.design name ≡ named_shape s.design name)
      → (n : ℕ) → option_map_or (read s2) (inst_numbered s2 n) [] ≡ option_map_or (read s) (inst_numbered s n) []
  read_same s s2 pins insts shapes n =
      by_name s2 (name_at s2.insts n)
      ∙ (λ k. option_map_or (λ w. option_map_or (told (pins k) w) (shapes w k) []) (name_at (insts k) n) [])
      ∙ sym (by_name s (name_at s.insts n))

-- arcs and tests of a cell, by names
abbrev shape_arc : List (Option (List ℕ)) → List ℕ → ArcShape → Option PinArc
shape_arc names inst arc =
    option_and_then
    (λ from. option_map (λ to. record { from = from; from_tran = arc.from_tran; to = to; to_tran = arc.to_tran; kind = arc.kind }) (number_of names (inst ++ 58 ∷ arc.to)))
    (number_of names (inst ++ 58 ∷ arc.from))

abbrev shape_arcs : List (Option (List ℕ)) → List ℕ → Option Shape → List PinArc
shape_arcs names inst shape = option_map_or (λ x. filter_map (shape_arc names inst) x.arcs) shape []

abbrev shape_tests : List (Option (List ℕ)) → List ℕ → Option Shape → List ℕ
shape_tests names inst shape = option_map_or (λ x. filter_map (λ clock. number_of names (inst ++ 58 ∷ clock)) x.clocks) shape []

arcs_told : (s : Stored) (i : Inst) → inst_arcs s i ≡ shape_arcs s.pins i.name (shape_in s.design i)
arcs_told s i = by (cell_of s.design Late i)
  where
    by : (o : Option Cell) → filter_map (numbered_arc s i) (cell_arcs o) ≡ shape_arcs s.pins i.name (option_map shape_of o)
    by None = refl
    by (Some cell) = filter_map_map (shape_arc s.pins i.name) arc_shape cell.arcs

tests_told : (s : Stored) (i : Inst) → inst_tests s i ≡ shape_tests s.pins i.name (shape_in s.design i)
tests_told s i = by (cell_of s.design Late i)
  where
    by : (o : Option Cell)
        → filter_map (λ test. number_of s.pins (i.name ++ 58 ∷ test.clock)) (cell_tests o) ≡ shape_tests s.pins i.name (option_map shape_of o)
    by None = refl
    by (Some cell) = filter_map_map (λ clock. number_of s.pins (i.name ++ 58 ∷ clock)) (λ test. test.clock) cell.tests

flip_net : (s s2 : Stored) (net : List ℕ) → (seen_on s2.design net ≡ seen_on s.design net) ⊎ IsSameNet s s2 net → (seen_on s.design net ≡ seen_on s2.design net) ⊎ IsSameNet s2 s net
flip_net s s2 net (inl e) = inl (sym e)
flip_net s s2 net (inr h) = inr (record { first = h.second; first_is = h.second_is; second = h.first; second_is = h.first_is; pins = λ pin. sym (h.pins pin) })

-- the net of a pin and of its twin
module _ (s s2 : Stored) (num : IsNumbered s) (num2 : IsNumbered s2) (linked : IsLinked s.design) (linked2 : IsLinked s2.design)
    (nets : (name : List ℕ) → (seen_on s2.design name ≡ seen_on s.design name) ⊎ IsSameNet s s2 name) where
  net_forth : (p p2 : Pin) (n : ℕ) → HasNumber s p n → HasNumber s2 p2 n → IsTwin p p2 → (net : List ℕ) → net_of p ≡ Some net → net_of p2 ≡ Some net
  net_forth p p2 n h h2 twin net on = by (nets net)
    where
      is_here : is_on net p ≡ true
      is_here = ap (λ o. option_map_or (bytes_eq net) o false) on ∙ same_self net

      by_number : (k : IsSameNet s s2 net) → (o : Option (List ℕ)) → net_of p2 ≡ o → is_on_number s2 k.second n ≡ true → net_of p2 ≡ Some net
      by_number k None e f =
          let g : is_on_number s2 k.second n ≡ false = ap (λ x. option_map_or (nat_eq k.second) (option_and_then (number_of s2.nets) (option_and_then net_of x)) false) h2.pin
          ∙ ap (λ x. option_map_or (nat_eq k.second) (option_and_then (number_of s2.nets) x) false) e in
          absurd (false≢true (sym g ∙ f))
      by_number k (Some other) e f =
          let g : is_on_number s2 k.second n ≡ option_map_or (nat_eq k.second) (number_of s2.nets other) false =
          ap (λ x. option_map_or (nat_eq k.second) (option_and_then (number_of s2.nets) (option_and_then net_of x)) false) h2.pin
          ∙ ap (λ x. option_map_or (nat_eq k.second) (option_and_then (number_of s2.nets) x) false) e in
          let same : number_of s2.nets other ≡ Some k.second = at (number_of s2.nets other) (sym g ∙ f) in
          e ∙ sym (told_at s2.nets other k.second same) ∙ told_at s2.nets net k.second k.second_is
        where
          at : (o : Option ℕ) → option_map_or (nat_eq k.second) o false ≡ true → o ≡ Some k.second
          at None z = absurd (false≢true z)
          at (Some m) z = ap Some (sym (eqb-true k.second m z))

      by : (seen_on s2.design net ≡ seen_on s.design net) ⊎ IsSameNet s s2 net → net_of p2 ≡ Some net
      by (inl same) =
          let here = in_map seen (filter (is_on net) (pins s.design)) p (in_filter (is_on net) (pins s.design) p h.within is_here) in
          let r = in_map_back seen (filter (is_on net) (pins s2.design)) (seen p) (subst (λ (xs : List Seen). Contains xs (seen p)) (sym same) here) in
          let c = kept_in (is_on net) (pins s2.design) r.item r.within in
          let names : name_of r.item ≡ name_of p2 = same_name p r.item (seen_twin p r.item r.same) ∙ sym (same_name p p2 twin) in
          let is : r.item ≡ p2 = some_is (sym (pin_found s2 num2 linked2 r.item c) ∙ ap (pin_named s2.design) names ∙ pin_found s2 num2 linked2 p2 h2.within) in
          sym (ap net_of is) ∙ on_net net (net_of r.item) (passes_in (is_on net) (pins s2.design) r.item r.within)
      by (inr k) =
          let first : is_on_number s k.first n ≡ true =
          ap (λ x. option_map_or (nat_eq k.first) (option_and_then (number_of s.nets) (option_and_then net_of x)) false) h.pin
          ∙ ap (λ x. option_map_or (nat_eq k.first) (option_and_then (number_of s.nets) x) false) on
          ∙ ap (λ x. option_map_or (nat_eq k.first) x false) k.first_is ∙ eq-eqb k.first k.first refl in
          by_number k (net_of p2) refl (k.pins n ∙ first)

module _ (s s2 : Stored) (num : IsNumbered s) (num2 : IsNumbered s2) (linked : IsLinked s.design) (linked2 : IsLinked s2.design)
    (fault : net_fault s2.design ≡ None) (alike : AreAlike s s2) where
  insts_same : s2.insts ≡ s.insts
  insts_same =
      lists_kept s.insts s2.insts num.insts num2.insts alike.numbers.insts alike.inst_bound
      (λ w.
      num2.inst_names w ∙ sym (some_mapped (shape_in s2.design) (inst_named s2.design.insts w)) ∙ ap is_some (alike.insts w)
      ∙ some_mapped (shape_in s.design) (inst_named s.design.insts w) ∙ sym (num.inst_names w))

  back_insts : (name : List ℕ) → named_shape s.design name ≡ named_shape s2.design name
  back_insts name = sym (alike.insts name)

  pub pins_same : s2.pins ≡ s.pins
  pins_same =
      lists_kept s.pins s2.pins num.pins num2.pins alike.numbers.pins alike.pin_bound
      (λ w.
      num2.pin_names w
      ∙ both_same (is_some (pin_named s2.design w)) (is_some (pin_named s.design w))
      (twin_named s2 s num2 linked2 linked (sym alike.ports) back_insts num w)
      (twin_named s s2 num linked linked2 alike.ports alike.insts num2 w)
      ∙ sym (num.pin_names w))

  -- the twin of a pin has its number
  record IsTwinAt (a b : Stored) (p : Pin) (n : ℕ) : Type 0 where
    pin : Pin
    has : HasNumber b pin n
    twin : IsTwin p pin

  forth : (p : Pin) (n : ℕ) → HasNumber s p n → IsTwinAt s s2 p n
  forth p n h =
      let t = twin_of s s2 num linked linked2 alike.ports alike.insts p h.within in
      record {
        pin = t.0;
        has = numbered_as s2 num2 linked2 t.0 n t.1 (ap (λ ns. number_of ns (name_of t.0)) pins_same ∙ ap (number_of s.pins) (same_name p t.0 t.2) ∙ h.number);
        twin = t.2;
      }

  back : (p : Pin) (n : ℕ) → HasNumber s2 p n → IsTwinAt s2 s p n
  back p n h =
      let t = twin_of s2 s num2 linked2 linked (sym alike.ports) back_insts p h.within in
      record {
        pin = t.0;
        has = numbered_as s num linked t.0 n t.1 (ap (λ ns. number_of ns (name_of t.0)) (sym pins_same) ∙ ap (number_of s2.pins) (same_name p t.0 t.2) ∙ h.number);
        twin = t.2;
      }

  flip_twin : (p p2 : Pin) → IsTwin p p2 → IsTwin p2 p
  flip_twin p p2 t = record { owner = sym t.owner; own = sym t.own; dir = sym t.dir }

  pub net_same : (p p2 : Pin) (n : ℕ) → HasNumber s p n → HasNumber s2 p2 n → IsTwin p p2 → net_of p2 ≡ net_of p
  net_same p p2 n h h2 twin = by (net_of p) (net_of p2) refl refl
    where
      by : (o o2 : Option (List ℕ)) → net_of p ≡ o → net_of p2 ≡ o2 → net_of p2 ≡ net_of p
      by (Some net) o2 e f = net_forth s s2 num num2 linked linked2 alike.nets p p2 n h h2 twin net e ∙ sym e
      by None (Some net) e f =
          f ∙ sym (net_forth s2 s num2 num linked2 linked (λ name. flip_net s s2 name (alike.nets name)) p2 p n h2 h (flip_twin p p2 twin) net f)
      by None None e f = f ∙ sym e

  -- the driver of a net
  driver_forth : (net : List ℕ) (m : ℕ) → driver_number s net ≡ Some m → driver_number s2 net ≡ Some m
  driver_forth net m e =
      let q = then_back (λ pin. number_of s.pins (name_of pin)) (driver s.design net) m e in
      let d = driving s.design net q.0 q.1 in
      let h = numbered_as s num linked q.0 m d.within q.2 in
      let t = forth q.0 m h in
      let on : net_of t.pin ≡ Some net = net_same q.0 t.pin m h t.has t.twin ∙ d.on in
      let is = is_the_driver s2.design fault net t.pin (net_listed s2 num2 linked2 t.pin net t.has.within on) t.has.within (same_drives q.0 t.pin t.twin ∙ d.drives) on in
      ap (option_and_then (λ pin. number_of s2.pins (name_of pin))) is ∙ t.has.number

  driver_back : (net : List ℕ) (m : ℕ) → driver_number s2 net ≡ Some m → driver_number s net ≡ Some m
  driver_back net m e = by (driver s.design net) refl
    where
      q : (x : Pin) × (driver s2.design net ≡ Some x) × (number_of s2.pins (name_of x) ≡ Some m)
      q = then_back (λ pin. number_of s2.pins (name_of pin)) (driver s2.design net) m e

      by : (o : Option Pin) → driver s.design net ≡ o → driver_number s net ≡ Some m
      by None f =
          let d = driving s2.design net q.0 q.1 in
          let h = numbered_as s2 num2 linked2 q.0 m d.within q.2 in
          let t = back q.0 m h in
          let on : net_of t.pin ≡ Some net = sym (net_same t.pin q.0 m t.has h (flip_twin q.0 t.pin t.twin)) ∙ d.on in
          let passes = and_from (is_driver t.pin) (is_on net t.pin) (same_drives q.0 t.pin t.twin ∙ d.drives) (ap (λ o. option_map_or (bytes_eq net) o false) on ∙ same_self net) in
          absurd (found_some (λ pin. is_driver pin && is_on net pin) (pins s.design) t.pin t.has.within passes (record { item = t.pin; within = t.has.within; passes = passes }) f)
      by (Some r) f =
          let d = driving s.design net r f in
          let k = pin_told s num linked r d.within in
          let here : driver_number s net ≡ Some k.0 = ap (option_and_then (λ pin. number_of s.pins (name_of pin))) f ∙ k.1.number in
          here ∙ ap Some (some_is (sym (driver_forth net k.0 here) ∙ e))

  driver_same : (net : List ℕ) → driver_number s2 net ≡ driver_number s net
  driver_same net = by (driver_number s net) (driver_number s2 net) refl refl
    where
      by : (o o2 : Option ℕ) → driver_number s net ≡ o → driver_number s2 net ≡ o2 → driver_number s2 net ≡ driver_number s net
      by (Some m) o2 e f = driver_forth net m e ∙ sym e
      by None (Some m) e f = f ∙ sym (driver_back net m f)
      by None None e f = f ∙ sym e

  -- what each number stands for
  by_twin : {Y : Type 0} (f2 f : Pin → Y) (y : Y) → ((p p2 : Pin) (n : ℕ) → HasNumber s p n → HasNumber s2 p2 n → IsTwin p p2 → f2 p2 ≡ f p)
      → (n : ℕ) → option_map_or f2 (pin_numbered s2 n) y ≡ option_map_or f (pin_numbered s n) y
  by_twin f2 f y each n = by (pin_numbered s n) (pin_numbered s2 n) refl refl
    where
      by : (o o2 : Option Pin) → pin_numbered s n ≡ o → pin_numbered s2 n ≡ o2 → option_map_or f2 (pin_numbered s2 n) y ≡ option_map_or f (pin_numbered s n) y
      by (Some p) o2 e g =
          let h = pin_of_number s num linked n p e in
          let t = forth p n h in
          ap (λ o. option_map_or f2 o y) t.has.pin ∙ each p t.pin n h t.has t.twin ∙ sym (ap (λ o. option_map_or f o y) e)
      by None (Some p2) e g =
          let t = back p2 n (pin_of_number s2 num2 linked2 n p2 g) in
          let none : None ≡ Some t.pin = sym e ∙ t.has.pin in
          absurd (cc)
      by None None e g = ap (λ o. option_map_or f2 o y) g ∙ sym (ap (λ o. option_map_or f o y) e)

  inputs_same : (n : ℕ) → option_map_or is_input_port (pin_numbered s2 n) false ≡ option_map_or is_input_port (pin_numbered s n) false
  inputs_same = by_twin is_input_port is_input_port false (λ p p2 n h h2 twin. same_input p p2 twin)

  then_or : {X Y : Type 0} (f : X → Option Y) (o : Option X) → option_and_then f o ≡ option_map_or f o None
  then_or f None = refl
  then_or f (Some x) = refl

  before_same : (n : ℕ) → before s2 n ≡ before s n
  before_same n =
      then_or (net_before s2) (pin_numbered s2 n)
      ∙ by_twin (net_before s2) (net_before s) None
      (λ p p2 m h h2 twin.
      λ k. if same_drives p p2 twin k then None else option_and_then (λ net. driver_same net k) (net_same p p2 m h h2 twin k)) n
      ∙ sym (then_or (net_before s) (pin_numbered s n))

  arcs_same : pin_arcs s2 ≡ pin_arcs s
  arcs_same = λ k.
      flat_map (λ n. read_same inst_arcs shape_arcs arcs_told s s2 pins_same insts_same alike.insts n k) (range_with_len 0 (alike.inst_bound k))

  ports_same : clock_ports s2 ≡ clock_ports s
  ports_same = λ k.
      filter_map
      (λ clock. option_and_then (λ name. option_and_then (λ n. if inputs_same n k then Some n else None) (number_of (pins_same k) name)) clock.port)
      (alike.constraints k).clocks

  clocks_same : clock_pins s2 ≡ clock_pins s
  clocks_same = λ k.
      filter_map edge_from (arcs_same k)
      ++ flat_map (λ n. read_same inst_tests shape_tests tests_told s s2 pins_same insts_same alike.insts n k) (range_with_len 0 (alike.inst_bound k))

  pub same_links : HaveSameLinks s s2
  same_links = record { pins = pins_same; befores = before_same; arcs = arcs_same; ports = ports_same; clocks = clocks_same }
