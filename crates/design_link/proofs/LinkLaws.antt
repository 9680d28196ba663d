-- Documents that are linked: their first fault, or a linked design.

use Rattle.std.proofs.Common.{◌≡◌, ℕ, zero, suc, ◌+◌, ◌<◌, ◌≤◌, Bool, true, false, List, [], ◌∷◌, ◌++◌, map, length, get_or, take, drop, Option, None, Some, Result, Ok, Err, refl, sym, ap, subst, ◌∙◌, inl, inr, ◌⊎◌}
use Rattle.std.specs.Prelude.{find, is_some, nat_le, slice_get, option_and_then, option_map, ◌&&◌, ◌||◌, if◌then◌else◌}
use Rattle.std.specs.List.{list_any, list_all}
use Rattle.std.specs.Option.{option_map_or}
use Rattle.std.specs.Str.{bytes_eq}
use Rattle.std.proofs.lemmas.Bool.{cases_Bool, false≢true, true≢false, and_parts, and_from, leb-true}
use Rattle.std.proofs.lemmas.List.{take_more, take_all, take-append-drop, map-append}
use Rattle.std.proofs.lemmas.List.Folds.{list_any-append}
use Rattle.indexmap.specs.IndexSet.{insert_key}
use Rattle.timing_defs.specs.declared.library.Cell.{Cell}
use Rattle.timing_defs.specs.declared.library.CellPin.{CellPin}
use Rattle.timing_defs.specs.declared.library.Library.{Library}
use Rattle.timing_defs.specs.declared.constraints.Constraints.{Constraints}
use Rattle.timing_defs.specs.declared.parasitics.NetRc.{NetRc}
use Rattle.timing_defs.specs.declared.parasitics.Parasitics.{Parasitics}
use Rattle.timing_defs.specs.declared.netlist.Conn.{Conn}
use Rattle.timing_defs.specs.declared.netlist.Inst.{Inst}
use Rattle.timing_defs.specs.declared.netlist.Module.{Module}
use Rattle.timing_defs.specs.declared.design.Design.{Design}
use Rattle.timing_defs.specs.declared.faults.Fault.{Fault}
use Rattle.timing_defs.specs.declared.faults.Fault.TheVariants.{Memory, UnknownCell, UnknownPin, UnknownNet}
use Rattle.timing_defs.specs.Netlist.{cell_named, is_listed, are_distinct}
use Rattle.timing_defs.specs.Wires.{first_some}
use Rattle.timing_defs.specs.Edits.{cells_agree, usable_cell, unless, first_fault, link_pin, link_inst, link_net, link_fault, joined, link_by, linked}
use Rattle.netlist_store.specs.Linked.{IsLinked, IsSized}
use Rattle.timing_defs.specs.Documents.{is_cell, is_library}
use Rattle.netlist_store.specs.Applying.{IsChecked}
use Rattle.design_link.specs.Documents.{AreDocuments, agrees_in}
use Rattle.timing_defs.proofs.SameNames.{same_is}
use Rattle.timing_defs.proofs.Members.{some_is, found_passes}

-- the first that is some, item by item
module _ {X Y : Type 0} (f : X → Option Y) where
  first_both : (xs ys : List X) → first_some f xs ≡ None → first_some f (xs ++ ys) ≡ first_some f ys
  first_both [] ys e = refl
  first_both (x ∷ xs) ys e = by (f x) refl (first_both xs ys)
    where
      by : (o : Option Y) → f x ≡ o → (first_some f xs ≡ None → first_some f (xs ++ ys) ≡ first_some f ys) → first_some f ((x ∷ xs) ++ ys) ≡ first_some f ys
      by None h rest = let g : first_some f xs ≡ None = rw h at e in rw h (rest g)
      by (Some y) h rest = let g : Some y ≡ None = rw h at e in absurd (true≢false (ap is_some g))

  pub first_more : (xs : List X) (i : ℕ) (x : X) → i < length xs → x ≡ get_or xs i x → first_some f (take i xs) ≡ None → f x ≡ None → first_some f (take (i + 1) xs) ≡ None
  first_more xs i x low here none e =
      ap (first_some f) (take_more xs i x low ∙ ap (λ y. take i xs ++ y ∷ []) (sym here)) ∙ first_both (take i xs) (x ∷ []) none ∙ (rw e refl)

  later : (xs ys : List X) (y : Y) → first_some f xs ≡ Some y → first_some f (xs ++ ys) ≡ Some y
  later [] ys y e = absurd (true≢false (ap is_some (sym e)))
  later (x ∷ xs) ys y e = by (f x) refl (later xs ys y)
    where
      by : (o : Option Y) → f x ≡ o → (first_some f xs ≡ Some y → first_some f (xs ++ ys) ≡ Some y) → first_some f ((x ∷ xs) ++ ys) ≡ Some y
      by None h rest = let g : first_some f xs ≡ Some y = rw h at e in rw h (rest g)
      by (Some z) h rest = let g : Some z ≡ Some y = rw h at e in rw h g

  pub first_at : (xs : List X) (i : ℕ) (x : X) (y : Y) → i < length xs → x ≡ get_or xs i x → first_some f (take i xs) ≡ None → f x ≡ Some y → first_some f xs ≡ Some y
  first_at xs i x y low here none e =
      ap (first_some f) (sym (take-append-drop (i + 1) xs))
      ∙ later (take (i + 1) xs) (drop (i + 1) xs) y
      (ap (first_some f) (take_more xs i x low ∙ ap (λ z. take i xs ++ z ∷ []) (sym here)) ∙ first_both (take i xs) (x ∷ []) none ∙ (rw e refl))

  pub first_none : (xs : List X) (i : ℕ) → length xs ≤ i → first_some f (take i xs) ≡ None → first_some f xs ≡ None
  first_none xs i end none = sym (ap (first_some f) (take_all i xs end)) ∙ none

-- a fault that stops a pass
pub stops : {X : Type 0} (f : X → Option Fault) (xs : List X) (i : ℕ) (x : X) (fault : Fault) → i < length xs → x ≡ get_or xs i x → first_some f (take i xs) ≡ None
    → (fault ≡ Memory) ⊎ (f x ≡ Some fault) → (fault ≡ Memory) ⊎ (first_some f xs ≡ Some fault)
stops f xs i x fault low here none (inl e) = inl e
stops f xs i x fault low here none (inr e) = inr (first_at f xs i x fault low here none e)

-- a member that is looked for at a place first
pub any_at : {X : Type 0} (p : X → Bool) (xs : List X) (at : ℕ) → option_map_or p (slice_get xs at) false ≡ true → list_any p xs ≡ true
any_at p [] zero h = absurd (false≢true h)
any_at p [] (suc at) h = absurd (false≢true h)
any_at p (x ∷ xs) zero h = rw h refl
any_at p (x ∷ xs) (suc at) h = elim (cases_Bool (p x)) [ inl e ↦ rw e refl | inr e ↦ rw e (any_at p xs at h) ]

-- a pin of a cell
found_any : {X Y : Type 0} (g : X → Y) (t : X → Bool) (xs : List X) → is_some (option_map g (find t xs)) ≡ list_any t xs
found_any g t [] = refl
found_any g t (x ∷ xs) = elim (cases_Bool (t x)) [ inl e ↦ rw e refl | inr e ↦ rw e (found_any g t xs) ]

pub pin_there : (inst : List ℕ) (cell : Cell) (conn : Conn) (b : Bool) → b ≡ list_any (λ p. bytes_eq p.name conn.pin) cell.pins
    → link_pin inst cell conn ≡ unless b (UnknownPin (inst ++ 58 ∷ conn.pin))
pin_there inst cell conn b e =
    ap (λ t. unless t (UnknownPin (inst ++ 58 ∷ conn.pin))) (found_any (λ (p : CellPin). p.dir) (λ (p : CellPin). bytes_eq p.name conn.pin) cell.pins ∙ sym e)

-- names in a set
pub set_more : (keys keys2 : List (List ℕ)) (names : List (List ℕ)) (i : ℕ) (name : List ℕ) → i < length names → name ≡ get_or names i name
    → ((q : List ℕ) → is_listed keys q ≡ is_listed (take i names) q) → keys2 ≡ insert_key bytes_eq keys name
    → (q : List ℕ) → is_listed keys2 q ≡ is_listed (take (i + 1) names) q
set_more keys keys2 names i name low here had put q =
    ap (λ ks. is_listed ks q) put ∙ by (is_listed keys name) refl
    ∙ sym (ap (λ xs. is_listed xs q) (take_more names i name low ∙ ap (λ y. take i names ++ y ∷ []) (sym here))
    ∙ list_any-append (bytes_eq q) (take i names) (name ∷ []) ∙ ap (λ b. b || (bytes_eq q name || false)) (sym (had q)))
  where
    absorbed : (a b : Bool) → (b ≡ true → a ≡ true) → a ≡ (a || (b || false))
    absorbed true b h = refl
    absorbed false true h = h refl
    absorbed false false h = refl

    by : (b : Bool) → is_listed keys name ≡ b → is_listed (insert_key bytes_eq keys name) q ≡ (is_listed keys q || (bytes_eq q name || false))
    by true e = rw e (absorbed (is_listed keys q) (bytes_eq q name) (λ h. ap (is_listed keys) (same_is q name h) ∙ e))
    by false e = rw e (list_any-append (bytes_eq q) keys (name ∷ []))

pub same_nets : (keys nets : List (List ℕ)) (rcs : List NetRc) → ((q : List ℕ) → is_listed keys q ≡ is_listed nets q) → first_some (link_net keys) rcs ≡ first_some (link_net nets) rcs
same_nets keys nets [] h = refl
same_nets keys nets (r ∷ rs) h =
    ap (λ b. option_map_or Some (unless b (UnknownNet r.net)) (first_some (link_net keys) rs)) (h r.net)
    ∙ ap (λ o. option_map_or Some (link_net nets r) o) (same_nets keys nets rs h)

-- a cell that can be used
module _ (early late : Library) (name : List ℕ) (agree : List Bool) (all : agree ≡ map (agrees_in early) late.cells) where
  -- none of the name is in the late library
  pub not_late : cell_named late.cells name ≡ None → None ≡ usable_cell early late name
  not_late e = by (cell_named early.cells name)
    where
      by : (o : Option Cell) → None ≡ option_and_then (λ a. option_and_then (λ b. if cells_agree a b then Some b else None) (cell_named late.cells name)) o
      by None = refl
      by (Some a) = rw e refl

  usable_by : (cell : Cell) → cell_named late.cells name ≡ Some cell → (b : Bool) → b ≡ agrees_in early cell → (if b then Some cell else None) ≡ usable_cell early late name
  usable_by cell e b is =
      ap (λ t. if t then Some cell else None) (is ∙ ap (λ n. option_map_or (λ other. cells_agree other cell) (cell_named early.cells n) false) same)
      ∙ by (cell_named early.cells name)
    where
      same : cell.name ≡ name
      same = same_is cell.name name (found_passes (λ (c : Cell). bytes_eq c.name name) late.cells cell e)

      by : (o : Option Cell) → (if option_map_or (λ other. cells_agree other cell) o false then Some cell else None)
          ≡ option_and_then (λ a. option_and_then (λ b. if cells_agree a b then Some b else None) (cell_named late.cells name)) o
      by None = refl
      by (Some a) = rw e refl

  -- at the place of the cell of the name
  pub usable_told : (place : ℕ) (b : Bool) → ((cell : Cell) → slice_get late.cells place ≡ Some cell → b ≡ agrees_in early cell)
      → slice_get late.cells place ≡ cell_named late.cells name → (if b then slice_get late.cells place else None) ≡ usable_cell early late name
  usable_told place b told named = by (slice_get late.cells place) refl
    where
      either_way : (x : Option Cell) (t : Bool) → (if t then x else x) ≡ x
      either_way x true = refl
      either_way x false = refl

      by : (o : Option Cell) → slice_get late.cells place ≡ o → (if b then slice_get late.cells place else None) ≡ usable_cell early late name
      by None e = ap (λ (o : Option Cell). if b then o else None) e ∙ either_way None b ∙ not_late (sym named ∙ e)
      by (Some cell) e = ap (λ (o : Option Cell). if b then o else None) e ∙ usable_by cell (sym named ∙ e) b (told cell e)

pub agree_told : (early : Library) (agree : List Bool) (late : List Cell) (place : ℕ) (cell : Cell) → agree ≡ map (agrees_in early) late → slice_get late place ≡ Some cell
    → slice_get agree place ≡ Some (agrees_in early cell)
agree_told early agree late place cell all e = ap (λ xs. slice_get xs place) all ∙ at late place e
  where
    at : (xs : List Cell) (p : ℕ) → slice_get xs p ≡ Some cell → slice_get (map (agrees_in early) xs) p ≡ Some (agrees_in early cell)
    at [] p h = absurd (true≢false (ap is_some (sym h)))
    at (x ∷ xs) zero h = ap Some (ap (agrees_in early) (some_is h))
    at (x ∷ xs) (suc p) h = at xs p h

-- libraries are small
pub short : (library : Library) → is_library library ≡ true → length library.cells ≤ 10000
short library e =
    leb-true (length library.cells) 10000
    (and_parts (nat_le (length library.cells) 10000) (are_distinct (map (λ cell. cell.name) library.cells))
    (and_parts (nat_le (length library.cells) 10000 && are_distinct (map (λ cell. cell.name) library.cells)) (list_all is_cell library.cells) e).0).0

-- what is linked
module _ (early late : Library) (m : Module) (constraints : Constraints) (parasitics : Parasitics) (docs : AreDocuments early late m constraints parasitics) where
  pub is_linked : link_fault early late m parasitics ≡ None → IsLinked (joined early late m constraints parasitics)
  is_linked none = record {
    early = docs.has_early;
    late = docs.has_late;
    constraints = docs.has_constraints;
    parasitics = docs.has_parasitics;
    names =
        and_from (are_distinct (map (λ port. port.name) m.ports) && are_distinct (map (λ inst. inst.name) m.insts) && are_distinct m.nets)
        (list_all (λ inst. are_distinct (map (λ conn. conn.pin) inst.conns)) m.insts)
        (and_from (are_distinct (map (λ port. port.name) m.ports) && are_distinct (map (λ inst. inst.name) m.insts)) (are_distinct m.nets)
        (and_from (are_distinct (map (λ port. port.name) m.ports)) (are_distinct (map (λ inst. inst.name) m.insts)) docs.has_netlist.ports docs.has_netlist.insts)
        docs.has_netlist.nets)
        docs.has_netlist.conns;
    ports = docs.has_netlist.plain;
    port_nets = docs.has_netlist.port_nets;
    nets = docs.has_netlist.conn_nets;
    linked = ap (λ o. option_map_or (λ fault. true) o false) none;
  }

  pub is_sized : IsSized (joined early late m constraints parasitics)
  is_sized = record { insts = docs.has_netlist.few_insts; nets = docs.has_netlist.few_nets }

  pub is_joined : (d : Design) → link_fault early late m parasitics ≡ None → d ≡ joined early late m constraints parasitics → linked early late m constraints parasitics ≡ Ok d
  is_joined d none same = ap (λ o. link_by o (joined early late m constraints parasitics)) none ∙ ap Ok (sym same)

  pub is_refused : (fault : Fault) → (fault ≡ Memory) ⊎ (link_fault early late m parasitics ≡ Some fault) → (fault ≡ Memory) ⊎ (linked early late m constraints parasitics ≡ Err fault)
  is_refused fault (inl e) = inl e
  is_refused fault (inr e) = inr (ap (λ o. link_by o (joined early late m constraints parasitics)) e)

-- the two checks of linking
pub first_stops : (early late : Library) (m : Module) (parasitics : Parasitics) (fault : Fault)
    → (fault ≡ Memory) ⊎ (first_some (link_inst early late) m.insts ≡ Some fault) → (fault ≡ Memory) ⊎ (link_fault early late m parasitics ≡ Some fault)
first_stops early late m parasitics fault (inl e) = inl e
first_stops early late m parasitics fault (inr e) = inr (ap (λ o. first_fault (o ∷ first_some (link_net m.nets) parasitics.nets ∷ [])) e)

pub then_told : (early late : Library) (m : Module) (parasitics : Parasitics) (r : Result (Unit {0}) Fault) → first_some (link_inst early late) m.insts ≡ None
    → IsChecked r (first_some (link_net m.nets) parasitics.nets) → IsChecked r (link_fault early late m parasitics)
then_told early late m parasitics r none c = subst (λ o. IsChecked r o) (sym whole) c
  where
    last : (o : Option Fault) → first_fault (o ∷ []) ≡ o
    last None = refl
    last (Some f) = refl

    whole : link_fault early late m parasitics ≡ first_some (link_net m.nets) parasitics.nets
    whole = ap (λ o. first_fault (o ∷ first_some (link_net m.nets) parasitics.nets ∷ [])) none ∙ last (first_some (link_net m.nets) parasitics.nets)

-- one item more of a list that a function makes
pub mapped_more : {X Y : Type 0} (f : X → Y) (ys ys2 : List Y) (xs : List X) (i : ℕ) (x : X) (y : Y) → i < length xs → x ≡ get_or xs i x → ys ≡ map f (take i xs) → y ≡ f x
    → ys2 ≡ ys ++ y ∷ [] → ys2 ≡ map f (take (i + 1) xs)
mapped_more f ys ys2 xs i x y low here had is put =
    put ∙ ap (λ zs. zs ++ y ∷ []) had ∙ ap (λ z. map f (take i xs) ++ z ∷ []) is ∙ sym (map-append f (take i xs) (x ∷ []))
    ∙ ap (map f) (sym (take_more xs i x low ∙ ap (λ z. take i xs ++ z ∷ []) (sym here)))

-- the faults of an instance, by its cell
pub of_cell : (early late : Library) (inst : Inst) (cell : Cell) → Some cell ≡ usable_cell early late inst.cell
    → first_some (link_pin inst.name cell) inst.conns ≡ link_inst early late inst
of_cell early late inst cell e = ap (λ o. option_map_or (λ c. first_some (link_pin inst.name c) inst.conns) o (Some (UnknownCell inst.cell))) e

pub of_no_cell : (early late : Library) (inst : Inst) → None ≡ usable_cell early late inst.cell → link_inst early late inst ≡ Some (UnknownCell inst.cell)
of_no_cell early late inst e = sym (ap (λ o. option_map_or (λ c. first_some (link_pin inst.name c) inst.conns) o (Some (UnknownCell inst.cell))) e)

pub stops_same : (a b : Option Fault) (fault : Fault) → a ≡ b → (fault ≡ Memory) ⊎ (a ≡ Some fault) → (fault ≡ Memory) ⊎ (b ≡ Some fault)
stops_same a b fault same (inl e) = inl e
stops_same a b fault same (inr e) = inr (sym same ∙ e)
