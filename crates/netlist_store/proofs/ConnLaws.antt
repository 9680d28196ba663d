-- Connections of an instance as they change: its pins stay distinct, its nets listed, and its cell has its pins.

use Rattle.std.proofs.Common.{◌≡◌, ℕ, Bool, true, false, List, ◌∷◌, ◌++◌, map, Option, None, Some, refl, sym, ap, ◌∙◌, inl, inr}
use Rattle.std.specs.Prelude.{◌&&◌, is_none, is_some, option_and_then, if◌then◌else◌}
use Rattle.std.specs.List.{list_all, list_any}
use Rattle.std.specs.Option.{option_map_or}
use Rattle.std.proofs.lemmas.Bool.{cases_Bool, false≢true, and_parts, and_from}
use Rattle.timing_defs.specs.declared.library.Library.{Library}
use Rattle.timing_defs.specs.declared.library.Cell.{Cell}
use Rattle.timing_defs.specs.declared.netlist.Inst.{Inst}
use Rattle.timing_defs.specs.declared.netlist.Conn.{Conn}
use Rattle.timing_defs.specs.declared.parasitics.NetRc.{NetRc}
use Rattle.timing_defs.specs.declared.faults.Fault.{Fault}
use Rattle.timing_defs.specs.declared.faults.Fault.TheVariants.{UnknownCell, UnknownPin, UnknownNet}
use Rattle.timing_defs.specs.Netlist.{is_listed, are_distinct, cell_named}
use Rattle.timing_defs.specs.Edits.{unless, link_inst, link_pin, link_net, usable_cell, cells_agree, direction_in, is_conn_of, connected}
use Rattle.timing_defs.specs.Wires.{first_some}
use Rattle.timing_defs.specs.Documents.{is_net_rc}
use Rattle.netlist_store.proofs.ListLaws.{all_push, all_changed, all_weaker, distinct_push, same_names, names_push, any_unlisted}
use Rattle.netlist_store.proofs.LinkLaws.{none_of_all, all_of_none, joins, is_linked_inst, is_linked_rc}

pub none_is : {X : Type 0} (o : Option X) → is_none o ≡ true → o ≡ None
none_is None h = refl
none_is (Some x) h = absurd (false≢true h)

pub some_of : {X : Type 0} (o : Option X) → is_some o ≡ true → (x : X) × (o ≡ Some x)
some_of None h = absurd (false≢true h)
some_of (Some x) h = (x, refl)

none_unless : (holds : Bool) (fault : Fault) → is_none (unless holds fault) ≡ true → holds ≡ true
none_unless true fault h = refl
none_unless false fault h = absurd (false≢true h)

unless_none : (holds : Bool) (fault : Fault) → holds ≡ true → is_none (unless holds fault) ≡ true
unless_none true fault h = refl
unless_none false fault h = absurd (false≢true h)

-- a cell that can be used is that of the late library
usable_is : (agree : Cell → Cell → Bool) (a b : Option Cell) (c : Cell)
    → option_and_then (λ x. option_and_then (λ y. if agree x y then Some y else None) b) a ≡ Some c → b ≡ Some c
usable_is agree None b c e = absurd (cc)
usable_is agree (Some x) None c e = absurd (cc)
usable_is agree (Some x) (Some y) c e = elim (cases_Bool (agree x y)) [
  | inl h ↦ rw h at e
  | inr h ↦ let f : None ≡ Some c = rw h at e in absurd (cc)
]

pub usable_late : (early late : Library) (name : List ℕ) (c : Cell) → usable_cell early late name ≡ Some c → cell_named late.cells name ≡ Some c
usable_late early late name c e = usable_is cells_agree (cell_named early.cells name) (cell_named late.cells name) c e

-- an instance is linked: its cell can be used, and has its pins
abbrev pub has_pin_of : Cell → Conn → Bool
has_pin_of cell conn = is_some (direction_in cell conn.pin)

pub record Links (early late : Library) (inst : Inst) : Type 0 where
  pub its_cell : Cell
  pub usable : usable_cell early late inst.cell ≡ Some its_cell
  pub its_pins : list_all (has_pin_of its_cell) inst.conns ≡ true

abbrev linked_by : Option Cell → Inst → Option Fault
linked_by cell inst = option_map_or (λ c. first_some (link_pin inst.name c) inst.conns) cell (Some (UnknownCell inst.cell))

links_of : (early late : Library) (inst : Inst) → link_inst early late inst ≡ None → Links early late inst
links_of early late inst e = by (usable_cell early late inst.cell) refl
  where
    by : (o : Option Cell) → usable_cell early late inst.cell ≡ o → Links early late inst
    by None h = let f : linked_by None inst ≡ None = sym (ap (λ o. linked_by o inst) h) ∙ e in absurd (cc)
    by (Some c) h =
        let f : first_some (link_pin inst.name c) inst.conns ≡ None = sym (ap (λ o. linked_by o inst) h) ∙ e in
        record {
          its_cell = c;
          usable = h;
          its_pins =
              all_weaker (has_pin_of c) (λ conn. is_none (link_pin inst.name c conn)) inst.conns
              (λ conn k. none_unless (has_pin_of c conn) (UnknownPin (inst.name ++ 58 ∷ conn.pin)) k)
              (none_of_all (link_pin inst.name c) inst.conns f);
        }

link_of : (early late : Library) (inst : Inst) → Links early late inst → link_inst early late inst ≡ None
link_of early late inst links =
    ap (λ o. linked_by o inst) links.usable
    ∙ all_of_none (link_pin inst.name links.its_cell) inst.conns
    (all_weaker (λ conn. is_none (link_pin inst.name links.its_cell conn)) (has_pin_of links.its_cell) inst.conns
    (λ conn k. unless_none (has_pin_of links.its_cell conn) (UnknownPin (inst.name ++ 58 ∷ conn.pin)) k) links.its_pins)

-- what a linked instance keeps, part by part
pub record InstLinks (early late : Library) (nets : List (List ℕ)) (inst : Inst) : Type 0 where
  pub distinct : are_distinct (map (λ conn. conn.pin) inst.conns) ≡ true
  pub joined : list_all (joins nets) inst.conns ≡ true
  pub links : Links early late inst

pub inst_parts : (early late : Library) (nets : List (List ℕ)) (inst : Inst) → is_linked_inst early late nets inst ≡ true → InstLinks early late nets inst
inst_parts early late nets inst h =
    let one = and_parts (are_distinct (map (λ conn. conn.pin) inst.conns) && list_all (joins nets) inst.conns) (is_none (link_inst early late inst)) h in
    let two = and_parts (are_distinct (map (λ conn. conn.pin) inst.conns)) (list_all (joins nets) inst.conns) one.0 in
    record { distinct = two.0; joined = two.1; links = links_of early late inst (none_is (link_inst early late inst) one.1) }

pub inst_from : (early late : Library) (nets : List (List ℕ)) (inst : Inst) → InstLinks early late nets inst → is_linked_inst early late nets inst ≡ true
inst_from early late nets inst h =
    and_from (are_distinct (map (λ conn. conn.pin) inst.conns) && list_all (joins nets) inst.conns) (is_none (link_inst early late inst))
    (and_from (are_distinct (map (λ conn. conn.pin) inst.conns)) (list_all (joins nets) inst.conns) h.distinct h.joined)
    (ap is_none (link_of early late inst h.links))

pub rc_parts : (nets : List (List ℕ)) (rc : NetRc) → is_linked_rc nets rc ≡ true → (is_net_rc rc ≡ true) × (is_listed nets rc.net ≡ true)
rc_parts nets rc h =
    let k = and_parts (is_net_rc rc) (is_none (link_net nets rc)) h in (k.0, none_unless (is_listed nets rc.net) (UnknownNet rc.net) k.1)

pub rc_from : (nets : List (List ℕ)) (rc : NetRc) → is_net_rc rc ≡ true → is_listed nets rc.net ≡ true → is_linked_rc nets rc ≡ true
rc_from nets rc one two = and_from (is_net_rc rc) (is_none (link_net nets rc)) one (unless_none (is_listed nets rc.net) (UnknownNet rc.net) two)

-- one pin is connected
module _ (pin net : List ℕ) (conns : List Conn) where
  abbrev filled : Conn → Conn
  filled conn = (if is_conn_of pin conn then record { pin = conn.pin; net = Some net } else conn)

  pub connected_all : (p : Conn → Bool) → list_all p conns ≡ true → ((conn : Conn) → p conn ≡ true → p (record { pin = conn.pin; net = Some net }) ≡ true)
      → p (record { pin = pin; net = Some net }) ≡ true → list_all p (connected pin net conns) ≡ true
  connected_all p all each last = elim (cases_Bool (list_any (is_conn_of pin) conns)) [
    | inl h ↦ rw h (all_changed p p filled conns step all)
    | inr h ↦ rw h (all_push p conns (record { pin = pin; net = Some net }) all last)
  ]
    where
      step : (conn : Conn) → p conn ≡ true → p (filled conn) ≡ true
      step conn h = elim (cases_Bool (is_conn_of pin conn)) [ inl e ↦ rw e (each conn h) | inr e ↦ rw e h ]

  pub connected_distinct : are_distinct (map (λ conn. conn.pin) conns) ≡ true → are_distinct (map (λ conn. conn.pin) (connected pin net conns)) ≡ true
  connected_distinct distinct = elim (cases_Bool (list_any (is_conn_of pin) conns)) [
    | inl h ↦ rw h (ap are_distinct (same_names (λ conn. conn.pin) filled conns same) ∙ distinct)
    | inr h ↦
        rw h (ap are_distinct (names_push (λ conn. conn.pin) conns (record { pin = pin; net = Some net }))
        ∙ distinct_push (map (λ conn. conn.pin) conns) pin distinct (any_unlisted (λ conn. conn.pin) conns pin h))
  ]
    where
      same : (conn : Conn) → (filled conn).pin ≡ conn.pin
      same conn = elim (cases_Bool (is_conn_of pin conn)) [ inl e ↦ rw e refl | inr e ↦ rw e refl ]
