-- Edits of a design (engineering change orders): what each does, and its first fault. The checks of
-- one edit are made in the order of their codes, and names and pins in the order written.

use Rattle.std.specs.Prelude.{ℕ, nat_eq, nat_lt, Bool, true, false, not, ◌&&◌, ◌||◌, if◌then◌else◌, List, [], ◌∷◌, ◌++◌, map, filter, length, Option, Some, None, Result, Ok, Err, find, option_map, option_and_then, is_some, is_none}
use Rattle.std.specs.List.{list_any, list_all}
use Rattle.std.specs.Option.{option_map_or}
use Rattle.std.specs.Str.{bytes_eq}
use Rattle.timing_defs.specs.declared.kinds.Dir.{Dir}
use Rattle.timing_defs.specs.declared.kinds.Dir.TheVariants.{Input, Output}
use Rattle.timing_defs.specs.declared.library.Cell.{Cell}
use Rattle.timing_defs.specs.declared.library.CellPin.{CellPin}
use Rattle.timing_defs.specs.declared.library.CellArc.{CellArc}
use Rattle.timing_defs.specs.declared.library.CellTest.{CellTest}
use Rattle.timing_defs.specs.declared.library.Library.{Library}
use Rattle.timing_defs.specs.declared.constraints.Constraints.{Constraints}
use Rattle.timing_defs.specs.declared.parasitics.NetRc.{NetRc}
use Rattle.timing_defs.specs.declared.parasitics.Parasitics.{Parasitics}
use Rattle.timing_defs.specs.declared.netlist.Inst.{Inst}
use Rattle.timing_defs.specs.declared.netlist.Conn.{Conn}
use Rattle.timing_defs.specs.declared.netlist.Module.{Module}
use Rattle.timing_defs.specs.declared.design.Design.{Design}
use Rattle.timing_defs.specs.declared.edits.Edit.{Edit}
use Rattle.timing_defs.specs.declared.edits.Edit.TheVariants.{Repower, InsertGate, RemoveGate, InsertNet, RemoveNet, Connect, Disconnect, InsertBuffer, SetParasitics}
use Rattle.timing_defs.specs.declared.edits.Eco.{Eco}
use Rattle.timing_defs.specs.declared.faults.Fault.{Fault}
use Rattle.timing_defs.specs.declared.faults.Fault.TheVariants.{UnknownInstance, UnknownNet, UnknownCell, UnknownPin, NameTaken, PinsDiffer, AlreadyConnected, NotConnected, InUse}
use Rattle.timing_defs.specs.Netlist.{same_dir, same_tran, cell_named, conn_net, is_listed}
use Rattle.timing_defs.specs.Wires.{first_some}
use Rattle.timing_defs.specs.Kinds.{is_comb, same_kind}

abbrev pub inst_named : List Inst → List ℕ → Option Inst
inst_named insts name = find (λ inst. bytes_eq inst.name name) insts

-- a pin word is split at its last colon into instance and pin; a word without one is a port
abbrev pub before_last : List ℕ → List ℕ
before_last [] = []
before_last (b ∷ bs) = (if list_any (nat_eq 58) bs then b ∷ before_last bs else (if nat_eq b 58 then [] else b ∷ []))

abbrev pub after_last : List ℕ → List ℕ
after_last [] = []
after_last (b ∷ bs) = (if list_any (nat_eq 58) bs then after_last bs else (if nat_eq b 58 then bs else []))

abbrev pub has_colon : List ℕ → Bool
has_colon word = list_any (nat_eq 58) word

-- two cells have the same pins with their directions, arc nodes with their kinds, and tests, as sets
abbrev pub same_cell_pin : CellPin → CellPin → Bool
same_cell_pin a b = bytes_eq a.name b.name && same_dir a.dir b.dir

abbrev pub same_arc : CellArc → CellArc → Bool
same_arc a b =
    bytes_eq a.from b.from && same_tran a.from_tran b.from_tran && bytes_eq a.to b.to && same_tran a.to_tran b.to_tran
    && ((is_comb a && is_comb b) || (not (is_comb a) && not (is_comb b)))

abbrev pub same_test : CellTest → CellTest → Bool
same_test a b =
    bytes_eq a.pin b.pin && same_tran a.tran b.tran && bytes_eq a.clock b.clock && same_tran a.active b.active
    && same_kind a.kind b.kind

abbrev pub same_set : {X : Type 0} → (X → X → Bool) → List X → List X → Bool
same_set same xs ys = list_all (λ x. list_any (same x) ys) xs && list_all (λ y. list_any (same y) xs) ys

abbrev pub cells_agree : Cell → Cell → Bool
cells_agree a b = same_set same_cell_pin a.pins b.pins && same_set same_arc a.arcs b.arcs && same_set same_test a.tests b.tests

-- a cell that can be used is in both libraries, and alike there
abbrev pub usable_cell : Library → Library → List ℕ → Option Cell
usable_cell early late name =
    option_and_then (λ a. option_and_then (λ b. if cells_agree a b then Some b else None) (cell_named late.cells name))
    (cell_named early.cells name)

abbrev pub cell_for : Design → List ℕ → Option Cell
cell_for d name = usable_cell d.early d.late name

abbrev pub direction_in : Cell → List ℕ → Option Dir
direction_in cell pin = option_map (λ p. p.dir) (find (λ p. bytes_eq p.name pin) cell.pins)

abbrev pub inst_direction : Design → List ℕ → List ℕ → Option Dir
inst_direction d inst pin =
    option_and_then (λ i. option_and_then (λ cell. direction_in cell pin) (cell_named d.late.cells i.cell)) (inst_named d.insts inst)

-- the fault of a check that does not hold
abbrev pub unless : Bool → Fault → Option Fault
unless holds fault = (if holds then None else Some fault)

abbrev pub first_fault : List (Option Fault) → Option Fault
first_fault faults = first_some (λ fault. fault) faults

abbrev pub need_inst : Design → List ℕ → Option Fault
need_inst d inst = unless (is_some (inst_named d.insts inst)) (UnknownInstance inst)

abbrev pub need_net : Design → List ℕ → Option Fault
need_net d net = unless (is_listed d.nets net) (UnknownNet net)

abbrev pub need_cell : Design → List ℕ → Option Fault
need_cell d cell = unless (is_some (cell_for d cell)) (UnknownCell cell)

-- of a pin word first its instance, where it names one, and at its turn the pin; a port is no instance pin
abbrev pub need_pin_inst : Design → List ℕ → Option Fault
need_pin_inst d word =
    (if has_colon word && nat_lt 0 (length (before_last word)) then need_inst d (before_last word) else None)

abbrev pub word_direction : Design → List ℕ → Option Dir
word_direction d word = (if has_colon word then inst_direction d (before_last word) (after_last word) else None)

abbrev pub need_pin : Design → List ℕ → Option Fault
need_pin d word = unless (is_some (word_direction d word)) (UnknownPin word)

abbrev pub need_sink : Design → List ℕ → Option Fault
need_sink d word = unless (option_map_or (same_dir Input) (word_direction d word) false) (UnknownPin word)

abbrev pub free_inst : Design → List ℕ → Option Fault
free_inst d inst = unless (is_none (inst_named d.insts inst)) (NameTaken inst)

abbrev pub free_net : Design → List ℕ → Option Fault
free_net d net = unless (not (is_listed d.nets net)) (NameTaken net)

-- the new cell has each connected or tied pin, with the direction that it has now
abbrev pub keeps_pin : Design → Inst → Cell → Conn → Bool
keeps_pin d inst cell conn =
    option_map_or (λ now. option_map_or (same_dir now) (direction_in cell conn.pin) false)
    (option_and_then (λ old. direction_in old conn.pin) (cell_named d.late.cells inst.cell)) false

abbrev pub fits_cell : Design → List ℕ → List ℕ → Bool
fits_cell d inst cell =
    option_map_or (λ i. option_map_or (λ c. list_all (keeps_pin d i c) i.conns) (cell_for d cell) true) (inst_named d.insts inst) true

abbrev pub pins_of_dir : Dir → Cell → List CellPin
pins_of_dir dir cell = filter (λ p. same_dir p.dir dir) cell.pins

abbrev pub is_buffer : Cell → Bool
is_buffer cell = nat_eq (length (pins_of_dir Input cell)) 1 && nat_eq (length (pins_of_dir Output cell)) 1

-- the net of a pin word
abbrev pub word_net : Design → List ℕ → Option (List ℕ)
word_net d word = option_and_then (λ i. conn_net i.conns (after_last word)) (inst_named d.insts (before_last word))

abbrev pub is_open : Inst → Bool
is_open inst = list_all (λ conn. is_none conn.net) inst.conns

abbrev pub joins_net : List ℕ → Conn → Bool
joins_net net conn = option_map_or (bytes_eq net) conn.net false

abbrev pub net_in_use : Design → List ℕ → Bool
net_in_use d net =
    list_any (λ port. bytes_eq port.name net) d.ports || list_any (λ inst. list_any (joins_net net) inst.conns) d.insts

-- each listed sink is on the net, and one listed twice is not there the second time
abbrev pub sink_faults : Design → List ℕ → List (List ℕ) → List (List ℕ) → List (Option Fault)
sink_faults d net before [] = []
sink_faults d net before (s ∷ ss) =
    unless (option_map_or (bytes_eq net) (word_net d s) false && not (is_listed before s)) (NotConnected s)
    ∷ sink_faults d net (before ++ s ∷ []) ss

-- the checks of an edit in order
abbrev pub edit_faults : Design → Edit → List (Option Fault)
edit_faults d (Repower inst cell) =
    need_inst d inst ∷ need_cell d cell ∷ unless (fits_cell d inst cell) (PinsDiffer inst) ∷ []
edit_faults d (InsertGate inst cell) = need_cell d cell ∷ free_inst d inst ∷ []
edit_faults d (RemoveGate inst) =
    need_inst d inst ∷ unless (option_map_or is_open (inst_named d.insts inst) true) (InUse inst) ∷ []
edit_faults d (InsertNet net) = free_net d net ∷ []
edit_faults d (RemoveNet net) = need_net d net ∷ unless (not (net_in_use d net)) (InUse net) ∷ []
edit_faults d (Connect pin net) =
    need_pin_inst d pin ∷ need_net d net ∷ need_pin d pin ∷ unless (is_none (word_net d pin)) (AlreadyConnected pin) ∷ []
edit_faults d (Disconnect pin) =
    need_pin_inst d pin ∷ need_pin d pin ∷ unless (is_some (word_net d pin)) (NotConnected pin) ∷ []
edit_faults d (InsertBuffer net inst fresh cell sinks) =
    map (need_pin_inst d) sinks ++ need_net d net ∷ need_cell d cell ∷ map (need_sink d) sinks
    ++ free_inst d inst ∷ free_net d fresh
    ∷ unless (option_map_or is_buffer (cell_for d cell) true) (PinsDiffer inst) ∷ sink_faults d net [] sinks
edit_faults d (SetParasitics net rc) = need_net d net ∷ []

abbrev pub on_inst : List ℕ → (Inst → Inst) → List Inst → List Inst
on_inst name change insts = map (λ inst. if bytes_eq inst.name name then change inst else inst) insts

abbrev pub without_rc : List ℕ → List NetRc → List NetRc
without_rc net rcs = filter (λ rc. not (bytes_eq rc.net net)) rcs

-- a tied pin is filled in in place; another connection stands last
abbrev pub is_conn_of : List ℕ → Conn → Bool
is_conn_of pin conn = bytes_eq conn.pin pin

abbrev pub connected : List ℕ → List ℕ → List Conn → List Conn
connected pin net conns =
    (if list_any (is_conn_of pin) conns
    then map (λ conn. if is_conn_of pin conn then record { pin = conn.pin; net = Some net } else conn) conns
    else conns ++ record { pin = pin; net = Some net } ∷ [])

abbrev pub with_conns : (List Conn → List Conn) → Inst → Inst
with_conns change inst = record { name = inst.name; cell = inst.cell; conns = change inst.conns }

abbrev pub moved_sinks : List ℕ → List (List ℕ) → List Inst → List Inst
moved_sinks fresh [] insts = insts
moved_sinks fresh (s ∷ ss) insts =
    moved_sinks fresh ss (on_inst (before_last s) (with_conns (connected (after_last s) fresh)) insts)

abbrev pub first_pin : Dir → Cell → List ℕ
first_pin dir cell = option_map_or (λ p. p.name) (find (λ p. same_dir p.dir dir) cell.pins) []

abbrev pub buffer_inst : Design → List ℕ → List ℕ → List ℕ → List ℕ → Inst
buffer_inst d net inst fresh cell =
    record {
      name = inst;
      cell = cell;
      conns =
          option_map_or
          (λ c. record { pin = first_pin Input c; net = Some net } ∷ record { pin = first_pin Output c; net = Some fresh } ∷ [])
          (cell_for d cell) [];
    }

-- new parasitics take the place of the old ones, or stand last
abbrev pub with_rc : NetRc → List NetRc → List NetRc
with_rc rc rcs =
    (if list_any (λ old. bytes_eq old.net rc.net) rcs
    then map (λ old. if bytes_eq old.net rc.net then rc else old) rcs
    else rcs ++ rc ∷ [])

abbrev pub set_rc : List ℕ → Option NetRc → List NetRc → List NetRc
set_rc net None rcs = without_rc net rcs
set_rc net (Some rc) rcs = with_rc rc rcs

-- the design after an edit that has no fault; an edit of a net's connections drops its parasitics
abbrev pub changed : Design → Edit → Design
changed d (Repower inst cell) =
    record d { insts = on_inst inst (λ i. record { name = i.name; cell = cell; conns = i.conns }) d.insts }
changed d (InsertGate inst cell) = record d { insts = d.insts ++ record { name = inst; cell = cell; conns = [] } ∷ [] }
changed d (RemoveGate inst) = record d { insts = filter (λ i. not (bytes_eq i.name inst)) d.insts }
changed d (InsertNet net) = record d { nets = d.nets ++ net ∷ [] }
changed d (RemoveNet net) = record d { nets = filter (λ n. not (bytes_eq n net)) d.nets; rcs = without_rc net d.rcs }
changed d (Connect pin net) =
    record d { insts = on_inst (before_last pin) (with_conns (connected (after_last pin) net)) d.insts; rcs = without_rc net d.rcs }
changed d (Disconnect pin) =
    record d {
      insts = on_inst (before_last pin) (with_conns (filter (λ conn. not (is_conn_of (after_last pin) conn)))) d.insts;
      rcs = option_map_or (λ net. without_rc net d.rcs) (word_net d pin) d.rcs;
    }
changed d (InsertBuffer net inst fresh cell sinks) =
    record d {
      insts = moved_sinks fresh sinks d.insts ++ buffer_inst d net inst fresh cell ∷ [];
      nets = d.nets ++ fresh ∷ [];
      rcs = without_rc net d.rcs;
    }
changed d (SetParasitics net rc) = record d { rcs = set_rc net rc d.rcs }

-- the design after an edit, or its first fault
abbrev pub edit_by : Option Fault → Design → Edit → Result Design Fault
edit_by None d e = Ok (changed d e)
edit_by (Some fault) d e = Err fault

abbrev pub edit : Design → Edit → Result Design Fault
edit d e = edit_by (first_fault (edit_faults d e)) d e

-- the design after all edits in order, or the first fault
abbrev pub edited_list : Result Design Fault → List Edit → Result Design Fault
edited_list (Err fault) edits = Err fault
edited_list (Ok d) [] = Ok d
edited_list (Ok d) (e ∷ es) = edited_list (edit d e) es

abbrev pub edited : Design → Eco → Result Design Fault
edited d eco = edited_list (Ok d) eco.edits

-- linking: the design of the documents, or the fault of the first instance that has one (its cell,
-- then its pins in order), or of the first net of the parasitics that is not there
abbrev pub link_pin : List ℕ → Cell → Conn → Option Fault
link_pin inst cell conn = unless (is_some (direction_in cell conn.pin)) (UnknownPin (inst ++ 58 ∷ conn.pin))

abbrev pub link_inst : Library → Library → Inst → Option Fault
link_inst early late inst =
    option_map_or (λ cell. first_some (link_pin inst.name cell) inst.conns) (usable_cell early late inst.cell)
    (Some (UnknownCell inst.cell))

abbrev pub link_net : List (List ℕ) → NetRc → Option Fault
link_net nets rc = unless (is_listed nets rc.net) (UnknownNet rc.net)

abbrev pub link_fault : Library → Library → Module → Parasitics → Option Fault
link_fault early late netlist parasitics =
    first_fault (first_some (link_inst early late) netlist.insts ∷ first_some (link_net netlist.nets) parasitics.nets ∷ [])

abbrev pub joined : Library → Library → Module → Constraints → Parasitics → Design
joined early late netlist constraints parasitics =
    record {
      early = early;
      late = late;
      ports = netlist.ports;
      nets = netlist.nets;
      insts = netlist.insts;
      constraints = constraints;
      rcs = parasitics.nets;
    }

abbrev pub link_by : Option Fault → Design → Result Design Fault
link_by None d = Ok d
link_by (Some fault) d = Err fault

abbrev pub linked : Library → Library → Module → Constraints → Parasitics → Result Design Fault
linked early late netlist constraints parasitics =
    link_by (link_fault early late netlist parasitics) (joined early late netlist constraints parasitics)
