-- What is joined to what: a net with its driver, load, wires and sinks (as `report_net` of OpenSTA), an instance with its
-- pins (as `report_instance`), and the cells to which an instance may be resized (as `report_equiv_cells`). Rows are
-- ordered by names. Nothing is free.

use Rattle.std.specs.Prelude.{ℕ, suc, ◌≡◌, Bool, true, false, not, ◌+◌, ◌&&◌, ◌∷◌, int_lt, nat_lt, pos, is_none, if◌then◌else◌, List, length, Option, Some, None, find, option_map, option_and_then}
use Rattle.std.specs.List.{Contains}
use Rattle.std.specs.Option.{option_map_or}
use Rattle.std.specs.Str.{bytes_eq}
use Rattle.sta_units.specs.declared.units.Fs.{Fs}
use Rattle.timing_defs.specs.declared.kinds.Split.{Split}
use Rattle.timing_defs.specs.declared.kinds.Split.TheVariants.{Early, Late}
use Rattle.timing_defs.specs.declared.kinds.Dir.TheVariants.{Input}
use Rattle.timing_defs.specs.declared.library.Cell.{Cell}
use Rattle.timing_defs.specs.declared.library.CellPin.{CellPin}
use Rattle.timing_defs.specs.declared.netlist.Conn.{Conn}
use Rattle.timing_defs.specs.declared.netlist.Inst.{Inst}
use Rattle.timing_defs.specs.declared.parasitics.NetRc.{NetRc}
use Rattle.timing_defs.specs.declared.rows.PinCap.{PinCap}
use Rattle.timing_defs.specs.declared.edits.Edit.TheVariants.{Repower}
use Rattle.timing_defs.specs.declared.closing.WireModel.{WireModel}
use Rattle.timing_defs.specs.declared.closing.WireModel.TheVariants.{Ideal, Lumped, Tree}
use Rattle.timing_defs.specs.declared.closing.SinkReport.{SinkReport}
use Rattle.timing_defs.specs.declared.closing.NetReport.{NetReport}
use Rattle.timing_defs.specs.declared.closing.Junction.{Junction}
use Rattle.timing_defs.specs.declared.closing.Junction.TheVariants.{Net, Tied, Open}
use Rattle.timing_defs.specs.declared.closing.PinReport.{PinReport}
use Rattle.timing_defs.specs.declared.closing.InstanceReport.{InstanceReport}
use Rattle.timing_defs.specs.declared.closing.SizeChoice.{SizeChoice}
use Rattle.timing_defs.specs.declared.closing.SizesReport.{SizesReport}
use Rattle.timing_defs.specs.declared.design.Design.{Design}
use Rattle.timing_defs.specs.Edits.{inst_named, edit_faults, first_fault, cells_agree}
use Rattle.timing_defs.specs.Firsts.{AreAll}
use Rattle.timing_defs.specs.NetChecks.{is_before}
use Rattle.timing_defs.specs.Netlist.{Pin, name_of, same_dir, cell_named, cell_of, inst_pins, driver, sinks}
use Rattle.timing_defs.specs.Wires.{sum_of, res_of, pin_cap, rc_of, net_load, is_lumped, root_node, wire_delay}
use Rattle.timing_rules.specs.Rows.{as_fs}

-- a tree has one node more than it has resistors
abbrev pub wires_of : Option NetRc → WireModel
wires_of None = Ideal
wires_of (Some rc) =
    (if is_lumped rc then Lumped else Tree (suc (length rc.ress)) (record { 0 = sum_of res_of rc.ress }))

-- the delay of the wire from the net's driver, where it has one, to a sink
abbrev pub sink_delay : Design → Split → List ℕ → Pin → Option Fs
sink_delay d split net pin = as_fs (option_map (λ from. wire_delay d split net from pin) (driver d net))

abbrev pub sink_report : Design → List ℕ → Pin → SinkReport
sink_report d net pin =
    record {
      pin = name_of pin;
      early_cap = record { 0 = pin_cap d Early pin };
      late_cap = record { 0 = pin_cap d Late pin };
      early_delay = sink_delay d Early net pin;
      late_delay = sink_delay d Late net pin;
    }

abbrev pub IsSink : Design → List ℕ → SinkReport → Type 0
IsSink d net s = (pin : Pin) × Contains (sinks d net) pin × (s ≡ sink_report d net pin)

abbrev pub sink_before : SinkReport → SinkReport → Bool
sink_before a b = is_before a.pin b.pin

-- the parasitics as an edit gives them: a capacitance of no node is one at the driver
abbrev pub has_items : NetRc → Bool
has_items rc = nat_lt 0 (length rc.caps + length rc.ress)

abbrev pub as_items : Pin → NetRc → NetRc
as_items root rc =
    (if not (int_lt (pos 0) rc.lump.0) && has_items rc then rc
    else record rc { caps = record { node = root_node root; cap = rc.lump } ∷ rc.caps; lump = record { 0 = pos 0 } })

abbrev pub kept_rc : Design → List ℕ → Option NetRc
kept_rc d net = option_and_then (λ root. option_map (as_items root) (rc_of d net)) (driver d net)

abbrev pub IsNet : Design → List ℕ → NetReport → Type 0
IsNet d net r =
    (r.driver ≡ option_map name_of (driver d net))
    × (r.early_load.0 ≡ net_load d Early net)
    × (r.late_load.0 ≡ net_load d Late net)
    × (r.wires ≡ wires_of (rc_of d net))
    × AreAll sink_before (IsSink d net) r.sinks
    × (r.rc ≡ kept_rc d net)

-- a pin that the instance's connections don't name is open, one that they name without a net is tied
abbrev pub joined_to : Option (List ℕ) → Junction
joined_to None = Tied
joined_to (Some net) = Net net

abbrev pub joined_by : Option Conn → Junction
joined_by None = Open
joined_by (Some conn) = joined_to conn.net

abbrev pub pin_report : Inst → Pin → PinReport
pin_report inst pin =
    record {
      pin = name_of pin;
      dir = pin.dir;
      joined = joined_by (find (λ conn. bytes_eq conn.pin pin.own) inst.conns);
    }

abbrev pub IsPinOf : Design → Inst → PinReport → Type 0
IsPinOf d inst p = (pin : Pin) × Contains (inst_pins d inst) pin × (p ≡ pin_report inst pin)

abbrev pub pin_before : PinReport → PinReport → Bool
pin_before a b = is_before a.pin b.pin

abbrev pub IsInstance : Design → List ℕ → InstanceReport → Type 0
IsInstance d name r =
    (inst : Inst) × (inst_named d.insts name ≡ Some inst) × (r.cell ≡ inst.cell)
    × AreAll pin_before (IsPinOf d inst) r.pins

-- an instance may be resized to a cell where the edit has no fault: the cell is in both libraries, alike there, and has each
-- pin that the instance lists, in its direction
abbrev pub may_be : Design → List ℕ → List ℕ → Bool
may_be d inst cell = is_none (first_fault (edit_faults d (Repower inst cell)))

-- a cell is alike where it has the pins, arcs and tests of the present one
abbrev pub is_alike : Design → Inst → Cell → Bool
is_alike d inst cell = option_map_or (λ now. cells_agree now cell) (cell_of d Late inst) false

abbrev pub input_cap : CellPin → PinCap
input_cap p = record { pin = p.name; cap = p.cap }

abbrev pub IsInputOf : Cell → PinCap → Type 0
IsInputOf cell c = (p : CellPin) × Contains cell.pins p × (same_dir p.dir Input ≡ true) × (c ≡ input_cap p)

abbrev pub input_before : PinCap → PinCap → Bool
input_before a b = is_before a.pin b.pin

abbrev pub IsChoice : Design → Inst → SizeChoice → Type 0
IsChoice d inst c =
    (may_be d inst.name c.cell ≡ true)
    × ((cell : Cell) × (cell_named d.late.cells c.cell ≡ Some cell) × (c.alike ≡ is_alike d inst cell)
    × AreAll input_before (IsInputOf cell) c.inputs)

abbrev pub choice_before : SizeChoice → SizeChoice → Bool
choice_before a b = is_before a.cell b.cell

abbrev pub AreSizes : Design → List ℕ → SizesReport → Type 0
AreSizes d name r =
    (inst : Inst) × (inst_named d.insts name ≡ Some inst) × (r.cell ≡ inst.cell)
    × AreAll choice_before (IsChoice d inst) r.choices
