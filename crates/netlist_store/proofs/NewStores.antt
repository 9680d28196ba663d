-- A store that is made of a linked design.

use Rattle.std.proofs.Common.{◌≡◌, ◌≤◌, ℕ, true, List, map, length, Some, ap, ◌∙◌}
use Rattle.std.specs.List.{filter_map}
use Rattle.std.proofs.lemmas.List.{length-map}
use Rattle.timing_defs.specs.declared.netlist.Inst.{Inst}
use Rattle.timing_defs.specs.declared.parasitics.NetRc.{NetRc}
use Rattle.timing_defs.specs.declared.design.Design.{Design}
use Rattle.timing_defs.specs.Netlist.{name_of, are_distinct}
use Rattle.netlist_store.specs.declared.tables.Frame.{Frame}
use Rattle.netlist_store.specs.declared.tables.Names.{Names}
use Rattle.netlist_store.specs.declared.tables.Orders.{Orders}
use Rattle.netlist_store.specs.declared.tables.Rows.{Rows}
use Rattle.netlist_store.specs.Numbering.{Stored, number_of, AreNumbers}
use Rattle.netlist_store.specs.Linked.{IsLinked}
use Rattle.netlist_store.specs.Stores.{stored_in, AreTables}
use Rattle.netlist_store.specs.Building.{of_pins, row_of, first_numbers, AreNetPins, AreRcRows}
use Rattle.netlist_store.proofs.FitLaws.{fits, nets_distinct, pins_apart, short}
use Rattle.netlist_store.proofs.NewTables.{IsNew, new_stored, new_tables}
use Rattle.netlist_store.proofs.PinLists.{as_many}

pub pins_ready : (d : Design) (frame : Frame) → frame.late ≡ d.late → frame.ports ≡ d.ports → IsLinked d
    → are_distinct (of_pins name_of frame.ports frame.late.cells d.insts) ≡ true
pins_ready d frame late ports linked =
    ap (λ x. are_distinct (of_pins name_of frame.ports x.cells d.insts)) late
    ∙ ap (λ x. are_distinct (of_pins name_of x d.late.cells d.insts)) ports
    ∙ pins_apart d linked

pub rows_ready : (frame : Frame) (names : Names) (insts : List Inst) → names.pins ≡ map Some (of_pins name_of frame.ports frame.late.cells insts)
    → length names.pins ≡ length (of_pins (row_of names.insts names.nets) frame.ports frame.late.cells insts)
rows_ready frame names insts e =
    ap length e ∙ length-map (of_pins name_of frame.ports frame.late.cells insts) Some
    ∙ as_many name_of (row_of names.insts names.nets) frame.ports frame.late.cells insts

pub new_from : (d : Design) (frame held : Frame) (names : Names) (rows : Rows) (orders : Orders) → held ≡ frame
    → frame.early ≡ d.early → frame.late ≡ d.late → frame.ports ≡ d.ports → frame.constraints ≡ d.constraints
    → names.insts ≡ map Some (map (λ i. i.name) d.insts) → names.nets ≡ map Some d.nets
    → names.pins ≡ map Some (of_pins name_of frame.ports frame.late.cells d.insts)
    → rows.insts ≡ map Some d.insts → AreRcRows names.nets d.rcs rows.rcs
    → rows.pins ≡ of_pins (row_of names.insts names.nets) frame.ports frame.late.cells d.insts
    → length rows.net_pins ≡ length names.nets → AreNetPins rows.pins (length rows.pins) rows.net_pins
    → orders.insts ≡ first_numbers (length names.insts) → orders.nets ≡ first_numbers (length names.nets)
    → orders.rcs ≡ filter_map (λ rc. number_of names.nets rc.net) d.rcs
    → IsNew d held names rows orders
new_from d frame held names rows orders same early late ports constraints insts nets pins inst_rows rc_rows pin_rows net_len net_pins inst_order net_order rc_order = record {
  early = ap (λ f. f.early) same ∙ early;
  late = ap (λ f. f.late) same ∙ late;
  ports = ap (λ f. f.ports) same ∙ ports;
  constraints = ap (λ f. f.constraints) same ∙ constraints;
  insts = insts;
  nets = nets;
  pins =
      pins ∙ ap (λ x. map Some (of_pins name_of frame.ports x.cells d.insts)) late
      ∙ ap (λ x. map Some (of_pins name_of x d.late.cells d.insts)) ports;
  inst_rows = inst_rows;
  rc_rows = rc_rows;
  pin_rows =
      pin_rows ∙ ap (λ x. of_pins (row_of names.insts names.nets) frame.ports x.cells d.insts) late
      ∙ ap (λ x. of_pins (row_of names.insts names.nets) x d.late.cells d.insts) ports;
  net_len = net_len;
  net_pins = net_pins;
  inst_order = inst_order;
  net_order = net_order;
  rc_order = rc_order;
}

-- a design as its frame and its lists make it
abbrev pub whole : (frame : Frame) (nets : List (List ℕ)) (insts : List Inst) (rcs : List NetRc) → Design
whole frame nets insts rcs =
    record {
      early = frame.early;
      late = frame.late;
      ports = frame.ports;
      nets = nets;
      insts = insts;
      constraints = frame.constraints;
      rcs = rcs;
    }

pub whole_is : (d : Design) (frame : Frame) → frame.early ≡ d.early → frame.late ≡ d.late → frame.ports ≡ d.ports → frame.constraints ≡ d.constraints
    → whole frame d.nets d.insts d.rcs ≡ d
whole_is d frame early late ports constraints =
    ap (λ x. record d { early = x; late = frame.late; ports = frame.ports; constraints = frame.constraints }) early
    ∙ ap (λ x. record d { late = x; ports = frame.ports; constraints = frame.constraints }) late
    ∙ ap (λ x. record d { ports = x; constraints = frame.constraints }) ports
    ∙ ap (λ x. record d { constraints = x }) constraints

pub early_short : (d : Design) → IsLinked d → length d.early.cells ≤ 10000
early_short d linked = short d.early linked.early

pub late_short : (d : Design) → IsLinked d → length d.late.cells ≤ 10000
late_short d linked = short d.late linked.late

pub insts_apart : (d : Design) → IsLinked d → are_distinct (map (λ i. i.name) d.insts) ≡ true
insts_apart d linked = (fits d linked).insts

pub rcs_apart : (d : Design) → IsLinked d → are_distinct (map (λ rc. rc.net) d.rcs) ≡ true
rcs_apart d linked = (fits d linked).rcs

pub tables_of : (d : Design) (frame : Frame) (names : Names) (rows : Rows) (orders : Orders) → IsNew d frame names rows orders → IsLinked d
    → AreNumbers names.insts → AreNumbers names.nets → AreNumbers names.pins → AreTables (stored_in frame names rows orders) rows orders
tables_of d frame names rows orders new linked = new_tables d frame names rows orders new (fits d linked) linked

pub design_of : (d : Design) (frame : Frame) (names : Names) (rows : Rows) (orders : Orders) → IsNew d frame names rows orders → IsLinked d
    → (stored_in frame names rows orders).design ≡ d
design_of d frame names rows orders new linked = ap (λ (s : Stored). s.design) (new_stored d frame names rows orders new (fits d linked))

pub ruleset store_ready = (early_short, late_short, nets_distinct, insts_apart, rcs_apart, pins_ready, rows_ready)
