-- The arcs of a design between the numbers of its pins: those of nets, and those of cells.

use Rattle.std.specs.Prelude.{ℕ, List, [], ◌++◌, map, length, if◌then◌else◌, Option, Some, None, option_and_then, option_map}
use Rattle.std.specs.List.{filter_map, flat_map, range_with_len}
use Rattle.std.specs.Option.{option_map_or}
use Rattle.timing_defs.specs.declared.kinds.Split.TheVariants.{Late}
use Rattle.timing_defs.specs.declared.library.CellArc.{CellArc}
use Rattle.timing_defs.specs.declared.library.CellPin.{CellPin}
use Rattle.timing_defs.specs.declared.netlist.Inst.{Inst}
use Rattle.timing_defs.specs.Netlist.{Pin, full_name, net_of, is_driver, cell_of}
use Rattle.timing_rules.specs.Clocking.{cell_arcs}
use Rattle.netlist_store.specs.Numbering.{Stored, number_of, inst_numbered, pin_numbered}
use Rattle.store_pins.specs.Drivers.{driver_number, driver_at}
use Rattle.levelizer.specs.declared.links.Link.{Link}
use Rattle.pin_graph.specs.declared.pin_arcs.PinArc.{PinArc}

-- the number of a pin of an instance, by its name in the cell
abbrev pub own_number : Stored → Inst → List ℕ → Option ℕ
own_number s inst own = number_of s.pins (full_name (Some inst) own)

-- the numbers of pins of an instance's cell, in their order
abbrev pub own_numbers : Stored → Inst → List CellPin → List (Option ℕ)
own_numbers s inst pins = map (λ pin. own_number s inst pin.name) pins

-- an arc of an instance's cell, between the numbers of its pins
abbrev pub pin_arc : CellArc → ℕ → ℕ → PinArc
pin_arc arc from to =
    record { from = from; from_tran = arc.from_tran; to = to; to_tran = arc.to_tran; kind = arc.kind }

abbrev pub arc_between : CellArc → Option ℕ → Option ℕ → Option PinArc
arc_between arc from to = option_and_then (λ f. option_map (pin_arc arc f) to) from

abbrev pub numbered_arc : Stored → Inst → CellArc → Option PinArc
numbered_arc s inst arc = arc_between arc (own_number s inst arc.from) (own_number s inst arc.to)

-- the arcs of an instance's cell, in the late library; of all instances
abbrev pub inst_arcs : Stored → Inst → List PinArc
inst_arcs s inst = filter_map (numbered_arc s inst) (cell_arcs (cell_of s.design Late inst))

abbrev pub arcs_of : Stored → ℕ → List PinArc
arcs_of s n = option_map_or (inst_arcs s) (inst_numbered s n) []

abbrev pub pin_arcs : Stored → List PinArc
pin_arcs s = flat_map (arcs_of s) (range_with_len 0 (length s.insts))

-- the driver of each net, by the net's number
abbrev pub drivers_of : Stored → List (Option ℕ)
drivers_of s = map (driver_at s) (range_with_len 0 (length s.nets))

-- the number of the pin from which a net arc leads to a pin; none leads to a pin that drives
abbrev pub net_before : Stored → Pin → Option ℕ
net_before s pin = (if is_driver pin then None else option_and_then (driver_number s) (net_of pin))

abbrev pub before : Stored → ℕ → Option ℕ
before s n = option_and_then (net_before s) (pin_numbered s n)

abbrev pub befores : Stored → List (Option ℕ)
befores s = map (before s) (range_with_len 0 (length s.pins))

-- the arcs of nets and of cells, from pin to pin
abbrev pub link_from : ℕ → ℕ → Link
link_from to from = record { from = from; to = to }

abbrev pub link_into : Stored → ℕ → Option Link
link_into s n = option_map (link_from n) (before s n)

abbrev pub net_links : Stored → List Link
net_links s = filter_map (link_into s) (range_with_len 0 (length s.pins))

abbrev pub link_of : PinArc → Link
link_of arc = record { from = arc.from; to = arc.to }

abbrev pub pin_links : Stored → List Link
pin_links s = net_links s ++ map link_of (pin_arcs s)
