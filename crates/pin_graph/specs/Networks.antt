-- The clock network by the numbers of pins: the arcs along which clocks go, the clocks' ports and the
-- registers' clock pins.

use Rattle.std.specs.Prelude.{ℕ, ◌≡◌, ◌<◌, ◌++◌, List, [], Bool, true, false, ◌&&◌, Contains, map, length, if◌then◌else◌, slice_index_or, Option, Some, None, option_and_then}
use Rattle.std.specs.List.{filter_map, flat_map, range_with_len}
use Rattle.std.specs.Option.{option_map_or}
use Rattle.timing_defs.specs.declared.kinds.Split.TheVariants.{Late}
use Rattle.timing_defs.specs.declared.constraints.Clock.{Clock}
use Rattle.timing_defs.specs.declared.netlist.Inst.{Inst}
use Rattle.timing_defs.specs.Netlist.{Pin, cell_of, pins}
use Rattle.timing_defs.specs.Kinds.{comb_kind}
use Rattle.timing_rules.specs.Clocking.{cell_tests, is_clock_port, is_network}
use Rattle.timing_rules.specs.Checks.{network_before}
use Rattle.timing_rules.specs.Rows.{is_input_port}
use Rattle.netlist_store.specs.Numbering.{Stored, number_of, inst_numbered, pin_numbered}
use Rattle.levelizer.specs.declared.links.Link.{Link}
use Rattle.levelizer.specs.Reaching.{has_mark, AreReached}
use Rattle.pin_graph.specs.declared.pin_arcs.PinArc.{PinArc}
use Rattle.pin_graph.specs.Joins.{own_number, link_of, net_links, pin_arcs}

-- clocks go along net arcs and combinational arcs
abbrev pub is_comb_arc : PinArc → Bool
is_comb_arc arc = comb_kind arc.kind

abbrev pub comb_link : PinArc → Option Link
comb_link arc = (if is_comb_arc arc then Some (link_of arc) else None)

abbrev pub network_links : Stored → List Link
network_links s = net_links s ++ filter_map comb_link (pin_arcs s)

-- the same arcs, each from its end to its beginning
abbrev pub turned : Link → Link
turned link = record { from = link.to; to = link.from }

-- the numbers of the clocks' ports
abbrev pub input_port : Stored → ℕ → Option ℕ
input_port s pin = (if option_map_or is_input_port (pin_numbered s pin) false then Some pin else None)

abbrev pub port_number : Stored → List ℕ → Option ℕ
port_number s name = option_and_then (input_port s) (number_of s.pins name)

abbrev pub clock_port : Stored → Clock → Option ℕ
clock_port s clock = option_and_then (port_number s) clock.port

abbrev pub clock_ports : Stored → List ℕ
clock_ports s = filter_map (clock_port s) s.design.constraints.clocks

-- the numbers of the registers' clock pins: those of edge arcs, and those of tests
abbrev pub edge_from : PinArc → Option ℕ
edge_from arc = (if is_comb_arc arc then None else Some arc.from)

abbrev pub inst_tests : Stored → Inst → List ℕ
inst_tests s inst = filter_map (λ test. own_number s inst test.clock) (cell_tests (cell_of s.design Late inst))

abbrev pub tests_of : Stored → ℕ → List ℕ
tests_of s n = option_map_or (inst_tests s) (inst_numbered s n) []

abbrev pub clock_pins : Stored → List ℕ
clock_pins s = filter_map edge_from (pin_arcs s) ++ flat_map (tests_of s) (range_with_len 0 (length s.insts))

-- for each number whether it is of a pin of the clock network; such a pin that is no clock's port has one before it
pub record IsNetwork (s : Stored) (marks : List Bool) : Type 0 where
  pub count : length marks ≡ length s.pins
  pub each : (pin : ℕ) → pin < length s.pins → slice_index_or marks pin false ≡ option_map_or (is_network s.design) (pin_numbered s pin) false
  pub entered : (pin : Pin) → Contains (pins s.design) pin → is_network s.design pin ≡ true → is_clock_port s.design pin ≡ false
      → 0 < length (network_before s.design pin)

-- the marked numbers are those that the clocks' ports reach and that reach registers' clock pins
pub record AreClockMarks (s : Stored) (from to marks : List Bool) : Type 0 where
  pub forth : AreReached (length s.pins) (network_links s) (clock_ports s) from
  pub back : AreReached (length s.pins) (map turned (network_links s)) (clock_pins s) to
  pub count : length marks ≡ length s.pins
  pub each : (pin : ℕ) → pin < length s.pins → has_mark marks pin ≡ (has_mark from pin && has_mark to pin)
