-- The tests of a node: setup and hold at registers, and output delays at ports (SDC; TAU 2015 contest).

use Rattle.std.specs.Prelude.{ℕ, ◌%◌, zero, suc, ℤ, pos, ◌+ℤ◌, ◌-ℤ◌, nat_abs, neg_ℤ, nat_eq, nat_lt, Bool, true, not, ◌&&◌, if◌then◌else◌, List, [], ◌∷◌, ◌++◌, map, filter, length, slice_get, Option, Some, None, find, option_map, option_and_then}
use Rattle.std.specs.List.{filter_map, flat_map, list_any}
use Rattle.std.specs.Option.{option_map_or}
use Rattle.std.specs.Int.{int_rem_euclid}
use Rattle.std.specs.Str.{bytes_eq}
use Rattle.timing_defs.specs.declared.kinds.Split.TheVariants.{Early, Late}
use Rattle.timing_defs.specs.declared.kinds.Tran.{Tran}
use Rattle.timing_defs.specs.declared.kinds.Tran.TheVariants.{Rise, Fall}
use Rattle.timing_defs.specs.declared.kinds.Kind.{Kind}
use Rattle.timing_defs.specs.declared.kinds.Kind.TheVariants.{Setup, Hold}
use Rattle.timing_defs.specs.declared.library.CellTest.{CellTest}
use Rattle.timing_defs.specs.declared.constraints.Clock.{Clock}
use Rattle.timing_defs.specs.declared.constraints.PortDelay.{PortDelay}
use Rattle.timing_defs.specs.declared.netlist.Inst.{Inst}
use Rattle.timing_defs.specs.declared.design.Design.{Design}
use Rattle.timing_defs.specs.Lookup.{look}
use Rattle.timing_defs.specs.Netlist.{Pin, Node, same_tran, same_split, cell_of, inst_pins, both_nodes, is_driver, nodes}
use Rattle.timing_defs.specs.Wires.{first_some}
use Rattle.timing_defs.specs.Kinds.{same_kind, data_split, clock_split, uncertainty}
use Rattle.timing_rules.specs.Clocking.{cell_tests, is_network, is_clock_port}
use Rattle.timing_rules.specs.Rows.{arcs_in, outermost, launch_edges, is_clock_at, slew, arrival}

-- a test of a node: the clock pin's node with the network walk to it (neither at an output port), the
-- time that the test needs, the capture edge, and the capture arrivals
pub record Test : Type 0 where
  pub clock : Option Node
  pub walk : List Node
  pub need : ℤ
  pub capture : ℕ × Tran
  pub early : ℤ
  pub late : ℤ

-- the walk of a network node from its clock's port; in a sound design a network node has one
abbrev pub walk_within : Design → ℕ → Node → Option (List Node)
walk_within d zero node = None
walk_within d (suc n) node =
    (if is_clock_port d node.pin then Some (node ∷ []) else
    first_some (λ from. option_map (λ walk. walk ++ node ∷ []) (walk_within d n from)) (arcs_in d node))

unfoldable pub network_walk : Design → Node → Option (List Node)
network_walk d node = (if is_network d node.pin then walk_within d (length (nodes d)) node else None)

-- the launch edge of a clock port's node
abbrev pub edge_of_port : Design → Node → Option (ℕ × Tran)
edge_of_port d node =
    find (λ edge. is_clock_at d.constraints.clocks edge.0 node.pin.own && same_tran edge.1 node.tran) (launch_edges d)

abbrev pub first_edge : Design → List Node → Option (ℕ × Tran)
first_edge d [] = None
first_edge d (node ∷ walk) = edge_of_port d node

abbrev pub is_test_of : Kind → Node → Node → CellTest → Bool
is_test_of kind target clock test =
    same_kind test.kind kind && bytes_eq test.pin target.pin.own && same_tran test.tran target.tran
    && bytes_eq test.clock clock.pin.own && same_tran test.active clock.tran

abbrev pub library_tests : Design → Kind → Inst → Node → Node → List CellTest
library_tests d kind inst target clock =
    filter (is_test_of kind target clock) (cell_tests (cell_of d (data_split kind) inst))

-- the setup or hold time at the slews of clock and data; of several tests the greatest
abbrev pub need_at : Design → Kind → Inst → Node → Node → Option ℤ
need_at d kind inst target clock =
    outermost Late
    (λ test. option_and_then (λ x. option_map (look test.need x) (slew d (data_split kind) target)) (slew d (clock_split kind) clock))
    None (library_tests d kind inst target clock)

abbrev pub test_on : Node → List Node → ℕ × Tran → ℤ → ℤ → ℤ → Test
test_on clock walk capture need early late =
    record { clock = Some clock; walk = walk; need = need; capture = capture; early = early; late = late }

abbrev pub test_along : Design → Kind → Inst → Node → Node → List Node → Option Test
test_along d kind inst target clock walk =
    option_and_then (λ edge.
    option_and_then (λ need.
    option_and_then (λ early.
    option_map (test_on clock walk edge need early) (arrival d Late clock edge))
    (arrival d Early clock edge))
    (need_at d kind inst target clock))
    (first_edge d walk)

-- the tests of a register's data node, one for each clock pin and active edge to which a network walk leads
abbrev pub register_tests : Design → Kind → Node → Inst → List Test
register_tests d kind target inst =
    filter_map (λ clock. option_and_then (test_along d kind inst target clock) (network_walk d clock))
    (filter (λ clock. nat_lt 0 (length (library_tests d kind inst target clock))) (flat_map both_nodes (inst_pins d inst)))

abbrev pub output_need : Kind → ℤ → ℤ
output_need Setup delay = delay
output_need Hold delay = neg_ℤ delay

abbrev pub output_test : Kind → PortDelay → Test
output_test kind o =
    record { clock = None; walk = []; need = output_need kind o.delay.0; capture = (o.clock, Rise); early = pos 0; late = pos 0 }

-- the output delay of a port, for the node's transition and the kind's split
abbrev pub port_tests : Design → Kind → Node → List Test
port_tests d kind target =
    map (output_test kind)
    (filter (λ o. bytes_eq o.port target.pin.own && same_split o.split (data_split kind) && same_tran o.tran target.tran) d.constraints.outputs)

unfoldable pub tests_at : Design → Kind → Node → List Test
tests_at d kind target =
    (if is_driver target.pin then [] else option_map_or (register_tests d kind target) target.pin.owner (port_tests d kind target))

-- an endpoint is a data pin of a setup or hold arc, or an output port
abbrev pub tests_pin : Design → List ℕ → Inst → Bool
tests_pin d own inst = list_any (λ test. bytes_eq test.pin own) (cell_tests (cell_of d Late inst))

abbrev pub is_endpoint : Design → Pin → Bool
is_endpoint d pin = not (is_driver pin) && option_map_or (tests_pin d pin.own) pin.owner true

-- a register pin is clocked for a kind where some test of the kind has a network clock pin
abbrev pub clocked_cell : Design → Kind → List ℕ → Inst → Bool
clocked_cell d kind own inst =
    list_any (λ test. same_kind test.kind kind && bytes_eq test.pin own
    && list_any (λ clock. bytes_eq clock.own test.clock && is_network d clock) (inst_pins d inst))
    (cell_tests (cell_of d Late inst))

abbrev pub is_clocked : Design → Kind → Pin → Bool
is_clocked d kind pin = option_map_or (clocked_cell d kind pin.own) pin.owner true

-- the greatest common divisor that is at most the first number
abbrev pub divisor_up_to : ℕ → ℕ → ℕ → ℕ
divisor_up_to zero a b = 1
divisor_up_to (suc n) a b =
    (if nat_eq (a % suc n) 0 && nat_eq (b % suc n) 0 then suc n else divisor_up_to n a b)

unfoldable pub common_period : ℤ → ℤ → ℕ
common_period p q = divisor_up_to (nat_abs p) (nat_abs p) (nat_abs q)

abbrev pub offset : Clock → Tran → ℤ
offset clock Rise = clock.rise.0
offset clock Fall = clock.fall.0

-- the least positive time from a launch edge to a capture edge, over all their repetitions; hold
-- looks at the capture edge one common period before
abbrev pub setup_separation : Clock → Tran → Clock → Tran → ℤ
setup_separation launch from capture to =
    int_rem_euclid (offset capture to -ℤ offset launch from -ℤ pos 1) (pos (common_period launch.period.0 capture.period.0)) +ℤ pos 1

abbrev pub separation : Kind → Clock → Tran → Clock → Tran → ℤ
separation Setup launch from capture to = setup_separation launch from capture to
separation Hold launch from capture to =
    setup_separation launch from capture to -ℤ pos (common_period launch.period.0 capture.period.0)

-- what a look at two clocks by their places gives, 0 where one is not there
abbrev pub on_clocks : Design → (Clock → Clock → ℤ) → ℕ → ℕ → ℤ
on_clocks d value launch capture =
    option_map_or (λ l. option_map_or (value l) (slice_get d.constraints.clocks capture) (pos 0))
    (slice_get d.constraints.clocks launch) (pos 0)

abbrev pub separation_on : Design → Kind → ℕ × Tran → ℕ × Tran → ℤ
separation_on d kind launch capture =
    on_clocks d (λ l c. separation kind l launch.1 c capture.1) launch.0 capture.0

abbrev pub uncertainty_on : Design → Kind → ℕ → ℤ
uncertainty_on d kind capture = option_map_or (uncertainty kind) (slice_get d.constraints.clocks capture) (pos 0)
