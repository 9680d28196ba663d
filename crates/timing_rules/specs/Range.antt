-- Range: which computed quantities leave their limit, and where that begins. A quantity has a value
-- only where all that it is computed from has one within its limit; an origin names a quantity that
-- has a value outside its limit (own rule).

use Rattle.std.specs.Prelude.{ℕ, zero, suc, ℤ, Bool, true, false, not, ◌&&◌, ◌||◌, is_none, if◌then◌else◌, List, [], ◌∷◌, ◌++◌, map, length, Option, Some, option_map, option_and_then, ◌≡◌}
use Rattle.std.specs.List.{list_any, list_all, flat_map}
use Rattle.std.specs.Option.{option_map_or}
use Rattle.std.specs.Str.{bytes_eq}
use Rattle.sta_units.specs.Numbers.{is_within}
use Rattle.timing_defs.specs.declared.kinds.Split.{Split}
use Rattle.timing_defs.specs.declared.kinds.Split.TheVariants.{Early, Late}
use Rattle.timing_defs.specs.declared.kinds.Tran.{Tran}
use Rattle.timing_defs.specs.declared.kinds.Kind.{Kind}
use Rattle.timing_defs.specs.declared.library.Table.{Table}
use Rattle.timing_defs.specs.declared.library.CellArc.{CellArc}
use Rattle.timing_defs.specs.declared.parasitics.RcNode.{RcNode}
use Rattle.timing_defs.specs.declared.parasitics.NetRc.{NetRc}
use Rattle.timing_defs.specs.declared.faults.Place.{Place}
use Rattle.timing_defs.specs.declared.faults.Place.TheVariants.{Pin as at_pin, Net as at_net}
use Rattle.timing_defs.specs.declared.netlist.Inst.{Inst}
use Rattle.timing_defs.specs.declared.design.Design.{Design}
use Rattle.timing_defs.specs.Lookup.{look}
use Rattle.timing_defs.specs.Netlist.{Pin, Node, name_of, net_of, driver, is_driver, inst_pins, both_nodes, nodes}
use Rattle.timing_defs.specs.Wires.{sum_of, root_node, charges, elmore, res_of, net_load, rc_of, wire_delay}
use Rattle.timing_defs.specs.Kinds.{data_split, clock_split, kind_of}
use Rattle.timing_rules.specs.Clocking.{is_network}
use Rattle.timing_rules.specs.Required.{arcs_out, required}
use Rattle.timing_rules.specs.Rows.{arcs_in, library_arcs, load_at, net_name, scaled, raw_delay, slew, arrival, launch_edges}
use Rattle.timing_rules.specs.Tests.{Test, library_tests, tests_at, is_endpoint}

abbrev pub within_some : Option ℤ → Bool
within_some value = option_map_or is_within value true

abbrev pub either_split : (Split → Bool) → Bool
either_split test = test Early || test Late

-- the nodes of a net with parasitics: those of its resistors, its capacitances and its pins
abbrev pub rc_nodes : Design → Split → NetRc → List RcNode
rc_nodes d split rc = flat_map (λ r. r.a ∷ r.b ∷ []) rc.ress ++ map (λ c. c.node) (charges d split rc)

abbrev pub root_of_net : Design → NetRc → List Pin
root_of_net d rc = option_map_or (λ pin. pin ∷ []) (driver d rc.net) []

abbrev pub wires_within : Design → Split → NetRc → Bool
wires_within d split rc =
    list_all (λ root. list_all (λ k. is_within (elmore rc.ress (root_node root) (charges d split rc) k)) (rc_nodes d split rc))
    (root_of_net d rc)

abbrev pub net_wires_within : Design → Split → Option (List ℕ) → Bool
net_wires_within d split net = option_map_or (λ name. option_map_or (wires_within d split) (rc_of d name) true) net true

-- a net's total resistance, total capacitance and wire delays are named by the net
abbrev pub is_large_rc : Design → NetRc → Bool
is_large_rc d rc = not (is_within (sum_of res_of rc.ress)) || either_split (λ split. not (wires_within d split rc))

abbrev pub is_net_origin : Design → List ℕ → Bool
is_net_origin d net =
    either_split (λ split. not (is_within (net_load d split net))) || option_map_or (is_large_rc d) (rc_of d net) false

-- each slew and each delay of a cell arc as looked up, at this slew and the load
abbrev pub looked_within : Design → Split → Node → Node → (CellArc → Table) → ℤ → Bool
looked_within d split from to table x =
    list_all (λ arc. is_within (look (table arc) x (load_at d split to.pin))) (library_arcs d split from to)

abbrev pub is_loaded : Design → Split → Node → Bool
is_loaded d split to = is_within (load_at d split to.pin)

-- what the slew at the end of an arc is computed from has a value within its limit, the slew at its
-- beginning apart
abbrev pub slew_parts : Design → Split → Node → Node → Bool
slew_parts d split from to =
    option_map_or
    (λ x. if is_driver to.pin then is_loaded d split to && looked_within d split from to (λ arc. arc.slew) x
    else net_wires_within d split (net_of to.pin))
    (slew d split from) true

-- the slew of a node has a value: so have the slews and arcs that it is merged of
abbrev pub slew_inputs : Design → Split → (Node → Bool) → Node → Bool
slew_inputs d split fine to =
    list_all (λ from. is_none (slew d split from) || (fine from && slew_parts d split from to)) (arcs_in d to)

abbrev pub fine_slew_within : Design → Split → ℕ → Node → Bool
fine_slew_within d split zero to = true
fine_slew_within d split (suc n) to =
    slew_inputs d split (fine_slew_within d split n) to && within_some (slew d split to)

-- the slew of a node has a value within its limit, or the node has none
unfoldable pub fine_slew : Design → Split → Node → Bool
fine_slew d split node = fine_slew_within d split (suc (length (nodes d))) node

-- the raw delay of an arc has a value
abbrev pub has_raw_delay : Design → Split → Node → Node → Bool
has_raw_delay d split from to =
    (if is_driver to.pin
    then fine_slew d split from && is_loaded d split to
    && option_map_or (looked_within d split from to (λ arc. arc.delay)) (slew d split from) true
    else is_within (wire_delay d split (net_name to.pin) from.pin to.pin))

-- the scaled delay of an arc; that of a wire is there without a slew too
abbrev pub scaled_delay : Design → Split → Node → Node → Option ℤ
scaled_delay d split from to =
    (if is_driver to.pin
    then option_map (scaled d split to) (option_and_then (raw_delay d split from to) (slew d split from))
    else Some (scaled d split to (wire_delay d split (net_name to.pin) from.pin to.pin)))

abbrev pub fine_delay : Design → Split → Node → Node → Bool
fine_delay d split from to = has_raw_delay d split from to && within_some (scaled_delay d split from to)

abbrev pub arrival_inputs : Design → Split → ℕ × Tran → (Node → Bool) → Node → Bool
arrival_inputs d split edge fine to =
    list_all (λ from. is_none (arrival d split from edge) || (fine from && fine_delay d split from to)) (arcs_in d to)

abbrev pub fine_arrival_within : Design → Split → ℕ × Tran → ℕ → Node → Bool
fine_arrival_within d split edge zero to = true
fine_arrival_within d split edge (suc n) to =
    arrival_inputs d split edge (fine_arrival_within d split edge n) to && within_some (arrival d split to edge)

unfoldable pub fine_arrival : Design → Split → ℕ × Tran → Node → Bool
fine_arrival d split edge node = fine_arrival_within d split edge (suc (length (nodes d))) node

-- a looked-up slew or delay that leaves its limit, of an arc that has all that it is computed from
abbrev pub is_looked_origin : Design → Split → Node → Node → Bool
is_looked_origin d split to from =
    is_driver to.pin && fine_slew d split from && is_loaded d split to
    && option_map_or
    (λ x. not (looked_within d split from to (λ arc. arc.slew) x) || not (looked_within d split from to (λ arc. arc.delay) x))
    (slew d split from) false

abbrev pub is_scaled_origin : Design → Split → Node → Node → Bool
is_scaled_origin d split to from = has_raw_delay d split from to && not (within_some (scaled_delay d split from to))

abbrev pub is_slew_origin : Design → Split → Node → Bool
is_slew_origin d split to = slew_inputs d split (fine_slew d split) to && not (within_some (slew d split to))

abbrev pub is_arrival_origin : Design → Split → Node → ℕ × Tran → Bool
is_arrival_origin d split to edge =
    arrival_inputs d split edge (fine_arrival d split edge) to && not (within_some (arrival d split to edge))

-- the setup and hold times of a data node at a network clock pin, where both slews have a value
abbrev pub need_within : Design → Kind → Node → Node → Inst → Bool
need_within d kind target clock inst =
    list_all (λ test.
    option_map_or (λ x. option_map_or (λ y. is_within (look test.need x y)) (slew d (data_split kind) target) true)
    (slew d (clock_split kind) clock) true)
    (library_tests d kind inst target clock)

abbrev pub is_need_origin_at : Design → Kind → Node → Inst → Node → Bool
is_need_origin_at d kind target inst clock =
    is_network d clock.pin && fine_slew d (data_split kind) target && fine_slew d (clock_split kind) clock
    && not (need_within d kind target clock inst)

abbrev pub is_need_origin : Design → Kind → Node → Bool
is_need_origin d kind target =
    option_map_or (λ inst. list_any (is_need_origin_at d kind target inst) (flat_map both_nodes (inst_pins d inst))) target.pin.owner false

-- what a required time is computed from has a value: at an endpoint its tests, elsewhere the arcs out
abbrev pub fine_test : Design → Kind → Node → Test → Bool
fine_test d kind target test =
    option_map_or (λ clock.
    option_map_or (need_within d kind target clock) target.pin.owner true
    && fine_slew d (data_split kind) target && fine_slew d (clock_split kind) clock
    && fine_arrival d (clock_split kind) test.capture clock)
    test.clock true

abbrev pub required_inputs : Design → Split → ℕ × Tran → (Node → Bool) → Node → Bool
required_inputs d split edge fine node =
    (if is_endpoint d node.pin then list_all (fine_test d (kind_of split) node) (tests_at d (kind_of split) node)
    else list_all (λ to. is_none (required d split to edge) || (fine to && fine_delay d split node to)) (arcs_out d node))

abbrev pub fine_required_within : Design → Split → ℕ × Tran → ℕ → Node → Bool
fine_required_within d split edge zero node = true
fine_required_within d split edge (suc n) node =
    required_inputs d split edge (fine_required_within d split edge n) node && within_some (required d split node edge)

unfoldable pub fine_required : Design → Split → ℕ × Tran → Node → Bool
fine_required d split edge node = fine_required_within d split edge (suc (length (nodes d))) node

abbrev pub is_required_origin : Design → Split → Node → ℕ × Tran → Bool
is_required_origin d split node edge =
    required_inputs d split edge (fine_required d split edge) node && not (within_some (required d split node edge))

-- the quantities that the slews and arrivals of a node bring
abbrev pub is_forward_origin : Design → Split → Node → Bool
is_forward_origin d split node =
    list_any (is_looked_origin d split node) (arcs_in d node) || list_any (is_scaled_origin d split node) (arcs_in d node)
    || is_slew_origin d split node || list_any (is_arrival_origin d split node) (launch_edges d)

-- and those of its tests and required times
abbrev pub is_back_origin : Design → Split → Node → Bool
is_back_origin d split node =
    is_need_origin d (kind_of split) node || list_any (is_required_origin d split node) (launch_edges d)

abbrev pub is_node_origin : Design → Node → Bool
is_node_origin d node = either_split (λ split. is_forward_origin d split node || is_back_origin d split node)

abbrev pub is_pin_origin : Design → List ℕ → Bool
is_pin_origin d name = list_any (λ node. bytes_eq (name_of node.pin) name && is_node_origin d node) (nodes d)

-- an origin of an overflow: a net of the design, or a pin
abbrev pub is_origin : Design → Place → Bool
is_origin d (at_net name) = list_any (bytes_eq name) d.nets && is_net_origin d name
is_origin d (at_pin name) = is_pin_origin d name

abbrev pub NoOrigin : Design → Type 0
NoOrigin d = (place : Place) → is_origin d place ≡ false
