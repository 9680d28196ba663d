-- The affected cone of an edit: the nodes whose rows an update has to find again, forward and
-- backward (incremental timing as in OpenTimer). It is told by the rows of the base and of the
-- edited design; no stored result is in it. Free is the count of evaluations between the bounds below.

use Rattle.std.specs.Prelude.{ℕ, ◌≡◌, ◌+◌, ◌≤◌, nat_eq, Bool, true, false, IsTrue, not, ◌&&◌, ◌||◌, List, [], ◌∷◌, count_by, Option, Some, None, Ok}
use Rattle.std.specs.List.{list_any, list_all}
use Rattle.std.specs.Option.{option_map_or}
use Rattle.std.specs.Ordering.{int_eq}
use Rattle.std.specs.Cmp.Lexicographic.{pointwise}
use Rattle.std.specs.Str.{bytes_eq}
use Rattle.sta_units.specs.declared.units.Fs.{Fs}
use Rattle.timing_defs.specs.declared.kinds.Split.TheVariants.{Late}
use Rattle.timing_defs.specs.declared.library.CellTest.{CellTest}
use Rattle.timing_defs.specs.declared.edge_times.EdgeTime.{EdgeTime}
use Rattle.timing_defs.specs.declared.rows.NodeRow.{NodeRow}
use Rattle.timing_defs.specs.declared.rows.BackRow.{BackRow}
use Rattle.timing_defs.specs.declared.netlist.Inst.{Inst}
use Rattle.timing_defs.specs.declared.design.Design.{Design}
use Rattle.timing_defs.specs.declared.edits.Eco.{Eco}
use Rattle.timing_defs.specs.Netlist.{Node, same_tran, cell_of, net_of, is_driver, is_listed, nodes}
use Rattle.timing_defs.specs.Edits.{edited}
use Rattle.timing_defs.specs.Kinds.{is_comb}
use Rattle.timing_defs.specs.Touches.{Touch, touched_list}
use Rattle.timing_rules.specs.Checks.{Accepts, IsSound}
use Rattle.timing_rules.specs.Clocking.{cell_tests, is_network}
use Rattle.timing_rules.specs.Paths.{named, node_named, same_named}
use Rattle.timing_rules.specs.Required.{arcs_out, back_row}
use Rattle.timing_rules.specs.Rows.{arcs_in, library_arcs, row}

abbrev pub same_option : {X : Type 0} → (X → X → Bool) → Option X → Option X → Bool
same_option same None None = true
same_option same None (Some y) = false
same_option same (Some x) None = false
same_option same (Some x) (Some y) = same x y

abbrev pub same_truth : Bool → Bool → Bool
same_truth true b = b
same_truth false b = not b

abbrev pub same_fs : Fs → Fs → Bool
same_fs a b = int_eq a.0 b.0

abbrev pub same_time : EdgeTime → EdgeTime → Bool
same_time a b = nat_eq a.clock b.clock && same_tran a.tran b.tran && same_fs a.time b.time

abbrev pub same_row : NodeRow → NodeRow → Bool
same_row a b =
    same_option same_fs a.early_slew b.early_slew && same_option same_fs a.late_slew b.late_slew
    && pointwise same_time a.early b.early && pointwise same_time a.late b.late

abbrev pub same_back : BackRow → BackRow → Bool
same_back a b = pointwise same_time a.early b.early && pointwise same_time a.late b.late

-- a node of the edited design against the node of its name in the base; one that the base lacks differs
abbrev pub differs_by : Design → (Node → Node → Bool) → Node → Bool
differs_by base same node = option_map_or (λ before. not (same before node)) (node_named base (named node)) true

abbrev pub row_differs : Design → Design → Node → Bool
row_differs base edited node = differs_by base (λ before now. same_row (row base before) (row edited now)) node

abbrev pub back_differs : Design → Design → Node → Bool
back_differs base edited node = differs_by base (λ before now. same_back (back_row base before) (back_row edited now)) node

-- the sorts of library arcs that make an arc: combinational ones, and those of a register; a net's
-- arc has neither
abbrev pub has_comb_arc : Design → Node → Node → Bool
has_comb_arc d from to = is_driver to.pin && list_any is_comb (library_arcs d Late from to)

abbrev pub has_register_arc : Design → Node → Node → Bool
has_register_arc d from to = is_driver to.pin && list_any (λ arc. not (is_comb arc)) (library_arcs d Late from to)

abbrev pub same_sort : Design → Design → Node → Node → Node → Node → Bool
same_sort base edited from to from' to' =
    same_named (named from) (named from')
    && same_truth (has_comb_arc base from to) (has_comb_arc edited from' to')
    && same_truth (has_register_arc base from to) (has_register_arc edited from' to')

-- the arcs into two nodes are the same, as sets of nodes with their sorts
abbrev pub same_arcs : Design → Design → Node → Node → Bool
same_arcs base edited to to' =
    list_all (λ from. list_any (λ from'. same_sort base edited from to from' to') (arcs_in edited to')) (arcs_in base to)
    && list_all (λ from'. list_any (λ from. same_sort base edited from to from' to') (arcs_in base to)) (arcs_in edited to')

-- a seed: a node on a touched net or of a touched instance, or whose arcs in or place in a clock network changed
abbrev pub is_touched : Touch → Node → Bool
is_touched touch node =
    option_map_or (is_listed touch.nets) (net_of node.pin) false
    || option_map_or (λ inst. is_listed touch.insts inst.name) node.pin.owner false

abbrev pub is_seed : Design → Design → Touch → Node → Bool
is_seed base edited touch node =
    is_touched touch node
    || differs_by base (same_arcs base edited) node
    || differs_by base (λ before now. same_truth (is_network base before.pin) (is_network edited now.pin)) node

-- forward: the seeds, and what a node whose row differs leads to
abbrev pub is_forward : Design → Design → Touch → Node → Bool
is_forward base edited touch node =
    is_seed base edited touch node || list_any (row_differs base edited) (arcs_in edited node)

unfoldable pub forward_count : Design → Design → Touch → ℕ
forward_count base edited touch = count_by (is_forward base edited touch) (nodes edited)

-- the nodes of the edited design to which an arc of the base leads from a node
abbrev pub led_to_before : Design → Node → Node → Bool
led_to_before base from to =
    option_map_or (λ before. list_any (λ next. same_named (named next) (named to)) (arcs_out base before)) (node_named base (named from)) false

abbrev pub leads_to_seed : Design → Design → Touch → Node → Bool
leads_to_seed base edited touch node =
    list_any (is_seed base edited touch) (arcs_out edited node)
    || list_any (λ to. is_seed base edited touch to && led_to_before base node to) (nodes edited)

-- the clock nodes of the setup and hold arcs of a data node
abbrev pub tests_by : Node → Node → CellTest → Bool
tests_by target clock test =
    bytes_eq test.pin target.pin.own && same_tran test.tran target.tran
    && bytes_eq test.clock clock.pin.own && same_tran test.active clock.tran

abbrev pub is_tested_by : Design → Node → Node → Inst → Bool
is_tested_by d target clock inst =
    option_map_or (λ owner. bytes_eq owner.name inst.name) clock.pin.owner false
    && list_any (tests_by target clock) (cell_tests (cell_of d Late inst))

abbrev pub has_changed_clock : Design → Design → Touch → Node → Bool
has_changed_clock base edited touch node =
    option_map_or
    (λ inst. list_any (λ clock. is_tested_by edited node clock inst
    && (is_seed base edited touch clock || row_differs base edited clock)) (nodes edited))
    node.pin.owner false

-- backward: seeds, nodes whose row differs, those that lead to a seed in either design or to a node
-- whose back row differs, and data nodes whose clock changed
abbrev pub is_backward : Design → Design → Touch → Node → Bool
is_backward base edited touch node =
    is_seed base edited touch node || row_differs base edited node || leads_to_seed base edited touch node
    || list_any (back_differs base edited) (arcs_out edited node) || has_changed_clock base edited touch node

unfoldable pub backward_count : Design → Design → Touch → ℕ
backward_count base edited touch = count_by (is_backward base edited touch) (nodes edited)

-- the bounds on the evaluations of nodes that an update counts. `whole` says that it gives an analysis: then at least the
-- forward ones; in any case at most the forward and the backward ones
abbrev pub IsRise : Design → Design → Touch → Bool → ℕ → Type 0
IsRise base edited touch whole rise =
    (IsTrue whole → forward_count base edited touch ≤ rise)
    × (rise ≤ forward_count base edited touch + backward_count base edited touch)

-- an ECO makes a sound design of a base
abbrev pub MakesSound : Design → Eco → Design → Type 0
MakesSound base eco d = (edited base eco ≡ Ok d) × IsSound d

-- the bounds on what the trial of an ECO counts; `told` says that memory was not wanting. Where the ECO is accepted
-- at least the forward nodes; where it makes a sound design at most the forward and the backward ones; else nothing
abbrev pub IsCounted : Design → Eco → Bool → ℕ → Type 0
IsCounted base eco told rise =
    ((d : Design) → Accepts base eco d → IsTrue told → forward_count base d (touched_list base eco.edits) ≤ rise)
    × ((d : Design) → MakesSound base eco d →
    rise ≤ forward_count base d (touched_list base eco.edits) + backward_count base d (touched_list base eco.edits))
    × (((d : Design) → MakesSound base eco d → ⊥) → rise ≡ 0)

-- what the trials of several ECOs on one base count together
abbrev pub AreCounted : Design → List Eco → ℕ → Type 0
AreCounted base [] rise = rise ≡ 0
AreCounted base (eco ∷ ecos) rise =
    (first : ℕ) × (more : ℕ) × IsCounted base eco true first × AreCounted base ecos more × (rise ≡ first + more)
