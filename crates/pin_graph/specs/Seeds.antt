-- The seeds of an update by the numbers of nodes: what an ECO touched, and nodes whose arcs in or membership
-- of the clock network are other than in the base.

use Rattle.std.specs.Prelude.{ℕ, ◌≡◌, ◌<◌, nat_eq, Bool, true, false, not, ◌&&◌, ◌||◌, if◌then◌else◌, List, [], ◌∷◌, All, Option, Some, None, option_map}
use Rattle.std.specs.List.{list_any, list_all}
use Rattle.std.specs.List.Sorted.{IsStrictlyIncreasing}
use Rattle.std.specs.Option.{option_map_or}
use Rattle.timing_defs.specs.declared.kinds.Tran.TheVariants.{Rise, Fall}
use Rattle.timing_defs.specs.Netlist.{net_of}
use Rattle.timing_defs.specs.Touches.{Touch}
use Rattle.timing_rules.specs.Cones.{same_truth, is_seed}
use Rattle.netlist_store.specs.Numbering.{Stored, is_number, pin_numbered}
use Rattle.eco_laws.specs.Kept.{is_on_any, is_touched_pin}
use Rattle.pin_graph.specs.declared.arcs.GraphArc.{GraphArc}
use Rattle.pin_graph.specs.NodeArcs.{is_cell, marked}
use Rattle.pin_graph.specs.Nodes.{node_number, node_bound, pin_under}
use Rattle.pin_graph.specs.Graphs.{Graphed, fan_at, network_at, of_node}

-- whether the pin of a number is on one of these nets, of one of these instances, touched
abbrev pub is_joined_at : Stored → List (List ℕ) → ℕ → Bool
is_joined_at s nets pin = option_map_or (λ p. is_on_any nets (net_of p)) (pin_numbered s pin) false

abbrev pub is_owned_at : Stored → List (List ℕ) → ℕ → Bool
is_owned_at s insts pin = option_map_or (λ p. is_on_any insts (option_map (λ inst. inst.name) p.owner)) (pin_numbered s pin) false

abbrev pub is_touched_at : Stored → Touch → ℕ → Bool
is_touched_at s touch pin = option_map_or (is_touched_pin touch) (pin_numbered s pin) false

-- the nodes of pins
abbrev pub numbers_of : ℕ → List ℕ
numbers_of pin = node_number pin Rise ∷ node_number pin Fall ∷ []

-- two arcs into one node are of the same node and the same sorts; two lists have the same ones
abbrev pub same_graph_arc : GraphArc → GraphArc → Bool
same_graph_arc a b = nat_eq a.from b.from && same_truth (is_cell a.kind) (is_cell b.kind) && same_truth a.edge b.edge

abbrev pub same_fans : List GraphArc → List GraphArc → Bool
same_fans before now =
    list_all (λ a. list_any (same_graph_arc a) now) before && list_all (λ b. list_any (λ a. same_graph_arc a b) before) now

-- a node that the base lacks, or that has other arcs in or another membership of the clock network there
abbrev pub is_turned : Graphed → Graphed → ℕ → Bool
is_turned base g node =
    (if is_number base.stored.pins (pin_under node)
    then not (same_fans (fan_at base.ins node) (fan_at g.ins node)) || not (same_truth (network_at base node) (network_at g node))
    else true)

abbrev pub is_turned_at : Graphed → Graphed → ℕ → Bool
is_turned_at base g node = is_number g.stored.pins (pin_under node) && is_turned base g node

-- a node of a touched pin, or one that is turned
abbrev pub is_moved : Graphed → Graphed → Touch → ℕ → Bool
is_moved base g touch node = is_touched_at g.stored touch (pin_under node) || is_turned_at base g node

abbrev pub turned_at : Graphed → Graphed → ℕ → Option ℕ
turned_at base g node = (if is_turned_at base g node then Some node else None)

-- a pin that is of the clock network neither in the base nor in the edited design
abbrev pub is_unmarked : Graphed → Graphed → ℕ → Bool
is_unmarked base g pin = not (marked base.network pin) && not (marked g.network pin)

-- a number that stands for no pin
abbrev pub gone_at : Stored → ℕ → Option ℕ
gone_at s pin = (if is_number s.pins pin then None else Some pin)

-- the seeds, rising
pub record AreSeeds (base edited : Stored) (touch : Touch) (seeds : List ℕ) : Type 0 where
  pub within : All (λ node. node < node_bound edited) seeds
  pub rising : IsStrictlyIncreasing seeds
  pub each : (node : ℕ) → list_any (nat_eq node) seeds ≡ of_node edited (is_seed base.design edited.design touch) node
