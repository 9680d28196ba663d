-- The tables of a store that an ECO made of a base, where the ECO left the clock network: what they have of the base's.

use Rattle.std.specs.Prelude.{ℕ, ◌≡◌, ◌<◌, ◌≤◌, Bool, true, false, not, ◌&&◌, ◌||◌, List, All, map, length, slice_index, slice_index_or, None}
use Rattle.timing_defs.specs.NetChecks.{net_fault}
use Rattle.timing_defs.specs.Touches.{Touch}
use Rattle.levelizer.specs.Levels.{AreLevels}
use Rattle.levelizer.specs.Reaching.{AreReached}
use Rattle.netlist_store.specs.Applying.{IsEditOf}
use Rattle.netlist_store.specs.Linked.{IsLinked}
use Rattle.netlist_store.specs.Numbering.{Stored, IsNumbered}
use Rattle.settling.specs.Settled.{is_among, IsSettled}
use Rattle.pin_graph.specs.declared.tables.NodeTables.{NodeTables}
use Rattle.pin_graph.specs.declared.tables.Tables.{Tables}
use Rattle.pin_graph.specs.declared.updates.Resettled.{Resettled}
use Rattle.pin_graph.specs.declared.updates.PinsAfter.{PinsAfter}
use Rattle.pin_graph.specs.Graphs.{fan_at}
use Rattle.pin_graph.specs.HeldFans.{longer}
use Rattle.pin_graph.specs.Joins.{pin_links}
use Rattle.pin_graph.specs.Kept.{IsKept}
use Rattle.pin_graph.specs.Marks.{is_one}
use Rattle.pin_graph.specs.Networks.{clock_ports, clock_pins, network_links, turned}
use Rattle.pin_graph.specs.NodeArcs.{marked}
use Rattle.pin_graph.specs.Nodes.{node_bound, pin_under}
use Rattle.pin_graph.specs.NodeValues.{node_level}
use Rattle.pin_graph.specs.Pulls.{arcs_into, is_left}
use Rattle.pin_graph.specs.Relinking.{AreRelinked}

-- an ECO made a store of a base whose tables are kept
pub record IsEdited (s s2 : Stored) (touch : Touch) (t : Tables) : Type 0 where
  pub kept : IsKept s t
  pub made : IsEditOf s touch s2
  pub fault : net_fault s2.design ≡ None
  pub numbered : IsNumbered s
  pub linked : IsLinked s.design
  pub numbered2 : IsNumbered s2
  pub linked2 : IsLinked s2.design
  pub grown : length s.pins ≤ length s2.pins

-- the pins at which an ECO changed links, those of the base that are gone among them
pub record AreDirty (s s2 : Stored) (touch : Touch) (pins : List ℕ) : Type 0 where
  pub each : (pin : ℕ) → is_among pins pin ≡ not (is_left s s2 touch pin)
  pub below : All (λ pin. pin < length s2.pins) pins

-- values that a rule gives, and the numbers at which they are other than before
pub record AreResettled (n : ℕ) (value : List ℕ → ℕ → ℕ) (base : List ℕ) (found : Resettled) : Type 0 where
  pub settled : IsSettled n value found.values (λ a. false)
  pub kept : (a : ℕ) → is_among found.changed a ≡ false → slice_index found.values a ≡ slice_index base a
  pub within : All (λ a. a < n) found.changed

-- flags of pins, and the pins at which they are other than before
pub record AreFlagged (n : ℕ) (Reached : List Bool → Type 0) (base : List ℕ) (found : Resettled) : Type 0 where
  pub reached : Reached (map is_one found.values)
  pub count : length found.values ≡ n
  pub few : (pin : ℕ) → slice_index found.values pin ≤ 1
  pub kept : (a : ℕ) → is_among found.changed a ≡ false → slice_index found.values a ≡ slice_index base a
  pub within : All (λ a. a < n) found.changed

-- what is found of pins
pub record ArePinsAfter (s2 : Stored) (t : Tables) (pins : PinsAfter) : Type 0 where
  pub rising : AreLevels (length s2.pins) (pin_links s2) pins.levels
  pub fed : AreFlagged (length s2.pins) (AreReached (length s2.pins) (network_links s2) (clock_ports s2)) t.fed pins.fed
  pub feeds : AreFlagged (length s2.pins) (AreReached (length s2.pins) (map turned (network_links s2)) (clock_pins s2)) t.feeds pins.feeds

-- a pin is of the network neither before nor after
abbrev pub IsOff : List Bool → PinsAfter → ℕ → Type 0
IsOff network pins pin =
    (marked network pin ≡ false) × ((is_one (slice_index pins.fed.values pin) && is_one (slice_index pins.feeds.values pin)) ≡ false)

-- the pins that may have another place in the network
abbrev pub is_noted : List ℕ → PinsAfter → ℕ → Bool
is_noted dirty pins pin = is_among dirty pin || is_among pins.fed.changed pin || is_among pins.feeds.changed pin

-- what is found of nodes, where these are the marks of the network
pub record AreNodesAfter (s2 : Stored) (t : Tables) (network : List Bool) (dirty : List ℕ) (nodes : NodeTables) : Type 0 where
  pub relinked : AreRelinked s2 network dirty (longer t.ins (node_bound s2)) nodes.ins nodes.outs
  pub leveled : IsSettled (node_bound s2) (node_level nodes.ins) nodes.levels (λ a. false)
  pub place_count : length nodes.places ≡ node_bound s2
  pub places : (x : ℕ) → slice_index_or nodes.places x None ≡ slice_index_or t.places x None
  pub order : nodes.order ≡ t.order

-- at all pins that are not noted the base's links and marks stay, and those that are noted are off
pub record IsRenewed (s s2 : Stored) (t t2 : Tables) (noted : ℕ → Bool) : Type 0 where
  pub grown : length s.pins ≤ length s2.pins
  pub count : length t2.network ≡ length s2.pins
  pub marks : (x : ℕ) → marked t2.network x ≡ marked t.network x
  pub off : (pin : ℕ) → noted pin ≡ true → (marked t.network pin ≡ false) × ((is_one (slice_index t2.fed pin) && is_one (slice_index t2.feeds pin)) ≡ false)
  pub fed : (pin : ℕ) → noted pin ≡ false → slice_index t2.fed pin ≡ slice_index t.fed pin
  pub feeds : (pin : ℕ) → noted pin ≡ false → slice_index t2.feeds pin ≡ slice_index t.feeds pin
  pub arcs : (pin : ℕ) → noted pin ≡ false → arcs_into s2 pin ≡ arcs_into s pin
  pub ports : clock_ports s2 ≡ clock_ports s
  pub fans : (node : ℕ) → node < node_bound s → noted (pin_under node) ≡ false → fan_at t2.ins node ≡ fan_at t.ins node
  pub place_count : length t2.places ≡ node_bound s2
  pub places : (x : ℕ) → slice_index_or t2.places x None ≡ slice_index_or t.places x None
