-- What the nodes of a fan-in cone offer as launches of paths to an end node, and the clock tree that
-- credits are found in (TAU 2015 contest: clock pessimism removal).

use Rattle.std.specs.Prelude.{ℕ, ◌≡◌, ◌<◌, ◌≤◌, ◌^◌, ℤ, ◌≤ℤ◌, unsigned_abs, List, [], length, slice_get, slice_index, Contains, Some}
use Rattle.timing_defs.specs.declared.kinds.Tran.{Tran}
use Rattle.timing_defs.specs.declared.kinds.Kind.{Kind}
use Rattle.timing_defs.specs.declared.design.Design.{Design}
use Rattle.timing_defs.specs.Netlist.{Node}
use Rattle.timing_rules.specs.Tests.{Test}
use Rattle.timing_defs.specs.Kinds.{data_split}
use Rattle.timing_rules.specs.Paths.{Named, named}
use Rattle.netlist_store.specs.Numbering.{Stored}
use Rattle.pin_graph.specs.Nodes.{node_at}
use Rattle.worst_walks.specs.declared.cones.Launch.{Launch}
use Rattle.path_search.specs.Launches.{IsLaunched, launch_slacks}

-- the least slack of a launch node's paths to an end node, less the delays after the launch node
pub record IsOffer (d : Design) (kind : Kind) (launch end : Named) (offer : ℤ) : Type 0 where
  pub edge : ℕ × Tran
  pub time : ℤ
  pub launched : IsLaunched d (data_split kind) edge launch time
  pub test : Test
  pub within : Contains (launch_slacks d kind launch edge time end) (test, offer)
  pub least : (other : Test) (t : ℤ) → Contains (launch_slacks d kind launch edge time end) (other, t) → offer ≤ℤ t

-- the offer of the node at a place of a list of node numbers
pub record IsOfferAt (s : Stored) (kind : Kind) (nodes : List ℕ) (end : Named) (launch : Launch) : Type 0 where
  pub low : launch.node < length nodes
  pub node : Node
  pub its : node_at s (slice_index nodes launch.node) ≡ Some node
  pub offer : IsOffer s.design kind (named node) end launch.offer
  pub bounded : unsigned_abs launch.offer ≤ 10 ^ 18

-- the offers of all nodes of a list for an end node: of each node that is a launch with a test there, and
-- of each place once
pub record AreOffers (s : Stored) (kind : Kind) (nodes : List ℕ) (end : Named) (launches : List Launch) : Type 0 where
  pub few : length launches ≤ length nodes
  pub sound : (launch : Launch) → Contains launches launch → IsOfferAt s kind nodes end launch
  pub all : (place : ℕ) (node : Node) → place < length nodes → node_at s (slice_index nodes place) ≡ Some node
      → (edge : ℕ × Tran) (time : ℤ) → IsLaunched s.design (data_split kind) edge (named node) time
      → (launch_slacks s.design kind (named node) edge time end ≡ [] → ⊥)
      → (offer : ℤ) × Contains launches (record { node = place; offer = offer })
  pub once : (i j : ℕ) (a b : Launch) → slice_get launches i ≡ Some a → slice_get launches j ≡ Some b → a.node ≡ b.node → i ≡ j
