-- The cone in which the paths to a pin are searched, and the path that is read off a walk of it.

use Rattle.std.specs.Prelude.{ℕ, ◌≡◌, ◌+◌, ◌^◌, ◌<◌, ◌==◌, ℤ, pos, true, List, [], ◌∷◌, ◌++◌, map, length, slice_index, slice_get, All, Some}
use Rattle.std.specs.Option.{option_map_or, unwrap_or}
use Rattle.timing_defs.specs.declared.kinds.Split.{Split}
use Rattle.timing_defs.specs.declared.kinds.Tran.{Tran}
use Rattle.timing_defs.specs.declared.kinds.Tran.TheVariants.{Rise, Fall}
use Rattle.timing_defs.specs.declared.kinds.Kind.{Kind}
use Rattle.timing_defs.specs.declared.rows.Path.{Path}
use Rattle.timing_defs.specs.declared.rows.PathNode.{PathNode}
use Rattle.timing_defs.specs.Netlist.{Node}
use Rattle.timing_defs.specs.RowTimes.{time_on, times_in}
use Rattle.timing_rules.specs.Tests.{Test}
use Rattle.timing_defs.specs.Kinds.{data_split}
use Rattle.timing_rules.specs.Paths.{Named, named, ends_at, path_named, Holds}
use Rattle.netlist_store.specs.Numbering.{Stored, is_number}
use Rattle.pin_graph.specs.Nodes.{node_at, node_bound, pin_under}
use Rattle.pin_graph.specs.Graphs.{Graphed}
use Rattle.pin_graph.specs.RowTables.{row_numbered}
use Rattle.worst_walks.specs.declared.cones.Launch.{Launch}
use Rattle.worst_walks.specs.declared.cones.WalkEnd.{WalkEnd}
use Rattle.worst_walks.specs.declared.cones.Walk.{Walk}
use Rattle.worst_walks.specs.declared.cones.Cone.{Cone}
use Rattle.worst_walks.specs.Walks.{count_of, delay_between, walk_sum, IsCone, IsOrdered}
use Rattle.path_cones.specs.declared.fans.FanIn.{FanIn}
use Rattle.path_cones.specs.FanIns.{IsFanPart, IsWhole}
use Rattle.path_search.specs.declared.cones.EndNodes.{EndNodes}
use Rattle.path_search.specs.declared.cones.PinCone.{PinCone}
use Rattle.path_search.specs.declared.counted.Counted.{Counted}
use Rattle.path_search.specs.Counts.{counted_edge}
use Rattle.path_search.specs.declared.shown.Ends.{Ends}
use Rattle.path_search.specs.Launches.{begin_names}
use Rattle.path_search.specs.Offers.{AreOffers}
use Rattle.path_search.specs.Slacks.{IsOfferOf}
use Rattle.path_search.specs.Ranks.{climb, node_of, place_rank}
use Rattle.path_search.specs.WalkTimes.{times_after}

-- a number is of the node of this name
pub record IsNamedNode (s : Stored) (name : Named) (k : ℕ) : Type 0 where
  pub node : Node
  pub its : node_at s k ≡ Some node
  pub is : named node ≡ name

-- the numbers of a pin's two nodes, which are there
pub record AreEndNodes (s : Stored) (pin : List ℕ) (ends : EndNodes) : Type 0 where
  pub rise : IsNamedNode s (pin, Rise) ends.rise
  pub rise_below : ends.rise < node_bound s
  pub rise_there : is_number s.pins (pin_under ends.rise) ≡ true
  pub fall : IsNamedNode s (pin, Fall) ends.fall
  pub fall_below : ends.fall < node_bound s
  pub fall_there : is_number s.pins (pin_under ends.fall) ≡ true

-- an end of a cone at the place of a node, with its launches
pub record IsEndOf (s : Stored) (kind : Kind) (nodes : List ℕ) (node : Node) (end : WalkEnd) : Type 0 where
  pub low : end.node < length nodes
  pub its : node_at s (slice_index nodes end.node) ≡ Some node
  pub offers : AreOffers s kind nodes (named node) end.launches

abbrev pub cone_of : FanIn → WalkEnd → WalkEnd → Cone
cone_of f rise fall = record { count = length f.nodes; starts = f.starts; arcs = f.arcs; ends = rise ∷ fall ∷ [] }

-- the fan-in of the two nodes of a pin, with the launches of each
pub record IsMade (s : Stored) (kind : Kind) (pin : List ℕ) (f : FanIn) (rise fall : WalkEnd) : Type 0 where
  pub rise_node : Node
  pub rises : IsEndOf s kind f.nodes rise_node rise
  pub rise_is : named rise_node ≡ (pin, Rise)
  pub fall_node : Node
  pub falls : IsEndOf s kind f.nodes fall_node fall
  pub fall_is : named fall_node ≡ (pin, Fall)

-- the cone of a part of the fan-in: its walks are some of the tested paths to the pin
pub record IsPinPart (g : Graphed) (kind : Kind) (pin : List ℕ) (c : PinCone) : Type 0 where
  pub f : FanIn
  pub ends : List ℕ
  pub fan : IsFanPart g kind ends f
  pub rise : WalkEnd
  pub fall : WalkEnd
  pub made : IsMade g.stored kind pin f rise fall
  pub nodes : c.nodes ≡ f.nodes
  pub cone : c.cone ≡ cone_of f rise fall

-- the cone of the whole fan-in: its walks are all of them
pub record IsPinCone (g : Graphed) (kind : Kind) (pin : List ℕ) (c : PinCone) : Type 0 where
  pub part : IsPinPart g kind pin c
  pub closed : IsWhole g kind part.f

-- the name of a node's number; a number of no node has none
abbrev pub name_told : Stored → ℕ → Named
name_told s k = option_map_or named (node_at s k) ([], Rise)

abbrev pub place_name : Stored → List ℕ → ℕ → Named
place_name s nodes n = name_told s (node_of nodes n)

-- the capture edge of what counts, and the launch edge and the capture edge of a path
abbrev pub capture_edge : Counted → ℕ × Tran
capture_edge c = (c.capture_clock, c.capture_tran)

abbrev pub launch_part : Path → ℕ × Tran
launch_part p = (p.launch_clock, p.launch_tran)

abbrev pub capture_part : Path → ℕ × Tran
capture_part p = (p.capture_clock, p.capture_tran)

-- the parts of path nodes
abbrev pub name_part : PathNode → Named
name_part node = (node.pin, node.tran)

abbrev pub time_part : PathNode → ℤ
time_part node = node.time.0

-- the arrival of a node's number on a launch edge; 0 where it has none
abbrev pub time_numbered : Stored → Split → ℕ × Tran → ℕ → ℤ
time_numbered s split edge k = unwrap_or (time_on (times_in split (row_numbered s k)) edge) (pos 0)

-- a place of a cone that is of a node
pub record IsNodePlace (s : Stored) (nodes : List ℕ) (n : ℕ) : Type 0 where
  pub low : n < length nodes
  pub number : is_number s.pins (pin_under (slice_index nodes n)) ≡ true

-- the nodes of a walk after its first
pub record IsWalkOn (s : Stored) (c : PinCone) (first : ℕ) (rest : List ℕ) : Type 0 where
  pub first_low : first < count_of c.cone
  pub end : ℕ
  pub low : end < count_of c.cone
  pub sum : ℤ
  pub adds : walk_sum ◌==◌ (delay_between c.cone) end first rest ≡ Some sum
  pub places : All (IsNodePlace s c.nodes) rest

-- the ends of a walk
pub record AreEndsOf (c : PinCone) (walk : Walk) (ends : Ends) : Type 0 where
  pub end : WalkEnd
  pub end_at : slice_get c.cone.ends walk.end ≡ Some end
  pub launch : Launch
  pub launch_at : slice_get end.launches walk.launch ≡ Some launch
  pub launch_is : ends.launch ≡ slice_index c.nodes launch.node
  pub end_is : ends.end ≡ slice_index c.nodes end.node
  pub offer_is : ends.offer ≡ launch.offer

-- what a search of such a cone asks for
pub record IsSearchFine (s : Stored) (g : Graphed) (c : PinCone) : Type 0 where
  pub cone : IsCone c.cone
  pub few : length c.nodes < 2 ^ 22
  pub below : All (λ n. n < node_bound s) c.nodes
  pub same : node_bound g.stored ≡ node_bound s
  pub ordered : IsOrdered c.cone (length c.nodes + node_bound g.stored) (place_rank s c.nodes)

-- what is told of a walk of such a cone
pub record IsWalkFine (s : Stored) (c : PinCone) (walk : Walk) : Type 0 where
  pub cone : IsCone c.cone
  pub count : count_of c.cone ≡ length c.nodes
  pub some : 0 < length walk.nodes
  pub first : (n : ℕ) (rest : List ℕ) → walk.nodes ≡ n ∷ rest → IsNodePlace s c.nodes n
  pub on : (n : ℕ) (rest : List ℕ) → walk.nodes ≡ n ∷ rest → IsWalkOn s c n rest

-- what is told of its ends
pub record AreEndsFine (s : Stored) (g : Graphed) (kind : Kind) (ends : Ends) : Type 0 where
  pub launch_low : ends.launch < node_bound s
  pub launch_there : is_number s.pins (pin_under ends.launch) ≡ true
  pub end_low : ends.end < node_bound s
  pub end_there : is_number s.pins (pin_under ends.end) ≡ true
  pub before : All (λ n. is_number s.pins (pin_under n) ≡ true) (climb g ends.launch)
  pub offer : IsOfferOf s kind ends.launch ends.end (Some ends.offer)

-- the times of a path's nodes by its launch node and the nodes after it
pub record AreNodesOf (g : Graphed) (kind : Kind) (c : PinCone) (launch : ℕ) (counted : Counted) (first : ℕ) (rest : List ℕ) (nodes : List PathNode) : Type 0 where
  pub names : map name_part nodes ≡ map (name_told g.stored) (climb g launch) ++ map (place_name g.stored c.nodes) (first ∷ rest)
  pub times : map time_part nodes
      ≡ map (time_numbered g.stored (data_split kind) (counted_edge counted)) (climb g launch) ++ counted.time.0 ∷ times_after kind c.cone counted.time.0 first rest

-- a path to a pin by a walk
pub record IsWalkPath (g : Graphed) (kind : Kind) (pin : List ℕ) (c : PinCone) (walk : Walk) (p : Path) : Type 0 where
  pub slack : p.slack.0 ≡ walk.slack
  pub ends : ends_at pin (path_named p) ≡ true
  pub test : Test
  pub holds : Holds g.stored.design kind p test
  pub first : ℕ
  pub rest : List ℕ
  pub nodes : walk.nodes ≡ first ∷ rest
  pub names : path_named p ≡ begin_names g.stored.design (place_name g.stored c.nodes first) ++ map (place_name g.stored c.nodes) rest
