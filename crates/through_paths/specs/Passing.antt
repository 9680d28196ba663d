-- How many pins of a list a path has passed, by the numbers of nodes: each pin is passed behind the one before.

use Rattle.std.specs.Prelude.{ℕ, ◌≡◌, ◌<◌, ◌+◌, ◌==◌, nat_eq, Bool, true, false, if◌then◌else◌, List, [], ◌∷◌, ◌++◌, map, length, slice_get, slice_index, Option, Some, None, ◌⊎◌}
use Rattle.std.specs.List.{position}
use Rattle.std.specs.Option.{option_map_or, unwrap_or}
use Rattle.pin_graph.specs.Nodes.{pin_under}
use Rattle.worst_walks.specs.declared.cones.Cone.{Cone}
use Rattle.worst_walks.specs.Walks.{is_first}
use Rattle.worst_walks.specs.declared.cones.Walk.{Walk}
use Rattle.netlist_store.specs.Numbering.{number_of}
use Rattle.pin_graph.specs.Graphs.{Graphed}
use Rattle.path_search.specs.declared.cones.PinCone.{PinCone}
use Rattle.path_search.specs.Ranks.{node_of, place_rank, places_before}
use Rattle.through_walks.specs.Through.{IsWorstThrough}
use Rattle.through_walks.specs.declared.stops.Stop.{Stop}

-- whether the node at a place of a cone (or of a number past its places) is of a wanted pin; a name of no pin has no number
abbrev pub is_wanted : List ℕ → ℕ → Option ℕ → Bool
is_wanted nodes n None = false
is_wanted nodes n (Some pin) = pin_under (node_of nodes n) == pin

-- the count of pins that are passed behind a place, where so many were passed before it
abbrev pub next_pass : List ℕ → List (Option ℕ) → ℕ → ℕ → ℕ
next_pass nodes wanted passed n = (if option_map_or (is_wanted nodes n) (slice_get wanted passed) false then passed + 1 else passed)

-- the same behind a list of places
abbrev pub pass_all : List ℕ → List (Option ℕ) → ℕ → List ℕ → ℕ
pass_all nodes wanted passed [] = passed
pass_all nodes wanted passed (n ∷ ns) = pass_all nodes wanted (next_pass nodes wanted passed n) ns

-- the count that is passed at the beginning of the walks from a place: behind the nodes before it, and itself
abbrev pub begun_at : (ℕ → List ℕ) → List ℕ → List (Option ℕ) → ℕ → ℕ
begun_at before nodes wanted n = pass_all nodes wanted 0 (before n ++ n ∷ [])

-- these counts at each place with a launch
pub record AreBegun (before : ℕ → List ℕ) (cone : Cone) (nodes : List ℕ) (wanted : List (Option ℕ)) (begun : List ℕ) : Type 0 where
  pub long : length begun ≡ cone.count
  pub each : (n : ℕ) → is_first cone n ≡ true → slice_index begun n ≡ begun_at before nodes wanted n

-- the place of a node in a list; past the list where it is not there
abbrev pub place_or_past : List ℕ → Option ℕ → ℕ
place_or_past nodes None = length nodes
place_or_past nodes (Some node) = unwrap_or (position (λ n. nat_eq node n) nodes) (length nodes)

-- a stop has the places of a wanted pin's two nodes
pub record IsStop (nodes : List ℕ) (pin : Option ℕ) (stop : Stop) : Type 0 where
  pub at : (n : ℕ) → n < length nodes → is_wanted nodes n pin ≡ true → (stop.rise ≡ n) ⊎ (stop.fall ≡ n)
  pub rise : stop.rise < length nodes → is_wanted nodes stop.rise pin ≡ true
  pub fall : stop.fall < length nodes → is_wanted nodes stop.fall pin ≡ true

abbrev pub AreStops : List ℕ → List (Option ℕ) → List Stop → Type 0
AreStops nodes [] [] = Unit {0}
AreStops nodes [] (stop ∷ stops) = ⊥
AreStops nodes (pin ∷ wanted) [] = ⊥
AreStops nodes (pin ∷ wanted) (stop ∷ stops) = IsStop nodes pin stop × AreStops nodes wanted stops

-- the worst walk of a pin's cone through the stops of some pins
pub record IsThroughFound (g : Graphed) (c : PinCone) (pins : List (List ℕ)) (found : Option Walk) : Type 0 where
  pub stops : List Stop
  pub are : AreStops c.nodes (map (number_of g.stored.pins) pins) stops
  pub begun : List ℕ
  pub told : AreBegun (places_before g c.nodes) c.cone c.nodes (map (number_of g.stored.pins) pins) begun
  pub worst : IsWorstThrough (place_rank g.stored c.nodes) (places_before g c.nodes) c.cone stops begun found
