-- The laws of a pin's cone in the forms in which the search has them.

use Rattle.std.proofs.Common.{◌≡◌, ℕ, ℤ, List, [], ◌∷◌, ◌++◌, map, Some, sym, ap, subst, ◌∙◌, append_assoc}
use Rattle.timing_defs.specs.declared.kinds.Kind.{Kind}
use Rattle.timing_defs.specs.declared.kinds.Split.{Split}
use Rattle.timing_defs.specs.declared.rows.Path.{Path}
use Rattle.timing_defs.specs.declared.rows.PathNode.{PathNode}
use Rattle.timing_defs.specs.Netlist.{Node}
use Rattle.timing_defs.specs.Kinds.{data_split}
use Rattle.timing_rules.specs.Paths.{Named, named}
use Rattle.netlist_store.specs.Linked.{IsLinked}
use Rattle.netlist_store.specs.Numbering.{Stored, IsNumbered}
use Rattle.pin_graph.specs.Nodes.{node_at}
use Rattle.pin_graph.specs.Graphs.{Graphed, IsGraph}
use Rattle.worst_walks.specs.declared.cones.Walk.{Walk}
use Rattle.worst_walks.specs.Walks.{IsWalk}
use Rattle.path_cones.specs.FanIns.{IsFanIn}
use Rattle.path_search.specs.declared.cones.PinCone.{PinCone}
use Rattle.path_search.specs.declared.counted.Counted.{Counted}
use Rattle.path_search.specs.declared.shown.Ends.{Ends}
use Rattle.path_search.specs.Counts.{counted_edge, IsCounted}
use Rattle.path_search.specs.Ranks.{climb}
use Rattle.path_search.specs.WalkTimes.{times_after}
use Rattle.path_search.specs.PinCones.{capture_edge, capture_part, launch_part, name_part, name_told, place_name, time_part, time_numbered, AreEndsFine, AreEndsOf, AreNodesOf, IsPinCone, IsPinPart, IsSearchFine, IsWalkFine, IsWalkPath}
use Rattle.path_search.specs.WalkPaths.{AreWalkPaths}
use Rattle.path_search.specs.WalkPlaces.{AreWalkPlaces}
use Rattle.path_search.proofs.Setting.{timed}
use Rattle.path_search.proofs.PinSearches.{cone_is, search_fine}
use Rattle.path_search.proofs.PinPaths.{ends_fine, path_told, walk_fine}
use Rattle.path_search.proofs.WalkPaths.{walk_paths}
use Rattle.path_search.proofs.WalkPlaces.{walk_places}

module _ (g : Graphed) (s : Stored) (same : g.stored ≡ s) (num : IsNumbered s) (linked : IsLinked s.design) (is : IsGraph g) (kind : Kind) (pin : List ℕ) (c : PinCone) (h : IsPinPart g kind pin c) where
  num_in : IsNumbered g.stored
  num_in = subst IsNumbered (sym same) num

  linked_in : IsLinked g.stored.design
  linked_in = subst (λ (x : Stored). IsLinked x.design) (sym same) linked

  pub search_as : IsSearchFine s g c
  search_as = subst (λ (x : Stored). IsSearchFine x g c) same (search_fine g num_in linked_in is kind pin c h)

  pub walk_places_as : AreWalkPlaces g c
  walk_places_as =
      subst (λ (x : PinCone). AreWalkPlaces g x) (sym (cone_is g kind pin c h))
      (walk_places g num_in linked_in is (timed g num_in linked_in is) kind h.ends h.f h.fan pin h.rise h.fall h.made)

  pub walk_as : (walk : Walk) → IsWalk c.cone walk → IsWalkFine s c walk
  walk_as =
      subst (λ (x : Stored). (walk : Walk) → IsWalk c.cone walk → IsWalkFine x c walk) same
      (subst (λ (x : PinCone). (walk : Walk) → IsWalk x.cone walk → IsWalkFine g.stored x walk) (sym (cone_is g kind pin c h))
      (walk_fine g num_in linked_in is (timed g num_in linked_in is) kind h.ends h.f h.fan pin h.rise h.fall h.made))

  pub ends_as : (walk : Walk) → IsWalk c.cone walk → (e : Ends) → AreEndsOf c walk e → AreEndsFine s g kind e
  ends_as =
      subst (λ (x : Stored). (walk : Walk) → IsWalk c.cone walk → (e : Ends) → AreEndsOf c walk e → AreEndsFine x g kind e) same
      (subst (λ (x : PinCone). (walk : Walk) → IsWalk x.cone walk → (e : Ends) → AreEndsOf x walk e → AreEndsFine g.stored g kind e) (sym (cone_is g kind pin c h))
      (ends_fine g num_in linked_in is (timed g num_in linked_in is) kind h.ends h.f h.fan pin h.rise h.fall h.made))

  pub path_as : (walk : Walk) → IsWalk c.cone walk → (e : Ends) → AreEndsOf c walk e → (k : Counted)
      → ((l x : Node) → node_at s e.launch ≡ Some l → node_at s e.end ≡ Some x → IsCounted s kind (named l) (named x) e.offer k)
      → (first : ℕ) (rest : List ℕ) → walk.nodes ≡ first ∷ rest → (nodes : List PathNode) → AreNodesOf g kind c e.launch k first rest nodes
      → (p : Path) → p.nodes ≡ nodes → p.slack.0 ≡ walk.slack → p.credit.0 ≡ k.credit.0 → launch_part p ≡ counted_edge k → capture_part p ≡ capture_edge k → IsWalkPath g kind pin c walk p
  path_as =
      subst
      (λ (y : Stored). (walk : Walk) → IsWalk c.cone walk → (e : Ends) → AreEndsOf c walk e → (k : Counted)
      → ((l x : Node) → node_at y e.launch ≡ Some l → node_at y e.end ≡ Some x → IsCounted y kind (named l) (named x) e.offer k)
      → (first : ℕ) (rest : List ℕ) → walk.nodes ≡ first ∷ rest → (nodes : List PathNode) → AreNodesOf g kind c e.launch k first rest nodes
      → (p : Path) → p.nodes ≡ nodes → p.slack.0 ≡ walk.slack → p.credit.0 ≡ k.credit.0 → launch_part p ≡ counted_edge k → capture_part p ≡ capture_edge k → IsWalkPath g kind pin c walk p)
      same
      (subst
      (λ (y : PinCone). (walk : Walk) → IsWalk y.cone walk → (e : Ends) → AreEndsOf y walk e → (k : Counted)
      → ((l x : Node) → node_at g.stored e.launch ≡ Some l → node_at g.stored e.end ≡ Some x → IsCounted g.stored kind (named l) (named x) e.offer k)
      → (first : ℕ) (rest : List ℕ) → walk.nodes ≡ first ∷ rest → (nodes : List PathNode) → AreNodesOf g kind y e.launch k first rest nodes
      → (p : Path) → p.nodes ≡ nodes → p.slack.0 ≡ walk.slack → p.credit.0 ≡ k.credit.0 → launch_part p ≡ counted_edge k → capture_part p ≡ capture_edge k → IsWalkPath g kind pin y walk p)
      (sym (cone_is g kind pin c h))
      (path_told g num_in linked_in is (timed g num_in linked_in is) kind h.ends h.f h.fan pin h.rise h.fall h.made))

-- the same of the cone of a whole fan-in
module _ (g : Graphed) (s : Stored) (same : g.stored ≡ s) (num : IsNumbered s) (linked : IsLinked s.design) (is : IsGraph g) (kind : Kind) (pin : List ℕ) (c : PinCone) (h : IsPinCone g kind pin c) where
  whole_num : IsNumbered g.stored
  whole_num = subst IsNumbered (sym same) num

  whole_linked : IsLinked g.stored.design
  whole_linked = subst (λ (x : Stored). IsLinked x.design) (sym same) linked

  fan : IsFanIn g kind h.part.ends h.part.f
  fan = record { part = h.part.fan; closed = h.closed }

  pub walk_paths_as : AreWalkPaths g kind pin c
  walk_paths_as =
      subst (λ (x : PinCone). AreWalkPaths g kind pin x) (sym (cone_is g kind pin c h.part))
      (walk_paths g whole_num whole_linked is (timed g whole_num whole_linked is) kind h.part.ends h.part.f fan pin h.part.rise h.part.fall h.part.made)

-- the nodes of a path that are added one after another
pub nodes_as : (g : Graphed) (s : Stored) → g.stored ≡ s → (kind : Kind) (c : PinCone) (launch : ℕ) (k : Counted) (first : ℕ) (rest before : List ℕ) → before ≡ climb g launch
    → (network more all : List PathNode)
    → map name_part network ≡ map (name_told s) before → map time_part network ≡ map (time_numbered s (data_split kind) (counted_edge k)) before
    → map name_part more ≡ map name_part network ++ place_name s c.nodes first ∷ [] → map time_part more ≡ map time_part network ++ k.time.0 ∷ []
    → map name_part all ≡ map name_part more ++ map (place_name s c.nodes) rest → map time_part all ≡ map time_part more ++ times_after kind c.cone k.time.0 first rest
    → AreNodesOf g kind c launch k first rest all
nodes_as g s same kind c launch k first rest before climbed network more all a b d e f h =
    let back = sym same in
    record {
      names =
          f ∙ ap (λ (xs : List Named). xs ++ map (place_name s c.nodes) rest) d
          ∙ append_assoc (map name_part network) (place_name s c.nodes first ∷ []) (map (place_name s c.nodes) rest)
          ∙ ap (λ (xs : List Named). xs ++ map (place_name s c.nodes) (first ∷ rest)) a
          ∙ (λ i. map (name_told (back i)) (climbed i) ++ map (place_name (back i) c.nodes) (first ∷ rest));
      times =
          h ∙ ap (λ (xs : List ℤ). xs ++ times_after kind c.cone k.time.0 first rest) e
          ∙ append_assoc (map time_part network) (k.time.0 ∷ []) (times_after kind c.cone k.time.0 first rest)
          ∙ ap (λ (xs : List ℤ). xs ++ k.time.0 ∷ times_after kind c.cone k.time.0 first rest) b
          ∙ (λ i. map (time_numbered (back i) (data_split kind) (counted_edge k)) (climbed i) ++ k.time.0 ∷ times_after kind c.cone k.time.0 first rest);
    }

-- the same, in the form that the code has
pub nodes_form : (g : Graphed) (s : Stored) → g.stored ≡ s → (kind : Kind) (c : PinCone) (launch : ℕ) (k : Counted) (first : ℕ) (rest before : List ℕ) → before ≡ climb g launch
    → (bs : List ℕ) → bs ≡ before → (split : Split) → split ≡ data_split kind → (ns : List ℕ) → ns ≡ c.nodes → (time : ℤ) → time ≡ k.time.0
    → (network more all : List PathNode)
    → map name_part network ≡ map (name_told s) bs → map time_part network ≡ map (time_numbered s split (counted_edge k)) bs
    → map name_part more ≡ map name_part network ++ place_name s ns first ∷ [] → map time_part more ≡ map time_part network ++ time ∷ []
    → map name_part all ≡ map name_part more ++ map (place_name s c.nodes) rest → map time_part all ≡ map time_part more ++ times_after kind c.cone time first rest
    → AreNodesOf g kind c launch k first rest all
nodes_form g s same kind c launch k first rest before climbed bs eb split es ns en time et network more all a b d e f h =
    nodes_as g s same kind c launch k first rest before climbed network more all
    (a ∙ ap (map (name_told s)) eb)
    (b ∙ (λ i. map (time_numbered s (es i) (counted_edge k)) (eb i)))
    (d ∙ ap (λ (xs : List ℕ). map name_part network ++ place_name s xs first ∷ []) en)
    (e ∙ ap (λ (x : ℤ). map time_part network ++ x ∷ []) et)
    f
    (h ∙ ap (λ (x : ℤ). map time_part more ++ times_after kind c.cone x first rest) et)
