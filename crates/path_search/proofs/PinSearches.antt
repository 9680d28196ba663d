-- What a search of a pin's cone finds is the pin's.

use Rattle.std.proofs.Common.{◌≡◌, ℕ, List, refl, sym, subst}
use Rattle.timing_defs.specs.declared.kinds.Kind.{Kind}
use Rattle.netlist_store.specs.Linked.{IsLinked}
use Rattle.netlist_store.specs.Numbering.{IsNumbered}
use Rattle.pin_graph.specs.Graphs.{Graphed, IsGraph}
use Rattle.path_search.specs.declared.cones.PinCone.{PinCone}
use Rattle.path_search.specs.PinCones.{cone_of, IsPinPart, IsSearchFine}
use Rattle.path_search.proofs.Setting.{timed}
use Rattle.path_search.proofs.FanCones.{cone_told, ordered}
use Rattle.path_search.proofs.PinEnds.{fan_below}

-- a pin's cone is that of its fan-in
pub cone_is : (g : Graphed) (kind : Kind) (pin : List ℕ) (c : PinCone) (h : IsPinPart g kind pin c) → c ≡ record { nodes = h.f.nodes; cone = cone_of h.f h.rise h.fall }
cone_is g kind pin c h =
    let nodes = h.nodes in
    let cone = h.cone in
    λ k. record { nodes = nodes k; cone = cone k }

module _ (g : Graphed) (num : IsNumbered g.stored) (linked : IsLinked g.stored.design) (is : IsGraph g) (kind : Kind) (pin : List ℕ) (c : PinCone) (h : IsPinPart g kind pin c) where
  pub search_fine : IsSearchFine g.stored g c
  search_fine = subst (IsSearchFine g.stored g) (sym (cone_is g kind pin c h)) (record {
    cone = cone_told g num linked is (timed g num linked is) kind h.ends h.f h.fan pin h.rise h.fall h.made;
    few = h.fan.few;
    same = refl;
    below = fan_below g kind h.ends h.f h.fan;
    ordered = ordered g num linked is (timed g num linked is) kind h.ends h.f h.fan pin h.rise h.fall h.made;
  })
