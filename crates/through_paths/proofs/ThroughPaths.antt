-- The path of the worst walk through the stops is the worst path through the pins.

use Rattle.std.proofs.Common.{◌≡◌, ℕ, ℤ, ◌≤ℤ◌, List, map, Option, Some, None, sym, ap, subst, ◌∙◌, arith}
use Rattle.std.specs.Prelude.{Result, Ok, Err, IfOk}
use Rattle.std.specs.Ordering.{is_gt}
use Rattle.std.proofs.lemmas.Int.{ints}
use Rattle.timing_defs.specs.declared.kinds.Kind.{Kind}
use Rattle.timing_defs.specs.declared.rows.Path.{Path}
use Rattle.timing_rules.specs.Tests.{Test}
use Rattle.timing_rules.specs.Paths.{Named, nodes_cmp, path_named}
use Rattle.timing_rules.specs.Ranking.{Ranked}
use Rattle.timing_rules.specs.Through.{passes as path_passes, LeadsThrough, IsThrough}
use Rattle.sta_units.specs.declared.units.Memory.{Memory}
use Rattle.netlist_store.specs.Numbering.{Stored, number_of, AreNumbers, IsNumbered}
use Rattle.pin_graph.specs.Graphs.{Graphed}
use Rattle.worst_walks.specs.declared.cones.Walk.{Walk}
use Rattle.path_search.specs.declared.cones.PinCone.{PinCone}
use Rattle.path_search.specs.PinCones.{IsWalkPath}
use Rattle.path_search.specs.Ranks.{place_rank, places_before}
use Rattle.path_search.specs.WalkPaths.{walk_names_of, AreWalkPaths}
use Rattle.path_search.specs.WalkPlaces.{AreWalkPlaces}
use Rattle.through_walks.specs.declared.stops.Stop.{Stop}
use Rattle.through_walks.specs.Through.{IsThroughWalk, IsWorstThrough}
use Rattle.through_paths.specs.Passing.{AreBegun, AreStops, IsThroughFound}
use Rattle.through_paths.proofs.PassLaws.{passes_told}

low_slack : (p w t s : ℤ) → p ≡ w → w ≤ℤ t → t ≤ℤ s → p ≤ℤ s
low_slack p w t s e a b = omega (arith, ints)

tied_slack : (p w t s : ℤ) → p ≡ w → w ≤ℤ t → t ≤ℤ s → s ≡ p → t ≡ w
tied_slack p w t s e a b f = omega (arith, ints)

module _ (g : Graphed) (kind : Kind) (pin : List ℕ) (c : PinCone) (laws : AreWalkPaths g kind pin c) (placed : AreWalkPlaces g c) (numbers : AreNumbers g.stored.pins) (pins : List (List ℕ)) (stops : List Stop) (begun : List ℕ)
    (are : AreStops c.nodes (map (number_of g.stored.pins) pins) stops) (told : AreBegun (places_before g c.nodes) c.cone c.nodes (map (number_of g.stored.pins) pins) begun) where
  -- the walk of a path through the pins
  record IsFound (path : List Named) (s : ℤ) : Type 0 where
    walk : Walk
    is : IsThroughWalk c.cone stops begun walk
    names : walk_names_of g c walk.nodes ≡ path
    low : walk.slack ≤ℤ s

  found : (path : List Named) (test : Test) (s : ℤ) → LeadsThrough g.stored.design kind pin pins path test s → IsFound path s
  found path test s h =
      let least = laws.least path test s h.0 h.2 in
      let w = laws.whole (least.0, path) (h.0, least.1) in
      let names : walk_names_of g c w.0.nodes ≡ path = ap (λ (r : Ranked). r.1) w.2 in
      let slack : w.0.slack ≡ least.0 = ap (λ (r : Ranked). r.0) w.2 in
      record {
        walk = w.0;
        is = (w.1, passes_told g c numbers pins stops begun are told w.0 (placed.places w.0 w.1) ∙ ap (path_passes pins) names ∙ h.1);
        names = names;
        low = subst (λ (t : ℤ). t ≤ℤ s) (sym slack) least.2;
      }

  pub none_through : IsWorstThrough (place_rank g.stored c.nodes) (places_before g c.nodes) c.cone stops begun None → IsThrough g.stored.design kind pin pins None
  none_through none = λ path test s h. let f = found path test s h in none f.walk f.is

  pub some_through : (worst : Walk) (p : Path) → IsWorstThrough (place_rank g.stored c.nodes) (places_before g c.nodes) c.cone stops begun (Some worst) → IsWalkPath g kind pin c worst p
      → IsThrough g.stored.design kind pin pins (Some p)
  some_through worst p best h =
      let names : path_named p ≡ walk_names_of g c worst.nodes = h.names ∙ ap (walk_names_of g c) (sym h.nodes) in
      let slack = h.slack in (
        h.ends,
        ap (path_passes pins) names ∙ sym (passes_told g c numbers pins stops begun are told worst (placed.places worst best.0.0)) ∙ best.0.1,
        (h.test, h.holds),
        λ path test s leads.
            (let f = found path test s leads in
            let least = best.1 f.walk f.is in
            let at = f.names in (
              low_slack p.slack.0 worst.slack f.walk.slack s slack least.0 f.low,
              λ same.
                  ((λ i. is_gt (nodes_cmp (names i) (sym at i)))
                  ∙ ap is_gt (placed.compared worst f.walk best.0.0 f.is.0)
                  ∙ least.1 (tied_slack p.slack.0 worst.slack f.walk.slack s slack least.0 f.low same)),
            )),
      )

-- the same of what a search found
pub none_found : (g : Graphed) (kind : Kind) (pin : List ℕ) (c : PinCone) → AreWalkPaths g kind pin c → AreWalkPlaces g c → AreNumbers g.stored.pins → (pins : List (List ℕ)) → IsThroughFound g c pins None
    → IsThrough g.stored.design kind pin pins None
none_found g kind pin c laws placed numbers pins f = none_through g kind pin c laws placed numbers pins f.stops f.begun f.are f.told f.worst

pub some_found : (g : Graphed) (kind : Kind) (pin : List ℕ) (c : PinCone) → AreWalkPaths g kind pin c → AreWalkPlaces g c → AreNumbers g.stored.pins → (pins : List (List ℕ)) (worst : Walk) (p : Path)
    → IsThroughFound g c pins (Some worst) → IsWalkPath g kind pin c worst p → IsThrough g.stored.design kind pin pins (Some p)
some_found g kind pin c laws placed numbers pins worst p f h = some_through g kind pin c laws placed numbers pins f.stops f.begun f.are f.told worst p f.worst h

-- what a search over a pin's cone answers, with its stops and the counts at its launches, in the form that the code has
pub found_as : (r : Result (Option Walk) Memory) (s : Stored) (g : Graphed) (c : PinCone) (pins : List (List ℕ)) → g.stored ≡ s → (ns : List ℕ) → ns ≡ c.nodes
    → (wanted ws : List (Option ℕ)) → wanted ≡ map (number_of s.pins) pins → ws ≡ wanted
    → (stops xs : List Stop) → AreStops ns (map (number_of g.stored.pins) pins) stops → xs ≡ stops → (begun bs : List ℕ) → AreBegun (places_before g ns) c.cone ns ws begun → bs ≡ begun
    → IfOk r (IsWorstThrough (place_rank s ns) (places_before g ns) c.cone xs bs) → IfOk r (IsThroughFound g c pins)
found_as (Err e) s g c pins same ns at wanted ws is ws_is stops xs are xs_is begun bs told bs_is worst = tt
found_as (Ok found) s g c pins same ns at wanted ws is ws_is stops xs are xs_is begun bs told bs_is worst = record {
  stops = stops;
  are = subst (λ (m : List ℕ). AreStops m (map (number_of g.stored.pins) pins) stops) at are;
  begun = begun;
  told =
      subst (λ (m : List ℕ). AreBegun (places_before g m) c.cone m (map (number_of g.stored.pins) pins) begun) at
      (subst (λ (w : List (Option ℕ)). AreBegun (places_before g ns) c.cone ns w begun)
      (ws_is ∙ is ∙ ap (λ (x : Stored). map (number_of x.pins) pins) (sym same)) told);
  worst =
      subst (λ (m : List ℕ). IsWorstThrough (place_rank g.stored m) (places_before g m) c.cone stops begun found) at
      (subst (λ (x : Stored). IsWorstThrough (place_rank x ns) (places_before g ns) c.cone stops begun found) (sym same)
      (subst (λ (y : List Stop). IsWorstThrough (place_rank s ns) (places_before g ns) c.cone y begun found) xs_is
      (subst (λ (b : List ℕ). IsWorstThrough (place_rank s ns) (places_before g ns) c.cone xs b found) bs_is worst)));
}

module _ (s : Stored) (g : Graphed) (same : g.stored ≡ s) (num : IsNumbered s) (kind : Kind) (pin : List ℕ) (c : PinCone) (laws : AreWalkPaths g kind pin c) (placed : AreWalkPlaces g c)
    (pins : List (List ℕ)) where
  numbers_in : AreNumbers g.stored.pins
  numbers_in = subst (λ (x : Stored). AreNumbers x.pins) (sym same) num.pins

  pub none_as : (o : Option Walk) → IsThroughFound g c pins o → o ≡ None → IsThrough s.design kind pin pins None
  none_as o f e =
      subst (λ (x : Stored). IsThrough x.design kind pin pins None) same
      (none_found g kind pin c laws placed numbers_in pins (subst (IsThroughFound g c pins) e f))

  pub some_as : (o : Option Walk) → IsThroughFound g c pins o → (worst : Walk) → o ≡ Some worst → (p : Path) → IsWalkPath g kind pin c worst p → IsThrough s.design kind pin pins (Some p)
  some_as o f worst e p h =
      subst (λ (x : Stored). IsThrough x.design kind pin pins (Some p)) same
      (some_found g kind pin c laws placed numbers_in pins worst p (subst (IsThroughFound g c pins) e f) h)
