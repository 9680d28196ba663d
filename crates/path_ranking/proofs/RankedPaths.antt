-- The paths of the first walks of a pin's cone are the worst paths to the pin.

use Rattle.std.proofs.Common.{◌≡◌, ℕ, ◌+◌, ◌<◌, ℤ, List, [], ◌∷◌, ◌++◌, length, map, take, get_or, sym, ap, subst, ◌∙◌, inl, inr, refl}
use Rattle.std.specs.Prelude.{Contains, Result, IfOk}
use Rattle.std.proofs.lemmas.List.{take_more}
use Rattle.sta_units.specs.declared.units.Memory.{Memory}
use Rattle.timing_defs.specs.declared.kinds.Kind.{Kind}
use Rattle.timing_defs.specs.declared.rows.Path.{Path}
use Rattle.timing_rules.specs.Tests.{Test}
use Rattle.timing_rules.specs.Paths.{Named, Holds}
use Rattle.timing_defs.specs.Firsts.{AreFirst}
use Rattle.timing_rules.specs.Ranking.{AreWorstPaths, IsRanked, Ranked, ranked, comes_before as path_before}
use Rattle.timing_defs.proofs.Members.{in_cases, none_in}
use Rattle.netlist_store.specs.Numbering.{Stored}
use Rattle.pin_graph.specs.Graphs.{Graphed}
use Rattle.worst_walks.specs.declared.cones.Walk.{Walk}
use Rattle.worst_walks.specs.Walks.{comes_before, IsWalk}
use Rattle.path_search.specs.declared.cones.PinCone.{PinCone}
use Rattle.path_search.specs.PinCones.{IsWalkPath}
use Rattle.path_search.specs.Ranks.{place_rank, places_before}
use Rattle.path_search.specs.WalkPaths.{walk_names_of, ranked_walk, AreWalkPaths}
use Rattle.path_ranking.specs.WalkLists.{ArePathsOf}
use Rattle.path_ranking.proofs.FirstLaws.{first_mapped, IsOnto}

module _ (g : Graphed) (kind : Kind) (pin : List ℕ) (c : PinCone) where
  paths_append : (walks : List Walk) (paths : List Path) (walk : Walk) (path : Path) → ArePathsOf g kind pin c walks paths → IsWalkPath g kind pin c walk path
      → ArePathsOf g kind pin c (walks ++ walk ∷ []) (paths ++ path ∷ [])
  paths_append [] [] walk path a p = (p, tt)
  paths_append (w ∷ ws) (q ∷ qs) walk path a p = (a.0, paths_append ws qs walk path a.1 p)
  paths_append [] (q ∷ qs) walk path a p = absurd a
  paths_append (w ∷ ws) [] walk path a p = absurd a

  -- one path more
  pub paths_more : (walks : List Walk) (i : ℕ) (walk : Walk) (paths more : List Path) (path : Path) → i < length walks → walk ≡ get_or walks i walk → ArePathsOf g kind pin c (take i walks) paths
      → IsWalkPath g kind pin c walk path → more ≡ paths ++ path ∷ [] → ArePathsOf g kind pin c (take (i + 1) walks) more
  paths_more walks i walk paths more path low here a p put =
      subst (λ (ps : List Path). ArePathsOf g kind pin c (take (i + 1) walks) ps) (sym put)
      (subst (λ (ws : List Walk). ArePathsOf g kind pin c ws (paths ++ path ∷ [])) (sym (take_more walks i walk low))
      (paths_append (take i walks) paths (get_or walks i walk) path a (subst (λ (w : Walk). IsWalkPath g kind pin c w path) here p)))

  held : (walks : List Walk) (paths : List Path) → ArePathsOf g kind pin c walks paths → (p : Path) → Contains paths p → (test : Test) × Holds g.stored.design kind p test
  held [] [] a p within = absurd (none_in p within)
  held (w ∷ ws) (q ∷ qs) a p within = elim (in_cases q qs p within) [
    | inl here ↦ subst (λ (x : Path). (test : Test) × Holds g.stored.design kind x test) here (a.0.test, a.0.holds)
    | inr later ↦ held ws qs a.1 p later
  ]
  held [] (q ∷ qs) a p within = absurd a
  held (w ∷ ws) [] a p within = absurd a

  one_rank : (walk : Walk) (path : Path) → IsWalkPath g kind pin c walk path → ranked path ≡ ranked_walk g c walk
  one_rank walk path p =
      let slack = p.slack in
      let names = p.names ∙ ap (walk_names_of g c) (sym p.nodes) in
      λ i. (slack i, names i)

  ranks : (walks : List Walk) (paths : List Path) → ArePathsOf g kind pin c walks paths → map ranked paths ≡ map (ranked_walk g c) walks
  ranks [] [] a = refl
  ranks (w ∷ ws) (q ∷ qs) a =
      let one = one_rank w q a.0 in
      let others = ranks ws qs a.1 in
      λ i. one i ∷ others i
  ranks [] (q ∷ qs) a = absurd a
  ranks (w ∷ ws) [] a = absurd a

  module _ (laws : AreWalkPaths g kind pin c) where
    onto : IsOnto (ranked_walk g c) (comes_before (place_rank g.stored c.nodes) (places_before g c.nodes)) path_before (IsWalk c.cone) (IsRanked g.stored.design kind pin)
    onto = record { sound = laws.sound; whole = laws.whole; order = laws.order; apart = laws.apart }

    pub worst_paths : (s : Stored) → g.stored ≡ s → (count : ℕ) (walks : List Walk) (paths : List Path)
        → AreFirst (comes_before (place_rank s c.nodes) (places_before g c.nodes)) count (IsWalk c.cone) walks
        → ArePathsOf g kind pin c walks paths → AreWorstPaths s.design kind pin count paths
    worst_paths s same count walks paths first a =
        subst (λ (x : Stored). AreWorstPaths x.design kind pin count paths) same (
          held walks paths a,
          subst (AreFirst path_before count (IsRanked g.stored.design kind pin)) (sym (ranks walks paths a))
              (first_mapped (ranked_walk g c) (comes_before (place_rank g.stored c.nodes) (places_before g c.nodes)) path_before (IsWalk c.cone) (IsRanked g.stored.design kind pin) onto count walks
              (subst (λ (x : Stored). AreFirst (comes_before (place_rank x c.nodes) (places_before g c.nodes)) count (IsWalk c.cone) walks) (sym same) first)),
        )

-- the first walks over the nodes of a cone, in the form that the code has
pub first_as : (r : Result (List Walk) Memory) (s : Stored) (g : Graphed) (c : PinCone) (count : ℕ) (ns : List ℕ) → ns ≡ c.nodes
    → IfOk r (AreFirst (comes_before (place_rank s ns) (places_before g ns)) count (IsWalk c.cone))
    → IfOk r (AreFirst (comes_before (place_rank s c.nodes) (places_before g c.nodes)) count (IsWalk c.cone))
first_as r s g c count ns at first =
    subst (λ (m : List ℕ). IfOk r (AreFirst (comes_before (place_rank s m) (places_before g m)) count (IsWalk c.cone))) at first
