-- The cone of near nodes, in the forms that functions have.

use Rattle.std.proofs.Common.{◌≡◌, ℕ, ◌<◌, true, ℤ, List, ◌∷◌, ◌++◌, Option, None, Some, Result, Ok, Err, IfOk, refl, sym, ap, subst, ◌∙◌}
use Rattle.std.specs.Prelude.{All, Contains, ◌==◌, nat_eq, option_map}
use Rattle.std.proofs.lemmas.Bool.{eq-eqb, eqb-true}
use Rattle.std.proofs.lemmas.List.Elements.{All-append, All-contains, All-weaker, Contains-append_left, Contains-append_right}
use Rattle.sta_units.specs.declared.units.Memory.{Memory}
use Rattle.timing_defs.specs.declared.kinds.Kind.{Kind}
use Rattle.timing_defs.specs.declared.rows.NodeRow.{NodeRow}
use Rattle.timing_defs.specs.declared.rows.Path.{Path}
use Rattle.timing_defs.specs.Netlist.{Node}
use Rattle.timing_rules.specs.Paths.{named, IsShown, IsSlack as IsPinSlack}
use Rattle.netlist_store.specs.Linked.{IsLinked}
use Rattle.netlist_store.specs.Numbering.{Stored, IsNumbered}
use Rattle.pin_graph.specs.Nodes.{node_at, node_bound}
use Rattle.pin_graph.specs.Graphs.{Graphed, IsGraph}
use Rattle.timing_defs.proofs.Members.{any_back, any_in, some_is}
use Rattle.arc_delays.specs.declared.tables.ArcDelay.{ArcDelay}
use Rattle.worst_walks.specs.declared.cones.Walk.{Walk}
use Rattle.worst_walks.specs.Walks.{IsWorst}
use Rattle.path_cones.specs.Reaching.{is_among}
use Rattle.pessimism_credit.specs.declared.rows.TreeRow.{TreeRow}
use Rattle.bounded_slack.specs.Nets.{Net, count_of, IsLeastOfTwo}
use Rattle.bounded_slack.specs.Nears.{AreNear}
use Rattle.path_search.specs.declared.cones.EndNodes.{EndNodes}
use Rattle.path_search.specs.declared.cones.PinCone.{PinCone}
use Rattle.path_search.specs.declared.near_cones.NearEnds.{NearEnds}
use Rattle.path_search.specs.NearCones.{AreNearEnds, AreNearNodes, AreNearTo, AreNearTwo, IsNearCone, IsNearFound, IsNearTwo}
use Rattle.path_search.specs.NodeNets.{fan_net, FanValue, IsFanNet}
use Rattle.path_search.specs.PinCones.{AreEndNodes, IsPinPart, IsWalkPath}
use Rattle.path_search.specs.Ranks.{place_rank, places_before}
use Rattle.path_search.proofs.NearCones.{near_none, near_shown}
use Rattle.path_search.proofs.NodeForms.{both_found, near_as}
use Rattle.path_search.proofs.PinSearches.{cone_is}
use Rattle.path_search.proofs.Setting.{timed}

-- the nodes of two lists are among those of both
among_first : (first second : List ℕ) (n : ℕ) → Contains first n → is_among (first ++ second) n ≡ true
among_first first second n c = any_in (nat_eq n) (first ++ second) n (Contains-append_left first second n c) (eq-eqb n n refl)

among_second : (first second : List ℕ) (n : ℕ) → Contains second n → is_among (first ++ second) n ≡ true
among_second first second n c = any_in (nat_eq n) (first ++ second) n (Contains-append_right first second n c) (eq-eqb n n refl)

-- what holds of all nodes of a list holds of each that is among them
among_all : (xs nodes : List ℕ) (k : ℕ) → All (λ x. is_among nodes x ≡ true) xs → is_among xs k ≡ true → is_among nodes k ≡ true
among_all xs nodes k all e =
    let r = any_back (nat_eq k) xs e in
    subst (λ (x : ℕ). is_among nodes x ≡ true) (sym (eqb-true k r.item r.passes)) (All-contains (λ x. is_among nodes x ≡ true) xs r.item all r.within)

-- the near nodes of two searches, one list after the other
pub near_lists : (one other : Net) (most given : ℤ) → given ≡ most → (first second seen : List ℕ) → AreNear one given first → AreNear other given second → seen ≡ second → (r : Result (List ℕ) Memory)
    → IfOk r (λ all. all ≡ first ++ seen) → IfOk r (AreNearTwo one other most)
near_lists one other most given is first second seen a b same (Err e) h = tt
near_lists one other most given is first second seen a b same (Ok all) h = record {
  first = first;
  second = second;
  all = h ∙ ap (λ (xs : List ℕ). first ++ xs) same;
  near_first = subst (λ (x : ℤ). AreNear one x first) is a;
  near_second = subst (λ (x : ℤ). AreNear other x second) is b;
}

pub nothing_near : (one other : Net) → IsLeastOfTwo one other None → IsNearTwo one other None
nothing_near one other h = record { slack = h; nodes = λ n e. absurd (cc) }

pub some_near : (one other : Net) (least most : ℤ) → most ≡ least → (nodes : List ℕ) → IsLeastOfTwo one other (Some least) → AreNearTwo one other most nodes
    → IsNearTwo one other (Some (record { least = most; nodes = nodes }))
some_near one other least most same nodes h near = record {
  slack = subst (λ (x : ℤ). IsLeastOfTwo one other (Some x)) (sym same) h;
  nodes = λ k e. subst (λ (x : NearEnds). AreNearTwo one other x.least x.nodes) (some_is e) near;
}

module _ (s : Stored) (g : Graphed) (rows : List NodeRow) (delays : List (List ArcDelay)) (tree : List TreeRow) (kind : Kind) (ends : EndNodes) (one other : FanValue)
    (a : IsFanNet s g rows delays tree kind ends.rise one) (b : IsFanNet s g rows delays tree kind ends.fall other) (num : IsNumbered s) (linked : IsLinked s.design) (is : IsGraph g) where
  near_in : (n : NearEnds) → AreNearTwo (fan_net one) (fan_net other) n.least n.nodes → AreNearNodes g kind ends n
  near_in n h =
      let first : All (λ k. k < node_bound g.stored) h.first = subst (λ (v : FanValue). All (λ k. k < count_of (fan_net v)) h.first) a.is h.near_first.below in
      let second : All (λ k. k < node_bound g.stored) h.second = subst (λ (v : FanValue). All (λ k. k < count_of (fan_net v)) h.second) b.is h.near_second.below in
      let all = h.all in
      record {
        below = subst (λ (xs : List ℕ). All (λ k. k < node_bound g.stored) xs) (sym all) (All-append (λ k. k < node_bound g.stored) h.first h.second first second);
        near = record {
          rise =
              subst (AreNearTo g kind ends.rise n.least) (sym all)
              (near_as s g rows delays tree kind ends.rise one a num linked is n.least h.first h.near_first (h.first ++ h.second) (among_first h.first h.second));
          fall =
              subst (AreNearTo g kind ends.fall n.least) (sym all)
              (near_as s g rows delays tree kind ends.fall other b num linked is n.least h.second h.near_second (h.first ++ h.second) (among_second h.first h.second));
        };
      }

  pub near_found_as : (r : Result (Option NearEnds) Memory) → IfOk r (IsNearTwo (fan_net one) (fan_net other)) → IfOk r (IsNearFound s g kind ends)
  near_found_as (Err e) h = tt
  near_found_as (Ok found) h = record {
    slack = both_found s g rows delays tree kind ends.rise ends.fall one other a b num linked is (Ok (option_map (λ (n : NearEnds). n.least) found)) h.slack;
    nodes = λ n e. near_in n (h.nodes n e);
  }

-- the cone that has the near nodes among its own
pub near_cone_as : (g : Graphed) (s : Stored) → g.stored ≡ s → (kind : Kind) (pin : List ℕ) (ends : EndNodes) → AreEndNodes s pin ends → (n : NearEnds) → AreNearNodes g kind ends n
    → (seen nodes : List ℕ) → seen ≡ n.nodes → All (λ k. is_among nodes k ≡ true) seen
    → (r : Result PinCone Memory) → IfOk r (IsPinPart g kind pin) → IfOk r (λ c. c.nodes ≡ nodes) → IfOk r (IsNearCone g kind pin n.least)
near_cone_as g s same kind pin ends are n near seen nodes all within (Err e) part is = tt
near_cone_as g s same kind pin ends are n near seen nodes all within (Ok c) part is = record {
  part = part;
  ends = ends;
  are = subst (λ (x : Stored). AreEndNodes x pin ends) (sym same) are;
  near = record { rise = wider ends.rise near.near.rise; fall = wider ends.fall near.near.fall };
}
  where
    inside : (k : ℕ) → is_among n.nodes k ≡ true → is_among c.nodes k ≡ true
    inside k e =
        subst (λ (xs : List ℕ). is_among xs k ≡ true) (sym is)
        (among_all n.nodes nodes k (subst (λ (xs : List ℕ). All (λ x. is_among nodes x ≡ true) xs) all within) e)

    wider : (end : ℕ) → AreNearTo g kind end n.least n.nodes → AreNearTo g kind end n.least c.nodes
    wider end h = record {
      offer = h.offer;
      offers = h.offers;
      covers = λ s w low. All-weaker (λ k. is_among n.nodes k ≡ true) (λ k. is_among c.nodes k ≡ true) inside (w.first ∷ w.more) (h.covers s w low);
    }

module _ (g : Graphed) (s : Stored) (same : g.stored ≡ s) (num : IsNumbered s) (linked : IsLinked s.design) (is : IsGraph g) (kind : Kind) (pin : List ℕ) (most : ℤ) (c : PinCone)
    (h : IsNearCone g kind pin most c) where
  num_in : IsNumbered g.stored
  num_in = subst IsNumbered (sym same) num

  linked_in : IsLinked g.stored.design
  linked_in = subst (λ (x : Stored). IsLinked x.design) (sym same) linked

  ends_in : AreNearEnds g kind h.ends most h.part.f.nodes
  ends_in = subst (AreNearEnds g kind h.ends most) h.part.nodes h.near

  pub near_none_as : IsPinSlack s.design kind pin (Some most) → IsWorst (place_rank s c.nodes) (places_before g c.nodes) c.cone None → ⊥
  near_none_as =
      subst (λ (x : Stored). IsPinSlack x.design kind pin (Some most) → IsWorst (place_rank x c.nodes) (places_before g c.nodes) c.cone None → ⊥) same
      (subst (λ (x : PinCone). IsPinSlack g.stored.design kind pin (Some most) → IsWorst (place_rank g.stored x.nodes) (places_before g x.nodes) x.cone None → ⊥)
      (sym (cone_is g kind pin c h.part))
      (near_none g num_in linked_in is (timed g num_in linked_in is) kind h.part.ends h.part.f h.part.fan pin h.part.rise h.part.fall h.part.made most h.ends h.are ends_in))

  shown : IsPinSlack s.design kind pin (Some most) → (worst : Walk) → IsWorst (place_rank s c.nodes) (places_before g c.nodes) c.cone (Some worst)
      → (p : Path) → IsWalkPath g kind pin c worst p → IsShown s.design kind pin (Some p)
  shown =
      subst
      (λ (x : Stored). IsPinSlack x.design kind pin (Some most) → (worst : Walk) → IsWorst (place_rank x c.nodes) (places_before g c.nodes) c.cone (Some worst)
      → (p : Path) → IsWalkPath g kind pin c worst p → IsShown x.design kind pin (Some p))
      same
      (subst
      (λ (x : PinCone). IsPinSlack g.stored.design kind pin (Some most) → (worst : Walk) → IsWorst (place_rank g.stored x.nodes) (places_before g x.nodes) x.cone (Some worst)
      → (p : Path) → IsWalkPath g kind pin x worst p → IsShown g.stored.design kind pin (Some p))
      (sym (cone_is g kind pin c h.part))
      (near_shown g num_in linked_in is (timed g num_in linked_in is) kind h.part.ends h.part.f h.part.fan pin h.part.rise h.part.fall h.part.made most h.ends h.are ends_in))

  pub near_shown_as : IsPinSlack s.design kind pin (Some most) → (worst : Walk) → IsWorst (place_rank s c.nodes) (places_before g c.nodes) c.cone (Some worst)
      → (r : Result Path Memory) → IfOk r (IsWalkPath g kind pin c worst) → IfOk r (λ p. IsShown s.design kind pin (Some p))
  near_shown_as slack worst w (Err e) is_path = tt
  near_shown_as slack worst w (Ok p) is_path = shown slack worst w p is_path
