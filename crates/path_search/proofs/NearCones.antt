-- The worst walk of a cone that has the nodes of all walks of the least slack is the worst path to the pin.

use Rattle.std.proofs.Common.{◌≡◌, ℕ, zero, suc, ◌<◌, ℤ, ◌+ℤ◌, ◌≤ℤ◌, pos, Bool, true, false, List, [], ◌∷◌, ◌++◌, map, length, Option, Some, None, refl, sym, ap, subst, ◌∙◌, arith}
use Rattle.std.specs.Prelude.{All, Contains, ◌==◌, if◌then◌else◌, slice_get, slice_index}
use Rattle.std.specs.Ordering.{is_gt}
use Rattle.std.proofs.lemmas.Bool.{eq-eqb}
use Rattle.std.proofs.lemmas.Int.{ints}
use Rattle.std.proofs.lemmas.List.Elements.{All-head, All-tail}
use Rattle.timing_defs.specs.declared.kinds.Kind.{Kind}
use Rattle.timing_defs.specs.declared.kinds.Tran.{Tran}
use Rattle.timing_defs.specs.declared.rows.Path.{Path}
use Rattle.timing_defs.specs.Netlist.{Node}
use Rattle.timing_defs.specs.RowTimes.{plus_some}
use Rattle.timing_defs.specs.Kinds.{data_split}
use Rattle.timing_rules.specs.Tests.{Test}
use Rattle.timing_rules.specs.Paths.{Named, last_of, ends_at, nodes_cmp, path_named, path_slacks, IsShown, IsSlack}
use Rattle.netlist_store.specs.Linked.{IsLinked}
use Rattle.netlist_store.specs.Numbering.{IsNumbered}
use Rattle.pin_graph.specs.Nodes.{node_at}
use Rattle.pin_graph.specs.Graphs.{Graphed, IsGraph}
use Rattle.timing_defs.proofs.Members.{some_is}
use Rattle.worst_walks.specs.declared.cones.WalkEnd.{WalkEnd}
use Rattle.worst_walks.specs.declared.cones.Walk.{Walk}
use Rattle.worst_walks.specs.Walks.{delay_between, walk_sum, IsWalk, IsWorst}
use Rattle.path_cones.specs.declared.fans.FanIn.{FanIn}
use Rattle.path_cones.specs.Delays.{followed_delay}
use Rattle.path_cones.specs.FanIns.{IsFanPart}
use Rattle.path_cones.specs.Reaching.{is_among}
use Rattle.path_cones.proofs.Growing.{place_of}
use Rattle.path_search.specs.declared.cones.EndNodes.{EndNodes}
use Rattle.path_search.specs.declared.cones.PinCone.{PinCone}
use Rattle.path_search.specs.Launches.{IsCourse, begin_names, launch_slacks, signed}
use Rattle.path_search.specs.NearCones.{AreNearEnds, AreNearTo}
use Rattle.path_search.specs.PinCones.{cone_of, name_told, place_name, AreEndNodes, IsMade, IsWalkPath}
use Rattle.path_search.specs.Ranks.{node_of, place_rank, places_before}
use Rattle.path_search.specs.Runs.{IsTimed}
use Rattle.path_search.proofs.ConeCourses.{IsCourseWalk, IsWalkCourse, first_told, lowest, walk_of_tail}
use Rattle.path_search.proofs.ConeTails.{IsPlace, IsPlacedTail, stays}
use Rattle.path_search.proofs.Endings.{course_of as course_found, shown_over}
use Rattle.path_search.proofs.FanCones.{delay_told, its_node, naming, pin_cone, walk_course}
use Rattle.path_search.proofs.Launching.{found_of}
use Rattle.path_search.proofs.NodeCourses.{IsWalkOf, below_node}
use Rattle.path_search.proofs.NumberNames.{node_of_place, number_once, IsNodeNumber}
use Rattle.path_search.proofs.PrefixSums.{sum_back}
use Rattle.path_search.proofs.RankLaws.{Each}

cons_same : {X : Type 0} (x y : X) (xs ys : List X) → x ∷ xs ≡ y ∷ ys → (x ≡ y) × (xs ≡ ys)
cons_same x y xs ys e = (cc, cc)

both_ways : (p w s : ℤ) → p ≡ w → w ≤ℤ s → s ≤ℤ p → p ≡ s
both_ways p w s is a b = omega (arith, ints)

no_more : (p s : ℤ) → p ≡ s → p ≤ℤ s
no_more p s is = omega (arith, ints)

module _ (g : Graphed) (num : IsNumbered g.stored) (linked : IsLinked g.stored.design) (is : IsGraph g) (t : IsTimed g.stored.design) (kind : Kind) (ends : List ℕ) (f : FanIn)
    (h : IsFanPart g kind ends f) (pin : List ℕ) (rise fall : WalkEnd) (m : IsMade g.stored kind pin f rise fall) where
  abbrev made : PinCone
  made = record { nodes = f.nodes; cone = cone_of f rise fall }

  abbrev name_at_place : ℕ → Named
  name_at_place n = place_name g.stored f.nodes n

  abbrev Near_place : ℕ → Type 0
  Near_place n = IsNodeNumber g.stored (node_of f.nodes n)

  abbrev IsPlaceOf : ℕ → Type 0
  IsPlaceOf n = IsPlace (cone_of f rise fall) Near_place n

  abbrev IsIn : ℕ → Type 0
  IsIn n = is_among f.nodes n ≡ true

  -- the places of numbers that are in the cone
  record ArePlaced (ns : List ℕ) : Type 0 where
    places : List ℕ
    numbers : map (λ k. slice_index f.nodes k) places ≡ ns
    names : map name_at_place places ≡ map (name_told g.stored) ns
    known : Each IsPlaceOf places

  placed : (ns : List ℕ) → Each (IsNodeNumber g.stored) ns → All IsIn ns → ArePlaced ns
  placed [] each all = record { places = []; numbers = refl; names = refl; known = tt }
  placed (n ∷ ns) each all =
      let q = place_of f.nodes n (All-head IsIn n ns all) in
      let r = placed ns each.1 (All-tail IsIn n ns all) in
      let at = q.2 in
      let here : node_of f.nodes q.0 ≡ n = node_of_place f.nodes q.0 q.1 ∙ at in
      let numbers = r.numbers in
      let names = r.names in
      record {
        places = q.0 ∷ r.places;
        numbers = λ i. at i ∷ numbers i;
        names = λ i. name_told g.stored (here i) ∷ names i;
        known = ((q.1, subst (IsNodeNumber g.stored) (sym here) each.0), r.known);
      }

  -- a walk by numbers of places is a walk by the places
  sum_placed : (b : ℕ) → b < length f.nodes → (q : ℕ) → q < length f.nodes → (qs : List ℕ) → Each IsPlaceOf qs → (sum : ℤ)
      → walk_sum ◌==◌ (λ x y. followed_delay g kind x y) (slice_index f.nodes b) (slice_index f.nodes q) (map (λ k. slice_index f.nodes k) qs) ≡ Some sum
      → walk_sum ◌==◌ (delay_between (cone_of f rise fall)) b q qs ≡ Some sum
  sum_placed b low q high [] each sum e =
      let here = stays (slice_index f.nodes q) (slice_index f.nodes b) sum e in
      ap (λ (c : Bool). if c then Some (pos 0) else None) (eq-eqb q b (h.once q b high low here.0)) ∙ ap Some here.1
  sum_placed b low q high (x ∷ xs) each sum e =
      let z = sum_back (followed_delay g kind (slice_index f.nodes q) (slice_index f.nodes x))
      (walk_sum ◌==◌ (λ x y. followed_delay g kind x y) (slice_index f.nodes b) (slice_index f.nodes x) (map (λ k. slice_index f.nodes k) xs)) sum e in
      let r = sum_placed b low x each.0.0 xs each.1 z.right z.right_is in
      let arc = delay_told g num linked is t kind ends f h pin rise fall m q x high each.0.0 ∙ z.left_is in
      (λ k. plus_some (arc k) (r k)) ∙ ap Some z.both

  placed_tail : (b : ℕ) → b < length f.nodes → (launch : Named) (post : List Named) (rest : ℤ)
      → (p : IsWalkOf kind (λ x y. followed_delay g kind x y) (λ n. IsNodeNumber g.stored n) (name_told g.stored) (slice_index f.nodes b) launch post rest)
      → All IsIn (p.number ∷ p.more) → IsPlacedTail kind (cone_of f rise fall) Near_place name_at_place b launch post rest
  placed_tail b low launch post rest p all =
      let q = place_of f.nodes p.number (All-head IsIn p.number p.more all) in
      let r = placed p.more p.known (All-tail IsIn p.number p.more all) in
      let at = q.2 in
      let here : node_of f.nodes q.0 ≡ p.number = node_of_place f.nodes q.0 q.1 ∙ at in
      let numbers = r.numbers in
      record {
        place = q.0;
        low = q.1;
        near = subst (IsNodeNumber g.stored) (sym here) p.near;
        its = ap (name_told g.stored) here ∙ p.its;
        more = r.places;
        names = r.names ∙ p.names;
        known = r.known;
        adds =
            sum_placed b low q.0 q.1 r.places r.known (signed kind rest)
            ((λ i. walk_sum ◌==◌ (λ x y. followed_delay g kind x y) (slice_index f.nodes b) (at i) (numbers i)) ∙ p.adds);
      }

  module _ (most : ℤ) (two : EndNodes) (are : AreEndNodes g.stored pin two) (near : AreNearEnds g kind two most f.nodes) where
    near_end : (k : ℕ) (end : WalkEnd) → slice_get (rise ∷ fall ∷ []) k ≡ Some end → AreNearTo g kind (slice_index f.nodes end.node) most f.nodes
    near_end zero end at =
        subst (λ (w : WalkEnd). AreNearTo g kind (slice_index f.nodes w.node) most f.nodes) (some_is at)
        (subst (λ (n : ℕ). AreNearTo g kind n most f.nodes)
        (number_once g.stored num linked two.rise (slice_index f.nodes rise.node) are.rise.node m.rise_node are.rise.its m.rises.its (are.rise.is ∙ sym m.rise_is)) near.rise)
    near_end (suc zero) end at =
        subst (λ (w : WalkEnd). AreNearTo g kind (slice_index f.nodes w.node) most f.nodes) (some_is at)
        (subst (λ (n : ℕ). AreNearTo g kind n most f.nodes)
        (number_once g.stored num linked two.fall (slice_index f.nodes fall.node) are.fall.node m.fall_node are.fall.its m.falls.its (are.fall.is ∙ sym m.fall_is)) near.fall)
    near_end (suc (suc k)) end at = absurd (cc)

    -- the walk of a course of at most the slack
    near_walk : (edge : ℕ × Tran) (launch : Named) (time : ℤ) (post : List Named) (rest : ℤ) → IsCourse g.stored.design kind pin edge launch time post rest
        → (test : Test) (u : ℤ) → Contains (launch_slacks g.stored.design kind launch edge (time +ℤ rest) (last_of launch post)) (test, u) → u ≤ℤ most
        → IsCourseWalk (cone_of f rise fall) Near_place name_at_place launch post u
    near_walk edge launch time post rest c test u within low =
        let pins = pin_cone g num linked is t kind ends f h pin rise fall m in
        let to = pins.each (last_of launch post) c.ends in
        let its = pins.ends to.at to.end to.there in
        let number : ℕ = slice_index f.nodes to.end.node in
        let a = near_end to.at to.end to.there in
        let node = its_node g num linked is t kind ends f h pin rise fall m to.end.node its.low its.near in
        let last : last_of launch post ≡ name_told g.stored number = sym to.its ∙ ap (name_told g.stored) (node_of_place f.nodes to.end.node its.low) in
        let v = below_node g num linked is t kind a.offer number its.near.node node (a.offers its.near.node node) edge launch time post rest
        (record { launched = c.launched; tail = c.tail; ends = last }) test u
        (subst (λ (n : Named). Contains (launch_slacks g.stored.design kind launch edge (time +ℤ rest) n) (test, u)) last within) in
        let first_is = v.first_is in
        let more_is = v.more_is in
        let all : All IsIn (v.tail.number ∷ v.tail.more) =
        subst (λ (xs : List ℕ). All IsIn xs) (λ i. first_is i ∷ more_is i) (a.covers v.slack v.walk (lowest v.slack u most v.low low)) in
        walk_of_tail g.stored.design kind pin (cone_of f rise fall) Near_place name_at_place pins edge launch time post rest c test u within to
        (placed_tail to.end.node its.low launch post rest v.tail all)

    record IsNearWalk (u : ℤ) : Type 0 where
      walk : Walk
      its : IsWalk (cone_of f rise fall) walk
      low : walk.slack ≤ℤ u

    near_path : (path : List Named) (test : Test) (u : ℤ) → ends_at pin path ≡ true → Contains (path_slacks g.stored.design kind path) (test, u) → u ≤ℤ most → IsNearWalk u
    near_path path test u e c low =
        let k = found_of g.stored.design t kind path (test, u) c in
        let v = near_walk k.edge k.launch k.time k.post k.rest (course_found g.stored.design t kind pin path (test, u) e k) test u k.slack_in low in
        record { walk = v.walk; its = v.is; low = v.low }

    module _ (slack : IsSlack g.stored.design kind pin (Some most)) where
      least_walk : IsNearWalk most
      least_walk = near_path slack.0.0 slack.0.1 most slack.0.2 slack.0.3 (no_more most most refl)

      -- the cone has a walk
      pub near_none : IsWorst (place_rank g.stored f.nodes) (places_before g f.nodes) (cone_of f rise fall) None → ⊥
      near_none w = w least_walk.walk least_walk.its

      -- the path of its worst walk is shown
      module _ (worst : Walk) (w : IsWorst (place_rank g.stored f.nodes) (places_before g f.nodes) (cone_of f rise fall) (Some worst)) (p : Path) (of : IsWalkPath g kind pin made worst p) where
        least_is : p.slack.0 ≡ most
        least_is =
            both_ways p.slack.0 worst.slack most of.slack (lowest worst.slack least_walk.walk.slack most (w.1 least_walk.walk least_walk.its).0 least_walk.low)
            (slack.1 (path_named p) of.test p.slack.0 of.ends of.holds.0.0)

        by : IsWalkCourse g.stored.design kind pin (cone_of f rise fall) Near_place name_at_place worst → IsShown g.stored.design kind pin (Some p)
        by v =
            let heads = cons_same v.launch.node of.first v.more of.rest (sym v.nodes ∙ of.nodes) in
            let one = heads.0 in
            let others = heads.1 in
            let names : path_named p ≡ begin_names g.stored.design (name_at_place v.launch.node) ++ map name_at_place v.more =
            of.names ∙ (λ i. begin_names g.stored.design (name_at_place (sym one i)) ++ map name_at_place (sym others i)) in (
              of.ends,
              (of.test, of.holds),
              subst (λ (x : ℤ). IsSlack g.stored.design kind pin (Some x)) (sym least_is) slack,
              λ path test at within.
                  (ap (λ (xs : List Named). is_gt (nodes_cmp xs path)) names
                  ∙ shown_over g.stored.design t kind pin p.slack.0 (begin_names g.stored.design (name_at_place v.launch.node) ++ map name_at_place v.more)
                  (λ edge launch time post rest c other inside.
                  first_told g.stored.design kind pin (cone_of f rise fall) Near_place Near_place name_at_place (place_rank g.stored f.nodes) (places_before g f.nodes)
                  (naming g num linked is t kind ends f h pin rise fall m) worst w v edge launch time c.launched post
                  (subst (λ (x : ℤ). IsCourseWalk (cone_of f rise fall) Near_place name_at_place launch post x) of.slack
                  (near_walk edge launch time post rest c other p.slack.0 inside (no_more p.slack.0 most least_is)))) path test at within),
            )

        pub near_shown : IsShown g.stored.design kind pin (Some p)
        near_shown = by (walk_course g num linked is t kind ends f h pin rise fall m worst w.0)
