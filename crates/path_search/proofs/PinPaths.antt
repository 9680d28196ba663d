-- The path that is read off a walk of a pin's cone is one to the pin.

use Rattle.std.proofs.Common.{◌≡◌, ℕ, suc, ◌^◌, ◌<◌, ◌≤◌, ℤ, pos, unsigned_abs, true, List, [], ◌∷◌, ◌++◌, map, length, Some, refl, sym, ap, subst, ◌∙◌, arith}
use Rattle.std.specs.Prelude.{All, slice_get, slice_index}
use Rattle.std.specs.Option.{option_map_or, unwrap_or}
use Rattle.std.proofs.lemmas.List.{append_assoc}
use Rattle.std.proofs.lemmas.List.Elements.{All-cons, All-nil}
use Rattle.timing_defs.specs.declared.kinds.Kind.{Kind}
use Rattle.timing_defs.specs.declared.kinds.Tran.{Tran}
use Rattle.timing_defs.specs.declared.rows.Path.{Path}
use Rattle.timing_defs.specs.declared.rows.PathNode.{PathNode}
use Rattle.timing_defs.specs.Netlist.{Node}
use Rattle.timing_rules.specs.Rows.{row, empty_row}
use Rattle.timing_defs.specs.RowTimes.{time_on, times_in}
use Rattle.timing_defs.specs.Kinds.{data_split}
use Rattle.timing_rules.specs.Paths.{Named, named, ends_at, path_named, times_along}
use Rattle.netlist_store.specs.Linked.{IsLinked}
use Rattle.netlist_store.specs.Numbering.{Stored, is_number, IsNumbered}
use Rattle.pin_graph.specs.Nodes.{node_at, node_bound, pin_under}
use Rattle.pin_graph.specs.Graphs.{Graphed, IsGraph, level_at}
use Rattle.timing_defs.proofs.Members.{some_is}
use Rattle.worst_walks.specs.declared.cones.Launch.{Launch}
use Rattle.worst_walks.specs.declared.cones.WalkEnd.{WalkEnd}
use Rattle.worst_walks.specs.declared.cones.Walk.{Walk}
use Rattle.worst_walks.specs.Walks.{IsWalk}
use Rattle.path_cones.specs.declared.fans.FanIn.{FanIn}
use Rattle.path_cones.specs.FanIns.{IsFanPart}
use Rattle.path_search.specs.declared.cones.PinCone.{PinCone}
use Rattle.path_search.specs.declared.counted.Counted.{Counted}
use Rattle.path_search.specs.declared.shown.Ends.{Ends}
use Rattle.path_search.specs.Launches.{begin_names, begin_times, time_at}
use Rattle.path_search.specs.Offers.{IsOffer}
use Rattle.path_search.specs.Ranks.{climb, node_of}
use Rattle.path_search.specs.WalkTimes.{times_after}
use Rattle.path_search.specs.PinCones.{capture_edge, capture_part, cone_of, launch_part, name_part, name_told, place_name, time_part, time_numbered, AreEndsFine, AreEndsOf, AreNodesOf, IsMade, IsNodePlace, IsWalkFine, IsWalkOn, IsWalkPath}
use Rattle.path_search.specs.Counts.{counted_edge, IsCounted}
use Rattle.path_search.specs.Runs.{IsTimed}
use Rattle.path_search.proofs.NumberNames.{name_here, node_of_place, number_low, number_there, IsNodeNumber}
use Rattle.path_search.proofs.RankLaws.{Each}
use Rattle.path_search.proofs.ClimbNames.{climb_known, launch_names, launch_times}
use Rattle.path_search.proofs.ConeTails.{times_told}
use Rattle.path_search.proofs.ConeCourses.{IsWalkCourse}
use Rattle.path_search.proofs.FanCones.{cone_told, pin_cone, walk_course}
use Rattle.path_search.proofs.ShownPaths.{ends_in, holds_in}

cons_same : {X : Type 0} (x y : X) (xs ys : List X) → x ∷ xs ≡ y ∷ ys → (x ≡ y) × (xs ≡ ys)
cons_same x y xs ys e = (cc, cc)

each_all : {X : Type 0} (P Q : X → Type 0) → ((x : X) → P x → Q x) → (xs : List X) → Each P xs → All Q xs
each_all P Q f [] e = All-nil Q
each_all P Q f (x ∷ xs) e = All-cons Q x xs (f x e.0) (each_all P Q f xs e.1)

-- a time that is told of a node
time_here : (s : Stored) (kind : Kind) (edge : ℕ × Tran) (x : ℕ) (m : Node) → node_at s x ≡ Some m → time_numbered s (data_split kind) edge x ≡ time_at s.design (data_split kind) edge m
time_here s kind edge x m e = ap (λ o. unwrap_or (time_on (times_in (data_split kind) (option_map_or (row s.design) o empty_row)) edge) (pos 0)) e

module _ (g : Graphed) (num : IsNumbered g.stored) (linked : IsLinked g.stored.design) (is : IsGraph g) (t : IsTimed g.stored.design) (kind : Kind) (ends : List ℕ) (f : FanIn)
    (h : IsFanPart g kind ends f) (pin : List ℕ) (rise fall : WalkEnd) (m : IsMade g.stored kind pin f rise fall) where
  abbrev made : PinCone
  made = record { nodes = f.nodes; cone = cone_of f rise fall }

  abbrev name_at_place : ℕ → Named
  name_at_place n = place_name g.stored f.nodes n

  abbrev Near_place : ℕ → Type 0
  Near_place n = IsNodeNumber g.stored (node_of f.nodes n)

  abbrev IsCourseOf : Walk → Type 0
  IsCourseOf walk = IsWalkCourse g.stored.design kind pin (cone_of f rise fall) Near_place name_at_place walk

  course : (walk : Walk) → IsWalk (cone_of f rise fall) walk → IsCourseOf walk
  course walk w = walk_course g num linked is t kind ends f h pin rise fall m walk w

  number_at_place : (n : ℕ) → n < length f.nodes → (near : Near_place n) → node_at g.stored (slice_index f.nodes n) ≡ Some near.node
  number_at_place n low near = ap (node_at g.stored) (sym (node_of_place f.nodes n low)) ∙ near.its

  place_there : (n : ℕ) → n < length f.nodes → Near_place n → IsNodePlace g.stored f.nodes n
  place_there n low near = record { low = low; number = number_there g.stored (slice_index f.nodes n) near.node (number_at_place n low near) }

  -- the ends that are read of a walk are those of its course
  record AreSame (walk : Walk) (v : IsCourseOf walk) (e : Ends) : Type 0 where
    launch : e.launch ≡ slice_index f.nodes v.launch.node
    end : e.end ≡ slice_index f.nodes v.end.node
    offer : e.offer ≡ v.launch.offer

  same_ends : (walk : Walk) (v : IsCourseOf walk) (e : Ends) → AreEndsOf made walk e → AreSame walk v e
  same_ends walk v e a =
      let end : a.end ≡ v.end = some_is (sym a.end_at ∙ v.end_at) in
      let launch : a.launch ≡ v.launch = some_is (sym a.launch_at ∙ ap (λ (x : WalkEnd). slice_get x.launches walk.launch) end ∙ v.launch_at) in
      record {
        launch = a.launch_is ∙ ap (λ (l : Launch). slice_index f.nodes l.node) launch;
        end = a.end_is ∙ ap (λ (x : WalkEnd). slice_index f.nodes x.node) end;
        offer = a.offer_is ∙ ap (λ (l : Launch). l.offer) launch;
      }

  pub walk_fine : (walk : Walk) → IsWalk (cone_of f rise fall) walk → IsWalkFine g.stored made walk
  walk_fine walk w = by (course walk w)
    where
      by : IsCourseOf walk → IsWalkFine g.stored made walk
      by v = record {
        cone = cone_told g num linked is t kind ends f h pin rise fall m;
        count = refl;
        some = subst (λ (xs : List ℕ). 0 < length xs) (sym v.nodes) (omega arith);
        first = λ n rest e.
            (let heads = cons_same v.launch.node n v.more rest (sym v.nodes ∙ e) in
            subst (IsNodePlace g.stored f.nodes) heads.0 (place_there v.launch.node v.place.low v.place.near));
        on = λ n rest e.
            (let heads = cons_same v.launch.node n v.more rest (sym v.nodes ∙ e) in
            subst (λ (x : ℕ). IsWalkOn g.stored made x rest) heads.0 (subst (IsWalkOn g.stored made v.launch.node) heads.1 (record {
              first_low = v.place.low;
              end = v.end.node;
              low = v.pin_end.low;
              sum = v.sum;
              adds = v.adds;
              places = each_all (λ x. (x < length f.nodes) × Near_place x) (IsNodePlace g.stored f.nodes) (λ x p. place_there x p.0 p.1) v.more v.known;
            })));
      }

  low_at : (n : ℕ) → n < length f.nodes → Near_place n → slice_index f.nodes n < node_bound g.stored
  low_at n low near = number_low g.stored num linked (slice_index f.nodes n) (record { node = near.node; its = number_at_place n low near })

  -- what is offered between the ends of a course
  offer_at : (walk : Walk) (v : IsCourseOf walk) (e : Ends) → AreSame walk v e → IsOffer g.stored.design kind (named v.place.near.node) (named v.pin_end.near.node) e.offer
  offer_at walk v e s =
      subst (λ (x : ℤ). IsOffer g.stored.design kind (named v.place.near.node) (named v.pin_end.near.node) x) (sym s.offer)
      (subst (λ (x : Named). IsOffer g.stored.design kind (named v.place.near.node) x v.launch.offer) (name_here g.stored (node_of f.nodes v.end.node) v.pin_end.near.node v.pin_end.near.its)
      (subst (λ (x : Named). IsOffer g.stored.design kind x (name_at_place v.end.node) v.launch.offer) (name_here g.stored (node_of f.nodes v.launch.node) v.place.near.node v.place.near.its)
      v.place.offer))

  pub ends_fine : (walk : Walk) → IsWalk (cone_of f rise fall) walk → (e : Ends) → AreEndsOf made walk e → AreEndsFine g.stored g kind e
  ends_fine walk w e a = by (course walk w)
    where
      by : IsCourseOf walk → AreEndsFine g.stored g kind e
      by v =
          let s = same_ends walk v e a in
          let launch_node : node_at g.stored e.launch ≡ Some v.place.near.node = ap (node_at g.stored) s.launch ∙ number_at_place v.launch.node v.place.low v.place.near in
          let end_node : node_at g.stored e.end ≡ Some v.pin_end.near.node = ap (node_at g.stored) s.end ∙ number_at_place v.end.node v.pin_end.low v.pin_end.near in
          record {
            launch_low = number_low g.stored num linked e.launch (record { node = v.place.near.node; its = launch_node });
            launch_there = number_there g.stored e.launch v.place.near.node launch_node;
            end_low = number_low g.stored num linked e.end (record { node = v.pin_end.near.node; its = end_node });
            end_there = number_there g.stored e.end v.pin_end.near.node end_node;
            before =
                each_all (IsNodeNumber g.stored) (λ n. is_number g.stored.pins (pin_under n) ≡ true) (λ k n. number_there g.stored k n.node n.its) (climb g e.launch)
                (climb_known g is num linked t (suc (level_at g e.launch)) e.launch v.place.near.node (omega arith) launch_node);
            offer = λ x last.
                (let other : v.pin_end.near.node ≡ x = some_is (sym end_node ∙ last) in (
                  v.place.near.node,
                  launch_node,
                  subst (λ (n : Node). IsOffer g.stored.design kind (named v.place.near.node) (named n) e.offer) other (offer_at walk v e s),
                  subst (λ (y : ℤ). unsigned_abs y ≤ 10 ^ 18) (sym s.offer) v.place.bounded,
                ));
          }

  -- the path that is read off a walk, by the test that counts
  module _ (walk : Walk) (w : IsWalk (cone_of f rise fall) walk) (e : Ends) (a : AreEndsOf made walk e) (c : Counted)
      (counted : (l x : Node) → node_at g.stored e.launch ≡ Some l → node_at g.stored e.end ≡ Some x → IsCounted g.stored kind (named l) (named x) e.offer c)
      (first : ℕ) (rest : List ℕ) (whole : walk.nodes ≡ first ∷ rest) (nodes : List PathNode) (are : AreNodesOf g kind made e.launch c first rest nodes) where
    by_course : (v : IsCourseOf walk) → (p : Path) → p.nodes ≡ nodes → p.slack.0 ≡ walk.slack → p.credit.0 ≡ c.credit.0 → launch_part p ≡ counted_edge c
        → capture_part p ≡ capture_edge c → IsWalkPath g kind pin made walk p
    by_course v p nodes_is slack credit edges captures =
        let s = same_ends walk v e a in
        let heads = cons_same v.launch.node first v.more rest (sym v.nodes ∙ whole) in
        let launch_node : node_at g.stored e.launch ≡ Some v.place.near.node = ap (node_at g.stored) s.launch ∙ number_at_place v.launch.node v.place.low v.place.near in
        let end_node : node_at g.stored e.end ≡ Some v.pin_end.near.node = ap (node_at g.stored) s.end ∙ number_at_place v.end.node v.pin_end.low v.pin_end.near in
        let launch_name : name_at_place v.launch.node ≡ named v.place.near.node = name_here g.stored (node_of f.nodes v.launch.node) v.place.near.node v.place.near.its in
        let end_name : name_at_place v.end.node ≡ named v.pin_end.near.node = name_here g.stored (node_of f.nodes v.end.node) v.pin_end.near.node v.pin_end.near.its in
        let offer_is = s.offer in
        let told : IsCounted g.stored kind (named v.place.near.node) (named v.pin_end.near.node) e.offer c =
        counted v.place.near.node v.pin_end.near.node launch_node end_node in
        let k : IsCounted g.stored kind (name_at_place v.launch.node) (name_at_place v.end.node) v.launch.offer c =
        subst (λ (x : ℤ). IsCounted g.stored kind (name_at_place v.launch.node) (name_at_place v.end.node) x c) offer_is
        (subst (λ (x : Named). IsCounted g.stored kind (name_at_place v.launch.node) x e.offer c) (sym end_name)
        (subst (λ (x : Named). IsCounted g.stored kind x (named v.pin_end.near.node) e.offer c) (sym launch_name) told)) in
        let climbed : map (name_told g.stored) (climb g e.launch) ++ name_at_place v.launch.node ∷ [] ≡ begin_names g.stored.design (name_at_place v.launch.node) =
        ap (λ (x : Named). map (name_told g.stored) (climb g e.launch) ++ x ∷ []) launch_name
        ∙ launch_names g is num linked t (data_split kind) (counted_edge c) c.time.0 e.launch v.place.near.node launch_node told.launched (name_told g.stored) (name_here g.stored)
        ∙ ap (begin_names g.stored.design) (sym launch_name) in
        let times : map (time_numbered g.stored (data_split kind) (counted_edge c)) (climb g e.launch) ≡ begin_times g.stored.design (data_split kind) (counted_edge c) (name_at_place v.launch.node) =
        launch_times g is num linked t (data_split kind) (counted_edge c) c.time.0 e.launch v.place.near.node launch_node told.launched
        (time_numbered g.stored (data_split kind) (counted_edge c)) (time_here g.stored kind (counted_edge c))
        ∙ ap (begin_times g.stored.design (data_split kind) (counted_edge c)) (sym launch_name) in
        let along : c.time.0 ∷ times_after kind (cone_of f rise fall) c.time.0 v.launch.node v.more
        ≡ times_along g.stored.design (data_split kind) c.time.0 (name_at_place v.launch.node) (map name_at_place v.more) =
        times_told g.stored.design kind (cone_of f rise fall) Near_place name_at_place (pin_cone g num linked is t kind ends f h pin rise fall m).nodes v.end.node v.pin_end.low v.launch.node v.more v.sum v.adds c.time.0 in
        let one = heads.0 in
        let others = heads.1 in
        let listed : path_named p ≡ begin_names g.stored.design (name_at_place v.launch.node) ++ map name_at_place v.more =
        ap (map name_part) nodes_is ∙ are.names
        ∙ (λ i. map (name_told g.stored) (climb g e.launch) ++ map name_at_place (sym one i ∷ sym others i))
        ∙ sym (append_assoc (map (name_told g.stored) (climb g e.launch)) (name_at_place v.launch.node ∷ []) (map name_at_place v.more))
        ∙ ap (λ (xs : List Named). xs ++ map name_at_place v.more) climbed in
        let timed : map time_part p.nodes ≡ begin_times g.stored.design (data_split kind) (counted_edge c) (name_at_place v.launch.node)
        ++ times_along g.stored.design (data_split kind) c.time.0 (name_at_place v.launch.node) (map name_at_place v.more) =
        ap (map time_part) nodes_is ∙ are.times
        ∙ (λ i. map (time_numbered g.stored (data_split kind) (counted_edge c)) (climb g e.launch) ++ c.time.0 ∷ times_after kind (cone_of f rise fall) c.time.0 (sym one i) (sym others i))
        ∙ (λ i. times i ++ along i) in
        record {
          slack = slack;
          ends = ap (ends_at pin) listed
              ∙ ends_in g.stored.design t kind pin (cone_of f rise fall) Near_place name_at_place walk v (counted_edge c) c.time.0 k.launched;
          test = k.test;
          holds =
              holds_in g.stored.design t kind pin (cone_of f rise fall) Near_place name_at_place walk v (counted_edge c) c.time.0 k.launched k.test k.within k.first p listed timed
              (sym edges) (captures ∙ k.capture) (credit ∙ k.its_credit) slack;
          first = v.launch.node;
          rest = v.more;
          nodes = v.nodes;
          names = listed;
        }

    pub path_told : (p : Path) → p.nodes ≡ nodes → p.slack.0 ≡ walk.slack → p.credit.0 ≡ c.credit.0 → launch_part p ≡ counted_edge c
        → capture_part p ≡ capture_edge c → IsWalkPath g kind pin made walk p
    path_told = by_course (course walk w)
