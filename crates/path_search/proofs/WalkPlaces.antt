-- The places of the walks of a pin's cone.

use Rattle.std.proofs.Common.{◌≡◌, ℕ, ◌+◌, ◌<◌, ◌||◌, ◌==◌, Bool, true, false, List, [], ◌∷◌, ◌++◌, map, length, Some, refl, sym, ap, subst, ◌∙◌}
use Rattle.std.specs.Prelude.{All, slice_get, unwrap_or}
use Rattle.std.specs.List.{list_any, Contains}
use Rattle.std.specs.Ordering.{nat_cmp}
use Rattle.std.specs.Cmp.Lexicographic.{slice_cmp}
use Rattle.std.proofs.lemmas.Bool.{eq-eqb}
use Rattle.std.proofs.lemmas.List.Elements.{All-nil, All-cons}
use Rattle.timing_defs.specs.declared.kinds.Kind.{Kind}
use Rattle.timing_defs.specs.Kinds.{data_split}
use Rattle.timing_rules.specs.Paths.{Named, nodes_cmp}
use Rattle.timing_defs.proofs.Members.{any_in}
use Rattle.netlist_store.specs.Linked.{IsLinked}
use Rattle.netlist_store.specs.Numbering.{name_at, IsNumbered}
use Rattle.pin_graph.specs.Nodes.{pin_under}
use Rattle.pin_graph.specs.Graphs.{Graphed, IsGraph}
use Rattle.pin_graph.proofs.NodeLaws.{has_node, under_number}
use Rattle.worst_walks.specs.declared.cones.Launch.{Launch}
use Rattle.worst_walks.specs.declared.cones.WalkEnd.{WalkEnd}
use Rattle.worst_walks.specs.declared.cones.Walk.{Walk}
use Rattle.worst_walks.specs.Walks.{is_first, is_launched, ranks_along, whole_list, IsWalk}
use Rattle.path_cones.specs.declared.fans.FanIn.{FanIn}
use Rattle.path_cones.specs.FanIns.{IsFanPart}
use Rattle.path_search.specs.declared.cones.PinCone.{PinCone}
use Rattle.path_search.specs.Runs.{IsTimed}
use Rattle.path_search.specs.PinCones.{cone_of, place_name, IsMade}
use Rattle.path_search.specs.Launches.{begin_names}
use Rattle.path_search.specs.Ranks.{node_of, place_rank, places_before}
use Rattle.path_search.specs.WalkPaths.{walk_names_of}
use Rattle.path_search.specs.WalkPlaces.{ArePlaces, AreWalkPlaces}
use Rattle.path_search.proofs.RankLaws.{Each}
use Rattle.path_search.proofs.NumberNames.{name_here, IsNodeNumber}
use Rattle.path_search.proofs.ConeTails.{IsPlace}
use Rattle.path_search.proofs.ConeCourses.{IsWalkCourse, walks_agree, whole_known, whole_named}
use Rattle.path_search.proofs.FanCones.{in_list, naming, walk_course}

each_all : {X : Type 0} (P Q : X → Type 0) → ((x : X) → P x → Q x) → (xs : List X) → Each P xs → All Q xs
each_all P Q f [] e = All-nil Q
each_all P Q f (x ∷ xs) e = All-cons Q x xs (f x e.0) (each_all P Q f xs e.1)

-- a launch node is a first node
launched_in : (launches : List Launch) (launch : Launch) → Contains launches launch → is_launched launches launch.node ≡ true
launched_in launches launch c = any_in (λ (l : Launch). l.node == launch.node) launches launch c (eq-eqb launch.node launch.node refl)

module _ (g : Graphed) (num : IsNumbered g.stored) (linked : IsLinked g.stored.design) (is : IsGraph g) (t : IsTimed g.stored.design) (kind : Kind) (ends : List ℕ) (f : FanIn)
    (h : IsFanPart g kind ends f) (pin : List ℕ) (rise fall : WalkEnd) (m : IsMade g.stored kind pin f rise fall) where
  abbrev made : PinCone
  made = record { nodes = f.nodes; cone = cone_of f rise fall }

  abbrev name_at_place : ℕ → Named
  name_at_place n = place_name g.stored f.nodes n

  abbrev Near_place : ℕ → Type 0
  Near_place n = IsNodeNumber g.stored (node_of f.nodes n)

  abbrev IsCourseOf : Walk → Type 0
  IsCourseOf walk = IsWalkCourse g.stored.design kind pin (cone_of f rise fall) Near_place name_at_place walk

  course : (walk : Walk) → IsWalk (cone_of f rise fall) walk → IsCourseOf walk
  course walk w = walk_course g num linked is t kind ends f h pin rise fall m walk w

  -- the name of a place is that of its pin's number
  named_pin : (n : ℕ) → Near_place n → name_at g.stored.pins (pin_under (node_of f.nodes n)) ≡ Some (name_at_place n).0
  named_pin n near =
      let k = has_node g.stored num linked (node_of f.nodes n) near.node near.its in
      let its = name_here g.stored (node_of f.nodes n) near.node near.its in
      ap (name_at g.stored.pins) (ap pin_under k.number ∙ under_number k.pin near.node.tran) ∙ k.has.name ∙ ap (λ (x : Named). Some x.0) (sym its)

  places_in : (walk : Walk) → IsWalk (cone_of f rise fall) walk → ArePlaces g made walk
  places_in walk w = by (course walk w)
    where
      by : IsCourseOf walk → ArePlaces g made walk
      by v = record {
        first = v.launch.node;
        more = v.more;
        nodes = v.nodes;
        launched =
            any_in (λ (end : WalkEnd). is_launched end.launches v.launch.node) (rise ∷ fall ∷ []) v.end (in_list (rise ∷ fall ∷ []) walk.end v.end v.end_at)
            (launched_in v.end.launches v.launch (in_list v.end.launches walk.launch v.launch v.launch_at));
        low = each_all (IsPlace (cone_of f rise fall) Near_place) (λ n. n < length f.nodes) (λ n p. p.0) v.more v.known;
        names =
            sym (whole_named g.stored.design (data_split kind) (cone_of f rise fall) Near_place Near_place name_at_place (place_rank g.stored f.nodes) (places_before g f.nodes)
            (naming g num linked is t kind ends f h pin rise fall m) v.launch.node v.more (v.place.low, v.place.near) v.place.offer.edge v.place.offer.time v.place.offer.launched);
        there =
            each_all Near_place (λ n. name_at g.stored.pins (pin_under (node_of f.nodes n)) ≡ Some (name_at_place n).0) named_pin (whole_list (places_before g f.nodes) (v.launch.node ∷ v.more))
            (whole_known g.stored.design (data_split kind) (cone_of f rise fall) Near_place Near_place name_at_place (place_rank g.stored f.nodes) (places_before g f.nodes)
            (naming g num linked is t kind ends f h pin rise fall m) v.launch.node v.more (v.place.low, v.place.near) v.known);
      }

  compared_in : (a b : Walk) → IsWalk (cone_of f rise fall) a → IsWalk (cone_of f rise fall) b
      → nodes_cmp (walk_names_of g made a.nodes) (walk_names_of g made b.nodes)
      ≡ slice_cmp nat_cmp (ranks_along (place_rank g.stored f.nodes) (places_before g f.nodes) a) (ranks_along (place_rank g.stored f.nodes) (places_before g f.nodes) b)
  compared_in a b x y = by (course a x) (course b y)
    where
      by : IsCourseOf a → IsCourseOf b → nodes_cmp (walk_names_of g made a.nodes) (walk_names_of g made b.nodes)
          ≡ slice_cmp nat_cmp (ranks_along (place_rank g.stored f.nodes) (places_before g f.nodes) a) (ranks_along (place_rank g.stored f.nodes) (places_before g f.nodes) b)
      by v w =
          let one = ap (walk_names_of g made) v.nodes in
          let other = ap (walk_names_of g made) w.nodes in
          let here = sym v.nodes in
          let there = sym w.nodes in
          (λ i. nodes_cmp (one i) (other i))
          ∙ sym (walks_agree g.stored.design (data_split kind) (cone_of f rise fall) Near_place Near_place name_at_place (place_rank g.stored f.nodes) (places_before g f.nodes)
          (naming g num linked is t kind ends f h pin rise fall m) v.launch.node w.launch.node v.more w.more (v.place.low, v.place.near) (w.place.low, w.place.near) v.known w.known
          v.place.offer.edge v.place.offer.time v.place.offer.launched w.place.offer.edge w.place.offer.time w.place.offer.launched)
          ∙ (λ i. slice_cmp nat_cmp (map (place_rank g.stored f.nodes) (whole_list (places_before g f.nodes) (here i))) (map (place_rank g.stored f.nodes) (whole_list (places_before g f.nodes) (there i))))

  pub walk_places : AreWalkPlaces g made
  walk_places = record { count = refl; once = h.once; places = places_in; compared = compared_in }
