-- The walks of a pin's cone are the tested paths to the pin, each once and in one order.

use Rattle.std.proofs.Common.{◌≡◌, ℕ, zero, suc, ℤ, ◌≤ℤ◌, true, List, [], ◌∷◌, ◌++◌, map, Some, refl, sym, ap, subst, ◌∙◌, arith}
use Rattle.std.specs.Prelude.{Contains, slice_get, slice_index}
use Rattle.std.specs.Ordering.{nat_cmp, int_cmp, ordering_then, is_lt}
use Rattle.std.specs.Cmp.Lexicographic.{slice_cmp}
use Rattle.std.specs.declared.cmp.Ordering.{Ordering}
use Rattle.std.specs.declared.cmp.Ordering.TheVariants.{Equal}
use Rattle.std.proofs.lemmas.Cmp.{tied_itself, nat_cmp_total}
use Rattle.std.proofs.lemmas.Int.{ints}
use Rattle.timing_defs.specs.declared.kinds.Kind.{Kind}
use Rattle.timing_defs.specs.declared.kinds.Split.{Split}
use Rattle.timing_defs.specs.declared.kinds.Tran.{Tran}
use Rattle.timing_defs.specs.declared.kinds.Tran.TheVariants.{Rise, Fall}
use Rattle.timing_defs.specs.declared.design.Design.{Design}
use Rattle.timing_defs.specs.declared.rows.Path.{Path}
use Rattle.timing_defs.specs.Netlist.{Node}
use Rattle.timing_rules.specs.Tests.{Test}
use Rattle.timing_defs.specs.Kinds.{data_split}
use Rattle.timing_rules.specs.Paths.{Named, named, named_cmp, nodes_cmp, launch_node, last_of, ends_at, path_slacks}
use Rattle.timing_rules.specs.Ranking.{Ranked, ranked, comes_before as path_before, IsPathSlack, IsRanked}
use Rattle.timing_defs.proofs.Members.{some_is}
use Rattle.netlist_store.specs.Linked.{IsLinked}
use Rattle.netlist_store.specs.Numbering.{IsNumbered}
use Rattle.pin_graph.specs.Graphs.{Graphed, IsGraph}
use Rattle.worst_walks.specs.declared.cones.Launch.{Launch}
use Rattle.worst_walks.specs.declared.cones.WalkEnd.{WalkEnd}
use Rattle.worst_walks.specs.declared.cones.Cone.{Cone}
use Rattle.worst_walks.specs.declared.cones.Walk.{Walk}
use Rattle.worst_walks.specs.Walks.{comes_before as walk_before, ranks_along, whole_list, IsWalk}
use Rattle.path_cones.specs.declared.fans.FanIn.{FanIn}
use Rattle.path_cones.specs.FanIns.{IsFanIn}
use Rattle.path_search.specs.declared.cones.PinCone.{PinCone}
use Rattle.path_search.specs.Runs.{IsTimed}
use Rattle.path_search.specs.Launches.{IsLaunched, IsTail, begin_names, signed}
use Rattle.path_search.specs.PinCones.{cone_of, name_told, place_name, IsEndOf, IsMade, IsWalkPath}
use Rattle.path_search.specs.Ranks.{node_of, place_rank, places_before}
use Rattle.path_search.specs.WalkPaths.{walk_names_of, ranked_walk, AreWalkPaths}
use Rattle.path_search.proofs.RankLaws.{Each, equal_told}
use Rattle.path_search.proofs.NumberNames.{name_here, node_of_place, named_agree, rank_once, number_low, IsNodeNumber}
use Rattle.path_search.proofs.Launching.{append_same, found_of, path_of, slacks_of_launch}
use Rattle.path_search.proofs.Endings.{course_of as course_found}
use Rattle.path_search.proofs.ConeTails.{AreBack, IsPlace}
use Rattle.path_search.proofs.ConeCourses.{IsPinCone, IsWalkCourse, course_of, unshifted, walk_of_course, walks_agree}
use Rattle.path_search.proofs.ShownPaths.{ends_in, low_slack, slacks_are}
use Rattle.path_search.proofs.FanCones.{all_back, naming, pin_cone, walk_course}

-- a path of a walk is ranked as the walk
pub path_ranked : (g : Graphed) (kind : Kind) (pin : List ℕ) (c : PinCone) (walk : Walk) (p : Path) → IsWalkPath g kind pin c walk p → ranked p ≡ ranked_walk g c walk
path_ranked g kind pin c walk p h =
    let slack = h.slack in
    let names = h.names ∙ sym (ap (walk_names_of g c) h.nodes) in
    λ i. (slack i, names i)

cons_same : {X : Type 0} (x y : X) (xs ys : List X) → x ∷ xs ≡ y ∷ ys → (x ≡ y) × (xs ≡ ys)
cons_same x y xs ys e = (cc, cc)

both_ways : (w s : ℤ) → w ≤ℤ s → s ≤ℤ w → w ≡ s
both_ways w s a b = omega (arith, ints)

-- lists of the same names, where each name is of one number
listed_once : (P : ℕ → Type 0) (name : ℕ → Named) → ((a b : ℕ) → P a → P b → name a ≡ name b → a ≡ b)
    → (ns ms : List ℕ) → Each P ns → Each P ms → map name ns ≡ map name ms → ns ≡ ms
listed_once P name once [] [] p q e = refl
listed_once P name once [] (m ∷ ms) p q e = absurd (cc)
listed_once P name once (n ∷ ns) [] p q e = absurd (cc)
listed_once P name once (n ∷ ns) (m ∷ ms) p q e =
    let heads = cons_same (name n) (name m) (map name ns) (map name ms) e in
    let first = once n m p.0 q.0 heads.0 in
    let rest = listed_once P name once ns ms p.1 q.1 heads.1 in
    λ i. first i ∷ rest i

-- a path has one launch node
launch_once : (d : Design) (t : IsTimed d) (split : Split) (e f : ℕ × Tran) (a b : Named) (u v : ℤ) → IsLaunched d split e a u → IsLaunched d split f b v
    → (xs ys : List Named) (r s : ℤ) → IsTail d split a xs r → IsTail d split b ys s → begin_names d a ++ xs ≡ begin_names d b ++ ys → a ≡ b
launch_once d t split e f a b u v l k xs ys r s x y same =
    let one = path_of d t split e a u l xs r x in
    let other = path_of d t split f b v k ys s y in
    let heads = cons_same one.first other.first one.more other.more (sym one.nodes ∙ same ∙ other.nodes) in
    let first = heads.0 in
    let more = heads.1 in
    sym one.last ∙ (λ i. launch_node d (first i) (more i)) ∙ other.last

module _ (d : Design) (t : IsTimed d) (kind : Kind) (pin : List ℕ) (cone : Cone) (Near : ℕ → Type 0) (name : ℕ → Named) where
  -- the path of a course
  abbrev names_on : (walk : Walk) → IsWalkCourse d kind pin cone Near name walk → List Named
  names_on walk v = begin_names d (name v.launch.node) ++ map name v.more

  slack_on : (walk : Walk) (v : IsWalkCourse d kind pin cone Near name walk) → IsPathSlack d kind (names_on walk v) walk.slack
  slack_on walk v =
      let slack = v.slack in (
        (
          v.place.offer.test,
          subst (λ (xs : List (Test × ℤ)). Contains xs (v.place.offer.test, walk.slack))
              (sym (slacks_of_launch d t kind v.place.offer.edge (name v.launch.node) v.place.offer.time v.place.offer.launched (map name v.more) v.rest v.course.tail)) v.slack_in,
        ),
        λ other u c.
            (let w = unshifted d kind (name v.launch.node) v.place.offer.edge v.place.offer.time v.rest (name v.end.node) other u
            (subst (λ (xs : List (Test × ℤ)). Contains xs (other, u)) (slacks_are d t kind pin cone Near name walk v v.place.offer.edge v.place.offer.time v.place.offer.launched) c) in
            let is = w.is in
            low_slack v.launch.offer w.first (signed kind v.rest) walk.slack u slack is (v.place.offer.least other w.first w.within)),
      )

  ends_on : (walk : Walk) (v : IsWalkCourse d kind pin cone Near name walk) → ends_at pin (names_on walk v) ≡ true
  ends_on walk v = ends_in d t kind pin cone Near name walk v v.place.offer.edge v.place.offer.time v.place.offer.launched

  module _ (is : IsPinCone d kind pin cone Near name) (whole : AreBack d kind cone Near name) where
    -- the walk of a path
    record IsPathWalk (path : List Named) (s : ℤ) : Type 0 where
      walk : Walk
      its : IsWalk cone walk
      low : walk.slack ≤ℤ s
      course : IsWalkCourse d kind pin cone Near name walk
      names : names_on walk course ≡ path

    walk_from : (path : List Named) (test : Test) (s : ℤ) → ends_at pin path ≡ true → Contains (path_slacks d kind path) (test, s) → IsPathWalk path s
    walk_from path test s e c =
        let f = found_of d t kind path (test, s) c in
        let u = walk_of_course d kind pin cone Near name is f.edge f.launch f.time f.post f.rest (course_found d t kind pin path (test, s) e f) test s f.slack_in whole in
        let v = course_of d kind pin cone Near name is u.walk u.is in
        let heads = cons_same v.launch.node u.place v.more u.more (sym v.nodes ∙ u.nodes) in
        let first = heads.0 in
        let more = heads.1 in
        let its = u.its in
        let names = u.names in
        record {
          walk = u.walk;
          its = u.is;
          low = u.low;
          course = v;
          names = (λ i. begin_names d (name (first i)) ++ map name (more i)) ∙ (λ i. begin_names d (its i) ++ names i) ∙ sym f.nodes;
        }

    slack_from : (path : List Named) (s : ℤ) (p : IsPathWalk path s) → IsPathSlack d kind path p.walk.slack
    slack_from path s p = subst (λ (xs : List Named). IsPathSlack d kind xs p.walk.slack) p.names (slack_on p.walk p.course)

module _ (g : Graphed) (num : IsNumbered g.stored) (linked : IsLinked g.stored.design) (is : IsGraph g) (t : IsTimed g.stored.design) (kind : Kind) (ends : List ℕ) (f : FanIn)
    (h : IsFanIn g kind ends f) (pin : List ℕ) (rise fall : WalkEnd) (m : IsMade g.stored kind pin f rise fall) where
  abbrev made : PinCone
  made = record { nodes = f.nodes; cone = cone_of f rise fall }

  abbrev name_at_place : ℕ → Named
  name_at_place n = place_name g.stored f.nodes n

  abbrev Near_place : ℕ → Type 0
  Near_place n = IsNodeNumber g.stored (node_of f.nodes n)

  abbrev IsCourseOf : Walk → Type 0
  IsCourseOf walk = IsWalkCourse g.stored.design kind pin (cone_of f rise fall) Near_place name_at_place walk

  abbrev IsPlaceOf : ℕ → Type 0
  IsPlaceOf n = IsPlace (cone_of f rise fall) Near_place n

  course : (walk : Walk) → IsWalk (cone_of f rise fall) walk → IsCourseOf walk
  course walk w = walk_course g num linked is t kind ends f h.part pin rise fall m walk w

  named_walk : (walk : Walk) (v : IsCourseOf walk) → walk_names_of g made walk.nodes ≡ begin_names g.stored.design (name_at_place v.launch.node) ++ map name_at_place v.more
  named_walk walk v = ap (walk_names_of g made) v.nodes

  -- a name is of one place
  name_once : (a b : ℕ) → IsPlaceOf a → IsPlaceOf b → name_at_place a ≡ name_at_place b → a ≡ b
  name_once a b p q e =
      let one = named_agree g.stored num linked (node_of f.nodes a) (node_of f.nodes b) p.1 q.1 in
      let itself = named_agree g.stored num linked (node_of f.nodes a) (node_of f.nodes a) p.1 p.1 in
      let tied : nat_cmp (place_rank g.stored f.nodes a) (place_rank g.stored f.nodes b) ≡ Equal =
      one ∙ ap (named_cmp (name_at_place a)) (sym e) ∙ sym itself ∙ tied_itself nat_cmp_total (place_rank g.stored f.nodes a) in
      let number : node_of f.nodes a ≡ node_of f.nodes b =
      rank_once g.stored (node_of f.nodes a) (node_of f.nodes b) (number_low g.stored num linked (node_of f.nodes a) p.1) (number_low g.stored num linked (node_of f.nodes b) q.1)
      (equal_told (place_rank g.stored f.nodes a) (place_rank g.stored f.nodes b) tied) in
      h.part.once a b p.0 q.0 (sym (node_of_place f.nodes a p.0) ∙ number ∙ node_of_place f.nodes b q.0)

  end_name : (tran : Tran) (node : Node) (end : WalkEnd) (e : IsEndOf g.stored kind f.nodes node end) → named node ≡ (pin, tran) → name_at_place end.node ≡ (pin, tran)
  end_name tran node end e is_named = ap (name_told g.stored) (node_of_place f.nodes end.node e.low) ∙ name_here g.stored (slice_index f.nodes end.node) node e.its ∙ is_named

  rise_name : name_at_place rise.node ≡ (pin, Rise)
  rise_name = end_name Rise m.rise_node rise m.rises m.rise_is

  fall_name : name_at_place fall.node ≡ (pin, Fall)
  fall_name = end_name Fall m.fall_node fall m.falls m.fall_is

  not_both : name_at_place rise.node ≡ name_at_place fall.node → ⊥
  not_both e =
      let trans : Rise ≡ Fall = ap (λ (n : Named). n.1) (sym rise_name ∙ e ∙ fall_name) in
      cc

  -- an end is at one place, and at each of its nodes one launch
  end_once : (i j : ℕ) (a b : WalkEnd) → slice_get (rise ∷ fall ∷ []) i ≡ Some a → slice_get (rise ∷ fall ∷ []) j ≡ Some b → name_at_place a.node ≡ name_at_place b.node → i ≡ j
  end_once zero zero a b x y e = refl
  end_once zero (suc zero) a b x y e =
      let one : rise ≡ a = some_is x in
      let other : fall ≡ b = some_is y in
      absurd (not_both (ap (λ (w : WalkEnd). name_at_place w.node) one ∙ e ∙ ap (λ (w : WalkEnd). name_at_place w.node) (sym other)))
  end_once zero (suc (suc j)) a b x y e = absurd (cc)
  end_once (suc zero) zero a b x y e =
      let one : fall ≡ a = some_is x in
      let other : rise ≡ b = some_is y in
      absurd (not_both (ap (λ (w : WalkEnd). name_at_place w.node) other ∙ sym e ∙ ap (λ (w : WalkEnd). name_at_place w.node) (sym one)))
  end_once (suc zero) (suc zero) a b x y e = refl
  end_once (suc zero) (suc (suc j)) a b x y e = absurd (cc)
  end_once (suc (suc i)) j a b x y e = absurd (cc)

  abbrev HasOnce : WalkEnd → Type 0
  HasOnce end = (i j : ℕ) (a b : Launch) → slice_get end.launches i ≡ Some a → slice_get end.launches j ≡ Some b → a.node ≡ b.node → i ≡ j

  launches_once : (k : ℕ) (end : WalkEnd) → slice_get (rise ∷ fall ∷ []) k ≡ Some end → HasOnce end
  launches_once zero end at = subst HasOnce (some_is at) m.rises.offers.once
  launches_once (suc zero) end at = subst HasOnce (some_is at) m.falls.offers.once
  launches_once (suc (suc k)) end at = absurd (cc)

  sound_in : (walk : Walk) → IsWalk (cone_of f rise fall) walk → IsRanked g.stored.design kind pin (ranked_walk g made walk)
  sound_in walk w = by (course walk w)
    where
      by : IsCourseOf walk → IsRanked g.stored.design kind pin (ranked_walk g made walk)
      by v = (
        ap (ends_at pin) (named_walk walk v) ∙ ends_on g.stored.design t kind pin (cone_of f rise fall) Near_place name_at_place walk v,
        subst (λ (xs : List Named). IsPathSlack g.stored.design kind xs walk.slack) (sym (named_walk walk v))
            (slack_on g.stored.design t kind pin (cone_of f rise fall) Near_place name_at_place walk v),
      )

  abbrev IsWalkOf : List Named → ℤ → Type 0
  IsWalkOf path s = IsPathWalk g.stored.design t kind pin (cone_of f rise fall) Near_place name_at_place (pin_cone g num linked is t kind ends f h.part pin rise fall m)
      (all_back g num linked is t kind ends f h.part pin rise fall m h.closed) path s

  walk_in : (path : List Named) (test : Test) (s : ℤ) → ends_at pin path ≡ true → Contains (path_slacks g.stored.design kind path) (test, s) → IsWalkOf path s
  walk_in path test s e c =
      walk_from g.stored.design t kind pin (cone_of f rise fall) Near_place name_at_place (pin_cone g num linked is t kind ends f h.part pin rise fall m)
      (all_back g num linked is t kind ends f h.part pin rise fall m h.closed) path test s e c

  slack_in : (path : List Named) (s : ℤ) (p : IsWalkOf path s) → IsPathSlack g.stored.design kind path p.walk.slack
  slack_in path s p =
      slack_from g.stored.design t kind pin (cone_of f rise fall) Near_place name_at_place (pin_cone g num linked is t kind ends f h.part pin rise fall m)
      (all_back g num linked is t kind ends f h.part pin rise fall m h.closed) path s p

  whole_in : (r : Ranked) → IsRanked g.stored.design kind pin r → (walk : Walk) × IsWalk (cone_of f rise fall) walk × (ranked_walk g made walk ≡ r)
  whole_in r (e, (some, least)) = by (walk_in r.1 some.0 r.0 e some.1)
    where
      by : IsWalkOf r.1 r.0 → (walk : Walk) × IsWalk (cone_of f rise fall) walk × (ranked_walk g made walk ≡ r)
      by p =
          let k = slack_in r.1 r.0 p in
          let names : walk_names_of g made p.walk.nodes ≡ r.1 = named_walk p.walk p.course ∙ p.names in
          let slack : p.walk.slack ≡ r.0 = both_ways p.walk.slack r.0 p.low (least k.0.0 p.walk.slack k.0.1) in
          (p.walk, p.its, λ i. (slack i, names i))

  least_in : (path : List Named) (test : Test) (s : ℤ) → ends_at pin path ≡ true → Contains (path_slacks g.stored.design kind path) (test, s)
      → (u : ℤ) × IsPathSlack g.stored.design kind path u × (u ≤ℤ s)
  least_in path test s e c = let p = walk_in path test s e c in (p.walk.slack, slack_in path s p, p.low)

  order_in : (a b : Walk) → IsWalk (cone_of f rise fall) a → IsWalk (cone_of f rise fall) b
      → path_before (ranked_walk g made a) (ranked_walk g made b) ≡ walk_before (place_rank g.stored f.nodes) (places_before g f.nodes) a b
  order_in a b x y = by (course a x) (course b y)
    where
      by : IsCourseOf a → IsCourseOf b → path_before (ranked_walk g made a) (ranked_walk g made b) ≡ walk_before (place_rank g.stored f.nodes) (places_before g f.nodes) a b
      by v w =
          let one = named_walk a v in
          let other = named_walk b w in
          let here = sym v.nodes in
          let there = sym w.nodes in
          let agree : nodes_cmp (walk_names_of g made a.nodes) (walk_names_of g made b.nodes)
          ≡ slice_cmp nat_cmp (ranks_along (place_rank g.stored f.nodes) (places_before g f.nodes) a) (ranks_along (place_rank g.stored f.nodes) (places_before g f.nodes) b) =
          (λ i. nodes_cmp (one i) (other i))
          ∙ sym (walks_agree g.stored.design (data_split kind) (cone_of f rise fall) Near_place Near_place name_at_place (place_rank g.stored f.nodes) (places_before g f.nodes)
          (naming g num linked is t kind ends f h.part pin rise fall m) v.launch.node w.launch.node v.more w.more (v.place.low, v.place.near) (w.place.low, w.place.near) v.known w.known
          v.place.offer.edge v.place.offer.time v.place.offer.launched w.place.offer.edge w.place.offer.time w.place.offer.launched)
          ∙ (λ i. slice_cmp nat_cmp (map (place_rank g.stored f.nodes) (whole_list (places_before g f.nodes) (here i))) (map (place_rank g.stored f.nodes) (whole_list (places_before g f.nodes) (there i)))) in
          ap (λ (o : Ordering). is_lt (ordering_then (int_cmp a.slack b.slack) o)) agree

  apart_in : (a b : Walk) → IsWalk (cone_of f rise fall) a → IsWalk (cone_of f rise fall) b → ranked_walk g made a ≡ ranked_walk g made b → a ≡ b
  apart_in a b x y e = by (course a x) (course b y)
    where
      by : IsCourseOf a → IsCourseOf b → a ≡ b
      by v w =
          let slack : a.slack ≡ b.slack = ap (λ (r : Ranked). r.0) e in
          let names : walk_names_of g made a.nodes ≡ walk_names_of g made b.nodes = ap (λ (r : Ranked). r.1) e in
          let paths : begin_names g.stored.design (name_at_place v.launch.node) ++ map name_at_place v.more ≡ begin_names g.stored.design (name_at_place w.launch.node) ++ map name_at_place w.more =
          sym (named_walk a v) ∙ names ∙ named_walk b w in
          let first : name_at_place v.launch.node ≡ name_at_place w.launch.node =
          launch_once g.stored.design t (data_split kind) v.place.offer.edge w.place.offer.edge (name_at_place v.launch.node) (name_at_place w.launch.node) v.place.offer.time w.place.offer.time
          v.place.offer.launched w.place.offer.launched (map name_at_place v.more) (map name_at_place w.more) v.rest w.rest v.course.tail w.course.tail paths in
          let post : map name_at_place v.more ≡ map name_at_place w.more =
          append_same (begin_names g.stored.design (name_at_place v.launch.node)) (map name_at_place v.more) (map name_at_place w.more)
          (paths ∙ ap (λ (n : Named). begin_names g.stored.design n ++ map name_at_place w.more) (sym first)) in
          let place : v.launch.node ≡ w.launch.node = name_once v.launch.node w.launch.node (v.place.low, v.place.near) (w.place.low, w.place.near) first in
          let more : v.more ≡ w.more = listed_once IsPlaceOf name_at_place name_once v.more w.more v.known w.known post in
          let nodes : a.nodes ≡ b.nodes = v.nodes ∙ (λ i. place i ∷ more i) ∙ sym w.nodes in
          let last : name_at_place v.end.node ≡ name_at_place w.end.node = sym v.last ∙ (λ i. last_of (first i) (post i)) ∙ w.last in
          let at : a.end ≡ b.end = end_once a.end b.end v.end w.end v.end_at w.end_at last in
          let end : v.end ≡ w.end = some_is (sym v.end_at ∙ ap (slice_get (rise ∷ fall ∷ [])) at ∙ w.end_at) in
          let launch : a.launch ≡ b.launch =
          launches_once a.end v.end v.end_at a.launch b.launch v.launch w.launch v.launch_at
          (subst (λ (z : WalkEnd). slice_get z.launches b.launch ≡ Some w.launch) (sym end) w.launch_at) place in
          let walk_of : ℤ → ℕ → ℕ → List ℕ → Walk = λ s l k ns. record { slack = s; launch = l; end = k; nodes = ns } in
          λ i. walk_of (slack i) (launch i) (at i) (nodes i)

  pub walk_paths : AreWalkPaths g kind pin made
  walk_paths = record { sound = sound_in; whole = whole_in; least = least_in; order = order_in; apart = apart_in }
