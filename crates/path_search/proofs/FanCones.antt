-- A part of the fan-in of a pin's nodes with their launches is a cone of paths to the pin.

use Rattle.std.proofs.Common.{◌≡◌, ℕ, zero, suc, ◌+◌, ◌<◌, ℤ, Bool, true, false, List, [], ◌∷◌, ◌++◌, map, length, get_or, Option, Some, None, refl, sym, ap, subst, ◌∙◌, inl, inr, arith}
use Rattle.std.specs.Prelude.{All, Contains, ◌==◌, ◌||◌, if◌then◌else◌, slice_get, slice_index, option_map, option_and_then}
use Rattle.std.specs.List.{list_any}
use Rattle.std.specs.Option.{option_map_or}
use Rattle.std.specs.Str.{bytes_eq}
use Rattle.std.proofs.lemmas.Bool.{cases_Bool, or_cases, eqb-true, false≢true}
use Rattle.std.proofs.lemmas.Int.{ints}
use Rattle.std.proofs.lemmas.List.Elements.{All-head, All-tail, All-cons, All-nil, Contains-get_or}
use Rattle.std.proofs.lemmas.Option.{slice_get_within, get_or_from_slice_get, slice_get-get_or}
use Rattle.timing_defs.specs.declared.kinds.Split.{Split}
use Rattle.timing_defs.specs.declared.kinds.Kind.{Kind}
use Rattle.timing_defs.specs.declared.kinds.Kind.TheVariants.{Setup, Hold}
use Rattle.timing_defs.specs.declared.kinds.Tran.{Tran}
use Rattle.timing_defs.specs.declared.kinds.Tran.TheVariants.{Rise, Fall}
use Rattle.timing_defs.specs.declared.design.Design.{Design}
use Rattle.timing_defs.specs.Netlist.{Node, pins, same_node}
use Rattle.timing_rules.specs.Clocking.{is_network}
use Rattle.timing_rules.specs.Rows.{arcs_in, delay}
use Rattle.timing_defs.specs.Kinds.{data_split}
use Rattle.timing_rules.specs.Paths.{Named, named, is_network_named, arc_delay, node_named, delay_between as named_delay}
use Rattle.netlist_store.specs.Linked.{IsLinked}
use Rattle.netlist_store.specs.Numbering.{Stored, IsNumbered}
use Rattle.pin_graph.specs.Nodes.{node_at, node_bound, node_number, pin_under}
use Rattle.pin_graph.specs.Graphs.{Graphed, IsGraph, level_at, network_at}
use Rattle.store_pins.proofs.PinLaws.{pin_told}
use Rattle.pin_graph.proofs.NodeLaws.{has_node, node_told, node_below}
use Rattle.timing_defs.proofs.Members.{some_is, first_in}
use Rattle.pin_graph.proofs.JoinLaws.{then_back, mapped_back, unless_some}
use Rattle.timing_defs.proofs.SameNames.{same_is, same_self}
use Rattle.node_tests.proofs.ClimbLaws.{node_pin}
use Rattle.worst_walks.specs.declared.cones.WalkArc.{WalkArc}
use Rattle.worst_walks.specs.declared.cones.Launch.{Launch}
use Rattle.worst_walks.specs.declared.cones.WalkEnd.{WalkEnd}
use Rattle.worst_walks.specs.declared.cones.Cone.{Cone}
use Rattle.worst_walks.specs.declared.cones.Walk.{Walk}
use Rattle.worst_walks.specs.Walks.{arcs_into, delay_in, delay_between, is_first, is_launched, listed_into, IsCone, IsEnd, IsLaunch, IsOrdered, IsWalk}
use Rattle.path_cones.specs.declared.fans.FanIn.{FanIn}
use Rattle.path_cones.specs.Delays.{arc_numbered, followed_delay, signed as turned}
use Rattle.path_cones.specs.FanIns.{IsFanPart, IsFromAbove, IsWhole, part_at}
use Rattle.path_cones.proofs.Growing.{place_of}
use Rattle.path_search.specs.Launches.{IsLaunched, begin_names, launch_slacks, signed}
use Rattle.path_search.specs.Offers.{IsOffer, AreOffers}
use Rattle.path_search.specs.Ranks.{node_of, place_rank, places_before, climb}
use Rattle.path_search.specs.PinCones.{cone_of, name_told, IsEndOf, IsMade}
use Rattle.path_search.specs.Runs.{IsTimed}
use Rattle.path_search.proofs.NodeNames.{named_back, name_told as node_of_name, network_of, joined_back}
use Rattle.path_search.proofs.NumberNames.{name_here, node_of_place, node_of_more, IsNodeNumber, named_agree, rank_once}
use Rattle.path_search.proofs.ClimbNames.{launch_alone, launch_names, climb_known}
use Rattle.path_search.proofs.RankLaws.{Each}
use Rattle.path_search.proofs.ConeTails.{AreBack, IsStep, IsBack}
use Rattle.path_search.proofs.ConeCourses.{IsPinEnd, IsEndAt, IsPinCone, IsWalkCourse, IsNaming, course_of}
use Rattle.path_cones.proofs.ConeLaws.{among_at}

pub turned_same : (kind : Kind) (x : ℤ) → turned kind x ≡ signed kind x
turned_same Setup x = refl
turned_same Hold x = omega (arith, ints)

-- an arc that a delay is found by
found_arc : (P : WalkArc → Type 0) (arcs : List WalkArc) (n : ℕ) (v : ℤ) → All P arcs → delay_in arcs n ≡ Some v → (arc : WalkArc) × P arc × (arc.from ≡ n)
found_arc P [] n v all e = absurd (cc)
found_arc P (arc ∷ arcs) n v all e = elim (cases_Bool (arc.from == n)) [
  | inl same ↦ (arc, All-head P arc arcs all, eqb-true arc.from n same)
  | inr other ↦ found_arc P arcs n v (All-tail P arc arcs all) (sym (ap (λ (b : Bool). if b then Some arc.delay else delay_in arcs n) other) ∙ e)
]

launched_at : (launches : List Launch) (n : ℕ) → is_launched launches n ≡ true → (launch : Launch) × Contains launches launch × (launch.node ≡ n)
launched_at [] n e = absurd (false≢true e)
launched_at (launch ∷ launches) n e = elim (or_cases (launch.node == n) (is_launched launches n) e) [
  | inl same ↦ (launch, first_in launch launches, eqb-true launch.node n same)
  | inr later ↦ let r = launched_at launches n later in (r.0, later_launch launch launches r.0 r.1, r.2)
]
  where
    later_launch : (l : Launch) (ls : List Launch) (m : Launch) → Contains ls m → Contains (l ∷ ls) m
    later_launch l ls m c = let low = c.1 in (suc c.0, omega arith, c.2)

-- no arc with a delay leads to a node that none enters
nothing_enters : (d : Design) (split : Split) (to : Node) → arcs_in d to ≡ [] → (o : Option Node) → option_and_then (λ a. arc_delay d split a to) o ≡ None
nothing_enters d split to e None = refl
nothing_enters d split to e (Some a) = ap (λ (xs : List Node). if list_any (same_node a) xs then delay d split a to else None) e

pub in_list : {X : Type 0} (xs : List X) (i : ℕ) (x : X) → slice_get xs i ≡ Some x → Contains xs x
in_list xs i x e = (i, slice_get_within xs i x e, get_or_from_slice_get xs i x x e)

at_list : {X : Type 0} (xs : List X) (x : X) → Contains xs x → (i : ℕ) × (slice_get xs i ≡ Some x)
at_list xs x c = (c.0, slice_get-get_or xs c.0 x c.1 ∙ ap Some c.2)

launches_fine : (cone : Cone) (launches : List Launch) → ((launch : Launch) → Contains launches launch → IsLaunch cone launch) → All (IsLaunch cone) launches
launches_fine cone launches h = λ k d low. h (get_or launches k d) (Contains-get_or launches k d low)

-- the numbers past the places of a list of nodes
names_past : (s : Stored) (nodes ks : List ℕ) → map (λ n. name_told s (node_of nodes n)) (map (λ k. length nodes + k) ks) ≡ map (name_told s) ks
names_past s nodes [] = refl
names_past s nodes (k ∷ ks) =
    let first = node_of_more nodes k in
    let rest = names_past s nodes ks in
    λ i. name_told s (first i) ∷ rest i

known_past : (s : Stored) (nodes ks : List ℕ) → Each (IsNodeNumber s) ks → Each (λ n. IsNodeNumber s (node_of nodes n)) (map (λ k. length nodes + k) ks)
known_past s nodes [] e = tt
known_past s nodes (k ∷ ks) e = (subst (IsNodeNumber s) (sym (node_of_more nodes k)) e.0, known_past s nodes ks e.1)

module _ (g : Graphed) (num : IsNumbered g.stored) (linked : IsLinked g.stored.design) (is : IsGraph g) (t : IsTimed g.stored.design) where
  pub network_here : (k : ℕ) (node : Node) → node_at g.stored k ≡ Some node → network_at g k ≡ is_network g.stored.design node.pin
  network_here k node e =
      let low = node_below g.stored node k (has_node g.stored num linked k node e) in
      is.network.each (pin_under k) (omega arith) ∙ ap (λ o. option_map_or (is_network g.stored.design) o false) (node_pin g.stored k node e).0

  pub inside : (k : ℕ) (node : Node) → node_at g.stored k ≡ Some node → Contains (pins g.stored.design) node.pin
  inside k node e = (has_node g.stored num linked k node e).has.within

  pub delay_named : (split : Split) (a b : ℕ) (x y : Node) → node_at g.stored a ≡ Some x → node_at g.stored b ≡ Some y
      → named_delay g.stored.design split (named x) (named y) ≡ arc_delay g.stored.design split x y
  delay_named split a b x y e f =
      ap (option_and_then (λ n. option_and_then (arc_delay g.stored.design split n) (node_named g.stored.design (named y)))) (named_back g.stored.design t x (inside a x e))
      ∙ ap (option_and_then (arc_delay g.stored.design split x)) (named_back g.stored.design t y (inside b y f))

  -- nothing is followed into a launch node
  launch_entered : (kind : Kind) (split : Split) (edge : ℕ × Tran) (time : ℤ) (k : ℕ) (node : Node) → node_at g.stored k ≡ Some node → IsLaunched g.stored.design split edge (named node) time
      → (x : ℕ) → followed_delay g kind x k ≡ None
  launch_entered kind split edge time k node e l x = elim (cases_Bool (network_at g k)) [
    | inl net ↦ ap (λ (b : Bool). if b then None else option_map (turned kind) (arc_numbered g.stored (data_split kind) x k)) net
    | inr out ↦
        let none = launch_alone g is num linked t split edge time k node e (sym (network_here k node e) ∙ out) l in
        ap (λ (b : Bool). if b then None else option_map (turned kind) (arc_numbered g.stored (data_split kind) x k)) out
        ∙ ap (λ (o : Option Node). option_map (turned kind) (option_and_then (λ a. option_and_then (arc_delay g.stored.design (data_split kind) a) o) (node_at g.stored x))) e
        ∙ ap (option_map (turned kind)) (nothing_enters g.stored.design (data_split kind) node none (node_at g.stored x))
  ]

  module _ (kind : Kind) (ends : List ℕ) (f : FanIn) (h : IsFanPart g kind ends f) (pin : List ℕ) (rise fall : WalkEnd) (m : IsMade g.stored kind pin f rise fall) where
    -- the names of places and of the numbers after them
    abbrev pub name_in : ℕ → Named
    name_in n = name_told g.stored (node_of f.nodes n)

    abbrev pub Near_in : ℕ → Type 0
    Near_in n = IsNodeNumber g.stored (node_of f.nodes n)

    near_at : (n : ℕ) → n < length f.nodes → (node : Node) → node_at g.stored (slice_index f.nodes n) ≡ Some node → Near_in n
    near_at n low node e = record { node = node; its = ap (node_at g.stored) (node_of_place f.nodes n low) ∙ e }

    pub its_node : (n : ℕ) → n < length f.nodes → (near : Near_in n) → node_at g.stored (slice_index f.nodes n) ≡ Some near.node
    its_node n low near = ap (node_at g.stored) (sym (node_of_place f.nodes n low)) ∙ near.its

    name_at_place : (n : ℕ) → n < length f.nodes → (node : Node) → node_at g.stored (slice_index f.nodes n) ≡ Some node → name_in n ≡ named node
    name_at_place n low node e = ap (name_told g.stored) (node_of_place f.nodes n low) ∙ name_here g.stored (slice_index f.nodes n) node e

    first_entered : (b x : ℕ) → is_first (cone_of f rise fall) b ≡ true → followed_delay g kind x (slice_index f.nodes b) ≡ None
    first_entered b x e = elim (or_cases (is_launched rise.launches b) (is_launched fall.launches b || false) e) [
      | inl r ↦ by (named m.rise_node) rise.launches m.rises.offers r
      | inr l ↦ elim (or_cases (is_launched fall.launches b) false l) [
        | inl r ↦ by (named m.fall_node) fall.launches m.falls.offers r
        | inr none ↦ absurd (false≢true none)
      ]
    ]
      where
        by : (end : Named) (launches : List Launch) → AreOffers g.stored kind f.nodes end launches → is_launched launches b ≡ true
            → followed_delay g kind x (slice_index f.nodes b) ≡ None
        by end launches offers r =
            let l = launched_at launches b r in
            let o = offers.sound l.0 l.1 in
            let none : followed_delay g kind x (slice_index f.nodes l.0.node) ≡ None =
            launch_entered kind (data_split kind) o.offer.edge o.offer.time (slice_index f.nodes l.0.node) o.node o.its o.offer.launched x in
            subst (λ n. followed_delay g kind x (slice_index f.nodes n) ≡ None) l.2 none

    pub delay_told : (a b : ℕ) → a < length f.nodes → b < length f.nodes
        → delay_between (cone_of f rise fall) a b ≡ followed_delay g kind (slice_index f.nodes a) (slice_index f.nodes b)
    unfolding arcs_into
    delay_told a b low high = elim (cases_Bool (is_first (cone_of f rise fall) b)) [
      | inl first ↦
          ap (λ (c : Bool). delay_in (if c then [] else listed_into (cone_of f rise fall) b) a) first ∙ sym (first_entered b (slice_index f.nodes a) first)
      | inr other ↦ ap (λ (c : Bool). delay_in (if c then [] else listed_into (cone_of f rise fall) b) a) other ∙ h.delays a b low high
    ]

    from_inside : (a b : ℕ) (v : ℤ) → b < length f.nodes → delay_between (cone_of f rise fall) a b ≡ Some v → a < length f.nodes
    unfolding arcs_into
    from_inside a b v high e = elim (cases_Bool (is_first (cone_of f rise fall) b)) [
      | inl first ↦
          let none : None ≡ Some v = sym (ap (λ (c : Bool). delay_in (if c then [] else listed_into (cone_of f rise fall) b) a) first) ∙ e in
          absurd (cc)
      | inr other ↦
          let r = found_arc (IsFromAbove (length f.nodes) b) (part_at f.starts f.arcs b) a v (h.above b high)
          (sym (ap (λ (c : Bool). delay_in (if c then [] else listed_into (cone_of f rise fall) b) a) other) ∙ e) in
          subst (λ n. n < length f.nodes) r.2 r.1.1
    ]

    steps_forth : (a b : ℕ) (v : ℤ) → b < length f.nodes → delay_between (cone_of f rise fall) a b ≡ Some v
        → (a < length f.nodes) × Near_in a × Near_in b × IsStep g.stored.design kind (name_in a) (name_in b) v
    steps_forth a b v high e =
        let low = from_inside a b v high e in
        let u = unless_some (network_at g (slice_index f.nodes b)) (option_map (turned kind) (arc_numbered g.stored (data_split kind) (slice_index f.nodes a) (slice_index f.nodes b))) v
        (sym (delay_told a b low high) ∙ e) in
        let k = mapped_back (turned kind) (arc_numbered g.stored (data_split kind) (slice_index f.nodes a) (slice_index f.nodes b)) v u.1 in
        let x = then_back (λ n. option_and_then (arc_delay g.stored.design (data_split kind) n) (node_at g.stored (slice_index f.nodes b)))
        (node_at g.stored (slice_index f.nodes a)) k.0 k.1 in
        let y = then_back (arc_delay g.stored.design (data_split kind) x.0) (node_at g.stored (slice_index f.nodes b)) k.0 x.2 in
        let one = name_at_place a low x.0 x.1 in
        let two = name_at_place b high y.0 y.1 in (
          low,
          near_at a low x.0 x.1,
          near_at b high y.0 y.1,
          record {
            outside =
                ap (is_network_named g.stored.design) two ∙ network_of g.stored.design t y.0 (inside (slice_index f.nodes b) y.0 y.1)
                ∙ sym (network_here (slice_index f.nodes b) y.0 y.1) ∙ u.0;
            delay = k.0;
            takes =
                (λ i. named_delay g.stored.design (data_split kind) (one i) (two i))
                ∙ delay_named (data_split kind) (slice_index f.nodes a) (slice_index f.nodes b) x.0 y.0 x.1 y.1 ∙ y.2;
            sign = sym (turned_same kind k.0) ∙ k.2;
          },
        )

    steps_back : IsWhole g kind f → (b : ℕ) → b < length f.nodes → Near_in b → is_network_named g.stored.design (name_in b) ≡ false → (n : Named) (time : ℤ)
        → named_delay g.stored.design (data_split kind) n (name_in b) ≡ Some time → IsBack kind (cone_of f rise fall) Near_in name_in n b time
    steps_back closed b high near out n time e =
        let y = its_node b high near in
        let two = name_at_place b high near.node y in
        let j = joined_back g.stored.design t (data_split kind) n (name_in b) time e in
        let from = node_of_name g.stored.design t n j.from j.from_named in
        let p = pin_told g.stored num linked j.from.pin from.0 in
        let k : ℕ = node_number p.0 j.from.tran in
        let x : node_at g.stored k ≡ Some j.from = node_told g.stored j.from k (record { pin = p.0; has = p.1; number = refl }) in
        let name = from.1 in
        let arc : arc_delay g.stored.design (data_split kind) j.from near.node ≡ Some time =
        sym (delay_named (data_split kind) k (slice_index f.nodes b) j.from near.node x y)
        ∙ (λ i. named_delay g.stored.design (data_split kind) (name i) (sym two i)) ∙ e in
        let off : network_at g (slice_index f.nodes b) ≡ false =
        network_here (slice_index f.nodes b) near.node y ∙ sym (network_of g.stored.design t near.node (inside (slice_index f.nodes b) near.node y))
        ∙ ap (is_network_named g.stored.design) (sym two) ∙ out in
        let follows : followed_delay g kind k (slice_index f.nodes b) ≡ Some (signed kind time) =
        ap (λ (c : Bool). if c then None else option_map (turned kind) (arc_numbered g.stored (data_split kind) k (slice_index f.nodes b))) off
        ∙ ap (λ o. option_map (turned kind) (option_and_then (λ a. option_and_then (arc_delay g.stored.design (data_split kind) a) (node_at g.stored (slice_index f.nodes b))) o)) x
        ∙ ap (λ o. option_map (turned kind) (option_and_then (arc_delay g.stored.design (data_split kind) j.from) o)) y
        ∙ ap (option_map (turned kind)) arc
        ∙ ap Some (turned_same kind time) in
        let q = place_of f.nodes k (closed k b (signed kind time) high follows) in
        let there : node_at g.stored (slice_index f.nodes q.0) ≡ Some j.from = ap (node_at g.stored) q.2 ∙ x in
        record {
          place = q.0;
          low = q.1;
          near = near_at q.0 q.1 j.from there;
          its = name_at_place q.0 q.1 j.from there ∙ name;
          arc = delay_told q.0 b q.1 high ∙ ap (λ i. followed_delay g kind i (slice_index f.nodes b)) q.2 ∙ follows;
        }

    -- the arcs of a whole fan-in are all those outside the clock network
    pub all_back : IsWhole g kind f → AreBack g.stored.design kind (cone_of f rise fall) Near_in name_in
    all_back closed = record { back = steps_back closed }

    pin_end : (tran : Tran) (node : Node) (end : WalkEnd) (e : IsEndOf g.stored kind f.nodes node end) → named node ≡ (pin, tran) → IsPinEnd g.stored.design kind pin (cone_of f rise fall) Near_in name_in end
    pin_end tran node end e is_named =
        let name = name_at_place end.node e.low node e.its in
        record {
          low = e.low;
          near = near_at end.node e.low node e.its;
          aims = ap (λ (n : Named). bytes_eq n.0 pin) (name ∙ is_named) ∙ same_self pin;
          sound = λ i launch at.
              (let o = e.offers.sound launch (in_list end.launches i launch at) in
              let first = name_at_place launch.node o.low o.node o.its in
              record {
                low = o.low;
                near = near_at launch.node o.low o.node o.its;
                offer =
                    subst (λ (n : Named). IsOffer g.stored.design kind n (name_in end.node) launch.offer) (sym first)
                    (subst (λ (n : Named). IsOffer g.stored.design kind (named o.node) n launch.offer) (sym name) o.offer);
                bounded = o.bounded;
              });
          all = λ place low near edge time launched some.
              (let y = its_node place low near in
              let first = name_at_place place low near.node y in
              let o = e.offers.all place near.node low y edge time (subst (λ (n : Named). IsLaunched g.stored.design (data_split kind) edge n time) first launched)
              (λ none. some ((λ i. launch_slacks g.stored.design kind (first i) edge time (name i)) ∙ none)) in
              let at = at_list end.launches (record { node = place; offer = o.0 }) o.1 in
              record { at = at.0; launch = record { node = place; offer = o.0 }; there = at.1; node = refl });
        }

    end_at : (n : Named) → bytes_eq n.0 pin ≡ true → IsEndAt (cone_of f rise fall) name_in n
    end_at n e = by n.1 refl
      where
        pin_is : n.0 ≡ pin
        pin_is = same_is n.0 pin e

        by : (tran : Tran) → n.1 ≡ tran → IsEndAt (cone_of f rise fall) name_in n
        by Rise at =
            let back = sym pin_is in
            let turn = sym at in
            record { at = 0; end = rise; there = refl; its = name_at_place rise.node m.rises.low m.rise_node m.rises.its ∙ m.rise_is ∙ (λ i. (back i, turn i)) }
        by Fall at =
            let back = sym pin_is in
            let turn = sym at in
            record { at = 1; end = fall; there = refl; its = name_at_place fall.node m.falls.low m.fall_node m.falls.its ∙ m.fall_is ∙ (λ i. (back i, turn i)) }

    pub pin_cone : IsPinCone g.stored.design kind pin (cone_of f rise fall) Near_in name_in
    pin_cone = record {
      nodes = record { forth = steps_forth };
      ends = by;
      each = end_at;
    }
      where
        by : (k : ℕ) (end : WalkEnd) → slice_get (rise ∷ fall ∷ []) k ≡ Some end → IsPinEnd g.stored.design kind pin (cone_of f rise fall) Near_in name_in end
        by zero end at = subst (IsPinEnd g.stored.design kind pin (cone_of f rise fall) Near_in name_in) (some_is at) (pin_end Rise m.rise_node rise m.rises m.rise_is)
        by (suc zero) end at = subst (IsPinEnd g.stored.design kind pin (cone_of f rise fall) Near_in name_in) (some_is at) (pin_end Fall m.fall_node fall m.falls m.fall_is)
        by (suc (suc k)) end at = absurd (cc)

    fine_end : (node : Node) (end : WalkEnd) → IsEndOf g.stored kind f.nodes node end → IsEnd (cone_of f rise fall) end
    fine_end node end e =
        let few = h.few in
        let short = e.offers.few in
        record {
          node = e.low;
          many = omega arith;
          each = launches_fine (cone_of f rise fall) end.launches (λ launch c. let o = e.offers.sound launch c in (o.low, o.bounded));
        }

    pub cone_told : IsCone (cone_of f rise fall)
    cone_told = record {
      few = (let few = h.few in omega (arith, few));
      starts = h.starts;
      rising = h.rising;
      stored = h.stored;
      arcs = h.above;
      apart = h.apart;
      many = omega arith;
      ends = All-cons (IsEnd (cone_of f rise fall)) rise (fall ∷ []) (fine_end m.rise_node rise m.rises) (All-cons (IsEnd (cone_of f rise fall)) fall [] (fine_end m.fall_node fall m.falls) (All-nil (IsEnd (cone_of f rise fall))));
    }

    pub naming : IsNaming g.stored.design (data_split kind) (cone_of f rise fall) Near_in Near_in name_in (place_rank g.stored f.nodes) (places_before g f.nodes)
    naming = record {
      places = λ n p. p.1;
      compared = λ a b x y. named_agree g.stored num linked (node_of f.nodes a) (node_of f.nodes b) x y;
      names = λ n p edge time l.
          (let name = name_here g.stored (node_of f.nodes n) p.1.node p.1.its in
          let launched : IsLaunched g.stored.design (data_split kind) edge (named p.1.node) time = subst (λ (x : Named). IsLaunched g.stored.design (data_split kind) edge x time) name l in
          ap (λ (xs : List Named). xs ++ name_in n ∷ []) (names_past g.stored f.nodes (climb g (node_of f.nodes n)))
          ∙ ap (λ (x : Named). map (name_told g.stored) (climb g (node_of f.nodes n)) ++ x ∷ []) name
          ∙ launch_names g is num linked t (data_split kind) edge time (node_of f.nodes n) p.1.node p.1.its launched (name_told g.stored) (name_here g.stored)
          ∙ ap (begin_names g.stored.design) (sym name));
      known = λ n p.
          known_past g.stored f.nodes (climb g (node_of f.nodes n))
          (climb_known g is num linked t (suc (level_at g (node_of f.nodes n))) (node_of f.nodes n) p.1.node (omega arith) p.1.its);
    }

    node_low : (n : ℕ) → n < length f.nodes → node_of f.nodes n < node_bound g.stored
    node_low n low = subst (λ k. k < node_bound g.stored) (sym (node_of_place f.nodes n low)) (h.below (slice_index f.nodes n) (among_at f.nodes n low))

    pub ordered : IsOrdered (cone_of f rise fall) (length f.nodes + node_bound g.stored) (place_rank g.stored f.nodes)
    ordered = record {
      known = omega arith;
      ranked = λ n a b low high to by e. h.once a b low high
          (sym (node_of_place f.nodes a low) ∙ rank_once g.stored (node_of f.nodes a) (node_of f.nodes b) (node_low a low) (node_low b high) e ∙ node_of_place f.nodes b high);
    }

    -- the course of a walk
    pub walk_course : (walk : Walk) → IsWalk (cone_of f rise fall) walk → IsWalkCourse g.stored.design kind pin (cone_of f rise fall) Near_in name_in walk
    walk_course walk w = course_of g.stored.design kind pin (cone_of f rise fall) Near_in name_in pin_cone walk w
