-- A search with a bound in front of an end node finds the node's slack.

use Rattle.std.proofs.Common.{◌≡◌, ℕ, zero, suc, ◌+◌, ◌*◌, ◌^◌, ◌<◌, ◌≤◌, nat_lt, ℤ, pos, ◌+ℤ◌, ◌-ℤ◌, ◌≤ℤ◌, unsigned_abs, int_lt, Bool, true, false, List, [], ◌∷◌, length, get_or, Option, None, Some, refl, sym, ap, subst, ◌∙◌, inl, inr, arith}
use Rattle.std.specs.Prelude.{All, Contains, ◌==◌, nat_eq, ◌&&◌, find, option_map, option_and_then, if◌then◌else◌}
use Rattle.std.specs.List.{filter_map, list_any}
use Rattle.std.specs.Option.{option_map_or}
use Rattle.std.proofs.lemmas.Bool.{cases_Bool, cases_lt, eq-eqb, leb-true, eqb-true, lt-ltb, ltb-true, false≢true}
use Rattle.std.proofs.lemmas.Int.{ints}
use Rattle.std.proofs.lemmas.List.Elements.{All-contains, All-contains_itself, All-cons, All-head, All-nil, All-tail, All-weaker}
use Rattle.sta_units.specs.Numbers.{limit, Within}
use Rattle.timing_defs.specs.declared.edge_times.EdgeTime.{EdgeTime}
use Rattle.timing_defs.specs.declared.kinds.Kind.{Kind}
use Rattle.timing_defs.specs.declared.kinds.Kind.TheVariants.{Setup, Hold}
use Rattle.timing_defs.specs.declared.kinds.Split.{Split}
use Rattle.timing_defs.specs.declared.kinds.Split.TheVariants.{Early, Late}
use Rattle.timing_defs.specs.declared.kinds.Tran.{Tran}
use Rattle.timing_defs.specs.declared.rows.NodeRow.{NodeRow}
use Rattle.timing_defs.specs.Netlist.{Node, pins, same_tran}
use Rattle.timing_rules.specs.Paths.{named, arc_delay}
use Rattle.timing_rules.specs.Range.{within_some}
use Rattle.timing_rules.specs.Rows.{arrival, arrival_of, edge_time, empty_row, launch_edges, row}
use Rattle.timing_defs.specs.RowTimes.{plus_some, time_on, times_in}
use Rattle.timing_defs.specs.Kinds.{data_split}
use Rattle.netlist_store.specs.Linked.{IsLinked}
use Rattle.netlist_store.specs.Numbering.{IsNumbered}
use Rattle.pin_graph.specs.Nodes.{node_at, node_bound}
use Rattle.pin_graph.specs.Graphs.{Graphed, IsGraph, level_at, network_at}
use Rattle.pin_graph.specs.RowTables.{AreRowsFine, row_numbered}
use Rattle.pin_graph.proofs.JoinLaws.{then_back, mapped_back}
use Rattle.timing_defs.proofs.Members.{found_in, in_filter_map_back, some_is, none_in, any_in, in_cases}
use Rattle.arc_delays.specs.declared.tables.ArcDelay.{ArcDelay}
use Rattle.arc_delays.specs.Delays.{AreDelays}
use Rattle.worst_walks.specs.declared.cones.WalkArc.{WalkArc}
use Rattle.worst_walks.specs.Walks.{delay_in, walk_sum, AreApart}
use Rattle.path_cones.specs.Delays.{arc_numbered, followed_delay, signed as turned}
use Rattle.path_cones.specs.Following.{arcs_followed, IsFromBelow}
use Rattle.path_cones.specs.Reaching.{is_among}
use Rattle.path_cones.proofs.Followed.{are_followed}
use Rattle.path_cones.proofs.Growing.{from_low}
use Rattle.pessimism_credit.specs.declared.rows.TreeRow.{TreeRow}
use Rattle.bounded_slack.specs.Nets.{Net, IsArcInto, IsLow, IsShape, IsSlack, IsLeastSlack, lesser, minus_some, walk_slack}
use Rattle.bounded_slack.specs.Nears.{AreNear}
use Rattle.bounded_slack.specs.Rows.{IsAtLeast, IsLater, IsOffered, IsByRows, IsLowOffer, edge_in, least_room, room_on, signed as sign, signed_on}
use Rattle.path_search.specs.declared.ends.EndTest.{EndTest}
use Rattle.path_search.specs.declared.launches.LaunchNode.{LaunchNode}
use Rattle.path_search.specs.Launches.{edge_of_launch, signed}
use Rattle.path_search.specs.Lows.{low_over, low_told, lows_told}
use Rattle.path_search.specs.NearCones.{AreNearTo}
use Rattle.path_search.specs.NodeNets.{arcs_there, launch_told, net_told, offer_told, signed_arrival}
use Rattle.path_search.specs.NodeSlacks.{StandFor, IsNumberSlack}
use Rattle.path_search.specs.Runs.{IsTimed}
use Rattle.path_search.specs.Slacks.{AreEndTestsOf, IsLaunchNode, IsNodeOffer, IsReadyLaunch, IsReadyTest, MayLaunch, edge_of_node, least_slack}
use Rattle.path_search.specs.Trees.{IsClockTree}
use Rattle.path_search.proofs.EndLaws.{ready_launch, ready_tests}
use Rattle.path_search.proofs.FanCones.{inside}
use Rattle.path_search.proofs.LaunchLaws.{launched_in, times_are}
use Rattle.path_search.proofs.LowOffers.{offered_low}
use Rattle.path_search.proofs.NodeCourses.{slacks_of_node}
use Rattle.path_search.proofs.NodeLaunches.{launch_is, low_bound, offer_bound, offer_low, outer_found, told_sound}
use Rattle.path_search.proofs.OfferLaws.{its_edge, no_launch, offer_is}
use Rattle.path_search.proofs.NodeNames.{named_back}
use Rattle.path_search.proofs.PrefixSums.{arrival_is}
use Rattle.path_search.proofs.PrefixTimes.{later_along, IsFromOn}
use Rattle.path_search.proofs.Ranges.{arrivals_within}
use Rattle.path_search.proofs.TestRanges.{launch_clock}

-- signs of times
sign_same : (kind : Kind) (x : ℤ) → sign kind x ≡ signed kind x
sign_same Setup x = refl
sign_same Hold x = omega (arith, ints)

sign_on : (kind : Kind) (o : Option ℤ) → option_map (sign kind) o ≡ option_map (signed kind) o
sign_on kind None = refl
sign_on kind (Some x) = ap Some (sign_same kind x)

sign_within : (kind : Kind) (x : ℤ) → Within x → Within (sign kind x)
sign_within Setup x h = h
sign_within Hold x h = omega (arith, ints, h)

-- walks by the same delays
walk_same : (f g : ℕ → ℕ → Option ℤ) (e n : ℕ) (ms : List ℕ) → ((a b : ℕ) → f a b ≡ g a b) → walk_sum ◌==◌ f e n ms ≡ walk_sum ◌==◌ g e n ms
walk_same f g e n [] same = refl
walk_same f g e n (m ∷ ms) same =
    let first = same n m in
    let rest = walk_same f g e m ms same in
    λ k. plus_some (first k) (rest k)

record IsDifference (a b : Option ℤ) (s : ℤ) : Type 0 where
  pub left : ℤ
  pub left_is : a ≡ Some left
  pub right : ℤ
  pub right_is : b ≡ Some right
  pub both : left -ℤ right ≡ s

difference_back : (a b : Option ℤ) (s : ℤ) → minus_some a b ≡ Some s → IsDifference a b s
difference_back None b s e = absurd (cc)
difference_back (Some x) None s e = absurd (cc)
difference_back (Some x) (Some y) s e = record { left = x; left_is = refl; right = y; right_is = refl; both = (let f : x -ℤ y ≡ s = cc in f) }

turn : (a b : ℕ) → (a == b) ≡ true → (b == a) ≡ true
turn a b f = eq-eqb b a (sym (eqb-true a b f))

-- the delay of an arc of a list is found
in_delay : (arcs : List WalkArc) → AreApart arcs → (arc : WalkArc) → Contains arcs arc → delay_in arcs arc.from ≡ Some arc.delay
in_delay [] apart arc c = absurd (none_in arc c)
in_delay (first ∷ arcs) apart arc c = elim (in_cases first arcs arc c) [
  | inl same ↦
      ap (λ (x : WalkArc). delay_in (first ∷ arcs) x.from) (sym same)
      ∙ ap (λ (b : Bool). if b then Some first.delay else delay_in arcs first.from) (eq-eqb first.from first.from refl)
      ∙ ap (λ (x : WalkArc). Some x.delay) same
  | inr later ↦
      ap (λ (b : Bool). if b then Some first.delay else delay_in arcs arc.from) (other (first.from == arc.from) refl later)
      ∙ in_delay arcs apart.1 arc later
]
  where
    other : (b : Bool) → (first.from == arc.from) ≡ b → Contains arcs arc → (first.from == arc.from) ≡ false
    other false e later = e
    other true e later = absurd (false≢true (sym apart.0 ∙ any_from arcs arc later e))
      where
        any_from : (xs : List WalkArc) (x : WalkArc) → Contains xs x → (first.from == x.from) ≡ true → list_any (λ y. y.from == first.from) xs ≡ true
        any_from xs x m f = any_in (λ (y : WalkArc). y.from == first.from) xs x m (turn first.from x.from f)

-- the least of some rooms is within its limit
lesser_low : (a b : Option ℤ) → IsLow a → IsLow b → IsLow (lesser a b)
lesser_low None b p q = q
lesser_low (Some x) None p q = p
lesser_low (Some x) (Some y) p q = by (int_lt y x)
  where
    by : (t : Bool) → IsLow (if t then Some y else Some x)
    by true = q
    by false = p

minus_low : (x : ℤ) (o : Option ℤ) → unsigned_abs x ≤ 10 ^ 17 → ((y : ℤ) → o ≡ Some y → Within y) → IsLow (minus_some (Some x) o)
minus_low x None low range = tt
minus_low x (Some y) low range = let high = range y refl in omega (arith, ints, low, high)

least_room_low : (time : ℕ × Tran → Option ℤ) (lows : List EdgeTime) (least : Option ℤ) → All IsLowOffer lows
    → ((edge : ℕ × Tran) (y : ℤ) → time edge ≡ Some y → Within y) → IsLow least → IsLow (least_room time least lows)
least_room_low time [] least all range low = low
least_room_low time (first ∷ lows) least all range low =
    least_room_low time lows (lesser least (room_on time first)) (All-tail IsLowOffer first lows all) range
    (lesser_low least (room_on time first) low (minus_low first.time.0 (time (edge_in first)) (All-head IsLowOffer first lows all) (range (edge_in first))))

empty_times : (split : Split) → times_in split empty_row ≡ []
empty_times Early = refl
empty_times Late = refl

-- nothing is followed into a number without a node
gone : (g : Graphed) (kind : Kind) (c : Bool) (x : Option Node)
    → (if c then None else option_map (turned kind) (option_and_then (λ y. option_and_then (arc_delay g.stored.design (data_split kind) y) None) x)) ≡ None
gone g kind true x = refl
gone g kind false None = refl
gone g kind false (Some y) = refl

module _ (g : Graphed) (num : IsNumbered g.stored) (linked : IsLinked g.stored.design) (is : IsGraph g) (t : IsTimed g.stored.design) (fine : AreRowsFine g.stored.design) (kind : Kind) where
  time_within : (n : ℕ) (node : Node) → node_at g.stored n ≡ Some node → (x : EdgeTime)
      → Contains (filter_map (λ edge. option_map (edge_time edge) (arrival_of g.stored.design (data_split kind) (row g.stored.design) node edge)) (launch_edges g.stored.design)) x
      → Within x.time.0
  time_within n node e x c =
      let r = in_filter_map_back (λ edge. option_map (edge_time edge) (arrival_of g.stored.design (data_split kind) (row g.stored.design) node edge)) (launch_edges g.stored.design) x c in
      let k = mapped_back (edge_time r.item) (arrival_of g.stored.design (data_split kind) (row g.stored.design) node r.item) x r.same in
      let within = inside g num linked is t n node e in
      let range = arrivals_within g num linked is fine (data_split kind) node within r.item r.within in
      let told : arrival g.stored.design (data_split kind) node r.item ≡ Some k.0 = arrival_is g.stored.design t (data_split kind) r.item r.within node within ∙ k.1 in
      subst (λ (y : EdgeTime). Within y.time.0) k.2 (leb-true (unsigned_abs k.0) limit (sym (ap within_some told) ∙ range))

  -- the times of a row are within their limits
  pub times_fine : (n : ℕ) → All (λ (x : EdgeTime). Within x.time.0) (times_in (data_split kind) (row_numbered g.stored n))
  times_fine n = by (node_at g.stored n) refl
    where
      by : (o : Option Node) → node_at g.stored n ≡ o → All (λ (x : EdgeTime). Within x.time.0) (times_in (data_split kind) (option_map_or (row g.stored.design) o empty_row))
      by None e = subst (λ (xs : List EdgeTime). All (λ (x : EdgeTime). Within x.time.0) xs) (sym (empty_times (data_split kind))) (All-nil (λ (x : EdgeTime). Within x.time.0))
      by (Some node) e =
          subst (λ (xs : List EdgeTime). All (λ (x : EdgeTime). Within x.time.0) xs) (sym (times_are g num linked is (data_split kind) n node e))
          (λ i d low. time_within n node e
          (get_or (filter_map (λ edge. option_map (edge_time edge) (arrival_of g.stored.design (data_split kind) (row g.stored.design) node edge)) (launch_edges g.stored.design)) i d)
          (All-contains_itself (filter_map (λ edge. option_map (edge_time edge) (arrival_of g.stored.design (data_split kind) (row g.stored.design) node edge)) (launch_edges g.stored.design)) i d low))

  arrival_range : (n : ℕ) (edge : ℕ × Tran) (y : ℤ) → signed_arrival g kind n edge ≡ Some y → Within y
  arrival_range n edge y e =
      let times : List EdgeTime = times_in (data_split kind) (row_numbered g.stored n) in
      let m = mapped_back (sign kind) (time_on times edge) y e in
      let f = mapped_back (λ (x : EdgeTime). x.time.0) (find (λ x. nat_eq x.clock edge.0 && same_tran x.tran edge.1) times) m.0 m.1 in
      let c = found_in (λ (x : EdgeTime). nat_eq x.clock edge.0 && same_tran x.tran edge.1) times f.0 f.1 in
      let low = All-contains (λ (x : EdgeTime). Within x.time.0) times f.0 (times_fine n) c in
      subst (λ (z : ℤ). Within z) m.2 (sign_within kind m.0 (subst (λ (z : ℤ). Within z) f.2 low))

  module _ (table : List (List ArcDelay)) (found : AreDelays g.stored table) where
    pub there : (n : ℕ) → n < node_bound g.stored → arcs_there g kind n ≡ arcs_followed g kind n
    there n low = ap (λ (c : Bool). if c then arcs_followed g kind n else []) (lt-ltb n (node_bound g.stored) low)

    past_none : (n : ℕ) → nat_lt n (node_bound g.stored) ≡ false → node_at g.stored n ≡ None
    past_none n out = by (node_at g.stored n) refl
      where
        by : (o : Option Node) → node_at g.stored n ≡ o → o ≡ None
        by None e = refl
        by (Some node) e = absurd (false≢true (sym out ∙ lt-ltb n (node_bound g.stored) (from_low g.stored n node e)))

    -- the delays between numbers
    look_same : (a b : ℕ) → delay_in (arcs_there g kind b) a ≡ followed_delay g kind a b
    look_same a b = elim (cases_Bool (nat_lt b (node_bound g.stored))) [
      | inl low ↦
          ap (λ (c : Bool). delay_in (if c then arcs_followed g kind b else []) a) low
          ∙ (are_followed g num linked is table found kind b (ltb-true b (node_bound g.stored) low)).delays a
      | inr out ↦
          ap (λ (c : Bool). delay_in (if c then arcs_followed g kind b else []) a) out
          ∙ sym (ap (λ (o : Option Node). if network_at g b then None
          else option_map (turned kind) (option_and_then (λ y. option_and_then (arc_delay g.stored.design (data_split kind) y) o) (node_at g.stored a))) (past_none b out)
          ∙ gone g kind (network_at g b) (node_at g.stored a))
    ]

    arcs_low : (n : ℕ) → n < node_bound g.stored → (net : Net) → (net.count ≡ node_bound g.stored) → (net.level ≡ level_at g) → (net.place ≡ level_at g)
        → All (IsArcInto net n) (arcs_there g kind n)
    arcs_low n low net count level place =
        subst (λ (xs : List WalkArc). All (IsArcInto net n) xs) (sym (there n low)) (λ i d l.
        (let b = (are_followed g num linked is table found kind n low).below i d l in
        let arc = get_or (arcs_followed g kind n) i d in (
          subst (λ (k : ℕ). arc.from < k) (sym count) b.1,
          subst (λ (f : ℕ → ℕ). f arc.from < f n) (sym level) b.0,
          subst (λ (f : ℕ → ℕ). f arc.from < f n) (sym place) b.0,
          b.2,
        )))

    arcs_apart : (n : ℕ) → n < node_bound g.stored → AreApart (arcs_there g kind n)
    arcs_apart n low = subst AreApart (sym (there n low)) (are_followed g num linked is table found kind n low).apart

    -- along each arc nodes arrive later
    arcs_later : (n : ℕ) → n < node_bound g.stored → All (IsLater (signed_arrival g kind) n) (arcs_there g kind n)
    arcs_later n low =
        subst (λ (xs : List WalkArc). All (IsLater (signed_arrival g kind) n) xs) (sym (there n low)) (λ i d l. one (get_or (arcs_followed g kind n) i d)
        (All-contains_itself (arcs_followed g kind n) i d l))
      where
        one : (arc : WalkArc) → Contains (arcs_followed g kind n) arc → IsLater (signed_arrival g kind) n arc
        one arc c edge x e =
            let told = are_followed g num linked is table found kind n low in
            let follows : followed_delay g kind arc.from n ≡ Some arc.delay = sym (told.delays arc.from) ∙ in_delay (arcs_followed g kind n) told.apart arc c in
            let r = later_along g num linked is t kind arc.from n arc.delay follows edge x
            (sym (sign_on kind (time_on (times_in (data_split kind) (row_numbered g.stored arc.from)) edge)) ∙ e) in
            subst (λ (o : Option ℤ). IsAtLeast o (x +ℤ arc.delay))
            (sym (sign_on kind (time_on (times_in (data_split kind) (row_numbered g.stored n)) edge) ∙ r.is)) r.low

    module _ (rows : List TreeRow) (tree : IsClockTree g rows) (tests : List EndTest) (ready : All (IsReadyTest g.stored.design) tests) where
      launch_at : (n : ℕ) (l : LaunchNode) → launch_told g kind n ≡ Some l → IsLaunchNode g (data_split kind) n l
      launch_at n l e = subst (λ (o : Option LaunchNode). MayLaunch g (data_split kind) n o) e (told_sound g num linked is t kind n fine)

      offer_fits : (n : ℕ) → IsLow (offer_told g kind rows tests n)
      offer_fits n = by (launch_told g kind n) refl
        where
          some : (l : LaunchNode) → IsReadyLaunch g.stored.design l → (o : Option ℤ) → least_slack g.stored.design kind rows l tests ≡ o → IsLow o
          some l r None e = tt
          some l r (Some x) e = let low = offer_bound g.stored.design linked kind rows tree.tree l r tests ready x e in omega (arith, low)

          by : (o : Option LaunchNode) → launch_told g kind n ≡ o → IsLow (option_and_then (λ l. least_slack g.stored.design kind rows l tests) o)
          by None e = tt
          by (Some l) e = some l (ready_launch g num linked is rows tree (data_split kind) n l (launch_at n l e)) (least_slack g.stored.design kind rows l tests) refl

      -- the lowest offers are within their limit
      pub lows_fit : All IsLowOffer (lows_told g.stored.design kind rows tests)
      lows_fit = λ i d l. one (get_or (lows_told g.stored.design kind rows tests) i d) (All-contains_itself (lows_told g.stored.design kind rows tests) i d l)
        where
          one : (low : EdgeTime) → Contains (lows_told g.stored.design kind rows tests) low → IsLowOffer low
          one low c =
              let r = in_filter_map_back (λ edge. option_map (edge_time edge) (low_over g.stored.design kind rows tests edge)) (launch_edges g.stored.design) low c in
              let k = mapped_back (edge_time r.item) (low_over g.stored.design kind rows tests r.item) low r.same in
              elim (outer_found (λ x. Some (low_told g.stored.design kind rows r.item x)) tests None k.0 k.1) [
                | inl none ↦ absurd (cc)
                | inr f ↦
                    let bound = low_bound g.stored.design linked kind rows tree.tree r.item (launch_clock g.stored.design r.item r.within) f.0
                    (All-contains (IsReadyTest g.stored.design) tests f.0 ready f.1) in
                    let same : low_told g.stored.design kind rows r.item f.0 ≡ low.time.0 = some_is f.2 ∙ ap (λ (x : EdgeTime). x.time.0) k.2 in
                    let at : unsigned_abs low.time.0 ≤ 10 ^ 16 = subst (λ (z : ℤ). unsigned_abs z ≤ 10 ^ 16) same bound in
                    omega (arith, at)
              ]

      bound_fits : (n : ℕ) → IsLow (least_room (signed_arrival g kind n) None (lows_told g.stored.design kind rows tests))
      bound_fits n = least_room_low (signed_arrival g kind n) (lows_told g.stored.design kind rows tests) None lows_fit (arrival_range n) tt

      offered : (n : ℕ) (o : ℤ) → offer_told g kind rows tests n ≡ Some o → IsOffered (lows_told g.stored.design kind rows tests) (signed_arrival g kind n) o
      offered n o e =
          let k = then_back (λ l. least_slack g.stored.design kind rows l tests) (launch_told g kind n) o e in
          let launch = launch_at n k.0 k.1 in
          let edge = its_edge g num linked is rows tree kind n k.0 launch in
          let c = launched_in g num linked is (data_split kind) n launch.node launch.its (edge_of_node k.0) edge in
          let r = offered_low g.stored.design linked kind rows k.0 (ready_launch g num linked is rows tree (data_split kind) n k.0 launch) tests ready o k.2 c in
          let m : launch.launched.node ≡ launch.node =
          some_is (sym launch.launched.its ∙ named_back g.stored.design t launch.node (inside g num linked is t n launch.node launch.its)) in
          let arrives : arrival g.stored.design (data_split kind) launch.node (edge_of_node k.0) ≡ Some k.0.time.0 =
          ap (λ (x : Node). arrival g.stored.design (data_split kind) x (edge_of_node k.0)) (sym m) ∙ launch.launched.arrives in
          record {
            low = edge_time (edge_of_node k.0) r.low;
            within = r.within;
            arrives = sign kind k.0.time.0;
            its =
                ap (option_map (sign kind))
                (ap (λ (x : Option Node). time_on (times_in (data_split kind) (option_map_or (row g.stored.design) x empty_row)) (edge_of_node k.0)) launch.its ∙ arrives);
            least = subst (λ (z : ℤ). (r.low -ℤ z) ≤ℤ o) (sym (sign_same kind k.0.time.0)) r.least;
          }

      module _ (end : ℕ) (below : end < node_bound g.stored) (fits : node_bound g.stored < 2 ^ 32) (high : level_at g end < 2 ^ 22) where
        shape : IsShape (net_told g kind rows tests end)
        shape = record {
          few = omega (arith, fits);
          end = below;
          high = high;
          arcs = λ n low. arcs_low n low (net_told g kind rows tests end) refl refl refl;
          apart = arcs_apart;
          offers = λ n low. offer_fits n;
          bounds = λ n low. bound_fits n;
        }

        -- the numbers in front of an end node are bounded by their arrivals
        pub by_rows : IsByRows (net_told g kind rows tests end)
        by_rows = record {
          shape = shape;
          lows = lows_told g.stored.design kind rows tests;
          arrival = signed_arrival g kind;
          arrivals = arcs_later;
          bounded = record { bound = λ n low. refl; offer = λ n o low e. offered n o e };
        }

      module _ (end : ℕ) (node : Node) (its : node_at g.stored end ≡ Some node) (are : AreEndTestsOf g kind end tests) where
        offers_are : (n : ℕ) → IsNodeOffer g.stored kind n (named node) (offer_told g kind rows tests n)
        offers_are n = by (launch_told g kind n) refl
          where
            by : (o : Option LaunchNode) → launch_told g kind n ≡ o → IsNodeOffer g.stored kind n (named node) (option_and_then (λ l. least_slack g.stored.design kind rows l tests) o)
            by None e =
                no_launch g num linked is rows tree kind n end
                (subst (λ (o : Option LaunchNode). MayLaunch g (data_split kind) n o) e (told_sound g num linked is t kind n fine)) node
            by (Some l) e =
                offer_is g num linked is rows tree kind n end node its tests (are node its) l (launch_at n l e) (least_slack g.stored.design kind rows l tests) refl
                (offer_low g.stored.design linked kind rows tree.tree l (ready_launch g num linked is rows tree (data_split kind) n l (launch_at n l e)) tests ready)

        slack_forth : (s : ℤ) → IsSlack (net_told g kind rows tests end) s → IsNumberSlack (λ a b. followed_delay g kind a b) (offer_told g kind rows tests) end s
        slack_forth s w = by w.0 w.1
          where
            by : (ns : List ℕ) → walk_slack (net_told g kind rows tests end) ns ≡ Some s → IsNumberSlack (λ a b. followed_delay g kind a b) (offer_told g kind rows tests) end s
            by [] e = absurd (cc)
            by (n ∷ ns) e =
                let k = difference_back (offer_told g kind rows tests n) (walk_sum ◌==◌ (λ a b. delay_in (arcs_there g kind b) a) end n ns) s e in
                record {
                  first = n;
                  more = ns;
                  offered = k.left;
                  offer_is = k.left_is;
                  sum = k.right;
                  adds = sym (walk_same (λ a b. delay_in (arcs_there g kind b) a) (λ a b. followed_delay g kind a b) end n ns look_same) ∙ k.right_is;
                  is = k.both;
                }

        -- the slack of a walk by numbers is that which a search finds
        slack_is : (s : ℤ) (w : IsNumberSlack (λ a b. followed_delay g kind a b) (offer_told g kind rows tests) end s) → walk_slack (net_told g kind rows tests end) (w.first ∷ w.more) ≡ Some s
        slack_is s w =
            let offer = w.offer_is in
            let adds = walk_same (λ a b. delay_in (arcs_there g kind b) a) (λ a b. followed_delay g kind a b) end w.first w.more look_same ∙ w.adds in
            (λ k. minus_some (offer k) (adds k)) ∙ ap Some w.is

        slack_back : (s : ℤ) → IsNumberSlack (λ a b. followed_delay g kind a b) (offer_told g kind rows tests) end s → IsSlack (net_told g kind rows tests end) s
        slack_back s w = (w.first ∷ w.more, slack_is s w)

        -- the nodes of near walks that a search finds are those of the walks by numbers
        pub near_found : (most : ℤ) (nodes : List ℕ) → AreNear (net_told g kind rows tests end) most nodes → (all : List ℕ) → ((n : ℕ) → Contains nodes n → is_among all n ≡ true)
            → AreNearTo g kind end most all
        near_found most nodes near all within = record {
          offer = offer_told g kind rows tests;
          offers = λ other e. subst (λ (x : Node). (n : ℕ) → IsNodeOffer g.stored kind n (named x) (offer_told g kind rows tests n)) (some_is (sym its ∙ e)) offers_are;
          covers = λ s w low.
              All-weaker (Contains nodes) (λ n. is_among all n ≡ true) within (w.first ∷ w.more) (near.covers (w.first ∷ w.more) s (slack_is s w) low);
        }

        -- the walks that a search finds stand for the paths to the node
        pub node_found : StandFor (IsSlack (net_told g kind rows tests end)) g.stored.design kind (named node)
        node_found =
            let numbers = slacks_of_node g num linked is t kind (offer_told g kind rows tests) end node its offers_are in
            record {
              forth = λ s w. numbers.forth s (slack_forth s w);
              under = λ least all. numbers.under least (λ s w. all s (slack_back s w));
            }
