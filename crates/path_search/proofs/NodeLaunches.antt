-- The launch node of a number as it is told, and the bounds of what it offers.

use Rattle.std.proofs.Common.{◌≡◌, ◌⊎◌, ℕ, ◌+◌, ◌*◌, ◌^◌, ◌<◌, ◌≤◌, nat_lt, ℤ, pos, ◌+ℤ◌, ◌-ℤ◌, ◌≤ℤ◌, unsigned_abs, Bool, true, false, List, [], ◌∷◌, length, Option, None, Some, refl, sym, ap, subst, ◌∙◌, inl, inr, arith}
use Rattle.std.specs.Prelude.{All, Contains, IfSome, slice_get, nat_le, option_map, option_and_then, if◌then◌else◌}
use Rattle.std.specs.Option.{option_map_or, unwrap_or}
use Rattle.std.proofs.lemmas.Bool.{leb-true, le-leb}
use Rattle.std.proofs.lemmas.Int.{ints}
use Rattle.std.proofs.lemmas.List.Elements.{All-contains}
use Rattle.std.proofs.lemmas.Option.{slice_get_within}
use Rattle.sta_units.specs.Numbers.{limit, Within}
use Rattle.timing_defs.specs.declared.kinds.Kind.{Kind}
use Rattle.timing_defs.specs.declared.kinds.Kind.TheVariants.{Setup, Hold}
use Rattle.timing_defs.specs.declared.kinds.Split.TheVariants.{Early}
use Rattle.timing_defs.specs.declared.kinds.Tran.{Tran}
use Rattle.timing_defs.specs.declared.constraints.Clock.{Clock}
use Rattle.timing_defs.specs.declared.constraints.Exception.{Exception}
use Rattle.timing_defs.specs.declared.rows.Capture.{Capture}
use Rattle.timing_defs.specs.declared.rows.Launch.{Launch}
use Rattle.timing_defs.specs.declared.design.Design.{Design}
use Rattle.timing_defs.specs.Netlist.{Node, pins}
use Rattle.timing_defs.specs.Documents.{is_effect}
use Rattle.timing_rules.specs.Paths.{named, node_named, moved}
use Rattle.timing_rules.specs.Range.{within_some}
use Rattle.timing_rules.specs.Rows.{arrival, launch_edges, outer_some, outermost}
use Rattle.timing_rules.specs.Rules.{cycles, cycles_in, is_tested, with_cycles, without_cycles}
use Rattle.timing_defs.specs.Kinds.{data_split, uncertainty}
use Rattle.timing_rules.specs.Tests.{separation, separation_on, uncertainty_on}
use Rattle.netlist_store.specs.Linked.{IsLinked}
use Rattle.netlist_store.specs.Numbering.{IsNumbered}
use Rattle.pin_graph.specs.Nodes.{node_at}
use Rattle.pin_graph.specs.Graphs.{Graphed, IsGraph, place_at}
use Rattle.pin_graph.specs.RowTables.{AreRowsFine}
use Rattle.timing_defs.proofs.Members.{all_in, first_in, later_in, some_is}
use Rattle.path_rules.specs.declared.ranges.CycleRange.{CycleRange}
use Rattle.path_rules.specs.Ranges.{greater, widened, range_over, range_of, plain_range}
use Rattle.path_rules.proofs.CycleRanges.{ranged}
use Rattle.pessimism_credit.specs.declared.rows.TreeRow.{TreeRow}
use Rattle.pessimism_credit.specs.Credit.{IsTree}
use Rattle.pessimism_credit.proofs.Lowest.{credit_bound}
use Rattle.path_search.specs.declared.ends.EndTest.{EndTest}
use Rattle.path_search.specs.declared.launches.LaunchNode.{LaunchNode}
use Rattle.path_search.specs.Launches.{IsLaunched, edge_of_launch, launched_at}
use Rattle.path_search.specs.Lows.{low_setup, low_hold, low_apart, low_credit, capture_on, low_told}
use Rattle.path_search.specs.NodeNets.{launch_value, launch_told}
use Rattle.path_search.specs.Runs.{IsTimed}
use Rattle.path_search.specs.Slacks.{IsLaunchNode, IsReadyLaunch, IsReadyTest, MayLaunch, credit_told, edge_of_node, is_low, least_slack, slack_told, slack_where}
use Rattle.path_search.proofs.ConeCourses.{past}
use Rattle.path_search.proofs.FanCones.{inside}
use Rattle.path_search.proofs.LaunchLaws.{launched_in}
use Rattle.path_search.proofs.LowOffers.{slack_parts, either}
use Rattle.path_search.proofs.NodeNames.{named_back}
use Rattle.path_search.proofs.Ranges.{arrivals_within}
use Rattle.path_search.proofs.SlackBounds.{clock_good, cycles_low, effect_low, moved_is, moved_low, on_both, separation_low, told_low, uncertainty_is}
use Rattle.path_search.proofs.TakenConstraints.{taken}
use Rattle.path_search.proofs.TestRanges.{launch_clock}

module _ (g : Graphed) (num : IsNumbered g.stored) (linked : IsLinked g.stored.design) (is : IsGraph g) (t : IsTimed g.stored.design) (kind : Kind) (n : ℕ) where
  -- what is told of a launch at the node of the number
  same_launch : (node : Node) → node_at g.stored n ≡ Some node → (edge : ℕ × Tran) (time : ℤ) → IsLaunched g.stored.design (data_split kind) edge (named node) time
      → (edge_of_launch g.stored.design (data_split kind) (named node) node ≡ Some edge) × (arrival g.stored.design (data_split kind) node edge ≡ Some time)
  same_launch node its edge time l =
      let m : l.node ≡ node = some_is (sym l.its ∙ named_back g.stored.design t node (inside g num linked is t n node its)) in
      (ap (edge_of_launch g.stored.design (data_split kind) (named node)) (sym m) ∙ l.edge_is, ap (λ (x : Node). arrival g.stored.design (data_split kind) x edge) (sym m) ∙ l.arrives)

  module _ (fine : AreRowsFine g.stored.design) where
    -- the launch node that is told is one
    pub told_sound : MayLaunch g (data_split kind) n (launch_told g kind n)
    told_sound = by (node_at g.stored n) refl
      where
        time_by : (node : Node) → node_at g.stored n ≡ Some node → (edge : ℕ × Tran) → edge_of_launch g.stored.design (data_split kind) (named node) node ≡ Some edge
            → (a : Option ℤ) → arrival g.stored.design (data_split kind) node edge ≡ a → MayLaunch g (data_split kind) n (option_map (launch_value g n node edge) a)
        time_by node its edge e None f = λ m at other time l.
            (let same : m ≡ node = some_is (sym at ∙ its) in
            let s = same_launch node its other time (subst (λ (x : Node). IsLaunched g.stored.design (data_split kind) other (named x) time) same l) in
            let edges : edge ≡ other = some_is (sym e ∙ s.0) in
            let clash : None ≡ Some time = sym f ∙ ap (arrival g.stored.design (data_split kind) node) edges ∙ s.1 in
            cc)
        time_by node its (i, tran) e (Some time) f =
            let within = inside g num linked is t n node its in
            let launched = launched_in g num linked is (data_split kind) n node its (i, tran) e in
            let range = arrivals_within g num linked is fine (data_split kind) node within (i, tran) launched in
            record {
              node = node;
              its = its;
              launched = record { node = node; its = named_back g.stored.design t node within; edge_is = e; arrives = f };
              launch = refl;
              place = refl;
              clock = launch_clock g.stored.design (i, tran) launched;
              time = leb-true (unsigned_abs time) limit (sym (ap within_some f) ∙ range);
            }

        edge_by : (node : Node) → node_at g.stored n ≡ Some node → (e : Option (ℕ × Tran)) → edge_of_launch g.stored.design (data_split kind) (named node) node ≡ e
            → MayLaunch g (data_split kind) n (option_and_then (λ edge. option_map (launch_value g n node edge) (arrival g.stored.design (data_split kind) node edge)) e)
        edge_by node its None e = λ m at other time l.
            (let same : m ≡ node = some_is (sym at ∙ its) in
            let s = same_launch node its other time (subst (λ (x : Node). IsLaunched g.stored.design (data_split kind) other (named x) time) same l) in
            let clash : None ≡ Some other = sym e ∙ s.0 in
            cc)
        edge_by node its (Some edge) e = time_by node its edge e (arrival g.stored.design (data_split kind) node edge) refl

        by : (o : Option Node) → node_at g.stored n ≡ o → MayLaunch g (data_split kind) n (option_and_then (λ node.
            option_and_then (λ edge. option_map (launch_value g n node edge) (arrival g.stored.design (data_split kind) node edge))
            (edge_of_launch g.stored.design (data_split kind) (named node) node)) o)
        by None e = λ m at other time l. (let clash : None ≡ Some m = sym e ∙ at in cc)
        by (Some node) e = edge_by node e (edge_of_launch g.stored.design (data_split kind) (named node) node) refl

    -- a number has one launch node
    one_launch : (o p : Option LaunchNode) → MayLaunch g (data_split kind) n o → MayLaunch g (data_split kind) n p → o ≡ p
    one_launch None None a b = refl
    one_launch None (Some q) a b = absurd (a b.node b.its (edge_of_node q) q.time.0 b.launched)
    one_launch (Some p) None a b = absurd (b a.node a.its (edge_of_node p) p.time.0 a.launched)
    one_launch (Some p) (Some q) a b =
        let node : a.node ≡ b.node = some_is (sym a.its ∙ b.its) in
        let s = same_launch a.node a.its (edge_of_node p) p.time.0 a.launched in
        let u = same_launch b.node b.its (edge_of_node q) q.time.0 b.launched in
        let edge : edge_of_node p ≡ edge_of_node q =
        some_is (sym s.0 ∙ ap (λ (x : Node). edge_of_launch g.stored.design (data_split kind) (named x) x) node ∙ u.0) in
        let time : p.time.0 ≡ q.time.0 = some_is (sym s.1 ∙ (λ i. arrival g.stored.design (data_split kind) (node i) (edge i)) ∙ u.1) in
        let launch : p.launch ≡ q.launch = a.launch ∙ (λ i. launched_at g.stored.design (named (node i)) (edge i)) ∙ sym b.launch in
        let tran : p.tran ≡ q.tran = ap (λ (x : ℕ × Tran). x.1) edge in
        let place : p.place ≡ q.place = a.place ∙ sym b.place in
        λ i. Some (record { launch = launch i; tran = tran i; time = record { 0 = time i }; place = place i })

    pub launch_is : (o : Option LaunchNode) → MayLaunch g (data_split kind) n o → o ≡ launch_told g kind n
    launch_is o may = one_launch o (launch_told g kind n) may told_sound

-- the cycles of a range are within their limit
most_more : (m : ℕ) (n : ℕ) → m ≤ 1000 → n ≤ 1000 → greater m n ≤ 1000
most_more m n a b = by (nat_lt m n)
  where
    by : (t : Bool) → (if t then n else m) ≤ 1000
    by true = b
    by false = a

most_over : (kind : Kind) (r : CycleRange) (xs : List Exception) → r.most ≤ 1000 → ((x : Exception) → Contains xs x → is_effect x.effect ≡ true) → (range_over kind r xs).most ≤ 1000
most_over kind r [] low each = low
most_over kind r (x ∷ xs) low each =
    most_over kind (widened r (cycles_in kind x.effect)) xs (by (cycles_in kind x.effect) refl) (λ y c. each y (later_in x xs y c))
  where
    by : (o : Option ℕ) → cycles_in kind x.effect ≡ o → (widened r o).most ≤ 1000
    by None e = low
    by (Some m) e = most_more r.most m low (effect_low kind x.effect m (each x (first_in x xs)) e)

module _ (d : Design) (linked : IsLinked d) where
  most_low : (kind : Kind) → (range_of d.constraints kind).most ≤ 1000
  most_low kind =
      most_over kind (plain_range kind) d.constraints.exceptions (start kind)
      (λ x c. all_in (λ (y : Exception). is_effect y.effect) d.constraints.exceptions x (taken d.constraints linked.constraints).effects c)
    where
      start : (k : Kind) → without_cycles k ≤ 1000
      start Setup = omega arith
      start Hold = omega arith

  fewest_low : (kind : Kind) → Launch → Capture → (range_of d.constraints kind).fewest ≤ 1000
  fewest_low kind launch capture =
      let low = (ranged d.constraints kind launch capture).0 in
      let high = cycles_low d linked kind launch capture in
      omega (arith, low, high)

  setup_bound : (kind : Kind) → Launch → Capture → low_setup d.constraints kind ≤ 1000
  setup_bound Setup launch capture = fewest_low Setup launch capture
  setup_bound Hold launch capture = most_low Setup

  -- a slack by the parts of its test is within its limit
  parts_bound : (kind : Kind) (early late need sep unc credit length : ℤ) → Within early → Within late → Within need → unsigned_abs sep ≤ 2001 * limit → Within unc
      → unsigned_abs credit ≤ 2 * limit → Within length → unsigned_abs (slack_parts kind early late need sep unc credit length) ≤ 10 ^ 16
  parts_bound Setup early late need sep unc credit length a b c e f h i = omega (arith, ints, a, b, c, e, f, h, i)
  parts_bound Hold early late need sep unc credit length a b c e f h i = omega (arith, ints, a, b, c, e, f, h, i)

  module _ (kind : Kind) where
    unc_bound : (i : ℕ) → i < length d.constraints.clocks → Within (uncertainty_on d kind i)
    unc_bound i low = by (slice_get d.constraints.clocks i) refl
      where
        its : (k : Kind) (c : Clock) → Within c.unc_setup.0 → Within c.unc_hold.0 → Within (uncertainty k c)
        its Setup c a b = a
        its Hold c a b = b

        by : (o : Option Clock) → slice_get d.constraints.clocks i ≡ o → Within (uncertainty_on d kind i)
        by None e = absurd (past i d.constraints.clocks low e)
        by (Some c) e =
            let good = clock_good d linked i c e in
            subst (λ (z : ℤ). Within z) (uncertainty_is d kind i c e) (its kind c good.setup good.hold)

    module _ (launch : Launch) (capture : Capture) (i j : ℕ) (a b : Tran) (low : i < length d.constraints.clocks) (high : j < length d.constraints.clocks) where
      moved_bound : unsigned_abs (moved d kind launch capture (i, a) (j, b)) ≤ 2001 * limit
      moved_bound = by (slice_get d.constraints.clocks i) refl (slice_get d.constraints.clocks j) refl
        where
          by : (o : Option Clock) → slice_get d.constraints.clocks i ≡ o → (p : Option Clock) → slice_get d.constraints.clocks j ≡ p
              → unsigned_abs (moved d kind launch capture (i, a) (j, b)) ≤ 2001 * limit
          by None e p f = absurd (past i d.constraints.clocks low e)
          by (Some l) e None f = absurd (past j d.constraints.clocks high f)
          by (Some l) e (Some c) f =
              let from = (clock_good d linked i l e).clock_is in
              subst (λ (z : ℤ). unsigned_abs z ≤ 2001 * limit) (sym (moved_is d kind launch capture i j a b l c e f))
              (moved_low kind (separation kind l a c b) (cycles d.constraints Setup launch capture) (cycles d.constraints Hold launch capture) l c
              (separation_low kind l c a b from) (cycles_low d linked Setup launch capture) (cycles_low d linked Hold launch capture) from (clock_good d linked j c f).clock_is)

      apart_bound : unsigned_abs (low_apart d kind (i, a) (j, b)) ≤ 2001 * limit
      apart_bound = by (slice_get d.constraints.clocks i) refl (slice_get d.constraints.clocks j) refl
        where
          by : (o : Option Clock) → slice_get d.constraints.clocks i ≡ o → (p : Option Clock) → slice_get d.constraints.clocks j ≡ p
              → unsigned_abs (low_apart d kind (i, a) (j, b)) ≤ 2001 * limit
          by None e p f = absurd (past i d.constraints.clocks low e)
          by (Some l) e None f = absurd (past j d.constraints.clocks high f)
          by (Some l) e (Some c) f =
              let from = (clock_good d linked i l e).clock_is in
              subst (λ (z : ℤ). unsigned_abs z ≤ 2001 * limit)
              (sym (on_both d (λ x y. with_cycles kind (separation_on d kind (i, a) (j, b)) (low_setup d.constraints kind) (low_hold d.constraints) x y) i j l c e f
              ∙ ap (λ s. with_cycles kind s (low_setup d.constraints kind) (low_hold d.constraints) l c) (on_both d (λ x y. separation kind x a y b) i j l c e f)))
              (moved_low kind (separation kind l a c b) (low_setup d.constraints kind) (low_hold d.constraints) l c
              (separation_low kind l c a b from) (setup_bound kind launch capture) (fewest_low Hold launch capture) from (clock_good d linked j c f).clock_is)

    module _ (rows : List TreeRow) (tree : IsTree rows) where
      credit_low_bound : (o : Option ℕ) → unsigned_abs (low_credit rows o) ≤ 2 * limit
      credit_low_bound None = omega arith
      credit_low_bound (Some p) = credit_bound rows p tree

      zero_within : Within (pos 0)
      zero_within = omega arith

      -- a slack of a launch node by a test
      pub told_bound : (l : LaunchNode) → IsReadyLaunch d l → (t : EndTest) → IsReadyTest d t → unsigned_abs (slack_told d kind rows l t) ≤ 10 ^ 16
      told_bound l ready t test = by kind (moved_bound l.launch t.capture l.launch.clock t.test.capture_clock l.tran t.test.capture_tran ready.clock test.clock)
          (unc_bound t.test.capture_clock test.clock)
        where
          by : (k : Kind) → unsigned_abs (moved d k l.launch t.capture (edge_of_node l) (capture_on t)) ≤ 2001 * limit → Within (uncertainty_on d k t.test.capture_clock)
              → unsigned_abs (slack_told d k rows l t) ≤ 10 ^ 16
          by Setup a b =
              parts_bound Setup t.test.early.0 t.test.late.0 t.test.need.0 (moved d Setup l.launch t.capture (edge_of_node l) (capture_on t)) (uncertainty_on d Setup t.test.capture_clock)
              (credit_told rows l.place t.place) l.time.0 test.early test.late test.need a b (told_low rows tree l.place t.place) ready.time
          by Hold a b =
              parts_bound Hold t.test.early.0 t.test.late.0 t.test.need.0 (moved d Hold l.launch t.capture (edge_of_node l) (capture_on t)) (uncertainty_on d Hold t.test.capture_clock)
              (credit_told rows l.place t.place) l.time.0 test.early test.late test.need a b (told_low rows tree l.place t.place) ready.time

      -- a lowest offer by a test
      pub low_bound : (edge : ℕ × Tran) → edge.0 < length d.constraints.clocks → (t : EndTest) → IsReadyTest d t → unsigned_abs (low_told d kind rows edge t) ≤ 10 ^ 16
      low_bound (i, a) low t test = by kind (apart_bound (record { pin = []; cell = None; clock = 0 }) t.capture i t.test.capture_clock a t.test.capture_tran low test.clock)
          (unc_bound t.test.capture_clock test.clock)
        where
          by : (k : Kind) → unsigned_abs (low_apart d k (i, a) (capture_on t)) ≤ 2001 * limit → Within (uncertainty_on d k t.test.capture_clock)
              → unsigned_abs (low_told d k rows (i, a) t) ≤ 10 ^ 16
          by Setup p q =
              parts_bound Setup t.test.early.0 t.test.late.0 t.test.need.0 (low_apart d Setup (i, a) (capture_on t)) (uncertainty_on d Setup t.test.capture_clock)
              (low_credit rows t.place) (pos 0) test.early test.late test.need p q (credit_low_bound t.place) zero_within
          by Hold p q =
              parts_bound Hold t.test.early.0 t.test.late.0 t.test.need.0 (low_apart d Hold (i, a) (capture_on t)) (uncertainty_on d Hold t.test.capture_clock)
              (low_credit rows t.place) (pos 0) test.early test.late test.need p q (credit_low_bound t.place) zero_within

-- a separation with the cycles with which a slack is least, as it is found
module _ (d : Design) (linked : IsLinked d) (kind : Kind) (i j : ℕ) (a b : Tran) (l c : Clock) (from : slice_get d.constraints.clocks i ≡ Some l) (to : slice_get d.constraints.clocks j ≡ Some c) where
  nobody : Launch
  nobody = record { pin = []; cell = None; clock = 0 }

  nothing : Capture
  nothing = record { pin = []; cell = None; clock = 0 }

  pub setup_within : (s : ℕ) → s ≡ low_setup d.constraints kind → s ≤ 1000
  setup_within s e = subst (λ (n : ℕ). n ≤ 1000) (sym e) (setup_bound d linked kind nobody nothing)

  pub hold_within : (h : ℕ) → h ≡ low_hold d.constraints → h ≤ 1000
  hold_within h e = subst (λ (n : ℕ). n ≤ 1000) (sym e) (fewest_low d linked Hold nobody nothing)

  pub apart_within : (sep : ℤ) → sep ≡ separation kind l a c b → unsigned_abs sep ≤ limit
  apart_within sep e = subst (λ (z : ℤ). unsigned_abs z ≤ limit) (sym e) (separation_low kind l c a b (clock_good d linked i l from).clock_is)

  pub apart_as : (sep out : ℤ) (s h : ℕ) → sep ≡ separation kind l a c b → s ≡ low_setup d.constraints kind → h ≡ low_hold d.constraints → out ≡ with_cycles kind sep s h l c
      → out ≡ low_apart d kind (i, a) (j, b)
  apart_as sep out s h apart setup hold found =
      found ∙ (λ k. with_cycles kind (apart k) (setup k) (hold k) l c)
      ∙ sym (on_both d (λ x y. with_cycles kind (separation_on d kind (i, a) (j, b)) (low_setup d.constraints kind) (low_hold d.constraints) x y) i j l c from to
      ∙ ap (λ z. with_cycles kind z (low_setup d.constraints kind) (low_hold d.constraints) l c) (on_both d (λ x y. separation kind x a y b) i j l c from to))

  pub apart_fits : (sep out : ℤ) (s h : ℕ) → sep ≡ separation kind l a c b → s ≡ low_setup d.constraints kind → h ≡ low_hold d.constraints → out ≡ with_cycles kind sep s h l c
      → unsigned_abs out ≤ 2001 * limit
  apart_fits sep out s h apart setup hold found =
      subst (λ (z : ℤ). unsigned_abs z ≤ 2001 * limit) (sym (apart_as sep out s h apart setup hold found))
      (apart_bound d linked kind nobody nothing i j a b (slice_get_within d.constraints.clocks i l from) (slice_get_within d.constraints.clocks j c to))

-- the outermost of some values is one of them
pub outer_found : {X : Type 0} (f : X → Option ℤ) (xs : List X) (best : Option ℤ) (o : ℤ) → outermost Early f best xs ≡ Some o
    → (best ≡ Some o) ⊎ ((x : X) × Contains xs x × (f x ≡ Some o))
outer_found f [] best o e = inl e
outer_found f (x ∷ xs) best o e = elim (outer_found f xs (outer_some Early best (f x)) o e) [
  | inr r ↦ inr (r.0, later_in x xs r.0 r.1, r.2)
  | inl first ↦ elim (either best (f x) o first) [ inl a ↦ inl a | inr b ↦ inr (x, first_in x xs, b) ]
]

module _ (d : Design) (linked : IsLinked d) (kind : Kind) (rows : List TreeRow) (tree : IsTree rows) (l : LaunchNode) (ready : IsReadyLaunch d l) (tests : List EndTest) (all : All (IsReadyTest d) tests) where
  -- what a launch node offers is within its limit
  pub offer_bound : (o : ℤ) → least_slack d kind rows l tests ≡ Some o → unsigned_abs o ≤ 10 ^ 16
  offer_bound o e = elim (outer_found (slack_where d kind rows l) tests None o e) [
    | inl none ↦ absurd (cc)
    | inr r ↦ by r.0 r.1 (is_tested d.constraints kind l.launch r.0.capture) r.2
  ]
    where
      by : (t : EndTest) → Contains tests t → (b : Bool) → (if b then Some (slack_told d kind rows l t) else None) ≡ Some o → unsigned_abs o ≤ 10 ^ 16
      by t c false f = absurd (cc)
      by t c true f = subst (λ (z : ℤ). unsigned_abs z ≤ 10 ^ 16) (some_is f) (told_bound d linked kind rows tree l ready t (All-contains (IsReadyTest d) tests t all c))

  pub offer_low : is_low (least_slack d kind rows l tests) ≡ true
  offer_low = by (least_slack d kind rows l tests) refl
    where
      by : (o : Option ℤ) → least_slack d kind rows l tests ≡ o → is_low o ≡ true
      by None e = refl
      by (Some x) e = let low = offer_bound x e in le-leb (unsigned_abs x) (10 ^ 18) (omega (arith, low))
