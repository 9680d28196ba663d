-- The least lowest offer over tests and edges is a lowest slack by each test on each edge.

use Rattle.std.proofs.Common.{◌≡◌, ℕ, ◌<◌, ℤ, pos, ◌≤ℤ◌, List, [], ◌∷◌, length, Option, None, Some, refl, sym, ap, subst, inl, inr, arith}
use Rattle.std.specs.Prelude.{All, Contains, option_map}
use Rattle.std.specs.List.{filter_map}
use Rattle.std.specs.Option.{option_map_or}
use Rattle.std.proofs.lemmas.Int.{ints}
use Rattle.std.proofs.lemmas.List.Elements.{All-contains, All-nil, All-cons}
use Rattle.timing_defs.specs.declared.edge_times.EdgeTime.{EdgeTime}
use Rattle.timing_defs.specs.declared.kinds.Kind.{Kind}
use Rattle.timing_defs.specs.declared.kinds.Split.{Split}
use Rattle.timing_defs.specs.declared.kinds.Split.TheVariants.{Early, Late}
use Rattle.timing_defs.specs.declared.kinds.Tran.{Tran}
use Rattle.timing_defs.specs.declared.rows.NodeRow.{NodeRow}
use Rattle.timing_defs.specs.declared.design.Design.{Design}
use Rattle.timing_defs.specs.Netlist.{Node}
use Rattle.timing_rules.specs.Rows.{arrival_of, edge_time, empty_row, launch_edges, row, step}
use Rattle.timing_defs.specs.RowTimes.{times_in}
use Rattle.timing_rules.specs.Tests.{Test, tests_at, uncertainty_on}
use Rattle.timing_rules.specs.Paths.{Named, named, moved, slack_by}
use Rattle.timing_defs.proofs.Members.{in_filter_map_back, none_in, in_cases, first_in, later_in}
use Rattle.netlist_store.specs.Linked.{IsLinked}
use Rattle.netlist_store.specs.Numbering.{Stored, IsNumbered}
use Rattle.pin_graph.specs.Nodes.{node_at}
use Rattle.pin_graph.specs.Graphs.{Graphed, IsGraph}
use Rattle.pin_graph.specs.RowTables.{row_numbered}
use Rattle.pin_graph.proofs.JoinLaws.{mapped_back}
use Rattle.pin_graph.proofs.NodeLaws.{has_node}
use Rattle.pessimism_credit.specs.declared.rows.TreeRow.{TreeRow}
use Rattle.bounded_changes.specs.Carried.{IsBeyond, IsLowest}
use Rattle.bounded_changes.proofs.CarriedPaths.{beyond_value}
use Rattle.bounded_changes.proofs.Outermost.{each_beyond}
use Rattle.path_search.specs.declared.ends.EndTest.{EndTest}
use Rattle.path_search.specs.EndLows.{edge_at, low_on, IsLowIn, IsEndLow}
use Rattle.path_search.specs.Lows.{low_told, low_over}
use Rattle.path_search.specs.Slacks.{IsEndTest, AreEndTests, AreEndTestsOf}
use Rattle.path_search.specs.Trees.{IsClockTree}
use Rattle.path_search.proofs.LowestTests.{lowest_of}
use Rattle.path_search.proofs.Setting.{timed}
use Rattle.path_search.proofs.TestRanges.{launch_clock}

-- what is told of a test
record HasTold (g : Graphed) (end : Named) (tests : List EndTest) (test : Test) : Type 0 where
  told : EndTest
  within : Contains tests told
  its : IsEndTest g end told test

told_of : (g : Graphed) (end : Named) (tests : List EndTest) (asked : List Test) → AreEndTests g end tests asked → (test : Test) → Contains asked test → HasTold g end tests test
told_of g end [] [] are test c = absurd (none_in test c)
told_of g end [] (y ∷ ys) are test c = absurd are
told_of g end (x ∷ xs) [] are test c = absurd are
told_of g end (x ∷ xs) (y ∷ ys) are test c = elim (in_cases y ys test c) [
  | inl same ↦ record { told = x; within = first_in x xs; its = subst (λ (t : Test). IsEndTest g end x t) same are.0 }
  | inr later ↦ let r = told_of g end xs ys are.1 test later in record { told = r.told; within = later_in x xs r.told r.within; its = r.its }
]

-- what is less than a lowest slack is one
less_twice : (x v y : ℤ) → x ≤ℤ v → v ≤ℤ y → x ≤ℤ y
less_twice x v y p q = omega (arith, ints, p, q)

lower : (d : Design) (kind : Kind) (edge : ℕ × Tran) (test : Test) (v x : ℤ) → IsLowest d kind edge test v → x ≤ℤ v → IsLowest d kind edge test x
lower d kind edge test v x is less = record {
  credit = is.credit;
  least = is.least;
  spreads = is.spreads;
  below = λ launch capture.
      less_twice x v (slack_by kind test (moved d kind launch capture edge test.capture) (uncertainty_on d kind test.capture.0) is.credit (pos 0)) less (is.below launch capture);
}

low_in : (d : Design) (kind : Kind) (edge : ℕ × Tran) (test : Test) (v : ℤ) (low : Option ℤ) → IsLowest d kind edge test v → IsBeyond Early low v → IsLowIn d kind edge test low
low_in d kind edge test v None is h = absurd h
low_in d kind edge test v (Some x) is h = lower d kind edge test v x is h

module _ (g : Graphed) (num : IsNumbered g.stored) (linked : IsLinked g.stored.design) (is : IsGraph g) (rows : List TreeRow) (tree : IsClockTree g rows) (kind : Kind) (end : ℕ)
    (tests : List EndTest) (are : AreEndTestsOf g kind end tests) where
  abbrev d : Design
  d = g.stored.design

  asked_at : (node : Node) → node_at g.stored end ≡ Some node → AreEndTests g (named node) tests (tests_at d kind node)
  asked_at node at = subst (λ (o : Option Node). AreEndTests g (named node) tests (option_map_or (tests_at d kind) o [])) at (are node at)

  module _ (times : List EdgeTime) (clocks : All (λ (t : EdgeTime). t.clock < length d.constraints.clocks) times) (low : Option ℤ)
      (covers : (v : ℤ) → IsBeyond Early (low_on d kind rows tests times) v → IsBeyond Early low v) where
    low_is : IsEndLow g.stored kind end times low
    low_is node at t c test asked =
        let told = told_of g (named node) tests (tests_at d kind node) (asked_at node at) test asked in
        let its = low_told d kind rows (edge_at t) told.told in
        let over = beyond_value Early (low_over d kind rows tests (edge_at t)) its
        (each_beyond Early (λ (x : EndTest). Some (low_told d kind rows (edge_at t) x)) its tests None told.told told.within refl) in
        let lowest =
        lowest_of g num linked is rows tree kind (edge_at t) told.told.test told.told.place test told.its.its told.its.place told.its.fine
        (All-contains (λ (t : EdgeTime). t.clock < length d.constraints.clocks) times t clocks c) in
        low_in d kind (edge_at t) test over.value low (lower d kind (edge_at t) test its over.value lowest over.beyond)
        (covers over.value (each_beyond Early (λ (x : EdgeTime). low_over d kind rows tests (edge_at x)) over.value times None t c over.is))

-- the same for a store of which the graph is
module _ (g : Graphed) (s : Stored) (same : g.stored ≡ s) (num : IsNumbered s) (linked : IsLinked s.design) (is : IsGraph g) where
  g_num : IsNumbered g.stored
  g_num = subst (λ (z : Stored). IsNumbered z) (sym same) num

  g_linked : IsLinked g.stored.design
  g_linked = subst (λ (z : Stored). IsLinked z.design) (sym same) linked

  pub end_low_is : (rows : List TreeRow) → IsClockTree g rows → (kind : Kind) (end : ℕ) (tests : List EndTest) → AreEndTestsOf g kind end tests
      → (times : List EdgeTime) → All (λ (t : EdgeTime). t.clock < length s.design.constraints.clocks) times → (low : Option ℤ)
      → ((v : ℤ) → IsBeyond Early (low_on s.design kind rows tests times) v → IsBeyond Early low v) → IsEndLow s kind end times low
  end_low_is rows tree kind end tests are times clocks low covers =
      (subst
      (λ (z : Stored). All (λ (t : EdgeTime). t.clock < length z.design.constraints.clocks) times
      → ((v : ℤ) → IsBeyond Early (low_on z.design kind rows tests times) v → IsBeyond Early low v) → IsEndLow z kind end times low) same
      (λ clocks covers. low_is g g_num g_linked is rows tree kind end tests are times clocks low covers)) clocks covers

-- the clocks of a node's times are there
all_of : {X : Type 0} (p : X → Type 0) (xs : List X) → ((x : X) → Contains xs x → p x) → All p xs
all_of p [] each = All-nil p
all_of p (x ∷ xs) each = All-cons p x xs (each x (first_in x xs)) (all_of p xs (λ y c. each y (later_in x xs y c)))

abbrev HasClock : Design → EdgeTime → Type 0
HasClock d t = t.clock < length d.constraints.clocks

time_low : (d : Design) (f : ℕ × Tran → Option ℤ) (t : EdgeTime) → Contains (filter_map (λ e. option_map (edge_time e) (f e)) (launch_edges d)) t → HasClock d t
time_low d f t c =
    let m = in_filter_map_back (λ e. option_map (edge_time e) (f e)) (launch_edges d) t c in
    let r = mapped_back (edge_time m.item) (f m.item) t m.same in
    subst (λ (k : ℕ). k < length d.constraints.clocks) (ap (λ (x : EdgeTime). x.clock) r.2) (launch_clock d m.item m.within)

step_low : (d : Design) (split : Split) (f : Node → NodeRow) (n : Node) (t : EdgeTime) → Contains (times_in split (step d f n)) t → HasClock d t
step_low d Early f n t c = time_low d (arrival_of d Early f n) t c
step_low d Late f n t c = time_low d (arrival_of d Late f n) t c

module _ (g : Graphed) (num : IsNumbered g.stored) (linked : IsLinked g.stored.design) (is : IsGraph g) where
  row_low : (split : Split) (n : ℕ) (o : Option Node) → node_at g.stored n ≡ o → All (HasClock g.stored.design) (times_in split (option_map_or (row g.stored.design) o empty_row))
  row_low Early n None e = All-nil (HasClock g.stored.design)
  row_low Late n None e = All-nil (HasClock g.stored.design)
  row_low split n (Some a) e =
      all_of (HasClock g.stored.design) (times_in split (row g.stored.design a))
      (λ t c. step_low g.stored.design split (row g.stored.design) a t
      (subst (λ (r : NodeRow). Contains (times_in split r) t) ((timed g num linked is).stepped a (has_node g.stored num linked n a e).has.within) c))

  times_low : (split : Split) (n : ℕ) → All (HasClock g.stored.design) (times_in split (row_numbered g.stored n))
  times_low split n = row_low split n (node_at g.stored n) refl

-- the clocks of the times of a number
pub rows_low : (g : Graphed) (s : Stored) → g.stored ≡ s → IsNumbered s → IsLinked s.design → IsGraph g → (split : Split) (n : ℕ)
    → All (λ (t : EdgeTime). t.clock < length s.design.constraints.clocks) (times_in split (row_numbered s n))
rows_low g s same num linked is split n =
    subst (λ (z : Stored). All (λ (t : EdgeTime). t.clock < length z.design.constraints.clocks) (times_in split (row_numbered z n))) same
    (times_low g (g_num g s same num linked is) (g_linked g s same num linked is) is split n)
