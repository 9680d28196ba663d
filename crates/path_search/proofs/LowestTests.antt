-- The lowest offer of a test on a launch edge is a lowest slack of paths that are launched on it.

use Rattle.std.proofs.Common.{◌≡◌, ℕ, suc, ◌<◌, ℤ, pos, ◌+ℤ◌, ◌-ℤ◌, ◌≤ℤ◌, List, [], ◌∷◌, map, length, Option, None, Some, sym, ap, subst, ◌∙◌, inl, inr, arith}
use Rattle.std.specs.Prelude.{Contains, option_and_then}
use Rattle.std.specs.Int.{int_min}
use Rattle.std.proofs.lemmas.Int.{ints, clamps}
use Rattle.timing_defs.specs.declared.kinds.Kind.{Kind}
use Rattle.timing_defs.specs.declared.kinds.Kind.TheVariants.{Setup, Hold}
use Rattle.timing_defs.specs.declared.kinds.Tran.{Tran}
use Rattle.timing_defs.specs.declared.rows.Launch.{Launch}
use Rattle.timing_defs.specs.declared.rows.Capture.{Capture}
use Rattle.timing_defs.specs.declared.design.Design.{Design}
use Rattle.timing_defs.specs.Netlist.{Node}
use Rattle.timing_rules.specs.Tests.{Test, network_walk, first_edge, uncertainty_on}
use Rattle.timing_defs.specs.Kinds.{data_split}
use Rattle.timing_rules.specs.Paths.{Named, named, start_of, moved, slack_by, spread_at}
use Rattle.netlist_store.specs.Linked.{IsLinked}
use Rattle.netlist_store.specs.Numbering.{IsNumbered}
use Rattle.pin_graph.specs.Nodes.{node_at}
use Rattle.pin_graph.specs.Graphs.{Graphed, IsGraph, place_at}
use Rattle.timing_defs.proofs.Members.{some_is, none_in, in_cases, first_in, later_in}
use Rattle.pessimism_credit.specs.declared.rows.TreeRow.{TreeRow}
use Rattle.pessimism_credit.specs.Credit.{root_path, pessimism_at, least_over, least_credit_of}
use Rattle.node_tests.specs.declared.node_test.NodeTest.{NodeTest}
use Rattle.node_tests.specs.NodeTests.{IsClockNode, IsTest}
use Rattle.bounded_changes.specs.Carried.{IsSharing, IsLowest}
use Rattle.path_search.specs.Lows.{low_apart, low_credit}
use Rattle.path_search.specs.Slacks.{IsCaptureWalk, IsTestFine, test_told}
use Rattle.path_search.specs.Trees.{walk_edge, IsClockTree}
use Rattle.path_search.proofs.LowParts.{IsLessFor, least_low, moved_less}
use Rattle.path_search.proofs.NodeNames.{named_back}
use Rattle.path_search.proofs.Prefixes.{walk_is_told}
use Rattle.path_search.proofs.Starts.{port_started}
use Rattle.path_search.proofs.TreeCredits.{its_timing, there_at, IsAt, AreAt, rooted, spread_there, placed_of_walk}

-- the least over places is at most what each has
least_each : (rows : List TreeRow) (places : List ℕ) (p : ℕ) → Contains places p → least_over rows places ≤ℤ pessimism_at rows p
least_each rows [] p c = absurd (none_in p c)
least_each rows (q ∷ places) p c = elim (in_cases q places p c) [
  | inl e ↦ subst (λ (r : ℕ). int_min (pessimism_at rows q) (least_over rows places) ≤ℤ pessimism_at rows r) e (first (pessimism_at rows q) (least_over rows places))
  | inr later ↦ let low = least_each rows places p later in further (pessimism_at rows q) (least_over rows places) (pessimism_at rows p) low
]
  where
    first : (x y : ℤ) → int_min x y ≤ℤ x
    first x y = omega (arith, ints, clamps)

    further : (x y z : ℤ) → y ≤ℤ z → int_min x y ≤ℤ z
    further x y z low = omega (arith, ints, clamps, low)

least_none : (rows : List TreeRow) (place : Option ℕ) → low_credit rows place ≤ℤ pos 0
least_none rows None = omega (arith, ints)
least_none rows (Some b) = least_low rows b

-- a separation that is less gives a lesser slack
setup_less : (early need unc low sep credit : ℤ) → low ≤ℤ sep → (early +ℤ low -ℤ need -ℤ unc +ℤ credit -ℤ pos 0) ≤ℤ (early +ℤ sep -ℤ need -ℤ unc +ℤ credit -ℤ pos 0)
setup_less early need unc low sep credit h = omega (arith, ints, h)

hold_less : (late need unc low sep credit : ℤ) → sep ≤ℤ low → (pos 0 -ℤ late -ℤ low -ℤ need -ℤ unc +ℤ credit) ≤ℤ (pos 0 -ℤ late -ℤ sep -ℤ need -ℤ unc +ℤ credit)
hold_less late need unc low sep credit h = omega (arith, ints, h)

module _ (g : Graphed) (num : IsNumbered g.stored) (linked : IsLinked g.stored.design) (is : IsGraph g) (rows : List TreeRow) (tree : IsClockTree g rows) (kind : Kind) where
  abbrev d : Design
  d = g.stored.design

  -- what `low_told` has of a test and the place of its clock pin's node
  abbrev low_by : ℕ × Tran → NodeTest → Option ℕ → Kind → ℤ
  low_by edge told place k =
      slack_by k (test_told told) (low_apart d k edge (told.capture_clock, told.capture_tran)) (uncertainty_on d k told.capture_clock) (low_credit rows place) (pos 0)

  -- a node of a walk has a place
  record IsPlacedIn (edge : Option (ℕ × Tran)) (places : List ℕ) (n : Named) : Type 0 where
    place : ℕ
    within : Contains places place
    node : Node
    at : IsAt g num linked is edge place node
    name : named node ≡ n

  placed_in : (edge : Option (ℕ × Tran)) (places : List ℕ) (walk : List Node) → AreAt g num linked is edge places walk → (n : Named) → Contains (map named walk) n → IsPlacedIn edge places n
  placed_in edge [] [] a n c = absurd (none_in n c)
  placed_in edge [] (w ∷ walk) a n c = absurd a
  placed_in edge (p ∷ places) [] a n c = absurd (none_in n c)
  placed_in edge (p ∷ places) (w ∷ walk) a n c = elim (in_cases (named w) (map named walk) n c) [
    | inl e ↦ record { place = p; within = first_in p places; node = w; at = a.0; name = e }
    | inr later ↦
        let r = placed_in edge places walk a.1 n later in
        record { place = r.place; within = later_in p places r.place r.within; node = r.node; at = r.at; name = r.name }
  ]

  module _ (edge : ℕ × Tran) (told : NodeTest) (place : Option ℕ) (test : Test) where
    -- the walk to a clock pin's node that a path shares starts on the path's edge
    module _ (c : ℕ) (clock : Node) (its : node_at g.stored c ≡ Some clock) (walk : network_walk d clock ≡ Some test.walk) where
      edge_shared : IsSharing d (data_split kind) edge (map named test.walk) → walk_edge d clock ≡ Some edge
      edge_shared share =
          let w = walk_is_told d (its_timing g num linked is) clock (there_at g num linked is c clock its) test.walk walk in
          let first : named w.first ≡ share.first =
          first_is (named w.first) (map named w.rest) share.first share.rest (sym (ap (map named) w.begins) ∙ share.begins) in
          let starts = subst (λ (n : Named). start_of d (data_split kind) n ≡ Some (edge, share.time)) (sym first) share.starts in
          ap (option_and_then (first_edge d)) walk ∙ ap (first_edge d) w.begins
          ∙ port_started d (data_split kind) (named w.first) w.first edge share.time (named_back d (its_timing g num linked is) w.first w.within) w.port starts
        where
          first_is : (a : Named) (more : List Named) (b : Named) (others : List Named) → a ∷ more ≡ b ∷ others → a ≡ b
          first_is a more b others e = cc

      spreads_at : (q : ℕ) → place_at g c ≡ Some q → IsSharing d (data_split kind) edge (map named test.walk) → (n : Named) → Contains (map named test.walk) n
          → least_credit_of rows q ≤ℤ spread_at d edge n
      spreads_at q at share n m =
          let r = rooted g num linked is rows tree (suc q) c q clock at its (omega arith) in
          let same : r.walk ≡ test.walk = some_is (sym r.told ∙ walk) in
          let places = subst (λ (o : Option (ℕ × Tran)). AreAt g num linked is o (root_path rows q) r.walk) (edge_shared share) r.at in
          let p = placed_in (Some edge) (root_path rows q) r.walk places n (subst (λ (w : List Node). Contains (map named w) n) (sym same) m) in
          subst (λ (z : ℤ). least_credit_of rows q ≤ℤ z) (spread_there g num linked is rows tree edge p.place p.node p.at ∙ ap (spread_at d edge) p.name)
          (least_each rows (root_path rows q) p.place p.within)

    module _ (its : IsTest g.stored told test) (at : place ≡ option_and_then (place_at g) told.clock) (fine : IsTestFine d test) where
      spreads_low : IsSharing d (data_split kind) edge (map named test.walk) → (n : Named) → Contains (map named test.walk) n → low_credit rows place ≤ℤ spread_at d edge n
      spreads_low share n m = by told.clock test.clock its.clock fine.walk at
        where
          by : (o : Option ℕ) (p : Option Node) → IsClockNode g.stored o p → IsCaptureWalk d p test.walk → place ≡ option_and_then (place_at g) o
              → low_credit rows place ≤ℤ spread_at d edge n
          by None None k w e = absurd (none_in n (subst (λ (ws : List Node). Contains (map named ws) n) w m))
          by None (Some clock) k w e = absurd k
          by (Some c) None k w e = absurd k
          by (Some c) (Some clock) k w e =
              let q = placed_of_walk g num linked is c clock test.walk k w in
              subst (λ (o : Option ℕ). low_credit rows o ≤ℤ spread_at d edge n) (sym (e ∙ q.1)) (spreads_at c clock k w q.0 q.1 share n m)

      below_low : edge.0 < length d.constraints.clocks → (launch : Launch) (capture : Capture)
          → low_by edge told place kind ≤ℤ slack_by kind test (moved d kind launch capture edge test.capture) (uncertainty_on d kind test.capture.0) (low_credit rows place) (pos 0)
      below_low low launch capture =
          by kind (subst (λ (to : ℕ × Tran). IsLessFor kind (low_apart d kind edge to) (moved d kind launch capture edge to)) its.capture
          (moved_less d linked kind rows launch capture edge (told.capture_clock, told.capture_tran) low
          (subst (λ (to : ℕ × Tran). to.0 < length d.constraints.clocks) (sym its.capture) fine.clock)))
        where
          by : (k : Kind) → IsLessFor k (low_apart d k edge test.capture) (moved d k launch capture edge test.capture)
              → low_by edge told place k ≤ℤ slack_by k test (moved d k launch capture edge test.capture) (uncertainty_on d k test.capture.0) (low_credit rows place) (pos 0)
          by Setup h =
              subst (λ (z : ℤ). z ≤ℤ slack_by Setup test (moved d Setup launch capture edge test.capture) (uncertainty_on d Setup test.capture.0) (low_credit rows place) (pos 0))
              (sym (λ k. its.early k +ℤ low_apart d Setup edge (its.capture k) -ℤ its.need k -ℤ uncertainty_on d Setup (its.capture k).0 +ℤ low_credit rows place -ℤ pos 0))
              (setup_less test.early test.need (uncertainty_on d Setup test.capture.0) (low_apart d Setup edge test.capture) (moved d Setup launch capture edge test.capture) (low_credit rows place) h)
          by Hold h =
              subst (λ (z : ℤ). z ≤ℤ slack_by Hold test (moved d Hold launch capture edge test.capture) (uncertainty_on d Hold test.capture.0) (low_credit rows place) (pos 0))
              (sym (λ k. pos 0 -ℤ its.late k -ℤ low_apart d Hold edge (its.capture k) -ℤ its.need k -ℤ uncertainty_on d Hold (its.capture k).0 +ℤ low_credit rows place))
              (hold_less test.late test.need (uncertainty_on d Hold test.capture.0) (low_apart d Hold edge test.capture) (moved d Hold launch capture edge test.capture) (low_credit rows place) h)

      pub lowest_of : edge.0 < length d.constraints.clocks → IsLowest d kind edge test (low_by edge told place kind)
      lowest_of low = record {
        credit = low_credit rows place;
        least = least_none rows place;
        spreads = spreads_low;
        below = below_low low;
      }
