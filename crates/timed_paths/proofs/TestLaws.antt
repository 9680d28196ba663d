-- The tests of a node as they are told are those of the definition.

use Rattle.std.proofs.Common.{◌≡◌, ℕ, ◌<◌, ℤ, Bool, true, false, List, [], ◌∷◌, map, Option, None, Some, refl, sym, ap, subst, ◌∙◌}
use Rattle.std.specs.Prelude.{All, Contains, IfSome, option_and_then}
use Rattle.std.specs.Option.{option_map_or, unwrap_or}
use Rattle.std.proofs.lemmas.List.Elements.{All-nil, All-cons}
use Rattle.timing_defs.specs.declared.kinds.Kind.{Kind}
use Rattle.timing_defs.specs.declared.kinds.Tran.{Tran}
use Rattle.timing_defs.specs.Netlist.{Node}
use Rattle.timing_defs.proofs.Members.{none_in, some_is, first_in, later_in}
use Rattle.timing_rules.specs.Range.{NoOrigin, is_need_origin}
use Rattle.timing_rules.specs.Tests.{Test, tests_at, network_walk}
use Rattle.netlist_store.specs.Linked.{IsLinked}
use Rattle.netlist_store.specs.Numbering.{Stored, is_number, IsNumbered}
use Rattle.node_tests.specs.declared.node_test.NodeTest.{NodeTest}
use Rattle.node_tests.specs.NodeTests.{IsClockNode, IsTest, AreTests, tests_numbered}
use Rattle.pin_graph.specs.Nodes.{node_at, node_bound, pin_under}
use Rattle.pin_graph.specs.Graphs.{Graphed, IsGraph}
use Rattle.pin_graph.proofs.NodeLaws.{has_node, node_below}
use Rattle.path_search.specs.Slacks.{IsCaptureWalk, IsTestFine}
use Rattle.path_search.proofs.EndLaws.{rows_fine, wide_calm}
use Rattle.path_search.proofs.NumberNames.{number_there}
use Rattle.path_search.proofs.TestRanges.{tests_fine}
use Rattle.timed_paths.specs.TestNumbers.{walk_of, test_of, IsKnownTest}

clock_is : (s : Stored) (a : Option ℕ) (b : Option Node) → IsClockNode s a b → option_and_then (node_at s) a ≡ b
clock_is s None None h = refl
clock_is s (Some k) (Some n) h = h
clock_is s None (Some n) h = absurd h
clock_is s (Some k) None h = absurd h

walk_is : (s : Stored) (a : Option ℕ) (b : Option Node) (walk : List Node) → option_and_then (node_at s) a ≡ b → IsCaptureWalk s.design b walk → walk_of s a ≡ walk
walk_is s a None walk e w = ap (λ o. option_map_or (λ n. unwrap_or (network_walk s.design n) []) o []) e ∙ sym w
walk_is s a (Some n) walk e w = ap (λ o. option_map_or (λ n. unwrap_or (network_walk s.design n) []) o []) e ∙ ap (λ o. unwrap_or o []) w

test_is : (s : Stored) (told : NodeTest) (test : Test) → IsTest s told test → IsTestFine s.design test → test_of s told ≡ test
test_is s told test t fine =
    let clock = clock_is s told.clock test.clock t.clock in
    let walk = walk_is s told.clock test.clock test.walk clock fine.walk in
    let need = t.need in
    let capture = t.capture in
    let early = t.early in
    let late = t.late in
    λ i. record { clock = clock i; walk = walk i; need = need i; capture = capture i; early = early i; late = late i }

known_is : (s : Stored) (told : NodeTest) (test : Test) → IsTest s told test → IsTestFine s.design test → IsKnownTest s told
known_is s told test t fine =
    let same = test_is s told test t fine in
    record { its = subst (λ (u : Test). IsTest s told u) (sym same) t; fine = subst (λ (u : Test). IsTestFine s.design u) (sym same) fine }

all_are : (s : Stored) (found : List NodeTest) (tests : List Test) → AreTests s found tests → ((t : Test) → Contains tests t → IsTestFine s.design t) → map (test_of s) found ≡ tests
all_are s [] [] a fine = refl
all_are s (x ∷ xs) (t ∷ ts) a fine =
    let here = test_is s x t a.0 (fine t (first_in t ts)) in
    let rest = all_are s xs ts a.1 (λ u c. fine u (later_in t ts u c)) in
    λ i. here i ∷ rest i
all_are s [] (t ∷ ts) a fine = absurd a
all_are s (x ∷ xs) [] a fine = absurd a

all_known : (s : Stored) (found : List NodeTest) (tests : List Test) → AreTests s found tests → ((t : Test) → Contains tests t → IsTestFine s.design t) → All (IsKnownTest s) found
all_known s [] [] a fine = All-nil (IsKnownTest s)
all_known s (x ∷ xs) (t ∷ ts) a fine =
    All-cons (IsKnownTest s) x xs (known_is s x t a.0 (fine t (first_in t ts))) (all_known s xs ts a.1 (λ u c. fine u (later_in t ts u c)))
all_known s [] (t ∷ ts) a fine = absurd a
all_known s (x ∷ xs) [] a fine = absurd a

module _ (g : Graphed) (num : IsNumbered g.stored) (linked : IsLinked g.stored.design) (is : IsGraph g) (none : NoOrigin g.stored.design) (kind : Kind) (end : ℕ) where
  each_fine : (t : Test) → Contains (tests_numbered g.stored kind end) t → IsTestFine g.stored.design t
  each_fine t c = by (node_at g.stored end) refl c
    where
      by : (o : Option Node) → node_at g.stored end ≡ o → Contains (option_map_or (tests_at g.stored.design kind) o []) t → IsTestFine g.stored.design t
      by None e h = absurd (none_in t h)
      by (Some node) e h =
          tests_fine g num linked is (rows_fine g.stored.design none) kind node (has_node g.stored num linked end node e).has.within
          (sym (ap (λ o. option_map_or (is_need_origin g.stored.design kind) o false) e) ∙ wide_calm g.stored num linked none kind end) t h

-- the same for a store of which the graph is
module _ (g : Graphed) (s : Stored) (same : g.stored ≡ s) (num : IsNumbered s) (linked : IsLinked s.design) (is : IsGraph g) (none : NoOrigin s.design) (kind : Kind) (end : ℕ) where
  fine_here : (t : Test) → Contains (tests_numbered s kind end) t → IsTestFine s.design t
  fine_here =
      subst (λ (z : Stored). IsNumbered z → IsLinked z.design → NoOrigin z.design → (t : Test) → Contains (tests_numbered z kind end) t → IsTestFine z.design t) same
      (λ a b c. each_fine g a b is c kind end) num linked none

  pub tests_are : (found : List NodeTest) → AreTests s found (tests_numbered s kind end) → map (test_of s) found ≡ tests_numbered s kind end
  tests_are found a = all_are s found (tests_numbered s kind end) a fine_here

  pub tests_known : (found : List NodeTest) → AreTests s found (tests_numbered s kind end) → All (IsKnownTest s) found
  tests_known found a = all_known s found (tests_numbered s kind end) a fine_here

-- the clock pin's node of a known test is there
clock_known : (s : Stored) → IsNumbered s → IsLinked s.design → (a : Option ℕ) (b : Option Node) → IsClockNode s a b
    → IfSome a (λ n. n < node_bound s) × IfSome a (λ n. is_number s.pins (pin_under n) ≡ true)
clock_known s num linked None b h = (tt, tt)
clock_known s num linked (Some k) None h = absurd h
clock_known s num linked (Some k) (Some node) h = (node_below s node k (has_node s num linked k node h), number_there s k node h)

pub clock_low : (s : Stored) → IsNumbered s → IsLinked s.design → (t : NodeTest) → IsKnownTest s t → IfSome t.clock (λ n. n < node_bound s)
clock_low s num linked t k = (clock_known s num linked t.clock (option_and_then (node_at s) t.clock) k.its.clock).0

pub clock_there : (s : Stored) → IsNumbered s → IsLinked s.design → (t : NodeTest) → IsKnownTest s t → IfSome t.clock (λ n. is_number s.pins (pin_under n) ≡ true)
clock_there s num linked t k = (clock_known s num linked t.clock (option_and_then (node_at s) t.clock) k.its.clock).1
