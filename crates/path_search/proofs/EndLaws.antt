-- The tests of an end node as they are told, and what a design in which nothing leaves its limit tells of them.

use Rattle.std.proofs.Common.{◌≡◌, ℕ, ◌+◌, ◌<◌, ℤ, Bool, true, false, List, [], ◌∷◌, ◌++◌, length, take, get_or, unsigned_abs, Option, None, Some, refl, sym, ap, subst, ◌∙◌, inl, inr, arith}
use Rattle.std.specs.Prelude.{Contains, All, IfSome, ◌&&◌, ◌||◌, option_and_then}
use Rattle.std.specs.List.{list_any}
use Rattle.std.specs.Option.{option_map_or}
use Rattle.std.specs.Str.{bytes_eq}
use Rattle.std.proofs.lemmas.Bool.{cases_Bool, true≢false, or_parts, leb-true}
use Rattle.std.proofs.lemmas.List.{take_more}
use Rattle.std.proofs.lemmas.List.Elements.{All-nil, All-cons}
use Rattle.std.proofs.lemmas.Option.{slice_get_within}
use Rattle.sta_units.specs.Numbers.{limit, Within}
use Rattle.timing_defs.specs.declared.kinds.Split.{Split}
use Rattle.timing_defs.specs.declared.kinds.Split.TheVariants.{Early, Late}
use Rattle.timing_defs.specs.declared.kinds.Tran.{Tran}
use Rattle.timing_defs.specs.declared.kinds.Tran.TheVariants.{Rise, Fall}
use Rattle.timing_defs.specs.declared.kinds.Kind.{Kind}
use Rattle.timing_defs.specs.declared.kinds.Kind.TheVariants.{Setup, Hold}
use Rattle.timing_defs.specs.declared.faults.Place.TheVariants.{Pin as at_pin, Net as at_net}
use Rattle.timing_defs.specs.declared.faults.Fault.{Fault}
use Rattle.timing_defs.specs.declared.faults.Fault.TheVariants.{UnknownInstance, UnknownNet, UnknownCell, UnknownPin, NameTaken, PinsDiffer, AlreadyConnected, NotConnected, InUse, ManyDrivers, Loop, ClockNotTree, ConstraintDangling, RcNotTree, RcPinsDiffer, OutOfRange, TooLarge, Memory as no_room}
use Rattle.timing_defs.specs.declared.rows.Capture.{Capture}
use Rattle.timing_defs.specs.declared.design.Design.{Design}
use Rattle.timing_defs.specs.Netlist.{Node, nodes, pins, name_of, both_nodes}
use Rattle.timing_rules.specs.Tests.{Test, tests_at}
use Rattle.timing_defs.specs.Kinds.{data_split}
use Rattle.timing_defs.specs.Kinds.{kind_of}
use Rattle.timing_rules.specs.Rows.{launch_edges}
use Rattle.timing_rules.specs.Range.{is_net_origin, is_forward_origin, is_need_origin, is_required_origin, is_back_origin, is_node_origin, NoOrigin}
use Rattle.timing_rules.specs.Paths.{named, owner_named}
use Rattle.netlist_store.specs.Numbering.{Stored, name_at, IsNumbered}
use Rattle.netlist_store.specs.Linked.{IsLinked}
use Rattle.pin_graph.specs.Nodes.{node_at, node_bound, pin_under}
use Rattle.pin_graph.specs.Graphs.{Graphed, IsGraph, place_at}
use Rattle.pin_graph.specs.RowTables.{AreRowsFine}
use Rattle.timing_defs.proofs.Members.{some_is, any_in, in_flat_map, first_in, later_in}
use Rattle.timing_defs.proofs.SameNames.{same_self}
use Rattle.pin_graph.proofs.NodeLaws.{has_node, node_below, under_number}
use Rattle.node_tests.specs.declared.node_test.NodeTest.{NodeTest}
use Rattle.node_tests.specs.NodeTests.{IsClockNode, IsTest, AreTests, tests_numbered, is_wide_numbered, IsTestFault}
use Rattle.pessimism_credit.specs.declared.rows.TreeRow.{TreeRow}
use Rattle.path_search.specs.declared.ends.EndTest.{EndTest}
use Rattle.path_search.specs.declared.launches.LaunchNode.{LaunchNode}
use Rattle.path_search.specs.Trees.{IsClockTree}
use Rattle.path_search.specs.Slacks.{IsTestFine, IsEndTest, AreEndTests, AreEndTestsOf, IsToldTest, AreToldTests, IsLaunchNode, IsReadyLaunch, IsReadyTest}
use Rattle.path_search.proofs.TreeLaws.{placed_node}
use Rattle.path_search.proofs.TestRanges.{tests_fine}

none_at : {X : Type 0} (f : X → Bool) (xs : List X) → list_any f xs ≡ false → (x : X) → Contains xs x → f x ≡ false
none_at f xs none x c = elim (cases_Bool (f x)) [
  | inr e ↦ e
  | inl e ↦ absurd (true≢false (sym (any_in f xs x c e) ∙ none))
]

and_then : (a b : Bool) → a ≡ true → (a && b) ≡ false → b ≡ false
and_then true b h k = k
and_then false b h k = absurd (true≢false (sym h))

-- where there is no origin
module _ (d : Design) (none : NoOrigin d) where
  node_calm : (n : Node) → Contains (nodes d) n → is_node_origin d n ≡ false
  node_calm n c =
      and_then (bytes_eq (name_of n.pin) (name_of n.pin)) (is_node_origin d n) (same_self (name_of n.pin))
      (none_at (λ (m : Node). bytes_eq (name_of m.pin) (name_of n.pin) && is_node_origin d m) (nodes d) (none (at_pin (name_of n.pin))) n c)

  split_calm : (n : Node) → Contains (nodes d) n → (split : Split) → (is_forward_origin d split n ≡ false) × (is_back_origin d split n ≡ false)
  split_calm n c split =
      let both = or_parts (is_forward_origin d Early n || is_back_origin d Early n) (is_forward_origin d Late n || is_back_origin d Late n) (node_calm n c) in
      by split both.0 both.1
    where
      by : (t : Split) → (is_forward_origin d Early n || is_back_origin d Early n) ≡ false → (is_forward_origin d Late n || is_back_origin d Late n) ≡ false
          → (is_forward_origin d t n ≡ false) × (is_back_origin d t n ≡ false)
      by Early e l = or_parts (is_forward_origin d Early n) (is_back_origin d Early n) e
      by Late e l = or_parts (is_forward_origin d Late n) (is_back_origin d Late n) l

  pub rows_fine : AreRowsFine d
  rows_fine = record {
    nets = λ net listed. and_then (list_any (bytes_eq net) d.nets) (is_net_origin d net) listed (none (at_net net));
    nodes = λ n c split. (split_calm n c split).0;
  }

  kind_again : (kind : Kind) → kind_of (data_split kind) ≡ kind
  kind_again Setup = refl
  kind_again Hold = refl

  need_calm : (kind : Kind) (n : Node) → Contains (nodes d) n → is_need_origin d kind n ≡ false
  need_calm kind n c =
      let both =
      or_parts (is_need_origin d (kind_of (data_split kind)) n) (list_any (is_required_origin d (data_split kind) n) (launch_edges d)) (split_calm n c (data_split kind)).1 in
      ap (λ (k : Kind). is_need_origin d k n) (sym (kind_again kind)) ∙ both.0

both_in : (n : Node) → Contains (both_nodes n.pin) n
both_in n = by n.tran refl
  where
    by : (t : Tran) → n.tran ≡ t → Contains (both_nodes n.pin) n
    by Rise e = (0, omega arith, (λ k. record { pin = n.pin; tran = sym e k }))
    by Fall e = (1, omega arith, (λ k. record { pin = n.pin; tran = sym e k }))

module _ (s : Stored) (num : IsNumbered s) (linked : IsLinked s.design) (none : NoOrigin s.design) where
  node_in : (number : ℕ) (n : Node) → node_at s number ≡ Some n → Contains (nodes s.design) n
  node_in number n e = in_flat_map both_nodes (pins s.design) n.pin n (has_node s num linked number n e).has.within (both_in n)

  pub wide_calm : (kind : Kind) (number : ℕ) → is_wide_numbered s kind number ≡ false
  wide_calm kind number = by (node_at s number) refl
    where
      by : (o : Option Node) → node_at s number ≡ o → option_map_or (is_need_origin s.design kind) (node_at s number) false ≡ false
      by None e = ap (λ o. option_map_or (is_need_origin s.design kind) o false) e
      by (Some n) e = ap (λ o. option_map_or (is_need_origin s.design kind) o false) e ∙ need_calm s.design none kind n (node_in number n e)

  -- so the tests of a node fail for want of memory alone
  pub fault_is : (kind : Kind) (number : ℕ) (fault : Fault) → IsTestFault s kind number fault → fault ≡ no_room
  fault_is kind number no_room h = refl
  fault_is kind number (OutOfRange place) h = absurd (true≢false (sym h.1 ∙ wide_calm kind number))
  fault_is kind number (UnknownInstance x) h = absurd h
  fault_is kind number (UnknownNet x) h = absurd h
  fault_is kind number (UnknownCell x) h = absurd h
  fault_is kind number (UnknownPin x) h = absurd h
  fault_is kind number (NameTaken x) h = absurd h
  fault_is kind number (PinsDiffer x) h = absurd h
  fault_is kind number (AlreadyConnected x) h = absurd h
  fault_is kind number (NotConnected x) h = absurd h
  fault_is kind number (InUse x) h = absurd h
  fault_is kind number (ManyDrivers x) h = absurd h
  fault_is kind number (Loop x) h = absurd h
  fault_is kind number (ClockNotTree x) h = absurd h
  fault_is kind number (ConstraintDangling x) h = absurd h
  fault_is kind number (RcNotTree x) h = absurd h
  fault_is kind number (RcPinsDiffer x) h = absurd h
  fault_is kind number (TooLarge x) h = absurd h

module _ (s : Stored) (num : IsNumbered s) (linked : IsLinked s.design) where
  -- the clock pins' nodes of tests are nodes
  pub clocks_low : (found : List NodeTest) (tests : List Test) → AreTests s found tests → All (λ t. IfSome t.clock (λ n. n < node_bound s)) found
  clocks_low [] [] h = All-nil (λ (t : NodeTest). IfSome t.clock (λ n. n < node_bound s))
  clocks_low (x ∷ xs) (t ∷ ts) h = All-cons (λ (y : NodeTest). IfSome y.clock (λ n. n < node_bound s)) x xs (by x.clock t.clock h.0.clock) (clocks_low xs ts h.1)
    where
      by : (a : Option ℕ) (b : Option Node) → IsClockNode s a b → IfSome a (λ n. n < node_bound s)
      by None b k = tt
      by (Some n) (Some m) k = node_below s m n (has_node s num linked n m k)
      by (Some n) None k = absurd k
  clocks_low [] (t ∷ ts) h = absurd h
  clocks_low (x ∷ xs) [] h = absurd h

-- tests with what captures there, one more
told_append : (s : Stored) (g : Graphed) (pin : ℕ) (xs : List NodeTest) (ys : List EndTest) (x : NodeTest) (y : EndTest) → AreToldTests s g pin xs ys → IsToldTest s g pin x y
    → AreToldTests s g pin (xs ++ x ∷ []) (ys ++ y ∷ [])
told_append s g pin [] [] x y h k = (k, tt)
told_append s g pin (a ∷ xs) (b ∷ ys) x y h k = (h.0, told_append s g pin xs ys x y h.1 k)
told_append s g pin [] (b ∷ ys) x y h k = absurd h
told_append s g pin (a ∷ xs) [] x y h k = absurd h

pub told_more : (s : Stored) (g : Graphed) (pin : ℕ) (found : List NodeTest) (i : ℕ) (d : NodeTest) (tests more : List EndTest) (y : EndTest) → i < length found
    → AreToldTests s g pin (take i found) tests → IsToldTest s g pin (get_or found i d) y → more ≡ tests ++ y ∷ [] → AreToldTests s g pin (take (i + 1) found) more
told_more s g pin found i d tests more y low h k put =
    subst (λ (ys : List EndTest). AreToldTests s g pin (take (i + 1) found) ys) (sym put)
    (subst (λ (xs : List NodeTest). AreToldTests s g pin xs (tests ++ y ∷ [])) (sym (take_more found i d low))
    (told_append s g pin (take i found) tests (get_or found i d) y h k))

-- the tests of an end node, as the definition has them
module _ (g : Graphed) (num : IsNumbered g.stored) (linked : IsLinked g.stored.design) (is : IsGraph g) (none : NoOrigin g.stored.design) (kind : Kind) (end : ℕ) where
  module _ (node : Node) (its : node_at g.stored end ≡ Some node) (pin : ℕ) (under : pin ≡ pin_under end) where
    its_name : name_at g.stored.pins pin ≡ Some (name_of node.pin)
    its_name =
        let h = has_node g.stored num linked end node its in
        ap (name_at g.stored.pins) (under ∙ ap pin_under h.number ∙ under_number h.pin node.tran) ∙ h.has.name

    one_end : (found : NodeTest) (told : EndTest) (test : Test) → IsTest g.stored found test → IsToldTest g.stored g pin found told → IsTestFine g.stored.design test
        → IsEndTest g (named node) told test
    one_end found told test t k fine =
        let name : told.capture.pin ≡ name_of node.pin = some_is (sym k.name ∙ its_name) in
        let clock : told.capture.clock ≡ test.capture.0 = k.clock ∙ ap (λ (x : ℕ × Tran). x.0) t.capture in
        record {
          its = subst (λ (x : NodeTest). IsTest g.stored x test) (sym k.test) t;
          capture = λ i. record { pin = name i; cell = (k.cell ∙ ap (owner_named g.stored.design) name) i; clock = clock i };
          place = k.place ∙ ap (λ (x : NodeTest). option_and_then (place_at g) x.clock) (sym k.test);
          fine = fine;
        }

    all_ends : (found : List NodeTest) (told : List EndTest) (tests : List Test) → AreTests g.stored found tests → AreToldTests g.stored g pin found told
        → ((test : Test) → Contains tests test → IsTestFine g.stored.design test) → AreEndTests g (named node) told tests
    all_ends [] [] [] a b fine = tt
    all_ends (f ∷ fs) (t ∷ ts) (x ∷ xs) a b fine =
        (one_end f t x a.0 b.0 (fine x (first_in x xs)), all_ends fs ts xs a.1 b.1 (λ y c. fine y (later_in x xs y c)))
    all_ends [] (t ∷ ts) xs a b fine = absurd b
    all_ends (f ∷ fs) [] xs a b fine = absurd b
    all_ends (f ∷ fs) ts [] a b fine = absurd a
    all_ends [] ts (x ∷ xs) a b fine = absurd a

  pub ends_told : (pin : ℕ) → pin ≡ pin_under end → (found : List NodeTest) (told : List EndTest) → AreTests g.stored found (tests_numbered g.stored kind end)
      → AreToldTests g.stored g pin found told → AreEndTestsOf g kind end told
  ends_told pin under found told a b = λ node its.
      all_ends node its pin under found told (tests_numbered g.stored kind end) a b
      (λ test c. tests_fine g num linked is (rows_fine g.stored.design none) kind node (has_node g.stored num linked end node its).has.within
      (sym (ap (λ o. option_map_or (is_need_origin g.stored.design kind) o false) its) ∙ wide_calm g.stored num linked none kind end) test
      (subst (λ (xs : List Test). Contains xs test) (ap (λ o. option_map_or (tests_at g.stored.design kind) o []) its) c))

-- what is asked of tests and launch nodes for a slack
module _ (g : Graphed) (num : IsNumbered g.stored) (linked : IsLinked g.stored.design) (is : IsGraph g) (rows : List TreeRow) (tree : IsClockTree g rows) where
  pub place_within : (number : ℕ) (o : Option ℕ) → o ≡ place_at g number → IfSome o (λ p. p < length rows)
  place_within number None e = tt
  place_within number (Some p) e =
      let n = placed_node g is num linked number p (sym e) in
      let r = tree.each number p n.0 (sym e) n.1 in
      slice_get_within rows p r.row r.at

  capture_within : (clock : Option ℕ) (o : Option ℕ) → o ≡ option_and_then (place_at g) clock → IfSome o (λ p. p < length rows)
  capture_within clock None e = tt
  capture_within None (Some p) e = absurd (cc)
  capture_within (Some number) (Some p) e = place_within number (Some p) e

  ready_test : (end : Node) (told : EndTest) (test : Test) → IsEndTest g (named end) told test → IsReadyTest g.stored.design told
  ready_test end told test t = record {
    clock = subst (λ (n : ℕ). n < length g.stored.design.constraints.clocks) (sym (ap (λ (x : ℕ × Tran). x.0) t.its.capture)) t.fine.clock;
    same = ap (λ (c : Capture). c.clock) t.capture ∙ sym (ap (λ (x : ℕ × Tran). x.0) t.its.capture);
    need = subst (λ (z : ℤ). Within z) (sym t.its.need) (leb-true (unsigned_abs test.need) limit t.fine.need);
    early = subst (λ (z : ℤ). Within z) (sym t.its.early) (leb-true (unsigned_abs test.early) limit t.fine.early);
    late = subst (λ (z : ℤ). Within z) (sym t.its.late) (leb-true (unsigned_abs test.late) limit t.fine.late);
  }

  pub ready_tests : (end : Node) (told : List EndTest) (tests : List Test) → AreEndTests g (named end) told tests → All (IsReadyTest g.stored.design) told
  ready_tests end [] [] h = All-nil (IsReadyTest g.stored.design)
  ready_tests end (x ∷ xs) (t ∷ ts) h = All-cons (IsReadyTest g.stored.design) x xs (ready_test end x t h.0) (ready_tests end xs ts h.1)
  ready_tests end [] (t ∷ ts) h = absurd h
  ready_tests end (x ∷ xs) [] h = absurd h

  pub places_within : (end : Node) (told : List EndTest) (tests : List Test) → AreEndTests g (named end) told tests → All (λ t. IfSome t.place (λ p. p < length rows)) told
  places_within end [] [] h = All-nil (λ (t : EndTest). IfSome t.place (λ p. p < length rows))
  places_within end (x ∷ xs) (t ∷ ts) h =
      All-cons (λ (y : EndTest). IfSome y.place (λ p. p < length rows)) x xs (capture_within x.test.clock x.place h.0.place) (places_within end xs ts h.1)
  places_within end [] (t ∷ ts) h = absurd h
  places_within end (x ∷ xs) [] h = absurd h

  pub ready_launch : (split : Split) (number : ℕ) (l : LaunchNode) → IsLaunchNode g split number l → IsReadyLaunch g.stored.design l
  ready_launch split number l launch = record { clock = launch.clock; time = launch.time }
