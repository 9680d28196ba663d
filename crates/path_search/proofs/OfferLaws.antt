-- The slacks of a launch node by the tests of an end node are those of the definition, and their least is what the node offers.

use Rattle.std.proofs.Common.{◌≡◌, ◌⊎◌, ℕ, ◌^◌, ℤ, pos, ◌+ℤ◌, ◌-ℤ◌, ◌≤ℤ◌, unsigned_abs, Bool, true, false, cond, int_lt, List, [], ◌∷◌, map, filter, length, Option, None, Some, refl, sym, ap, subst, ◌∙◌, inl, inr, arith}
use Rattle.std.specs.Prelude.{Contains, if◌then◌else◌, option_and_then}
use Rattle.std.specs.Option.{option_map_or}
use Rattle.std.proofs.lemmas.Bool.{cases_Bool, leb-true}
use Rattle.std.proofs.lemmas.Int.{ints}
use borrow.Author.Differences.{lt-true, lt-false}
use Rattle.timing_defs.specs.declared.kinds.Split.TheVariants.{Early}
use Rattle.timing_defs.specs.declared.kinds.Tran.{Tran}
use Rattle.timing_defs.specs.declared.kinds.Kind.{Kind}
use Rattle.timing_defs.specs.declared.kinds.Kind.TheVariants.{Setup, Hold}
use Rattle.timing_defs.specs.Netlist.{Node}
use Rattle.timing_rules.specs.Clocking.{is_network}
use Rattle.timing_rules.specs.Rows.{outer_some, outermost, arrival}
use Rattle.timing_rules.specs.Tests.{Test, network_walk, tests_at, uncertainty_on}
use Rattle.timing_defs.specs.Kinds.{data_split}
use Rattle.timing_rules.specs.Paths.{Named, named, node_named, capture_of, last_common, spread_at, credit, moved, slack_by}
use Rattle.timing_rules.specs.Rules.{is_tested}
use Rattle.netlist_store.specs.Numbering.{Stored, IsNumbered}
use Rattle.netlist_store.specs.Linked.{IsLinked}
use Rattle.pin_graph.specs.Nodes.{node_at}
use Rattle.pin_graph.specs.Graphs.{Graphed, IsGraph, place_at}
use Rattle.timing_defs.proofs.Members.{none_in, in_cases, some_is, first_in, later_in}
use Rattle.pin_graph.proofs.NodeLaws.{has_node}
use Rattle.node_tests.specs.declared.node_test.NodeTest.{NodeTest}
use Rattle.node_tests.specs.NodeTests.{IsTest, IsClockNode, tests_numbered}
use Rattle.pessimism_credit.specs.declared.rows.TreeRow.{TreeRow}
use Rattle.path_search.specs.declared.ends.EndTest.{EndTest}
use Rattle.path_search.specs.declared.launches.LaunchNode.{LaunchNode}
use Rattle.path_search.specs.Launches.{launched_at, launch_slack, is_launch_tested, launch_slacks, walk_names, edge_of_launch, IsLaunched}
use Rattle.path_search.specs.Trees.{walk_edge, IsClockTree}
use Rattle.path_search.specs.Slacks.{IsCaptureWalk, IsEndTest, AreEndTests, edge_of_node, IsLaunchNode, test_told, credit_told, slack_told, slack_where, least_slack, IsNodeOffer, is_low}
use Rattle.path_search.proofs.Setting.{timed}
use Rattle.path_search.proofs.NodeNames.{named_back}
use Rattle.path_search.proofs.Launching.{edge_walked}
use Rattle.path_search.proofs.TreeLaws.{placed_node}
use Rattle.path_search.proofs.TreeCredits.{credit_by_places, placed_of_walk}

-- the slack by a test as it is told
slack_same : (kind : Kind) (s : Stored) (told : NodeTest) (test : Test) → IsTest s told test → (apart unc c length : ℤ)
    → slack_by kind (test_told told) apart unc c length ≡ slack_by kind test apart unc c length
slack_same Setup s told test t apart unc c length = λ k. t.early k +ℤ apart -ℤ t.need k -ℤ unc +ℤ c -ℤ length
slack_same Hold s told test t apart unc c length = λ k. length -ℤ t.late k -ℤ apart -ℤ t.need k -ℤ unc +ℤ c

no_walk : (xs : List Named) → last_common None xs [] ≡ None
no_walk [] = refl
no_walk (x ∷ xs) = refl

no_credit : (rows : List TreeRow) (a : Option ℕ) → credit_told rows a None ≡ pos 0
no_credit rows None = refl
no_credit rows (Some a) = refl

module _ (g : Graphed) (num : IsNumbered g.stored) (linked : IsLinked g.stored.design) (is : IsGraph g) (rows : List TreeRow) (tree : IsClockTree g rows)
    (kind : Kind) (number : ℕ) (l : LaunchNode) (launch : IsLaunchNode g (data_split kind) number l) where
  pub its_edge : edge_of_launch g.stored.design (data_split kind) (named launch.node) launch.node ≡ Some (edge_of_node l)
  its_edge =
      let back = named_back g.stored.design (timed g num linked is) launch.node (has_node g.stored num linked number launch.node launch.its).has.within in
      let n : launch.launched.node ≡ launch.node = some_is (sym launch.launched.its ∙ back) in
      ap (edge_of_launch g.stored.design (data_split kind) (named launch.node)) (sym n) ∙ launch.launched.edge_is

  -- a launch node that a walk leads to starts on the edge of the walk
  its_walk_edge : is_network g.stored.design launch.node.pin ≡ true → walk_edge g.stored.design launch.node ≡ Some (edge_of_node l)
  its_walk_edge net = sym (edge_walked g.stored.design (data_split kind) (named launch.node) launch.node net) ∙ its_edge

  -- no credit without a walk
  credit_off : network_walk g.stored.design launch.node ≡ None → (test : Test)
      → credit g.stored.design (walk_names g.stored.design (named launch.node)) (edge_of_node l) test ≡ pos 0
  credit_off none test =
      let back = named_back g.stored.design (timed g num linked is) launch.node (has_node g.stored num linked number launch.node launch.its).has.within in
      let names : walk_names g.stored.design (named launch.node) ≡ [] =
      ap (λ o. option_map_or (λ (n : Node). option_map_or (map named) (network_walk g.stored.design n) []) o []) back ∙ ap (λ o. option_map_or (map named) o []) none in
      ap (λ (xs : List Named). option_map_or (spread_at g.stored.design (edge_of_node l)) (last_common None xs (map named test.walk)) (pos 0)) names

  credit_at_port : (test : Test) → test.walk ≡ [] → credit g.stored.design (walk_names g.stored.design (named launch.node)) (edge_of_node l) test ≡ pos 0
  credit_at_port test e =
      ap (λ (w : List Node). option_map_or (spread_at g.stored.design (edge_of_node l)) (last_common None (walk_names g.stored.design (named launch.node)) (map named w)) (pos 0)) e
      ∙ ap (λ o. option_map_or (spread_at g.stored.design (edge_of_node l)) o (pos 0)) (no_walk (walk_names g.stored.design (named launch.node)))

  module _ (end : Named) (told : EndTest) (test : Test) (t : IsEndTest g end told test) where
    -- the credit by places
    at_clock : (clock : Node) (b : ℕ) → node_at g.stored b ≡ Some clock → network_walk g.stored.design clock ≡ Some test.walk → told.place ≡ place_at g b
        → credit_told rows l.place told.place ≡ credit g.stored.design (walk_names g.stored.design (named launch.node)) (edge_of_node l) test
    at_clock clock b nb walk at =
        let q = placed_of_walk g num linked is b clock test.walk nb walk in
        by q.0 q.1 (place_at g number) refl
      where
        by : (q : ℕ) → place_at g b ≡ Some q → (o : Option ℕ) → place_at g number ≡ o
            → credit_told rows l.place told.place ≡ credit g.stored.design (walk_names g.stored.design (named launch.node)) (edge_of_node l) test
        by q pb (Some p) e =
            let n = placed_node g is num linked number p e in
            let same : n.0 ≡ launch.node = some_is (sym n.1 ∙ launch.its) in
            let net : is_network g.stored.design launch.node.pin ≡ true = ap (λ (m : Node). is_network g.stored.design m.pin) (sym same) ∙ n.2 in
            (λ k. credit_told rows ((launch.place ∙ e) k) ((at ∙ pb) k))
            ∙ credit_by_places g num linked is rows tree number p launch.node e launch.its (edge_of_node l) (its_walk_edge net) b q clock pb nb test walk
        by q pb None e =
            (λ k. credit_told rows ((launch.place ∙ e) k) told.place)
            ∙ sym (credit_off (walkless (network_walk g.stored.design launch.node) refl) test)
          where
            walkless : (w : Option (List Node)) → network_walk g.stored.design launch.node ≡ w → network_walk g.stored.design launch.node ≡ None
            walkless None f = f
            walkless (Some w) f =
                let p = placed_of_walk g num linked is number launch.node w launch.its f in
                let clash : None ≡ Some p.0 = sym e ∙ p.1 in
                absurd (cc)

    pub credit_same : credit_told rows l.place told.place ≡ credit g.stored.design (walk_names g.stored.design (named launch.node)) (edge_of_node l) test
    credit_same = by test.clock refl told.test.clock refl
      where
        by : (c : Option Node) → test.clock ≡ c → (b : Option ℕ) → told.test.clock ≡ b
            → credit_told rows l.place told.place ≡ credit g.stored.design (walk_names g.stored.design (named launch.node)) (edge_of_node l) test
        by None e None f =
            let walk : test.walk ≡ [] = subst (λ (c : Option Node). IsCaptureWalk g.stored.design c test.walk) e t.fine.walk in
            let none : told.place ≡ None = t.place ∙ ap (option_and_then (place_at g)) f in
            ap (credit_told rows l.place) none ∙ no_credit rows l.place ∙ sym (credit_at_port test walk)
        by (Some clock) e (Some b) f =
            let walk : network_walk g.stored.design clock ≡ Some test.walk = subst (λ (c : Option Node). IsCaptureWalk g.stored.design c test.walk) e t.fine.walk in
            let its : node_at g.stored b ≡ Some clock =
            subst (λ (o : Option ℕ). IsClockNode g.stored o (Some clock)) f (subst (λ (c : Option Node). IsClockNode g.stored told.test.clock c) e t.its.clock) in
            at_clock clock b its walk (t.place ∙ ap (option_and_then (place_at g)) f)
        by None e (Some b) f =
            absurd (subst (λ (o : Option ℕ). IsClockNode g.stored o None) f (subst (λ (c : Option Node). IsClockNode g.stored told.test.clock c) e t.its.clock))
        by (Some clock) e None f =
            absurd (subst (λ (o : Option ℕ). IsClockNode g.stored o (Some clock)) f (subst (λ (c : Option Node). IsClockNode g.stored told.test.clock c) e t.its.clock))

    -- the slack and the rule
    its_slack : slack_told g.stored.design kind rows l told ≡ launch_slack g.stored.design kind (named launch.node) (edge_of_node l) l.time.0 end test
    its_slack =
        (λ k. slack_by kind (test_told told.test) (moved g.stored.design kind (launch.launch k) (t.capture k) (edge_of_node l) (t.its.capture k))
        (uncertainty_on g.stored.design kind (t.its.capture k).0) (credit_same k) l.time.0)
        ∙ slack_same kind g.stored told.test test t.its
        (moved g.stored.design kind (launched_at g.stored.design (named launch.node) (edge_of_node l)) (capture_of g.stored.design end test) (edge_of_node l) test.capture)
        (uncertainty_on g.stored.design kind test.capture.0) (credit g.stored.design (walk_names g.stored.design (named launch.node)) (edge_of_node l) test) l.time.0

    pub where_is : slack_where g.stored.design kind rows l told
        ≡ (if is_launch_tested g.stored.design kind (named launch.node) (edge_of_node l) end test
        then Some (launch_slack g.stored.design kind (named launch.node) (edge_of_node l) l.time.0 end test) else None)
    where_is = λ k. if is_tested g.stored.design.constraints kind (launch.launch k) (t.capture k) then Some (its_slack k) else None

-- the least over tests, by what is told of each
abbrev slacks_where : {X : Type 0} → (X → Bool) → (X → ℤ) → List X → List (X × ℤ)
slacks_where p f xs = map (λ x. (x, f x)) (filter p xs)

-- a value is the least of a first one, where there is one, and of those of a list
pub record IsLeastOf {X : Type 0} (best : Option ℤ) (slacks : List (X × ℤ)) (least : ℤ) : Type 0 where
  pub found : (best ≡ Some least) ⊎ ((x : X) × Contains slacks (x, least))
  pub before : (b : ℤ) → best ≡ Some b → least ≤ℤ b
  pub low : (x : X) (t : ℤ) → Contains slacks (x, t) → least ≤ℤ t

abbrev pub IsLeast : {X : Type 0} → Option ℤ → List (X × ℤ) → Option ℤ → Type 0
IsLeast best slacks None = (best ≡ None) × (slacks ≡ [])
IsLeast best slacks (Some least) = IsLeastOf best slacks least

self_low : (x : ℤ) → x ≤ℤ x
self_low x = omega (arith, ints)

pub record IsLesser (a : Option ℤ) (x y : ℤ) : Type 0 where
  pub found : (a ≡ Some y) ⊎ (x ≡ y)
  pub before : (b : ℤ) → a ≡ Some b → y ≤ℤ b
  pub low : y ≤ℤ x

pub lesser : (a : Option ℤ) (x : ℤ) → (y : ℤ) × (outer_some Early a (Some x) ≡ Some y) × IsLesser a x y
lesser None x = (x, refl, record { found = inr refl; before = λ b e. absurd (cc); low = self_low x })
lesser (Some a) x = elim (cases_Bool (int_lt x a)) [
  | inl e ↦ (
    x,
    ap (λ (b : Bool). Some (cond b x a)) e,
    record {
      found = inr refl;
      before = λ b f. (let same : a ≡ b = some_is f in let less = lt-true x a e in subst (λ (z : ℤ). x ≤ℤ z) same (omega (arith, ints, less)));
      low = self_low x;
    },
  )
  | inr e ↦ (
    a,
    ap (λ (b : Bool). Some (cond b x a)) e,
    record {
      found = inl refl;
      before = λ b f. (let same : a ≡ b = some_is f in subst (λ (z : ℤ). a ≤ℤ z) same (self_low a));
      low = (let more = lt-false x a e in omega (arith, ints, more));
    },
  )
]

module _ {X Y : Type 0} (f : Y → Option ℤ) (p : X → Bool) (v : X → ℤ) (Both : Y → X → Type 0)
    (same : (y : Y) (x : X) → Both y x → f y ≡ (if p x then Some (v x) else None)) where
  abbrev pub AllBoth : List Y → List X → Type 0
  AllBoth [] [] = Unit {0}
  AllBoth (y ∷ ys) (x ∷ xs) = Both y x × AllBoth ys xs
  AllBoth [] (x ∷ xs) = ⊥
  AllBoth (y ∷ ys) [] = ⊥

  outer_none : (a : Option ℤ) → outer_some Early a None ≡ a
  outer_none None = refl
  outer_none (Some a) = refl

  pub least_is : (best : Option ℤ) (ys : List Y) (xs : List X) → AllBoth ys xs → IsLeast best (slacks_where p v xs) (outermost Early f best ys)
  least_is best [] [] h = by best refl
    where
      by : (o : Option ℤ) → best ≡ o → IsLeast {X = X} best [] o
      by None e = (e, refl)
      by (Some b) e = record {
        found = inl e;
        before = λ c k. (let q : b ≡ c = some_is (sym e ∙ k) in subst (λ (z : ℤ). b ≤ℤ z) q (self_low b));
        low = λ x t c. absurd (none_in (x, t) c);
      }
  least_is best [] (x ∷ xs) h = absurd h
  least_is best (y ∷ ys) [] h = absurd h
  least_is best (y ∷ ys) (x ∷ xs) h = elim (cases_Bool (p x)) [
    | inr out ↦
        let none : f y ≡ None = same y x h.0 ∙ ap (λ (b : Bool). if b then Some (v x) else None) out in
        let first : outer_some Early best (f y) ≡ best = ap (outer_some Early best) none ∙ outer_none best in
        subst (λ (zs : List X). IsLeast best (map (λ z. (z, v z)) zs) (outermost Early f (outer_some Early best (f y)) ys)) (sym (skip out))
        (subst (λ (o : Option ℤ). IsLeast best (slacks_where p v xs) (outermost Early f o ys)) (sym first) (least_is best ys xs h.1))
    | inl kept ↦
        let some : f y ≡ Some (v x) = same y x h.0 ∙ ap (λ (b : Bool). if b then Some (v x) else None) kept in
        let m = lesser best (v x) in
        let first : outer_some Early best (f y) ≡ Some m.0 = ap (outer_some Early best) some ∙ m.1 in
        subst (λ (zs : List X). IsLeast best (map (λ z. (z, v z)) zs) (outermost Early f (outer_some Early best (f y)) ys)) (sym (keep kept))
        (subst (λ (o : Option ℤ). IsLeast best ((x, v x) ∷ slacks_where p v xs) (outermost Early f o ys)) (sym first)
        (more m.0 m.2 (outermost Early f (Some m.0) ys) (least_is (Some m.0) ys xs h.1)))
  ]
    where
      skip : p x ≡ false → filter p (x ∷ xs) ≡ filter p xs
      skip out = rw out refl

      keep : p x ≡ true → filter p (x ∷ xs) ≡ x ∷ filter p xs
      keep kept = rw kept refl

      more : (m : ℤ) → IsLesser best (v x) m → (o : Option ℤ) → IsLeast (Some m) (slacks_where p v xs) o → IsLeast best ((x, v x) ∷ slacks_where p v xs) o
      more m is None k = (let clash : Some m ≡ None = k.0 in absurd (cc))
      more m is (Some least) k =
          let under : least ≤ℤ m = k.before m refl in
          record {
            found = found k.found;
            before = λ b e. (let u = is.before b e in omega (arith, ints, under, u));
            low = λ z t c. elim (in_cases (x, v x) (slacks_where p v xs) (z, t) c) [
              | inl e ↦
                  let same_time : v x ≡ t = ap (λ (q : X × ℤ). q.1) e in
                  let u = is.low in
                  subst (λ (w : ℤ). least ≤ℤ w) same_time (omega (arith, ints, under, u))
              | inr d ↦ k.low z t d
            ];
          }
        where
          found : (Some m ≡ Some least) ⊎ ((z : X) × Contains (slacks_where p v xs) (z, least))
              → (best ≡ Some least) ⊎ ((z : X) × Contains ((x, v x) ∷ slacks_where p v xs) (z, least))
          found (inr r) = inr (r.0, later_in (x, v x) (slacks_where p v xs) (r.0, least) r.1)
          found (inl e) = at is.found
            where
              at : (best ≡ Some m) ⊎ (v x ≡ m) → (best ≡ Some least) ⊎ ((z : X) × Contains ((x, v x) ∷ slacks_where p v xs) (z, least))
              at (inl b) = inl (b ∙ e)
              at (inr here) =
                  inr (x, subst (λ (w : ℤ). Contains ((x, v x) ∷ slacks_where p v xs) (x, w)) (here ∙ some_is e) (first_in (x, v x) (slacks_where p v xs)))

-- what a node offers
module _ (g : Graphed) (num : IsNumbered g.stored) (linked : IsLinked g.stored.design) (is : IsGraph g) (rows : List TreeRow) (tree : IsClockTree g rows)
    (kind : Kind) (number end : ℕ) where
  pub same_launch : (l : LaunchNode) (launch : IsLaunchNode g (data_split kind) number l) (edge : ℕ × Tran) (time : ℤ)
      → IsLaunched g.stored.design (data_split kind) edge (named launch.node) time → (edge_of_node l ≡ edge) × (l.time.0 ≡ time)
  same_launch l launch edge time h =
      let back = named_back g.stored.design (timed g num linked is) launch.node (has_node g.stored num linked number launch.node launch.its).has.within in
      let n : h.node ≡ launch.node = some_is (sym h.its ∙ back) in
      let m : launch.launched.node ≡ launch.node = some_is (sym launch.launched.its ∙ back) in
      let e : edge_of_node l ≡ edge =
      some_is (sym launch.launched.edge_is ∙ ap (edge_of_launch g.stored.design (data_split kind) (named launch.node)) (m ∙ sym n) ∙ h.edge_is) in
      (e, some_is (sym launch.launched.arrives ∙ (λ i. arrival g.stored.design (data_split kind) ((m ∙ sym n) i) (e i)) ∙ h.arrives))

  module _ (endnode : Node) (its : node_at g.stored end ≡ Some endnode) (tests : List EndTest)
      (are : AreEndTests g (named endnode) tests (tests_numbered g.stored kind end)) where
    pub end_tests_are : option_map_or (tests_at g.stored.design kind) (node_named g.stored.design (named endnode)) [] ≡ tests_numbered g.stored kind end
    end_tests_are =
        ap (λ o. option_map_or (tests_at g.stored.design kind) o [])
        (named_back g.stored.design (timed g num linked is) endnode (has_node g.stored num linked end endnode its).has.within ∙ sym its)

    both : (xs : List EndTest) (ys : List Test) (l : LaunchNode) (launch : IsLaunchNode g (data_split kind) number l) → AreEndTests g (named endnode) xs ys
        → AllBoth (slack_where g.stored.design kind rows l) (is_launch_tested g.stored.design kind (named launch.node) (edge_of_node l) (named endnode))
        (launch_slack g.stored.design kind (named launch.node) (edge_of_node l) l.time.0 (named endnode)) (IsEndTest g (named endnode))
        (λ told test t. where_is g num linked is rows tree kind number l launch (named endnode) told test t) xs ys
    both [] [] l launch a = tt
    both (x ∷ xs) (y ∷ ys) l launch a = (a.0, both xs ys l launch a.1)
    both [] (y ∷ ys) l launch a = absurd a
    both (x ∷ xs) [] l launch a = absurd a

    -- the least slack of a launch node is its offer
    pub offer_is : (l : LaunchNode) → IsLaunchNode g (data_split kind) number l → (o : Option ℤ) → o ≡ least_slack g.stored.design kind rows l tests → is_low o ≡ true
        → IsNodeOffer g.stored kind number (named endnode) o
    offer_is l launch o e low = by o e low (subst (λ (z : Option ℤ). IsLeast None (launch_slacks g.stored.design kind (named launch.node) (edge_of_node l) l.time.0 (named endnode)) z) (sym e) least)
      where
        least : IsLeast None (launch_slacks g.stored.design kind (named launch.node) (edge_of_node l) l.time.0 (named endnode)) (least_slack g.stored.design kind rows l tests)
        least =
            subst (λ (ts : List Test). IsLeast None (slacks_where (is_launch_tested g.stored.design kind (named launch.node) (edge_of_node l) (named endnode))
            (launch_slack g.stored.design kind (named launch.node) (edge_of_node l) l.time.0 (named endnode)) ts) (least_slack g.stored.design kind rows l tests)) (sym end_tests_are)
            (least_is (slack_where g.stored.design kind rows l) (is_launch_tested g.stored.design kind (named launch.node) (edge_of_node l) (named endnode))
            (launch_slack g.stored.design kind (named launch.node) (edge_of_node l) l.time.0 (named endnode)) (IsEndTest g (named endnode))
            (λ told test t. where_is g num linked is rows tree kind number l launch (named endnode) told test t) None tests (tests_numbered g.stored kind end)
            (both tests (tests_numbered g.stored kind end) l launch are))

        by : (z : Option ℤ) → z ≡ least_slack g.stored.design kind rows l tests → is_low z ≡ true
            → IsLeast None (launch_slacks g.stored.design kind (named launch.node) (edge_of_node l) l.time.0 (named endnode)) z → IsNodeOffer g.stored kind number (named endnode) z
        by None f w h = λ n at edge time launched.
            (let same : n ≡ launch.node = some_is (sym at ∙ launch.its) in
            let s = same_launch l launch edge time (subst (λ (m : Node). IsLaunched g.stored.design (data_split kind) edge (named m) time) same launched) in
            (λ k. launch_slacks g.stored.design kind (named (same k)) (sym s.0 k) (sym s.1 k) (named endnode)) ∙ h.1)
        by (Some x) f w h = (
          launch.node,
          launch.its,
          (let m = mine h.found in
              record {
                edge = edge_of_node l;
                time = l.time.0;
                launched = launch.launched;
                test = m.0;
                within = m.1;
                least = h.low;
              }),
          leb-true (unsigned_abs x) (10 ^ 18) w,
        )
          where
            mine : (None ≡ Some x) ⊎ ((test : Test) × Contains (launch_slacks g.stored.design kind (named launch.node) (edge_of_node l) l.time.0 (named endnode)) (test, x))
                → (test : Test) × Contains (launch_slacks g.stored.design kind (named launch.node) (edge_of_node l) l.time.0 (named endnode)) (test, x)
            mine (inl clash) = absurd (cc)
            mine (inr r) = r

  pub no_launch : ((node : Node) → node_at g.stored number ≡ Some node → (edge : ℕ × Tran) (time : ℤ) → IsLaunched g.stored.design (data_split kind) edge (named node) time → ⊥)
      → (endnode : Node) → IsNodeOffer g.stored kind number (named endnode) None
  no_launch none endnode = λ node at edge time l. absurd (none node at edge time l)
