-- The walk to a test's clock pin by numbers is the definition's, with the times of its nodes.

use Rattle.std.proofs.Common.{◌≡◌, ℕ, suc, ◌+◌, ◌-◌, ◌<◌, ◌≤◌, ℤ, pos, Bool, true, false, List, [], ◌∷◌, ◌++◌, map, length, take, get_or, unsigned_abs, Option, None, Some, refl, sym, ap, subst, ◌∙◌, arith}
use Rattle.std.specs.Prelude.{All, Contains, IfSome, nat_eq, find, is_some, option_map, option_and_then, ◌&&◌}
use Rattle.std.specs.Option.{option_map_or, unwrap_or}
use Rattle.std.proofs.lemmas.List.Elements.{All-nil, All-cons, All-contains}
use Rattle.sta_units.specs.Numbers.{limit, Within}
use Rattle.timing_defs.specs.declared.kinds.Split.{Split}
use Rattle.timing_defs.specs.declared.kinds.Split.TheVariants.{Early, Late}
use Rattle.timing_defs.specs.declared.kinds.Tran.{Tran}
use Rattle.timing_defs.specs.declared.kinds.Kind.{Kind}
use Rattle.timing_defs.specs.declared.kinds.Kind.TheVariants.{Setup, Hold}
use Rattle.timing_defs.specs.declared.edge_times.EdgeTime.{EdgeTime}
use Rattle.timing_defs.specs.declared.rows.NodeRow.{NodeRow}
use Rattle.timing_defs.specs.declared.rows.PathNode.{PathNode}
use Rattle.timing_defs.specs.declared.design.Design.{Design}
use Rattle.timing_defs.specs.Netlist.{Pin, Node, name_of, same_tran}
use Rattle.timing_defs.specs.Kinds.{clock_split}
use Rattle.timing_defs.specs.RowTimes.{time_on, times_in}
use Rattle.timing_defs.proofs.Members.{some_is, found_in}
use Rattle.timing_rules.specs.Range.{NoOrigin}
use Rattle.timing_rules.specs.Rows.{row, empty_row, arrival}
use Rattle.timing_rules.specs.Stages.{capture_node, capture_stages, stages}
use Rattle.timing_rules.specs.Tests.{Test, network_walk}
use Rattle.netlist_store.specs.Linked.{IsLinked}
use Rattle.netlist_store.specs.Numbering.{Stored, is_number, name_at, IsNumbered}
use Rattle.node_tests.specs.declared.node_test.NodeTest.{NodeTest}
use Rattle.node_tests.specs.NodeTests.{IsClockNode}
use Rattle.pin_graph.specs.Nodes.{node_at, node_bound, pin_under, tran_under}
use Rattle.pin_graph.specs.Graphs.{Graphed, IsGraph}
use Rattle.pin_graph.specs.RowTables.{row_numbered}
use Rattle.pin_graph.proofs.JoinLaws.{then_back, mapped_back}
use Rattle.path_search.specs.Ranks.{climb, node_of, places_before}
use Rattle.path_search.specs.Slacks.{IsCaptureWalk}
use Rattle.path_search.proofs.ClimbNames.{bound_of, climbed}
use Rattle.path_search.proofs.EndLaws.{rows_fine}
use Rattle.path_search.proofs.NodeSearches.{times_fine}
use Rattle.path_search.proofs.NumberNames.{number_there, node_of_more}
use Rattle.path_search.proofs.Setting.{timed}
use Rattle.store_pins.proofs.PinLaws.{pin_at_number}
use Rattle.timed_paths.specs.TestNumbers.{walk_of, test_of, walk_numbers, node_on, no_node, node_numbered, time_numbered, IsKnownTest, IsWalked, MayBeWalked}

map_snoc : {X Y : Type 0} (f : X → Y) (xs : List X) (x : X) → map f (xs ++ x ∷ []) ≡ map f xs ++ f x ∷ []
map_snoc f [] x = refl
map_snoc f (y ∷ ys) x = ap (λ zs. f y ∷ zs) (map_snoc f ys x)

-- without places of a cone numbers are those of nodes
past_none : (ks : List ℕ) → map (λ k. 0 + k) ks ≡ ks
past_none [] = refl
past_none (k ∷ ks) = (let e : 0 + k ≡ k = omega arith in λ i. e i ∷ past_none ks i)

pub before_none : (g : Graphed) (k : ℕ) → places_before g [] k ≡ climb g k
before_none g k =
    past_none (climb g (node_of [] k)) ∙ ap (climb g) (ap (node_of []) (let f : k ≡ 0 + k = omega arith in f) ∙ node_of_more [] k)

-- nodes that are told are below the bound, and there
pub all_low : (s : Stored) (ks : List ℕ) (ns : List Node) → map (node_at s) ks ≡ map Some ns → All (λ k. k < node_bound s) ks
all_low s [] ns e = All-nil (λ k. k < node_bound s)
all_low s (k ∷ ks) [] e = absurd (cc)
all_low s (k ∷ ks) (n ∷ ns) e =
    let here : node_at s k ≡ Some n = cc in
    let rest : map (node_at s) ks ≡ map Some ns = cc in
    All-cons (λ k. k < node_bound s) k ks (bound_of s k n here) (all_low s ks ns rest)

pub all_there : (s : Stored) (ks : List ℕ) (ns : List Node) → map (node_at s) ks ≡ map Some ns → All (λ k. is_number s.pins (pin_under k) ≡ true) ks
all_there s [] ns e = All-nil (λ k. is_number s.pins (pin_under k) ≡ true)
all_there s (k ∷ ks) [] e = absurd (cc)
all_there s (k ∷ ks) (n ∷ ns) e =
    let here : node_at s k ≡ Some n = cc in
    let rest : map (node_at s) ks ≡ map Some ns = cc in
    All-cons (λ k. is_number s.pins (pin_under k) ≡ true) k ks (number_there s k n here) (all_there s ks ns rest)

walk_here : (s : Stored) (k : ℕ) (w : IsWalked s k) → walk_of s (Some k) ≡ w.walk
walk_here s k w =
    ap (λ o. option_map_or (λ n. unwrap_or (network_walk s.design n) []) o []) w.number ∙ ap (λ o. unwrap_or o []) w.told

-- the walk by numbers
pub walked_is : (g : Graphed) (s : Stored) → g.stored ≡ s → IsNumbered s → IsLinked s.design → IsGraph g → (k : ℕ) → IsWalked s k → (ks : List ℕ) → ks ≡ climb g k ++ k ∷ []
    → map (node_at s) ks ≡ map Some (walk_of s (Some k))
walked_is g s same num linked is k w ks e =
    ap (map (node_at s)) e
    ∙ subst (λ (z : Stored). IsNumbered z → IsLinked z.design → IsWalked z k → map (node_at z) (climb g k ++ k ∷ []) ≡ map Some (walk_of z (Some k))) same here num linked w
  where
    here : IsNumbered g.stored → IsLinked g.stored.design → IsWalked g.stored k → map (node_at g.stored) (climb g k ++ k ∷ []) ≡ map Some (walk_of g.stored (Some k))
    here numbered joined v =
        map_snoc (node_at g.stored) (climb g k) k
        ∙ ap (λ (o : Option Node). map (node_at g.stored) (climb g k) ++ o ∷ []) v.number
        ∙ climbed g is numbered joined (timed g numbered joined is) Some (node_at g.stored) (λ j n f. f) k v.node v.number v.walk v.told
        ∙ ap (map Some) (sym (walk_here g.stored k v))

-- times are within their limits
time_in : (times : List EdgeTime) → All (λ (x : EdgeTime). Within x.time.0) times → (edge : ℕ × Tran) (o : Option ℤ) → o ≡ time_on times edge → IfSome o Within
time_in times fine edge None e = tt
time_in times fine edge (Some v) e =
    let f = mapped_back (λ (x : EdgeTime). x.time.0) (find (λ x. nat_eq x.clock edge.0 && same_tran x.tran edge.1) times) v (sym e) in
    let c = found_in (λ (x : EdgeTime). nat_eq x.clock edge.0 && same_tran x.tran edge.1) times f.0 f.1 in
    subst (λ (z : ℤ). Within z) f.2 (All-contains (λ (x : EdgeTime). Within x.time.0) times f.0 fine c)

pub time_within : (g : Graphed) (s : Stored) → g.stored ≡ s → IsNumbered s → IsLinked s.design → IsGraph g → NoOrigin s.design → (split : Split) (edge : ℕ × Tran) (k : ℕ) (o : Option ℤ)
    → o ≡ time_numbered s split edge k → IfSome o Within
time_within g s same num linked is none split edge k o e =
    subst (λ (z : Stored). IsNumbered z → IsLinked z.design → NoOrigin z.design → o ≡ time_numbered z split edge k → IfSome o Within) same (here split) num linked none e
  where
    here : (t : Split) → IsNumbered g.stored → IsLinked g.stored.design → NoOrigin g.stored.design → o ≡ time_numbered g.stored t edge k → IfSome o Within
    here Late numbered joined fine f =
        time_in (times_in Late (row_numbered g.stored k)) (times_fine g numbered joined is (timed g numbered joined is) (rows_fine g.stored.design fine) Setup k) edge o f
    here Early numbered joined fine f =
        time_in (times_in Early (row_numbered g.stored k)) (times_fine g numbered joined is (timed g numbered joined is) (rows_fine g.stored.design fine) Hold k) edge o f

-- a node of a walk
pub node_made : (s : Stored) → IsNumbered s → IsLinked s.design → (split : Split) (edge : ℕ × Tran) (k : ℕ) → is_number s.pins (pin_under k) ≡ true → (made : PathNode)
    → name_at s.pins (pin_under k) ≡ Some made.pin → made.tran ≡ tran_under k → made.time.0 ≡ unwrap_or (time_numbered s split edge k) (pos 0)
    → made ≡ node_numbered s split edge k
node_made s num linked split edge k is made name tran time =
    let p = pin_at_number s num linked (pin_under k) is in
    let node : Node = record { pin = p.0; tran = tran_under k } in
    let at : node_at s k ≡ Some node = ap (option_map (λ (pin : Pin). record { pin = pin; tran = tran_under k })) p.1.pin in
    let its : made.pin ≡ name_of p.0 = some_is (sym name ∙ p.1.name) in
    let when : made.time.0 ≡ unwrap_or (arrival s.design split node edge) (pos 0) =
    time ∙ ap (λ o. unwrap_or (time_on (times_in split (option_map_or (row s.design) o empty_row)) edge) (pos 0)) at in
    (λ i. record { pin = its i; tran = tran i; time = record { 0 = when i } })
    ∙ sym (ap (λ o. option_map_or (node_on s.design split edge) o no_node) at)

-- the nodes of a capture path
nodes_are : (s : Stored) (kind : Kind) (test : Test) (ks : List ℕ) (ns : List Node) → map (node_at s) ks ≡ map Some ns
    → map (node_numbered s (clock_split kind) test.capture) ks ≡ map (capture_node s.design kind test) ns
nodes_are s kind test [] [] e = refl
nodes_are s kind test [] (n ∷ ns) e = absurd (cc)
nodes_are s kind test (k ∷ ks) [] e = absurd (cc)
nodes_are s kind test (k ∷ ks) (n ∷ ns) e =
    let here : node_at s k ≡ Some n = cc in
    let rest : map (node_at s) ks ≡ map Some ns = cc in
    (λ i. option_map_or (node_on s.design (clock_split kind) test.capture) (here i) no_node ∷ nodes_are s kind test ks ns rest i)

pub capture_are : (s : Stored) (kind : Kind) (told : NodeTest) (split : Split) → split ≡ clock_split kind → (ks : List ℕ) → map (node_at s) ks ≡ map Some (walk_of s told.clock)
    → (nodes : List PathNode) → nodes ≡ map (node_numbered s split (told.capture_clock, told.capture_tran)) ks
    → stages s.design split nodes ≡ capture_stages s.design kind (test_of s told)
capture_are s kind told split e ks at nodes made =
    ap (stages s.design split) (made ∙ ap (λ t. map (node_numbered s t (told.capture_clock, told.capture_tran)) ks) e ∙ nodes_are s kind (test_of s told) ks (walk_of s told.clock) at)
    ∙ ap (λ t. stages s.design t (map (capture_node s.design kind (test_of s told)) (walk_of s told.clock))) e

-- the walk of a test that is known
pub test_walked : (s : Stored) (told : NodeTest) → IsKnownTest s told → MayBeWalked s told.clock
test_walked s told known = by told.clock refl known.its.clock known.fine.walk
  where
    by : (o : Option ℕ) → told.clock ≡ o → IsClockNode s told.clock (option_and_then (node_at s) told.clock)
        → IsCaptureWalk s.design (option_and_then (node_at s) told.clock) (walk_of s told.clock) → MayBeWalked s told.clock
    by None e a w = subst (λ (o : Option ℕ). MayBeWalked s o) (sym e) tt
    by (Some k) e a w =
        subst (λ (o : Option ℕ). MayBeWalked s o) (sym e)
        (at k (node_at s k) refl (subst (λ (o : Option ℕ). IsClockNode s o (option_and_then (node_at s) o)) e a)
        (subst (λ (o : Option ℕ). IsCaptureWalk s.design (option_and_then (node_at s) o) (walk_of s o)) e w))
      where
        at : (k : ℕ) (n : Option Node) → node_at s k ≡ n → IsClockNode s (Some k) (node_at s k) → IsCaptureWalk s.design (node_at s k) (walk_of s (Some k)) → IsWalked s k
        at k None f a w = absurd (subst (λ (o : Option Node). IsClockNode s (Some k) o) f a)
        at k (Some n) f a w = record {
          node = n;
          number = f;
          walk = walk_of s (Some k);
          told = subst (λ (o : Option Node). IsCaptureWalk s.design o (walk_of s (Some k))) f w;
        }
