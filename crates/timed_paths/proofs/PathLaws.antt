-- What a path that holds by some test tells of its nodes and of its length.

use Rattle.std.proofs.Common.{◌≡◌, ℕ, zero, suc, ◌+◌, ◌<◌, ℤ, pos, ◌+ℤ◌, Bool, List, [], ◌∷◌, map, filter, length, get_or, Option, None, Some, refl, sym, ap, subst, ◌∙◌, arith}
use Rattle.std.specs.Prelude.{Contains, option_map, option_and_then}
use Rattle.std.specs.Option.{option_map_or, unwrap_or}
use Rattle.std.proofs.lemmas.Int.{ints}
use Rattle.timing_defs.specs.declared.kinds.Split.{Split}
use Rattle.timing_defs.specs.declared.kinds.Tran.{Tran}
use Rattle.timing_defs.specs.declared.kinds.Kind.{Kind}
use Rattle.timing_defs.specs.declared.rows.Path.{Path}
use Rattle.timing_defs.specs.declared.rows.PathNode.{PathNode}
use Rattle.timing_defs.specs.declared.design.Design.{Design}
use Rattle.timing_defs.specs.Netlist.{Node}
use Rattle.timing_defs.specs.Kinds.{data_split}
use Rattle.timing_defs.specs.RowTimes.{plus_some}
use Rattle.timing_defs.proofs.Members.{none_in, some_is, in_map_back, kept_in}
use Rattle.timing_rules.specs.Tests.{Test, tests_at}
use Rattle.timing_rules.specs.Paths.{Named, node_named, delay_between, walk_delay, start_of, last_of, slack_of, tests_path, slacks_from, path_slacks, path_named, path_edge, path_times, times_along, Holds}
use Rattle.timing_rules.specs.Stages.{named_node, length_of}
use Rattle.path_search.specs.Launches.{IsPath, IsWhole}
use Rattle.path_search.proofs.Slacks.{whole_of}
use Rattle.path_search.proofs.Starts.{started}
use Rattle.path_search.proofs.TestRanges.{launch_clock}
use Rattle.netlist_store.specs.Numbering.{Stored, IsNumbered}
use Rattle.timed_paths.specs.Ends.{edge_of_path}
use Rattle.timed_paths.specs.Found.{IsEndNumber}
use Rattle.timed_paths.specs.Numbers.{number_named}
use Rattle.timed_paths.proofs.NumberLaws.{unnumbered_node}

pub cons_same : {X : Type 0} (x y : X) (xs ys : List X) → x ∷ xs ≡ y ∷ ys → (x ≡ y) × (xs ≡ ys)
cons_same x y xs ys e = (cc, cc)

-- the last item of a list by its first
last_item : {X : Type 0} → X → List X → X
last_item x [] = x
last_item x (y ∷ ys) = last_item y ys

last_same : (n : Named) (ms : List Named) → last_item n ms ≡ last_of n ms
unfolding last_item
last_same n [] = refl
last_same n (m ∷ ms) = last_same m ms

last_at : {X Y : Type 0} (f : X → Y) (xs : List X) (i : ℕ) (x : X) → i + 1 ≡ length xs → x ≡ get_or xs i x → (n : Y) (ms : List Y) → map f xs ≡ n ∷ ms → f x ≡ last_item n ms
unfolding last_item
last_at f [] i x low at n ms e = absurd (cc)
last_at f (y ∷ []) zero x low at n [] e = ap f at ∙ (cons_same (f y) n [] [] e).0
last_at f (y ∷ []) zero x low at n (m ∷ ms) e = absurd (let c : [] ≡ m ∷ ms = (cons_same (f y) n [] (m ∷ ms) e).1 in cc)
last_at f (y ∷ []) (suc i) x low at n ms e = absurd (omega (arith, low))
last_at f (y ∷ (z ∷ zs)) zero x low at n ms e = absurd (omega (arith, low))
last_at f (y ∷ (z ∷ zs)) (suc i) x low at n [] e = absurd (let c : map f (z ∷ zs) ≡ [] = (cons_same (f y) n (map f (z ∷ zs)) [] e).1 in cc)
last_at f (y ∷ (z ∷ zs)) (suc i) x low at n (m ∷ ms) e =
    last_at f (z ∷ zs) i x (omega (arith, low)) at m ms (cons_same (f y) n (map f (z ∷ zs)) (m ∷ ms) e).1

-- two values that add up
record IsSum (a b : Option ℤ) (z : ℤ) : Type 0 where
  x : ℤ
  first : a ≡ Some x
  y : ℤ
  second : b ≡ Some y
  total : x +ℤ y ≡ z

sum_parts : (a b : Option ℤ) (z : ℤ) → plus_some a b ≡ Some z → IsSum a b z
sum_parts None b z e = absurd (cc)
sum_parts (Some x) None z e = absurd (cc)
sum_parts (Some x) (Some y) z e = record { x = x; first = refl; y = y; second = refl; total = some_is e }

rest_along : Design → Split → ℤ → Named → List Named → List ℤ
rest_along d split time n [] = []
rest_along d split time n (m ∷ ms) = times_along d split (time +ℤ unwrap_or (delay_between d split n m) (pos 0)) m ms

along_begins : (d : Design) (split : Split) (time : ℤ) (n : Named) (ms : List Named) → times_along d split time n ms ≡ time ∷ rest_along d split time n ms
unfolding rest_along
along_begins d split time n [] = refl
along_begins d split time n (m ∷ ms) = refl

along_ends : (d : Design) (split : Split) (time : ℤ) (n : Named) (ms : List Named) (sum : ℤ) → walk_delay d split n ms ≡ Some sum → last_item time (rest_along d split time n ms) ≡ time +ℤ sum
unfolding last_item rest_along
along_ends d split time n [] sum e = (let z : pos 0 ≡ sum = some_is e in let f : time ≡ time +ℤ pos 0 = omega (arith, ints) in f ∙ ap (λ v. time +ℤ v) z)
along_ends d split time n (m ∷ ms) sum e =
    let s = sum_parts (delay_between d split n m) (walk_delay d split m ms) sum e in
    let next : ℤ = time +ℤ unwrap_or (delay_between d split n m) (pos 0) in
    let rest = along_ends d split next m ms s.y s.second in
    let at : next ≡ time +ℤ s.x = ap (λ o. time +ℤ unwrap_or o (pos 0)) s.first in
    ap (last_item time) (along_begins d split next m ms) ∙ rest ∙ ap (λ v. v +ℤ s.y) at
    ∙ (let a = s.x in let b = s.y in let f : (time +ℤ a) +ℤ b ≡ time +ℤ (a +ℤ b) = omega (arith, ints) in f) ∙ ap (λ v. time +ℤ v) s.total

-- the last node of a path
pub last_name : (p : Path) (i : ℕ) (x : PathNode) → i + 1 ≡ length p.nodes → x ≡ get_or p.nodes i x → (n : Named) (ms : List Named) → path_named p ≡ n ∷ ms → named_node x ≡ last_of n ms
last_name p i x low at n ms e = last_at (λ (y : PathNode). (y.pin, y.tran)) p.nodes i x low at n ms e ∙ last_same n ms

module _ (d : Design) (kind : Kind) (p : Path) (test : Test) (h : Holds d kind p test) where
  whole : IsPath d (data_split kind) (path_named p)
  whole = whole_of d kind (path_named p) (test, p.slack.0) h.0.0

  pub first : Named
  first = whole.whole.first

  pub more : List Named
  more = whole.whole.more

  pub size : ℤ
  size = whole.length

  pub names : path_named p ≡ first ∷ more
  unfolding first more
  names = whole.whole.nodes

  starts : start_of d (data_split kind) whole.whole.first ≡ Some (whole.edge, whole.whole.time)
  starts = whole.whole.starts

  edge_is : whole.edge ≡ edge_of_path p
  edge_is =
      some_is (sym (ap (path_edge d (data_split kind)) whole.whole.nodes ∙ ap (λ o. option_map (λ (edge, time). edge) o) starts) ∙ h.2)

  -- its launch edge has a clock
  pub clock_low : p.launch_clock < length d.constraints.clocks
  clock_low =
      let s = started d (data_split kind) whole.whole.first whole.edge whole.whole.time starts in
      subst (λ (e : ℕ × Tran). e.0 < length d.constraints.clocks) edge_is (launch_clock d whole.edge s.launched)

  pub slacks_are : path_slacks d kind (path_named p) ≡ slacks_from d kind first more (edge_of_path p) size
  unfolding first more size
  slacks_are =
      ap (path_slacks d kind) whole.whole.nodes
      ∙ ap (λ o. option_map_or (λ (g, time). option_map_or (λ sum. slacks_from d kind whole.whole.first whole.whole.more g (time +ℤ sum)) (walk_delay d (data_split kind) whole.whole.first whole.whole.more) []) o []) starts
      ∙ ap (λ o. option_map_or (λ sum. slacks_from d kind whole.whole.first whole.whole.more whole.edge (whole.whole.time +ℤ sum)) o []) whole.whole.walks
      ∙ (λ i. slacks_from d kind whole.whole.first whole.whole.more (edge_is i) (whole.whole.total i))

  long_here : length_of d (data_split kind) whole.whole.first whole.whole.more ≡ Some whole.length
  long_here =
      ap (λ o. plus_some (option_and_then (λ (edge, time). Some time) o) (walk_delay d (data_split kind) whole.whole.first whole.whole.more)) starts
      ∙ ap (plus_some (Some whole.whole.time)) whole.whole.walks ∙ ap Some whole.whole.total

  pub long : length_of d (data_split kind) first more ≡ Some size
  unfolding first more size
  long = long_here

  -- its last node
  module _ (i : ℕ) (x : PathNode) (low : i + 1 ≡ length p.nodes) (at : x ≡ get_or p.nodes i x) where
    times_here : map (λ (y : PathNode). y.time.0) p.nodes ≡ whole.whole.time ∷ rest_along d (data_split kind) whole.whole.time whole.whole.first whole.whole.more
    times_here =
        h.1 ∙ ap (path_times d (data_split kind)) whole.whole.nodes
        ∙ ap (λ o. option_map_or (λ (edge, time). times_along d (data_split kind) time whole.whole.first whole.whole.more) o []) starts
        ∙ along_begins d (data_split kind) whole.whole.time whole.whole.first whole.whole.more

    last_time : x.time.0 ≡ whole.length
    last_time =
        last_at (λ (y : PathNode). y.time.0) p.nodes i x low at whole.whole.time (rest_along d (data_split kind) whole.whole.time whole.whole.first whole.whole.more) times_here
        ∙ along_ends d (data_split kind) whole.whole.time whole.whole.first whole.whole.more whole.whole.sum whole.whole.walks
        ∙ whole.whole.total

    pub last_long : (n : Named) (ms : List Named) → path_named p ≡ n ∷ ms → length_of d (data_split kind) n ms ≡ Some x.time.0
    last_long n ms e =
        let same = cons_same whole.whole.first n whole.whole.more ms (sym whole.whole.nodes ∙ e) in
        (λ k. length_of d (data_split kind) (sym same.0 k) (sym same.1 k)) ∙ long_here ∙ ap Some (sym last_time)

  -- there is a node
  pub nodes_some : 0 < length p.nodes
  nodes_some = by p.nodes whole.whole.nodes
    where
      by : (ns : List PathNode) → map (λ (y : PathNode). (y.pin, y.tran)) ns ≡ whole.whole.first ∷ whole.whole.more → 0 < length ns
      by [] e = absurd (cc)
      by (n ∷ ns) e = omega arith

-- the last node has a number
module _ (s : Stored) (num : IsNumbered s) (kind : Kind) (p : Path) (test : Test) (h : Holds s.design kind p test) where
  abbrev end : Named
  end = last_of (first s.design kind p test h) (more s.design kind p test h)

  end_node : (node : Node) × (node_named s.design end ≡ Some node)
  end_node =
      let all : List Test = option_map_or (tests_at s.design kind) (node_named s.design end) [] in
      let tested : Test → Bool = tests_path s.design kind (first s.design kind p test h) (more s.design kind p test h) (edge_of_path p) in
      let with_slack : Test → Test × ℤ = λ (t : Test). (t, slack_of s.design kind (first s.design kind p test h) (more s.design kind p test h) (edge_of_path p) (size s.design kind p test h) t) in
      let m = in_map_back with_slack (filter tested all) (test, p.slack.0)
      (subst (λ (xs : List (Test × ℤ)). Contains xs (test, p.slack.0)) (slacks_are s.design kind p test h) h.0.0) in
      by (node_named s.design end) refl m.item (kept_in tested all m.item m.within)
    where
      by : (o : Option Node) → node_named s.design end ≡ o → (t : Test) → Contains (option_map_or (tests_at s.design kind) (node_named s.design end) []) t → (node : Node) × (node_named s.design end ≡ Some node)
      by None e t c = absurd (none_in t (subst (λ (o : Option Node). Contains (option_map_or (tests_at s.design kind) o []) t) e c))
      by (Some node) e t c = (node, e)

  pub end_there : IsEndNumber s p
  end_there = by (number_named s end) refl
    where
      by : (o : Option ℕ) → number_named s end ≡ o → IsEndNumber s p
      by None e = absurd (let clash : None ≡ Some end_node.0 = sym (unnumbered_node s num end e) ∙ end_node.1 in cc)
      by (Some k) e = record {
        first = first s.design kind p test h;
        more = more s.design kind p test h;
        names = names s.design kind p test h;
        end = k;
        is = e;
      }

-- the number of the last node is that of the end
pub end_same : (s : Stored) (p : Path) (i : ℕ) (x : PathNode) → i + 1 ≡ length p.nodes → x ≡ get_or p.nodes i x → (k : Option ℕ) → k ≡ number_named s (named_node x)
    → (n : Named) (ms : List Named) → path_named p ≡ n ∷ ms → number_named s (last_of n ms) ≡ k
end_same s p i x low at k e n ms names = ap (number_named s) (sym (last_name p i x low at n ms names)) ∙ sym e

pub end_none : (s : Stored) (p : Path) (its : IsEndNumber s p) (i : ℕ) (x : PathNode) → i + 1 ≡ length p.nodes → x ≡ get_or p.nodes i x → None ≡ number_named s (named_node x) → ⊥
end_none s p its i x low at e =
    let clash : Some its.end ≡ None = sym its.is ∙ end_same s p i x low at None e its.first its.more its.names in absurd (cc)

pub length_some : (s : Stored) (p : Path) (its : IsEndNumber s p) → 0 < length p.nodes
length_some s p its = by p.nodes its.names
  where
    by : (ns : List PathNode) → map (λ (y : PathNode). (y.pin, y.tran)) ns ≡ its.first ∷ its.more → 0 < length ns
    by [] e = absurd (cc)
    by (n ∷ ns) e = omega arith
