-- The fan-in cone of end nodes, from the arcs of the graph: each arc leads from a higher level, and an
-- arc between two nodes of the graph is one of the design.

use Rattle.std.proofs.Common.{◌≡◌, ◌⊎◌, ℕ, zero, suc, ◌+◌, ◌-◌, ◌^◌, ◌<◌, ◌≤◌, ℤ, Bool, true, false, if◌then◌else◌, max, List, [], ◌∷◌, map, length, get_or, Option, None, Some, Result, Ok, Err, refl, sym, ap, subst, ◌∙◌, inl, inr, arith}
use Rattle.std.specs.Prelude.{nat_eq, All, Contains, slice_index, option_map, option_and_then, pos, ◌-ℤ◌, IfOk, IfSome}
use Rattle.std.specs.List.{list_any, filter_map, range_with_len}
use Rattle.std.specs.List.Sorted.{IsNonDecreasingBy}
use Rattle.std.proofs.lemmas.Bool.{cases_Bool, cases_lt, eqb-true, eq-eqb, false≢true, and_parts, and_from, lt-ltb}
use Rattle.std.proofs.lemmas.Option.{none-some}
use Rattle.std.proofs.lemmas.List.Elements.{All-contains, All-weaker}
use Rattle.std.proofs.lemmas.List.Folds.{list_any_at}
use Rattle.std.proofs.lemmas.List.FromFn.{length-range_with_len}
use Rattle.std.proofs.lemmas.Int.{ints}
use Rattle.std.proofs.Math.Nat.{le-max_left, le-max_right, max-eq_left, max-eq_right}
use Rattle.sta_units.specs.declared.units.Memory.{Memory}
use Rattle.sta_units.specs.Numbers.{Within}
use Rattle.timing_defs.specs.declared.kinds.Kind.{Kind}
use Rattle.timing_defs.specs.declared.kinds.Kind.TheVariants.{Setup, Hold}
use Rattle.timing_defs.specs.declared.kinds.Split.{Split}
use Rattle.timing_defs.specs.declared.kinds.Tran.{Tran}
use Rattle.timing_defs.specs.declared.kinds.Tran.TheVariants.{Rise, Fall}
use Rattle.timing_defs.specs.Netlist.{Node, name_of, same_node, same_pin, same_tran}
use Rattle.timing_rules.specs.Rows.{arcs_in, delay}
use Rattle.timing_rules.specs.Cones.{has_register_arc}
use Rattle.timing_rules.specs.Paths.{arc_delay}
use Rattle.timing_defs.specs.Kinds.{data_split}
use Rattle.netlist_store.specs.Linked.{IsLinked}
use Rattle.netlist_store.specs.Numbering.{Stored, number_of, IsNumbered}
use Rattle.levelizer.specs.Levels.{greatest}
use Rattle.pin_graph.specs.declared.arcs.GraphArc.{GraphArc}
use Rattle.pin_graph.specs.Nodes.{node_at, node_number, node_bound}
use Rattle.pin_graph.specs.Graphs.{Graphed, IsGraph, IsArc, fan_at, level_at, network_at, kind_between}
use Rattle.timing_defs.proofs.Members.{some_is, none_in, in_map, any_in, any_back, number_in}
use Rattle.timing_defs.proofs.SameNames.{same_is, same_self}
use Rattle.pin_graph.proofs.LevelBound.{level_low}
use Rattle.pin_graph.proofs.NodeLaws.{HasNode, node_told, has_node, same_node_at}
use Rattle.pin_graph.proofs.GraphRows.{placed}
use Rattle.path_cones.specs.declared.fans.FanIn.{FanIn}
use Rattle.path_cones.specs.Reaching.{is_among, followed, AreClosed, AreConeNodes, AreOnce, AreOrdered, AreTheSame, depth_at}
use Rattle.arc_delays.specs.declared.tables.ArcDelay.{ArcDelay}
use Rattle.arc_delays.specs.Delays.{AreDelays, delay_numbered}
use Rattle.path_cones.specs.Delays.{arc_numbered, signed, followed_delay, walk_arc, arcs_placed}
use Rattle.path_cones.specs.FanIns.{AreParts, IsFromAbove, IsFanIn, IsFanPart, IsWhole}
use Rattle.path_cones.proofs.Growing.{closed_again, from_low}
use Rattle.path_cones.proofs.ConeLaws.{among_at, above_part, apart_part, delay_part}
use Rattle.worst_walks.specs.declared.cones.WalkArc.{WalkArc}
use Rattle.worst_walks.specs.Walks.{delay_in, AreApart}

-- the greatest of a list
greatest_over : (xs : List ℕ) (x : ℕ) → Contains xs x → x ≤ greatest xs
greatest_over [] x (i, low, is) = absurd (omega (arith, low))
greatest_over (y ∷ ys) x (zero, low, is) = let m = le-max_left y (greatest ys) in omega (arith, is, m)
greatest_over (y ∷ ys) x (suc i, low, is) =
    let rest = greatest_over ys x (i, omega (arith, low), is) in
    let m = le-max_right y (greatest ys) in
    omega (arith, rest, m)

max_is : (a b : ℕ) → (max a b ≡ a) ⊎ (max a b ≡ b)
max_is a b = elim (cases_lt a b) [ inl low ↦ inr (max-eq_right (omega (arith, low))) | inr high ↦ inl (max-eq_left high) ]

greatest_at : {X : Type 0} (f : X → ℕ) (xs : List X) (k : ℕ) → greatest (map f xs) ≡ suc k → (x : X) × (Contains xs x × (f x ≡ suc k))
greatest_at f [] k e = absurd (omega (arith, e))
greatest_at f (x ∷ xs) k e = elim (max_is (f x) (greatest (map f xs))) [
  | inl same ↦ (x, ((0, omega arith, refl), sym same ∙ e))
  | inr same ↦ let r = greatest_at f xs k (sym same ∙ e) in let c = r.1.0 in (r.0, ((suc c.0, (let l = c.1 in omega (arith, l)), c.2), r.1.1))
]

same_trans : (a b : Tran) → same_tran a b ≡ true → a ≡ b
same_trans Rise Rise e = refl
same_trans Rise Fall e = absurd (false≢true e)
same_trans Fall Rise e = absurd (false≢true e)
same_trans Fall Fall e = refl

tran_self : (a : Tran) → same_tran a a ≡ true
tran_self Rise = refl
tran_self Fall = refl

pub turned_within : (v : ℤ) → Within v → Within (pos 0 -ℤ v)
turned_within v h = omega (arith, ints)

pub some_within : (o : Option ℤ) (v : ℤ) → o ≡ Some v → IfSome o Within → Within v
some_within None v e h = absurd (none-some v e)
some_within (Some w) v e h = subst Within (some_is e) h

pub signed_bound : (kind : Kind) (v : ℤ) → Within v → Within (signed kind v)
signed_bound Setup v h = h
signed_bound Hold v h = turned_within v h

module _ (g : Graphed) (num : IsNumbered g.stored) (linked : IsLinked g.stored.design) (is : IsGraph g) where
  -- levels rise along arcs, and are below the bound of numbers
  pub rising_along : (n : ℕ) → n < node_bound g.stored → (arc : GraphArc) → Contains (fan_at g.ins n) arc → level_at g arc.from < level_at g n
  rising_along n low arc c =
      let over = greatest_over (map (λ (a : GraphArc). level_at g a.from + 1) (fan_at g.ins n)) (level_at g arc.from + 1)
      (in_map (λ (a : GraphArc). level_at g a.from + 1) (fan_at g.ins n) arc c) in
      let here = is.levels.level n low in
      omega (arith, over, here)

  lower : (n k : ℕ) → n < node_bound g.stored → level_at g n ≡ suc k → (m : ℕ) × ((m < node_bound g.stored) × (level_at g m ≡ k))
  lower n k low e =
      let r = greatest_at (λ (a : GraphArc). level_at g a.from + 1) (fan_at g.ins n) k (sym (is.levels.level n low) ∙ e) in
      let arc = ((is.ins n low).sound r.0 r.1.0).0 in
      let b = r.1.1 in
      (r.0.from, (from_low g.stored r.0.from arc.from arc.from_number, (let z : level_at g r.0.from ≡ k = omega (arith, b) in z)))

  level_fits : (n : ℕ) → n < node_bound g.stored → level_at g n < node_bound g.stored
  level_fits n low =
      let h = level_low (range_with_len 0 (node_bound g.stored)) (λ m. m < node_bound g.stored) (λ m l. number_in (node_bound g.stored) m l) (level_at g)
      (λ m k l e. lower m k l e) n low in
      let same = length-range_with_len 0 (node_bound g.stored) in
      omega (arith, h, same)

  deeper : node_bound g.stored < 2 ^ 32 → (n : ℕ) → n < node_bound g.stored → (arc : GraphArc) → Contains (fan_at g.ins n) arc → depth_at g n < depth_at g arc.from
  deeper fits n low arc c =
      let arc_is = ((is.ins n low).sound arc c).0 in
      let from = from_low g.stored arc.from arc_is.from arc_is.from_number in
      let rise = rising_along n low arc c in
      let high = level_fits n low in
      let a : depth_at g n ≡ 2 ^ 32 - 1 - level_at g n = rw (lt-ltb n (node_bound g.stored) low) refl in
      let b : depth_at g arc.from ≡ 2 ^ 32 - 1 - level_at g arc.from = rw (lt-ltb arc.from (node_bound g.stored) from) refl in
      omega (arith, rise, high, a, b, fits)

  -- a node before another, by the names of both
  same_at : (from item : Node) (x k : ℕ) → HasNode g.stored from x → HasNode g.stored item k → same_node from item ≡ true → item ≡ from
  same_at from item x k h j e =
      let parts = and_parts (same_pin from.pin item.pin) (same_tran from.tran item.tran) e in
      let names : name_of from.pin ≡ name_of item.pin = same_is (name_of from.pin) (name_of item.pin) parts.0 in
      let pins : h.pin ≡ j.pin = some_is (sym h.has.number ∙ ap (number_of g.stored.pins) names ∙ j.has.number) in
      let number : x ≡ k = h.number ∙ ap (λ n. node_number n from.tran) pins ∙ ap (node_number j.pin) (same_trans from.tran item.tran parts.1) ∙ sym j.number in
      same_node_at g.stored item from k (node_told g.stored item k j) (ap (node_at g.stored) (sym number) ∙ node_told g.stored from x h)

  entered : (from to : Node) (x n : ℕ) → node_at g.stored x ≡ Some from → node_at g.stored n ≡ Some to → list_any (same_node from) (arcs_in g.stored.design to) ≡ true
      → Contains (arcs_in g.stored.design to) from
  entered from to x n f t e =
      let r = any_back (same_node from) (arcs_in g.stored.design to) e in
      let stands = (placed g num linked is).closed to (n, has_node g.stored num linked n to t) r.item r.within in
      subst (λ (m : Node). Contains (arcs_in g.stored.design to) m) (same_at from r.item x stands.0 (has_node g.stored num linked x from f) stands.1 r.passes) r.within

  -- the delay of the arc between two nodes is that along an arc of the graph
  pub arc_is : (split : Split) (x n : ℕ) → n < node_bound g.stored
      → arc_numbered g.stored split x n ≡ (if list_any (λ (arc : GraphArc). nat_eq arc.from x) (fan_at g.ins n) then delay_numbered g.stored split x n else None)
  arc_is split x n low = elim (cases_Bool (list_any (λ (arc : GraphArc). nat_eq arc.from x) (fan_at g.ins n))) [
    | inl some ↦
        let r = any_back (λ (arc : GraphArc). nat_eq arc.from x) (fan_at g.ins n) some in
        let sound = (is.ins n low).sound r.item r.within in
        let a = sound.0 in
        let f : node_at g.stored x ≡ Some a.from = ap (node_at g.stored) (sym (eqb-true r.item.from x r.passes)) ∙ a.from_number in
        let t : node_at g.stored n ≡ Some a.to = ap (node_at g.stored) (sym sound.1) ∙ a.to_number in
        let there : list_any (same_node a.from) (arcs_in g.stored.design a.to) ≡ true =
        any_in (same_node a.from) (arcs_in g.stored.design a.to) a.from a.within
        (and_from (same_pin a.from.pin a.from.pin) (same_tran a.from.tran a.from.tran) (same_self (name_of a.from.pin)) (tran_self a.from.tran)) in
        ap (λ o. option_and_then (λ b. option_and_then (arc_delay g.stored.design split b) (node_at g.stored n)) o) f
        ∙ ap (λ o. option_and_then (arc_delay g.stored.design split a.from) o) t
        ∙ ap (λ b. if b then delay g.stored.design split a.from a.to else None) there
        ∙ sym (ap (λ b. if b then delay_numbered g.stored split x n else None) some
        ∙ ap (λ o. option_and_then (λ b. option_and_then (delay g.stored.design split b) (node_at g.stored n)) o) f
        ∙ ap (λ o. option_and_then (delay g.stored.design split a.from) o) t)
    | inr none ↦
        by none (node_at g.stored x) refl (node_at g.stored n) refl
        ∙ sym (ap (λ b. if b then delay_numbered g.stored split x n else None) none)
  ]
    where
      by : list_any (λ (arc : GraphArc). nat_eq arc.from x) (fan_at g.ins n) ≡ false → (f : Option Node) → node_at g.stored x ≡ f
          → (t : Option Node) → node_at g.stored n ≡ t → option_and_then (λ a. option_and_then (arc_delay g.stored.design split a) t) f ≡ None
      by none None p t q = refl
      by none (Some from) p None q = refl
      by none (Some from) p (Some to) q = elim (cases_Bool (list_any (same_node from) (arcs_in g.stored.design to))) [
        | inr absent ↦ ap (λ b. if b then delay g.stored.design split from to else None) absent
        | inl there ↦
            let arc : GraphArc = record { from = x; to = n; kind = kind_between g.stored.design from to; edge = has_register_arc g.stored.design from to } in
            let its : IsArc g.stored arc = record {
              from = from;
              from_number = p;
              to = to;
              to_number = q;
              within = entered from to x n p q there;
              kind = refl;
              edge = refl;
            } in
            let c = (is.ins n low).all arc its refl in
            absurd (false≢true (sym none ∙ any_in (λ (a : GraphArc). nat_eq a.from x) (fan_at g.ins n) arc c (eq-eqb x x refl)))
      ]

  module _ (table : List (List ArcDelay)) (found : AreDelays g.stored table) (kind : Kind) (fits : node_bound g.stored < 2 ^ 32) (ends nodes : List ℕ)
      (reach : AreConeNodes g ends nodes) (once : AreOnce nodes) (falls : IsNonDecreasingBy (depth_at g) nodes) where
    its_low : (b : ℕ) → b < length nodes → slice_index nodes b < node_bound g.stored
    its_low b low = reach.below (slice_index nodes b) (among_at nodes b low)

    -- an arc that is followed into a node
    arc_low : (n : ℕ) (arc : GraphArc) → n < node_bound g.stored → Contains (followed g n) arc → Contains (fan_at g.ins n) arc
    arc_low n arc low c = by (network_at g n) c
      where
        by : (b : Bool) → Contains (if b then [] else fan_at g.ins n) arc → Contains (fan_at g.ins n) arc
        by true d = absurd (none_in arc d)
        by false d = d

    high_place : (b : ℕ) → b < length nodes → (arc : GraphArc) → Contains (followed g (slice_index nodes b)) arc
        → (a : ℕ) → a < length nodes → slice_index nodes a ≡ arc.from → b < a
    high_place b low arc c a under e = elim (cases_lt b a) [
      | inl h ↦ h
      | inr h ↦
          let deep = deeper fits (slice_index nodes b) (its_low b low) arc (arc_low (slice_index nodes b) arc (its_low b low) c) in
          let fall = falls a b 0 h low in
          let same : depth_at g (slice_index nodes a) ≡ depth_at g arc.from = ap (depth_at g) e in
          absurd (omega (arith, deep, fall, same))
    ]

    its_bound : (n : ℕ) → n < node_bound g.stored → (arc : GraphArc) → Contains (followed g n) arc
        → (v : ℤ) → delay_numbered g.stored (data_split kind) arc.from arc.to ≡ Some v → Within (signed kind v)
    its_bound n low arc c v e =
        let a = ((is.ins n low).sound arc (arc_low n arc low c)).0 in
        signed_bound kind v (some_within (delay_numbered g.stored (data_split kind) arc.from arc.to) v e (found.within (data_split kind) arc a))

    one_from : (n : ℕ) → n < node_bound g.stored → AreApart (filter_map (walk_arc g.stored kind nodes) (followed g n))
    one_from n low = by (network_at g n)
      where
        by : (b : Bool) → AreApart (filter_map (walk_arc g.stored kind nodes) (if b then [] else fan_at g.ins n))
        by true = apart_part g.stored kind nodes once [] (λ other. omega arith)
        by false = apart_part g.stored kind nodes once (fan_at g.ins n) (λ other. (is.ins n low).once other)

    delay_is : (a n : ℕ) → a < length nodes → n < node_bound g.stored
        → delay_in (filter_map (walk_arc g.stored kind nodes) (followed g n)) a ≡ followed_delay g kind (slice_index nodes a) n
    delay_is a n low under = by (network_at g n)
      where
        turn : (b : Bool) (o : Option ℤ) → (if b then option_map (signed kind) o else None) ≡ option_map (signed kind) (if b then o else None)
        turn true o = refl
        turn false o = refl

        by : (b : Bool) → delay_in (filter_map (walk_arc g.stored kind nodes) (if b then [] else fan_at g.ins n)) a
            ≡ (if b then None else option_map (signed kind) (arc_numbered g.stored (data_split kind) (slice_index nodes a) n))
        by true = refl
        by false =
            delay_part g.stored kind nodes once a (slice_index nodes a) n (fan_at g.ins n) low refl (λ arc c. ((is.ins n under).sound arc c).1)
            ∙ turn (list_any (λ (arc : GraphArc). nat_eq arc.from (slice_index nodes a)) (fan_at g.ins n)) (delay_numbered g.stored (data_split kind) (slice_index nodes a) n)
            ∙ ap (option_map (signed kind)) (sym (arc_is (data_split kind) (slice_index nodes a) n under))

    all_parts : (starts : List ℕ) (arcs : List WalkArc) → AreParts (length nodes) (arcs_placed g kind nodes) starts arcs
        → IsFanPart g kind ends (record { nodes = nodes; starts = starts; arcs = arcs })
    all_parts starts arcs parts = record {
      few = reach.few;
      once = once;
      below = reach.below;
      targets = reach.targets;
      starts = parts.long;
      rising = parts.rising;
      stored = parts.stored;
      above = λ n low.
          subst (All (IsFromAbove (length nodes) n)) (sym (parts.each n low))
          (above_part g.stored kind nodes once n (followed g (slice_index nodes n)) (high_place n low) (its_bound (slice_index nodes n) (its_low n low)));
      apart = λ n low. subst AreApart (sym (parts.each n low)) (one_from (slice_index nodes n) (its_low n low));
      delays = λ a b la lb. ap (λ (ws : List WalkArc). delay_in ws a) (parts.each b lb) ∙ delay_is a (slice_index nodes b) la (its_low b lb);
    }

  -- where the nodes before arcs are all there, each node from which an arc with a delay leads is
  source_there : (kind : Kind) (nodes : List ℕ) → AreClosed g nodes → (x n : ℕ) (v : ℤ) → n < node_bound g.stored → is_among nodes n ≡ true → followed_delay g kind x n ≡ Some v → is_among nodes x ≡ true
  source_there kind nodes closed x n v low there e = by (network_at g n) refl e
    where
      by : (b : Bool) → network_at g n ≡ b → (if b then None else option_map (signed kind) (arc_numbered g.stored (data_split kind) x n)) ≡ Some v → is_among nodes x ≡ true
      by true p f = absurd (none-some v f)
      by false p f = elim (cases_Bool (list_any (λ (arc : GraphArc). nat_eq arc.from x) (fan_at g.ins n))) [
        | inl some ↦
            let r = any_back (λ (arc : GraphArc). nat_eq arc.from x) (fan_at g.ins n) some in
            let same : fan_at g.ins n ≡ followed g n = sym (ap (λ b. if b then [] else fan_at g.ins n) p) in
            subst (λ y. is_among nodes y ≡ true) (eqb-true r.item.from x r.passes)
            (All-contains (λ (arc : GraphArc). is_among nodes arc.from ≡ true) (followed g n) r.item (closed n there)
            (subst (λ (xs : List GraphArc). Contains xs r.item) same r.within))
        | inr none ↦
            let gone : arc_numbered g.stored (data_split kind) x n ≡ None =
            arc_is (data_split kind) x n low ∙ ap (λ b. if b then delay_numbered g.stored (data_split kind) x n else None) none in
            absurd (none-some v (sym (ap (option_map (signed kind)) gone) ∙ f))
      ]

  pub whole_told : (kind : Kind) (ends : List ℕ) (f : FanIn) → IsFanPart g kind ends f → AreClosed g f.nodes → IsWhole g kind f
  whole_told kind ends f part closed x b v low e =
      let among = among_at f.nodes b low in
      source_there kind f.nodes closed x (slice_index f.nodes b) v (part.below (slice_index f.nodes b) among) among e

-- as the code has it: the graph is that of a store
pub cone_there : (g : Graphed) (s : Stored) (kind : Kind) (ends nodes starts : List ℕ) (arcs : List WalkArc) (f : FanIn) → g.stored ≡ s → IsNumbered s → IsLinked s.design
    → IsGraph g → (table : List (List ArcDelay)) → AreDelays s table → node_bound g.stored < 2 ^ 32 → AreOrdered g ends nodes
    → AreParts (length nodes) (arcs_placed g kind nodes) starts arcs → f ≡ record { nodes = nodes; starts = starts; arcs = arcs } → IsFanPart g kind ends f
cone_there g s kind ends nodes starts arcs f same num linked is table found fits order parts e =
    subst (λ (x : FanIn). IsFanPart g kind ends x) (sym e)
    (all_parts g (subst (λ (x : Stored). IsNumbered x) (sym same) num) (subst (λ (x : Stored). IsLinked x.design) (sym same) linked) is
    table (subst (λ (x : Stored). AreDelays x table) (sym same) found)
    kind fits ends nodes order.some order.once order.falling starts arcs parts)

-- the same of what may want memory
pub cone_told : (g : Graphed) (s : Stored) (kind : Kind) (ends nodes starts : List ℕ) (arcs : List WalkArc) (r : Result FanIn Memory) → g.stored ≡ s → IsNumbered s → IsLinked s.design
    → IsGraph g → (table : List (List ArcDelay)) → AreDelays s table → node_bound g.stored < 2 ^ 32 → AreOrdered g ends nodes
    → AreParts (length nodes) (arcs_placed g kind nodes) starts arcs → IfOk r (λ f. f ≡ record { nodes = nodes; starts = starts; arcs = arcs }) → IfOk r (IsFanPart g kind ends)
cone_told g s kind ends nodes starts arcs (Ok f) same num linked is table found fits order parts e =
    cone_there g s kind ends nodes starts arcs f same num linked is table found fits order parts e
cone_told g s kind ends nodes starts arcs (Err wanting) same num linked is table found fits order parts e = tt

-- each node of a cone is below the bound
pub ordered_low : (g : Graphed) (ends nodes : List ℕ) → AreOrdered g ends nodes → All (λ n. n < node_bound g.stored) nodes
ordered_low g ends nodes order = λ i d low.
    order.some.below (get_or nodes i d) (list_any_at (nat_eq (get_or nodes i d)) nodes i d low (eq-eqb (get_or nodes i d) (get_or nodes i d) refl))

-- the same nodes as those that were put in order
pub same_told : (old nodes starts : List ℕ) (arcs : List WalkArc) (r : Result FanIn Memory) → AreTheSame old nodes → IfOk r (λ f. f ≡ record { nodes = nodes; starts = starts; arcs = arcs })
    → IfOk r (λ f. AreTheSame old f.nodes)
same_told old nodes starts arcs (Ok f) same e = λ n. ap (λ (x : FanIn). is_among x.nodes n) e ∙ same n
same_told old nodes starts arcs (Err wanting) same e = tt

-- a cone of all nodes that are reached is a fan-in
pub fan_told : (g : Graphed) (s : Stored) (kind : Kind) (ends nodes : List ℕ) (r : Result FanIn Memory) → g.stored ≡ s → IsNumbered s → IsLinked s.design → IsGraph g → AreClosed g nodes
    → IfOk r (IsFanPart g kind ends) → IfOk r (λ f. AreTheSame nodes f.nodes) → IfOk r (IsFanIn g kind ends)
fan_told g s kind ends nodes (Ok f) same num linked is closed part nodes_same = record {
  part = part;
  closed =
      whole_told g (subst (λ (x : Stored). IsNumbered x) (sym same) num) (subst (λ (x : Stored). IsLinked x.design) (sym same) linked) is kind ends f part
      (closed_again g nodes f.nodes closed nodes_same);
}
fan_told g s kind ends nodes (Err wanting) same num linked is closed part nodes_same = tt

-- nodes that are among some are among the same in another order
pub among_again : (nodes further : List ℕ) (r : Result FanIn Memory) → All (λ n. is_among nodes n ≡ true) further → IfOk r (λ f. AreTheSame nodes f.nodes)
    → IfOk r (λ f. All (λ n. is_among f.nodes n ≡ true) further)
among_again nodes further (Ok f) among same = All-weaker (λ n. is_among nodes n ≡ true) (λ n. is_among f.nodes n ≡ true) (λ n there. same n ∙ there) further among
among_again nodes further (Err wanting) among same = tt
