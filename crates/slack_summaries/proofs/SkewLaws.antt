-- The skew of a launch edge is between the first of its nodes in both splits.

use Rattle.std.proofs.Common.{◌≡◌, ◌⊎◌, ℕ, zero, suc, ◌+◌, ◌<◌, ℤ, ◌-ℤ◌, Bool, true, false, List, [], ◌∷◌, ◌++◌, filter, take, length, Option, None, Some, refl, sym, ap, subst, ◌∙◌, inl, inr, arith}
use Rattle.std.specs.Prelude.{◌*◌, ◌<ℤ◌, is_some, unsigned_abs, All, Contains}
use Rattle.std.specs.List.{list_any, flat_map, range_with_len}
use Rattle.std.specs.Option.{option_map_or, option_to_list}
use Rattle.std.specs.Int.{int_min, int_max}
use Rattle.std.specs.Ordering.{int_cmp, ordering_then, ordering_reverse, is_lt, is_gt, MatchOrdering}
use Rattle.std.specs.declared.cmp.Ordering.{Ordering}
use Rattle.std.specs.declared.cmp.Ordering.TheVariants.{Less, Equal, Greater}
use Rattle.std.proofs.lemmas.Bool.{cases_Bool, false≢true, leb-true, and_parts}
use Rattle.std.proofs.lemmas.Cmp.{int_ranked}
use Rattle.std.proofs.lemmas.Int.{ints, clamps}
use Rattle.std.proofs.lemmas.List.Elements.{All-weaker, All-contains_itself}
use Rattle.sta_units.specs.Numbers.{Within, limit}
use Rattle.timing_defs.specs.declared.kinds.Split.{Split}
use Rattle.timing_defs.specs.declared.kinds.Split.TheVariants.{Early, Late}
use Rattle.timing_defs.specs.declared.kinds.Tran.{Tran}
use Rattle.timing_defs.specs.declared.kinds.Tran.TheVariants.{Rise, Fall}
use Rattle.timing_defs.specs.declared.rows.PathNode.{PathNode}
use Rattle.timing_defs.specs.declared.closing.SkewReport.{SkewReport}
use Rattle.timing_defs.specs.declared.constraints.Clock.{Clock}
use Rattle.timing_defs.specs.declared.design.Design.{Design}
use Rattle.timing_defs.specs.Netlist.{Pin, Node, name_of, pins, nodes, both_nodes}
use Rattle.timing_defs.specs.RowTimes.{times_in, time_on}
use Rattle.timing_defs.proofs.Members.{none_in, first_in, later_in, in_cases, in_flat_map, in_flat_map_back, in_filter, passes_in, kept_in, any_in, any_back, number_in}
use Rattle.timing_rules.specs.Clocking.{is_clock_pin, is_network}
use Rattle.timing_rules.specs.Paths.{Named, named, named_cmp}
use Rattle.timing_rules.specs.Range.{NoOrigin, within_some}
use Rattle.timing_rules.specs.Rows.{row, empty_row, outer, arrival, clock_edges, launch_edges}
use Rattle.timing_rules.specs.Summaries.{clocks_register, clock_nodes, IsOutermost, IsSkew, reaches_register, AreSkewsOf}
use Rattle.netlist_store.specs.Linked.{IsLinked}
use Rattle.netlist_store.specs.Numbering.{Stored, pin_numbered, IsNumbered}
use Rattle.store_pins.proofs.PinLaws.{HasNumber, pin_told, pin_of_number}
use Rattle.pin_graph.specs.Nodes.{node_at, node_number, tran_under}
use Rattle.pin_graph.specs.Graphs.{Graphed, IsGraph}
use Rattle.pin_graph.proofs.NodeLaws.{node_told, has_node, tran_of_number}
use Rattle.path_search.specs.Ranks.{pin_name_at, number_cmp}
use Rattle.path_search.proofs.EndLaws.{rows_fine}
use Rattle.path_search.proofs.NumberNames.{number_total, ranks_agree, number_there, name_here, pin_name_here, number_low, named_agree}
use Rattle.path_search.specs.Runs.{IsTimed}
use Rattle.path_search.proofs.Ranges.{arrivals_fine}
use Rattle.path_search.proofs.Setting.{timed}
use Rattle.slack_summaries.specs.declared.outermost.Reached.{Reached}
use Rattle.slack_summaries.specs.declared.skewing.SkewEnds.{SkewEnds}
use Rattle.slack_summaries.specs.Registers.{is_register_pin, clocks_pin, register_pins}
use Rattle.slack_summaries.specs.Outermost.{arrival_numbered, split_cmp, goes_first, reached_at, outermost_from}
use Rattle.slack_summaries.specs.Skews.{first_end, IsEnd, AreEnds, IsNodeOf, IsSkewOf, IsEdgeSkew, IsWithEdge, IsWithClock}
use Rattle.slack_summaries.proofs.BothSplits.{early_there}
use Rattle.slack_summaries.proofs.OutermostLaws.{IsBest, AreOf, best_of}

differ : true ≡ false → ⊥
differ e = cc

-- a time behind another in a split
outer_of : (split : Split) (a b : ℤ) (o : Ordering) → is_lt (ordering_then (split_cmp split a b) o) ≡ false → outer split b a ≡ b
outer_of Early a b o h = by (int_cmp a b) (int_ranked a b (int_cmp a b) refl) h
  where
    by : (r : Ordering) → MatchOrdering r (a <ℤ b) (a ≡ b) (b <ℤ a) → is_lt (ordering_then r o) ≡ false → int_min b a ≡ b
    by Less m k = absurd (differ k)
    by Equal m k = omega (arith, ints, clamps, m)
    by Greater m k = omega (arith, ints, clamps, m)
outer_of Late a b o h = by (int_cmp b a) (int_ranked b a (int_cmp b a) refl) h
  where
    by : (r : Ordering) → MatchOrdering r (b <ℤ a) (b ≡ a) (a <ℤ b) → is_lt (ordering_then r o) ≡ false → int_max b a ≡ b
    by Less m k = absurd (differ k)
    by Equal m k = omega (arith, ints, clamps, m)
    by Greater m k = omega (arith, ints, clamps, m)

int_self : (a : ℤ) → int_cmp a a ≡ Equal
int_self a = by (int_cmp a a) (int_ranked a a (int_cmp a a) refl)
  where
    by : (r : Ordering) → MatchOrdering r (a <ℤ a) (a ≡ a) (a <ℤ a) → r ≡ Equal
    by Less m = absurd (omega (arith, ints, m))
    by Equal m = refl
    by Greater m = absurd (omega (arith, ints, m))

tie : (split : Split) (a b : ℤ) (o : Ordering) → a ≡ b → is_lt (ordering_then (split_cmp split a b) o) ≡ false → is_lt o ≡ false
tie Early a b o e h = sym (ap (λ r. is_lt (ordering_then r o)) (ap (λ z. int_cmp a z) (sym e) ∙ int_self a)) ∙ h
tie Late a b o e h = sym (ap (λ r. is_lt (ordering_then r o)) (ap (λ z. int_cmp z a) (sym e) ∙ int_self a)) ∙ h

gt_of : (o : Ordering) → is_lt o ≡ false → is_gt (ordering_reverse o) ≡ false
gt_of Less e = absurd (differ e)
gt_of Equal e = refl
gt_of Greater e = refl

node_in : (d : Design) (pin : Pin) (tran : Tran) → Contains (pins d) pin → Contains (nodes d) (record { pin = pin; tran = tran })
node_in d pin tran c = in_flat_map both_nodes (pins d) pin (record { pin = pin; tran = tran }) c (by tran)
  where
    by : (t : Tran) → Contains (both_nodes pin) (record { pin = pin; tran = t })
    by Rise = first_in (record { pin = pin; tran = Rise }) (record { pin = pin; tran = Fall } ∷ [])
    by Fall = later_in (record { pin = pin; tran = Rise }) (record { pin = pin; tran = Fall } ∷ []) (record { pin = pin; tran = Fall }) (first_in (record { pin = pin; tran = Fall }) [])

pin_in : (d : Design) (node : Node) → Contains (nodes d) node → Contains (pins d) node.pin
pin_in d node c =
    let m = in_flat_map_back both_nodes (pins d) node c in
    subst (λ (p : Pin). Contains (pins d) p) (same m.item m.inside) m.within
  where
    same : (pin : Pin) → Contains (both_nodes pin) node → pin ≡ node.pin
    same pin k = elim (in_cases (record { pin = pin; tran = Rise }) (record { pin = pin; tran = Fall } ∷ []) node k) [
      | inl e ↦ ap (λ (n : Node). n.pin) e
      | inr l ↦ elim (in_cases (record { pin = pin; tran = Fall }) [] node l) [
        | inl e ↦ ap (λ (n : Node). n.pin) e
        | inr none ↦ absurd (none_in node none)
      ]
    ]

module _ (s : Stored) (num : IsNumbered s) (linked : IsLinked s.design) where
  record HasPlace (node : Node) : Type 0 where
    number : ℕ
    among : AreOf (register_pins s) number
    its : node_at s number ≡ Some node

  of_node : (node : Node) → Contains (clock_nodes s.design) node → HasPlace node
  of_node node c =
      let within = pin_in s.design node (kept_in (clocks_register s.design) (nodes s.design) node c) in
      let p = pin_told s num linked node.pin within in
      record {
        number = node_number p.0 node.tran;
        among = (
          p.0,
          in_filter (clocks_pin s) (range_with_len 0 (length s.pins)) p.0 (number_in (length s.pins) p.0 p.1.below)
              (ap (λ o. option_map_or (is_register_pin s.design) o false) p.1.pin ∙ passes_in (clocks_register s.design) (nodes s.design) node c),
          of_tran p.0 node.tran,
        );
        its = node_told s node (node_number p.0 node.tran) (record { pin = p.0; has = p.1; number = refl });
      }
    where
      of_tran : (pin : ℕ) (tran : Tran) → (node_number pin tran ≡ 2 * pin) ⊎ (node_number pin tran ≡ 2 * pin + 1)
      of_tran pin Rise = inl (omega arith)
      of_tran pin Fall = inr refl

  record IsPlaced (k : ℕ) : Type 0 where
    node : Node
    its : node_at s k ≡ Some node
    within : Contains (clock_nodes s.design) node

  -- the pin of a listed number
  listed_pin : (pin : ℕ) → Contains (register_pins s) pin → (p : Pin) × HasNumber s p pin × (is_register_pin s.design p ≡ true)
  listed_pin pin c = by (pin_numbered s pin) refl
    where
      passes : clocks_pin s pin ≡ true
      passes = passes_in (clocks_pin s) (range_with_len 0 (length s.pins)) pin c

      by : (o : Option Pin) → pin_numbered s pin ≡ o → (p : Pin) × HasNumber s p pin × (is_register_pin s.design p ≡ true)
      by None h = absurd (false≢true (sym (ap (λ o. option_map_or (is_register_pin s.design) o false) h) ∙ passes))
      by (Some p) h = (p, pin_of_number s num linked pin p h, sym (ap (λ o. option_map_or (is_register_pin s.design) o false) h) ∙ passes)

  of_number : (k : ℕ) → AreOf (register_pins s) k → IsPlaced k
  of_number k a = let p = listed_pin a.0 a.1 in by p a.2
    where
      made : (p : (q : Pin) × HasNumber s q a.0 × (is_register_pin s.design q ≡ true)) (t : Tran) → k ≡ node_number a.0 t → IsPlaced k
      made p t e = record {
        node = record { pin = p.0; tran = t };
        its = node_told s (record { pin = p.0; tran = t }) k (record { pin = a.0; has = p.1; number = e });
        within = in_filter (clocks_register s.design) (nodes s.design) (record { pin = p.0; tran = t }) (node_in s.design p.0 t p.1.within) p.2;
      }

      by : (p : (q : Pin) × HasNumber s q a.0 × (is_register_pin s.design q ≡ true)) → (k ≡ 2 * a.0) ⊎ (k ≡ 2 * a.0 + 1) → IsPlaced k
      by p (inl e) = made p Rise (let f : 2 * a.0 ≡ node_number a.0 Rise = omega arith in e ∙ f)
      by p (inr e) = made p Fall e

  -- the numbers are below the bound
  pub pins_low : (ns : List ℕ) → ns ≡ register_pins s → All (λ pin. pin < length s.pins) ns
  pins_low ns e =
      subst (λ (xs : List ℕ). All (λ pin. pin < length s.pins) xs) (sym e)
      (All-weaker (Contains (register_pins s)) (λ pin. pin < length s.pins) (λ pin c. (listed_pin pin c).1.below) (register_pins s) (All-contains_itself (register_pins s)))

  arrival_is : (split : Split) (edge : ℕ × Tran) (k : ℕ) (node : Node) → node_at s k ≡ Some node → arrival_numbered s split edge k ≡ arrival s.design split node edge
  arrival_is split edge k node at = ap (λ o. time_on (times_in split (option_map_or (row s.design) o empty_row)) edge) at

  named_is : (end : Reached) (r : PathNode) → IsNodeOf s end r → (node : Node) → node_at s end.node ≡ Some node → ◌≡◌ {A = Named} (named node) (r.pin, r.tran)
  named_is end r is node at =
      let h = has_node s num linked end.node node at in
      let pin : name_of node.pin ≡ r.pin = sym (pin_name_here s num linked end.node node at) ∙ sym is.pin in
      let tran : node.tran ≡ r.tran = sym (ap tran_under h.number ∙ tran_of_number h.pin node.tran) ∙ sym is.tran in
      λ i. (pin i, tran i)

  number_named : (a b : ℕ) (x y : Node) → node_at s a ≡ Some x → node_at s b ≡ Some y → number_cmp s a b ≡ named_cmp (named x) (named y)
  number_named a b x y e f =
      let first = name_here s a x e in
      let second = name_here s b y f in
      sym (ranks_agree s a b (number_low s num linked a (record { node = x; its = e })) (number_low s num linked b (record { node = y; its = f })))
      ∙ named_agree s num linked a b (record { node = x; its = e }) (record { node = y; its = f })
      ∙ (λ k. named_cmp (first k) (second k))

  module _ (split : Split) (edge : ℕ × Tran) (b : Reached) (first : first_end s split edge ≡ Some b) where
    best : IsBest s split edge (AreOf (register_pins s)) (Some b)
    best = subst (λ (o : Option Reached). IsBest s split edge (AreOf (register_pins s)) o) first (best_of s split edge (register_pins s))

    own : IsPlaced b.node
    own = of_number b.node best.0

    its_arrival : arrival s.design split own.node edge ≡ Some b.time
    its_arrival = sym (arrival_is split edge b.node own.node own.its) ∙ best.1

    outermost_is : (r : PathNode) → IsNodeOf s b r → IsOutermost s.design split edge r
    outermost_is r is = ((own.node, own.within, named_is b r is own.node own.its, its_arrival ∙ ap Some (sym is.time)), others)
      where
        others : (node : Node) (time : ℤ) → Contains (clock_nodes s.design) node → arrival s.design split node edge ≡ Some time
            → (outer split r.time.0 time ≡ r.time.0) × (time ≡ r.time.0 → is_gt (named_cmp (r.pin, r.tran) (named node)) ≡ false)
        others node time c e =
            let k = of_node node c in
            let behind = best.2 k.number time k.among (arrival_is split edge k.number node k.its ∙ e) in (
              subst (λ (t : ℤ). outer split t time ≡ t) (sym is.time) (outer_of split time b.time (number_cmp s k.number b.node) behind),
              λ same.
                  (ap (λ (n : Named). is_gt (named_cmp n (named node))) (sym (named_is b r is own.node own.its))
                  ∙ ap is_gt (sym (number_named b.node k.number own.node node own.its k.its))
                  ∙ ap is_gt ((number_total s).antisymm b.node k.number)
                  ∙ gt_of (number_cmp s k.number b.node) (tie split time b.time (number_cmp s k.number b.node) (same ∙ is.time) behind)),
            )

    pub end_told : (g : Graphed) → g.stored ≡ s → IsGraph g → NoOrigin s.design → Contains (launch_edges s.design) edge → IsEnd s split edge b
    end_told g same is none m = record {
      first = first;
      there = number_there s b.node own.node own.its;
      within = leb-true (unsigned_abs b.time) limit
          (sym (ap within_some its_arrival)
          ∙ arrivals_fine g s same num linked is (rows_fine s.design none) split own.node
          (pin_in s.design own.node (kept_in (clocks_register s.design) (nodes s.design) own.node own.within)) edge m);
    }

  module _ (edge : ℕ × Tran) where
    pub reached : (b : Reached) → first_end s Late edge ≡ Some b → reaches_register s.design edge ≡ true
    reached b first =
        let k = own Late edge b first in
        any_in (λ (node : Node). is_some (arrival s.design Late node edge)) (clock_nodes s.design) k.node k.within (ap is_some (its_arrival Late edge b first))

    -- what a late arrival reaches an early one does
    pub both_there : (g : Graphed) → g.stored ≡ s → IsGraph g → Contains (launch_edges s.design) edge → (late : Reached) → first_end s Late edge ≡ Some late
        → first_end s Early edge ≡ None → ⊥
    both_there g same is m late first none =
        let k = own Late edge late first in
        let missing = subst (λ (o : Option Reached). IsBest s Early edge (AreOf (register_pins s)) o) none (best_of s Early edge (register_pins s)) in
        let net = and_parts (is_clock_pin s.design k.node.pin) (is_network s.design k.node.pin) (passes_in (clocks_register s.design) (nodes s.design) k.node k.within) in
        let early = early_there s.design (timed_store g same is) edge m k.node net.1
        (pin_in s.design k.node (kept_in (clocks_register s.design) (nodes s.design) k.node k.within)) (ap is_some (its_arrival Late edge late first)) in
        false≢true
        (sym (ap is_some (sym (arrival_is Early edge late.node k.node k.its) ∙ missing late.node (best Late edge late first).0)) ∙ early)
      where
        timed_store : (h : Graphed) → h.stored ≡ s → IsGraph h → IsTimed s.design
        timed_store h e i =
            subst (λ (z : Stored). IsTimed z.design) e (timed h (subst (λ (z : Stored). IsNumbered z) (sym e) num) (subst (λ (z : Stored). IsLinked z.design) (sym e) linked) i)

    pub unreached : first_end s Late edge ≡ None → IsEdgeSkew s.design edge None
    unreached first = elim (cases_Bool (reaches_register s.design edge)) [
      | inl e ↦
          let x = any_back (λ (node : Node). is_some (arrival s.design Late node edge)) (clock_nodes s.design) e in
          let k = of_node x.item x.within in
          let none = subst (λ (o : Option Reached). IsBest s Late edge (AreOf (register_pins s)) o) first (best_of s Late edge (register_pins s)) in
          absurd (false≢true (sym (ap is_some (sym (arrival_is Late edge k.number x.item k.its) ∙ none k.number k.among)) ∙ x.passes))
      | inr f ↦ f
    ]

    pub skew_told : (ends : SkewEnds) (skew : SkewReport) → AreEnds s edge (Some ends) → IsSkewOf s edge ends skew → IsEdgeSkew s.design edge (Some skew)
    skew_told ends skew (late, early) is = (
      reached ends.late late.first,
      (
        is.on,
        outermost_is Late edge ends.late late.first skew.late is.late,
        outermost_is Early edge ends.early early.first skew.early is.early,
        is.less ∙ ap (λ t. t -ℤ ends.early.time) (sym is.late.time) ∙ ap (λ t. skew.late.time.0 -ℤ t) (sym is.early.time),
      ),
    )

-- lists of skews
module _ (d : Design) where
  with_edge : (edges : List (ℕ × Tran)) (before : List SkewReport) (edge : ℕ × Tran) (found : Option SkewReport) → AreSkewsOf d (filter (reaches_register d) edges) before
      → IsEdgeSkew d edge found → AreSkewsOf d (filter (reaches_register d) (edges ++ edge ∷ [])) (before ++ option_to_list found)
  with_edge [] [] edge None are is = rw is tt
  with_edge [] [] edge (Some skew) are is = rw is.0 (is.1, tt)
  with_edge [] (b ∷ bs) edge found are is = absurd are
  with_edge (e ∷ es) before edge found are is = by (λ bs k. with_edge es bs edge found k is) (cases_Bool (reaches_register d e)) before are
    where
      kept : ((bs : List SkewReport) → AreSkewsOf d (filter (reaches_register d) es) bs → AreSkewsOf d (filter (reaches_register d) (es ++ edge ∷ [])) (bs ++ option_to_list found))
          → (bs : List SkewReport) → AreSkewsOf d (e ∷ filter (reaches_register d) es) bs
          → AreSkewsOf d (e ∷ filter (reaches_register d) (es ++ edge ∷ [])) (bs ++ option_to_list found)
      kept more [] k = absurd k
      kept more (b ∷ bs) k = (k.0, more bs k.1)

      by : ((bs : List SkewReport) → AreSkewsOf d (filter (reaches_register d) es) bs → AreSkewsOf d (filter (reaches_register d) (es ++ edge ∷ [])) (bs ++ option_to_list found))
          → (reaches_register d e ≡ true) ⊎ (reaches_register d e ≡ false) → (bs : List SkewReport) → AreSkewsOf d (filter (reaches_register d) (e ∷ es)) bs
          → AreSkewsOf d (filter (reaches_register d) (e ∷ es ++ edge ∷ [])) (bs ++ option_to_list found)
      by more (inl h) bs k = rw h (kept more bs (let l : AreSkewsOf d (e ∷ filter (reaches_register d) es) bs = rw h at k in l))
      by more (inr h) bs k = rw h (more bs (let l : AreSkewsOf d (filter (reaches_register d) es) bs = rw h at k in l))

  edge_put : (edges : List (ℕ × Tran)) (before after : List SkewReport) (edge : ℕ × Tran) → AreSkewsOf d (filter (reaches_register d) edges) before → IsWithEdge d edge before after
      → AreSkewsOf d (filter (reaches_register d) (edges ++ edge ∷ [])) after
  edge_put edges before after edge are w =
      subst (λ (xs : List SkewReport). AreSkewsOf d (filter (reaches_register d) (edges ++ edge ∷ [])) xs) (sym w.more) (with_edge edges before edge w.found are w.is)

  two : {X : Type 0} (xs : List X) (a b : X) → (xs ++ a ∷ []) ++ b ∷ [] ≡ xs ++ a ∷ b ∷ []
  two [] a b = refl
  two (x ∷ xs) a b = ap (λ ys. x ∷ ys) (two xs a b)

  edges_more : (clocks : List Clock) (i : ℕ) → i < length clocks → clock_edges 0 (take (i + 1) clocks) ≡ clock_edges 0 (take i clocks) ++ (i, Rise) ∷ (i, Fall) ∷ []
  edges_more clocks i low =
      by clocks i low 0
      ∙ ap (λ m. clock_edges 0 (take i clocks) ++ (m, Rise) ∷ (m, Fall) ∷ []) (let e : 0 + i ≡ i = omega arith in e)
    where
      by : (xs : List Clock) (j : ℕ) → j < length xs → (n : ℕ) → clock_edges n (take (j + 1) xs) ≡ clock_edges n (take j xs) ++ (n + j, Rise) ∷ (n + j, Fall) ∷ []
      by [] j l n = absurd (omega arith)
      by (x ∷ xs) zero l n = ap (λ m. (m, Rise) ∷ (m, Fall) ∷ []) (let e : n ≡ n + 0 = omega arith in e)
      by (x ∷ xs) (suc j) l n =
          ap (λ m. clock_edges n (take m (x ∷ xs))) (let e : suc j + 1 ≡ suc (j + 1) = omega arith in e)
          ∙ ap (λ es. (n, Rise) ∷ (n, Fall) ∷ es)
          (by xs j (omega arith) (n + 1)
          ∙ ap (λ m. clock_edges (n + 1) (take j xs) ++ (m, Rise) ∷ (m, Fall) ∷ []) (let e : n + 1 + j ≡ n + suc j = omega arith in e))

  -- the skews of the first clocks, and of one more
  pub clock_put : (clocks : List Clock) (i : ℕ) (before after : List SkewReport) → i < length clocks
      → AreSkewsOf d (filter (reaches_register d) (clock_edges 0 (take i clocks))) before → IsWithClock d i before after
      → AreSkewsOf d (filter (reaches_register d) (clock_edges 0 (take (i + 1) clocks))) after
  clock_put clocks i before after low are w =
      subst (λ (es : List (ℕ × Tran)). AreSkewsOf d (filter (reaches_register d) es) after)
      (two (clock_edges 0 (take i clocks)) (i, Rise) (i, Fall) ∙ sym (edges_more clocks i low))
      (edge_put (clock_edges 0 (take i clocks) ++ (i, Rise) ∷ []) w.middle after (i, Fall)
      (edge_put (clock_edges 0 (take i clocks)) before w.middle (i, Rise) are w.rise) w.fall)

  pub edge_there : (clocks : List Clock) (i : ℕ) (tran : Tran) → i < length clocks → Contains (clock_edges 0 clocks) (i, tran)
  edge_there clocks i tran low = subst (λ (m : ℕ). Contains (clock_edges 0 clocks) (m, tran)) (let e : 0 + i ≡ i = omega arith in e) (by clocks i low 0)
    where
      here : (n : ℕ) (t : Tran) (more : List (ℕ × Tran)) → Contains ((n, Rise) ∷ (n, Fall) ∷ more) (n, t)
      here n Rise more = first_in (n, Rise) ((n, Fall) ∷ more)
      here n Fall more = later_in (n, Rise) ((n, Fall) ∷ more) (n, Fall) (first_in (n, Fall) more)

      by : (xs : List Clock) (j : ℕ) → j < length xs → (n : ℕ) → Contains (clock_edges n xs) (n + j, tran)
      by [] j l n = absurd (omega arith)
      by (x ∷ xs) zero l n = subst (λ (m : ℕ). Contains (clock_edges n (x ∷ xs)) (m, tran)) (let e : n ≡ n + 0 = omega arith in e) (here n tran (clock_edges (n + 1) xs))
      by (x ∷ xs) (suc j) l n =
          later_in (n, Rise) ((n, Fall) ∷ clock_edges (n + 1) xs) (n + suc j, tran)
          (later_in (n, Fall) (clock_edges (n + 1) xs) (n + suc j, tran)
          (subst (λ (m : ℕ). Contains (clock_edges (n + 1) xs) (m, tran)) (let e : n + 1 + j ≡ n + suc j = omega arith in e) (by xs j (omega arith) (n + 1))))
