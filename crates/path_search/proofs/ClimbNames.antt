-- The way back from a launch node is its walk over the clock network.

use Rattle.std.proofs.Common.{◌≡◌, ℕ, zero, suc, ◌+◌, ◌<◌, ◌≤◌, ℤ, true, false, List, [], ◌∷◌, ◌++◌, map, reverse, Option, Some, None, refl, sym, ap, subst, ◌∙◌, inl, inr, arith}
use Rattle.std.specs.Prelude.{All, Contains}
use Rattle.std.specs.Option.{option_map_or}
use Rattle.std.proofs.lemmas.Bool.{cases_Bool}
use Rattle.std.proofs.lemmas.List.{append_assoc, append-nil, reverse-append}
use Rattle.std.proofs.lemmas.List.Elements.{All-nil, All-push}
use Rattle.std.proofs.Math.Nat.{le-max_left}
use Rattle.timing_defs.specs.declared.kinds.Split.{Split}
use Rattle.timing_defs.specs.declared.kinds.Tran.{Tran}
use Rattle.timing_defs.specs.declared.design.Design.{Design}
use Rattle.timing_defs.specs.Netlist.{Pin, Node, pins, pin_named}
use Rattle.timing_rules.specs.Clocking.{is_network}
use Rattle.timing_rules.specs.Rows.{arcs_in}
use Rattle.timing_rules.specs.Cones.{has_register_arc}
use Rattle.timing_rules.specs.Tests.{network_walk, first_edge}
use Rattle.timing_rules.specs.Paths.{Named, named, start_of}
use Rattle.netlist_store.specs.Linked.{IsLinked}
use Rattle.netlist_store.specs.Numbering.{Stored, name_at, pin_numbered, IsNumbered}
use Rattle.levelizer.specs.Levels.{greatest}
use Rattle.pin_graph.specs.declared.arcs.GraphArc.{GraphArc}
use Rattle.pin_graph.specs.Nodes.{node_at, node_bound, node_number, pin_under, tran_under}
use Rattle.pin_graph.specs.Graphs.{Graphed, IsGraph, IsArc, fan_at, level_at, kind_between}
use Rattle.timing_defs.proofs.Members.{some_is, first_in, none_in}
use Rattle.store_pins.proofs.PinLaws.{below_bound, pin_told}
use Rattle.pin_graph.proofs.JoinLaws.{then_back, mapped_back}
use Rattle.pin_graph.proofs.NodeLaws.{has_node, node_below, node_told}
use Rattle.node_tests.specs.Walks.{first_from}
use Rattle.path_search.specs.Ranks.{climb_within, climb}
use Rattle.path_search.specs.Runs.{AreSteps, end_of, IsTimed}
use Rattle.path_search.specs.Launches.{IsLaunched, before_end, before_last, begin_names, begin_times, edge_of_start, time_at}
use Rattle.path_search.proofs.NodeNames.{named_back}
use Rattle.path_search.proofs.Prefixes.{off_walk, walk_on, walk_more, walk_is_told}
use Rattle.path_search.proofs.RankLaws.{Each, each_append}
use Rattle.path_search.proofs.NumberNames.{IsNodeNumber}
use Rattle.path_search.proofs.PathParts.{map_append}
use Rattle.path_search.proofs.Launching.{edge_walked, edge_alone}
use Rattle.path_search.proofs.Starts.{started, starts_in, port_entered}

-- the first of some arcs
record IsFirstArc (arcs : List GraphArc) (from : ℕ) : Type 0 where
  arc : GraphArc
  rest : List GraphArc
  is : arcs ≡ arc ∷ rest
  its : arc.from ≡ from

first_arc : (arcs : List GraphArc) (from : ℕ) → first_from arcs ≡ Some from → IsFirstArc arcs from
first_arc [] from e = absurd (cc)
first_arc (arc ∷ rest) from e = record { arc = arc; rest = rest; is = refl; its = some_is e }

no_first : (arcs : List GraphArc) → first_from arcs ≡ None → arcs ≡ []
no_first [] e = refl
no_first (arc ∷ arcs) e = absurd (cc)

-- a number that stands for a node is below the bound
pub bound_of : (s : Stored) (k : ℕ) (n : Node) → node_at s k ≡ Some n → k < node_bound s
bound_of s k n e =
    let m = mapped_back (λ (pin : Pin). record { pin = pin; tran = tran_under k }) (pin_numbered s (pin_under k)) n e in
    let name = then_back (pin_named s.design) (name_at s.pins (pin_under k)) m.0 m.1 in
    let low = below_bound s.pins name.0 (pin_under k) name.1 in
    omega arith

-- a walk to a node that none leads to is that node alone
single : (d : Design) (n : Node) (ms : List Node) → AreSteps d n ms → (end : Node) → end_of n ms ≡ end → ((from : Node) → Contains (arcs_in d end) from → ⊥) → n ∷ ms ≡ end ∷ []
single d n [] s end e none = ap (λ (m : Node). m ∷ []) e
single d n (m ∷ ms) s end e none = absurd (entered n m ms s e)
  where
    entered : (x y : Node) (ys : List Node) → AreSteps d x (y ∷ ys) → end_of x (y ∷ ys) ≡ end → ⊥
    entered x y [] a f = none x (subst (λ (z : Node). Contains (arcs_in d z) x) f a.0.arc)
    entered x y (z ∷ zs) a f = entered y z zs a.1 f

split_last : (n : Node) (ms : List Node) → n ∷ ms ≡ before_end n ms ++ end_of n ms ∷ []
split_last n [] = refl
split_last n (m ∷ ms) = ap (λ (xs : List Node). n ∷ xs) (split_last m ms)

cons_same : {X : Type 0} (x y : X) (xs ys : List X) → x ∷ xs ≡ y ∷ ys → (x ≡ y) × (xs ≡ ys)
cons_same x y xs ys e = (cc, cc)

-- lists that are alike with one more at the end
snoc_same : {X : Type 0} (xs ys : List X) (x y : X) → xs ++ x ∷ [] ≡ ys ++ y ∷ [] → xs ≡ ys
snoc_same [] [] x y e = refl
snoc_same [] (b ∷ []) x y e = absurd (cc)
snoc_same [] (b ∷ (c ∷ ys)) x y e = absurd (cc)
snoc_same (a ∷ []) [] x y e = absurd (cc)
snoc_same (a ∷ (c ∷ xs)) [] x y e = absurd (cc)
snoc_same (a ∷ xs) (b ∷ ys) x y e =
    let p = cons_same a b (xs ++ x ∷ []) (ys ++ y ∷ []) e in
    let first = p.0 in
    let rest = snoc_same xs ys x y p.1 in
    λ k. first k ∷ rest k

-- the node before another is of a lower level
pub record IsLower (g : Graphed) (node from : ℕ) : Type 0 where
  pub low : from < node_bound g.stored
  pub falls : level_at g from < level_at g node
  pub arc : GraphArc
  pub its : arc.from ≡ from
  pub is_arc : IsArc g.stored arc
  pub to : arc.to ≡ node

-- the way back as far as a loop has come
pub record IsWayBack (g : Graphed) (node top : ℕ) (ns : List ℕ) : Type 0 where
  pub low : top < node_bound g.stored
  pub list : climb g top ++ reverse ns ≡ climb g node

module _ (g : Graphed) (is : IsGraph g) where
  pub lower : (node from : ℕ) → node < node_bound g.stored → first_from (fan_at g.ins node) ≡ Some from → IsLower g node from
  lower node from low e =
      let f = first_arc (fan_at g.ins node) from e in
      let within : Contains (fan_at g.ins node) f.arc = subst (λ (xs : List GraphArc). Contains xs f.arc) (sym f.is) (first_in f.arc f.rest) in
      let s = (is.ins node low).sound f.arc within in
      let level : level_at g node ≡ greatest (map (λ (arc : GraphArc). level_at g arc.from + 1) (f.arc ∷ f.rest)) =
      is.levels.level node low ∙ ap (λ (xs : List GraphArc). greatest (map (λ (arc : GraphArc). level_at g arc.from + 1) xs)) f.is in
      let most = le-max_left (level_at g f.arc.from + 1) (greatest (map (λ (arc : GraphArc). level_at g arc.from + 1) f.rest)) in
      let below : level_at g f.arc.from < level_at g node = omega (arith, level, most) in
      record {
        low = subst (λ k. k < node_bound g.stored) f.its (bound_of g.stored f.arc.from s.0.from s.0.from_number);
        falls = subst (λ k. level_at g k < level_at g node) f.its below;
        arc = f.arc;
        its = f.its;
        is_arc = s.0;
        to = s.1;
      }

  -- any bound on the levels will do
  climb_same : (k j node : ℕ) → node < node_bound g.stored → level_at g node ≤ k → level_at g node ≤ j → climb_within g k node ≡ climb_within g j node
  climb_same zero zero node low a b = refl
  climb_same zero (suc j) node low a b = by (first_from (fan_at g.ins node)) refl
    where
      by : (o : Option ℕ) → first_from (fan_at g.ins node) ≡ o → [] ≡ option_map_or (λ from. climb_within g j from ++ from ∷ []) (first_from (fan_at g.ins node)) []
      by None e = sym (ap (λ o. option_map_or (λ from. climb_within g j from ++ from ∷ []) o []) e)
      by (Some from) e = let l = lower node from low e in let f = l.falls in absurd (omega arith)
  climb_same (suc k) zero node low a b = by (first_from (fan_at g.ins node)) refl
    where
      by : (o : Option ℕ) → first_from (fan_at g.ins node) ≡ o → option_map_or (λ from. climb_within g k from ++ from ∷ []) (first_from (fan_at g.ins node)) [] ≡ []
      by None e = ap (λ o. option_map_or (λ from. climb_within g k from ++ from ∷ []) o []) e
      by (Some from) e = let l = lower node from low e in let f = l.falls in absurd (omega arith)
  climb_same (suc k) (suc j) node low a b = by (λ from l. climb_same k j from l) (first_from (fan_at g.ins node)) refl
    where
      by : ((from : ℕ) → from < node_bound g.stored → level_at g from ≤ k → level_at g from ≤ j → climb_within g k from ≡ climb_within g j from)
          → (o : Option ℕ) → first_from (fan_at g.ins node) ≡ o
          → option_map_or (λ from. climb_within g k from ++ from ∷ []) (first_from (fan_at g.ins node)) []
          ≡ option_map_or (λ from. climb_within g j from ++ from ∷ []) (first_from (fan_at g.ins node)) []
      by again None e =
          ap (λ o. option_map_or (λ from. climb_within g k from ++ from ∷ []) o []) e
          ∙ sym (ap (λ o. option_map_or (λ from. climb_within g j from ++ from ∷ []) o []) e)
      by again (Some from) e =
          let l = lower node from low e in
          let f = l.falls in
          ap (λ o. option_map_or (λ from. climb_within g k from ++ from ∷ []) o []) e
          ∙ ap (λ (xs : List ℕ). xs ++ from ∷ []) (again from l.low (omega arith) (omega arith))
          ∙ sym (ap (λ o. option_map_or (λ from. climb_within g j from ++ from ∷ []) o []) e)

  pub climb_none : (node : ℕ) → node < node_bound g.stored → first_from (fan_at g.ins node) ≡ None → climb g node ≡ []
  unfolding climb
  climb_none node low e =
      climb_same (level_at g node) (suc (level_at g node)) node low (omega arith) (omega arith)
      ∙ ap (λ o. option_map_or (λ from. climb_within g (level_at g node) from ++ from ∷ []) o []) e

  pub climb_more : (node from : ℕ) → node < node_bound g.stored → first_from (fan_at g.ins node) ≡ Some from → climb g node ≡ climb g from ++ from ∷ []
  unfolding climb
  climb_more node from low e =
      let l = lower node from low e in
      let f = l.falls in
      climb_same (level_at g node) (suc (level_at g node)) node low (omega arith) (omega arith)
      ∙ ap (λ o. option_map_or (λ x. climb_within g (level_at g node) x ++ x ∷ []) o []) e
      ∙ ap (λ (xs : List ℕ). xs ++ from ∷ []) (climb_same (level_at g node) (level_at g from) from l.low (omega arith) (omega arith))

  -- what is on the way back is below the bound
  climb_low_within : (most node : ℕ) → node < node_bound g.stored → All (λ n. n < node_bound g.stored) (climb_within g most node)
  climb_low_within zero node low = All-nil (λ n. n < node_bound g.stored)
  climb_low_within (suc most) node low = by (λ x l. climb_low_within most x l) (first_from (fan_at g.ins node)) refl
    where
      by : ((x : ℕ) → x < node_bound g.stored → All (λ n. n < node_bound g.stored) (climb_within g most x)) → (o : Option ℕ) → first_from (fan_at g.ins node) ≡ o
          → All (λ n. n < node_bound g.stored) (option_map_or (λ from. climb_within g most from ++ from ∷ []) (first_from (fan_at g.ins node)) [])
      by again None e =
          subst (λ o. All (λ n. n < node_bound g.stored) (option_map_or (λ from. climb_within g most from ++ from ∷ []) o [])) (sym e) (All-nil (λ n. n < node_bound g.stored))
      by again (Some from) e =
          let l = lower node from low e in
          subst (λ o. All (λ n. n < node_bound g.stored) (option_map_or (λ x. climb_within g most x ++ x ∷ []) o [])) (sym e)
          (All-push (λ n. n < node_bound g.stored) (climb_within g most from) from (again from l.low) l.low)

  pub climb_low : (node : ℕ) → node < node_bound g.stored → All (λ n. n < node_bound g.stored) (climb g node)
  unfolding climb
  climb_low node low = climb_low_within (level_at g node) node low

  pub way_first : (node : ℕ) → node < node_bound g.stored → IsWayBack g node node []
  way_first node low = record { low = low; list = append-nil (climb g node) }

  pub way_first_as : (node : ℕ) (ns : List ℕ) → node < node_bound g.stored → ns ≡ [] → IsWayBack g node node ns
  way_first_as node ns low e = subst (IsWayBack g node node) (sym e) (way_first node low)

  pub way_more : (node top from : ℕ) (ns : List ℕ) → IsWayBack g node top ns → first_from (fan_at g.ins top) ≡ Some from → IsWayBack g node from (ns ++ from ∷ [])
  way_more node top from ns w e =
      let l = lower top from w.low e in
      record {
        low = l.low;
        list =
            ap (λ (xs : List ℕ). climb g from ++ xs) (reverse-append ns (from ∷ []))
            ∙ sym (append_assoc (climb g from) (from ∷ []) (reverse ns))
            ∙ ap (λ (xs : List ℕ). xs ++ reverse ns) (sym (climb_more top from w.low e))
            ∙ w.list;
      }

  pub way_more_as : (node top from : ℕ) (ns new : List ℕ) → IsWayBack g node top ns → first_from (fan_at g.ins top) ≡ Some from → new ≡ ns ++ from ∷ [] → IsWayBack g node from new
  way_more_as node top from ns new w e made = subst (IsWayBack g node from) (sym made) (way_more node top from ns w e)

  pub way_last : (node top : ℕ) (ns : List ℕ) → IsWayBack g node top ns → first_from (fan_at g.ins top) ≡ None → reverse ns ≡ climb g node
  way_last node top ns w e = ap (λ (xs : List ℕ). xs ++ reverse ns) (sym (climb_none top w.low e)) ∙ w.list

  pub way_last_as : (node top : ℕ) (ns : List ℕ) (o : Option ℕ) → IsWayBack g node top ns → o ≡ first_from (fan_at g.ins top) → ((x : ℕ) → o ≡ Some x → ⊥)
      → reverse ns ≡ climb g node
  way_last_as node top ns None w e none = way_last node top ns w (sym e)
  way_last_as node top ns (Some x) w e none = absurd (none x refl)

  module _ (num : IsNumbered g.stored) (linked : IsLinked g.stored.design) (t : IsTimed g.stored.design) where
    -- where no arc leads to a node by numbers, none does in the design
    nothing_before : (k : ℕ) (n : Node) → node_at g.stored k ≡ Some n → first_from (fan_at g.ins k) ≡ None → (from : Node) → Contains (arcs_in g.stored.design n) from → ⊥
    nothing_before k n e none from c =
        let low = node_below g.stored n k (has_node g.stored num linked k n e) in
        let there = t.before n (has_node g.stored num linked k n e).has.within from c in
        let x = node_number_of from there in
        let arc : GraphArc = record { from = x.0; to = k; kind = kind_between g.stored.design from n; edge = has_register_arc g.stored.design from n } in
        let is_arc : IsArc g.stored arc = record { from = from; from_number = x.1; to = n; to_number = e; within = c; kind = refl; edge = refl } in
        let within = (is.ins k low).all arc is_arc refl in
        none_in arc (subst (λ (xs : List GraphArc). Contains xs arc) (no_first (fan_at g.ins k) none) within)
      where
        node_number_of : (m : Node) → Contains (pins g.stored.design) m.pin → (x : ℕ) × (node_at g.stored x ≡ Some m)
        node_number_of m c =
            let p = pin_told g.stored num linked m.pin c in
            (node_number p.0 m.tran, node_told g.stored m (node_number p.0 m.tran) (record { pin = p.0; has = p.1; number = refl }))

    module _ {X : Type 0} (f : Node → X) (h : ℕ → X) (same : (k : ℕ) (n : Node) → node_at g.stored k ≡ Some n → h k ≡ f n) where
      -- the way back to a clock's port is the walk
      climb_walk : (most k : ℕ) (n : Node) → level_at g k < most → node_at g.stored k ≡ Some n → (walk : List Node) → network_walk g.stored.design n ≡ Some walk
          → map h (climb g k) ++ f n ∷ [] ≡ map f walk
      climb_walk zero k n small e walk w = absurd (omega arith)
      climb_walk (suc most) k n small e walk w = by (λ x m s. climb_walk most x m s) (first_from (fan_at g.ins k)) refl
        where
          low : k < node_bound g.stored
          low = node_below g.stored n k (has_node g.stored num linked k n e)

          within : Contains (pins g.stored.design) n.pin
          within = (has_node g.stored num linked k n e).has.within

          by : ((x : ℕ) (m : Node) → level_at g x < most → node_at g.stored x ≡ Some m → (walk : List Node) → network_walk g.stored.design m ≡ Some walk
              → map h (climb g x) ++ f m ∷ [] ≡ map f walk) → (o : Option ℕ) → first_from (fan_at g.ins k) ≡ o → map h (climb g k) ++ f n ∷ [] ≡ map f walk
          by again None none =
              let r = walk_is_told g.stored.design t n within walk w in
              let alone = single g.stored.design r.first r.rest r.steps n r.ends (nothing_before k n e none) in
              ap (λ (xs : List ℕ). map h xs ++ f n ∷ []) (climb_none k low none)
              ∙ ap (map f) (sym alone ∙ sym r.begins)
          by again (Some from) first =
              let l = lower k from low first in
              let a = l.is_arc in
              let to : a.to ≡ n = some_is (sym a.to_number ∙ ap (node_at g.stored) l.to ∙ e) in
              let number : node_at g.stored from ≡ Some a.from = ap (node_at g.stored) (sym l.its) ∙ a.from_number in
              let arc : Contains (arcs_in g.stored.design n) a.from = subst (λ (m : Node). Contains (arcs_in g.stored.design m) a.from) to a.within in
              let net = walk_on g.stored.design t n walk w in
              let m = mapped_back (λ v. v ++ n ∷ []) (network_walk g.stored.design a.from) walk (sym (walk_more g.stored.design t n within net a.from arc) ∙ w) in
              let falls = l.falls in
              let rest = again from a.from (omega arith) number m.0 m.1 in
              ap (λ (xs : List ℕ). map h xs ++ f n ∷ []) (climb_more k from low first)
              ∙ ap (λ (xs : List X). xs ++ f n ∷ []) (map_append h (climb g from) (from ∷ []) ∙ ap (λ (x : X). map h (climb g from) ++ x ∷ []) (same from a.from number) ∙ rest)
              ∙ sym (map_append f m.0 (n ∷ [])) ∙ ap (map f) m.2

      pub climbed : (k : ℕ) (n : Node) → node_at g.stored k ≡ Some n → (walk : List Node) → network_walk g.stored.design n ≡ Some walk → map h (climb g k) ++ f n ∷ [] ≡ map f walk
      climbed k n e walk w = climb_walk (suc (level_at g k)) k n (omega arith) e walk w

      -- its nodes but for the last
      pub climbed_before : (k : ℕ) (n : Node) → node_at g.stored k ≡ Some n → (walk : List Node) → network_walk g.stored.design n ≡ Some walk → map h (climb g k) ≡ map f (before_last walk)
      climbed_before k n e walk w =
          let r = walk_is_told g.stored.design t n (has_node g.stored num linked k n e).has.within walk w in
          let begins = r.begins in
          snoc_same (map h (climb g k)) (map f (before_end r.first r.rest)) (f n) (f (end_of r.first r.rest))
          (climbed k n e walk w ∙ ap (map f) begins ∙ ap (map f) (split_last r.first r.rest) ∙ map_append f (before_end r.first r.rest) (end_of r.first r.rest ∷ []))
          ∙ ap (λ (v : List Node). map f (before_last v)) (sym begins)

    -- a launch node outside the clock network is entered by no arc
    pub launch_alone : (split : Split) (edge : ℕ × Tran) (time : ℤ) (k : ℕ) (n : Node) → node_at g.stored k ≡ Some n → is_network g.stored.design n.pin ≡ false
        → IsLaunched g.stored.design split edge (named n) time → arcs_in g.stored.design n ≡ []
    launch_alone split edge time k n e out l =
        let within = (has_node g.stored num linked k n e).has.within in
        let its : l.node ≡ n = some_is (sym l.its ∙ named_back g.stored.design t n within) in
        let off : is_network g.stored.design l.node.pin ≡ false = ap (λ (m : Node). is_network g.stored.design m.pin) its ∙ out in
        let m = mapped_back edge_of_start (start_of g.stored.design split (named n)) edge (sym (edge_alone g.stored.design split (named n) l.node off) ∙ l.edge_is) in
        let s = started g.stored.design split (named n) m.0.0 m.0.1 m.1 in
        let same : s.node ≡ n = some_is (sym s.its ∙ named_back g.stored.design t n within) in
        let port = starts_in g.stored.design split s.node m.0.0 m.0.1 s.start in
        ap (arcs_in g.stored.design) (sym same) ∙ port_entered g.stored.design s.node port

    -- the nodes of the clock network before a launch node, by name or otherwise
    module _ (split : Split) (edge : ℕ × Tran) (time : ℤ) (k : ℕ) (n : Node) (e : node_at g.stored k ≡ Some n) (l : IsLaunched g.stored.design split edge (named n) time) where
      within_pins : Contains (pins g.stored.design) n.pin
      within_pins = (has_node g.stored num linked k n e).has.within

      -- the walk to a launch node of the network
      launch_walk : is_network g.stored.design n.pin ≡ true → (walk : List Node) × (network_walk g.stored.design n ≡ Some walk)
      launch_walk net =
          let its : l.node ≡ n = some_is (sym l.its ∙ named_back g.stored.design t n within_pins) in
          let on : is_network g.stored.design l.node.pin ≡ true = ap (λ (m : Node). is_network g.stored.design m.pin) its ∙ net in
          let w = then_back (first_edge g.stored.design) (network_walk g.stored.design l.node) edge (sym (edge_walked g.stored.design split (named n) l.node on) ∙ l.edge_is) in
          (w.0, ap (network_walk g.stored.design) (sym its) ∙ w.1)

      nothing_climbed : is_network g.stored.design n.pin ≡ false → climb g k ≡ []
      nothing_climbed out = by (first_from (fan_at g.ins k)) refl
        where
          low : k < node_bound g.stored
          low = node_below g.stored n k (has_node g.stored num linked k n e)

          by : (o : Option ℕ) → first_from (fan_at g.ins k) ≡ o → climb g k ≡ []
          by None none = climb_none k low none
          by (Some from) first =
              let a = lower k from low first in
              let to : a.is_arc.to ≡ n = some_is (sym a.is_arc.to_number ∙ ap (node_at g.stored) a.to ∙ e) in
              let arc : Contains (arcs_in g.stored.design n) a.is_arc.from = subst (λ (m : Node). Contains (arcs_in g.stored.design m) a.is_arc.from) to a.is_arc.within in
              absurd (none_in a.is_arc.from (subst (λ (xs : List Node). Contains xs a.is_arc.from) (launch_alone split edge time k n e out l) arc))

      pub launch_names : (h : ℕ → Named) → ((x : ℕ) (m : Node) → node_at g.stored x ≡ Some m → h x ≡ named m) → map h (climb g k) ++ named n ∷ [] ≡ begin_names g.stored.design (named n)
      launch_names h same = elim (cases_Bool (is_network g.stored.design n.pin)) [
        | inl net ↦
            let w = launch_walk net in
            climbed named h same k n e w.0 w.1 ∙ sym (begins (Some w.0) w.1)
        | inr out ↦ ap (λ (xs : List ℕ). map h xs ++ named n ∷ []) (nothing_climbed out) ∙ sym (begins None (off_walk g.stored.design n out))
      ]
        where
          begins : (o : Option (List Node)) → network_walk g.stored.design n ≡ o → begin_names g.stored.design (named n) ≡ option_map_or (map named) o (named n ∷ [])
          begins o w =
              ap (λ v. option_map_or (λ m. option_map_or (map named) (network_walk g.stored.design m) (named n ∷ [])) v (named n ∷ [])) (named_back g.stored.design t n within_pins)
              ∙ ap (λ v. option_map_or (map named) v (named n ∷ [])) w

      pub launch_times : (h : ℕ → ℤ) → ((x : ℕ) (m : Node) → node_at g.stored x ≡ Some m → h x ≡ time_at g.stored.design split edge m) → map h (climb g k) ≡ begin_times g.stored.design split edge (named n)
      launch_times h same = elim (cases_Bool (is_network g.stored.design n.pin)) [
        | inl net ↦
            let w = launch_walk net in
            climbed_before (time_at g.stored.design split edge) h same k n e w.0 w.1 ∙ sym (begins (Some w.0) w.1)
        | inr out ↦ ap (map h) (nothing_climbed out) ∙ sym (begins None (off_walk g.stored.design n out))
      ]
        where
          begins : (o : Option (List Node)) → network_walk g.stored.design n ≡ o
              → begin_times g.stored.design split edge (named n) ≡ option_map_or (λ walk. map (time_at g.stored.design split edge) (before_last walk)) o []
          begins o w =
              ap (λ v. option_map_or (λ m. option_map_or (λ walk. map (time_at g.stored.design split edge) (before_last walk)) (network_walk g.stored.design m) []) v []) (named_back g.stored.design t n within_pins)
              ∙ ap (λ v. option_map_or (λ walk. map (time_at g.stored.design split edge) (before_last walk)) v []) w

    -- the numbers on the way back are of nodes
    pub climb_known : (most k : ℕ) (n : Node) → level_at g k < most → node_at g.stored k ≡ Some n → Each (IsNodeNumber g.stored) (climb g k)
    climb_known zero k n small e = absurd (omega arith)
    climb_known (suc most) k n small e = by (λ x m s. climb_known most x m s) (first_from (fan_at g.ins k)) refl
      where
        low : k < node_bound g.stored
        low = node_below g.stored n k (has_node g.stored num linked k n e)

        by : ((x : ℕ) (m : Node) → level_at g x < most → node_at g.stored x ≡ Some m → Each (IsNodeNumber g.stored) (climb g x)) → (o : Option ℕ)
            → first_from (fan_at g.ins k) ≡ o → Each (IsNodeNumber g.stored) (climb g k)
        by again None none = subst (Each (IsNodeNumber g.stored)) (sym (climb_none k low none)) tt
        by again (Some from) first =
            let l = lower k from low first in
            let falls = l.falls in
            let number : node_at g.stored from ≡ Some l.is_arc.from = ap (node_at g.stored) (sym l.its) ∙ l.is_arc.from_number in
            subst (Each (IsNodeNumber g.stored)) (sym (climb_more k from low first))
            (each_append (IsNodeNumber g.stored) (climb g from) (from ∷ []) (again from l.is_arc.from (omega arith) number) (record { node = l.is_arc.from; its = number }, tt))
