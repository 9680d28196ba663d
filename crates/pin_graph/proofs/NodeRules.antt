-- The rule by which arcs give nodes their levels: what a write leaves, what is settled, and what an ECO leaves settled.

use Rattle.std.proofs.Common.{◌≡◌, ℕ, ◌+◌, ◌<◌, ◌≤◌, Bool, false, List, [], ◌∷◌, map, take, length, get_or, refl, sym, ap, subst, ◌∙◌, inl, inr, arith}
use Rattle.std.specs.Prelude.{nat_eq, max, slice_index, slice_set, All, Contains}
use Rattle.std.proofs.lemmas.Bool.{cases_lt, eq-eqb, false≢true}
use Rattle.std.proofs.lemmas.List.{get_or-set_other, get_or_past, map-append, take_more}
use Rattle.std.proofs.lemmas.List.Elements.{All-from_get_or, Contains-get_or}
use Rattle.levelizer.specs.Levels.{greatest}
use Rattle.settling.specs.Settled.{IsRule, IsSettled}
use Rattle.pin_graph.specs.declared.arcs.GraphArc.{GraphArc}
use Rattle.pin_graph.specs.declared.held_fans.Fans.{Fans}
use Rattle.pin_graph.specs.Nodes.{node_bound}
use Rattle.pin_graph.specs.Graphs.{Graphed, fan_at, from_of, to_of, AreNodeLevels}
use Rattle.pin_graph.specs.PinValues.{level_over, IsLonger}
use Rattle.pin_graph.specs.NodeValues.{level_behind, node_level, nodes_behind, AreOpposite}
use Rattle.timing_defs.proofs.Members.{first_in, later_in, in_map, in_map_back, any_in}
use Rattle.pin_graph.proofs.RuleLists.{greatest_last, level_below}

pub behind_alike : (t u : List ℕ) (arcs : List GraphArc) → ((arc : GraphArc) → Contains arcs arc → slice_index t arc.from ≡ slice_index u arc.from)
    → level_behind t arcs ≡ level_behind u arcs
behind_alike t u [] same = refl
behind_alike t u (arc ∷ arcs) same = let rest = behind_alike t u arcs (λ a c. same a (later_in arc arcs a c)) in rw (same arc (first_in arc arcs), rest) refl

pub behind_more : (t : List ℕ) (arcs : List GraphArc) (i : ℕ) (d : GraphArc) → i < length arcs
    → level_behind t (take (i + 1) arcs) ≡ max (level_behind t (take i arcs)) (slice_index t (get_or arcs i d).from + 1)
behind_more t arcs i d low =
    ap (level_behind t) (take_more arcs i d low) ∙ ap greatest (map-append (λ (arc : GraphArc). slice_index t arc.from + 1) (take i arcs) (get_or arcs i d ∷ []))
    ∙ greatest_last (map (λ (arc : GraphArc). slice_index t arc.from + 1) (take i arcs)) (slice_index t (get_or arcs i d).from + 1)

-- by the nodes from which the arcs lead
over_tails : (t : List ℕ) (arcs : List GraphArc) → level_behind t arcs ≡ level_over t (map from_of arcs)
over_tails t [] = refl
over_tails t (arc ∷ arcs) = ap (λ k. max (slice_index t arc.from + 1) k) (over_tails t arcs)

module _ (n : ℕ) (ins outs : Fans) (pin_levels : List ℕ) (opposite : AreOpposite n ins outs pin_levels) where
  -- arcs lead from nodes and to nodes
  pub tails_under : (node : ℕ) (arcs : List GraphArc) → node < n → arcs ≡ fan_at ins node → All (λ (arc : GraphArc). arc.from < n) arcs
  tails_under node arcs low is = subst (All (λ (arc : GraphArc). arc.from < n)) (sym is)
      (λ k d l. (opposite.turned.all node low (get_or (fan_at ins node) k d) (Contains-get_or (fan_at ins node) k d l)).1)

  pub heads_under : (node : ℕ) (nodes : List ℕ) (arcs : List GraphArc) → node < n → nodes ≡ map to_of arcs → arcs ≡ fan_at outs node → All (λ a. a < n) nodes
  heads_under node nodes arcs low made is = subst (All (λ a. a < n)) (sym (made ∙ ap (map to_of) is))
      (λ k d l.
      let m = in_map_back to_of (fan_at outs node) (get_or (map to_of (fan_at outs node)) k d) (Contains-get_or (map to_of (fan_at outs node)) k d l) in
      subst (λ (x : ℕ). x < n) m.same (opposite.turned.sound node low m.item m.within).1)

  -- a write changes what the rule gives for those behind it alone
  pub nodes_rule : IsRule n (node_level ins) (nodes_behind outs)
  nodes_rule = record {
    local = λ t x v a count low none.
        behind_alike (slice_set t x v) t (fan_at ins a) (λ arc c.
        let ends = opposite.turned.all a low arc c in
        get_or-set_other t x arc.from v 0 (λ e.
        let out : Contains (fan_at outs x) arc = subst (λ (k : ℕ). Contains (fan_at outs k) arc) e ends.2 in
        false≢true (sym none ∙ any_in (nat_eq a) (nodes_behind outs x) arc.to (in_map to_of (fan_at outs x) arc out) (eq-eqb a arc.to (sym ends.0)))));
  }

-- what is settled at all nodes
pub nodes_settled : (g : Graphed) → IsSettled (node_bound g.stored) (node_level g.ins) g.levels (λ a. false) → AreNodeLevels g
nodes_settled g settled = record {
  count = settled.count;
  level = λ node low. settled.each node low refl;
}

-- Other arcs into nodes, of which some nodes alone may have others: a table that reads as a base's is settled there but
-- at those.
module _ (n m : ℕ) (base_ins ins : Fans) (base t : List ℕ) (longer : IsLonger m base t) (but : ℕ → Bool) where
  pub nodes_kept : length base ≡ n → n < 4294967296
      → ((node : ℕ) → node < n → (arc : GraphArc) → Contains (fan_at base_ins node) arc → arc.from < n)
      → ((node : ℕ) → node < n → slice_index base node ≡ node_level base_ins base node)
      → ((node : ℕ) → node < n → node < m → but node ≡ false → fan_at ins node ≡ fan_at base_ins node)
      → ((node : ℕ) → n ≤ node → node < m → but node ≡ false → fan_at ins node ≡ [])
      → IsSettled m (node_level ins) t but
  nodes_kept long fits tails is same new = record {
    count = longer.count;
    low = All-from_get_or (λ v. v < 4294967295) t 0 (λ i l. subst (λ (v : ℕ). v < 4294967295) (sym (longer.same i)) (low i));
    each = λ node under out. elim (cases_lt node n) [
      | inl here ↦
          longer.same node ∙ is node here ∙ sym (behind_alike t base (fan_at base_ins node) (λ arc c. longer.same arc.from))
          ∙ ap (level_behind t) (sym (same node here under out))
      | inr past ↦
          longer.same node ∙ none_past node past ∙ ap (level_behind t) (sym (new node past under out))
    ];
  }
    where
      none_past : (node : ℕ) → n ≤ node → slice_index base node ≡ 0
      none_past node past = get_or_past base node 0 (omega (arith, long, past))

      low : (node : ℕ) → slice_index base node < 4294967295
      low node = elim (cases_lt node n) [
        | inl here ↦
            let under = level_below n base (λ a. map from_of (fan_at base_ins a)) (λ a l. is a l ∙ over_tails base (fan_at base_ins a))
            (λ a l x c.
            let r = in_map_back from_of (fan_at base_ins a) x c in
            subst (λ (k : ℕ). k < n) r.same (tails a l r.item r.within)) node here in
            omega (arith, under, fits)
        | inr past ↦ let none = none_past node past in omega (arith, none)
      ]
