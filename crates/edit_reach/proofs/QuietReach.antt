-- Nodes that no seed leads to stay with all that leads to them.

use Rattle.std.proofs.Common.{◌≡◌, ℕ, ◌<◌, Bool, true, false, not, List, length, Option, None, Some, refl, sym, ap, ◌∙◌, inl, inr}
use Rattle.std.specs.Prelude.{Contains, is_some, option_map}
use Rattle.std.specs.Option.{option_map_or}
use Rattle.std.proofs.lemmas.Bool.{cases_Bool, false≢true}
use Rattle.std.proofs.lemmas.List.Elements.{All-contains}
use Rattle.timing_defs.specs.declared.design.Design.{Design}
use Rattle.timing_defs.specs.Netlist.{Node, name_of, nodes}
use Rattle.timing_defs.specs.Touches.{Touch}
use Rattle.timing_rules.specs.Cones.{is_seed, has_register_arc}
use Rattle.timing_rules.specs.Rows.{arcs_in}
use Rattle.timing_rules.specs.Paths.{Named, named, node_named}
use Rattle.timing_rules.proofs.RowLaws.{ArePlacedNodes}
use Rattle.netlist_store.specs.Linked.{IsLinked}
use Rattle.netlist_store.specs.Numbering.{number_of, IsNumbered}
use Rattle.netlist_store.specs.Applying.{IsEditOf}
use Rattle.eco_laws.proofs.EditOf.{base_linked, edited_linked, framed_of}
use Rattle.pin_graph.specs.declared.arcs.GraphArc.{GraphArc}
use Rattle.pin_graph.specs.Nodes.{node_number, number_at}
use Rattle.pin_graph.specs.Graphs.{Graphed, IsGraph, IsArc, kind_between, fan_at}
use Rattle.timing_defs.proofs.Members.{some_is}
use Rattle.store_pins.proofs.PinLaws.{told_at, pin_told, pin_at_number}
use Rattle.pin_graph.proofs.NodeLaws.{HasNode, node_told, node_below}
use Rattle.pin_graph.proofs.GraphRows.{Stands as HasPlace, level, placed, low_level}
use Rattle.calm_laws.proofs.NoSeedCalm.{HasCalm, no_seed_calm}
use Rattle.calm_laws.proofs.QuietNodes.{Stands, IsQuietNode, AreQuietNodes, told_node}
use Rattle.edit_reach.specs.Reach.{is_in, HasSeeds, AreBehind}

not_true : (b : Bool) → not b ≡ true → b ≡ false
not_true true e = absurd (false≢true e)
not_true false e = refl

-- places of the nodes of a design by a graph
module _ (g : Graphed) (num : IsNumbered g.stored) (linked : IsLinked g.stored.design) (is : IsGraph g) where
  near : (n : Node) → Stands g.stored.design n → HasPlace g num linked is n
  near n c = let p = pin_told g.stored num linked n.pin c in (node_number p.0 n.tran, record { pin = p.0; has = p.1; number = refl })

  pub all_placed : ArePlacedNodes g.stored.design (Stands g.stored.design) (level g num linked is)
  all_placed = record {
    closed = λ to s from c. ((placed g num linked is).closed to (near to s) from c).1.has.within;
    rising = λ to s from c. (placed g num linked is).rising to (near to s) from c;
    low = λ n s. (placed g num linked is).low n (near n s);
  }

  pub all_low : (n : Node) → Stands g.stored.design n → level g num linked is n < length (nodes g.stored.design)
  all_low n s = low_level g num linked is n (near n s)

module _ (g g2 : Graphed) (touch : Touch) (made : IsEditOf g.stored touch g2.stored) (num : IsNumbered g.stored) (num2 : IsNumbered g2.stored) (is : IsGraph g) (is2 : IsGraph g2)
    (seeds found : List ℕ) (all : HasSeeds g.stored g2.stored touch seeds) (behind : AreBehind g2 seeds found) where
  abbrev pub d : Design
  d = g.stored.design

  abbrev pub d2 : Design
  d2 = g2.stored.design

  pub linked : IsLinked g.stored.design
  linked = base_linked g.stored touch g2.stored made

  pub linked2 : IsLinked g2.stored.design
  linked2 = edited_linked g.stored touch g2.stored made

  -- a name has a number in the edited store, of a node that is not behind
  abbrev pub quiet : Named → Bool
  quiet n = option_map_or (λ k. not (is_in found k)) (number_at g2.stored n.0 n.1) false

  pub record HasQuiet (n : Named) : Type 0 where
    pub number : ℕ
    pub node : Node
    pub has : HasNode g2.stored node number
    pub is_named : named node ≡ n
    pub off : is_in found number ≡ false

  pub quiet_node : (n : Named) → quiet n ≡ true → HasQuiet n
  quiet_node n q = by (number_of g2.stored.pins n.0) refl
    where
      by : (o : Option ℕ) → number_of g2.stored.pins n.0 ≡ o → HasQuiet n
      by None e = absurd (false≢true (sym (ap (λ o. option_map_or (λ k. not (is_in found k)) (option_map (λ pin. node_number pin n.1) o) false) e) ∙ q))
      by (Some p) e =
          let at = told_at g2.stored.pins n.0 p e in
          let h = pin_at_number g2.stored num2 linked2 p (ap is_some at) in
          let name : name_of h.0 ≡ n.0 = some_is (sym h.1.name ∙ at) in
          record {
            number = node_number p n.1;
            node = record { pin = h.0; tran = n.1 };
            has = record { pin = p; has = h.1; number = refl };
            is_named = λ k. (name k, n.1);
            off = not_true (is_in found (node_number p n.1)) (sym (ap (λ o. option_map_or (λ k. not (is_in found k)) (option_map (λ pin. node_number pin n.1) o) false) e) ∙ q);
          }

  pub quiet_of : (node : Node) (k : ℕ) → HasNode g2.stored node k → is_in found k ≡ false → quiet (named node) ≡ true
  quiet_of node k h off =
      ap (λ o. option_map_or (λ j. not (is_in found j)) (option_map (λ pin. node_number pin node.tran) o) false) h.has.number
      ∙ ap (λ j. not (is_in found j)) (sym h.number) ∙ ap not off

  module _ (n : Named) (h : HasQuiet n) where
    no_seed : is_seed d d2 touch h.node ≡ false
    no_seed = elim (cases_Bool (is_seed d d2 touch h.node)) [
      | inl e ↦ absurd (false≢true (sym h.off ∙ behind.first h.number (all.each h.number h.node (node_told g2.stored h.node h.number h.has) e)))
      | inr e ↦ e
    ]

    pub calm : HasCalm d d2 h.node
    calm = no_seed_calm g.stored touch g2.stored made h.node h.has.has.within no_seed

    before_quiet : (from : Node) → Contains (arcs_in d2 h.node) from → quiet (named from) ≡ true
    before_quiet from c =
        let f = (placed g2 num2 linked2 is2).closed h.node (h.number, h.has) from c in
        quiet_of from f.0 f.1 (elim (cases_Bool (is_in found f.0)) [
          | inl e ↦
              let arc : GraphArc = record { from = f.0; to = h.number; kind = kind_between d2 from h.node; edge = has_register_arc d2 from h.node } in
              let arc_is : IsArc g2.stored arc = record {
                from = from;
                from_number = node_told g2.stored from f.0 f.1;
                to = h.node;
                to_number = node_told g2.stored h.node h.number h.has;
                within = c;
                kind = refl;
                edge = refl;
              } in
              let m = (is2.outs f.0 (node_below g2.stored from f.0 f.1)).all arc arc_is refl in
              absurd (false≢true (sym h.off ∙ All-contains (λ (a : GraphArc). is_in found a.to ≡ true) (fan_at g2.outs f.0) arc (behind.onward f.0 e) m))
          | inr e ↦ e
        ])

    pub quiet_at : IsQuietNode d d2 quiet n
    quiet_at = record {
      before = calm.node;
      after = h.node;
      told = sym (ap (node_named d) h.is_named) ∙ calm.told;
      told2 = sym (ap (node_named d2) h.is_named) ∙ told_node d2 linked2 h.node h.has.has.within;
      calm = calm.calm;
      closed = before_quiet;
    }

  pub quiet_nodes : AreQuietNodes d d2 (level g num linked is) (level g2 num2 linked2 is2) quiet
  quiet_nodes = record {
    linked = linked;
    linked2 = linked2;
    framed = framed_of g.stored touch g2.stored made;
    placed = all_placed g num linked is;
    placed2 = all_placed g2 num2 linked2 is2;
    nodes = λ n q. quiet_at n (quiet_node n q);
  }
