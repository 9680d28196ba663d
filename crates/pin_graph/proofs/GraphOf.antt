-- What is found of a design's nodes makes its graph.

use Rattle.std.proofs.Common.{◌≡◌, ℕ, ◌<◌, Bool, List, map, length, get_or, Option, Some, sym, ap, subst, ◌∙◌}
use Rattle.std.specs.Prelude.{All}
use Rattle.std.proofs.lemmas.List.Elements.{Contains-get_or}
use Rattle.netlist_store.specs.Linked.{IsLinked}
use Rattle.netlist_store.specs.Numbering.{Stored, number_of, IsNumbered}
use Rattle.levelizer.specs.Levels.{AreLevels}
use Rattle.pin_graph.specs.declared.arcs.GraphArc.{GraphArc}
use Rattle.pin_graph.specs.declared.fans.End.TheVariants.{From, To}
use Rattle.pin_graph.specs.declared.tables.NodeGraph.{NodeGraph}
use Rattle.pin_graph.specs.declared.pin_arcs.PinArc.{PinArc}
use Rattle.pin_graph.specs.Fans.{IsFanOf}
use Rattle.pin_graph.specs.Joins.{before, pin_arcs}
use Rattle.pin_graph.specs.Networks.{clock_ports, IsNetwork}
use Rattle.pin_graph.specs.NodeArcs.{node_arcs, node_link, AreNodes, AreMerged}
use Rattle.pin_graph.specs.NodeGraphs.{IsFound}
use Rattle.pin_graph.specs.Nodes.{node_bound}
use Rattle.pin_graph.specs.Placing.{ArePlaced, AreInOrder}
use Rattle.store_pins.proofs.PinLaws.{told_at, below_bound}
use Rattle.pin_graph.proofs.JoinLaws.{net_arc_back, placed_back}
use Rattle.pin_graph.proofs.NodeLaws.{raw_within}

module _ (s : Stored) (num : IsNumbered s) (linked : IsLinked s.design) where
  pub before_low : (pin from : ℕ) → before s pin ≡ Some from → from < length s.pins
  before_low pin from e = (net_arc_back s num linked from pin e).source_number.below

  pub library_within : (network : List Bool) (library : List PinArc) → length network ≡ length s.pins → library ≡ pin_arcs s
      → All (λ arc. (arc.from < length network) × (arc.to < length network)) library
  library_within network library long is =
      subst (λ (xs : List PinArc). All (λ arc. (arc.from < length network) × (arc.to < length network)) xs) (sym is)
      (λ k d low.
      let p = placed_back s num linked (get_or (pin_arcs s) k d) (Contains-get_or (pin_arcs s) k d low) in
      (subst (λ (n : ℕ). (get_or (pin_arcs s) k d).from < n) (sym long) p.from_number.below, subst (λ (n : ℕ). (get_or (pin_arcs s) k d).to < n) (sym long) p.to_number.below))

  module _ (network : List Bool) (net : IsNetwork s network) where
    pub nodes_within : (n : ℕ) (raw : List GraphArc) → n ≡ node_bound s → raw ≡ node_arcs s network → AreNodes n raw
    nodes_within n raw long is =
        subst (λ (m : ℕ). AreNodes m raw) (sym long)
        (subst (λ (xs : List GraphArc). AreNodes (node_bound s) xs) (sym is)
        (λ k d low. raw_within s num linked network net (get_or (node_arcs s network) k d) (Contains-get_or (node_arcs s network) k d low)))

    pub merged_as : (n : ℕ) (raw arcs : List GraphArc) → n ≡ node_bound s → raw ≡ node_arcs s network → AreMerged n raw arcs → AreMerged (node_bound s) (node_arcs s network) arcs
    merged_as n raw arcs long is h =
        subst (λ (xs : List GraphArc). AreMerged (node_bound s) xs arcs) is (subst (λ (m : ℕ). AreMerged m raw arcs) long h)

    module _ (arcs : List GraphArc) (merged : AreMerged (node_bound s) (node_arcs s network) arcs) where
      pub nodes_of : (n : ℕ) → n ≡ node_bound s → AreNodes n arcs
      nodes_of n long = subst (λ (m : ℕ). AreNodes m arcs) (sym long) merged.nodes

      -- as the calls have it
      pub found_as : (nodes : NodeGraph) (n : ℕ) (network2 : List Bool) (ports ports2 levels2 : List ℕ) → n ≡ node_bound s
          → network2 ≡ network → ports ≡ clock_ports s → ports2 ≡ ports → levels2 ≡ nodes.levels
          → IsFanOf n To arcs nodes.ins → IsFanOf n From arcs nodes.outs → AreLevels n (map node_link arcs) nodes.levels → ArePlaced n network2 ports2 arcs levels2 nodes.places
          → AreInOrder nodes.places nodes.order → IsFound s network arcs nodes
      found_as nodes n network2 ports ports2 levels2 long a b c e ins outs are placed ordered = record {
        ins = subst (λ (m : ℕ). IsFanOf m To arcs nodes.ins) long ins;
        outs = subst (λ (m : ℕ). IsFanOf m From arcs nodes.outs) long outs;
        leveled = subst (λ (m : ℕ). AreLevels m (map node_link arcs) nodes.levels) long are;
        placed =
            subst (λ (ls : List ℕ). ArePlaced (node_bound s) network (clock_ports s) arcs ls nodes.places) e
            (subst (λ (ps : List ℕ). ArePlaced (node_bound s) network ps arcs levels2 nodes.places) (c ∙ b)
            (subst (λ (ns : List Bool). ArePlaced (node_bound s) ns ports2 arcs levels2 nodes.places) a
            (subst (λ (m : ℕ). ArePlaced m network2 ports2 arcs levels2 nodes.places) long placed)));
        ordered = ordered;
      }

pub number_low : (names : List (Option (List ℕ))) (name : List ℕ) (n : ℕ) → Some n ≡ number_of names name → n < length names
number_low names name n e = below_bound names name n (told_at names name n (sym e))

pub ports_as : (s : Stored) (network network2 : List Bool) (ports ports2 : List ℕ) → All (λ q. q < length s.pins) (clock_ports s) → length network ≡ length s.pins → network2 ≡ network
    → ports ≡ clock_ports s → ports2 ≡ ports → All (λ q. q < length network2) ports2
ports_as s network network2 ports ports2 within long a b c =
    subst (λ (ps : List ℕ). All (λ q. q < length network2) ps) (sym (c ∙ b)) (subst (λ (n : ℕ). All (λ q. q < n) (clock_ports s)) (sym (ap length a ∙ long)) within)
