-- What is kept of nodes and pins makes a graph, as it is found and of each store with the same links.

use Rattle.std.proofs.Common.{◌≡◌, ℕ, ◌+◌, ◌*◌, ◌<◌, ◌≤◌, ◌==◌, zero, suc, Bool, true, false, List, [], ◌∷◌, ◌++◌, map, filter, length, get_or, None, refl, sym, ap, subst, ◌∙◌, arith}
use Rattle.std.specs.Prelude.{Contains, option_map}
use Rattle.std.specs.List.{filter_map, flat_map, range_with_len}
use Rattle.std.specs.Option.{option_map_or}
use Rattle.timing_defs.specs.Netlist.{name_of, pins}
use Rattle.timing_defs.specs.NetChecks.{net_fault}
use Rattle.timing_rules.specs.Checks.{breaks_network, clock_not_tree}
use Rattle.netlist_store.specs.Linked.{IsLinked}
use Rattle.netlist_store.specs.Numbering.{Stored, IsNumbered}
use Rattle.levelizer.specs.declared.links.Link.{Link}
use Rattle.levelizer.specs.Levels.{greatest, AreLevels, HasNoCycle}
use Rattle.levelizer.specs.Reaching.{AreReached}
use Rattle.pin_graph.specs.declared.arcs.GraphArc.{GraphArc}
use Rattle.pin_graph.specs.declared.fans.End.TheVariants.{From, To}
use Rattle.pin_graph.specs.declared.pin_arcs.PinArc.{PinArc}
use Rattle.pin_graph.specs.declared.pins.PinGraph.{PinGraph}
use Rattle.pin_graph.specs.declared.tables.NodeGraph.{NodeGraph}
use Rattle.pin_graph.specs.declared.tables.NodeTables.{NodeTables}
use Rattle.pin_graph.specs.declared.tables.PinTables.{PinTables}
use Rattle.pin_graph.specs.declared.tables.Tables.{Tables}
use Rattle.pin_graph.specs.Joins.{link_from, link_of, net_links, pin_arcs, pin_links}
use Rattle.pin_graph.specs.Marks.{flag_of, is_one}
use Rattle.pin_graph.specs.Networks.{comb_link, turned, network_links, clock_ports, clock_pins, IsNetwork, AreClockMarks}
use Rattle.pin_graph.specs.NodeArcs.{net_pair, standing_arc, node_arcs, raw_into, node_link, AreJoined, AreMerged}
use Rattle.pin_graph.specs.Nodes.{node_bound}
use Rattle.pin_graph.specs.NodeGraphs.{IsFound, AreNodeTables, ArePinTables}
use Rattle.pin_graph.specs.PinGraphs.{IsPinGraph}
use Rattle.pin_graph.specs.Placing.{AreInOrder}
use Rattle.pin_graph.specs.Trees.{AreAllApart}
use Rattle.pin_graph.specs.Graphs.{Graphed, fan_at, IsFans, AreNodeLevels, IsGraph}
use Rattle.pin_graph.specs.Kept.{graph_in, AreTurned, AreNumberPlaces, AreFlags, AreTables, IsKept, IsKeptGraph, HaveSameLinks}
use Rattle.timing_defs.proofs.Members.{none_in, in_map, in_filter}
use Rattle.store_pins.proofs.DriverLaws.{none_least}
use Rattle.pin_graph.proofs.JoinLaws.{links_lead}
use Rattle.pin_graph.proofs.WalkLaws.{levels_rise}
use Rattle.pin_graph.proofs.LoopLaws.{no_loop}
use Rattle.pin_graph.proofs.LevelLaws.{before_node, none_cyclic}
use Rattle.pin_graph.proofs.NetworkLaws.{marks_are}
use Rattle.pin_graph.proofs.TreeLaws.{apart_breaks, pin_of, tree_none}
use Rattle.pin_graph.proofs.FanLaws.{room_holds}
use Rattle.pin_graph.proofs.HeldLaws.{held_at, held_fans}
use Rattle.pin_graph.proofs.GraphLaws.{arcs_into, arcs_out_of, outward_of}
use Rattle.pin_graph.proofs.GraphPlaces.{places_found, places_are}

-- all that a graph is, from what holds of its nodes and pins
module _ (s : Stored) (num : IsNumbered s) (linked : IsLinked s.design) (t : Tables) (h : AreTables s t) where
  pub network_kept : IsNetwork s t.network
  network_kept =
      marks_are s num linked h.fault t.pin_levels h.rising (map is_one t.fed) (map is_one t.feeds) h.flags.clocked.forth h.flags.clocked.back
      t.network h.flags.clocked.count h.flags.clocked.each

  not_cyclic : HasNoCycle (pin_links s)
  not_cyclic =
      none_cyclic (pin_links s) (λ n. get_or t.pin_levels n 0)
      (λ l c. levels_rise (length s.pins) (pin_links s) t.pin_levels h.rising l c (links_lead s num linked l c).to_number.below)

  graph_is : IsGraph (graph_in s t)
  graph_is = record {
    in_fan = h.in_fan;
    out_fan = h.out_fan;
    ins = λ node low. arcs_into s num linked t.network network_kept (fan_at t.ins) h.joined node low;
    outs = λ node low. arcs_out_of s num linked t.network network_kept (fan_at t.ins) h.joined (fan_at t.outs) h.outward node low;
    network = record { count = network_kept.count; each = network_kept.each };
    levels = h.leveled;
    places = places_are s num linked h.fault t.network network_kept (graph_in s t) h.placed;
    no_loop = no_loop s num linked h.fault not_cyclic;
    tree = tree_none s num linked h.fault t.network network_kept [] h.entered [] refl refl;
  }

  pub kept_from : IsKept s t
  kept_from = record { tables = h; graph = graph_is }

-- what is found
map_flags : (xs : List Bool) → map is_one (map flag_of xs) ≡ xs
map_flags [] = refl
map_flags (true ∷ xs) = ap (λ ys. true ∷ ys) (map_flags xs)
map_flags (false ∷ xs) = ap (λ ys. false ∷ ys) (map_flags xs)

low_flag : (xs : List Bool) (i : ℕ) → get_or (map flag_of xs) i 0 ≤ 1
low_flag [] i = omega arith
low_flag (true ∷ xs) zero = omega arith
low_flag (false ∷ xs) zero = omega arith
low_flag (x ∷ xs) (suc i) = low_flag xs i

abbrev pub tables_in : PinTables → NodeTables → Tables
tables_in p n =
    record { ins = n.ins; outs = n.outs; network = p.network; fed = p.fed; feeds = p.feeds; pin_levels = p.levels; levels = n.levels; places = n.places; order = n.order }

module _ (s : Stored) (num : IsNumbered s) (linked : IsLinked s.design) (fault : net_fault s.design ≡ None) where
  -- where the clock network is a tree no pin is entered in different ways
  none_apart : (network : List Bool) → IsNetwork s network → clock_not_tree s.design ≡ None → AreAllApart network (pin_arcs s) []
  none_apart network net tree = record {
    sound = λ m c. absurd (none_in m c);
    all = λ m a.
        let p = pin_of s num linked fault network net m a in
        let broken = in_filter (breaks_network s.design) (pins s.design) p.0 p.1.within (apart_breaks s num linked fault network net p.0 m p.1 a) in
        let named = in_map name_of (filter (breaks_network s.design) (pins s.design)) p.0 broken in
        absurd (none_in (name_of p.0) (subst (λ (xs : List (List ℕ)). Contains xs (name_of p.0)) (none_least (map name_of (filter (breaks_network s.design) (pins s.design))) tree) named));
  }

  module _ (pins : PinGraph) (made : IsPinGraph s pins) (arcs : List GraphArc) (merged : AreMerged (node_bound s) (node_arcs s pins.network) arcs)
      (nodes : NodeGraph) (found : IsFound s pins.network arcs nodes) (tree : clock_not_tree s.design ≡ None)
      (p : PinTables) (as_pins : ArePinTables pins p) (n : NodeTables) (as_nodes : AreNodeTables (node_bound s) nodes n) where
    ins_are : (t : ℕ) → t < node_bound s → fan_at n.ins t ≡ filter (λ arc. arc.to == t) arcs
    ins_are t low = held_at (node_bound s) nodes.ins n.ins as_nodes.ins t ∙ room_holds To (node_bound s) arcs nodes.ins found.ins t low

    outs_are : (f : ℕ) → f < node_bound s → fan_at n.outs f ≡ filter (λ arc. arc.from == f) arcs
    outs_are f low = held_at (node_bound s) nodes.outs n.outs as_nodes.outs f ∙ room_holds From (node_bound s) arcs nodes.outs found.outs f low

    fed_is : map is_one p.fed ≡ pins.reach.from_clocks
    fed_is = ap (map is_one) as_pins.fed ∙ map_flags pins.reach.from_clocks

    feeds_is : map is_one p.feeds ≡ pins.reach.to_registers
    feeds_is = ap (map is_one) as_pins.feeds ∙ map_flags pins.reach.to_registers

    flags_found : AreFlags s (tables_in p n)
    flags_found = record {
      clocked =
          subst (λ (xs : List Bool). AreClockMarks s xs (map is_one p.feeds) p.network) (sym fed_is)
          (subst (λ (xs : List Bool). AreClockMarks s pins.reach.from_clocks xs p.network) (sym feeds_is)
          (subst (λ (xs : List Bool). AreClockMarks s pins.reach.from_clocks pins.reach.to_registers xs) (sym as_pins.network) made.clocked));
      fed = λ pin. subst (λ (xs : List ℕ). get_or xs pin 0 ≤ 1) (sym as_pins.fed) (low_flag pins.reach.from_clocks pin);
      feeds = λ pin. subst (λ (xs : List ℕ). get_or xs pin 0 ≤ 1) (sym as_pins.feeds) (low_flag pins.reach.to_registers pin);
    }

    leveled_found : AreNodeLevels (graph_in s (tables_in p n))
    leveled_found =
        let are = subst (λ (ls : List ℕ). AreLevels (node_bound s) (map node_link arcs) ls) (sym as_nodes.levels) found.leveled in
        record {
          count = are.count;
          level = λ node low.
              are.level node low
              ∙ ap greatest (before_node arcs (λ from. get_or n.levels from 0 + 1) node
              ∙ ap (map (λ (arc : GraphArc). get_or n.levels arc.from 0 + 1)) (sym (ins_are node low)));
        }

    places_kept : AreNumberPlaces (node_bound s) p.network (clock_ports s) (fan_at n.ins) n.places
    places_kept =
        subst (λ (xs : List Bool). AreNumberPlaces (node_bound s) xs (clock_ports s) (fan_at n.ins) n.places) (sym as_pins.network)
        (subst (λ ps. AreNumberPlaces (node_bound s) pins.network (clock_ports s) (fan_at n.ins) ps) (sym as_nodes.places)
        (places_found (node_bound s) pins.network (clock_ports s) arcs merged.nodes (fan_at n.ins) nodes.levels nodes.places ins_are found.leveled found.placed))

    tables_found : AreTables s (tables_in p n)
    tables_found = record {
      fault = fault;
      rising = subst (λ (ls : List ℕ). AreLevels (length s.pins) (pin_links s) ls) (sym as_pins.levels) made.leveled;
      flags = flags_found;
      entered = subst (λ (xs : List Bool). AreAllApart xs (pin_arcs s) []) (sym as_pins.network) (none_apart pins.network made.marked tree);
      in_fan = held_fans To (node_bound s) arcs nodes.ins n.ins found.ins as_nodes.ins;
      out_fan = held_fans From (node_bound s) arcs nodes.outs n.outs found.outs as_nodes.outs;
      joined = λ node low.
          subst (λ (xs : List Bool). AreJoined (raw_into s xs node) (fan_at n.ins node)) (sym as_pins.network)
          (subst (λ (xs : List GraphArc). AreJoined (raw_into s pins.network node) xs) (sym (ins_are node low)) (merged.each node low));
      outward = outward_of (node_bound s) (node_arcs s pins.network) arcs (fan_at n.ins) (fan_at n.outs) merged ins_are outs_are;
      leveled = leveled_found;
      placed = places_kept;
      ordered = subst (λ os. AreInOrder n.places os) (sym as_nodes.order) (subst (λ ps. AreInOrder ps nodes.order) (sym as_nodes.places) found.ordered);
    }

    pub kept_found : (t : Tables) → t ≡ tables_in p n → IsKept s t
    kept_found t same = subst (IsKept s) (sym same) (kept_from s num linked (tables_in p n) tables_found)

reached_as : (n n2 : ℕ) (arcs arcs2 : List Link) (first first2 : List ℕ) (marks : List Bool) → n2 ≡ n → arcs2 ≡ arcs → first2 ≡ first
    → AreReached n arcs first marks → AreReached n2 arcs2 first2 marks
reached_as n n2 arcs arcs2 first first2 marks a b c h =
    subst (λ (m : ℕ). AreReached m arcs2 first2 marks) (sym a)
    (subst (λ (xs : List Link). AreReached n xs first2 marks) (sym b) (subst (λ (xs : List ℕ). AreReached n arcs xs marks) (sym c) h))

levels_as : (n n2 : ℕ) (arcs arcs2 : List Link) (levels : List ℕ) → n2 ≡ n → arcs2 ≡ arcs → AreLevels n arcs levels → AreLevels n2 arcs2 levels
levels_as n n2 arcs arcs2 levels a b h =
    subst (λ (m : ℕ). AreLevels m arcs2 levels) (sym a) (subst (λ (xs : List Link). AreLevels n xs levels) (sym b) h)

-- a store with the same links has the same graph
module _ (s s2 : Stored) (t : Tables) (fault : net_fault s2.design ≡ None) (h : AreTables s t) (same : HaveSameLinks s s2) where
  bound : length s2.pins ≡ length s.pins
  bound = ap length same.pins

  nets : net_links s2 ≡ net_links s
  nets = λ k. filter_map (λ n. option_map (link_from n) (same.befores n k)) (range_with_len 0 (bound k))

  links : pin_links s2 ≡ pin_links s
  links = λ k. nets k ++ map link_of (same.arcs k)

  networks : network_links s2 ≡ network_links s
  networks = λ k. nets k ++ filter_map comb_link (same.arcs k)

  raws : node_arcs s2 t.network ≡ node_arcs s t.network
  raws = λ k.
      flat_map (λ n. option_map_or (net_pair t.network n) (same.befores n k) []) (range_with_len 0 (bound k)) ++ filter_map (standing_arc t.network) (same.arcs k)

  bounds : node_bound s2 ≡ node_bound s
  bounds = ap (λ n. 2 * n) bound

  low_as : (node : ℕ) → node < node_bound s2 → node < node_bound s
  low_as node low = subst (λ (n : ℕ). node < n) bounds low

  clocked_again : AreClockMarks s2 (map is_one t.fed) (map is_one t.feeds) t.network
  clocked_again = record {
    forth =
        reached_as (length s.pins) (length s2.pins) (network_links s) (network_links s2) (clock_ports s) (clock_ports s2) (map is_one t.fed)
        bound networks same.ports h.flags.clocked.forth;
    back =
        reached_as (length s.pins) (length s2.pins) (map turned (network_links s)) (map turned (network_links s2)) (clock_pins s) (clock_pins s2) (map is_one t.feeds)
        bound (ap (map turned) networks) same.clocks h.flags.clocked.back;
    count = h.flags.clocked.count ∙ sym bound;
    each = λ m low. h.flags.clocked.each m (subst (λ (n : ℕ). m < n) bound low);
  }

  pub tables_again : AreTables s2 t
  tables_again = record {
    fault = fault;
    rising = levels_as (length s.pins) (length s2.pins) (pin_links s) (pin_links s2) t.pin_levels bound links h.rising;
    flags = record { clocked = clocked_again; fed = h.flags.fed; feeds = h.flags.feeds };
    entered = subst (λ (xs : List PinArc). AreAllApart t.network xs []) (sym same.arcs) h.entered;
    in_fan = subst (λ (n : ℕ). IsFans n t.ins) (sym bounds) h.in_fan;
    out_fan = subst (λ (n : ℕ). IsFans n t.outs) (sym bounds) h.out_fan;
    joined = λ node low.
        subst (λ (xs : List GraphArc). AreJoined (filter (λ arc. arc.to == node) xs) (fan_at t.ins node)) (sym raws) (h.joined node (low_as node low));
    outward = subst (λ (n : ℕ). AreTurned n (fan_at t.ins) (fan_at t.outs)) (sym bounds) h.outward;
    leveled = record { count = h.leveled.count ∙ sym bounds; level = λ node low. h.leveled.level node (low_as node low) };
    placed =
        subst (λ (n : ℕ). AreNumberPlaces n t.network (clock_ports s2) (fan_at t.ins) t.places) (sym bounds)
        (subst (λ (ps : List ℕ). AreNumberPlaces (node_bound s) t.network ps (fan_at t.ins) t.places) (sym same.ports) h.placed);
    ordered = h.ordered;
  }

pub kept_again : (s s2 : Stored) (t : Tables) → IsNumbered s2 → IsLinked s2.design → net_fault s2.design ≡ None → IsKept s t → HaveSameLinks s s2 → IsKept s2 t
kept_again s s2 t num linked fault kept same = kept_from s2 num linked t (tables_again s s2 t fault kept.tables same)

pub graph_again : (g : Graphed) (s2 : Stored) → IsNumbered s2 → IsLinked s2.design → net_fault s2.design ≡ None → IsKeptGraph g → HaveSameLinks g.stored s2
    → IsGraph (record g { stored = s2 })
graph_again g s2 num linked fault kept same =
    subst (λ (h : Graphed). IsGraph (record h { stored = s2 })) (sym kept.same) (kept_again g.stored s2 kept.tables num linked fault kept.kept same).graph

-- as the calls have it
pub kept_held : (s s2 s3 : Stored) (tables tables2 : Tables) → IsNumbered s2 → IsLinked s2.design → net_fault s2.design ≡ None → IsKept s tables → HaveSameLinks s3 s2
    → s3 ≡ s → tables2 ≡ tables → IsKept s2 tables2
kept_held s s2 s3 tables tables2 num linked fault kept same is held =
    subst (λ (t : Tables). IsKept s2 t) (sym held)
    (kept_again s s2 tables num linked fault kept (subst (λ (x : Stored). HaveSameLinks x s2) is same))
