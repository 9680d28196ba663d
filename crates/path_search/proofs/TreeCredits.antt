-- Credits that are found by places of the clock tree are those of the definition, by names.

use Rattle.std.proofs.Common.{◌≡◌, ℕ, zero, suc, ◌<◌, ℤ, pos, ◌-ℤ◌, Bool, true, false, ◌==◌, List, [], ◌∷◌, ◌++◌, map, Option, None, Some, refl, sym, ap, subst, ◌∙◌, inl, inr, arith}
use Rattle.std.specs.Prelude.{Contains, ◌||◌, if◌then◌else◌, is_some, option_map, option_and_then}
use Rattle.std.specs.List.{list_any}
use Rattle.std.specs.Option.{option_map_or}
use Rattle.std.specs.Str.{bytes_eq}
use Rattle.std.proofs.lemmas.Bool.{cases_Bool, cases_eq, eq-eqb, ne_eqb, false≢true, and_parts, and_from, or_cases}
use Rattle.std.proofs.lemmas.Int.{ints}
use Rattle.timing_defs.specs.declared.kinds.Split.TheVariants.{Early, Late}
use Rattle.timing_defs.specs.declared.kinds.Tran.{Tran}
use Rattle.timing_defs.specs.declared.kinds.Tran.TheVariants.{Rise, Fall}
use Rattle.timing_defs.specs.Netlist.{Node, pins, name_of, same_tran}
use Rattle.timing_rules.specs.Clocking.{is_network, is_clock_port}
use Rattle.timing_rules.specs.Rows.{arcs_in, arrival}
use Rattle.timing_rules.specs.Cones.{has_register_arc}
use Rattle.timing_rules.specs.Tests.{Test, network_walk}
use Rattle.timing_rules.specs.Paths as paths
use Rattle.timing_rules.specs.Paths.{Named, named, node_named, same_named, spread_at}
use Rattle.netlist_store.specs.Numbering.{IsNumbered}
use Rattle.netlist_store.specs.Linked.{IsLinked}
use Rattle.pin_graph.specs.declared.arcs.GraphArc.{GraphArc}
use Rattle.pin_graph.specs.Nodes.{node_at, node_bound, node_number}
use Rattle.pin_graph.specs.Graphs.{Graphed, IsGraph, IsArc, fan_at, place_at, of_node, kind_between}
use Rattle.timing_defs.proofs.Members.{some_is, first_in, any_in, any_back}
use Rattle.timing_defs.proofs.SameNames.{same_self}
use Rattle.store_pins.proofs.PinLaws.{pin_told}
use Rattle.pin_graph.proofs.NodeLaws.{HasNode, has_node, node_told, node_below, one_number, same_node_at}
use Rattle.pessimism_credit.specs.declared.rows.TreeRow.{TreeRow}
use Rattle.pessimism_credit.specs.Credit.{parent_of, path_end, root_path, last_common, pessimism_at, credit_of}
use Rattle.pessimism_credit.proofs.Climbs.{parent_there, pessimism_there}
use Rattle.node_tests.specs.Walks.{first_from}
use Rattle.path_search.specs.Runs.{IsTimed, IsNext, AreSteps, end_of}
use Rattle.path_search.specs.Launches.{walk_names}
use Rattle.path_search.specs.Trees.{walk_edge, both_times, times_at, parent_place, IsClockTree}
use Rattle.path_search.proofs.Setting.{timed}
use Rattle.path_search.proofs.Prefixes.{walk_starts, walk_more, walk_is_told, from_one}
use Rattle.path_search.proofs.NodeNames.{named_is, named_back}
use Rattle.path_search.proofs.TreeLaws.{place_low, placed_node, parent_of_place, edge_inherited}

tran_self : (a : Tran) → same_tran a a ≡ true
tran_self Rise = refl
tran_self Fall = refl

there_some : {X : Type 0} (o : Option X) → is_some o ≡ true → (x : X) × (o ≡ Some x)
there_some None e = absurd (false≢true e)
there_some (Some x) e = (x, refl)

spread_of : (early late : Option ℤ)
    → (both_times early late).1 -ℤ (both_times early late).0 ≡ option_map_or (λ l. option_map_or (λ e. l -ℤ e) early (pos 0)) late (pos 0)
spread_of None None = (let e : pos 0 -ℤ pos 0 ≡ pos 0 = omega (arith, ints) in e)
spread_of None (Some l) = (let e : pos 0 -ℤ pos 0 ≡ pos 0 = omega (arith, ints) in e)
spread_of (Some e) None = (let f : pos 0 -ℤ pos 0 ≡ pos 0 = omega (arith, ints) in f)
spread_of (Some e) (Some l) = refl

module _ (g : Graphed) (num : IsNumbered g.stored) (linked : IsLinked g.stored.design) (is : IsGraph g) where
  pub its_timing : IsTimed g.stored.design
  its_timing = timed g num linked is

  pub there_at : (number : ℕ) (node : Node) → node_at g.stored number ≡ Some node → Contains (pins g.stored.design) node.pin
  there_at number node e = (has_node g.stored num linked number node e).has.within

  one_at : (a b : ℕ) (node : Node) → node_at g.stored a ≡ Some node → node_at g.stored b ≡ Some node → a ≡ b
  one_at a b node e f = one_number g.stored num linked a b node (has_node g.stored num linked a node e) (has_node g.stored num linked b node f)

  -- the node of a place, of a walk that starts on an edge
  pub record IsAt (edge : Option (ℕ × Tran)) (place : ℕ) (node : Node) : Type 0 where
    pub number : ℕ
    pub placed : place_at g number ≡ Some place
    pub its : node_at g.stored number ≡ Some node
    pub starts : walk_edge g.stored.design node ≡ edge

  abbrev pub AreAt : Option (ℕ × Tran) → List ℕ → List Node → Type 0
  AreAt edge [] [] = Unit {0}
  AreAt edge (p ∷ ps) (n ∷ ns) = IsAt edge p n × AreAt edge ps ns
  AreAt edge [] (n ∷ ns) = ⊥
  AreAt edge (p ∷ ps) [] = ⊥

  at_more : (edge : Option (ℕ × Tran)) (ps : List ℕ) (ns : List Node) (p : ℕ) (n : Node) → AreAt edge ps ns → IsAt edge p n → AreAt edge (ps ++ p ∷ []) (ns ++ n ∷ [])
  at_more edge [] [] p n a i = (i, tt)
  at_more edge (q ∷ ps) (m ∷ ns) p n a i = (a.0, at_more edge ps ns p n a.1 i)
  at_more edge [] (m ∷ ns) p n a i = absurd a
  at_more edge (q ∷ ps) [] p n a i = absurd a

  same_at : (e f : Option (ℕ × Tran)) (p q : ℕ) (m n : Node) → IsAt e p m → IsAt f q n → (p == q) ≡ same_named (named m) (named n)
  same_at e f p q m n a b = elim (cases_eq p q) [
    | inl same ↦
        let number : a.number ≡ b.number = is.places.distinct a.number b.number p a.placed (b.placed ∙ ap Some (sym same)) in
        let node : m ≡ n = some_is (sym a.its ∙ ap (node_at g.stored) number ∙ b.its) in
        let self : same_named (named m) (named m) ≡ true =
        and_from (bytes_eq (name_of m.pin) (name_of m.pin)) (same_tran m.tran m.tran) (same_self (name_of m.pin)) (tran_self m.tran) in
        eq-eqb p q same ∙ sym (ap (λ (x : Node). same_named (named m) (named x)) (sym node) ∙ self)
    | inr other ↦ ne_eqb p q other ∙ sym (elim (cases_Bool (same_named (named m) (named n))) [
      | inr apart ↦ apart
      | inl alike ↦
          let names : named m ≡ named n = named_is (named m) (named n) alike in
          let node : m ≡ n =
          some_is (sym (named_back g.stored.design its_timing m (there_at a.number m a.its)) ∙ ap (node_named g.stored.design) names
          ∙ named_back g.stored.design its_timing n (there_at b.number n b.its)) in
          let number : a.number ≡ b.number = one_at a.number b.number n (a.its ∙ ap Some node) b.its in
          absurd (other (some_is (sym a.placed ∙ ap (place_at g) number ∙ b.placed)))
    ])
  ]

  -- the last that is common to two lists, by places and by names
  abbrev pub LastAt : Option (ℕ × Tran) → Option ℕ → Option Named → Type 0
  LastAt edge None None = Unit {0}
  LastAt edge (Some p) (Some x) = (n : Node) × IsAt edge p n × (x ≡ named n)
  LastAt edge None (Some x) = ⊥
  LastAt edge (Some p) None = ⊥

  either_at : (edge : Option (ℕ × Tran)) (b : Bool) (p q : Option ℕ) (x y : Option Named) → LastAt edge p x → LastAt edge q y
      → LastAt edge (if b then p else q) (if b then x else y)
  either_at edge true p q x y h k = h
  either_at edge false p q x y h k = k

  common_at : (e f : Option (ℕ × Tran)) (last : Option ℕ) (o : Option Named) (ps : List ℕ) (ws : List Node) (qs : List ℕ) (vs : List Node) → LastAt e last o
      → AreAt e ps ws → AreAt f qs vs → LastAt e (last_common last ps qs) (paths.last_common o (map named ws) (map named vs))
  common_at e f last o [] [] qs vs h a b = h
  common_at e f last o [] (w ∷ ws) qs vs h a b = absurd a
  common_at e f last o (p ∷ ps) [] qs vs h a b = absurd a
  common_at e f last o (p ∷ ps) (w ∷ ws) [] [] h a b = h
  common_at e f last o (p ∷ ps) (w ∷ ws) [] (v ∷ vs) h a b = absurd b
  common_at e f last o (p ∷ ps) (w ∷ ws) (q ∷ qs) [] h a b = absurd b
  common_at e f last o (p ∷ ps) (w ∷ ws) (q ∷ qs) (v ∷ vs) h a b =
      subst
      (λ (c : Bool). LastAt e (if c then last_common (Some p) ps qs else last)
      (if same_named (named w) (named v) then paths.last_common (Some (named w)) (map named ws) (map named vs) else o))
      (sym (same_at e f p q w v a.0 b.0))
      (either_at e (same_named (named w) (named v)) (last_common (Some p) ps qs) last (paths.last_common (Some (named w)) (map named ws) (map named vs)) o
      (common_at e f (Some p) (Some (named w)) ps ws qs vs (w, a.0, refl) a.1 b.1) h)

  -- a node of the network from which none that is placed leads on is a clock port's
  module _ (number place : ℕ) (node : Node) (at : place_at g number ≡ Some place) (its : node_at g.stored number ≡ Some node) where
    its_network : is_network g.stored.design node.pin ≡ true
    its_network =
        let n = placed_node g is num linked number place at in
        ap (λ (m : Node). is_network g.stored.design m.pin) (some_is (sym its ∙ n.1)) ∙ n.2

    first_placed : (arc : GraphArc) → Contains (fan_at g.ins number) arc → is_some (place_at g arc.from) ≡ true → parent_place g number ≡ None → ⊥
    first_placed arc c some none = by (fan_at g.ins number) refl c
      where
        low : number < node_bound g.stored
        low = place_low g is number place at

        from_in : (x : GraphArc) → Contains (fan_at g.ins number) x → (n : Node) × (node_at g.stored x.from ≡ Some n) × Contains (arcs_in g.stored.design node) n
        from_in x d =
            let a = (is.ins number low).sound x d in
            let to : a.0.to ≡ node = same_node_at g.stored a.0.to node number (ap (node_at g.stored) (sym a.1) ∙ a.0.to_number) its in
            (a.0.from, a.0.from_number, subst (λ (n : Node). Contains (arcs_in g.stored.design n) a.0.from) to a.0.within)

        by : (arcs : List GraphArc) → fan_at g.ins number ≡ arcs → Contains arcs arc → ⊥
        by [] e (i, short, same) = (omega (arith, short))
        by (x ∷ xs) e d =
            let one = from_in x (subst (λ (ys : List GraphArc). Contains ys x) (sym e) (first_in x xs)) in
            let two = from_in arc c in
            let node_same : one.0 ≡ two.0 =
            from_one g.stored.design its_timing node two.0 (there_at number node its) its_network two.2 one.0 one.2 in
            let from_same : x.from ≡ arc.from = one_at x.from arc.from two.0 (one.1 ∙ ap Some node_same) two.1 in
            let parent : parent_place g number ≡ place_at g x.from = ap (λ (ys : List GraphArc). option_and_then (place_at g) (first_from ys)) e in
            false≢true (ap is_some (sym none ∙ parent ∙ ap (place_at g) from_same) ∙ some)

    its_port : parent_place g number ≡ None → is_clock_port g.stored.design node.pin ≡ true
    its_port none =
        let low = place_low g is number place at in
        let both = and_parts (of_node g.stored (λ n. is_network g.stored.design n.pin) number)
        (of_node g.stored (λ n. is_clock_port g.stored.design n.pin) number || list_any (λ arc. is_some (place_at g arc.from)) (fan_at g.ins number))
        (sym (is.places.there number low) ∙ ap is_some at) in
        elim (or_cases (of_node g.stored (λ n. is_clock_port g.stored.design n.pin) number) (list_any (λ arc. is_some (place_at g arc.from)) (fan_at g.ins number)) both.1) [
          | inl port ↦ sym (ap (λ o. option_map_or (λ (n : Node). is_clock_port g.stored.design n.pin) o false) its) ∙ port
          | inr any ↦
              let r = any_back (λ (arc : GraphArc). is_some (place_at g arc.from)) (fan_at g.ins number) any in
              absurd (first_placed r.item r.within r.passes none)
        ]

  module _ (rows : List TreeRow) (tree : IsClockTree g rows) where
    -- the places from the root are those of the walk's nodes
    pub record IsRooted (k place : ℕ) (node : Node) : Type 0 where
      pub walk : List Node
      pub told : network_walk g.stored.design node ≡ Some walk
      pub at : AreAt (walk_edge g.stored.design node) (path_end k rows place) walk

    pub rooted : (k number place : ℕ) (node : Node) → place_at g number ≡ Some place → node_at g.stored number ≡ Some node → place < k → IsRooted k place node
    rooted zero number place node p e low = absurd (omega (arith, low))
    rooted (suc k) number place node p e low =
        by (λ n q m a b l. rooted k n q m a b l) (parent_place g number) refl
      where
        parent_is : parent_of rows place ≡ parent_place g number
        parent_is = let r = tree.each number place node p e in parent_there rows place r.row r.at ∙ r.told.parent

        by : ((n q : ℕ) (m : Node) → place_at g n ≡ Some q → node_at g.stored n ≡ Some m → q < k → IsRooted k q m) → (o : Option ℕ) → parent_place g number ≡ o
            → IsRooted (suc k) place node
        by again None none = record {
          walk = node ∷ [];
          told = walk_starts g.stored.design its_timing node (there_at number node e) (its_network number place node p e) (its_port number place node p e none);
          at =
              subst (λ (o : Option ℕ). AreAt (walk_edge g.stored.design node) (option_map_or (path_end k rows) o [] ++ place ∷ []) (node ∷ [])) (sym (parent_is ∙ none))
              (record { number = number; placed = p; its = e; starts = refl }, tt);
        }
        by again (Some up) some =
            let parent = parent_of_place g is num linked number place p up some in
            let r = again parent.arc.from up parent.node parent.placed parent.its (let l = parent.low in omega (arith, low, l)) in
            let edge : walk_edge g.stored.design node ≡ walk_edge g.stored.design parent.node = edge_inherited g is num linked number place p up parent node e in
            record {
              walk = r.walk ++ node ∷ [];
              told =
                  walk_more g.stored.design its_timing node (there_at number node e) (its_network number place node p e) parent.node (parent.joined node e)
                  ∙ ap (option_map (λ (w : List Node). w ++ node ∷ [])) r.told;
              at =
                  subst (λ (o : Option ℕ). AreAt (walk_edge g.stored.design node) (option_map_or (path_end k rows) o [] ++ place ∷ []) (r.walk ++ node ∷ []))
                  (sym (parent_is ∙ some))
                  (at_more (walk_edge g.stored.design node) (path_end k rows up) r.walk place node
                  (subst (λ (x : Option (ℕ × Tran)). AreAt x (path_end k rows up) r.walk) (sym edge) r.at)
                  (record { number = number; placed = p; its = e; starts = refl }));
            }

    -- the pessimism of a place is that of its node
    pub spread_there : (edge : ℕ × Tran) (p : ℕ) (n : Node) → IsAt (Some edge) p n → pessimism_at rows p ≡ spread_at g.stored.design edge (named n)
    spread_there edge p n a =
        let r = tree.each a.number p n a.placed a.its in
        let times : (r.row.early.0, r.row.late.0) ≡ times_at g.stored.design n edge =
        r.told.times ∙ ap (λ o. option_map_or (times_at g.stored.design n) o (pos 0, pos 0)) a.starts in
        pessimism_there rows p r.row r.at ∙ ap (λ (x : ℤ × ℤ). x.1 -ℤ x.0) times
        ∙ spread_of (arrival g.stored.design Early n edge) (arrival g.stored.design Late n edge)
        ∙ sym (ap (λ o. option_map_or (λ (m : Node). option_map_or (λ l. option_map_or (λ e. l -ℤ e) (arrival g.stored.design Early m edge) (pos 0)) (arrival g.stored.design Late m edge) (pos 0)) o (pos 0))
        (named_back g.stored.design its_timing n (there_at a.number n a.its)))

    spread_last : (edge : ℕ × Tran) (last : Option ℕ) (o : Option Named) → LastAt (Some edge) last o
        → option_map_or (pessimism_at rows) last (pos 0) ≡ option_map_or (spread_at g.stored.design edge) o (pos 0)
    spread_last edge None None h = refl
    spread_last edge (Some p) (Some x) h = spread_there edge p h.0 h.1 ∙ ap (spread_at g.stored.design edge) (sym h.2)
    spread_last edge None (Some x) h = absurd h
    spread_last edge (Some p) None h = absurd h

    -- the credit of a launch node and of a test, by the places of the launch node and of the clock pin's node
    pub credit_by_places : (a p : ℕ) (launch : Node) → place_at g a ≡ Some p → node_at g.stored a ≡ Some launch → (edge : ℕ × Tran)
        → walk_edge g.stored.design launch ≡ Some edge → (b q : ℕ) (clock : Node) → place_at g b ≡ Some q → node_at g.stored b ≡ Some clock
        → (test : Test) → network_walk g.stored.design clock ≡ Some test.walk
        → credit_of rows p q ≡ paths.credit g.stored.design (walk_names g.stored.design (named launch)) edge test
    credit_by_places a p launch pa na edge starts b q clock pb nb test walk =
        let l = rooted (suc p) a p launch pa na (omega arith) in
        let c = rooted (suc q) b q clock pb nb (omega arith) in
        let names : walk_names g.stored.design (named launch) ≡ map named l.walk =
        ap (λ o. option_map_or (λ (n : Node). option_map_or (map named) (network_walk g.stored.design n) []) o []) (named_back g.stored.design its_timing launch (there_at a launch na))
        ∙ ap (λ o. option_map_or (map named) o []) l.told in
        let same : c.walk ≡ test.walk = some_is (sym c.told ∙ walk) in
        let at : AreAt (Some edge) (root_path rows p) l.walk = subst (λ (o : Option (ℕ × Tran)). AreAt o (root_path rows p) l.walk) starts l.at in
        spread_last edge (last_common None (root_path rows p) (root_path rows q)) (paths.last_common None (map named l.walk) (map named c.walk))
        (common_at (Some edge) (walk_edge g.stored.design clock) None None (root_path rows p) l.walk (root_path rows q) c.walk tt at c.at)
        ∙ (λ k. option_map_or (spread_at g.stored.design edge) (paths.last_common None (sym names k) (map named (same k))) (pos 0))

  -- each node to which a walk leads has a place
  record IsPlacedNode (node : Node) : Type 0 where
    pub number : ℕ
    pub its : node_at g.stored number ≡ Some node
    pub placed : is_some (place_at g number) ≡ true

  placed_by : (node : Node) → Contains (pins g.stored.design) node.pin → is_network g.stored.design node.pin ≡ true
      → ((number : ℕ) → node_at g.stored number ≡ Some node
      → (of_node g.stored (λ n. is_clock_port g.stored.design n.pin) number || list_any (λ arc. is_some (place_at g arc.from)) (fan_at g.ins number)) ≡ true)
      → IsPlacedNode node
  placed_by node c net led =
      let p = pin_told g.stored num linked node.pin c in
      let h : HasNode g.stored node (node_number p.0 node.tran) = record { pin = p.0; has = p.1; number = refl } in
      let its = node_told g.stored node (node_number p.0 node.tran) h in
      record {
        number = node_number p.0 node.tran;
        its = its;
        placed =
            is.places.there (node_number p.0 node.tran) (node_below g.stored node (node_number p.0 node.tran) h)
            ∙ and_from (of_node g.stored (λ n. is_network g.stored.design n.pin) (node_number p.0 node.tran))
            (of_node g.stored (λ n. is_clock_port g.stored.design n.pin) (node_number p.0 node.tran)
            || list_any (λ arc. is_some (place_at g arc.from)) (fan_at g.ins (node_number p.0 node.tran)))
            (ap (λ o. option_map_or (λ (n : Node). is_network g.stored.design n.pin) o false) its ∙ net) (led (node_number p.0 node.tran) its);
      }

  or_left : (a b : Bool) → a ≡ true → (a || b) ≡ true
  or_left a b e = rw e refl

  or_right : (a b : Bool) → b ≡ true → (a || b) ≡ true
  or_right true b e = refl
  or_right false b e = e

  placed_next : (n m : Node) → IsPlacedNode n → IsNext g.stored.design n m → IsPlacedNode m
  placed_next n m p next = placed_by m next.within next.network (λ number its.
      (let low = node_below g.stored m number (has_node g.stored num linked number m its) in
      let arc : GraphArc = record { from = p.number; to = number; kind = kind_between g.stored.design n m; edge = has_register_arc g.stored.design n m } in
      let arc_is : IsArc g.stored arc = record {
        from = n;
        from_number = p.its;
        to = m;
        to_number = its;
        within = next.arc;
        kind = refl;
        edge = refl;
      } in
      or_right (of_node g.stored (λ x. is_clock_port g.stored.design x.pin) number) (list_any (λ a. is_some (place_at g a.from)) (fan_at g.ins number))
      (any_in (λ (a : GraphArc). is_some (place_at g a.from)) (fan_at g.ins number) arc ((is.ins number low).all arc arc_is refl) p.placed)))

  placed_along : (n : Node) (ms : List Node) → IsPlacedNode n → AreSteps g.stored.design n ms → IsPlacedNode (end_of n ms)
  placed_along n [] p s = p
  placed_along n (m ∷ ms) p s = placed_along m ms (placed_next n m p s.0) s.1

  pub placed_of_walk : (number : ℕ) (node : Node) (walk : List Node) → node_at g.stored number ≡ Some node → network_walk g.stored.design node ≡ Some walk
      → (place : ℕ) × (place_at g number ≡ Some place)
  placed_of_walk number node walk e told =
      let r = walk_is_told g.stored.design its_timing node (there_at number node e) walk told in
      let first = placed_by r.first r.within r.network (λ k its.
      or_left (of_node g.stored (λ n. is_clock_port g.stored.design n.pin) k) (list_any (λ arc. is_some (place_at g arc.from)) (fan_at g.ins k))
      (ap (λ o. option_map_or (λ (n : Node). is_clock_port g.stored.design n.pin) o false) its ∙ r.port)) in
      let last = placed_along r.first r.rest first r.steps in
      let same : last.number ≡ number = one_at last.number number node (last.its ∙ ap Some r.ends) e in
      there_some (place_at g number) (ap (λ k. is_some (place_at g k)) (sym same) ∙ last.placed)
