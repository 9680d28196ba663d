-- What a graph tells of the rows and walks of its design.

use Rattle.std.proofs.Common.{◌≡◌, ℕ, ◌<◌, List, [], ◌∷◌, length, Option, Some, refl, ap}
use Rattle.std.specs.Prelude.{Contains, if◌then◌else◌}
use Rattle.std.specs.Option.{option_map_or}
use Rattle.timing_defs.specs.declared.design.Design.{Design}
use Rattle.timing_defs.specs.Netlist.{Node, pins, nodes}
use Rattle.timing_defs.specs.Wires.{first_some}
use Rattle.timing_rules.specs.Clocking.{is_clock_port}
use Rattle.timing_rules.specs.Rows.{arcs_in}
use Rattle.timing_rules.specs.Tests.{walk_within}
use Rattle.timing_rules.proofs.RowLaws.{first_in, later_in, stable, row_is, ArePlacedNodes}
use Rattle.netlist_store.specs.Numbering.{IsNumbered}
use Rattle.netlist_store.specs.Linked.{IsLinked}
use Rattle.pin_graph.specs.Nodes.{node_number}
use Rattle.pin_graph.specs.Graphs.{Graphed, IsGraph}
use Rattle.store_pins.proofs.PinLaws.{pin_found, pin_told}
use Rattle.pin_graph.proofs.GraphRows.{Stands, level, placed, low_level}
use Rattle.path_search.specs.Runs.{longer, next_walk, IsTimed}

-- the first value over a list looks at its items alone
first_agree : {X Y : Type 0} (f g : X → Option Y) (xs : List X) → ((x : X) → Contains xs x → f x ≡ g x) → first_some f xs ≡ first_some g xs
first_agree f g [] same = refl
first_agree f g (x ∷ xs) same = λ k. option_map_or Some (same x (first_in x xs) k) (first_agree f g xs (λ y c. same y (later_in x xs y c)) k)

next_agree : (d : Design) (f g : Node → Option (List Node)) (to : Node) → ((from : Node) → Contains (arcs_in d to) from → f from ≡ g from)
    → next_walk d f to ≡ next_walk d g to
next_agree d f g to same =
    ap (λ o. if is_clock_port d to.pin then Some (to ∷ []) else o)
    (first_agree (λ from. longer to (f from)) (λ from. longer to (g from)) (arcs_in d to) (λ from c. ap (longer to) (same from c)))

module _ (d : Design) (Near : Node → Type 0) (place : Node → ℕ) (at : ArePlacedNodes d Near place) (short : (n : Node) → Near n → place n < length (nodes d)) where
  walk_is : (n : Node) → Near n → walk_within d (length (nodes d)) n ≡ next_walk d (walk_within d (length (nodes d))) n
  walk_is n s =
      stable (next_walk d) (arcs_in d) Near place (λ f g to same. next_agree d f g to same) at.closed at.rising (walk_within d) (λ k m. refl)
      (length (nodes d)) n s (short n s)

module _ (g : Graphed) (num : IsNumbered g.stored) (linked : IsLinked g.stored.design) (is : IsGraph g) where
  near : (n : Node) → Contains (pins g.stored.design) n.pin → Stands g num linked is n
  near n c = let p = pin_told g.stored num linked n.pin c in (node_number p.0 n.tran, record { pin = p.0; has = p.1; number = refl })

  pub timed : IsTimed g.stored.design
  timed = record {
    linked = linked;
    tree = is.tree;
    found = pin_found g.stored num linked;
    before = λ to c from arc. ((placed g num linked is).closed to (near to c) from arc).1.has.within;
    stepped = λ n c. row_is g.stored.design (Stands g num linked is) (level g num linked is) (placed g num linked is) n (near n c);
    walked = λ n c. walk_is g.stored.design (Stands g num linked is) (level g num linked is) (placed g num linked is) (low_level g num linked is) n (near n c);
  }
