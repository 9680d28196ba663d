-- Nodes of a design without an origin of an overflow are fine; and so is a node of an edited design that is no backward one, over fine
-- nodes.

use Rattle.std.proofs.Common.{◌≡◌, ℕ, zero, suc, ◌<◌, false, arith}
use Rattle.std.specs.Prelude.{Contains}
use Rattle.std.specs.List.{list_any}
use Rattle.timing_defs.specs.declared.kinds.Split.{Split}
use Rattle.timing_defs.specs.declared.design.Design.{Design}
use Rattle.timing_defs.specs.Netlist.{Node, pins}
use Rattle.timing_rules.specs.Rows.{launch_edges}
use Rattle.timing_rules.specs.Required.{arcs_out}
use Rattle.timing_defs.specs.Kinds.{kind_of}
use Rattle.timing_rules.specs.Range.{is_need_origin, is_required_origin}
use Rattle.timing_defs.specs.Touches.{Touch}
use Rattle.timing_rules.specs.Cones.{is_backward}
use Rattle.netlist_store.specs.Linked.{IsLinked}
use Rattle.netlist_store.specs.Numbering.{IsNumbered}
use Rattle.netlist_store.specs.Applying.{IsEditOf}
use Rattle.pin_graph.specs.Graphs.{Graphed, IsGraph}
use Rattle.pin_graph.specs.RowTables.{AreRowsFine, AreBacksFine}
use Rattle.pin_graph.proofs.GraphRows.{Stands, level, height, high}
use Rattle.calm_laws.proofs.NoSeeds.{either_none}
use Rattle.calm_laws.proofs.NoSeedCalm.{HasCalm}
use Rattle.back_laws.proofs.TestsKept.{need_kept}
use Rattle.back_laws.proofs.Backward.{no_back, back_calm_of, base_row, near_kept}
use Rattle.required_engine.specs.Worked.{IsFineBack}
use Rattle.required_engine.proofs.ForwardLaws.{node_listed, node_fine}
use Rattle.required_engine.proofs.BackLaws.{time_fine, no_origin}
use Rattle.required_engine.proofs.BackCone.{stood, places_of, was_linked, now_linked}

module _ (g : Graphed) (num : IsNumbered g.stored) (linked : IsLinked g.stored.design) (is : IsGraph g)
    (fine : AreRowsFine g.stored.design) where
  abbrev d : Design
  d = g.stored.design

  -- a node over fine ones, none of whose quantities leaves its limit
  pub fine_here : (n : Node) → Stands g num linked is n → ((to : Node) → Contains (arcs_out d n) to → IsFineBack d to)
      → ((split : Split) → is_need_origin d (kind_of split) n ≡ false) → ((split : Split) → list_any (is_required_origin d split n) (launch_edges d) ≡ false) → IsFineBack d n
  fine_here n s behind need near = record {
    times = λ split edge c. time_fine g num linked is split n s fine (need split) behind (near split) edge c;
    origins = λ split. no_origin g num linked is split n s fine (need split) behind (near split);
  }

  module _ (backs : AreBacksFine d) where
    fine_under : (k : ℕ) (n : Node) → Stands g num linked is n → height g num linked is n < k → IsFineBack d n
    fine_under zero n s low = absurd (omega (arith, low))
    fine_under (suc k) n s low =
        fine_here n s
        (λ to c. fine_under k to ((high g num linked is).closed n s to c) (let up = (high g num linked is).rising n s to c in omega (arith, low, up)))
        (λ split. (either_none (is_need_origin d (kind_of split) n) (list_any (is_required_origin d split n) (launch_edges d)) (backs n (node_listed g.stored n s.0 s.1) split)).0)
        (λ split. (either_none (is_need_origin d (kind_of split) n) (list_any (is_required_origin d split n) (launch_edges d)) (backs n (node_listed g.stored n s.0 s.1) split)).1)

    pub all_fine : (n : Node) → Stands g num linked is n → IsFineBack d n
    all_fine n s = fine_under (suc (height g num linked is n)) n s (omega arith)

module _ (b g : Graphed) (touch : Touch) (made : IsEditOf b.stored touch g.stored) (num : IsNumbered b.stored) (num2 : IsNumbered g.stored)
    (was_is : IsGraph b) (is : IsGraph g) (was_fine : AreRowsFine b.stored.design) (was_backs : AreBacksFine b.stored.design) (fine : AreRowsFine g.stored.design)
    (n2 : Node) (s2 : Stands g num2 (now_linked b g touch made num num2 was_is is) is n2) (none : is_backward b.stored.design g.stored.design touch n2 ≡ false)
    (behind : (to : Node) → Contains (arcs_out g.stored.design n2) to → IsFineBack g.stored.design to) where
  abbrev linked : IsLinked b.stored.design
  linked = was_linked b g touch made num num2 was_is is

  abbrev linked2 : IsLinked g.stored.design
  linked2 = now_linked b g touch made num num2 was_is is

  abbrev there : Contains (pins g.stored.design) n2.pin
  there = s2.1.has.within

  abbrev before : HasCalm b.stored.design g.stored.design n2
  before =
      back_calm_of b.stored touch g.stored made (level b num linked was_is) (level g num2 linked2 is) (places_of b num linked was_is) (places_of g num2 linked2 is)
      was_is.tree is.tree n2 there none

  fine_before : IsFineBack b.stored.design before.node
  fine_before = all_fine b num linked was_is was_fine was_backs before.node (stood b num linked was_is before.node before.within)

  pub fine_stays : IsFineBack g.stored.design n2
  fine_stays =
      fine_here g num2 linked2 is fine n2 s2 behind
      (λ split. need_kept b.stored touch g.stored made (level b num linked was_is) (level g num2 linked2 is) (places_of b num linked was_is) (places_of g num2 linked2 is)
      was_is.tree is.tree n2 there before
      (base_row b.stored touch g.stored made (level b num linked was_is) (level g num2 linked2 is) (places_of b num linked was_is) (places_of g num2 linked2 is) was_is.tree is.tree n2 there none)
      (no_back b.stored.design g.stored.design touch n2 none).clocks (kind_of split)
      (λ sp x c. (node_fine b num linked was_is was_fine sp x (stood b num linked was_is x c)).slew)
      (either_none (is_need_origin b.stored.design (kind_of split) before.node) (list_any (is_required_origin b.stored.design split before.node) (launch_edges b.stored.design)) (fine_before.origins split)).0)
      (λ split. near_kept b.stored touch g.stored made (level b num linked was_is) (level g num2 linked2 is) (places_of b num linked was_is) (places_of g num2 linked2 is)
      was_is.tree is.tree n2 there none split (fine_before.times split))
