use Rattle.std.proofs.Common.{ℕ, List, get_or, ap, subst, ◌∙◌}
use Rattle.std.specs.Prelude.{nat_eq, if◌then◌else◌}
use Rattle.std.specs.List.{list_any}
use Rattle.timing_rules.specs.Rows.{empty_row}
use Rattle.netlist_store.specs.Numbering.{Stored, IsNumbered}
use Rattle.pin_graph.specs.Nodes.{node_bound, pin_under}
use Rattle.arc_delays.specs.declared.tables.ArcDelay.{ArcDelay}
use Rattle.arc_delays.specs.Delays.{sized_delays}
use Rattle.arrival_engine.specs.Analysed.{sized_rows}
use Rattle.arrival_engine.proofs.UpdatedLaws.{begun, two_nodes}
use Rattle.arrival_engine.proofs.tables.Arrivals.begun.Goals as goal

pub empty_pins-requires : goal.empty_pins-requires
empty_pins-requires c =
    two_nodes c.args.graph.now.stored c.in_ok-rows.rows c.args.self.now.rows (c.in_ok-rows.ensures ∙ ap (λ k. sized_rows c.args.self.now.rows k) c.count.ensures)

pub returns : goal.returns
returns c =
    begun c.args.base.now.stored c.args.graph.now.stored (record { insts = c.args.touched.now.insts; nets = c.args.touched.now.nets }) c.requires.made
    (subst (λ (x : Stored). IsNumbered x) c.store.ensures c.laws.ensures.numbered) (subst (λ (x : Stored). IsNumbered x) c.store-2.ensures c.laws-2.ensures.numbered)
    c.args.self.now c.requires.was c.in_ok-rows.rows c.empty_pins.new.rows c.in_ok-delays.delays c.in_ok-gone.gone
    (c.in_ok-rows.ensures ∙ ap (λ k. sized_rows c.args.self.now.rows k) c.count.ensures)
    c.in_ok-empty_pins.ensures.long
    (λ n low. c.in_ok-empty_pins.ensures.rows n low ∙ ap (λ (ps : List ℕ). if list_any (nat_eq (pin_under n)) ps then empty_row else get_or c.in_ok-rows.rows n empty_row) c.as_slice.ensures)
    c.in_ok-gone.ensures
    (c.in_ok-delays.ensures ∙ ap (λ k. sized_delays c.deref.result.now k) c.count-2.ensures ∙ ap (λ (t : List (List ArcDelay)). sized_delays t (node_bound c.args.graph.now.stored)) c.deref.ensures)
