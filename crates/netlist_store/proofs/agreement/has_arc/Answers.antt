use Rattle.std.proofs.Common.{sym, ◌∙◌}
use Rattle.timing_defs.specs.Edits.{same_arc}
use Rattle.netlist_store.proofs.SetLaws.{any_at}
use Rattle.netlist_store.proofs.agreement.has_arc.Goals as goal

pub returns-then-is_arc_at : goal.returns-then-is_arc_at
returns-then-is_arc_at c =
    sym (any_at (same_arc c.args.arc.now) c.args.arcs.now c.args.at (sym c.is_arc_at.ensures ∙ c.if-is_arc_at.true))
