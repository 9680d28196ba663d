use Rattle.std.proofs.Common.{subst}
use Rattle.std.specs.Arc.{arc_value}
use Rattle.netlist_store.specs.Numbering.{Stored}
use Rattle.eco_analysis.specs.Soundness.{IsUnsound}
use Rattle.eco_analysis.proofs.SoundLaws.{unsound_refused}
use Rattle.eco_analysis.proofs.editing.prepared.Goals as goal

pub returns-in-Err-clause-refused : goal.returns-in-Err-clause-refused
returns-in-Err-clause-refused g c =
    unsound_refused c.args.base.now.design c.args.eco.now (arc_value c.args.store).design c.requires.made.made c.in-Err.fault
    (subst (λ (s : Stored). IsUnsound s.design c.in-Err.fault) c.deref.ensures c.in-Err.ensures.refused)
