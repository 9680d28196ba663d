use Rattle.eco_journal.proofs.KeptLaws.{eco_kept}
use Rattle.eco_journal.proofs.entries.read_eco.Goals as goal

pub returns-clause-kept : goal.returns-clause-kept
returns-clause-kept c = eco_kept c.whole_eco.result c.args.lines.now c.whole_eco.ensures
