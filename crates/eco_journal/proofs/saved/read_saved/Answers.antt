use Rattle.eco_journal.proofs.KeptLaws.{saved_kept}
use Rattle.eco_journal.proofs.saved.read_saved.Goals as goal

pub returns-clause-kept : goal.returns-clause-kept
returns-clause-kept c = saved_kept c.whole_saved.result c.args.bytes.now c.args.derates.now c.whole_saved.ensures
