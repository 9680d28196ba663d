use Rattle.sdc_reader.proofs.KeptLaws.{told_kept}
use Rattle.sdc_reader.proofs.reader.read_constraints.Goals as goal

pub returns-clause-kept : goal.returns-clause-kept
returns-clause-kept c = told_kept c.whole_constraints.result c.args.units.now c.args.bytes.now c.whole_constraints.ensures
