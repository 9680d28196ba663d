use Rattle.script_reader.proofs.KeptLaws.{script_kept}
use Rattle.script_reader.proofs.scripts.read_script.Goals as goal

pub returns-clause-kept : goal.returns-clause-kept
returns-clause-kept c = script_kept c.whole_script.result c.args.bytes.now c.whole_script.ensures
