use Rattle.spef_reader.proofs.ScanLemmas.{taken_first}
use Rattle.spef_reader.proofs.scan.first_of.Goals as goal

pub returns : goal.returns
returns c = taken_first c.next.result c.args.bytes.now _ _ c.new-cursor.ensures c.next.ensures
