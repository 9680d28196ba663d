use Rattle.liberty_cells.proofs.KeptLaws.{library_kept}
use Rattle.liberty_cells.proofs.reader.read_library.Goals as goal

pub returns-clause-kept : goal.returns-clause-kept
returns-clause-kept c = library_kept c.library_of_bytes.result c.args.bytes.now c.library_of_bytes.ensures
