use Rattle.std.proofs.Common.{length, sym}
use Rattle.rc_tree.proofs.Growing.{no_further}
use Rattle.rc_tree.proofs.forests.find_part.Goals as goal

pub returns-in-Some-clause-done : goal.returns-in-Some-clause-done
returns-in-Some-clause-done c = no_further c.args.segments.now (length c.args.forest.places.items) c.args.node c.in-Some.field-0 c.args.forest c.requires.done (sym c.in-Some.ensures)
