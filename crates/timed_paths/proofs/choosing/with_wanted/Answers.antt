use Rattle.std.proofs.Common.{sym, subst}
use Rattle.timed_paths.specs.TestNumbers.{IsKnownTest}
use Rattle.timed_paths.proofs.ChoiceLaws.{first_known}
use Rattle.timed_paths.proofs.choosing.with_wanted.Goals as goal

pub returns-then-wanted-clause-known : goal.returns-then-wanted-clause-known
returns-then-wanted-clause-known c =
    subst (IsKnownTest c.args.store.now) (sym c.first_of.ensures) (first_known c.args.store.now c.args.best c.args.next c.requires.best c.requires.next)
