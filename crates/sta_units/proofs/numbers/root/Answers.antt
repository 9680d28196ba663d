-- The root of 0.
use Rattle.std.proofs.Common.{arith, sym}
use Rattle.sta_units.proofs.Roots.{root_of_is}
use Rattle.sta_units.proofs.numbers.root.Goals as goal

pub returns-then-n-eq0-clause-value : goal.returns-then-n-eq0-clause-value
returns-then-n-eq0-clause-value c =
    let none = c.if-n-eq0.true in
    sym (root_of_is c.args.n 0 (omega arith) (omega (arith, none)))
