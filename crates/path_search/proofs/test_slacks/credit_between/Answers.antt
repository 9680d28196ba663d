use Rattle.std.proofs.Common.{◌*◌, ◌≤◌, ℤ, unsigned_abs, sym, subst}
use Rattle.sta_units.specs.Numbers.{limit}
use Rattle.path_search.proofs.SlackBounds.{credit_low}
use Rattle.path_search.proofs.test_slacks.credit_between.Goals as goal

pub returns-clause-bound : goal.returns-clause-bound
returns-clause-bound c = subst (λ (z : ℤ). unsigned_abs z ≤ 2 * limit) (sym c.credit.ensures) (credit_low c.args.tree.now c.requires.tree _ _)
