use Rattle.std.proofs.Common.{sym, subst}
use Rattle.path_rules.specs.Ranges.{IsRange}
use Rattle.path_rules.proofs.CycleRanges.{ranged}
use Rattle.path_rules.proofs.ranges.cycle_range.Goals as goal

pub returns-clause-range : goal.returns-clause-range
returns-clause-range c = subst (IsRange c.args.c.now c.args.kind) (sym c.range_of.ensures) (ranged c.args.c.now c.args.kind)
