use Rattle.std.proofs.Common.{Ok}
use Rattle.std.specs.Fn.{FnReturnsAt}
use Rattle.level_workers.proofs.Joins.{of-longer}
use Rattle.level_workers.proofs.runs.longer.Goals as goal

pub returns-clause-map : goal.returns-clause-map
returns-clause-map g c =
    of-longer (λ x r. FnReturnsAt g.F.Fn c.args.f.now x (Ok r)) c.args.items.now c.args.run.from c.args.run.to c.args.to c.args.run.results c.in_ok-results.results
    c.requires.run c.requires.more c.requires.within c.in_ok-results.ensures
