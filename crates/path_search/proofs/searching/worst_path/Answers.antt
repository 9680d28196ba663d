use Rattle.std.proofs.Common.{ℤ, Option, sym, subst}
use Rattle.timing_rules.specs.Paths.{named}
use Rattle.path_search.specs.NodeSlacks.{IsEitherSlack}
use Rattle.path_search.proofs.searching.worst_path.Goals as goal

pub slack_law-requires-clause-slack : goal.slack_law-requires-clause-slack
slack_law-requires-clause-slack g c = λ rise fall e f.
    subst (λ (o : Option ℤ). IsEitherSlack c.args.store.now.design c.args.kind (named rise) (named fall) o) (sym c.least_of.ensures) (c.in_ok-found.ensures.slack rise fall e f)

pub shown_near-requires-clause-near : goal.shown_near-requires-clause-near
shown_near-requires-clause-near g c = c.in_ok-found.ensures.nodes c.in-Some.near c.in-Some.is
