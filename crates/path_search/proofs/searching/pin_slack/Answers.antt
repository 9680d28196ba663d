use Rattle.std.proofs.Common.{sym, subst}
use Rattle.timing_rules.specs.Paths.{IsSlack}
use Rattle.path_search.proofs.searching.pin_slack.Goals as goal

pub returns : goal.returns
returns g c =
    subst (IsSlack c.args.sources.now.store.now.design c.args.sources.now.kind c.args.endpoint.now) (sym c.in_fs.ensures) c.slack_law.ensures
