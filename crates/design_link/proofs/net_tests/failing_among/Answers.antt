use Rattle.std.proofs.Common.{◌≡◌, ◌∙◌, sym, ap, filter, length}
use Rattle.std.specs.Option.{option_copied}
use Rattle.timing_defs.specs.NetChecks.{least}
use Rattle.design_link.specs.Counts.{names_below}
use Rattle.design_link.specs.Failing.{fails, least_among}
use Rattle.design_link.proofs.FailLaws.{least_found}
use Rattle.design_link.proofs.Results.{if_ok}
use Rattle.design_link.proofs.net_tests.failing_among.Goals as goal

pub returns-in-None : goal.returns-in-None
returns-in-None c =
    if_ok c.failing_nets.result
    (λ names. names ≡ filter (fails c.args.test c.args.store.now.design) (names_below c.args.store.now.nets (length c.args.store.now.nets)))
    (λ names. least names ≡ least_among (option_copied c.args.among) c.args.test c.args.store.now.design)
    (λ names e. ap least e ∙ least_found c.args.store.now c.laws.ensures.numbered c.laws.ensures.linked c.args.test
    ∙ sym (ap (λ o. least_among (option_copied o) c.args.test c.args.store.now.design) c.in-None.is)) c.failing_nets.ensures
