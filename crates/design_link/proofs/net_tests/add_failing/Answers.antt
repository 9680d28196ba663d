use Rattle.std.proofs.Common.{◌∙◌, ◌∷◌, ◌++◌, [], sym, ap}
use Rattle.design_link.proofs.AfterLaws.{absent_net, failing_net, passing_net}
use Rattle.design_link.proofs.net_tests.add_failing.Goals as goal

pub returns-in_default : goal.returns-in_default
returns-in_default c = absent_net c.args.store.now c.laws.ensures.numbered c.args.test c.args.net.now c.args.names.now (sym c.in_default.ensures)

pub returns-in_ok-push : goal.returns-in_ok-push
returns-in_ok-push c =
    failing_net c.args.store.now c.laws.ensures.numbered c.args.test c.args.net.now c.args.names.now c.in-Some.number (sym c.in-Some.ensures)
    c.in_ok-failing.failing c.in_ok-failing.ensures c.if-failing.true c.push.new.self
    (c.in_ok-push.ensures.ok ∙ ap (λ n. c.args.names.now ++ n ∷ []) c.in_ok-copied.ensures)

pub returns-else-failing : goal.returns-else-failing
returns-else-failing c =
    passing_net c.args.store.now c.laws.ensures.numbered c.args.test c.args.net.now c.args.names.now c.in-Some.number (sym c.in-Some.ensures)
    c.in_ok-failing.failing c.in_ok-failing.ensures c.if-failing.false
