use Rattle.std.proofs.Common.{◌∙◌, Some, ap, sym}
use Rattle.design_link.proofs.CountLaws.{gap_added, name_added}
use Rattle.design_link.proofs.net_tests.add_net.Goals as goal

pub returns-then-not-has_net : goal.returns-then-not-has_net
returns-then-not-has_net c = gap_added c.args.store.now.nets c.args.net c.args.failing c.args.names.now (sym c.has_net.ensures ∙ c.if-not-has_net.true)

pub returns : goal.returns
returns c =
    name_added c.args.store.now.nets c.args.net c.in_ok-name.name c.args.failing c.args.names.now c.push.new.self c.if-not-failing.false
    (c.net_name.ensures ∙ ap Some (sym c.in_ok-name.ensures)) c.in_ok-push.ensures.ok
