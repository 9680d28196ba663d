use Rattle.std.proofs.Common.{sym, ◌∙◌}
use Rattle.store_pins.proofs.PinLaws.{told_at}
use Rattle.net_reports.proofs.NetLaws.{known_net, missing_net}
use Rattle.net_reports.proofs.answers.net_there.Goals as goal

pub returns-in-Some-clause-number : goal.returns-in-Some-clause-number
returns-in-Some-clause-number c = told_at c.args.store.now.nets c.args.net.now c.in-Some.number (sym c.net.ensures ∙ c.in-Some.is)

pub returns-in-Some-clause-there : goal.returns-in-Some-clause-there
returns-in-Some-clause-there c = known_net c.args.store.now c.laws.ensures.numbered c.laws.ensures.linked c.args.net.now c.in-Some.number (sym c.net.ensures ∙ c.in-Some.is)

pub returns-in-None-clause-refused : goal.returns-in-None-clause-refused
returns-in-None-clause-refused c =
    missing_net c.args.store.now c.laws.ensures.numbered c.laws.ensures.linked c.args.net.now c.unknown_name.result (sym c.net.ensures ∙ c.in-None.is) c.unknown_name.ensures
