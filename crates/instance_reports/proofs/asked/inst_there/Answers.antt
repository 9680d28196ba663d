use Rattle.std.proofs.Common.{sym}
use Rattle.store_pins.proofs.PinLaws.{told_at}
use Rattle.instance_reports.proofs.asked.inst_there.Goals as goal

pub returns-in-Some-clause-number : goal.returns-in-Some-clause-number
returns-in-Some-clause-number c = told_at c.args.store.now.insts c.args.inst.now c.in-Some.number (sym c.in-Some.ensures)
