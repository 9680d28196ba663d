use Rattle.std.proofs.Common.{sym}
use Rattle.design_link.proofs.DanglingLaws.{inst_no_port, port_is}
use Rattle.design_link.proofs.objects.port_dir_at.Goals as goal

pub returns-in-Some : goal.returns-in-Some
returns-in-Some c = λ name e. sym (inst_no_port c.args.store.now c.laws.ensures.numbered name c.args.pin e (sym c.in-Some.ensures.none))

pub returns-in-None : goal.returns-in-None
returns-in-None c = λ name e. sym (port_is c.args.store.now c.laws.ensures.numbered name c.args.pin c.dir_of.result e (sym c.in-None.ensures.none) c.dir_of.ensures)
