use Rattle.std.proofs.Common.{sym}
use Rattle.netlist_store.proofs.NamedLaws.{number_is, found_inst, no_inst}
use Rattle.netlist_store.proofs.stores.Store.inst_named.Goals as goal

pub inst_at-requires : goal.inst_at-requires
inst_at-requires c = number_is c.args.self.now.insts c.args.name.now c.in-Some.inst (sym c.in-Some.ensures)

pub returns-in-Some : goal.returns-in-Some
returns-in-Some c =
    sym (found_inst c.args.self.now c.args.name.now c.in-Some.inst c.inst_at.result.now (sym c.in-Some.ensures) c.inst_at.ensures.value)

pub returns-in-None : goal.returns-in-None
returns-in-None c = sym (no_inst c.args.self.now c.args.name.now c.laws.ensures.numbered (sym c.in-None.ensures))
