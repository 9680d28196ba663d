use Rattle.std.proofs.Common.{sym, subst}
use Rattle.netlist_store.specs.Drafts.{Follows}
use Rattle.netlist_store.proofs.EditFacts.{other_there}
use Rattle.netlist_store.proofs.stores.Store.repower_gate.Goals as goal

pub known_inst-number-requires : goal.known_inst-number-requires
known_inst-number-requires c = other_there c.args.self.design c.args.inst.now c.args.cell.now c.requires.faults

pub with_cell-requires : goal.with_cell-requires
with_cell-requires c = record { number = c.known_inst-number.ensures; faults = c.requires.faults; pins = c.requires.follows.pins }

pub returns-clause-follows : goal.returns-clause-follows
returns-clause-follows c = record {
  insts = subst (Follows c.args.base.now.insts) (sym c.in_ok-after.ensures.insts) c.requires.follows.insts;
  nets = subst (Follows c.args.base.now.nets) (sym c.in_ok-after.ensures.nets) c.requires.follows.nets;
  pins = c.in_ok-after.ensures.pins;
}
