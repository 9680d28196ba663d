use Rattle.std.proofs.Common.{sym, subst}
use Rattle.netlist_store.specs.Drafts.{Follows}
use Rattle.netlist_store.proofs.EditFacts.{goes_there, goes_open}
use Rattle.netlist_store.proofs.PinsOfInst.{part_follows}
use Rattle.netlist_store.proofs.stores.Store.remove_gate.Goals as goal

pub known_inst-number-requires : goal.known_inst-number-requires
known_inst-number-requires c = goes_there c.args.self.design c.args.inst.now c.requires.faults

pub without_gate-requires : goal.without_gate-requires
without_gate-requires c = record {
  number = c.known_inst-number.ensures;
  opened = goes_open c.args.self.design c.args.inst.now c.requires.faults;
}

pub returns-clause-follows : goal.returns-clause-follows
returns-clause-follows c = record {
  insts = part_follows c.args.self.insts c.args.base.now.insts c.in_ok-after.after.insts c.requires.follows.insts c.in_ok-after.ensures.insts;
  nets = subst (Follows c.args.base.now.nets) (sym c.in_ok-after.ensures.nets) c.requires.follows.nets;
  pins = part_follows c.args.self.pins c.args.base.now.pins c.in_ok-after.after.pins c.requires.follows.pins c.in_ok-after.ensures.pins;
}
