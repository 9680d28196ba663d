use Rattle.std.proofs.Common.{ap, sym, subst, ◌∙◌}
use Rattle.std.specs.Prelude.{is_some}
use Rattle.netlist_store.specs.Numbering.{number_of}
use Rattle.netlist_store.specs.Drafts.{Follows}
use Rattle.netlist_store.proofs.NamedLaws.{none_is}
use Rattle.netlist_store.proofs.EditFacts.{comes_usable, comes_free}
use Rattle.netlist_store.proofs.stores.Store.insert_gate.Goals as goal

pub with_gate-requires : goal.with_gate-requires
with_gate-requires c = record {
  cell = comes_usable c.args.self.design c.args.inst.now c.args.cell.now c.requires.faults;
  fresh =
      none_is (number_of c.args.self.insts c.args.inst.now)
      (c.laws.ensures.numbered.inst_names c.args.inst.now ∙ ap is_some (comes_free c.args.self.design c.args.inst.now c.args.cell.now c.requires.faults));
  insts = c.requires.follows.insts;
  pins = c.requires.follows.pins;
}

pub returns-clause-follows : goal.returns-clause-follows
returns-clause-follows c = record {
  insts = c.in_ok-after.ensures.insts;
  nets = subst (Follows c.args.base.now.nets) (sym c.in_ok-after.ensures.nets) c.requires.follows.nets;
  pins = c.in_ok-after.ensures.pins;
}
