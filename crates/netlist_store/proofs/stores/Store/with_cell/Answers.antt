use Rattle.std.proofs.Common.{ap, sym, subst}
use Rattle.netlist_store.specs.Numbering.{Stored}
use Rattle.netlist_store.specs.Linked.{IsLinked}
use Rattle.netlist_store.specs.Drafts.{Follows}
use Rattle.netlist_store.proofs.NamedLaws.{number_is}
use Rattle.netlist_store.proofs.EditFacts.{other_usable}
use Rattle.netlist_store.proofs.GateSteps.{late_there, distinct_of}
use Rattle.netlist_store.proofs.CellSteps.{cell_design, cell_tables}
use Rattle.netlist_store.proofs.Sound.{tables_sound}
use Rattle.netlist_store.proofs.stores.Store.with_cell.Goals as goal

pub other_cell-requires : goal.other_cell-requires
other_cell-requires c = record {
  inst = number_is c.args.self.insts c.args.name.now c.args.inst c.requires.number;
  cell = late_there c.args.self.design c.args.cell.now (other_usable c.args.self.design c.args.name.now c.args.cell.now c.requires.faults);
}

pub put_other_cell-requires : goal.put_other_cell-requires
put_other_cell-requires c = record {
  distinct =
      distinct_of c.args.self (subst (λ (s : Stored). IsLinked s.design) c.self.view_is c.self.invariant.linked) c.args.cell.now
      (other_usable c.args.self.design c.args.name.now c.args.cell.now c.requires.faults) c.in-Ok.other.new c.in-Ok.ensures.new;
  follows =
      subst (λ (b : Stored). Follows b.pins c.self.inside.names.pins) (sym c.base.view_is)
      (subst (λ (s : Stored). Follows c.args.base.now.pins s.pins) (sym c.self.view_is) c.requires.pins);
  filled = (tables_sound c.self.inside.frame c.self.inside.names c.self.inside.rows c.self.inside.orders c.self.invariant).filled;
}

pub invariant_of-result : goal.invariant_of-result
invariant_of-result c =
    cell_tables c.self.inside.frame c.self.inside.names c.self.inside.rows c.self.inside.orders c.self.invariant c.args.self c.self.view_is c.args.name.now c.args.inst
    c.requires.number c.args.cell.now c.requires.faults c.in-Ok.other.row c.in-Ok.ensures.row c.in-Ok.other.old c.in-Ok.other.new c.in-Ok.ensures.old c.in-Ok.ensures.new
    c.in-Ok-put_other_cell.pins c.in-Ok-put_other_cell.ensures.numbers c.put_other_cell.new.rows c.in-Ok-put_other_cell.ensures.filled c.in-Ok-put_other_cell.ensures.rows c.in-Ok-put_other_cell.ensures.kept c.put_other_cell.new.insts c.in-Ok-put_other_cell.ensures.put

pub returns-in-Ok-put_other_cell-clause-design : goal.returns-in-Ok-put_other_cell-clause-design
returns-in-Ok-put_other_cell-clause-design c =
    cell_design c.self.inside.frame c.self.inside.names c.self.inside.rows c.self.inside.orders c.self.invariant c.args.self c.self.view_is c.args.name.now c.args.inst
    c.requires.number c.args.cell.now c.requires.faults c.in-Ok.other.row c.in-Ok.ensures.row c.in-Ok.other.old c.in-Ok.other.new c.in-Ok.ensures.old c.in-Ok.ensures.new
    c.in-Ok-put_other_cell.pins c.in-Ok-put_other_cell.ensures.numbers c.put_other_cell.new.rows c.in-Ok-put_other_cell.ensures.filled c.in-Ok-put_other_cell.ensures.rows c.in-Ok-put_other_cell.ensures.kept c.put_other_cell.new.insts c.in-Ok-put_other_cell.ensures.put

pub returns-in-Ok-put_other_cell-clause-insts : goal.returns-in-Ok-put_other_cell-clause-insts
returns-in-Ok-put_other_cell-clause-insts c = ap (λ (s : Stored). s.insts) c.self.view_is

pub returns-in-Ok-put_other_cell-clause-nets : goal.returns-in-Ok-put_other_cell-clause-nets
returns-in-Ok-put_other_cell-clause-nets c = ap (λ (s : Stored). s.nets) c.self.view_is
