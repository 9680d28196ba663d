use Rattle.std.proofs.Common.{sym}
use Rattle.netlist_store.proofs.NumberLaws.{base_gap, base_name, past_gap, past_base}
use Rattle.netlist_store.proofs.numberings.Numbering.choice.Goals as goal

pub returns-in-Some-clause-gap : goal.returns-in-Some-clause-gap
returns-in-Some-clause-gap c =
    base_gap c.args.base.now c.args.self.now c.args.name.now c.in-Some.number c.requires.kept c.laws.ensures c.requires.fresh (sym c.in-Some.ensures)

pub returns-in-Some-clause-name : goal.returns-in-Some-clause-name
returns-in-Some-clause-name c = base_name c.args.base.now c.args.name.now c.in-Some.number (sym c.in-Some.ensures)

pub returns-in-None-clause-gap : goal.returns-in-None-clause-gap
returns-in-None-clause-gap c = past_gap c.args.self.now c.bound.result c.bound.ensures.bound

pub returns-in-None-clause-name : goal.returns-in-None-clause-name
returns-in-None-clause-name c =
    past_base c.args.base.now c.args.self.now c.args.name.now c.bound.result c.requires.longer c.bound.ensures.bound
