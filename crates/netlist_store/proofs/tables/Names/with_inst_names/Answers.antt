use Rattle.std.proofs.Common.{ap, ◌∙◌}
use Rattle.netlist_store.specs.Numbering.{number_of, with_name}
use Rattle.netlist_store.proofs.tables.Names.with_inst_names.Goals as goal

pub with-requires : goal.with-requires
with-requires c = record {
  fresh = ap (number_of c.args.self.insts) c.in-Ok.ensures ∙ c.requires.fresh;
  longer = c.requires.insts.longer;
  kept = c.requires.insts.kept;
}

pub returns-in-Ok-put_inst_pins-clause-added : goal.returns-in-Ok-put_inst_pins-clause-added
returns-in-Ok-put_inst_pins-clause-added c = c.in-Ok-with.ensures.added ∙ ap (with_name c.args.self.insts c.in-Ok-with.made.1) c.in-Ok.ensures
