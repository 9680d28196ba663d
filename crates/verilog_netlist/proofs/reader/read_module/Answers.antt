use Rattle.verilog_netlist.proofs.KeptLaws.{told_kept}
use Rattle.verilog_netlist.proofs.reader.read_module.Goals as goal

pub returns-clause-kept : goal.returns-clause-kept
returns-clause-kept c = told_kept c.whole_module.result c.args.bytes.now c.whole_module.ensures
