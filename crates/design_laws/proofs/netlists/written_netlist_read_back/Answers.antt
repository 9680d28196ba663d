use Rattle.design_laws.proofs.ModuleBack.{no_faults, module_back}
use Rattle.design_laws.proofs.netlists.written_netlist_read_back.Goals as goal

pub returns-clause-faults : goal.returns-clause-faults
returns-clause-faults c = λ insts ok. no_faults insts ok

pub returns-clause-module : goal.returns-clause-module
returns-clause-module c = λ insts ok. module_back insts ok
