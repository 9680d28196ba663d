use Rattle.design_laws.proofs.GeneratedBack.{netlist_faults, netlist_back}
use Rattle.design_laws.proofs.netlists.generated_netlist_read_back.Goals as goal

pub returns-clause-faults : goal.returns-clause-faults
returns-clause-faults c = λ start gates few. netlist_faults start gates few

pub returns-clause-module : goal.returns-clause-module
returns-clause-module c = λ start gates few. netlist_back start gates few
