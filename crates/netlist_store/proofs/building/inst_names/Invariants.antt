use Rattle.std.proofs.Common.{◌≡◌, take, map}
use Rattle.netlist_store.proofs.building.inst_names.Given as goal

abbrev pub invariant-loop-inst : goal.invariant-loop-inst
invariant-loop-inst l = l.names ≡ map (λ inst. inst.name) (take l.inst-index l.insts)
