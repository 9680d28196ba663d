use Rattle.std.proofs.Common.{◌≡◌, drop}
use Rattle.timing_defs.specs.Wires.{first_some}
use Rattle.timing_rules.specs.Closing.{unknown_inst}
use Rattle.size_advice.proofs.sizes.insts_there.Given as goal

abbrev pub invariant-loop-inst : goal.invariant-loop-inst
invariant-loop-inst l =
    first_some (unknown_inst l.store.design) (drop l.inst-index l.insts) ≡ first_some (unknown_inst l.store.design) l.insts
