use Rattle.std.proofs.Common.{◌≡◌, None, take}
use Rattle.timing_defs.specs.Wires.{first_some}
use Rattle.timing_defs.specs.Edits.{link_inst}
use Rattle.design_link.proofs.linking.check_insts.Given as goal

abbrev pub invariant-loop-inst : goal.invariant-loop-inst
invariant-loop-inst l = first_some (link_inst l.early l.late) (take l.inst-index l.insts) ≡ None
