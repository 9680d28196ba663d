use Rattle.std.proofs.Common.{◌≡◌, None, take}
use Rattle.timing_defs.specs.Wires.{first_some}
use Rattle.timing_defs.specs.Edits.{link_net}
use Rattle.design_link.proofs.linking.check_rcs_in.Given as goal

abbrev pub invariant-loop-rc : goal.invariant-loop-rc
invariant-loop-rc l = first_some (link_net l.nets.keys) (take l.rc-index l.rcs) ≡ None
