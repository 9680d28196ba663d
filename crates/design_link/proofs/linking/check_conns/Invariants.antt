use Rattle.std.proofs.Common.{◌≡◌, None, take}
use Rattle.timing_defs.specs.Wires.{first_some}
use Rattle.timing_defs.specs.Edits.{link_pin}
use Rattle.design_link.proofs.linking.check_conns.Given as goal

abbrev pub invariant-loop-at : goal.invariant-loop-at
invariant-loop-at l = first_some (link_pin l.inst l.cell) (take l.at l.conns) ≡ None
