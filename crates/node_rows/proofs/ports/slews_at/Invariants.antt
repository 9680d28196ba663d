use Rattle.std.proofs.Common.{◌≡◌, ℕ, List, take}
use Rattle.node_rows.specs.PortTables.{under, slew_in}
use Rattle.node_rows.proofs.ports.slews_at.Given as goal

abbrev pub invariant-loop-slew : goal.invariant-loop-slew
invariant-loop-slew l = (q : List ℕ) → under l.table q ≡ slew_in (take l.slew-index l.slews) l.split l.tran q
