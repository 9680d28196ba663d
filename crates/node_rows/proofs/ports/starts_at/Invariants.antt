use Rattle.std.proofs.Common.{◌≡◌, ℕ, List, take}
use Rattle.node_rows.specs.PortTables.{under, start_in}
use Rattle.node_rows.proofs.ports.starts_at.Given as goal

abbrev pub invariant-loop-input : goal.invariant-loop-input
invariant-loop-input l = (q : List ℕ) → under l.table q ≡ start_in (take l.input-index l.inputs) l.split l.tran q
