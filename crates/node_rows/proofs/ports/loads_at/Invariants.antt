use Rattle.std.proofs.Common.{◌≡◌, ℕ, List, take}
use Rattle.node_rows.specs.PortTables.{under, load_in}
use Rattle.node_rows.proofs.ports.loads_at.Given as goal

abbrev pub invariant-loop-load : goal.invariant-loop-load
invariant-loop-load l = (q : List ℕ) → under l.table q ≡ load_in (take l.load-index l.loads) l.split q
