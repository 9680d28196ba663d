use Rattle.std.proofs.Common.{◌≡◌, ◌++◌, drop, filter, not}
use Rattle.timing_defs.specs.Edits.{is_conn_of}
use Rattle.netlist_store.proofs.conn_edits.unconnected.Given as goal

abbrev pub invariant-loop-conn : goal.invariant-loop-conn
invariant-loop-conn l =
    l.made ++ filter (λ conn. not (is_conn_of l.pin conn)) (drop l.conn-index l.conns) ≡ filter (λ conn. not (is_conn_of l.pin conn)) l.conns
