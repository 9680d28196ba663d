use Rattle.std.proofs.Common.{◌≡◌, ◌++◌, Some, drop, map}
use Rattle.std.specs.Prelude.{if◌then◌else◌}
use Rattle.timing_defs.specs.Edits.{is_conn_of}
use Rattle.netlist_store.proofs.conn_edits.written.Given as goal

abbrev pub invariant-loop-conn : goal.invariant-loop-conn
invariant-loop-conn l =
    l.made ++ map (λ conn. if is_conn_of l.pin conn then record { pin = conn.pin; net = Some l.net } else conn) (drop l.conn-index l.conns)
    ≡ map (λ conn. if is_conn_of l.pin conn then record { pin = conn.pin; net = Some l.net } else conn) l.conns
