use Rattle.std.proofs.Common.{◌≡◌, drop}
use Rattle.std.specs.Prelude.{find}
use Rattle.std.specs.Str.{bytes_eq}
use Rattle.timing_rules.specs.Connections.{joined_by}
use Rattle.instance_reports.proofs.pins.joined.Given as goal

abbrev pub invariant-loop-conn : goal.invariant-loop-conn
invariant-loop-conn l =
    joined_by (find (λ conn. bytes_eq conn.pin l.own) (drop l.conn-index l.conns)) ≡ joined_by (find (λ conn. bytes_eq conn.pin l.own) l.conns)
