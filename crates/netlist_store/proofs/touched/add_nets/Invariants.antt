use Rattle.std.proofs.Common.{◌≡◌, ◌++◌, drop}
use Rattle.std.specs.List.{filter_map}
use Rattle.netlist_store.proofs.touched.add_nets.Given as goal

abbrev pub invariant-loop-conn : goal.invariant-loop-conn
invariant-loop-conn l = l.nets ++ filter_map (λ conn. conn.net) (drop l.conn-index l.conns) ≡ l.fn.nets ++ filter_map (λ conn. conn.net) l.conns
