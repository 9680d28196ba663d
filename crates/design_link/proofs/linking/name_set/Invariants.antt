use Rattle.std.proofs.Common.{◌≡◌, ℕ, List, take}
use Rattle.timing_defs.specs.Netlist.{is_listed}
use Rattle.design_link.proofs.linking.name_set.Given as goal

abbrev pub invariant-loop-name : goal.invariant-loop-name
invariant-loop-name l = (q : List ℕ) → is_listed l.set.keys q ≡ is_listed (take l.name-index l.names) q
