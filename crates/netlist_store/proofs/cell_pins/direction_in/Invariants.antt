use Rattle.std.proofs.Common.{◌≡◌, drop}
use Rattle.std.specs.Prelude.{find}
use Rattle.std.specs.Str.{bytes_eq}
use Rattle.netlist_store.proofs.cell_pins.direction_in.Given as goal

abbrev pub invariant-loop-own : goal.invariant-loop-own
invariant-loop-own l = find (λ p. bytes_eq p.name l.pin) (drop l.own-index l.own-items) ≡ find (λ p. bytes_eq p.name l.pin) l.cell.pins
