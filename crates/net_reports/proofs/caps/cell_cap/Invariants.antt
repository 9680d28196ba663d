use Rattle.std.proofs.Common.{◌≡◌, drop}
use Rattle.std.specs.Prelude.{find}
use Rattle.std.specs.Str.{bytes_eq}
use Rattle.net_reports.proofs.caps.cell_cap.Given as goal

abbrev pub invariant-loop-pin : goal.invariant-loop-pin
invariant-loop-pin l = find (λ p. bytes_eq p.name l.own) (drop l.pin-index l.pin-items) ≡ find (λ p. bytes_eq p.name l.own) l.cell.pins
