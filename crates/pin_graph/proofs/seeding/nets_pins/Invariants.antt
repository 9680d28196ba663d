use Rattle.std.proofs.Common.{◌≡◌, ℕ, false, take}
use Rattle.std.specs.Prelude.{nat_eq, ◌||◌}
use Rattle.std.specs.List.{list_any}
use Rattle.pin_graph.specs.Seeds.{is_joined_at}
use Rattle.pin_graph.proofs.seeding.nets_pins.Given as goal

abbrev pub invariant-loop-name : goal.invariant-loop-name
invariant-loop-name l = (pin : ℕ) → list_any (nat_eq pin) l.pins ≡ (false || is_joined_at l.store (take l.name-index l.names) pin)
