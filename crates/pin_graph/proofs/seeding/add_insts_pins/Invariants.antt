use Rattle.std.proofs.Common.{◌≡◌, ℕ, take}
use Rattle.std.specs.Prelude.{nat_eq, ◌||◌}
use Rattle.std.specs.List.{list_any}
use Rattle.pin_graph.specs.Seeds.{is_owned_at}
use Rattle.pin_graph.proofs.seeding.add_insts_pins.Given as goal

abbrev pub invariant-loop-name : goal.invariant-loop-name
invariant-loop-name l = (pin : ℕ) → list_any (nat_eq pin) l.pins ≡ (list_any (nat_eq pin) l.initial.pins || is_owned_at l.store (take l.name-index l.names) pin)
