-- How far the rows of a net go.
use Rattle.std.proofs.Common.{◌≡◌, ◌+◌, List, ◌∷◌, true, false, arith, refl}
use Rattle.std.specs.List.{prefix_len}
use Rattle.spef_reader.specs.declared.events.Event.{Event}
use Rattle.spef_reader.specs.Faults.{is_of_net}

pub row_ends : (e : Event) (es : List Event) → is_of_net e ≡ false → prefix_len is_of_net (e ∷ es) ≡ 0
row_ends e es h = rw h refl

pub row_goes_on : (e : Event) (es : List Event) → is_of_net e ≡ true → prefix_len is_of_net (e ∷ es) ≡ prefix_len is_of_net es + 1
row_goes_on e es h = rw h (omega arith)
