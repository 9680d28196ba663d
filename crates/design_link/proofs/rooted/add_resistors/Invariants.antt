use Rattle.std.proofs.Common.{◌≡◌, ◌∷◌, ◌++◌, [], take}
use Rattle.std.specs.List.{filter_map, flat_map}
use Rattle.design_link.specs.Rooted.{bare_pin}
use Rattle.design_link.proofs.rooted.add_resistors.Given as goal

abbrev pub invariant-loop-resistor : goal.invariant-loop-resistor
invariant-loop-resistor l = l.pins ≡ l.initial.pins ++ filter_map bare_pin (flat_map (λ r. r.a ∷ r.b ∷ []) (take l.resistor-index l.ress))
