use Rattle.std.proofs.Common.{◌≡◌, ◌++◌, map, take}
use Rattle.std.specs.List.{filter_map}
use Rattle.design_link.specs.Rooted.{bare_pin}
use Rattle.design_link.proofs.rooted.add_caps.Given as goal

abbrev pub invariant-loop-cap : goal.invariant-loop-cap
invariant-loop-cap l = l.pins ≡ l.initial.pins ++ filter_map bare_pin (map (λ c. c.node) (take l.cap-index l.caps))
