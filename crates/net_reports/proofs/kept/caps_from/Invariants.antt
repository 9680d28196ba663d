use Rattle.std.proofs.Common.{◌≡◌, ◌∷◌, take}
use Rattle.net_reports.specs.Parasitics.{root_cap}
use Rattle.net_reports.proofs.kept.caps_from.Given as goal

abbrev pub invariant-loop-cap : goal.invariant-loop-cap
invariant-loop-cap l = l.caps ≡ root_cap l.root l.rc.lump ∷ take l.cap-index l.cap-items
