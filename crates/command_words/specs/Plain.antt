-- Plain words: none is empty or begins with a hyphen. The words `--journal` and a name may stand before them.
use Rattle.std.specs.Prelude.{◌≡◌, List, [], ◌∷◌, false, ◌==◌}
use Rattle.clap.specs.Walk.{Text}

abbrev pub IsPlain : Text → Type 0
IsPlain [] = ⊥
IsPlain (b ∷ bs) = (b == 45) ≡ false

abbrev pub ArePlain : List Text → Type 0
ArePlain [] = Unit {0}
ArePlain (w ∷ ws) = IsPlain w × ArePlain ws
