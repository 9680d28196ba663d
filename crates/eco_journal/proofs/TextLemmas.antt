-- A name is UTF-8.
use Rattle.std.proofs.Common.{◌≡◌, ℕ, zero, suc, ◌<◌, List, [], ◌∷◌, true, get_or, arith}
use Rattle.std.specs.List.{list_all}
use Rattle.std.specs.Str.{IsUtf8}
use Rattle.std.proofs.lemmas.Str.{IsUtf8-from_ascii}
use Rattle.timing_defs.specs.Names.{is_graphic, is_name}

all_ascii : (bs : List ℕ) → list_all is_graphic bs ≡ true → (i : ℕ) → get_or bs i 0 < 128
all_ascii [] all i = grind arith
all_ascii (b ∷ bs) all zero = grind arith
all_ascii (b ∷ bs) all (suc i) = grind (arith, all_ascii bs)

pub name_is_text : (bs : List ℕ) → is_name bs ≡ true → IsUtf8 bs
name_is_text bs name = IsUtf8-from_ascii bs (all_ascii bs (grind arith))
