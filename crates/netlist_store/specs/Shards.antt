-- A map from names to numbers that is kept in shards (own).

use Rattle.std.specs.Prelude.{ℕ, ◌≡◌, ◌+◌, ◌*◌, ◌%◌, false, List, [], ◌∷◌, get_or, Option, None}
use Rattle.std.specs.Map.{lookup}
use Rattle.std.specs.Str.{bytes_eq}
use Rattle.timing_defs.specs.Names.{is_name}

-- the shard of a name: a polynomial of its bytes, by a prime
abbrev pub shard_from : ℕ → List ℕ → ℕ
shard_from place [] = place
shard_from place (byte ∷ bytes) = shard_from ((place * 257 + byte) % 131101) bytes

unfoldable pub shard_of : List ℕ → ℕ
shard_of name = shard_from 0 name

-- the number of a name, which its shard has
abbrev pub number_under : List (List (List ℕ × ℕ)) → List ℕ → Option ℕ
number_under shards name = lookup (bytes_eq name) (get_or shards (shard_of name) [])

-- what is no name has no number
pub record HasNames (shard : List (List ℕ × ℕ)) : Type 0 where
  pub none : (q : List ℕ) → is_name q ≡ false → lookup (bytes_eq q) shard ≡ None
