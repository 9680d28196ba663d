-- The generator of whole numbers of 64 bits (a linear congruential one; own constants are Knuth's for MMIX).
use Rattle.std.specs.Prelude.{ℕ, zero, suc, ◌+◌, ◌*◌, ◌/◌, ◌%◌, ◌^◌}

-- the number behind x
abbrev pub drawn : ℕ → ℕ
drawn x = (6364136223846793005 * x + 1442695040888963407) % 2 ^ 64

-- the number so many draws behind x
unfoldable pub drawn_on : ℕ → ℕ → ℕ
drawn_on zero x = x
drawn_on (suc n) x = drawn_on n (drawn x)

-- a choice among so many, from 0
abbrev pub chosen : ℕ → ℕ → ℕ
chosen x count = x / 2 ^ 33 % count
