-- Marks as numbers: 1 where a mark holds, else 0.

use Rattle.std.specs.Prelude.{ℕ, nat_eq, Bool, if◌then◌else◌}

abbrev pub flag_of : Bool → ℕ
flag_of mark = (if mark then 1 else 0)

abbrev pub is_one : ℕ → Bool
is_one flag = nat_eq flag 1
