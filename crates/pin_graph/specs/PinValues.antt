-- What the links of a pin give it: its level, and whether clocks reach it and it reaches registers, by the numbers
-- 1 and 0.

use Rattle.std.specs.Prelude.{ℕ, ◌≡◌, ◌+◌, nat_eq, Bool, ◌||◌, List, map, length, slice_index}
use Rattle.std.specs.List.{list_any}
use Rattle.levelizer.specs.Levels.{greatest}
use Rattle.netlist_store.specs.Numbering.{Stored}
use Rattle.pin_graph.specs.Marks.{flag_of, is_one}
use Rattle.pin_graph.specs.Networks.{clock_ports, clock_pins}
use Rattle.pin_graph.specs.Pulls.{pins_before, network_tails, network_heads}

-- one more than the greatest level among some, 0 of none
abbrev pub level_over : List ℕ → List ℕ → ℕ
level_over levels befores = greatest (map (λ from. slice_index levels from + 1) befores)

abbrev pub pin_level : Stored → List ℕ → ℕ → ℕ
pin_level s levels pin = level_over levels (pins_before s pin)

abbrev pub is_set : List ℕ → ℕ → Bool
is_set flags pin = is_one (slice_index flags pin)

-- clocks reach a clock's port, and each pin to which clocks go from one that they reach
abbrev pub fed_flag : Stored → List ℕ → ℕ → ℕ
fed_flag s flags pin = flag_of (list_any (nat_eq pin) (clock_ports s) || list_any (is_set flags) (network_tails s pin))

-- a register's clock pin is reached from itself, and from each pin from which clocks go to one from which it is reached
abbrev pub feeds_flag : Stored → List ℕ → ℕ → ℕ
feeds_flag s flags pin = flag_of (list_any (nat_eq pin) (clock_pins s) || list_any (is_set flags) (network_heads s pin))

-- a table of `n` numbers reads as a shorter one
pub record IsLonger (n : ℕ) (base table : List ℕ) : Type 0 where
  pub count : length table ≡ n
  pub same : (at : ℕ) → slice_index table at ≡ slice_index base at
