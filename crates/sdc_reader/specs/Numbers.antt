-- The numbers of constraints: each is a decimal in its unit, rounded once, within a range (the range
-- of a period and of derates is own).
use Rattle.std.specs.Prelude.{ℕ, List, Bool, true, false, ◌&&◌, not, if◌then◌else◌, ℤ, pos, ◌+ℤ◌, int_le, int_lt, Option, Some, None, Result, Ok, Err}
use Rattle.std.specs.Int.{int_div_euclid}
use Rattle.sta_units.specs.Decimal.{decimal_of}
use Rattle.sta_units.specs.declared.decimals.DecFault.{DecFault}
use Rattle.timing_defs.specs.declared.library.Units.{Units}
use Rattle.sdc_reader.specs.declared.commands.Quantity.{Quantity}
use Rattle.sdc_reader.specs.declared.commands.Quantity.TheVariants.{Period, Slew, Load, Cycles, Factor}
use Rattle.sdc_reader.specs.declared.draft.Figure.{Figure}
use Rattle.sdc_reader.specs.declared.draft.Figure.TheVariants.{Absent, Faulty, Value}
use Rattle.sdc_reader.specs.declared.draft.Wave.{Wave}

-- the unit of a quantity, as a power of ten; a derate is in millionths
abbrev pub scale : Units → Quantity → ℤ
scale units Load = units.cap.ten
scale units Cycles = pos 0
scale units Factor = pos 6
scale units quantity = units.time.ten

-- the range of a quantity: a period of 2 fs or more, no negative slew or load, a derate up to ten
abbrev pub fits : Quantity → ℤ → Bool
fits Period value = int_le (pos 2) value
fits Slew value = int_le (pos 0) value
fits Load value = int_le (pos 0) value
fits Factor value = int_le (pos 0) value && int_le value (pos 10000000)
fits quantity value = true

abbrev pub figure : Quantity → Result ℤ DecFault → Figure
figure quantity (Ok value) = (if fits quantity value then Value value else Faulty)
figure quantity (Err fault) = Faulty

-- the number that a word writes
unfoldable pub number_of : Units → Quantity → List ℕ → Figure
number_of units quantity word = figure quantity (decimal_of word (scale units quantity))

abbrev pub is_absent : Figure → Bool
is_absent Absent = true
is_absent number = false

abbrev pub is_faulty : Figure → Bool
is_faulty Faulty = true
is_faulty number = false

-- cycles are from 1 to 1,000 for setup, from 0 to 1,000 for hold
abbrev pub are_cycles : Bool → ℤ → Bool
are_cycles hold value = int_le (if hold then pos 0 else pos 1) value && int_le value (pos 1000)

-- the edges of a waveform: 0 <= rise < fall < rise + period
abbrev pub is_waveform : ℤ → ℤ → ℤ → Bool
is_waveform period rise fall = int_le (pos 0) rise && int_lt rise fall && int_lt fall (rise +ℤ period)

abbrev pub checked_edges : ℤ → Figure → Figure → Option (ℤ × ℤ)
checked_edges period (Value rise) (Value fall) = (if is_waveform period rise fall then Some (rise, fall) else None)
checked_edges period rise fall = None

-- the rise and fall of a clock; without a waveform it is high for the first half of its period
abbrev pub edges_of : Option ℕ → ℤ → Figure → Figure → Option (ℤ × ℤ)
edges_of None period rise fall = Some (pos 0, int_div_euclid period (pos 2))
edges_of (Some at) period rise fall = checked_edges period rise fall

abbrev pub edges : ℤ → Wave → Option (ℤ × ℤ)
edges period wave = edges_of wave.at period wave.rise wave.fall

-- the period and the waveform were read, and the waveform does not fit into the period
abbrev pub misfits : Figure → Figure → Figure → Bool
misfits (Value period) (Value rise) (Value fall) = not (is_waveform period rise fall)
misfits period rise fall = false
