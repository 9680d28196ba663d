-- The seats of halls, and why halls open no door.
use Rattle.std.specs.Prelude.{◌≡◌, ℕ, ◌-◌, List, [], ◌∷◌, ◌++◌, map, slice_get, ⊤}
use Rattle.std.specs.declared.option.Option.{Option}
use Rattle.std.specs.declared.option.Option.TheVariants.{None, Some}
use Rattle.live_doors.specs.InMemory.{kept_lines}
use Rattle.live_doors.specs.declared.door.Lost.{Lost}
use Rattle.live_doors.specs.declared.door.Lost.TheVariants.{Input, Output, Memory}
use Rattle.live_doors.specs.declared.halls.NamedHall.{NamedHall}
use Rattle.live_doors.specs.declared.halls.NamedSeat.{NamedSeat}
use Rattle.live_doors.specs.declared.mem_door.MemHall.{MemHall}
use Rattle.live_doors.specs.declared.mem_door.MemSeat.{MemSeat}

-- the seat of a number, from 1, in memory
abbrev pub seat_at : MemHall → ℕ → Option MemSeat
seat_at hall seat = slice_get hall.seats.items (seat - 1)

-- the lines that come in at it
abbrev pub seat_lines : MemSeat → List (List ℕ)
seat_lines found = kept_lines found.lines.items

-- why a hall in memory opens no door at a seat: where there is no such seat its input is lacking, and else only memory can be
-- wanting
abbrev pub DeniesSeat : Option MemSeat → Lost → Type 0
DeniesSeat None Input = ⊤
DeniesSeat None Output = ⊥
DeniesSeat None Memory = ⊥
DeniesSeat (Some found) Input = ⊥
DeniesSeat (Some found) Output = ⊥
DeniesSeat (Some found) Memory = ⊤

-- the names of the seat of a number, from 1
abbrev pub names_at : {E : Type 0} → NamedHall E → ℕ → Option NamedSeat
names_at hall seat = slice_get hall.seats.items (seat - 1)

-- the names of its seats, in order
abbrev pub seat_names : {E : Type 0} → NamedHall E → List (List ℕ × List ℕ)
seat_names hall = map (λ (names : NamedSeat). (names.input.now, names.output.now)) hall.seats.items

-- it has a seat more, with these names, behind the others
abbrev pub HasSeatMore : {E : Type 0} → NamedHall E → NamedHall E → List ℕ → List ℕ → Type 0
HasSeatMore old new input output = seat_names new ≡ seat_names old ++ (input, output) ∷ []

-- why a hall of names opens no door at a seat, by the names that the outside refuses: where the seat has no names its input is
-- lacking; else the outside refused its input's name or its output's, or memory is wanting
abbrev pub DeniesNames : (List ℕ → Type 0) → Option NamedSeat → Lost → Type 0
DeniesNames refuses None Input = ⊤
DeniesNames refuses None Output = ⊥
DeniesNames refuses None Memory = ⊥
DeniesNames refuses (Some names) Input = refuses names.input.now
DeniesNames refuses (Some names) Output = refuses names.output.now
DeniesNames refuses (Some names) Memory = ⊤
