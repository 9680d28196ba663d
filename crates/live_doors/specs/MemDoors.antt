-- What a door in memory tells.
use Rattle.std.specs.Prelude.{ℕ, ◌/◌, List, cond, drop, length, take}
use Rattle.std.specs.declared.option.Option.{Option}
use Rattle.std.specs.declared.option.Option.TheVariants.{Some}
use Rattle.live_doors.specs.Doors.{Deed}
use Rattle.live_doors.specs.InMemory.{kept_lines, next_fails}
use Rattle.live_doors.specs.Marks.{deeds}
use Rattle.live_doors.specs.declared.mem_door.MemDoor.{MemDoor}

-- the lines that are to come at it
abbrev pub lines_left : MemDoor → List (List ℕ)
lines_left door = kept_lines (drop door.next door.lines.items)

-- the same as it tells them
abbrev pub coming : MemDoor → Option (List (List ℕ))
coming door = Some (lines_left door)

-- the deeds that it tells
abbrev pub told : MemDoor → Option (List Deed)
told door = Some (deeds door.account.history)

-- what it says of a piece: half of it where its next call fails
abbrev pub said_by : MemDoor → List ℕ → List ℕ
said_by door piece = cond (next_fails door.plan) (take (length piece / 2) piece) piece
