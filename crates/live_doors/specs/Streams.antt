-- The input and the output of a door: what comes in at it and what went out, where their bytes are known. Of a door that is closed nothing is known.
use Rattle.std.specs.Prelude.{ℕ, List}
use Rattle.std.specs.declared.option.Option.{Option}
use Rattle.std.specs.declared.option.Option.TheVariants.{None, Some}
use Rattle.live_doors.specs.declared.open_door.Streams.{Streams}

abbrev pub coming : {B W : Type 0} → (B → Option (List ℕ)) → Option (Streams B W) → Option (List ℕ)
coming remaining None = None
coming remaining (Some streams) = remaining streams.input

abbrev pub given : {B W : Type 0} → (W → Option (List ℕ)) → Option (Streams B W) → Option (List ℕ)
given contents None = None
given contents (Some streams) = contents streams.output
