-- The deeds that a door marks: what was done, beside the bytes that it was done with.
use Rattle.std.specs.Prelude.{◌≡◌, ℕ, List, [], ◌∷◌, ◌++◌, map, take}
use Rattle.std.specs.Io.KnownBytes.{Appends}
use Rattle.std.specs.declared.option.Option.{Option}
use Rattle.std.specs.declared.option.Option.TheVariants.{None, Some}
use Rattle.std.specs.Global.{Vec}
use Rattle.sta_outside.specs.Sink.{AppendsPrefix}
use Rattle.live_doors.specs.Doors.{Deed, heard, kept, said}
use Rattle.live_doors.specs.declared.append_sink.AppendSink.{AppendSink}
use Rattle.live_doors.specs.declared.history.History.{History}
use Rattle.live_doors.specs.declared.mark.Mark.{Mark}
use Rattle.live_doors.specs.declared.mark.Mark.TheVariants.{Heard, Kept, Said, Cut}
use Rattle.live_doors.specs.declared.open_door.OpenDoor.{OpenDoor}
use Rattle.live_doors.specs.Streams.{given}

-- the deed that a mark stands for
abbrev pub marked : Mark × Vec ℕ → Deed
marked (Heard, bytes) = heard bytes.items
marked (Kept number, bytes) = kept number
marked (Said, bytes) = said bytes.items
marked (Cut count, bytes) = said (take count bytes.items)

-- the deeds of a history, in order
abbrev pub deeds : History → List Deed
deeds h = map marked h.log.items

-- a deed more was done
abbrev pub IsDone : History → History → Deed → Type 0
IsDone old new deed = deeds new ≡ deeds old ++ deed ∷ []

-- an output that tells its bytes in this way was given more, where they are known
abbrev pub IsGiven : {W : Type 0} → (W → Option (List ℕ)) → W → W → List ℕ → Type 0
IsGiven contents old new bytes = Appends (contents old) (contents new) bytes

-- or so many bytes of a piece
abbrev pub IsGivenPart : {W : Type 0} → (W → Option (List ℕ)) → W → W → List ℕ → ℕ → Type 0
IsGivenPart contents old new piece count = IsGiven contents old new (take count piece)

module _ {B W : Type 0} where
  -- the deeds of a door over an input and an output
  abbrev pub told : OpenDoor B W → Option (List Deed)
  told door = Some (deeds door.history)

  -- its lines to come are not told
  abbrev pub untold : OpenDoor B W → Option (List (List ℕ))
  untold door = None

  -- its output was given bytes more, where they are known
  abbrev pub Writes : (W → Option (List ℕ)) → OpenDoor B W → OpenDoor B W → List ℕ → Type 0
  Writes contents old new bytes = IsGiven (given contents) old.streams new.streams bytes

  -- of a piece the first bytes were said, and the output was given these, where its bytes are known
  abbrev pub IsCut : (W → Option (List ℕ)) → OpenDoor B W → OpenDoor B W → List ℕ → Type 0
  IsCut contents old new piece =
      (n : ℕ) × IsDone old.history new.history (said (take n piece)) × Writes contents old new (take n piece)

-- the bytes that were put, each marked beside itself
abbrev pub put_bytes : List (ℕ × ℕ) → List ℕ
put_bytes marks = map (λ mark. mark.0) marks

module _ {F : Type 0} where
  -- the bytes that a sink tells
  abbrev pub told_bytes : AppendSink F → List ℕ
  told_bytes sink = put_bytes sink.told.items

  -- they grow by these
  abbrev pub HasPut : AppendSink F → AppendSink F → List ℕ → Type 0
  HasPut old new bytes = told_bytes new ≡ told_bytes old ++ bytes

  -- or by a prefix of these
  abbrev pub HasPutPart : AppendSink F → AppendSink F → List ℕ → Type 0
  HasPutPart old new bytes = AppendsPrefix (Some (told_bytes old)) (Some (told_bytes new)) bytes

  -- they grow by those that its file was given, where the file's bytes are known
  abbrev pub IsPut : (F → Option (List ℕ)) → AppendSink F → AppendSink F → Type 0
  IsPut contents old new = (more : List ℕ) × HasPut old new more × IsGiven contents old.file new.file more
