-- The lines of an input: each ends at a line feed, or with the input.
use Rattle.std.specs.Prelude.{◌≡◌, ◌≢◌, ℕ, List, [], ◌∷◌, ◌++◌, ◌==◌, if◌then◌else◌, All, option_map, take, vec_items, ⊤}
use Rattle.std.specs.Io.BufRead.{drop_through}
use Rattle.std.specs.Io.KnownBytes.{Consumes, IsAtEnd}
use Rattle.std.specs.Global.{Vec}
use Rattle.std.specs.declared.option.Option.{Option}
use Rattle.std.specs.declared.option.Option.TheVariants.{None, Some}
use Rattle.live_doors.specs.declared.lines.Behind.{Behind}
use Rattle.live_doors.specs.declared.lines.Behind.TheVariants.{More, LineEnd, InputEnd}

-- how many bytes of a line are kept: one more than a line may have
abbrev pub kept_length : ℕ
kept_length = 65537

-- what is kept of a line
abbrev pub kept_line : List ℕ → List ℕ
kept_line line = take kept_length line

-- the bytes before the first line feed, or all of them
abbrev pub first_line : List ℕ → List ℕ
first_line [] = []
first_line (byte ∷ bytes) = if byte == 10 then [] else byte ∷ first_line bytes

-- what is read of the bytes that an input has left: what is kept of its first line, or none where it has no byte; the bytes
-- behind that line's end are left
abbrev pub IsNextLine : List ℕ → List ℕ → Option (List ℕ) → Type 0
IsNextLine [] left got = (got ≡ None) × (left ≡ [])
IsNextLine (byte ∷ bytes) left got = (got ≡ Some (kept_line (first_line (byte ∷ bytes)))) × (left ≡ drop_through 10 (byte ∷ bytes))

-- the same of an input whose bytes may be known
abbrev pub ReadsLine : Option (List ℕ) → Option (List ℕ) → Option (List ℕ) → Type 0
ReadsLine None left got = ⊤
ReadsLine (Some bytes) None got = ⊥
ReadsLine (Some bytes) (Some left) got = IsNextLine bytes left got

-- a line is read from an input that tells its bytes in this way, where they are known
abbrev pub TakesLine : {B : Type 0} → (B → Option (List ℕ)) → B → B → Option (Vec ℕ) → Type 0
TakesLine remaining old new got = ReadsLine (remaining old) (remaining new) (option_map vec_items got)

-- some bytes of a line are read and kept as far as they fit, with what ends it
abbrev pub ReadsPart : Option (List ℕ) → Option (List ℕ) → List ℕ → List ℕ → List ℕ → Type 0
ReadsPart old new before after end =
    (part : List ℕ) × All (λ byte. byte ≢ 10) part × Consumes old new (part ++ end) × (after ≡ kept_line (before ++ part))

-- the line goes on or ends, or the input is at its end and nothing is read
abbrev pub Reads : Option (List ℕ) → Option (List ℕ) → List ℕ → List ℕ → Behind → Type 0
Reads old new before after More = ReadsPart old new before after []
Reads old new before after LineEnd = ReadsPart old new before after (10 ∷ [])
Reads old new before after InputEnd = Consumes old new [] × IsAtEnd old × (after ≡ before)

-- the same of an input that tells its bytes in this way
abbrev pub ReadsOn : {B : Type 0} → (B → Option (List ℕ)) → B → B → Vec ℕ → Vec ℕ → Behind → Type 0
ReadsOn remaining old new before after end = Reads (remaining old) (remaining new) before.items after.items end
