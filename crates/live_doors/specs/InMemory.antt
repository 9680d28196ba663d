-- Doors in memory: the lines that are left, the deeds as they are recorded, and faults that are planned by the numbers of
-- calls, counted from 1.
use Rattle.std.specs.Prelude.{◌≡◌, ℕ, ◌==◌, List, [], ◌∷◌, ◌++◌, Bool, true, false, cond, map}
use Rattle.std.specs.List.{list_any}
use Rattle.std.specs.Global.{Vec}
use Rattle.std.specs.declared.option.Option.{Option}
use Rattle.std.specs.declared.result.Result.{Result}
use Rattle.std.specs.declared.result.Result.TheVariants.{Ok, Err}
use Rattle.sta_outside.specs.Shelf.{raised}
use Rattle.live_doors.specs.Doors.{Deed, heard, kept, said, HasCause}
use Rattle.live_doors.specs.Lines.{kept_line}
use Rattle.live_doors.specs.declared.door.Lost.{Lost}
use Rattle.live_doors.specs.declared.door.Lost.TheVariants.{Input, Output, Memory}
use Rattle.live_doors.specs.declared.plan.Plan.{Plan}
use Rattle.live_doors.specs.declared.record.Done.{Done}
use Rattle.live_doors.specs.declared.record.Done.TheVariants.{Heard, Kept, Said}

-- the deed that was done
abbrev pub done_deed : Done → Deed
done_deed (Heard line) = heard line.items
done_deed (Kept number) = kept number
done_deed (Said piece) = said piece.items

-- a deed more is recorded
abbrev pub IsRecorded : Vec Done → Vec Done → Deed → Type 0
IsRecorded old new deed = map done_deed new.items ≡ map done_deed old.items ++ deed ∷ []

-- what is kept of each line
abbrev pub kept_lines : List (Vec ℕ) → List (List ℕ)
kept_lines lines = map (λ line. kept_line line.items) lines

-- whether the next call is one that fails
abbrev pub next_fails : Plan → Bool
next_fails p = list_any (λ n. n == raised p.calls) p.fails.items

-- the plan after the next call
abbrev pub after_call : Plan → Plan
after_call p = record { fails = p.fails; calls = raised p.calls; faults = cond (next_fails p) (raised p.faults) p.faults }

-- which answer a call to hear gives, where it fails by the plan or not: else only want of memory stops it
abbrev pub HearsBy : Bool → Result (Option (Vec ℕ)) Lost → Type 0
HearsBy fails (Ok got) = fails ≡ false
HearsBy fails (Err Input) = fails ≡ true
HearsBy fails (Err Output) = ⊥
HearsBy fails (Err Memory) = fails ≡ false

-- why a call to hear heard no line, by the plan before and after it
abbrev pub HasPlannedCause : Lost → Plan → Plan → Type 0
HasPlannedCause lost old new = HasCause lost old.faults new.faults
