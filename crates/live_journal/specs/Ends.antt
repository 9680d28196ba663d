-- How a saved journal ends that more blocks may stand behind, and one that was torn there.
use Rattle.std.specs.Prelude.{ℕ, ◌≡◌, List, [], ◌∷◌, ◌++◌, Bool, true, ◌==◌, length, take, if◌then◌else◌, Result, Ok, Err}
use Rattle.timing_defs.specs.declared.codes.Code.TheVariants.{JournalBadLine}
use Rattle.timing_defs.specs.declared.codes.ReadFault.{ReadFault}
use Rattle.timing_defs.specs.declared.codes.ReadFault.TheVariants.{At}
use Rattle.timing_defs.specs.declared.constraints.Derates.{Derates}
use Rattle.timing_defs.specs.declared.edits.Entry.{Entry}
use Rattle.eco_journal.specs.Blocks.{blocks_text}
use Rattle.live_journal.specs.Desk.{single}

-- a text is empty, or its last byte is a line feed (10)
abbrev pub ends_whole : List ℕ → Bool
ends_whole [] = true
ends_whole (b ∷ []) = b == 10
ends_whole (b ∷ c ∷ bs) = ends_whole (c ∷ bs)

-- a saved journal whose last line lacks its line feed may be torn there: the fault `J1` at its length
abbrev pub end_of : List ℕ → Result Unit ReadFault
end_of bytes = (if ends_whole bytes then Ok tt else Err (At JournalBadLine (length bytes)))

-- what is read of a saved journal behind which a beginning of blocks of one entry each stands: the saved entries and those of whole
-- blocks, which are all that stands there, or else the fault `J1` at the journal's length
abbrev pub ReadsFirst : Derates → List Entry → List Entry → List ℕ → ℕ → Result (List Entry) ReadFault → Type 0
ReadsFirst d saved entries torn size (Ok all) =
    (n : ℕ) × (all ≡ saved ++ take n entries) × (torn ≡ blocks_text d (length saved) (single (take n entries)))
ReadsFirst d saved entries torn size (Err fault) = fault ≡ At JournalBadLine size
