-- One block of a saved journal by itself: `journal 2 FIRST COUNT`, `derates EC LC EN LN` and COUNT
-- entries, numbered from FIRST + 1 (own).
use Rattle.std.specs.Prelude.{◌≤◌, ℕ, ◌+◌, List, [], ◌∷◌, ◌++◌, Bool, false, ◌==◌, ◌&&◌, length, if◌then◌else◌, codes, Option, Some, None, Result, Ok, Err}
use Rattle.timing_defs.specs.declared.codes.ReadFault.{ReadFault}
use Rattle.timing_defs.specs.declared.constraints.Derates.{Derates}
use Rattle.timing_defs.specs.declared.edits.Entry.{Entry}
use Rattle.eco_journal.specs.declared.stops.Stop.{Stop}
use Rattle.eco_journal.specs.Lines.{Part, words_of, lines_of}
use Rattle.eco_journal.specs.Words.{text, number_of}
use Rattle.timing_defs.specs.Saved.{block_text}
use Rattle.eco_journal.specs.Written.{AreEntries}
use Rattle.eco_journal.specs.Journal.{Text, is_form, derates_of, entries, entries_left}

-- the number before the block's first entry, the factors in millionths, and the entries
pub record Block : Type 0 where
  pub first : ℕ
  pub derates : Derates
  pub entries : List Entry

abbrev pub with_entries : ℕ → Derates → Result (List Entry) ReadFault → Option Block
with_entries first derates (Ok all) = Some (record { first = first; derates = derates; entries = all })
with_entries first derates (Err fault) = None

-- a text of one block, by its length, its first number and its factors
abbrev pub block_text_of : ℕ → ℕ → Derates → Text
block_text_of size first derates = record { size = size; first = first; saved = false; derates = derates }

abbrev pub with_factors : ℕ → ℕ → ℕ → List Part → Result Derates Stop → Option Block
with_factors size first count lines (Ok derates) =
    with_entries first derates
    (entries (block_text_of size first derates) (Ok (entries_left (block_text_of size first derates) count [])) lines)
with_factors size first count lines (Err stop) = None

abbrev pub with_counts : ℕ → Part → List Part → Option ℕ → Option ℕ → Option Block
with_counts size factors lines None count = None
with_counts size factors lines (Some first) None = None
with_counts size factors lines (Some first) (Some count) = with_factors size first count lines (derates_of (words_of factors))

abbrev pub is_number : ℕ → Option ℕ → Bool
is_number n None = false
is_number n (Some found) = found == n

-- the block whose first line has these words
abbrev pub block_of_words : ℕ → List Part → Part → List Part → Option Block
block_of_words size words factors lines =
    (if is_form words 4 (codes "journal") && is_number 2 (number_of (text words 1))
    then with_counts size factors lines (number_of (text words 2)) (number_of (text words 3))
    else None)

abbrev pub block_of_lines : ℕ → List Part → Option Block
block_of_lines size [] = None
block_of_lines size (head ∷ []) = None
block_of_lines size (head ∷ factors ∷ lines) = block_of_words size (words_of head) factors lines

-- the three parts of a text that is one block, or none
abbrev pub block_of : List ℕ → Option Block
block_of bytes = block_of_lines (length bytes) (lines_of bytes)

-- each factor is at most ten
abbrev pub AreFactors : Derates → Type 0
AreFactors d = (d.early_cell ≤ 10000000) × (d.late_cell ≤ 10000000) × (d.early_net ≤ 10000000) × (d.late_net ≤ 10000000)

-- blocks of the same factors, one behind another, where so many entries stand before
abbrev pub blocks_text : Derates → ℕ → List (List Entry) → List ℕ
blocks_text derates first [] = []
blocks_text derates first (es ∷ blocks) = block_text first derates es ++ blocks_text derates (first + length es) blocks

-- the entries of blocks, in order
abbrev pub all_entries : List (List Entry) → List Entry
all_entries [] = []
all_entries (es ∷ blocks) = es ++ all_entries blocks

abbrev pub AreLawful : List (List Entry) → Type 0
AreLawful [] = Unit {0}
AreLawful (es ∷ blocks) = AreEntries es × AreLawful blocks
