-- What holds of journal files of blocks of one entry each, for any lists and texts.
use Rattle.std.specs.Prelude.{ℕ, ◌≡◌, ◌+◌, ◌-◌, ◌^◌, ◌<◌, ◌≤◌, Bool, true, false, List, ◌++◌, length, drop, Ok}
use Rattle.std.specs.declared.option.Option.{Option}
use mathlib.Core.List.{IsPrefix}
use Rattle.timing_defs.specs.declared.constraints.Derates.{Derates}
use Rattle.timing_defs.specs.declared.design.Design.{Design}
use Rattle.timing_defs.specs.declared.edits.Entry.{Entry}
use Rattle.sta_outside.specs.Sink.{Appends, AppendsPrefix}
use Rattle.eco_journal.specs.Written.{AreEntries}
use Rattle.eco_journal.specs.Journal.{saved_of}
use Rattle.eco_journal.specs.Blocks.{blocks_text, all_entries, AreFactors, AreLawful}
use Rattle.live_journal.specs.Desk.{single, Setting, Keeping, IsDesk, HasFile}
use Rattle.live_journal.specs.Ends.{ends_whole, ReadsFirst}

-- a file that has the first entries of what was seen has the first entries of each list that goes on behind that
abbrev pub GoesOn : Type 0
GoesOn =
    (old new : Option (List ℕ)) (d : Derates) (first : ℕ) (seen all : List Entry) (n : ℕ) (sound : Bool)
    → n ≤ length seen → IsPrefix seen all
    → HasFile old new d first seen n sound → HasFile old new d first all n sound

-- what was put is a beginning of the list's blocks
abbrev pub Begins : Type 0
Begins =
    (old new : Option (List ℕ)) (d : Derates) (first : ℕ) (all : List Entry) (n : ℕ) (sound : Bool)
    → n ≤ length all
    → HasFile old new d first all n sound → AppendsPrefix old new (blocks_text d first (single all))

-- once the board was closed, the file of its desk has the first entries of the closed list, up to the number that was kept
abbrev pub Closes : Type 0
Closes =
    (s : Setting Design) (d : Keeping Entry Design) (all : List Entry)
    → IsDesk (λ derates from es. blocks_text derates from (single es)) s d → IsPrefix d.seat.view.seen all
    → HasFile s.before d.file s.derates s.first all (d.kept - s.first) d.sound × (d.kept - s.first ≤ length all)

-- a put of the other entries gives the file all of them
abbrev pub Completes : Type 0
Completes =
    (old file new : Option (List ℕ)) (d : Derates) (first : ℕ) (all : List Entry) (n : ℕ)
    → n ≤ length all → HasFile old file d first all n true
    → Appends file new (blocks_text d (first + n) (single (drop n all))) → HasFile old new d first all (length all) true

-- and one that failed a prefix of them
abbrev pub Tears : Type 0
Tears =
    (old file new : Option (List ℕ)) (d : Derates) (first : ℕ) (all : List Entry) (n : ℕ)
    → HasFile old file d first all n true
    → AppendsPrefix file new (blocks_text d (first + n) (single (drop n all))) → HasFile old new d first all n false

-- behind a saved journal that is empty or ends in a line feed, blocks that number their entries behind the saved ones are read as
-- all of their entries
abbrev pub ReadsBlocks : Type 0
ReadsBlocks =
    (d : Derates) (old : List ℕ) (saved : List Entry) (blocks : List (List Entry))
    → ends_whole old ≡ true → saved_of old d ≡ Ok saved
    → length saved + length (all_entries blocks) < 2 ^ 64 → AreFactors d → AreLawful blocks
    → saved_of (old ++ blocks_text d (length saved) blocks) d ≡ Ok (saved ++ all_entries blocks)

-- so are blocks of one entry each
abbrev pub ReadsSingle : Type 0
ReadsSingle =
    (d : Derates) (old : List ℕ) (saved entries : List Entry)
    → ends_whole old ≡ true → saved_of old d ≡ Ok saved
    → length saved + length entries < 2 ^ 64 → AreFactors d → AreEntries entries
    → saved_of (old ++ blocks_text d (length saved) (single entries)) d ≡ Ok (saved ++ entries)

-- of a beginning of these that ends in a line feed, whole blocks are read, or it is refused
abbrev pub ReadsTorn : Type 0
ReadsTorn =
    (d : Derates) (old torn : List ℕ) (saved entries : List Entry)
    → ends_whole old ≡ true → saved_of old d ≡ Ok saved
    → length saved + length entries < 2 ^ 64 → AreFactors d → AreEntries entries
    → IsPrefix torn (blocks_text d (length saved) (single entries)) → ends_whole torn ≡ true
    → ReadsFirst d saved entries torn (length (old ++ torn)) (saved_of (old ++ torn) d)
