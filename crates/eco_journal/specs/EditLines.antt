-- The edits of a design as lines of words: a verb and its names (engineering change orders; own).
use Rattle.std.specs.Prelude.{ℕ, List, Bool, ◌==◌, ◌&&◌, nat_le, length, drop, map, if◌then◌else◌, codes, Some, None, Result, Ok, Err}
use Rattle.std.specs.List.{list_all}
use Rattle.timing_defs.specs.Names.{is_name}
use Rattle.timing_defs.specs.declared.edits.Edit.{Edit}
use Rattle.timing_defs.specs.declared.edits.Edit.TheVariants.{Repower, InsertGate, RemoveGate, InsertNet, RemoveNet, Connect, Disconnect, InsertBuffer, SetParasitics}
use Rattle.timing_defs.specs.declared.parasitics.NetRc.{NetRc}
use Rattle.eco_journal.specs.declared.stops.Stop.{Stop}
use Rattle.eco_journal.specs.declared.stops.Stop.TheVariants.{Unfit}
use Rattle.eco_journal.specs.Lines.{Part}
use Rattle.eco_journal.specs.Words.{text, says, is_word}
use Rattle.eco_journal.specs.Stops.{then_make}
use Rattle.eco_journal.specs.Items.{rc_of}

-- a name stands at a place
abbrev pub names : List Part → ℕ → Bool
names words k = is_name (text words k)

-- the one name behind a verb
abbrev pub one_name : List Part → Result (List ℕ) Stop
one_name words = (if length words == 2 && names words 1 then Ok (text words 1) else Err Unfit)

-- the two names behind a verb
abbrev pub two_names : List Part → Result (List ℕ × List ℕ) Stop
two_names words =
    (if length words == 3 && names words 1 && names words 2 then Ok (text words 1, text words 2) else Err Unfit)

abbrev pub pair_of : (List ℕ → List ℕ → Edit) → List ℕ × List ℕ → Edit
pair_of make pair = make pair.0 pair.1

-- the words as names
abbrev pub texts_of : List Part → List (List ℕ)
texts_of words = map (λ (w : Part). w.text) words

-- `insert_buffer N I M C` and one sink or more
abbrev pub buffer : List Part → Result Edit Stop
buffer words =
    (if nat_le 6 (length words) && names words 1 && names words 2 && names words 3 && names words 4
    && list_all is_word (drop 5 words)
    then Ok (InsertBuffer (text words 1) (text words 2) (text words 3) (text words 4) (texts_of (drop 5 words)))
    else Err Unfit)

-- `none` stands for the items
abbrev pub is_dropped : List Part → Bool
is_dropped words = length words == 3 && says words 2 (codes "none")

abbrev pub replaced : List ℕ → NetRc → Edit
replaced net rc = SetParasitics net (Some rc)

-- `set_parasitics N none`, or `set_parasitics N` and at least one item
abbrev pub parasitics : Bool → List Part → Result Edit Stop
parasitics mixed words =
    (if nat_le 3 (length words) && names words 1
    then
    (if is_dropped words then Ok (SetParasitics (text words 1) None)
    else then_make (replaced (text words 1)) (rc_of mixed (text words 1) (drop 2 words)))
    else Err Unfit)

-- the edit that the words of a line write; the items of parasitics may be mixed, or not
unfoldable pub edit_of : Bool → List Part → Result Edit Stop
edit_of mixed words =
    (if says words 0 (codes "repower_gate") then then_make (pair_of Repower) (two_names words) else
    (if says words 0 (codes "insert_gate") then then_make (pair_of InsertGate) (two_names words) else
    (if says words 0 (codes "remove_gate") then then_make RemoveGate (one_name words) else
    (if says words 0 (codes "insert_net") then then_make InsertNet (one_name words) else
    (if says words 0 (codes "remove_net") then then_make RemoveNet (one_name words) else
    (if says words 0 (codes "connect_pin") then then_make (pair_of Connect) (two_names words) else
    (if says words 0 (codes "disconnect_pin") then then_make Disconnect (one_name words) else
    (if says words 0 (codes "insert_buffer") then buffer words else
    (if says words 0 (codes "set_parasitics") then parasitics mixed words else Err Unfit)))))))))
