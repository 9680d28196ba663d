-- A journal: `journal 1 COUNT`, then for each entry `entry N session S edits M` and M lines of
-- edits, N from 1 upwards. A saved journal is a list of blocks: such a journal, under which no
-- delay was scaled, or `journal 2 FIRST COUNT`, `derates EC LC EN LN` and COUNT entries, N from
-- FIRST + 1 upwards, where FIRST counts the entries of the blocks before (own).
use Rattle.std.specs.Prelude.{◌≡◌, MatchResult, ℕ, ◌+◌, ◌-◌, List, [], ◌∷◌, ◌++◌, Bool, true, false, ◌==◌, ◌&&◌, nat_le, length, if◌then◌else◌, codes, Option, Some, None, Result, Ok, Err}
use Rattle.std.specs.List.{list_all}
use Rattle.timing_defs.specs.declared.codes.Code.TheVariants.{JournalBadLine, JournalBadNumber, JournalVersion, JournalOtherDerates}
use Rattle.timing_defs.specs.declared.codes.ReadFault.{ReadFault}
use Rattle.timing_defs.specs.declared.codes.ReadFault.TheVariants.{At, Memory as no_memory}
use Rattle.timing_defs.specs.declared.constraints.Derates.{Derates}
use Rattle.timing_defs.specs.Documents.{no_derates}
use Rattle.timing_defs.specs.declared.edits.Edit.{Edit}
use Rattle.timing_defs.specs.declared.edits.Eco.{Eco}
use Rattle.timing_defs.specs.declared.edits.Entry.{Entry}
use Rattle.eco_journal.specs.declared.stops.Stop.{Stop}
use Rattle.eco_journal.specs.declared.stops.Stop.TheVariants.{Memory, Unfit, Flawed}
use Rattle.eco_journal.specs.declared.entries.EntryHead.{EntryHead}
use Rattle.eco_journal.specs.Lines.{Part, words_of, lines_of}
use Rattle.eco_journal.specs.Words.{text, at, says, is_word, number_of, within}
use Rattle.eco_journal.specs.Stops.{or_flawed}
use Rattle.eco_journal.specs.EditLines.{edit_of}

-- a line of another form, or out of count: named by its first byte
abbrev pub bad_line : {X : Type 0} → ℕ → Result X ReadFault
bad_line at = Err (At JournalBadLine at)

-- a number word that is none or out of its range
abbrev pub bad_number : {X : Type 0} → ℕ → Result X ReadFault
bad_number at = Err (At JournalBadNumber at)

-- why the words of the line at a place give no value
abbrev pub fault_of : ℕ → Stop → ReadFault
fault_of line Memory = no_memory
fault_of line Unfit = At JournalBadLine line
fault_of line (Flawed at) = At JournalBadNumber at

-- what the words of a line gave, with its place
abbrev pub at_line : {X : Type 0} → Part → Result X Stop → Result X ReadFault
at_line line (Ok x) = Ok x
at_line line (Err stop) = Err (fault_of line.at stop)

-- the edit of a line
abbrev pub edit_at : Part → Result Edit ReadFault
edit_at line = at_line line (edit_of false (words_of line))

-- so many words, all graphic, of which the first is this one
abbrev pub is_form : List Part → ℕ → List ℕ → Bool
is_form words count first = length words == count && says words 0 first && list_all is_word words

-- the number at a place, in its range
abbrev pub number_at : List Part → ℕ → ℕ → ℕ → Result ℕ Stop
number_at words k low high = or_flawed (at words k) (within low high (number_of (text words k)))

-- the session of an entry, and how many edits it has
pub record Head : Type 0 where
  pub session : ℕ
  pub edits : ℕ

abbrev pub with_edits : ℕ → Result ℕ Stop → Result Head Stop
with_edits session (Ok edits) = Ok (record { session = session; edits = edits })
with_edits session (Err stop) = Err stop

abbrev pub with_session : List Part → Result ℕ Stop → Result Head Stop
with_session words (Ok session) = with_edits session (number_at words 5 1 1000)
with_session words (Err stop) = Err stop

abbrev pub numbered : ℕ → List Part → Option ℕ → Result Head Stop
numbered next words None = Err (Flawed (at words 1))
numbered next words (Some n) = (if n == next then with_session words (number_at words 3 1 16) else Err Unfit)

-- `entry N session S edits M`
abbrev pub is_head : List Part → Bool
is_head words = is_form words 6 (codes "entry") && says words 2 (codes "session") && says words 4 (codes "edits")

-- the head of the entry of the next number
abbrev pub entry_head : ℕ → List Part → Result Head Stop
entry_head next words = (if is_head words then numbered next words (number_of (text words 1)) else Err Unfit)

abbrev pub head_of : EntryHead → Head
head_of head = record { session = head.session; edits = head.edits }

-- the factors by which no delay is scaled, in millionths
abbrev pub unscaled : Derates
unscaled = no_derates

abbrev pub same_derates : Derates → Derates → Bool
same_derates a b =
    a.early_cell == b.early_cell && a.late_cell == b.late_cell && a.early_net == b.early_net
    && a.late_net == b.late_net

-- a factor in millionths, at most ten
abbrev pub factor_at : List Part → ℕ → Result ℕ Stop
factor_at words k = number_at words k 0 10000000

abbrev pub with_late_net : ℕ → ℕ → ℕ → Result ℕ Stop → Result Derates Stop
with_late_net ec lc en (Ok ln) = Ok (record { early_cell = ec; late_cell = lc; early_net = en; late_net = ln })
with_late_net ec lc en (Err stop) = Err stop

abbrev pub with_early_net : List Part → ℕ → ℕ → Result ℕ Stop → Result Derates Stop
with_early_net words ec lc (Ok en) = with_late_net ec lc en (factor_at words 4)
with_early_net words ec lc (Err stop) = Err stop

abbrev pub with_late_cell : List Part → ℕ → Result ℕ Stop → Result Derates Stop
with_late_cell words ec (Ok lc) = with_early_net words ec lc (factor_at words 3)
with_late_cell words ec (Err stop) = Err stop

abbrev pub with_early_cell : List Part → Result ℕ Stop → Result Derates Stop
with_early_cell words (Ok ec) = with_late_cell words ec (factor_at words 2)
with_early_cell words (Err stop) = Err stop

-- `derates EC LC EN LN`
abbrev pub derates_of : List Part → Result Derates Stop
derates_of words = (if is_form words 5 (codes "derates") then with_early_cell words (factor_at words 1) else Err Unfit)

-- a text: its length, the number before its first entry, whether blocks may follow each other, and
-- the factors that blocks must have
pub record Text : Type 0 where
  pub size : ℕ
  pub first : ℕ
  pub saved : Bool
  pub derates : Derates

-- what may stand next, behind the entries that were read
pub data State : Type 0 where
  -- the head of the only block
  heading : State
  -- the head of a block, or the end
  block : List Entry → State
  -- the factors of the block that begins at `at`; `flaw` is the place of a first number that is none
  factors : (at : ℕ) (flaw : Option ℕ) (count : ℕ) → List Entry → State
  -- the head of the first of so many entries
  entry : (left : ℕ) → List Entry → State
  -- the first of so many edits of an entry, before so many entries
  edit : (left session owed : ℕ) → List Edit → List Entry → State
  -- the end
  ended : List Entry → State

abbrev pub block_left : Text → List Entry → State
block_left t all = (if t.saved then block all else ended all)

abbrev pub entries_left : Text → ℕ → List Entry → State
entries_left t left all = (if left == 0 then block_left t all else entry left all)

abbrev pub with_entry : List Entry → ℕ → List Edit → List Entry
with_entry all session edits = all ++ record { session = session; eco = record { edits = edits } } ∷ []

abbrev pub edits_left : Text → ℕ → ℕ → ℕ → List Edit → List Entry → State
edits_left t left session owed edits all =
    (if owed == 0 then entries_left t left (with_entry all session edits) else edit left session owed edits all)

abbrev pub counted : Part → List Part → ℕ → Result ℕ ReadFault
counted line words k = at_line line (or_flawed (at words k) (number_of (text words k)))

abbrev pub plain_version : Part → List Part → Option ℕ → Result ℕ ReadFault
plain_version line words None = bad_number (at words 1)
plain_version line words (Some version) =
    (if version == 1 then counted line words 2 else Err (At JournalVersion (at words 1)))

abbrev pub plain_form : Part → List Part → Result ℕ ReadFault
plain_form line words =
    (if is_form words 3 (codes "journal") then plain_version line words (number_of (text words 1)) else bad_line line.at)

-- `journal 1 COUNT`, where no other block may stand
abbrev pub plain_head : Part → Result ℕ ReadFault
plain_head line = plain_form line (words_of line)

abbrev pub entries_begun : Text → List Entry → Result ℕ ReadFault → Result State ReadFault
entries_begun t all (Ok count) = Ok (entries_left t count all)
entries_begun t all (Err fault) = Err fault

-- a saved `journal 1 COUNT`: no entries stand before, and no delay is scaled
abbrev pub first_block : Text → List Entry → Part → List Part → Result State ReadFault
first_block t all line words =
    (if length words == 3 && length all == 0
    then
    (if same_derates unscaled t.derates then entries_begun t all (counted line words 2)
    else Err (At JournalOtherDerates line.at))
    else bad_line line.at)

-- the first number word that is none
abbrev pub flawed_first : Option ℕ → ℕ → ℕ
flawed_first None at = at
flawed_first (Some flaw) at = flaw

abbrev pub factors_next : List Entry → Part → Option ℕ → ℕ → Option ℕ → Result State ReadFault
factors_next all line flaw at None = bad_number (flawed_first flaw at)
factors_next all line flaw at (Some count) = Ok (factors line.at flaw count all)

abbrev pub later_first : List Entry → Part → List Part → Option ℕ → Result State ReadFault
later_first all line words None = factors_next all line (Some (at words 2)) (at words 3) (number_of (text words 3))
later_first all line words (Some first) =
    (if first == length all then factors_next all line None (at words 3) (number_of (text words 3))
    else bad_line line.at)

-- `journal 2 FIRST COUNT`, where FIRST counts the entries before
abbrev pub later_block : List Entry → Part → List Part → Result State ReadFault
later_block all line words =
    (if length words == 4 then later_first all line words (number_of (text words 2)) else bad_line line.at)

abbrev pub block_version : Text → List Entry → Part → List Part → Option ℕ → Result State ReadFault
block_version t all line words None = bad_number (at words 1)
block_version t all line words (Some version) =
    (if version == 1 then first_block t all line words else
    (if version == 2 then later_block all line words else Err (At JournalVersion (at words 1))))

-- a line `journal` with a number of its form
abbrev pub is_block : List Part → Bool
is_block words = nat_le 2 (length words) && says words 0 (codes "journal") && list_all is_word words

abbrev pub block_form : Text → List Entry → Part → List Part → Result State ReadFault
block_form t all line words =
    (if is_block words
    then block_version t all line words (number_of (text words 1))
    else bad_line line.at)

-- the head of a block; its form is told by its second word
abbrev pub block_head : Text → List Entry → Part → Result State ReadFault
block_head t all line = block_form t all line (words_of line)

abbrev pub unless_flawed : {X : Type 0} → Option ℕ → Result X ReadFault → Result X ReadFault
unless_flawed None told = told
unless_flawed (Some flaw) told = bad_number flaw

-- the factors of a block; other ones than the text's are a fault of the whole block
abbrev pub factors_read : Text → ℕ → Option ℕ → ℕ → List Entry → Result Derates ReadFault → Result State ReadFault
factors_read t at flaw count all (Ok derates) =
    (if same_derates derates t.derates then unless_flawed flaw (Ok (entries_left t count all))
    else Err (At JournalOtherDerates at))
factors_read t at flaw count all (Err fault) = unless_flawed flaw (Err fault)

abbrev pub edits_begun : Text → ℕ → List Entry → Result Head ReadFault → Result State ReadFault
edits_begun t left all (Ok head) = Ok (edits_left t (left - 1) head.session head.edits [] all)
edits_begun t left all (Err fault) = Err fault

abbrev pub edit_read : Text → ℕ → ℕ → ℕ → List Edit → List Entry → Result Edit ReadFault → Result State ReadFault
edit_read t left session owed edits all (Ok e) = Ok (edits_left t left session (owed - 1) (edits ++ e ∷ []) all)
edit_read t left session owed edits all (Err fault) = Err fault

-- what may stand behind a line, or the line's fault
abbrev pub step : Text → State → Part → Result State ReadFault
step t heading line = entries_begun t [] (plain_head line)
step t (block all) line = block_head t all line
step t (factors at flaw count all) line =
    factors_read t at flaw count all (at_line line (derates_of (words_of line)))
step t (entry left all) line =
    edits_begun t left all (at_line line (entry_head (t.first + length all + 1) (words_of line)))
step t (edit left session owed edits all) line = edit_read t left session owed edits all (edit_at line)
step t (ended all) line = bad_line line.at

-- the text ends here; a line that is missing is named by the text's length
abbrev pub at_end : Text → State → Result (List Entry) ReadFault
at_end t heading = bad_line t.size
at_end t (block all) = Ok all
at_end t (factors at flaw count all) = unless_flawed flaw (bad_line t.size)
at_end t (entry left all) = bad_line t.size
at_end t (edit left session owed edits all) = bad_line t.size
at_end t (ended all) = Ok all

abbrev pub stepped : Text → Result State ReadFault → Part → Result State ReadFault
stepped t (Ok state) line = step t state line
stepped t (Err fault) line = Err fault

abbrev pub finished : Text → Result State ReadFault → Result (List Entry) ReadFault
finished t (Ok state) = at_end t state
finished t (Err fault) = Err fault

-- the entries of lines, or their fault of least place
unfoldable pub entries : Text → Result State ReadFault → List Part → Result (List Entry) ReadFault
entries t told [] = finished t told
entries t told (line ∷ lines) = entries t (stepped t told line) lines

-- a text that is one journal
abbrev pub journal : List ℕ → Text
journal bytes = record { size = length bytes; first = 0; saved = false; derates = unscaled }

abbrev pub entries_of : List ℕ → Result (List Entry) ReadFault
entries_of bytes = entries (journal bytes) (Ok heading) (lines_of bytes)

-- a text that is a list of blocks
abbrev pub saved_journal : List ℕ → Derates → Text
saved_journal bytes derates = record { size = length bytes; first = 0; saved = true; derates = derates }

abbrev pub saved_of : List ℕ → Derates → Result (List Entry) ReadFault
saved_of bytes derates = entries (saved_journal bytes derates) (Ok (block [])) (lines_of bytes)

abbrev pub eco_more : List Edit → Result Edit ReadFault → Result (List Edit) ReadFault
eco_more edits (Ok e) = Ok (edits ++ e ∷ [])
eco_more edits (Err fault) = Err fault

-- one edit more, of at most 1,000
abbrev pub eco_step : Result (List Edit) ReadFault → Part → Result (List Edit) ReadFault
eco_step (Ok edits) line = (if length edits == 1000 then bad_line line.at else eco_more edits (edit_at line))
eco_step (Err fault) line = Err fault

unfoldable pub eco_edits : Result (List Edit) ReadFault → List Part → Result (List Edit) ReadFault
eco_edits told [] = told
eco_edits told (line ∷ lines) = eco_edits (eco_step told line) lines

abbrev pub eco_whole : ℕ → Result (List Edit) ReadFault → Result Eco ReadFault
eco_whole size (Ok []) = bad_line size
eco_whole size (Ok (e ∷ es)) = Ok (record { edits = e ∷ es })
eco_whole size (Err fault) = Err fault

-- the edits of a text of edit lines alone, from 1 to 1,000
abbrev pub eco_of : List ℕ → Result Eco ReadFault
eco_of bytes = eco_whole (length bytes) (eco_edits (Ok []) (lines_of bytes))

-- a call failed as the definition says; nothing is said for want of memory
abbrev pub Fails : {X : Type 0} → ReadFault → Result X ReadFault → Type 0
Fails no_memory defined = Unit {0}
Fails (At code offset) defined = defined ≡ Err (At code offset)

-- a call gave what the definition says
abbrev pub Tells : {X : Type 0} → Result X ReadFault → Result X ReadFault → Type 0
Tells result defined = MatchResult result (λ x. defined ≡ Ok x) (λ fault. Fails fault defined)
