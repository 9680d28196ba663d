-- The steps of a journal over plain values, and calls that hand an answer on.
use Rattle.std.proofs.Common.{◌≡◌, ℕ, ◌+◌, ◌-◌, ◌<◌, List, [], ◌∷◌, length, refl, arith}
use Rattle.std.specs.Prelude.{◌==◌, true, false, Option, Result, Ok, Err, MatchResult}
use Rattle.timing_defs.specs.declared.codes.ReadFault.{ReadFault}
use Rattle.timing_defs.specs.declared.codes.ReadFault.TheVariants.{At, Memory}
use Rattle.timing_defs.specs.declared.edits.Edit.{Edit}
use Rattle.timing_defs.specs.declared.edits.Entry.{Entry}
use Rattle.eco_journal.specs.Lines.{Part, words_of}
use Rattle.eco_journal.specs.Journal.{factors, factors_read, derates_of, block, block_head, block_left, Text, State, Head, heading, entry, edit, entries, entries_left, edits_left, at_line, entry_head, plain_head, eco_edits, Fails, Tells}

-- behind a fault no line counts
pub stopped : (t : Text) (fault : ReadFault) (lines : List Part) → entries t (Err fault) lines ≡ Err fault
unfolding entries
stopped t fault [] = refl
stopped t fault (line ∷ lines) = stopped t fault lines

pub eco_stopped : (fault : ReadFault) (lines : List Part) → eco_edits (Err fault) lines ≡ Err fault
unfolding eco_edits
eco_stopped fault [] = refl
eco_stopped fault (line ∷ lines) = eco_stopped fault lines

-- a fault of the same definition
pub fails_same : {X : Type 0} (fault : ReadFault) (d d' : Result X ReadFault) → d' ≡ d → Fails fault d → Fails fault d'
fails_same fault d d' same fails = rw same fails

-- an answer for the same definition
pub tells_same : {X : Type 0} (r d d' : Result X ReadFault) → d' ≡ d → Tells r d → Tells r d'
tells_same r d d' same tells = rw same tells

-- an answer that stands for a value of the same definition
pub stands_same : {H X : Type 0} (r : Result H ReadFault) (f : H → X) (d d' : Result X ReadFault) → d' ≡ d
    → MatchResult r (λ h. d ≡ Ok (f h)) (λ fault. Fails fault d) → MatchResult r (λ h. d' ≡ Ok (f h)) (λ fault. Fails fault d')
stands_same r f d d' same stands = rw same stands

-- each side of an answer hands on what it says
pub hands_on : {H : Type 0} (r : Result H ReadFault) (P Q : H → Type 0) (R S : ReadFault → Type 0)
    → ((h : H) → P h → Q h) → ((fault : ReadFault) → R fault → S fault) → MatchResult r P R → MatchResult r Q S
hands_on (Ok h) P Q R S good bad told = good h told
hands_on (Err fault) P Q R S good bad told = bad fault told

-- the fault of a line is that of the lines from it on
pub line_fails : (t : Text) (fault : ReadFault) (told : Result State ReadFault) (lines : List Part)
    → Fails fault told → Fails fault (entries t told lines)
line_fails t Memory told lines fails = tt
line_fails t (At code offset) told lines fails = rw fails (stopped t (At code offset) lines)

-- where edits are to come, one of them stands next
pub some_edit : (t : Text) (left session due : ℕ) (edits : List Edit) (all : List Entry) → 0 < due
    → edits_left t left session due edits all ≡ edit left session due edits all
some_edit t left session due edits all some = let no : (due == 0) ≡ false = grind arith in rw no refl

-- where entries are to come, the head of one stands next
pub some_entry : (t : Text) (left : ℕ) (all : List Entry) → 0 < left → entries_left t left all ≡ entry left all
some_entry t left all some = let no : (left == 0) ≡ false = grind arith in rw no refl

-- the head of an entry
pub head_step : (t : Text) (left next : ℕ) (all : List Entry) (line : Part) (lines : List Part) (head : Head)
    → t.first + length all + 1 ≡ next → at_line line (entry_head next (words_of line)) ≡ Ok head
    → entries t (Ok (entry left all)) (line ∷ lines) ≡ entries t (Ok (edits_left t (left - 1) head.session head.edits [] all)) lines
unfolding entries
head_step t left next all line lines head same read = rw (same, read) refl

-- the head of a journal
pub heading_step : (t : Text) (line : Part) (lines : List Part) (count : ℕ) → plain_head line ≡ Ok count
    → entries t (Ok heading) (line ∷ lines) ≡ entries t (Ok (entries_left t count [])) lines
unfolding entries
heading_step t line lines count read = rw read refl

pub heading_fails : (t : Text) (line : Part) (lines : List Part) (fault : ReadFault) → Fails fault (plain_head line)
    → Fails fault (entries t (Ok heading) (line ∷ lines))
unfolding entries
heading_fails t line lines Memory fails = tt
heading_fails t line lines (At code offset) fails = rw fails (stopped t (At code offset) lines)

-- the line of a block's factors
pub factors_step : (t : Text) (place : ℕ) (flaw : Option ℕ) (count : ℕ) (all : List Entry) (line : Part) (lines : List Part)
    → entries t (Ok (factors place flaw count all)) (line ∷ lines)
    ≡ entries t (factors_read t place flaw count all (at_line line (derates_of (words_of line)))) lines
unfolding entries
factors_step t place flaw count all line lines = refl

-- the first line of a block
pub block_step : (t : Text) (all : List Entry) (line : Part) (lines : List Part)
    → entries t (Ok (block all)) (line ∷ lines) ≡ entries t (block_head t all line) lines
unfolding entries
block_step t all line lines = refl

-- where blocks may follow each other, one may stand behind the entries
pub saved_left : (t : Text) (all : List Entry) → t.saved ≡ true → block_left t all ≡ block all
saved_left t all saved = rw saved refl
