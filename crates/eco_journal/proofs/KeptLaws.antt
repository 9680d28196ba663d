-- What is read is as engines ask of ECOs.
use Rattle.std.proofs.Common.{◌≡◌, ℕ, ◌+◌, ◌-◌, ◌≤◌, Bool, true, false, List, [], ◌∷◌, ◌++◌, length, refl, subst, arith, length-append}
use Rattle.std.specs.Prelude.{Option, Some, None, Result, Ok, Err, IfOk, ℤ, pos, negsuc, int_le, nat_le, ◌==◌, ◌&&◌}
use Rattle.std.specs.List.{list_all}
use Rattle.std.specs.Option.{option_map_or}
use Rattle.std.proofs.lemmas.Bool.{cond_both, and_parts, and_from, leb-true, le-leb}
use Rattle.std.proofs.lemmas.Bool.Decides.{nat_tests}
use Rattle.std.proofs.lemmas.Slice.Eq.{bytes_eq-Decides}
use Rattle.std.proofs.lemmas.List.Folds.{list_all-append}
use Rattle.sta_units.specs.Numbers.{is_within}
use Rattle.timing_defs.specs.declared.codes.ReadFault.{ReadFault}
use Rattle.timing_defs.specs.declared.constraints.Derates.{Derates}
use Rattle.timing_defs.specs.declared.parasitics.RcCap.{RcCap}
use Rattle.timing_defs.specs.declared.parasitics.RcRes.{RcRes}
use Rattle.timing_defs.specs.declared.parasitics.NetRc.{NetRc}
use Rattle.timing_defs.specs.declared.edits.Edit.{Edit}
use Rattle.timing_defs.specs.declared.edits.Edit.TheVariants.{SetParasitics}
use Rattle.timing_defs.specs.declared.edits.Eco.{Eco}
use Rattle.timing_defs.specs.declared.edits.Entry.{Entry}
use Rattle.timing_defs.specs.Documents.{is_amount, is_rc_for, is_edit, is_eco}
use Rattle.eco_journal.specs.declared.stops.Stop.{Stop}
use Rattle.eco_journal.specs.Lines.{Part, words_of, lines_of}
use Rattle.eco_journal.specs.Words.{text, at, number_of, within}
use Rattle.eco_journal.specs.Stops.{or_flawed}
use Rattle.eco_journal.specs.EditLines.{edit_of}
use Rattle.eco_journal.specs.Journal.{Text, State, heading, block, factors, entry, edit, ended, Head, is_head, is_block, number_at, with_edits, with_session, numbered, entry_head, same_derates, unscaled, derates_of, block_left, entries_left, with_entry, edits_left, counted, plain_head, entries_begun, first_block, factors_next, later_first, later_block, block_version, block_form, unless_flawed, factors_read, edits_begun, edit_read, edit_at, at_line, step, at_end, stepped, finished, entries, journal, saved_journal, entries_of, saved_of, eco_of, Tells}
use Rattle.eco_journal.specs.Written.{IsSize, AreCaps, AreRess, IsRc, IsEdit, AreEdits, IsEco}
use Rattle.eco_journal.proofs.Lawful.{IfThere, edit_lawful, at_line_lawful, edit_there, eco_there}

amount : (z : ℤ) → IsSize z → is_amount z ≡ true
amount (pos n) h = and_from (int_le (pos 0) (pos n)) (is_within (pos n)) (le-leb 0 n (omega arith)) (le-leb n 1000000000000 h)
amount (negsuc n) h = absurd h

caps_kept : (cs : List RcCap) → AreCaps cs → list_all (λ c. is_amount c.cap.0) cs ≡ true
caps_kept [] h = refl
caps_kept (c ∷ cs) h = and_from (is_amount c.cap.0) (list_all (λ d. is_amount d.cap.0) cs) (amount c.cap.0 h.1) (caps_kept cs h.2)

ress_kept : (rs : List RcRes) → AreRess rs → list_all (λ r. is_amount r.res.0) rs ≡ true
ress_kept [] h = refl
ress_kept (r ∷ rs) h = and_from (is_amount r.res.0) (list_all (λ d. is_amount d.res.0) rs) (amount r.res.0 h.2) (ress_kept rs h.3)

rc_kept : (net : List ℕ) (rc : Option NetRc) → IsRc net rc → option_map_or (is_rc_for net) rc true ≡ true
rc_kept net None h = refl
rc_kept net (Some rc) h =
    rw ((bytes_eq-Decides rc.net net).1 h.0, caps_kept rc.caps h.2, ress_kept rc.ress h.3, h.1) refl

edit_kept : (e : Edit) → IsEdit e → is_edit e ≡ true
edit_kept (SetParasitics net rc) h = rc_kept net rc h.1
edit_kept e h = refl

edits_kept : (es : List Edit) → AreEdits es → list_all is_edit es ≡ true
edits_kept [] h = refl
edits_kept (e ∷ es) h = and_from (is_edit e) (list_all is_edit es) (edit_kept e h.0) (edits_kept es h.1)

eco_made : (edits : List Edit) → 1 ≤ length edits → length edits ≤ 1000 → list_all is_edit edits ≡ true → is_eco (record { edits = edits }) ≡ true
eco_made edits some few good = rw (le-leb 1 (length edits) some, le-leb (length edits) 1000 few, good) refl

-- a text of edits
pub eco_kept : (r : Result Eco ReadFault) (bytes : List ℕ) → Tells r (eco_of bytes) → IfOk r (λ eco. is_eco eco ≡ true)
eco_kept (Ok eco) bytes read = let h : IsEco eco = eco_there bytes eco read in eco_made eco.edits h.0 h.1 (edits_kept eco.edits h.2)
eco_kept (Err fault) bytes read = tt

-- an edit by its words
pub line_kept : (mixed : Bool) (words : List Part) (e : Edit) → edit_of mixed words ≡ Ok e → is_edit e ≡ true
line_kept mixed words e read = edit_kept e (edit_there mixed words e read)

-- entries of such ECOs, and what was read of the next
abbrev AreKept : List Entry → Type 0
AreKept all = list_all (λ e. is_eco e.eco) all ≡ true

abbrev Keeps : State → Type 0
Keeps heading = Unit {0}
Keeps (block all) = AreKept all
Keeps (factors at flaw count all) = AreKept all
Keeps (entry left all) = AreKept all
Keeps (edit left session owed edits all) =
    (1 ≤ owed) × (length edits + owed ≤ 1000) × (list_all is_edit edits ≡ true) × AreKept all
Keeps (ended all) = AreKept all

entries_left_kept : (t : Text) (left : ℕ) (all : List Entry) → AreKept all → Keeps (entries_left t left all)
entries_left_kept t left all h =
    cond_both (left == 0) (block_left t all) (entry left all) Keeps (λ _. cond_both t.saved (block all) (ended all) Keeps (λ _. h) (λ _. h)) (λ _. h)

begun_kept : (t : Text) (all : List Entry) (count : Result ℕ ReadFault) → AreKept all → IfThere Keeps (entries_begun t all count)
begun_kept t all (Ok count) h = entries_left_kept t count all h
begun_kept t all (Err fault) h = tt

first_kept : (t : Text) (all : List Entry) (line : Part) (words : List Part) → AreKept all → IfThere Keeps (first_block t all line words)
first_kept t all line words h =
    cond_both (length words == 3 && length all == 0) _ _ (IfThere Keeps) (λ _.
    cond_both (same_derates unscaled t.derates) _ _ (IfThere Keeps) (λ _. begun_kept t all (counted line words 2) h) (λ _. tt)) (λ _. tt)

next_kept : (all : List Entry) (line : Part) (flaw : Option ℕ) (at : ℕ) (count : Option ℕ) → AreKept all → IfThere Keeps (factors_next all line flaw at count)
next_kept all line flaw at None h = tt
next_kept all line flaw at (Some count) h = h

later_first_kept : (all : List Entry) (line : Part) (words : List Part) (first : Option ℕ) → AreKept all → IfThere Keeps (later_first all line words first)
later_first_kept all line words None h = next_kept all line (Some (at words 2)) (at words 3) (number_of (text words 3)) h
later_first_kept all line words (Some first) h =
    cond_both (first == length all) _ _ (IfThere Keeps) (λ _. next_kept all line None (at words 3) (number_of (text words 3)) h) (λ _. tt)

later_kept : (all : List Entry) (line : Part) (words : List Part) → AreKept all → IfThere Keeps (later_block all line words)
later_kept all line words h =
    cond_both (length words == 4) _ _ (IfThere Keeps) (λ _. later_first_kept all line words (number_of (text words 2)) h) (λ _. tt)

version_kept : (t : Text) (all : List Entry) (line : Part) (words : List Part) (version : Option ℕ) → AreKept all → IfThere Keeps (block_version t all line words version)
version_kept t all line words None h = tt
version_kept t all line words (Some version) h =
    cond_both (version == 1) _ _ (IfThere Keeps) (λ _. first_kept t all line words h) (λ _.
    cond_both (version == 2) _ _ (IfThere Keeps) (λ _. later_kept all line words h) (λ _. tt))

form_kept : (t : Text) (all : List Entry) (line : Part) (words : List Part) → AreKept all → IfThere Keeps (block_form t all line words)
form_kept t all line words h =
    cond_both (is_block words) _ _ (IfThere Keeps) (λ _. version_kept t all line words (number_of (text words 1)) h) (λ _. tt)

unless_kept : (flaw : Option ℕ) (told : Result State ReadFault) → IfThere Keeps told → IfThere Keeps (unless_flawed flaw told)
unless_kept None told h = h
unless_kept (Some flaw) told h = tt

factors_kept : (t : Text) (at : ℕ) (flaw : Option ℕ) (count : ℕ) (all : List Entry) (derates : Result Derates ReadFault) → AreKept all → IfThere Keeps (factors_read t at flaw count all derates)
factors_kept t at flaw count all (Ok derates) h =
    cond_both (same_derates derates t.derates) _ _ (IfThere Keeps) (λ _. unless_kept flaw (Ok (entries_left t count all)) (entries_left_kept t count all h)) (λ _. tt)
factors_kept t at flaw count all (Err fault) h = unless_kept flaw (Err fault) tt

entry_more : (all : List Entry) (session : ℕ) (edits : List Edit) → is_eco (record { edits = edits }) ≡ true → AreKept all → AreKept (with_entry all session edits)
entry_more all session edits good h =
    rw (list_all-append (λ (e : Entry). is_eco e.eco) all (record { session = session; eco = record { edits = edits } } ∷ [])) (rw (h, good) refl)

edits_left_kept : (t : Text) (left session owed : ℕ) (edits : List Edit) (all : List Entry) → 1 ≤ length edits + owed → length edits + owed ≤ 1000 → list_all is_edit edits ≡ true → AreKept all → Keeps (edits_left t left session owed edits all)
edits_left_kept t left session owed edits all some few good h =
    cond_both (owed == 0) (entries_left t left (with_entry all session edits)) (edit left session owed edits all) Keeps
    (λ none.
    let last : owed ≡ 0 = grind (arith, nat_tests, none) in
    entries_left_kept t left (with_entry all session edits)
    (entry_more all session edits (eco_made edits (omega (arith, some, last)) (omega (arith, few)) good) h))
    (λ more. (grind (arith, nat_tests, more), few, good, h))

-- a head has from 1 to 1,000 edits
abbrev IsHead : Head → Type 0
IsHead head = (1 ≤ head.edits) × (head.edits ≤ 1000)

abbrev IsFrom : ℕ → ℕ → ℕ → Type 0
IsFrom low high n = (low ≤ n) × (n ≤ high)

within_from : (at low high : ℕ) (n : Option ℕ) → IfThere (IsFrom low high) (or_flawed at (within low high n))
within_from at low high None = tt
within_from at low high (Some n) =
    cond_both (nat_le low n && nat_le n high) (Some n) None (λ found. IfThere (IsFrom low high) (or_flawed at found))
    (λ h. let parts = and_parts (nat_le low n) (nat_le n high) h in (leb-true low n parts.0, leb-true n high parts.1)) (λ _. tt)

head_edits : (session : ℕ) (edits : Result ℕ Stop) → IfThere (IsFrom 1 1000) edits → IfThere IsHead (with_edits session edits)
head_edits session (Ok n) h = h
head_edits session (Err stop) h = tt

head_session : (words : List Part) (session : Result ℕ Stop) → IfThere IsHead (with_session words session)
head_session words (Ok session) = head_edits session (number_at words 5 1 1000) (within_from (at words 5) 1 1000 (number_of (text words 5)))
head_session words (Err stop) = tt

head_numbered : (next : ℕ) (words : List Part) (n : Option ℕ) → IfThere IsHead (numbered next words n)
head_numbered next words None = tt
head_numbered next words (Some n) =
    cond_both (n == next) _ _ (IfThere IsHead) (λ _. head_session words (number_at words 3 1 16)) (λ _. tt)

head_kept : (next : ℕ) (words : List Part) → IfThere IsHead (entry_head next words)
head_kept next words =
    cond_both (is_head words) _ _ (IfThere IsHead) (λ _. head_numbered next words (number_of (text words 1))) (λ _. tt)

edits_begun_kept : (t : Text) (left : ℕ) (all : List Entry) (head : Result Head ReadFault) → AreKept all → IfThere IsHead head → IfThere Keeps (edits_begun t left all head)
edits_begun_kept t left all (Ok head) h good =
    let none : length {A = Edit} [] ≡ 0 = refl in
    edits_left_kept t (left - 1) head.session head.edits [] all (omega (arith, good.0, none)) (omega (arith, good.1, none)) refl h
edits_begun_kept t left all (Err fault) h good = tt

edit_read_kept : (t : Text) (left session owed : ℕ) (edits : List Edit) (all : List Entry) (e : Result Edit ReadFault) → Keeps (edit left session owed edits all) → IfThere IsEdit e → IfThere Keeps (edit_read t left session owed edits all e)
edit_read_kept t left session owed edits all (Ok e) h good =
    let one : length {A = Edit} (edits ++ e ∷ []) ≡ length edits + 1 = grind (arith, length-append edits (e ∷ [])) in
    edits_left_kept t left session (owed - 1) (edits ++ e ∷ []) all (omega (arith, one, h.0)) (omega (arith, one, h.0, h.1))
    (rw (list_all-append is_edit edits (e ∷ [])) (rw (h.2, edit_kept e good) refl)) h.3
edit_read_kept t left session owed edits all (Err fault) h good = tt

step_kept : (t : Text) (state : State) (line : Part) → Keeps state → IfThere Keeps (step t state line)
step_kept t heading line h = begun_kept t [] (plain_head line) refl
step_kept t (block all) line h = form_kept t all line (words_of line) h
step_kept t (factors at flaw count all) line h = factors_kept t at flaw count all (at_line line (derates_of (words_of line))) h
step_kept t (entry left all) line h =
    let next = t.first + length all + 1 in
    edits_begun_kept t left all (at_line line (entry_head next (words_of line))) h
    (at_line_lawful IsHead line (entry_head next (words_of line)) (head_kept next (words_of line)))
step_kept t (edit left session owed edits all) line h =
    edit_read_kept t left session owed edits all (edit_at line) h
    (at_line_lawful IsEdit line (edit_of false (words_of line)) (edit_lawful false (words_of line)))
step_kept t (ended all) line h = tt

stepped_kept : (t : Text) (told : Result State ReadFault) (line : Part) → IfThere Keeps told → IfThere Keeps (stepped t told line)
stepped_kept t (Ok state) line h = step_kept t state line h
stepped_kept t (Err fault) line h = tt

end_kept : (t : Text) (state : State) → Keeps state → IfThere AreKept (at_end t state)
end_kept t heading h = tt
end_kept t (block all) h = h
end_kept t (factors at None count all) h = tt
end_kept t (factors at (Some flaw) count all) h = tt
end_kept t (entry left all) h = tt
end_kept t (edit left session owed edits all) h = tt
end_kept t (ended all) h = h

finished_kept : (t : Text) (told : Result State ReadFault) → IfThere Keeps told → IfThere AreKept (finished t told)
finished_kept t (Ok state) h = end_kept t state h
finished_kept t (Err fault) h = tt

all_kept : (t : Text) (told : Result State ReadFault) (lines : List Part) → IfThere Keeps told → IfThere AreKept (entries t told lines)
unfolding entries
all_kept t told [] h = finished_kept t told h
all_kept t told (line ∷ lines) h = all_kept t (stepped t told line) lines (stepped_kept t told line h)

tells_kept : (r defined : Result (List Entry) ReadFault) → IfThere AreKept defined → Tells r defined → IfOk r AreKept
tells_kept (Ok all) defined h read = subst (IfThere AreKept) read h
tells_kept (Err fault) defined h read = tt

-- a journal
pub entries_kept : (r : Result (List Entry) ReadFault) (bytes : List ℕ) → Tells r (entries_of bytes) → IfOk r (λ all. list_all (λ e. is_eco e.eco) all ≡ true)
entries_kept r bytes read =
    tells_kept r (entries_of bytes) (all_kept (journal bytes) (Ok heading) (lines_of bytes) tt) read

-- a saved journal
pub saved_kept : (r : Result (List Entry) ReadFault) (bytes : List ℕ) (derates : Derates) → Tells r (saved_of bytes derates) → IfOk r (λ all. list_all (λ e. is_eco e.eco) all ≡ true)
saved_kept r bytes derates read =
    tells_kept r (saved_of bytes derates) (all_kept (saved_journal bytes derates) (Ok (block [])) (lines_of bytes) refl) read
