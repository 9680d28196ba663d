-- Blocks behind a saved journal are read as the saved entries and theirs.
use Rattle.std.proofs.Common.{◌≡◌, ℕ, ◌+◌, ◌-◌, ◌^◌, ◌<◌, ◌≤◌, Bool, true, List, [], ◌∷◌, ◌++◌, length, refl, sym, ap, ◌∙◌, arith, append_assoc, append-nil, length-append, inl, inr}
use Rattle.std.specs.Prelude.{Option, Some, None, Result, Ok, Err, codes, ◌==◌, ◌&&◌, if◌then◌else◌}
use Rattle.std.proofs.lemmas.Bool.{eq-eqb, cond_both, cases_Bool}
use Rattle.timing_defs.specs.Output.{line, entries_text}
use Rattle.timing_defs.specs.Saved.{derates_text, block_text}
use Rattle.timing_defs.specs.declared.codes.ReadFault.{ReadFault}
use Rattle.timing_defs.specs.declared.constraints.Derates.{Derates}
use Rattle.timing_defs.specs.declared.edits.Edit.{Edit}
use Rattle.timing_defs.specs.declared.edits.Entry.{Entry}
use Rattle.eco_journal.specs.Lines.{Part, onto, cut_lines, placed, words_of}
use Rattle.eco_journal.specs.Words.{text, at, number_of}
use Rattle.eco_journal.specs.Journal.{Text, State, heading, block, factors, entry, edit, ended, Head, is_block, entry_head, same_derates, unscaled, derates_of, entries_left, with_entry, edits_left, counted, plain_head, entries_begun, first_block, factors_next, later_first, later_block, block_version, block_form, block_head, unless_flawed, factors_read, edits_begun, edit_read, edit_at, at_line, step, stepped, finished, entries, saved_of}
use Rattle.eco_journal.specs.Written.{AreEntries}
use Rattle.eco_journal.specs.Blocks.{AreFactors, AreLawful, blocks_text, all_entries}
use Rattle.eco_journal.proofs.Lawful.{IfThere}
use Rattle.eco_journal.proofs.NumbersBack.{decimal_name, number_back}
use Rattle.eco_journal.proofs.JournalLemmas.{block_step, factors_step}
use Rattle.eco_journal.proofs.JournalBack.{words_back, line_back, four, entries_back}
use Rattle.eco_journal.proofs.BlockBack.{scaled_text, scaled_words, scaled_line, scaled_graphic, factors_words, factors_line, factors_graphic, factors_back}
use Rattle.live_journal.specs.Desk.{single}
use Rattle.live_journal.specs.Ends.{ends_whole}

-- a saved text of so many bytes
abbrev pub saved_text : Derates → ℕ → Text
saved_text d size = record { size = size; first = 0; saved = true; derates = d }

-- more may follow
abbrev Open : State → Type 0
Open heading = Unit {0}
Open (block all) = Unit {0}
Open (factors at flaw count all) = Unit {0}
Open (entry left all) = Unit {0}
Open (edit left session owed edits all) = Unit {0}
Open (ended all) = ⊥

-- what is read does not depend on the length of the text, and more may follow
abbrev Goes : (ℕ → Result State ReadFault) → Type 0
Goes read = (n m : ℕ) → (read n ≡ read m) × IfThere Open (read n)

goes_not : (fault : ReadFault) → Goes (λ n. Err fault)
goes_not fault n m = (refl, tt)

goes_if : (b : Bool) (yes' no' : ℕ → Result State ReadFault) → Goes yes' → Goes no' → Goes (λ n. if b then yes' n else no' n)
goes_if b yes' no' g h n m =
    ((λ i. if b then (g n m).0 i else (h n m).0 i), cond_both b (yes' n) (no' n) (IfThere Open) (λ _. (g n m).1) (λ _. (h n m).1))

module _ (d : Derates) where
  left_open : (n left : ℕ) (all : List Entry) → Open (entries_left (saved_text d n) left all)
  left_open n left all = cond_both (left == 0) (block all) (entry left all) Open (λ _. tt) (λ _. tt)

  begun_goes : (all : List Entry) (count : Result ℕ ReadFault) → Goes (λ n. entries_begun (saved_text d n) all count)
  begun_goes all (Ok count) n m = (refl, left_open n count all)
  begun_goes all (Err fault) n m = (refl, tt)

  first_goes : (all : List Entry) (line : Part) (words : List Part) → Goes (λ n. first_block (saved_text d n) all line words)
  first_goes all line words =
      goes_if (length words == 3 && length all == 0) _ _ (goes_if (same_derates unscaled d) _ _ (begun_goes all (counted line words 2)) (goes_not _)) (goes_not _)

  next_open : (all : List Entry) (line : Part) (flaw : Option ℕ) (at : ℕ) (count : Option ℕ) → IfThere Open (factors_next all line flaw at count)
  next_open all line flaw at None = tt
  next_open all line flaw at (Some count) = tt

  later_first_open : (all : List Entry) (line : Part) (words : List Part) (first : Option ℕ) → IfThere Open (later_first all line words first)
  later_first_open all line words None = next_open all line (Some (at words 2)) (at words 3) (number_of (text words 3))
  later_first_open all line words (Some first) =
      cond_both (first == length all) _ _ (IfThere Open) (λ _. next_open all line None (at words 3) (number_of (text words 3))) (λ _. tt)

  later_goes : (all : List Entry) (line : Part) (words : List Part) → Goes (λ n. later_block all line words)
  later_goes all line words n m =
      (refl, cond_both (length words == 4) _ _ (IfThere Open) (λ _. later_first_open all line words (number_of (text words 2))) (λ _. tt))

  version_goes : (all : List Entry) (line : Part) (words : List Part) (version : Option ℕ) → Goes (λ n. block_version (saved_text d n) all line words version)
  version_goes all line words None = goes_not _
  version_goes all line words (Some version) =
      goes_if (version == 1) _ _ (first_goes all line words) (goes_if (version == 2) _ _ (later_goes all line words) (goes_not _))

  form_goes : (all : List Entry) (line : Part) (words : List Part) → Goes (λ n. block_form (saved_text d n) all line words)
  form_goes all line words = goes_if (is_block words) _ _ (version_goes all line words (number_of (text words 1))) (goes_not _)

  unless_goes : (flaw : Option ℕ) (read : ℕ → Result State ReadFault) → Goes read → Goes (λ n. unless_flawed flaw (read n))
  unless_goes None read g = g
  unless_goes (Some flaw) read g = goes_not _

  factors_goes : (at : ℕ) (flaw : Option ℕ) (count : ℕ) (all : List Entry) (derates : Result Derates ReadFault)
      → Goes (λ n. factors_read (saved_text d n) at flaw count all derates)
  factors_goes at flaw count all (Ok derates) =
      goes_if (same_derates derates d) _ _
      (unless_goes flaw (λ n. Ok (entries_left (saved_text d n) count all)) (λ n m. (refl, left_open n count all))) (goes_not _)
  factors_goes at flaw count all (Err fault) = unless_goes flaw (λ n. Err fault) (goes_not fault)

  edits_open : (n left session owed : ℕ) (edits : List Edit) (all : List Entry) → Open (edits_left (saved_text d n) left session owed edits all)
  edits_open n left session owed edits all =
      cond_both (owed == 0) (entries_left (saved_text d n) left (with_entry all session edits)) (edit left session owed edits all) Open
      (λ _. left_open n left (with_entry all session edits)) (λ _. tt)

  head_goes : (left : ℕ) (all : List Entry) (head : Result Head ReadFault) → Goes (λ n. edits_begun (saved_text d n) left all head)
  head_goes left all (Ok head) n m = (refl, edits_open n (left - 1) head.session head.edits [] all)
  head_goes left all (Err fault) n m = (refl, tt)

  edit_goes : (left session owed : ℕ) (edits : List Edit) (all : List Entry) (e : Result Edit ReadFault)
      → Goes (λ n. edit_read (saved_text d n) left session owed edits all e)
  edit_goes left session owed edits all (Ok e) n m = (refl, edits_open n left session (owed - 1) (edits ++ e ∷ []) all)
  edit_goes left session owed edits all (Err fault) n m = (refl, tt)

  step_goes : (state : State) (line : Part) → Open state → Goes (λ n. step (saved_text d n) state line)
  step_goes heading line open' = begun_goes [] (plain_head line)
  step_goes (block all) line open' = form_goes all line (words_of line)
  step_goes (factors at flaw count all) line open' = factors_goes at flaw count all (at_line line (derates_of (words_of line)))
  step_goes (entry left all) line open' = head_goes left all (at_line line (entry_head (0 + length all + 1) (words_of line)))
  step_goes (edit left session owed edits all) line open' = edit_goes left session owed edits all (edit_at line)
  step_goes (ended all) line open' = absurd open'

  stepped_goes : (told : Result State ReadFault) (line : Part) → IfThere Open told → Goes (λ n. stepped (saved_text d n) told line)
  stepped_goes (Ok state) line open' = step_goes state line open'
  stepped_goes (Err fault) line open' = goes_not fault

  -- where all entries were read, a block may follow
  end_read : (n : ℕ) (told : Result State ReadFault) (saved : List Entry) → IfThere Open told
      → finished (saved_text d n) told ≡ Ok saved → told ≡ Ok (block saved)
  end_read n (Err fault) saved open' read = cc
  end_read n (Ok heading) saved open' read = cc
  end_read n (Ok (block all)) saved open' read = cc
  end_read n (Ok (factors at None count all)) saved open' read = cc
  end_read n (Ok (factors at (Some flaw) count all)) saved open' read = cc
  end_read n (Ok (entry left all)) saved open' read = cc
  end_read n (Ok (edit left session owed edits all)) saved open' read = cc
  end_read n (Ok (ended all)) saved open' read = absurd open'

  pub reads_on : (n m : ℕ) (told : Result State ReadFault) (lines more : List Part) (saved : List Entry) → IfThere Open told
      → entries (saved_text d n) told lines ≡ Ok saved
      → entries (saved_text d m) told (lines ++ more) ≡ entries (saved_text d m) (Ok (block saved)) more
  unfolding entries
  reads_on n m told [] more saved open' read = ap (λ r. entries (saved_text d m) r more) (end_read n told saved open' read)
  reads_on n m told (line ∷ lines) more saved open' read =
      let here = stepped_goes told line open' n m in
      let there = stepped_goes told line open' m n in
      reads_on n m (stepped (saved_text d m) told line) lines more saved there.1
      (ap (λ r. entries (saved_text d n) r lines) (sym here.0) ∙ read)

-- the lines of a text that ends in a line feed, and of a text behind it
onto_some : (b : ℕ) (xs ys : List (List ℕ)) → 0 < length xs → onto b (xs ++ ys) ≡ onto b xs ++ ys
onto_some b [] ys some = absurd (omega (arith, some))
onto_some b (x ∷ xs) ys some = refl

onto_long : (b : ℕ) (xs : List (List ℕ)) → 0 < length (onto b xs)
onto_long b [] = omega arith
onto_long b (x ∷ xs) = omega arith

cut_some : (b : ℕ) (bs : List ℕ) → 0 < length (cut_lines (b ∷ bs))
unfolding cut_lines
cut_some b bs = cond_both (b == 10) ([] ∷ cut_lines bs) (onto b (cut_lines bs)) (λ lines. 0 < length lines) (λ _. omega arith) (λ _. onto_long b (cut_lines bs))

pub cut_whole : (old rest : List ℕ) → ends_whole old ≡ true → cut_lines (old ++ rest) ≡ cut_lines old ++ cut_lines rest
unfolding cut_lines
cut_whole [] rest whole = refl
cut_whole (b ∷ []) rest whole = rw whole refl
cut_whole (b ∷ c ∷ bs) rest whole = elim (cases_Bool (b == 10)) [
  | inl hit ↦ rw hit (ap (λ lines. [] ∷ lines) (cut_whole (c ∷ bs) rest whole))
  | inr miss ↦
      rw miss (ap (onto b) (cut_whole (c ∷ bs) rest whole) ∙ onto_some b (cut_lines (c ∷ bs)) (cut_lines rest) (cut_some c bs))
]

pub placed_both : (at : ℕ) (xs ys : List (List ℕ)) → (k : ℕ) × (placed at (xs ++ ys) ≡ placed at xs ++ placed k ys)
unfolding placed
placed_both at [] ys = (at, refl)
placed_both at (x ∷ xs) ys =
    let behind = placed_both (at + length x + 1) xs ys in
    (behind.0, ap (λ parts. record { text = x; at = at } ∷ parts) behind.1)

-- a block behind other entries
pub same_self : (d : Derates) → same_derates d d ≡ true
same_self d = grind arith

form_read : (size first count at : ℕ) (d : Derates) (all : List Entry) (line : Part) → first ≡ length all → first < 2 ^ 64 → count < 2 ^ 64
    → block_form (saved_text d size) all line (placed at (codes "journal" ∷ scaled_words first count)) ≡ Ok (factors line.at None count all)
unfolding placed
form_read size first count at d all line same hf hc =
    let here : (first == length all) ≡ true = eq-eqb first (length all) same in
    rw (decimal_name first hf, decimal_name count hc, number_back first hf, here, number_back count hc) refl

pub head_read : (size first count at : ℕ) (d : Derates) (all : List Entry) → first ≡ length all → first < 2 ^ 64 → count < 2 ^ 64
    → block_head (saved_text d size) all (record { text = scaled_text first count; at = at }) ≡ Ok (factors at None count all)
head_read size first count at d all same hf hc =
    let line : Part = record { text = scaled_text first count; at = at } in
    ap (block_form (saved_text d size) all line)
    (words_back (scaled_text first count) (codes "journal") (scaled_words first count) at (scaled_line first count) refl
    (scaled_graphic first count hf hc))
    ∙ form_read size first count at d all line same hf hc

block_in : (size : ℕ) (d : Derates) (first : ℕ) (all es : List Entry) (rest : List ℕ) (want : Result (List Entry) ReadFault)
    → first ≡ length all → first + length es < 2 ^ 64 → AreFactors d → AreEntries es
    → ((at : ℕ) → entries (saved_text d size) (Ok (block (all ++ es))) (placed at (cut_lines rest)) ≡ want)
    → (at : ℕ) → entries (saved_text d size) (Ok (block all)) (placed at (cut_lines (block_text first d es ++ rest))) ≡ want
unfolding placed
block_in size d first all es rest want same fits scaled lawful behind at =
    let t = saved_text d size in
    let head = scaled_text first (length es) in
    let hf : first < 2 ^ 64 = omega (arith, fits) in
    let hc : length es < 2 ^ 64 = omega (arith, fits) in
    let body = entries_text (first + 1) es in
    let factors_at = at + length head + 1 in
    let body_at = factors_at + length (derates_text d) + 1 in
    let next : 0 + length all + 1 ≡ first + 1 = omega (arith, same) in
    let fit : first + 1 + length es ≤ 2 ^ 64 = omega (arith, fits) in
    rw (
      four (line head) (line (derates_text d)) body rest,
      line_back head (codes "journal") (scaled_words first (length es)) (line (derates_text d) ++ (body ++ rest)) (scaled_line first (length es)) refl
          (scaled_graphic first (length es) hf hc),
      line_back (derates_text d) (codes "derates") (factors_words d) (body ++ rest) (factors_line d) refl (factors_graphic d scaled),
      block_step t all (record { text = head; at = at }) (record { text = derates_text d; at = factors_at } ∷ placed body_at (cut_lines (body ++ rest))),
      head_read size first (length es) at d all same hf hc,
      factors_step t at None (length es) all (record { text = derates_text d; at = factors_at }) (placed body_at (cut_lines (body ++ rest))),
      factors_back d factors_at scaled,
      same_self d,
    )
    (entries_back t (first + 1) all es rest want lawful next fit behind body_at)

blocks_in : (size : ℕ) (d : Derates) (first : ℕ) (all : List Entry) (blocks : List (List Entry))
    → first ≡ length all → first + length (all_entries blocks) < 2 ^ 64 → AreFactors d → AreLawful blocks
    → (at : ℕ) → entries (saved_text d size) (Ok (block all)) (placed at (cut_lines (blocks_text d first blocks))) ≡ Ok (all ++ all_entries blocks)
unfolding placed entries cut_lines
blocks_in size d first all [] same fits scaled lawful at = rw (append-nil all) refl
blocks_in size d first all (es ∷ blocks) same fits scaled lawful at =
    let both : length (es ++ all_entries blocks) ≡ length es + length (all_entries blocks) = length-append es (all_entries blocks) in
    let here : first + length es < 2 ^ 64 = omega (arith, both, fits) in
    let next : first + length es ≡ length (all ++ es) = grind (arith, same, length-append all es) in
    let fit : first + length es + length (all_entries blocks) < 2 ^ 64 = omega (arith, both, fits) in
    rw (← append_assoc all es (all_entries blocks))
    (block_in size d first all es (blocks_text d (first + length es) blocks) (Ok (all ++ es ++ all_entries blocks)) same here scaled lawful.0
    (blocks_in size d (first + length es) (all ++ es) blocks next fit scaled lawful.1) at)

-- blocks behind a saved journal
pub saved_behind : (d : Derates) (old : List ℕ) (saved : List Entry) (blocks : List (List Entry)) → ends_whole old ≡ true → saved_of old d ≡ Ok saved
    → length saved + length (all_entries blocks) < 2 ^ 64 → AreFactors d → AreLawful blocks
    → saved_of (old ++ blocks_text d (length saved) blocks) d ≡ Ok (saved ++ all_entries blocks)
saved_behind d old saved blocks whole read fits scaled lawful =
    let new = blocks_text d (length saved) blocks in
    let m = length (old ++ new) in
    let behind = placed_both 0 (cut_lines old) (cut_lines new) in
    ap (λ lines. entries (saved_text d m) (Ok (block [])) (placed 0 lines)) (cut_whole old new whole)
    ∙ ap (entries (saved_text d m) (Ok (block []))) behind.1
    ∙ reads_on d (length old) m (Ok (block [])) (placed 0 (cut_lines old)) (placed behind.0 (cut_lines new)) saved tt read
    ∙ blocks_in m d (length saved) saved blocks refl fits scaled lawful behind.0

all_single : (es : List Entry) → all_entries (single es) ≡ es
all_single [] = refl
all_single (e ∷ es) = ap (λ rest. e ∷ rest) (all_single es)

single_lawful : (es : List Entry) → AreEntries es → AreLawful (single es)
single_lawful [] h = tt
single_lawful (e ∷ es) h = ((h.0, tt), single_lawful es h.1)

pub single_behind : (d : Derates) (old : List ℕ) (saved es : List Entry) → ends_whole old ≡ true → saved_of old d ≡ Ok saved
    → length saved + length es < 2 ^ 64 → AreFactors d → AreEntries es
    → saved_of (old ++ blocks_text d (length saved) (single es)) d ≡ Ok (saved ++ es)
single_behind d old saved es whole read fits scaled lawful =
    let fit : length saved + length (all_entries (single es)) < 2 ^ 64 = rw (all_single es) fits in
    saved_behind d old saved (single es) whole read fit scaled (single_lawful es lawful)
    ∙ ap (λ all. Ok (saved ++ all)) (all_single es)
