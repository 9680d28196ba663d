-- The bytes of a block are read back as its three parts.
use Rattle.std.proofs.Common.{◌≡◌, ℕ, ◌+◌, ◌^◌, ◌<◌, ◌≤◌, true, List, [], ◌∷◌, ◌++◌, length, refl, ap, arith, append_assoc, append-nil, length-append, ◌∙◌}
use Rattle.std.specs.Prelude.{Some, None, Result, Ok, codes, decimal, ◌==◌, ◌&&◌, nat_le}
use Rattle.std.specs.List.{list_all}
use Rattle.std.proofs.lemmas.Bool.{eq-eqb}
use Rattle.timing_defs.specs.Output.{number, line, entries_text, journal_text}
use Rattle.timing_defs.specs.declared.codes.ReadFault.{ReadFault}
use Rattle.timing_defs.specs.declared.constraints.Derates.{Derates}
use Rattle.timing_defs.specs.declared.edits.Entry.{Entry}
use Rattle.eco_journal.specs.Lines.{Part, cut_lines, placed, words_of}
use Rattle.eco_journal.specs.Journal.{Text, entries, entries_left, derates_of, same_derates, block, factors, block_form, block_head, unscaled, saved_of}
use Rattle.timing_defs.specs.Saved.{derates_text, block_text}
use Rattle.eco_journal.specs.Blocks.{block_text_of, with_entries, block_of_words, block_of_lines, block_of, AreFactors, AreLawful, blocks_text, all_entries}
use Rattle.eco_journal.specs.Written.{AreEntries}
use Rattle.eco_journal.proofs.JournalLemmas.{block_step, factors_step}
use Rattle.eco_journal.proofs.Joined.{graphic, joined}
use Rattle.eco_journal.proofs.NumbersBack.{decimal_graphic, decimal_name, number_back}
use Rattle.eco_journal.proofs.JournalBack.{words_back, line_back, four, entries_back, journal_words, count_graphic}

-- the first line
abbrev pub scaled_text : ℕ → ℕ → List ℕ
scaled_text first count = codes "journal 2" ++ number first ++ number count

abbrev pub scaled_words : ℕ → ℕ → List (List ℕ)
scaled_words first count = codes "2" ∷ decimal first ∷ decimal count ∷ []

pub scaled_line : (first count : ℕ) → scaled_text first count ≡ joined (codes "journal") (scaled_words first count)
scaled_line first count = rw (append-nil (number count), append_assoc (codes "journal 2") (number first) (number count)) refl

pub scaled_graphic : (first count : ℕ) → first < 2 ^ 64 → count < 2 ^ 64 → list_all graphic (scaled_words first count) ≡ true
scaled_graphic first count hf hc = rw (decimal_graphic first hf, decimal_graphic count hc) refl

-- the line of factors
abbrev pub factors_words : Derates → List (List ℕ)
factors_words d = decimal d.early_cell ∷ decimal d.late_cell ∷ decimal d.early_net ∷ decimal d.late_net ∷ []

pub factors_line : (d : Derates) → derates_text d ≡ joined (codes "derates") (factors_words d)
factors_line d =
    rw (
      append-nil (number d.late_net),
      append_assoc (codes "derates" ++ number d.early_cell ++ number d.late_cell) (number d.early_net) (number d.late_net),
      append_assoc (codes "derates" ++ number d.early_cell) (number d.late_cell) (number d.early_net ++ number d.late_net),
      append_assoc (codes "derates") (number d.early_cell) (number d.late_cell ++ (number d.early_net ++ number d.late_net)),
    ) refl

factor_small : (n : ℕ) → n ≤ 10000000 → n < 2 ^ 64
factor_small n h = omega (arith, h)

pub factors_graphic : (d : Derates) → AreFactors d → list_all graphic (factors_words d) ≡ true
factors_graphic d h =
    rw (
      decimal_graphic d.early_cell (factor_small d.early_cell h.0),
      decimal_graphic d.late_cell (factor_small d.late_cell h.1),
      decimal_graphic d.early_net (factor_small d.early_net h.2),
      decimal_graphic d.late_net (factor_small d.late_net h.3),
    ) refl

factor_in : (n : ℕ) → n ≤ 10000000 → (nat_le 0 n && nat_le n 10000000) ≡ true
factor_in n h = grind (arith, h)

factors_of : (d : Derates) (at : ℕ) → AreFactors d → derates_of (placed at (codes "derates" ∷ factors_words d)) ≡ Ok d
unfolding placed
factors_of d at h =
    rw (
      decimal_name d.early_cell (factor_small d.early_cell h.0),
      decimal_name d.late_cell (factor_small d.late_cell h.1),
      decimal_name d.early_net (factor_small d.early_net h.2),
      decimal_name d.late_net (factor_small d.late_net h.3),
      number_back d.early_cell (factor_small d.early_cell h.0),
      factor_in d.early_cell h.0,
      number_back d.late_cell (factor_small d.late_cell h.1),
      factor_in d.late_cell h.1,
      number_back d.early_net (factor_small d.early_net h.2),
      factor_in d.early_net h.2,
      number_back d.late_net (factor_small d.late_net h.3),
      factor_in d.late_net h.3,
    ) refl

pub factors_back : (d : Derates) (at : ℕ) → AreFactors d → derates_of (words_of (record { text = derates_text d; at = at })) ≡ Ok d
factors_back d at h =
    rw (words_back (derates_text d) (codes "derates") (factors_words d) at (factors_line d) refl (factors_graphic d h)) (factors_of d at h)

words_read : (size first count at : ℕ) (d : Derates) (place : ℕ) (lines : List Part) → first < 2 ^ 64 → count < 2 ^ 64 → AreFactors d
    → block_of_words size (placed at (codes "journal" ∷ scaled_words first count)) (record { text = derates_text d; at = place }) lines
    ≡ with_entries first d (entries (block_text_of size first d) (Ok (entries_left (block_text_of size first d) count [])) lines)
unfolding placed
words_read size first count at d place lines hf hc h =
    rw (decimal_name first hf, decimal_name count hc, number_back first hf, number_back count hc, factors_back d place h) refl

block_lines : (first : ℕ) (d : Derates) (es : List Entry) (body : List ℕ) → first < 2 ^ 64 → length es < 2 ^ 64 → AreFactors d
    → cut_lines (line (scaled_text first (length es)) ++ line (derates_text d) ++ body)
    ≡ scaled_text first (length es) ∷ derates_text d ∷ cut_lines body
block_lines first d es body hf hc scaled =
    rw (
      append_assoc (line (scaled_text first (length es))) (line (derates_text d)) body,
      line_back (scaled_text first (length es)) (codes "journal") (scaled_words first (length es)) (line (derates_text d) ++ body)
          (scaled_line first (length es)) refl (scaled_graphic first (length es) hf hc),
      line_back (derates_text d) (codes "derates") (factors_words d) body (factors_line d) refl (factors_graphic d scaled),
    ) refl

pub block_back : (first : ℕ) (d : Derates) (es : List Entry) → first + length es < 2 ^ 64 → AreFactors d → AreEntries es
    → block_of (block_text first d es) ≡ Some (record { first = first; derates = d; entries = es })
unfolding placed entries cut_lines
block_back first d es fits scaled lawful =
    let head = scaled_text first (length es) in
    let hf : first < 2 ^ 64 = omega (arith, fits) in
    let hc : length es < 2 ^ 64 = omega (arith, fits) in
    let size = length (block_text first d es) in
    let t = block_text_of size first d in
    let body = entries_text (first + 1) es in
    let behind = 0 + length head + 1 in
    let body_at = behind + length (derates_text d) + 1 in
    let next : first + 0 + 1 ≡ first + 1 = omega arith in
    let fit : first + 1 + length es ≤ 2 ^ 64 = omega (arith, fits) in
    ap (λ (lines : List (List ℕ)). block_of_lines size (placed 0 lines)) (block_lines first d es body hf hc scaled)
    ∙ (ap (λ (words : List Part). block_of_words size words (record { text = derates_text d; at = behind }) (placed body_at (cut_lines body)))
    (words_back head (codes "journal") (scaled_words first (length es)) 0 (scaled_line first (length es)) refl
    (scaled_graphic first (length es) hf hc))
    ∙ (words_read size first (length es) 0 d behind (placed body_at (cut_lines body)) hf hc scaled
    ∙ ap (with_entries first d)
    (rw (append-nil body) at (entries_back t (first + 1) [] es [] (Ok es) lawful next fit (λ i. refl) body_at))))

-- a block of a saved journal
abbrev saved_text_of : ℕ → Derates → Text
saved_text_of size derates = record { size = size; first = 0; saved = true; derates = derates }

same_self : (d : Derates) → same_derates d d ≡ true
same_self d = grind arith

form_read : (size first count at : ℕ) (d : Derates) (all : List Entry) (line : Part) → first ≡ length all → first < 2 ^ 64 → count < 2 ^ 64
    → block_form (saved_text_of size d) all line (placed at (codes "journal" ∷ scaled_words first count)) ≡ Ok (factors line.at None count all)
unfolding placed
form_read size first count at d all line same hf hc =
    let here : (first == length all) ≡ true = eq-eqb first (length all) same in
    rw (decimal_name first hf, decimal_name count hc, number_back first hf, here, number_back count hc) refl

head_read : (size first count at : ℕ) (d : Derates) (all : List Entry) → first ≡ length all → first < 2 ^ 64 → count < 2 ^ 64
    → block_head (saved_text_of size d) all (record { text = scaled_text first count; at = at }) ≡ Ok (factors at None count all)
head_read size first count at d all same hf hc =
    let line : Part = record { text = scaled_text first count; at = at } in
    ap (block_form (saved_text_of size d) all line)
    (words_back (scaled_text first count) (codes "journal") (scaled_words first count) at (scaled_line first count) refl
    (scaled_graphic first count hf hc))
    ∙ form_read size first count at d all line same hf hc

block_in : (size : ℕ) (d : Derates) (first : ℕ) (all es : List Entry) (rest : List ℕ) (want : Result (List Entry) ReadFault)
    → first ≡ length all → first + length es < 2 ^ 64 → AreFactors d → AreEntries es
    → ((at : ℕ) → entries (saved_text_of size d) (Ok (block (all ++ es))) (placed at (cut_lines rest)) ≡ want)
    → (at : ℕ) → entries (saved_text_of size d) (Ok (block all)) (placed at (cut_lines (block_text first d es ++ rest))) ≡ want
unfolding placed
block_in size d first all es rest want same fits scaled lawful behind at =
    let t = saved_text_of size d in
    let head = scaled_text first (length es) in
    let hf : first < 2 ^ 64 = omega (arith, fits) in
    let hc : length es < 2 ^ 64 = omega (arith, fits) in
    let body = entries_text (first + 1) es in
    let factors_at = at + length head + 1 in
    let body_at = factors_at + length (derates_text d) + 1 in
    let next : 0 + length all + 1 ≡ first + 1 = omega (arith, same) in
    let fit : first + 1 + length es ≤ 2 ^ 64 = omega (arith, fits) in
    rw (
      four (line head) (line (derates_text d)) body rest,
      line_back head (codes "journal") (scaled_words first (length es)) (line (derates_text d) ++ (body ++ rest)) (scaled_line first (length es)) refl
          (scaled_graphic first (length es) hf hc),
      line_back (derates_text d) (codes "derates") (factors_words d) (body ++ rest) (factors_line d) refl (factors_graphic d scaled),
      block_step t all (record { text = head; at = at }) (record { text = derates_text d; at = factors_at } ∷ placed body_at (cut_lines (body ++ rest))),
      head_read size first (length es) at d all same hf hc,
      factors_step t at None (length es) all (record { text = derates_text d; at = factors_at }) (placed body_at (cut_lines (body ++ rest))),
      factors_back d factors_at scaled,
      same_self d,
    )
    (entries_back t (first + 1) all es rest want lawful next fit behind body_at)

blocks_in : (size : ℕ) (d : Derates) (first : ℕ) (all : List Entry) (blocks : List (List Entry))
    → first ≡ length all → first + length (all_entries blocks) < 2 ^ 64 → AreFactors d → AreLawful blocks
    → (at : ℕ) → entries (saved_text_of size d) (Ok (block all)) (placed at (cut_lines (blocks_text d first blocks))) ≡ Ok (all ++ all_entries blocks)
unfolding placed entries cut_lines
blocks_in size d first all [] same fits scaled lawful at = rw (append-nil all) refl
blocks_in size d first all (es ∷ blocks) same fits scaled lawful at =
    let both : length (es ++ all_entries blocks) ≡ length es + length (all_entries blocks) = length-append es (all_entries blocks) in
    let here : first + length es < 2 ^ 64 = omega (arith, both, fits) in
    let next : first + length es ≡ length (all ++ es) = grind (arith, same, length-append all es) in
    let fit : first + length es + length (all_entries blocks) < 2 ^ 64 = omega (arith, both, fits) in
    rw (← append_assoc all es (all_entries blocks))
    (block_in size d first all es (blocks_text d (first + length es) blocks) (Ok (all ++ es ++ all_entries blocks)) same here scaled lawful.0
    (blocks_in size d (first + length es) (all ++ es) blocks next fit scaled lawful.1) at)

-- blocks one behind another are read as their entries
pub saved_back : (d : Derates) (blocks : List (List Entry)) → length (all_entries blocks) < 2 ^ 64 → AreFactors d → AreLawful blocks
    → saved_of (blocks_text d 0 blocks) d ≡ Ok (all_entries blocks)
saved_back d blocks fits scaled lawful =
    blocks_in (length (blocks_text d 0 blocks)) d 0 [] blocks refl (omega (arith, fits)) scaled lawful 0

-- a journal at the head of a saved journal
journal_form_read : (size n : ℕ) (line : Part) (at : ℕ) → n < 2 ^ 64
    → block_form (saved_text_of size unscaled) [] line (placed at (codes "journal" ∷ codes "1" ∷ decimal n ∷ []))
    ≡ Ok (entries_left (saved_text_of size unscaled) n [])
unfolding placed
journal_form_read size n line at small = rw (decimal_name n small, number_back n small) refl

journal_head_read : (size n : ℕ) → n < 2 ^ 64
    → block_head (saved_text_of size unscaled) [] (record { text = codes "journal 1" ++ number n; at = 0 })
    ≡ Ok (entries_left (saved_text_of size unscaled) n [])
journal_head_read size n small =
    let line : Part = record { text = codes "journal 1" ++ number n; at = 0 } in
    ap (block_form (saved_text_of size unscaled) [] line)
    (words_back (codes "journal 1" ++ number n) (codes "journal") (codes "1" ∷ decimal n ∷ []) 0 (journal_words n) refl (count_graphic n small))
    ∙ journal_form_read size n line 0 small

journal_in : (size : ℕ) (es : List Entry) (rest : List ℕ) (want : Result (List Entry) ReadFault) → length es < 2 ^ 64 → AreEntries es
    → ((at : ℕ) → entries (saved_text_of size unscaled) (Ok (block es)) (placed at (cut_lines rest)) ≡ want)
    → entries (saved_text_of size unscaled) (Ok (block [])) (placed 0 (cut_lines (journal_text es ++ rest))) ≡ want
unfolding placed
journal_in size es rest want small lawful behind =
    let t = saved_text_of size unscaled in
    let n = length es in
    let head = codes "journal 1" ++ number n in
    let body_at = 0 + length head + 1 in
    let fit : 1 + length es ≤ 2 ^ 64 = omega (arith, small) in
    rw (
      append_assoc (line head) (entries_text 1 es) rest,
      line_back head (codes "journal") (codes "1" ∷ decimal n ∷ []) (entries_text 1 es ++ rest) (journal_words n) refl (count_graphic n small),
      block_step t [] (record { text = head; at = 0 }) (placed body_at (cut_lines (entries_text 1 es ++ rest))),
      journal_head_read size n small,
    )
    (entries_back t 1 [] es rest want lawful (omega arith) fit behind body_at)

-- a journal, and the blocks of later runs behind it
pub continued_back : (es : List Entry) (blocks : List (List Entry)) → length es + length (all_entries blocks) < 2 ^ 64 → AreEntries es → AreLawful blocks
    → saved_of (journal_text es ++ blocks_text unscaled (length es) blocks) unscaled ≡ Ok (es ++ all_entries blocks)
continued_back es blocks fits lawful later =
    let size = length (journal_text es ++ blocks_text unscaled (length es) blocks) in
    journal_in size es (blocks_text unscaled (length es) blocks) (Ok (es ++ all_entries blocks)) (omega (arith, fits)) lawful
    (λ at. blocks_in size unscaled (length es) es blocks refl fits (omega arith, omega arith, omega arith, omega arith) later at)
