-- The bytes of entries are read back as the entries.
use Rattle.std.proofs.Common.{◌≡◌, ℕ, ◌+◌, ◌-◌, ◌^◌, ◌<◌, ◌≤◌, true, false, List, [], ◌∷◌, ◌++◌, length, refl, ap, arith, append_assoc, append-nil, length-append, ◌∙◌}
use Rattle.std.specs.Prelude.{Result, Ok, codes, decimal, ◌==◌, nat_le}
use Rattle.std.specs.List.{list_all}
use Rattle.std.proofs.lemmas.Bool.{ne_eqb}
use Rattle.timing_defs.specs.Output.{number, line, edit_text, entries_text, journal_text}
use Rattle.timing_defs.specs.declared.codes.ReadFault.{ReadFault}
use Rattle.timing_defs.specs.declared.edits.Edit.{Edit}
use Rattle.timing_defs.specs.declared.edits.Eco.{Eco}
use Rattle.timing_defs.specs.declared.edits.Entry.{Entry}
use Rattle.eco_journal.specs.Lines.{Part, cut_lines, placed, words_of}
use Rattle.eco_journal.specs.Journal.{Text, entries, entries_left, edits_left, edit_at, entry_head, plain_form, plain_head, journal, entries_of, eco_edits, eco_whole, eco_of}
use Rattle.eco_journal.specs.Written.{AreEdits, IsEdit, IsEco, IsEntry, AreEntries, edits_text}
use Rattle.eco_journal.proofs.JournalLemmas.{some_edit, some_entry, head_step, heading_step}
use Rattle.eco_journal.proofs.Joined.{graphic, joined, words_cut, printed_line, line_cut}
use Rattle.eco_journal.proofs.NumbersBack.{decimal_graphic, decimal_name, number_back}
use Rattle.eco_journal.proofs.EditsBack.{verb_of, args_of, edit_line, more, edit_back, verb_graphic, args_graphic}

-- the words of a line of words
pub words_back : (text first : List ℕ) (rest : List (List ℕ)) (at : ℕ) → text ≡ joined first rest
    → graphic first ≡ true → list_all graphic rest ≡ true → words_of (record { text = text; at = at }) ≡ placed at (first ∷ rest)
words_back text first rest at same h hs = rw (same, words_cut first rest h hs) refl

-- such a line is cut from the text at its line feed
pub line_back : (text first : List ℕ) (rest : List (List ℕ)) (behind : List ℕ) → text ≡ joined first rest
    → graphic first ≡ true → list_all graphic rest ≡ true → cut_lines (line text ++ behind) ≡ text ∷ cut_lines behind
line_back text first rest behind same h hs = line_cut text behind (rw same (printed_line first rest h hs))

edit_at_back : (e : Edit) (at : ℕ) → IsEdit e → edit_at (record { text = edit_text e; at = at }) ≡ Ok e
edit_at_back e at h =
    rw (words_back (edit_text e) (verb_of e) (args_of e) at (edit_line e) (verb_graphic e) (args_graphic e h), edit_back e at h) refl

edit_step : (t : Text) (left session ahead n : ℕ) (edits : List Edit) (all : List Entry) (e : Edit) (at : Part) (lines : List Part)
    → ahead ≡ n + 1 → edit_at at ≡ Ok e
    → entries t (Ok (edits_left t left session ahead edits all)) (at ∷ lines)
    ≡ entries t (Ok (edits_left t left session n (edits ++ e ∷ []) all)) lines
unfolding entries
edit_step t left session ahead n edits all e at lines one read =
    let some : 0 < ahead = omega (arith, one) in
    let less : ahead - 1 ≡ n = omega (arith, one) in
    rw (some_edit t left session ahead edits all some, read, less) refl

abbrev edit_lines : List Edit → List ℕ
edit_lines es = edits_text es

edits_back : (t : Text) (left session : ℕ) (before es : List Edit) (all : List Entry) (rest : List ℕ) (want : Result (List Entry) ReadFault)
    → AreEdits es
    → ((at : ℕ) → entries t (Ok (edits_left t left session 0 (before ++ es) all)) (placed at (cut_lines rest)) ≡ want)
    → (at : ℕ) → entries t (Ok (edits_left t left session (length es) before all)) (placed at (cut_lines (edit_lines es ++ rest))) ≡ want
unfolding placed
edits_back t left session before [] all rest want h behind at = rw (append-nil before) at (behind at)
edits_back t left session before (e ∷ es) all rest want h behind at =
    rw (
      append_assoc (line (edit_text e)) (edit_lines es) rest,
      line_back (edit_text e) (verb_of e) (args_of e) (edit_lines es ++ rest) (edit_line e) (verb_graphic e) (args_graphic e h.0),
      edit_step t left session (length (e ∷ es)) (length es) before all e (record { text = edit_text e; at = at })
          (placed (at + length (edit_text e) + 1) (cut_lines (edit_lines es ++ rest))) (omega arith) (edit_at_back e at h.0),
    )
    (edits_back t left session (before ++ e ∷ []) es all rest want h.1 (λ i. rw (append_assoc before (e ∷ []) es) (behind i)) (at + length (edit_text e) + 1))

eco_one : (before : List Edit) (e : Edit) (at : Part) (lines : List Part) → length before < 1000 → edit_at at ≡ Ok e
    → eco_edits (Ok before) (at ∷ lines) ≡ eco_edits (Ok (before ++ e ∷ [])) lines
unfolding eco_edits
eco_one before e at lines few read =
    let other : (length before == 1000) ≡ false = ne_eqb (length before) 1000 (λ same. omega (arith, few, same)) in
    rw (other, read) refl

eco_lines_back : (before es : List Edit) (at : ℕ) → AreEdits es → length before + length es ≤ 1000
    → eco_edits (Ok before) (placed at (cut_lines (edit_lines es))) ≡ Ok (before ++ es)
unfolding eco_edits placed cut_lines
eco_lines_back before [] at h few = rw (append-nil before) refl
eco_lines_back before (e ∷ es) at h few =
    let less : length before < 1000 = omega (arith, few) in
    let fewer : length (before ++ e ∷ []) + length es ≤ 1000 = omega (arith, few, length-append before (e ∷ [])) in
    rw (
      line_back (edit_text e) (verb_of e) (args_of e) (edit_lines es) (edit_line e) (verb_graphic e) (args_graphic e h.0),
      eco_one before e (record { text = edit_text e; at = at }) (placed (at + length (edit_text e) + 1) (cut_lines (edit_lines es))) less
          (edit_at_back e at h.0),
      ← append_assoc before (e ∷ []) es,
    )
    (eco_lines_back (before ++ e ∷ []) es (at + length (edit_text e) + 1) h.1 fewer)

some_eco : (size : ℕ) (es : List Edit) → 1 ≤ length es → eco_whole size (Ok es) ≡ Ok (record { edits = es })
some_eco size [] some = absurd (omega (arith, some))
some_eco size (e ∷ es) some = refl

-- the lines of edits are read back as the edits
pub eco_back : (eco : Eco) → IsEco eco → eco_of (edits_text eco.edits) ≡ Ok eco
eco_back eco h =
    ap (eco_whole (length (edits_text eco.edits))) (eco_lines_back [] eco.edits 0 h.2 (omega (arith, h.1)))
    ∙ some_eco (length (edits_text eco.edits)) eco.edits h.0

-- the line of an entry's head
abbrev head_text : ℕ → ℕ → ℕ → List ℕ
head_text n session edits = codes "entry" ++ number n ++ codes " session" ++ number session ++ codes " edits" ++ number edits

abbrev head_words : ℕ → ℕ → ℕ → List (List ℕ)
head_words n session edits = decimal n ∷ codes "session" ∷ decimal session ∷ codes "edits" ∷ decimal edits ∷ []

head_line : (n session edits : ℕ) → head_text n session edits ≡ joined (codes "entry") (head_words n session edits)
head_line n session edits =
    rw (append-nil (number edits)) (more (codes "entry") (decimal n) (codes "session") (decimal session) (codes "edits") (number edits))

head_graphic : (n session edits : ℕ) → n < 2 ^ 64 → session < 2 ^ 64 → edits < 2 ^ 64 → list_all graphic (head_words n session edits) ≡ true
head_graphic n session edits hn hs he = rw (decimal_graphic n hn, decimal_graphic session hs, decimal_graphic edits he) refl

head_back : (n session edits at : ℕ) → n < 2 ^ 64 → 1 ≤ session → session ≤ 16 → 1 ≤ edits → edits ≤ 1000
    → entry_head n (placed at (codes "entry" ∷ head_words n session edits)) ≡ Ok (record { session = session; edits = edits })
unfolding placed
head_back n session edits at hn some few one most =
    let small : session < 2 ^ 64 = omega (arith, few) in
    let short : edits < 2 ^ 64 = omega (arith, most) in
    let same : (n == n) ≡ true = grind arith in
    let s1 : nat_le 1 session ≡ true = grind arith in
    let s2 : nat_le session 16 ≡ true = grind arith in
    let e1 : nat_le 1 edits ≡ true = grind arith in
    let e2 : nat_le edits 1000 ≡ true = grind arith in
    rw (
      decimal_name n hn,
      decimal_name session small,
      decimal_name edits short,
      number_back n hn,
      same,
      number_back session small,
      s1,
      s2,
      number_back edits short,
      e1,
      e2,
    ) refl

entry_step : (t : Text) (left n : ℕ) (all : List Entry) (e : Entry) (at : ℕ) (lines : List Part)
    → t.first + length all + 1 ≡ n → 0 < left → n < 2 ^ 64 → IsEntry e
    → entries t (Ok (entries_left t left all)) (record { text = head_text n e.session (length e.eco.edits); at = at } ∷ lines)
    ≡ entries t (Ok (edits_left t (left - 1) e.session (length e.eco.edits) [] all)) lines
entry_step t left n all e at lines next some small h =
    let edits = length e.eco.edits in
    let wide : edits < 2 ^ 64 = omega (arith, h.2.1) in
    let low : e.session < 2 ^ 64 = omega (arith, h.1) in
    let words : words_of (record { text = head_text n e.session edits; at = at }) ≡ placed at (codes "entry" ∷ head_words n e.session edits) =
    words_back (head_text n e.session edits) (codes "entry") (head_words n e.session edits) at (head_line n e.session edits) refl
    (head_graphic n e.session edits small low wide) in
    rw (some_entry t left all some)
    (head_step t left n all (record { text = head_text n e.session edits; at = at }) lines (record { session = e.session; edits = edits }) next
    (rw (words, head_back n e.session edits at small h.0 h.1 h.2.0 h.2.1) refl))

pub four : (a b c d : List ℕ) → a ++ b ++ c ++ d ≡ a ++ (b ++ (c ++ d))
four a b c d = rw (append_assoc (a ++ b) c d, append_assoc a b (c ++ d)) refl

pub entries_back : (t : Text) (n : ℕ) (all es : List Entry) (rest : List ℕ) (want : Result (List Entry) ReadFault)
    → AreEntries es → t.first + length all + 1 ≡ n → n + length es ≤ 2 ^ 64
    → ((at : ℕ) → entries t (Ok (entries_left t 0 (all ++ es))) (placed at (cut_lines rest)) ≡ want)
    → (at : ℕ) → entries t (Ok (entries_left t (length es) all)) (placed at (cut_lines (entries_text n es ++ rest))) ≡ want
unfolding placed
entries_back t n all [] rest want h next fits behind at = rw (append-nil all) at (behind at)
entries_back t n all (e ∷ es) rest want h next fits behind at =
    let edits = e.eco.edits in
    let head = head_text n e.session (length edits) in
    let small : n < 2 ^ 64 = omega (arith, fits) in
    let wide : length edits < 2 ^ 64 = omega (arith, h.0.2.1) in
    let low : e.session < 2 ^ 64 = omega (arith, h.0.1) in
    let less : length (e ∷ es) - 1 ≡ length es = omega arith in
    let after : t.first + length (all ++ e ∷ []) + 1 ≡ n + 1 = omega (arith, next, length-append all (e ∷ [])) in
    let fit : n + 1 + length es ≤ 2 ^ 64 = omega (arith, fits) in
    rw (
      four (line head) (edit_lines edits) (entries_text (n + 1) es) rest,
      line_back head (codes "entry") (head_words n e.session (length edits)) (edit_lines edits ++ (entries_text (n + 1) es ++ rest))
          (head_line n e.session (length edits)) refl (head_graphic n e.session (length edits) small low wide),
      entry_step t (length (e ∷ es)) n all e at
          (placed (at + length head + 1) (cut_lines (edit_lines edits ++ (entries_text (n + 1) es ++ rest)))) next (omega arith) small h.0,
      less,
    )
    (edits_back t (length es) e.session [] edits all (entries_text (n + 1) es ++ rest) want h.0.2.2
    (entries_back t (n + 1) (all ++ e ∷ []) es rest want h.1 after fit (λ i. rw (append_assoc all (e ∷ []) es) (behind i)))
    (at + length head + 1))

-- the first line of a journal
pub count_graphic : (n : ℕ) → n < 2 ^ 64 → list_all graphic (codes "1" ∷ decimal n ∷ []) ≡ true
count_graphic n small = rw (decimal_graphic n small) refl

pub journal_words : (n : ℕ) → codes "journal 1" ++ number n ≡ joined (codes "journal") (codes "1" ∷ decimal n ∷ [])
journal_words n = rw (append-nil (decimal n)) refl

plain_words : (line : Part) (n at : ℕ) → n < 2 ^ 64 → plain_form line (placed at (codes "journal" ∷ codes "1" ∷ decimal n ∷ [])) ≡ Ok n
unfolding placed
plain_words line n at small = rw (decimal_name n small, number_back n small) refl

plain_back : (n at : ℕ) → n < 2 ^ 64 → plain_head (record { text = codes "journal 1" ++ number n; at = at }) ≡ Ok n
plain_back n at small =
    ap (plain_form (record { text = codes "journal 1" ++ number n; at = at }))
    (words_back (codes "journal 1" ++ number n) (codes "journal") (codes "1" ∷ decimal n ∷ []) at (journal_words n) refl
    (rw (decimal_graphic n small) refl))
    ∙ plain_words (record { text = codes "journal 1" ++ number n; at = at }) n at small

-- the bytes of a journal are read back as its entries
pub journal_back : (es : List Entry) → AreEntries es → length es < 2 ^ 64 → entries_of (journal_text es) ≡ Ok es
unfolding placed cut_lines entries
journal_back es h small =
    let t = journal (journal_text es) in
    let head = codes "journal 1" ++ number (length es) in
    rw (
      line_back head (codes "journal") (codes "1" ∷ decimal (length es) ∷ []) (entries_text 1 es) (journal_words (length es)) refl
          (rw (decimal_graphic (length es) small) refl),
      heading_step t (record { text = head; at = 0 }) (placed (0 + length head + 1) (cut_lines (entries_text 1 es))) (length es)
          (plain_back (length es) 0 small),
    )
    (rw (append-nil (entries_text 1 es)) at
    (entries_back t 1 [] es [] (Ok es) h (omega arith) (omega (arith, small)) (λ i. refl) (0 + length head + 1)))
