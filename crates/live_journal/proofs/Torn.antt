-- A beginning of blocks of one entry each, behind a saved journal: where it ends in a line feed, whole blocks are read or none.
use Rattle.std.proofs.Common.{◌≡◌, ◌⊎◌, ℕ, suc, ◌+◌, ◌-◌, ◌^◌, ◌<◌, ◌≤◌, true, List, [], ◌∷◌, ◌++◌, length, take, refl, sym, ap, subst, ◌∙◌, arith, append_assoc, append-nil, length-append, inl, inr}
use Rattle.std.specs.Prelude.{None, Result, Ok, Err, codes, decimal, ◌==◌, nat_le}
use Rattle.std.specs.List.{list_all}
use mathlib.Core.List.{IsPrefix}
use Rattle.timing_defs.specs.Output.{number, line, edit_text, entry_text, entries_text}
use Rattle.timing_defs.specs.Saved.{derates_text, block_text}
use Rattle.timing_defs.specs.declared.codes.Code.TheVariants.{JournalBadLine}
use Rattle.timing_defs.specs.declared.codes.ReadFault.{ReadFault}
use Rattle.timing_defs.specs.declared.codes.ReadFault.TheVariants.{At}
use Rattle.timing_defs.specs.declared.constraints.Derates.{Derates}
use Rattle.timing_defs.specs.declared.edits.Edit.{Edit}
use Rattle.timing_defs.specs.declared.edits.Entry.{Entry}
use Rattle.eco_journal.specs.Lines.{Part, cut_lines, placed, words_of}
use Rattle.eco_journal.specs.Journal.{Text, block, factors, entry_head, entries_left, edits_left, edit_at, at_end, entries, saved_of}
use Rattle.eco_journal.specs.Written.{IsEntry, AreEntries, IsEdit, AreEdits, edits_text}
use Rattle.eco_journal.specs.Blocks.{AreFactors, blocks_text}
use Rattle.eco_journal.proofs.Joined.{graphic, joined, is_printed, printed_line}
use Rattle.eco_journal.proofs.NumbersBack.{decimal_graphic, decimal_name, number_back}
use Rattle.eco_journal.proofs.EditsBack.{more, verb_of, args_of, edit_line, edit_back, verb_graphic, args_graphic}
use Rattle.eco_journal.proofs.JournalLemmas.{block_step, factors_step, head_step, some_edit}
use Rattle.eco_journal.proofs.JournalBack.{words_back, line_back, four}
use Rattle.eco_journal.proofs.BlockBack.{scaled_text, scaled_words, scaled_line, scaled_graphic, factors_words, factors_line, factors_graphic, factors_back}
use Rattle.live_journal.specs.Desk.{single}
use Rattle.live_journal.specs.Ends.{ends_whole, ReadsFirst}
use Rattle.live_journal.proofs.SavedBack.{saved_text, cut_whole, placed_both, reads_on, head_read, same_self}

no_feed : (b : ℕ) → is_printed b ≡ true → (b == 10) ≡ true → ⊥
no_feed b h k = grind (arith, h, k)

whole_tail : (b : ℕ) (bs : List ℕ) → ends_whole (b ∷ bs) ≡ true → ends_whole bs ≡ true
whole_tail b [] whole = refl
whole_tail b (c ∷ bs) whole = whole

-- a beginning that ends in a line feed has nothing of a line, or all of it
whole_line : (text rest p : List ℕ) → list_all is_printed text ≡ true → IsPrefix p (line text ++ rest) → ends_whole p ≡ true
    → (p ≡ []) ⊎ ((more' : List ℕ) × (p ≡ line text ++ more') × IsPrefix more' rest × (ends_whole more' ≡ true))
whole_line text rest [] printed pre whole = inl refl
whole_line [] rest (b ∷ bs) printed pre whole =
    let same : bs ++ pre.0 ≡ rest = cc in
    let feed : b ≡ 10 = cc in
    inr (bs, ap (λ c. c ∷ bs) feed, (pre.0, same), whole_tail b bs whole)
whole_line (t ∷ ts) rest (b ∷ bs) printed pre whole =
    let same : bs ++ pre.0 ≡ line ts ++ rest = cc in
    let first : b ≡ t = cc in
    let here : is_printed t ≡ true = grind arith in
    let behind : list_all is_printed ts ≡ true = grind arith in
    elim (whole_line ts rest bs behind (pre.0, same) (whole_tail b bs whole)) [
      | inl none ↦ absurd (no_feed b (subst (λ c. is_printed c ≡ true) (sym first) here) (subst (λ cs. ends_whole (b ∷ cs) ≡ true) none whole))
      | inr s ↦ inr (s.0, (λ i. first i ∷ s.1 i), s.2, s.3)
    ]

-- what is true of nothing and of all beginnings that have the line
by_line : (P : List ℕ → Type 0) (text first : List ℕ) (words : List (List ℕ)) (rest p : List ℕ) → text ≡ joined first words
    → graphic first ≡ true → list_all graphic words ≡ true → IsPrefix p (line text ++ rest) → ends_whole p ≡ true
    → P [] → ((behind : List ℕ) → IsPrefix behind rest → ends_whole behind ≡ true → P (line text ++ behind)) → P p
by_line P text first words rest p same h hs pre whole none all =
    elim (whole_line text rest p (rw same (printed_line first words h hs)) pre whole) [
      | inl e ↦ subst P (sym e) none
      | inr s ↦ subst P (sym s.1) (all s.0 s.2 s.3)
    ]

-- the lines of an entry
edit_at_back : (e : Edit) (at : ℕ) → IsEdit e → edit_at (record { text = edit_text e; at = at }) ≡ Ok e
edit_at_back e at h =
    rw (words_back (edit_text e) (verb_of e) (args_of e) at (edit_line e) (verb_graphic e) (args_graphic e h), edit_back e at h) refl

edit_step : (t : Text) (left session ahead n : ℕ) (edits : List Edit) (all : List Entry) (e : Edit) (at : Part) (lines : List Part)
    → ahead ≡ n + 1 → edit_at at ≡ Ok e
    → entries t (Ok (edits_left t left session ahead edits all)) (at ∷ lines)
    ≡ entries t (Ok (edits_left t left session n (edits ++ e ∷ []) all)) lines
unfolding entries
edit_step t left session ahead n edits all e at lines one read =
    let some : 0 < ahead = omega (arith, one) in
    let less : ahead - 1 ≡ n = omega (arith, one) in
    rw (some_edit t left session ahead edits all some, read, less) refl

abbrev head_text : ℕ → ℕ → ℕ → List ℕ
head_text n session edits = codes "entry" ++ number n ++ codes " session" ++ number session ++ codes " edits" ++ number edits

abbrev head_words : ℕ → ℕ → ℕ → List (List ℕ)
head_words n session edits = decimal n ∷ codes "session" ∷ decimal session ∷ codes "edits" ∷ decimal edits ∷ []

head_line : (n session edits : ℕ) → head_text n session edits ≡ joined (codes "entry") (head_words n session edits)
head_line n session edits =
    rw (append-nil (number edits)) (more (codes "entry") (decimal n) (codes "session") (decimal session) (codes "edits") (number edits))

head_graphic : (n session edits : ℕ) → n < 2 ^ 64 → session < 2 ^ 64 → edits < 2 ^ 64 → list_all graphic (head_words n session edits) ≡ true
head_graphic n session edits hn hs he = rw (decimal_graphic n hn, decimal_graphic session hs, decimal_graphic edits he) refl

head_back : (n session edits at : ℕ) → n < 2 ^ 64 → 1 ≤ session → session ≤ 16 → 1 ≤ edits → edits ≤ 1000
    → entry_head n (placed at (codes "entry" ∷ head_words n session edits)) ≡ Ok (record { session = session; edits = edits })
unfolding placed
head_back n session edits at hn some few one most =
    let small : session < 2 ^ 64 = omega (arith, few) in
    let short : edits < 2 ^ 64 = omega (arith, most) in
    let same : (n == n) ≡ true = grind arith in
    let s1 : nat_le 1 session ≡ true = grind arith in
    let s2 : nat_le session 16 ≡ true = grind arith in
    let e1 : nat_le 1 edits ≡ true = grind arith in
    let e2 : nat_le edits 1000 ≡ true = grind arith in
    rw (
      decimal_name n hn,
      decimal_name session small,
      decimal_name edits short,
      number_back n hn,
      same,
      number_back session small,
      s1,
      s2,
      number_back edits short,
      e1,
      e2,
    ) refl

entry_step : (d : Derates) (size n : ℕ) (all : List Entry) (e : Entry) (at : ℕ) (lines : List Part)
    → length all + 1 ≡ n → n < 2 ^ 64 → IsEntry e
    → entries (saved_text d size) (Ok (entries_left (saved_text d size) 1 all)) (record { text = head_text n e.session (length e.eco.edits); at = at } ∷ lines)
    ≡ entries (saved_text d size) (Ok (edits_left (saved_text d size) 0 e.session (length e.eco.edits) [] all)) lines
entry_step d size n all e at lines next small h =
    let edits = length e.eco.edits in
    let wide : edits < 2 ^ 64 = omega (arith, h.2.1) in
    let low : e.session < 2 ^ 64 = omega (arith, h.1) in
    let words : words_of (record { text = head_text n e.session edits; at = at }) ≡ placed at (codes "entry" ∷ head_words n e.session edits) =
    words_back (head_text n e.session edits) (codes "entry") (head_words n e.session edits) at (head_line n e.session edits) refl
    (head_graphic n e.session edits small low wide) in
    head_step (saved_text d size) 1 n all (record { text = head_text n e.session edits; at = at }) lines (record { session = e.session; edits = edits }) (omega (arith, next))
    (rw (words, head_back n e.session edits at small h.0 h.1 h.2.0 h.2.1) refl)

by_edits : (size : ℕ) (d : Derates) (session : ℕ) (before ahead : List Edit) (all : List Entry) (rest : List ℕ) (P : List ℕ → Result (List Entry) ReadFault → Type 0)
    → AreEdits ahead → ((p : List ℕ) → P p (Err (At JournalBadLine size)))
    → ((p : List ℕ) → IsPrefix p rest → ends_whole p ≡ true → (at : ℕ)
    → P (edits_text ahead ++ p) (entries (saved_text d size) (Ok (edits_left (saved_text d size) 0 session 0 (before ++ ahead) all)) (placed at (cut_lines p))))
    → (p : List ℕ) → IsPrefix p (edits_text ahead ++ rest) → ends_whole p ≡ true → (at : ℕ)
    → P p (entries (saved_text d size) (Ok (edits_left (saved_text d size) 0 session (length ahead) before all)) (placed at (cut_lines p)))
unfolding placed entries cut_lines
by_edits size d session before [] all rest P h none behind p pre whole at =
    subst (λ edits. P p (entries (saved_text d size) (Ok (edits_left (saved_text d size) 0 session 0 edits all)) (placed at (cut_lines p)))) (append-nil before)
    (behind p pre whole at)
by_edits size d session before (e ∷ es) all rest P h none behind p pre whole at =
    let t = saved_text d size in
    by_line (λ q. P q (entries t (Ok (edits_left t 0 session (length (e ∷ es)) before all)) (placed at (cut_lines q))))
    (edit_text e) (verb_of e) (args_of e) (edits_text es ++ rest) p (edit_line e) (verb_graphic e) (args_graphic e h.0)
    (pre.0, pre.1 ∙ append_assoc (line (edit_text e)) (edits_text es) rest) whole
    (subst (λ state. P [] (at_end t state)) (sym (some_edit t 0 session (length (e ∷ es)) before all (omega arith))) (none []))
    (λ q pre' whole'.
    rw (
      line_back (edit_text e) (verb_of e) (args_of e) q (edit_line e) (verb_graphic e) (args_graphic e h.0),
      edit_step t 0 session (length (e ∷ es)) (length es) before all e (record { text = edit_text e; at = at })
          (placed (at + length (edit_text e) + 1) (cut_lines q)) (omega arith) (edit_at_back e at h.0),
    )
    (by_edits size d session (before ++ e ∷ []) es all rest (λ r read. P (line (edit_text e) ++ r) read) h.1 (λ r. none (line (edit_text e) ++ r))
    (λ r pre'' whole'' at'.
    subst (λ edits. P (line (edit_text e) ++ (edits_text es ++ r)) (entries t (Ok (edits_left t 0 session 0 edits all)) (placed at' (cut_lines r))))
    (sym (append_assoc before (e ∷ []) es))
    (subst (λ w. P w (entries t (Ok (edits_left t 0 session 0 (before ++ e ∷ es) all)) (placed at' (cut_lines r))))
    (append_assoc (line (edit_text e)) (edits_text es) r) (behind r pre'' whole'' at')))
    q pre' whole' (at + length (edit_text e) + 1)))

-- what is read of a beginning of blocks behind other entries
abbrev Reads : Derates → ℕ → ℕ → List Entry → List Entry → List ℕ → Result (List Entry) ReadFault → Type 0
Reads d size first all es p (Ok read) = (n : ℕ) × (read ≡ all ++ take n es) × (p ≡ blocks_text d first (single (take n es)))
Reads d size first all es p (Err fault) = fault ≡ At JournalBadLine size

-- the lines of a block of one entry
block_lines : (first : ℕ) (d : Derates) (e : Entry) (rest : List ℕ) → block_text first d (e ∷ []) ++ rest
    ≡ line (scaled_text first 1) ++ (line (derates_text d) ++ (line (head_text (first + 1) e.session (length e.eco.edits)) ++ (edits_text e.eco.edits ++ rest)))
block_lines first d e rest =
    four (line (scaled_text first 1)) (line (derates_text d)) (entries_text (first + 1) (e ∷ [])) rest
    ∙ ap (λ w. line (scaled_text first 1) ++ (line (derates_text d) ++ w))
    (ap (λ w. w ++ rest) (append-nil (entry_text (first + 1) e))
    ∙ append_assoc (line (head_text (first + 1) e.session (length e.eco.edits))) (edits_text e.eco.edits) rest)

reads_more : (d : Derates) (size first : ℕ) (all es : List Entry) (e : Entry) (p : List ℕ) (read : Result (List Entry) ReadFault)
    → Reads d size (first + 1) (all ++ e ∷ []) es p read
    → Reads d size first all (e ∷ es)
    (line (scaled_text first 1) ++ (line (derates_text d) ++ (line (head_text (first + 1) e.session (length e.eco.edits)) ++ (edits_text e.eco.edits ++ p)))) read
reads_more d size first all es e p (Ok read) h = (
  suc h.0,
  h.1 ∙ append_assoc all (e ∷ []) (take h.0 es),
  sym (block_lines first d e p) ∙ ap (λ w. block_text first d (e ∷ []) ++ w) h.2,
)
reads_more d size first all es e p (Err fault) h = h

torn_blocks : (size : ℕ) (d : Derates) (first : ℕ) (all es : List Entry) (p : List ℕ) → first ≡ length all → first + length es < 2 ^ 64
    → AreFactors d → AreEntries es → IsPrefix p (blocks_text d first (single es)) → ends_whole p ≡ true
    → (at : ℕ) → Reads d size first all es p (entries (saved_text d size) (Ok (block all)) (placed at (cut_lines p)))
unfolding placed entries cut_lines
torn_blocks size d first all [] [] same fits scaled lawful pre whole at = (0, sym (append-nil all), refl)
torn_blocks size d first all [] (b ∷ bs) same fits scaled lawful pre whole at = let no : (b ∷ bs) ++ pre.0 ≡ [] = pre.1 in absurd cc
torn_blocks size d first all (e ∷ es) p same fits scaled lawful pre whole at =
    let t = saved_text d size in
    let head = scaled_text first 1 in
    let top = head_text (first + 1) e.session (length e.eco.edits) in
    let edits = edits_text e.eco.edits in
    let rest = blocks_text d (first + 1) (single es) in
    let hf : first < 2 ^ 64 = omega (arith, fits) in
    let hc : 1 < 2 ^ 64 = omega arith in
    let factors_at = at + length head + 1 in
    let top_at = factors_at + length (derates_text d) + 1 in
    let edits_at = top_at + length top + 1 in
    let next : length all + 1 ≡ first + 1 = omega (arith, same) in
    let small : first + 1 < 2 ^ 64 = omega (arith, fits) in
    let fit : first + 1 + length es < 2 ^ 64 = omega (arith, fits) in
    let wide : length e.eco.edits < 2 ^ 64 = omega (arith, lawful.0.2.1) in
    let low : e.session < 2 ^ 64 = omega (arith, lawful.0.1) in
    let longer : first + 1 ≡ length (all ++ e ∷ []) = omega (arith, same, length-append all (e ∷ [])) in
    by_line (λ q. Reads d size first all (e ∷ es) q (entries t (Ok (block all)) (placed at (cut_lines q))))
    head (codes "journal") (scaled_words first 1) (line (derates_text d) ++ (line top ++ (edits ++ rest))) p (scaled_line first 1) refl (scaled_graphic first 1 hf hc)
    (pre.0, pre.1 ∙ block_lines first d e rest) whole
    (0, sym (append-nil all), refl)
    (λ q pre' whole'.
    rw (
      line_back head (codes "journal") (scaled_words first 1) q (scaled_line first 1) refl (scaled_graphic first 1 hf hc),
      block_step t all (record { text = head; at = at }) (placed factors_at (cut_lines q)),
      head_read size first 1 at d all same hf hc,
    )
    (by_line (λ q. Reads d size first all (e ∷ es) (line head ++ q) (entries t (Ok (factors at None 1 all)) (placed factors_at (cut_lines q))))
    (derates_text d) (codes "derates") (factors_words d) (line top ++ (edits ++ rest)) q (factors_line d) refl (factors_graphic d scaled) pre' whole'
    refl
    (λ q pre' whole'.
    rw (
      line_back (derates_text d) (codes "derates") (factors_words d) q (factors_line d) refl (factors_graphic d scaled),
      factors_step t at None 1 all (record { text = derates_text d; at = factors_at }) (placed top_at (cut_lines q)),
      factors_back d factors_at scaled,
      same_self d,
    )
    (by_line (λ q. Reads d size first all (e ∷ es) (line head ++ (line (derates_text d) ++ q)) (entries t (Ok (entries_left t 1 all)) (placed top_at (cut_lines q))))
    top (codes "entry") (head_words (first + 1) e.session (length e.eco.edits)) (edits ++ rest) q (head_line (first + 1) e.session (length e.eco.edits)) refl
    (head_graphic (first + 1) e.session (length e.eco.edits) small low wide) pre' whole'
    refl
    (λ q pre' whole'.
    rw (
      line_back top (codes "entry") (head_words (first + 1) e.session (length e.eco.edits)) q (head_line (first + 1) e.session (length e.eco.edits)) refl
          (head_graphic (first + 1) e.session (length e.eco.edits) small low wide),
      entry_step d size (first + 1) all e top_at (placed edits_at (cut_lines q)) next small lawful.0,
    )
    (by_edits size d e.session [] e.eco.edits all rest
    (λ q read. Reads d size first all (e ∷ es) (line head ++ (line (derates_text d) ++ (line top ++ q))) read)
    lawful.0.2.2 (λ q. refl)
    (λ q pre' whole' at'.
    reads_more d size first all es e q (entries t (Ok (block (all ++ e ∷ []))) (placed at' (cut_lines q)))
    (torn_blocks size d (first + 1) (all ++ e ∷ []) es q longer fit scaled lawful.1 pre' whole' at'))
    q pre' whole' edits_at))))))

as_first : (d : Derates) (size : ℕ) (saved es : List Entry) (p : List ℕ) (read : Result (List Entry) ReadFault)
    → Reads d size (length saved) saved es p read → ReadsFirst d saved es p size read
as_first d size saved es p (Ok all) h = h
as_first d size saved es p (Err fault) h = h

-- the same behind a saved journal
pub torn_behind : (d : Derates) (old torn' : List ℕ) (saved es : List Entry) → ends_whole old ≡ true → saved_of old d ≡ Ok saved
    → length saved + length es < 2 ^ 64 → AreFactors d → AreEntries es → IsPrefix torn' (blocks_text d (length saved) (single es)) → ends_whole torn' ≡ true
    → ReadsFirst d saved es torn' (length (old ++ torn')) (saved_of (old ++ torn') d)
torn_behind d old torn' saved es whole read fits scaled lawful pre ends =
    let m = length (old ++ torn') in
    let behind = placed_both 0 (cut_lines old) (cut_lines torn') in
    let same : saved_of (old ++ torn') d ≡ entries (saved_text d m) (Ok (block saved)) (placed behind.0 (cut_lines torn')) =
    ap (λ lines. entries (saved_text d m) (Ok (block [])) (placed 0 lines)) (cut_whole old torn' whole)
    ∙ ap (entries (saved_text d m) (Ok (block []))) behind.1
    ∙ reads_on d (length old) m (Ok (block [])) (placed 0 (cut_lines old)) (placed behind.0 (cut_lines torn')) saved tt read in
    subst (λ r. ReadsFirst d saved es torn' m r) (sym same)
    (as_first d m saved es torn' (entries (saved_text d m) (Ok (block saved)) (placed behind.0 (cut_lines torn')))
    (torn_blocks m d (length saved) saved es torn' refl fits scaled lawful pre ends behind.0))
