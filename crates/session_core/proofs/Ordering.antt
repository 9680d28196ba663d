-- Rows that are ordered for a script, after one row more and over a longer journal.
use Rattle.std.proofs.Common.{◌≡◌, ◌≢◌, ℕ, ◌+◌, ◌-◌, ◌≤◌, nat_eq, Bool, true, false, List, [], ◌∷◌, ◌++◌, length, map, Option, Some, None, refl, sym, ap, subst, ◌∙◌, arith, append-nil}
use Rattle.std.specs.List.{slice_get, cons_option, filter}
use Rattle.std.specs.Option.{option_to_list}
use Rattle.std.proofs.lemmas.Bool.{eq-eqb, ne_eqb}
use Rattle.std.proofs.lemmas.List.{map-append}
use Rattle.std.proofs.lemmas.List.Elements.{filter-append}
use Rattle.std.proofs.lemmas.Option.{none-some, same_Some}
use Rattle.timing_defs.specs.declared.edits.Entry.{Entry}
use Rattle.timing_defs.specs.declared.scripts.Command.{Command}
use Rattle.timing_rules.specs.Sessions.{Mark, Suits, OrderedFrom, ecos_of}
use Rattle.session_core.specs.declared.rows.CoreRow.{CoreRow}
use Rattle.session_core.specs.Law.{accepted_by, accepted_of}

-- the number of the last row, or the number before all rows
abbrev pub last_number : ℕ → List Mark → ℕ
last_number before [] = before
last_number before (row ∷ rows) = last_number row.number rows

-- whether a row stands there
abbrev pub has_row : Bool → List Mark → Bool
has_row begun [] = begun
has_row begun (row ∷ rows) = has_row true rows

pub last_number-push : (before : ℕ) (rows : List Mark) (row : Mark) → last_number before (rows ++ row ∷ []) ≡ row.number
last_number-push before [] row = refl
last_number-push before (r ∷ rs) row = last_number-push r.number rs row

pub has_row-push : (begun : Bool) (rows : List Mark) (row : Mark) → has_row begun (rows ++ row ∷ []) ≡ true
has_row-push begun [] row = refl
has_row-push begun (r ∷ rs) row = has_row-push true rs row

pub ordered_push : (journal : List Entry) (first session : ℕ) (begun : Bool) (place before : ℕ) (commands : List Command) (rows : List Mark) (command : Command) (row : Mark)
    → OrderedFrom journal first session begun place before commands rows → slice_get commands (length rows) ≡ Some command
    → row.command ≡ place + length rows → last_number before rows ≤ row.number → row.number ≤ first + length journal
    → Suits journal first session (has_row begun rows) (last_number before rows) command row.number row.sort
    → OrderedFrom journal first session begun place before commands (rows ++ row ∷ [])
ordered_push journal first session begun place before [] rows command row h e at_place low high suits = absurd (none-some command e)
ordered_push journal first session begun place before (c ∷ cs) [] command row h e at_place low high suits =
    let same : command ≡ c = sym (same_Some c command e) in
    let fits : Suits journal first session begun before c row.number row.sort =
    subst (λ (d : Command). Suits journal first session begun before d row.number row.sort) same suits in
    (omega arith, low, high, fits, tt)
ordered_push journal first session begun place before (c ∷ cs) (r ∷ rs) command row h e at_place low high suits =
    (h.0, h.1, h.2, h.3, ordered_push journal first session true (place + 1) r.number cs rs command row h.4 e (omega arith) low high suits)

-- the ECOs of the accepted rows, after one row more
pub accepted_none : (commands : List Command) → accepted_of commands [] ≡ []
accepted_none [] = refl
accepted_none (command ∷ commands) = refl

cons_option-append : {X : Type 0} (o : Option X) (xs ys : List X) → cons_option o (xs ++ ys) ≡ cons_option o xs ++ ys
cons_option-append None xs ys = refl
cons_option-append (Some x) xs ys = refl

cons_option-nil : {X : Type 0} (o : Option X) → cons_option o [] ≡ option_to_list o
cons_option-nil None = refl
cons_option-nil (Some x) = refl

pub accepted_of-push : (commands : List Command) (rows : List CoreRow) (command : Command) (row : CoreRow) → slice_get commands (length rows) ≡ Some command
    → accepted_of commands (rows ++ row ∷ []) ≡ accepted_of commands rows ++ option_to_list (accepted_by command row.sort)
accepted_of-push [] rows command row e = absurd (none-some command e)
accepted_of-push (c ∷ cs) [] command row e =
    ap (cons_option (accepted_by c row.sort)) (accepted_none cs) ∙ cons_option-nil (accepted_by c row.sort)
    ∙ ap (λ d. option_to_list (accepted_by d row.sort)) (same_Some c command e)
accepted_of-push (c ∷ cs) (r ∷ rs) command row e =
    ap (cons_option (accepted_by c r.sort)) (accepted_of-push cs rs command row e)
    ∙ cons_option-append (accepted_by c r.sort) (accepted_of cs rs) (option_to_list (accepted_by command row.sort))

-- the ECOs of a session, after one entry more
ecos_of-push : (session : ℕ) (journal : List Entry) (entry : Entry)
    → ecos_of session (journal ++ entry ∷ []) ≡ ecos_of session journal ++ ecos_of session (entry ∷ [])
ecos_of-push session journal entry =
    ap (map (λ (e : Entry). e.eco)) (filter-append (λ (e : Entry). nat_eq e.session session) journal (entry ∷ []))
    ∙ map-append (λ (e : Entry). e.eco) (filter (λ (e : Entry). nat_eq e.session session) journal) (filter (λ (e : Entry). nat_eq e.session session) (entry ∷ []))

pub ecos_of-own : (session : ℕ) (journal : List Entry) (entry : Entry) → entry.session ≡ session
    → ecos_of session (journal ++ entry ∷ []) ≡ ecos_of session journal ++ entry.eco ∷ []
ecos_of-own session journal entry same =
    let mine : nat_eq entry.session session ≡ true = eq-eqb entry.session session same in
    ecos_of-push session journal entry ∙ rw mine refl

pub ecos_of-other : (session : ℕ) (journal : List Entry) (entry : Entry) → entry.session ≢ session
    → ecos_of session (journal ++ entry ∷ []) ≡ ecos_of session journal
ecos_of-other session journal entry other =
    let others : nat_eq entry.session session ≡ false = ne_eqb entry.session session other in
    ecos_of-push session journal entry ∙ rw others (append-nil (ecos_of session journal))
