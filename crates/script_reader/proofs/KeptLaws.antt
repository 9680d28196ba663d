-- The ECOs and questions of a script that is read are as engines ask of them.
use Rattle.std.proofs.Common.{◌≡◌, ℕ, ◌+◌, ◌*◌, ◌-◌, ◌≤◌, Bool, true, false, List, [], ◌∷◌, ◌++◌, length, drop, cond, refl, sym, ap, subst, ◌∙◌, arith, length-append, length-drop}
use Rattle.std.specs.Prelude.{Option, Some, None, option_map, option_and_then, Result, Ok, Err, IfOk, nat_le, unwrap_or, codes, ◌==◌, ◌&&◌}
use Rattle.std.specs.List.{list_all}
use Rattle.std.proofs.lemmas.Bool.{cond_both, and_parts, and_from, le-leb, leb-true, false≢true}
use Rattle.std.proofs.lemmas.Bool.Decides.{nat_tests}
use Rattle.std.proofs.lemmas.List.{length-map}
use Rattle.std.proofs.lemmas.List.Folds.{list_all-append}
use Rattle.timing_defs.specs.declared.codes.ReadFault.{ReadFault}
use Rattle.timing_defs.specs.declared.edits.Edit.{Edit}
use Rattle.timing_defs.specs.declared.reports.Candidate.{Candidate}
use Rattle.timing_defs.specs.declared.reports.Query.{Query, items_hidden-the_row-Trial-0}
use Rattle.timing_defs.specs.declared.reports.Query.TheVariants.{Slew, At, Rat, Slack, Endpoint, WorstPath, Wns, Tns, Worst, Through, Paths, WhatIf', Advise, Closing}
use Rattle.timing_defs.specs.declared.reports.Trial.{Trial}
use Rattle.timing_defs.specs.declared.reports.Trial.TheVariants.{Drop, Ask as ask_draft}
use Rattle.timing_defs.specs.declared.scripts.Command.{Command}
use Rattle.timing_defs.specs.declared.scripts.Command.TheVariants.{Take, Await, Ask, Change}
use Rattle.timing_defs.specs.declared.scripts.Script.{Script}
use Rattle.timing_defs.specs.declared.kinds.Kind.{Kind}
use Rattle.timing_defs.specs.declared.closing.Aim.{Aim}
use Rattle.timing_defs.specs.declared.closing.ClosingQuery.{ClosingQuery}
use Rattle.timing_defs.specs.declared.closing.ClosingQuery.TheVariants.{WorstPaths, Skew}
use Rattle.timing_defs.specs.Documents.{is_edit, is_eco, is_count, is_closing, is_draft_trial}
use Rattle.script_reader.specs.Words.{may_be_tried}
use Rattle.sta_text.specs.declared.faults.Wrong.{Wrong}
use Rattle.sta_text.specs.Faults.{least_from}
use Rattle.sta_text.proofs.FaultsLemmas.{least_none}
use Rattle.eco_journal.specs.declared.stops.Stop.{Stop}
use Rattle.eco_journal.specs.Lines.{Part, lines_of}
use Rattle.eco_journal.specs.Words.{text, says, is_word, number_of, within}
use Rattle.eco_journal.specs.EditLines.{names, texts_of, edit_of}
use Rattle.eco_journal.specs.Journal.{Tells}
use Rattle.eco_journal.proofs.KeptLaws.{line_kept}
use Rattle.script_reader.specs.declared.commands.Node.{Node}
use Rattle.script_reader.specs.Words.{kind_of, endpoint_of, only_kind, are_pairs, candidates_of}
use Rattle.script_reader.specs.ClosingCommands.{name_asked, name_query, timing_asked, timing_query, timed_through_at, timed_through_of, each_of, worst_paths_at, worst_paths_of, kind_asked, kind_query, skew_of, advise_tns_at, advise_tns_of, aim_of, sizes_at, advise_sizes_of, first_closing, one_name, closing_of}
use Rattle.script_reader.specs.Commands.{words_in, node_of, worst_at, node_asked, node_query, endpoint_asked, endpoint_query, total_asked, total_query, through_at, through_of, paths_at, paths_of, path_query, advise_at, advise_query, closing, closing_query, first_of_two, awaited, asked, query_of, command_of}
use Rattle.script_reader.specs.Scripts.{Event, long, single, change, group_begin, group_end, draft_begin, draft_end, dropped, unknown, is_ascii, is_passed, is_alone, edit_said, command_said, words_said, line_said, too_long, events, Place, outside, inside, drafted, tried, eco, trial, what_if, commands, bad, behind, if_empty, excess, faults, told, script_of}
use Rattle.script_reader.specs.Answerable.{is_asked, is_read, is_answerable, are_answerable}

-- a command by itself, as a line says it
abbrev pub is_said : Command → Bool
is_said (Ask q) = is_read q
is_said (Change eco) = is_eco eco
is_said Take = true
is_said (Await number looks) = nat_le 1 looks

-- commands by themselves and edits, as lines say them
abbrev pub is_fine : Event → Bool
is_fine (single n command) = is_said command
is_fine (change n e) = is_edit e
is_fine e = true

pub record AreFine (es : List Event) : Type 0 where
  pub all : list_all is_fine es ≡ true

pub done : (es : List Event) → list_all is_fine es ≡ true → AreFine es
done es h = record { all = h }

join : (es fs : List Event) → AreFine es → AreFine fs → AreFine (es ++ fs)
join es fs h k = done (es ++ fs) (rw (list_all-append is_fine es fs) (rw (h.all, k.all) refl))

pub pick : (b : Bool) (es fs : List Event) → AreFine es → AreFine fs → AreFine (cond b es fs)
pick b es fs h k = cond_both b es fs AreFine (λ _. h) (λ _. k)

edit_fine : (n : ℕ) (r : Result Edit Stop) → ((e : Edit) → r ≡ Ok e → is_edit e ≡ true) → AreFine (edit_said n r)
edit_fine n (Ok e) h = done (change n e ∷ []) (rw (h e refl) refl)
edit_fine n (Err stop) h = done (unknown n ∷ []) refl

-- a command that no edit line gives changes nothing
abbrev IfSome : Option Command → Type 0
IfSome None = Unit {0}
IfSome (Some command) = is_said command ≡ true

-- a number within a range is one at least where the range begins there
one_at_least : (high : ℕ) (o : Option ℕ) (n : ℕ) → within 1 high o ≡ Some n → nat_le 1 n ≡ true
one_at_least high None n h = absurd (cc)
one_at_least high (Some m) n h = by_cases (nat_le 1 m) refl h
  where
    by_cases : (b : Bool) → nat_le 1 m ≡ b → cond (b && nat_le m high) (Some m) None ≡ Some n → nat_le 1 n ≡ true
    by_cases true e g = by_high (nat_le m high) g
      where
        by_high : (c : Bool) → cond c (Some m) None ≡ Some n → nat_le 1 n ≡ true
        by_high true k = rw (sym (ap (λ (o : Option ℕ). unwrap_or o m) k)) e
        by_high false k = absurd (cc)
    by_cases false e g = absurd (cc)

await_fine : (number looks : Option ℕ) → ((n : ℕ) → looks ≡ Some n → nat_le 1 n ≡ true) → IfSome (awaited number looks)
await_fine None looks h = tt
await_fine (Some number) None h = tt
await_fine (Some number) (Some looks) h = h looks refl

-- the questions are such as a script may ask
abbrev IfAsked : Option Query → Type 0
IfAsked None = Unit {0}
IfAsked (Some query) = is_read query ≡ true

node_fine : (words : List Part) (node : Option Node) → IfAsked (option_and_then (node_asked words) node)
node_fine words None = tt
node_fine words (Some n) =
    cond_both (says words 0 (codes "report_slew")) _ _ IfAsked (λ _. refl)
    (λ _. cond_both (says words 0 (codes "report_at")) _ _ IfAsked (λ _. refl)
    (λ _. cond_both (says words 0 (codes "report_rat")) _ _ IfAsked (λ _. refl)
    (λ _. cond_both (says words 0 (codes "report_slack")) _ _ IfAsked (λ _. refl) (λ _. tt))))

end_fine : (words : List Part) (end : Option (List ℕ × Kind)) → IfAsked (option_and_then (endpoint_asked words) end)
end_fine words None = tt
end_fine words (Some e) =
    cond_both (says words 0 (codes "report_endpoint")) _ _ IfAsked (λ _. refl)
    (λ _. cond_both (says words 0 (codes "report_path")) _ _ IfAsked (λ _. refl) (λ _. tt))

sum_fine : (words : List Part) (kind : Option Kind) → IfAsked (option_and_then (total_asked words) kind)
sum_fine words None = tt
sum_fine words (Some kind) =
    cond_both (says words 0 (codes "report_wns")) _ _ IfAsked (λ _. refl)
    (λ _. cond_both (says words 0 (codes "report_tns")) _ _ IfAsked (λ _. refl) (λ _. tt))

-- a number within a range from 1 is a count
worst_fine : (kind : Option Kind) (count : Option ℕ) → IfAsked (worst_at kind (within 1 100 count))
worst_fine None count = tt
worst_fine (Some kind) None = tt
worst_fine (Some kind) (Some n) =
    cond_both (nat_le 1 n && nat_le n 100) (Some n) None (λ count. IfAsked (worst_at (Some kind) count)) (λ h. h) (λ _. tt)

total_fine : (words : List Part) → IfAsked (total_query words)
total_fine words =
    cond_both (says words 0 (codes "report_worst")) _ _ IfAsked
    (λ _. cond_both (length words == 3) _ _ IfAsked
    (λ _. worst_fine (kind_of (text words 1)) (number_of (text words 2))) (λ _. tt))
    (λ _. sum_fine words (only_kind words))

paths_at_fine : (pin : List ℕ) (kind : Option Kind) (count : Option ℕ) → IfAsked (paths_at pin kind (within 1 100 count))
paths_at_fine pin None count = tt
paths_at_fine pin (Some kind) None = tt
paths_at_fine pin (Some kind) (Some n) =
    cond_both (nat_le 1 n && nat_le n 100) (Some n) None (λ count. IfAsked (paths_at pin (Some kind) count)) (λ h. h) (λ _. tt)

paths_fine : (words : List Part) → IfAsked (paths_of words)
paths_fine words =
    cond_both (length words == 4 && names words 1) _ _ IfAsked
    (λ _. paths_at_fine (text words 1) (kind_of (text words 2)) (number_of (text words 3))) (λ _. tt)

through_at_fine : (pin : List ℕ) (pins : List (List ℕ)) (kind : Option Kind) → is_count 16 (length pins) ≡ true → IfAsked (through_at pin pins kind)
through_at_fine pin pins None h = tt
through_at_fine pin pins (Some kind) h = h

-- behind three words of 4 to 19 stand 1 to 16
words_counted : (words : List Part) → nat_le 4 (length words) ≡ true → nat_le (length words) 19 ≡ true → is_count 16 (length (texts_of (drop 3 words))) ≡ true
words_counted words some few =
    let low : 4 ≤ length words = leb-true 4 (length words) some in
    let high : length words ≤ 19 = leb-true (length words) 19 few in
    let count : length (texts_of (drop 3 words)) ≡ length words - 3 = length-map (drop 3 words) (λ (w : Part). w.text) ∙ length-drop 3 words in
    and_from (nat_le 1 (length (texts_of (drop 3 words)))) (nat_le (length (texts_of (drop 3 words))) 16)
    (le-leb 1 (length (texts_of (drop 3 words))) (omega (arith, low, count))) (le-leb (length (texts_of (drop 3 words))) 16 (omega (arith, high, count)))

through_fine : (words : List Part) → IfAsked (through_of words)
through_fine words =
    cond_both (nat_le 4 (length words) && nat_le (length words) 19 && names words 1 && list_all is_word (drop 3 words)) _ _ IfAsked
    (λ h.
    let named = and_parts (nat_le 4 (length words) && nat_le (length words) 19 && names words 1) (list_all is_word (drop 3 words)) h in
    let counted = and_parts (nat_le 4 (length words) && nat_le (length words) 19) (names words 1) named.0 in
    let bounds = and_parts (nat_le 4 (length words)) (nat_le (length words) 19) counted.0 in
    through_at_fine (text words 1) (texts_of (drop 3 words)) (kind_of (text words 2)) (words_counted words bounds.0 bounds.1))
    (λ _. tt)

path_fine : (words : List Part) → IfAsked (path_query words)
path_fine words =
    cond_both (says words 0 (codes "report_through")) _ _ IfAsked (λ _. through_fine words)
    (λ _. cond_both (says words 0 (codes "report_paths")) _ _ IfAsked (λ _. paths_fine words) (λ _. tt))

-- names in pairs are twice as many as the candidates
pairs_counted : (words : List Part) → are_pairs words ≡ true → length words ≡ 2 * length (candidates_of words)
pairs_counted [] h = refl
pairs_counted (inst ∷ []) h = absurd (false≢true h)
pairs_counted (inst ∷ cell ∷ words) h =
    let more = pairs_counted words (and_parts (is_word inst && is_word cell) (are_pairs words) h).1 in omega (arith, more)

-- behind two words of 4 to 202 stand 1 to 100 pairs
candidates_counted : (words : List Part) → nat_le 4 (length words) ≡ true → nat_le (length words) 202 ≡ true → are_pairs (drop 2 words) ≡ true
    → is_count 100 (length (candidates_of (drop 2 words))) ≡ true
candidates_counted words some few pairs =
    let low : 4 ≤ length words = leb-true 4 (length words) some in
    let high : length words ≤ 202 = leb-true (length words) 202 few in
    let twice : length (drop 2 words) ≡ 2 * length (candidates_of (drop 2 words)) = pairs_counted (drop 2 words) pairs in
    let count : length (drop 2 words) ≡ length words - 2 = length-drop 2 words in
    and_from (nat_le 1 (length (candidates_of (drop 2 words)))) (nat_le (length (candidates_of (drop 2 words))) 100)
    (le-leb 1 (length (candidates_of (drop 2 words))) (omega (arith, low, twice, count)))
    (le-leb (length (candidates_of (drop 2 words))) 100 (omega (arith, high, twice, count)))

advise_at_fine : (candidates : List Candidate) (kind : Option Kind) → is_count 100 (length candidates) ≡ true → IfAsked (advise_at candidates kind)
advise_at_fine candidates None h = tt
advise_at_fine candidates (Some kind) h = h

advise_fine : (words : List Part) → IfAsked (advise_query words)
advise_fine words =
    cond_both (says words 0 (codes "advise")) _ _ IfAsked
    (λ _. cond_both (nat_le 4 (length words) && nat_le (length words) 202 && are_pairs (drop 2 words)) _ _ IfAsked
    (λ h.
    let paired = and_parts (nat_le 4 (length words) && nat_le (length words) 202) (are_pairs (drop 2 words)) h in
    let bounds = and_parts (nat_le 4 (length words)) (nat_le (length words) 202) paired.0 in
    advise_at_fine (candidates_of (drop 2 words)) (kind_of (text words 1)) (candidates_counted words bounds.0 bounds.1 paired.1))
    (λ _. tt))
    (λ _. tt)

-- the questions that closing timing needs are of their form
abbrev IfClosing : Option ClosingQuery → Type 0
IfClosing None = Unit {0}
IfClosing (Some query) = is_closing query ≡ true

name_fine : (words : List Part) (name : Option (List ℕ)) → IfClosing (option_and_then (name_asked words) name)
name_fine words None = tt
name_fine words (Some name) =
    cond_both (says words 0 (codes "report_net")) _ _ IfClosing (λ _. refl)
    (λ _. cond_both (says words 0 (codes "report_instance")) _ _ IfClosing (λ _. refl)
    (λ _. cond_both (says words 0 (codes "report_sizes")) _ _ IfClosing (λ _. refl) (λ _. tt)))

timing_fine : (words : List Part) (end : Option (List ℕ × Kind)) → IfClosing (option_and_then (timing_asked words) end)
timing_fine words None = tt
timing_fine words (Some e) = cond_both (says words 0 (codes "report_timing")) _ _ IfClosing (λ _. refl) (λ _. tt)

kind_fine : (words : List Part) (kind : Option Kind) → IfClosing (option_and_then (kind_asked words) kind)
kind_fine words None = tt
kind_fine words (Some kind) =
    cond_both (says words 0 (codes "report_failing")) _ _ IfClosing (λ _. refl)
    (λ _. cond_both (says words 0 (codes "report_summary")) _ _ IfClosing (λ _. refl) (λ _. tt))

timed_at_fine : (pin : List ℕ) (pins : List (List ℕ)) (kind : Option Kind) → is_count 16 (length pins) ≡ true → IfClosing (timed_through_at pin pins kind)
timed_at_fine pin pins None h = tt
timed_at_fine pin pins (Some kind) h = h

timed_fine : (words : List Part) → IfClosing (timed_through_of words)
timed_fine words =
    cond_both (nat_le 4 (length words) && nat_le (length words) 19 && names words 1 && list_all is_word (drop 3 words)) _ _ IfClosing
    (λ h.
    let named = and_parts (nat_le 4 (length words) && nat_le (length words) 19 && names words 1) (list_all is_word (drop 3 words)) h in
    let counted = and_parts (nat_le 4 (length words) && nat_le (length words) 19) (names words 1) named.0 in
    let bounds = and_parts (nat_le 4 (length words)) (nat_le (length words) 19) counted.0 in
    timed_at_fine (text words 1) (texts_of (drop 3 words)) (kind_of (text words 2)) (words_counted words bounds.0 bounds.1))
    (λ _. tt)

-- so many of each endpoint are at most so many of all
abbrev IfEach : Kind → ℕ → Option ℕ → Type 0
IfEach kind count each = IfClosing (option_map (λ (n : ℕ). WorstPaths kind count n) each)

within_fine : (kind : Kind) (count : ℕ) (each : Option ℕ) → is_count 100 count ≡ true → IfEach kind count (within 1 count each)
within_fine kind count None h = tt
within_fine kind count (Some n) h =
    cond_both (nat_le 1 n && nat_le n count) (Some n) None (IfEach kind count) (λ k. and_from (is_count 100 count) (is_count count n) h k) (λ _. tt)

each_fine : (words : List Part) (kind : Kind) (count : ℕ) → is_count 100 count ≡ true → IfEach kind count (each_of words count)
each_fine words kind count h =
    cond_both (length words == 3) _ _ (IfEach kind count)
    (λ _. and_from (is_count 100 count) (is_count count 1) h (and_parts (nat_le 1 count) (nat_le count 100) h).0)
    (λ _. cond_both (length words == 5 && says words 3 (codes "each")) _ _ (IfEach kind count)
    (λ _. within_fine kind count (number_of (text words 4)) h) (λ _. tt))

worst_paths_fine : (words : List Part) (kind : Option Kind) (count : Option ℕ) → IfClosing (worst_paths_at words kind (within 1 100 count))
worst_paths_fine words None count = tt
worst_paths_fine words (Some kind) None = tt
worst_paths_fine words (Some kind) (Some n) =
    cond_both (nat_le 1 n && nat_le n 100) (Some n) None (λ count. IfClosing (worst_paths_at words (Some kind) count))
    (λ h. each_fine words kind n h) (λ _. tt)

tns_at_fine : (candidates : List Candidate) (kind : Option Kind) → is_count 100 (length candidates) ≡ true → IfClosing (advise_tns_at candidates kind)
tns_at_fine candidates None h = tt
tns_at_fine candidates (Some kind) h = h

tns_fine : (words : List Part) → IfClosing (advise_tns_of words)
tns_fine words =
    cond_both (nat_le 4 (length words) && nat_le (length words) 202 && are_pairs (drop 2 words)) _ _ IfClosing
    (λ h.
    let paired = and_parts (nat_le 4 (length words) && nat_le (length words) 202) (are_pairs (drop 2 words)) h in
    let bounds = and_parts (nat_le 4 (length words)) (nat_le (length words) 202) paired.0 in
    tns_at_fine (candidates_of (drop 2 words)) (kind_of (text words 1)) (candidates_counted words bounds.0 bounds.1 paired.1))
    (λ _. tt)

-- behind three words of 4 or more stands one at least
one_counted : (words : List Part) → nat_le 4 (length words) ≡ true → nat_le 1 (length (texts_of (drop 3 words))) ≡ true
one_counted words some =
    let low : 4 ≤ length words = leb-true 4 (length words) some in
    let count : length (texts_of (drop 3 words)) ≡ length words - 3 = length-map (drop 3 words) (λ (w : Part). w.text) ∙ length-drop 3 words in
    le-leb 1 (length (texts_of (drop 3 words))) (omega (arith, low, count))

sizes_at_fine : (insts : List (List ℕ)) (kind : Option Kind) (aim : Option Aim) → nat_le 1 (length insts) ≡ true → IfClosing (sizes_at insts kind aim)
sizes_at_fine insts None aim h = tt
sizes_at_fine insts (Some kind) None h = tt
sizes_at_fine insts (Some kind) (Some aim) h = h

sizes_fine : (words : List Part) → IfClosing (advise_sizes_of words)
sizes_fine words =
    cond_both (nat_le 4 (length words) && list_all is_word (drop 3 words)) _ _ IfClosing
    (λ h. sizes_at_fine (texts_of (drop 3 words)) (kind_of (text words 1)) (aim_of (text words 2))
    (one_counted words (and_parts (nat_le 4 (length words)) (list_all is_word (drop 3 words)) h).0))
    (λ _. tt)

first_fine : (first other : Option ClosingQuery) → IfClosing first → IfClosing other → IfClosing (first_closing first other)
first_fine None other h k = k
first_fine (Some query) other h k = h

closing_said : (words : List Part) → IfClosing (closing_of words)
closing_said words =
    cond_both (says words 0 (codes "report_timing_through")) _ _ IfClosing (λ _. timed_fine words)
    (λ _. cond_both (says words 0 (codes "report_worst_paths")) _ _ IfClosing
    (λ _. worst_paths_fine words (kind_of (text words 1)) (number_of (text words 2)))
    (λ _. cond_both (says words 0 (codes "report_skew")) _ _ IfClosing
    (λ _. cond_both (length words == 1) (Some Skew) None IfClosing (λ _. refl) (λ _. tt))
    (λ _. cond_both (says words 0 (codes "advise_tns")) _ _ IfClosing (λ _. tns_fine words)
    (λ _. cond_both (says words 0 (codes "advise_sizes")) _ _ IfClosing (λ _. sizes_fine words)
    (λ _. first_fine (name_query words) (first_closing (timing_query words) (kind_query words)) (name_fine words (one_name words))
    (first_fine (timing_query words) (kind_query words) (timing_fine words (endpoint_of words)) (kind_fine words (only_kind words))))))))

closed_fine : (query : Option ClosingQuery) → IfClosing query → IfAsked (option_map closing query)
closed_fine None h = tt
closed_fine (Some query) h = h

two_fine : (first other : Option Query) → IfAsked first → IfAsked other → IfAsked (first_of_two first other)
two_fine None other h k = k
two_fine (Some query) other h k = h

-- the questions that are tried behind each
abbrev behind_paths : List Part → Option Query
behind_paths words = first_of_two (advise_query words) (closing_query words)

abbrev behind_totals : List Part → Option Query
behind_totals words = first_of_two (path_query words) (behind_paths words)

abbrev behind_ends : List Part → Option Query
behind_ends words = first_of_two (total_query words) (behind_totals words)

abbrev behind_nodes : List Part → Option Query
behind_nodes words = first_of_two (endpoint_query words) (behind_ends words)

query_fine : (words : List Part) → IfAsked (query_of words)
query_fine words =
    two_fine (node_query words) (behind_nodes words) (node_fine words (node_of words))
    (two_fine (endpoint_query words) (behind_ends words) (end_fine words (endpoint_of words))
    (two_fine (total_query words) (behind_totals words) (total_fine words)
    (two_fine (path_query words) (behind_paths words) (path_fine words)
    (two_fine (advise_query words) (closing_query words) (advise_fine words) (closed_fine (closing_of words) (closing_said words))))))

asked_fine : (query : Option Query) → IfAsked query → IfSome (option_map asked query)
asked_fine None h = tt
asked_fine (Some query) h = h

command_fine : (words : List Part) → IfSome (command_of words)
unfolding command_of
command_fine words =
    cond_both (says words 0 (codes "take")) _ _ IfSome
    (λ _. cond_both (length words == 1) (Some Take) None IfSome (λ _. refl) (λ _. tt))
    (λ _. cond_both (says words 0 (codes "await")) _ _ IfSome
    (λ _. cond_both (length words == 3) _ _ IfSome
    (λ _. await_fine (within 0 18446744073709551615 (number_of (text words 1))) (within 1 1000 (number_of (text words 2)))
    (λ n read. one_at_least 1000 (number_of (text words 2)) n read)) (λ _. tt))
    (λ _. asked_fine (query_of words) (query_fine words)))

said_fine : (n : ℕ) (words : List Part) (command : Option Command) → IfSome command → AreFine (command_said n words command)
said_fine n words None h = edit_fine n (edit_of true words) (λ e read. line_kept true words e read)
said_fine n words (Some command) h = done (single n command ∷ []) (rw h refl)

words_fine : (n : ℕ) (words : List Part) → AreFine (words_said n words)
words_fine n words =
    pick (is_passed words) _ _ (done [] refl)
    (pick (is_alone words (codes "begin_eco")) _ _ (done (group_begin n ∷ []) refl)
    (pick (is_alone words (codes "commit_eco")) _ _ (done (group_end n ∷ []) refl)
    (pick (is_alone words (codes "begin_what_if")) _ _ (done (draft_begin n ∷ []) refl)
    (pick (is_alone words (codes "end_what_if")) _ _ (done (draft_end n ∷ []) refl)
    (pick (is_alone words (codes "drop_last")) _ _ (done (dropped n ∷ []) refl) (said_fine n words (command_of words) (command_fine words)))))))

pub line_fine : (n : ℕ) (line : List ℕ) → AreFine (line_said n line)
line_fine n line = pick (list_all is_ascii line) _ _ (words_fine n (words_in line)) (done (unknown n ∷ []) refl)

long_fine : (n : ℕ) (line : List ℕ) → AreFine (too_long n line)
long_fine n line = pick (nat_le (length line) 65536) _ _ (done [] refl) (done (long n ∷ []) refl)

all_fine : (n : ℕ) (lines : List Part) → AreFine (events n lines)
unfolding events
all_fine n [] = done [] refl
all_fine n (line ∷ lines) =
    join (too_long n line.text) (line_said n line.text ++ events (n + 1) lines) (long_fine n line.text)
    (join (line_said n line.text) (events (n + 1) lines) (line_fine n line.text) (all_fine (n + 1) lines))

-- a list without faults has none in its parts
behind_none : (limit before n : ℕ) (rest : List Wrong) → behind limit before n ++ rest ≡ [] → (nat_le limit before ≡ false) × (rest ≡ [])
behind_none limit before n rest h = by_cases (nat_le limit before) refl h
  where
    by_cases : (b : Bool) → nat_le limit before ≡ b → cond b (excess n ∷ []) [] ++ rest ≡ [] → (nat_le limit before ≡ false) × (rest ≡ [])
    by_cases true e g = absurd (cc)
    by_cases false e g = (e, g)

-- a question that a line asks may be asked, and of a draft where it is about none
asked_said : (q : Query) → is_read q ≡ true → is_asked q ≡ true
asked_said (Slew pin split tran) h = refl
asked_said (At pin split tran) h = refl
asked_said (Rat pin split tran) h = refl
asked_said (Slack pin split tran) h = refl
asked_said (Endpoint pin kind) h = refl
asked_said (WorstPath pin kind) h = refl
asked_said (Wns kind) h = refl
asked_said (Tns kind) h = refl
asked_said (Worst kind count) h = refl
asked_said (Through pin kind pins) h = h
asked_said (Paths pin kind count) h = h
asked_said (WhatIf' shape trials) h = h
asked_said (Advise kind candidates) h = h
asked_said (Closing query) h = h

pub trial_said : (q : Query) → is_read q ≡ true → may_be_tried q ≡ true → is_draft_trial (ask_draft q) ≡ true
trial_said (Slew pin split tran) h plain = refl
trial_said (At pin split tran) h plain = refl
trial_said (Rat pin split tran) h plain = refl
trial_said (Slack pin split tran) h plain = refl
trial_said (Endpoint pin kind) h plain = refl
trial_said (WorstPath pin kind) h plain = refl
trial_said (Wns kind) h plain = refl
trial_said (Tns kind) h plain = refl
trial_said (Worst kind count) h plain = h
trial_said (Through pin kind pins) h plain = h
trial_said (Paths pin kind count) h plain = h
trial_said (WhatIf' shape trials) h plain = absurd (false≢true plain)
trial_said (Advise kind candidates) h plain = h
trial_said (Closing query) h plain = h

pub answerable_said : (c : Command) → is_said c ≡ true → is_answerable c ≡ true
answerable_said Take h = refl
answerable_said (Await number looks) h = refl
answerable_said (Ask q) h = asked_said q h
answerable_said (Change eco) h = h

-- the edits of an open group, and the trials of an open draft
abbrev IsOpen : Place → Type 0
IsOpen outside = Unit {0}
IsOpen (inside begin edits) = (list_all is_edit edits ≡ true) × (length edits ≤ 1000)
IsOpen (drafted begin trials) = (list_all is_draft_trial trials ≡ true) × (length trials ≤ 100)
IsOpen (tried begin trials group edits) =
    (list_all is_draft_trial trials ≡ true) × (nat_le 100 (length trials) ≡ false) × (list_all is_edit edits ≡ true) × (length edits ≤ 1000)

pub eco_made : (edits : List Edit) → 1 ≤ length edits → length edits ≤ 1000 → list_all is_edit edits ≡ true → is_eco (record { edits = edits }) ≡ true
eco_made edits some few good = rw (le-leb 1 (length edits) some, le-leb (length edits) 1000 few, good) refl

draft_counted : (trials : List Trial) → 1 ≤ length trials → length trials ≤ 100 → list_all is_draft_trial trials ≡ true
    → (is_count 100 (length trials) && list_all is_draft_trial trials) ≡ true
draft_counted trials some few good = rw (le-leb 1 (length trials) some, le-leb (length trials) 100 few, good) refl

pub draft_made : (trials : List Trial) → 1 ≤ length trials → length trials ≤ 100 → list_all is_draft_trial trials ≡ true → is_answerable (what_if trials) ≡ true
draft_made trials some few good =
    ap (λ (xs : List Trial). is_count 100 (length xs) && list_all is_draft_trial xs) (items_hidden-the_row-Trial-0 trials)
    ∙ draft_counted trials some few good

ended : {X : Type 0} (begin : ℕ) (xs : List X) (rest : List Wrong) → if_empty begin xs rest ≡ [] → (1 ≤ length xs) × (rest ≡ [])
ended begin [] rest g = absurd (cc)
ended begin (x ∷ xs) rest g = (omega arith, g)

-- one more
pub one_longer : {X : Type 0} (most : ℕ) (xs : List X) (x : X) → nat_le most (length xs) ≡ false → length (xs ++ x ∷ []) ≤ most
one_longer most xs x room = grind (arith, nat_tests, length-append xs (x ∷ []), room)

pub all_longer : {X : Type 0} (good : X → Bool) (xs : List X) (x : X) → list_all good xs ≡ true → good x ≡ true → list_all good (xs ++ x ∷ []) ≡ true
all_longer good xs x h k = rw (list_all-append good xs (x ∷ [])) (rw (h, k) refl)

-- a question about a draft has a fault in a draft
plain_kept : (plain : Bool) (n : ℕ) (xs : List Wrong) (cs : List Command) → (plain ≡ true → xs ≡ [] → list_all is_answerable cs ≡ true)
    → cond plain xs (bad n ∷ []) ≡ [] → list_all is_answerable (cond plain cs []) ≡ true
plain_kept true n xs cs kept h = kept refl h
plain_kept false n xs cs kept h = absurd (cc)

behind_fine : (e : Event) (es : List Event) → AreFine (e ∷ es) → AreFine es
behind_fine e es h = done es (and_parts (is_fine e) (list_all is_fine es) h.all).1

commands_kept : (count : ℕ) (place : Place) (es : List Event) → IsOpen place → AreFine es → faults count place es ≡ [] → list_all is_answerable (commands place es) ≡ true
unfolding commands faults
commands_kept count place (long n ∷ es) stands fine h = absurd (cc)
commands_kept count outside (single n command ∷ es) stands fine h =
    let both = and_parts (is_said command) (list_all is_fine es) fine.all in
    and_from (is_answerable command) (list_all is_answerable (commands outside es)) (answerable_said command both.0)
    (commands_kept (count + 1) outside es tt (done es both.1) (behind_none 10000 count n (faults (count + 1) outside es) h).1)
commands_kept count outside (change n e ∷ es) stands fine h =
    let both = and_parts (is_edit e) (list_all is_fine es) fine.all in
    and_from (is_answerable (eco (e ∷ []))) (list_all is_answerable (commands outside es)) (eco_made (e ∷ []) (omega arith) (omega arith) (rw both.0 refl))
    (commands_kept (count + 1) outside es tt (done es both.1) (behind_none 10000 count n (faults (count + 1) outside es) h).1)
commands_kept count outside (group_begin n ∷ es) stands fine h =
    commands_kept count (inside n []) es (refl, omega arith) (behind_fine (group_begin n) es fine)
    (behind_none 10000 count n (faults count (inside n []) es) h).1
commands_kept count outside (draft_begin n ∷ es) stands fine h =
    commands_kept count (drafted n []) es (refl, omega arith) (behind_fine (draft_begin n) es fine)
    (behind_none 10000 count n (faults count (drafted n []) es) h).1
commands_kept count (inside begin edits) (change n e ∷ es) stands fine h =
    let both = and_parts (is_edit e) (list_all is_fine es) fine.all in
    let room = behind_none 1000 (length edits) n (faults count (inside begin (edits ++ e ∷ [])) es) h in
    commands_kept count (inside begin (edits ++ e ∷ [])) es
    (all_longer is_edit edits e stands.0 both.0, one_longer 1000 edits e room.0) (done es both.1) room.1
commands_kept count (inside begin edits) (group_end n ∷ es) stands fine h =
    let closed = ended begin edits (faults (count + 1) outside es) h in
    and_from (is_answerable (eco edits)) (list_all is_answerable (commands outside es)) (eco_made edits closed.0 stands.1 stands.0)
    (commands_kept (count + 1) outside es tt (behind_fine (group_end n) es fine) closed.1)
commands_kept count (drafted begin trials) (single n (Ask q) ∷ es) stands fine h =
    let both = and_parts (is_read q) (list_all is_fine es) fine.all in
    plain_kept (may_be_tried q) n (behind 100 (length trials) n ++ faults count (drafted begin (trials ++ ask_draft q ∷ [])) es)
    (commands (drafted begin (trials ++ ask_draft q ∷ [])) es)
    (λ plain none.
    let room = behind_none 100 (length trials) n (faults count (drafted begin (trials ++ ask_draft q ∷ [])) es) none in
    commands_kept count (drafted begin (trials ++ ask_draft q ∷ [])) es
    (all_longer is_draft_trial trials (ask_draft q) stands.0 (trial_said q both.0 plain), one_longer 100 trials (ask_draft q) room.0) (done es both.1) room.1)
    h
commands_kept count (drafted begin trials) (change n e ∷ es) stands fine h =
    let both = and_parts (is_edit e) (list_all is_fine es) fine.all in
    let one : Trial = trial (e ∷ []) in
    let room = behind_none 100 (length trials) n (faults count (drafted begin (trials ++ one ∷ [])) es) h in
    commands_kept count (drafted begin (trials ++ one ∷ [])) es
    (all_longer is_draft_trial trials one stands.0 (eco_made (e ∷ []) (omega arith) (omega arith) (rw both.0 refl)), one_longer 100 trials one room.0) (done es both.1) room.1
commands_kept count (drafted begin trials) (dropped n ∷ es) stands fine h =
    let room = behind_none 100 (length trials) n (faults count (drafted begin (trials ++ Drop ∷ [])) es) h in
    commands_kept count (drafted begin (trials ++ Drop ∷ [])) es (all_longer is_draft_trial trials Drop stands.0 refl, one_longer 100 trials Drop room.0)
    (behind_fine (dropped n) es fine) room.1
commands_kept count (drafted begin trials) (group_begin n ∷ es) stands fine h =
    let room = behind_none 100 (length trials) n (faults count (tried begin trials n []) es) h in
    commands_kept count (tried begin trials n []) es (stands.0, room.0, refl, omega arith) (behind_fine (group_begin n) es fine) room.1
commands_kept count (drafted begin trials) (draft_end n ∷ es) stands fine h =
    let closed = ended begin trials (faults (count + 1) outside es) h in
    and_from (is_answerable (what_if trials)) (list_all is_answerable (commands outside es)) (draft_made trials closed.0 stands.1 stands.0)
    (commands_kept (count + 1) outside es tt (behind_fine (draft_end n) es fine) closed.1)
commands_kept count (tried begin trials group edits) (change n e ∷ es) stands fine h =
    let both = and_parts (is_edit e) (list_all is_fine es) fine.all in
    let room = behind_none 1000 (length edits) n (faults count (tried begin trials group (edits ++ e ∷ [])) es) h in
    commands_kept count (tried begin trials group (edits ++ e ∷ [])) es
    (stands.0, stands.1, all_longer is_edit edits e stands.2 both.0, one_longer 1000 edits e room.0) (done es both.1) room.1
commands_kept count (tried begin trials group edits) (group_end n ∷ es) stands fine h =
    let closed = ended group edits (faults count (drafted begin (trials ++ trial edits ∷ [])) es) h in
    commands_kept count (drafted begin (trials ++ trial edits ∷ [])) es
    (all_longer is_draft_trial trials (trial edits) stands.0 (eco_made edits closed.0 stands.3 stands.2), one_longer 100 trials (trial edits) stands.1)
    (behind_fine (group_end n) es fine) closed.1
commands_kept count place es stands fine h = refl

told_kept : (r : Result Script ReadFault) (least : Option Wrong) (cs : List Command) → (least ≡ None → list_all is_answerable cs ≡ true) → Tells r (told least cs) → IfOk r (λ script. are_answerable script ≡ true)
told_kept (Ok script) None cs h read = subst (λ (r : Result Script ReadFault). IfOk r (λ s. are_answerable s ≡ true)) read (h refl)
told_kept (Ok script) (Some wrong) cs h read = absurd (cc)
told_kept (Err fault) least cs h read = tt

-- the commands of a script
pub script_kept : (r : Result Script ReadFault) (bytes : List ℕ) → Tells r (script_of bytes) → IfOk r (λ script. are_answerable script ≡ true)
script_kept r bytes read =
    let es = events 1 (lines_of bytes) in
    told_kept r (least_from None (faults 0 outside es)) (commands outside es)
    (λ none. commands_kept 0 outside es tt (all_fine 1 (lines_of bytes)) (least_none (faults 0 outside es) none)) read
