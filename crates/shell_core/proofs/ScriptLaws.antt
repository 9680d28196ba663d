-- What is known of a script that is read: at most 10,000 commands, a look at least where it waits, and ECOs that a journal can hold.
use Rattle.std.proofs.Common.{◌≡◌, ℕ, ◌+◌, ◌≤◌, ◌<◌, Bool, true, false, List, [], ◌∷◌, ◌++◌, length, cond, Option, Some, None, Result, Ok, Err, refl, sym, ap, ◌∙◌, subst, arith}
use Rattle.std.specs.Prelude.{option_map, nat_le, codes, ◌==◌, ◌&&◌, unwrap_or, IfOk, MatchResult}
use Rattle.std.specs.List.{All, list_all}
use Rattle.std.proofs.lemmas.List.Elements.{All-nil, All-cons, All-append, All-head, All-tail}
use Rattle.std.proofs.lemmas.Bool.{cond_both, and_parts, and_from}
use Rattle.std.proofs.lemmas.Bool.Decides.{nat_tests}
use Rattle.std.proofs.lemmas.List.Folds.{list_all-append}
use Rattle.timing_defs.specs.declared.codes.Code.{Code}
use Rattle.timing_defs.specs.declared.codes.ReadFault.{ReadFault}
use Rattle.timing_defs.specs.declared.codes.ReadFault.TheVariants.{At, Memory}
use Rattle.timing_defs.specs.declared.edits.Edit.{Edit}
use Rattle.timing_defs.specs.declared.reports.Query.{Query}
use Rattle.timing_defs.specs.declared.scripts.Command.{Command}
use Rattle.timing_defs.specs.declared.scripts.Command.TheVariants.{Take, Ask}
use Rattle.timing_defs.specs.declared.reports.Trial.TheVariants.{Drop, Ask as ask_draft}
use Rattle.timing_defs.specs.declared.scripts.Script.{Script}
use Rattle.script_reader.specs.Words.{may_be_tried}
use Rattle.sta_text.specs.declared.faults.Wrong.{Wrong}
use Rattle.sta_text.specs.Faults.{least_from, Fails}
use Rattle.sta_text.proofs.FaultsLemmas.{least_none}
use Rattle.eco_journal.specs.declared.stops.Stop.{Stop}
use Rattle.eco_journal.specs.Lines.{Part, lines_of}
use Rattle.eco_journal.specs.Words.{text, says, number_of, within}
use Rattle.eco_journal.specs.EditLines.{edit_of}
use Rattle.eco_journal.specs.Written.{IsEdit, AreEdits}
use Rattle.eco_journal.proofs.Lawful.{edit_there}
use Rattle.script_reader.specs.Commands.{words_in, awaited, asked, query_of, command_of}
use Rattle.eco_journal.specs.Journal.{Tells}
use Rattle.script_reader.specs.Scripts.{Event, long, single, change, group_begin, group_end, draft_begin, draft_end, dropped, unknown, is_ascii, is_passed, is_alone, edit_said, command_said, words_said, line_said, too_long, events, Place, outside, inside, drafted, tried, trial, commands, bad, behind, if_empty, excess, faults, told, script_of}
use Rattle.script_reader.specs.Answerable.{are_answerable}
use Rattle.shell_core.specs.Scripts.{has_looks, CanStand, IsScript}

-- the commands that lines say wait with a look at least
abbrev is_fine : Event → Bool
is_fine (single n command) = has_looks command
is_fine e = true

-- the edits that lines say can be written
abbrev CanBeWritten : Event → Type 0
CanBeWritten (single n command) = CanStand command
CanBeWritten (change n e) = IsEdit e
CanBeWritten (long n) = Unit {0}
CanBeWritten (group_begin n) = Unit {0}
CanBeWritten (group_end n) = Unit {0}
CanBeWritten (draft_begin n) = Unit {0}
CanBeWritten (draft_end n) = Unit {0}
CanBeWritten (dropped n) = Unit {0}
CanBeWritten (unknown n) = Unit {0}

record AreFine (es : List Event) : Type 0 where
  all : list_all is_fine es ≡ true
  written : All CanBeWritten es

done : (es : List Event) → list_all is_fine es ≡ true → All CanBeWritten es → AreFine es
done es h w = record { all = h; written = w }

none_said : AreFine []
none_said = done [] refl (All-nil CanBeWritten)

one_said : (e : Event) → is_fine e ≡ true → CanBeWritten e → AreFine (e ∷ [])
one_said e h w = done (e ∷ []) (rw h refl) (All-cons CanBeWritten e [] w (All-nil CanBeWritten))

join : (es fs : List Event) → AreFine es → AreFine fs → AreFine (es ++ fs)
join es fs h k = done (es ++ fs) (rw (list_all-append is_fine es fs) (rw (h.all, k.all) refl)) (All-append CanBeWritten es fs h.written k.written)

pick : (b : Bool) (es fs : List Event) → AreFine es → AreFine fs → AreFine (cond b es fs)
pick b es fs h k = cond_both b es fs AreFine (λ _. h) (λ _. k)

edit_fine : (n : ℕ) (r : Result Edit Stop) → ((e : Edit) → r ≡ Ok e → IsEdit e) → AreFine (edit_said n r)
edit_fine n (Ok e) h = one_said (change n e) refl (h e refl)
edit_fine n (Err stop) h = one_said (unknown n) refl tt

abbrev IfLooks : Option Command → Type 0
IfLooks None = Unit {0}
IfLooks (Some command) = (has_looks command ≡ true) × CanStand command

-- a number within a range is one at least where the range begins there
one_at_least : (high : ℕ) (o : Option ℕ) (n : ℕ) → within 1 high o ≡ Some n → nat_le 1 n ≡ true
one_at_least high None n h = absurd (cc)
one_at_least high (Some m) n h = by_cases (nat_le 1 m) refl h
  where
    by_cases : (b : Bool) → nat_le 1 m ≡ b → cond (b && nat_le m high) (Some m) None ≡ Some n → nat_le 1 n ≡ true
    by_cases true e g = by_high (nat_le m high) g
      where
        by_high : (c : Bool) → cond c (Some m) None ≡ Some n → nat_le 1 n ≡ true
        by_high true k = rw (sym (ap (λ (o : Option ℕ). unwrap_or o m) k)) e
        by_high false k = absurd (cc)
    by_cases false e g = absurd (cc)

await_fine : (number looks : Option ℕ) → ((n : ℕ) → looks ≡ Some n → nat_le 1 n ≡ true) → IfLooks (awaited number looks)
await_fine None looks h = tt
await_fine (Some number) None h = tt
await_fine (Some number) (Some looks) h = (h looks refl, tt)

asked_fine : (query : Option Query) → IfLooks (option_map asked query)
asked_fine None = tt
asked_fine (Some query) = (refl, tt)

command_fine : (words : List Part) → IfLooks (command_of words)
unfolding command_of
command_fine words =
    cond_both (says words 0 (codes "take")) _ _ IfLooks
    (λ _. cond_both (length words == 1) (Some Take) None IfLooks (λ _. (refl, tt)) (λ _. tt))
    (λ _. cond_both (says words 0 (codes "await")) _ _ IfLooks
    (λ _. cond_both (length words == 3) _ _ IfLooks
    (λ _. await_fine (within 0 18446744073709551615 (number_of (text words 1))) (within 1 1000 (number_of (text words 2)))
    (λ n read. one_at_least 1000 (number_of (text words 2)) n read)) (λ _. tt))
    (λ _. asked_fine (query_of words)))

said_fine : (n : ℕ) (words : List Part) (command : Option Command) → IfLooks command → AreFine (command_said n words command)
said_fine n words None h = edit_fine n (edit_of true words) (λ e read. edit_there true words e read)
said_fine n words (Some command) h = one_said (single n command) h.0 h.1

words_fine : (n : ℕ) (words : List Part) → AreFine (words_said n words)
words_fine n words =
    pick (is_passed words) _ _ none_said
    (pick (is_alone words (codes "begin_eco")) _ _ (one_said (group_begin n) refl tt)
    (pick (is_alone words (codes "commit_eco")) _ _ (one_said (group_end n) refl tt)
    (pick (is_alone words (codes "begin_what_if")) _ _ (one_said (draft_begin n) refl tt)
    (pick (is_alone words (codes "end_what_if")) _ _ (one_said (draft_end n) refl tt)
    (pick (is_alone words (codes "drop_last")) _ _ (one_said (dropped n) refl tt) (said_fine n words (command_of words) (command_fine words)))))))

line_fine : (n : ℕ) (line : List ℕ) → AreFine (line_said n line)
line_fine n line = pick (list_all is_ascii line) _ _ (words_fine n (words_in line)) (one_said (unknown n) refl tt)

long_fine : (n : ℕ) (line : List ℕ) → AreFine (too_long n line)
long_fine n line = pick (nat_le (length line) 65536) _ _ none_said (one_said (long n) refl tt)

all_fine : (n : ℕ) (lines : List Part) → AreFine (events n lines)
unfolding events
all_fine n [] = none_said
all_fine n (line ∷ lines) =
    join (too_long n line.text) (line_said n line.text ++ events (n + 1) lines) (long_fine n line.text)
    (join (line_said n line.text) (events (n + 1) lines) (line_fine n line.text) (all_fine (n + 1) lines))

-- a list without faults has none in its parts
behind_none : (limit before n : ℕ) (rest : List Wrong) → behind limit before n ++ rest ≡ [] → (before < limit) × (rest ≡ [])
behind_none limit before n rest h = by_cases (nat_le limit before) refl h
  where
    by_cases : (b : Bool) → nat_le limit before ≡ b → cond b (excess n ∷ []) [] ++ rest ≡ [] → (before < limit) × (rest ≡ [])
    by_cases true e g = absurd (cc)
    by_cases false e g = (grind (arith, nat_tests, e), g)

ended : {X : Type 0} (begin : ℕ) (xs : List X) (rest : List Wrong) → if_empty begin xs rest ≡ [] → (1 ≤ length xs) × (rest ≡ [])
ended begin [] rest g = absurd (cc)
ended begin (x ∷ xs) rest g = (omega arith, g)

edits_more : (es : List Edit) (e : Edit) → AreEdits es → IsEdit e → AreEdits (es ++ e ∷ [])
edits_more [] e h k = (k, tt)
edits_more (x ∷ es) e h k = (h.0, edits_more es e h.1 k)

length_more : (es : List Edit) (e : Edit) → length (es ++ e ∷ []) ≡ length es + 1
length_more [] e = refl
length_more (x ∷ es) e = let n = length_more es e in omega (arith, n)

behind_fine : (e : Event) (es : List Event) → AreFine (e ∷ es) → AreFine es
behind_fine e es h = done es (and_parts (is_fine e) (list_all is_fine es) h.all).1 (All-tail CanBeWritten e es h.written)

said_first : (e : Event) (es : List Event) → AreFine (e ∷ es) → CanBeWritten e
said_first e es h = All-head CanBeWritten e es h.written

-- before an open group or draft stand fewer commands than there may be, and a group has no more edits than it may
abbrev HasRoom : ℕ → Place → Type 0
HasRoom count outside = count ≤ 10000
HasRoom count (inside begin edits) = (count < 10000) × (length edits ≤ 1000) × AreEdits edits
HasRoom count (drafted begin trials) = count < 10000
HasRoom count (tried begin trials group edits) = count < 10000

-- what is kept of the commands behind so many
record AreKept (count : ℕ) (cs : List Command) : Type 0 where
  looks : list_all has_looks cs ≡ true
  written : All CanStand cs
  few : count + length cs ≤ 10000

one_more : (count : ℕ) (c : Command) (cs : List Command) → has_looks c ≡ true → CanStand c → AreKept (count + 1) cs → AreKept count (c ∷ cs)
one_more count c cs here stands rest =
    record {
      looks = and_from (has_looks c) (list_all has_looks cs) here rest.looks;
      written = All-cons CanStand c cs stands rest.written;
      few = let h = rest.few in omega (arith, h);
    }

-- a question about a draft has a fault in a draft
plain_kept : (plain : Bool) (count n : ℕ) (xs : List Wrong) (cs : List Command) → (xs ≡ [] → AreKept count cs)
    → cond plain xs (bad n ∷ []) ≡ [] → AreKept count (cond plain cs [])
plain_kept true count n xs cs kept h = kept h
plain_kept false count n xs cs kept h = absurd (cc)

commands_kept : (count : ℕ) (place : Place) (es : List Event) → HasRoom count place → AreFine es → faults count place es ≡ [] → AreKept count (commands place es)
unfolding commands faults
commands_kept count place (long n ∷ es) room fine h = absurd (cc)
commands_kept count outside (single n command ∷ es) room fine h =
    let here = (and_parts (has_looks command) (list_all is_fine es) fine.all).0 in
    let free = behind_none 10000 count n (faults (count + 1) outside es) h in
    one_more count command (commands outside es) here (said_first (single n command) es fine)
    (commands_kept (count + 1) outside es (let f = free.0 in omega (arith, f)) (behind_fine (single n command) es fine) free.1)
commands_kept count outside (change n e ∷ es) room fine h =
    let free = behind_none 10000 count n (faults (count + 1) outside es) h in
    one_more count _ (commands outside es) refl (omega arith, omega arith, (said_first (change n e) es fine, tt))
    (commands_kept (count + 1) outside es (let f = free.0 in omega (arith, f)) (behind_fine (change n e) es fine) free.1)
commands_kept count outside (group_begin n ∷ es) room fine h =
    let free = behind_none 10000 count n (faults count (inside n []) es) h in
    commands_kept count (inside n []) es (free.0, omega arith, tt) (behind_fine (group_begin n) es fine) free.1
commands_kept count outside (draft_begin n ∷ es) room fine h =
    let free = behind_none 10000 count n (faults count (drafted n []) es) h in
    commands_kept count (drafted n []) es free.0 (behind_fine (draft_begin n) es fine) free.1
commands_kept count (inside begin edits) (change n e ∷ es) room fine h =
    let free = behind_none 1000 (length edits) n (faults count (inside begin (edits ++ e ∷ [])) es) h in
    commands_kept count (inside begin (edits ++ e ∷ [])) es
    (room.0, (let m = length_more edits e in let f = free.0 in omega (arith, m, f)), edits_more edits e room.2 (said_first (change n e) es fine))
    (behind_fine (change n e) es fine) free.1
commands_kept count (inside begin edits) (group_end n ∷ es) room fine h =
    let whole = ended begin edits (faults (count + 1) outside es) h in
    one_more count _ (commands outside es) refl (whole.0, room.1, room.2)
    (commands_kept (count + 1) outside es (let r = room.0 in omega (arith, r)) (behind_fine (group_end n) es fine) whole.1)
commands_kept count (drafted begin trials) (single n (Ask q) ∷ es) room fine h =
    plain_kept (may_be_tried q) count n (behind 100 (length trials) n ++ faults count (drafted begin (trials ++ ask_draft q ∷ [])) es)
    (commands (drafted begin (trials ++ ask_draft q ∷ [])) es)
    (λ none.
    commands_kept count (drafted begin (trials ++ ask_draft q ∷ [])) es room (behind_fine (single n (Ask q)) es fine)
    (behind_none 100 (length trials) n (faults count (drafted begin (trials ++ ask_draft q ∷ [])) es) none).1)
    h
commands_kept count (drafted begin trials) (change n e ∷ es) room fine h =
    commands_kept count (drafted begin (trials ++ trial (e ∷ []) ∷ [])) es room (behind_fine (change n e) es fine)
    (behind_none 100 (length trials) n (faults count (drafted begin (trials ++ trial (e ∷ []) ∷ [])) es) h).1
commands_kept count (drafted begin trials) (dropped n ∷ es) room fine h =
    commands_kept count (drafted begin (trials ++ Drop ∷ [])) es room (behind_fine (dropped n) es fine)
    (behind_none 100 (length trials) n (faults count (drafted begin (trials ++ Drop ∷ [])) es) h).1
commands_kept count (drafted begin trials) (group_begin n ∷ es) room fine h =
    commands_kept count (tried begin trials n []) es room (behind_fine (group_begin n) es fine)
    (behind_none 100 (length trials) n (faults count (tried begin trials n []) es) h).1
commands_kept count (drafted begin trials) (draft_end n ∷ es) room fine h =
    let whole = ended begin trials (faults (count + 1) outside es) h in
    one_more count _ (commands outside es) refl tt
    (commands_kept (count + 1) outside es (omega (arith, room)) (behind_fine (draft_end n) es fine) whole.1)
commands_kept count (tried begin trials group edits) (change n e ∷ es) room fine h =
    commands_kept count (tried begin trials group (edits ++ e ∷ [])) es room (behind_fine (change n e) es fine)
    (behind_none 1000 (length edits) n (faults count (tried begin trials group (edits ++ e ∷ [])) es) h).1
commands_kept count (tried begin trials group edits) (group_end n ∷ es) room fine h =
    let whole = ended group edits (faults count (drafted begin (trials ++ trial edits ∷ [])) es) h in
    commands_kept count (drafted begin (trials ++ trial edits ∷ [])) es room (behind_fine (group_end n) es fine) whole.1
commands_kept count outside [] room fine h = record { looks = refl; written = All-nil CanStand; few = omega (arith, room) }
commands_kept count outside (unknown n ∷ es) room fine h = absurd (cc)
commands_kept count place es room fine h = absurd (cc)

-- a script where there is one
abbrev IfScript : Result Script ReadFault → Type 0
IfScript (Ok script) = are_answerable script ≡ true → IsScript script
IfScript (Err fault) = Unit {0}

told_kept : (script : Script) (least : Option Wrong) (cs : List Command) → (least ≡ None → AreKept 0 cs) → told least cs ≡ Ok script → are_answerable script ≡ true → IsScript script
told_kept script None cs kept read ecos = subst IfScript read (λ good. record { looks = (kept refl).looks; written = (kept refl).written; answerable = good; few = (let h = (kept refl).few in omega (arith, h)) }) ecos
told_kept script (Some wrong) cs kept read ecos = absurd (cc)

-- what a script that is read holds
pub script_read : (text : List ℕ) (script : Script) → script_of text ≡ Ok script → are_answerable script ≡ true → IsScript script
script_read text script read ecos =
    let es = events 1 (lines_of text) in
    told_kept script (least_from None (faults 0 outside es)) (commands outside es)
    (λ none. commands_kept 0 outside es (omega arith) (all_fine 1 (lines_of text)) (least_none (faults 0 outside es) none)) read ecos

abbrev fault_in : Result Script ReadFault → Option Wrong
fault_in (Ok script) = None
fault_in (Err (At code place)) = Some (record { code = code; at = place })
fault_in (Err Memory) = None

told_is : (least : Option Wrong) (cs : List Command) → fault_in (told least cs) ≡ least
told_is None cs = refl
told_is (Some wrong) cs = refl

-- the fault that is told is the least
pub script_refused : (text : List ℕ) (code : Code) (place : ℕ) → script_of text ≡ Err (At code place)
    → least_from None (faults 0 outside (events 1 (lines_of text))) ≡ Some (record { code = code; at = place })
script_refused text code place read =
    sym (told_is (least_from None (faults 0 outside (events 1 (lines_of text)))) (commands outside (events 1 (lines_of text)))) ∙ ap fault_in read

-- a script that was read has no fault
pub script_faultless : (text : List ℕ) (script : Script) → script_of text ≡ Ok script → faults 0 outside (events 1 (lines_of text)) ≡ []
script_faultless text script read =
    let es = events 1 (lines_of text) in
    least_none (faults 0 outside es) (sym (told_is (least_from None (faults 0 outside es)) (commands outside es)) ∙ ap fault_in read)

-- what a reader tells of a script
pub script_told : (r : Result Script ReadFault) (text : List ℕ) → Tells r (script_of text) → IfOk r (λ s. are_answerable s ≡ true)
    → MatchResult r (λ s. (script_of text ≡ Ok s) × IsScript s) (λ e. Fails e (faults 0 outside (events 1 (lines_of text))))
script_told (Ok script) text read ecos = (read, script_read text script read ecos)
script_told (Err (At code place)) text read ecos = script_refused text code place read
script_told (Err Memory) text read ecos = tt
