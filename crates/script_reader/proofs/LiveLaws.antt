-- The items of a session's lines, and the commands of a script.
use Rattle.std.proofs.Common.{◌≡◌, ℕ, ◌+◌, ◌≤◌, ◌<◌, Bool, true, false, List, [], ◌∷◌, ◌++◌, length, map, cond, refl, ap, sym, ◌∙◌, arith, inl, inr, append_assoc, add-zero, length-append}
use Rattle.std.specs.Prelude.{Option, Some, None, Result, Ok, Err, nat_le, nat_lt, codes, ◌==◌}
use Rattle.std.specs.List.{list_all}
use Rattle.std.proofs.lemmas.Bool.{cases_Bool, cond_both, lt-leb, le-ltb}
use Rattle.std.proofs.Math.Bool.{and-false}
use Rattle.std.proofs.lemmas.Bool.Decides.{nat_tests}
use Rattle.timing_defs.specs.declared.codes.Code.TheVariants.{ScriptBadCommand}
use Rattle.timing_defs.specs.declared.codes.ReadFault.{ReadFault}
use Rattle.timing_defs.specs.declared.edits.Edit.{Edit}
use Rattle.timing_defs.specs.declared.reports.Query.{Query}
use Rattle.timing_defs.specs.declared.reports.Trial.{Trial}
use Rattle.timing_defs.specs.declared.reports.Trial.TheVariants.{Drop, Ask as ask_draft}
use Rattle.timing_defs.specs.declared.scripts.Command.{Command}
use Rattle.timing_defs.specs.declared.scripts.Command.TheVariants.{Ask}
use Rattle.timing_defs.specs.declared.scripts.Script.{Script}
use Rattle.script_reader.specs.Words.{may_be_tried}
use Rattle.sta_text.specs.declared.faults.Wrong.{Wrong}
use Rattle.sta_text.specs.Faults.{least_from, told_fault}
use Rattle.sta_text.proofs.FaultsLemmas.{least_none}
use Rattle.eco_journal.specs.declared.stops.Stop.{Stop}
use Rattle.eco_journal.specs.Lines.{Part, cut_lines, placed, lines_of}
use Rattle.eco_journal.specs.EditLines.{edit_of}
use Rattle.script_reader.proofs.ProgressLemmas.{none_more}
use Rattle.script_reader.specs.declared.live.Item.{Item}
use Rattle.script_reader.specs.declared.live.Item.TheVariants.{Asked, Faulty}
use Rattle.script_reader.specs.Commands.{words_in, command_of}
use Rattle.script_reader.specs.Scripts.{Event, long, single, change, group_begin, group_end, draft_begin, draft_end, dropped, is_ascii, is_passed, is_alone, edit_said, command_said, words_said, line_said, too_long, events, Place, outside, inside, drafted, tried, eco, trial, what_if, commands, bad, excess, behind, faults, told, script_of}
use Rattle.script_reader.specs.Live.{LivePlace, stands, passing_eco, passing_draft, Behind, goes_on, asks, fails, given_up, crowded, if_room, line_of, live_event, live_said, live_line, live_end, item_list, items, place_behind, all_items}

-- the items of more lines
pub more_items : (place : LivePlace) (n : ℕ) (first others : List (List ℕ))
    → items place n (first ++ others) ≡ items place n first ++ items (place_behind place n first) (n + length first) others
unfolding items place_behind
more_items place n [] others = ap (λ (k : ℕ). items place k others) (sym (add-zero n))
more_items place n (line ∷ first) others =
    let next : LivePlace = (live_line place n line).place in
    let now : List Item = item_list (live_line place n line).item in
    let count : n + 1 + length first ≡ n + length (line ∷ first) = omega arith in
    ap (λ (xs : List Item). now ++ xs) (more_items next (n + 1) first others)
    ∙ sym (append_assoc now (items next (n + 1) first) (items (place_behind next (n + 1) first) (n + 1 + length first) others))
    ∙ ap (λ (k : ℕ). (now ++ items next (n + 1) first) ++ items (place_behind next (n + 1) first) k others) count

-- the place behind more lines
pub more_places : (place : LivePlace) (n : ℕ) (first others : List (List ℕ))
    → place_behind place n (first ++ others) ≡ place_behind (place_behind place n first) (n + length first) others
unfolding place_behind
more_places place n [] others = ap (λ (k : ℕ). place_behind place k others) (sym (add-zero n))
more_places place n (line ∷ first) others =
    let next : LivePlace = (live_line place n line).place in
    let count : n + 1 + length first ≡ n + length (line ∷ first) = omega arith in
    more_places next (n + 1) first others ∙ ap (λ (k : ℕ). place_behind (place_behind next (n + 1) first) k others) count

-- a long line says no more than that
pub cut_line : (place : LivePlace) (n : ℕ) (line more : List ℕ) → length line ≡ 65537 → live_line place n (line ++ more) ≡ live_line place n line
unfolding live_line
cut_line place n line more size =
    let many : nat_le (length line) 65536 ≡ false = lt-leb (length line) 65536 (omega (arith, size)) in
    let longer : nat_le (length (line ++ more)) 65536 ≡ false = lt-leb (length (line ++ more)) 65536 (omega (arith, size, length-append line more)) in
    rw (many, longer) refl

-- in a group or a draft
abbrev IsOpen : Place → Type 0
IsOpen outside = ⊥
IsOpen (inside begin edits) = Unit {0}
IsOpen (drafted begin trials) = Unit {0}
IsOpen (tried begin trials group edits) = Unit {0}

-- so many commands may stand before a place: what is open will be one more
abbrev Fits : ℕ → Place → Type 0
Fits count outside = count ≤ 10000
Fits count (inside begin edits) = count < 10000
Fits count (drafted begin trials) = count < 10000
Fits count (tried begin trials group edits) = count < 10000

-- faults by the number of commands alone: there are none before the 10,001st
abbrev IsLimit : ℕ → Place → List Wrong → Type 0
IsLimit count place limit = (count < 10000 → limit ≡ []) × (limit ≡ [] → Fits count place → count < 10000)

-- what stands open at a line begins before it, and a group of a draft behind the draft
abbrev Stands : ℕ → Place → Type 0
Stands n outside = Unit {0}
Stands n (inside begin edits) = Unit {0}
Stands n (drafted begin trials) = begin ≤ n
Stands n (tried begin trials group edits) = (begin ≤ group) × (begin ≤ n)

-- nothing is looked at behind a line that may not stand in its place
abbrev IsAlone : Wrong → List Wrong → Type 0
IsAlone wrong others = wrong.code ≡ ScriptBadCommand → others ≡ []

-- what line n makes of a place, of the faults and of the commands of a script whose other events are these
data Stepping (n count : ℕ) (place : Place) (b : Behind) (fs : List Wrong) (cs : List Command) (rest : List Event) : Type 0 where
  quiet : b ≡ goes_on (stands place) → fs ≡ faults count place rest → cs ≡ commands place rest → Stepping n count place b fs cs rest
  goes : (next : Place) (limit : List Wrong) → IsLimit count place limit → IsOpen next → (Stands n place → Stands n next)
      → b ≡ goes_on (stands next) → fs ≡ limit ++ faults count next rest → cs ≡ commands next rest → Stepping n count place b fs cs rest
  ends : (command : Command) (limit : List Wrong) → IsLimit count place limit → b ≡ asks command
      → fs ≡ limit ++ faults (count + 1) outside rest → cs ≡ command ∷ commands outside rest → Stepping n count place b fs cs rest
  stops : (next : LivePlace) (wrong : Wrong) (others : List Wrong) → IsAlone wrong others → b ≡ fails next wrong
      → fs ≡ wrong ∷ others → Stepping n count place b fs cs rest

-- C2 is another code
excess_alone : (n : ℕ) (others : List Wrong) → IsAlone (excess n) others
excess_alone n others same = absurd (cc)

below : (count n : ℕ) → behind 10000 count n ≡ [] → count < 10000
below count n none = elim (cases_Bool (nat_le 10000 count)) [
  | inl hit ↦ let some : excess n ∷ [] ≡ [] = ap (λ (full : Bool). cond full (excess n ∷ []) []) (sym hit) ∙ none in absurd (cc)
  | inr miss ↦ grind (arith, nat_tests, miss)
]

-- outside, so many commands are looked at
counted : (count n : ℕ) → IsLimit count outside (behind 10000 count n)
counted count n = (λ few. rw (lt-leb 10000 count few) refl, λ none fits. below count n none)

-- in a group or a draft they are not
uncounted : (count : ℕ) (place : Place) → IsOpen place → IsLimit count place []
uncounted count outside opened = absurd opened
uncounted count (inside begin edits) opened = (λ few. refl, λ none fits. fits)
uncounted count (drafted begin trials) opened = (λ few. refl, λ none fits. fits)
uncounted count (tried begin trials group edits) opened = (λ few. refl, λ none fits. fits)

-- one more where there is room
room : (n most before count : ℕ) (place next : Place) (b : Behind) (fs : List Wrong) (cs : List Command) (rest : List Event)
    → IsOpen place → IsOpen next → (Stands n place → Stands n next) → (m : ℕ)
    → b ≡ if_room most before m place next → fs ≡ behind most before m ++ faults count next rest
    → cs ≡ commands next rest → Stepping n count place b fs cs rest
room n most before count place next b fs cs rest here opened stood m live fault said = elim (cases_Bool (nat_le most before)) [
  | inl hit ↦ stops (given_up place) (excess m) (faults count next rest) (excess_alone m (faults count next rest))
      (live ∙ ap (λ (full : Bool). cond full (crowded place m) (goes_on (stands next))) hit)
      (fault ∙ ap (λ (full : Bool). cond full (excess m ∷ []) [] ++ faults count next rest) hit)
  | inr miss ↦ goes next [] (uncounted count place here) opened stood
      (live ∙ ap (λ (full : Bool). cond full (crowded place m) (goes_on (stands next))) miss)
      (fault ∙ ap (λ (full : Bool). cond full (excess m ∷ []) [] ++ faults count next rest) miss)
      said
]

-- an event of line n at a place, before others
abbrev Steps : ℕ → ℕ → Place → Event → List Event → Type 0
Steps n count place e rest = Stepping n count place (live_event (stands place) e) (faults count place (e ∷ rest)) (commands place (e ∷ rest)) rest

-- a question in a draft
question : (n count begin : ℕ) (trials : List Trial) (m : ℕ) (q : Query) (rest : List Event) → Steps n count (drafted begin trials) (single m (Ask q)) rest
unfolding commands faults
question n count begin trials m q rest = elim (cases_Bool (may_be_tried q)) [
  | inl hit ↦ room n 100 (length trials) count (drafted begin trials) (drafted begin (trials ++ ask_draft q ∷ [])) _ _ _ rest tt tt (λ s. s) m
      (rw hit refl) (rw hit refl) (rw hit refl)
  | inr miss ↦ stops passing_draft (bad m) [] (λ _. refl) (rw miss refl) (rw miss refl)
]

step : (n count : ℕ) (place : Place) (e : Event) (rest : List Event) → line_of e ≡ n → Steps n count place e rest
unfolding commands faults
step n count outside (long m) rest h =
    stops (stands outside) (excess m) (faults count outside rest) (excess_alone m (faults count outside rest)) refl refl
step n count outside (single m c) rest h = ends c (behind 10000 count m) (counted count m) refl refl refl
step n count outside (change m e) rest h = ends (eco (e ∷ [])) (behind 10000 count m) (counted count m) refl refl refl
step n count outside (group_begin m) rest h = goes (inside m []) (behind 10000 count m) (counted count m) tt (λ s. tt) refl refl refl
step n count outside (draft_begin m) rest h =
    goes (drafted m []) (behind 10000 count m) (counted count m) tt (λ s. omega (arith, h)) refl refl refl
step n count outside e rest h = stops (stands outside) (bad (line_of e)) [] (λ _. refl) refl refl
step n count (inside begin edits) (long m) rest h =
    let others : List Wrong = faults count (inside begin edits) rest in
    stops passing_eco (excess m) others (excess_alone m others) refl refl
step n count (inside begin edits) (change m e) rest h =
    room n 1000 (length edits) count (inside begin edits) (inside begin (edits ++ e ∷ [])) _ _ _ rest tt tt (λ s. s) m refl refl refl
step n count (inside begin []) (group_end m) rest h = stops (stands outside) (bad begin) [] (λ _. refl) refl refl
step n count (inside begin (x ∷ xs)) (group_end m) rest h =
    ends (eco (x ∷ xs)) [] (uncounted count (inside begin (x ∷ xs)) tt) refl refl refl
step n count (inside begin edits) e rest h = stops passing_eco (bad (line_of e)) [] (λ _. refl) refl refl
step n count (drafted begin trials) (long m) rest h =
    let others : List Wrong = faults count (drafted begin trials) rest in
    stops passing_draft (excess m) others (excess_alone m others) refl refl
step n count (drafted begin trials) (single m (Ask q)) rest h = question n count begin trials m q rest
step n count (drafted begin trials) (change m e) rest h =
    room n 100 (length trials) count (drafted begin trials) (drafted begin (trials ++ trial (e ∷ []) ∷ [])) _ _ _ rest tt tt (λ s. s) m refl refl refl
step n count (drafted begin trials) (dropped m) rest h =
    room n 100 (length trials) count (drafted begin trials) (drafted begin (trials ++ Drop ∷ [])) _ _ _ rest tt tt (λ s. s) m refl refl refl
step n count (drafted begin trials) (group_begin m) rest h =
    room n 100 (length trials) count (drafted begin trials) (tried begin trials m []) _ _ _ rest tt tt
    (λ s. (omega (arith, s, h), s)) m refl refl refl
step n count (drafted begin []) (draft_end m) rest h = stops (stands outside) (bad begin) [] (λ _. refl) refl refl
step n count (drafted begin (t ∷ ts)) (draft_end m) rest h =
    ends (what_if (t ∷ ts)) [] (uncounted count (drafted begin (t ∷ ts)) tt) refl refl refl
step n count (drafted begin trials) e rest h = stops passing_draft (bad (line_of e)) [] (λ _. refl) refl refl
step n count (tried begin trials group edits) (long m) rest h =
    let others : List Wrong = faults count (tried begin trials group edits) rest in
    stops passing_draft (excess m) others (excess_alone m others) refl refl
step n count (tried begin trials group edits) (change m e) rest h =
    room n 1000 (length edits) count (tried begin trials group edits) (tried begin trials group (edits ++ e ∷ [])) _ _ _ rest tt tt
    (λ s. s) m refl refl refl
step n count (tried begin trials group []) (group_end m) rest h = stops passing_draft (bad group) [] (λ _. refl) refl refl
step n count (tried begin trials group (x ∷ xs)) (group_end m) rest h =
    goes (drafted begin (trials ++ trial (x ∷ xs) ∷ [])) [] (uncounted count (tried begin trials group (x ∷ xs)) tt) tt (λ s. s.1) refl refl refl
step n count (tried begin trials group edits) (draft_end m) rest h = stops (stands outside) (bad m) [] (λ _. refl) refl refl
step n count (tried begin trials group edits) e rest h = stops passing_draft (bad (line_of e)) [] (λ _. refl) refl refl

-- at most one event, of line n
abbrev IsOne : ℕ → List Event → Type 0
IsOne n [] = Unit {0}
IsOne n (e ∷ []) = line_of e ≡ n
IsOne n (e ∷ f ∷ es) = ⊥

edit_one : (n : ℕ) (r : Result Edit Stop) → IsOne n (edit_said n r)
edit_one n (Ok e) = refl
edit_one n (Err stop) = refl

command_one : (n : ℕ) (words : List Part) (command : Option Command) → IsOne n (command_said n words command)
command_one n words None = edit_one n (edit_of true words)
command_one n words (Some command) = refl

words_one : (n : ℕ) (words : List Part) → IsOne n (words_said n words)
words_one n words =
    cond_both (is_passed words) _ _ (IsOne n) (λ _. tt)
    (λ _. cond_both (is_alone words (codes "begin_eco")) _ _ (IsOne n) (λ _. refl)
    (λ _. cond_both (is_alone words (codes "commit_eco")) _ _ (IsOne n) (λ _. refl)
    (λ _. cond_both (is_alone words (codes "begin_what_if")) _ _ (IsOne n) (λ _. refl)
    (λ _. cond_both (is_alone words (codes "end_what_if")) _ _ (IsOne n) (λ _. refl)
    (λ _. cond_both (is_alone words (codes "drop_last")) _ _ (IsOne n) (λ _. refl)
    (λ _. command_one n words (command_of words)))))))

line_one : (n : ℕ) (line : List ℕ) → IsOne n (line_said n line)
line_one n line = cond_both (list_all is_ascii line) _ _ (IsOne n) (λ _. words_one n (words_in line)) (λ _. refl)

said_step : (n count : ℕ) (place : Place) (es rest : List Event) → IsOne n es
    → Stepping n count place (live_said (stands place) es) (faults count place (es ++ rest)) (commands place (es ++ rest)) rest
said_step n count place [] rest h = quiet refl refl refl
said_step n count place (e ∷ []) rest h = step n count place e rest h
said_step n count place (e ∷ f ∷ es) rest h = absurd h

-- a line that is too long, whatever else it is said to say
long_step : (n count : ℕ) (place : Place) (others rest : List Event)
    → Stepping n count place (live_said (stands place) (long n ∷ [])) (faults count place (long n ∷ others)) (commands place (long n ∷ others)) rest
unfolding commands faults
long_step n count outside others rest =
    stops (stands outside) (excess n) (faults count outside others) (excess_alone n (faults count outside others)) refl refl
long_step n count (inside begin edits) others rest =
    let later : List Wrong = faults count (inside begin edits) others in
    stops passing_eco (excess n) later (excess_alone n later) refl refl
long_step n count (drafted begin trials) others rest =
    let later : List Wrong = faults count (drafted begin trials) others in
    stops passing_draft (excess n) later (excess_alone n later) refl refl
long_step n count (tried begin trials group edits) others rest =
    let later : List Wrong = faults count (tried begin trials group edits) others in
    stops passing_draft (excess n) later (excess_alone n later) refl refl

-- line n at a place, before other events
line_step : (n count : ℕ) (place : Place) (line : List ℕ) (rest : List Event)
    → Stepping n count place (live_line (stands place) n line) (faults count place (too_long n line ++ (line_said n line ++ rest)))
    (commands place (too_long n line ++ (line_said n line ++ rest))) rest
unfolding live_line
line_step n count place line rest = elim (cases_Bool (nat_le (length line) 65536)) [
  | inl fits ↦ rw fits (said_step n count place (line_said n line) rest (line_one n line))
  | inr over ↦ rw over (long_step n count place (line_said n line ++ rest) rest)
]

-- the items of lines and of their end
abbrev rest_items : LivePlace → ℕ → List (List ℕ) → List Item
rest_items place n lines = items place n lines ++ item_list (live_end (place_behind place n lines))

rest_more : (place : LivePlace) (n : ℕ) (line : List ℕ) (lines : List (List ℕ))
    → rest_items place n (line ∷ lines) ≡ item_list (live_line place n line).item ++ rest_items (live_line place n line).place (n + 1) lines
unfolding items place_behind
rest_more place n line lines =
    let next : LivePlace = (live_line place n line).place in
    append_assoc (item_list (live_line place n line).item) (items next (n + 1) lines) (item_list (live_end (place_behind next (n + 1) lines)))

-- the items of a line and those behind it
abbrev and_behind : (LivePlace → List Item) → Behind → List Item
and_behind more b = item_list b.item ++ more b.place

-- what the lines of a text say
abbrev told_by : ℕ → ℕ → List (List ℕ) → List Event
told_by n at texts = events n (placed at texts)

-- lists that make none have none
two_none : (xs ys : List Wrong) → xs ++ ys ≡ [] → (xs ≡ []) × (ys ≡ [])
two_none [] ys h = (refl, h)
two_none (x ∷ xs) ys h = absurd (cc)

-- the lines of a script ask its commands
forward_step : (n count : ℕ) (place : Place) (b : Behind) (fs : List Wrong) (cs : List Command) (rest : List Event) (more : LivePlace → List Item)
    → Stepping n count place b fs cs rest
    → ((c : ℕ) (p : Place) → faults c p rest ≡ [] → more (stands p) ≡ map Asked (commands p rest))
    → fs ≡ [] → and_behind more b ≡ map Asked cs
forward_step n count place b fs cs rest more (quiet live fault said) others none =
    ap (and_behind more) live ∙ others count place (sym fault ∙ none) ∙ ap (map Asked) (sym said)
forward_step n count place b fs cs rest more (goes next limit few opened stood live fault said) others none =
    ap (and_behind more) live ∙ others count next (two_none limit (faults count next rest) (sym fault ∙ none)).1 ∙ ap (map Asked) (sym said)
forward_step n count place b fs cs rest more (ends command limit few live fault said) others none =
    ap (and_behind more) live
    ∙ ap (λ (xs : List Item). Asked command ∷ xs) (others (count + 1) outside (two_none limit (faults (count + 1) outside rest) (sym fault ∙ none)).1)
    ∙ ap (map Asked) (sym said)
forward_step n count place b fs cs rest more (stops next wrong others alone live fault) later none = absurd (cc)

forward : (count : ℕ) (place : Place) (n at : ℕ) (texts : List (List ℕ)) → faults count place (told_by n at texts) ≡ []
    → rest_items (stands place) n texts ≡ map Asked (commands place (told_by n at texts))
unfolding events placed items place_behind live_end faults commands
forward count outside n at [] none = refl
forward count (inside begin edits) n at [] none = absurd (cc)
forward count (drafted begin trials) n at [] none = absurd (cc)
forward count (tried begin trials group edits) n at [] none = absurd (cc)
forward count place n at (text ∷ texts) none =
    let behind_text : ℕ = at + length text + 1 in
    rest_more (stands place) n text texts
    ∙ forward_step n count place _ _ _ (told_by (n + 1) behind_text texts) (λ (p : LivePlace). rest_items p (n + 1) texts)
    (line_step n count place text (told_by (n + 1) behind_text texts)) (λ c p h. forward c p (n + 1) behind_text texts h) none

open_fits : (count : ℕ) (next : Place) → IsOpen next → count < 10000 → Fits count next
open_fits count outside opened h = absurd opened
open_fits count (inside begin edits) opened h = h
open_fits count (drafted begin trials) opened h = h
open_fits count (tried begin trials group edits) opened h = h

-- a script has at most 10,000 commands
few_step : (n count : ℕ) (place : Place) (b : Behind) (fs : List Wrong) (cs : List Command) (rest : List Event)
    → Stepping n count place b fs cs rest
    → ((c : ℕ) (p : Place) → Fits c p → faults c p rest ≡ [] → c + length (commands p rest) ≤ 10000)
    → Fits count place → fs ≡ [] → count + length cs ≤ 10000
few_step n count place b fs cs rest (quiet live fault said) others fits none =
    let more = others count place fits (sym fault ∙ none) in rw said more
few_step n count place b fs cs rest (goes next limit few opened stood live fault said) others fits none =
    let both = two_none limit (faults count next rest) (sym fault ∙ none) in
    let more = others count next (open_fits count next opened (few.1 both.0 fits)) both.1 in rw said more
few_step n count place b fs cs rest (ends command limit few live fault said) others fits none =
    let both = two_none limit (faults (count + 1) outside rest) (sym fault ∙ none) in
    let below : count < 10000 = few.1 both.0 fits in
    let more = others (count + 1) outside (omega (arith, below)) both.1 in rw said (omega (arith, more))
few_step n count place b fs cs rest (stops next wrong others alone live fault) later fits none = absurd (cc)

few_commands : (count : ℕ) (place : Place) (n at : ℕ) (texts : List (List ℕ)) → Fits count place → faults count place (told_by n at texts) ≡ []
    → count + length (commands place (told_by n at texts)) ≤ 10000
unfolding events placed faults commands
few_commands count outside n at [] fits none = grind (arith, fits)
few_commands count (inside begin edits) n at [] fits none = absurd (cc)
few_commands count (drafted begin trials) n at [] fits none = absurd (cc)
few_commands count (tried begin trials group edits) n at [] fits none = absurd (cc)
few_commands count place n at (text ∷ texts) fits none =
    let behind_text : ℕ = at + length text + 1 in
    few_step n count place _ _ _ (told_by (n + 1) behind_text texts) (line_step n count place text (told_by (n + 1) behind_text texts))
    (λ c p fit h. few_commands c p (n + 1) behind_text texts fit h) fits none

-- items that are commands alone have no wrong line
first_of : (x y : Item) (xs ys : List Item) → x ∷ xs ≡ y ∷ ys → (x ≡ y) × (xs ≡ ys)
first_of x y xs ys same = (cc, cc)

same_asked : (c d : Command) → Asked c ≡ Asked d → c ≡ d
same_asked c d same = cc

same_faulty : (w v : Wrong) → Faulty w ≡ Faulty v → w ≡ v
same_faulty w v same = cc

other_sort : (c : Command) (w : Wrong) → Asked c ≡ Faulty w → ⊥
other_sort c w same = absurd (cc)

-- the same of what a line and the lines behind it give
seen : (more : LivePlace → List Item) (b c : Behind) (xs : List Item) → b ≡ c → and_behind more b ≡ xs → and_behind more c ≡ xs
seen more b c xs same given = ap (and_behind more) (sym same) ∙ given

-- what is open ends in a command, where no line is wrong
some_step : (n : ℕ) (place : Place) (b : Behind) (fs : List Wrong) (cs : List Command) (rest : List Event) (more : LivePlace → List Item)
    → Stepping n 0 place b fs cs rest
    → ((p : Place) (asked : List Command) → IsOpen p → more (stands p) ≡ map Asked asked → 1 ≤ length asked)
    → (asked : List Command) → IsOpen place → and_behind more b ≡ map Asked asked → 1 ≤ length asked
some_step n place b fs cs rest more (quiet live fault said) others asked opened given =
    others place asked opened (seen more b (goes_on (stands place)) (map Asked asked) live given)
some_step n place b fs cs rest more (goes next limit few still stood live fault said) others asked opened given =
    others next asked still (seen more b (goes_on (stands next)) (map Asked asked) live given)
some_step n place b fs cs rest more (ends command limit few live fault said) others [] opened given =
    let same = seen more b (asks command) [] live given in absurd (cc)
some_step n place b fs cs rest more (ends command limit few live fault said) others (c ∷ asked) opened given = omega arith
some_step n place b fs cs rest more (stops next wrong faults_behind alone live fault) others [] opened given =
    let same = seen more b (fails next wrong) [] live given in absurd (cc)
some_step n place b fs cs rest more (stops next wrong faults_behind alone live fault) others (c ∷ asked) opened given = omega arith

some_command : (place : Place) (n : ℕ) (texts : List (List ℕ)) (asked : List Command) → IsOpen place
    → rest_items (stands place) n texts ≡ map Asked asked → 1 ≤ length asked
unfolding items place_behind live_end
some_command outside n [] asked opened given = absurd opened
some_command (inside begin edits) n [] [] opened given = absurd (cc)
some_command (drafted begin trials) n [] [] opened given = absurd (cc)
some_command (tried begin trials group edits) n [] [] opened given = absurd (cc)
some_command place n [] (c ∷ asked) opened given = omega arith
some_command place n (text ∷ texts) asked opened given =
    some_step n place _ _ _ [] (λ (p : LivePlace). rest_items p (n + 1) texts) (line_step n 0 place text [])
    (λ p cs still h. some_command p (n + 1) texts cs still h) asked opened (sym (rest_more (stands place) n text texts) ∙ given)

-- commands alone are a script
abbrev IsScript : ℕ → Place → List Event → List Command → Type 0
IsScript count place rest asked = (faults count place rest ≡ []) × (commands place rest ≡ asked)

back_step : (n count : ℕ) (place : Place) (b : Behind) (fs : List Wrong) (cs : List Command) (rest : List Event) (more : LivePlace → List Item)
    → Stepping n count place b fs cs rest
    → ((p : Place) (asked : List Command) → IsOpen p → more (stands p) ≡ map Asked asked → 1 ≤ length asked)
    → ((c : ℕ) (p : Place) (asked : List Command) → more (stands p) ≡ map Asked asked → c + length asked ≤ 10000 → IsScript c p rest asked)
    → (asked : List Command) → and_behind more b ≡ map Asked asked → count + length asked ≤ 10000 → (fs ≡ []) × (cs ≡ asked)
back_step n count place b fs cs rest more (quiet live fault said) some others asked given few =
    let behind_line = others count place asked (seen more b (goes_on (stands place)) (map Asked asked) live given) few in
    (fault ∙ behind_line.0, said ∙ behind_line.1)
back_step n count place b fs cs rest more (goes next limit limits opened stood live fault said) some others asked given few =
    let now = seen more b (goes_on (stands next)) (map Asked asked) live given in
    let one : 1 ≤ length asked = some next asked opened now in
    let below : count < 10000 = omega (arith, one, few) in
    let behind_line = others count next asked now few in
    (fault ∙ ap (λ (xs : List Wrong). xs ++ faults count next rest) (limits.0 below) ∙ behind_line.0, said ∙ behind_line.1)
back_step n count place b fs cs rest more (ends command limit limits live fault said) some others [] given few =
    let same = seen more b (asks command) [] live given in absurd (cc)
back_step n count place b fs cs rest more (ends command limit limits live fault said) some others (c ∷ asked) given few =
    let same = first_of (Asked command) (Asked c) (more (stands outside)) (map Asked asked)
    (seen more b (asks command) (map Asked (c ∷ asked)) live given) in
    let below : count < 10000 = omega (arith, few) in
    let behind_line = others (count + 1) outside asked same.1 (omega (arith, few)) in (
      fault ∙ ap (λ (xs : List Wrong). xs ++ faults (count + 1) outside rest) (limits.0 below) ∙ behind_line.0,
      said ∙ ap (λ (xs : List Command). command ∷ xs) behind_line.1 ∙ ap (λ (x : Command). x ∷ asked) (same_asked command c same.0),
    )
back_step n count place b fs cs rest more (stops next wrong faults_behind alone live fault) some others [] given few =
    let same = seen more b (fails next wrong) [] live given in absurd (cc)
back_step n count place b fs cs rest more (stops next wrong faults_behind alone live fault) some others (c ∷ asked) given few =
    let same = first_of (Faulty wrong) (Asked c) (more next) (map Asked asked)
    (seen more b (fails next wrong) (map Asked (c ∷ asked)) live given) in
    absurd (other_sort c wrong (sym same.0))

back : (count : ℕ) (place : Place) (n at : ℕ) (texts : List (List ℕ)) (asked : List Command)
    → rest_items (stands place) n texts ≡ map Asked asked → count + length asked ≤ 10000 → IsScript count place (told_by n at texts) asked
unfolding events placed items place_behind live_end faults commands
back count outside n at [] [] given few = (refl, refl)
back count outside n at [] (c ∷ asked) given few = absurd (cc)
back count (inside begin edits) n at [] [] given few = absurd (cc)
back count (drafted begin trials) n at [] [] given few = absurd (cc)
back count (tried begin trials group edits) n at [] [] given few = absurd (cc)
back count (inside begin edits) n at [] (c ∷ asked) given few =
    absurd (other_sort c (bad begin) (sym (first_of (Faulty (bad begin)) (Asked c) [] (map Asked asked) given).0))
back count (drafted begin trials) n at [] (c ∷ asked) given few =
    absurd (other_sort c (bad begin) (sym (first_of (Faulty (bad begin)) (Asked c) [] (map Asked asked) given).0))
back count (tried begin trials group edits) n at [] (c ∷ asked) given few =
    absurd (other_sort c (bad begin) (sym (first_of (Faulty (bad begin)) (Asked c) [] (map Asked asked) given).0))
back count place n at (text ∷ texts) asked given few =
    let behind_text : ℕ = at + length text + 1 in
    back_step n count place _ _ _ (told_by (n + 1) behind_text texts) (λ (p : LivePlace). rest_items p (n + 1) texts)
    (line_step n count place text (told_by (n + 1) behind_text texts))
    (λ p cs opened h. some_command p (n + 1) texts cs opened h)
    (λ c p cs h k. back c p (n + 1) behind_text texts cs h k)
    asked (sym (rest_more (stands place) n text texts) ∙ given) few

-- the first wrong line is the first fault, and the least where it may not stand in its place
abbrev BeginsWith : Wrong → List Wrong → Type 0
BeginsWith wrong fs =
    (others : List Wrong) × (fs ≡ wrong ∷ others) × (wrong.code ≡ ScriptBadCommand → least_from (Some wrong) others ≡ Some wrong)

stand_on : (n : ℕ) (place : Place) → Stands n place → Stands (n + 1) place
stand_on n outside stood = tt
stand_on n (inside begin edits) stood = tt
stand_on n (drafted begin trials) stood = omega (arith, stood)
stand_on n (tried begin trials group edits) stood = (stood.0, omega (arith, stood.1))

first_step : (n count : ℕ) (place : Place) (b : Behind) (fs : List Wrong) (cs : List Command) (rest : List Event) (more : LivePlace → List Item)
    → Stepping n count place b fs cs rest
    → (wrong : Wrong) (later : List Item)
    → ((c : ℕ) (p : Place) (asked : List Command) → Stands (n + 1) p → more (stands p) ≡ map Asked asked ++ Faulty wrong ∷ later
    → c + length asked < 10000 → BeginsWith wrong (faults c p rest))
    → (asked : List Command) → Stands n place → and_behind more b ≡ map Asked asked ++ Faulty wrong ∷ later → count + length asked < 10000
    → BeginsWith wrong fs
first_step n count place b fs cs rest more (quiet live fault said) wrong later others asked standing given few =
    let now = seen more b (goes_on (stands place)) (map Asked asked ++ Faulty wrong ∷ later) live given in
    let first = others count place asked (stand_on n place standing) now few in
    (first.0, fault ∙ first.1, first.2)
first_step n count place b fs cs rest more (goes next limit limits opened stood live fault said) wrong later others asked standing given few =
    let now = seen more b (goes_on (stands next)) (map Asked asked ++ Faulty wrong ∷ later) live given in
    let first = others count next asked (stand_on n next (stood standing)) now few in
    let below : count < 10000 = omega (arith, few) in
    (first.0, fault ∙ ap (λ (xs : List Wrong). xs ++ faults count next rest) (limits.0 below) ∙ first.1, first.2)
first_step n count place b fs cs rest more (ends command limit limits live fault said) wrong later others [] standing given few =
    let same = first_of (Asked command) (Faulty wrong) (more (stands outside)) later
    (seen more b (asks command) (Faulty wrong ∷ later) live given) in
    absurd (other_sort command wrong same.0)
first_step n count place b fs cs rest more (ends command limit limits live fault said) wrong later others (c ∷ asked) standing given few =
    let same = first_of (Asked command) (Asked c) (more (stands outside)) (map Asked asked ++ Faulty wrong ∷ later)
    (seen more b (asks command) (map Asked (c ∷ asked) ++ Faulty wrong ∷ later) live given) in
    let below : count < 10000 = omega (arith, few) in
    let first = others (count + 1) outside asked tt same.1 (omega (arith, few)) in
    (first.0, fault ∙ ap (λ (xs : List Wrong). xs ++ faults (count + 1) outside rest) (limits.0 below) ∙ first.1, first.2)
first_step n count place b fs cs rest more (stops next here behind_it alone live fault) wrong later others [] standing given few =
    let same = first_of (Faulty here) (Faulty wrong) (more next) later
    (seen more b (fails next here) (Faulty wrong ∷ later) live given) in
    let one : here ≡ wrong = same_faulty here wrong same.0 in (
      behind_it,
      fault ∙ ap (λ (w : Wrong). w ∷ behind_it) one,
      λ code. ap (least_from (Some wrong)) (alone (ap (λ (w : Wrong). w.code) one ∙ code)) ∙ none_more (Some wrong),
    )
first_step n count place b fs cs rest more (stops next here behind_it alone live fault) wrong later others (c ∷ asked) standing given few =
    let same = first_of (Faulty here) (Asked c) (more next) (map Asked asked ++ Faulty wrong ∷ later)
    (seen more b (fails next here) (map Asked (c ∷ asked) ++ Faulty wrong ∷ later) live given) in
    absurd (other_sort c here (sym same.0))

-- an end that is wrong is the first
end_first : (begin : ℕ) (behind_it : List Wrong) (asked : List Command) (wrong : Wrong) (later : List Item)
    → least_from (Some (bad begin)) behind_it ≡ Some (bad begin)
    → Faulty (bad begin) ∷ [] ≡ map Asked asked ++ Faulty wrong ∷ later → BeginsWith wrong (bad begin ∷ behind_it)
end_first begin behind_it [] wrong later least given =
    let same = first_of (Faulty (bad begin)) (Faulty wrong) [] later given in
    let one : bad begin ≡ wrong = same_faulty (bad begin) wrong same.0 in (
      behind_it,
      ap (λ (w : Wrong). w ∷ behind_it) one,
      λ code. sym (ap (λ (w : Wrong). least_from (Some w) behind_it) one) ∙ least ∙ ap Some one,
    )
end_first begin behind_it (c ∷ asked) wrong later least given =
    let same = first_of (Faulty (bad begin)) (Asked c) [] (map Asked asked ++ Faulty wrong ∷ later) given in
    absurd (other_sort c (bad begin) (sym same.0))

-- of a draft and a group of it that have no end the draft began first
draft_first : (begin group : ℕ) → begin ≤ group → least_from (Some (bad begin)) (bad group ∷ []) ≡ Some (bad begin)
unfolding least_from
draft_first begin group ordered =
    let later : nat_lt group begin ≡ false = le-ltb group begin ordered in
    rw (later, and-false (group == begin)) refl

first_fault : (count : ℕ) (place : Place) (n at : ℕ) (texts : List (List ℕ)) (asked : List Command) (wrong : Wrong) (later : List Item)
    → Stands n place → rest_items (stands place) n texts ≡ map Asked asked ++ Faulty wrong ∷ later → count + length asked < 10000
    → BeginsWith wrong (faults count place (told_by n at texts))
unfolding events placed items place_behind live_end faults commands
first_fault count outside n at [] [] wrong later standing given few = absurd (cc)
first_fault count outside n at [] (c ∷ asked) wrong later standing given few = absurd (cc)
first_fault count (inside begin edits) n at [] asked wrong later standing given few =
    end_first begin [] asked wrong later (none_more (Some (bad begin))) given
first_fault count (drafted begin trials) n at [] asked wrong later standing given few =
    end_first begin [] asked wrong later (none_more (Some (bad begin))) given
first_fault count (tried begin trials group edits) n at [] asked wrong later standing given few =
    end_first begin (bad group ∷ []) asked wrong later (draft_first begin group standing.0) given
first_fault count place n at (text ∷ texts) asked wrong later standing given few =
    let behind_text : ℕ = at + length text + 1 in
    first_step n count place _ _ _ (told_by (n + 1) behind_text texts) (λ (p : LivePlace). rest_items p (n + 1) texts)
    (line_step n count place text (told_by (n + 1) behind_text texts)) wrong later
    (λ c p cs k h f. first_fault c p (n + 1) behind_text texts cs wrong later k h f)
    asked standing (sym (rest_more (stands place) n text texts) ∙ given) few

-- what is told is a script where there is no fault
abbrev commands_told : Result Script ReadFault → List Command
commands_told (Ok script) = script.commands
commands_told (Err fault) = []

told_ok : (least : Option Wrong) (cs : List Command) (script : Script) → told least cs ≡ Ok script → (least ≡ None) × (cs ≡ script.commands)
told_ok None cs script h = (refl, ap commands_told h)
told_ok (Some wrong) cs script h = absurd (cc)

abbrev AreClean : List ℕ → Script → Type 0
AreClean text script =
    (faults 0 outside (told_by 1 0 (cut_lines text)) ≡ []) × (commands outside (told_by 1 0 (cut_lines text)) ≡ script.commands)

clean : (text : List ℕ) (script : Script) → script_of text ≡ Ok script → AreClean text script
clean text script read =
    let es : List Event = events 1 (lines_of text) in
    let both = told_ok (least_from None (faults 0 outside es)) (commands outside es) script read in
    (least_none (faults 0 outside es) both.0, both.1)

pub script_items : (text : List ℕ) (script : Script) → script_of text ≡ Ok script → all_items (cut_lines text) ≡ map Asked script.commands
script_items text script read =
    let both = clean text script read in forward 0 outside 1 0 (cut_lines text) both.0 ∙ ap (map Asked) both.1

pub script_few : (text : List ℕ) (script : Script) → script_of text ≡ Ok script → length script.commands ≤ 10000
script_few text script read =
    let both = clean text script read in
    let few : 0 + length (commands outside (told_by 1 0 (cut_lines text))) ≤ 10000 = few_commands 0 outside 1 0 (cut_lines text) (omega arith) both.0 in
    let same : length (commands outside (told_by 1 0 (cut_lines text))) ≡ length script.commands = ap length both.1 in
    omega (arith, few, same)

pub items_script : (text : List ℕ) (asked : List Command) → all_items (cut_lines text) ≡ map Asked asked → length asked ≤ 10000
    → script_of text ≡ Ok (record { commands = asked })
unfolding least_from
items_script text asked given few =
    let both = back 0 outside 1 0 (cut_lines text) asked given (omega (arith, few)) in
    ap (λ (fs : List Wrong). told (least_from None fs) (commands outside (told_by 1 0 (cut_lines text)))) both.0
    ∙ ap (λ (cs : List Command). told None cs) both.1

pub first_wrong : (text : List ℕ) (asked : List Command) (wrong : Wrong) (later : List Item)
    → all_items (cut_lines text) ≡ map Asked asked ++ Faulty wrong ∷ later → length asked < 10000
    → (others : List Wrong) × (faults 0 outside (events 1 (lines_of text)) ≡ wrong ∷ others)
first_wrong text asked wrong later given few =
    let first = first_fault 0 outside 1 0 (cut_lines text) asked wrong later tt given (omega (arith, few)) in (first.0, first.1)

pub first_told : (text : List ℕ) (asked : List Command) (wrong : Wrong) (later : List Item)
    → all_items (cut_lines text) ≡ map Asked asked ++ Faulty wrong ∷ later → length asked < 10000
    → wrong.code ≡ ScriptBadCommand → script_of text ≡ Err (told_fault wrong)
unfolding least_from
first_told text asked wrong later given few code =
    let es : List Event = told_by 1 0 (cut_lines text) in
    let first = first_fault 0 outside 1 0 (cut_lines text) asked wrong later tt given (omega (arith, few)) in
    ap (λ (fs : List Wrong). told (least_from None fs) (commands outside es)) first.1
    ∙ ap (λ (least : Option Wrong). told least (commands outside es)) (first.2 code)
