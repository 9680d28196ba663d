-- A script: a command a line, edits from `begin_eco` to `commit_eco`, which are one command, or trials from `begin_what_if` to
-- `end_what_if`, which are one, too. Lines without a word and lines whose first word begins with `#` are passed over (own).
use Rattle.std.specs.Prelude.{ℕ, ◌+◌, List, [], ◌∷◌, ◌++◌, Bool, true, ◌==◌, ◌&&◌, ◌||◌, nat_le, length, if◌then◌else◌, codes, Option, Some, None, Result, Ok, Err}
use Rattle.std.specs.List.{list_all}
use Rattle.timing_defs.specs.declared.codes.Code.TheVariants.{ScriptBadCommand, ScriptTooLong}
use Rattle.timing_defs.specs.declared.codes.ReadFault.{ReadFault}
use Rattle.timing_defs.specs.declared.edits.Edit.{Edit}
use Rattle.timing_defs.specs.declared.reports.Query.{WhatIf}
use Rattle.timing_defs.specs.declared.reports.Trial.{Trial}
use Rattle.timing_defs.specs.declared.reports.Trial.TheVariants.{Try, Drop, Ask as ask_draft}
use Rattle.timing_defs.specs.declared.scripts.Command.{Command}
use Rattle.timing_defs.specs.declared.scripts.Command.TheVariants.{Take, Await, Ask, Change}
use Rattle.timing_defs.specs.declared.scripts.Script.{Script}
use Rattle.script_reader.specs.Words.{may_be_tried}
use Rattle.sta_text.specs.Bytes.{begins}
use Rattle.sta_text.specs.declared.faults.Wrong.{Wrong}
use Rattle.sta_text.specs.Faults.{least_from, told_fault}
use Rattle.eco_journal.specs.declared.stops.Stop.{Stop}
use Rattle.eco_journal.specs.Lines.{Part, lines_of}
use Rattle.eco_journal.specs.Words.{text, says}
use Rattle.eco_journal.specs.EditLines.{edit_of}
use Rattle.script_reader.specs.Commands.{words_in, command_of}

-- what the line of a number says: it is too long, it is a command by itself, an edit, the begin or
-- the end of a group or of a draft, the last edits of a draft are dropped, or none of these
pub data Event : Type 0 where
  long : ℕ → Event
  single : ℕ → Command → Event
  change : ℕ → Edit → Event
  group_begin : ℕ → Event
  group_end : ℕ → Event
  draft_begin : ℕ → Event
  draft_end : ℕ → Event
  dropped : ℕ → Event
  unknown : ℕ → Event

abbrev pub is_ascii : ℕ → Bool
is_ascii byte = nat_le byte 127

-- no word, or a comment
abbrev pub is_passed : List Part → Bool
is_passed words = length words == 0 || begins 35 (text words 0)

-- the line is this one word
abbrev pub is_alone : List Part → List ℕ → Bool
is_alone words word = length words == 1 && says words 0 word

abbrev pub edit_said : ℕ → Result Edit Stop → List Event
edit_said n (Ok e) = change n e ∷ []
edit_said n (Err stop) = unknown n ∷ []

abbrev pub command_said : ℕ → List Part → Option Command → List Event
command_said n words (Some command) = single n command ∷ []
command_said n words None = edit_said n (edit_of true words)

-- what the words of line n say
abbrev pub words_said : ℕ → List Part → List Event
words_said n words =
    (if is_passed words then [] else
    (if is_alone words (codes "begin_eco") then group_begin n ∷ [] else
    (if is_alone words (codes "commit_eco") then group_end n ∷ [] else
    (if is_alone words (codes "begin_what_if") then draft_begin n ∷ [] else
    (if is_alone words (codes "end_what_if") then draft_end n ∷ [] else
    (if is_alone words (codes "drop_last") then dropped n ∷ [] else command_said n words (command_of words)))))))

-- what line n says; all of its bytes are of ASCII
abbrev pub line_said : ℕ → List ℕ → List Event
line_said n line = (if list_all is_ascii line then words_said n (words_in line) else unknown n ∷ [])

-- a line is too long above 65,536 bytes
abbrev pub too_long : ℕ → List ℕ → List Event
too_long n line = (if nat_le (length line) 65536 then [] else long n ∷ [])

-- what the lines say, of which the first has the number n
unfoldable pub events : ℕ → List Part → List Event
events n [] = []
events n (line ∷ lines) = too_long n line.text ++ (line_said n line.text ++ events (n + 1) lines)

-- where a line stands: outside, in the group that began at a line, behind its edits, in the draft that began at a line,
-- behind its trials, or in a group of a draft
pub data Place : Type 0 where
  outside : Place
  inside : (begin : ℕ) → List Edit → Place
  drafted : (begin : ℕ) → List Trial → Place
  tried : (begin : ℕ) → List Trial → (group : ℕ) → List Edit → Place

abbrev pub eco : List Edit → Command
eco edits = Change (record { edits = edits })

-- edits that are tried together
abbrev pub trial : List Edit → Trial
trial edits = Try (record { edits = edits })

abbrev pub what_if : List Trial → Command
what_if trials = Ask (WhatIf trials)

-- the commands that are said
unfoldable pub commands : Place → List Event → List Command
commands place (long n ∷ es) = commands place es
commands outside (single n c ∷ es) = c ∷ commands outside es
commands outside (change n e ∷ es) = eco (e ∷ []) ∷ commands outside es
commands outside (group_begin n ∷ es) = commands (inside n []) es
commands outside (draft_begin n ∷ es) = commands (drafted n []) es
commands (inside begin edits) (change n e ∷ es) = commands (inside begin (edits ++ e ∷ [])) es
commands (inside begin edits) (group_end n ∷ es) = eco edits ∷ commands outside es
commands (drafted begin trials) (single n (Ask q) ∷ es) =
    (if may_be_tried q then commands (drafted begin (trials ++ ask_draft q ∷ [])) es else [])
commands (drafted begin trials) (change n e ∷ es) = commands (drafted begin (trials ++ trial (e ∷ []) ∷ [])) es
commands (drafted begin trials) (dropped n ∷ es) = commands (drafted begin (trials ++ Drop ∷ [])) es
commands (drafted begin trials) (group_begin n ∷ es) = commands (tried begin trials n []) es
commands (drafted begin trials) (draft_end n ∷ es) = what_if trials ∷ commands outside es
commands (tried begin trials group edits) (change n e ∷ es) = commands (tried begin trials group (edits ++ e ∷ [])) es
commands (tried begin trials group edits) (group_end n ∷ es) = commands (drafted begin (trials ++ trial edits ∷ [])) es
commands place es = []

-- C1
abbrev pub bad : ℕ → Wrong
bad n = record { code = ScriptBadCommand; at = n }

-- C2
abbrev pub excess : ℕ → Wrong
excess n = record { code = ScriptTooLong; at = n }

-- C2 at line n, where at least so many of its kind stand before it
abbrev pub behind : ℕ → ℕ → ℕ → List Wrong
behind limit before n = (if nat_le limit before then excess n ∷ [] else [])

-- C1 at the begin of a group that has no edit, or of a draft that has no trial
abbrev pub if_empty : {X : Type 0} → ℕ → List X → List Wrong → List Wrong
if_empty begin [] faults = bad begin ∷ []
if_empty begin (x ∷ xs) faults = faults

-- the faults of what is said behind so many commands; nothing is looked at behind a line that may
-- not stand in its place
unfoldable pub faults : ℕ → Place → List Event → List Wrong
faults count place (long n ∷ es) = excess n ∷ faults count place es
faults count outside [] = []
faults count outside (single n c ∷ es) = behind 10000 count n ++ faults (count + 1) outside es
faults count outside (change n e ∷ es) = behind 10000 count n ++ faults (count + 1) outside es
faults count outside (group_begin n ∷ es) = behind 10000 count n ++ faults count (inside n []) es
faults count outside (group_end n ∷ es) = bad n ∷ []
faults count outside (draft_begin n ∷ es) = behind 10000 count n ++ faults count (drafted n []) es
faults count outside (draft_end n ∷ es) = bad n ∷ []
faults count outside (dropped n ∷ es) = bad n ∷ []
faults count outside (unknown n ∷ es) = bad n ∷ []
faults count (inside begin edits) [] = bad begin ∷ []
faults count (inside begin edits) (single n c ∷ es) = bad n ∷ []
faults count (inside begin edits) (change n e ∷ es) =
    behind 1000 (length edits) n ++ faults count (inside begin (edits ++ e ∷ [])) es
faults count (inside begin edits) (group_begin n ∷ es) = bad n ∷ []
faults count (inside begin edits) (group_end n ∷ es) = if_empty begin edits (faults (count + 1) outside es)
faults count (inside begin edits) (draft_begin n ∷ es) = bad n ∷ []
faults count (inside begin edits) (draft_end n ∷ es) = bad n ∷ []
faults count (inside begin edits) (dropped n ∷ es) = bad n ∷ []
faults count (inside begin edits) (unknown n ∷ es) = bad n ∷ []
faults count (drafted begin trials) [] = bad begin ∷ []
faults count (drafted begin trials) (single n (Ask q) ∷ es) =
    (if may_be_tried q then behind 100 (length trials) n ++ faults count (drafted begin (trials ++ ask_draft q ∷ [])) es else bad n ∷ [])
faults count (drafted begin trials) (single n Take ∷ es) = bad n ∷ []
faults count (drafted begin trials) (single n (Await number looks) ∷ es) = bad n ∷ []
faults count (drafted begin trials) (single n (Change edits) ∷ es) = bad n ∷ []
faults count (drafted begin trials) (change n e ∷ es) =
    behind 100 (length trials) n ++ faults count (drafted begin (trials ++ trial (e ∷ []) ∷ [])) es
faults count (drafted begin trials) (group_begin n ∷ es) = behind 100 (length trials) n ++ faults count (tried begin trials n []) es
faults count (drafted begin trials) (group_end n ∷ es) = bad n ∷ []
faults count (drafted begin trials) (draft_begin n ∷ es) = bad n ∷ []
faults count (drafted begin trials) (draft_end n ∷ es) = if_empty begin trials (faults (count + 1) outside es)
faults count (drafted begin trials) (dropped n ∷ es) =
    behind 100 (length trials) n ++ faults count (drafted begin (trials ++ Drop ∷ [])) es
faults count (drafted begin trials) (unknown n ∷ es) = bad n ∷ []
faults count (tried begin trials group edits) [] = bad begin ∷ bad group ∷ []
faults count (tried begin trials group edits) (single n c ∷ es) = bad n ∷ []
faults count (tried begin trials group edits) (change n e ∷ es) =
    behind 1000 (length edits) n ++ faults count (tried begin trials group (edits ++ e ∷ [])) es
faults count (tried begin trials group edits) (group_begin n ∷ es) = bad n ∷ []
faults count (tried begin trials group edits) (group_end n ∷ es) =
    if_empty group edits (faults count (drafted begin (trials ++ trial edits ∷ [])) es)
faults count (tried begin trials group edits) (draft_begin n ∷ es) = bad n ∷ []
faults count (tried begin trials group edits) (draft_end n ∷ es) = bad n ∷ []
faults count (tried begin trials group edits) (dropped n ∷ es) = bad n ∷ []
faults count (tried begin trials group edits) (unknown n ∷ es) = bad n ∷ []

abbrev pub told : Option Wrong → List Command → Result Script ReadFault
told None commands = Ok (record { commands = commands })
told (Some wrong) commands = Err (told_fault wrong)

abbrev pub script_said : List Event → Result Script ReadFault
script_said es = told (least_from None (faults 0 outside es)) (commands outside es)

-- a script by its text, or the fault of its lowest line; lines count from 1
abbrev pub script_of : List ℕ → Result Script ReadFault
script_of bytes = script_said (events 1 (lines_of bytes))
