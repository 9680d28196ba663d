-- What a reader of scripts has read, and what the rest then makes of it.
use Rattle.std.specs.Prelude.{ℕ, ◌+◌, List, [], ◌∷◌, ◌++◌, length, Result}
use Rattle.timing_defs.specs.declared.codes.ReadFault.{ReadFault}
use Rattle.timing_defs.specs.declared.scripts.Command.{Command}
use Rattle.timing_defs.specs.declared.scripts.Script.{Script}
use Rattle.sta_text.specs.Faults.{least_from}
use Rattle.script_reader.specs.declared.lines.Said.{Said}
use Rattle.script_reader.specs.declared.lines.Said.TheVariants.{Passed, Begin, End, BeginDraft, EndDraft, Drops, Changes, Runs, Unfit}
use Rattle.script_reader.specs.declared.states.Draft.{Draft}
use Rattle.script_reader.specs.declared.states.Group.{Group}
use Rattle.script_reader.specs.declared.states.Progress.{Progress}
use Rattle.script_reader.specs.declared.states.State.{State}
use Rattle.script_reader.specs.declared.states.State.TheVariants.{Outside, InGroup, InDraft, InDraftGroup, Stopped}
use Rattle.script_reader.specs.Scripts.{Event, single, change, group_begin, group_end, draft_begin, draft_end, dropped, unknown, Place, outside, inside, drafted, tried, commands, behind, faults, told}

-- what line n says, as the reader keeps it
abbrev pub said_events : ℕ → Said → List Event
said_events n Passed = []
said_events n Begin = group_begin n ∷ []
said_events n End = group_end n ∷ []
said_events n BeginDraft = draft_begin n ∷ []
said_events n EndDraft = draft_end n ∷ []
said_events n Drops = dropped n ∷ []
said_events n (Changes e) = change n e ∷ []
said_events n (Runs c) = single n c ∷ []
said_events n Unfit = unknown n ∷ []

-- the places in a group, in a draft and in a group of a draft
abbrev pub in_group : Group → Place
in_group g = inside g.begin g.edits

abbrev pub in_draft : Draft → Place
in_draft d = drafted d.begin d.trials

abbrev pub in_draft_group : Draft → Group → Place
in_draft_group d g = tried d.begin d.trials g.begin g.edits

abbrev pub behind_progress : Progress → Place → List Event → Result Script ReadFault
behind_progress p place rest =
    told (least_from p.fault (faults (length p.commands) place rest)) (p.commands ++ commands place rest)

-- the same behind line n, before which so many of its kind stand, of which that many may
abbrev pub behind_limit : Progress → ℕ → ℕ → ℕ → Place → List Event → Result Script ReadFault
behind_limit p limit before n place rest =
    told (least_from p.fault (behind limit before n ++ faults (length p.commands) place rest)) (p.commands ++ commands place rest)

-- the same behind one command more
abbrev pub behind_command : Progress → Command → List Event → Result Script ReadFault
behind_command p c rest =
    told (least_from p.fault (faults (length p.commands + 1) outside rest)) (p.commands ++ c ∷ commands outside rest)

-- the script, or its fault, where this is what the other lines say
abbrev pub whole : State → List Event → Result Script ReadFault
whole (Outside p) rest = behind_progress p outside rest
whole (InGroup g p) rest = behind_progress p (in_group g) rest
whole (InDraft d p) rest = behind_progress p (in_draft d) rest
whole (InDraftGroup d g p) rest = behind_progress p (in_draft_group d g) rest
whole (Stopped p) rest = told p.fault p.commands
