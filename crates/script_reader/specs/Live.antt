-- A session that is read line by line: each line is a command, or a wrong line, or neither. A command has one line, or the lines
-- of a group or of a draft, whose last is the command's. Behind a wrong line in a group or in a draft the rest of it, up to its
-- end, is passed over (own).
use Rattle.std.specs.Prelude.{ℕ, ◌+◌, List, [], ◌∷◌, ◌++◌, nat_le, length, if◌then◌else◌, Option, Some, None}
use Rattle.timing_defs.specs.declared.edits.Edit.{Edit}
use Rattle.timing_defs.specs.declared.reports.Trial.{Trial}
use Rattle.timing_defs.specs.declared.reports.Trial.TheVariants.{Drop, Ask as ask_draft}
use Rattle.timing_defs.specs.declared.scripts.Command.{Command}
use Rattle.timing_defs.specs.declared.scripts.Command.TheVariants.{Ask}
use Rattle.script_reader.specs.Words.{may_be_tried}
use Rattle.sta_text.specs.declared.faults.Wrong.{Wrong}
use Rattle.script_reader.specs.declared.live.Item.{Item}
use Rattle.script_reader.specs.declared.live.Item.TheVariants.{Asked, Faulty}
use Rattle.script_reader.specs.Scripts.{Event, long, single, change, group_begin, group_end, draft_begin, draft_end, dropped, unknown, line_said, Place, outside, inside, drafted, tried, eco, trial, what_if, bad, excess}

-- where a line stands: as in a script, or in a group or a draft whose rest is passed over
pub data LivePlace : Type 0 where
  stands : Place → LivePlace
  passing_eco : LivePlace
  passing_draft : LivePlace

-- where the next line stands, and how many lines stand before it
pub record Reading : Type 0 where
  pub place : LivePlace
  pub lines : ℕ

-- before the first line
abbrev pub beginning : Reading
beginning = record { place = stands outside; lines = 0 }

-- the place behind a line, and the item that the line ends, if it ends one
pub record Behind : Type 0 where
  pub place : LivePlace
  pub item : Option Item

-- a line that ends no item
abbrev pub goes_on : LivePlace → Behind
goes_on place = record { place = place; item = None }

-- a command ends, and the next line stands outside
abbrev pub asks : Command → Behind
asks command = record { place = stands outside; item = Some (Asked command) }

-- a wrong line, behind which a place holds
abbrev pub fails : LivePlace → Wrong → Behind
fails place wrong = record { place = place; item = Some (Faulty wrong) }

-- what is open at a place is given up, and what is left of it is passed over
abbrev pub given_up : Place → LivePlace
given_up outside = stands outside
given_up (inside begin edits) = passing_eco
given_up (drafted begin trials) = passing_draft
given_up (tried begin trials group edits) = passing_draft

-- C1: a line that may not stand at its place
abbrev pub unfit : Place → ℕ → Behind
unfit place n = fails (given_up place) (bad n)

-- C2: a line that is too long, or one more where so many of its kind stand before it as may
abbrev pub crowded : Place → ℕ → Behind
crowded place n = fails (given_up place) (excess n)

-- line n leads to a place, if fewer than that many of its kind stand before it
abbrev pub if_room : ℕ → ℕ → ℕ → Place → Place → Behind
if_room limit before n place next = (if nat_le limit before then crowded place n else goes_on (stands next))

-- one trial more of a draft, said by line n
abbrev pub more_trials : ℕ → ℕ → List Trial → Trial → Behind
more_trials n begin trials t = if_room 100 (length trials) n (drafted begin trials) (drafted begin (trials ++ t ∷ []))

-- the end of a group: its edits are one command, and a group without an edit is wrong at its begin
abbrev pub group_closed : ℕ → List Edit → Behind
group_closed begin [] = fails (stands outside) (bad begin)
group_closed begin (e ∷ es) = asks (eco (e ∷ es))

-- the end of a draft
abbrev pub draft_closed : ℕ → List Trial → Behind
draft_closed begin [] = fails (stands outside) (bad begin)
draft_closed begin (t ∷ ts) = asks (what_if (t ∷ ts))

-- the end of a group of a draft: its edits are one trial; where it has none the draft is given up
abbrev pub trial_closed : ℕ → List Trial → ℕ → List Edit → Behind
trial_closed begin trials group [] = fails passing_draft (bad group)
trial_closed begin trials group (e ∷ es) = goes_on (stands (drafted begin (trials ++ trial (e ∷ es) ∷ [])))

-- the line of an event
abbrev pub line_of : Event → ℕ
line_of (long n) = n
line_of (single n command) = n
line_of (change n e) = n
line_of (group_begin n) = n
line_of (group_end n) = n
line_of (draft_begin n) = n
line_of (draft_end n) = n
line_of (dropped n) = n
line_of (unknown n) = n

-- behind an event outside
abbrev pub outside_event : Event → Behind
outside_event (long n) = crowded outside n
outside_event (single n command) = asks command
outside_event (change n e) = asks (eco (e ∷ []))
outside_event (group_begin n) = goes_on (stands (inside n []))
outside_event (draft_begin n) = goes_on (stands (drafted n []))
outside_event e = unfit outside (line_of e)

-- behind an event in a group
abbrev pub group_event : ℕ → List Edit → Event → Behind
group_event begin edits (long n) = crowded (inside begin edits) n
group_event begin edits (change n e) =
    if_room 1000 (length edits) n (inside begin edits) (inside begin (edits ++ e ∷ []))
group_event begin edits (group_end n) = group_closed begin edits
group_event begin edits e = unfit (inside begin edits) (line_of e)

-- behind an event in a draft
abbrev pub draft_event : ℕ → List Trial → Event → Behind
draft_event begin trials (long n) = crowded (drafted begin trials) n
draft_event begin trials (single n (Ask q)) =
    (if may_be_tried q then more_trials n begin trials (ask_draft q) else unfit (drafted begin trials) n)
draft_event begin trials (change n e) = more_trials n begin trials (trial (e ∷ []))
draft_event begin trials (dropped n) = more_trials n begin trials Drop
draft_event begin trials (group_begin n) =
    if_room 100 (length trials) n (drafted begin trials) (tried begin trials n [])
draft_event begin trials (draft_end n) = draft_closed begin trials
draft_event begin trials e = unfit (drafted begin trials) (line_of e)

-- behind an event in a group of a draft; the draft's own end is wrong there, and nothing is left that could be passed over
abbrev pub trial_event : ℕ → List Trial → ℕ → List Edit → Event → Behind
trial_event begin trials group edits (long n) = crowded (tried begin trials group edits) n
trial_event begin trials group edits (change n e) =
    if_room 1000 (length edits) n (tried begin trials group edits) (tried begin trials group (edits ++ e ∷ []))
trial_event begin trials group edits (group_end n) = trial_closed begin trials group edits
trial_event begin trials group edits (draft_end n) = fails (stands outside) (bad n)
trial_event begin trials group edits e = unfit (tried begin trials group edits) (line_of e)

-- behind an event at a place
abbrev pub place_event : Place → Event → Behind
place_event outside e = outside_event e
place_event (inside begin edits) e = group_event begin edits e
place_event (drafted begin trials) e = draft_event begin trials e
place_event (tried begin trials group edits) e = trial_event begin trials group edits e

-- behind an event; a group that is passed over ends with its `commit_eco`, a draft with its `end_what_if`
abbrev pub live_event : LivePlace → Event → Behind
live_event (stands place) e = place_event place e
live_event passing_eco (group_end n) = goes_on (stands outside)
live_event passing_eco e = goes_on passing_eco
live_event passing_draft (draft_end n) = goes_on (stands outside)
live_event passing_draft e = goes_on passing_draft

-- behind a line that says so much, which is one event or none
abbrev pub live_said : LivePlace → List Event → Behind
live_said place [] = goes_on place
live_said place (e ∷ es) = live_event place e

-- what line n says; a line that is too long says that alone
abbrev pub live_events : ℕ → List ℕ → List Event
live_events n line = (if nat_le (length line) 65536 then line_said n line else long n ∷ [])

-- behind line n, which has these bytes
unfoldable pub live_line : LivePlace → ℕ → List ℕ → Behind
live_line place n line = live_said place (live_events n line)

-- the item that the next line of a session ends, and where the session stands behind it
abbrev pub next_item : Reading → List ℕ → Option Item
next_item r line = (live_line r.place (r.lines + 1) line).item

abbrev pub behind_next : Reading → List ℕ → Reading
behind_next r line = record { place = (live_line r.place (r.lines + 1) line).place; lines = r.lines + 1 }

-- what the end of the lines makes wrong: a group or a draft that is open, at its begin
unfoldable pub live_end : LivePlace → Option Item
live_end (stands outside) = None
live_end (stands (inside begin edits)) = Some (Faulty (bad begin))
live_end (stands (drafted begin trials)) = Some (Faulty (bad begin))
live_end (stands (tried begin trials group edits)) = Some (Faulty (bad begin))
live_end passing_eco = None
live_end passing_draft = None

-- an item, if there is one
abbrev pub item_list : Option Item → List Item
item_list None = []
item_list (Some item) = item ∷ []

-- the items that lines end, of which the first has the number n
unfoldable pub items : LivePlace → ℕ → List (List ℕ) → List Item
items place n [] = []
items place n (line ∷ lines) = item_list (live_line place n line).item ++ items (live_line place n line).place (n + 1) lines

-- the place behind lines
unfoldable pub place_behind : LivePlace → ℕ → List (List ℕ) → LivePlace
place_behind place n [] = place
place_behind place n (line ∷ lines) = place_behind (live_line place n line).place (n + 1) lines

-- the items of a session whose lines these are, all of them
abbrev pub all_items : List (List ℕ) → List Item
all_items lines = items (stands outside) 1 lines ++ item_list (live_end (place_behind (stands outside) 1 lines))
