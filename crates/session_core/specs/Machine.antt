-- The session core: sessions run their scripts over one journal, and an event is one atomic step of
-- one of them (own; optimistic concurrency control after Kung and Robinson, 1981: read, validate, write).

use Rattle.std.specs.Prelude.{◌≡◌, ℕ, zero, suc, ◌+◌, ◌-◌, ◌<◌, ◌≤◌, ◌^◌, ◌==◌, nat_lt, nat_le, ◌&&◌, Bool, true, false, IsTrue, if◌then◌else◌, List, [], ◌∷◌, ◌++◌, length, map, drop, slice_get, slice_set, fold, Option, Some, None, is_some, is_none, IsSome, IfSome, option_map}
use Rattle.std.specs.List.{list_all}
use Rattle.std.specs.Option.{option_map_or}
use Rattle.timing_defs.specs.declared.edits.Eco.{Eco}
use Rattle.timing_defs.specs.declared.edits.Entry.{Entry}
use Rattle.timing_defs.specs.declared.scripts.Command.{Command}
use Rattle.timing_defs.specs.declared.scripts.Command.TheVariants.{Take as take_command, Await, Ask, Change}
use Rattle.timing_defs.specs.declared.scripts.Script.{Script}
use Rattle.session_core.specs.declared.events.Event.{Event}
use Rattle.session_core.specs.declared.events.Event.TheVariants.{Take, Level, Publish, Answer}
use Rattle.session_core.specs.declared.rows.CoreDraft.{CoreDraft}
use Rattle.session_core.specs.declared.rows.CoreSession.{CoreSession}
use Rattle.session_core.specs.declared.rows.RowSort.{RowSort}
use Rattle.session_core.specs.declared.rows.RowSort.TheVariants.{Taken, Reached, NotYet, Accepted, Refused, Asked}

-- what a core holds: the first number, the journal, the scripts, and where each session is
pub record State : Type 0 where
  pub first : ℕ
  pub entries : List Entry
  pub scripts : List Script
  pub sessions : List CoreSession

-- the state of these parts
abbrev pub state : ℕ → List Entry → List Script → List CoreSession → State
state first entries scripts sessions = record { first = first; entries = entries; scripts = scripts; sessions = sessions }

-- the number of the newest version
abbrev pub newest : State → ℕ
newest s = s.first + length s.entries

-- the next command of a session; none after the last
abbrev pub next_command : Script → CoreSession → Option Command
next_command script t = slice_get script.commands (t.next - 1)

-- the session looks at the newest version, number n, and holds it
abbrev pub with_look : ℕ → CoreSession → CoreSession
with_look n t = record t { held = Some n; looks = t.looks ++ n ∷ [] }

-- a draft on the version n, of which no level is merged yet
abbrev pub draft_on : ℕ → Option CoreDraft
draft_on n = Some (record { base = n; levels = 0 })

-- the next command has its row: the looks are spent, the draft ends, and the command after it is next
abbrev pub with_row : ℕ → RowSort → CoreSession → CoreSession
with_row number sort t =
    record {
      next = t.next + 1;
      held = Some number;
      looks = [];
      draft = None;
      rows = t.rows ++ record { command = t.next; number = number; sort = sort } ∷ [];
    }

-- a session may take a snapshot while it holds none, and for each command but a report
abbrev pub may_take : Option Command → Option ℕ → Bool
may_take (Some take_command) held = true
may_take (Some (Await number looks)) held = true
may_take (Some (Change eco)) held = true
may_take (Some (Ask q)) held = is_none held
may_take None held = is_none held

-- an ECO begins a draft on each snapshot; no other command has one
abbrev pub draft_after_take : ℕ → Option Command → Option CoreDraft → Option CoreDraft
draft_after_take n (Some (Change eco)) draft = draft_on n
draft_after_take n (Some take_command) draft = draft
draft_after_take n (Some (Await number looks)) draft = draft
draft_after_take n (Some (Ask q)) draft = draft
draft_after_take n None draft = draft

-- a snapshot of the newest version is taken
abbrev pub after_take : ℕ → Option Command → CoreSession → CoreSession
after_take n command t =
    (if may_take command t.held
    then record (with_look n t) { draft = draft_after_take n command t.draft }
    else t)

-- the level that comes next in a draft is merged
abbrev pub draft_after_level : ℕ → CoreDraft → CoreDraft
draft_after_level level draft =
    (if draft.levels == level && nat_lt level (2 ^ 64 - 1) then record draft { levels = level + 1 } else draft)

-- a level is merged, if there is a draft
abbrev pub after_level : ℕ → CoreSession → CoreSession
after_level level t = record t { draft = option_map (draft_after_level level) t.draft }

-- the ECO that is published: that of a draft whose base is the newest version
abbrev pub published_eco : ℕ → Option Command → Option CoreDraft → Option Eco
published_eco n (Some (Change eco)) (Some draft) = (if draft.base == n then Some eco else None)
published_eco n command draft = None

-- a draft on the newest version is accepted at the next number; one on an older version begins again on the newest
abbrev pub after_publish : ℕ → Option Command → Option CoreDraft → CoreSession → CoreSession
after_publish n (Some (Change eco)) (Some draft) t =
    (if draft.base == n then with_row (n + 1) Accepted t else record (with_look n t) { draft = draft_on n })
after_publish n command draft t = t

-- the last n of a list
abbrev pub last_of : {X : Type 0} → ℕ → List X → List X
last_of n xs = drop (length xs - n) xs

-- an `await` is reached where the last look has the number, and ends without it where enough looks fell short
abbrev pub await_answer : ℕ → ℕ → ℕ → List ℕ → Option RowSort
await_answer number looks held seen =
    (if nat_lt 0 (length seen) && nat_le number held
    then Some Reached
    else if nat_le looks (length seen) && list_all (λ n. nat_lt n number) seen
    then Some (NotYet (last_of looks seen))
    else None)

-- how a session that holds the version `held` may answer its next command now, if it may
abbrev pub answer_to : Option Command → ℕ → CoreSession → Option RowSort
answer_to (Some take_command) held t = (if nat_lt 0 (length t.looks) then Some Taken else None)
answer_to (Some (Await number looks)) held t = await_answer number looks held t.looks
answer_to (Some (Ask q)) held t = Some Asked
answer_to (Some (Change eco)) held t = (if is_some t.draft then Some Refused else None)
answer_to None held t = None

-- the next command is answered at the version that is held; an ECO's draft has it as its base
abbrev pub after_answer : Option Command → Option ℕ → CoreSession → CoreSession
after_answer command None t = t
after_answer command (Some held) t = option_map_or (λ sort. with_row held sort t) (answer_to command held t) t

-- one case for each kind of event: what it makes of its session
abbrev pub session_after : ℕ → Option Command → Event → CoreSession → CoreSession
session_after n command (Take k) t = after_take n command t
session_after n command (Level k level) t = after_level level t
session_after n command (Publish k) t = after_publish n command t.draft t
session_after n command (Answer k) t = after_answer command t.held t

-- and of the journal: a publication adds the ECO as an entry of its session
abbrev pub entries_after : ℕ → Option Command → Event → CoreSession → List Entry → List Entry
entries_after n command (Take k) t entries = entries
entries_after n command (Level k level) t entries = entries
entries_after n command (Publish k) t entries =
    option_map_or (λ eco. entries ++ record { session = k; eco = eco } ∷ []) (published_eco n command t.draft) entries
entries_after n command (Answer k) t entries = entries

-- the number of the session that an event is of, from 1
abbrev pub session_of : Event → ℕ
session_of (Take k) = k
session_of (Level k level) = k
session_of (Publish k) = k
session_of (Answer k) = k

-- an event of the session at a place, from 0; without such a session nothing changes
abbrev pub happens_at : State → Event → ℕ → Option Script → Option CoreSession → State
happens_at s event place (Some script) (Some t) =
    let n = newest s in
    let command = next_command script t in
    record s {
      entries = entries_after n command event t s.entries;
      sessions = slice_set s.sessions place (session_after n command event t);
    }
happens_at s event place None session = s
happens_at s event place (Some script) None = s

-- an event of the session with that number, from 1
abbrev pub happens_to : State → Event → ℕ → State
happens_to s event zero = s
happens_to s event (suc place) = happens_at s event place (slice_get s.scripts place) (slice_get s.sessions place)

-- the state after an event; one that is not possible changes nothing
abbrev pub happens : State → Event → State
happens s event = happens_to s event (session_of event)

-- a session before its first command
abbrev pub unstarted : CoreSession
unstarted = record { next = 1; held = None; looks = []; draft = None; rows = [] }

-- a core of these scripts before any event
abbrev pub opening : ℕ → List Script → State
opening first scripts = state first [] scripts (map (λ _. unstarted) scripts)

-- the state after a list of events, in order
abbrev pub after_all : State → List Event → State
after_all s events = fold happens s events

-- an `await` asks for at least one look
abbrev pub may_end : Command → Bool
may_end (Await number looks) = nat_lt 0 looks
may_end take_command = true
may_end (Ask q) = true
may_end (Change eco) = true

-- a script has at most 10,000 commands, and each can be answered
abbrev pub is_runnable : Script → Bool
is_runnable script = nat_le (length script.commands) 10000 && list_all may_end script.commands

-- whether the next command is an ECO
abbrev pub is_change : Option Command → Bool
is_change (Some (Change eco)) = true
is_change (Some take_command) = false
is_change (Some (Await number looks)) = false
is_change (Some (Ask q)) = false
is_change None = false

-- a session is within its script: the next command is one of it or comes after the last, a version is held where
-- there are looks, and a draft is that of an ECO on the version that is held
abbrev pub IsWithin : Script → CoreSession → Type 0
IsWithin script t =
    (1 ≤ t.next) × (t.next ≤ length script.commands + 1)
    × (0 < length t.looks → IsSome t.held)
    × IfSome t.draft (λ draft. IsTrue (is_change (next_command script t)) × (t.held ≡ Some draft.base))

-- each session is within its script
abbrev pub AreWithin : List Script → List CoreSession → Type 0
AreWithin scripts sessions =
    (place : ℕ) (script : Script) (t : CoreSession) → slice_get scripts place ≡ Some script → slice_get sessions place ≡ Some t → IsWithin script t
