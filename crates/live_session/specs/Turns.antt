-- What comes of one line of a session: it is heard, its item is answered, and the reply is told.

use Rattle.std.specs.Prelude.{Bool, true, false, ℕ, ◌≡◌, ◌⊎◌, ◌-◌, ◌+◌, ◌^◌, List, [], ◌∷◌, ◌++◌, length, Option, Some, None, Result, Ok, Err, ⊤}
use Rattle.sta_outside.specs.Shelf.{Rose}
use Rattle.timing_defs.specs.declared.scripts.Command.{Command}
use Rattle.timing_defs.specs.declared.scripts.Row.{Row}
use Rattle.live_doors.specs.Doors.{Deed, Loses, Grows, Hears}
use Rattle.script_reader.specs.declared.live.Item.{Item}
use Rattle.script_reader.specs.declared.live.Item.TheVariants.{Asked, Faulty}
use Rattle.script_reader.specs.Scripts.{outside}
use Rattle.script_reader.specs.Live.{Reading, stands, live_line, live_end, item_list, place_behind}
use Rattle.live_session.specs.declared.replies.Reply.{Reply}
use Rattle.live_session.specs.declared.replies.TalkEnd.{TalkEnd}
use Rattle.live_session.specs.declared.replies.TalkEnd.TheVariants.{Closed, Deaf, Mute, Unkept, Wanting, Full}
use Rattle.live_session.specs.declared.replies.Unanswered.{Unanswered}
use Rattle.live_session.specs.declared.replies.Unanswered.TheVariants.{Memory as no_memory, Full as no_number}
use Rattle.live_session.specs.declared.talking.Round.{Round}
use Rattle.live_session.specs.declared.talking.Round.TheVariants.{Goes, Ends}
use Rattle.live_session.specs.Talks.{Telling, AtDoor, IsKept, IsUnkept, AreKept, IsReply, AreReplies, commands_in, rows_in, deeds_of, told_of, IsCut, IsTalk, is_clean, are_clean}

-- what was run goes on by these commands and rows
abbrev pub Extends : (List Command → List Row → Type 0) → (List Command → List Row → Type 0) → List Command → List Row → Type 0
Extends Ran Ran' commands rows = (before : List Command) (above : List Row) → Ran before above → Ran' (before ++ commands) (above ++ rows)

-- what was run stays as it is
abbrev pub Remains : (List Command → List Row → Type 0) → (List Command → List Row → Type 0) → Type 0
Remains Ran Ran' = (before : List Command) (above : List Row) → Ran before above → Ran' before above

-- as many commands were run as have a number
abbrev pub IsFilled : (List Command → List Row → Type 0) → Type 0
IsFilled Ran = (before : List Command) (above : List Row) → Ran before above → length before ≡ 2 ^ 32 - 1

-- a command has its row, or what was run stays
abbrev pub Runs : (List Command → List Row → Type 0) → (List Command → List Row → Type 0) → Command → Result Row Unanswered → Type 0
Runs Ran Ran' command (Ok row) = Extends Ran Ran' (command ∷ []) (row ∷ [])
Runs Ran Ran' command (Err no_memory) = Remains Ran Ran'
Runs Ran Ran' command (Err no_number) = Remains Ran Ran' × IsFilled Ran

-- nothing was done at a door
abbrev pub IsQuiet : AtDoor → AtDoor → Type 0
IsQuiet old new = Loses old.left new.left [] × Grows old.trace new.trace [] × (new.faults ≡ old.faults)

-- these things were done at a door
abbrev pub Does : AtDoor → AtDoor → List Deed → Type 0
Does old new deeds = Loses old.left new.left [] × Grows old.trace new.trace deeds

-- a reply is told, or why it is not told whole
abbrev pub Tells : Telling → Reply → AtDoor → AtDoor → Option TalkEnd → Type 0
Tells way reply old new None = Does old new (deeds_of way.manner reply) × (new.faults ≡ old.faults) × IsKept way reply
Tells way reply old new (Some Mute) = ((part : List Deed) × IsCut way.manner reply part × Does old new part) × Rose old.faults new.faults × IsKept way reply
Tells way reply old new (Some Unkept) = IsQuiet old new × IsUnkept way reply
Tells way reply old new (Some Wanting) = IsQuiet old new
Tells way reply old new (Some Closed) = ⊥
Tells way reply old new (Some Deaf) = ⊥
Tells way reply old new (Some Full) = ⊥

-- the item is a command
abbrev pub IsAsked : Option Item → Type 0
IsAsked None = ⊥
IsAsked (Some (Asked command)) = ⊤
IsAsked (Some (Faulty wrong)) = ⊥

-- an item has its reply, or why it has none
abbrev pub Answers : (List Command → List Row → Type 0) → (List Command → List Row → Type 0) → Item → Result Reply TalkEnd → Type 0
Answers Ran Ran' item (Ok reply) = IsReply item reply × Extends Ran Ran' (commands_in (item ∷ [])) (rows_in (reply ∷ []))
Answers Ran Ran' item (Err Wanting) = Remains Ran Ran'
Answers Ran Ran' item (Err Full) = Remains Ran Ran' × IsFilled Ran × IsAsked (Some item)
Answers Ran Ran' item (Err Closed) = ⊥
Answers Ran Ran' item (Err Deaf) = ⊥
Answers Ran Ran' item (Err Mute) = ⊥
Answers Ran Ran' item (Err Unkept) = ⊥

-- the item has a reply, of which this part is done
pub record IsCutReply (Ran Ran' : List Command → List Row → Type 0) (what : Option Item) (reply : Reply) (old new : AtDoor) (clean : Bool) (part : List Deed) : Type 0 where
  pub clean_is : clean ≡ is_clean reply
  pub suits : AreReplies (item_list what) (reply ∷ [])
  pub runs : Extends Ran Ran' (commands_in (item_list what)) (rows_in (reply ∷ []))
  pub does : Does old new part

-- what a line ends is answered and told, if it ends something, or why not; and whether the reply, if there is one, is an answer
abbrev pub Replies : (List Command → List Row → Type 0) → (List Command → List Row → Type 0) → Telling → Option Item → AtDoor → AtDoor → Bool → Option TalkEnd → Type 0
Replies Ran Ran' way what old new clean None =
    (replies : List Reply)
    × AreReplies (item_list what) replies × Extends Ran Ran' (commands_in (item_list what)) (rows_in replies)
    × Does old new (told_of way.manner what replies) × (new.faults ≡ old.faults) × (clean ≡ are_clean replies) × AreKept way replies
Replies Ran Ran' way what old new clean (Some Mute) =
    (reply : Reply) × (part : List Deed) × IsCutReply Ran Ran' what reply old new clean part × IsCut way.manner reply part × Rose old.faults new.faults × IsKept way reply
Replies Ran Ran' way what old new clean (Some Unkept) =
    (reply : Reply) × IsCutReply Ran Ran' what reply old new clean [] × IsUnkept way reply × (new.faults ≡ old.faults)
Replies Ran Ran' way what old new clean (Some Wanting) =
    (Remains Ran Ran' × IsQuiet old new × (clean ≡ true))
    ⊎ ((reply : Reply) × IsCutReply Ran Ran' what reply old new clean [] × (new.faults ≡ old.faults))
Replies Ran Ran' way what old new clean (Some Full) = Remains Ran Ran' × IsFilled Ran × IsAsked what × IsQuiet old new × (clean ≡ true)
Replies Ran Ran' way what old new clean (Some Closed) = ⊥
Replies Ran Ran' way what old new clean (Some Deaf) = ⊥

-- a reader behind one line more
abbrev pub reading_on : Reading → List ℕ → Reading
reading_on reading line = record { place = (live_line reading.place (reading.lines + 1) line).place; lines = reading.lines + 1 }

-- what the next line ends
abbrev pub item_of : Reading → List ℕ → Option Item
item_of reading line = (live_line reading.place (reading.lines + 1) line).item

-- why a line was not read: memory is wanting, or lines cannot be counted any more
abbrev pub IsUnread : Reading → TalkEnd → Type 0
IsUnread reading Wanting = ⊤
IsUnread reading Full = reading.lines ≡ 2 ^ 64 - 1
IsUnread reading Closed = ⊥
IsUnread reading Deaf = ⊥
IsUnread reading Mute = ⊥
IsUnread reading Unkept = ⊥

-- a line that was heard is read, answered and told, or how the session ends at it
abbrev pub Reads : (List Command → List Row → Type 0) → (List Command → List Row → Type 0) → Telling → Reading → List ℕ → AtDoor → AtDoor → Round → Type 0
Reads Ran Ran' way reading line old new (Goes reader clean) =
    (reader ≡ reading_on reading line) × Replies Ran Ran' way (item_of reading line) old new clean None
Reads Ran Ran' way reading line old new (Ends end clean) =
    Replies Ran Ran' way (item_of reading line) old new clean (Some end)
    ⊎ (Remains Ran Ran' × IsQuiet old new × IsUnread reading end × (clean ≡ true))

-- a line is heard, or the input's end
abbrev pub HearsAt : AtDoor → AtDoor → Option (List ℕ) → Type 0
HearsAt old new got = Hears old.left new.left old.trace new.trace got × (new.faults ≡ old.faults)

-- a round ends the session: at a line, at the input's end, or for want of memory before a line
abbrev pub Stops : (List Command → List Row → Type 0) → (List Command → List Row → Type 0) → Telling → Reading → AtDoor → AtDoor → TalkEnd → Bool → Type 0
Stops Ran Ran' way reading old new end clean =
    ((line : List ℕ) × (mid : AtDoor) × HearsAt old mid (Some line) × Reads Ran Ran' way reading line mid new (Ends end clean))
    ⊎ ((mid : AtDoor) × HearsAt old mid None × Replies Ran Ran' way (live_end reading.place) mid new clean (Some end))
    ⊎ ((end ≡ Wanting) × Remains Ran Ran' × IsQuiet old new × (clean ≡ true))

-- one round of a session: a line is heard, read, answered and told
abbrev pub Rounds : (List Command → List Row → Type 0) → (List Command → List Row → Type 0) → Telling → Reading → AtDoor → AtDoor → Round → Type 0
Rounds Ran Ran' way reading old new (Goes reader clean) =
    (line : List ℕ) × (mid : AtDoor) × HearsAt old mid (Some line) × Reads Ran Ran' way reading line mid new (Goes reader clean)
Rounds Ran Ran' way reading old new (Ends Closed clean) =
    (mid : AtDoor) × HearsAt old mid None × Replies Ran Ran' way (live_end reading.place) mid new clean None
Rounds Ran Ran' way reading old new (Ends Deaf clean) = Remains Ran Ran' × Does old new [] × Rose old.faults new.faults × (clean ≡ true)
Rounds Ran Ran' way reading old new (Ends end clean) = Stops Ran Ran' way reading old new end clean

-- the rounds so far: all lines that were heard are read, answered and told
pub record IsTalking (Ran : List Command → List Row → Type 0) (way : Telling) (old new : AtDoor) (lines : List (List ℕ)) (replies : List Reply) (reading : Reading) (clean : Bool) : Type 0 where
  pub clean_is : clean ≡ are_clean replies
  pub talk : IsTalk Ran way false old new lines replies
  pub place : reading.place ≡ place_behind (stands outside) 1 lines
  pub count : reading.lines ≡ length lines
  pub faults : new.faults ≡ old.faults
