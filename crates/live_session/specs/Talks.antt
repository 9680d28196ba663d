-- The conversation of a live session: the replies to what its lines ask, what is done at its door to tell them, and how it ends.

use Rattle.std.specs.Prelude.{ℕ, ◌≡◌, ◌⊎◌, ◌-◌, ◌+◌, ◌^◌, ◌≤◌, Bool, true, false, IsTrue, List, [], ◌∷◌, ◌++◌, length, Option, Some, None, ⊤}
use Rattle.std.specs.List.{list_all}
use Rattle.sta_outside.specs.Shelf.{Rose}
use Rattle.timing_defs.specs.declared.constraints.Clock.{Clock}
use Rattle.timing_defs.specs.declared.scripts.Command.{Command}
use Rattle.timing_defs.specs.declared.scripts.Answer.{Answer}
use Rattle.timing_defs.specs.declared.scripts.Answer.TheVariants.{Taken, Reached, NotYet, Accepted, Refused, No, Told}
use Rattle.timing_defs.specs.declared.scripts.Row.{Row}
use Rattle.timing_defs.specs.Output.{row_text}
use Rattle.live_doors.specs.Doors.{Deed, heard, kept, said, Loses, Grows, IsAtEnd, IsPartOf}
use Rattle.script_reader.specs.declared.live.Item.{Item}
use Rattle.script_reader.specs.declared.live.Item.TheVariants.{Asked, Faulty}
use Rattle.script_reader.specs.Scripts.{outside}
use Rattle.script_reader.specs.Live.{LivePlace, stands, live_line, live_end, items, all_items}
use Rattle.report_text.specs.Errors.{error_text}
use Rattle.live_session.specs.declared.replies.Manner.{Manner}
use Rattle.live_session.specs.declared.replies.Reply.{Reply}
use Rattle.live_session.specs.declared.replies.Reply.TheVariants.{Row as row, Error as error}
use Rattle.live_session.specs.declared.replies.TalkEnd.{TalkEnd}
use Rattle.live_session.specs.declared.replies.TalkEnd.TheVariants.{Closed, Deaf, Mute, Unkept, Wanting, Full}

-- how replies are told, up to which number all entries stand in the journal for certain, and whether a put into it failed
pub record Telling : Type 0 where
  pub manner : Manner
  pub safe : ℕ
  pub torn : Bool

abbrev pub telling : ℕ → Bool → Manner → Telling
telling safe torn manner = record { manner = manner; safe = safe; torn = torn }

-- the text of a reply: a row as in a batch run, or `error CODE LINE`
abbrev pub reply_text : List Clock → Reply → List ℕ
reply_text clocks (row r) = row_text clocks r
reply_text clocks (error wrong) = error_text wrong.code wrong.at

-- the mark that stands before the text of a reply
abbrev pub marks_of : Bool → Reply → List Deed
marks_of true (row r) = kept r.number ∷ []
marks_of true (error wrong) = []
marks_of false reply = []

-- what is done to tell a reply
abbrev pub deeds_of : Manner → Reply → List Deed
deeds_of way reply = marks_of way.keeps reply ++ said (reply_text way.clocks reply) ∷ []

-- where there is a journal, all entries up to a row's number stand there
abbrev pub IsKept : Telling → Reply → Type 0
IsKept way (row r) = IsTrue way.manner.keeps → r.number ≤ way.safe
IsKept way (error wrong) = ⊤

abbrev pub AreKept : Telling → List Reply → Type 0
AreKept way [] = ⊤
AreKept way (reply ∷ replies) = IsKept way reply × AreKept way replies

-- a row is not told, since a put into the journal failed
abbrev pub IsUnkept : Telling → Reply → Type 0
IsUnkept way reply = (way.manner.keeps ≡ true) × ((r : Row) × (reply ≡ row r)) × (way.torn ≡ true)

-- a row that is an answer: it is not refused, not `no` and not `not_yet`
abbrev pub is_answer : Answer → Bool
is_answer Taken = true
is_answer Reached = true
is_answer (NotYet looks) = false
is_answer Accepted = true
is_answer (Refused fault) = false
is_answer (No fault) = false
is_answer (Told report) = true

-- a reply that is an answer
abbrev pub is_clean : Reply → Bool
is_clean (row r) = is_answer r.answer
is_clean (error wrong) = false

abbrev pub are_clean : List Reply → Bool
are_clean replies = list_all is_clean replies

-- an item has its reply: a command a row, and a wrong line its error
abbrev pub IsReply : Item → Reply → Type 0
IsReply (Asked command) (row r) = ⊤
IsReply (Asked command) (error wrong) = ⊥
IsReply (Faulty wrong) (row r) = ⊥
IsReply (Faulty wrong) (error told) = told ≡ wrong

-- each item has its reply, in order, and there are no other replies
abbrev pub AreReplies : List Item → List Reply → Type 0
AreReplies [] [] = ⊤
AreReplies [] (reply ∷ replies) = ⊥
AreReplies (item ∷ others) [] = ⊥
AreReplies (item ∷ others) (reply ∷ replies) = IsReply item reply × AreReplies others replies

-- the commands of items, and the rows of replies
abbrev pub commands_in : List Item → List Command
commands_in [] = []
commands_in (Asked command ∷ others) = command ∷ commands_in others
commands_in (Faulty wrong ∷ others) = commands_in others

abbrev pub rows_in : List Reply → List Row
rows_in [] = []
rows_in (row r ∷ replies) = r ∷ rows_in replies
rows_in (error wrong ∷ replies) = rows_in replies

-- what is done where an item ends: the first of the replies is told
abbrev pub told_of : Manner → Option Item → List Reply → List Deed
told_of way None replies = []
told_of way (Some item) [] = []
told_of way (Some item) (reply ∷ replies) = deeds_of way reply

-- the replies behind that
abbrev pub rest_of : Option Item → List Reply → List Reply
rest_of None replies = replies
rest_of (Some item) [] = []
rest_of (Some item) (reply ∷ replies) = replies

-- what the input's end makes wrong, once it is heard
abbrev pub end_item : Bool → LivePlace → Option Item
end_item true place = live_end place
end_item false place = None

-- each line is heard; where it ends an item its reply is told; and then the next line is heard, which stands at the place behind
-- it. Where the input's end was heard, too, the reply of what it makes wrong is told
unfoldable pub dialogue : Manner → Bool → LivePlace → ℕ → List (List ℕ) → List Reply → List Deed
dialogue way ended place n [] replies = told_of way (end_item ended place) replies
dialogue way ended place n (line ∷ lines) replies =
    heard line
    ∷ (told_of way (live_line place n line).item replies
    ++ dialogue way ended (live_line place n line).place (n + 1) lines (rest_of (live_line place n line).item replies))

-- the items of what was heard
abbrev pub heard_items : Bool → List (List ℕ) → List Item
heard_items true lines = all_items lines
heard_items false lines = items (stands outside) 1 lines

-- what a door tells: the lines to come, what was done, and how often it failed
pub record AtDoor : Type 0 where
  pub left : Option (List (List ℕ))
  pub trace : Option (List Deed)
  pub faults : ℕ

abbrev pub at_door : Option (List (List ℕ)) → Option (List Deed) → ℕ → AtDoor
at_door left trace faults = record { left = left; trace = trace; faults = faults }

-- what a door tells, by what it tells of each
abbrev pub door_of : {D : Type 0} → (D → Option (List (List ℕ))) → (D → Option (List Deed)) → (D → ℕ) → D → AtDoor
door_of left trace faults = λ door. at_door (left door) (trace door) (faults door)

-- a session at a door, over what is known of its commands and their rows: these lines were heard, each item of theirs has its
-- reply, and what was done at the door is to tell each reply before the next line was heard
pub record IsTalk (Ran : List Command → List Row → Type 0) (way : Telling) (ended : Bool) (old new : AtDoor) (lines : List (List ℕ)) (replies : List Reply) : Type 0 where
  pub came : Loses old.left new.left lines
  pub done : Grows old.trace new.trace (dialogue way.manner ended (stands outside) 1 lines replies)
  pub stood : AreKept way replies
  pub suits : AreReplies (heard_items ended lines) replies
  pub ran : Ran (commands_in (heard_items ended lines)) (rows_in replies)

-- the same, where of the last reply no more was done than this part: its command is among the commands, and its row among the rows.
-- Where the input's end was heard no line is left
pub record IsCutTalk (Ran : List Command → List Row → Type 0) (way : Telling) (ended : Bool) (old new : AtDoor) (lines : List (List ℕ)) (replies : List Reply)
    (last : Reply) (part : List Deed) : Type 0 where
  pub came : Loses old.left new.left lines
  pub done :
      (before : List Deed)
      × (dialogue way.manner ended (stands outside) 1 lines (replies ++ last ∷ []) ≡ before ++ deeds_of way.manner last)
      × Grows old.trace new.trace (before ++ part)
  pub stood : AreKept way replies
  pub suits : AreReplies (heard_items ended lines) (replies ++ last ∷ [])
  pub ran : Ran (commands_in (heard_items ended lines)) (rows_in (replies ++ last ∷ []))
  pub over : IsTrue ended → IsAtEnd new.left

-- the same, where behind lines that were answered one more was heard, and nothing was done about it
pub record IsUnanswered (Ran : List Command → List Row → Type 0) (way : Telling) (old new : AtDoor) (lines : List (List ℕ)) (line : List ℕ) (replies : List Reply) : Type 0 where
  pub came : Loses old.left new.left (lines ++ line ∷ [])
  pub done : Grows old.trace new.trace (dialogue way.manner false (stands outside) 1 lines replies ++ heard line ∷ [])
  pub stood : AreKept way replies
  pub suits : AreReplies (heard_items false lines) replies
  pub ran : Ran (commands_in (heard_items false lines)) (rows_in replies)

-- these commands were answered by these rows, and no others
abbrev pub Exactly : List Command → List Row → List Command → List Row → Type 0
Exactly commands rows = λ c r. (c ≡ commands) × (r ≡ rows)

-- of a reply its mark was made, and then nothing or a prefix of its text was written
abbrev pub IsCut : Manner → Reply → List Deed → Type 0
IsCut way reply part = (piece : List Deed) × IsPartOf (reply_text way.clocks reply) piece × (part ≡ marks_of way.keeps reply ++ piece)

-- no more commands can be numbered, or no more lines
abbrev pub IsFull : List (List ℕ) → Type 0
IsFull lines = (length (commands_in (heard_items false lines)) ≡ 2 ^ 32 - 1) ⊎ (length lines ≡ 2 ^ 64 - 1)

-- how a session at a door ended, and whether all of its replies are answers, the last one too. `Closed`: the input ended, and all was
-- answered. `Deaf`: the input failed. `Mute`: the output failed within the last reply. `Unkept`: a put into the journal failed before
-- the last row was told. `Wanting`: memory was wanting to hear a line, to answer the last one or to tell the last reply. `Full`: the last
-- line has no number, or its command has none
abbrev pub Talked : (List Command → List Row → Type 0) → Telling → AtDoor → AtDoor → Bool → TalkEnd → Type 0
Talked Ran way old new clean Closed =
    (lines : List (List ℕ)) × (replies : List Reply)
    × IsTalk Ran way true old new lines replies × IsAtEnd new.left × (new.faults ≡ old.faults) × (clean ≡ are_clean replies)
Talked Ran way old new clean Deaf =
    (lines : List (List ℕ)) × (replies : List Reply)
    × IsTalk Ran way false old new lines replies × Rose old.faults new.faults × (clean ≡ are_clean replies)
Talked Ran way old new clean Mute =
    (ended : Bool) × (lines : List (List ℕ)) × (replies : List Reply) × (last : Reply) × (part : List Deed)
    × IsCutTalk Ran way ended old new lines replies last part × IsCut way.manner last part × IsKept way last
    × Rose old.faults new.faults × (clean ≡ are_clean (replies ++ last ∷ []))
Talked Ran way old new clean Unkept =
    (ended : Bool) × (lines : List (List ℕ)) × (replies : List Reply) × (last : Reply)
    × IsCutTalk Ran way ended old new lines replies last [] × IsUnkept way last
    × (new.faults ≡ old.faults) × (clean ≡ are_clean (replies ++ last ∷ []))
Talked Ran way old new clean Wanting =
    (((lines : List (List ℕ)) × (replies : List Reply) × IsTalk Ran way false old new lines replies × (clean ≡ are_clean replies))
    ⊎ ((lines : List (List ℕ)) × (line : List ℕ) × (replies : List Reply)
    × IsUnanswered Ran way old new lines line replies × (clean ≡ are_clean replies))
    ⊎ ((ended : Bool) × (lines : List (List ℕ)) × (replies : List Reply) × (last : Reply)
    × IsCutTalk Ran way ended old new lines replies last [] × (clean ≡ are_clean (replies ++ last ∷ []))))
    × (new.faults ≡ old.faults)
Talked Ran way old new clean Full =
    (lines : List (List ℕ)) × (line : List ℕ) × (replies : List Reply)
    × IsUnanswered Ran way old new lines line replies × IsFull lines × (new.faults ≡ old.faults) × (clean ≡ are_clean replies)
