-- What holds at each moment of a session: of each beginning of what is done at its door.

use Rattle.std.specs.Prelude.{ℕ, ◌≡◌, ◌+◌, ◌≤◌, Bool, List, [], ◌∷◌, ◌++◌, length, map, take, ◌⊎◌}
use mathlib.Core.List.{IsPrefix}
use Rattle.live_doors.specs.Doors.{Deed, heard, kept, said}
use Rattle.script_reader.specs.Scripts.{outside}
use Rattle.script_reader.specs.Live.{stands, items}
use Rattle.live_session.specs.declared.replies.Manner.{Manner}
use Rattle.live_session.specs.declared.replies.Reply.{Reply}
use Rattle.live_session.specs.Talks.{reply_text, marks_of, AreReplies, dialogue, heard_items}

-- the lines that were heard, and the texts that were said
abbrev pub heard_in : List Deed → List (List ℕ)
heard_in [] = []
heard_in (heard line ∷ deeds) = line ∷ heard_in deeds
heard_in (kept number ∷ deeds) = heard_in deeds
heard_in (said text ∷ deeds) = heard_in deeds

abbrev pub said_in : List Deed → List (List ℕ)
said_in [] = []
said_in (heard line ∷ deeds) = said_in deeds
said_in (kept number ∷ deeds) = said_in deeds
said_in (said text ∷ deeds) = text ∷ said_in deeds

-- how many items the lines have that were heard
abbrev pub heard_count : List Deed → ℕ
heard_count deeds = length (items (stands outside) 1 (heard_in deeds))

-- these deeds begin a session in which these lines were heard, and replied to so
abbrev pub Begins : Manner → Bool → List (List ℕ) → List Reply → List Deed → List Deed → Type 0
Begins way ended lines replies now more =
    AreReplies (heard_items ended lines) replies × (dialogue way ended (stands outside) 1 lines replies ≡ now ++ more)

-- what was said so far are the texts of the first replies, and the lines that were heard so far are the first ones
pub record IsMoment (way : Manner) (lines : List (List ℕ)) (replies : List Reply) (now : List Deed) : Type 0 where
  pub told : IsPrefix (said_in now) (map (reply_text way.clocks) replies)
  pub came : IsPrefix (heard_in now) lines
  pub near : heard_count now ≤ length (said_in now) + 1

-- what is said is the text of the first reply that was not said before, and its mark was made right before
abbrev pub IsTold : Manner → List Reply → List Deed → List ℕ → Type 0
IsTold way replies before text =
    (first : List Reply) × (reply : Reply) × (others : List Reply) × (earlier : List Deed)
    × (replies ≡ first ++ reply ∷ others) × (said_in before ≡ map (reply_text way.clocks) first)
    × (text ≡ reply_text way.clocks reply) × (before ≡ earlier ++ marks_of way.keeps reply)

-- the texts that were said where the last reply was not told whole: those of the replies before it, and nothing of its own, or a
-- prefix of it
abbrev pub SaysUpTo : Manner → List Reply → Reply → List Deed → Type 0
SaysUpTo way replies last deeds =
    (said_in deeds ≡ map (reply_text way.clocks) replies)
    ⊎ ((n : ℕ) × (said_in deeds ≡ map (reply_text way.clocks) replies ++ take n (reply_text way.clocks last) ∷ []))
