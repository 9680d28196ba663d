-- What a session asks line by line is as engines answer it.
use Rattle.std.specs.Prelude.{◌≡◌, ◌≤◌, Bool, true, false, nat_le, length, IfSome, ⊤}
use Rattle.std.specs.List.{list_all}
use Rattle.timing_defs.specs.Documents.{is_edit, is_eco, is_draft_trial}
use Rattle.timing_defs.specs.declared.scripts.Command.{Command}
use Rattle.timing_defs.specs.declared.scripts.Command.TheVariants.{Take, Await, Ask, Change}
use Rattle.script_reader.specs.declared.live.Item.{Item}
use Rattle.script_reader.specs.declared.live.Item.TheVariants.{Asked, Faulty}
use Rattle.script_reader.specs.Scripts.{Place, outside, inside, drafted, tried}
use Rattle.script_reader.specs.Answerable.{is_asked}
use Rattle.script_reader.specs.Live.{LivePlace, stands, passing_eco, passing_draft, Behind}

-- a command that engines answer: it waits with a look at least, asks what a script may ask, or has 1 to 1,000 edits of their form
abbrev pub can_be_answered : Command → Bool
can_be_answered Take = true
can_be_answered (Await number looks) = nat_le 1 looks
can_be_answered (Ask q) = is_asked q
can_be_answered (Change eco) = is_eco eco

abbrev pub CanBeAnswered : Item → Type 0
CanBeAnswered (Asked command) = can_be_answered command ≡ true
CanBeAnswered (Faulty wrong) = ⊤

-- the edits of an open group and the trials of an open draft are of their form, and no more than there may be
abbrev pub IsKeptPlace : Place → Type 0
IsKeptPlace outside = ⊤
IsKeptPlace (inside begin edits) = (list_all is_edit edits ≡ true) × (length edits ≤ 1000)
IsKeptPlace (drafted begin trials) = (list_all is_draft_trial trials ≡ true) × (length trials ≤ 100)
IsKeptPlace (tried begin trials group edits) =
    (list_all is_draft_trial trials ≡ true) × (nat_le 100 (length trials) ≡ false) × (list_all is_edit edits ≡ true) × (length edits ≤ 1000)

abbrev pub IsKeptLive : LivePlace → Type 0
IsKeptLive (stands place) = IsKeptPlace place
IsKeptLive passing_eco = ⊤
IsKeptLive passing_draft = ⊤

-- the same of what a line leaves
abbrev pub IsKeptBehind : Behind → Type 0
IsKeptBehind b = IsKeptLive b.place × IfSome b.item CanBeAnswered
