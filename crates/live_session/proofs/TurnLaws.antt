-- What one line of a session comes to, step by step.
use Rattle.std.proofs.Common.{◌≡◌, ℕ, ◌++◌, List, [], ◌∷◌, refl, subst, inl, inr}
use Rattle.std.specs.Prelude.{Bool, Option, Some, None, Ok, IfSome}
use Rattle.std.proofs.lemmas.Bool.{cases_Bool}
use Rattle.sta_outside.specs.Shelf.{Rose}
use Rattle.timing_defs.specs.declared.scripts.Command.{Command}
use Rattle.timing_defs.specs.declared.scripts.Row.{Row}
use Rattle.live_doors.specs.Doors.{Loses, Grows, SaysPart}
use Rattle.script_reader.specs.declared.live.Item.{Item}
use Rattle.script_reader.specs.Scripts.{outside, inside, drafted, tried}
use Rattle.script_reader.specs.Live.{Reading, LivePlace, stands, passing_eco, passing_draft, live_end}
use Rattle.script_reader.specs.LiveKept.{CanBeAnswered}
use Rattle.live_session.specs.declared.replies.Reply.{Reply}
use Rattle.live_session.specs.declared.replies.TalkEnd.{TalkEnd}
use Rattle.live_session.specs.declared.replies.TalkEnd.TheVariants.{Closed, Deaf, Mute, Unkept, Wanting, Full}
use Rattle.live_session.specs.declared.talking.Round.{Round}
use Rattle.live_session.specs.declared.talking.Round.TheVariants.{Goes, Ends}
use Rattle.live_session.specs.Talks.{Telling, AtDoor, IsKept, reply_text, marks_of, commands_in, rows_in, is_clean, are_clean}
use Rattle.live_session.specs.Turns.{Remains, Tells, Answers, Replies, Reads, HearsAt, Rounds}
use Rattle.live_session.proofs.DoorLaws.{grows_more, loses_more}

-- the output failed within a reply
pub cut_told : (way : Telling) (reply : Reply) (old mid new : AtDoor) (text : List ℕ)
    → Loses old.left mid.left [] → mid.faults ≡ old.faults → Grows old.trace mid.trace (marks_of way.manner.keeps reply)
    → Loses mid.left new.left [] → SaysPart mid.trace new.trace text → Rose mid.faults new.faults
    → text ≡ reply_text way.manner.clocks reply → IsKept way reply → Tells way reply old new (Some Mute)
cut_told way reply old mid new text l same m l' part rose is kept =
    let said : SaysPart mid.trace new.trace (reply_text way.manner.clocks reply) = subst (SaysPart mid.trace new.trace) is part in
    let deeds = marks_of way.manner.keeps reply ++ said.0 in (
      (
        deeds,
        (said.0, said.1, refl),
        (loses_more old.left mid.left new.left [] [] l l', grows_more old.trace mid.trace new.trace (marks_of way.manner.keeps reply) said.0 m said.2),
      ),
      subst (λ k. Rose k new.faults) same rose,
      kept,
    )

pub clean_one : (reply : Reply) → is_clean reply ≡ are_clean (reply ∷ [])
clean_one reply = elim (cases_Bool (is_clean reply)) [
  | inl h ↦ rw h refl
  | inr h ↦ rw h refl
]

-- what was run stays where a reply is told
pub answered_on : (Ran Mid New : List Command → List Row → Type 0) (item : Item) (reply : Reply) → Answers Ran Mid item (Ok reply) → Remains Mid New
    → Answers Ran New item (Ok reply)
answered_on Ran Mid New item reply a stays =
    (a.0, λ before above ran. stays (before ++ commands_in (item ∷ [])) (above ++ rows_in (reply ∷ [])) (a.1 before above ran))

module _ (Ran Ran' : List Command → List Row → Type 0) (way : Telling) where
  -- an item has its reply, which is told or not
  pub replied : (item : Item) (reply : Reply) (old new : AtDoor) (end : Option TalkEnd) → Answers Ran Ran' item (Ok reply)
      → Tells way reply old new end → Replies Ran Ran' way (Some item) old new (is_clean reply) end
  replied item reply old new None a t = (reply ∷ [], (a.0, tt), a.1, t.0, t.1, clean_one reply, (t.2, tt))
  replied item reply old new (Some Mute) a t =
      (reply, t.0.0, record { clean_is = refl; suits = (a.0, tt); runs = a.1; does = t.0.2 }, t.0.1, t.1, t.2)
  replied item reply old new (Some Unkept) a t =
      (reply, record { clean_is = refl; suits = (a.0, tt); runs = a.1; does = (t.0.0, t.0.1) }, t.1, t.0.2)
  replied item reply old new (Some Wanting) a t =
      inr (reply, record { clean_is = refl; suits = (a.0, tt); runs = a.1; does = (t.0, t.1) }, t.2)
  replied item reply old new (Some Closed) a t = absurd t
  replied item reply old new (Some Deaf) a t = absurd t
  replied item reply old new (Some Full) a t = absurd t

  -- a line was heard
  pub line_round : (reading : Reading) (line : List ℕ) (old mid new : AtDoor) (round : Round) → HearsAt old mid (Some line)
      → Reads Ran Ran' way reading line mid new round → Rounds Ran Ran' way reading old new round
  line_round reading line old mid new (Goes reader clean) h r = (line, mid, h, r)
  line_round reading line old mid new (Ends Mute clean) h r = inl (line, mid, h, r)
  line_round reading line old mid new (Ends Unkept clean) h r = inl (line, mid, h, r)
  line_round reading line old mid new (Ends Wanting clean) h r = inl (line, mid, h, r)
  line_round reading line old mid new (Ends Full clean) h r = inl (line, mid, h, r)
  line_round reading line old mid new (Ends Closed clean) h (inl r) = absurd r
  line_round reading line old mid new (Ends Closed clean) h (inr r) = absurd r.2
  line_round reading line old mid new (Ends Deaf clean) h (inl r) = absurd r
  line_round reading line old mid new (Ends Deaf clean) h (inr r) = absurd r.2

  -- the input's end was heard
  pub end_round : (reading : Reading) (old mid new : AtDoor) (end : TalkEnd) (clean : Bool) → HearsAt old mid None
      → Replies Ran Ran' way (live_end reading.place) mid new clean (Some end) → Rounds Ran Ran' way reading old new (Ends end clean)
  end_round reading old mid new Mute clean h r = inr (inl (mid, h, r))
  end_round reading old mid new Unkept clean h r = inr (inl (mid, h, r))
  end_round reading old mid new Wanting clean h r = inr (inl (mid, h, r))
  end_round reading old mid new Full clean h r = inr (inl (mid, h, r))
  end_round reading old mid new Closed clean h r = absurd r
  end_round reading old mid new Deaf clean h r = absurd r

-- what the input's end makes wrong is no command
pub end_runs : (place : LivePlace) → IfSome (live_end place) CanBeAnswered
unfolding live_end
end_runs (stands outside) = tt
end_runs (stands (inside begin edits)) = tt
end_runs (stands (drafted begin trials)) = tt
end_runs (stands (tried begin trials group edits)) = tt
end_runs passing_eco = tt
end_runs passing_draft = tt
