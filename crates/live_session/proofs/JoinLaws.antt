-- A session's rounds joined: what it heard, ran and did so far, and one round more.
use Rattle.std.proofs.Common.{◌≡◌, ℕ, ◌+◌, ◌-◌, ◌^◌, ◌≤◌, ◌++◌, List, [], ◌∷◌, length, true, false, refl, sym, ap, ◌∙◌, subst, arith, append_assoc, length-append, inl, inr}
use Rattle.std.specs.Prelude.{Bool, ◌&&◌, Option, Some, None}
use Rattle.std.proofs.lemmas.List.{append-nil}
use Rattle.std.proofs.lemmas.List.Folds.{list_all-append}
use Rattle.sta_outside.specs.Shelf.{Rose}
use Rattle.timing_defs.specs.declared.scripts.Command.{Command}
use Rattle.timing_defs.specs.declared.scripts.Row.{Row}
use Rattle.live_doors.specs.Doors.{Deed, heard, Loses, Grows, IsAtEnd}
use Rattle.script_reader.specs.declared.live.Item.{Item}
use Rattle.script_reader.specs.Scripts.{outside, inside, drafted, tried}
use Rattle.script_reader.specs.Live.{Reading, beginning, LivePlace, stands, passing_eco, passing_draft, live_line, live_end, item_list, items, place_behind}
use Rattle.live_session.specs.declared.replies.Manner.{Manner}
use Rattle.live_session.specs.declared.replies.Reply.{Reply}
use Rattle.live_session.specs.declared.replies.Reply.TheVariants.{Row as row, Error as error}
use Rattle.live_session.specs.declared.replies.TalkEnd.{TalkEnd}
use Rattle.live_session.specs.declared.replies.TalkEnd.TheVariants.{Closed, Deaf, Mute, Unkept, Wanting, Full}
use Rattle.live_session.specs.declared.talking.Round.TheVariants.{Goes, Ends}
use Rattle.live_session.specs.Talks.{Telling, telling, AtDoor, IsKept, AreKept, AreReplies, commands_in, rows_in, deeds_of, told_of, dialogue, IsTalk, IsCutTalk, IsUnanswered, Talked, is_clean, are_clean}
use Rattle.live_session.specs.Turns.{Extends, Remains, IsFilled, IsAsked, IsQuiet, Does, IsCutReply, item_of, HearsAt, Rounds, IsTalking}
use Rattle.live_session.proofs.DoorLaws.{grows_more, loses_more, grows_same, loses_same}
use Rattle.live_session.proofs.TurnLaws.{clean_one}
use Rattle.live_session.proofs.TalkLaws.{commands_more, rows_more, replies_more, items_more, kept_more, place_more, dialogue_more, dialogue_end}

loses_refl : (a : Option (List (List ℕ))) → Loses a a []
loses_refl None = tt
loses_refl (Some x) = refl

grows_refl : (a : Option (List Deed)) → Grows a a []
grows_refl None = tt
grows_refl (Some x) = sym (append-nil x)

-- before the first line
pub talking_none : (Ran : List Command → List Row → Type 0) (way : Telling) (door : AtDoor) → Ran [] [] → IsTalking Ran way door door [] [] beginning true
unfolding items place_behind dialogue
talking_none Ran way door ran = record {
  clean_is = refl;
  talk = record { came = loses_refl door.left; done = grows_refl door.trace; stood = tt; suits = tt; ran = ran };
  place = refl;
  count = refl;
  faults = refl;
}

-- what the input's end makes wrong is no command
none_asked : (p : LivePlace) → IsAsked (live_end p) → ⊥
unfolding live_end
none_asked (stands outside) asked = asked
none_asked (stands (inside begin edits)) asked = asked
none_asked (stands (drafted begin trials)) asked = asked
none_asked (stands (tried begin trials group edits)) asked = asked
none_asked passing_eco asked = asked
none_asked passing_draft asked = asked

-- the lines to come had an end
ended : (a b c : Option (List (List ℕ))) → IsAtEnd a → Loses a b [] → Loses b c [] → IsAtEnd c
ended None None None at l m = tt
ended None None (Some z) at l m = absurd m
ended None (Some y) c at l m = absurd l
ended (Some x) None c at l m = absurd l
ended (Some x) (Some y) None at l m = absurd m
ended (Some x) (Some y) (Some z) at l m = sym m ∙ sym l ∙ at

and_true : (b : Bool) → (b && true) ≡ b
and_true true = refl
and_true false = refl

-- an item has a reply, so the reply's deeds are what is told of it
told_last : (way : Manner) (what : Option Item) (reply : Reply) → AreReplies (item_list what) (reply ∷ []) → told_of way what (reply ∷ []) ≡ deeds_of way reply
told_last way None reply g = absurd g
told_last way (Some item) reply g = refl

-- what was kept of rows stays kept where the number rises
pub kept_still : (way : Telling) (safe : ℕ) (torn : Bool) (reply : Reply) → way.safe ≤ safe → IsKept way reply → IsKept (telling safe torn way.manner) reply
kept_still way safe torn (row r) rises kept = λ keeps. let below = kept keeps in omega (arith, below, rises)
kept_still way safe torn (error wrong) rises kept = tt

pub all_kept_still : (way : Telling) (safe : ℕ) (torn : Bool) (replies : List Reply) → way.safe ≤ safe → AreKept way replies → AreKept (telling safe torn way.manner) replies
all_kept_still way safe torn [] rises kept = tt
all_kept_still way safe torn (reply ∷ replies) rises kept =
    (kept_still way safe torn reply rises kept.0, all_kept_still way safe torn replies rises kept.1)

-- what was told of a session stays so where the number rises
pub talk_still : (Ran : List Command → List Row → Type 0) (way : Telling) (safe : ℕ) (torn ended : Bool) (old new : AtDoor) (lines : List (List ℕ)) (replies : List Reply)
    → way.safe ≤ safe → IsTalk Ran way ended old new lines replies → IsTalk Ran (telling safe torn way.manner) ended old new lines replies
talk_still Ran way safe torn ended old new lines replies rises talk = record {
  came = talk.came;
  done = talk.done;
  stood = all_kept_still way safe torn replies rises talk.stood;
  suits = talk.suits;
  ran = talk.ran;
}

pub talking_still : (Ran : List Command → List Row → Type 0) (way : Telling) (safe : ℕ) (torn : Bool) (old new : AtDoor) (lines : List (List ℕ)) (replies : List Reply)
    (reading : Reading) (clean : Bool) → way.safe ≤ safe → IsTalking Ran way old new lines replies reading clean
    → IsTalking Ran (telling safe torn way.manner) old new lines replies reading clean
talking_still Ran way safe torn old new lines replies reading clean rises so = record {
  clean_is = so.clean_is;
  talk = talk_still Ran way safe torn false old new lines replies rises so.talk;
  place = so.place;
  count = so.count;
  faults = so.faults;
}

module _ (Ran Ran' : List Command → List Row → Type 0) (way : Telling) (old near new : AtDoor) (lines : List (List ℕ)) (replies : List Reply) (reading : Reading) (clean : Bool)
    (so : IsTalking Ran way old near lines replies reading clean) where
  abbrev place : LivePlace
  place = place_behind (stands outside) 1 lines

  abbrev whole : List Deed
  whole = dialogue way.manner false (stands outside) 1 lines replies

  -- replies to more items
  replies_on : (more : List Item) (others : List Reply) → AreReplies more others → AreReplies (items (stands outside) 1 lines ++ more) (replies ++ others)
  replies_on more others g = replies_more (items (stands outside) 1 lines) more replies others so.talk.suits g

  ran_on : (all more : List Item) (others : List Reply) → all ≡ items (stands outside) 1 lines ++ more → Extends Ran Ran' (commands_in more) (rows_in others)
      → Ran' (commands_in all) (rows_in (replies ++ others))
  ran_on all more others are e =
      let first = items (stands outside) 1 lines in
      subst (λ cs. Ran' cs (rows_in (replies ++ others))) (sym (commands_more first more) ∙ sym (ap commands_in are))
      (subst (λ rs. Ran' (commands_in first ++ commands_in more) rs) (sym (rows_more replies others)) (e (commands_in first) (rows_in replies) so.talk.ran))

  ran_same : Remains Ran Ran' → Ran' (commands_in (items (stands outside) 1 lines)) (rows_in replies)
  ran_same e = e (commands_in (items (stands outside) 1 lines)) (rows_in replies) so.talk.ran

  -- nothing was done in this round
  talk_same : Remains Ran Ran' → Does near new [] → IsTalk Ran' way false old new lines replies
  talk_same e d = record {
    came = loses_same old.left near.left new.left lines so.talk.came d.0;
    done = grows_same old.trace near.trace new.trace whole so.talk.done d.1;
    stood = so.talk.stood;
    suits = so.talk.suits;
    ran = ran_same e;
  }

  -- one line was heard
  module _ (line : List ℕ) (mid : AtDoor) (hears : HearsAt near mid (Some line)) where
    abbrev what : Option Item
    what = (live_line place (1 + length lines) line).item

    at_place : live_line reading.place (reading.lines + 1) line ≡ live_line place (1 + length lines) line
    at_place =
        let numbered : reading.lines + 1 ≡ 1 + length lines = omega (arith, so.count) in
        ap (λ p. live_line p (reading.lines + 1) line) so.place ∙ ap (λ k. live_line place k line) numbered

    came_on : Loses mid.left new.left [] → Loses old.left new.left (lines ++ line ∷ [])
    came_on l = loses_same old.left mid.left new.left (lines ++ line ∷ []) (loses_more old.left near.left mid.left lines (line ∷ []) so.talk.came hears.0.0) l

    done_on : (part : List Deed) → Grows mid.trace new.trace part → Grows old.trace new.trace (whole ++ heard line ∷ part)
    done_on part g =
        grows_more old.trace near.trace new.trace whole (heard line ∷ part) so.talk.done
        (grows_more near.trace mid.trace new.trace (heard line ∷ []) part hears.0.1 g)

    -- nothing was done about it
    unanswered : Remains Ran Ran' → IsQuiet mid new → IsUnanswered Ran' way old new lines line replies
    unanswered e q = record { came = came_on q.0; done = done_on [] q.1; stood = so.talk.stood; suits = so.talk.suits; ran = ran_same e }

    -- it was answered
    line_talk : (others : List Reply) → AreKept way others → AreReplies (item_list what) others → Extends Ran Ran' (commands_in (item_list what)) (rows_in others)
        → Does mid new (told_of way.manner what others) → IsTalk Ran' way false old new (lines ++ line ∷ []) (replies ++ others)
    line_talk others k g e d =
        let are = items_more (stands outside) 1 lines line in
        record {
          came = came_on d.0;
          done =
              subst (Grows old.trace new.trace) (sym (dialogue_more way.manner (stands outside) 1 lines line replies others so.talk.suits))
              (done_on (told_of way.manner what others) d.1);
          stood = kept_more way replies others so.talk.stood k;
          suits = subst (λ l. AreReplies l (replies ++ others)) (sym are) (replies_on (item_list what) others g);
          ran = ran_on (items (stands outside) 1 (lines ++ line ∷ [])) (item_list what) others are e;
        }

    -- its reply was told in part
    line_cut : (reply : Reply) (answered : Bool) (part : List Deed) → IsCutReply Ran Ran' what reply mid new answered part → IsCutTalk Ran' way false old new (lines ++ line ∷ []) replies reply part
    line_cut reply answered part c =
        let are = items_more (stands outside) 1 lines line in
        let before = whole ++ heard line ∷ [] in
        let parts : (xs : List Deed) → whole ++ heard line ∷ xs ≡ before ++ xs = λ xs. sym (append_assoc whole (heard line ∷ []) xs) in
        record {
          came = came_on c.does.0;
          done = (
            before,
            dialogue_more way.manner (stands outside) 1 lines line replies (reply ∷ []) so.talk.suits
                ∙ ap (λ xs. whole ++ heard line ∷ xs) (told_last way.manner what reply c.suits) ∙ parts (deeds_of way.manner reply),
            subst (Grows old.trace new.trace) (parts part) (done_on part c.does.1),
          );
          stood = so.talk.stood;
          suits = subst (λ l. AreReplies l (replies ++ reply ∷ [])) (sym are) (replies_on (item_list what) (reply ∷ []) c.suits);
          ran = ran_on (items (stands outside) 1 (lines ++ line ∷ [])) (item_list what) (reply ∷ []) are c.runs;
          over = λ never. absurd (cc);
        }

  -- the input's end was heard
  module _ (mid : AtDoor) (hears : HearsAt near mid None) where
    abbrev last : Option Item
    last = live_end place

    end_came : Loses mid.left new.left [] → Loses old.left new.left lines
    end_came l = loses_same old.left mid.left new.left lines (loses_same old.left near.left mid.left lines so.talk.came hears.0.1) l

    end_done : (part : List Deed) → Grows mid.trace new.trace part → Grows old.trace new.trace (whole ++ part)
    end_done part g = grows_more old.trace mid.trace new.trace whole part (grows_same old.trace near.trace mid.trace whole so.talk.done hears.0.2) g

    end_talk : (others : List Reply) → AreKept way others → AreReplies (item_list last) others → Extends Ran Ran' (commands_in (item_list last)) (rows_in others)
        → Does mid new (told_of way.manner last others) → IsTalk Ran' way true old new lines (replies ++ others)
    end_talk others k g e d = record {
      came = end_came d.0;
      done = subst (Grows old.trace new.trace) (sym (dialogue_end way.manner (stands outside) 1 lines replies others so.talk.suits)) (end_done (told_of way.manner last others) d.1);
      stood = kept_more way replies others so.talk.stood k;
      suits = replies_on (item_list last) others g;
      ran = ran_on (items (stands outside) 1 lines ++ item_list last) (item_list last) others refl e;
    }

    end_cut : (reply : Reply) (answered : Bool) (part : List Deed) → IsCutReply Ran Ran' last reply mid new answered part → IsCutTalk Ran' way true old new lines replies reply part
    end_cut reply answered part c = record {
      came = end_came c.does.0;
      done = (
        whole,
        dialogue_end way.manner (stands outside) 1 lines replies (reply ∷ []) so.talk.suits ∙ ap (λ xs. whole ++ xs) (told_last way.manner last reply c.suits),
        end_done part c.does.1,
      );
      stood = so.talk.stood;
      suits = replies_on (item_list last) (reply ∷ []) c.suits;
      ran = ran_on (items (stands outside) 1 lines ++ item_list last) (item_list last) (reply ∷ []) refl c.runs;
      over = λ _. ended near.left mid.left new.left hears.0.0 hears.0.1 c.does.0;
    }

  -- whether all replies are answers
  clean_on : (answered : Bool) (others : List Reply) → answered ≡ are_clean others → (clean && answered) ≡ are_clean (replies ++ others)
  clean_on answered others is =
      ap (λ b. b && answered) so.clean_is ∙ ap (λ b. are_clean replies && b) is ∙ sym (list_all-append is_clean replies others)

  clean_same : (answered : Bool) → answered ≡ true → (clean && answered) ≡ are_clean replies
  clean_same answered is = ap (λ b. clean && b) is ∙ and_true clean ∙ so.clean_is

  clean_last : (answered : Bool) (reply : Reply) → answered ≡ is_clean reply → (clean && answered) ≡ are_clean (replies ++ reply ∷ [])
  clean_last answered reply is = clean_on answered (reply ∷ []) (is ∙ clean_one reply)

  -- a round more
  pub talking_more : (reader : Reading) (answered so_far : Bool) → so_far ≡ (clean && answered) → Rounds Ran Ran' way reading near new (Goes reader answered)
      → (all : List (List ℕ)) × (told : List Reply) × IsTalking Ran' way old new all told reader so_far
  talking_more reader answered so_far both (line, mid, hears, (is, (others, suits, runs, does, same, cleans, kept))) =
      let at : live_line reading.place (reading.lines + 1) line ≡ live_line place (1 + length lines) line = at_place line mid hears in
      let g : AreReplies (item_list (live_line place (1 + length lines) line).item) others = subst (λ b. AreReplies (item_list b.item) others) at suits in
      let e : Extends Ran Ran' (commands_in (item_list (live_line place (1 + length lines) line).item)) (rows_in others) =
      subst (λ b. Extends Ran Ran' (commands_in (item_list b.item)) (rows_in others)) at runs in
      let d : Does mid new (told_of way.manner (live_line place (1 + length lines) line).item others) = subst (λ b. Does mid new (told_of way.manner b.item others)) at does in
      let longer : length (lines ++ line ∷ []) ≡ length lines + 1 = length-append lines (line ∷ []) in (
        lines ++ line ∷ [],
        replies ++ others,
        record {
          clean_is = both ∙ clean_on answered others cleans;
          talk = line_talk line mid hears others kept g e d;
          place = ap (λ r. r.place) is ∙ ap (λ b. b.place) at ∙ sym (place_more (stands outside) 1 lines line);
          count = ap (λ r. r.lines) is ∙ ap (λ k. k + 1) so.count ∙ sym longer;
          faults = same ∙ hears.1 ∙ so.faults;
        },
      )

  cut_on : (line : List ℕ) (mid : AtDoor) (hears : HearsAt near mid (Some line)) (reply : Reply) (answered : Bool) (part : List Deed)
      → IsCutReply Ran Ran' (item_of reading line) reply mid new answered part
      → IsCutTalk Ran' way false old new (lines ++ line ∷ []) replies reply part
  cut_on line mid hears reply answered part c =
      line_cut line mid hears reply answered part (subst (λ b. IsCutReply Ran Ran' b.item reply mid new answered part) (at_place line mid hears) c)

  cut_end : (mid : AtDoor) (hears : HearsAt near mid None) (reply : Reply) (answered : Bool) (part : List Deed)
      → IsCutReply Ran Ran' (live_end reading.place) reply mid new answered part
      → IsCutTalk Ran' way true old new lines replies reply part
  cut_end mid hears reply answered part c =
      end_cut mid hears reply answered part (subst (λ p. IsCutReply Ran Ran' (live_end p) reply mid new answered part) so.place c)

  end_quiet : (mid : AtDoor) (hears : HearsAt near mid None) → IsQuiet mid new → Does near new []
  end_quiet mid hears q =
      (loses_same near.left mid.left new.left [] hears.0.1 q.0, grows_same near.trace mid.trace new.trace [] hears.0.2 q.1)

  -- the counts of faults
  stayed : (mid : AtDoor) → mid.faults ≡ near.faults → new.faults ≡ mid.faults → new.faults ≡ old.faults
  stayed mid f g = g ∙ f ∙ so.faults

  rose : (mid : AtDoor) → mid.faults ≡ near.faults → Rose mid.faults new.faults → Rose old.faults new.faults
  rose mid f r = subst (λ k. Rose k new.faults) (f ∙ so.faults) r

  filled : IsFilled Ran → length (commands_in (items (stands outside) 1 lines)) ≡ 2 ^ 32 - 1
  filled full = full (commands_in (items (stands outside) 1 lines)) (rows_in replies) so.talk.ran

  -- the last round
  talked : (end : TalkEnd) (answered : Bool) → Rounds Ran Ran' way reading near new (Ends end answered)
      → Talked Ran' way old new (clean && answered) end
  talked Closed answered (mid, hears, (others, suits, runs, does, same, cleans, kept)) = (
    lines,
    replies ++ others,
    end_talk mid hears others kept (subst (λ p. AreReplies (item_list (live_end p)) others) so.place suits)
        (subst (λ p. Extends Ran Ran' (commands_in (item_list (live_end p))) (rows_in others)) so.place runs)
        (subst (λ p. Does mid new (told_of way.manner (live_end p) others)) so.place does),
    ended near.left mid.left new.left hears.0.0 hears.0.1 does.0,
    stayed mid hears.1 same,
    clean_on answered others cleans,
  )
  talked Deaf answered (e, d, r, k) = (lines, replies, talk_same e d, subst (λ k. Rose k new.faults) so.faults r, clean_same answered k)
  talked Mute answered (inl (line, mid, hears, inl (reply, part, c, cut, r, kept))) = (
    false,
    lines ++ line ∷ [],
    replies,
    reply,
    part,
    cut_on line mid hears reply answered part c,
    cut,
    kept,
    rose mid hears.1 r,
    clean_last answered reply c.clean_is,
  )
  talked Mute answered (inl (line, mid, hears, inr (e, q, u, k))) = absurd u
  talked Mute answered (inr (inl (mid, hears, (reply, part, c, cut, r, kept)))) =
      (true, lines, replies, reply, part, cut_end mid hears reply answered part c, cut, kept, rose mid hears.1 r, clean_last answered reply c.clean_is)
  talked Mute answered (inr (inr (is, e, q, k))) = absurd (cc)
  talked Unkept answered (inl (line, mid, hears, inl (reply, c, unkept, same))) = (
    false,
    lines ++ line ∷ [],
    replies,
    reply,
    cut_on line mid hears reply answered [] c,
    unkept,
    stayed mid hears.1 same,
    clean_last answered reply c.clean_is,
  )
  talked Unkept answered (inl (line, mid, hears, inr (e, q, u, k))) = absurd u
  talked Unkept answered (inr (inl (mid, hears, (reply, c, unkept, same)))) =
      (true, lines, replies, reply, cut_end mid hears reply answered [] c, unkept, stayed mid hears.1 same, clean_last answered reply c.clean_is)
  talked Unkept answered (inr (inr (is, e, q, k))) = absurd (cc)
  talked Wanting answered (inl (line, mid, hears, inl (inl (e, q, k)))) =
      (inr (inl (lines, line, replies, unanswered line mid hears e q, clean_same answered k)), stayed mid hears.1 q.2)
  talked Wanting answered (inl (line, mid, hears, inl (inr (reply, c, same)))) = (
    inr (inr (false, lines ++ line ∷ [], replies, reply, cut_on line mid hears reply answered [] c, clean_last answered reply c.clean_is)),
    stayed mid hears.1 same,
  )
  talked Wanting answered (inl (line, mid, hears, inr (e, q, u, k))) =
      (inr (inl (lines, line, replies, unanswered line mid hears e q, clean_same answered k)), stayed mid hears.1 q.2)
  talked Wanting answered (inr (inl (mid, hears, inl (e, q, k)))) =
      (inl (lines, replies, talk_same e (end_quiet mid hears q), clean_same answered k), stayed mid hears.1 q.2)
  talked Wanting answered (inr (inl (mid, hears, inr (reply, c, same)))) = (
    inr (inr (true, lines, replies, reply, cut_end mid hears reply answered [] c, clean_last answered reply c.clean_is)),
    stayed mid hears.1 same,
  )
  talked Wanting answered (inr (inr (is, e, q, k))) =
      (inl (lines, replies, talk_same e (q.0, q.1), clean_same answered k), q.2 ∙ so.faults)
  talked Full answered (inl (line, mid, hears, inl (e, full, asked, q, k))) =
      (lines, line, replies, unanswered line mid hears e q, inl (filled full), stayed mid hears.1 q.2, clean_same answered k)
  talked Full answered (inl (line, mid, hears, inr (e, q, u, k))) =
      (lines, line, replies, unanswered line mid hears e q, inr (sym so.count ∙ u), stayed mid hears.1 q.2, clean_same answered k)
  talked Full answered (inr (inl (mid, hears, (e, full, asked, q, k)))) = absurd (none_asked reading.place asked)
  talked Full answered (inr (inr (is, e, q, k))) = absurd (cc)

  pub talked_all : (end : TalkEnd) (answered all : Bool) → all ≡ (clean && answered) → Rounds Ran Ran' way reading near new (Ends end answered)
      → Talked Ran' way old new all end
  talked_all end answered all both r = subst (λ b. Talked Ran' way old new b end) (sym both) (talked end answered r)
