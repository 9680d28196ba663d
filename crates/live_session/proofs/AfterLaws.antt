-- What is known of a session that has talked.
use Rattle.std.proofs.Common.{◌≡◌, ℕ, ◌+◌, ◌≤◌, ◌++◌, List, [], ◌∷◌, true, false, refl, sym, ap, ◌∙◌, subst, inl, inr}
use Rattle.std.specs.Prelude.{Bool, ◌&&◌, Option, Some, None, IfSome}
use Rattle.std.specs.List.{list_all}
use Rattle.std.proofs.lemmas.List.Folds.{list_all-append}
use Rattle.timing_defs.specs.declared.scripts.Command.{Command}
use Rattle.timing_defs.specs.declared.scripts.Row.{Row}
use Rattle.live_doors.specs.Doors.{Deed}
use Rattle.script_reader.specs.declared.live.Item.{Item}
use Rattle.script_reader.specs.declared.live.Item.TheVariants.{Asked, Faulty}
use Rattle.script_reader.specs.Scripts.{outside}
use Rattle.script_reader.specs.Live.{LivePlace, stands, live_line, live_end, item_list, items, place_behind}
use Rattle.script_reader.specs.LiveKept.{can_be_answered, CanBeAnswered, IsKeptLive}
use Rattle.script_reader.proofs.LiveKeptLaws.{place_kept, item_kept}
use Rattle.live_session.specs.declared.replies.Reply.{Reply}
use Rattle.live_session.specs.declared.replies.TalkEnd.{TalkEnd}
use Rattle.live_session.specs.declared.replies.TalkEnd.TheVariants.{Closed, Deaf, Mute, Unkept, Wanting, Full}
use Rattle.live_session.specs.Talks.{Telling, telling, AtDoor, commands_in, rows_in, heard_items, Exactly, IsTalk, IsCutTalk, IsUnanswered, Talked}
use Rattle.live_session.proofs.TurnLaws.{end_runs}
use Rattle.live_session.proofs.TalkLaws.{commands_more}
use Rattle.live_session.proofs.JoinLaws.{kept_still, all_kept_still, talk_still}

module _ (Ran : List Command → List Row → Type 0) (way : Telling) (old new : AtDoor) where
  talk_exactly : (ended : Bool) (lines : List (List ℕ)) (replies : List Reply) → IsTalk Ran way ended old new lines replies
      → IsTalk (Exactly (commands_in (heard_items ended lines)) (rows_in replies)) way ended old new lines replies
  talk_exactly ended lines replies t = record { came = t.came; done = t.done; stood = t.stood; suits = t.suits; ran = (refl, refl) }

  cut_exactly : (ended : Bool) (lines : List (List ℕ)) (replies : List Reply) (last : Reply) (part : List Deed) → IsCutTalk Ran way ended old new lines replies last part
      → IsCutTalk (Exactly (commands_in (heard_items ended lines)) (rows_in (replies ++ last ∷ []))) way ended old new lines replies last part
  cut_exactly ended lines replies last part t =
      record { came = t.came; done = t.done; stood = t.stood; suits = t.suits; ran = (refl, refl); over = t.over }

  unanswered_exactly : (lines : List (List ℕ)) (line : List ℕ) (replies : List Reply) → IsUnanswered Ran way old new lines line replies
      → IsUnanswered (Exactly (commands_in (heard_items false lines)) (rows_in replies)) way old new lines line replies
  unanswered_exactly lines line replies t = record { came = t.came; done = t.done; stood = t.stood; suits = t.suits; ran = (refl, refl) }

  -- what was run are some commands and their rows
  pub exactly : (clean : Bool) (end : TalkEnd) → Talked Ran way old new clean end
      → (commands : List Command) × (rows : List Row) × Ran commands rows × Talked (Exactly commands rows) way old new clean end
  exactly clean Closed (lines, replies, t, at, same, cleans) =
      (commands_in (heard_items true lines), rows_in replies, t.ran, (lines, replies, talk_exactly true lines replies t, at, same, cleans))
  exactly clean Deaf (lines, replies, t, rose, cleans) =
      (commands_in (heard_items false lines), rows_in replies, t.ran, (lines, replies, talk_exactly false lines replies t, rose, cleans))
  exactly clean Mute (ended, lines, replies, last, part, t, cut, kept, rose, cleans) = (
    commands_in (heard_items ended lines),
    rows_in (replies ++ last ∷ []),
    t.ran,
    (ended, lines, replies, last, part, cut_exactly ended lines replies last part t, cut, kept, rose, cleans),
  )
  exactly clean Unkept (ended, lines, replies, last, t, unkept, same, cleans) = (
    commands_in (heard_items ended lines),
    rows_in (replies ++ last ∷ []),
    t.ran,
    (ended, lines, replies, last, cut_exactly ended lines replies last [] t, unkept, same, cleans),
  )
  exactly clean Wanting (inl (lines, replies, t, cleans), same) =
      (commands_in (heard_items false lines), rows_in replies, t.ran, (inl (lines, replies, talk_exactly false lines replies t, cleans), same))
  exactly clean Wanting (inr (inl (lines, line, replies, t, cleans)), same) = (
    commands_in (heard_items false lines),
    rows_in replies,
    t.ran,
    (inr (inl (lines, line, replies, unanswered_exactly lines line replies t, cleans)), same),
  )
  exactly clean Wanting (inr (inr (ended, lines, replies, last, t, cleans)), same) = (
    commands_in (heard_items ended lines),
    rows_in (replies ++ last ∷ []),
    t.ran,
    (inr (inr (ended, lines, replies, last, cut_exactly ended lines replies last [] t, cleans)), same),
  )
  exactly clean Full (lines, line, replies, t, full, same, cleans) =
      (commands_in (heard_items false lines), rows_in replies, t.ran, (lines, line, replies, unanswered_exactly lines line replies t, full, same, cleans))

  module _ (safe : ℕ) (torn : Bool) (rises : way.safe ≤ safe) (stays : way.torn ≡ true → torn ≡ true) where
    abbrev later : Telling
    later = telling safe torn way.manner

    cut_still : (ended : Bool) (lines : List (List ℕ)) (replies : List Reply) (last : Reply) (part : List Deed) → IsCutTalk Ran way ended old new lines replies last part
        → IsCutTalk Ran later ended old new lines replies last part
    cut_still ended lines replies last part t = record {
      came = t.came;
      done = t.done;
      stood = all_kept_still way safe torn replies rises t.stood;
      suits = t.suits;
      ran = t.ran;
      over = t.over;
    }

    unanswered_still : (lines : List (List ℕ)) (line : List ℕ) (replies : List Reply) → IsUnanswered Ran way old new lines line replies
        → IsUnanswered Ran later old new lines line replies
    unanswered_still lines line replies t =
        record { came = t.came; done = t.done; stood = all_kept_still way safe torn replies rises t.stood; suits = t.suits; ran = t.ran }

    -- what was told stays so where the number rises and a failed put is not forgotten
    pub safer : (clean : Bool) (end : TalkEnd) → Talked Ran way old new clean end → Talked Ran later old new clean end
    safer clean Closed (lines, replies, t, at, same, cleans) =
        (lines, replies, talk_still Ran way safe torn true old new lines replies rises t, at, same, cleans)
    safer clean Deaf (lines, replies, t, rose, cleans) = (lines, replies, talk_still Ran way safe torn false old new lines replies rises t, rose, cleans)
    safer clean Mute (ended, lines, replies, last, part, t, cut, kept, rose, cleans) =
        (ended, lines, replies, last, part, cut_still ended lines replies last part t, cut, kept_still way safe torn last rises kept, rose, cleans)
    safer clean Unkept (ended, lines, replies, last, t, (keeps, is, failed), same, cleans) =
        (ended, lines, replies, last, cut_still ended lines replies last [] t, (keeps, is, stays failed), same, cleans)
    safer clean Wanting (inl (lines, replies, t, cleans), same) =
        (inl (lines, replies, talk_still Ran way safe torn false old new lines replies rises t, cleans), same)
    safer clean Wanting (inr (inl (lines, line, replies, t, cleans)), same) =
        (inr (inl (lines, line, replies, unanswered_still lines line replies t, cleans)), same)
    safer clean Wanting (inr (inr (ended, lines, replies, last, t, cleans)), same) =
        (inr (inr (ended, lines, replies, last, cut_still ended lines replies last [] t, cleans)), same)
    safer clean Full (lines, line, replies, t, full, same, cleans) = (lines, line, replies, unanswered_still lines line replies t, full, same, cleans)

-- commands that can be answered, one behind the other
both_asked : (a b : List Command) → list_all can_be_answered a ≡ true → list_all can_be_answered b ≡ true → list_all can_be_answered (a ++ b) ≡ true
both_asked a b g h = list_all-append can_be_answered a b ∙ ap (λ k. k && list_all can_be_answered b) g ∙ h

one_asked : (what : Option Item) → IfSome what CanBeAnswered → list_all can_be_answered (commands_in (item_list what)) ≡ true
one_asked None g = refl
one_asked (Some (Asked command)) g = ap (λ k. k && true) g
one_asked (Some (Faulty wrong)) g = refl

more_asked : (a b : List Item) → list_all can_be_answered (commands_in a) ≡ true → list_all can_be_answered (commands_in b) ≡ true
    → list_all can_be_answered (commands_in (a ++ b)) ≡ true
more_asked a b g h = subst (λ l. list_all can_be_answered l ≡ true) (sym (commands_more a b)) (both_asked (commands_in a) (commands_in b) g h)

items_asked : (p : LivePlace) (n : ℕ) (lines : List (List ℕ)) → IsKeptLive p → list_all can_be_answered (commands_in (items p n lines)) ≡ true
unfolding items
items_asked p n [] still = refl
items_asked p n (line ∷ lines) still =
    let what = (live_line p n line).item in
    let next = (live_line p n line).place in
    more_asked (item_list what) (items next (n + 1) lines) (one_asked what (item_kept p next what n line refl still))
    (items_asked next (n + 1) lines (place_kept p next what n line refl still))

all_asked : (ended : Bool) (lines : List (List ℕ)) → list_all can_be_answered (commands_in (heard_items ended lines)) ≡ true
all_asked true lines =
    let last = live_end (place_behind (stands outside) 1 lines) in
    more_asked (items (stands outside) 1 lines) (item_list last) (items_asked (stands outside) 1 lines tt)
    (one_asked last (end_runs (place_behind (stands outside) 1 lines)))
all_asked false lines = items_asked (stands outside) 1 lines tt

module _ (commands : List Command) (rows : List Row) where
  those_asked : (ended : Bool) (lines : List (List ℕ)) (told : List Row) → Exactly commands rows (commands_in (heard_items ended lines)) told
      → list_all can_be_answered commands ≡ true
  those_asked ended lines told are = subst (λ l. list_all can_be_answered l ≡ true) are.0 (all_asked ended lines)

  -- what a session runs can be answered
  pub asked_in : (way : Telling) (old new : AtDoor) (clean : Bool) (end : TalkEnd) → Talked (Exactly commands rows) way old new clean end
      → list_all can_be_answered commands ≡ true
  asked_in way old new clean Closed (lines, replies, t, at, same, cleans) = those_asked true lines (rows_in replies) t.ran
  asked_in way old new clean Deaf (lines, replies, t, rose, cleans) = those_asked false lines (rows_in replies) t.ran
  asked_in way old new clean Mute (ended, lines, replies, last, part, t, cut, kept, rose, cleans) = those_asked ended lines (rows_in (replies ++ last ∷ [])) t.ran
  asked_in way old new clean Unkept (ended, lines, replies, last, t, unkept, same, cleans) = those_asked ended lines (rows_in (replies ++ last ∷ [])) t.ran
  asked_in way old new clean Wanting (inl (lines, replies, t, cleans), same) = those_asked false lines (rows_in replies) t.ran
  asked_in way old new clean Wanting (inr (inl (lines, line, replies, t, cleans)), same) = those_asked false lines (rows_in replies) t.ran
  asked_in way old new clean Wanting (inr (inr (ended, lines, replies, last, t, cleans)), same) = those_asked ended lines (rows_in (replies ++ last ∷ [])) t.ran
  asked_in way old new clean Full (lines, line, replies, t, full, same, cleans) = those_asked false lines (rows_in replies) t.ran
