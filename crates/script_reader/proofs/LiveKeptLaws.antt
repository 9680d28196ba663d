-- What a session asks line by line is as engines answer it, behind each line.
use Rattle.std.proofs.Common.{◌≡◌, ℕ, ◌+◌, Bool, true, false, List, [], ◌∷◌, ◌++◌, length, cond, refl, subst, sym, arith}
use Rattle.std.specs.Prelude.{Option, Some, None, nat_le, IfSome}
use Rattle.std.specs.List.{list_all, All}
use Rattle.std.proofs.lemmas.List.Elements.{All-nil, All-cons, All-append}
use Rattle.std.proofs.lemmas.Bool.{and_parts}
use Rattle.timing_defs.specs.declared.edits.Edit.{Edit}
use Rattle.timing_defs.specs.declared.reports.Query.{Query}
use Rattle.timing_defs.specs.declared.reports.Trial.{Trial}
use Rattle.timing_defs.specs.declared.reports.Trial.TheVariants.{Drop, Ask as ask_draft}
use Rattle.timing_defs.specs.declared.scripts.Command.{Command}
use Rattle.timing_defs.specs.declared.scripts.Command.TheVariants.{Take, Await, Ask, Change}
use Rattle.timing_defs.specs.Documents.{is_edit, is_draft_trial}
use Rattle.script_reader.specs.Words.{may_be_tried}
use Rattle.sta_text.specs.declared.faults.Wrong.{Wrong}
use Rattle.script_reader.specs.declared.live.Item.{Item}
use Rattle.script_reader.specs.Scripts.{Event, long, single, change, group_begin, group_end, draft_begin, draft_end, dropped, unknown, line_said, Place, outside, inside, drafted, tried, eco, trial, bad, excess}
use Rattle.script_reader.specs.Live.{LivePlace, stands, passing_eco, passing_draft, Behind, goes_on, fails, given_up, unfit, crowded, if_room, group_closed, draft_closed, trial_closed, live_event, live_said, live_events, live_line, live_end, item_list, items, place_behind, all_items}
use Rattle.script_reader.specs.Answerable.{is_read}
use Rattle.script_reader.specs.LiveKept.{can_be_answered, CanBeAnswered, IsKeptPlace, IsKeptLive, IsKeptBehind}
use Rattle.script_reader.proofs.KeptLaws.{is_said, is_fine, AreFine, done, pick, line_fine, eco_made, draft_made, answerable_said, trial_said, all_longer, one_longer}

answered_said : (c : Command) → is_said c ≡ true → can_be_answered c ≡ true
answered_said Take h = refl
answered_said (Await number looks) h = h
answered_said (Ask q) h = answerable_said (Ask q) h
answered_said (Change eco) h = h

-- what is given up leaves nothing still
given_kept : (place : Place) (w : Wrong) → IsKeptBehind (fails (given_up place) w)
given_kept outside w = (tt, tt)
given_kept (inside begin edits) w = (tt, tt)
given_kept (drafted begin trials) w = (tt, tt)
given_kept (tried begin trials group edits) w = (tt, tt)

-- one more where there is room
room_kept : (limit before n : ℕ) (place next : Place) → (nat_le limit before ≡ false → IsKeptPlace next) → IsKeptBehind (if_room limit before n place next)
room_kept limit before n place next h = by_cases (nat_le limit before) refl
  where
    by_cases : (b : Bool) → nat_le limit before ≡ b → IsKeptBehind (cond b (crowded place n) (goes_on (stands next)))
    by_cases true e = given_kept place (excess n)
    by_cases false e = (h e, tt)

more_kept : (n begin : ℕ) (trials : List Trial) (t : Trial) → list_all is_draft_trial trials ≡ true → is_draft_trial t ≡ true
    → IsKeptBehind (if_room 100 (length trials) n (drafted begin trials) (drafted begin (trials ++ t ∷ [])))
more_kept n begin trials t good one =
    room_kept 100 (length trials) n (drafted begin trials) (drafted begin (trials ++ t ∷ []))
    (λ room. (all_longer is_draft_trial trials t good one, one_longer 100 trials t room))

-- a question in a draft
draft_asked : (n begin : ℕ) (trials : List Trial) (q : Query) → list_all is_draft_trial trials ≡ true → is_read q ≡ true
    → IsKeptBehind (cond (may_be_tried q) (if_room 100 (length trials) n (drafted begin trials) (drafted begin (trials ++ ask_draft q ∷ []))) (unfit (drafted begin trials) n))
draft_asked n begin trials q good may = by_cases (may_be_tried q) refl
  where
    by_cases : (b : Bool) → may_be_tried q ≡ b
        → IsKeptBehind (cond b (if_room 100 (length trials) n (drafted begin trials) (drafted begin (trials ++ ask_draft q ∷ []))) (unfit (drafted begin trials) n))
    by_cases true plain = more_kept n begin trials (ask_draft q) good (trial_said q may plain)
    by_cases false plain = given_kept (drafted begin trials) (bad n)

group_kept : (begin : ℕ) (edits : List Edit) → IsKeptPlace (inside begin edits) → IsKeptBehind (group_closed begin edits)
group_kept begin [] still = (tt, tt)
group_kept begin (e ∷ es) still = (tt, eco_made (e ∷ es) (omega arith) still.1 still.0)

draft_kept : (begin : ℕ) (trials : List Trial) → IsKeptPlace (drafted begin trials) → IsKeptBehind (draft_closed begin trials)
draft_kept begin [] still = (tt, tt)
draft_kept begin (t ∷ ts) still = (tt, draft_made (t ∷ ts) (omega arith) still.1 still.0)

trial_kept : (begin group : ℕ) (trials : List Trial) (edits : List Edit) → IsKeptPlace (tried begin trials group edits)
    → IsKeptBehind (trial_closed begin trials group edits)
trial_kept begin group trials [] still = (tt, tt)
trial_kept begin group trials (e ∷ es) still =
    ((all_longer is_draft_trial trials (trial (e ∷ es)) still.0 (eco_made (e ∷ es) (omega arith) still.3 still.2), one_longer 100 trials (trial (e ∷ es)) still.1), tt)

event_kept : (place : LivePlace) (e : Event) → IsKeptLive place → is_fine e ≡ true → IsKeptBehind (live_event place e)
event_kept (stands outside) (long n) still fine = (tt, tt)
event_kept (stands outside) (single n c) still fine = (tt, answered_said c fine)
event_kept (stands outside) (change n e) still fine = (tt, eco_made (e ∷ []) (omega arith) (omega arith) (rw fine refl))
event_kept (stands outside) (group_begin n) still fine = ((refl, omega arith), tt)
event_kept (stands outside) (group_end n) still fine = (tt, tt)
event_kept (stands outside) (draft_begin n) still fine = ((refl, omega arith), tt)
event_kept (stands outside) (draft_end n) still fine = (tt, tt)
event_kept (stands outside) (dropped n) still fine = (tt, tt)
event_kept (stands outside) (unknown n) still fine = (tt, tt)
event_kept (stands (inside begin edits)) (long n) still fine = (tt, tt)
event_kept (stands (inside begin edits)) (single n c) still fine = (tt, tt)
event_kept (stands (inside begin edits)) (change n e) still fine = room_kept 1000 (length edits) n (inside begin edits) (inside begin (edits ++ e ∷ []))
    (λ room. (all_longer is_edit edits e still.0 fine, one_longer 1000 edits e room))
event_kept (stands (inside begin edits)) (group_begin n) still fine = (tt, tt)
event_kept (stands (inside begin edits)) (group_end n) still fine = group_kept begin edits still
event_kept (stands (inside begin edits)) (draft_begin n) still fine = (tt, tt)
event_kept (stands (inside begin edits)) (draft_end n) still fine = (tt, tt)
event_kept (stands (inside begin edits)) (dropped n) still fine = (tt, tt)
event_kept (stands (inside begin edits)) (unknown n) still fine = (tt, tt)
event_kept (stands (drafted begin trials)) (long n) still fine = (tt, tt)
event_kept (stands (drafted begin trials)) (single n (Ask q)) still fine = draft_asked n begin trials q still.0 fine
event_kept (stands (drafted begin trials)) (single n Take) still fine = (tt, tt)
event_kept (stands (drafted begin trials)) (single n (Await number looks)) still fine = (tt, tt)
event_kept (stands (drafted begin trials)) (single n (Change eco)) still fine = (tt, tt)
event_kept (stands (drafted begin trials)) (change n e) still fine = more_kept n begin trials (trial (e ∷ [])) still.0 (eco_made (e ∷ []) (omega arith) (omega arith) (rw fine refl))
event_kept (stands (drafted begin trials)) (group_begin n) still fine = room_kept 100 (length trials) n (drafted begin trials) (tried begin trials n []) (λ room. (still.0, room, refl, omega arith))
event_kept (stands (drafted begin trials)) (group_end n) still fine = (tt, tt)
event_kept (stands (drafted begin trials)) (draft_begin n) still fine = (tt, tt)
event_kept (stands (drafted begin trials)) (draft_end n) still fine = draft_kept begin trials still
event_kept (stands (drafted begin trials)) (dropped n) still fine = more_kept n begin trials Drop still.0 refl
event_kept (stands (drafted begin trials)) (unknown n) still fine = (tt, tt)
event_kept (stands (tried begin trials group edits)) (long n) still fine = (tt, tt)
event_kept (stands (tried begin trials group edits)) (single n c) still fine = (tt, tt)
event_kept (stands (tried begin trials group edits)) (change n e) still fine = room_kept 1000 (length edits) n (tried begin trials group edits) (tried begin trials group (edits ++ e ∷ []))
    (λ room. (still.0, still.1, all_longer is_edit edits e still.2 fine, one_longer 1000 edits e room))
event_kept (stands (tried begin trials group edits)) (group_begin n) still fine = (tt, tt)
event_kept (stands (tried begin trials group edits)) (group_end n) still fine = trial_kept begin group trials edits still
event_kept (stands (tried begin trials group edits)) (draft_begin n) still fine = (tt, tt)
event_kept (stands (tried begin trials group edits)) (draft_end n) still fine = (tt, tt)
event_kept (stands (tried begin trials group edits)) (dropped n) still fine = (tt, tt)
event_kept (stands (tried begin trials group edits)) (unknown n) still fine = (tt, tt)
event_kept passing_eco (long n) still fine = (tt, tt)
event_kept passing_eco (single n c) still fine = (tt, tt)
event_kept passing_eco (change n e) still fine = (tt, tt)
event_kept passing_eco (group_begin n) still fine = (tt, tt)
event_kept passing_eco (group_end n) still fine = (tt, tt)
event_kept passing_eco (draft_begin n) still fine = (tt, tt)
event_kept passing_eco (draft_end n) still fine = (tt, tt)
event_kept passing_eco (dropped n) still fine = (tt, tt)
event_kept passing_eco (unknown n) still fine = (tt, tt)
event_kept passing_draft (long n) still fine = (tt, tt)
event_kept passing_draft (single n c) still fine = (tt, tt)
event_kept passing_draft (change n e) still fine = (tt, tt)
event_kept passing_draft (group_begin n) still fine = (tt, tt)
event_kept passing_draft (group_end n) still fine = (tt, tt)
event_kept passing_draft (draft_begin n) still fine = (tt, tt)
event_kept passing_draft (draft_end n) still fine = (tt, tt)
event_kept passing_draft (dropped n) still fine = (tt, tt)
event_kept passing_draft (unknown n) still fine = (tt, tt)

said_kept : (place : LivePlace) (es : List Event) → IsKeptLive place → AreFine es → IsKeptBehind (live_said place es)
said_kept place [] still fine = (still, tt)
said_kept place (e ∷ es) still fine = event_kept place e still (and_parts (is_fine e) (list_all is_fine es) fine.all).0

line_kept : (place : LivePlace) (n : ℕ) (line : List ℕ) → IsKeptLive place → IsKeptBehind (live_line place n line)
unfolding live_line
line_kept place n line still =
    said_kept place (live_events n line) still
    (pick (nat_le (length line) 65536) (line_said n line) (long n ∷ []) (line_fine n line) (done (long n ∷ []) refl))

-- what a line of a kept place leaves
pub place_kept : (place next : LivePlace) (item : Option Item) (n : ℕ) (line : List ℕ) → record { place = next; item = item } ≡ live_line place n line
    → IsKeptLive place → IsKeptLive next
place_kept place next item n line is still = (subst IsKeptBehind (sym is) (line_kept place n line still)).0

pub item_kept : (place next : LivePlace) (item : Option Item) (n : ℕ) (line : List ℕ) → record { place = next; item = item } ≡ live_line place n line
    → IsKeptLive place → IfSome item CanBeAnswered
item_kept place next item n line is still = (subst IsKeptBehind (sym is) (line_kept place n line still)).1

one_item : (item : Option Item) → IfSome item CanBeAnswered → All CanBeAnswered (item_list item)
one_item None still = All-nil CanBeAnswered
one_item (Some item) still = All-cons CanBeAnswered item [] still (All-nil CanBeAnswered)

-- each item of lines behind a kept place is as engines answer it
pub items_kept : (place : LivePlace) (n : ℕ) (lines : List (List ℕ)) → IsKeptLive place → All CanBeAnswered (items place n lines)
unfolding items
items_kept place n [] still = All-nil CanBeAnswered
items_kept place n (line ∷ lines) still =
    let now : Behind = live_line place n line in
    let behind_line : IsKeptBehind now = line_kept place n line still in
    All-append CanBeAnswered (item_list now.item) (items now.place (n + 1) lines)
    (one_item now.item behind_line.1) (items_kept now.place (n + 1) lines behind_line.0)

-- and the place behind them is kept
pub places_kept : (place : LivePlace) (n : ℕ) (lines : List (List ℕ)) → IsKeptLive place → IsKeptLive (place_behind place n lines)
unfolding place_behind
places_kept place n [] still = still
places_kept place n (line ∷ lines) still =
    places_kept (live_line place n line).place (n + 1) lines (line_kept place n line still).0

-- the end of lines asks nothing
end_kept : (place : LivePlace) → IfSome (live_end place) CanBeAnswered
unfolding live_end
end_kept (stands outside) = tt
end_kept (stands (inside begin edits)) = tt
end_kept (stands (drafted begin trials)) = tt
end_kept (stands (tried begin trials group edits)) = tt
end_kept passing_eco = tt
end_kept passing_draft = tt

-- each item of a whole session is as engines answer it
pub all_items_kept : (lines : List (List ℕ)) → All CanBeAnswered (all_items lines)
all_items_kept lines =
    let last : LivePlace = place_behind (stands outside) 1 lines in
    All-append CanBeAnswered (items (stands outside) 1 lines) (item_list (live_end last))
    (items_kept (stands outside) 1 lines tt) (one_item (live_end last) (end_kept last))
