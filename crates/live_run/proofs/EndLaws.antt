-- Sessions that ended at a board, beside the desk of its journal, are a live run.
use Rattle.std.proofs.Common.{◌≡◌, ℕ, ◌+◌, ◌-◌, ◌<◌, ◌≤◌, ◌++◌, List, [], ◌∷◌, map, length, cond, Bool, true, false, not, ◌==◌, Option, Some, None, Result, refl, sym, ap, ◌∙◌, subst, ⊎_elim, arith, length-append, eq-eqb, true≢false, slice_index_or}
use Rattle.std.specs.List.{All, Contains, filter}
use Rattle.std.proofs.lemmas.List.{length-map, map-append}
use Rattle.std.proofs.lemmas.List.Elements.{All-nil, All-cons, All-append, All-pop, Contains-push_cases}
use mathlib.Core.List.{IsPrefix}
use Rattle.timing_defs.specs.declared.constraints.Derates.{Derates}
use Rattle.timing_defs.specs.declared.design.Design.{Design}
use Rattle.timing_defs.specs.declared.edits.Entry.{Entry}
use Rattle.version_board.specs.History.{own}
use Rattle.version_board.specs.Callers.{Standing, Sitting, IsSeatOf, IsSame, IsNew, AgreesWith, number}
use Rattle.session_engine.specs.Versions.{Versioned, IsVersion}
use Rattle.session_engine.specs.Looking.{meant}
use Rattle.eco_journal.specs.Blocks.{blocks_text}
use Rattle.live_journal.specs.declared.desks.Unkept.{Unkept}
use Rattle.live_journal.specs.declared.sinks.JournalSink.{JournalSink}
use Rattle.live_journal.specs.Desk.{single, Setting, Keeping, IsDesk, IsSeatAt, IsBoardOf, HasFile}
use Rattle.live_journal.specs.Sinks.{written_of, faults_of}
use Rattle.live_journal.proofs.Kept.{file_closed}
use Rattle.live_doors.specs.declared.door.Lost.{Lost}
use Rattle.live_session.specs.declared.replies.Manner.{Manner}
use Rattle.live_session.specs.Talks.{AtDoor, telling}
use Rattle.live_run.specs.declared.ended.Ended.{Ended}
use Rattle.live_run.specs.Sessions.{HandsBack, EachHandsBack, AreNew}
use Rattle.live_run.specs.Closing.{AreConfirmed, IsDeskOf, file_before, seat_left, parted_left, Settles}
use Rattle.live_run.specs.Runs.{IsLiveRun, file_of}
use Rattle.live_run.proofs.WholeLaws.{session_of, whole_run}
use Rattle.live_run.proofs.PartedLaws.{Scripted, scripted}
use Rattle.live_run.proofs.FileLaws.{Filed, filed}

abbrev Seated : Type 0
Seated = Sitting Entry Design

none_at : (k : ℕ) (e : Entry) (es : List Entry) (b : Bool) → (e.session == k) ≡ b → cond b (e ∷ own session_of k es) (own session_of k es) ≡ []
    → (own session_of k es ≡ [] → All (λ x. session_of x ≡ k → ⊥) es) → All (λ x. session_of x ≡ k → ⊥) (e ∷ es)
none_at k e es true is empty rest = let long = ap length empty in let bad : ⊥ = omega (arith, long) in absurd bad
none_at k e es false is empty rest =
    All-cons (λ x. session_of x ≡ k → ⊥) e es (λ same. absurd (true≢false (sym (eq-eqb e.session k same) ∙ is))) (rest empty)

-- a seat that added nothing has no entries
none_by : (k : ℕ) (J : List Entry) → own session_of k J ≡ [] → All (λ e. session_of e ≡ k → ⊥) J
none_by k [] h = All-nil (λ e. session_of e ≡ k → ⊥)
none_by k (e ∷ es) h = none_at k e es (e.session == k) refl h (none_by k es)

-- so each entry is of another seat
of_others : (seats : List Seated) (d : Seated) (J : List Entry) → AgreesWith session_of J d → d.view.mine ≡ []
    → All (λ e. Contains (map number (seats ++ d ∷ [])) (session_of e)) J → All (λ e. Contains (map number seats) (session_of e)) J
of_others seats d J agrees none whose =
    let apart = none_by d.view.number J (sym agrees.1 ∙ none) in
    λ k x short. ⊎_elim (λ (c : Contains (map number seats) (session_of (slice_index_or J k x))). c) (λ same. absurd (apart k x short (sym same)))
    (Contains-push_cases (map number seats) d.view.number (session_of (slice_index_or J k x))
    (subst (λ l. Contains l (session_of (slice_index_or J k x))) (map-append number seats (d ∷ [])) (whose k x short)))

module _ {D : Type 0} where
  -- the seats that come back are the board's
  pub seats_fit : {B : _} (told : D → AtDoor) (lines : ℕ → Option (List (List ℕ))) (denies : ℕ → Lost → Type 0) (manner : Manner) (b : Standing Versioned) (n : ℕ)
      (begun : List Seated) (ended : List (Ended D B)) → AreNew b n begun → EachHandsBack told lines denies manner begun ended
      → All (IsSeatOf meant b) (map seat_left ended)
  seats_fit told lines denies manner b n [] [] new back = All-nil (IsSeatOf meant b)
  seats_fit told lines denies manner b n (s ∷ begun) (e ∷ ended) new back =
      All-cons (IsSeatOf meant b) e.seat (map seat_left ended)
      (back.0.same.0 ∙ new.1.0, back.0.same.3 ∙ new.1.1, back.0.same.2 ∙ new.1.2)
      (seats_fit told lines denies manner b (n + 1) begun ended new.2 back.1)
  seats_fit told lines denies manner b n [] (e ∷ ended) new back = absurd back
  seats_fit told lines denies manner b n (s ∷ begun) [] new back = absurd back

  -- and so is the desk's
  pub all_fit : {B : _} (told : D → AtDoor) (lines : ℕ → Option (List (List ℕ))) (denies : ℕ → Lost → Type 0) (manner : Manner) (b : Standing Versioned) (s : Setting Design) (desk : Seated)
      (begun : List Seated) (ended : List (Ended D B)) (seats : List Seated) → AreNew b 1 begun → EachHandsBack told lines denies manner begun ended
      → IsBoardOf meant s b → IsSeatAt s desk → seats ≡ map seat_left ended ++ desk ∷ [] → All (IsSeatOf meant b) seats
  all_fit told lines denies manner b s desk begun ended seats new back board sits are =
      subst (All (IsSeatOf meant b)) (sym are)
      (All-append (IsSeatOf meant b) (map seat_left ended) (desk ∷ []) (seats_fit told lines denies manner b 1 begun ended new back)
      (All-cons (IsSeatOf meant b) desk [] (sits.0 ∙ sym board.0, sits.1 ∙ sym board.1, sits.2 ∙ sym board.2) (All-nil (IsSeatOf meant b))))

  -- there are as many as the board has
  pub all_count : {B : _} (b : Standing Versioned) (s : Setting Design) (desk : Seated) (ended : List (Ended D B)) (seats : List Seated)
      → IsDeskOf s b (length ended) → seats ≡ map seat_left ended ++ desk ∷ [] → length seats ≡ b.seats
  all_count b s desk ended seats of are =
      let many : length (map seat_left ended) ≡ length ended = length-map ended seat_left in
      let long : length (map seat_left ended ++ desk ∷ []) ≡ length (map seat_left ended) + 1 = length-append (map seat_left ended) (desk ∷ []) in
      ap length are ∙ long ∙ ap (λ n. n + 1) many ∙ sym of.seats

  module _ {B : _} {F : Type 0} (told : D → AtDoor) (lines : ℕ → Option (List (List ℕ))) (denies : ℕ → Lost → Type 0) (manner : Manner) (written : F → Option (List ℕ)) (faults : F → ℕ) (s : Setting Design)
      (b : Standing Versioned) (d : Keeping Entry Design) (begun : List Seated) (ended : List (Ended D B)) (last : Versioned) (sink : JournalSink F)
      (journal : Option F) (kept : Result Unit Unkept) where
    -- the closed journal, what sessions leave and the file are a live run
    pub closed_run : (seats : List Seated) (seat : Seated) (derates : Derates) (upto : ℕ) (sound : Bool) → AreNew b 1 begun → EachHandsBack told lines denies manner begun ended
        → IsDeskOf s b (length ended) → IsDesk (λ derates from es. blocks_text derates from (single es)) s d → AreConfirmed d.kept d.sound ended
        → written_of written sink ≡ d.file → faults_of faults sink ≡ d.faults → seat ≡ d.seat → upto ≡ d.kept → sound ≡ d.sound → derates ≡ s.derates
        → seats ≡ map seat_left ended ++ seat ∷ [] → IsVersion last → last.origin ≡ b.opening.origin → last.first ≡ b.opening.first
        → All (AgreesWith session_of last.journal) seats → All (λ (e : Entry). Contains (map number seats) e.session) last.journal
        → Settles written faults derates last.first last.journal upto sound sink journal kept
        → IsLiveRun told lines denies manner b.opening.origin b.opening.first last.journal (file_before s) (file_of written faults journal) s.derates (map parted_left ended) kept
    closed_run seats seat derates upto sound new back of desk sure same count sits stands well factors parts is origin first agree whose settles =
        let J = last.journal in
        let are : seats ≡ map seat_left ended ++ d.seat ∷ [] = parts ∙ ap (λ (t : Seated). map seat_left ended ++ t ∷ []) sits in
        let here = scripted told lines denies manner d.kept d.sound b 1 begun ended new back sure in
        let split = All-pop (AgreesWith session_of J) seats (map seat_left ended) (Some d.seat) are agree in
        let others = of_others (map seat_left ended) d.seat J split.1 desk.sits.4 (subst (λ l. All (λ (e : Entry). Contains (map number l) e.session) J) are whose) in
        let whole = whole_run b begun (map seat_left ended) here.scripts here.ts last new here.ran is origin split.0 others in
        let closed = file_closed s d J desk split.1.0 in
        let from : last.first ≡ s.first = first ∙ of.board.1 in
        let given : Settles written faults s.derates s.first J d.kept d.sound sink journal kept =
        subst (λ n. Settles written faults s.derates n J d.kept d.sound sink journal kept) from
        (subst (λ t. Settles written faults t last.first J d.kept d.sound sink journal kept) factors
        (subst (λ k. Settles written faults derates last.first J k d.sound sink journal kept) stands
        (subst (λ w. Settles written faults derates last.first J upto w sink journal kept) well settles))) in
        let end = filed s.before d.file s.faults d.faults s.derates s.first J d.kept d.sound desk.low closed.1 closed.0 desk.blamed written faults sink journal kept same count given in
        let start : s.first ≡ b.opening.first = sym of.board.1 in
        record {
          scripts = here.scripts;
          ts = here.ts;
          whole = whole;
          upto = d.kept;
          count = end.count;
          sound = end.sound;
          torn = not d.sound;
          each = here.each;
          high = subst (λ n. d.kept ≤ n + end.count) start end.high;
          broken = end.broken;
          file = subst (λ n. HasFile s.before (file_of written faults journal).text s.derates n J end.count end.sound) start end.file;
          blamed = end.blamed;
          all = end.all;
        }
