-- Sessions that ended at a board are the whole run.
use Rattle.std.proofs.Common.{◌≡◌, ℕ, ◌+◌, ◌<◌, ◌≤◌, ◌++◌, List, [], ◌∷◌, map, length, Result, Ok, Some, refl, sym, ap, ◌∙◌, subst, arith}
use Rattle.std.specs.Prelude.{IfOk}
use Rattle.std.specs.List.{All, Contains}
use Rattle.std.proofs.lemmas.List.Elements.{All-nil, All-cons, All-head, All-tail, All-map, All-contains}
use mathlib.Core.List.{IsPrefix}
use Rattle.timing_defs.specs.declared.design.Design.{Design}
use Rattle.timing_defs.specs.declared.edits.Eco.{Eco}
use Rattle.timing_defs.specs.declared.edits.Entry.{Entry}
use Rattle.timing_defs.specs.declared.scripts.Script.{Script}
use Rattle.timing_defs.specs.declared.scripts.Transcript.{Transcript}
use Rattle.timing_rules.specs.Sessions.{DesignAfter, Legal, AreLegal, IsWhole, ecos_of, accepted_ecos, entry_by, added_entries}
use Rattle.timing_rules.proofs.LongerJournals.{legal_longer}
use Rattle.sta_units.specs.declared.units.Memory.{Memory}
use Rattle.version_board.specs.History.{own}
use Rattle.version_board.specs.Callers.{Standing, Sitting, IsSeatOf, IsNew, AgreesWith, number}
use Rattle.session_engine.specs.Versions.{Versioned, IsVersion}
use Rattle.session_engine.specs.Looking.{meant}
use Rattle.session_engine.specs.Running.{Ran}
use Rattle.shell_session.specs.declared.sessions.Ended.{Ended}
use Rattle.shell_session.specs.Each.{HandsBack, EachHandsBack, AreNew, AreTold}

abbrev session_of : Entry → ℕ
session_of e = e.session

abbrev eco_of : Entry → Eco
eco_of e = e.eco

abbrev seat_of : Ended → Sitting Entry Design
seat_of e = e.seat

legal_kept : (o : Design) (J L : List Entry) (first session : ℕ) (script : Script) (t : Transcript) → IsPrefix J L
    → Legal o J first session script t → Legal o L first session script t
legal_kept o J L first session script t p h =
    subst (λ l. Legal o l first session script t) p.1 (legal_longer J p.0 o first session script t h)

ecos_added : (session : ℕ) (ecos : List Eco) → map eco_of (map (entry_by session) ecos) ≡ ecos
ecos_added session [] = refl
ecos_added session (eco ∷ ecos) = ap (λ l. eco ∷ l) (ecos_added session ecos)

module _ (b : Standing Versioned) (J : List Entry) where
  abbrev origin : Design
  origin = b.opening.origin

  abbrev first : ℕ
  first = b.opening.first

  -- a session that ended is legal over the whole journal, and its entries there are its own
  one_legal : (n : ℕ) (s : Sitting Entry Design) (c : Script) (e : Ended) (t : Transcript) → IsNew n s → IsSeatOf meant b s → HandsBack s c e
      → AgreesWith session_of J e.seat → e.outcome ≡ Ok t → Legal origin J first n c t × (ecos_of n J ≡ accepted_ecos c.commands t.rows)
  one_legal n s c e t new at back agrees told =
      let ran0 : Ran origin s.view.first s.view.number c s.view e.seat.view t =
      subst (λ (r : Result Transcript Memory). IfOk r (λ u. (o : Design) → s.view.origin ≡ Some o → Ran o s.view.first s.view.number c s.view e.seat.view u)) told back.1
      origin at.2 in
      let ran1 : Ran origin first s.view.number c s.view e.seat.view t = subst (λ f. Ran origin f s.view.number c s.view e.seat.view t) at.1 ran0 in
      let ran : Ran origin first n c s.view e.seat.view t = subst (λ k. Ran origin first k c s.view e.seat.view t) new.0 ran1 in
      let numbered : e.seat.view.number ≡ n = back.0.1 ∙ new.0 in
      let mine : e.seat.view.mine ≡ added_entries n c.commands t.rows = ran.mine ∙ ap (λ l. l ++ added_entries n c.commands t.rows) new.2 in
      let own_are : own session_of n J ≡ added_entries n c.commands t.rows = ap (λ k. own session_of k J) (sym numbered) ∙ sym agrees.1 ∙ mine in (
        legal_kept origin e.seat.view.seen J first n c t agrees.0 ran.legal,
        ap (map eco_of) own_are ∙ ecos_added n (accepted_ecos c.commands t.rows),
      )

  all_legal : (n : ℕ) (seats : List (Sitting Entry Design)) (scripts : List Script) (ended : List Ended) (ts : List Transcript) → AreNew b n seats
      → EachHandsBack seats scripts ended → All (AgreesWith session_of J) (map seat_of ended) → AreTold ended ts → AreLegal origin J first n scripts ts
  all_legal n [] [] [] [] new back agree told = tt
  all_legal n (s ∷ seats) (c ∷ scripts) (e ∷ ended) (t ∷ ts) new back agree told =
      let one = one_legal n s c e t new.0 new.1 back.0 (All-head (AgreesWith session_of J) e.seat (map seat_of ended) agree) told.0 in
      let rest = all_legal (n + 1) seats scripts ended ts new.2 back.1 (All-tail (AgreesWith session_of J) e.seat (map seat_of ended) agree) told.1 in
      (one.0, one.1, rest)
  all_legal n [] [] (e ∷ ended) ts new back agree told = absurd back
  all_legal n [] (c ∷ scripts) ended ts new back agree told = absurd back
  all_legal n (s ∷ seats) [] ended ts new back agree told = absurd back
  all_legal n (s ∷ seats) (c ∷ scripts) [] ts new back agree told = absurd back
  all_legal n [] [] [] (t ∷ ts) new back agree told = absurd told
  all_legal n (s ∷ seats) (c ∷ scripts) (e ∷ ended) [] new back agree told = absurd told

  -- the numbers of sessions that ended
  abbrev IsAmong : ℕ → ℕ → Ended → Type 0
  IsAmong low high e = (low ≤ e.seat.view.number) × (e.seat.view.number < high)

  wider : (low high n : ℕ) (ended : List Ended) → low ≤ n → All (IsAmong n high) ended → All (IsAmong low high) ended
  wider low high n ended le h k d lt = let a = h k d lt in (omega (arith, le, a.0), a.1)

  numbers_in : (n : ℕ) (seats : List (Sitting Entry Design)) (scripts : List Script) (ended : List Ended) → AreNew b n seats
      → EachHandsBack seats scripts ended → All (IsAmong n (n + length scripts)) ended
  numbers_in n [] [] [] new back = All-nil (IsAmong n (n + 0))
  numbers_in n (s ∷ seats) (c ∷ scripts) (e ∷ ended) new back =
      let numbered : e.seat.view.number ≡ n = back.0.0.1 ∙ new.0.0 in
      let high : (n + 1) + length scripts ≡ n + length (c ∷ scripts) = omega arith in
      let rest = subst (λ k. All (IsAmong (n + 1) k) ended) high (numbers_in (n + 1) seats scripts ended new.2 back.1) in
      All-cons (IsAmong n (n + length (c ∷ scripts))) e ended ((omega (arith, numbered)), (omega (arith, numbered)))
      (wider n (n + length (c ∷ scripts)) (n + 1) ended (omega arith) rest)
  numbers_in n [] [] (e ∷ ended) new back = absurd back
  numbers_in n [] (c ∷ scripts) ended new back = absurd back
  numbers_in n (s ∷ seats) [] ended new back = absurd back
  numbers_in n (s ∷ seats) (c ∷ scripts) [] new back = absurd back

  -- a session's number is one of the run
  named : (seats : List (Sitting Entry Design)) (scripts : List Script) (ended : List Ended) → AreNew b 1 seats → EachHandsBack seats scripts ended
      → All (λ e. Contains (map number (map seat_of ended)) (session_of e)) J
      → (entry : Entry) → Contains J entry → (1 ≤ entry.session) × (entry.session ≤ length scripts)
  named seats scripts ended new back whose entry among =
      let here : Contains (map number (map seat_of ended)) entry.session = All-contains (λ e. Contains (map number (map seat_of ended)) (session_of e)) J entry whose among in
      let in_seats : All (λ k. (1 ≤ k) × (k < 1 + length scripts)) (map number (map seat_of ended)) =
      All-map (λ k. (1 ≤ k) × (k < 1 + length scripts)) number (map seat_of ended)
      (All-map (λ s. (1 ≤ number s) × (number s < 1 + length scripts)) seat_of ended (numbers_in 1 seats scripts ended new back)) in
      let within = All-contains (λ k. (1 ≤ k) × (k < 1 + length scripts)) (map number (map seat_of ended)) entry.session in_seats here in
      (within.0, omega (arith, within.1))

-- the seats that come back are the board's
pub seats_fit : (b : Standing Versioned) (n : ℕ) (seats : List (Sitting Entry Design)) (scripts : List Script) (ended : List Ended) → AreNew b n seats
    → EachHandsBack seats scripts ended → All (IsSeatOf meant b) (map (λ (e : Ended). e.seat) ended)
seats_fit b n [] [] [] new back = All-nil (IsSeatOf meant b)
seats_fit b n (s ∷ seats) (c ∷ scripts) (e ∷ ended) new back =
    All-cons (IsSeatOf meant b) e.seat (map (λ (x : Ended). x.seat) ended)
    (back.0.0.0 ∙ new.1.0, back.0.0.3 ∙ new.1.1, back.0.0.2 ∙ new.1.2)
    (seats_fit b (n + 1) seats scripts ended new.2 back.1)
seats_fit b n [] [] (e ∷ ended) new back = absurd back
seats_fit b n [] (c ∷ scripts) ended new back = absurd back
seats_fit b n (s ∷ seats) [] ended new back = absurd back
seats_fit b n (s ∷ seats) (c ∷ scripts) [] new back = absurd back

-- as many as there are scripts
pub as_many : (seats : List (Sitting Entry Design)) (scripts : List Script) (ended : List Ended) → EachHandsBack seats scripts ended → length ended ≡ length scripts
as_many [] [] [] back = refl
as_many (s ∷ seats) (c ∷ scripts) (e ∷ ended) back = let n = as_many seats scripts ended back.1 in omega (arith, n)
as_many [] [] (e ∷ ended) back = absurd back
as_many [] (c ∷ scripts) ended back = absurd back
as_many (s ∷ seats) [] ended back = absurd back
as_many (s ∷ seats) (c ∷ scripts) [] back = absurd back

-- the closed journal and all transcripts are the whole run
pub closed_whole : (b : Standing Versioned) (begun : List (Sitting Entry Design)) (scripts : List Script) (ended : List Ended) (seats : List (Sitting Entry Design))
    (ts : List Transcript) (last : Versioned)
    → AreNew b 1 begun → EachHandsBack begun scripts ended → seats ≡ map (λ (e : Ended). e.seat) ended → AreTold ended ts
    → IsVersion last → last.origin ≡ b.opening.origin
    → All (AgreesWith (λ (x : Entry). x.session) last.journal) seats → All (λ (x : Entry). Contains (map number seats) x.session) last.journal
    → IsWhole b.opening.origin b.opening.first scripts last.journal ts
closed_whole b begun scripts ended seats ts last new back are told is from agree whose = (
  all_legal b last.journal 1 begun scripts ended ts new back (subst (All (AgreesWith session_of last.journal)) are agree) told,
  named b last.journal begun scripts ended new back (subst (λ (l : List (Sitting Entry Design)). All (λ (x : Entry). Contains (map number l) x.session) last.journal) are whose),
  (last.stored.design, subst (λ d. DesignAfter d last.journal (length last.journal) last.stored.design) from is.accepted),
)
