-- Sessions that ended at a board are a whole run.
use Rattle.std.proofs.Common.{◌≡◌, ℕ, ◌+◌, ◌<◌, ◌≤◌, ◌++◌, List, [], ◌∷◌, map, length, Some, All, Contains, refl, sym, ap, ◌∙◌, subst, arith}
use Rattle.std.specs.Prelude.{⊤}
use Rattle.std.proofs.lemmas.List.Elements.{All-nil, All-cons, All-head, All-tail, All-map, All-contains}
use mathlib.Core.List.{IsPrefix}
use Rattle.timing_defs.specs.declared.design.Design.{Design}
use Rattle.timing_defs.specs.declared.edits.Eco.{Eco}
use Rattle.timing_defs.specs.declared.edits.Entry.{Entry}
use Rattle.timing_defs.specs.declared.scripts.Script.{Script}
use Rattle.timing_defs.specs.declared.scripts.Transcript.{Transcript}
use Rattle.timing_rules.specs.Sessions.{DesignAfter, Legal, AreLegal, IsWhole, ecos_of, accepted_ecos, entry_by, added_entries}
use Rattle.timing_rules.proofs.LongerJournals.{legal_longer}
use Rattle.version_board.specs.History.{own}
use Rattle.version_board.specs.Callers.{Standing, Sitting, IsSeatOf, IsSame, IsNew, AgreesWith, number}
use Rattle.session_engine.specs.Versions.{Versioned, IsVersion}
use Rattle.session_engine.specs.Looking.{meant}
use Rattle.session_engine.specs.Running.{Ran}
use Rattle.live_run.specs.Sessions.{AreNew}

abbrev Seated : Type 0
Seated = Sitting Entry Design

abbrev pub session_of : Entry → ℕ
session_of e = e.session

abbrev eco_of : Entry → Eco
eco_of e = e.eco

-- a session that began at the seat `s` ran its script from there up to the seat `t`
abbrev pub RanFrom : Seated → Seated → Script → Transcript → Type 0
RanFrom s t script rows = IsSame s t × ((o : Design) → s.view.origin ≡ Some o → Ran o s.view.first s.view.number script s.view t.view rows)

-- each of them did, in order
abbrev pub EachRan : List Seated → List Seated → List Script → List Transcript → Type 0
EachRan [] [] [] [] = ⊤
EachRan (s ∷ begun) (t ∷ back) (script ∷ scripts) (rows ∷ ts) = RanFrom s t script rows × EachRan begun back scripts ts
EachRan begun back scripts ts = ⊥

legal_kept : (o : Design) (J L : List Entry) (first session : ℕ) (script : Script) (t : Transcript) → IsPrefix J L
    → Legal o J first session script t → Legal o L first session script t
legal_kept o J L first session script t p h =
    subst (λ l. Legal o l first session script t) p.1 (legal_longer J p.0 o first session script t h)

ecos_added : (session : ℕ) (ecos : List Eco) → map eco_of (map (entry_by session) ecos) ≡ ecos
ecos_added session [] = refl
ecos_added session (eco ∷ ecos) = ap (λ l. eco ∷ l) (ecos_added session ecos)

module _ (b : Standing Versioned) (J : List Entry) where
  abbrev origin : Design
  origin = b.opening.origin

  abbrev first : ℕ
  first = b.opening.first

  -- a session that ended is legal over the whole journal, and its entries there are its own
  one_legal : (n : ℕ) (s t : Seated) (c : Script) (rows : Transcript) → IsNew n s → IsSeatOf meant b s → RanFrom s t c rows
      → AgreesWith session_of J t → Legal origin J first n c rows × (ecos_of n J ≡ accepted_ecos c.commands rows.rows)
  one_legal n s t c rows new at back agrees =
      let ran0 : Ran origin s.view.first s.view.number c s.view t.view rows = back.1 origin at.2 in
      let ran1 : Ran origin first s.view.number c s.view t.view rows = subst (λ f. Ran origin f s.view.number c s.view t.view rows) at.1 ran0 in
      let ran : Ran origin first n c s.view t.view rows = subst (λ k. Ran origin first k c s.view t.view rows) new.0 ran1 in
      let numbered : t.view.number ≡ n = back.0.1 ∙ new.0 in
      let mine : t.view.mine ≡ added_entries n c.commands rows.rows = ran.mine ∙ ap (λ l. l ++ added_entries n c.commands rows.rows) new.2 in
      let own_are : own session_of n J ≡ added_entries n c.commands rows.rows = ap (λ k. own session_of k J) (sym numbered) ∙ sym agrees.1 ∙ mine in (
        legal_kept origin t.view.seen J first n c rows agrees.0 ran.legal,
        ap (map eco_of) own_are ∙ ecos_added n (accepted_ecos c.commands rows.rows),
      )

  all_legal : (n : ℕ) (begun back : List Seated) (scripts : List Script) (ts : List Transcript) → AreNew b n begun
      → EachRan begun back scripts ts → All (AgreesWith session_of J) back → AreLegal origin J first n scripts ts
  all_legal n [] [] [] [] new ran agree = tt
  all_legal n (s ∷ begun) (t ∷ back) (c ∷ scripts) (rows ∷ ts) new ran agree =
      let one = one_legal n s t c rows new.0 new.1 ran.0 (All-head (AgreesWith session_of J) t back agree) in
      let rest = all_legal (n + 1) begun back scripts ts new.2 ran.1 (All-tail (AgreesWith session_of J) t back agree) in
      (one.0, one.1, rest)
  all_legal n [] [] [] (rows ∷ ts) new ran agree = absurd ran
  all_legal n [] [] (c ∷ scripts) ts new ran agree = absurd ran
  all_legal n [] (t ∷ back) scripts ts new ran agree = absurd ran
  all_legal n (s ∷ begun) [] scripts ts new ran agree = absurd ran
  all_legal n (s ∷ begun) (t ∷ back) [] ts new ran agree = absurd ran
  all_legal n (s ∷ begun) (t ∷ back) (c ∷ scripts) [] new ran agree = absurd ran

  -- the numbers of sessions that ended
  abbrev IsAmong : ℕ → ℕ → Seated → Type 0
  IsAmong low high t = (low ≤ number t) × (number t < high)

  wider : (low high n : ℕ) (back : List Seated) → low ≤ n → All (IsAmong n high) back → All (IsAmong low high) back
  wider low high n back le h k d lt = let a = h k d lt in (omega (arith, le, a.0), a.1)

  numbers_in : (n : ℕ) (begun back : List Seated) (scripts : List Script) (ts : List Transcript) → AreNew b n begun
      → EachRan begun back scripts ts → All (IsAmong n (n + length scripts)) back
  numbers_in n [] [] [] [] new ran = All-nil (IsAmong n (n + 0))
  numbers_in n (s ∷ begun) (t ∷ back) (c ∷ scripts) (rows ∷ ts) new ran =
      let numbered : number t ≡ n = ran.0.0.1 ∙ new.0.0 in
      let high : (n + 1) + length scripts ≡ n + length (c ∷ scripts) = omega arith in
      let rest = subst (λ k. All (IsAmong (n + 1) k) back) high (numbers_in (n + 1) begun back scripts ts new.2 ran.1) in
      All-cons (IsAmong n (n + length (c ∷ scripts))) t back ((omega (arith, numbered)), (omega (arith, numbered)))
      (wider n (n + length (c ∷ scripts)) (n + 1) back (omega arith) rest)
  numbers_in n [] [] [] (rows ∷ ts) new ran = absurd ran
  numbers_in n [] [] (c ∷ scripts) ts new ran = absurd ran
  numbers_in n [] (t ∷ back) scripts ts new ran = absurd ran
  numbers_in n (s ∷ begun) [] scripts ts new ran = absurd ran
  numbers_in n (s ∷ begun) (t ∷ back) [] ts new ran = absurd ran
  numbers_in n (s ∷ begun) (t ∷ back) (c ∷ scripts) [] new ran = absurd ran

  -- a session's number is one of the run
  named : (begun back : List Seated) (scripts : List Script) (ts : List Transcript) → AreNew b 1 begun → EachRan begun back scripts ts
      → All (λ e. Contains (map number back) (session_of e)) J
      → (entry : Entry) → Contains J entry → (1 ≤ entry.session) × (entry.session ≤ length scripts)
  named begun back scripts ts new ran whose entry among =
      let here : Contains (map number back) entry.session = All-contains (λ e. Contains (map number back) (session_of e)) J entry whose among in
      let in_seats : All (λ k. (1 ≤ k) × (k < 1 + length scripts)) (map number back) =
      All-map (λ k. (1 ≤ k) × (k < 1 + length scripts)) number back (numbers_in 1 begun back scripts ts new ran) in
      let within = All-contains (λ k. (1 ≤ k) × (k < 1 + length scripts)) (map number back) entry.session in_seats here in
      (within.0, omega (arith, within.1))

-- the closed journal and all transcripts are the whole run
pub whole_run : (b : Standing Versioned) (begun back : List Seated) (scripts : List Script) (ts : List Transcript) (last : Versioned)
    → AreNew b 1 begun → EachRan begun back scripts ts → IsVersion last → last.origin ≡ b.opening.origin
    → All (AgreesWith session_of last.journal) back → All (λ (e : Entry). Contains (map number back) e.session) last.journal
    → IsWhole b.opening.origin b.opening.first scripts last.journal ts
whole_run b begun back scripts ts last new ran is from agree whose = (
  all_legal b last.journal 1 begun back scripts ts new ran agree,
  named b last.journal begun back scripts ts new ran whose,
  (last.stored.design, subst (λ d. DesignAfter d last.journal (length last.journal) last.stored.design) from is.accepted),
)
