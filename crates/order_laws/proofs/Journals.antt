-- A journal's entries as steps from the first design, and the entries of one session behind those of another.
use Rattle.std.proofs.Common.{◌≡◌, ℕ, zero, suc, ◌+◌, ◌<◌, ◌≤◌, true, nat_eq, List, [], ◌∷◌, ◌++◌, map, length, take, Result, Ok, Err, IsSomeAnd, slice_get, Contains, refl, sym, ap, ◌∙◌, inl, inr, arith, take_all, le_refl}
use Rattle.std.specs.List.{AllByRecursion}
use Rattle.std.proofs.lemmas.Bool.{cases_Bool}
use Rattle.std.proofs.lemmas.List.{map-append}
use Rattle.timing_defs.specs.declared.design.Design.{Design}
use Rattle.timing_defs.specs.declared.edits.Eco.{Eco}
use Rattle.timing_defs.specs.declared.edits.Entry.{Entry}
use Rattle.timing_defs.specs.declared.faults.Fault.{Fault}
use Rattle.timing_defs.specs.Edits.{edited}
use Rattle.timing_rules.specs.Checks.{Accepts}
use Rattle.timing_rules.specs.Sessions.{DesignAfter, ecos_of}
use Rattle.order_laws.specs.Orders.{folded}
use Rattle.order_laws.proofs.Folds.{Between, by_key, with_key, folded_joined}

abbrev pub session_of : Entry → ℕ
session_of entry = entry.session

abbrev pub eco_of : Entry → Eco
eco_of entry = entry.eco

abbrev pub entry_step : Design → Entry → Result Design Fault
entry_step d entry = edited d entry.eco

-- the entry at a place
record Next (journal : List Entry) (n : ℕ) (P : Entry → Type 0) : Type 0 where
  entry : Entry
  holds : P entry
  longer : take (suc n) journal ≡ take n journal ++ entry ∷ []

next : (journal : List Entry) (n : ℕ) (P : Entry → Type 0) → IsSomeAnd (slice_get journal n) P → Next journal n P
next [] n P h = absurd h
next (e ∷ journal) zero P h = record { entry = e; holds = h; longer = refl }
next (e ∷ journal) (suc n) P h =
    let k = next journal n P h in record { entry = k.entry; holds = k.holds; longer = ap (λ rest. e ∷ rest) k.longer }

after_fold : (d : Design) (journal : List Entry) (n : ℕ) (x : Design) → DesignAfter d journal n x → folded entry_step (Ok d) (take n journal) ≡ Ok x
after_fold d journal zero x h = ap Ok (sym h)
after_fold d journal (suc n) x h =
    let k = next journal n (λ e. Accepts h.0 e.eco x) h.2 in
    ap (folded entry_step (Ok d)) k.longer
    ∙ folded_joined entry_step (Ok d) (take n journal) (k.entry ∷ [])
    ∙ ap (λ r. folded entry_step r (k.entry ∷ [])) (after_fold d journal n h.0 h.1)
    ∙ ap (λ r. folded entry_step r []) k.holds.0

-- the design behind all entries is that of their steps
pub after_all : (d : Design) (journal : List Entry) (last : Design) → DesignAfter d journal (length journal) last → folded entry_step (Ok d) journal ≡ Ok last
after_all d journal last h =
    ap (folded entry_step (Ok d)) (sym (take_all (length journal) journal (le_refl (length journal)))) ∙ after_fold d journal (length journal) last h

-- the steps are the ECOs alone
pub steps_of_ecos : (r : Result Design Fault) (journal : List Entry) → folded entry_step r journal ≡ folded edited r (map eco_of journal)
steps_of_ecos (Err x) journal = refl
steps_of_ecos (Ok d) [] = refl
steps_of_ecos (Ok d) (e ∷ journal) = steps_of_ecos (edited d e.eco) journal

-- the ECOs of so many sessions from one on, session by session
abbrev pub ecos_by_session : ℕ → ℕ → List Entry → List Eco
ecos_by_session session zero journal = []
ecos_by_session session (suc n) journal = ecos_of session journal ++ ecos_by_session (session + 1) n journal

pub ecos_by_key : (session n : ℕ) (journal : List Entry) → map eco_of (by_key session_of session n journal) ≡ ecos_by_session session n journal
ecos_by_key session zero journal = refl
ecos_by_key session (suc n) journal =
    map-append eco_of (with_key session_of session journal) (by_key session_of (session + 1) n journal)
    ∙ ap (λ rest. ecos_of session journal ++ rest) (ecos_by_key (session + 1) n journal)

-- what holds of each element of a list
pub each_of : (P : Entry → Type 0) (journal : List Entry) → ((e : Entry) → Contains journal e → P e) → AllByRecursion P journal
each_of P [] h = tt
each_of P (e ∷ journal) h = (h e (0, omega arith, refl), each_of P journal (λ x c. h x (suc c.0, omega (arith, c.1), c.2)))

-- what holds of the ECOs of each session holds of each entry
module _ (R : ℕ → Eco → Type 0) (low n : ℕ) where
  holds_behind : (s : ℕ) (e : Entry) (journal : List Entry) → AllByRecursion (R s) (ecos_of s (e ∷ journal)) → AllByRecursion (R s) (ecos_of s journal)
  holds_behind s e journal h = elim (cases_Bool (nat_eq e.session s)) [
    | inl t ↦ let k = rw t at h in k.1
    | inr t ↦ rw t at h
  ]

  holds_here : (e : Entry) (journal : List Entry) → AllByRecursion (R e.session) (ecos_of e.session (e ∷ journal)) → R e.session e.eco
  holds_here e journal h =
      let t : nat_eq e.session e.session ≡ true = grind arith in
      let k = rw t at h in k.0

  pub entries_hold : (journal : List Entry) → ((s : ℕ) → low ≤ s → s < low + n → AllByRecursion (R s) (ecos_of s journal))
      → AllByRecursion (Between session_of low n) journal → AllByRecursion (λ e. R e.session e.eco) journal
  entries_hold [] h between = tt
  entries_hold (e ∷ journal) h between = (
    holds_here e journal (h e.session between.0.0 between.0.1),
    entries_hold journal (λ s low high. holds_behind s e journal (h s low high)) between.1,
  )
