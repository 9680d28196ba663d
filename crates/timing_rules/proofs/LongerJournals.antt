-- What holds over a journal holds over each longer one, and what an accepted ECO makes is one design.
use Rattle.std.proofs.Common.{◌≡◌, ℕ, zero, suc, ◌+◌, ◌-◌, ◌≤◌, Bool, true, false, List, [], ◌∷◌, ◌++◌, map, filter, length, Option, Some, None, sym, ap, subst, ◌∙◌, inl, inr, arith, length-append}
use Rattle.std.specs.Prelude.{slice_get, IsSomeAnd, nat_eq, Result, Ok, Err}
use Rattle.std.proofs.lemmas.List.{map-append}
use Rattle.std.proofs.lemmas.List.Elements.{filter-append}
use Rattle.timing_defs.specs.declared.design.Design.{Design}
use Rattle.timing_defs.specs.declared.edits.Eco.{Eco}
use Rattle.timing_defs.specs.declared.edits.Entry.{Entry}
use Rattle.timing_defs.specs.declared.faults.Fault.{Fault}
use Rattle.timing_defs.specs.declared.scripts.Command.{Command}
use Rattle.timing_defs.specs.declared.scripts.Command.TheVariants.{Take, Await, Ask, Change}
use Rattle.timing_defs.specs.declared.scripts.Script.{Script}
use Rattle.timing_defs.specs.declared.scripts.Row.{Row}
use Rattle.timing_defs.specs.declared.scripts.Transcript.{Transcript}
use Rattle.timing_defs.specs.Edits.{edited}
use Rattle.timing_rules.specs.Checks.{Faulty, Accepts, Refuses}
use Rattle.timing_rules.specs.Sessions.{DesignAfter, Sort, taken, reached, not_yet, accepted, refused, asked, Mark, Suits, OrderedFrom, AreTrue, Legal, mark_of, ecos_of}

-- an entry that stands stays
pub entry_longer : (J more : List Entry) (k : ℕ) (P : Entry → Type 0) → IsSomeAnd (slice_get J k) P → IsSomeAnd (slice_get (J ++ more) k) P
entry_longer [] more k P h = absurd h
entry_longer (x ∷ J) more zero P h = h
entry_longer (x ∷ J) more (suc k) P h = entry_longer J more k P h

-- an entry behind others stands at the length of those
pub entry_behind : (J more : List Entry) (e : Entry) (P : Entry → Type 0) → P e → IsSomeAnd (slice_get (J ++ e ∷ more) (length J)) P
entry_behind [] more e P h = h
entry_behind (x ∷ J) more e P h = entry_behind J more e P h

module _ (J more : List Entry) where
  pub after_longer : (origin : Design) (n : ℕ) (d : Design) → DesignAfter origin J n d → DesignAfter origin (J ++ more) n d
  after_longer origin zero d h = h
  after_longer origin (suc n) d h = (h.0, after_longer origin n h.0 h.1, entry_longer J more n _ h.2)

  pub suits_longer : (first session : ℕ) (begun : Bool) (before : ℕ) (command : Command) (number : ℕ) (sort : Sort)
      → Suits J first session begun before command number sort → Suits (J ++ more) first session begun before command number sort
  suits_longer first session begun before Take number taken h = h
  suits_longer first session begun before (Await awaited looks) number reached h = h
  suits_longer first session begun before (Await awaited looks) number (not_yet numbers) h = h
  suits_longer first session begun before (Change eco) number accepted h = (h.0, entry_longer J more (number - first - 1) _ h.1)
  suits_longer first session begun before (Change eco) number refused h = h
  suits_longer first session begun before (Ask q) number asked h = h
  suits_longer first session begun before command number sort h = absurd h

  within : (first n : ℕ) → n ≤ first + length J → n ≤ first + length (J ++ more)
  within first n h = omega (arith, h, length-append J more)

  pub ordered_longer : (first session : ℕ) (begun : Bool) (place before : ℕ) (commands : List Command) (marks : List Mark)
      → OrderedFrom J first session begun place before commands marks → OrderedFrom (J ++ more) first session begun place before commands marks
  ordered_longer first session begun place before commands [] h = tt
  ordered_longer first session begun place before [] (m ∷ marks) h = absurd h
  ordered_longer first session begun place before (c ∷ commands) (m ∷ marks) h = (
    h.0,
    h.1,
    within first m.number h.2,
    suits_longer first session begun before c m.number m.sort h.3,
    ordered_longer first session true (place + 1) m.number commands marks h.4,
  )

  pub true_longer : (origin : Design) (first : ℕ) (commands : List Command) (rows : List Row) → AreTrue origin J first commands rows → AreTrue origin (J ++ more) first commands rows
  true_longer origin first [] [] h = tt
  true_longer origin first [] (row ∷ rows) h = absurd h
  true_longer origin first (c ∷ commands) [] h = absurd h
  true_longer origin first (c ∷ commands) (row ∷ rows) h = (
    (h.0.0, (h.0.1.0, after_longer origin (row.number - first) h.0.1.0 h.0.1.1, h.0.1.2)),
    true_longer origin first commands rows h.1,
  )

  -- what is legal over a journal stays legal over a longer one
  pub legal_longer : (origin : Design) (first session : ℕ) (script : Script) (t : Transcript) → Legal origin J first session script t → Legal origin (J ++ more) first session script t
  legal_longer origin first session script t h = (
    ordered_longer first session false 1 first script.commands (map mark_of t.rows) h.0,
    true_longer origin first script.commands t.rows h.1,
  )

  -- the ECOs of a session are those of the one part and those of the other
  pub ecos_longer : (session : ℕ) → ecos_of session (J ++ more) ≡ ecos_of session J ++ ecos_of session more
  ecos_longer session =
      ap (map (λ (e : Entry). e.eco)) (filter-append (λ (e : Entry). nat_eq e.session session) J more)
      ∙ map-append (λ (e : Entry). e.eco) (filter (λ (e : Entry). nat_eq e.session session) J) (filter (λ (e : Entry). nat_eq e.session session) more)

-- an ECO makes one design, and what is accepted is not refused
ok_is : {X Y : Type 0} (r : Result X Y) (a b : X) → r ≡ Ok a → r ≡ Ok b → a ≡ b
ok_is r a b p q = let e : Ok a ≡ Ok b = sym p ∙ q in cc

ok_err : {X Y : Type 0} (r : Result X Y) (a : X) (x : Y) → r ≡ Ok a → r ≡ Err x → ⊥
ok_err r a x p q = let e : Ok a ≡ Err x = sym p ∙ q in cc

pub accepted_once : (d : Design) (eco : Eco) (a b : Design) → Accepts d eco a → Accepts d eco b → a ≡ b
accepted_once d eco a b p q = ok_is (edited d eco) a b p.0 q.0

pub not_both : (d : Design) (eco : Eco) (a : Design) → Accepts d eco a → (x : Fault) → Refuses d eco x → ⊥
not_both d eco a p x (inl e) = ok_err (edited d eco) a x p.0 e
not_both d eco a p x (inr r) = p.1 x (subst (λ b. Faulty b x) (ok_is (edited d eco) r.0 a r.1 p.0) r.2)

both_at : (o : Option Entry) (P Q : Entry → Type 0) (R : Type 0) → IsSomeAnd o P → IsSomeAnd o Q → ((e : Entry) → P e → Q e → R) → R
both_at None P Q R p q f = absurd p
both_at (Some e) P Q R p q f = f e p q

-- the design at a number is one
pub design_once : (origin : Design) (J : List Entry) (n : ℕ) (a b : Design) → DesignAfter origin J n a → DesignAfter origin J n b → a ≡ b
design_once origin J zero a b p q = p ∙ sym q
design_once origin J (suc n) a b p q =
    let same : q.0 ≡ p.0 = design_once origin J n q.0 p.0 q.1 p.1 in
    both_at (slice_get J n) (λ entry. Accepts p.0 entry.eco a) (λ entry. Accepts q.0 entry.eco b) (a ≡ b) p.2 q.2
    (λ entry x y. accepted_once p.0 entry.eco a b x (subst (λ d. Accepts d entry.eco b) same y))
