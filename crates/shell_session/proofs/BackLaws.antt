-- The journal of sessions that answered their scripts is read back from its bytes.
use Rattle.std.proofs.Common.{◌≡◌, ◌≢◌, ℕ, ◌≤◌, ◌<◌, ◌+◌, ◌^◌, Bool, true, false, cond, List, [], ◌∷◌, map, filter, length, Option, Some, None, Ok, refl, sym, subst, arith}
use Rattle.std.specs.Prelude.{nat_eq, get_or}
use Rattle.std.specs.List.{All, Contains, cons_option}
use Rattle.std.proofs.lemmas.Bool.{eq-eqb}
use Rattle.std.proofs.lemmas.List.Elements.{All-nil, All-cons, All-head, All-tail, Contains-get_or}
use native.Mathlib.Decide.{ℕ_discrete}
use mathlib.Core.Logic.{dite}
use Rattle.timing_defs.specs.declared.edits.Eco.{Eco}
use Rattle.timing_defs.specs.declared.edits.Entry.{Entry}
use Rattle.timing_defs.specs.declared.scripts.Command.{Command}
use Rattle.timing_defs.specs.declared.scripts.Command.TheVariants.{Change}
use Rattle.timing_defs.specs.declared.scripts.Answer.{Answer}
use Rattle.timing_defs.specs.declared.scripts.Answer.TheVariants.{Accepted}
use Rattle.timing_defs.specs.declared.scripts.Row.{Row}
use Rattle.timing_defs.specs.declared.scripts.Script.{Script}
use Rattle.timing_defs.specs.declared.scripts.Transcript.{Transcript}
use Rattle.timing_defs.specs.declared.design.Design.{Design}
use Rattle.timing_defs.specs.Output.{journal_text}
use Rattle.timing_rules.specs.Sessions.{ecos_of, accepted_eco, accepted_ecos, AreLegal}
use Rattle.eco_journal.specs.Written.{IsEco, AreEntries}
use Rattle.eco_journal.specs.Journal.{entries_of}
use Rattle.eco_journal.proofs.JournalBack.{journal_back}
use Rattle.shell_core.specs.Scripts.{CanStand, IsScript}

-- an ECO where there is one
abbrev IfEco : Option Eco → Type 0
IfEco None = Unit {0}
IfEco (Some eco) = IsEco eco

accepted_stands : (c : Command) (a : Answer) → CanStand c → IfEco (accepted_eco c a)
accepted_stands (Change eco) Accepted h = h
accepted_stands c a h = tt

with_option : (o : Option Eco) (ecos : List Eco) → IfEco o → All IsEco ecos → All IsEco (cons_option o ecos)
with_option None ecos h rest = rest
with_option (Some eco) ecos h rest = All-cons IsEco eco ecos h rest

-- the ECOs of accepted rows are those of commands
accepted_stand : (commands : List Command) (rows : List Row) → All CanStand commands → All IsEco (accepted_ecos commands rows)
accepted_stand [] rows h = All-nil IsEco
accepted_stand (c ∷ commands) [] h = All-nil IsEco
accepted_stand (c ∷ commands) (row ∷ rows) h =
    with_option (accepted_eco c row.answer) (accepted_ecos commands rows) (accepted_stands c row.answer (All-head CanStand c commands h))
    (accepted_stand commands rows (All-tail CanStand c commands h))

apart : (s n : ℕ) → n ≤ s → s ≢ n → n + 1 ≤ s
apart s n low not = omega (arith, low, not)

-- the ECOs that the entries of a session have are those of its script
session_stands : (o : Design) (J : List Entry) (first n : ℕ) (scripts : List Script) (ts : List Transcript) → AreLegal o J first n scripts ts
    → All IsScript scripts → (s : ℕ) → n ≤ s → s < n + length scripts → All IsEco (ecos_of s J)
session_stands o J first n [] [] legal kept s low high = absurd (let no : s < n + 0 = high in omega (arith, low, no))
session_stands o J first n [] (t ∷ ts) legal kept s low high = absurd legal
session_stands o J first n (c ∷ scripts) [] legal kept s low high = absurd legal
session_stands o J first n (c ∷ scripts) (t ∷ ts) legal kept s low high = dite (ℕ_discrete s n)
    (λ is.
    let script : IsScript c = All-head IsScript c scripts kept in
    subst (λ k. All IsEco (ecos_of k J)) (sym is)
    (subst (All IsEco) (sym legal.1) (accepted_stand c.commands t.rows script.written)))
    (λ not.
    session_stands o J first (n + 1) scripts ts legal.2 (All-tail IsScript c scripts kept) s (apart s n low not)
    (let far : s < n + length (c ∷ scripts) = high in omega (arith, far)))

-- the ECOs of a session behind an entry
abbrev eco_of : Entry → Eco
eco_of e = e.eco

with_first : (b : Bool) (e : Entry) (entries : List Entry) → All IsEco (map eco_of (cond b (e ∷ entries) entries)) → All IsEco (map eco_of entries)
with_first true e entries h = All-tail IsEco e.eco (map eco_of entries) h
with_first false e entries h = h

same_number : (n : ℕ) → nat_eq n n ≡ true
same_number n = eq-eqb n n refl

-- where the ECOs of each session are such as a journal can hold, those of all entries are
all_stand : (most : ℕ) (J : List Entry) → ((s : ℕ) → 1 ≤ s → s ≤ most → All IsEco (ecos_of s J))
    → All (λ (e : Entry). (1 ≤ e.session) × (e.session ≤ most)) J → All (λ (e : Entry). IsEco e.eco) J
all_stand most [] each named = All-nil (λ (e : Entry). IsEco e.eco)
all_stand most (e ∷ J) each named =
    let own = All-head (λ (x : Entry). (1 ≤ x.session) × (x.session ≤ most)) e J named in
    let first : All IsEco (map eco_of (cond (nat_eq e.session e.session) (e ∷ filter (λ x. nat_eq x.session e.session) J) (filter (λ x. nat_eq x.session e.session) J))) =
    each e.session own.0 own.1 in
    let here : All IsEco (e.eco ∷ map eco_of (filter (λ x. nat_eq x.session e.session) J)) =
    subst (λ b. All IsEco (map eco_of (cond b (e ∷ filter (λ x. nat_eq x.session e.session) J) (filter (λ x. nat_eq x.session e.session) J)))) (same_number e.session) first in
    All-cons (λ (x : Entry). IsEco x.eco) e J (All-head IsEco e.eco (map eco_of (filter (λ x. nat_eq x.session e.session) J)) here)
    (all_stand most J (λ s low high. with_first (nat_eq e.session s) e (filter (λ x. nat_eq x.session s) J) (each s low high))
    (All-tail (λ (x : Entry). (1 ≤ x.session) × (x.session ≤ most)) e J named))

are_entries : (entries : List Entry) → All (λ (e : Entry). (1 ≤ e.session) × (e.session ≤ 16)) entries → All (λ (e : Entry). IsEco e.eco) entries → AreEntries entries
are_entries [] named ecos = tt
are_entries (e ∷ entries) named ecos =
    let session = All-head (λ (x : Entry). (1 ≤ x.session) × (x.session ≤ 16)) e entries named in (
      (session.0, session.1, All-head (λ (x : Entry). IsEco x.eco) e entries ecos),
      are_entries entries (All-tail (λ (x : Entry). (1 ≤ x.session) × (x.session ≤ 16)) e entries named) (All-tail (λ (x : Entry). IsEco x.eco) e entries ecos),
    )

-- what holds of each entry that is there holds of all
each_entry : (P : Entry → Type 0) (J : List Entry) → ((e : Entry) → Contains J e → P e) → All P J
each_entry P J each k d within = each (get_or J k d) (Contains-get_or J k d within)

-- the entries of sessions that answered 1 to 16 scripts can be written
pub lawful_entries : (o : Design) (J : List Entry) (first : ℕ) (scripts : List Script) (ts : List Transcript) → AreLegal o J first 1 scripts ts
    → All IsScript scripts → length scripts ≤ 16 → ((e : Entry) → Contains J e → (1 ≤ e.session) × (e.session ≤ length scripts)) → AreEntries J
lawful_entries o J first scripts ts legal kept few named =
    let ecos : All (λ (e : Entry). IsEco e.eco) J =
    all_stand (length scripts) J (λ s low high. session_stands o J first 1 scripts ts legal kept s low (omega (arith, high)))
    (each_entry (λ e. (1 ≤ e.session) × (e.session ≤ length scripts)) J named) in
    let within : All (λ (e : Entry). (1 ≤ e.session) × (e.session ≤ 16)) J =
    each_entry (λ e. (1 ≤ e.session) × (e.session ≤ 16)) J (λ e among. let n = named e among in (n.0, omega (arith, n.1, few))) in
    are_entries J within ecos

-- and are read back
pub read_back : (o : Design) (J : List Entry) (first : ℕ) (scripts : List Script) (ts : List Transcript) → AreLegal o J first 1 scripts ts
    → All IsScript scripts → length scripts ≤ 16 → ((e : Entry) → Contains J e → (1 ≤ e.session) × (e.session ≤ length scripts))
    → length J ≤ 2 ^ 62 → entries_of (journal_text J) ≡ Ok J
read_back o J first scripts ts legal kept few named many =
    journal_back J (lawful_entries o J first scripts ts legal kept few named) (omega (arith, many))
