-- Sessions that ended behind saved entries answer their run.
use Rattle.std.proofs.Common.{◌≡◌, ℕ, zero, suc, ◌+◌, ◌≤◌, ◌<◌, ◌^◌, List, length, Bool, true, false, Option, Some, None, inl, inr, refl, ap, ◌∙◌, subst, arith}
use Rattle.std.specs.Prelude.{IsSomeAnd, slice_get, nat_le}
use Rattle.std.specs.List.{All}
use Rattle.std.proofs.lemmas.Bool.{and_parts}
use Rattle.std.proofs.lemmas.Bool.Decides.{nat_tests}
use Rattle.std.proofs.lemmas.Option.{slice_get_within}
use Rattle.timing_defs.specs.declared.design.Design.{Design}
use Rattle.timing_defs.specs.declared.constraints.Constraints.{Constraints}
use Rattle.timing_defs.specs.declared.constraints.Derates.{Derates}
use Rattle.timing_defs.specs.declared.edits.Entry.{Entry}
use Rattle.timing_defs.specs.declared.faults.Fault.{Fault}
use Rattle.timing_defs.specs.declared.scripts.Script.{Script}
use Rattle.timing_defs.specs.declared.scripts.Transcript.{Transcript}
use Rattle.timing_defs.specs.Documents.{are_constraints, are_derates}
use Rattle.timing_rules.specs.Checks.{Accepts, Refuses}
use Rattle.timing_rules.specs.Reports.{AreTotals}
use Rattle.timing_rules.specs.Sessions.{DesignAfter, IsInitial, IsRefusedEntry, IsWhole}
use Rattle.timing_defs.specs.Saved.{saved_output_text}
use Rattle.timing_rules.proofs.LongerJournals.{design_once, not_both}
use Rattle.netlist_store.proofs.Untouched.{framed_by_eco}
use Rattle.eco_journal.specs.Blocks.{Block, AreFactors}
use Rattle.eco_journal.proofs.BlockBack.{block_back}
use Rattle.eco_analysis.specs.Soundness.{IsFaultless}
use Rattle.session_engine.specs.Versions.{Versioned, IsVersion}
use Rattle.session_engine.specs.declared.replaying.ReplayFault.{ReplayFault}
use Rattle.session_engine.specs.declared.replaying.ReplayFault.TheVariants.{First, Refused, Memory as no_memory}
use Rattle.session_engine.specs.Replaying.{IsReplayFault}
use Rattle.shell_core.specs.Scripts.{IsScript}
use Rattle.shell_session.specs.Serving.{IsContinued, AreSavedEnded, IsReplayLine, SavedEnds}
use Rattle.shell_session.proofs.BackLaws.{lawful_entries}

at_some : (o : Option Entry) (P : Entry → Type 0) (R : Type 0) → IsSomeAnd o P → ((e : Entry) → P e → R) → R
at_some None P R p f = absurd p
at_some (Some e) P R p f = f e p

both_some : (o : Option Entry) (P Q : Entry → Type 0) (R : Type 0) → IsSomeAnd o P → IsSomeAnd o Q → ((e : Entry) → P e → Q e → R) → R
both_some None P Q R p q f = absurd p
both_some (Some e) P Q R p q f = f e p q

-- accepted ECOs leave the constraints as they are
constraints_kept : (o : Design) (J : List Entry) (n : ℕ) (d : Design) → DesignAfter o J n d → d.constraints ≡ o.constraints
constraints_kept o J zero d after = ap (λ (x : Design). x.constraints) after
constraints_kept o J (suc n) d after =
    at_some (slice_get J n) (λ entry. Accepts after.0 entry.eco d) (d.constraints ≡ o.constraints) after.2
    (λ entry accepts. (framed_by_eco after.0 entry.eco d accepts.0).constraints ∙ constraints_kept o J n after.0 after.1)

at_most : (n most : ℕ) → nat_le n most ≡ true → n ≤ most
at_most n most h = grind (arith, nat_tests, h)

-- the factors of constraints are at most ten
factors : (c : Constraints) → are_constraints c ≡ true → AreFactors c.derates
factors c are =
    let f : Derates = c.derates in
    let all : are_derates f ≡ true = (and_parts _ (are_derates f) are).1 in
    let late_net = and_parts _ (nat_le f.late_net 10000000) all in
    let early_net = and_parts _ (nat_le f.early_net 10000000) late_net.0 in
    let cells = and_parts (nat_le f.early_cell 10000000) (nat_le f.late_cell 10000000) early_net.0 in
    (at_most f.early_cell 10000000 cells.0, at_most f.late_cell 10000000 cells.1, at_most f.early_net 10000000 early_net.1, at_most f.late_net 10000000 late_net.1)

fits : (first last many : ℕ) → last ≡ first → last ≤ 2 ^ 62 → many ≤ 2 ^ 62 → first + many < 2 ^ 64
fits first last many same low few = omega (arith, same, low, few)

-- the parts of a block, by the constraints
abbrev parts_of : ℕ → List Entry → Constraints → Option Block
parts_of first entries c = Some (record { first = first; derates = c.derates; entries = entries })

-- the answer of sessions that left a version behind saved entries
pub continued : (initial : Design) (first : ℕ) (scripts : List Script) (last : Versioned) (ts : List Transcript) (status : ℕ) (text : List ℕ)
    → All IsScript scripts → length scripts ≤ 16 → IsWhole initial first scripts last.journal ts → IsVersion last
    → last.first ≡ first → last.origin ≡ initial → AreSavedEnded last ts status text → IsContinued initial first scripts status text
continued initial first scripts last ts status text kept few whole is begun from ended =
    let d : Design = last.stored.design in
    let J : List Entry = last.journal in
    let after : DesignAfter initial J (length J) d = subst (λ o. DesignAfter o J (length J) d) from is.accepted in
    let same : d.constraints ≡ initial.constraints = constraints_kept initial J (length J) d after in
    let written = ended.written in (
      J,
      ts,
      (
        d,
        written.0,
        after,
        subst (λ n. AreTotals d n written.0) (is.number ∙ ap (λ n. n + length J) begun) written.1,
        written.2 ∙ ap (λ n. saved_output_text n d.constraints.derates J ts d.constraints.clocks written.0) begun,
      ),
      whole,
      ended.counted,
      block_back first d.constraints.derates J (fits first last.first (length J) begun is.first is.many) (factors d.constraints ended.constraints)
          (lawful_entries initial J first scripts ts whole.0 kept few whole.1)
          ∙ ap (parts_of first J) same,
    )

module _ (linked : Design) (saved : List Entry) (scripts : List Script) (status : ℕ) (text : List ℕ) where
  -- how a run ends that went on behind its saved entries
  pub saved_continued : (initial : Design) (first : ℕ) → IsFaultless linked → IsInitial linked saved initial → first ≡ length saved
      → IsContinued initial first scripts status text → SavedEnds linked saved scripts status text
  saved_continued initial first sound is same answer =
      inr (inr (sound, (initial, is, subst (λ n. IsContinued initial n scripts status text) same answer)))

  -- and one that did not
  pub saved_stopped : (fault : ReplayFault) → IsReplayFault linked saved fault → status ≡ 3 → IsReplayLine fault text → SavedEnds linked saved scripts status text
  saved_stopped (First x) why is line = inl (is, (x, why, line))
  saved_stopped (Refused entry x) why is line = inr (inl (is, (entry, x, why, line)))
  saved_stopped no_memory why is line = absurd line

-- a design after more entries stands behind one after less
earlier : (o : Design) (J : List Entry) (n m : ℕ) (d : Design) → n ≤ m → DesignAfter o J m d → (b : Design) × DesignAfter o J n b
earlier o J zero m d low after = (o, refl)
earlier o J (suc n) zero d low after = absurd (omega (arith, low))
earlier o J (suc n) (suc m) d low after = by (nat_le (suc n) m) refl (λ less. earlier o J (suc n) m after.0 less after.1)
  where
    by : (b : Bool) → nat_le (suc n) m ≡ b → (suc n ≤ m → (e : Design) × DesignAfter o J (suc n) e) → (e : Design) × DesignAfter o J (suc n) e
    by true less rest = rest (at_most (suc n) m less)
    by false more rest = let same : suc m ≡ suc n = grind (arith, nat_tests, low, more) in subst (λ k. (e : Design) × DesignAfter o J k e) same (d, after)

is_within : (J : List Entry) (n : ℕ) (P : Entry → Type 0) → IsSomeAnd (slice_get J n) P → n < length J
is_within J n P some = by (slice_get J n) refl some
  where
    by : (o : Option Entry) → slice_get J n ≡ o → IsSomeAnd o P → n < length J
    by None is here = absurd here
    by (Some e) is here = slice_get_within J n e is

-- where each saved entry is accepted none is refused
pub accepted_all : (linked : Design) (saved : List Entry) (initial : Design) (entry : ℕ) (x : Fault) → IsInitial linked saved initial
    → IsRefusedEntry linked saved entry x → ⊥
accepted_all linked saved initial zero x is refused = absurd refused
accepted_all linked saved initial (suc n) x is refused =
    let before : Design = refused.1.0 in
    let within : n < length saved = is_within saved n (λ entry. Refuses before entry.eco x) refused.1.2 in
    let next = earlier linked saved (suc n) (length saved) initial within is in
    let same : next.1.0 ≡ before = design_once linked saved n next.1.0 before next.1.1 refused.1.1 in
    both_some (slice_get saved n) (λ entry. Accepts next.1.0 entry.eco next.0) (λ entry. Refuses before entry.eco x) ⊥ next.1.2 refused.1.2
    (λ entry accepts refuses. not_both before entry.eco next.0 (subst (λ d. Accepts d entry.eco next.0) same accepts) x refuses)
