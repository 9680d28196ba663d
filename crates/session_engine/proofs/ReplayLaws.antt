-- Versions after the first entries of a saved journal, and why an entry is refused there.

use Rattle.std.proofs.Common.{◌≡◌, ℕ, suc, ◌+◌, ◌<◌, ◌≤◌, List, take, drop, length, refl, sym, subst, arith}
use Rattle.std.specs.Prelude.{IsSomeAnd, get_or, Result, Ok, Err, IfErr, IsErrAnd}
use Rattle.std.proofs.lemmas.List.{take-append-drop, length-take-le}
use Rattle.std.proofs.lemmas.Option.{slice_get_read}
use Rattle.timing_defs.specs.declared.design.Design.{Design}
use Rattle.timing_defs.specs.declared.edits.Entry.{Entry}
use Rattle.timing_defs.specs.declared.faults.Fault.{Fault}
use Rattle.timing_rules.specs.Checks.{Faulty, Refuses}
use Rattle.timing_rules.specs.Sessions.{DesignAfter, IsRefusedEntry}
use Rattle.timing_rules.proofs.LongerJournals.{after_longer}
use Rattle.session_engine.specs.declared.replaying.ReplayFault.{ReplayFault}
use Rattle.session_engine.specs.declared.replaying.ReplayFault.TheVariants.{First, Refused, Memory as no_memory}
use Rattle.session_engine.specs.Versions.{Versioned, IsVersion}
use Rattle.session_engine.specs.Replaying.{IsReplayFault, IsStepFault}

-- a version whose journal is the first entries has the design after them
pub after_first : (origin : Design) (saved : List Entry) (n : ℕ) (v : Versioned) → IsVersion v → v.origin ≡ origin → v.journal ≡ take n saved
    → n ≤ length saved → DesignAfter origin saved n v.stored.design
after_first origin saved n v is there first low =
    let here : DesignAfter origin (take n saved) (length (take n saved)) v.stored.design =
    subst (λ es. DesignAfter origin es (length es) v.stored.design) first (subst (λ d. DesignAfter d v.journal (length v.journal) v.stored.design) there is.accepted) in
    subst (λ es. DesignAfter origin es n v.stored.design) (take-append-drop n saved)
    (after_longer (take n saved) (drop n saved) origin n v.stored.design
    (subst (λ k. DesignAfter origin (take n saved) k v.stored.design) (length-take-le n saved low) here))

-- an entry that is refused over the version of those before it is the first that is refused
pub refused_step : (origin : Design) (saved : List Entry) (n : ℕ) (entry : Entry) (v : Versioned) → IsVersion v → v.origin ≡ origin → v.journal ≡ take n saved
    → n < length saved → entry ≡ get_or saved n entry → (place : ℕ) → place ≡ n + 1
    → (x : ReplayFault) → IsStepFault v.stored.design place entry.eco x → IsReplayFault origin saved x
refused_step origin saved n entry v is there first low at place here no_memory h = tt
refused_step origin saved n entry v is there first low at place here (First y) h = absurd h
refused_step origin saved n entry v is there first low at place here (Refused k y) h =
    let e : k ≡ suc n = omega (arith, h.0, here) in
    subst (λ k. IsRefusedEntry origin saved k y) (sym e) (
      subst (λ d. (z : Fault) → Faulty d z → ⊥) there is.origin,
      (
        v.stored.design,
        after_first origin saved n v is there first (omega (arith, low)),
        subst (λ o. IsSomeAnd o (λ e. Refuses v.stored.design e.eco y)) (sym (slice_get_read saved (length saved) n entry refl low at)) h.1,
      ),
    )

-- what an error meets, it meets where it is handed on
pub handed_on : {T E : Type 0} (r : Result T E) (e : E) (P : E → Type 0) → IsErrAnd r (λ y. y ≡ e) → P e → IfErr r P
handed_on (Ok x) e P is h = absurd is
handed_on (Err y) e P is h = subst P (sym is) h
