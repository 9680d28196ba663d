-- Versions that an accepted ECO makes.

use Rattle.std.proofs.Common.{◌≡◌, ℕ, ◌+◌, ◌^◌, ◌<◌, ◌≤◌, List, [], ◌∷◌, ◌++◌, length, Bool, true, refl, sym, ap, subst, arith, ◌∙◌}
use Rattle.timing_defs.specs.declared.design.Design.{Design}
use Rattle.timing_defs.specs.declared.edits.Eco.{Eco}
use Rattle.timing_defs.specs.declared.edits.Entry.{Entry}
use Rattle.timing_defs.specs.Documents.{is_eco}
use Rattle.timing_rules.specs.Checks.{Accepts}
use Rattle.timing_rules.specs.Sessions.{DesignAfter}
use Rattle.timing_rules.specs.Cones.{IsCounted}
use Rattle.netlist_store.specs.Numbering.{Stored}
use Rattle.affected_cone.specs.Analysed.{Analysed, IsAnalysis}
use Rattle.eco_analysis.specs.Soundness.{IsFaultless}
use Rattle.session_engine.specs.Versions.{Versioned, IsVersion, version_of, entry_of, IsNext}
use Rattle.eco_analysis.proofs.SoundLaws.{sound_faultless}
use Rattle.session_engine.proofs.JournalLaws.{length_end, all_end, after_entry}

-- the version without entries
pub first_version : (first : ℕ) (stored : Stored) (analysed : Analysed) → first ≤ 2 ^ 62 → analysed.stored ≡ stored → IsAnalysis analysed
    → (number : ℕ) (origin : Stored) (journal : List Entry) → number ≡ first → origin ≡ stored → journal ≡ []
    → IsVersion (version_of number origin.design journal stored analysed)
first_version first stored analysed low same analysis number origin journal here there none =
    record {
      first = subst (λ n. n ≤ 2 ^ 62) (sym here) low;
      number = refl;
      many = rw none (omega arith);
      origin = subst (λ (s : Stored). IsFaultless s.design) (same ∙ sym there) (sound_faultless analysed.stored.design analysis.sound analysis.fine);
      accepted = subst (λ (es : List Entry). DesignAfter origin.design es (length es) stored.design) (sym none) (ap (λ (s : Stored). s.design) (sym there));
      ecos = rw none refl;
      analysed = same;
      analysis = analysis;
    }

-- the version with one entry more
module _ (v : Versioned) (is : IsVersion v) (who : ℕ) (eco : Eco) (is_kept : is_eco eco ≡ true) where
  pub next_version : (stored : Stored) (analysed : Analysed) → Accepts v.stored.design eco stored.design → analysed.stored ≡ stored → IsAnalysis analysed
      → length v.journal < 2 ^ 62 → (number : ℕ) (origin : Stored) (journal : List Entry)
      → number ≡ v.first → origin.design ≡ v.origin → journal ≡ v.journal ++ entry_of who eco ∷ []
      → IsVersion (version_of number origin.design journal stored analysed)
  next_version stored analysed accepts same analysis few number origin journal here there grown =
      record {
        first = subst (λ n. n ≤ 2 ^ 62) (sym here) is.first;
        number = refl;
        many = subst (λ n. n ≤ 2 ^ 62) (sym (ap (λ (es : List Entry). length es) grown ∙ length_end v.journal (entry_of who eco))) (omega arith);
        origin = subst IsFaultless (sym there) is.origin;
        accepted =
            subst (λ (d : Design). DesignAfter d journal (length journal) stored.design) (sym there)
            (subst (λ (es : List Entry). DesignAfter v.origin es (length es) stored.design) (sym grown)
            (after_entry v.origin v.journal (entry_of who eco) v.stored.design stored.design is.accepted accepts));
        ecos = rw grown (all_end (λ (entry : Entry). is_eco entry.eco) v.journal (entry_of who eco) is.ecos is_kept);
        analysed = same;
        analysis = analysis;
      }

  next_number : (number : ℕ) (journal : List Entry) → number ≡ v.first → journal ≡ v.journal ++ entry_of who eco ∷ [] → number + length journal ≡ v.number + 1
  next_number number journal here grown =
      let e : length journal ≡ length v.journal + 1 = ap (λ (es : List Entry). length es) grown ∙ length_end v.journal (entry_of who eco) ∙ omega arith in
      omega (arith, e, here, is.number)

  pub is_next : (stored : Stored) (analysed : Analysed) → Accepts v.stored.design eco stored.design
      → (number : ℕ) (origin : Stored) (journal : List Entry)
      → number ≡ v.first → origin.design ≡ v.origin → journal ≡ v.journal ++ entry_of who eco ∷ []
      → (next : Versioned) → next ≡ version_of number origin.design journal stored analysed → IsNext v who eco next
  is_next stored analysed accepts number origin journal here there grown next same =
      subst (IsNext v who eco) (sym same)
      (record {
        first = here;
        number = next_number number journal here grown;
        origin = there;
        journal = grown;
        accepts = accepts;
      })

-- what the trial of an ECO counts, whether the version after it is made or memory is wanting
pub counted_next : (s base : Stored) (eco : Eco) (told : Bool) (rise : ℕ) → s ≡ base → IsCounted s.design eco true rise → IsCounted base.design eco told rise
counted_next s base eco told rise same is =
    subst (λ (t : Stored). IsCounted t.design eco told rise) same ((λ d2 accepts here. is.0 d2 accepts refl), is.1, is.2)
