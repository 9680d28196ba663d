-- What each answer makes of a draft, and the rows of a list of trials from their front on.
use Rattle.std.proofs.Common.{◌≡◌, ℕ, zero, suc, ◌-◌, ◌<◌, true, false, List, [], ◌∷◌, ◌++◌, length, Some, inl, inr, refl, sym, ap, subst, ◌∙◌, arith, append_assoc, append-nil, true≢false}
use Rattle.std.specs.Prelude.{◌⊎◌, slice_get}
use Rattle.timing_defs.specs.declared.design.Design.{Design}
use Rattle.timing_defs.specs.declared.edits.Eco.{Eco}
use Rattle.timing_defs.specs.declared.faults.Fault.{Fault}
use Rattle.timing_defs.specs.declared.faults.Fault.TheVariants.{Memory as no_room}
use Rattle.timing_defs.specs.declared.faults.QueryFault.{QueryFault}
use Rattle.timing_defs.specs.declared.faults.QueryFault.TheVariants.{Memory as no_answer}
use Rattle.timing_defs.specs.declared.reports.Query.{Query}
use Rattle.timing_defs.specs.declared.reports.Report.{Report}
use Rattle.timing_defs.specs.declared.reports.Trial.{Trial}
use Rattle.timing_defs.specs.declared.reports.Trial.TheVariants.{Try, Drop, Ask}
use Rattle.timing_defs.specs.declared.reports.TrialRow.{TrialRow}
use Rattle.timing_defs.specs.declared.reports.TrialAnswer.TheVariants.{Tried, Refused, Dropped, NoDraft, No, Told as told_answer}
use Rattle.timing_rules.specs.Checks.{Accepts}
use Rattle.timing_defs.specs.Documents.{is_single}
use Rattle.timing_rules.specs.Drafts.{shown_design, AreTrials}
use Rattle.timing_rules.specs.Questions.{Told, query_fault}
use Rattle.timing_defs.proofs.Members.{some_is}
use Rattle.timing_rules.proofs.TrialLaws.{single_told}
use Rattle.eco_analysis.specs.Soundness.{IsRefusal}
use Rattle.eco_analysis.specs.Counting.{tells}
use Rattle.what_if.specs.Layers.{OfLast, Drops, Follows, IsRowOf, AreSoFar}

same_place : (n : ℕ) → suc n - 1 ≡ n
same_place n = omega arith

last_at : (snapshot : Design) (designs : List Design) (n : ℕ) (x : Design) → length designs ≡ suc n → Some x ≡ slice_get designs n → shown_design snapshot designs ≡ x
last_at snapshot [] n x e h = absurd (let no : 0 ≡ suc n = e in omega (arith, no))
last_at snapshot (d ∷ []) zero x e h = some_is (sym h)
last_at snapshot (d ∷ []) (suc n) x e h = absurd (let no : 1 ≡ suc (suc n) = e in omega (arith, no))
last_at snapshot (d ∷ next ∷ ds) zero x e h = absurd (let no : suc (suc (length ds)) ≡ 1 = e in omega (arith, no))
last_at snapshot (d ∷ next ∷ ds) (suc n) x e h =
    last_at d (next ∷ ds) n x (let more : suc (suc (length ds)) ≡ suc (suc n) = e in let less : suc (length ds) ≡ suc n = omega (arith, more) in less) h

-- the last design of a list, or the snapshot's
pub last_shown : (snapshot : Design) (designs : List Design) (x : Design) → Some x ≡ slice_get designs (length designs - 1) → shown_design snapshot designs ≡ x
last_shown snapshot [] x h = absurd (cc)
last_shown snapshot (d ∷ ds) x h = last_at snapshot (d ∷ ds) (length ds) x refl (subst (λ n. Some x ≡ slice_get (d ∷ ds) n) (same_place (length ds)) h)

-- what stands of a design stands of the last one, where it is that
pub of_last : (designs : List Design) (d : Design) (P : Design → Type 0) → OfLast designs (λ last. d ≡ last) → P d → OfLast designs P
of_last [] d P h p = absurd h
of_last (s ∷ ds) d P h p = subst P h p

pub tried_follows : (old new : List Design) (eco : Eco) → OfLast old (λ last. (d : Design) × Accepts last eco d × (new ≡ old ++ d ∷ [])) → Follows old (Try eco) Tried new
tried_follows [] new eco h = absurd h
tried_follows (s ∷ ds) new eco h = (ds ++ h.0 ∷ [], h.2, (h.0, h.1, refl))

-- a fault that tells of a design is no want of memory
pub told_other : (x : Fault) → tells x ≡ true → x ≡ no_room → ⊥
told_other x h e = true≢false (sym h ∙ ap tells e)

pub refused_follows : (old new : List Design) (eco : Eco) (x : Fault) → new ≡ old → (x ≡ no_room → ⊥) → OfLast old (λ last. IsRefusal last eco x) → Follows old (Try eco) (Refused x) new
refused_follows [] new eco x e other h = absurd h
refused_follows (s ∷ ds) new eco x e other (inl wanting) = absurd (other wanting)
refused_follows (s ∷ ds) new eco x e other (inr refused) = (ds, e, (refused, refl))

pub dropped_follows : (old new : List Design) → Drops old true new → Follows old Drop Dropped new
dropped_follows [] [] h = absurd (let no : 0 < 0 = h.2 in omega (arith, no))
dropped_follows [] (t ∷ ts) h = absurd (let e : [] ≡ t ∷ (ts ++ h.0 ∷ []) = h.1 in cc)
dropped_follows (s ∷ ds) [] h = absurd (let no : 0 < 0 = h.2 in omega (arith, no))
dropped_follows (s ∷ ds) (t ∷ ts) h =
    let e : s ∷ ds ≡ t ∷ (ts ++ h.0 ∷ []) = h.1 in
    let front : t ≡ s = cc in
    let rest : ds ≡ ts ++ h.0 ∷ [] = cc in
    (ts, ap (λ (d : Design). d ∷ ts) front, (h.0, rest))

pub none_follows : (old new : List Design) → Drops old false new → Follows old Drop NoDraft new
none_follows [] new h = absurd (let no : 0 ≡ 1 = h.1 in omega (arith, no))
none_follows (s ∷ []) new h = ([], h.0, (refl, refl))
none_follows (s ∷ d ∷ ds) new h = absurd (let no : suc (suc (length ds)) ≡ 1 = h.1 in omega (arith, no))

pub told_follows : (designs : List Design) (q : Query) (r : Report) → is_single q ≡ true → OfLast designs (λ last. Told last q r) → Follows designs (Ask q) (told_answer r) designs
told_follows [] q r single h = absurd h
told_follows (s ∷ ds) q r single h = (ds, refl, (single_told (shown_design s ds) q r single h, refl))

pub no_follows : (designs : List Design) (q : Query) (x : QueryFault) → (x ≡ no_answer → ⊥)
    → OfLast designs (λ last. (x ≡ no_answer) ⊎ (query_fault last q ≡ Some x)) → Follows designs (Ask q) (No x) designs
no_follows [] q x other h = absurd h
no_follows (s ∷ ds) q x other (inl wanting) = absurd (other wanting)
no_follows (s ∷ ds) q x other (inr fault) = (ds, refl, (fault, refl))

-- rows from the front on
module _ (snapshot : Design) (trials : List Trial) where
  pub none_so_far : (rows : List TrialRow) (draft : List Design) → rows ≡ [] → draft ≡ snapshot ∷ [] → AreSoFar snapshot trials trials rows draft
  none_so_far rows draft none same =
      record {
        designs = [];
        held = same;
        told = λ more are. subst (λ (rs : List TrialRow). AreTrials snapshot [] trials (rs ++ more)) (sym none) are;
      }

  pub one_so_far : (trial : Trial) (rest : List Trial) (rows : List TrialRow) (row : TrialRow) (old new : List Design)
      → AreSoFar snapshot trials (trial ∷ rest) rows old → IsRowOf old trial row new → AreSoFar snapshot trials rest (rows ++ row ∷ []) new
  one_so_far trial rest rows row old new so is =
      let follows : Follows (snapshot ∷ so.designs) trial row.answer new = subst (λ (ds : List Design). Follows ds trial row.answer new) so.held is.1 in
      record {
        designs = follows.0;
        held = follows.1;
        told =
            λ more are.
            subst (λ (rs : List TrialRow). AreTrials snapshot [] trials rs) (sym (append_assoc rows (row ∷ []) more))
            (so.told (row ∷ more) (follows.0, is.0, follows.2, are));
      }

  pub all_so_far : (rows : List TrialRow) (draft : List Design) → AreSoFar snapshot trials [] rows draft → AreTrials snapshot [] trials rows
  all_so_far rows draft so = subst (λ (rs : List TrialRow). AreTrials snapshot [] trials rs) (append-nil rows) (so.told [] tt)
