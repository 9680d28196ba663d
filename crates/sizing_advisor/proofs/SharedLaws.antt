-- The best of candidates whose trials are told in their order.

use Rattle.std.proofs.Common.{◌≡◌, ℕ, ◌+◌, ◌-◌, true, List, [], ◌∷◌, ◌++◌, length, Option, None, refl, sym, subst, ◌∙◌, inl, inr, append_assoc, append-nil, arith}
use Rattle.std.specs.Prelude.{◌⊎◌}
use Rattle.timing_defs.specs.declared.kinds.Kind.{Kind}
use Rattle.timing_defs.specs.declared.design.Design.{Design}
use Rattle.timing_defs.specs.declared.reports.Candidate.{Candidate}
use Rattle.timing_rules.specs.Advice.{candidate_eco, better}
use Rattle.timing_rules.specs.Cones.{IsCounted}
use Rattle.level_workers.specs.Mapped.{IsMap}
use Rattle.sizing_advisor.specs.declared.choices.Best.{Best}
use Rattle.sizing_advisor.specs.declared.trials.Tried.{Tried}
use Rattle.sizing_advisor.specs.Trying.{as_number, as_advice, IsTrial, IsBest}
use Rattle.sizing_advisor.proofs.BestLaws.{best_none, best_with}

-- what holds of each trial with its candidate
pub trials_told : {L : Type 0} (d : Design) (kind : Kind) (P : Candidate → Tried L → Type 0) (cs : List Candidate) (trials : List (Tried L))
    → ((c : Candidate) (t : Tried L) → P c t → IsTrial d kind c t) → IsMap P cs trials → IsMap (IsTrial {L = L} d kind) cs trials
trials_told d kind P [] [] f m = tt
trials_told d kind P [] (t ∷ ts) f m = absurd m
trials_told d kind P (c ∷ cs) [] f m = absurd m
trials_told d kind P (c ∷ cs) (t ∷ ts) f m = (f c t m.0, trials_told d kind P cs ts f m.1)

map_long : {L : Type 0} (P : Candidate → Tried L → Type 0) (cs : List Candidate) (trials : List (Tried L)) → IsMap P cs trials → length trials ≡ length cs
map_long P [] [] m = refl
map_long P [] (t ∷ ts) m = absurd m
map_long P (c ∷ cs) [] m = absurd m
map_long P (c ∷ cs) (t ∷ ts) m = omega (arith, map_long P cs ts m.1)

module _ {L : Type 0} (d : Design) (kind : Kind) (cs : List Candidate) where
  -- the best of the first candidates, and those that are left with so many trials
  pub record IsFar (best : Option Best) (old new : ℕ) (left : List Candidate) (trials : List (Tried L)) (count : ℕ) : Type 0 where
    pub done : List Candidate
    pub all : done ++ left ≡ cs
    pub chosen : IsBest d kind done best old new
    pub more : IsMap (IsTrial {L = L} d kind) left trials
    pub long : count ≡ length left

  far_first : (n count : ℕ) (trials : List (Tried L)) → IsMap (IsTrial {L = L} d kind) cs trials → count ≡ length trials → IsFar None n n cs trials count
  far_first n count trials told long = record {
    done = [];
    all = refl;
    chosen = best_none d kind n;
    more = told;
    long = long ∙ map_long (IsTrial {L = L} d kind) cs trials told;
  }

  -- as the loop begins
  pub far_begun : (n : ℕ) (left : List Candidate) (trials told : List (Tried L)) (count : ℕ) → IsMap (IsTrial {L = L} d kind) cs told → left ≡ cs → trials ≡ told
      → count ≡ length told → IsFar None n n left trials count
  far_begun n left trials told count each first same long =
      subst (λ (xs : List Candidate). IsFar None n n xs trials count) (sym first)
      (subst (λ (ts : List (Tried L)). IsFar None n n cs ts count) (sym same) (far_first n count told each long))

  far_more : (best next : Option Best) (old mid new count less : ℕ) (c : Candidate) (left : List Candidate) (t : Tried L) (trials : List (Tried L))
      → IsFar best old mid (c ∷ left) (t ∷ trials) count → less + 1 ≡ count → as_advice next ≡ better (as_advice best) c (as_number t.value) → new ≡ mid + t.steps
      → IsFar next old new left trials less
  far_more best next old mid new count less c left t trials far one up sum = record {
    done = far.done ++ c ∷ [];
    all = append_assoc far.done (c ∷ []) left ∙ far.all;
    chosen =
        best_with d kind far.done best old mid far.chosen c t.value next new far.more.0.0 up (omega (arith, sum))
        (subst (λ (n : ℕ). IsCounted d (candidate_eco c) true n) (omega (arith, sum)) far.more.0.1);
    more = far.more.1;
    long = omega (arith, one, far.long);
  }

  -- as it goes on
  pub far_next : (best next : Option Best) (old mid new count less : ℕ) (c : Candidate) (before left : List Candidate) (t : Tried L) (trials rest : List (Tried L))
      → (before ≡ c ∷ left) × ((trials ≡ t ∷ rest) × (less + 1 ≡ count)) → IsFar best old mid before trials count → as_advice next ≡ better (as_advice best) c (as_number t.value)
      → new ≡ mid + t.steps → IsFar next old new left rest less
  far_next best next old mid new count less c before left t trials rest step far up sum =
      far_more best next old mid new count less c left t rest
      (subst (λ (ts : List (Tried L)). IsFar best old mid (c ∷ left) ts count) step.1.0
      (subst (λ (xs : List Candidate). IsFar best old mid xs trials count) step.0 far))
      step.1.1 up sum

  -- as it ends
  pub far_last : (best : Option Best) (old new : ℕ) (left : List Candidate) (trials : List (Tried L)) (count : ℕ) → IsFar best old new left trials count
      → (length left ≡ 0) ⊎ (count ≡ 0) → IsBest d kind cs best old new
  far_last best old new [] trials count far none = subst (λ (done : List Candidate). IsBest d kind done best old new) (sym (append-nil far.done) ∙ far.all) far.chosen
  far_last best old new (c ∷ left) trials count far (inl none) = absurd (omega (arith, none))
  far_last best old new (c ∷ left) trials count far (inr none) = absurd (omega (arith, none, far.long))
