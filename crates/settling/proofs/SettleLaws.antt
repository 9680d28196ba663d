-- Steps of the work on values, one after the other.

use Rattle.std.proofs.Common.{◌≡◌, ℕ, ◌+◌, ◌<◌, ◌==◌, Bool, true, false, not, ◌&&◌, ◌||◌, ◌⊎◌, ◌≢◌, List, [], ◌∷◌, ◌++◌, length, get_or, take, refl, ap, sym, subst, ◌∙◌, inl, inr, arith}
use Rattle.std.specs.Prelude.{nat_eq, All, slice_index, slice_set}
use Rattle.std.specs.List.{list_any}
use Rattle.std.proofs.lemmas.Bool.{cases_Bool, cases_eq, eq-eqb, ne_eqb, eqb-true, and_parts, false≢true}
use Rattle.std.proofs.lemmas.List.{get_or-set_same, get_or-set_other, length-set}
use Rattle.std.proofs.lemmas.List.Folds.{list_any_more, list_any_at, list_any-append}
use Rattle.std.proofs.lemmas.List.Elements.{All-set, All-append, All-nil, All-cons}
use Rattle.level_cone.specs.Waiting.{waits, IsIdle, IsTurn}
use Rattle.settling.specs.Settled.{is_among, AreLow, IsRule, IsSettled, IsResettled}
use Rattle.settling.specs.Steps.{Waits, AreAdded, IsNoted, IsStep, IsState, IsDone, IsGoneOn}

-- a test that does not fail
or_either : (a b : Bool) → (a || b) ≡ true → (a ≡ true) ⊎ (b ≡ true)
or_either true b h = inl refl
or_either false b h = inr h

or_first : (a b : Bool) → a ≡ true → (a || b) ≡ true
or_first true b h = refl
or_first false b h = absurd (false≢true h)

or_second : (a b : Bool) → b ≡ true → (a || b) ≡ true
or_second true b h = refl
or_second false b h = h

or_none : (a b : Bool) → (a || b) ≡ false → (a ≡ false) × (b ≡ false)
or_none true b h = absurd (false≢true (sym h))
or_none false b h = (refl, h)

-- the one number of a list
among_one : (x a : ℕ) → is_among (x ∷ []) a ≡ true → a ≡ x
among_one x a h = elim (or_either (nat_eq a x) false h) [
  | inl same ↦ eqb-true a x same
  | inr none ↦ absurd (false≢true none)
]

module _ (numbers : List ℕ) (i d : ℕ) (low : i < length numbers) where
  -- one number more
  among_more : (a : ℕ) → is_among (take (i + 1) numbers) a ≡ true → (is_among (take i numbers) a ≡ true) ⊎ (a ≡ get_or numbers i d)
  among_more a h = elim (or_either (is_among (take i numbers) a) (nat_eq a (get_or numbers i d)) (sym (list_any_more (nat_eq a) numbers i d low) ∙ h)) [
    | inl before ↦ inl before
    | inr here ↦ inr (eqb-true a (get_or numbers i d) here)
  ]

-- the test of a number, turned round
turned_test : (numbers : List ℕ) (a : ℕ) → is_among numbers a ≡ list_any (λ x. x == a) numbers
turned_test [] a = refl
turned_test (x ∷ numbers) a = elim (cases_eq a x) [
  | inl same ↦ rw (eq-eqb a x same, eq-eqb x a (sym same)) refl
  | inr other ↦ rw (ne_eqb a x other, ne_eqb x a (λ e. other (sym e))) (turned_test numbers a)
]

-- what still waits did so before a turn
left : (queue queue' numbers : List ℕ) (key : ℕ) → IsTurn queue queue' key numbers → (a : ℕ) → Waits queue' a → Waits queue a
left queue queue' numbers key turn a w = (w.0, (and_parts (not (w.0 == key)) (waits queue w.0 a) (sym (turn.rest w.0 a) ∙ w.1)).1)

pub added_none : (n : ℕ) (queue : List ℕ) → AreAdded n [] queue queue
added_none n queue = record {
  kept = λ a w. w;
  all = λ a low h. absurd (false≢true h);
  within = λ a w. inl w;
}

module _ (n : ℕ) (numbers : List ℕ) (i d : ℕ) (low : i < length numbers) (here : get_or numbers i d < n) where
  pub added_more : (old queue new : List ℕ) (key : ℕ) → AreAdded n (take i numbers) old queue
      → ((l m : ℕ) → waits new l m ≡ (waits queue l m || ((key == l) && (get_or numbers i d == m))))
      → AreAdded n (take (i + 1) numbers) old new
  added_more old queue new key before told =
      let more : (a : ℕ) → Waits queue a → Waits new a = λ a w. (w.0, told w.0 a ∙ or_first (waits queue w.0 a) _ w.1) in
      record {
        kept = λ a w. more a (before.kept a w);
        all = λ a under h.
            elim (among_more numbers i d low a h) [
              | inl first ↦ more a (before.all a under first)
              | inr same ↦ (key, told key a ∙ or_second (waits queue key a) _ (rw (eq-eqb key key refl, eq-eqb (get_or numbers i d) a (sym same)) refl))
            ];
        within = λ a w.
            elim (or_either (waits queue w.0 a) ((key == w.0) && (get_or numbers i d == a)) (sym (told w.0 a) ∙ w.1)) [
              | inl was ↦ before.within a (w.0, was)
              | inr same ↦
                  let is : get_or numbers i d ≡ a = eqb-true (get_or numbers i d) a (and_parts (key == w.0) (get_or numbers i d == a) same).1 in
                  inr (subst (λ (x : ℕ). x < n) is here)
            ];
      }

pub noted_none : (n : ℕ) (t changed : List ℕ) → IsNoted n t changed t changed
noted_none n t changed = record { kept = λ a h. (h, refl); within = λ h. h }

pub noted_more : (n : ℕ) (t changed t' changed' t'' changed'' : List ℕ) → IsNoted n t changed t' changed' → IsNoted n t' changed' t'' changed''
    → IsNoted n t changed t'' changed''
noted_more n t changed t' changed' t'' changed'' first second = record {
  kept = λ a h.
      let later = second.kept a h in
      let before = first.kept a later.0 in
      (before.0, later.1 ∙ before.1);
  within = λ h. second.within (first.within h);
}

module _ (n : ℕ) (value : List ℕ → ℕ → ℕ) where
  pub step_none : (t queue changed : List ℕ) → length t ≡ n → AreLow t → IsStep n value [] t queue changed t queue changed
  step_none t queue changed count low = record {
    count = count;
    low = low;
    each = λ a under h. elim h [ inl is ↦ inl is | inr none ↦ absurd (false≢true none) ];
    waiting = λ a w. w;
    within = λ a w. inl w;
    noted = noted_none n t changed;
  }

  -- a number that is right
  pub step_still : (t queue changed : List ℕ) (x : ℕ) → length t ≡ n → AreLow t → slice_index t x ≡ value t x → IsStep n value (x ∷ []) t queue changed t queue changed
  step_still t queue changed x count low is = record {
    count = count;
    low = low;
    each = λ a under h. elim h [
      | inl right ↦ inl right
      | inr one ↦ inl (subst (λ (y : ℕ). slice_index t y ≡ value t y) (sym (among_one x a one)) is)
    ];
    waiting = λ a w. w;
    within = λ a w. inl w;
    noted = noted_none n t changed;
  }

  module _ (behind : ℕ → List ℕ) (rule : IsRule n value behind) where
    -- a number whose value is written
    pub step_put : (t queue changed t' queue' changed' : List ℕ) (x v : ℕ) → length t ≡ n → AreLow t → x < n → v < 4294967295 → v ≡ value t x
        → t' ≡ slice_set t x v → changed' ≡ changed ++ x ∷ [] → AreAdded n (behind x) queue queue'
        → IsStep n value (x ∷ []) t queue changed t' queue' changed'
    step_put t queue changed t' queue' changed' x v count low under fits found put noted added =
        let within : x < length t = omega arith in
        let same : (a : ℕ) → a < n → is_among (behind x) a ≡ false → value t' a ≡ value t a =
        λ a below none. ap (λ (s : List ℕ). value s a) put ∙ rule.local t x v a count below none in
        let here : slice_index t' x ≡ v = ap (λ (s : List ℕ). slice_index s x) put ∙ get_or-set_same t x v 0 within in
        let there : (a : ℕ) → a ≢ x → slice_index t' a ≡ slice_index t a = λ a other. ap (λ (s : List ℕ). slice_index s a) put ∙ get_or-set_other t x a v 0 other in
        record {
          count = ap length put ∙ length-set t x v ∙ count;
          low = subst AreLow (sym put) (All-set (λ (y : ℕ). y < 4294967295) t x v fits low);
          each = λ a below h.
              elim (cases_Bool (is_among (behind x) a)) [
                | inl is ↦ inr (added.all a below is)
                | inr none ↦
                    elim (cases_eq a x) [
                      | inl self ↦ inl (ap (slice_index t') self ∙ here ∙ found ∙ sym (ap (value t) self) ∙ sym (same a below none))
                      | inr other ↦ elim h [
                        | inl right ↦ inl (there a other ∙ right ∙ sym (same a below none))
                        | inr one ↦ absurd (other (among_one x a one))
                      ]
                    ]
              ];
          waiting = added.kept;
          within = added.within;
          noted = record {
            kept = λ a h.
                let parts = or_none (is_among changed a) (is_among (x ∷ []) a) (sym (list_any-append (nat_eq a) changed (x ∷ [])) ∙ subst (λ (xs : List ℕ). is_among xs a ≡ false) noted h) in
                (parts.0, there a (λ e. false≢true (sym parts.1 ∙ or_first (nat_eq a x) false (eq-eqb a x e))));
            within = λ h. subst (All (λ a. a < n)) (sym noted) (All-append (λ a. a < n) changed (x ∷ []) h (All-cons (λ a. a < n) x [] under (All-nil (λ a. a < n))));
          };
        }

  -- one number more
  pub step_more : (numbers : List ℕ) (i d : ℕ) → i < length numbers
      → (t queue changed t' queue' changed' t'' queue'' changed'' : List ℕ)
      → IsStep n value (take i numbers) t queue changed t' queue' changed'
      → IsStep n value (get_or numbers i d ∷ []) t' queue' changed' t'' queue'' changed''
      → IsStep n value (take (i + 1) numbers) t queue changed t'' queue'' changed''
  step_more numbers i d low t queue changed t' queue' changed' t'' queue'' changed'' first second =
      let later : (a : ℕ) → a < n → (slice_index t' a ≡ value t' a) ⊎ Waits queue' a → (slice_index t'' a ≡ value t'' a) ⊎ Waits queue'' a =
      λ a under h. elim h [
        | inl right ↦ second.each a under (inl right)
        | inr w ↦ inr (second.waiting a w)
      ] in
      record {
        count = second.count;
        low = second.low;
        each = λ a under h.
            elim h [
              | inl right ↦ later a under (first.each a under (inl right))
              | inr one ↦ elim (among_more numbers i d low a one) [
                | inl before ↦ later a under (first.each a under (inr before))
                | inr same ↦ second.each a under (inr (or_first (nat_eq a (get_or numbers i d)) false (eq-eqb a (get_or numbers i d) same)))
              ]
            ];
        waiting = λ a w. second.waiting a (first.waiting a w);
        within = λ a w. elim (second.within a w) [
          | inl was ↦ first.within a was
          | inr under ↦ inr under
        ];
        noted = noted_more n t changed t' changed' t'' changed'' first.noted second.noted;
      }

  -- at first those wait that may be wrong
  pub state_first : (t wrong queue queue' : List ℕ) → IsSettled n value t (is_among wrong) → IsIdle queue → AreAdded n wrong queue queue' → IsState n value t queue'
  state_first t wrong queue queue' settled idle added = record {
    count = settled.count;
    low = settled.low;
    each = λ a under. elim (cases_Bool (is_among wrong a)) [
      | inl told ↦ inr (added.all a under told)
      | inr none ↦ inl (settled.each a under none)
    ];
    within = λ a w. elim (added.within a w) [
      | inl was ↦ absurd (false≢true (sym (idle was.0 a) ∙ was.1))
      | inr under ↦ under
    ];
  }

  -- where none waits, all are right
  pub turned_idle : (t queue changed : List ℕ) → IsState n value t queue → IsIdle queue → IsDone n value t changed t changed
  turned_idle t queue changed state idle = record {
    settled = record {
      count = state.count;
      low = state.low;
      each = λ a under h. elim (state.each a under) [
        | inl right ↦ right
        | inr w ↦ absurd (false≢true (sym (idle w.0 a) ∙ w.1))
      ];
    };
    noted = noted_none n t changed;
  }

  -- what waits is taken out for a turn, or still waits
  taken : (queue queue' numbers : List ℕ) (key : ℕ) → IsTurn queue queue' key numbers → (a : ℕ) → Waits queue a → (is_among numbers a ≡ true) ⊎ Waits queue' a
  taken queue queue' numbers key turn a w = elim (cases_eq w.0 key) [
    | inl same ↦
        let told : list_any (λ x. x == a) numbers ≡ true = turn.each a ∙ ap (λ (k : ℕ). waits queue k a) (sym same) ∙ w.1 in
        inl (turned_test numbers a ∙ told)
    | inr other ↦ inr (w.0, turn.rest w.0 a ∙ rw (ne_eqb w.0 key other) w.1)
  ]

  -- a turn
  pub turn_taken : (t queue changed queue' t' queue'' changed' numbers : List ℕ) (key : ℕ) → IsState n value t queue → IsTurn queue queue' key numbers
      → IsStep n value numbers t queue' changed t' queue'' changed' → IsGoneOn n value t changed t' queue'' changed'
  turn_taken t queue changed queue' t' queue'' changed' numbers key state turn step = record {
    state = record {
      count = step.count;
      low = step.low;
      each = λ a under. elim (state.each a under) [
        | inl right ↦ step.each a under (inl right)
        | inr w ↦ elim (taken queue queue' numbers key turn a w) [
          | inl one ↦ step.each a under (inr one)
          | inr still ↦ inr (step.waiting a still)
        ]
      ];
      within = λ a w. elim (step.within a w) [
        | inl was ↦ state.within a (left queue queue' numbers key turn a was)
        | inr under ↦ under
      ];
    };
    noted = step.noted;
  }

  -- those that are taken out are below the count
  pub turn_low : (t queue queue' numbers : List ℕ) (key : ℕ) → IsState n value t queue → IsTurn queue queue' key numbers → All (λ a. a < n) numbers
  turn_low t queue queue' numbers key state turn k d low =
      state.within (get_or numbers k d) (key, sym (turn.each (get_or numbers k d)) ∙ list_any_at (λ x. x == get_or numbers k d) numbers k d low (eq-eqb (get_or numbers k d) (get_or numbers k d) refl))

  pub gone_none : (t queue changed : List ℕ) → IsState n value t queue → IsGoneOn n value t changed t queue changed
  gone_none t queue changed state = record { state = state; noted = noted_none n t changed }

  pub gone_more : (t changed t' queue' changed' t'' queue'' changed'' : List ℕ) → IsGoneOn n value t changed t' queue' changed'
      → IsGoneOn n value t' changed' t'' queue'' changed'' → IsGoneOn n value t changed t'' queue'' changed''
  gone_more t changed t' queue' changed' t'' queue'' changed'' first second =
      record { state = second.state; noted = noted_more n t changed t' changed' t'' changed'' first.noted second.noted }

  pub done_more : (t changed t' queue' changed' t'' changed'' : List ℕ) → IsGoneOn n value t changed t' queue' changed'
      → IsDone n value t' changed' t'' changed'' → IsDone n value t changed t'' changed''
  done_more t changed t' queue' changed' t'' changed'' first second =
      record { settled = second.settled; noted = noted_more n t changed t' changed' t'' changed'' first.noted second.noted }

  -- from no notes
  pub resettled : (t t' changed : List ℕ) → IsDone n value t [] t' changed → IsResettled n value t t' changed
  resettled t t' changed done = record {
    settled = done.settled;
    kept = λ a h. (done.noted.kept a h).1;
    within = done.noted.within (All-nil (λ a. a < n));
  }
