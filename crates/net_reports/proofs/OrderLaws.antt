-- Names that rise, each once, tell all of what they are the names of.

use Rattle.std.proofs.Common.{◌≡◌, ℕ, suc, ◌<◌, ◌≤◌, false, List, [], ◌∷◌, map, length, get_or, sym, ap, ◌∙◌, inl, inr, arith, rules}
use Rattle.std.specs.Prelude.{◌≢◌, Contains}
use Rattle.std.specs.List.{IsDistinct}
use Rattle.std.specs.List.Sorted.{IsSorted}
use Rattle.std.specs.Cmp.{IsTotalOrder}
use Rattle.std.specs.Cmp.Lexicographic.{slice_cmp}
use Rattle.std.specs.Cmp.Rules.{comparing}
use Rattle.std.specs.Ordering.{is_lt, nat_cmp}
use Rattle.std.specs.Str.{bytes_eq}
use Rattle.std.proofs.lemmas.Bool.{true≢false}
use Rattle.std.proofs.lemmas.List.{length-map, get_or-map, get_or_default}
use Rattle.std.proofs.lemmas.List.Elements.{All-contains, All-from_recursion}
use Rattle.std.proofs.lemmas.List.Sorted.{ranks_by, sorted_far}
use Rattle.std.proofs.lemmas.Map.Keys.{IsDistinct-head, IsDistinct-tail}
use denote.Ref.{Bor}
use Rattle.timing_defs.specs.declared.closing.SinkReport.{SinkReport}
use Rattle.timing_defs.specs.Firsts.{AreAll}
use Rattle.timing_defs.specs.NetChecks.{is_before}
use Rattle.timing_rules.specs.Connections.{sink_before}
use Rattle.timing_defs.proofs.Members.{none_in, in_cases, first_in, later_in}
use Rattle.timing_defs.proofs.SameNames.{same_self}

total : IsTotalOrder (slice_cmp nat_cmp)
total = search (comparing, rules)

abbrev pub AreRising : List (List ℕ) → Type 0
AreRising names = (i j : ℕ) → i ≤ j → j < length names → is_before (get_or names j []) (get_or names i []) ≡ false

abbrev pub word : Bor (List ℕ) → List ℕ
word name = name.now

-- what a sort of names gives
pub sorted_rise : (names : List (Bor (List ℕ))) → IsSorted (λ a b. slice_cmp nat_cmp a.now b.now) names → AreRising (map (λ name. name.now) names)
sorted_rise [] sorted i j low below = absurd (let n = below in omega arith)
sorted_rise (x ∷ xs) sorted i j low below =
    let long = length-map (x ∷ xs) word in
    let within : j < length (x ∷ xs) = omega (arith, below, long) in
    ap (λ n. is_before n (get_or (map word (x ∷ xs)) i [])) (get_or-map word (x ∷ xs) j x [] within)
    ∙ ap (is_before (get_or (x ∷ xs) j x).now) (get_or-map word (x ∷ xs) i x [] (omega arith))
    ∙ sorted_far (λ a b. is_lt (slice_cmp nat_cmp a.now b.now)) (ranks_by total word) (x ∷ xs) sorted i j x low within

-- none of the later names is the first
not_first : (n : List ℕ) (ns : List (List ℕ)) → IsDistinct bytes_eq (n ∷ ns) → (m : List ℕ) → Contains ns m → n ≡ m → ⊥
not_first n ns once m c e =
    let other = All-contains (λ y. bytes_eq n y ≡ false) ns m (All-from_recursion (λ y. bytes_eq n y ≡ false) ns (IsDistinct-head bytes_eq n ns once)) c in
    true≢false (sym (same_self n) ∙ ap (bytes_eq n) e ∙ other)

-- each name is that of one report of a claim, and each report has a name
pub record AreNamed (f : List ℕ → SinkReport) (Is : SinkReport → Type 0) (names : List (List ℕ)) : Type 0 where
  pub sound : (n : List ℕ) → Contains names n → Is (f n)
  pub pin : (n : List ℕ) → Contains names n → (f n).pin ≡ n
  pub whole : (y : SinkReport) → Is y → (n : List ℕ) × Contains names n × (y ≡ f n)

pub all_named : (f : List ℕ → SinkReport) (Is : SinkReport → Type 0) (names : List (List ℕ)) → AreNamed f Is names → AreRising names → IsDistinct bytes_eq names
    → AreAll sink_before Is (map f names)
all_named f Is [] named rises once = λ y is. none_in (named.whole y is).0 (named.whole y is).1
all_named f Is (n ∷ ns) named rises once = (
  named.sound n (first_in n ns),
  λ y is. lowest y (named.whole y is),
  all_named f (λ y. Is y × (y ≢ f n)) ns rest (λ i j low below. rises (suc i) (suc j) (omega arith) (omega arith)) (IsDistinct-tail bytes_eq n ns once),
)
  where
    lowest : (y : SinkReport) → ((m : List ℕ) × Contains (n ∷ ns) m × (y ≡ f m)) → sink_before y (f n) ≡ false
    lowest y (m, c, e) =
        let below = c.1 in
        ap (λ (z : SinkReport). is_before z.pin (f n).pin) e
        ∙ ap (λ w. is_before w (f n).pin) (named.pin m c) ∙ ap (is_before m) (named.pin n (first_in n ns))
        ∙ ap (λ w. is_before w n) (sym (at c.0 c.1 c.2))
        ∙ rises 0 c.0 (omega arith) c.1
      where
        at : (k : ℕ) → k < length (n ∷ ns) → get_or (n ∷ ns) k m ≡ m → get_or (n ∷ ns) k [] ≡ m
        at k low e = get_or_default (n ∷ ns) k [] m low ∙ e

    left : (y : SinkReport) → (y ≢ f n) → ((m : List ℕ) × Contains (n ∷ ns) m × (y ≡ f m)) → (m : List ℕ) × Contains ns m × (y ≡ f m)
    left y other (m, c, e) = elim (in_cases n ns m c) [
      | inl same ↦ absurd (other (e ∙ ap f (sym same)))
      | inr d ↦ (m, d, e)
    ]

    rest : AreNamed f (λ y. Is y × (y ≢ f n)) ns
    rest =
        record {
          sound = λ m c. (
            named.sound m (later_in n ns m c),
            λ e. not_first n ns once m c
                (sym (named.pin n (first_in n ns)) ∙ sym (ap (λ (z : SinkReport). z.pin) e) ∙ named.pin m (later_in n ns m c)),
          );
          pin = λ m c. named.pin m (later_in n ns m c);
          whole = λ y is. left y is.1 (named.whole y is.0);
        }
