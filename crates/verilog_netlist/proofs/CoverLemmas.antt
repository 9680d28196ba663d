-- Stretches that rise by their lower ends: which of them a number can stand in.
use Rattle.std.proofs.Common.{◌≡◌, ℕ, zero, suc, ◌+◌, ◌<◌, ◌≤◌, List, [], ◌∷◌, ◌++◌, Bool, true, false, ◌||◌, length, take, get_or, refl, sym, ap, ◌∙◌, arith, inl, inr, ◌-◌, add-one, length-append}
use Rattle.std.specs.Prelude.{nat_lt, nat_le, max}
use Rattle.std.specs.List.{list_any}
use Rattle.std.specs.List.Sorted.{IsPartitionPoint}
use Rattle.std.proofs.lemmas.List.{take_more, get_or_append_left, get_or_push}
use Rattle.std.proofs.lemmas.Bool.Decides.{nat_tests}
use Rattle.std.proofs.lemmas.Bool.{cases_lt, false≢true, lt-ltb}
use Rattle.verilog_netlist.specs.declared.covers.Stretch.{Stretch}
use Rattle.verilog_netlist.specs.Late.{holds}
use Rattle.verilog_netlist.specs.Covers.{reach, IsCover}

le_max : (k a b : ℕ) → nat_le k (max a b) ≡ (nat_le k a || nat_le k b)
le_max k a b = grind (arith, nat_tests)

max_zero : (a : ℕ) → max a 0 ≡ a
max_zero a = omega arith

max_swap : (a b : ℕ) → max a (max b 0) ≡ max a b
max_swap a b = ap (max a) (max_zero b)

-- the greatest upper end of some stretches and one more
reach_more : (xs : List Stretch) (x : Stretch) → reach (xs ++ x ∷ []) ≡ max (reach xs) x.high
reach_more [] x = omega arith
reach_more (y ∷ ys) x = let rest = reach_more ys x in omega arith

-- what a pass over the first stretches has found
pub record IsReaching (items : List Stretch) (n last : ℕ) (ends : List ℕ) : Type 0 where
  pub count : length ends ≡ n
  pub here : last ≡ reach (take n items)
  pub reaches : (i : ℕ) → i < n → get_or ends i 0 ≡ reach (take (i + 1) items)

pub no_reach : (items : List Stretch) (ends : List ℕ) → ends ≡ [] → IsReaching items 0 0 ends
no_reach items ends e = record { count = ap length e; here = refl; reaches = λ i low. absurd (omega arith) }

-- one stretch more
pub more_reach : (items : List Stretch) (n last : ℕ) (x : Stretch) (ends : List ℕ) → n < length items → take (n + 1) items ≡ take n items ++ x ∷ []
    → IsReaching items n last ends → IsReaching items (n + 1) (max last x.high) (ends ++ max last x.high ∷ [])
more_reach items n last x ends low grown had = record {
  count = length-append ends (max last x.high ∷ []) ∙ ap (λ k. k + 1) had.count;
  here = last_end;
  reaches = λ i less. elim (cases_lt i n) [
    | inl before ↦ get_or_append_left ends (max last x.high ∷ []) 0 i (omega (arith, had.count)) ∙ had.reaches i before
    | inr at ↦
        let e : i ≡ length ends = omega (arith, had.count) in
        let f : i ≡ n = omega (arith, had.count) in
        get_or_push ends (max last x.high) 0 i (sym e) ∙ last_end ∙ ap (λ k. reach (take (k + 1) items)) (sym f)
  ];
}
  where
    last_end : max last x.high ≡ reach (take (n + 1) items)
    last_end = ap (λ e. max e x.high) had.here ∙ sym (reach_more (take n items) x) ∙ ap reach (sym grown)

-- the same as the loop has it
pub more_reach_at : (items : List Stretch) (n last last' : ℕ) (d : Stretch) (ends ends' : List ℕ) → n < length items
    → last' ≡ max last (get_or items n d).high → ends' ≡ ends ++ last' ∷ [] → IsReaching items n last ends → IsReaching items (n + 1) last' ends'
more_reach_at items n last last' d ends ends' low e f had = rw (f, e) (more_reach items n last (get_or items n d) ends low (take_more items n d low) had)

-- a number that is not below the lower ends stands in a stretch where it is not above all upper ends
any_below : (k : ℕ) (x : Stretch) (xs : List Stretch) → ((i : ℕ) (d : Stretch) → i < length (x ∷ xs) → nat_le (get_or (x ∷ xs) i d).low k ≡ true)
    → list_any (holds k) (x ∷ xs) ≡ nat_le k (reach (x ∷ xs))
any_below k x [] h = rw (h 0 x (omega arith), max_zero x.high) (or_false (nat_le k x.high))
  where
    or_false : (b : Bool) → (b || false) ≡ b
    or_false true = refl
    or_false false = refl
any_below k x (y ∷ ys) h =
    let first : nat_le x.low k ≡ true = h 0 x (omega arith) in
    let rest : list_any (holds k) (y ∷ ys) ≡ nat_le k (reach (y ∷ ys)) = any_below k y ys (λ i d less. h (suc i) d (omega arith)) in
    let here : holds k x ≡ nat_le k x.high = rw first refl in
    ap (λ b. b || list_any (holds k) (y ∷ ys)) here ∙ (ap (λ b. nat_le k x.high || b) rest ∙ sym (le_max k x.high (reach (y ∷ ys))))

none_above : (k : ℕ) (xs : List Stretch) → ((i : ℕ) (d : Stretch) → i < length xs → nat_le (get_or xs i d).low k ≡ false) → list_any (holds k) xs ≡ false
none_above k [] h = refl
none_above k (x ∷ xs) h =
    let first : nat_le x.low k ≡ false = h 0 x (omega arith) in
    rw first (none_above k xs (λ i d less. h (suc i) d (omega arith)))

-- the first `n` stretches are those that the number is not below
Parted : ℕ → List Stretch → ℕ → Type 0
Parted k xs n = IsPartitionPoint (λ (s : Stretch). nat_le s.low k ≡ true) (λ (s : Stretch). nat_le s.low k ≡ false) xs n

pub outside : (k n : ℕ) (xs : List Stretch) → IsPartitionPoint (λ (s : Stretch). nat_le s.low k ≡ true) (λ (s : Stretch). nat_le s.low k ≡ false) xs n → nat_lt 0 n ≡ false → nat_lt 0 n ≡ list_any (holds k) xs
outside k zero xs point h = sym (none_above k xs (λ i d less. point.1 i d (omega arith) less))
outside k (suc n) xs point h = absurd (false≢true (sym h ∙ lt-ltb 0 (suc n) (omega arith)))

split : (k n : ℕ) (x : Stretch) (xs : List Stretch) → n ≤ length xs
    → ((i : ℕ) (d : Stretch) → i < suc n → nat_le (get_or (x ∷ xs) i d).low k ≡ true)
    → ((i : ℕ) (d : Stretch) → suc n ≤ i → i < length (x ∷ xs) → nat_le (get_or (x ∷ xs) i d).low k ≡ false)
    → list_any (holds k) (x ∷ xs) ≡ nat_le k (reach (x ∷ take n xs))
split k zero x xs low before after =
    let first : nat_le x.low k ≡ true = before 0 x (omega arith) in
    let rest : list_any (holds k) xs ≡ false = none_above k xs (λ i d less. after (suc i) d (omega arith) (omega arith)) in
    rw (first, rest, max_zero x.high) (or_false (nat_le k x.high))
  where
    or_false : (b : Bool) → (b || false) ≡ b
    or_false true = refl
    or_false false = refl
split k (suc n) x [] low before after = absurd (omega arith)
split k (suc n) x (y ∷ ys) low before after =
    let first : nat_le x.low k ≡ true = before 0 x (omega arith) in
    let here : holds k x ≡ nat_le k x.high = rw first refl in
    let rest = split k n y ys (omega arith) (λ i d less. before (suc i) d (omega arith)) (λ i d least less. after (suc i) d (omega arith) (omega arith)) in
    ap (λ b. b || list_any (holds k) (y ∷ ys)) here ∙ (ap (λ b. nat_le k x.high || b) rest ∙ sym (le_max k x.high (reach (y ∷ take n ys))))

first_part : (k n : ℕ) (xs : List Stretch) → suc n ≤ length xs → IsPartitionPoint (λ (s : Stretch). nat_le s.low k ≡ true) (λ (s : Stretch). nat_le s.low k ≡ false) xs (suc n)
    → list_any (holds k) xs ≡ nat_le k (reach (take (suc n) xs))
first_part k n [] low point = absurd (omega arith)
first_part k n (x ∷ xs) low point = split k n x xs (omega arith) (λ i d less. point.0 i d (omega arith) less) (λ i d least less. point.1 i d least less)

pub inside : (k n : ℕ) (xs : List Stretch) (ends : List ℕ) → n ≤ length xs → IsCover xs ends
    → IsPartitionPoint (λ (s : Stretch). nat_le s.low k ≡ true) (λ (s : Stretch). nat_le s.low k ≡ false) xs n → nat_lt 0 n ≡ true
    → nat_le k (get_or ends (n - 1) 0) ≡ list_any (holds k) xs
inside k zero xs ends low cover point h = absurd (false≢true h)
inside k (suc n) xs ends low cover point h =
    let e : suc n - 1 ≡ n = omega arith in
    ap (λ m. nat_le k (get_or ends m 0)) e ∙ (ap (nat_le k) (cover.reaches n (omega arith)) ∙ (ap (λ m. nat_le k (reach (take m xs))) (add-one n) ∙ sym (first_part k n xs low point)))
