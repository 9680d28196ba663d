-- Endpoints that keep their slacks, by rising numbers of those that are searched again.

use Rattle.std.proofs.Common.{◌≡◌, ℕ, zero, suc, ◌+◌, ◌<◌, ◌≤◌, Bool, false, not, List, [], ◌∷◌, ◌-◌, cond, length, get_or, take, drop, Option, Some, None, refl, sym, ap, subst, ◌∙◌, inl, inr, arith}
use Rattle.std.specs.Prelude.{nat_lt, Contains, ◌||◌, if◌then◌else◌, slice_index}
use Rattle.std.specs.List.{position, position_or_len}
use Rattle.std.specs.List.Sorted.{IsStrictlyIncreasing}
use Rattle.std.proofs.lemmas.Bool.{cases_lt, lt-ltb, le-ltb, cases_eq, eq-eqb, ne_eqb}
use Rattle.std.proofs.lemmas.List.{get_or_default, take_all, length-drop}
use Rattle.timing_defs.proofs.Members.{some_is, first_in, later_in}
use Rattle.netlist_store.specs.Numbering.{Stored}
use Rattle.edit_reach.specs.Reach.{is_in}
use Rattle.affected_cone.specs.declared.ends.EndSlacks.{EndSlacks}
use Rattle.affected_cone.specs.Cuts.{from_number, begins_with, cut_end, IsRisingOf}
use Rattle.affected_cone.specs.Renewed.{kept_end, AreKeptEnds}
use Rattle.affected_cone.specs.Rising.{number_at, AreRising}
use Rattle.affected_cone.proofs.RisingLists.{Rises}

later_up : (x : ℕ) (xs : List ℕ) → IsStrictlyIncreasing (x ∷ xs) → IsStrictlyIncreasing xs
later_up x xs up i low =
    let next : suc i + 1 ≡ suc (i + 1) = omega arith in
    subst (λ (k : ℕ). slice_index xs i < slice_index (x ∷ xs) k) next (up (suc i) (omega (arith, low)))

over_all : (x : ℕ) (xs : List ℕ) → IsStrictlyIncreasing (x ∷ xs) → (y : ℕ) → Contains xs y → x < y
over_all x [] up y c = absurd (let low = c.1 in omega (arith, low))
over_all x (z ∷ zs) up y (zero, low, e) = let less : x < z = up 0 (omega arith) in let same : z ≡ y = e in omega (arith, less, same)
over_all x (z ∷ zs) up y (suc k, low, e) =
    let less : x < z = up 0 (omega arith) in
    let more : z < y = over_all z zs (later_up x (z ∷ zs) up) y (k, (omega (arith, low)), e) in
    omega (arith, less, more)

pub rises_of : (xs : List ℕ) → IsStrictlyIncreasing xs → Rises xs
rises_of [] up = tt
rises_of (x ∷ xs) up = (over_all x xs up, rises_of xs (later_up x xs up))

-- the first from a number on, as it is found by its place
no_length : (xs : List ℕ) → length xs ≡ 0 → xs ≡ []
no_length [] e = refl
no_length (x ∷ xs) e = absurd (omega (arith, e))

abbrev passes : ℕ → ℕ → Bool
passes n x = not (nat_lt x n)

cut_len : (n : ℕ) (xs : List ℕ) → drop (position_or_len (passes n) xs) xs ≡ from_number n xs
cut_len n [] = refl
cut_len n (x ∷ xs) = elim (cases_lt x n) [
  | inl low ↦ rw (lt-ltb x n low)
      (let one : 1 + position_or_len (passes n) xs ≡ suc (position_or_len (passes n) xs) = omega arith in ap (λ (k : ℕ). drop k (x ∷ xs)) one ∙ cut_len n xs)
  | inr high ↦ rw (le-ltb x n high) refl
]

pub cut_at : (n : ℕ) (xs : List ℕ) (k : ℕ) → position (λ x. not (nat_lt x n)) xs ≡ Some k → take (length xs - k) (drop k xs) ≡ from_number n xs
cut_at n xs k e = elim (cases_lt (position_or_len (passes n) xs) (length xs)) [
  | inl low ↦
      let at : Some (position_or_len (passes n) xs) ≡ Some k =
      ap (λ (b : Bool). cond b (Some (position_or_len (passes n) xs)) None) (sym (lt-ltb (position_or_len (passes n) xs) (length xs) low)) ∙ e in
      let long = length-drop k xs in
      take_all (length xs - k) (drop k xs) (omega (arith, long)) ∙ ap (λ (j : ℕ). drop j xs) (sym (some_is at)) ∙ cut_len n xs
  | inr high ↦
      let at : None ≡ Some k = ap (λ (b : Bool). cond b (Some (position_or_len (passes n) xs)) None) (sym (le-ltb (position_or_len (passes n) xs) (length xs) high)) ∙ e in
      absurd (cc)
]

pub cut_none : (n : ℕ) (xs : List ℕ) → position (λ x. not (nat_lt x n)) xs ≡ None → [] ≡ from_number n xs
cut_none n xs e = elim (cases_lt (position_or_len (passes n) xs) (length xs)) [
  | inl low ↦
      let at : Some (position_or_len (passes n) xs) ≡ None =
      ap (λ (b : Bool). cond b (Some (position_or_len (passes n) xs)) None) (sym (lt-ltb (position_or_len (passes n) xs) (length xs) low)) ∙ e in
      absurd (cc)
  | inr high ↦
      let long = length-drop (position_or_len (passes n) xs) xs in
      sym (no_length (drop (position_or_len (passes n) xs) xs) (omega (arith, long, high))) ∙ cut_len n xs
]

none_in_cut : (n m : ℕ) (xs : List ℕ) → n ≤ m → is_in (from_number n xs) m ≡ is_in xs m
none_in_cut n m [] over = refl
none_in_cut n m (x ∷ xs) over = elim (cases_lt x n) [
  | inl low ↦
      rw (lt-ltb x n low) (none_in_cut n m xs over ∙ sym (ap (λ (b : Bool). b || is_in xs m) (ne_eqb m x (λ e. omega (arith, e, low, over)))))
  | inr high ↦ rw (le-ltb x n high) refl
]

cut_rises : (n : ℕ) (xs : List ℕ) → Rises xs → Rises (from_number n xs)
cut_rises n [] r = tt
cut_rises n (x ∷ xs) r = elim (cases_lt x n) [
  | inl low ↦ rw (lt-ltb x n low) (cut_rises n xs r.1)
  | inr high ↦ rw (le-ltb x n high) r
]

above_none : (n : ℕ) (xs : List ℕ) → ((y : ℕ) → Contains xs y → n < y) → is_in xs n ≡ false
above_none n [] over = refl
above_none n (x ∷ xs) over =
    let low = over x (first_in x xs) in
    ap (λ (b : Bool). b || is_in xs n) (ne_eqb n x (λ e. omega (arith, e, low))) ∙ above_none n xs (λ y c. over y (later_in x xs y c))

head_is : (n : ℕ) (xs : List ℕ) → Rises xs → begins_with n (from_number n xs) ≡ is_in (from_number n xs) n
head_is n [] r = refl
head_is n (x ∷ xs) r = elim (cases_lt x n) [
  | inl low ↦ rw (lt-ltb x n low) (head_is n xs r.1)
  | inr high ↦ rw (le-ltb x n high) (elim (cases_eq x n) [
    | inl e ↦ eq-eqb x n e ∙ sym (ap (λ (b : Bool). b || is_in xs n) (eq-eqb n x (sym e)))
    | inr other ↦
        ne_eqb x n other
        ∙ sym (ap (λ (b : Bool). b || is_in xs n) (ne_eqb n x (λ e. other (sym e))) ∙ above_none n xs (λ y c. (let up = r.0 y c in omega (arith, up, high))))
  ])
]

-- what is left of rising numbers before the item at a place: it has those that stand there and later
pub record IsCut (dirty rest : List ℕ) (ends : List EndSlacks) (i : ℕ) : Type 0 where
  pub rises : Rises rest
  pub same : (j : ℕ) (other : EndSlacks) → i ≤ j → j < length ends → is_in rest (number_at ends j other) ≡ is_in dirty (number_at ends j other)

pub cut_start : (dirty : List ℕ) (ends : List EndSlacks) → IsStrictlyIncreasing dirty → IsCut dirty dirty ends 0
cut_start dirty ends up = record { rises = rises_of dirty up; same = λ j other above low. refl }

module _ (dirty rest more : List ℕ) (ends : List EndSlacks) (i : ℕ) (other : EndSlacks) (up : AreRising ends) (low : i < length ends) (had : IsCut dirty rest ends i)
    (cut : more ≡ from_number (number_at ends i other) rest) where
  still : (j : ℕ) (d : EndSlacks) → i ≤ j → j < length ends → is_in more (number_at ends j d) ≡ is_in dirty (number_at ends j d)
  still j d above under =
      let here : number_at ends i d ≡ number_at ends i other = ap (λ (e : EndSlacks). e.pin) (get_or_default ends i d other low) in
      let over : number_at ends i other ≤ number_at ends j d = (let r = up.rise i j d above under in omega (arith, r, here)) in
      ap (λ (xs : List ℕ). is_in xs (number_at ends j d)) cut ∙ none_in_cut (number_at ends i other) (number_at ends j d) rest over ∙ had.same j d above under

  pub cut_more : IsCut dirty more ends (i + 1)
  cut_more = record { rises = subst Rises (sym cut) (cut_rises (number_at ends i other) rest had.rises); same = λ j d above under. still j d (omega (arith, above)) under }

  -- the item at the place
  pub cut_told : (o : Option EndSlacks) → o ≡ cut_end more (get_or ends i other) → o ≡ kept_end dirty (get_or ends i other)
  cut_told o e =
      let head : begins_with (number_at ends i other) more ≡ is_in dirty (number_at ends i other) =
      ap (begins_with (number_at ends i other)) cut ∙ head_is (number_at ends i other) rest had.rises
      ∙ ap (λ (xs : List ℕ). is_in xs (number_at ends i other)) (sym cut) ∙ still i other (omega arith) low in
      e ∙ ap (λ (b : Bool). if b then None else Some (get_or ends i other)) head

-- numbers put in rising order
pub rising_pins : (numbers sorted pins : List ℕ) → IsRisingOf numbers sorted → pins ≡ sorted → IsStrictlyIncreasing pins
rising_pins numbers sorted pins is e = subst (λ (xs : List ℕ). IsStrictlyIncreasing xs) (sym e) is.rising

pub rising_kept : (base edited : Stored) (dirty numbers sorted pins : List ℕ) → numbers ≡ dirty → IsRisingOf numbers sorted → pins ≡ sorted → AreKeptEnds base edited dirty
    → AreKeptEnds base edited pins
rising_kept base edited dirty numbers sorted pins from is e kept = record {
  there = λ pin end off. kept.there pin end (sym (same pin) ∙ off);
  end = λ pin at off. kept.end pin at (sym (same pin) ∙ off);
  slacks = λ pin end is_one off told. kept.slacks pin end is_one (sym (same pin) ∙ off) told;
}
  where
    same : (n : ℕ) → is_in pins n ≡ is_in dirty n
    same n = ap (λ (xs : List ℕ). is_in xs n) e ∙ is.same n ∙ ap (λ (xs : List ℕ). is_in xs n) from
