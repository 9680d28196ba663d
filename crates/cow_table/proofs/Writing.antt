-- Writes to a list that is cut in two.
use Rattle.std.specs.Prelude.{◌≡◌, ℕ, ◌+◌, ◌-◌, ◌<◌, ◌≤◌, List, [], ◌∷◌, ◌++◌, length, set, get_or, drop, Result, Ok, Err, Bool, true, false, nat_le, if◌then◌else◌, refl}
use Rattle.std.proofs.Common.{arith, sym, ap, ◌∙◌, inl, inr}
use Rattle.std.proofs.lemmas.List.{set-append_left, set-append_right, length-set, set_past, drop_more, drop_all}
use Rattle.std.proofs.lemmas.Bool.{cases_lt}
use Rattle.cow_table.specs.Writes.{put_at, written}

-- what `put_at` does, by its test
abbrev put_if : {A : Type 0} → ℕ → List A → ℕ → A → Bool → List A
put_if first items place value b = if b then set items (place - first) value else items

unchanged : {A : Type 0} (first : ℕ) (items : List A) (place : ℕ) (value : A) (b : Bool) → length items ≤ place - first → items ≡ put_if first items place value b
unchanged first items place value true high = sym (set_past items (place - first) value high)
unchanged first items place value false high = refl

as_long : {A : Type 0} (first : ℕ) (items : List A) (place : ℕ) (value : A) (b : Bool) → length (put_if first items place value b) ≡ length items
as_long first items place value true = length-set items (place - first) value
as_long first items place value false = refl

put_ok : {A : Type 0} (E : Type 0) (first : ℕ) (items : List A) (place : ℕ) (value : A)
    → put_if first items place value (nat_le first place) ≡ put_at {E = E} first items place (Ok value)
unfolding put_at
put_ok E first items place value = refl

module _ {A E : Type 0} where
  put_err : (first : ℕ) (items : List A) (place : ℕ) (e : E) → items ≡ put_at first items place (Err e)
  unfolding put_at
  put_err first items place e = refl

  -- a place before the first, or past the last, writes nothing
  pub before_first : (first : ℕ) (items : List A) (place : ℕ) (value : Result A E) → place < first → items ≡ put_at first items place value
  before_first first items place (Ok value) low =
      let no : nat_le first place ≡ false = grind arith in
      ap (put_if first items place value) (sym no) ∙ put_ok E first items place value
  before_first first items place (Err e) low = put_err first items place e

  pub past_last : (first : ℕ) (items : List A) (place : ℕ) (value : Result A E) → length items ≤ place - first → items ≡ put_at first items place value
  past_last first items place (Ok value) high = unchanged first items place value (nat_le first place) high ∙ put_ok E first items place value
  past_last first items place (Err e) high = put_err first items place e

  pub no_value : (first : ℕ) (items : List A) (place : ℕ) (value : Result A E) (e : E) → value ≡ Err e → items ≡ put_at first items place value
  no_value first items place value e h = put_err first items place e ∙ ap (put_at first items place) (sym h)

  pub at_place : (first : ℕ) (items : List A) (place : ℕ) (value : Result A E) (v : A) → value ≡ Ok v → first ≤ place
      → set items (place - first) v ≡ put_at first items place value
  at_place first items place value v h low =
      let yes : nat_le first place ≡ true = grind arith in
      ap (put_if first items place v) (sym yes) ∙ put_ok E first items place v ∙ ap (put_at first items place) (sym h)

  pub put_length : (first : ℕ) (items : List A) (place : ℕ) (value : Result A E) → length (put_at first items place value) ≡ length items
  put_length first items place (Ok value) = ap length (sym (put_ok E first items place value)) ∙ as_long first items place value (nat_le first place)
  put_length first items place (Err e) = ap length (sym (put_err first items place e))

  pub written_length : (first : ℕ) (items : List A) (places : List ℕ) (values : List (Result A E)) → length (written first items places values) ≡ length items
  unfolding written
  written_length first items [] values = refl
  written_length first items (place ∷ places) [] = refl
  written_length first items (place ∷ places) (value ∷ values) =
      written_length first (put_at first items place value) places values ∙ put_length first items place value

  -- one write to a list that is cut in two
  put_two : (front back : List A) (place : ℕ) (value : Result A E)
      → put_at 0 (front ++ back) place value ≡ put_at 0 front place value ++ put_at (length front) back place value
  put_two front back place (Err e) =
      sym (put_err 0 (front ++ back) place e) ∙ ap (λ l. l ++ back) (put_err 0 front place e)
      ∙ ap (λ l. put_at 0 front place (Err e) ++ l) (put_err (length front) back place e)
  put_two front back place (Ok value) =
      let whole : set (front ++ back) (place - 0) value ≡ put_at {E = E} 0 (front ++ back) place (Ok value) = at_place 0 (front ++ back) place (Ok value) value refl (omega arith) in
      let first : set front (place - 0) value ≡ put_at {E = E} 0 front place (Ok value) = at_place 0 front place (Ok value) value refl (omega arith) in
      let bare : place - 0 ≡ place = omega arith in
      elim (cases_lt place (length front)) [
        | inl low ↦
            sym whole ∙ set-append_left front back (place - 0) value (omega (arith, low))
            ∙ ap (λ l. l ++ back) first
            ∙ ap (λ l. put_at {E = E} 0 front place (Ok value) ++ l) (before_first (length front) back place (Ok value) low)
        | inr high ↦
            sym whole ∙ set-append_right front back (length front) (place - 0) value refl (omega (arith, high))
            ∙ ap (λ l. l ++ set back (place - 0 - length front) value) (past_last 0 front place (Ok value) (omega (arith, high)))
            ∙ ap (λ i. put_at {E = E} 0 front place (Ok value) ++ set back (i - length front) value) bare
            ∙ ap (λ l. put_at {E = E} 0 front place (Ok value) ++ l) (at_place (length front) back place (Ok value) value refl high)
      ]

  -- all writes to a list that is cut in two
  pub written_two : (front back : List A) (n : ℕ) (places : List ℕ) (values : List (Result A E)) → n ≡ length front
      → written 0 (front ++ back) places values ≡ written 0 front places values ++ written n back places values
  unfolding written
  written_two front back n [] values e = refl
  written_two front back n (place ∷ places) [] e = refl
  written_two front back n (place ∷ places) (value ∷ values) e =
      let one : put_at 0 (front ++ back) place value ≡ put_at 0 front place value ++ put_at n back place value =
      put_two front back place value ∙ ap (λ m. put_at 0 front place value ++ put_at m back place value) (sym e) in
      ap (λ l. written 0 l places values) one
      ∙ written_two (put_at 0 front place value) (put_at n back place value) n places values (e ∙ sym (put_length 0 front place value))

  -- one value more is written
  pub written_next : (first : ℕ) (items items' : List A) (place : ℕ) (places : List ℕ) (value : Result A E) (values : List (Result A E)) → items' ≡ put_at first items place value
      → written first items' places values ≡ written first items (place ∷ places) (value ∷ values)
  unfolding written
  written_next first items items' place places value values e = ap (λ l. written first l places values) e

  pub written_none : (first : ℕ) (items : List A) (values : List (Result A E)) → written first items [] values ≡ items
  unfolding written
  written_none first items values = refl

  -- the values from place i on are written, of which the first is written now
  pub written_step : (first : ℕ) (items items' : List A) (places : List ℕ) (values : List (Result A E)) (i place : ℕ) (value : Result A E)
      → i < length places → length places ≡ length values → place ≡ get_or places i place → value ≡ get_or values i value → items' ≡ put_at first items place value
      → written first items' (drop (i + 1) places) (drop (i + 1) values) ≡ written first items (drop i places) (drop i values)
  written_step first items items' places values i place value low same p v e =
      let from : drop i places ≡ place ∷ drop (i + 1) places = drop_more places i place low ∙ ap (λ q. q ∷ drop (i + 1) places) (sym p) in
      let with : drop i values ≡ value ∷ drop (i + 1) values = drop_more values i value (omega (arith, low, same)) ∙ ap (λ q. q ∷ drop (i + 1) values) (sym v) in
      written_next first items items' place (drop (i + 1) places) value (drop (i + 1) values) e
      ∙ ap (λ l. written first items l (value ∷ drop (i + 1) values)) (sym from)
      ∙ ap (λ l. written first items (drop i places) l) (sym with)

  -- at the end no value is left
  pub written_end : (first : ℕ) (items whole : List A) (places : List ℕ) (values : List (Result A E)) (i : ℕ) → length places ≤ i
      → written first items (drop i places) (drop i values) ≡ whole → items ≡ whole
  written_end first items whole places values i past e =
      sym (written_none first items (drop i values)) ∙ ap (λ l. written first items l (drop i values)) (sym (drop_all i places past)) ∙ e
