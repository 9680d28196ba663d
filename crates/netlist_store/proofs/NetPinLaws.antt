-- The lists of the pins of nets, as one pin comes.

use Rattle.std.proofs.Common.{◌≡◌, ◌≢◌, ℕ, zero, suc, ◌<◌, ◌≤◌, ◌+◌, Bool, true, false, List, [], ◌∷◌, ◌++◌, set, length, take, drop, cond, get_or, replicate, Option, None, Some, refl, sym, ap, subst, ◌∙◌, inl, inr, arith, length-set, if◌then◌else◌, lt-ltb, le-ltb}
use Rattle.std.specs.Prelude.{nat_eq, nat_lt, count_by, ◌&&◌}
use Rattle.std.specs.List.{slice_get}
use Rattle.std.specs.Option.{option_map_or}
use Rattle.std.proofs.lemmas.Bool.{cases_eq, cases_lt}
use Rattle.std.proofs.lemmas.Bool.Decides.{eqb_tells}
use Rattle.std.proofs.lemmas.List.{append-nil, drop_all, take_all, get_or-set_same, get_or-set_other}
use Rattle.std.proofs.lemmas.List.Sums.{sum_by-append}
use Rattle.netlist_store.specs.declared.tables.PinRow.{PinRow}
use Rattle.netlist_store.specs.Building.{with_pin, is_on_row, AreNetPins}

pub no_pins : (rows : List PinRow) (count : ℕ) (lists : List (List ℕ)) → lists ≡ replicate count [] → AreNetPins rows 0 lists
no_pins rows count lists e net pin low = ap (λ xs. count_by (nat_eq pin) (get_or xs net [])) e ∙ ap (count_by (nat_eq pin)) (empty count net)
    ∙ sym (ap (λ b. if b && is_on_row rows net pin then 1 else 0) (le-ltb pin 0 (omega arith)))
  where
    empty : (n i : ℕ) → get_or (replicate {A = List ℕ} n []) i [] ≡ []
    empty zero i = refl
    empty (suc n) zero = refl
    empty (suc n) (suc i) = empty n i

count_push : (pin k : ℕ) (xs : List ℕ) → count_by (nat_eq pin) (xs ++ k ∷ []) ≡ count_by (nat_eq pin) xs + (if nat_eq pin k then 1 else 0)
count_push pin k xs = sum_by-append (λ y. cond (nat_eq pin y) 1 0) xs (k ∷ []) ∙ ap (λ n. count_by (nat_eq pin) xs + n) (one (nat_eq pin k))
  where
    one : (b : Bool) → 0 + cond b 1 0 ≡ (if b then 1 else 0)
    one true = refl
    one false = refl

-- a slice that is written back into its vector
pub written_back : (len : ℕ) (items new : List (List ℕ)) → len ≡ length items → length new ≡ length items → take len (new ++ drop (length new) items) ≡ new
written_back len items new long same =
    ap (λ n. take len (new ++ drop n items)) same
    ∙ ap (λ xs. take len (new ++ xs)) (drop_all (length items) items (omega arith))
    ∙ ap (take len) (append-nil new)
    ∙ take_all len new (omega (arith, long, same))

lt_next : (pin k : ℕ) → pin ≢ k → nat_lt pin (k + 1) ≡ nat_lt pin k
lt_next pin k apart = elim (cases_lt pin k) [
  | inl h ↦ lt-ltb pin (k + 1) (omega (arith, h)) ∙ sym (lt-ltb pin k h)
  | inr h ↦ le-ltb pin (k + 1) (above h) ∙ sym (le-ltb pin k h)
]
  where
    above : k ≤ pin → k + 1 ≤ pin
    above low = elim (cases_lt k pin) [ inl g ↦ omega (arith, g) | inr g ↦ absurd (apart (omega (arith, g, low))) ]

lt_self : (k : ℕ) → nat_lt k k ≡ false
lt_self k = le-ltb k k (omega arith)

lt_one : (k : ℕ) → nat_lt k (k + 1) ≡ true
lt_one k = lt-ltb k (k + 1) (omega arith)

-- what stands for one pin at one net, before and after the pin `k` comes
abbrev told : List PinRow → ℕ → ℕ → ℕ → ℕ
told rows net below pin = (if nat_lt pin below && is_on_row rows net pin then 1 else 0)

module _ (rows : List PinRow) (k : ℕ) (row : PinRow) (here : slice_get rows k ≡ Some row) where
  on_its_net : (net : ℕ) → is_on_row rows net k ≡ option_map_or (nat_eq net) row.net false
  on_its_net net = ap (λ o. option_map_or (λ r. option_map_or (nat_eq net) r.net false) o false) here

  -- a net that the pin is not on
  off_net : (net pin : ℕ) → option_map_or (nat_eq net) row.net false ≡ false → told rows net (k + 1) pin ≡ told rows net k pin
  off_net net pin off = elim (cases_eq pin k) [
    | inl same ↦
        let gone : is_on_row rows net pin ≡ false = ap (is_on_row rows net) same ∙ on_its_net net ∙ off in
        rw gone (ap (λ b. if b then 1 else 0) (neither (nat_lt pin (k + 1)) ∙ sym (neither (nat_lt pin k))))
    | inr apart ↦ ap (λ b. if b && is_on_row rows net pin then 1 else 0) (lt_next pin k apart)
  ]
    where
      neither : (b : Bool) → (b && false) ≡ false
      neither true = refl
      neither false = refl

  -- the net that the pin is on
  on_net : (net pin : ℕ) → option_map_or (nat_eq net) row.net false ≡ true → told rows net k pin + (if nat_eq pin k then 1 else 0) ≡ told rows net (k + 1) pin
  on_net net pin on = elim (eqb_tells pin k) [
    | inl same ↦
        let sits : is_on_row rows net pin ≡ true = ap (is_on_row rows net) same.1 ∙ on_its_net net ∙ on in
        let old : nat_lt pin k ≡ false = ap (λ p. nat_lt p k) same.1 ∙ lt_self k in
        let new : nat_lt pin (k + 1) ≡ true = ap (λ p. nat_lt p (k + 1)) same.1 ∙ lt_one k in
        rw (sits, old, new, same.0) refl
    | inr apart ↦ rw (apart.0, lt_next pin k apart.1) (plus (told rows net k pin))
  ]
    where
      plus : (n : ℕ) → n + 0 ≡ n
      plus n = omega arith

  pub more_pins : (lists after : List (List ℕ)) → after ≡ with_pin row.net k lists → AreNetPins rows k lists
      → (length after ≡ length lists) × AreNetPins rows (k + 1) after
  more_pins lists after put had = by row.net refl
    where
      by : (o : Option ℕ) → row.net ≡ o → (length after ≡ length lists) × AreNetPins rows (k + 1) after
      by None e =
          let same : after ≡ lists = put ∙ ap (λ o. with_pin o k lists) e in (
            ap length same,
            λ net pin low.
                ap (λ xs. count_by (nat_eq pin) (get_or xs net [])) same
                ∙ had net pin (subst (λ xs. net < length xs) same low)
                ∙ sym (off_net net pin (ap (λ o. option_map_or (nat_eq net) o false) e)),
          )
      by (Some n) e =
          let written : after ≡ set lists n (get_or lists n [] ++ k ∷ []) = put ∙ ap (λ o. with_pin o k lists) e in
          let long : length after ≡ length lists = ap length written ∙ length-set lists n (get_or lists n [] ++ k ∷ []) in (
            long,
            λ net pin low.
                elim (cases_eq net n) [
                  | inl same ↦
                      let inner : n < length lists = subst (λ m. m < length lists) same (subst (λ m. net < m) long low) in
                      let own : option_map_or (nat_eq net) row.net false ≡ true =
                      ap (λ o. option_map_or (nat_eq net) o false) e ∙ elim (eqb_tells net n) [ inl h ↦ h.0 | inr h ↦ absurd (h.1 same) ] in
                      ap (λ xs. count_by (nat_eq pin) (get_or xs net [])) written
                      ∙ ap (λ m. count_by (nat_eq pin) (get_or (set lists n (get_or lists n [] ++ k ∷ [])) m [])) same
                      ∙ ap (count_by (nat_eq pin)) (get_or-set_same lists n (get_or lists n [] ++ k ∷ []) [] inner)
                      ∙ count_push pin k (get_or lists n [])
                      ∙ ap (λ m. count_by (nat_eq pin) (get_or lists m []) + (if nat_eq pin k then 1 else 0)) (sym same)
                      ∙ ap (λ c. c + (if nat_eq pin k then 1 else 0)) (had net pin (subst (λ m. net < m) long low))
                      ∙ on_net net pin own
                  | inr apart ↦
                      let off : option_map_or (nat_eq net) row.net false ≡ false =
                      ap (λ o. option_map_or (nat_eq net) o false) e ∙ elim (eqb_tells net n) [ inl h ↦ absurd (apart h.1) | inr h ↦ h.0 ] in
                      ap (λ xs. count_by (nat_eq pin) (get_or xs net [])) written
                      ∙ ap (count_by (nat_eq pin)) (get_or-set_other lists n net (get_or lists n [] ++ k ∷ []) [] apart)
                      ∙ had net pin (subst (λ m. net < m) long low)
                      ∙ sym (off_net net pin off)
                ],
          )
