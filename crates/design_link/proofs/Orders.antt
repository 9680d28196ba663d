-- The least of some names, by bytes.

use Rattle.std.proofs.Common.{◌≡◌, ◌⊎◌, ℕ, ◌+◌, ◌<◌, true, false, List, [], ◌∷◌, length, get_or, Option, None, Some, refl, sym, ap, subst, ◌∙◌, inl, inr, arith, lt-ltb}
use Rattle.std.specs.Prelude.{if◌then◌else◌, Contains}
use Rattle.std.specs.declared.cmp.Ordering.{Ordering}
use Rattle.std.specs.declared.cmp.Ordering.TheVariants.{Less, Equal, Greater}
use Rattle.std.specs.Ordering.{ordering_reverse, is_lt, is_gt, nat_cmp}
use Rattle.std.specs.Cmp.{IsTotalOrder}
use Rattle.std.specs.Cmp.Lexicographic.{slice_cmp}
use Rattle.std.specs.Cmp.Rules.{comparing}
use Rattle.std.specs.Str.{bytes_eq}
use Rattle.std.proofs.Common.{rules}
use Rattle.std.proofs.lemmas.Bool.{cases_Bool, cases_eq, cases_lt, false≢true, ne_eqb, eq-eqb, le-ltb, false_from_ne_true}
use Rattle.std.proofs.lemmas.Cmp.{upto}
use Rattle.std.proofs.lemmas.List.{get_or_default}
use Rattle.std.proofs.lemmas.List.Elements.{Contains-get_or}
use Rattle.timing_defs.specs.Netlist.{is_listed}
use Rattle.timing_defs.specs.NetChecks.{is_before, least_from, least}
use Rattle.timing_defs.proofs.SameNames.{same_is, same_self}
use Rattle.timing_defs.proofs.Members.{first_in, later_in, in_cases, none_in, any_in, any_back}
use Rattle.store_pins.proofs.DriverLaws.{none_least}

-- names in order
total : IsTotalOrder (slice_cmp nat_cmp)
total = search (comparing, rules)

pub flipped : (a b : List ℕ) → is_gt (slice_cmp nat_cmp a b) ≡ is_before b a
flipped a b = by (slice_cmp nat_cmp b a) (slice_cmp nat_cmp a b) (total.antisymm a b)
  where
    by : (o p : Ordering) → p ≡ ordering_reverse o → is_gt p ≡ is_lt o
    by Less p e = ap is_gt e
    by Equal p e = ap is_gt e
    by Greater p e = ap is_gt e

-- no name comes before a best that none before it came before
not_before : (a b c : List ℕ) → is_before b a ≡ false → is_before c b ≡ false → is_before c a ≡ false
not_before a b c h k = sym (flipped a c) ∙ upto total a b c (flipped a b ∙ h) (flipped b c ∙ k)

before_flips : (a b : List ℕ) → is_before b a ≡ true → is_before a b ≡ false
before_flips a b h = by (slice_cmp nat_cmp b a) (slice_cmp nat_cmp a b) (total.antisymm a b) h
  where
    by : (o p : Ordering) → p ≡ ordering_reverse o → is_lt o ≡ true → is_lt p ≡ false
    by Less p e g = ap is_lt e
    by Equal p e g = absurd (false≢true g)
    by Greater p e g = absurd (false≢true g)

not_itself : (a : List ℕ) → is_before a a ≡ false
not_itself a = false_from_ne_true (is_before a a) (λ h. false≢true (sym (before_flips a a h) ∙ h))

-- the best place so far
pub record IsBest (names : List (List ℕ)) (place i : ℕ) : Type 0 where
  pub within : place < length names
  pub least : (k : ℕ) → k < i → is_before (get_or names k []) (get_or names place []) ≡ false

pub best_none : (names : List (List ℕ)) → 0 < length names → IsBest names 0 0
best_none names some = record { within = some; least = λ k h. absurd (omega arith) }

pub best_more : (names : List (List ℕ)) (place place' i : ℕ) → IsBest names place i → i < length names
    → place' ≡ (if is_before (get_or names i []) (get_or names place []) then i else place) → IsBest names place' (i + 1)
best_more names place place' i had low e = elim (cases_Bool (is_before (get_or names i []) (get_or names place []))) [
  | inl h ↦
      let is : place' ≡ i = e ∙ ap (λ b. if b then i else place) h in
      rw is (record {
        within = low;
        least = λ k l. elim (cases_eq k i) [
          | inl same ↦ rw same (not_itself (get_or names i []))
          | inr other ↦
              not_before (get_or names i []) (get_or names place []) (get_or names k []) (before_flips (get_or names place []) (get_or names i []) h)
              (had.least k (omega arith))
        ];
      })
  | inr h ↦
      let is : place' ≡ place = e ∙ ap (λ b. if b then i else place) h in
      rw is (record {
        within = had.within;
        least = λ k l. elim (cases_eq k i) [ inl same ↦ rw same h | inr other ↦ had.least k (omega arith) ];
      })
]

-- the least name
cmp_equal : (a b : List ℕ) → slice_cmp nat_cmp a b ≡ Equal → a ≡ b
cmp_equal [] [] e = refl
cmp_equal [] (y ∷ ys) e = absurd (cc)
cmp_equal (x ∷ xs) [] e = absurd (cc)
cmp_equal (x ∷ xs) (y ∷ ys) e = elim (cases_lt x y) [
  | inl low ↦ let f : Less ≡ Equal = rw (lt-ltb x y low) at e in absurd (cc)
  | inr high ↦ elim (cases_eq x y) [
    | inl same ↦
        let f : slice_cmp nat_cmp xs ys ≡ Equal = rw (le-ltb x y high, eq-eqb x y same) at e in
        ap (λ n. n ∷ xs) same ∙ ap (λ ns. y ∷ ns) (cmp_equal xs ys f)
    | inr other ↦ let f : Greater ≡ Equal = rw (le-ltb x y high, ne_eqb x y other) at e in absurd (cc)
  ]
]

neither_before : (a b : List ℕ) → is_before a b ≡ false → is_before b a ≡ false → a ≡ b
neither_before a b h k = by (slice_cmp nat_cmp a b) refl
  where
    by : (o : Ordering) → slice_cmp nat_cmp a b ≡ o → a ≡ b
    by Less e = absurd (false≢true (sym h ∙ ap is_lt e))
    by Equal e = cmp_equal a b e
    by Greater e = absurd (false≢true (sym k ∙ sym (flipped a b) ∙ ap is_gt e))

least_at : (xs : List (List ℕ)) (b a : List ℕ) → (b ≡ a) ⊎ Contains xs a → is_before b a ≡ false → ((x : List ℕ) → Contains xs x → is_before x a ≡ false)
    → least_from (Some b) xs ≡ Some a
least_at [] b a (inl e) h f = ap Some e
least_at [] b a (inr c) h f = absurd (none_in a c)
least_at (x ∷ xs) b a w h f = elim (cases_Bool (is_before x b)) [
  | inl e ↦ rw e (least_at xs x a (taken w e) (f x (first_in x xs)) (λ y c. f y (later_in x xs y c)))
  | inr e ↦ rw e (least_at xs b a (left w e) h (λ y c. f y (later_in x xs y c)))
]
  where
    split : Contains (x ∷ xs) a → (x ≡ a) ⊎ Contains xs a
    split c = in_cases x xs a c

    taken : (b ≡ a) ⊎ Contains (x ∷ xs) a → is_before x b ≡ true → (x ≡ a) ⊎ Contains xs a
    taken (inl same) e = absurd (false≢true (sym (f x (first_in x xs)) ∙ ap (is_before x) (sym same) ∙ e))
    taken (inr c) e = split c

    left : (b ≡ a) ⊎ Contains (x ∷ xs) a → is_before x b ≡ false → (b ≡ a) ⊎ Contains xs a
    left (inl same) e = inl same
    left (inr c) e = elim (split c) [
      | inl same ↦ inl (neither_before b a h (ap (λ n. is_before n b) (sym same) ∙ e))
      | inr d ↦ inr d
    ]

least_is : (xs : List (List ℕ)) (a : List ℕ) → Contains xs a → ((x : List ℕ) → Contains xs x → is_before x a ≡ false) → least xs ≡ Some a
least_is [] a c f = absurd (none_in a c)
least_is (x ∷ xs) a c f = least_at xs x a (in_cases x xs a c) (f x (first_in x xs)) (λ y d. f y (later_in x xs y d))

least_nothing : (xs : List (List ℕ)) → ((x : List ℕ) → Contains xs x → ⊥) → least xs ≡ None
least_nothing [] f = refl
least_nothing (x ∷ xs) f = absurd (f x (first_in x xs))

-- a least name is a member that no other comes before
pub record IsLeast (names : List (List ℕ)) (a : List ℕ) : Type 0 where
  pub member : Contains names a
  pub low : (x : List ℕ) → Contains names x → is_before x a ≡ false

pub record IsLeastFrom (b : List ℕ) (xs : List (List ℕ)) (a : List ℕ) : Type 0 where
  pub member : (b ≡ a) ⊎ Contains xs a
  pub first : is_before b a ≡ false
  pub low : (x : List ℕ) → Contains xs x → is_before x a ≡ false

told_from : (b : List ℕ) (xs : List (List ℕ)) (a : List ℕ) → least_from (Some b) xs ≡ Some a → IsLeastFrom b xs a
told_from b [] a e =
    let same : b ≡ a = cc in
    record { member = inl same; first = ap (λ n. is_before n a) same ∙ not_itself a; low = λ x c. absurd (none_in x c) }
told_from b (y ∷ ys) a e = elim (cases_Bool (is_before y b)) [
  | inl h ↦
      let f : least_from (Some y) ys ≡ Some a = rw h at e in
      let r = told_from y ys a f in
      record {
        member = elim r.member [ inl same ↦ inr (taken y same) | inr c ↦ inr (later_in y ys a c) ];
        first = not_before a y b r.first (before_flips b y h);
        low = λ x c. elim (in_cases y ys x c) [ inl same ↦ ap (λ n. is_before n a) (sym same) ∙ r.first | inr d ↦ r.low x d ];
      }
  | inr h ↦
      let f : least_from (Some b) ys ≡ Some a = rw h at e in
      let r = told_from b ys a f in
      record {
        member = elim r.member [ inl same ↦ inl same | inr c ↦ inr (later_in y ys a c) ];
        first = r.first;
        low = λ x c. elim (in_cases y ys x c) [
          | inl same ↦ ap (λ n. is_before n a) (sym same) ∙ not_before a b y r.first h
          | inr d ↦ r.low x d
        ];
      }
]
  where
    taken : (x : List ℕ) → x ≡ a → Contains (x ∷ ys) a
    taken x same = subst (λ (n : List ℕ). Contains (x ∷ ys) n) same (first_in x ys)

pub least_told : (xs : List (List ℕ)) (a : List ℕ) → least xs ≡ Some a → IsLeast xs a
least_told [] a e = absurd (cc)
least_told (x ∷ xs) a e =
    let r = told_from x xs a e in
    record {
      member = elim r.member [ inl same ↦ subst (λ (n : List ℕ). Contains (x ∷ xs) n) same (first_in x xs) | inr c ↦ later_in x xs a c ];
      low = λ y c. elim (in_cases x xs y c) [ inl same ↦ ap (λ n. is_before n a) (sym same) ∙ r.first | inr d ↦ r.low y d ];
    }

-- a name that is listed is a member
pub in_listed : (xs : List (List ℕ)) (q : List ℕ) → Contains xs q → is_listed xs q ≡ true
in_listed xs q c = any_in (bytes_eq q) xs q c (same_self q)

pub listed_in : (xs : List (List ℕ)) (q : List ℕ) → is_listed xs q ≡ true → Contains xs q
listed_in xs q e =
    let r = any_back (bytes_eq q) xs e in
    subst (λ (n : List ℕ). Contains xs n) (sym (same_is q r.item r.passes)) r.within

-- lists with the same names have the same least
pub least_same : (xs ys : List (List ℕ)) → ((q : List ℕ) → is_listed xs q ≡ is_listed ys q) → least xs ≡ least ys
least_same xs ys same = by (least xs) refl
  where
    by : (o : Option (List ℕ)) → least xs ≡ o → least xs ≡ least ys
    by None e =
        let none : xs ≡ [] = none_least xs e in
        e ∙ sym (least_nothing ys (λ q c. false≢true (sym (ap (λ ns. is_listed ns q) none) ∙ same q ∙ in_listed ys q c)))
    by (Some a) e =
        let r = least_told xs a e in
        e
        ∙ sym (least_is ys a (listed_in ys a (sym (same a) ∙ in_listed xs a r.member))
        (λ q c. r.low q (listed_in xs q (same q ∙ in_listed ys q c))))

-- what the search for the least place finds
pub least_at_place : (names : List (List ℕ)) (place : ℕ) → place < length names
    → ((k : ℕ) → k < length names → is_before (get_or names k []) (get_or names place []) ≡ false) → Some (get_or names place []) ≡ least names
least_at_place names place low best =
    sym (least_is names (get_or names place []) (Contains-get_or names place [] low) (λ q c.
    let at : get_or names c.0 [] ≡ q = get_or_default names c.0 [] q c.1 ∙ c.2 in
    ap (λ n. is_before n (get_or names place [])) (sym at) ∙ best c.0 c.1))
