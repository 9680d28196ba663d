-- Keys that are looked through and keys that are hashed: places in both together.
use Rattle.std.proofs.Common.{Result, Ok, Err, is_ok, ◌≡◌, ℕ, suc, ◌+◌, Bool, true, false, ◌||◌, if◌then◌else◌, cond, List, [], ◌∷◌, ◌++◌, length, position, Option, None, Some, is_some, refl, ap, sym, subst, ◌∙◌, arith, append_assoc, append-nil}
use Rattle.std.specs.List.{list_any, position_from, IsDistinct}
use Rattle.std.specs.Option.{option_map}
use Rattle.std.specs.Result.{OnOk, OnErr}
use Rattle.std.specs.Cmp.{IsEquivalence}
use Rattle.std.proofs.lemmas.Bool.{false≢true}
use Rattle.std.proofs.lemmas.List.Folds.{list_any-append}
use Rattle.std.proofs.lemmas.Iterator.Adapters.{position_from-zero}
use Rattle.std.proofs.lemmas.Map.Keys.{IsDistinct-push}
use Rattle.indexmap.specs.IndexSet.{insert_key}

-- places
from_first : {X : Type 0} (p : X → Bool) (i j : ℕ) (xs ys : List X) → position_from p i xs ≡ Some j → position_from p i (xs ++ ys) ≡ Some j
from_first p i j [] ys e = absurd (false≢true (ap is_some e))
from_first {X} p i j (x ∷ xs) ys e = by (p x) (from_first p (i + 1) j xs ys) e
  where
    by : (b : Bool) → (position_from p (i + 1) xs ≡ Some j → position_from p (i + 1) (xs ++ ys) ≡ Some j)
        → cond b (Some i) (position_from p (i + 1) xs) ≡ Some j → cond b (Some i) (position_from p (i + 1) (xs ++ ys)) ≡ Some j
    by true r q = q
    by false r q = r q

from_later : {X : Type 0} (p : X → Bool) (i : ℕ) (xs ys : List X) → position_from p i xs ≡ None → position_from p i (xs ++ ys) ≡ position_from p (i + length xs) ys
from_later p i [] ys e = (let q : i ≡ i + 0 = omega arith in ap (λ n. position_from p n ys) q)
from_later {X} p i (x ∷ xs) ys e =
    by (p x) (λ q. from_later p (i + 1) xs ys q ∙ (let r : i + 1 + length xs ≡ i + suc (length xs) = omega arith in ap (λ n. position_from p n ys) r)) e
  where
    by : (b : Bool) → (position_from p (i + 1) xs ≡ None → position_from p (i + 1) (xs ++ ys) ≡ position_from p (i + suc (length xs)) ys)
        → cond b (Some i) (position_from p (i + 1) xs) ≡ None → cond b (Some i) (position_from p (i + 1) (xs ++ ys)) ≡ position_from p (i + suc (length xs)) ys
    by true r q = absurd (false≢true (sym (ap is_some q)))
    by false r q = r q

from_shift : {X : Type 0} (p : X → Bool) (i k j : ℕ) (ys : List X) → position_from p k ys ≡ Some j → position_from p (i + k) ys ≡ Some (i + j)
from_shift p i k j [] e = absurd (false≢true (ap is_some e))
from_shift {X} p i k j (y ∷ ys) e =
    by (p y) (λ q. (let r : i + (k + 1) ≡ i + k + 1 = omega arith in subst (λ n. position_from p n ys ≡ Some (i + j)) r (from_shift p i (k + 1) j ys q))) e
  where
    by : (b : Bool) → (position_from p (k + 1) ys ≡ Some j → position_from p (i + k + 1) ys ≡ Some (i + j))
        → cond b (Some k) (position_from p (k + 1) ys) ≡ Some j → cond b (Some (i + k)) (position_from p (i + k + 1) ys) ≡ Some (i + j)
    by true r q = ap (option_map (λ n. i + n)) q
    by false r q = r q

from_none : {X : Type 0} (p : X → Bool) (i k : ℕ) (ys : List X) → position_from p k ys ≡ None → position_from p i ys ≡ None
from_none p i k [] e = refl
from_none {X} p i k (y ∷ ys) e = by (p y) (from_none p (i + 1) (k + 1) ys) e
  where
    by : (b : Bool) → (position_from p (k + 1) ys ≡ None → position_from p (i + 1) ys ≡ None)
        → cond b (Some k) (position_from p (k + 1) ys) ≡ None → cond b (Some i) (position_from p (i + 1) ys) ≡ None
    by true r q = absurd (false≢true (sym (ap is_some q)))
    by false r q = r q

from_any : {X : Type 0} (p : X → Bool) (i : ℕ) (xs : List X) → is_some (position_from p i xs) ≡ list_any p xs
from_any p i [] = refl
from_any {X} p i (x ∷ xs) = by (p x) (from_any p (i + 1) xs)
  where
    by : (b : Bool) → is_some (position_from p (i + 1) xs) ≡ list_any p xs → is_some (cond b (Some i) (position_from p (i + 1) xs)) ≡ (b || list_any p xs)
    by true r = refl
    by false r = r

pub place_any : {X : Type 0} (p : X → Bool) (o : Option ℕ) (xs : List X) → o ≡ position p xs → is_some o ≡ list_any p xs
place_any p o xs e = ap is_some (e ∙ position_from-zero p xs) ∙ from_any p 0 xs

pub place_first : {X : Type 0} (p : X → Bool) (i : ℕ) (xs ys : List X) → Some i ≡ position p xs → Some i ≡ position p (xs ++ ys)
place_first p i xs ys e = sym (position_from-zero p (xs ++ ys) ∙ from_first p 0 i xs ys (sym (e ∙ position_from-zero p xs)))

pub place_later : {X : Type 0} (p : X → Bool) (j : ℕ) (xs ys : List X) → None ≡ position p xs → Some j ≡ position p ys → Some (length xs + j) ≡ position p (xs ++ ys)
place_later p j xs ys e f =
    sym (position_from-zero p (xs ++ ys) ∙ from_later p 0 xs ys (sym (e ∙ position_from-zero p xs))
    ∙ (let r : 0 + length xs ≡ length xs + 0 = omega arith in ap (λ n. position_from p n ys) r) ∙ from_shift p (length xs) 0 j ys (sym (f ∙ position_from-zero p ys)))

pub place_none : {X : Type 0} (p : X → Bool) (xs ys : List X) → None ≡ position p xs → None ≡ position p ys → None ≡ position p (xs ++ ys)
place_none p xs ys e f =
    sym (position_from-zero p (xs ++ ys) ∙ from_later p 0 xs ys (sym (e ∙ position_from-zero p xs)) ∙ from_none p (0 + length xs) 0 ys (sym (f ∙ position_from-zero p ys)))

-- a key that is added
pub none_in : {X : Type 0} (xs : List X) → length xs ≡ 0 → xs ≡ []
none_in [] e = refl
none_in (x ∷ xs) e = absurd (omega arith)

pub no_place : {X : Type 0} (p : X → Bool) (xs : List X) → length xs ≡ 0 → None ≡ position p xs
no_place p xs e = sym (subst (λ ys. position p ys ≡ None) (sym (none_in xs e)) refl)

either_false : (a b : Bool) → (a || b) ≡ false → (a ≡ false) × (b ≡ false)
either_false true b e = absurd (false≢true (sym e))
either_false false b e = (refl, e)

absent_both : {X : Type 0} (p : X → Bool) (xs ys : List X) → list_any p (xs ++ ys) ≡ false → (list_any p xs ≡ false) × (list_any p ys ≡ false)
absent_both p xs ys e = either_false (list_any p xs) (list_any p ys) (sym (list_any-append p xs ys) ∙ e)

pub inserted : {X : Type 0} (eq : X → X → Bool) (xs ys zs : List X) (k : X) → list_any (eq k) (xs ++ ys) ≡ false → zs ≡ insert_key eq ys k → zs ≡ ys ++ k ∷ []
inserted eq xs ys zs k a e = e ∙ ap (λ b. if b then ys else ys ++ k ∷ []) (absent_both (eq k) xs ys a).1

pub distinct_more : {X : Type 0} (eq : X → X → Bool) → IsEquivalence eq → (xs ys zs : List X) (k : X) → IsDistinct eq (xs ++ ys) → list_any (eq k) (xs ++ ys) ≡ false → zs ≡ insert_key eq ys k → IsDistinct eq (xs ++ zs)
distinct_more eq laws xs ys zs k d a e =
    subst (IsDistinct eq) (append_assoc xs ys (k ∷ []) ∙ ap (λ ws. xs ++ ws) (sym (inserted eq xs ys zs k a e))) (IsDistinct-push laws (xs ++ ys) k d a)

pub distinct_next : {X : Type 0} (eq : X → X → Bool) → IsEquivalence eq → (xs zs : List X) (k : X) → IsDistinct eq xs → list_any (eq k) xs ≡ false → zs ≡ xs ++ k ∷ [] → IsDistinct eq zs
distinct_next eq laws xs zs k d a e = subst (IsDistinct eq) (sym e) (IsDistinct-push laws xs k d a)

-- whether or not memory is wanting
pub distinct_pushed : {X V E : Type 0} (eq : X → X → Bool) → IsEquivalence eq → (xs zs : List X) (k : X) (r : Result V E) → IsDistinct eq xs → list_any (eq k) xs ≡ false
    → zs ≡ (if is_ok r then xs ++ k ∷ [] else xs) → IsDistinct eq zs
distinct_pushed eq laws xs zs k (Ok v) d a e = distinct_next eq laws xs zs k d a e
distinct_pushed eq laws xs zs k (Err v) d a e = subst (IsDistinct eq) (sym e) d

pub distinct_inserted : {X V E : Type 0} (eq : X → X → Bool) → IsEquivalence eq → (xs ys zs : List X) (k : X) (r : Result V E) → IsDistinct eq (xs ++ ys) → list_any (eq k) (xs ++ ys) ≡ false
    → OnOk r (zs ≡ insert_key eq ys k) → OnErr r (zs ≡ ys) → IsDistinct eq (xs ++ zs)
distinct_inserted eq laws xs ys zs k (Ok v) d a e f = distinct_more eq laws xs ys zs k d a e
distinct_inserted eq laws xs ys zs k (Err v) d a e f = subst (λ ws. IsDistinct eq (xs ++ ws)) (sym f) d

pub with_none : {X : Type 0} (xs ys : List X) → length ys ≡ 0 → xs ++ ys ≡ xs
with_none xs ys e = ap (λ zs. xs ++ zs) (none_in ys e) ∙ append-nil xs
