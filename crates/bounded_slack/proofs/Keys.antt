-- Nodes in the order of a search, and the map that holds them.

use Rattle.std.proofs.Common.{◌≡◌, ℕ, ◌+◌, ◌*◌, ◌^◌, ◌<◌, ℤ, Bool, true, false, cond, ◌⊎◌, inl, inr, List, [], ◌∷◌, length, Option, Some, None, BTreeMap, refl, sym, ap, subst, ◌∙◌, arith, true≢false}
use Rattle.std.specs.Prelude.{All}
use Rattle.std.specs.Ordering.{nat_cmp, ordering_then, is_eq, is_lt, MatchOrdering}
use Rattle.std.specs.declared.cmp.Ordering.{Ordering}
use Rattle.std.specs.declared.cmp.Ordering.TheVariants.{Less, Equal, Greater}
use Rattle.std.specs.BTreeMap.{get, is_at, keys, Updates}
use Rattle.std.specs.Map.{lookup, keys_of}
use Rattle.std.proofs.lemmas.Bool.{cases_Bool, lt-ltb}
use Rattle.std.proofs.lemmas.Cmp.{ranked}
use Rattle.std.proofs.lemmas.List.Elements.{All-head, All-tail}
use Rattle.std.proofs.lemmas.Option.{none-some}
use Rattle.bounded_slack.specs.declared.reached.Held.{Held}
use Rattle.bounded_slack.specs.Cuts.{Sums, key_cmp, greater, top_of, AreNone, HasRaised, HasPopped}

less-by : (a b c d : ℕ) (o p : Ordering) → MatchOrdering o (a < c) (a ≡ c) (c < a) → MatchOrdering p (b < d) (b ≡ d) (d < b)
    → ordering_then o p ≡ Less → (a < c) ⊎ ((a ≡ c) × (b < d))
less-by a b c d Less p h k e = inl h
less-by a b c d Equal Less h k e = inr (h, k)
less-by a b c d Equal Equal h k e = absurd (true≢false (sym (ap is_lt e)))
less-by a b c d Equal Greater h k e = absurd (true≢false (sym (ap is_lt e)))
less-by a b c d Greater p h k e = absurd (true≢false (sym (ap is_lt e)))

pub less_parts : (a b c d : ℕ) → key_cmp (a, b) (c, d) ≡ Less → (a < c) ⊎ ((a ≡ c) × (b < d))
less_parts a b c d e = less-by a b c d (nat_cmp a c) (nat_cmp b d) (ranked a c (nat_cmp a c) refl) (ranked b d (nat_cmp b d) refl) e

pub less_from : (a b c d : ℕ) → a < c → key_cmp (a, b) (c, d) ≡ Less
less_from a b c d low = rw (lt-ltb a c low) refl

same-by : (a b c d : ℕ) (o p : Ordering) → MatchOrdering o (a < c) (a ≡ c) (c < a) → MatchOrdering p (b < d) (b ≡ d) (d < b)
    → is_eq (ordering_then o p) ≡ true → (a ≡ c) × (b ≡ d)
same-by a b c d Less p h k e = absurd (true≢false (sym e))
same-by a b c d Equal Less h k e = absurd (true≢false (sym e))
same-by a b c d Equal Equal h k e = (h, k)
same-by a b c d Equal Greater h k e = absurd (true≢false (sym e))
same-by a b c d Greater p h k e = absurd (true≢false (sym e))

pub same_parts : (a b c d : ℕ) → is_eq (key_cmp (a, b) (c, d)) ≡ true → (a ≡ c) × (b ≡ d)
same_parts a b c d e = same-by a b c d (nat_cmp a c) (nat_cmp b d) (ranked a c (nat_cmp a c) refl) (ranked b d (nat_cmp b d) refl) e

differs : (l n level node : ℕ) → ((l ≡ level) × (n ≡ node) → ⊥) → is_at (key_cmp (level, node)) (l, n) ≡ false
differs l n level node other = elim (cases_Bool (is_eq (key_cmp (level, node) (l, n)))) [
  | inl alike ↦ let same = same_parts level node l n alike in absurd (other (sym same.0, sym same.1))
  | inr apart ↦ apart
]

-- a map as sums
abbrev pub sums_of : BTreeMap (ℕ × ℕ) ℤ → Sums
sums_of m = λ level node. get key_cmp m (level, node)

pub empty_map : (m : BTreeMap (ℕ × ℕ) ℤ) → m.entries ≡ [] → AreNone (sums_of m)
empty_map m e level node = ap (lookup (is_at (key_cmp (level, node)))) e

pub map_raised : (m k : BTreeMap (ℕ × ℕ) ℤ) (level node : ℕ) (sum top : ℤ) → top ≡ greater (sums_of m level node) sum
    → Updates key_cmp m k (level, node) (Some top) → HasRaised (sums_of m) (sums_of k) level node sum
map_raised m k level node sum top e u = record {
  here = u.1 ∙ ap Some e;
  others = λ l n other. u.2 (l, n) (differs l n level node other);
}

below-by : (entry : (ℕ × ℕ) × ℤ) (l n level node : ℕ) (x : ℤ) (rest : Option ℤ) (same : Bool) → is_eq (key_cmp (l, n) entry.0) ≡ same
    → key_cmp entry.0 (level, node) ≡ Less → (rest ≡ Some x → key_cmp (l, n) (level, node) ≡ Less)
    → cond same (Some entry.1) rest ≡ Some x → key_cmp (l, n) (level, node) ≡ Less
below-by entry l n level node x rest true e here more f =
    let same = same_parts l n entry.0.0 entry.0.1 e in
    subst (λ a. key_cmp (a, n) (level, node) ≡ Less) (sym same.0)
    (subst (λ b. key_cmp (entry.0.0, b) (level, node) ≡ Less) (sym same.1) here)
below-by entry l n level node x rest false e here more f = more f

below-in : (entries : List ((ℕ × ℕ) × ℤ)) (l n level node : ℕ) (x : ℤ) → All (λ q. key_cmp q (level, node) ≡ Less) (keys_of entries)
    → lookup (is_at (key_cmp (l, n))) entries ≡ Some x → key_cmp (l, n) (level, node) ≡ Less
below-in [] l n level node x below e = absurd (none-some x e)
below-in (entry ∷ entries) l n level node x below e =
    below-by entry l n level node x (lookup (is_at (key_cmp (l, n))) entries) (is_eq (key_cmp (l, n) entry.0)) refl
    (All-head (λ q. key_cmp q (level, node) ≡ Less) entry.0 (keys_of entries) below)
    (below-in entries l n level node x (All-tail (λ q. key_cmp q (level, node) ≡ Less) entry.0 (keys_of entries) below)) e

pub map_popped : (m k : BTreeMap (ℕ × ℕ) ℤ) (level node : ℕ) (sum : ℤ) → get key_cmp m (level, node) ≡ Some sum
    → Updates key_cmp m k (level, node) None → All (λ q. key_cmp q (level, node) ≡ Less) (keys k)
    → HasPopped (sums_of m) (sums_of k) level node sum
map_popped m k level node sum was u below = record {
  was = was;
  gone = u.1;
  others = λ l n other. u.2 (l, n) (differs l n level node other);
  below = λ l n x e. below-in k.entries l n level node x below e;
}

no_entries : (xs : List ((ℕ × ℕ) × ℤ)) → (0 < length xs → ⊥) → xs ≡ []
no_entries [] none = refl
no_entries (x ∷ xs) none = absurd (none (omega arith))

pub none_popped : (m k : BTreeMap (ℕ × ℕ) ℤ) → (0 < length m.entries → ⊥) → k.entries ≡ m.entries → AreNone (sums_of m) × AreNone (sums_of k)
none_popped m k none same = let empty = no_entries m.entries none in (empty_map m empty, empty_map k (same ∙ empty))

-- a lower node comes later in the search
falls-by : (a b c d : ℕ) → b < 2 ^ 32 → (a < c) ⊎ ((a ≡ c) × (b < d)) → a * 2 ^ 32 + b + 1 < c * 2 ^ 32 + d + 1
falls-by a b c d few (inl low) = omega arith
falls-by a b c d few (inr h) = let same = h.0 in let low = h.1 in omega arith

pub top_falls : (next held : Held) → next.node < 2 ^ 32 → key_cmp (next.level, next.node) (held.level, held.node) ≡ Less → top_of (Some next) < top_of (Some held)
top_falls next held few e = falls-by next.level next.node held.level held.node few (less_parts next.level next.node held.level held.node e)
