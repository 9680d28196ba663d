-- The numbers that an order of layered nodes knows.

use Rattle.std.proofs.Common.{◌≡◌, ℕ, zero, suc, ◌+◌, ◌-◌, ◌*◌, ◌<◌, ◌≤◌, if◌then◌else◌, inl, inr, List, map, sym, ap, subst, arith}
use Rattle.std.specs.Prelude.{◌/◌, All}
use Rattle.std.proofs.lemmas.Bool.{cases_lt, lt-ltb, le-ltb}
use Rattle.std.proofs.lemmas.List.Elements.{All-map, All-weaker}
use Rattle.std.proofs.Math.Nat.{mul-le-mul_right}
use Rattle.through_walks.specs.Layers.{place_of, past, known_on}
use Rattle.through_walks.proofs.Numbers.{place_low}

module _ (k count places : ℕ) where
  record Knows (n : ℕ) : Type 0 where
    all : count ≤ places * k
    low : n < count + places

  knows : (n : ℕ) → n < known_on k count places → Knows n
  knows n low = elim (cases_lt (places * k) count) [
    | inl more ↦ absurd (let none = subst (λ b. n < (if b then 0 else count + places)) (lt-ltb (places * k) count more) low in omega (arith, none))
    | inr all ↦ record { all = all; low = subst (λ b. n < (if b then 0 else count + places)) (le-ltb (places * k) count all) low }
  ]

  some-by : (m n : ℕ) → n < count → count ≤ places * m → 0 < m
  some-by zero n low all = absurd (omega (arith, low, all))
  some-by (suc m) n low all = omega arith

  pub stages_there : (n : ℕ) → n < known_on k count places → n < count → 0 < k
  stages_there n low under = some-by k n under (knows n low).all

  pub place_known : (n : ℕ) → n < known_on k count places → place_of k count n < places
  place_known n low =
      let known = knows n low in
      let all = known.all in
      let under = known.low in
      elim (cases_lt n count) [
        | inl less ↦ subst (λ b. (if b then n / k else n - count) < places) (sym (lt-ltb n count less))
            (place_low k n places (some-by k n less all) (omega (arith, less, all)))
        | inr more ↦ subst (λ b. (if b then n / k else n - count) < places) (sym (le-ltb n count more)) (omega (arith, more, under))
      ]

  pub past_known : (launch : ℕ) (ns : List ℕ) → launch < known_on k count places → All (λ n. n < places) ns → All (λ n. n < known_on k count places) (map (past count) ns)
  past_known launch ns low h =
      let known = knows launch low in
      All-map (λ n. n < known_on k count places) (past count) ns
      (All-weaker (λ n. n < places) (λ n. past count n < known_on k count places)
      (λ n under. subst (λ b. n + count < (if b then 0 else count + places)) (sym (le-ltb (places * k) count known.all)) (omega (arith, under))) ns h)

-- an order that knows all places knows all layered nodes
pub all_known : (k count cone places : ℕ) → cone ≤ places → count ≡ cone * k → known_on k count places ≡ count + places
all_known k count cone places low is =
    let more : cone * k ≤ places * k = mul-le-mul_right {m = cone} {n = places} k low in
    ap (λ b. if b then 0 else count + places) (le-ltb (places * k) count (omega (arith, more, is)))
