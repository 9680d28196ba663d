-- Numbers that stand in a list of looks, looks that never fall, and beginnings of lists.

use Rattle.std.proofs.Common.{◌≡◌, ℕ, ◌+◌, ◌<◌, ◌≤◌, List, [], ◌∷◌, ◌++◌, length, refl, sym, ap, ◌∙◌, inl, inr, arith, append_assoc, append-nil, length-append}
use mathlib.Core.List.{IsPrefix}
use Rattle.timing_rules.specs.Sessions.{Looks, StandIn, GrewBy}

module _ {X : Type 0} where
  pub prefix_self : (xs : List X) → IsPrefix xs xs
  prefix_self xs = ([], append-nil xs)

  pub prefix_end : (xs ys : List X) → IsPrefix xs (xs ++ ys)
  prefix_end xs ys = (ys, refl)

  pub prefix_trans : (xs ys zs : List X) → IsPrefix xs ys → IsPrefix ys zs → IsPrefix xs zs
  prefix_trans xs ys zs p q = (p.0 ++ q.0, sym (append_assoc xs p.0 q.0) ∙ ap (λ w. w ++ q.0) p.1 ∙ q.1)

  pub prefix_length : (xs ys : List X) → IsPrefix xs ys → length xs ≤ length ys
  prefix_length xs ys p = let e = length-append xs p.0 in let f : length (xs ++ p.0) ≡ length ys = ap (λ w. length w) p.1 in omega (arith, e, f)

pub stand_self : (xs : List ℕ) → StandIn xs xs
stand_self [] = tt
stand_self (x ∷ xs) = inl (refl, stand_self xs)

stand_skip : (xs : List ℕ) (y : ℕ) (ys : List ℕ) → StandIn xs ys → StandIn xs (y ∷ ys)
stand_skip [] y ys h = tt
stand_skip (x ∷ xs) y ys h = inr h

-- numbers that stand in a list stand behind others
pub stand_behind : (before xs ys : List ℕ) → StandIn xs ys → StandIn xs (before ++ ys)
stand_behind [] xs ys h = h
stand_behind (b ∷ before) xs ys h = stand_skip xs b (before ++ ys) (stand_behind before xs ys h)

stand_both : (xs ys us vs : List ℕ) → StandIn xs ys → StandIn us vs → StandIn (xs ++ us) (ys ++ vs)
stand_both [] ys us vs h k = stand_behind ys us vs k
stand_both (x ∷ xs) [] us vs h k = absurd h
stand_both (x ∷ xs) (y ∷ ys) us vs (inl e) k = inl (e.0, stand_both xs ys us vs e.1 k)
stand_both (x ∷ xs) (y ∷ ys) us vs (inr r) k = inr (stand_both (x ∷ xs) ys us vs r k)

stand_front : (xs us ys : List ℕ) → StandIn (xs ++ us) ys → StandIn xs ys
stand_front [] us ys h = tt
stand_front (x ∷ xs) us [] h = absurd h
stand_front (x ∷ xs) us (y ∷ ys) (inl e) = inl (e.0, stand_front xs us ys e.1)
stand_front (x ∷ xs) us (y ∷ ys) (inr r) = inr (stand_front (x ∷ xs) us ys r)

-- looks that grew again: the last numbers that stood there give way to others
pub grew_more : (old mid new xs us ns more : List ℕ) → GrewBy old mid (xs ++ us) → new ≡ mid ++ ns → StandIn more ns → GrewBy old new (xs ++ more)
grew_more old mid new xs us ns more g e s = (
  g.0 ++ ns,
  e ∙ ap (λ m. m ++ ns) g.1 ∙ append_assoc old g.0 ns,
  stand_both xs g.0 more ns (stand_front xs us g.0 g.2) s,
)

-- looks with fewer numbers that stand there
pub grew_front : (old new xs us : List ℕ) → GrewBy old new (xs ++ us) → GrewBy old new xs
grew_front old new xs us g = (g.0, g.1, stand_front xs us g.0 g.2)

-- one look more
pub looks_more : (before awaited last n : ℕ) (ns : List ℕ) → Looks before awaited last ns → last ≤ n → n < awaited → Looks before awaited n (ns ++ n ∷ [])
looks_more before awaited last n [] h low high = (let e : before ≡ last = h in omega (arith, e, low), high, refl)
looks_more before awaited last n (m ∷ ns) h low high = (h.0, h.1, looks_more m awaited last n ns h.2 low high)

-- the same looks from a lower number
pub looks_lower : (low before awaited last : ℕ) (ns : List ℕ) → low ≤ before → Looks before awaited last ns → 0 < length ns → Looks low awaited last ns
looks_lower low before awaited last [] l h some = absurd (let e : 0 < 0 = some in omega (arith, e))
looks_lower low before awaited last (n ∷ ns) l h some = (let e = h.0 in omega (arith, e, l), h.1, h.2)
