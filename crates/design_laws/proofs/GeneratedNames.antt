-- The names of a generated netlist rise: a lane's first register, its gates, its other registers, and then the next lane.
use Rattle.std.proofs.Common.{◌≡◌, ℕ, zero, suc, ◌+◌, ◌*◌, ◌<◌, ◌≤◌, Bool, true, false, List, [], ◌∷◌, ◌++◌, length, drop, refl, ap, sym, subst, ◌∙◌, arith, length-append}
use Rattle.std.specs.Prelude.{decimal, ◌||◌}
use Rattle.std.specs.Str.{bytes_eq}
use Rattle.std.proofs.lemmas.Slice.Eq.{bytes_eq-Decides}
use Rattle.std.proofs.lemmas.List.{map-append}
use Rattle.std.proofs.lemmas.Fmt.{decimal_digit, decimal_injective}
use Rattle.timing_defs.specs.declared.netlist.Inst.{Inst}
use Rattle.sta_text.specs.Names.{stands}
use Rattle.design_maker.specs.Draws.{drawn, drawn_on}
use Rattle.design_maker.specs.Insts.{name_of, gates_from, registers_from, blocks_of, lane_of, lanes_from}
use Rattle.design_laws.specs.Netlists.{Lone, names_of}

-- the names by lane, stage and number
abbrev name_at : ℕ → ℕ → ℕ → List ℕ
name_at lane zero n = 102 ∷ decimal lane
name_at lane (suc zero) n = name_of 103 lane n
name_at lane (suc (suc stage)) n = name_of 101 lane n

-- their order
abbrev code : ℕ → ℕ → ℕ → ℕ
code lane zero n = 12884901888 * lane
code lane (suc zero) n = 12884901888 * lane + 4294967296 + n
code lane (suc (suc stage)) n = 12884901888 * lane + 8589934592 + n

record IsAt (w : List ℕ) (lane stage n : ℕ) : Type 0 where
  is : w ≡ name_at lane stage n
  lane_low : lane < 4
  stage_low : stage < 3
  low : n < 4294967296

-- a name of this code
abbrev IsCoded : List ℕ → ℕ → Type 0
IsCoded w k = (lane : ℕ) × ((stage : ℕ) × ((n : ℕ) × (IsAt w lane stage n × (code lane stage n ≡ k))))

-- names of lower codes
abbrev Earlier : ℕ → List (List ℕ) → Type 0
Earlier k [] = Unit {0}
Earlier k (w ∷ ws) = ((c : ℕ) × (IsCoded w c × (c < k))) × Earlier k ws

-- names of one letter
abbrev head_of : List ℕ → ℕ
head_of [] = 0
head_of (b ∷ bs) = b

abbrev third_of : List ℕ → List ℕ
third_of (a ∷ b ∷ c ∷ bs) = bs
third_of bs = []

abbrev second_of : List ℕ → ℕ
second_of (a ∷ b ∷ bs) = b
second_of bs = 0

one_letter : (letter l n k m : ℕ) → l < 4 → k < 4 → n < 4294967296 → m < 4294967296 → name_of letter l n ≡ name_of letter k m → (l ≡ k) × (n ≡ m)
one_letter letter l n k m ll lk ln lm same =
    let dl : decimal l ≡ (48 + l) ∷ [] = decimal_digit l (omega (arith, ll)) in
    let dk : decimal k ≡ (48 + k) ∷ [] = decimal_digit k (omega (arith, lk)) in
    let plain : letter ∷ (48 + l) ∷ 95 ∷ decimal n ≡ letter ∷ (48 + k) ∷ 95 ∷ decimal m = rw (dl, dk) at same in
    let lanes : 48 + l ≡ 48 + k = ap second_of plain in
    (omega (arith, lanes), decimal_injective n m (omega (arith, ln)) (omega (arith, lm)) (ap third_of plain))

same_code : (w : List ℕ) (l s n k t m : ℕ) → IsAt w l s n → IsAt w k t m → code l s n ≡ code k t m
same_code w l zero n k zero m a b =
    let e : decimal l ≡ decimal k = ap (λ xs. drop 1 xs) (sym a.is ∙ b.is) in
    ap (λ x. 12884901888 * x) (decimal_injective l k (omega (arith, a.lane_low)) (omega (arith, b.lane_low)) e)
same_code w l zero n k (suc zero) m a b = let e : 102 ≡ 103 = ap head_of (sym a.is ∙ b.is) in absurd (omega (arith, e))
same_code w l zero n k (suc (suc t)) m a b = let e : 102 ≡ 101 = ap head_of (sym a.is ∙ b.is) in absurd (omega (arith, e))
same_code w l (suc zero) n k zero m a b = let e : 103 ≡ 102 = ap head_of (sym a.is ∙ b.is) in absurd (omega (arith, e))
same_code w l (suc zero) n k (suc zero) m a b =
    let e = one_letter 103 l n k m a.lane_low b.lane_low a.low b.low (sym a.is ∙ b.is) in omega (arith, e.0, e.1)
same_code w l (suc zero) n k (suc (suc t)) m a b = let e : 103 ≡ 101 = ap head_of (sym a.is ∙ b.is) in absurd (omega (arith, e))
same_code w l (suc (suc s)) n k zero m a b = let e : 101 ≡ 102 = ap head_of (sym a.is ∙ b.is) in absurd (omega (arith, e))
same_code w l (suc (suc s)) n k (suc zero) m a b = let e : 101 ≡ 103 = ap head_of (sym a.is ∙ b.is) in absurd (omega (arith, e))
same_code w l (suc (suc s)) n k (suc (suc t)) m a b =
    let e = one_letter 101 l n k m a.lane_low b.lane_low a.low b.low (sym a.is ∙ b.is) in omega (arith, e.0, e.1)

one_code : (w : List ℕ) (c k : ℕ) → IsCoded w c → IsCoded w k → c ≡ k
one_code w c k a b = sym a.1.1.1.1 ∙ same_code w a.0 a.1.0 a.1.1.0 b.0 b.1.0 b.1.1.0 a.1.1.1.0 b.1.1.1.0 ∙ b.1.1.1.1

-- a name stands among no names of lower codes
absent : (w : List ℕ) (k : ℕ) (names : List (List ℕ)) → IsCoded w k → Earlier k names → stands names w ≡ false
absent w k [] h earlier = refl
absent w k (v ∷ vs) h earlier = by_cases (bytes_eq w v) refl (absent w k vs h earlier.1)
  where
    by_cases : (b : Bool) → bytes_eq w v ≡ b → stands vs w ≡ false → (b || stands vs w) ≡ false
    by_cases true e rest =
        let same : w ≡ v = (bytes_eq-Decides w v).0 e in
        let here : IsCoded v k = subst (λ x. IsCoded x k) same h in
        absurd (omega (arith, one_code v earlier.0.0 k earlier.0.1.0 here, earlier.0.1.1))
    by_cases false e rest = rest

later : (k m : ℕ) (names : List (List ℕ)) → k ≤ m → Earlier k names → Earlier m names
later k m [] up earlier = tt
later k m (w ∷ ws) up earlier = ((earlier.0.0, (earlier.0.1.0, omega (arith, up, earlier.0.1.1))), later k m ws up earlier.1)

earlier_more : (k c : ℕ) (names : List (List ℕ)) (w : List ℕ) → Earlier k names → IsCoded w c → c < k → Earlier k (names ++ w ∷ [])
earlier_more k c [] w earlier h low = ((c, (h, low)), tt)
earlier_more k c (v ∷ vs) w earlier h low = (earlier.0, earlier_more k c vs w earlier.1 h low)

-- names that rise from one code to another
abbrev Rising : ℕ → List (List ℕ) → ℕ → Type 0
Rising k [] end = k ≤ end
Rising k (w ∷ ws) end = (c : ℕ) × (IsCoded w c × ((k ≤ c) × Rising (c + 1) ws end))

rising_lone : (k end : ℕ) (names ws : List (List ℕ)) → Earlier k names → Rising k ws end → Lone names ws
rising_lone k end names [] earlier rising = tt
rising_lone k end names (w ∷ ws) earlier rising =
    let c : ℕ = rising.0 in
    let before : Earlier c names = later k c names rising.1.1.0 earlier in (
      absent w c names rising.1.0 before,
      rising_lone (c + 1) end (names ++ w ∷ []) ws
          (earlier_more (c + 1) c names w (later c (c + 1) names (omega arith) before) rising.1.0 (omega arith)) rising.1.1.1,
    )

rising_from : (k m end : ℕ) (ws : List (List ℕ)) → k ≤ m → Rising m ws end → Rising k ws end
rising_from k m end [] up rising = omega (arith, up, rising)
rising_from k m end (w ∷ ws) up rising = (rising.0, (rising.1.0, (omega (arith, up, rising.1.1.0), rising.1.1.1)))

rising_joined : (k m end : ℕ) (xs ys : List (List ℕ)) → Rising k xs m → Rising m ys end → Rising k (xs ++ ys) end
rising_joined k m end [] ys a b = rising_from k m end ys a b
rising_joined k m end (x ∷ xs) ys a b = (a.0, (a.1.0, (a.1.1.0, rising_joined (a.0 + 1) m end xs ys a.1.1.1 b)))

gates_rise : (lane before more x : ℕ) → lane < 4 → before + more + 1 < 4294967296
    → Rising (code lane 1 (before + 1)) (names_of (gates_from lane before more x)) (code lane 1 (before + more + 1))
unfolding gates_from
gates_rise lane before zero x low few = omega arith
gates_rise lane before (suc more) x low few = (
  code lane 1 (before + 1),
  (
    (lane, (1, (before + 1, (record { is = refl; lane_low = low; stage_low = omega arith; low = omega (arith, few) }, refl)))),
    (
      omega arith,
      subst (λ end. Rising (code lane 1 (before + 1) + 1) (names_of (gates_from lane (before + 1) more (drawn x))) end) (omega arith)
          (rising_from (code lane 1 (before + 1) + 1) (code lane 1 (before + 1 + 1)) (code lane 1 (before + 1 + more + 1)) (names_of (gates_from lane (before + 1) more (drawn x)))
          (omega arith) (gates_rise lane (before + 1) more (drawn x) low (omega (arith, few)))),
    ),
  ),
)

registers_rise : (lane gates block more : ℕ) → lane < 4 → block + more + 1 < 4294967296
    → Rising (code lane 2 block) (names_of (registers_from lane gates block more)) (code lane 2 (block + more))
unfolding registers_from
registers_rise lane gates block zero low few = omega arith
registers_rise lane gates block (suc more) low few = (
  code lane 2 block,
  (
    (lane, (2, (block, (record { is = refl; lane_low = low; stage_low = omega arith; low = omega (arith, few) }, refl)))),
    (
      omega arith,
      subst (λ end. Rising (code lane 2 block + 1) (names_of (registers_from lane gates (block + 1) more)) end) (omega arith)
          (rising_from (code lane 2 block + 1) (code lane 2 (block + 1)) (code lane 2 (block + 1 + more)) (names_of (registers_from lane gates (block + 1) more))
          (omega arith) (registers_rise lane gates (block + 1) more low (omega (arith, few)))),
    ),
  ),
)

lane_rises : (lane gates x : ℕ) → lane < 4 → gates ≤ 10000 → Rising (code lane 0 0) (names_of (lane_of lane gates x)) (code (lane + 1) 0 0)
lane_rises lane gates x low few =
    let gs : List Inst = gates_from lane 0 gates x in
    let rs : List Inst = registers_from lane gates 0 (blocks_of gates) in (
      code lane 0 0,
      (
        (lane, (0, (0, (record { is = refl; lane_low = low; stage_low = omega arith; low = omega arith }, refl)))),
        (
          omega arith,
          rw (map-append (λ (i : Inst). i.name) gs rs)
              (rising_joined (code lane 0 0 + 1) (code lane 1 (0 + gates + 1)) (code (lane + 1) 0 0) (names_of gs) (names_of rs)
              (rising_from (code lane 0 0 + 1) (code lane 1 (0 + 1)) (code lane 1 (0 + gates + 1)) (names_of gs) (omega arith) (gates_rise lane 0 gates x low (omega (arith, few))))
              (rising_from (code lane 1 (0 + gates + 1)) (code lane 2 0) (code (lane + 1) 0 0) (names_of rs) (omega (arith, few))
              (rising_to (code lane 2 0) (code lane 2 (0 + blocks_of gates)) (code (lane + 1) 0 0) (names_of rs) (omega (arith, few))
              (registers_rise lane gates 0 (blocks_of gates) low (omega (arith, few)))))),
        ),
      ),
    )
  where
    rising_to : (k m end : ℕ) (ws : List (List ℕ)) → m ≤ end → Rising k ws m → Rising k ws end
    rising_to k m end [] up rising = omega (arith, up, rising)
    rising_to k m end (w ∷ ws) up rising = (rising.0, (rising.1.0, (rising.1.1.0, rising_to (rising.0 + 1) m end ws up rising.1.1.1)))

lanes_rise : (lane more gates x : ℕ) → lane + more ≤ 4 → gates ≤ 10000
    → Rising (code lane 0 0) (names_of (lanes_from lane more gates x)) (code (lane + more) 0 0)
unfolding lanes_from
lanes_rise lane zero gates x low few = omega arith
lanes_rise lane (suc more) gates x low few =
    let these : List Inst = lane_of lane gates x in
    let others : List Inst = lanes_from (lane + 1) more gates (drawn_on gates x) in
    subst (λ ws. Rising (code lane 0 0) ws (code (lane + suc more) 0 0)) (sym (map-append (λ (i : Inst). i.name) these others))
    (rising_joined (code lane 0 0) (code (lane + 1) 0 0) (code (lane + suc more) 0 0) (names_of these) (names_of others)
    (lane_rises lane gates x (omega (arith, low)) few)
    (subst (λ end. Rising (code (lane + 1) 0 0) (names_of others) end) (omega arith) (lanes_rise (lane + 1) more gates (drawn_on gates x) (omega (arith, low)) few)))

pub lanes_lone : (gates x : ℕ) → gates ≤ 10000 → Lone [] (names_of (lanes_from 0 4 gates x))
lanes_lone gates x few = rising_lone (code 0 0 0) (code 4 0 0) [] (names_of (lanes_from 0 4 gates x)) tt (lanes_rise 0 4 gates x (omega arith) few)

-- how many instances there are
gates_count : (lane before more x : ℕ) → length (gates_from lane before more x) ≡ more
unfolding gates_from
gates_count lane before zero x = refl
gates_count lane before (suc more) x = omega (arith, gates_count lane (before + 1) more (drawn x))

registers_count : (lane gates block more : ℕ) → length (registers_from lane gates block more) ≡ more
unfolding registers_from
registers_count lane gates block zero = refl
registers_count lane gates block (suc more) = omega (arith, registers_count lane gates (block + 1) more)

lane_count : (lane gates x : ℕ) → gates ≤ 10000 → length (lane_of lane gates x) ≤ 10400
lane_count lane gates x few =
    omega (arith, few, length-append (gates_from lane 0 gates x) (registers_from lane gates 0 (blocks_of gates)), gates_count lane 0 gates x, registers_count lane gates 0 (blocks_of gates))

pub lanes_count : (lane more gates x : ℕ) → gates ≤ 10000 → length (lanes_from lane more gates x) ≤ 10400 * more
unfolding lanes_from
lanes_count lane zero gates x few = omega arith
lanes_count lane (suc more) gates x few =
    omega (
      arith,
      length-append (lane_of lane gates x) (lanes_from (lane + 1) more gates (drawn_on gates x)),
      lane_count lane gates x few,
      lanes_count (lane + 1) more gates (drawn_on gates x) few,
    )
