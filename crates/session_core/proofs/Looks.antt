-- What a session has looked at since its last row.
use Rattle.std.proofs.Common.{◌≡◌, ℕ, zero, suc, ◌-◌, ◌<◌, ◌≤◌, Bool, true, false, nat_lt, if◌then◌else◌, List, [], ◌∷◌, ◌++◌, length, drop, Option, Some, None, refl, sym, arith}
use borrow.Author.Tests.{ltb-true}
use Rattle.std.specs.List.{list_all}
use Rattle.std.proofs.lemmas.Bool.{and_parts}
use Rattle.std.proofs.lemmas.Option.{none-some, same_Some}
use Rattle.std.proofs.lemmas.List.{length-drop}
use Rattle.timing_rules.specs.Sessions.{Looks}
use Rattle.session_core.specs.Machine.{last_of}

-- the looks never fall, from the number before to the newest, and the last is held; without one the number before is held, once a row stands there
abbrev pub Seen : ℕ → Bool → ℕ → Option ℕ → List ℕ → Type 0
Seen newest begun before held [] = (before ≤ newest) × (held ≡ (if begun then Some before else None))
Seen newest begun before held (n ∷ ns) = (before ≤ n) × Seen newest true n held ns

pub seen_push : (newest n : ℕ) (begun : Bool) (before : ℕ) (held : Option ℕ) (looks : List ℕ) → newest ≡ n
    → Seen newest begun before held looks → Seen newest begun before (Some n) (looks ++ n ∷ [])
seen_push newest n begun before held [] same h = (omega (arith, h.0), (omega arith, refl))
seen_push newest n begun before held (m ∷ ms) same h = (h.0, seen_push newest n true m held ms same h.1)

pub seen_more : (newest more : ℕ) (begun : Bool) (before : ℕ) (held : Option ℕ) (looks : List ℕ) → newest ≤ more
    → Seen newest begun before held looks → Seen more begun before held looks
seen_more newest more begun before held [] le h = (omega (arith, h.0), h.1)
seen_more newest more begun before held (m ∷ ms) le h = (h.0, seen_more newest more true m held ms le h.1)

-- the number before is below the newest
pub seen_within : (newest : ℕ) (begun : Bool) (before : ℕ) (held : Option ℕ) (looks : List ℕ) → Seen newest begun before held looks → before ≤ newest
seen_within newest begun before held [] h = h.0
seen_within newest begun before held (m ∷ ms) h = let le = seen_within newest true m held ms h.1 in omega (arith, h.0)

-- what is held is no less than the number before, and no more than the newest
pub seen_held : (newest : ℕ) (begun : Bool) (before k : ℕ) (looks : List ℕ) → Seen newest begun before (Some k) looks → (before ≤ k) × (k ≤ newest)
seen_held newest true before k [] h = let same : k ≡ before = same_Some k before h.1 in (omega (arith, h.0), omega (arith, h.0))
seen_held newest false before k [] h = absurd (none-some k (sym h.1))
seen_held newest begun before k (m ∷ ms) h = let both = seen_held newest true m k ms h.1 in (omega (arith, h.0, both.0), both.1)

-- once a row stands there, a version is held
pub seen_some : (newest before : ℕ) (looks : List ℕ) → Seen newest true before None looks → ⊥
seen_some newest before [] h = none-some before h.1
seen_some newest before (m ∷ ms) h = seen_some newest m ms h.1

-- looks that all fall short
short : (newest awaited before k : ℕ) (looks : List ℕ) → Seen newest true before (Some k) looks → list_all (λ n. nat_lt n awaited) looks ≡ true
    → Looks before awaited k looks
short newest awaited before k [] h below = sym (same_Some k before h.1)
short newest awaited before k (m ∷ ms) h below =
    let parts = and_parts (nat_lt m awaited) (list_all (λ n. nat_lt n awaited) ms) below in
    (h.0, ltb-true m awaited parts.0, short newest awaited m k ms h.1 parts.1)

looks_lower : (low before awaited k : ℕ) (looks : List ℕ) → low ≤ before → 0 < length looks → Looks before awaited k looks → Looks low awaited k looks
looks_lower low before awaited k [] le some h = absurd (omega arith)
looks_lower low before awaited k (m ∷ ms) le some h = (omega (arith, h.0), h.1, h.2)

looks_drop : (i before awaited k : ℕ) (looks : List ℕ) → i < length looks → Looks before awaited k looks → Looks before awaited k (drop i looks)
looks_drop zero before awaited k looks near h = h
looks_drop (suc i) before awaited k [] near h = absurd (omega arith)
looks_drop (suc i) before awaited k (m ∷ ms) near h =
    looks_lower before m awaited k (drop i ms) h.0 (omega (arith, length-drop i ms)) (looks_drop i m awaited k ms (omega arith) h.2)

-- the last of them, one or more
pub last_short : (newest : ℕ) (begun : Bool) (before awaited k count : ℕ) (looks : List ℕ) → Seen newest begun before (Some k) looks
    → 0 < count → count ≤ length looks → list_all (λ n. nat_lt n awaited) looks ≡ true → Looks before awaited k (last_of count looks)
last_short newest begun before awaited k count [] h some few below = absurd (omega arith)
last_short newest begun before awaited k count (m ∷ ms) h some few below =
    let parts = and_parts (nat_lt m awaited) (list_all (λ n. nat_lt n awaited) ms) below in
    looks_drop (length (m ∷ ms) - count) before awaited k (m ∷ ms) (omega arith)
    (h.0, ltb-true m awaited parts.0, short newest awaited m k ms h.1 parts.1)

pub length-last_of : (count : ℕ) (looks : List ℕ) → count ≤ length looks → length (last_of count looks) ≡ count
length-last_of count looks few = omega (arith, length-drop (length looks - count) looks)
