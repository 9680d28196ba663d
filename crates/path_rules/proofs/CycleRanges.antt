-- No launch and capture have fewer or more cycles than the range of all multicycles.
use Rattle.std.proofs.Common.{◌≡◌, ℕ, ◌≤◌, ◌<◌, nat_lt, Bool, true, false, if◌then◌else◌, List, [], ◌∷◌, Option, None, Some, refl, ap, sym, subst, ◌∙◌, inl, inr, arith}
use Rattle.std.specs.Option.{unwrap_or}
use Rattle.std.proofs.lemmas.Bool.{cases_lt, ltb-true, lt-ltb, false≢true}
use Rattle.timing_defs.specs.declared.kinds.Kind.{Kind}
use Rattle.timing_defs.specs.declared.constraints.Constraints.{Constraints}
use Rattle.timing_defs.specs.declared.constraints.Exception.{Exception}
use Rattle.timing_defs.specs.declared.rows.Launch.{Launch}
use Rattle.timing_defs.specs.declared.rows.Capture.{Capture}
use Rattle.timing_rules.specs.Rules.{applies, cycles, cycles_in, last_some, without_cycles}
use Rattle.path_rules.specs.declared.ranges.CycleRange.{CycleRange}
use Rattle.path_rules.specs.Ranges.{lesser, greater, widened, range_over, range_of, plain_range, IsRange}

-- a number lies in a range
abbrev Lies : CycleRange → ℕ → Type 0
Lies r n = (r.fewest ≤ n) × (n ≤ r.most)

not_less : (m n : ℕ) → nat_lt m n ≡ false → n ≤ m
not_less m n e = elim (cases_lt m n) [ inl low ↦ absurd (false≢true (sym e ∙ lt-ltb m n low)) | inr high ↦ high ]

by_less : (b : Bool) (m n : ℕ) → nat_lt n m ≡ b → ((if b then n else m) ≤ m) × ((if b then n else m) ≤ n)
by_less true m n e = let l = ltb-true n m e in (omega (arith, l), omega arith)
by_less false m n e = (omega arith, not_less n m e)

by_more : (b : Bool) (m n : ℕ) → nat_lt m n ≡ b → (m ≤ (if b then n else m)) × (n ≤ (if b then n else m))
by_more true m n e = let l = ltb-true m n e in (omega (arith, l), omega arith)
by_more false m n e = (omega arith, not_less m n e)

-- what lies in a range lies in a wider one, and so does the number by which it is wider
wider : (r : CycleRange) (o : Option ℕ) (n : ℕ) → Lies r n → Lies (widened r o) n
wider r None n l = l
wider r (Some m) n l =
    let a = (by_less (nat_lt m r.fewest) r.fewest m refl).0 in let b = (by_more (nat_lt r.most m) r.most m refl).0 in
    let low = l.0 in let high = l.1 in (omega (arith, a, low), omega (arith, b, high))

its : (r : CycleRange) (m : ℕ) → Lies (widened r (Some m)) m
its r m = ((by_less (nat_lt m r.fewest) r.fewest m refl).1, (by_more (nat_lt r.most m) r.most m refl).1)

chosen : (r : CycleRange) (b : Bool) (o : Option ℕ) (n : ℕ) → Lies r n → Lies (widened r o) (unwrap_or (if b then o else None) n)
chosen r true None n l = l
chosen r true (Some m) n l = its r m
chosen r false o n l = wider r o n l

lies : (c : Constraints) (kind : Kind) (launch : Launch) (capture : Capture) (r : CycleRange) (n : ℕ) (xs : List Exception) → Lies r n
    → Lies (range_over kind r xs) (last_some (λ x. if applies c launch capture x then cycles_in kind x.effect else None) n xs)
lies c kind launch capture r n [] l = l
lies c kind launch capture r n (x ∷ xs) l =
    lies c kind launch capture (widened r (cycles_in kind x.effect)) (unwrap_or (if applies c launch capture x then cycles_in kind x.effect else None) n) xs
    (chosen r (applies c launch capture x) (cycles_in kind x.effect) n l)

pub ranged : (c : Constraints) (kind : Kind) → IsRange c kind (range_of c kind)
ranged c kind launch capture = lies c kind launch capture (plain_range kind) (without_cycles kind) c.exceptions (omega arith, omega arith)
