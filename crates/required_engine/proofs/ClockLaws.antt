-- The clocks of a linked design have sensible waveforms.

use Rattle.std.proofs.Common.{◌≡◌, ℕ, zero, suc, pos, ◌+ℤ◌, unsigned_abs, true, int_lt, int_le, List, [], ◌∷◌, map, length, Some, sym, ap, ◌∙◌, arith}
use Rattle.std.specs.Prelude.{Contains, nat_le, slice_get, ◌&&◌}
use Rattle.std.specs.List.{list_all, filter_map}
use Rattle.std.specs.Option.{option_map_or}
use Rattle.std.proofs.lemmas.Bool.{and_parts, leb-true}
use Rattle.std.proofs.lemmas.Int.{ints}
use borrow.Author.Differences.{le-true, lt-true}
use Rattle.sta_units.specs.Numbers.{limit, is_within}
use Rattle.timing_defs.specs.declared.kinds.Tran.{Tran}
use Rattle.timing_defs.specs.declared.kinds.Kind.{Kind}
use Rattle.timing_defs.specs.declared.constraints.Clock.{Clock}
use Rattle.timing_defs.specs.declared.constraints.Constraints.{Constraints}
use Rattle.timing_defs.specs.declared.design.Design.{Design}
use Rattle.timing_defs.specs.Netlist.{are_distinct}
use Rattle.timing_defs.specs.Documents.{is_clock, are_constraints}
use Rattle.timing_rules.specs.Tests.{separation, separation_on}
use Rattle.path_rules.specs.Clocks.{IsClock}
use Rattle.node_rows.proofs.ConstraintLaws.{fit_of}
use Rattle.timing_defs.proofs.Members.{all_in}

waveform : (c : Clock) → is_clock c ≡ true → IsClock c
waveform c h =
    let a = and_parts (int_le (pos 2) c.period.0 && is_within c.period.0 && int_le (pos 0) c.rise.0
    && int_lt c.rise.0 c.fall.0 && int_lt c.fall.0 (c.rise.0 +ℤ c.period.0)
    && is_within c.rise.0 && is_within c.fall.0 && is_within c.unc_setup.0) (is_within c.unc_hold.0) h in
    let b = and_parts (int_le (pos 2) c.period.0 && is_within c.period.0 && int_le (pos 0) c.rise.0
    && int_lt c.rise.0 c.fall.0 && int_lt c.fall.0 (c.rise.0 +ℤ c.period.0)
    && is_within c.rise.0 && is_within c.fall.0) (is_within c.unc_setup.0) a.0 in
    let e = and_parts (int_le (pos 2) c.period.0 && is_within c.period.0 && int_le (pos 0) c.rise.0
    && int_lt c.rise.0 c.fall.0 && int_lt c.fall.0 (c.rise.0 +ℤ c.period.0)
    && is_within c.rise.0) (is_within c.fall.0) b.0 in
    let f = and_parts (int_le (pos 2) c.period.0 && is_within c.period.0 && int_le (pos 0) c.rise.0
    && int_lt c.rise.0 c.fall.0 && int_lt c.fall.0 (c.rise.0 +ℤ c.period.0)) (is_within c.rise.0) e.0 in
    let i = and_parts (int_le (pos 2) c.period.0 && is_within c.period.0 && int_le (pos 0) c.rise.0
    && int_lt c.rise.0 c.fall.0) (int_lt c.fall.0 (c.rise.0 +ℤ c.period.0)) f.0 in
    let j = and_parts (int_le (pos 2) c.period.0 && is_within c.period.0 && int_le (pos 0) c.rise.0) (int_lt c.rise.0 c.fall.0) i.0 in
    let k = and_parts (int_le (pos 2) c.period.0 && is_within c.period.0) (int_le (pos 0) c.rise.0) j.0 in
    let l = and_parts (int_le (pos 2) c.period.0) (is_within c.period.0) k.0 in
    record {
      period = (let h = le-true (pos 2) c.period.0 l.0 in omega (arith, ints, h));
      rise = (let h = le-true (pos 0) c.rise.0 k.1 in omega (arith, ints, h));
      fall = (let h = lt-true c.rise.0 c.fall.0 j.1 in omega (arith, ints, h));
      within = (let h = lt-true c.fall.0 (c.rise.0 +ℤ c.period.0) i.1 in omega (arith, ints, h));
      period_limit = leb-true (unsigned_abs c.period.0) limit l.1;
      rise_limit = leb-true (unsigned_abs c.rise.0) limit f.1;
    }

all_clocks : (c : Constraints) → are_constraints c ≡ true → list_all is_clock c.clocks ≡ true
all_clocks c h =
    (and_parts (nat_le (length c.clocks) 8 && are_distinct (map (λ clock. clock.name) c.clocks) && are_distinct (filter_map (λ clock. clock.port) c.clocks))
    (list_all is_clock c.clocks) (fit_of c h).clocks).1

got_in : {X : Type 0} (xs : List X) (i : ℕ) (x : X) → slice_get xs i ≡ Some x → Contains xs x
got_in [] i x e = absurd (cc)
got_in (y ∷ ys) zero x e = (0, omega arith, (let f : y ≡ x = cc in f))
got_in (y ∷ ys) (suc i) x e = let r = got_in ys i x e in (suc r.0, (let l = r.1 in omega (arith, l)), r.2)

pub clock_there : (c : Constraints) → are_constraints c ≡ true → (i : ℕ) (clock : Clock) → slice_get c.clocks i ≡ Some clock → IsClock clock
clock_there c h i clock e = waveform clock (all_in is_clock c.clocks clock (all_clocks c h) (got_in c.clocks i clock e))

-- the separation of two clocks that are there
pub separation_is : (d : Design) (kind : Kind) (i j : ℕ) (a b : Tran) (l c : Clock) → slice_get d.constraints.clocks i ≡ Some l → slice_get d.constraints.clocks j ≡ Some c
    → separation kind l a c b ≡ separation_on d kind (i, a) (j, b)
separation_is d kind i j a b l c e f =
    sym (ap (λ o. option_map_or (λ (x : Clock). option_map_or (λ (y : Clock). separation kind x a y b) (slice_get d.constraints.clocks j) (pos 0)) o (pos 0)) e
    ∙ ap (λ o. option_map_or (λ (y : Clock). separation kind l a y b) o (pos 0)) f)
