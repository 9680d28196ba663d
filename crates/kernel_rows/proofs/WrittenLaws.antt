-- That a written fan-in is as a search wants it.

use Rattle.std.proofs.Common.{◌≡◌, ℕ, ◌<◌, ◌≤◌, ℤ, ◌+ℤ◌, ◌-ℤ◌, ◌≤ℤ◌, int_le, true, false, Option, Some, None, length, sym, subst, arith, true≢false}
use Rattle.std.proofs.lemmas.Int.{ints}
use Rattle.std.proofs.lemmas.Option.{none-some, same_Some}
use Rattle.worst_walks.specs.declared.cones.WalkArc.{WalkArc}
use Rattle.bounded_slack.specs.Nets.{Net, bound_of, IsAtMost, IsFalling, IsNet}
use Rattle.kernel_rows.specs.declared.written_nets.Written.{Written}
use Rattle.kernel_rows.specs.WrittenNets.{net_of, falls, is_under, IsPlace}

below : (h d b : ℤ) → int_le (h +ℤ d) b ≡ true → h ≤ℤ (b -ℤ d)
below h d b e = grind (arith, ints)

least : (h o : ℤ) → int_le h o ≡ true → h ≤ℤ o
least h o e = grind (arith, ints)

falling-by : (o p : Option ℤ) (d b : ℤ) → o ≡ Some b → falls o p d ≡ true → IsAtMost p (b -ℤ d)
falling-by None p d b e f = absurd (none-some b e)
falling-by (Some x) None d b e f = absurd (true≢false (sym f))
falling-by (Some x) (Some h) d b e f = subst (λ y. h ≤ℤ (y -ℤ d)) (same_Some x b e) (below h d x f)

pub falling_by : (net : Net) (n : ℕ) (arc : WalkArc) → falls (bound_of net arc.from) (bound_of net n) arc.delay ≡ true → IsFalling net n arc
falling_by net n arc f = λ b e. falling-by (bound_of net arc.from) (bound_of net n) arc.delay b e f

under-by : (o p : Option ℤ) (v : ℤ) → o ≡ Some v → is_under o p ≡ true → IsAtMost p v
under-by None p v e f = absurd (none-some v e)
under-by (Some x) None v e f = absurd (true≢false (sym f))
under-by (Some x) (Some h) v e f = subst (λ y. h ≤ℤ y) (same_Some x v e) (least h x f)

pub under_by : (o p : Option ℤ) → is_under o p ≡ true → (v : ℤ) → o ≡ Some v → IsAtMost p v
under_by o p f v e = under-by o p v e f

pub net_by : (fan : Written) → length fan.arcs.now ≤ 4194303 → fan.end < length fan.arcs.now → ((n : ℕ) → n < length fan.arcs.now → IsPlace (net_of fan) n) → IsNet (net_of fan)
net_by fan few low each = record {
  shape = record {
    few = omega arith;
    end = low;
    high = omega arith;
    arcs = λ n under. (each n under).arcs;
    apart = λ n under. (each n under).apart;
    offers = λ n under. (each n under).offer;
    bounds = λ n under. (each n under).bound;
  };
  launched = λ n o under e. (each n under).launched o e;
  passed = λ n under. (each n under).passed;
}
