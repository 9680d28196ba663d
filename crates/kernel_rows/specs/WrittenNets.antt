-- A fan-in written node by node, as a search with a bound asks for it.

use Rattle.std.specs.Prelude.{◌≡◌, ℕ, ◌-◌, ℤ, ◌+ℤ◌, int_le, Bool, true, false, [], All, length, slice_index_or, Option, Some, None}
use Rattle.worst_walks.specs.Walks.{AreApart}
use Rattle.bounded_slack.specs.Nets.{Net, arcs_into, offer_of, bound_of, IsAtMost, IsArcInto, IsLow, IsFalling}
use Rattle.kernel_rows.specs.declared.written_nets.Written.{Written}

abbrev pub net_of : Written → Net
net_of fan = record {
  count = length fan.arcs.now;
  end = fan.end;
  level = λ n. 4194303 - n;
  place = λ n. 4194303 - n;
  arcs = λ n. slice_index_or fan.arcs.now n [];
  offer = λ n. slice_index_or fan.offers.now n None;
  bound = λ n. slice_index_or fan.bounds.now n None;
}

-- a node as a search wants it
pub record IsPlace (net : Net) (n : ℕ) : Type 0 where
  pub arcs : All (IsArcInto net n) (arcs_into net n)
  pub apart : AreApart (arcs_into net n)
  pub offer : IsLow (offer_of net n)
  pub bound : IsLow (bound_of net n)
  pub launched : (o : ℤ) → offer_of net n ≡ Some o → IsAtMost (bound_of net n) o
  pub passed : All (IsFalling net n) (arcs_into net n)

-- whether the bound behind an arc is at most the one before it, less the delay
abbrev pub falls : Option ℤ → Option ℤ → ℤ → Bool
falls None here delay = true
falls (Some b) None delay = false
falls (Some b) (Some h) delay = int_le (h +ℤ delay) b

-- whether a bound is at most an offer
abbrev pub is_under : Option ℤ → Option ℤ → Bool
is_under None here = true
is_under (Some offer) None = false
is_under (Some offer) (Some bound) = int_le bound offer
