-- Capacitances by place: any sum over them, each with a number of its node, is one over the places.

use Rattle.std.specs.Prelude.{ℕ, ◌≡◌, ◌+◌, ◌*◌, ◌<◌, ◌≤◌, nat_abs, true, false, is_some, List, [], ◌∷◌, ◌++◌, length, set, Option, Some, None, MatchOption}
use Rattle.timing_defs.specs.declared.parasitics.RcNode.{RcNode}
use Rattle.timing_defs.specs.declared.parasitics.RcCap.{RcCap}
use Rattle.timing_defs.specs.declared.parasitics.RcNode.TheVariants.{Pin as rc_pin}
use Rattle.timing_defs.specs.declared.rows.PinCap.{PinCap}
use Rattle.rc_tree.specs.Trees.{is_node}
use Rattle.rc_tree.specs.Numbering.{node_at}
use Rattle.rc_tree.specs.declared.forests.Forest.{Forest}
use Rattle.rc_tree.specs.Growth.{row_at, place_of}
use Rattle.rc_tree.specs.Moments.{sum_below, weight_at}

abbrev pub placed_node : List RcNode → Forest → ℕ → RcNode
placed_node nodes f j = node_at nodes (row_at f.rows.items j).node

abbrev pub cap_of : RcCap → ℕ
cap_of c = nat_abs c.cap.0

-- the capacitance of a pin, at the pin
abbrev pub charge_of : PinCap → RcCap
charge_of p = record { node = rc_pin p.pin; cap = p.cap }

abbrev pub sum_nat : {X : Type 0} → (X → ℕ) → List X → ℕ
sum_nat g [] = 0
sum_nat g (x ∷ xs) = g x + sum_nat g xs

abbrev pub IsWeighed : List RcNode → Forest → List RcCap → (ℕ → ℕ) → Type 0
IsWeighed nodes f charges w =
    (h : RcNode → ℕ) → ((x : RcNode) → is_node nodes x ≡ false → h x ≡ 0)
    → sum_nat (λ c. h c.node * cap_of c) charges ≡ sum_below (λ i. h (placed_node nodes f i) * w i) (length f.rows.items)

-- the place of a node, none exactly where the node is not there
abbrev pub IsPlaceOf : List RcNode → Forest → RcNode → Option ℕ → Type 0
IsPlaceOf nodes f node found =
    MatchOption found (is_node nodes node ≡ false) (λ p. (p < length f.rows.items) × (placed_node nodes f p ≡ node))

-- weights with one more at a place
abbrev pub heavier : List ℕ → Option ℕ → ℕ → List ℕ
heavier weights None x = weights
heavier weights (Some p) x = set weights p (weight_at weights p + x)

-- what capacitances add to weights, whatever the weights were of before
pub record AreAdded (nodes : List RcNode) (f : Forest) (charges : List RcCap) (old new : List ℕ) : Type 0 where
  pub size : length new ≡ length old
  pub weighed : (before : List RcCap) → IsWeighed nodes f before (weight_at old) → IsWeighed nodes f (before ++ charges) (weight_at new)

-- each node that is there has a place
pub record IsPlacing (nodes : List RcNode) (f : Forest) : Type 0 where
  pub sized : length f.places.items ≡ length nodes
  pub back : (u j : ℕ) → place_of f u ≡ Some j → (j < length f.rows.items) × ((row_at f.rows.items j).node ≡ u)
  pub all : (u : ℕ) → u < length nodes → is_some (place_of f u) ≡ true

-- no weight is above a bound
abbrev pub AreUnder : ℕ → List ℕ → Type 0
AreUnder bound weights = (i : ℕ) → weight_at weights i ≤ bound
