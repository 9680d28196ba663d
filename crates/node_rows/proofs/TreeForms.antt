-- Elmore's delays, impulses and loads depend on no order of the pins.

use Rattle.std.proofs.Common.{◌≡◌, ℕ, ◌^◌, ℤ, pos, ◌+ℤ◌, ◌-ℤ◌, ◌*ℤ◌, true, List, [], ◌∷◌, ◌++◌, map, filter, Some, sym, ap, ◌∙◌, arith}
use Rattle.std.specs.Prelude.{Contains}
use Rattle.std.specs.Option.{option_map_or, unwrap_or}
use Rattle.std.proofs.lemmas.Int.{ints}
use Rattle.sta_units.specs.Numbers.{rounded}
use Rattle.timing_defs.specs.declared.kinds.Split.{Split}
use Rattle.timing_defs.specs.declared.parasitics.RcNode.{RcNode}
use Rattle.timing_defs.specs.declared.parasitics.RcNode.TheVariants.{Pin as rc_pin}
use Rattle.timing_defs.specs.declared.parasitics.RcCap.{RcCap}
use Rattle.timing_defs.specs.declared.parasitics.RcRes.{RcRes}
use Rattle.timing_defs.specs.declared.parasitics.NetRc.{NetRc}
use Rattle.timing_defs.specs.declared.rows.PinCap.{PinCap}
use Rattle.timing_defs.specs.declared.design.Design.{Design}
use Rattle.timing_defs.specs.Netlist.{Pin, name_of, pins, is_on}
use Rattle.timing_defs.specs.Wires.{sum_of, shared_resistance, elmore, second_moment, impulse, not_negative, charges, rc_load, pin_cap}
use Rattle.netlist_store.specs.Linked.{IsLinked}
use Rattle.netlist_store.specs.Numbering.{Stored, name_at, pin_numbered, IsNumbered}
use Rattle.node_rows.specs.NetPins.{IsOnNet, counted, cap_at, pin_cap_at}
use Rattle.node_rows.proofs.PinSums.{sum_map, sum_agree, pins_sum}

-- a charge: a pin's capacitance at the pin
abbrev pub charge : PinCap → RcCap
charge p = record { node = rc_pin p.pin; cap = p.cap }

abbrev pub pin_charge : Design → Split → Pin → RcCap
pin_charge d split pin = record { node = rc_pin (name_of pin); cap = record { 0 = pin_cap d split pin } }

pub sum_append : {X : Type 0} (f : X → ℤ) (xs ys : List X) → sum_of f (xs ++ ys) ≡ sum_of f xs +ℤ sum_of f ys
sum_append f [] ys = zero_first (sum_of f ys)
  where
    zero_first : (z : ℤ) → z ≡ pos 0 +ℤ z
    zero_first z = omega (arith, ints)
sum_append f (x ∷ xs) ys = ap (λ z. f x +ℤ z) (sum_append f xs ys) ∙ joined (f x) (sum_of f xs) (sum_of f ys)
  where
    joined : (a b c : ℤ) → a +ℤ (b +ℤ c) ≡ (a +ℤ b) +ℤ c
    joined a b c = omega (arith, ints)

-- two lists of charges over which every sum is the same
abbrev AreSame : List RcCap → List RcCap → Type 0
AreSame xs ys = (h : RcCap → ℤ) → sum_of h xs ≡ sum_of h ys

module _ (ress : List RcRes) (root : RcNode) (xs ys : List RcCap) (same : AreSame xs ys) where
  pub elmore_same : (k : RcNode) → elmore ress root xs k ≡ elmore ress root ys k
  elmore_same k = ap (λ z. rounded z (pos (10 ^ 6))) (same (λ c. shared_resistance ress root c.node k *ℤ c.cap.0))

  second_same : (k : RcNode) → second_moment ress root xs k ≡ second_moment ress root ys k
  second_same k =
      ap (λ z. rounded z (pos (10 ^ 6)))
      (sum_agree (λ c. shared_resistance ress root c.node k *ℤ c.cap.0 *ℤ elmore ress root xs c.node)
      (λ c. shared_resistance ress root c.node k *ℤ c.cap.0 *ℤ elmore ress root ys c.node) xs
      (λ c m. ap (λ z. shared_resistance ress root c.node k *ℤ c.cap.0 *ℤ z) (elmore_same c.node))
      ∙ same (λ c. shared_resistance ress root c.node k *ℤ c.cap.0 *ℤ elmore ress root ys c.node))

  pub impulse_same : (k : RcNode) → impulse ress root xs k ≡ impulse ress root ys k
  impulse_same k =
      ap (λ z. not_negative (pos 2 *ℤ z -ℤ elmore ress root xs k *ℤ elmore ress root xs k)) (second_same k)
      ∙ ap (λ z. not_negative (pos 2 *ℤ second_moment ress root ys k -ℤ z *ℤ z)) (elmore_same k)

module _ (s : Stored) (num : IsNumbered s) (linked : IsLinked s.design) (net : ℕ) (name : List ℕ) (is : name_at s.nets net ≡ Some name)
    (numbers : List ℕ) (each : IsOnNet s net numbers) (there : (n : ℕ) → Contains numbers n → (p : Pin) × (pin_numbered s n ≡ Some p) × (name_at s.pins n ≡ Some (name_of p))) (split : Split) where
  abbrev on : List Pin
  on = filter (is_on name) (pins s.design)

  -- the capacitances by number are those of the pins
  pub pins_same : (h : RcCap → ℤ) → sum_of h (map charge (map (pin_cap_at s split) numbers)) ≡ sum_of h (map (pin_charge s.design split) on)
  pins_same h =
      sum_map h charge (map (pin_cap_at s split) numbers)
      ∙ sum_map (λ p. h (charge p)) (pin_cap_at s split) numbers
      ∙ sum_agree (λ n. h (charge (pin_cap_at s split n))) (λ n. option_map_or (λ p. h (pin_charge s.design split p)) (pin_numbered s n) (pos 0)) numbers
      (λ n c. let p = there n c in
      ap (λ o. h (record { node = rc_pin (unwrap_or o []); cap = record { 0 = cap_at s split true n } })) p.2
      ∙ ap (λ o. h (record { node = rc_pin (name_of p.0); cap = record { 0 = option_map_or (counted s.design split true) o (pos 0) } })) p.1
      ∙ sym (ap (λ o. option_map_or (λ q. h (pin_charge s.design split q)) o (pos 0)) p.1))
      ∙ pins_sum s num linked net name is numbers each (λ p. h (pin_charge s.design split p))
      ∙ sym (sum_map h (pin_charge s.design split) on)

  module _ (rc : NetRc) (its : rc.net ≡ name) where
    pub charges_same : (h : RcCap → ℤ) → sum_of h (rc.caps ++ map charge (map (pin_cap_at s split) numbers)) ≡ sum_of h (charges s.design split rc)
    charges_same h =
        sum_append h rc.caps (map charge (map (pin_cap_at s split) numbers))
        ∙ ap (λ z. sum_of h rc.caps +ℤ z) (pins_same h)
        ∙ sym (sum_append h rc.caps (map (pin_charge s.design split) on))
        ∙ ap (λ n. sum_of h (rc.caps ++ map (pin_charge s.design split) (filter (is_on n) (pins s.design)))) (sym its)

    -- the load of a net with parasitics
    pub load_same : rc.lump.0 +ℤ sum_of (λ c. c.cap.0) (rc.caps ++ map charge (map (pin_cap_at s split) numbers)) ≡ rc_load s.design split rc
    load_same = ap (λ z. rc.lump.0 +ℤ z) (charges_same (λ c. c.cap.0))
