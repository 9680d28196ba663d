-- Nets without resistors, and the tables of wires net by net.

use Rattle.std.proofs.Common.{◌≡◌, ℕ, suc, ◌^◌, ℤ, pos, ◌+ℤ◌, ◌*ℤ◌, Bool, true, false, not, cond, List, [], ◌∷◌, map, filter, length, None, Some, refl, sym, ap, ◌∙◌, inl, inr, arith}
use Rattle.std.specs.Prelude.{nat_eq, nat_abs, ◌&&◌, if◌then◌else◌, Contains}
use Rattle.std.specs.Option.{option_map_or, unwrap_or}
use Rattle.std.proofs.lemmas.Bool.{cases_Bool, eqb-true}
use Rattle.std.proofs.lemmas.Int.{ints}
use Rattle.sta_units.specs.Numbers.{rounded, root_of}
use Rattle.timing_defs.specs.declared.kinds.Split.{Split}
use Rattle.timing_defs.specs.declared.parasitics.RcNode.{RcNode}
use Rattle.timing_defs.specs.declared.parasitics.RcCap.{RcCap}
use Rattle.timing_defs.specs.declared.parasitics.RcRes.{RcRes}
use Rattle.timing_defs.specs.declared.parasitics.NetRc.{NetRc}
use Rattle.timing_defs.specs.declared.design.Design.{Design}
use Rattle.timing_defs.specs.Netlist.{Pin, name_of, pins, net_of, is_on, is_driver, sinks}
use Rattle.timing_defs.specs.Wires.{sum_of, same_rc, common_resistance, shared_resistance, elmore, charges, rc_of, rc_load, net_load, pin_cap, is_lumped, root_node, wire_delay, wire_slew, impulse}
use Rattle.timing_rules.specs.Rows.{net_name}
use Rattle.netlist_store.specs.Linked.{IsLinked}
use Rattle.netlist_store.specs.Numbering.{Stored, name_at, pin_numbered, IsNumbered}
use Rattle.node_rows.specs.WireTables.{IsWire}
use Rattle.node_rows.specs.NetPins.{IsOnNet, counted, cap_at, pin_cap_at}
use Rattle.node_rows.proofs.PinSums.{sum_map, pins_sum}
use Rattle.node_rows.proofs.TreeForms.{charge, sum_append, load_same}

-- without resistors there is no delay
pub no_ress : (ress : List RcRes) → nat_eq (length ress) 0 ≡ true → ress ≡ []
no_ress [] h = refl
no_ress (r ∷ rs) h = absurd (let e : suc (length rs) ≡ 0 = eqb-true (suc (length rs)) 0 h in omega (arith, e))

nothing : (z : ℤ) → pos 0 *ℤ z ≡ pos 0
nothing z = omega (arith, ints)

no_sum : {X : Type 0} (f : X → ℤ) (xs : List X) → ((x : X) → f x ≡ pos 0) → sum_of f xs ≡ pos 0
no_sum f [] h = refl
no_sum f (x ∷ xs) h = ap (λ z. z +ℤ sum_of f xs) (h x) ∙ ap (λ z. pos 0 +ℤ z) (no_sum f xs h)

no_shared : (root i k : RcNode) → shared_resistance [] root i k ≡ pos 0
no_shared root i k = by (same_rc root i) (same_rc root k)
  where
    by : (a b : Bool) → common_resistance (unwrap_or (if a then Some [] else None) []) (unwrap_or (if b then Some [] else None) []) ≡ pos 0
    by true true = refl
    by true false = refl
    by false true = refl
    by false false = refl

round_none : rounded (pos 0) (pos (10 ^ 6)) ≡ pos 0
unfolding rounded
round_none = refl

pub no_delay : (ress : List RcRes) (root : RcNode) (xs : List RcCap) (k : RcNode) → nat_eq (length ress) 0 ≡ true → elmore ress root xs k ≡ pos 0
no_delay ress root xs k h =
    ap (λ rs. elmore rs root xs k) (no_ress ress h)
    ∙ ap (λ z. rounded z (pos (10 ^ 6)))
    (no_sum (λ (c : RcCap). shared_resistance [] root c.node k *ℤ c.cap.0) xs
    (λ c. ap (λ z. z *ℤ c.cap.0) (no_shared root c.node k) ∙ nothing c.cap.0))
    ∙ round_none

-- a wire without resistors
module _ (d : Design) (from to : Pin) (name : List ℕ) (on : net_of to ≡ Some name) where
  word : net_name to ≡ name
  word = ap (λ o. unwrap_or o []) on

  pub bare_wire : rc_of d name ≡ None → IsWire d from to None
  bare_wire e =
      record {
        delay = λ split. ap (λ n. wire_delay d split n from to) word
            ∙ ap (λ o. option_map_or (λ rc. elmore rc.ress (root_node from) (charges d split rc) (root_node to)) o (pos 0)) e;
        slew = λ split x. ap (λ n. wire_slew d split n from to x) word
            ∙ ap (λ o. option_map_or (λ rc. if is_lumped rc then x else end split x rc) o x) e;
        within = λ split. refl;
      }
    where
      end : Split → ℤ → NetRc → ℤ
      end split x rc = pos (root_of (nat_abs (x *ℤ x +ℤ impulse rc.ress (root_node from) (charges d split rc) (root_node to))))

  pub lumped_wire : (rc : NetRc) → rc_of d name ≡ Some rc → is_lumped rc ≡ true → IsWire d from to None
  lumped_wire rc e lumped =
      record {
        delay = λ split. ap (λ n. wire_delay d split n from to) word
            ∙ ap (λ o. option_map_or (λ r. elmore r.ress (root_node from) (charges d split r) (root_node to)) o (pos 0)) e
            ∙ no_delay rc.ress (root_node from) (charges d split rc) (root_node to) lumped;
        slew = λ split x. ap (λ n. wire_slew d split n from to x) word
            ∙ ap (λ o. option_map_or
            (λ r. if is_lumped r then x else pos (root_of (nat_abs (x *ℤ x +ℤ impulse r.ress (root_node from) (charges d split r) (root_node to))))) o x) e
            ∙ ap (λ b. if b then x else pos (root_of (nat_abs (x *ℤ x +ℤ impulse rc.ress (root_node from) (charges d split rc) (root_node to))))) lumped;
        within = λ split. refl;
      }

-- the loads of nets without resistors
module _ (s : Stored) (num : IsNumbered s) (linked : IsLinked s.design) (net : ℕ) (name : List ℕ) (is : name_at s.nets net ≡ Some name)
    (items : List ℕ) (each : IsOnNet s net items) (split : Split) where
  abbrev d : Design
  d = s.design

  sinks_only : (xs : List Pin) → sum_of (counted d split false) (filter (is_on name) xs) ≡ sum_of (pin_cap d split) (filter (λ pin. not (is_driver pin) && is_on name pin) xs)
  sinks_only [] = refl
  sinks_only (x ∷ xs) = elim (cases_Bool (is_on name x)) [
    | inl h ↦ elim (cases_Bool (is_driver x)) [
      | inl k ↦ rw (h, k) (zero_more (sum_of (counted d split false) (filter (is_on name) xs)) ∙ sinks_only xs)
      | inr k ↦ rw (h, k) (ap (λ z. pin_cap d split x +ℤ z) (sinks_only xs))
    ]
    | inr h ↦ rw h (sinks_only xs ∙ ap (λ b. sum_of (pin_cap d split) (cond b (x ∷ filter (λ pin. not (is_driver pin) && is_on name pin) xs) (filter (λ pin. not (is_driver pin) && is_on name pin) xs))) (sym (and_no (not (is_driver x)))))
  ]
    where
      zero_more : (z : ℤ) → pos 0 +ℤ z ≡ z
      zero_more z = omega (arith, ints)

      and_no : (a : Bool) → (a && false) ≡ false
      and_no true = refl
      and_no false = refl

  pub bare_load : rc_of d name ≡ None → sum_of (cap_at s split false) items ≡ net_load d split name
  bare_load e =
      pins_sum s num linked net name is items each (counted d split false)
      ∙ sinks_only (pins d)
      ∙ sym (ap (λ o. option_map_or (rc_load d split) o (sum_of (pin_cap d split) (sinks d name))) e)

  pub lumped_load : (rc : NetRc) → rc_of d name ≡ Some rc → rc.net ≡ name
      → ((n : ℕ) → Contains items n → (p : Pin) × (pin_numbered s n ≡ Some p) × (name_at s.pins n ≡ Some (name_of p)))
      → (rc.lump.0 +ℤ sum_of (λ c. c.cap.0) rc.caps) +ℤ sum_of (cap_at s split true) items ≡ net_load d split name
  lumped_load rc e its there =
      joined rc.lump.0 (sum_of (λ (c : RcCap). c.cap.0) rc.caps) (sum_of (cap_at s split true) items)
      ∙ ap (λ z. rc.lump.0 +ℤ (sum_of (λ (c : RcCap). c.cap.0) rc.caps +ℤ z))
      (sym (sum_map (λ (c : RcCap). c.cap.0) charge (map (pin_cap_at s split) items) ∙ sum_map (λ p. p.cap.0) (pin_cap_at s split) items))
      ∙ ap (λ z. rc.lump.0 +ℤ z) (sym (sum_append (λ (c : RcCap). c.cap.0) rc.caps (map charge (map (pin_cap_at s split) items))))
      ∙ load_same s num linked net name is items each there split rc its
      ∙ sym (ap (λ o. option_map_or (rc_load d split) o (sum_of (pin_cap d split) (sinks d name))) e)
    where
      joined : (a b c : ℤ) → (a +ℤ b) +ℤ c ≡ a +ℤ (b +ℤ c)
      joined a b c = omega (arith, ints)
