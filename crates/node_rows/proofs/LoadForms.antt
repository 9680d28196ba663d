-- The loads of nets without resistors, as sums over the pins of a store.

use Rattle.std.proofs.Common.{◌≡◌, ℕ, zero, suc, ◌+◌, ◌<◌, ℤ, pos, negsuc, ◌+ℤ◌, Bool, true, false, not, ◌&&◌, ◌||◌, List, [], ◌∷◌, length, get_or, Option, None, Some, refl, sym, ap, ◌∙◌, if◌then◌else◌, arith}
use Rattle.std.specs.Prelude.{nat_abs, int_le, option_map, option_and_then, Contains}
use Rattle.std.specs.List.{list_all}
use Rattle.std.specs.Option.{option_map_or}
use Rattle.std.proofs.lemmas.Bool.{false≢true, and_parts}
use Rattle.std.proofs.lemmas.Int.{ints}
use Rattle.sta_units.specs.Numbers.{is_within}
use Rattle.timing_defs.specs.declared.kinds.Split.{Split}
use Rattle.timing_defs.specs.declared.parasitics.NetRc.{NetRc}
use Rattle.timing_defs.specs.declared.parasitics.RcCap.{RcCap}
use Rattle.timing_defs.specs.declared.parasitics.RcRes.{RcRes}
use Rattle.timing_defs.specs.declared.design.Design.{Design}
use Rattle.timing_defs.specs.Netlist.{Pin, name_of, is_driver}
use Rattle.timing_defs.specs.Wires.{sum_of, net_load, rc_of, pin_cap}
use Rattle.netlist_store.specs.Linked.{IsLinked}
use Rattle.timing_defs.specs.Documents.{is_amount}
use Rattle.netlist_store.specs.Numbering.{Stored, name_at, is_number, pin_numbered, IsNumbered}
use Rattle.node_rows.specs.NetPins.{IsOnNet, counted, cap_at}
use Rattle.timing_defs.proofs.Members.{some_is}
use Rattle.store_pins.proofs.PinLaws.{there}
use Rattle.node_rows.proofs.PinSums.{on_number}
use Rattle.node_rows.proofs.TreeNets.{counted_on, rc_in, rc_name, rc_good}
use Rattle.node_rows.proofs.WireForms.{bare_load, lumped_load}

-- an item that is read with itself as the default
pub read_twice : (xs : List ℕ) (i d : ℕ) → i < length xs → get_or xs i d ≡ get_or xs i (get_or xs i d)
read_twice [] i d low = absurd (omega arith)
read_twice (x ∷ xs) zero d low = refl
read_twice (x ∷ xs) (suc i) d low = read_twice xs i d (omega arith)

-- the capacitance of a pin that counts, and of one that does not
pub counted_yes : (d : Design) (split : Split) (drivers : Bool) (o : Option Pin) (driving counts : Bool) (cap : ℤ) → option_map is_driver o ≡ Some driving
    → counts ≡ (drivers || not driving) → counts ≡ true → option_map (pin_cap d split) o ≡ Some cap → cap ≡ option_map_or (counted d split drivers) o (pos 0)
counted_yes d split drivers None driving counts cap e f g h = absurd (cc)
counted_yes d split drivers (Some p) driving counts cap e f g h =
    sym (some_is h)
    ∙ sym (ap (λ b. if b then pin_cap d split p else pos 0) (ap (λ t. drivers || not t) (some_is e) ∙ sym f ∙ g))

pub counted_no : (d : Design) (split : Split) (drivers : Bool) (o : Option Pin) (driving counts : Bool) → option_map is_driver o ≡ Some driving
    → counts ≡ (drivers || not driving) → counts ≡ false → pos 0 ≡ option_map_or (counted d split drivers) o (pos 0)
counted_no d split drivers None driving counts e f g = refl
counted_no d split drivers (Some p) driving counts e f g =
    sym (ap (λ b. if b then pin_cap d split p else pos 0) (ap (λ t. drivers || not t) (some_is e) ∙ sym f ∙ g))

amount_is : (z : ℤ) → is_amount z ≡ true → pos (nat_abs z) ≡ z
amount_is (pos n) h = refl
amount_is (negsuc n) h = absurd (false≢true (and_parts (int_le (pos 0) (negsuc n)) (is_within (negsuc n)) h).0)

three : (a b c : ℕ) (x y z : ℤ) → pos a ≡ x → pos b ≡ y → pos c ≡ z → pos (a + b + c) ≡ (x +ℤ y) +ℤ z
three a b c x y z e f g =
    whole a b c ∙ ap (λ u. (u +ℤ pos b) +ℤ pos c) e ∙ ap (λ u. (x +ℤ u) +ℤ pos c) f ∙ ap (λ u. (x +ℤ y) +ℤ u) g
  where
    whole : (a b c : ℕ) → pos (a + b + c) ≡ (pos a +ℤ pos b) +ℤ pos c
    whole a b c = omega (arith, ints)

module _ (s : Stored) (num : IsNumbered s) (linked : IsLinked s.design) (split : Split) (net : ℕ) (is : is_number s.nets net ≡ true)
    (items : List ℕ) (each : IsOnNet s net items) where
  abbrev d : Design
  d = s.design

  its_name : (name : List ℕ) × (name_at s.nets net ≡ Some name)
  its_name = there (name_at s.nets net) is

  on_net : (n : ℕ) → Contains items n → (p : Pin) × (pin_numbered s n ≡ Some p) × (name_at s.pins n ≡ Some (name_of p))
  on_net n c = let p = on_number s num linked net its_name.0 its_name.1 n (counted_on s net items each n c) in (p.0, p.1.pin, p.1.name)

  pub bare_told : option_and_then (rc_of d) (name_at s.nets net) ≡ None → (total : ℕ) → pos total ≡ sum_of (cap_at s split false) items
      → option_map (net_load d split) (name_at s.nets net) ≡ Some (pos total)
  bare_told bare total e =
      ap (option_map (net_load d split)) its_name.1
      ∙ ap Some (sym (e ∙ bare_load s num linked net its_name.0 its_name.1 items each split (sym (ap (option_and_then (rc_of d)) its_name.1) ∙ bare)))

  module _ (rc : NetRc) (its : option_and_then (rc_of d) (name_at s.nets net) ≡ Some rc) where
    rc_there : rc_of d its_name.0 ≡ Some rc
    rc_there = sym (ap (option_and_then (rc_of d)) its_name.1) ∙ its

    amounts : (list_all (λ (c : RcCap). is_amount c.cap.0) rc.caps ≡ true) × (is_amount rc.lump.0 ≡ true)
    amounts =
        let whole = rc_good d linked rc (rc_in d its_name.0 rc rc_there) in
        let one = and_parts (list_all (λ (c : RcCap). is_amount c.cap.0) rc.caps && list_all (λ (r : RcRes). is_amount r.res.0) rc.ress) (is_amount rc.lump.0) whole in
        ((and_parts (list_all (λ (c : RcCap). is_amount c.cap.0) rc.caps) (list_all (λ (r : RcRes). is_amount r.res.0) rc.ress) one.0).0, one.1)

    pub caps_fine : list_all (λ (c : RcCap). is_amount c.cap.0) rc.caps ≡ true
    caps_fine = amounts.0

    pub lumped_told : (lump caps pins : ℕ) → lump ≡ nat_abs rc.lump.0 → pos caps ≡ sum_of (λ (c : RcCap). c.cap.0) rc.caps → pos pins ≡ sum_of (cap_at s split true) items
        → option_map (net_load d split) (name_at s.nets net) ≡ Some (pos (lump + caps + pins))
    lumped_told lump caps pins e f g =
        ap (option_map (net_load d split)) its_name.1
        ∙ ap Some (sym (three lump caps pins rc.lump.0 (sum_of (λ (c : RcCap). c.cap.0) rc.caps) (sum_of (cap_at s split true) items)
        (ap pos e ∙ amount_is rc.lump.0 amounts.1) f g
        ∙ lumped_load s num linked net its_name.0 its_name.1 items each split rc rc_there (rc_name d its_name.0 rc rc_there) on_net))

-- a load that is told, and whether it lies within the limit
pub within_told : (d : Design) (split : Split) (o : Option (List ℕ)) (z : ℤ) → option_map (net_load d split) o ≡ Some z → is_within z ≡ false
    → option_map (λ name. is_within (net_load d split name)) o ≡ Some false
within_told d split None z e h = absurd (cc)
within_told d split (Some name) z e h = ap Some (ap is_within (some_is e) ∙ h)
