-- The endpoints of a design and their numbers.

use Rattle.std.proofs.Common.{◌≡◌, ℕ, Bool, true, false, List, filter, length, Option, None, Some, refl, sym, ap, subst, ◌∙◌}
use Rattle.std.specs.Prelude.{Contains, is_some, option_map, option_and_then}
use Rattle.std.specs.List.{range_with_len}
use Rattle.std.specs.Option.{option_map_or}
use Rattle.std.proofs.lemmas.Bool.{false≢true}
use Rattle.timing_defs.specs.Netlist.{Pin, name_of, pins, pin_named}
use Rattle.timing_rules.specs.Tests.{is_endpoint}
use Rattle.timing_rules.specs.Reports.{endpoints}
use Rattle.netlist_store.specs.Linked.{IsLinked}
use Rattle.netlist_store.specs.Numbering.{Stored, name_at, is_number, pin_numbered, IsNumbered}
use Rattle.timing_defs.proofs.Members.{some_is, in_map, in_map_back, in_filter, passes_in, kept_in, number_in}
use Rattle.store_pins.proofs.PinLaws.{HasNumber, pin_of_number, pin_told}
use Rattle.affected_cone.specs.Analysed.{is_end, ends_of}

-- an endpoint of the design, and its number
pub record IsEndpoint (s : Stored) (n : ℕ) : Type 0 where
  pub pin : Pin
  pub has : HasNumber s pin n
  pub end : is_endpoint s.design pin ≡ true

-- whether a number is an endpoint's, by the pin that it stands for
pub told_end : (s : Stored) (pin : ℕ) (r : Bool) → is_number s.pins pin ≡ true → option_map (is_endpoint s.design) (pin_numbered s pin) ≡ Some r → is_end s pin ≡ r
told_end s pin r is e = by (pin_numbered s pin) refl
  where
    by : (o : Option Pin) → pin_numbered s pin ≡ o → is_end s pin ≡ r
    by None h = let f : None ≡ Some r = sym (ap (option_map (is_endpoint s.design)) h) ∙ e in absurd (cc)
    by (Some p) h =
        let f : Some (is_endpoint s.design p) ≡ Some r = sym (ap (option_map (is_endpoint s.design)) h) ∙ e in
        ap (λ o. option_map_or (is_endpoint s.design) o false) h ∙ some_is f

pub gap_no_end : (s : Stored) (pin : ℕ) → is_number s.pins pin ≡ false → is_end s pin ≡ false
gap_no_end s pin gap = by (name_at s.pins pin) refl
  where
    by : (o : Option (List ℕ)) → name_at s.pins pin ≡ o → is_end s pin ≡ false
    by None h = ap (λ o. option_map_or (is_endpoint s.design) o false) (ap (option_and_then (pin_named s.design)) h)
    by (Some name) h = absurd (false≢true (sym gap ∙ ap is_some h))

module _ (s : Stored) (num : IsNumbered s) (linked : IsLinked s.design) where
  pub end_pin : (n : ℕ) → is_end s n ≡ true → IsEndpoint s n
  end_pin n e = by (pin_numbered s n) refl
    where
      by : (o : Option Pin) → pin_numbered s n ≡ o → IsEndpoint s n
      by None h = absurd (false≢true (sym (ap (λ o. option_map_or (is_endpoint s.design) o false) h) ∙ e))
      by (Some p) h = record {
        pin = p;
        has = pin_of_number s num linked n p h;
        end = sym (ap (λ o. option_map_or (is_endpoint s.design) o false) h) ∙ e;
      }

  pub pin_end : (p : Pin) (n : ℕ) → HasNumber s p n → is_endpoint s.design p ≡ true → is_end s n ≡ true
  pin_end p n h e = ap (λ o. option_map_or (is_endpoint s.design) o false) h.pin ∙ e

  pub end_listed : (n : ℕ) → is_end s n ≡ true → Contains (ends_of s) n
  end_listed n e = let p = end_pin n e in in_filter (is_end s) (range_with_len 0 (length s.pins)) n (number_in (length s.pins) n p.has.below) e

  pub listed_end : (n : ℕ) → Contains (ends_of s) n → is_end s n ≡ true
  listed_end n c = passes_in (is_end s) (range_with_len 0 (length s.pins)) n c

  pub end_named : (n : ℕ) (name : List ℕ) → is_end s n ≡ true → name_at s.pins n ≡ Some name → Contains (endpoints s.design) name
  end_named n name e at =
      let p = end_pin n e in
      subst (λ (w : List ℕ). Contains (endpoints s.design) w) (some_is (sym p.has.name ∙ at))
      (in_map name_of (filter (is_endpoint s.design) (pins s.design)) p.pin (in_filter (is_endpoint s.design) (pins s.design) p.pin p.has.within p.end))

  -- an endpoint's name has a number
  pub record HasEnd (name : List ℕ) : Type 0 where
    pub number : ℕ
    pub end : is_end s number ≡ true
    pub told : name_at s.pins number ≡ Some name

  pub name_end : (name : List ℕ) → Contains (endpoints s.design) name → HasEnd name
  name_end name c =
      let m = in_map_back name_of (filter (is_endpoint s.design) (pins s.design)) name c in
      let within = kept_in (is_endpoint s.design) (pins s.design) m.item m.within in
      let p = pin_told s num linked m.item within in
      record {
        number = p.0;
        end = pin_end m.item p.0 p.1 (passes_in (is_endpoint s.design) (pins s.design) m.item m.within);
        told = p.1.name ∙ ap Some m.same;
      }
