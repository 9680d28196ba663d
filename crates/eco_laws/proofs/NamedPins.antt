-- Pins by their names in a design and in one that an ECO made of it: a pin that is not touched is the same, and so is one on a net that is not.

use Rattle.std.proofs.Common.{◌≡◌, ℕ, true, false, List, Option, None, Some, refl, sym, ap, subst, ◌∙◌, inl, inr}
use Rattle.std.specs.Prelude.{Contains, ◌||◌, filter, option_and_then, is_some}
use Rattle.std.specs.Option.{option_map_or}
use Rattle.std.specs.Str.{bytes_eq}
use Rattle.std.proofs.lemmas.Bool.{false≢true}
use Rattle.timing_defs.specs.declared.netlist.Inst.{Inst}
use Rattle.timing_defs.specs.Netlist.{Pin, name_of, net_of, is_on, pin_named, pins, is_listed}
use Rattle.timing_defs.specs.Touches.{Touch}
use Rattle.timing_defs.proofs.SameNames.{same_is, same_self}
use Rattle.timing_defs.proofs.Members.{found_in, in_map, in_map_back, in_filter, kept_in, passes_in}
use Rattle.netlist_store.specs.Applying.{IsEditOf}
use Rattle.netlist_store.specs.Linked.{IsLinked}
use Rattle.netlist_store.specs.Numbering.{Stored, name_at, number_of, pin_numbered, owner_number, net_number, IsNumbered}
use Rattle.netlist_store.proofs.SeenPins.{seen, seen_owner, seen_on}
use Rattle.netlist_store.proofs.Untouched.{IsLeft}
use Rattle.eco_laws.specs.Kept.{is_on_any, IsAlikePin, IsPinKept, IsSamePin, has_touched_inst, names_touched_inst, is_touched_pin, HasPinBefore, HasPinAfter, HasSame}
use Rattle.eco_laws.proofs.Lists.{either_false}
use Rattle.eco_laws.proofs.SeenLaws.{same_name}
use Rattle.eco_laws.proofs.CellsKept.{over_owner, same_owner}
use Rattle.eco_laws.proofs.PinWords.{named_self}
use Rattle.eco_laws.proofs.PinsKept.{named_so, owner_told}
use Rattle.eco_laws.proofs.EditOf.{base_linked, edited_linked, left_of, pin_kept_of}
use Rattle.eco_laws.proofs.Numbers.{number_at, net_is_before, number_of_both, has_number, inst_number, net_number_left, pin_before, pin_after}

-- the number of a pin of a design
pub pin_of_name : (s : Stored) → IsNumbered s → IsLinked s.design → (pin : Pin) → Contains (pins s.design) pin
    → (n : ℕ) → number_of s.pins (name_of pin) ≡ Some n
    → pin_numbered s n ≡ Some pin
pin_of_name s num linked pin c n e = ap (option_and_then (pin_named s.design)) (number_at s.pins (name_of pin) n e) ∙ named_self s.design linked pin c

-- the name of a pin that a number stands for
pub name_of_pin : (s : Stored) (n : ℕ) (pin : Pin) → pin_numbered s n ≡ Some pin → name_at s.pins n ≡ Some (name_of pin)
name_of_pin s n pin e = by (name_at s.pins n) e
  where
    by : (o : Option (List ℕ)) → option_and_then (pin_named s.design) o ≡ Some pin → o ≡ Some (name_of pin)
    by None h = absurd (cc)
    by (Some q) h = ap Some (sym (named_so s.design q pin h))

pub within_of_number : (s : Stored) (n : ℕ) (pin : Pin) → pin_numbered s n ≡ Some pin → Contains (pins s.design) pin
within_of_number s n pin e = by (name_at s.pins n) e
  where
    by : (o : Option (List ℕ)) → option_and_then (pin_named s.design) o ≡ Some pin → Contains (pins s.design) pin
    by None h = absurd (cc)
    by (Some q) h = found_in (λ (p : Pin). bytes_eq (name_of p) q) (pins s.design) pin h

-- pins that are alike are touched alike
pub touched_alike : (touch : Touch) (pin pin2 : Pin) → IsAlikePin touch.nets pin pin2 → is_touched_pin touch pin2 ≡ is_touched_pin touch pin
touched_alike touch pin pin2 same = λ k. on k || owned k
  where
    on : is_on_any touch.nets (net_of pin2) ≡ is_on_any touch.nets (net_of pin)
    on = elim same.joined [ inl e ↦ ap (is_on_any touch.nets) (sym e) | inr e ↦ e.1 ∙ sym e.0 ]

    owned : has_touched_inst touch pin2 ≡ has_touched_inst touch pin
    owned =
        over_owner (λ (i : Inst). is_listed touch.insts i.name) (λ (i : Inst). is_listed touch.insts i.name) false
        (λ i i2 name cell. ap (is_listed touch.insts) name)
        pin.owner pin2.owner (same_owner pin pin2 same.alike)

module _ (base : Stored) (touch : Touch) (edited : Stored) (made : IsEditOf base touch edited) where
  -- two pins of one name
  pub pin_same : (q : List ℕ) (pin pin2 : Pin) → pin_named base.design q ≡ Some pin → pin_named edited.design q ≡ Some pin2 → is_touched_pin touch pin2 ≡ false
      → IsSamePin pin pin2
  pin_same q pin pin2 e e2 off =
      let parts = either_false (is_on_any touch.nets (net_of pin2)) (has_touched_inst touch pin2) off in
      let free : names_touched_inst touch q ≡ false = sym (owner_told edited.design (edited_linked base touch edited made) touch.insts q pin2 e2) ∙ parts.1 in
      let kept : IsAlikePin touch.nets pin pin2 =
      subst (λ o. IsPinKept touch.nets (Some pin) o) e2
      (subst (λ o. IsPinKept touch.nets o (pin_named edited.design q)) e (pin_kept_of base touch edited made q free)) in
      record { alike = kept.alike; joined = net_is_before touch.nets (net_of pin) (net_of pin2) kept.joined parts.0 }

  -- the pin of the base for one of the edited design
  pub pin_there : (pin2 : Pin) → Contains (pins edited.design) pin2 → is_touched_pin touch pin2 ≡ false → HasSame base.design pin2
  pin_there pin2 c off = by (pin_named base.design (name_of pin2)) refl (pin_kept_of base touch edited made (name_of pin2) free)
    where
      here : pin_named edited.design (name_of pin2) ≡ Some pin2
      here = named_self edited.design (edited_linked base touch edited made) pin2 c

      free : names_touched_inst touch (name_of pin2) ≡ false
      free =
          sym (owner_told edited.design (edited_linked base touch edited made) touch.insts (name_of pin2) pin2 here)
          ∙ (either_false (is_on_any touch.nets (net_of pin2)) (has_touched_inst touch pin2) off).1

      by : (o : Option Pin) → pin_named base.design (name_of pin2) ≡ o
          → IsPinKept touch.nets o (pin_named edited.design (name_of pin2)) → HasSame base.design pin2
      by None e h = let f : Some pin2 ≡ None = sym here ∙ h in absurd (cc)
      by (Some pin) e h = record {
        pin = pin;
        within = found_in (λ (p : Pin). bytes_eq (name_of p) (name_of pin2)) (pins base.design) pin e;
        found = e;
        same = pin_same (name_of pin2) pin pin2 e here off;
      }

module _ (base : Stored) (touch : Touch) (edited : Stored) (made : IsEditOf base touch edited) (num : IsNumbered base) (num2 : IsNumbered edited) where
  -- a pin on a net that is not touched, whatever is of its instance
  module _ (net : List ℕ) (off : is_listed touch.nets net ≡ false) where
    left : IsLeft net base.design edited.design
    left = left_of base touch edited made net off

    on_it : (pin : Pin) → net_of pin ≡ Some net → is_on net pin ≡ true
    on_it pin e = ap (λ o. option_map_or (bytes_eq net) o false) e ∙ same_self net

    its : (o : Option (List ℕ)) → option_map_or (bytes_eq net) o false ≡ true → o ≡ Some net
    its None h = absurd (false≢true h)
    its (Some m) h = ap Some (sym (same_is net m h))

    seen_in : (s : Stored) (pin : Pin) → Contains (pins s.design) pin → net_of pin ≡ Some net → Contains (seen_on s.design net) (seen pin)
    seen_in s pin c e = in_map seen (filter (is_on net) (pins s.design)) pin (in_filter (is_on net) (pins s.design) pin c (on_it pin e))

    pub on_net_before : (n : ℕ) (pin2 : Pin) → pin_numbered edited n ≡ Some pin2 → net_of pin2 ≡ Some net → HasPinBefore base n pin2
    on_net_before n pin2 e on =
        let c = within_of_number edited n pin2 e in
        let m = in_map_back seen (filter (is_on net) (pins base.design)) (seen pin2)
        (subst (λ xs. Contains xs (seen pin2)) left.seen (seen_in edited pin2 c on)) in
        let there = kept_in (is_on net) (pins base.design) m.item m.within in
        let name = same_name m.item pin2 (sym m.same) in
        let after : number_of edited.pins (name_of m.item) ≡ Some n =
        ap (number_of edited.pins) (sym name) ∙ num2.pins.distinct n (name_of pin2) (name_of_pin edited n pin2 e) in
        let number : number_of base.pins (name_of m.item) ≡ Some n =
        sym (number_of_both base touch edited made num num2 (name_of m.item) (has_number base num m.item there) (ap is_some after)) ∙ after in
        record {
          pin = m.item;
          numbered = pin_of_name base num (base_linked base touch edited made) m.item there n number;
          same = record { alike = sym m.same; joined = on ∙ sym (its (net_of m.item) (passes_in (is_on net) (pins base.design) m.item m.within)) };
        }

    pub on_net_after : (n : ℕ) (pin : Pin) → pin_numbered base n ≡ Some pin → net_of pin ≡ Some net → HasPinAfter edited n pin
    on_net_after n pin e on =
        let c = within_of_number base n pin e in
        let m = in_map_back seen (filter (is_on net) (pins edited.design)) (seen pin)
        (subst (λ xs. Contains xs (seen pin)) (sym left.seen) (seen_in base pin c on)) in
        let there = kept_in (is_on net) (pins edited.design) m.item m.within in
        let name = same_name pin m.item m.same in
        let before : number_of base.pins (name_of m.item) ≡ Some n =
        ap (number_of base.pins) name ∙ num.pins.distinct n (name_of pin) (name_of_pin base n pin e) in
        let number : number_of edited.pins (name_of m.item) ≡ Some n =
        number_of_both base touch edited made num num2 (name_of m.item) (ap is_some before) (has_number edited num2 m.item there) ∙ before in
        record {
          pin2 = m.item;
          numbered = pin_of_name edited num2 (edited_linked base touch edited made) m.item there n number;
          same = record { alike = m.same; joined = its (net_of m.item) (passes_in (is_on net) (pins edited.design) m.item m.within) ∙ sym on };
        }

  -- what is told of the pin of a number that stands for no touched pin
  module _ {Y : Type 0} (f2 f : Pin → Option Y) (each : (pin pin2 : Pin) → IsSamePin pin pin2 → is_touched_pin touch pin ≡ false → f2 pin2 ≡ f pin) where
    pub then_pin : (n : ℕ) → option_map_or (is_touched_pin touch) (pin_numbered base n) false ≡ false
        → option_map_or (is_touched_pin touch) (pin_numbered edited n) false ≡ false
        → option_and_then f2 (pin_numbered edited n) ≡ option_and_then f (pin_numbered base n)
    then_pin n off off2 = by (pin_numbered base n) (pin_numbered edited n) refl refl
      where
        by : (o o2 : Option Pin) → pin_numbered base n ≡ o → pin_numbered edited n ≡ o2 → option_and_then f2 o2 ≡ option_and_then f o
        by None None e g = refl
        by None (Some p2) e g =
            let h = pin_before base touch edited made num num2 n p2 g (sym (ap (λ o. option_map_or (is_touched_pin touch) o false) g) ∙ off2) in
            let k : None ≡ Some h.pin = sym e ∙ h.numbered in
            absurd (cc)
        by (Some p) o2 e g =
            let free : is_touched_pin touch p ≡ false = sym (ap (λ o. option_map_or (is_touched_pin touch) o false) e) ∙ off in
            let h = pin_after base touch edited made num num2 n p e free in
            ap (option_and_then f2) (sym g ∙ h.numbered) ∙ each p h.pin2 h.same free

  -- the numbers of the instance and the net of a pin that is not touched
  module _ (n : ℕ) (off : option_map_or (is_touched_pin touch) (pin_numbered base n) false ≡ false)
      (off2 : option_map_or (is_touched_pin touch) (pin_numbered edited n) false ≡ false) where
    pub net_of_number : net_number edited n ≡ net_number base n
    net_of_number =
        nested edited (pin_numbered edited n) ∙ then_pin (net_in edited) (net_in base) each n off off2 ∙ sym (nested base (pin_numbered base n))
      where
        net_in : Stored → Pin → Option ℕ
        net_in s pin = option_and_then (number_of s.nets) (net_of pin)

        nested : (s : Stored) (o : Option Pin) → option_and_then (number_of s.nets) (option_and_then net_of o) ≡ option_and_then (net_in s) o
        nested s None = refl
        nested s (Some pin) = refl

        each : (pin pin2 : Pin) → IsSamePin pin pin2 → is_touched_pin touch pin ≡ false → net_in edited pin2 ≡ net_in base pin
        each pin pin2 same free =
            ap (option_and_then (number_of edited.nets)) same.joined
            ∙ by (net_of pin) (either_false (is_on_any touch.nets (net_of pin)) (has_touched_inst touch pin) free).0
          where
            by : (o : Option (List ℕ)) → is_on_any touch.nets o ≡ false → option_and_then (number_of edited.nets) o ≡ option_and_then (number_of base.nets) o
            by None h = refl
            by (Some net) h = net_number_left base touch edited made num num2 net h

    pub owner_of_number : owner_number edited n ≡ owner_number base n
    owner_of_number =
        nested edited (pin_numbered edited n) ∙ then_pin (owner_in edited) (owner_in base) each n off off2 ∙ sym (nested base (pin_numbered base n))
      where
        owner_in : Stored → Pin → Option ℕ
        owner_in s pin = option_and_then (λ inst. number_of s.insts inst.name) pin.owner

        nested : (s : Stored) (o : Option Pin) → option_and_then (λ inst. number_of s.insts inst.name) (option_and_then (λ p. p.owner) o)
            ≡ option_and_then (owner_in s) o
        nested s None = refl
        nested s (Some pin) = refl

        each : (pin pin2 : Pin) → IsSamePin pin pin2 → is_touched_pin touch pin ≡ false → owner_in edited pin2 ≡ owner_in base pin
        each pin pin2 same free =
            by pin.owner pin2.owner (same_owner pin pin2 same.alike) (either_false (is_on_any touch.nets (net_of pin)) (has_touched_inst touch pin) free).1
          where
            by : (o o2 : Option Inst) → seen_owner o2 ≡ seen_owner o → option_map_or (λ inst. is_listed touch.insts inst.name) o false ≡ false
                → option_and_then (λ inst. number_of edited.insts inst.name) o2 ≡ option_and_then (λ inst. number_of base.insts inst.name) o
            by None None e h = refl
            by None (Some i2) e h = absurd (cc)
            by (Some i) None e h = absurd (cc)
            by (Some i) (Some i2) e h =
                let both : (i2.name, i2.cell) ≡ (i.name, i.cell) = cc in
                ap (λ (p : List ℕ × List ℕ). number_of edited.insts p.0) both ∙ inst_number base touch edited made num num2 i.name h
