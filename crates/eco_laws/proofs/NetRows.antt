-- The pins on a net that is not touched, by their numbers: the same in a store and in one that an ECO made of it.

use Rattle.std.proofs.Common.{◌≡◌, ℕ, true, false, List, [], ◌∷◌, map, Option, None, Some, refl, sym, ap, ◌∙◌}
use Rattle.std.specs.Prelude.{Contains, nat_eq, option_and_then, is_some}
use Rattle.std.specs.Option.{option_map_or}
use Rattle.std.proofs.lemmas.Bool.{false≢true, eqb-true, eq-eqb}
use Rattle.timing_defs.specs.Netlist.{Pin, name_of, net_of, pins, sinks, is_listed}
use Rattle.timing_defs.specs.Touches.{Touch}
use Rattle.timing_defs.proofs.ListLemmas.{bool_iff}
use Rattle.timing_defs.proofs.Members.{some_is, first_in, later_in, kept_in}
use Rattle.netlist_store.specs.Applying.{IsEditOf}
use Rattle.netlist_store.specs.Numbering.{Stored, name_at, number_of, pin_numbered, is_on_number, IsNumbered}
use Rattle.netlist_store.proofs.SeenPins.{seen}
use Rattle.eco_laws.proofs.SeenLaws.{same_name}
use Rattle.eco_laws.proofs.NetsLeft.{sinks_left}
use Rattle.eco_laws.proofs.EditOf.{left_of, framed_of}
use Rattle.eco_laws.proofs.Numbers.{number_at, number_of_both, has_number, net_name_before}
use Rattle.eco_laws.proofs.NamedPins.{on_net_before, on_net_after}

-- the pin of a number that is on the net of a number
record IsPinOn (s : Stored) (net : List ℕ) (n : ℕ) : Type 0 where
  pin : Pin
  numbered : pin_numbered s n ≡ Some pin
  on : net_of pin ≡ Some net

on_told : (s : Stored) (m n : ℕ) (net : List ℕ) → name_at s.nets m ≡ Some net → is_on_number s m n ≡ true → IsPinOn s net n
on_told s m n net named h = by (pin_numbered s n) refl h
  where
    at_net : (pin : Pin) → pin_numbered s n ≡ Some pin → (o : Option (List ℕ)) → net_of pin ≡ o
        → (k : Option ℕ) → option_and_then (number_of s.nets) o ≡ k → option_map_or (nat_eq m) k false ≡ true → IsPinOn s net n
    at_net pin e None f k g h = absurd (false≢true (ap (λ x. option_map_or (nat_eq m) x false) g ∙ h))
    at_net pin e (Some q) f None g h = absurd (false≢true h)
    at_net pin e (Some q) f (Some k) g h =
        let same : q ≡ net = some_is (sym (number_at s.nets q k g) ∙ ap (name_at s.nets) (sym (eqb-true m k h)) ∙ named) in
        record { pin = pin; numbered = e; on = f ∙ ap Some same }

    by : (o : Option Pin) → pin_numbered s n ≡ o
        → option_map_or (nat_eq m) (option_and_then (number_of s.nets) (option_and_then net_of o)) false ≡ true → IsPinOn s net n
    by None e h = absurd (false≢true h)
    by (Some pin) e h = at_net pin e (net_of pin) refl (option_and_then (number_of s.nets) (net_of pin)) refl h

on_made : (s : Stored) → IsNumbered s → (m n : ℕ) (net : List ℕ) → name_at s.nets m ≡ Some net
    → (pin : Pin) → pin_numbered s n ≡ Some pin → net_of pin ≡ Some net → is_on_number s m n ≡ true
on_made s num m n net named pin e on =
    ap (λ o. option_map_or (nat_eq m) (option_and_then (number_of s.nets) (option_and_then net_of o)) false) e
    ∙ ap (λ o. option_map_or (nat_eq m) (option_and_then (number_of s.nets) o) false) on
    ∙ ap (λ o. option_map_or (nat_eq m) o false) (num.nets.distinct m net named)
    ∙ eq-eqb m m refl

module _ (base : Stored) (touch : Touch) (edited : Stored) (made : IsEditOf base touch edited) (num : IsNumbered base) (num2 : IsNumbered edited)
    (net : List ℕ) (off : is_listed touch.nets net ≡ false) where
  pub on_number_left : (m : ℕ) → name_at edited.nets m ≡ Some net → (n : ℕ) → is_on_number edited m n ≡ is_on_number base m n
  on_number_left m named n = bool_iff (is_on_number edited m n) (is_on_number base m n) there back
    where
      before : name_at base.nets m ≡ Some net
      before = net_name_before base touch edited made num num2 m net named off

      there : is_on_number edited m n ≡ true → is_on_number base m n ≡ true
      there h =
          let p = on_told edited m n net named h in
          let q = on_net_before base touch edited made num num2 net off n p.pin p.numbered p.on in
          on_made base num m n net before q.pin q.numbered (sym q.same.joined ∙ p.on)

      back : is_on_number base m n ≡ true → is_on_number edited m n ≡ true
      back h =
          let p = on_told base m n net before h in
          let q = on_net_after base touch edited made num num2 net off n p.pin p.numbered p.on in
          on_made edited num2 m n net named q.pin2 q.numbered (q.same.joined ∙ p.on)

  -- the numbers of the sinks, in their order
  pub sink_numbers_left : map (λ pin. number_of edited.pins (name_of pin)) (sinks edited.design net)
      ≡ map (λ pin. number_of base.pins (name_of pin)) (sinks base.design net)
  sink_numbers_left =
      by (sinks base.design net) (sinks edited.design net)
      (sinks_left net base.design edited.design (left_of base touch edited made net off) (framed_of base touch edited made))
      (λ p c. kept_in _ (pins base.design) p c) (λ p c. kept_in _ (pins edited.design) p c)
    where
      one : (p p2 : Pin) → seen p2 ≡ seen p → Contains (pins base.design) p → Contains (pins edited.design) p2
          → number_of edited.pins (name_of p2) ≡ number_of base.pins (name_of p)
      one p p2 e c c2 =
          let same = same_name p p2 e in
          ap (number_of edited.pins) same
          ∙ number_of_both base touch edited made num num2 (name_of p) (has_number base num p c)
          (sym (ap (λ q. is_some (number_of edited.pins q)) same) ∙ has_number edited num2 p2 c2)

      by : (ps ps2 : List Pin) → map seen ps2 ≡ map seen ps → ((p : Pin) → Contains ps p → Contains (pins base.design) p)
          → ((p : Pin) → Contains ps2 p → Contains (pins edited.design) p)
          → map (λ pin. number_of edited.pins (name_of pin)) ps2 ≡ map (λ pin. number_of base.pins (name_of pin)) ps
      by [] [] e in1 in2 = refl
      by [] (p2 ∷ ps2) e in1 in2 = absurd (cc)
      by (p ∷ ps) [] e in1 in2 = absurd (cc)
      by (p ∷ ps) (p2 ∷ ps2) e in1 in2 =
          let heads : seen p2 ≡ seen p = cc in
          let tails : map seen ps2 ≡ map seen ps = cc in
          λ k. one p p2 heads (in1 p (first_in p ps)) (in2 p2 (first_in p2 ps2)) k
          ∷ by ps ps2 tails (λ q c. in1 q (later_in p ps q c)) (λ q c. in2 q (later_in p2 ps2 q c)) k
