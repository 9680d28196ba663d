-- Pins by what their nets see of them: names, directions, capacitances, and lists of pins on a net.

use Rattle.std.proofs.Common.{◌≡◌, ℕ, true, false, List, [], ◌∷◌, ◌++◌, map, filter, Option, None, Some, refl, sym, ap, ◌∙◌, inl, inr, not}
use Rattle.std.specs.Prelude.{find, option_map, ◌+ℤ◌, ◌&&◌}
use Rattle.std.proofs.lemmas.Bool.{cases_Bool}
use Rattle.timing_defs.specs.declared.kinds.Split.{Split}
use Rattle.timing_defs.specs.declared.kinds.Dir.{Dir}
use Rattle.timing_defs.specs.declared.netlist.Inst.{Inst}
use Rattle.timing_defs.specs.declared.parasitics.NetRc.{NetRc}
use Rattle.timing_defs.specs.declared.parasitics.RcCap.{RcCap}
use Rattle.timing_defs.specs.declared.parasitics.RcNode.TheVariants.{Pin as rc_pin}
use Rattle.timing_defs.specs.declared.design.Design.{Design}
use Rattle.timing_defs.specs.Netlist.{Pin, name_of, full_name, is_on, is_driver, drives_as, driver, drivers, sinks, library_of, pins}
use Rattle.timing_defs.specs.Wires.{sum_of, owner_cap, pin_cap, charges, root_node}
use Rattle.netlist_store.proofs.SeenPins.{Seen, seen, seen_owner, seen_on}
use Rattle.eco_laws.specs.Seen.{name_by, seen_name, seen_root, drives_by, drives_seen, cap_by, cap_seen, charge_seen}

name_told : (owner : Option Inst) (own : List ℕ) → full_name owner own ≡ name_by (seen_owner owner) own
name_told None own = refl
name_told (Some inst) own = refl

drives_told : (owner : Option Inst) (dir : Dir) → drives_as owner dir ≡ drives_by (seen_owner owner) dir
drives_told None dir = refl
drives_told (Some inst) dir = refl

cap_told : (d : Design) (split : Split) (owner : Option Inst) (own : List ℕ)
    → owner_cap d split owner own ≡ cap_by (library_of d split) d.constraints.loads split (seen_owner owner) own
cap_told d split None own = refl
cap_told d split (Some inst) own = refl

pub name_is : (p : Pin) → name_of p ≡ seen_name (seen p)
name_is p = name_told p.owner p.own

pub root_is : (p : Pin) → root_node p ≡ seen_root (seen p)
root_is p = ap rc_pin (name_is p)

pub drives_is : (p : Pin) → is_driver p ≡ drives_seen (seen p)
drives_is p = drives_told p.owner p.dir

pub cap_is : (d : Design) (split : Split) (p : Pin) → pin_cap d split p ≡ cap_seen (library_of d split) d.constraints.loads split (seen p)
cap_is d split p = cap_told d split p.owner p.own

-- pins that are seen alike
module _ (p p2 : Pin) (same : seen p2 ≡ seen p) where
  pub same_name : name_of p2 ≡ name_of p
  same_name = name_is p2 ∙ ap seen_name same ∙ sym (name_is p)

  pub same_drives : is_driver p2 ≡ is_driver p
  same_drives = drives_is p2 ∙ ap drives_seen same ∙ sym (drives_is p)

  pub same_own : p2.own ≡ p.own
  same_own = ap (λ (s : Seen). s.own) same

  pub same_dirs : p2.dir ≡ p.dir
  same_dirs = ap (λ (s : Seen). s.dir) same

-- lists of pins
pub names_are : (ps : List Pin) → map name_of ps ≡ map seen_name (map seen ps)
names_are [] = refl
names_are (p ∷ ps) = λ k. name_is p k ∷ names_are ps k

pub caps_are : (d : Design) (split : Split) (ps : List Pin)
    → sum_of (pin_cap d split) ps ≡ sum_of (cap_seen (library_of d split) d.constraints.loads split) (map seen ps)
caps_are d split [] = refl
caps_are d split (p ∷ ps) = λ k. cap_is d split p k +ℤ caps_are d split ps k

module _ (d : Design) (split : Split) where
  abbrev charge_of : Pin → RcCap
  charge_of pin = record { node = rc_pin (name_of pin); cap = record { 0 = pin_cap d split pin } }

  charge_is : (p : Pin) → charge_of p ≡ charge_seen (library_of d split) d.constraints.loads split (seen p)
  charge_is p = λ k. record { node = rc_pin (name_is p k); cap = record { 0 = cap_is d split p k } }

  charges_of : (ps : List Pin) → map charge_of ps ≡ map (charge_seen (library_of d split) d.constraints.loads split) (map seen ps)
  charges_of [] = refl
  charges_of (p ∷ ps) = λ k. charge_is p k ∷ charges_of ps k

  pub charges_are : (rc : NetRc) → charges d split rc ≡ rc.caps ++ map (charge_seen (library_of d split) d.constraints.loads split) (seen_on d rc.net)
  charges_are rc = ap (λ xs. rc.caps ++ xs) (charges_of (filter (is_on rc.net) (pins d)))

-- the pins on a net that drive, and those that do not
module _ (net : List ℕ) where
  drivers_by : (ps : List Pin) → map seen (filter (λ p. is_driver p && is_on net p) ps) ≡ filter drives_seen (map seen (filter (is_on net) ps))
  drivers_by [] = refl
  drivers_by (p ∷ ps) = elim (cases_Bool (is_on net p)) [
    | inl e ↦ elim (cases_Bool (is_driver p)) [
      | inl f ↦ let g : drives_seen (seen p) ≡ true = sym (drives_is p) ∙ f in rw f (rw e (rw g (ap (λ xs. seen p ∷ xs) (drivers_by ps))))
      | inr f ↦ let g : drives_seen (seen p) ≡ false = sym (drives_is p) ∙ f in rw f (rw e (rw g (drivers_by ps)))
    ]
    | inr e ↦ elim (cases_Bool (is_driver p)) [
      | inl f ↦ rw f (rw e (drivers_by ps))
      | inr f ↦ rw f (rw e (drivers_by ps))
    ]
  ]

  sinks_by : (ps : List Pin) → map seen (filter (λ p. not (is_driver p) && is_on net p) ps)
      ≡ filter (λ s. not (drives_seen s)) (map seen (filter (is_on net) ps))
  sinks_by [] = refl
  sinks_by (p ∷ ps) = elim (cases_Bool (is_on net p)) [
    | inl e ↦ elim (cases_Bool (is_driver p)) [
      | inl f ↦ let g : drives_seen (seen p) ≡ true = sym (drives_is p) ∙ f in rw f (rw e (rw g (sinks_by ps)))
      | inr f ↦ let g : drives_seen (seen p) ≡ false = sym (drives_is p) ∙ f in rw f (rw e (rw g (ap (λ xs. seen p ∷ xs) (sinks_by ps))))
    ]
    | inr e ↦ elim (cases_Bool (is_driver p)) [
      | inl f ↦ rw f (rw e (sinks_by ps))
      | inr f ↦ rw f (rw e (sinks_by ps))
    ]
  ]

  driver_by : (ps : List Pin) → option_map seen (find (λ p. is_driver p && is_on net p) ps) ≡ find drives_seen (map seen (filter (is_on net) ps))
  driver_by [] = refl
  driver_by (p ∷ ps) = elim (cases_Bool (is_on net p)) [
    | inl e ↦ elim (cases_Bool (is_driver p)) [
      | inl f ↦ let g : drives_seen (seen p) ≡ true = sym (drives_is p) ∙ f in rw f (rw e (rw g refl))
      | inr f ↦ let g : drives_seen (seen p) ≡ false = sym (drives_is p) ∙ f in rw f (rw e (rw g (driver_by ps)))
    ]
    | inr e ↦ elim (cases_Bool (is_driver p)) [
      | inl f ↦ rw f (rw e (driver_by ps))
      | inr f ↦ rw f (rw e (driver_by ps))
    ]
  ]

  pub driver_is : (d : Design) → option_map seen (driver d net) ≡ find drives_seen (seen_on d net)
  driver_is d = driver_by (pins d)

  pub drivers_are : (d : Design) → map seen (drivers d net) ≡ filter drives_seen (seen_on d net)
  drivers_are d = drivers_by (pins d)

  pub sinks_are : (d : Design) → map seen (sinks d net) ≡ filter (λ s. not (drives_seen s)) (seen_on d net)
  sinks_are d = sinks_by (pins d)
