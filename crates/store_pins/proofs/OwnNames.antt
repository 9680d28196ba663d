-- What a store tells of a pin: whether it drives its net, and its name in its cell.

use Rattle.std.proofs.Common.{◌≡◌, ℕ, ◌+◌, ◌≤◌, Bool, true, false, List, drop, length, Option, None, Some, refl, sym, ap, ◌∙◌, if◌then◌else◌}
use Rattle.std.specs.Prelude.{is_some, option_map, option_and_then}
use Rattle.std.specs.Option.{option_map_or}
use Rattle.timing_defs.specs.declared.kinds.Dir.{Dir}
use Rattle.timing_defs.specs.declared.kinds.Dir.TheVariants.{Input, Output}
use Rattle.timing_defs.specs.declared.netlist.Inst.{Inst}
use Rattle.timing_defs.specs.Netlist.{Pin, full_name, drives_as, is_driver, same_dir}
use Rattle.timing_defs.proofs.Members.{some_is}
use Rattle.netlist_store.specs.Linked.{IsLinked}
use Rattle.netlist_store.specs.Numbering.{Stored, name_at, is_number, pin_numbered, owner_number, IsNumbered}
use Rattle.store_pins.specs.Drivers.{drives_at}
use Rattle.store_pins.proofs.PinLaws.{pin_at_number, owner_told, no_owner, inst_at, own_of}

-- whether a pin drives
pub drives_is : (s : Stored) (pin : ℕ) (r : Bool) → option_map is_driver (pin_numbered s pin) ≡ Some r → drives_at s pin ≡ r
drives_is s pin r e = by (pin_numbered s pin) e
  where
    by : (o : Option Pin) → option_map is_driver o ≡ Some r → option_map_or is_driver o false ≡ r
    by None f = absurd (cc)
    by (Some p) f = some_is f

pub drives_told : (o : Option Pin) (owned : Bool) (dir : Dir) (r : Bool) → owned ≡ is_some (option_and_then (λ (p : Pin). p.owner) o)
    → option_map (λ (p : Pin). p.dir) o ≡ Some dir → r ≡ (if owned then same_dir dir Output else same_dir dir Input) → option_map is_driver o ≡ Some r
drives_told None owned dir r e f g = absurd (cc)
drives_told (Some p) owned dir r e f g = by p.owner refl
  where
    by : (w : Option Inst) → p.owner ≡ w → Some (drives_as p.owner p.dir) ≡ Some r
    by None h =
        ap Some (ap (λ w. drives_as w p.dir) h ∙ ap (λ y. same_dir y Input) (some_is f)
        ∙ sym (g ∙ ap (λ b. if b then same_dir dir Output else same_dir dir Input) (e ∙ ap is_some h)))
    by (Some i) h =
        ap Some (ap (λ w. drives_as w p.dir) h ∙ ap (λ y. same_dir y Output) (some_is f)
        ∙ sym (g ∙ ap (λ b. if b then same_dir dir Output else same_dir dir Input) (e ∙ ap is_some h)))

module _ (s : Stored) (num : IsNumbered s) (linked : IsLinked s.design) (pin : ℕ) (is : is_number s.pins pin ≡ true) where
  -- the name behind the instance's
  pub own_behind : (n : ℕ) (name word : List ℕ) → Some n ≡ owner_number s pin → name_at s.pins pin ≡ Some name → name_at s.insts n ≡ Some word
      → (length word + 1 ≤ length name) × (option_map (λ (p : Pin). p.own) (pin_numbered s pin) ≡ Some (drop (length word + 1) name))
  own_behind n name word own named called =
      let p = pin_at_number s num linked pin is in
      let o = owner_told s num linked pin n p.0 p.1.pin (sym own) in
      let r = own_of name p.0 o.inst word o.owns (some_is (sym named ∙ p.1.name)) (inst_at s num linked p.0 n o word called) in
      (r.0, ap (option_map (λ (q : Pin). q.own)) p.1.pin ∙ ap Some (sym r.1))

  -- a port goes by its own name
  pub own_port : (name : List ℕ) → false ≡ is_some (option_and_then (λ (p : Pin). p.owner) (pin_numbered s pin)) → name_at s.pins pin ≡ Some name
      → option_map (λ (p : Pin). p.own) (pin_numbered s pin) ≡ Some name
  own_port name none named =
      let p = pin_at_number s num linked pin is in
      let lone = no_owner s num linked pin p.0 p.1.pin (sym none) in
      let whole : name ≡ p.0.own = some_is (sym named ∙ p.1.name) ∙ ap (λ o. full_name o p.0.own) lone in
      ap (option_map (λ (q : Pin). q.own)) p.1.pin ∙ ap Some (sym whole)
