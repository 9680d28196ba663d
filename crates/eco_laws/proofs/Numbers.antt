-- Numbers in a store and in one that an ECO made of it: instances, pins and nets that are not touched have the same.

use Rattle.std.proofs.Common.{◌≡◌, ℕ, zero, suc, true, false, List, [], ◌∷◌, get_or, Option, None, Some, refl, sym, ap, subst, ◌∙◌, inl, inr}
use Rattle.std.specs.Prelude.{Contains, find, option_and_then, is_some}
use Rattle.std.specs.List.{list_any}
use Rattle.std.specs.Str.{bytes_eq}
use Rattle.std.proofs.lemmas.Bool.{cases_Bool, false≢true, true≢false}
use Rattle.std.proofs.lemmas.List.Quantifiers.{position-Some}
use Rattle.timing_defs.specs.declared.netlist.Inst.{Inst}
use Rattle.timing_defs.specs.Netlist.{Pin, name_of, net_of, pin_named, pins, is_listed}
use Rattle.timing_defs.specs.Edits.{inst_named}
use Rattle.timing_defs.specs.Touches.{Touch}
use Rattle.timing_defs.proofs.SameNames.{same_is, same_self}
use Rattle.timing_defs.proofs.Members.{some_is, any_in}
use Rattle.netlist_store.specs.Applying.{IsEditOf}
use Rattle.netlist_store.specs.Numbering.{Stored, name_at, number_of, is_named, inst_numbered, pin_numbered, IsNumbered, AreKept}
use Rattle.eco_laws.specs.Kept.{is_on_any, IsSameNet, IsSameInst, IsInstKept, IsAlikePin, IsPinKept, has_touched_inst, names_touched_inst, is_touched_pin, HasInstBefore, HasInstAfter, HasAlikeBefore, HasAlikeAfter, HasPinBefore, HasPinAfter}
use Rattle.eco_laws.proofs.Lists.{either_false}
use Rattle.eco_laws.proofs.PinsKept.{inst_named_so, owner_told}
use Rattle.eco_laws.proofs.EditOf.{base_linked, edited_linked, left_of, numbers_kept, inst_kept_of, pin_kept_of}

-- the name of a number
pub number_at : (names : List (Option (List ℕ))) (name : List ℕ) (n : ℕ) → number_of names name ≡ Some n → name_at names n ≡ Some name
number_at names name n e =
    let found = position-Some (is_named name) names n None e in
    sym (at names n) ∙ by (get_or names n None) found.1
  where
    at : (rows : List (Option (List ℕ))) (k : ℕ) → get_or rows k None ≡ name_at rows k
    at [] k = refl
    at (o ∷ os) zero = refl
    at (o ∷ os) (suc k) = at os k

    by : (o : Option (List ℕ)) → is_named name o ≡ true → o ≡ Some name
    by None h = absurd (false≢true h)
    by (Some m) h = ap Some (same_is m name h)

-- one number of two numberings
same_number : (names names2 : List (Option (List ℕ))) → AreKept names names2 → (name : List ℕ)
    → is_some (number_of names name) ≡ is_some (number_of names2 name) → number_of names2 name ≡ number_of names name
same_number names names2 kept name both = by (number_of names name) (number_of names2 name) refl refl both
  where
    by : (a b : Option ℕ) → number_of names name ≡ a → number_of names2 name ≡ b → is_some a ≡ is_some b → b ≡ a
    by None None e f h = refl
    by None (Some n) e f h = absurd (false≢true h)
    by (Some m) None e f h = absurd (true≢false h)
    by (Some m) (Some n) e f h = ap Some (sym (kept.numbers name m n e f))

-- what a number stands for has a name
found_at : {X : Type 0} (look : List ℕ → Option X) (o : Option (List ℕ)) (x : X) → option_and_then look o ≡ Some x
    → (name : List ℕ) × (o ≡ Some name) × (look name ≡ Some x)
found_at look None x e = absurd (cc)
found_at look (Some name) x e = (name, refl, e)

inst_some : (nets : List (List ℕ)) (a b : Option Inst) → IsInstKept nets a b → is_some a ≡ is_some b
inst_some nets None b h = sym (ap is_some h)
inst_some nets (Some a) None h = absurd h
inst_some nets (Some a) (Some b) h = refl

pin_some : (nets : List (List ℕ)) (a b : Option Pin) → IsPinKept nets a b → is_some a ≡ is_some b
pin_some nets None b h = sym (ap is_some h)
pin_some nets (Some a) None h = absurd h
pin_some nets (Some a) (Some b) h = refl

-- nets that are the same where one is not among those listed
pub net_is_before : (nets : List (List ℕ)) (a b : Option (List ℕ)) → IsSameNet nets a b → is_on_any nets b ≡ false → b ≡ a
net_is_before nets a b (inl e) off = sym e
net_is_before nets a b (inr e) off = absurd (true≢false (sym e.1 ∙ off))

pub net_is_after : (nets : List (List ℕ)) (a b : Option (List ℕ)) → IsSameNet nets a b → is_on_any nets a ≡ false → b ≡ a
net_is_after nets a b (inl e) off = sym e
net_is_after nets a b (inr e) off = absurd (true≢false (sym e.0 ∙ off))

module _ (base : Stored) (touch : Touch) (edited : Stored) (made : IsEditOf base touch edited) (num : IsNumbered base) (num2 : IsNumbered edited) where
  -- a name that has a number in both has the same
  pub number_of_both : (name : List ℕ) → is_some (number_of base.pins name) ≡ true → is_some (number_of edited.pins name) ≡ true
      → number_of edited.pins name ≡ number_of base.pins name
  number_of_both name h k = same_number base.pins edited.pins (numbers_kept base touch edited made).pins name (h ∙ sym k)

  -- the number of an instance that is not touched
  pub inst_number : (name : List ℕ) → is_listed touch.insts name ≡ false → number_of edited.insts name ≡ number_of base.insts name
  inst_number name off =
      same_number base.insts edited.insts (numbers_kept base touch edited made).insts name
      (num.inst_names name
      ∙ inst_some touch.nets (inst_named base.design.insts name) (inst_named edited.design.insts name) (inst_kept_of base touch edited made name off)
      ∙ sym (num2.inst_names name))

  -- the number of a pin whose name tells no touched instance
  pub pin_number : (name : List ℕ) → names_touched_inst touch name ≡ false → number_of edited.pins name ≡ number_of base.pins name
  pin_number name off =
      same_number base.pins edited.pins (numbers_kept base touch edited made).pins name
      (num.pin_names name
      ∙ pin_some touch.nets (pin_named base.design name) (pin_named edited.design name) (pin_kept_of base touch edited made name off)
      ∙ sym (num2.pin_names name))

  -- the number of a net that is not touched, and the name of its number
  pub net_number_left : (net : List ℕ) → is_listed touch.nets net ≡ false → number_of edited.nets net ≡ number_of base.nets net
  net_number_left net off =
      same_number base.nets edited.nets (numbers_kept base touch edited made).nets net
      (num.net_names net ∙ sym (left_of base touch edited made net off).listed ∙ sym (num2.net_names net))

  pub net_name_before : (n : ℕ) (net : List ℕ) → name_at edited.nets n ≡ Some net → is_listed touch.nets net ≡ false → name_at base.nets n ≡ Some net
  net_name_before n net e off = number_at base.nets net n (sym (net_number_left net off) ∙ num2.nets.distinct n net e)

  pub net_name_after : (n : ℕ) (net : List ℕ) → name_at base.nets n ≡ Some net → is_listed touch.nets net ≡ false → name_at edited.nets n ≡ Some net
  net_name_after n net e off = number_at edited.nets net n (net_number_left net off ∙ num.nets.distinct n net e)

  -- the instance of a number
  pub inst_before : (n : ℕ) (inst2 : Inst) → inst_numbered edited n ≡ Some inst2 → is_listed touch.insts inst2.name ≡ false
      → HasInstBefore touch.nets base n inst2
  inst_before n inst2 e off =
      let f = found_at (inst_named edited.design.insts) (name_at edited.insts n) inst2 e in
      let named = inst_named_so edited.design.insts f.0 inst2 f.2 in
      let free : is_listed touch.insts f.0 ≡ false = sym (ap (is_listed touch.insts) named) ∙ off in
      let here : name_at base.insts n ≡ Some f.0 = number_at base.insts f.0 n (sym (inst_number f.0 free) ∙ num2.insts.distinct n f.0 f.1) in
      by f.0 here (inst_named base.design.insts f.0) refl (inst_named edited.design.insts f.0) f.2 (inst_kept_of base touch edited made f.0 free)
    where
      by : (name : List ℕ) → name_at base.insts n ≡ Some name → (a : Option Inst) → inst_named base.design.insts name ≡ a → (b : Option Inst) → b ≡ Some inst2
          → IsInstKept touch.nets a b → HasInstBefore touch.nets base n inst2
      by name here None g b k h = absurd (cc)
      by name here (Some i) g None k h = absurd h
      by name here (Some i) g (Some i2) k h = record {
        inst = i;
        numbered = ap (option_and_then (inst_named base.design.insts)) here ∙ g;
        same = subst (IsSameInst touch.nets i) (some_is k) h;
      }

  pub inst_after : (n : ℕ) (inst : Inst) → inst_numbered base n ≡ Some inst → is_listed touch.insts inst.name ≡ false
      → HasInstAfter touch.nets edited n inst
  inst_after n inst e off =
      let f = found_at (inst_named base.design.insts) (name_at base.insts n) inst e in
      let named = inst_named_so base.design.insts f.0 inst f.2 in
      let free : is_listed touch.insts f.0 ≡ false = sym (ap (is_listed touch.insts) named) ∙ off in
      let there : name_at edited.insts n ≡ Some f.0 = number_at edited.insts f.0 n (inst_number f.0 free ∙ num.insts.distinct n f.0 f.1) in
      by f.0 there (inst_named base.design.insts f.0) f.2 (inst_named edited.design.insts f.0) refl (inst_kept_of base touch edited made f.0 free)
    where
      by : (name : List ℕ) → name_at edited.insts n ≡ Some name → (a : Option Inst) → a ≡ Some inst
          → (b : Option Inst) → inst_named edited.design.insts name ≡ b
          → IsInstKept touch.nets a b → HasInstAfter touch.nets edited n inst
      by name there None k b g h = absurd (cc)
      by name there (Some i) k None g h = absurd h
      by name there (Some i) k (Some i2) g h = record {
        inst2 = i2;
        numbered = ap (option_and_then (inst_named edited.design.insts)) there ∙ g;
        same = subst (λ (z : Inst). IsSameInst touch.nets z i2) (some_is k) h;
      }

  -- the pin of a number, where its instance is not touched
  pub alike_before : (n : ℕ) (pin2 : Pin) → pin_numbered edited n ≡ Some pin2 → has_touched_inst touch pin2 ≡ false → HasAlikeBefore touch.nets base n pin2
  alike_before n pin2 e off =
      let f = found_at (pin_named edited.design) (name_at edited.pins n) pin2 e in
      let free : names_touched_inst touch f.0 ≡ false =
      sym (owner_told edited.design (edited_linked base touch edited made) touch.insts f.0 pin2 f.2) ∙ off in
      let here : name_at base.pins n ≡ Some f.0 = number_at base.pins f.0 n (sym (pin_number f.0 free) ∙ num2.pins.distinct n f.0 f.1) in
      by f.0 here (pin_named base.design f.0) refl (pin_named edited.design f.0) f.2 (pin_kept_of base touch edited made f.0 free)
    where
      by : (name : List ℕ) → name_at base.pins n ≡ Some name → (a : Option Pin) → pin_named base.design name ≡ a → (b : Option Pin) → b ≡ Some pin2
          → IsPinKept touch.nets a b → HasAlikeBefore touch.nets base n pin2
      by name here None g b k h = absurd (cc)
      by name here (Some p) g None k h = absurd h
      by name here (Some p) g (Some p2) k h = record {
        pin = p;
        numbered = ap (option_and_then (pin_named base.design)) here ∙ g;
        same = subst (IsAlikePin touch.nets p) (some_is k) h;
      }

  pub alike_after : (n : ℕ) (pin : Pin) → pin_numbered base n ≡ Some pin → has_touched_inst touch pin ≡ false → HasAlikeAfter touch.nets edited n pin
  alike_after n pin e off =
      let f = found_at (pin_named base.design) (name_at base.pins n) pin e in
      let free : names_touched_inst touch f.0 ≡ false = sym (owner_told base.design (base_linked base touch edited made) touch.insts f.0 pin f.2) ∙ off in
      let there : name_at edited.pins n ≡ Some f.0 = number_at edited.pins f.0 n (pin_number f.0 free ∙ num.pins.distinct n f.0 f.1) in
      by f.0 there (pin_named base.design f.0) f.2 (pin_named edited.design f.0) refl (pin_kept_of base touch edited made f.0 free)
    where
      by : (name : List ℕ) → name_at edited.pins n ≡ Some name → (a : Option Pin) → a ≡ Some pin → (b : Option Pin) → pin_named edited.design name ≡ b
          → IsPinKept touch.nets a b → HasAlikeAfter touch.nets edited n pin
      by name there None k b g h = absurd (cc)
      by name there (Some p) k None g h = absurd h
      by name there (Some p) k (Some p2) g h = record {
        pin2 = p2;
        numbered = ap (option_and_then (pin_named edited.design)) there ∙ g;
        same = subst (λ (z : Pin). IsAlikePin touch.nets z p2) (some_is k) h;
      }

  -- the pin of a number, where it is not touched
  pub pin_before : (n : ℕ) (pin2 : Pin) → pin_numbered edited n ≡ Some pin2 → is_touched_pin touch pin2 ≡ false → HasPinBefore base n pin2
  pin_before n pin2 e off =
      let parts = either_false (is_on_any touch.nets (net_of pin2)) (has_touched_inst touch pin2) off in
      let a = alike_before n pin2 e parts.1 in
      record {
        pin = a.pin;
        numbered = a.numbered;
        same = record { alike = a.same.alike; joined = net_is_before touch.nets (net_of a.pin) (net_of pin2) a.same.joined parts.0 };
      }

  pub pin_after : (n : ℕ) (pin : Pin) → pin_numbered base n ≡ Some pin → is_touched_pin touch pin ≡ false → HasPinAfter edited n pin
  pin_after n pin e off =
      let parts = either_false (is_on_any touch.nets (net_of pin)) (has_touched_inst touch pin) off in
      let a = alike_after n pin e parts.1 in
      record {
        pin2 = a.pin2;
        numbered = a.numbered;
        same = record { alike = a.same.alike; joined = net_is_after touch.nets (net_of pin) (net_of a.pin2) a.same.joined parts.0 };
      }

  -- the name of a number, where it tells no touched instance
  pub name_before : (n : ℕ) (name : List ℕ) → name_at edited.pins n ≡ Some name → names_touched_inst touch name ≡ false → name_at base.pins n ≡ Some name
  name_before n name e off = number_at base.pins name n (sym (pin_number name off) ∙ num2.pins.distinct n name e)

  pub name_after : (n : ℕ) (name : List ℕ) → name_at base.pins n ≡ Some name → names_touched_inst touch name ≡ false → name_at edited.pins n ≡ Some name
  name_after n name e off = number_at edited.pins name n (pin_number name off ∙ num.pins.distinct n name e)

-- each pin of a design has a number
pub has_number : (s : Stored) → IsNumbered s → (pin : Pin) → Contains (pins s.design) pin → is_some (number_of s.pins (name_of pin)) ≡ true
has_number s num pin within =
    num.pin_names (name_of pin)
    ∙ found (pins s.design) (any_in (λ p. bytes_eq (name_of p) (name_of pin)) (pins s.design) pin within (same_self (name_of pin)))
  where
    found : (ps : List Pin) → list_any (λ p. bytes_eq (name_of p) (name_of pin)) ps ≡ true → is_some (find (λ p. bytes_eq (name_of p) (name_of pin)) ps) ≡ true
    found [] h = absurd (false≢true h)
    found (p ∷ ps) h = elim (cases_Bool (bytes_eq (name_of p) (name_of pin))) [
      | inl e ↦ rw e refl
      | inr e ↦ rw e (found ps (rw e at h))
    ]
