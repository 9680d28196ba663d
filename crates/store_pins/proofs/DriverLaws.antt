-- The driver of a net by numbers, where no net has two.

use Rattle.std.proofs.Common.{◌≡◌, ℕ, ◌+◌, ◌<◌, ◌≤◌, Bool, true, false, cond, List, [], ◌∷◌, filter, length, get_or, Option, None, Some, refl, sym, ap, subst, ◌∙◌, inl, inr, arith, lt-ltb}
use Rattle.std.specs.Prelude.{find, is_some, nat_eq, nat_lt, option_and_then, option_map, ◌&&◌, if◌then◌else◌, Contains, count_by}
use Rattle.std.specs.Option.{option_map_or}
use Rattle.std.specs.Str.{bytes_eq}
use Rattle.std.proofs.lemmas.Bool.{cases_Bool, cases_lt, false≢true, and_parts, and_from, eqb-true, eq-eqb}
use Rattle.std.proofs.lemmas.List.{get_or_default}
use Rattle.std.proofs.lemmas.List.Sums.{sum_by-cons}
use Rattle.timing_defs.specs.declared.design.Design.{Design}
use Rattle.timing_defs.specs.declared.faults.Fault.TheVariants.{TooLarge, ManyDrivers}
use Rattle.timing_defs.specs.declared.faults.Large.{Large}
use Rattle.timing_defs.specs.Netlist.{Pin, name_of, pins, net_of, is_on, is_driver, drivers, driver, is_listed}
use Rattle.timing_defs.specs.NetChecks.{is_before, least_from, least, large, many_drivers, first_of_two, net_fault}
use Rattle.netlist_store.specs.Linked.{IsLinked}
use Rattle.netlist_store.specs.Numbering.{Stored, name_at, number_of, is_number, pin_numbered, net_number, is_on_number, IsNumbered}
use Rattle.store_pins.specs.Drivers.{driver_number, driver_at}
use Rattle.timing_defs.proofs.SameNames.{same_is, same_self}
use Rattle.timing_defs.proofs.Members.{some_is, first_in, later_in, in_cases, none_in, in_filter, any_back, found_in, found_passes}
use Rattle.store_pins.proofs.PinLaws.{told_at, below_bound, there, pin_told, pin_of_number}

-- what is counted once is a member
pub counted_in : (n : ℕ) (xs : List ℕ) → count_by (nat_eq n) xs ≡ 1 → Contains xs n
counted_in n [] e = absurd (omega arith)
counted_in n (x ∷ xs) e =
    let parts : count_by (nat_eq n) (x ∷ xs) ≡ cond (nat_eq n x) 1 0 + count_by (nat_eq n) xs = sum_by-cons (λ y. cond (nat_eq n y) 1 0) x xs in
    elim (cases_Bool (nat_eq n x)) [
      | inl h ↦ subst (λ (m : ℕ). Contains (x ∷ xs) m) (sym (eqb-true n x h)) (first_in x xs)
      | inr h ↦
          let none : cond {A = ℕ} (nat_eq n x) 1 0 ≡ 0 = rw h refl in
          later_in x xs n (counted_in n xs (omega arith))
    ]

pub on_all : (s : Stored) (net : ℕ) (items : List ℕ) → ((pin : ℕ) → count_by (nat_eq pin) items ≡ (if is_on_number s net pin then 1 else 0))
    → (pin : ℕ) → is_on_number s net pin ≡ true → Contains items pin
on_all s net items counts pin on = counted_in pin items (counts pin ∙ ap (λ b. if b then 1 else 0) on)

-- no least name is one of no names
least_some : (a : List ℕ) (xs : List (List ℕ)) → is_some (least_from (Some a) xs) ≡ true
least_some a [] = refl
least_some a (x ∷ xs) = elim (cases_Bool (is_before x a)) [ inl h ↦ rw h (least_some x xs) | inr h ↦ rw h (least_some a xs) ]

pub none_least : (xs : List (List ℕ)) → least xs ≡ None → xs ≡ []
none_least [] e = refl
none_least (x ∷ xs) e = absurd (false≢true (sym (ap is_some e) ∙ least_some x xs))

fault_parts : (a : Option Large) (b : Option (List ℕ)) → first_of_two (option_map TooLarge a) (option_map ManyDrivers b) ≡ None → b ≡ None
fault_parts None None e = refl
fault_parts None (Some n) e = absurd (cc)
fault_parts (Some l) b e = absurd (cc)

-- where at most one passes, each that passes is found
short_none : {X : Type 0} (xs : List X) (x : X) → length xs ≤ 0 → Contains xs x → ⊥
short_none xs x l c = let low = c.1 in omega arith

module _ {X : Type 0} (t : X → Bool) where
  pub only_one : (xs : List X) (x : X) → length (filter t xs) ≤ 1 → Contains xs x → t x ≡ true → find t xs ≡ Some x
  only_one [] x l c e = absurd (none_in x c)
  only_one (y ∷ ys) x l c e = elim (cases_Bool (t y)) [
    | inl h ↦
        let long : length (y ∷ filter t ys) ≤ 1 = rw h at l in
        elim (in_cases y ys x c) [
          | inl same ↦ rw h (ap Some same)
          | inr d ↦ absurd (short_none (filter t ys) x (omega arith) (in_filter t ys x d e))
        ]
    | inr h ↦
        let long : length (filter t ys) ≤ 1 = rw h at l in
        elim (in_cases y ys x c) [
          | inl same ↦ absurd (false≢true (sym h ∙ ap t same ∙ e))
          | inr d ↦ rw h (only_one ys x long d e)
        ]
  ]

-- the name of a net among names
listed_back : (names : List (List ℕ)) (name : List ℕ) → is_listed names name ≡ true → Contains names name
listed_back names name e =
    let r = any_back (bytes_eq name) names e in
    subst (λ (n : List ℕ). Contains names n) (sym (same_is name r.item r.passes)) r.within

module _ (d : Design) (fault : net_fault d ≡ None) where
  few_drivers : (net : List ℕ) → is_listed d.nets net ≡ true → length (drivers d net) ≤ 1
  few_drivers net e = elim (cases_lt 1 (length (drivers d net))) [
    | inl many ↦
        let none = none_least (filter (λ n. nat_lt 1 (length (drivers d n))) d.nets) (fault_parts (large d) (many_drivers d) fault) in
        let member = in_filter (λ n. nat_lt 1 (length (drivers d n))) d.nets net (listed_back d.nets net e) (lt-ltb 1 (length (drivers d net)) many) in
        absurd (none_in net (subst (λ (xs : List (List ℕ)). Contains xs net) none member))
    | inr few ↦ few
  ]

  -- the one driver of a net
  pub is_the_driver : (net : List ℕ) (p : Pin) → is_listed d.nets net ≡ true → Contains (pins d) p → is_driver p ≡ true → net_of p ≡ Some net
      → driver d net ≡ Some p
  is_the_driver net p e c drives on =
      only_one (λ pin. is_driver pin && is_on net pin) (pins d) p (few_drivers net e) c
      (and_from (is_driver p) (is_on net p) drives (ap (λ o. option_map_or (bytes_eq net) o false) on ∙ same_self net))

-- a pin on a net
pub on_net : (net : List ℕ) (o : Option (List ℕ)) → option_map_or (bytes_eq net) o false ≡ true → o ≡ Some net
on_net net None e = absurd (false≢true e)
on_net net (Some n) e = ap Some (sym (same_is net n e))

pub record IsDriving (d : Design) (net : List ℕ) (p : Pin) : Type 0 where
  pub within : Contains (pins d) p
  pub drives : is_driver p ≡ true
  pub on : net_of p ≡ Some net

pub driving : (d : Design) (net : List ℕ) (p : Pin) → driver d net ≡ Some p → IsDriving d net p
driving d net p e =
    let passes = and_parts (is_driver p) (is_on net p) (found_passes (λ pin. is_driver pin && is_on net pin) (pins d) p e) in
    record { within = found_in (λ pin. is_driver pin && is_on net pin) (pins d) p e; drives = passes.0; on = on_net net (net_of p) passes.1 }

pub on_at : (a : ℕ) (o : Option ℕ) → option_map_or (nat_eq a) o false ≡ true → o ≡ Some a
on_at a None e = absurd (false≢true e)
on_at a (Some b) e = ap Some (sym (eqb-true a b e))

-- the number of a net and its name
pub record IsNetOf (s : Stored) (p : Pin) (net : ℕ) : Type 0 where
  pub name : List ℕ
  pub on : net_of p ≡ Some name
  pub number : number_of s.nets name ≡ Some net
  pub told : name_at s.nets net ≡ Some name

pub net_told : (s : Stored) (p : Pin) (net : ℕ) → option_and_then (number_of s.nets) (net_of p) ≡ Some net → IsNetOf s p net
net_told s p net e = by (net_of p) refl
  where
    by : (o : Option (List ℕ)) → net_of p ≡ o → IsNetOf s p net
    by None h = let f : option_and_then (number_of s.nets) (net_of p) ≡ None = ap (option_and_then (number_of s.nets)) h in absurd (cc)
    by (Some name) h =
        let f : number_of s.nets name ≡ Some net = sym (ap (option_and_then (number_of s.nets)) h) ∙ e in
        record { name = name; on = h; number = f; told = told_at s.nets name net f }

pub pin_there : (o : Option Pin) (b : Bool) → option_map is_driver o ≡ Some b → (p : Pin) × (o ≡ Some p) × (is_driver p ≡ b)
pin_there None b e = absurd (cc)
pin_there (Some p) b e = (p, refl, some_is e)

pub net_of_number : (s : Stored) (pin net : ℕ) (p : Pin) → pin_numbered s pin ≡ Some p → net_number s pin ≡ Some net → IsNetOf s p net
net_of_number s pin net p e f = net_told s p net (sym (ap (λ o. option_and_then (number_of s.nets) (option_and_then net_of o)) e) ∙ f)

module _ (s : Stored) (num : IsNumbered s) (linked : IsLinked s.design) where
  pub driver_is : net_fault s.design ≡ None → (net pin : ℕ) → is_on_number s net pin ≡ true → option_map is_driver (pin_numbered s pin) ≡ Some true
      → Some pin ≡ driver_at s net
  driver_is fault net pin on drives =
      let p = pin_there (pin_numbered s pin) true drives in
      let n = net_of_number s pin net p.0 p.1 (on_at net (net_number s pin) on) in
      let here = pin_of_number s num linked pin p.0 p.1 in
      let listed : is_listed s.design.nets n.name ≡ true = sym (num.net_names n.name) ∙ ap is_some n.number in
      let is = is_the_driver s.design fault n.name p.0 listed here.within p.2 n.on in
      sym (ap (option_and_then (driver_number s)) n.told ∙ ap (option_and_then (λ q. number_of s.pins (name_of q))) is ∙ here.number)

  pub no_driver : (net : ℕ) (items : List ℕ) → ((pin : ℕ) → is_on_number s net pin ≡ true → Contains items pin)
      → ((k : ℕ) → k < length items → option_map is_driver (pin_numbered s (get_or items k 0)) ≡ Some false) → None ≡ driver_at s net
  no_driver net items all none = by (name_at s.nets net) refl
    where
      by : (o : Option (List ℕ)) → name_at s.nets net ≡ o → None ≡ driver_at s net
      by None e = sym (ap (option_and_then (driver_number s)) e)
      by (Some name) e = sym (ap (option_and_then (driver_number s)) e ∙ ap (option_and_then (λ q. number_of s.pins (name_of q))) (without (driver s.design name) refl))
        where
          without : (o : Option Pin) → driver s.design name ≡ o → o ≡ None
          without None f = refl
          without (Some q) f =
              let d = driving s.design name q f in
              let n = pin_told s num linked q d.within in
              let number : net_number s n.0 ≡ Some net =
              ap (λ o. option_and_then (number_of s.nets) (option_and_then net_of o)) n.1.pin
              ∙ ap (option_and_then (number_of s.nets)) d.on ∙ num.nets.distinct net name e in
              let member = all n.0 (ap (λ o. option_map_or (nat_eq net) o false) number ∙ eq-eqb net net refl) in
              let low = member.1 in
              let at : get_or items member.0 0 ≡ n.0 = get_or_default items member.0 0 n.0 low ∙ member.2 in
              let f2 : option_map is_driver (pin_numbered s n.0) ≡ Some false = ap (λ m. option_map is_driver (pin_numbered s m)) (sym at) ∙ none member.0 low in
              let f3 : option_map is_driver (pin_numbered s n.0) ≡ Some true = ap (option_map is_driver) n.1.pin ∙ ap Some d.drives in
              absurd (false≢true (some_is (sym f2 ∙ f3)))

pub net_below : (names : List (Option (List ℕ))) (n : ℕ) → is_number names n ≡ true → n < length names
net_below names n e = let some = there (name_at names n) e in below_bound names some.0 n some.1

-- the pin that a driver's number stands for
module _ (s : Stored) (num : IsNumbered s) (linked : IsLinked s.design) where
  pub driver_numbered : (net : ℕ) (o : Option ℕ) → o ≡ driver_at s net
      → option_and_then (pin_numbered s) o ≡ option_and_then (driver s.design) (name_at s.nets net)
  driver_numbered net o e = ap (option_and_then (pin_numbered s)) e ∙ by (name_at s.nets net)
    where
      by : (w : Option (List ℕ)) → option_and_then (pin_numbered s) (option_and_then (driver_number s) w) ≡ option_and_then (driver s.design) w
      by None = refl
      by (Some name) = its (driver s.design name) refl
        where
          its : (q : Option Pin) → driver s.design name ≡ q → option_and_then (pin_numbered s) (option_and_then (λ pin. number_of s.pins (name_of pin)) q) ≡ q
          its None f = refl
          its (Some p) f =
              let d = driving s.design name p f in
              let n = pin_told s num linked p d.within in
              ap (option_and_then (pin_numbered s)) n.1.number ∙ n.1.pin
