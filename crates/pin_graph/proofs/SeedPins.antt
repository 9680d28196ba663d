-- The pins on touched nets and of touched instances, as they are gathered.

use Rattle.std.proofs.Common.{◌≡◌, ℕ, ◌+◌, ◌<◌, ◌≤◌, ◌^◌, Bool, true, false, List, [], ◌∷◌, ◌++◌, take, length, get_or, Option, None, Some, Result, Ok, Err, refl, sym, ap, subst, ◌∙◌, arith}
use Rattle.std.specs.Prelude.{is_some, nat_eq, option_and_then, option_map, ◌||◌, if◌then◌else◌, Contains, All, count_by, IfOk, OnOk}
use Rattle.std.specs.List.{list_any, filter_map}
use Rattle.std.specs.Option.{option_map_or}
use Rattle.std.specs.Str.{bytes_eq}
use Rattle.std.proofs.lemmas.Bool.{false≢true, eqb-true, false_from_ne_true}
use Rattle.std.proofs.lemmas.List.{take_more, take_all}
use Rattle.std.proofs.lemmas.List.Elements.{Contains-get_or}
use Rattle.std.proofs.lemmas.List.Folds.{list_any-append}
use Rattle.std.proofs.lemmas.Cmp.{nat_eq_equiv}
use Rattle.timing_defs.specs.declared.kinds.Split.TheVariants.{Late}
use Rattle.timing_defs.specs.declared.library.Cell.{Cell}
use Rattle.timing_defs.specs.declared.library.CellPin.{CellPin}
use Rattle.timing_defs.specs.declared.netlist.Inst.{Inst}
use Rattle.timing_defs.specs.Netlist.{Pin, name_of, cell_pin, cell_pins, cell_of, net_of, is_listed}
use Rattle.timing_defs.specs.Edits.{inst_named}
use Rattle.timing_defs.specs.Touches.{Touch}
use Rattle.netlist_store.specs.Linked.{IsLinked}
use Rattle.netlist_store.specs.Numbering.{Stored, name_at, number_of, inst_numbered, pin_numbered, is_on_number, IsNumbered}
use Rattle.eco_laws.specs.Kept.{is_on_any, is_touched_pin}
use Rattle.pin_graph.specs.Joins.{own_number}
use Rattle.pin_graph.specs.Seeds.{is_joined_at, is_owned_at, is_touched_at}
use Rattle.timing_defs.proofs.SameNames.{same_is, same_self}
use Rattle.timing_defs.proofs.Members.{some_is, any_in, any_back, in_filter_map, in_filter_map_back, found_in, found_passes}
use Rattle.store_pins.proofs.PinLaws.{told_at, pin_of_number, inst_found, own_in, own_back}
use Rattle.pin_graph.proofs.WalkLaws.{both_same}
use Rattle.pin_graph.proofs.LevelBound.{in_counted}
use Rattle.store_pins.proofs.DriverLaws.{counted_in}
use Rattle.pin_graph.proofs.JoinLaws.{numbered_as, net_listed}

-- what is counted once or not at all
once_any : (n : ℕ) (xs : List ℕ) (b : Bool) → count_by (nat_eq n) xs ≡ (if b then 1 else 0) → list_any (nat_eq n) xs ≡ b
once_any n xs true e = any_in (nat_eq n) xs n (counted_in n xs e) (nat_eq_equiv.refl n)
once_any n xs false e = false_from_ne_true (list_any (nat_eq n) xs) (λ f.
    let r = any_back (nat_eq n) xs f in
    let one = in_counted n xs (subst (λ (m : ℕ). Contains xs m) (sym (eqb-true n r.item r.passes)) r.within) in
    omega (arith, one, e))

-- a test of names over more names
any_more : (names : List (List ℕ)) (more : List (List ℕ)) (o : Option (List ℕ)) → is_on_any (names ++ more) o ≡ (is_on_any names o || is_on_any more o)
any_more names more None = refl
any_more names more (Some w) = list_any-append (bytes_eq w) names more

module _ (s : Stored) (f : Pin → Option (List ℕ)) where
  pub names_none : (pin : ℕ) → option_map_or (λ p. is_on_any [] (f p)) (pin_numbered s pin) false ≡ false
  names_none pin = by (pin_numbered s pin)
    where
      of : (o : Option (List ℕ)) → is_on_any [] o ≡ false
      of None = refl
      of (Some w) = refl

      by : (o : Option Pin) → option_map_or (λ p. is_on_any [] (f p)) o false ≡ false
      by None = refl
      by (Some p) = of (f p)

  pub names_more : (names more : List (List ℕ)) (pin : ℕ)
      → option_map_or (λ p. is_on_any (names ++ more) (f p)) (pin_numbered s pin) false
      ≡ (option_map_or (λ p. is_on_any names (f p)) (pin_numbered s pin) false || option_map_or (λ p. is_on_any more (f p)) (pin_numbered s pin) false)
  names_more names more pin = by (pin_numbered s pin)
    where
      by : (o : Option Pin)
          → option_map_or (λ p. is_on_any (names ++ more) (f p)) o false ≡ (option_map_or (λ p. is_on_any names (f p)) o false || option_map_or (λ p. is_on_any more (f p)) o false)
      by None = refl
      by (Some p) = any_more names more (f p)

  -- one name more is gathered
  pub gathered_more : (start : ℕ → Bool) (before after : List ℕ) (names : List (List ℕ)) (i : ℕ) (name : List ℕ)
      → ((pin : ℕ) → list_any (nat_eq pin) before ≡ (start pin || option_map_or (λ p. is_on_any (take i names) (f p)) (pin_numbered s pin) false))
      → i < length names → name ≡ get_or names i name
      → ((pin : ℕ) → list_any (nat_eq pin) after ≡ (list_any (nat_eq pin) before || option_map_or (λ p. is_on_any (name ∷ []) (f p)) (pin_numbered s pin) false))
      → (pin : ℕ) → list_any (nat_eq pin) after ≡ (start pin || option_map_or (λ p. is_on_any (take (i + 1) names) (f p)) (pin_numbered s pin) false)
  gathered_more start before after names i name had low here put pin =
      put pin ∙ ap (λ b. b || option_map_or (λ p. is_on_any (name ∷ []) (f p)) (pin_numbered s pin) false) (had pin)
      ∙ assoc (start pin) (option_map_or (λ p. is_on_any (take i names) (f p)) (pin_numbered s pin) false) (option_map_or (λ p. is_on_any (name ∷ []) (f p)) (pin_numbered s pin) false)
      ∙ ap (λ b. start pin || b)
      (sym (ap (λ ns. option_map_or (λ p. is_on_any ns (f p)) (pin_numbered s pin) false) (take_more names i name low ∙ ap (λ w. take i names ++ w ∷ []) (sym here)) ∙ names_more (take i names) (name ∷ []) pin))
    where
      assoc : (a b c : Bool) → ((a || b) || c) ≡ (a || (b || c))
      assoc true b c = refl
      assoc false b c = refl

  pub gathered_none : (start : ℕ → Bool) (before : List ℕ) (names : List (List ℕ)) → ((pin : ℕ) → list_any (nat_eq pin) before ≡ start pin)
      → (pin : ℕ) → list_any (nat_eq pin) before ≡ (start pin || option_map_or (λ p. is_on_any (take 0 names) (f p)) (pin_numbered s pin) false)
  gathered_none start before names had pin = had pin ∙ sym (ap (λ b. start pin || b) (names_none pin) ∙ right (start pin))
    where
      right : (a : Bool) → (a || false) ≡ a
      right true = refl
      right false = refl

  pub gathered_all : (start : ℕ → Bool) (found : List ℕ) (names : List (List ℕ)) (i : ℕ)
      → ((pin : ℕ) → list_any (nat_eq pin) found ≡ (start pin || option_map_or (λ p. is_on_any (take i names) (f p)) (pin_numbered s pin) false)) → length names ≤ i
      → (pin : ℕ) → list_any (nat_eq pin) found ≡ (start pin || option_map_or (λ p. is_on_any names (f p)) (pin_numbered s pin) false)
  gathered_all start found names i had high pin =
      had pin ∙ ap (λ ns. start pin || option_map_or (λ p. is_on_any ns (f p)) (pin_numbered s pin) false) (take_all i names high)

one_name : (name : List ℕ) (w : List ℕ) → is_listed (name ∷ []) w ≡ true → w ≡ name
one_name name w e = by (bytes_eq w name) refl e
  where
    by : (b : Bool) → bytes_eq w name ≡ b → (b || false) ≡ true → w ≡ name
    by true f g = same_is w name f
    by false f g = absurd (false≢true g)

name_one : (name w : List ℕ) → w ≡ name → is_listed (name ∷ []) w ≡ true
name_one name w e = ap (λ b. b || false) (ap (bytes_eq w) (sym e) ∙ same_self w)

module _ (s : Stored) (num : IsNumbered s) (linked : IsLinked s.design) (name : List ℕ) where
  -- the pins on a net
  on_net_is : (net n : ℕ) → number_of s.nets name ≡ Some net → is_on_number s net n ≡ is_joined_at s (name ∷ []) n
  on_net_is net n e = by (pin_numbered s n)
    where
      of : (o : Option (List ℕ)) → option_map_or (nat_eq net) (option_and_then (number_of s.nets) o) false ≡ is_on_any (name ∷ []) o
      of None = refl
      of (Some w) =
          both_same (option_map_or (nat_eq net) (number_of s.nets w) false) (is_listed (name ∷ []) w)
          (λ f. at (number_of s.nets w) refl f)
          (λ f. ap (λ v. option_map_or (nat_eq net) (number_of s.nets v) false) (one_name name w f) ∙ ap (λ o. option_map_or (nat_eq net) o false) e ∙ nat_eq_equiv.refl net)
        where
          at : (o : Option ℕ) → number_of s.nets w ≡ o → option_map_or (nat_eq net) o false ≡ true → is_listed (name ∷ []) w ≡ true
          at None f g = absurd (false≢true g)
          at (Some k) f g =
              let told = told_at s.nets w k f in
              let here : name_at s.nets k ≡ Some name = ap (name_at s.nets) (sym (eqb-true net k g)) ∙ told_at s.nets name net e in
              name_one name w (some_is (sym told ∙ here))

      by : (o : Option Pin) → option_map_or (nat_eq net) (option_and_then (number_of s.nets) (option_and_then net_of o)) false ≡ option_map_or (λ p. is_on_any (name ∷ []) (net_of p)) o false
      by None = refl
      by (Some p) = of (net_of p)

  pub net_put : (net : ℕ) (items old new : List ℕ) → Some net ≡ number_of s.nets name → ((n : ℕ) → count_by (nat_eq n) items ≡ (if is_on_number s net n then 1 else 0))
      → new ≡ old ++ items → (n : ℕ) → list_any (nat_eq n) new ≡ (list_any (nat_eq n) old || is_joined_at s (name ∷ []) n)
  net_put net items old new e counts put n =
      ap (list_any (nat_eq n)) put ∙ list_any-append (nat_eq n) old items
      ∙ ap (λ b. list_any (nat_eq n) old || b) (once_any n items (is_on_number s net n) (counts n) ∙ on_net_is net n (sym e))

  no_more : (a b : Bool) → b ≡ false → a ≡ (a || b)
  no_more true b e = refl
  no_more false b e = sym e

  pub net_away : (old new : List ℕ) → None ≡ number_of s.nets name → new ≡ old → (n : ℕ) → list_any (nat_eq n) new ≡ (list_any (nat_eq n) old || is_joined_at s (name ∷ []) n)
  net_away old new e same n =
      ap (list_any (nat_eq n)) same
      ∙ no_more (list_any (nat_eq n) old) (is_joined_at s (name ∷ []) n) (false_from_ne_true (is_joined_at s (name ∷ []) n) (λ f. by (pin_numbered s n) refl f))
    where
      at : (p : Pin) → pin_numbered s n ≡ Some p → (o : Option (List ℕ)) → net_of p ≡ o → is_on_any (name ∷ []) o ≡ true → ⊥
      at p f None g h = false≢true h
      at p f (Some w) g h =
          let listed = net_listed s num linked p w (pin_of_number s num linked n p f).within g in
          let some : is_some (number_of s.nets w) ≡ true = num.net_names w ∙ listed in
          false≢true (ap is_some e ∙ ap (λ v. is_some (number_of s.nets v)) (sym (one_name name w h)) ∙ some)

      by : (o : Option Pin) → pin_numbered s n ≡ o → option_map_or (λ p. is_on_any (name ∷ []) (net_of p)) o false ≡ true → ⊥
      by None f h = false≢true h
      by (Some p) f h = at p f (net_of p) refl h

  -- the pins of an instance
  owner_there : (n : ℕ) → is_owned_at s (name ∷ []) n ≡ true → (p : Pin) × ((pin_numbered s n ≡ Some p) × ((i : Inst) × ((p.owner ≡ Some i) × (i.name ≡ name))))
  owner_there n e = by (pin_numbered s n) refl e
    where
      at : (p : Pin) → pin_numbered s n ≡ Some p → (o : Option Inst) → p.owner ≡ o → is_on_any (name ∷ []) (option_map (λ (i : Inst). i.name) o) ≡ true
          → (q : Pin) × ((pin_numbered s n ≡ Some q) × ((i : Inst) × ((q.owner ≡ Some i) × (i.name ≡ name))))
      at p f None g h = absurd (false≢true h)
      at p f (Some i) g h = (p, (f, (i, (g, one_name name i.name h))))

      by : (o : Option Pin) → pin_numbered s n ≡ o → option_map_or (λ p. is_on_any (name ∷ []) (option_map (λ (i : Inst). i.name) p.owner)) o false ≡ true
          → (p : Pin) × ((pin_numbered s n ≡ Some p) × ((i : Inst) × ((p.owner ≡ Some i) × (i.name ≡ name))))
      by None f h = absurd (false≢true h)
      by (Some p) f h = at p f p.owner refl h

  own_pins_are : (inst : Inst) (cell : Cell) → inst_named s.design.insts name ≡ Some inst → Contains s.design.insts inst → inst.name ≡ name → cell_of s.design Late inst ≡ Some cell
      → (n : ℕ) → list_any (nat_eq n) (filter_map (λ pin. own_number s inst pin.name) cell.pins) ≡ is_owned_at s (name ∷ []) n
  own_pins_are inst cell found there_in named is n =
      both_same (list_any (nat_eq n) (filter_map (λ pin. own_number s inst pin.name) cell.pins)) (is_owned_at s (name ∷ []) n)
      (λ e.
      let r = any_back (nat_eq n) (filter_map (λ pin. own_number s inst pin.name) cell.pins) e in
      let m = in_filter_map_back (λ (pin : CellPin). own_number s inst pin.name) cell.pins r.item r.within in
      let c = own_in s.design linked inst m.item there_in (subst (λ (o : Option Cell). Contains (cell_pins o) m.item) (sym is) m.within) in
      let has = numbered_as s num linked (cell_pin inst m.item) n c (m.same ∙ ap Some (sym (eqb-true n r.item r.passes))) in
      ap (λ o. option_map_or (λ p. is_on_any (name ∷ []) (option_map (λ (i : Inst). i.name) p.owner)) o false) has.pin ∙ name_one name inst.name named)
      (λ e.
      let t = owner_there n e in
      let i = t.1.1 in
      let has = pin_of_number s num linked n t.0 t.1.0 in
      let own = own_back s.design linked t.0 i.0 has.within i.1.0 in
      let same : i.0 ≡ inst = some_is (sym (inst_found s num linked i.0 own.inst) ∙ ap (inst_named s.design.insts) i.1.1 ∙ found) in
      let number : own_number s inst own.pin.name ≡ Some n =
      ap (λ (j : Inst). own_number s j own.pin.name) (sym same) ∙ ap (λ (p : Pin). number_of s.pins (name_of p)) (sym own.same) ∙ has.number in
      let within : Contains cell.pins own.pin =
      subst (λ (o : Option Cell). Contains (cell_pins o) own.pin) (ap (cell_of s.design Late) same ∙ is) own.within in
      any_in (nat_eq n) (filter_map (λ pin. own_number s inst pin.name) cell.pins) n
      (in_filter_map (λ (pin : CellPin). own_number s inst pin.name) cell.pins own.pin n within number) (nat_eq_equiv.refl n))

  pub inst_put : (k : ℕ) (inst : Inst) (cell : Cell) (old new : List ℕ) → Some k ≡ number_of s.insts name → inst_numbered s k ≡ Some inst
      → option_and_then (cell_of s.design Late) (inst_numbered s k) ≡ Some cell → new ≡ old ++ filter_map (λ pin. own_number s inst pin.name) cell.pins
      → (n : ℕ) → list_any (nat_eq n) new ≡ (list_any (nat_eq n) old || is_owned_at s (name ∷ []) n)
  inst_put k inst cell old new e inst_is cell_is put n =
      let found : inst_named s.design.insts name ≡ Some inst = sym (ap (option_and_then (inst_named s.design.insts)) (told_at s.insts name k (sym e))) ∙ inst_is in
      let late : cell_of s.design Late inst ≡ Some cell = sym (ap (option_and_then (cell_of s.design Late)) inst_is) ∙ cell_is in
      ap (list_any (nat_eq n)) put ∙ list_any-append (nat_eq n) old (filter_map (λ pin. own_number s inst pin.name) cell.pins)
      ∙ ap (λ b. list_any (nat_eq n) old || b)
      (own_pins_are inst cell found (found_in (λ (j : Inst). bytes_eq j.name name) s.design.insts inst found)
      (same_is inst.name name (found_passes (λ (j : Inst). bytes_eq j.name name) s.design.insts inst found)) late n)

  pub inst_away : (old new : List ℕ) → None ≡ number_of s.insts name → new ≡ old → (n : ℕ) → list_any (nat_eq n) new ≡ (list_any (nat_eq n) old || is_owned_at s (name ∷ []) n)
  inst_away old new e same n =
      ap (list_any (nat_eq n)) same
      ∙ no_more (list_any (nat_eq n) old) (is_owned_at s (name ∷ []) n) (false_from_ne_true (is_owned_at s (name ∷ []) n) (λ f.
      let t = owner_there n f in
      let i = t.1.1 in
      let own = own_back s.design linked t.0 i.0 (pin_of_number s num linked n t.0 t.1.0).within i.1.0 in
      let some : is_some (number_of s.insts i.0.name) ≡ true = num.inst_names i.0.name ∙ ap is_some (inst_found s num linked i.0 own.inst) in
      false≢true (ap is_some e ∙ ap (λ v. is_some (number_of s.insts v)) (sym i.1.1) ∙ some)))

-- both together
pub touched_both : (s : Stored) (touch : Touch) (pins nets : List ℕ) → ((n : ℕ) → list_any (nat_eq n) nets ≡ is_joined_at s touch.nets n)
    → ((n : ℕ) → list_any (nat_eq n) pins ≡ (list_any (nat_eq n) nets || is_owned_at s touch.insts n)) → (n : ℕ) → list_any (nat_eq n) pins ≡ is_touched_at s touch n
touched_both s touch pins nets on own n = own n ∙ ap (λ b. b || is_owned_at s touch.insts n) (on n) ∙ by (pin_numbered s n)
  where
    owned : (o : Option Inst) → is_on_any touch.insts (option_map (λ (i : Inst). i.name) o) ≡ option_map_or (λ (i : Inst). is_listed touch.insts i.name) o false
    owned None = refl
    owned (Some i) = refl

    by : (o : Option Pin) → (option_map_or (λ p. is_on_any touch.nets (net_of p)) o false || option_map_or (λ p. is_on_any touch.insts (option_map (λ (i : Inst). i.name) p.owner)) o false)
        ≡ option_map_or (is_touched_pin touch) o false
    by None = refl
    by (Some p) = ap (λ b. is_on_any touch.nets (net_of p) || b) (owned p.owner)

pub touched_below : (s : Stored) (num : IsNumbered s) (linked : IsLinked s.design) (touch : Touch) (pins : List ℕ)
    → ((n : ℕ) → list_any (nat_eq n) pins ≡ is_touched_at s touch n) → All (λ pin. pin < 2 ^ 31) pins
touched_below s num linked touch pins each = λ k d low.
    let n = get_or pins k d in
    at n (pin_numbered s n) refl (sym (each n) ∙ any_in (nat_eq n) pins n (Contains-get_or pins k d low) (nat_eq_equiv.refl n))
  where
    at : (n : ℕ) (o : Option Pin) → pin_numbered s n ≡ o → option_map_or (is_touched_pin touch) (pin_numbered s n) false ≡ true → n < 2 ^ 31
    at n None e f = absurd (false≢true (sym (ap (λ o. option_map_or (is_touched_pin touch) o false) e) ∙ f))
    at n (Some p) e f = let low = (pin_of_number s num linked n p e).below in let few = num.pins.below in omega (arith, low, few)

-- what follows of an answer where it is one
pub ok_then : {T E P Q : Type 0} (r : Result T E) → (P → Q) → OnOk r P → OnOk r Q
ok_then (Ok x) f h = f h
ok_then (Err e) f h = tt

pub ok_each : {T E : Type 0} (P Q : T → Type 0) (r : Result T E) → ((x : T) → P x → Q x) → IfOk r P → IfOk r Q
ok_each P Q (Ok x) f h = f x h
ok_each P Q (Err e) f h = tt
