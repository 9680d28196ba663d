-- Whether parasitics name the pins of their net, over the numbers of pins.

use Rattle.std.proofs.Common.{◌≡◌, ℕ, zero, suc, ◌+◌, ◌<◌, Bool, true, false, List, [], ◌∷◌, ◌++◌, map, filter, length, get_or, take, Option, None, Some, refl, sym, ap, ◌∙◌, inl, inr, arith}
use Rattle.std.specs.Prelude.{is_some, option_and_then, ◌&&◌, ◌||◌, Contains}
use Rattle.std.specs.List.{list_any, list_all, flat_map}
use Rattle.std.specs.Option.{option_map_or, unwrap_or}
use Rattle.std.specs.Str.{bytes_eq}
use Rattle.std.proofs.lemmas.Bool.{true≢false, and_from, and_left, eq-eqb, ne_eqb, cases_eq}
use Rattle.std.proofs.lemmas.List.{take_more, get_or_default}
use Rattle.std.proofs.lemmas.List.Folds.{list_all-append}
use Rattle.timing_defs.specs.declared.parasitics.RcNode.{RcNode}
use Rattle.timing_defs.specs.declared.parasitics.RcNode.TheVariants.{Pin as rc_pin}
use Rattle.timing_defs.specs.declared.parasitics.RcRes.{RcRes}
use Rattle.timing_defs.specs.declared.parasitics.RcCap.{RcCap}
use Rattle.timing_defs.specs.declared.parasitics.NetRc.{NetRc}
use Rattle.timing_defs.specs.declared.design.Design.{Design}
use Rattle.timing_defs.specs.Netlist.{Pin, pins, pin_named, net_of, is_on}
use Rattle.timing_defs.specs.Wires.{same_rc, is_lumped, root_node, touches}
use Rattle.timing_defs.specs.NetChecks.{named_nodes, is_pin_of, has_resistor, pins_agree}
use Rattle.netlist_store.specs.Linked.{IsLinked}
use Rattle.netlist_store.specs.Numbering.{Stored, name_at, number_of, is_named, pin_numbered, is_on_number, IsNumbered}
use Rattle.design_link.specs.Nodes.{is_node, HaveSameNodes}
use Rattle.timing_defs.proofs.SameNames.{same_is, same_self}
use Rattle.timing_defs.proofs.Members.{some_is, first_in, later_in, in_filter, passes_in, kept_in, any_in, any_back}
use Rattle.store_pins.proofs.PinLaws.{HasNumber, told_at, there, pin_told, pin_of_number}
use Rattle.design_link.proofs.Lists.{bool_iff}
use Rattle.design_link.proofs.NetPinLaws.{ArePinsOn, is_pin_on, pin_is_on}
use Rattle.store_pins.proofs.DriverLaws.{on_net}
use Rattle.design_link.proofs.NodeLaws.{node_is, node_self}
use Rattle.design_link.proofs.NetNodeLaws.{pin_node, node_at_number}

-- tests of all items, item by item
pub all_more : {X : Type 0} (p : X → Bool) (xs : List X) (i : ℕ) (x : X) → i < length xs → x ≡ get_or xs i x → list_all p (take i xs) ≡ true → p x ≡ true
    → list_all p (take (i + 1) xs) ≡ true
all_more p xs i x low here had passes =
    ap (list_all p) (take_more xs i x low ∙ ap (λ y. take i xs ++ y ∷ []) (sym here)) ∙ list_all-append p (take i xs) (x ∷ [])
    ∙ and_from (list_all p (take i xs)) (p x && true) had (and_from (p x) true passes refl)

pub not_all : {X : Type 0} (p : X → Bool) (xs : List X) (i : ℕ) (x : X) → i < length xs → x ≡ get_or xs i x → p x ≡ false → list_all p xs ≡ false
not_all p [] i x low here fails = absurd (omega arith)
not_all p (y ∷ ys) zero x low here fails = and_left (p y) (list_all p ys) (ap p (sym here) ∙ fails)
not_all p (y ∷ ys) (suc k) x low here fails = last (p y) (list_all p ys) (not_all p ys k x (omega arith) here fails)
  where
    last : (a b : Bool) → b ≡ false → (a && b) ≡ false
    last true b f = f
    last false b f = refl

pub not_all_in : {X : Type 0} (p : X → Bool) (xs : List X) (x : X) → Contains xs x → p x ≡ false → list_all p xs ≡ false
not_all_in p xs x c fails = not_all p xs c.0 x c.1 (sym c.2) fails

pub all_members : {X : Type 0} (p : X → Bool) (xs : List X) → ((x : X) → Contains xs x → p x ≡ true) → list_all p xs ≡ true
all_members p [] f = refl
all_members p (x ∷ xs) f = and_from (p x) (list_all p xs) (f x (first_in x xs)) (all_members p xs (λ y c. f y (later_in x xs y c)))

pub all_agree : {X : Type 0} (p q : X → Bool) (xs : List X) → ((x : X) → p x ≡ q x) → list_all p xs ≡ list_all q xs
all_agree p q [] h = refl
all_agree p q (x ∷ xs) h = ap (λ b. b && list_all p xs) (h x) ∙ ap (λ b. q x && b) (all_agree p q xs h)

-- all nodes that parasitics name
ends_all : (p : RcNode → Bool) (rs : List RcRes) → list_all p (flat_map (λ r. r.a ∷ r.b ∷ []) rs) ≡ list_all (λ r. p r.a && p r.b) rs
ends_all p [] = refl
ends_all p (r ∷ rs) = ap (λ b. p r.a && (p r.b && b)) (ends_all p rs) ∙ grouped (p r.a) (p r.b) (list_all (λ x. p x.a && p x.b) rs)
  where
    grouped : (a b c : Bool) → (a && (b && c)) ≡ ((a && b) && c)
    grouped true b c = refl
    grouped false b c = refl

caps_all : (p : RcNode → Bool) (cs : List RcCap) → list_all p (map (λ c. c.node) cs) ≡ list_all (λ c. p c.node) cs
caps_all p [] = refl
caps_all p (c ∷ cs) = ap (λ b. p c.node && b) (caps_all p cs)

pub named_all : (p : RcNode → Bool) (rc : NetRc) → (list_all (λ r. p r.a && p r.b) rc.ress && list_all (λ c. p c.node) rc.caps) ≡ list_all p (named_nodes rc)
named_all p rc =
    sym (list_all-append p (flat_map (λ r. r.a ∷ r.b ∷ []) rc.ress) (map (λ c. c.node) rc.caps)
    ∙ ap (λ b. b && list_all p (map (λ c. c.node) rc.caps)) (ends_all p rc.ress)
    ∙ ap (λ b. list_all (λ r. p r.a && p r.b) rc.ress && b) (caps_all p rc.caps))

-- the test of a number's name
named_is : (name : List ℕ) (o : Option (List ℕ)) → is_named name o ≡ true → o ≡ Some name
named_is name None e = absurd (true≢false (sym e))
named_is name (Some n) e = ap Some (same_is n name e)

-- a node at an end of one of some resistors
abbrev pub is_end : List RcRes → RcNode → Bool
is_end rs node = list_any (λ r. touches r node) rs

node_flips : (a b : RcNode) → same_rc a b ≡ same_rc b a
node_flips a b =
    bool_iff (same_rc a b) (same_rc b a) (λ e. ap (λ x. same_rc x a) (sym (node_is a b e)) ∙ node_self a) (λ e. ap (λ x. same_rc x b) (sym (node_is b a e)) ∙ node_self b)

pub at_ends : (rs : List RcRes) (node : RcNode) → is_node (flat_map (λ r. r.a ∷ r.b ∷ []) rs) node ≡ is_end rs node
at_ends [] node = refl
at_ends (r ∷ rs) node =
    ap (λ b. same_rc node r.a || (same_rc node r.b || b)) (at_ends rs node)
    ∙ ap (λ b. b || (same_rc node r.b || is_end rs node)) (node_flips node r.a)
    ∙ ap (λ b. same_rc r.a node || (b || is_end rs node)) (node_flips node r.b)
    ∙ grouped (same_rc r.a node) (same_rc r.b node) (is_end rs node)
  where
    grouped : (a b c : Bool) → (a || (b || c)) ≡ ((a || b) || c)
    grouped true b c = refl
    grouped false b c = refl

pub all_at_ends : (rc : NetRc) (set : List RcNode) (xs : List Pin) → HaveSameNodes set ([] ++ flat_map (λ r. r.a ∷ r.b ∷ []) rc.ress)
    → list_all (λ pin. is_node set (root_node pin)) xs ≡ list_all (has_resistor rc) xs
all_at_ends rc set xs same =
    all_agree (λ pin. is_node set (root_node pin)) (has_resistor rc) xs (λ pin. same (root_node pin) ∙ at_ends rc.ress (root_node pin))

module _ (s : Stored) (num : IsNumbered s) (linked : IsLinked s.design) where
  -- a pin is on a net by numbers as by names
  on_alike : (net n : ℕ) (word : List ℕ) (p : Pin) → name_at s.nets net ≡ Some word → HasNumber s p n → is_on_number s net n ≡ is_on word p
  on_alike net n word p here has = bool_iff (is_on_number s net n) (is_on word p) to back
    where
      to : is_on_number s net n ≡ true → is_on word p ≡ true
      to e =
          let r = is_pin_on s num linked net n word here e in
          let same : r.pin ≡ p = some_is (sym r.has.pin ∙ has.pin) in
          ap (λ o. option_map_or (bytes_eq word) o false) (ap net_of (sym same) ∙ r.on) ∙ same_self word

      back : is_on word p ≡ true → is_on_number s net n ≡ true
      back e = pin_is_on s num linked net n word p here has (on_net word (net_of p) e)

  pub named_on : (net n : ℕ) (name word : List ℕ) → name_at s.nets net ≡ Some word → number_of s.pins name ≡ Some n → is_on_number s net n ≡ is_pin_of s.design word (rc_pin name)
  named_on net n name word here e =
      let some = there (pin_named s.design name) (sym (num.pin_names name) ∙ ap is_some e) in
      let its : pin_numbered s n ≡ Some some.0 = ap (option_and_then (pin_named s.design)) (told_at s.pins name n e) ∙ some.1 in
      on_alike net n word some.0 here (pin_of_number s num linked n some.0 its) ∙ sym (ap (λ o. option_map_or (is_on word) o false) some.1)

  pub not_named : (name word : List ℕ) → number_of s.pins name ≡ None → false ≡ is_pin_of s.design word (rc_pin name)
  not_named name word e = by (pin_named s.design name) refl
    where
      by : (o : Option Pin) → pin_named s.design name ≡ o → false ≡ option_map_or (is_on word) (pin_named s.design name) false
      by None h = sym (ap (λ o. option_map_or (is_on word) o false) h)
      by (Some p) h = absurd (true≢false (sym (num.pin_names name ∙ ap is_some h) ∙ ap is_some e))

  -- a name stands among the pins on a net exactly where its pin is on the net
  pub named_among : (net : ℕ) (items : List ℕ) (name word : List ℕ) → ArePinsOn s net items → name_at s.nets net ≡ Some word
      → list_any (λ n. is_named name (name_at s.pins n)) items ≡ is_pin_of s.design word (rc_pin name)
  named_among net items name word on here =
      bool_iff (list_any (λ n. is_named name (name_at s.pins n)) items) (is_pin_of s.design word (rc_pin name)) to (back (number_of s.pins name) refl)
    where
      to : list_any (λ n. is_named name (name_at s.pins n)) items ≡ true → is_pin_of s.design word (rc_pin name) ≡ true
      to e =
          let m = any_back (λ n. is_named name (name_at s.pins n)) items e in
          sym (named_on net m.item name word here (num.pins.distinct m.item name (named_is name (name_at s.pins m.item) m.passes))) ∙ on.on m.item m.within

      back : (o : Option ℕ) → number_of s.pins name ≡ o → is_pin_of s.design word (rc_pin name) ≡ true → list_any (λ n. is_named name (name_at s.pins n)) items ≡ true
      back None h e = absurd (true≢false (sym (not_named name word h ∙ e)))
      back (Some n) h e =
          any_in (λ m. is_named name (name_at s.pins m)) items n (on.all n (named_on net n name word here h ∙ e)) (ap (is_named name) (told_at s.pins name n h) ∙ same_self name)

  -- all pins on a net pass a test of nodes
  module _ (net : ℕ) (items : List ℕ) (test : RcNode → Bool) (word : List ℕ) (on : ArePinsOn s net items) (here : name_at s.nets net ≡ Some word) where
    pub all_pins_pass : ((k : ℕ) → k < length items → test (pin_node s (get_or items k 0)) ≡ true)
        → true ≡ list_all (λ pin. test (root_node pin)) (filter (is_on word) (pins s.design))
    all_pins_pass each = sym (all_members (λ pin. test (root_node pin)) (filter (is_on word) (pins s.design)) member)
      where
        member : (p : Pin) → Contains (filter (is_on word) (pins s.design)) p → test (root_node p) ≡ true
        member p c =
            let h = pin_told s num linked p (kept_in (is_on word) (pins s.design) p c) in
            let inside = on.all h.0 (pin_is_on s num linked net h.0 word p here h.1 (on_net word (net_of p) (passes_in (is_on word) (pins s.design) p c))) in
            let at : get_or items inside.0 0 ≡ h.0 = get_or_default items inside.0 0 h.0 inside.1 ∙ inside.2 in
            let is : pin_node s (get_or items inside.0 0) ≡ root_node p = ap (pin_node s) at ∙ ap rc_pin (ap (λ o. unwrap_or o []) h.1.name) in
            ap test (sym is) ∙ each inside.0 inside.1

    pub one_pin_fails : (n : ℕ) → Contains items n → test (pin_node s n) ≡ false
        → false ≡ list_all (λ pin. test (root_node pin)) (filter (is_on word) (pins s.design))
    one_pin_fails n c fails =
        let r = is_pin_on s num linked net n word here (on.on n c) in
        let is : pin_node s n ≡ root_node r.pin = ap rc_pin (ap (λ o. unwrap_or o []) r.has.name) in
        let passes : is_on word r.pin ≡ true = ap (λ o. option_map_or (bytes_eq word) o false) r.on ∙ same_self word in
        sym (not_all_in (λ pin. test (root_node pin)) (filter (is_on word) (pins s.design)) r.pin (in_filter (is_on word) (pins s.design) r.pin r.has.within passes)
        (ap test (sym is) ∙ fails))

-- one pin more passes
pub pins_more : (s : Stored) (items : List ℕ) (test : RcNode → Bool) (i : ℕ) (name : List ℕ) → ((k : ℕ) → k < i → test (pin_node s (get_or items k 0)) ≡ true)
    → name_at s.pins (get_or items i 0) ≡ Some name → test (rc_pin name) ≡ true → (k : ℕ) → k < i + 1 → test (pin_node s (get_or items k 0)) ≡ true
pins_more s items test i name had here there k low = elim (cases_eq k i) [
  | inl same ↦ ap (λ n. test (pin_node s (get_or items n 0))) same ∙ ap test (sym (node_at_number s (get_or items i 0) name here)) ∙ there
  | inr other ↦ had k (omega arith)
]

-- whether pins agree, by its parts
module _ (d : Design) (rc : NetRc) where
  pub not_agree : list_all (is_pin_of d rc.net) (named_nodes rc) ≡ false → false ≡ pins_agree d rc
  not_agree e = sym (ap (λ b. b && (is_lumped rc || list_all (has_resistor rc) (filter (is_on rc.net) (pins d)))) e)

  pub lumped_agree : list_all (is_pin_of d rc.net) (named_nodes rc) ≡ true → length rc.ress ≡ 0 → true ≡ pins_agree d rc
  lumped_agree e none =
      sym (ap (λ b. b && (is_lumped rc || list_all (has_resistor rc) (filter (is_on rc.net) (pins d)))) e
      ∙ ap (λ b. b || list_all (has_resistor rc) (filter (is_on rc.net) (pins d))) (eq-eqb (length rc.ress) 0 none))

  pub ends_agree : list_all (is_pin_of d rc.net) (named_nodes rc) ≡ true → (length rc.ress ≡ 0 → ⊥)
      → list_all (has_resistor rc) (filter (is_on rc.net) (pins d)) ≡ pins_agree d rc
  ends_agree e some =
      sym (ap (λ b. b && (is_lumped rc || list_all (has_resistor rc) (filter (is_on rc.net) (pins d)))) e
      ∙ ap (λ b. b || list_all (has_resistor rc) (filter (is_on rc.net) (pins d))) (ne_eqb (length rc.ress) 0 some))
