-- The trees of a net with resistors: that they can be made, when they are refused, and what they tell.

use Rattle.std.proofs.Common.{◌≡◌, ◌⊎◌, ℕ, ◌≤◌, ℤ, pos, negsuc, ◌+ℤ◌, ◌*ℤ◌, Bool, true, false, not, cond, List, [], ◌∷◌, ◌++◌, map, filter, length, Option, None, Some, refl, sym, ap, subst, ◌∙◌, inl, inr, arith}
use Rattle.std.specs.Prelude.{nat_abs, nat_eq, nat_lt, count_by, int_le, is_some, ◌&&◌, ◌||◌, if◌then◌else◌, Contains}
use Rattle.std.specs.List.{AllByRecursion, list_all, list_any, flat_map}
use Rattle.std.specs.Option.{option_map_or, unwrap_or, option_to_list}
use Rattle.std.specs.Str.{bytes_eq}
use Rattle.std.proofs.lemmas.Bool.{cases_Bool, false≢true, and_parts, and_from, or_cases, leb-true, le-ltb, eq-eqb}
use Rattle.std.proofs.lemmas.List.Elements.{Contains-append_left, Contains-append_right, Contains-append_cases}
use Rattle.sta_units.specs.Numbers.{limit, is_within, root_of}
use Rattle.timing_defs.specs.declared.kinds.Split.{Split}
use Rattle.timing_defs.specs.declared.kinds.Split.TheVariants.{Early, Late}
use Rattle.timing_defs.specs.declared.parasitics.RcNode.{RcNode}
use Rattle.timing_defs.specs.declared.parasitics.RcNode.TheVariants.{Pin as rc_pin, Inner as rc_inner}
use Rattle.timing_defs.specs.declared.parasitics.RcCap.{RcCap}
use Rattle.timing_defs.specs.declared.parasitics.RcRes.{RcRes}
use Rattle.timing_defs.specs.declared.parasitics.NetRc.{NetRc}
use Rattle.timing_defs.specs.declared.rows.PinCap.{PinCap}
use Rattle.timing_defs.specs.declared.design.Design.{Design}
use Rattle.timing_defs.specs.Netlist.{Pin, name_of, pins, pin_named, net_of, is_on, is_driver, driver, sinks, is_listed, are_distinct}
use Rattle.timing_defs.specs.Wires.{sum_of, same_rc, res_of, elmore, impulse, charges, rc_of, rc_load, net_load, pin_cap, is_lumped, root_node, path_between, wire_delay, wire_slew}
use Rattle.timing_rules.specs.Clocking.{driver_on}
use Rattle.timing_rules.specs.Rows.{net_name}
use Rattle.timing_defs.specs.NetChecks.{named_nodes, different, is_pin_of, has_resistor}
use Rattle.timing_rules.specs.Range.{rc_nodes, wires_within, is_large_rc, is_net_origin}
use Rattle.timing_defs.proofs.ListLemmas.{bool_iff}
use Rattle.netlist_store.specs.Linked.{IsLinked}
use Rattle.timing_defs.specs.Documents.{is_amount, is_net_rc}
use Rattle.netlist_store.specs.Numbering.{Stored, name_at, pin_numbered, is_on_number, IsNumbered}
use Rattle.rc_tree.specs.Trees.{is_amount as is_measure, is_listed_pin, tree_nodes, is_unreached, is_too_large, total_load, delay_of, impulse_of, is_out_of_range, IsMeasured}
use Rattle.rc_tree.proofs.Routes.{all_append, same_rc_is, same_rc_self}
use Rattle.node_rows.specs.NetPins.{IsOnNet, cap_at, pin_cap_at}
use Rattle.node_rows.specs.NetTrees.{IsTreeNet, IsSink, pin_word}
use Rattle.node_rows.specs.WireTables.{IsWire, split_wire}
use Rattle.node_rows.specs.declared.pin_wires.PinWire.{PinWire}
use Rattle.timing_defs.proofs.SameNames.{same_is, same_self}
use Rattle.timing_defs.proofs.Members.{IsMapped, first_in, later_in, in_cases, none_in, in_map, in_map_back, in_flat_map, in_filter, kept_in, any_in, any_back, all_in, found_in, found_passes}
use Rattle.store_pins.proofs.PinLaws.{HasNumber}
use Rattle.store_pins.proofs.DriverLaws.{counted_in, is_the_driver}
use Rattle.node_rows.proofs.CountLaws.{count_cons}
use Rattle.node_rows.proofs.PinSums.{number, numbered, on_number, number_on}
use Rattle.node_rows.proofs.Amounts.{at_amount}
use Rattle.node_rows.proofs.NetFaults.{IsRcTree, small_net, rc_tree_is}
use Rattle.node_rows.proofs.TreeForms.{charge, pin_charge, elmore_same, impulse_same, charges_same, load_same}

pub counted_on : (s : Stored) (net : ℕ) (items : List ℕ) → IsOnNet s net items → (n : ℕ) → Contains items n → is_on_number s net n ≡ true
counted_on s net items each n c = elim (cases_Bool (is_on_number s net n)) [
  | inl h ↦ h
  | inr h ↦ absurd (none_counted items c (each n ∙ ap (λ b. if b then 1 else 0) h))
]
  where
    none_counted : (xs : List ℕ) → Contains xs n → count_by (nat_eq n) xs ≡ 0 → ⊥
    none_counted [] c e = none_in n c
    none_counted (x ∷ xs) c e =
        let parts = count_cons n x xs in
        elim (in_cases x xs n c) [
          | inl same ↦
              let one : cond {A = ℕ} (nat_eq n x) 1 0 ≡ 1 = ap (λ b. cond {A = ℕ} b 1 0) (eq-eqb n x (sym same)) in
              omega arith
          | inr d ↦ none_counted xs d (omega arith)
        ]

-- amounts, as the tree takes them
measure_of : (z : ℤ) → is_amount z ≡ true → is_measure z ≡ true
measure_of (pos n) h =
    let low : n ≤ limit = leb-true n limit (and_parts (int_le (pos 0) (pos n)) (is_within (pos n)) h).1 in
    ap not (le-ltb limit n low)
measure_of (negsuc n) h = absurd (false≢true (and_parts (int_le (pos 0) (negsuc n)) (is_within (negsuc n)) h).0)

all_rec : {X : Type 0} (p : X → Bool) (Q : X → Type 0) → ((x : X) → p x ≡ true → Q x) → (xs : List X) → list_all p xs ≡ true → AllByRecursion Q xs
all_rec p Q f [] h = tt
all_rec p Q f (x ∷ xs) h = let parts = and_parts (p x) (list_all p xs) h in (f x parts.0, all_rec p Q f xs parts.1)

all_map_twice : {X Y Z : Type 0} (Q : Z → Type 0) (f : Y → Z) (g : X → Y) → ((x : X) → Q (f (g x))) → (xs : List X) → AllByRecursion Q (map f (map g xs))
all_map_twice Q f g h [] = tt
all_map_twice Q f g h (x ∷ xs) = (h x, all_map_twice Q f g h xs)

all_from : {X : Type 0} (p : X → Bool) (xs : List X) → ((x : X) → Contains xs x → p x ≡ true) → list_all p xs ≡ true
all_from p [] h = refl
all_from p (x ∷ xs) h = and_from (p x) (list_all p xs) (h x (first_in x xs)) (all_from p xs (λ y c. h y (later_in x xs y c)))

all_members : {X : Type 0} (p q : X → Bool) (xs ys : List X) → ((x : X) → p x ≡ q x) → ((x : X) → Contains xs x → Contains ys x) → ((x : X) → Contains ys x → Contains xs x)
    → list_all p xs ≡ list_all q ys
all_members p q xs ys same there back =
    bool_iff (list_all p xs) (list_all q ys)
    (λ h. all_from q ys (λ y c. sym (same y) ∙ all_in p xs y h (back y c)))
    (λ h. all_from p xs (λ x c. same x ∙ all_in q ys x h (there x c)))

pub caps_measured : (caps : List RcCap) → list_all (λ c. is_amount c.cap.0) caps ≡ true → AllByRecursion (λ c. is_measure c.cap.0 ≡ true) caps
caps_measured caps h = all_rec (λ (c : RcCap). is_amount c.cap.0) (λ c. is_measure c.cap.0 ≡ true) (λ c k. measure_of c.cap.0 k) caps h

pub all_measured : (s : Stored) (linked : IsLinked s.design) (split : Split) (drivers : Bool) (pins : List ℕ) → AllByRecursion (λ n. is_measure (cap_at s split drivers n) ≡ true) pins
all_measured s linked split drivers [] = tt
all_measured s linked split drivers (n ∷ ns) = (measure_of (cap_at s split drivers n) (at_amount s linked split drivers n), all_measured s linked split drivers ns)

-- distinct nodes
abbrev among : List RcNode → RcNode → Bool
among nodes n = list_any (same_rc n) nodes

alike : (xs p q : List RcNode) → length p ≡ length q → ((n : RcNode) → among p n ≡ among q n) → different p xs ≡ different q xs
alike [] p q len same = len
alike (n ∷ ns) p q len same = elim (cases_Bool (among q n)) [
  | inl h ↦ rw (same n, h) (alike ns p q len same)
  | inr h ↦ rw (same n, h) (alike ns (n ∷ p) (n ∷ q) (omega (arith, len)) (λ m. ap (λ b. same_rc m n || b) (same m)))
]

not_sym : (a b : RcNode) → same_rc a b ≡ false → same_rc b a ≡ false
not_sym a b h = elim (cases_Bool (same_rc b a)) [
  | inl k ↦ absurd (false≢true (sym h ∙ ap (λ c. same_rc c b) (sym (same_rc_is b a k)) ∙ same_rc_self b))
  | inr k ↦ k
]

or_swap : (a b c : Bool) → (a || (b || c)) ≡ (b || (a || c))
or_swap true true c = refl
or_swap true false c = refl
or_swap false b c = refl

-- a node that comes later anyhow makes no difference at the head
head_again : (x : RcNode) (xs before : List RcNode) → among xs x ≡ true → among before x ≡ false → different (x ∷ before) xs ≡ different before xs
head_again x [] before later none = absurd (false≢true later)
head_again x (y ∷ ys) before later none = elim (cases_Bool (same_rc x y)) [
  | inl h ↦
      let is : x ≡ y = same_rc_is x y h in
      let own : same_rc y x ≡ true = ap (same_rc y) is ∙ same_rc_self y in
      let not_before : among before y ≡ false = ap (among before) (sym is) ∙ none in
      rw (own, not_before) (ap (λ z. different (z ∷ before) ys) is)
  | inr h ↦
      let rest : among ys x ≡ true = rw h at later in
      let other : same_rc y x ≡ false = not_sym x y h in
      elim (cases_Bool (among before y)) [
        | inl k ↦ rw (other, k) (head_again x ys before rest none)
        | inr k ↦
            rw (other, k)
            (alike ys (y ∷ x ∷ before) (x ∷ y ∷ before) refl (λ m. or_swap (same_rc m y) (same_rc m x) (among before m))
            ∙ head_again x ys (y ∷ before) rest (ap (λ b. b || among before x) h ∙ none))
      ]
]

-- tests of a net
origin_none : (le ll r we wl : Bool) → ((not r || not le) || not we) ≡ false → ((not r || not ll) || not wl) ≡ false
    → ((not le || not ll) || (not r || (not we || not wl))) ≡ false
origin_none true true true true true h k = refl
origin_none le ll false we wl h k = absurd (false≢true (sym h))
origin_none false ll true we wl h k = absurd (false≢true (sym h))
origin_none true ll true false wl h k = absurd (false≢true (sym h))
origin_none true false true true wl h k = absurd (false≢true (sym k))
origin_none true true true true false h k = absurd (false≢true (sym k))

origin_early : (le ll r we wl : Bool) → ((not r || not le) || not we) ≡ true → ((not le || not ll) || (not r || (not we || not wl))) ≡ true
origin_early false ll r we wl h = refl
origin_early true false r we wl h = refl
origin_early true true false we wl h = refl
origin_early true true true false wl h = refl
origin_early true true true true wl h = absurd (false≢true h)

origin_late : (le ll r we wl : Bool) → ((not r || not ll) || not wl) ≡ true → ((not le || not ll) || (not r || (not we || not wl))) ≡ true
origin_late false ll r we wl h = refl
origin_late true false r we wl h = refl
origin_late true true false we wl h = refl
origin_late true true true false wl h = refl
origin_late true true true true false h = refl
origin_late true true true true true h = absurd (false≢true h)

and_true : (a : Bool) → (a && true) ≡ a
and_true true = refl
and_true false = refl

-- the parasitics of a net in the design
pub rc_in : (d : Design) (name : List ℕ) (rc : NetRc) → rc_of d name ≡ Some rc → Contains d.rcs rc
rc_in d name rc e = found_in (λ (r : NetRc). bytes_eq r.net name) d.rcs rc e

pub rc_name : (d : Design) (name : List ℕ) (rc : NetRc) → rc_of d name ≡ Some rc → rc.net ≡ name
rc_name d name rc e = same_is rc.net name (found_passes (λ (r : NetRc). bytes_eq r.net name) d.rcs rc e)

pub rc_good : (d : Design) → IsLinked d → (rc : NetRc) → Contains d.rcs rc → is_net_rc rc ≡ true
rc_good d linked rc c =
    all_in is_net_rc d.rcs rc (and_parts (are_distinct (map (λ (r : NetRc). r.net) d.rcs)) (list_all is_net_rc d.rcs) linked.parasitics).1 c

module _ (s : Stored) (num : IsNumbered s) (linked : IsLinked s.design) (rc : NetRc) (root : ℕ) (items : List ℕ) (t : IsTreeNet s rc root items) where
  abbrev d : Design
  d = s.design

  rc_within : Contains d.rcs rc
  rc_within = rc_in d rc.net rc t.its

  -- the driver
  pub root_pin : (p : Pin) × HasNumber s p root × (net_of p ≡ Some rc.net) × Contains (filter (is_on rc.net) (pins d)) p
  root_pin = on_number s num linked t.net rc.net t.name root (counted_on s t.net items t.each root t.rooted)

  abbrev driving : Pin
  driving = root_pin.0

  drives : is_driver driving ≡ true
  drives = sym (ap (λ o. option_map_or is_driver o false) root_pin.1.pin) ∙ t.drives

  net_listed : is_listed d.nets rc.net ≡ true
  net_listed = sym (num.net_names rc.net) ∙ ap is_some (num.nets.distinct t.net rc.net t.name)

  pub the_driver : driver d rc.net ≡ Some driving
  the_driver = is_the_driver d t.sound.net_sound rc.net driving net_listed root_pin.1.within drives root_pin.2

  pub tree : IsRcTree d rc driving
  tree = rc_tree_is d t.sound.data_sound rc rc_within driving the_driver t.ress

  root_word : pin_word s root ≡ name_of driving
  root_word = ap (λ o. unwrap_or o []) root_pin.1.name

  -- the numbers stand for the pins on the net
  pin_there : (n : ℕ) → Contains items n → (p : Pin) × HasNumber s p n × (net_of p ≡ Some rc.net) × Contains (filter (is_on rc.net) (pins d)) p
  pin_there n c = on_number s num linked t.net rc.net t.name n (counted_on s t.net items t.each n c)

  pub told_there : (n : ℕ) → Contains items n → (p : Pin) × (pin_numbered s n ≡ Some p) × (name_at s.pins n ≡ Some (name_of p))
  told_there n c = let p = pin_there n c in (p.0, p.1.pin, p.1.name)

  number_there : (p : Pin) → Contains (filter (is_on rc.net) (pins d)) p → Contains items (number s num linked p)
  number_there p c =
      let on = number_on s num linked t.net rc.net t.name p c in
      counted_in (number s num linked p) items (t.each (number s num linked p) ∙ ap (λ b. if b then 1 else 0) on.1)

  -- a pin with a resistor is a node that the net names
  pub pin_named_there : (p : Pin) → Contains (filter (is_on rc.net) (pins d)) p → Contains (named_nodes rc) (root_node p)
  pin_named_there p c =
      let r = any_back (λ (x : RcRes). same_rc x.a (root_node p) || same_rc x.b (root_node p)) rc.ress (all_in (has_resistor rc) (filter (is_on rc.net) (pins d)) p tree.placed c) in
      Contains-append_left (flat_map (λ (x : RcRes). x.a ∷ x.b ∷ []) rc.ress) (map (λ (x : RcCap). x.node) rc.caps) (root_node p)
      (in_flat_map (λ (x : RcRes). x.a ∷ x.b ∷ []) rc.ress r.item (root_node p) r.within (either_end r.item (or_cases (same_rc r.item.a (root_node p)) (same_rc r.item.b (root_node p)) r.passes)))
    where
      either_end : (x : RcRes) → (same_rc x.a (root_node p) ≡ true) ⊎ (same_rc x.b (root_node p) ≡ true) → Contains (x.a ∷ x.b ∷ []) (root_node p)
      either_end x (inl h) = subst (λ (n : RcNode). Contains (x.a ∷ x.b ∷ []) n) (same_rc_is x.a (root_node p) h) (first_in x.a (x.b ∷ []))
      either_end x (inr h) = subst (λ (n : RcNode). Contains (x.a ∷ x.b ∷ []) n) (same_rc_is x.b (root_node p) h) (later_in x.a (x.b ∷ []) x.b (first_in x.b []))

  module _ (split : Split) where
    abbrev caps : List PinCap
    caps = map (pin_cap_at s split) items

    -- a pin's number is listed with its name
    listed : (n : ℕ) (name : List ℕ) → Contains items n → pin_word s n ≡ name → is_listed_pin caps (rc_pin name) ≡ true
    listed n name c e =
        any_in (λ (p : PinCap). same_rc (rc_pin name) (rc_pin p.pin)) caps (pin_cap_at s split n) (in_map (pin_cap_at s split) items n c)
        (ap (λ w. bytes_eq name w) e ∙ same_self name)

    node_listed : (node : RcNode) → is_pin_of d rc.net node ≡ true → is_listed_pin caps node ≡ true
    node_listed (rc_inner k) h = refl
    node_listed (rc_pin name) h = by (pin_named d name) refl h
      where
        by : (o : Option Pin) → pin_named d name ≡ o → option_map_or (is_on rc.net) o false ≡ true → is_listed_pin caps (rc_pin name) ≡ true
        by None e g = absurd (false≢true g)
        by (Some p) e g =
            let c = in_filter (is_on rc.net) (pins d) p (found_in (λ q. bytes_eq (name_of q) name) (pins d) p e) g in
            let same : name_of p ≡ name = same_is (name_of p) name (found_passes (λ q. bytes_eq (name_of q) name) (pins d) p e) in
            let there = numbered s num linked p (kept_in (is_on rc.net) (pins d) p c) in
            listed (number s num linked p) name (number_there p c) (ap (λ o. unwrap_or o []) there.name ∙ same)

    amounts : (list_all (λ (c : RcCap). is_amount c.cap.0) rc.caps ≡ true) × (list_all (λ (r : RcRes). is_amount r.res.0) rc.ress ≡ true) × (is_amount rc.lump.0 ≡ true)
    amounts =
        let whole = rc_good d linked rc rc_within in
        let one = and_parts (list_all (λ (c : RcCap). is_amount c.cap.0) rc.caps && list_all (λ (r : RcRes). is_amount r.res.0) rc.ress) (is_amount rc.lump.0) whole in
        let two = and_parts (list_all (λ (c : RcCap). is_amount c.cap.0) rc.caps) (list_all (λ (r : RcRes). is_amount r.res.0) rc.ress) one.0 in
        (two.0, two.1, one.1)

    pub measured : IsMeasured rc (pin_word s root) caps
    measured =
        record {
          named = all_rec (is_pin_of d rc.net) (λ node. is_listed_pin caps node ≡ true) node_listed (named_nodes rc) tree.named;
          rooted = listed root (pin_word s root) t.rooted refl;
          resistances = all_rec (λ (r : RcRes). is_amount r.res.0) (λ r. is_measure (res_of r) ≡ true) (λ r h. measure_of r.res.0 h) rc.ress amounts.1;
          caps =
              all_append (λ (c : RcCap). is_measure c.cap.0 ≡ true) rc.caps (map charge caps)
              (all_rec (λ (c : RcCap). is_amount c.cap.0) (λ c. is_measure c.cap.0 ≡ true) (λ c h. measure_of c.cap.0 h) rc.caps amounts.0)
              (all_map_twice (λ (c : RcCap). is_measure c.cap.0 ≡ true) charge (pin_cap_at s split) (λ n. measure_of (cap_at s split true n) (at_amount s linked split true n)) items);
          lump = measure_of rc.lump.0 amounts.2;
        }

    pub reached : is_unreached rc (pin_word s root) ≡ false
    reached =
        ap (λ w. not (is_lumped rc) && not (list_all (λ node. is_some (path_between rc.ress (rc_pin w) node)) (named_nodes rc))) root_word
        ∙ ap (λ b. not (is_lumped rc) && not b) tree.reached ∙ no_and (not (is_lumped rc))
      where
        no_and : (a : Bool) → (a && false) ≡ false
        no_and true = refl
        no_and false = refl

    root_among : among (named_nodes rc) (rc_pin (pin_word s root)) ≡ true
    root_among =
        any_in (same_rc (rc_pin (pin_word s root))) (named_nodes rc) (root_node driving) (pin_named_there driving root_pin.3)
        (ap (λ w. same_rc (rc_pin (pin_word s root)) (rc_pin w)) (sym root_word) ∙ same_rc_self (rc_pin (pin_word s root)))

    pub small : is_too_large rc (pin_word s root) caps ≡ false
    small =
        ap (λ b. nat_lt 65535 (different [] (rc_pin (pin_word s root) ∷ ((if b then map (λ (p : PinCap). rc_pin p.pin) caps else []) ++ named_nodes rc)))) t.ress
        ∙ ap (nat_lt 65535) (head_again (rc_pin (pin_word s root)) (named_nodes rc) [] root_among refl)
        ∙ sym (ap (λ b. nat_lt 65535 (different [] (if b then map root_node (filter (is_on rc.net) (pins d)) ++ named_nodes rc else named_nodes rc))) t.ress)
        ∙ small_net d t.sound.net_sound rc rc_within

    -- what the tree computes is what the definition has
    delay_same : (node : RcNode) → delay_of rc (pin_word s root) caps node ≡ elmore rc.ress (root_node driving) (charges d split rc) node
    delay_same node =
        ap (λ w. elmore rc.ress (rc_pin w) (rc.caps ++ map charge caps) node) root_word
        ∙ elmore_same rc.ress (root_node driving) (rc.caps ++ map charge caps) (charges d split rc)
        (charges_same s num linked t.net rc.net t.name items t.each told_there split rc refl) node

    pub impulse_is : (node : RcNode) → impulse_of rc (pin_word s root) caps node ≡ impulse rc.ress (root_node driving) (charges d split rc) node
    impulse_is node =
        ap (λ w. impulse rc.ress (rc_pin w) (rc.caps ++ map charge caps) node) root_word
        ∙ impulse_same rc.ress (root_node driving) (rc.caps ++ map charge caps) (charges d split rc)
        (charges_same s num linked t.net rc.net t.name items t.each told_there split rc refl) node

    pub load_is : total_load rc caps ≡ net_load d split rc.net
    load_is =
        load_same s num linked t.net rc.net t.name items t.each told_there split rc refl
        ∙ sym (ap (λ o. option_map_or (rc_load d split) o (sum_of (pin_cap d split) (sinks d rc.net))) t.its)

    -- the nodes of the tree are those of the net
    abbrev tree_list : List RcNode
    tree_list = tree_nodes rc (pin_word s root) caps

    pub tree_list_is : tree_list ≡ rc_pin (pin_word s root) ∷ named_nodes rc
    tree_list_is = ap (λ b. rc_pin (pin_word s root) ∷ ((if b then map (λ (p : PinCap). rc_pin p.pin) caps else []) ++ named_nodes rc)) t.ress

    abbrev ends : List RcNode
    ends = flat_map (λ (r : RcRes). r.a ∷ r.b ∷ []) rc.ress

    in_tree : (node : RcNode) → Contains (rc_nodes d split rc) node → Contains (named_nodes rc) node
    in_tree node c = elim (Contains-append_cases ends (map (λ (x : RcCap). x.node) (charges d split rc)) node c) [
      | inl h ↦ Contains-append_left ends (map (λ (x : RcCap). x.node) rc.caps) node h
      | inr h ↦ charged (in_map_back (λ (x : RcCap). x.node) (charges d split rc) node h)
    ]
      where
        charged : IsMapped (λ (x : RcCap). x.node) (charges d split rc) node → Contains (named_nodes rc) node
        charged m = elim (Contains-append_cases rc.caps (map (pin_charge d split) (filter (is_on rc.net) (pins d))) m.item m.within) [
          | inl h ↦
              Contains-append_right ends (map (λ (x : RcCap). x.node) rc.caps) node
              (subst (λ (n : RcNode). Contains (map (λ (x : RcCap). x.node) rc.caps) n) m.same (in_map (λ (x : RcCap). x.node) rc.caps m.item h))
          | inr h ↦
              let p = in_map_back (pin_charge d split) (filter (is_on rc.net) (pins d)) m.item h in
              subst (λ (n : RcNode). Contains (named_nodes rc) n) (ap (λ (x : RcCap). x.node) p.same ∙ m.same) (pin_named_there p.item p.within)
        ]

    in_net : (node : RcNode) → Contains (rc_pin (pin_word s root) ∷ named_nodes rc) node → Contains (rc_nodes d split rc) node
    in_net node c = elim (in_cases (rc_pin (pin_word s root)) (named_nodes rc) node c) [
      | inl e ↦
          Contains-append_right ends (map (λ (x : RcCap). x.node) (charges d split rc)) node
          (subst (λ (n : RcNode). Contains (map (λ (x : RcCap). x.node) (charges d split rc)) n) (ap rc_pin (sym root_word) ∙ e)
          (in_map (λ (x : RcCap). x.node) (charges d split rc) (pin_charge d split driving)
          (Contains-append_right rc.caps (map (pin_charge d split) (filter (is_on rc.net) (pins d))) (pin_charge d split driving)
          (in_map (pin_charge d split) (filter (is_on rc.net) (pins d)) driving root_pin.3))))
      | inr h ↦ elim (Contains-append_cases ends (map (λ (x : RcCap). x.node) rc.caps) node h) [
        | inl k ↦ Contains-append_left ends (map (λ (x : RcCap). x.node) (charges d split rc)) node k
        | inr k ↦
            let m = in_map_back (λ (x : RcCap). x.node) rc.caps node k in
            Contains-append_right ends (map (λ (x : RcCap). x.node) (charges d split rc)) node
            (subst (λ (n : RcNode). Contains (map (λ (x : RcCap). x.node) (charges d split rc)) n) m.same
            (in_map (λ (x : RcCap). x.node) (charges d split rc) m.item
            (Contains-append_left rc.caps (map (pin_charge d split) (filter (is_on rc.net) (pins d))) m.item m.within)))
      ]
    ]

    delays_within : list_all (λ node. is_within (delay_of rc (pin_word s root) caps node)) tree_list ≡ wires_within d split rc
    delays_within =
        ap (list_all (λ node. is_within (delay_of rc (pin_word s root) caps node))) tree_list_is
        ∙ all_members (λ node. is_within (delay_of rc (pin_word s root) caps node)) (λ node. is_within (elmore rc.ress (root_node driving) (charges d split rc) node))
        (rc_pin (pin_word s root) ∷ named_nodes rc) (rc_nodes d split rc) (λ node. ap is_within (delay_same node)) in_net (λ node c. later_in (rc_pin (pin_word s root)) (named_nodes rc) node (in_tree node c))
        ∙ sym (and_true (list_all (λ node. is_within (elmore rc.ress (root_node driving) (charges d split rc) node)) (rc_nodes d split rc)))
        ∙ sym (ap (λ o. list_all (λ root. list_all (λ k. is_within (elmore rc.ress (root_node root) (charges d split rc) k)) (rc_nodes d split rc)) (option_map_or (λ pin. pin ∷ []) o [])) the_driver)

    abbrev total_fine : Bool
    total_fine = is_within (sum_of res_of rc.ress)

    pub large_as : is_out_of_range rc (pin_word s root) caps ≡ ((not total_fine || not (is_within (net_load d split rc.net))) || not (wires_within d split rc))
    large_as =
        ap (λ z. (not total_fine || not (is_within z)) || not (list_all (λ node. is_within (delay_of rc (pin_word s root) caps node)) tree_list)) load_is
        ∙ ap (λ b. (not total_fine || not (is_within (net_load d split rc.net))) || not b) delays_within

  origin_is : is_net_origin d rc.net
      ≡ ((not (is_within (net_load d Early rc.net)) || not (is_within (net_load d Late rc.net)))
      || (not (is_within (sum_of res_of rc.ress)) || (not (wires_within d Early rc) || not (wires_within d Late rc))))
  origin_is =
      ap (λ o. (not (is_within (net_load d Early rc.net)) || not (is_within (net_load d Late rc.net))) || option_map_or (is_large_rc d) o false) t.its

  pub no_origin : is_out_of_range rc (pin_word s root) (map (pin_cap_at s Early) items) ≡ false → is_out_of_range rc (pin_word s root) (map (pin_cap_at s Late) items) ≡ false
      → is_net_origin d rc.net ≡ false
  no_origin h k =
      origin_is
      ∙ origin_none (is_within (net_load d Early rc.net)) (is_within (net_load d Late rc.net)) (is_within (sum_of res_of rc.ress)) (wires_within d Early rc) (wires_within d Late rc)
      (sym (large_as Early) ∙ h) (sym (large_as Late) ∙ k)

  pub early_origin : is_out_of_range rc (pin_word s root) (map (pin_cap_at s Early) items) ≡ true → is_net_origin d rc.net ≡ true
  early_origin h =
      origin_is
      ∙ origin_early (is_within (net_load d Early rc.net)) (is_within (net_load d Late rc.net)) (is_within (sum_of res_of rc.ress)) (wires_within d Early rc) (wires_within d Late rc)
      (sym (large_as Early) ∙ h)

  pub late_origin : is_out_of_range rc (pin_word s root) (map (pin_cap_at s Late) items) ≡ true → is_net_origin d rc.net ≡ true
  late_origin h =
      origin_is
      ∙ origin_late (is_within (net_load d Early rc.net)) (is_within (net_load d Late rc.net)) (is_within (sum_of res_of rc.ress)) (wires_within d Early rc) (wires_within d Late rc)
      (sym (large_as Late) ∙ h)

  -- the wire to a sink of the net, as the trees tell it
  from_is : (from : Pin) → Contains (driver_on d (Some rc.net)) from → from ≡ driving
  from_is from c =
      let one : Contains (driving ∷ []) from = subst (λ (o : Option Pin). Contains (option_to_list o) from) the_driver c in
      elim (in_cases driving [] from one) [ inl e ↦ sym e | inr none ↦ absurd (none_in from none) ]

  last_true : (a b : Bool) → (a || not b) ≡ false → b ≡ true
  last_true true b h = absurd (false≢true (sym h))
  last_true false true h = refl
  last_true false false h = absurd (false≢true (sym h))

  pub wired_to : (wire : PinWire) (to from : Pin) (n : ℕ) → HasNumber s to n → net_of to ≡ Some rc.net → Contains (driver_on d (net_of to)) from
      → ((split : Split) → IsSink rc (pin_word s root) (map (pin_cap_at s split) items) (pin_word s n) (split_wire split wire))
      → ((split : Split) → is_out_of_range rc (pin_word s root) (map (pin_cap_at s split) items) ≡ false)
      → IsWire d from to (Some wire)
  wired_to wire to from n here on led sink fine =
      record {
        delay = λ split.
            start split
            ∙ sym (delay_same split (root_node to))
            ∙ ap (λ w. delay_of rc (pin_word s root) (map (pin_cap_at s split) items) (rc_pin w)) (sym word)
            ∙ sym (sink split).delay;
        slew = λ split x.
            ap (λ m. wire_slew d split m from to x) net_word
            ∙ ap (λ o. option_map_or (λ r. if is_lumped r then x else pos (root_of (nat_abs (x *ℤ x +ℤ impulse r.ress (root_node from) (charges d split r) (root_node to))))) o x) t.its
            ∙ ap (λ b. if b then x else pos (root_of (nat_abs (x *ℤ x +ℤ impulse rc.ress (root_node from) (charges d split rc) (root_node to))))) t.ress
            ∙ ap (λ p. pos (root_of (nat_abs (x *ℤ x +ℤ impulse rc.ress (root_node p) (charges d split rc) (root_node to))))) source
            ∙ ap (λ z. pos (root_of (nat_abs (x *ℤ x +ℤ z))))
            (sym (impulse_is split (root_node to)) ∙ ap (λ w. impulse_of rc (pin_word s root) (map (pin_cap_at s split) items) (rc_pin w)) (sym word) ∙ sym (sink split).impulse);
        within = λ split.
            ap is_within ((sink split).delay ∙ ap (λ w. delay_of rc (pin_word s root) (map (pin_cap_at s split) items) (rc_pin w)) word)
            ∙ all_in (λ node. is_within (delay_of rc (pin_word s root) (map (pin_cap_at s split) items) node)) (tree_nodes rc (pin_word s root) (map (pin_cap_at s split) items)) (root_node to)
            (last_true (not (is_within (sum_of res_of rc.ress)) || not (is_within (total_load rc (map (pin_cap_at s split) items))))
            (list_all (λ node. is_within (delay_of rc (pin_word s root) (map (pin_cap_at s split) items) node)) (tree_nodes rc (pin_word s root) (map (pin_cap_at s split) items))) (fine split))
            (subst (λ (ns : List RcNode). Contains ns (root_node to)) (sym (tree_list_is split))
            (later_in (rc_pin (pin_word s root)) (named_nodes rc) (root_node to) (pin_named_there to sits)));
      }
    where
      net_word : net_name to ≡ rc.net
      net_word = ap (λ o. unwrap_or o []) on

      word : pin_word s n ≡ name_of to
      word = ap (λ o. unwrap_or o []) here.name

      source : from ≡ driving
      source = from_is from (subst (λ (o : Option (List ℕ)). Contains (driver_on d o) from) on led)

      sits : Contains (filter (is_on rc.net) (pins d)) to
      sits = in_filter (is_on rc.net) (pins d) to here.within (ap (λ o. option_map_or (bytes_eq rc.net) o false) on ∙ same_self rc.net)

      start : (split : Split) → wire_delay d split (net_name to) from to ≡ elmore rc.ress (root_node driving) (charges d split rc) (root_node to)
      start split =
          ap (λ m. wire_delay d split m from to) net_word
          ∙ ap (λ o. option_map_or (λ r. elmore r.ress (root_node from) (charges d split r) (root_node to)) o (pos 0)) t.its
          ∙ ap (λ p. elmore rc.ress (root_node p) (charges d split rc) (root_node to)) source
