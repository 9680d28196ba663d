-- Sums over the numbers of the pins on a net are sums over the pins on it.

use Rattle.std.proofs.Common.{◌≡◌, ℕ, ◌+◌, ℤ, pos, ◌+ℤ◌, Bool, true, false, cond, not, List, [], ◌∷◌, map, filter, Option, None, Some, refl, sym, ap, subst, ◌∙◌, inl, inr, arith}
use Rattle.std.specs.Prelude.{nat_eq, count_by, Contains, ◌&&◌, ◌||◌, if◌then◌else◌, find, option_and_then}
use Rattle.std.specs.List.{list_any, list_all, flat_map}
use Rattle.std.specs.Option.{option_map_or, unwrap_or}
use Rattle.std.specs.Str.{bytes_eq}
use Rattle.std.proofs.lemmas.Bool.{cases_Bool, false≢true, and_parts, not-true, eqb-true, eq-eqb}
use Rattle.timing_defs.specs.declared.design.Design.{Design}
use Rattle.timing_defs.specs.Netlist.{Pin, name_of, pins, net_of, is_on, is_listed, are_distinct, port_pin, cell_pin, cell_pins, cell_of, inst_pins, conn_net}
use Rattle.timing_defs.specs.declared.kinds.Split.TheVariants.{Late}
use Rattle.timing_defs.specs.declared.netlist.Port.{Port}
use Rattle.timing_defs.specs.declared.netlist.Conn.{Conn}
use Rattle.std.proofs.lemmas.List.Elements.{Contains-append_cases}
use Rattle.timing_defs.specs.Wires.{sum_of}
use Rattle.timing_defs.proofs.ListLemmas.{bool_iff}
use Rattle.netlist_store.specs.Linked.{joins_nets, IsLinked}
use Rattle.netlist_store.specs.Numbering.{Stored, name_at, number_of, pin_numbered, net_number, is_on_number, IsNumbered}
use Rattle.node_rows.specs.NetPins.{IsOnNet}
use Rattle.timing_defs.proofs.SameNames.{same_self}
use Rattle.store_pins.proofs.PinNames.{pins_apart}
use Rattle.timing_defs.proofs.Members.{some_is, first_in, later_in, in_filter, passes_in, kept_in, any_in, any_back, listed_in, all_in, found_in, in_map_back, in_flat_map_back}
use Rattle.store_pins.proofs.PinLaws.{HasNumber, pin_told, pin_of_number}
use Rattle.store_pins.proofs.DriverLaws.{on_net, on_at, net_of_number}
use Rattle.node_rows.proofs.CountLaws.{count_cons, same_sums}

pub sum_map : {X Y : Type 0} (g : Y → ℤ) (f : X → Y) (xs : List X) → sum_of g (map f xs) ≡ sum_of (λ x. g (f x)) xs
sum_map g f [] = refl
sum_map g f (x ∷ xs) = ap (λ z. g (f x) +ℤ z) (sum_map g f xs)

pub sum_agree : {X : Type 0} (f g : X → ℤ) (xs : List X) → ((x : X) → Contains xs x → f x ≡ g x) → sum_of f xs ≡ sum_of g xs
sum_agree f g [] same = refl
sum_agree f g (x ∷ xs) same =
    ap (λ z. z +ℤ sum_of f xs) (same x (first_in x xs)) ∙ ap (λ z. g x +ℤ z) (sum_agree f g xs (λ y c. same y (later_in x xs y c)))

-- distinct names stay distinct in a part
unlisted_filter : (keep : Pin → Bool) (xs : List Pin) (q : List ℕ) → is_listed (map name_of xs) q ≡ false → is_listed (map name_of (filter keep xs)) q ≡ false
unlisted_filter keep [] q h = refl
unlisted_filter keep (x ∷ xs) q h = elim (cases_Bool (bytes_eq q (name_of x))) [
  | inl e ↦
      let bad : true ≡ false = rw e at h in
      absurd (false≢true (sym bad))
  | inr e ↦
      let rest : is_listed (map name_of xs) q ≡ false = rw e at h in
      elim (cases_Bool (keep x)) [
        | inl k ↦ rw (k, e) (unlisted_filter keep xs q rest)
        | inr k ↦ rw k (unlisted_filter keep xs q rest)
      ]
]

distinct_filter : (keep : Pin → Bool) (xs : List Pin) → are_distinct (map name_of xs) ≡ true → are_distinct (map name_of (filter keep xs)) ≡ true
distinct_filter keep [] h = refl
distinct_filter keep (x ∷ xs) h =
    let parts = and_parts (not (is_listed (map name_of xs) (name_of x))) (are_distinct (map name_of xs)) h in
    let none = unlisted_filter keep xs (name_of x) (not-true (is_listed (map name_of xs) (name_of x)) parts.0) in
    elim (cases_Bool (keep x)) [
      | inl k ↦ rw k (ap (λ b. not b && are_distinct (map name_of (filter keep xs))) none ∙ distinct_filter keep xs parts.1)
      | inr k ↦ rw k (distinct_filter keep xs parts.1)
    ]

-- the net of a pin is listed
conn_listed : (nets : List (List ℕ)) (conns : List Conn) (own net : List ℕ) → list_all (λ conn. option_map_or (is_listed nets) conn.net true) conns ≡ true
    → conn_net conns own ≡ Some net → is_listed nets net ≡ true
conn_listed nets conns own net all e = by (find (λ (conn : Conn). bytes_eq conn.pin own) conns) refl
  where
    by : (o : Option Conn) → find (λ (conn : Conn). bytes_eq conn.pin own) conns ≡ o → is_listed nets net ≡ true
    by None f = let g : None ≡ Some net = sym (ap (option_and_then (λ (conn : Conn). conn.net)) f) ∙ e in absurd (cc)
    by (Some c) f =
        let g : c.net ≡ Some net = sym (ap (option_and_then (λ (conn : Conn). conn.net)) f) ∙ e in
        let one = all_in (λ (conn : Conn). option_map_or (is_listed nets) conn.net true) conns c all (found_in (λ (conn : Conn). bytes_eq conn.pin own) conns c f) in
        sym (ap (λ o. option_map_or (is_listed nets) o true) g) ∙ one

pub net_listed : (d : Design) → IsLinked d → (p : Pin) (net : List ℕ) → Contains (pins d) p → net_of p ≡ Some net → is_listed d.nets net ≡ true
net_listed d linked p net c e = elim (Contains-append_cases (map port_pin d.ports) (flat_map (inst_pins d) d.insts) p c) [
  | inl h ↦
      let m = in_map_back port_pin d.ports p h in
      let named : m.item.name ≡ net = some_is (ap net_of m.same ∙ e) in
      sym (ap (is_listed d.nets) named) ∙ all_in (λ (port : Port). is_listed d.nets port.name) d.ports m.item linked.port_nets m.within
  | inr h ↦
      let a = in_flat_map_back (inst_pins d) d.insts p h in
      let m = in_map_back (cell_pin a.item) (cell_pins (cell_of d Late a.item)) p a.inside in
      let f : conn_net a.item.conns m.item.name ≡ Some net = ap net_of m.same ∙ e in
      conn_listed d.nets a.item.conns m.item.name net (all_in (joins_nets d) d.insts a.item linked.nets a.within) f
]

module _ (s : Stored) (num : IsNumbered s) (linked : IsLinked s.design) where
  pub number : Pin → ℕ
  number p = unwrap_or (number_of s.pins (name_of p)) 0

  pub numbered : (p : Pin) → Contains (pins s.design) p → HasNumber s p (number p)
  unfolding number
  numbered p c =
      let n = pin_told s num linked p c in
      subst (λ (m : ℕ). HasNumber s p m) (sym (ap (λ o. unwrap_or o 0) n.1.number)) n.1

  once : (n : ℕ) (qs : List Pin) → are_distinct (map name_of qs) ≡ true → ((q : Pin) → Contains qs q → Contains (pins s.design) q)
      → count_by (nat_eq n) (map number qs) ≡ (if list_any (λ q. nat_eq n (number q)) qs then 1 else 0)
  once n [] apart there = refl
  once n (q ∷ qs) apart there =
      let parts = and_parts (not (is_listed (map name_of qs) (name_of q))) (are_distinct (map name_of qs)) apart in
      let rest = once n qs parts.1 (λ r c. there r (later_in q qs r c)) in
      let here = count_cons n (number q) (map number qs) in
      elim (cases_Bool (nat_eq n (number q))) [
        | inl h ↦
            let others : list_any (λ r. nat_eq n (number r)) qs ≡ false = elim (cases_Bool (list_any (λ r. nat_eq n (number r)) qs)) [
              | inl any ↦
                  let r = any_back (λ r. nat_eq n (number r)) qs any in
                  let same : number q ≡ number r.item = sym (eqb-true n (number q) h) ∙ eqb-true n (number r.item) r.passes in
                  let a = numbered q (there q (first_in q qs)) in
                  let b = numbered r.item (there r.item (later_in q qs r.item r.within)) in
                  let names : name_of r.item ≡ name_of q = some_is (sym b.name ∙ ap (name_at s.pins) (sym same) ∙ a.name) in
                  let twice : is_listed (map name_of qs) (name_of q) ≡ true = ap (is_listed (map name_of qs)) (sym names) ∙ listed_in name_of qs r.item r.within in
                  absurd (false≢true (sym (not-true (is_listed (map name_of qs) (name_of q)) parts.0) ∙ twice))
              | inr none ↦ none
            ] in
            here ∙ ap (λ b. cond {A = ℕ} b 1 0 + count_by (nat_eq n) (map number qs)) h
            ∙ ap (λ m. 1 + m) (rest ∙ ap (λ b. if b then 1 else 0) others)
            ∙ (let e : 1 + 0 ≡ 1 = omega arith in e)
            ∙ sym (ap (λ b. if b || list_any (λ r. nat_eq n (number r)) qs then 1 else 0) h)
        | inr h ↦
            here ∙ ap (λ b. cond {A = ℕ} b 1 0 + count_by (nat_eq n) (map number qs)) h
            ∙ (let e : 0 + count_by (nat_eq n) (map number qs) ≡ count_by (nat_eq n) (map number qs) = omega arith in e) ∙ rest
            ∙ sym (ap (λ b. if b || list_any (λ r. nat_eq n (number r)) qs then 1 else 0) h)
      ]

  module _ (net : ℕ) (name : List ℕ) (is : name_at s.nets net ≡ Some name) where
    abbrev on : List Pin
    on = filter (is_on name) (pins s.design)

    -- a pin on the net, and its number
    pub on_number : (n : ℕ) → is_on_number s net n ≡ true → (p : Pin) × HasNumber s p n × (net_of p ≡ Some name) × Contains on p
    on_number n e = by (pin_numbered s n) refl
      where
        by : (o : Option Pin) → pin_numbered s n ≡ o → (p : Pin) × HasNumber s p n × (net_of p ≡ Some name) × Contains on p
        by None h =
            let f : false ≡ true = sym (ap (λ o. option_map_or (nat_eq net) (option_and_then (number_of s.nets) (option_and_then net_of o)) false) h) ∙ e in
            absurd (false≢true f)
        by (Some p) h =
            let k = net_of_number s n net p h (on_at net (net_number s n) e) in
            let same : net_of p ≡ Some name = k.on ∙ sym k.told ∙ is in
            let there = pin_of_number s num linked n p h in (
              p,
              there,
              same,
              in_filter (is_on name) (pins s.design) p there.within (ap (λ o. option_map_or (bytes_eq name) o false) same ∙ same_self name),
            )

    pub number_on : (p : Pin) → Contains on p → (net_of p ≡ Some name) × (is_on_number s net (number p) ≡ true)
    number_on p c =
        let there = numbered p (kept_in (is_on name) (pins s.design) p c) in
        let sits : net_of p ≡ Some name = on_net name (net_of p) (passes_in (is_on name) (pins s.design) p c) in (
          sits,
          ap (λ o. option_map_or (nat_eq net) (option_and_then (number_of s.nets) (option_and_then net_of o)) false) there.pin
              ∙ ap (λ o. option_map_or (nat_eq net) (option_and_then (number_of s.nets) o) false) sits
              ∙ ap (λ o. option_map_or (nat_eq net) o false) (num.nets.distinct net name is)
              ∙ eq-eqb net net refl,
        )

    is_among : (n : ℕ) → is_on_number s net n ≡ list_any (λ q. nat_eq n (number q)) on
    unfolding number
    is_among n =
        bool_iff (is_on_number s net n) (list_any (λ q. nat_eq n (number q)) on)
        (λ e. let p = on_number n e in any_in (λ q. nat_eq n (number q)) on p.0 p.3 (eq-eqb n (number p.0) (sym (ap (λ o. unwrap_or o 0) p.1.number))))
        (λ e. let r = any_back (λ q. nat_eq n (number q)) on e in
        ap (is_on_number s net) (eqb-true n (number r.item) r.passes) ∙ (number_on r.item r.within).1)

    pub pins_sum : (numbers : List ℕ) → IsOnNet s net numbers → (f : Pin → ℤ)
        → sum_of (λ n. option_map_or f (pin_numbered s n) (pos 0)) numbers ≡ sum_of f on
    pins_sum numbers each f =
        same_sums (λ n. option_map_or f (pin_numbered s n) (pos 0)) numbers (map number on)
        (λ n. each n ∙ ap (λ b. if b then 1 else 0) (is_among n)
        ∙ sym (once n on (distinct_filter (is_on name) (pins s.design) (pins_apart s.design linked)) (λ q c. kept_in (is_on name) (pins s.design) q c)))
        ∙ sum_map (λ n. option_map_or f (pin_numbered s n) (pos 0)) number on
        ∙ sum_agree (λ p. option_map_or f (pin_numbered s (number p)) (pos 0)) f on
        (λ p c. ap (λ o. option_map_or f o (pos 0)) (numbered p (kept_in (is_on name) (pins s.design) p c)).pin)
