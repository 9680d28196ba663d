-- Where a clock network is a tree, an arc leads to a network node from one node at most.

use Rattle.std.proofs.Common.{◌≡◌, ℕ, suc, Bool, true, false, not, List, [], ◌∷◌, map, filter, length, Option, None, Some, refl, sym, ap, subst, ◌∙◌, inl, inr, arith}
use Rattle.std.specs.Prelude.{Contains, ◌&&◌, ◌||◌, nat_eq, nat_lt, if◌then◌else◌}
use Rattle.std.specs.List.{list_any, list_all, flat_map}
use Rattle.std.specs.Option.{option_map_or, option_to_list}
use Rattle.std.specs.Str.{bytes_eq}
use Rattle.std.proofs.lemmas.Bool.{cases_Bool, false≢true, true≢false, and_parts, not-true, ltb-true, eqb-true, or_cases}
use Rattle.std.proofs.lemmas.Slice.Eq.{bytes_eq-Decides}
use Rattle.timing_defs.specs.declared.kinds.Split.TheVariants.{Late}
use Rattle.timing_defs.specs.declared.kinds.Tran.{Tran}
use Rattle.timing_defs.specs.declared.kinds.Tran.TheVariants.{Rise, Fall}
use Rattle.timing_defs.specs.declared.kinds.Dir.TheVariants.{Input}
use Rattle.timing_defs.specs.declared.library.CellArc.{CellArc}
use Rattle.timing_defs.specs.declared.netlist.Inst.{Inst}
use Rattle.timing_defs.specs.declared.design.Design.{Design}
use Rattle.timing_defs.specs.Netlist.{Pin, Node, name_of, pins, net_of, driver, cell_of, inst_pins, both_nodes, is_driver, drives_as, same_tran, same_dir}
use Rattle.timing_rules.specs.Clocking.{is_network, is_clock_port, port_has_clock, cell_arcs, comb_joins, has_comb, comb_before, driver_on, pins_before}
use Rattle.timing_defs.specs.Kinds.{is_comb}
use Rattle.timing_rules.specs.Rows.{arcs_in, all_arcs_in, net_arcs_in, cell_arcs_in, library_arcs, joins, stands}
use Rattle.timing_defs.specs.NetChecks.{is_before, least_from, least}
use Rattle.timing_rules.specs.Checks.{clock_not_tree, breaks_network, enters_well, network_before, arcs_between, one_sense, keeps}
use Rattle.timing_defs.proofs.Members.{none_in, in_cases, first_in, in_map, in_map_back, in_flat_map_back, in_filter, passes_in, kept_in, any_in, all_in}

-- a list with a least name has a name
some_least : (xs : List (List ℕ)) (b : List ℕ) → least_from (Some b) xs ≡ None → ⊥
some_least [] b e = cc
some_least (x ∷ xs) b e = elim (cases_Bool (is_before x b)) [
  | inl h ↦ let f : least_from (Some x) xs ≡ None = rw h at e in some_least xs x f
  | inr h ↦ let f : least_from (Some b) xs ≡ None = rw h at e in some_least xs b f
]

no_least : (xs : List (List ℕ)) (x : List ℕ) → least xs ≡ None → Contains xs x → ⊥
no_least [] x e c = none_in x c
no_least (y ∷ ys) x e c = some_least ys y e

the_one : {X : Type 0} (xs : List X) (a b : X) → nat_eq (length xs) 1 ≡ true → Contains xs a → Contains xs b → a ≡ b
the_one [] a b h c d = absurd (none_in a c)
the_one (x ∷ []) a b h c d = elim (in_cases x [] a c) [
  | inr n ↦ absurd (none_in a n)
  | inl e ↦ elim (in_cases x [] b d) [
    | inr n ↦ absurd (none_in b n)
    | inl f ↦ sym e ∙ f
  ]
]
the_one (x ∷ y ∷ rest) a b h c d = let f = eqb-true (suc (suc (length rest))) 1 h in absurd (omega (arith, f))

same_is : (a b : List ℕ) → bytes_eq a b ≡ true → a ≡ b
same_is a b = (bytes_eq-Decides a b).0

trans_is : (a b : Tran) → same_tran a b ≡ true → a ≡ b
trans_is Rise Rise e = refl
trans_is Rise Fall e = absurd (false≢true e)
trans_is Fall Rise e = absurd (false≢true e)
trans_is Fall Fall e = refl

-- two transitions that both keep, or both change, to a third are the same
same_before : (a b t : Tran) → same_tran a t ≡ same_tran b t → a ≡ b
same_before Rise Rise t e = refl
same_before Fall Fall t e = refl
same_before Rise Fall Rise e = absurd (true≢false e)
same_before Rise Fall Fall e = absurd (false≢true e)
same_before Fall Rise Rise e = absurd (false≢true e)
same_before Fall Rise Fall e = absurd (true≢false e)

and5 : (a b c d e : Bool) → (a && b && c && d && e) ≡ true → (a ≡ true) × (b ≡ true) × (c ≡ true) × (d ≡ true) × (e ≡ true)
and5 true true true true true h = (refl, refl, refl, refl, refl)
and5 true true true true false h = absurd (false≢true h)
and5 true true true false e h = absurd (false≢true h)
and5 true true false d e h = absurd (false≢true h)
and5 true false c d e h = absurd (false≢true h)
and5 false b c d e h = absurd (false≢true h)

three : (a b c : Bool) → a ≡ true → b ≡ true → c ≡ true → (a && b && c) ≡ true
three a b c h k l = rw h (rw k l)

comb_of : (b a n : Bool) → n ≡ true → (b || (a && not n)) ≡ true → b ≡ true
comb_of true a n e h = refl
comb_of false true true e h = absurd (false≢true h)
comb_of false false true e h = absurd (false≢true h)
comb_of false a false e h = absurd (false≢true e)

some_in : {X : Type 0} (xs : List X) → nat_lt 0 (length xs) ≡ true → (x : X) × Contains xs x
some_in [] h = absurd (let low = ltb-true 0 0 h in omega (arith, low))
some_in (x ∷ xs) h = (x, first_in x xs)

of_both : (pin : Pin) (n : Node) → Contains (both_nodes pin) n → n.pin ≡ pin
of_both pin n c = elim (in_cases (record { pin = pin; tran = Rise }) (record { pin = pin; tran = Fall } ∷ []) n c) [
  | inl e ↦ ap (λ (m : Node). m.pin) (sym e)
  | inr f ↦ elim (in_cases (record { pin = pin; tran = Fall }) [] n f) [
    | inl e ↦ ap (λ (m : Node). m.pin) (sym e)
    | inr none ↦ absurd (none_in n none)
  ]
]

-- a net has one driver
one_driver : (d : Design) (net : Option (List ℕ)) (p q : Pin) → Contains (driver_on d net) p → Contains (driver_on d net) q → p ≡ q
one_driver d None p q c e = absurd (none_in p c)
one_driver d (Some net) p q c e = by (driver d net) c e
  where
    by : (o : Option Pin) → Contains (option_to_list o) p → Contains (option_to_list o) q → p ≡ q
    by None c e = absurd (none_in p c)
    by (Some r) c e = elim (in_cases r [] p c) [
      | inr none ↦ absurd (none_in p none)
      | inl h ↦ elim (in_cases r [] q e) [ inr none ↦ absurd (none_in q none) | inl k ↦ sym h ∙ k ]
    ]

-- of arcs with one sense, all keep transitions or none does
same_sense : (arcs : List CellArc) (a b : CellArc) → one_sense arcs ≡ true → Contains arcs a → Contains arcs b → keeps a ≡ keeps b
same_sense arcs a b h c e = elim (or_cases (list_all keeps arcs) (list_all (λ arc. not (keeps arc)) arcs) h) [
  | inl k ↦ all_in keeps arcs a k c ∙ sym (all_in keeps arcs b k e)
  | inr k ↦ not-true (keeps a) (all_in (λ arc. not (keeps arc)) arcs a k c) ∙ sym (not-true (keeps b) (all_in (λ arc. not (keeps arc)) arcs b k e))
]

-- nothing leads to a clock's port
pub port_first : (d : Design) (n : Node) → is_clock_port d n.pin ≡ true → arcs_in d n ≡ []
unfolding arcs_in
port_first d n e = ap (filter (λ from. not (is_network d n.pin) || is_network d from.pin)) (by n.pin.owner refl)
  where
    by : (o : Option Inst) → n.pin.owner ≡ o → all_arcs_in d n ≡ []
    by (Some inst) own = absurd (false≢true (sym (ap (λ o. port_has_clock d.constraints.clocks o n.pin) own) ∙ e))
    by None own =
        let f : port_has_clock d.constraints.clocks None n.pin ≡ true = sym (ap (λ o. port_has_clock d.constraints.clocks o n.pin) own) ∙ e in
        let g = and_parts (same_dir n.pin.dir Input) (list_any (λ clock. option_map_or (bytes_eq n.pin.own) clock.port false) d.constraints.clocks) f in
        let drives : is_driver n.pin ≡ true = ap (λ o. drives_as o n.pin.dir) own ∙ g.0 in
        ap (λ (b : Bool). if b then option_map_or (cell_arcs_in d n) n.pin.owner [] else net_arcs_in d n) drives ∙ ap (λ o. option_map_or (cell_arcs_in d n) o []) own

module _ (d : Design) (tree : clock_not_tree d ≡ None) where
  enters : (p : Pin) → Contains (pins d) p → is_network d p ≡ true → is_clock_port d p ≡ false → enters_well d p ≡ true
  enters p c net port = elim (cases_Bool (enters_well d p)) [
    | inl e ↦ e
    | inr e ↦
        let broken : breaks_network d p ≡ true = three (is_network d p) (not (is_clock_port d p)) (not (enters_well d p)) net (ap not port) (ap not e) in
        absurd (no_least (map name_of (filter (breaks_network d) (pins d))) (name_of p) tree
        (in_map name_of (filter (breaks_network d) (pins d)) p (in_filter (breaks_network d) (pins d) p c broken)))
  ]

  module _ (to : Node) (there : Contains (pins d) to.pin) (net : is_network d to.pin ≡ true) (port : is_clock_port d to.pin ≡ false) where
    one_pin : nat_eq (length (network_before d to.pin)) 1 ≡ true
    one_pin = (and_parts (nat_eq (length (network_before d to.pin)) 1) (list_all (λ from. not (is_driver to.pin) || one_sense (arcs_between d from to.pin)) (network_before d to.pin))
        (enters to.pin there net port)).0

    sensed : (from : Pin) → Contains (network_before d to.pin) from → (not (is_driver to.pin) || one_sense (arcs_between d from to.pin)) ≡ true
    sensed from c = all_in (λ f. not (is_driver to.pin) || one_sense (arcs_between d f to.pin)) (network_before d to.pin) from
        (and_parts (nat_eq (length (network_before d to.pin)) 1) (list_all (λ f. not (is_driver to.pin) || one_sense (arcs_between d f to.pin)) (network_before d to.pin))
        (enters to.pin there net port)).1 c

    passes : (from : Node) → Contains (arcs_in d to) from → is_network d from.pin ≡ true
    unfolding arcs_in
    passes from c =
        let e = passes_in (λ f. not (is_network d to.pin) || is_network d f.pin) (all_arcs_in d to) from c in
        let f : (not true || is_network d from.pin) ≡ true = ap (λ (b : Bool). not b || is_network d from.pin) (sym net) ∙ e in
        f

    inside : (from : Node) → Contains (arcs_in d to) from → Contains (all_arcs_in d to) from
    unfolding arcs_in
    inside from c = kept_in (λ f. not (is_network d to.pin) || is_network d f.pin) (all_arcs_in d to) from c

    -- into the output of a cell
    record IsAcross (inst : Inst) (from : Node) : Type 0 where
      pub arc : CellArc
      pub within : Contains (arcs_between d from.pin to.pin) arc
      pub before : Contains (network_before d to.pin) from.pin
      pub starts : arc.from_tran ≡ from.tran
      pub ends : arc.to_tran ≡ to.tran

    module _ (drives : is_driver to.pin ≡ true) (inst : Inst) (own : to.pin.owner ≡ Some inst) where
      across : (from : Node) → Contains (arcs_in d to) from → IsAcross inst from
      across from c =
          let m : Contains (cell_arcs_in d to inst) from =
          subst (λ (xs : List Node). Contains xs from)
          (ap (λ (b : Bool). if b then option_map_or (cell_arcs_in d to) to.pin.owner [] else net_arcs_in d to) drives ∙ ap (λ o. option_map_or (cell_arcs_in d to) o []) own)
          (inside from c) in
          let lib : library_arcs d Late from to ≡ filter (joins d from to) (cell_arcs (cell_of d Late inst)) =
          ap (λ o. option_map_or (λ i. filter (joins d from to) (cell_arcs (cell_of d Late i))) o []) own in
          let some = some_in (library_arcs d Late from to) (passes_in (λ f. nat_lt 0 (length (library_arcs d Late f to))) (flat_map both_nodes (inst_pins d inst)) from m) in
          let there : Contains (filter (joins d from to) (cell_arcs (cell_of d Late inst))) some.0 = subst (λ (xs : List CellArc). Contains xs some.0) lib some.1 in
          let kept = kept_in (joins d from to) (cell_arcs (cell_of d Late inst)) some.0 there in
          let parts =
          and5 (bytes_eq some.0.from from.pin.own) (same_tran some.0.from_tran from.tran) (bytes_eq some.0.to to.pin.own) (same_tran some.0.to_tran to.tran)
          (stands d from.pin to.pin some.0) (passes_in (joins d from to) (cell_arcs (cell_of d Late inst)) some.0 there) in
          let comb = comb_of (is_comb some.0) (is_network d from.pin) (is_network d to.pin) net parts.4 in
          let joined : comb_joins from.pin to.pin some.0 ≡ true = three (is_comb some.0) (bytes_eq some.0.from from.pin.own) (bytes_eq some.0.to to.pin.own) comb parts.0 parts.2 in
          let r = in_flat_map_back both_nodes (inst_pins d inst) from (kept_in (λ f. nat_lt 0 (length (library_arcs d Late f to))) (flat_map both_nodes (inst_pins d inst)) from m) in
          let pin : Contains (inst_pins d inst) from.pin = subst (λ (p : Pin). Contains (inst_pins d inst) p) (sym (of_both r.item from r.inside)) r.within in
          let before : Contains (comb_before d to.pin inst) from.pin =
          in_filter (λ f. has_comb d inst f to.pin) (inst_pins d inst) from.pin pin (any_in (comb_joins from.pin to.pin) (cell_arcs (cell_of d Late inst)) some.0 kept joined) in
          record {
            arc = some.0;
            within =
                subst (λ (xs : List CellArc). Contains xs some.0) (sym (ap (λ o. option_map_or (λ i. filter (comb_joins from.pin to.pin) (cell_arcs (cell_of d Late i))) o []) own))
                (in_filter (comb_joins from.pin to.pin) (cell_arcs (cell_of d Late inst)) some.0 kept joined);
            before = in_filter (is_network d) (pins_before d to.pin) from.pin
                (subst (λ (xs : List Pin). Contains xs from.pin)
                (sym (ap (λ (b : Bool). if b then option_map_or (comb_before d to.pin) to.pin.owner [] else driver_on d (net_of to.pin)) drives ∙ ap (λ o. option_map_or (comb_before d to.pin) o []) own))
                before)
                (passes from c);
            starts = trans_is some.0.from_tran from.tran parts.1;
            ends = trans_is some.0.to_tran to.tran parts.3;
          }

      one_across : (a b : Node) → Contains (arcs_in d to) a → Contains (arcs_in d to) b → a ≡ b
      one_across a b c e =
          let x = across a c in
          let y = across b e in
          let pin : b.pin ≡ a.pin = the_one (network_before d to.pin) b.pin a.pin one_pin y.before x.before in
          let sense : one_sense (arcs_between d a.pin to.pin) ≡ true = ap (λ (v : Bool). not v || one_sense (arcs_between d a.pin to.pin)) (sym drives) ∙ sensed a.pin x.before in
          let kept = same_sense (arcs_between d a.pin to.pin) x.arc y.arc sense x.within (subst (λ (p : Pin). Contains (arcs_between d p to.pin) y.arc) pin y.within) in
          let told : same_tran a.tran to.tran ≡ same_tran b.tran to.tran =
          sym (ap (λ t. same_tran t x.arc.to_tran) x.starts ∙ ap (same_tran a.tran) x.ends) ∙ kept ∙ ap (λ t. same_tran t y.arc.to_tran) y.starts ∙ ap (same_tran b.tran) y.ends in
          let tran = same_before a.tran b.tran to.tran told in
          λ k. record { pin = sym pin k; tran = tran k }

    one_wire : is_driver to.pin ≡ false → (a b : Node) → Contains (arcs_in d to) a → Contains (arcs_in d to) b → a ≡ b
    one_wire sink a b c e =
        let wires : all_arcs_in d to ≡ net_arcs_in d to = ap (λ (v : Bool). if v then option_map_or (cell_arcs_in d to) to.pin.owner [] else net_arcs_in d to) sink in
        let x = in_map_back (λ (p : Pin). record { pin = p; tran = to.tran }) (driver_on d (net_of to.pin)) a (subst (λ (xs : List Node). Contains xs a) wires (inside a c)) in
        let y = in_map_back (λ (p : Pin). record { pin = p; tran = to.tran }) (driver_on d (net_of to.pin)) b (subst (λ (xs : List Node). Contains xs b) wires (inside b e)) in
        sym x.same ∙ ap (λ (p : Pin). record { pin = p; tran = to.tran }) (one_driver d (net_of to.pin) x.item y.item x.within y.within) ∙ y.same

    pub one_before : (a b : Node) → Contains (arcs_in d to) a → Contains (arcs_in d to) b → a ≡ b
    one_before a b c e = elim (cases_Bool (is_driver to.pin)) [
      | inr sink ↦ one_wire sink a b c e
      | inl drives ↦ by to.pin.owner refl drives
    ]
      where
        by : (o : Option Inst) → to.pin.owner ≡ o → is_driver to.pin ≡ true → a ≡ b
        by (Some inst) own drives = one_across drives inst own a b c e
        by None own drives =
            let none : all_arcs_in d to ≡ [] =
            ap (λ (v : Bool). if v then option_map_or (cell_arcs_in d to) to.pin.owner [] else net_arcs_in d to) drives ∙ ap (λ o. option_map_or (cell_arcs_in d to) o []) own in
            absurd (none_in a (subst (λ (xs : List Node). Contains xs a) none (inside a c)))

    pub before_network : (from : Node) → Contains (arcs_in d to) from → is_network d from.pin ≡ true
    before_network = passes
