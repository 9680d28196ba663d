-- The arcs into a calm node come from alike nodes in both designs, in one order and of the same sorts.

use Rattle.std.proofs.Common.{◌≡◌, ℕ, Bool, true, false, List, [], ◌∷◌, ◌++◌, map, filter, Option, None, Some, refl, sym, ap, subst, ◌∙◌, inl, inr}
use Rattle.std.specs.Prelude.{Contains, option_map, not, ◌&&◌}
use Rattle.std.specs.List.{list_any, list_all}
use Rattle.std.specs.Option.{option_to_list}
use Rattle.std.specs.Str.{bytes_eq}
use Rattle.std.proofs.lemmas.Bool.{cases_Bool, false≢true, and_parts}
use Rattle.timing_defs.specs.declared.kinds.Split.TheVariants.{Late}
use Rattle.timing_defs.specs.declared.kinds.Tran.{Tran}
use Rattle.timing_defs.specs.declared.library.CellPin.{CellPin}
use Rattle.timing_defs.specs.declared.netlist.Inst.{Inst}
use Rattle.timing_defs.specs.declared.design.Design.{Design}
use Rattle.timing_defs.specs.Netlist.{Pin, Node, same_tran, cell_of, cell_pins, net_of, driver, is_driver}
use Rattle.timing_defs.specs.Kinds.{is_comb}
use Rattle.timing_rules.specs.Clocking.{driver_on}
use Rattle.timing_rules.specs.Rows.{arcs_in, library_arcs}
use Rattle.timing_rules.specs.Cones.{same_truth, has_comb_arc, has_register_arc, same_sort}
use Rattle.timing_rules.specs.Paths.{named, same_named}
use Rattle.timing_defs.proofs.ListLemmas.{bool_iff}
use Rattle.timing_defs.proofs.SameNames.{same_is}
use Rattle.timing_defs.proofs.Members.{some_is, first_in, in_map, in_map_back, in_filter, passes_in, kept_in, any_back, all_in}
use Rattle.netlist_store.proofs.SeenPins.{seen}
use Rattle.calm_laws.specs.Pairs.{ArePairs}
use Rattle.calm_laws.proofs.Calm.{IsArcPair, IsCalm}
use Rattle.calm_laws.proofs.PairLaws.{pairs_are, pairs_made}
use Rattle.calm_laws.proofs.AlikeLaws.{none_too, twin_of, drives_same, owner_same, cell_same}
use Rattle.calm_laws.proofs.CellNodes.{keys, key_node, inst_keys, one_key, tran_is, leads, enters, into_output, into_port, into_sink}

pub truths : (a b : Bool) → same_truth a b ≡ true → a ≡ b
truths true true e = refl
truths true false e = absurd (false≢true e)
truths false true e = absurd (false≢true e)
truths false false e = refl

own_after : (a x y : List ℕ) → a ++ 58 ∷ x ≡ a ++ 58 ∷ y → x ≡ y
own_after [] x y e = cc
own_after (z ∷ b) x y e = own_after b x y (tails e)
  where
    tails : z ∷ (b ++ 58 ∷ x) ≡ z ∷ (b ++ 58 ∷ y) → b ++ 58 ∷ x ≡ b ++ 58 ∷ y
    tails f = cc

-- two nodes of one instance by their names
module _ (i j : Inst) (name : j.name ≡ i.name) (a b : CellPin × Tran) (same : same_named (named (key_node i a)) (named (key_node j b)) ≡ true) where
  parts : (bytes_eq (i.name ++ 58 ∷ a.0.name) (j.name ++ 58 ∷ b.0.name) ≡ true) × (same_tran a.1 b.1 ≡ true)
  parts = and_parts (bytes_eq (i.name ++ 58 ∷ a.0.name) (j.name ++ 58 ∷ b.0.name)) (same_tran a.1 b.1) same

  pub keys_named : a.0.name ≡ b.0.name
  keys_named = own_after i.name a.0.name b.0.name (same_is (i.name ++ 58 ∷ a.0.name) (j.name ++ 58 ∷ b.0.name) parts.0 ∙ ap (λ n. n ++ 58 ∷ b.0.name) name)

  pub keys_turned : a.1 ≡ b.1
  keys_turned = tran_is a.1 b.1 parts.1

-- a list of one item at most
module _ (p q : Node → Bool) (S : Node → Node → Bool) (x y : Node) where
  abbrev both : List Node → List Node → Bool
  both xs ys = list_all (λ a. list_any (λ b. S a b) ys) xs && list_all (λ b. list_any (λ a. S a b) xs) ys

  pub one_of : both (filter p (x ∷ [])) (filter q (y ∷ [])) ≡ true → p x ≡ q y
  one_of h = elim (cases_Bool (p x)) [
    | inl e ↦ elim (cases_Bool (q y)) [
      | inl f ↦ e ∙ sym f
      | inr f ↦ let g : false ≡ true = rw f at (rw e at h) in absurd (false≢true g)
    ]
    | inr e ↦ elim (cases_Bool (q y)) [
      | inl f ↦ let g : false ≡ true = rw f at (rw e at h) in absurd (false≢true g)
      | inr f ↦ e ∙ sym f
    ]
  ]

module _ (d d2 : Design) (n n2 : Node) (calm : IsCalm d d2 n n2) where
  record HasArc (from from2 : Node) : Type 0 where
    same : same_named (named from) (named from2) ≡ true
    comb : has_comb_arc d from n ≡ has_comb_arc d2 from2 n2
    register : has_register_arc d from n ≡ has_register_arc d2 from2 n2

  sorted : (from from2 : Node) → same_sort d d2 from n from2 n2 ≡ true → HasArc from from2
  sorted from from2 e =
      let last = and_parts (same_named (named from) (named from2) && same_truth (has_comb_arc d from n) (has_comb_arc d2 from2 n2))
      (same_truth (has_register_arc d from n) (has_register_arc d2 from2 n2)) e in
      let first = and_parts (same_named (named from) (named from2)) (same_truth (has_comb_arc d from n) (has_comb_arc d2 from2 n2)) last.0 in
      record {
        same = first.0;
        comb = truths (has_comb_arc d from n) (has_comb_arc d2 from2 n2) first.1;
        register = truths (has_register_arc d from n) (has_register_arc d2 from2 n2) last.1;
      }

  halves : (list_all (λ from. list_any (λ from2. same_sort d d2 from n from2 n2) (arcs_in d2 n2)) (arcs_in d n) ≡ true)
      × (list_all (λ from2. list_any (λ from. same_sort d d2 from n from2 n2) (arcs_in d n)) (arcs_in d2 n2) ≡ true)
  halves =
      and_parts (list_all (λ from. list_any (λ from2. same_sort d d2 from n from2 n2) (arcs_in d2 n2)) (arcs_in d n))
      (list_all (λ from2. list_any (λ from. same_sort d d2 from n from2 n2) (arcs_in d n)) (arcs_in d2 n2)) calm.arcs

  there : (from : Node) → Contains (arcs_in d n) from → (from2 : Node) × (Contains (arcs_in d2 n2) from2 × HasArc from from2)
  there from c =
      let r = any_back (λ from2. same_sort d d2 from n from2 n2) (arcs_in d2 n2)
      (all_in (λ f. list_any (λ from2. same_sort d d2 f n from2 n2) (arcs_in d2 n2)) (arcs_in d n) from halves.0 c) in
      (r.item, (r.within, sorted from r.item r.passes))

  back : (from2 : Node) → Contains (arcs_in d2 n2) from2 → (from : Node) × (Contains (arcs_in d n) from × HasArc from from2)
  back from2 c =
      let r = any_back (λ from. same_sort d d2 from n from2 n2) (arcs_in d n)
      (all_in (λ f2. list_any (λ from. same_sort d d2 from n f2 n2) (arcs_in d n)) (arcs_in d2 n2) from2 halves.1 c) in
      (r.item, (r.within, sorted r.item from2 r.passes))

  same_drives : is_driver n.pin ≡ is_driver n2.pin
  same_drives = drives_same n n2 calm.kept.alike

  -- into an output pin
  module _ (inst twin : Inst) (drives : is_driver n.pin ≡ true) (owner : n.pin.owner ≡ Some inst) (owner2 : n2.pin.owner ≡ Some twin)
      (name : twin.name ≡ inst.name) (cell : twin.cell ≡ inst.cell) where
    abbrev ks : List (CellPin × Tran)
    ks = inst_keys d inst

    abbrev was : Node → Bool
    was from = leads d n from && enters d n from

    abbrev now : Node → Bool
    now from = leads d2 n2 from && enters d2 n2 from

    arcs_were : arcs_in d n ≡ filter was (map (key_node inst) ks)
    arcs_were = into_output d n inst drives owner

    arcs_now : arcs_in d2 n2 ≡ filter now (map (key_node twin) ks)
    arcs_now =
        into_output d2 n2 twin (sym same_drives ∙ drives) owner2
        ∙ ap (λ o. filter now (map (key_node twin) (keys (cell_pins o)))) (sym (cell_same d d2 calm.framed Late inst twin cell))

    one : (a b : CellPin × Tran) → Contains ks a → Contains ks b → same_named (named (key_node inst a)) (named (key_node twin b)) ≡ true → a ≡ b
    one a b ca cb same =
        one_key (cell_pins (cell_of d Late inst)) (calm.cells inst owner).apart a b ca cb (keys_named inst twin name a b same) (keys_turned inst twin name a b same)

    in_old : (k : CellPin × Tran) → Contains ks k → was (key_node inst k) ≡ true → Contains (arcs_in d n) (key_node inst k)
    in_old k c e =
        subst (λ xs. Contains xs (key_node inst k)) (sym arcs_were) (in_filter was (map (key_node inst) ks) (key_node inst k) (in_map (key_node inst) ks k c) e)

    in_new : (k : CellPin × Tran) → Contains ks k → now (key_node twin k) ≡ true → Contains (arcs_in d2 n2) (key_node twin k)
    in_new k c e =
        subst (λ xs. Contains xs (key_node twin k)) (sym arcs_now) (in_filter now (map (key_node twin) ks) (key_node twin k) (in_map (key_node twin) ks k c) e)

    met : (k : CellPin × Tran) → Contains ks k → was (key_node inst k) ≡ true → (now (key_node twin k) ≡ true) × HasArc (key_node inst k) (key_node twin k)
    met k c e =
        let r = there (key_node inst k) (in_old k c e) in
        let s : Contains (filter now (map (key_node twin) ks)) r.0 = subst (λ xs. Contains xs r.0) arcs_now r.1.0 in
        let m = in_map_back (key_node twin) ks r.0 (kept_in now (map (key_node twin) ks) r.0 s) in
        let h : HasArc (key_node inst k) (key_node twin m.item) = subst (HasArc (key_node inst k)) (sym m.same) r.1.1 in
        let same : m.item ≡ k = sym (one k m.item c m.within h.same) in (
          ap (λ j. now (key_node twin j)) (sym same) ∙ ap now m.same ∙ passes_in now (map (key_node twin) ks) r.0 s,
          subst (λ j. HasArc (key_node inst k) (key_node twin j)) same h,
        )

    met_back : (k : CellPin × Tran) → Contains ks k → now (key_node twin k) ≡ true → was (key_node inst k) ≡ true
    met_back k c e =
        let r = back (key_node twin k) (in_new k c e) in
        let s : Contains (filter was (map (key_node inst) ks)) r.0 = subst (λ xs. Contains xs r.0) arcs_were r.1.0 in
        let m = in_map_back (key_node inst) ks r.0 (kept_in was (map (key_node inst) ks) r.0 s) in
        let h : HasArc (key_node inst m.item) (key_node twin k) = subst (λ x. HasArc x (key_node twin k)) (sym m.same) r.1.1 in
        let same : m.item ≡ k = one m.item k m.within c h.same in
        ap (λ j. was (key_node inst j)) (sym same) ∙ ap was m.same ∙ passes_in was (map (key_node inst) ks) r.0 s

    output_pairs : ArePairs (IsArcPair d d2 n n2) (arcs_in d n) (arcs_in d2 n2)
    output_pairs =
        pairs_are (IsArcPair d d2 n n2) (arcs_in d n) (filter was (map (key_node inst) ks)) (arcs_in d2 n2) (filter now (map (key_node twin) ks)) arcs_were arcs_now
        (pairs_made (IsArcPair d d2 n n2) (key_node inst) (key_node twin) was now ks
        (λ k c. bool_iff (was (key_node inst k)) (now (key_node twin k)) (λ e. (met k c e).0) (met_back k c))
        (λ k c e f. record {
          alike = record { pin = λ j. record { owner = Some (name j, cell j); own = k.0.name; dir = k.0.dir }; tran = refl };
          before = in_old k c e;
          after = in_new k c f;
          comb = (met k c e).1.comb;
          register = (met k c e).1.register;
        }))

  -- into an input pin or an output port
  module _ (sinks : is_driver n.pin ≡ false) where
    abbrev at_old : Pin → Node
    at_old pin = record { pin = pin; tran = n.tran }

    abbrev at_new : Pin → Node
    at_new pin = record { pin = pin; tran = n2.tran }

    sinks_too : is_driver n2.pin ≡ false
    sinks_too = sym same_drives ∙ sinks

    none_sorted : (from from2 : Node) → (has_comb_arc d from n ≡ has_comb_arc d2 from2 n2) × (has_register_arc d from n ≡ has_register_arc d2 from2 n2)
    none_sorted from from2 = (
      ap (λ b. b && list_any is_comb (library_arcs d Late from n)) sinks ∙ sym (ap (λ b. b && list_any is_comb (library_arcs d2 Late from2 n2)) sinks_too),
      ap (λ b. b && list_any (λ arc. not (is_comb arc)) (library_arcs d Late from n)) sinks
          ∙ sym (ap (λ b. b && list_any (λ arc. not (is_comb arc)) (library_arcs d2 Late from2 n2)) sinks_too),
    )

    module _ (o o2 : Option Pin) (seen_same : option_map seen o2 ≡ option_map seen o)
        (arcs_were : arcs_in d n ≡ filter (enters d n) (map at_old (option_to_list o)))
        (arcs_now : arcs_in d2 n2 ≡ filter (enters d2 n2) (map at_new (option_to_list o2))) where
      sink_pairs : ArePairs (IsArcPair d d2 n n2) (arcs_in d n) (arcs_in d2 n2)
      sink_pairs =
          pairs_are (IsArcPair d d2 n n2) (arcs_in d n) (filter (enters d n) (map at_old (option_to_list o)))
          (arcs_in d2 n2) (filter (enters d2 n2) (map at_new (option_to_list o2))) arcs_were arcs_now
          (by o o2 seen_same arcs_were arcs_now)
        where
          by : (u u2 : Option Pin) → option_map seen u2 ≡ option_map seen u → arcs_in d n ≡ filter (enters d n) (map at_old (option_to_list u))
              → arcs_in d2 n2 ≡ filter (enters d2 n2) (map at_new (option_to_list u2))
              → ArePairs (IsArcPair d d2 n n2) (filter (enters d n) (map at_old (option_to_list u))) (filter (enters d2 n2) (map at_new (option_to_list u2)))
          by None None s e f = tt
          by None (Some p) s e f = absurd (cc)
          by (Some p) None s e f = absurd (cc)
          by (Some p) (Some q) s e f =
              let same : enters d n (at_old p) ≡ enters d2 n2 (at_new q) =
              one_of (enters d n) (enters d2 n2) (λ a b. same_sort d d2 a n b n2) (at_old p) (at_new q)
              (sym (λ k. list_all (λ a. list_any (λ b. same_sort d d2 a n b n2) (f k)) (e k) && list_all (λ b. list_any (λ a. same_sort d d2 a n b n2) (e k)) (f k))
              ∙ calm.arcs) in
              elim (cases_Bool (enters d n (at_old p))) [
                | inl g ↦
                    let h : enters d2 n2 (at_new q) ≡ true = sym same ∙ g in
                    let there_old : Contains (arcs_in d n) (at_old p) =
                    subst (λ xs. Contains xs (at_old p)) (sym e) (in_filter (enters d n) (at_old p ∷ []) (at_old p) (first_in (at_old p) []) g) in
                    let there_new : Contains (arcs_in d2 n2) (at_new q) =
                    subst (λ xs. Contains xs (at_new q)) (sym f) (in_filter (enters d2 n2) (at_new q ∷ []) (at_new q) (first_in (at_new q) []) h) in
                    rw g (rw h (
                      record {
                        alike = record { pin = some_is s; tran = calm.kept.alike.tran };
                        before = there_old;
                        after = there_new;
                        comb = (none_sorted (at_old p) (at_new q)).0;
                        register = (none_sorted (at_old p) (at_new q)).1;
                      },
                      tt,
                    ))
                | inr g ↦ let h : enters d2 n2 (at_new q) ≡ false = sym same ∙ g in rw g (rw h tt)
              ]

    input_pairs : ArePairs (IsArcPair d d2 n n2) (arcs_in d n) (arcs_in d2 n2)
    input_pairs = by (net_of n.pin) refl
      where
        by : (net : Option (List ℕ)) → net_of n.pin ≡ net → ArePairs (IsArcPair d d2 n n2) (arcs_in d n) (arcs_in d2 n2)
        by None e =
            sink_pairs None None refl (into_sink d n sinks ∙ ap (λ o. filter (enters d n) (map at_old (driver_on d o))) e)
            (into_sink d2 n2 sinks_too ∙ ap (λ o. filter (enters d2 n2) (map at_new (driver_on d2 o))) (calm.kept.net ∙ e))
        by (Some net) e =
            sink_pairs (driver d net) (driver d2 net) (calm.nets net e).driver (into_sink d n sinks ∙ ap (λ o. filter (enters d n) (map at_old (driver_on d o))) e)
            (into_sink d2 n2 sinks_too ∙ ap (λ o. filter (enters d2 n2) (map at_new (driver_on d2 o))) (calm.kept.net ∙ e))

  -- the arcs into both
  pub arcs_kept : ArePairs (IsArcPair d d2 n n2) (arcs_in d n) (arcs_in d2 n2)
  arcs_kept = elim (cases_Bool (is_driver n.pin)) [
    | inl e ↦ by e n.pin.owner refl
    | inr e ↦ input_pairs e
  ]
    where
      by : is_driver n.pin ≡ true → (o : Option Inst) → n.pin.owner ≡ o → ArePairs (IsArcPair d d2 n n2) (arcs_in d n) (arcs_in d2 n2)
      by drives None e =
          pairs_are (IsArcPair d d2 n n2) (arcs_in d n) [] (arcs_in d2 n2) [] (into_port d n drives e)
          (into_port d2 n2 (sym same_drives ∙ drives) (none_too n.pin.owner n2.pin.owner (owner_same n n2 calm.kept.alike) e)) tt
      by drives (Some inst) e =
          let t = twin_of n.pin.owner n2.pin.owner (owner_same n n2 calm.kept.alike) inst e in
          output_pairs inst t.twin drives e t.owner t.name t.cell
