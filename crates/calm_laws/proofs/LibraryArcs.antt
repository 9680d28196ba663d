-- The library arcs of an arc into a calm node are the same in both designs.

use Rattle.std.proofs.Common.{◌≡◌, ℕ, Bool, true, false, List, [], ◌∷◌, filter, Option, None, Some, refl, sym, ap, ◌∙◌, inl, inr}
use Rattle.std.specs.Prelude.{Contains, not, ◌&&◌, ◌||◌}
use Rattle.std.specs.List.{list_any, list_all}
use Rattle.std.specs.Option.{option_map_or}
use Rattle.std.specs.Str.{bytes_eq}
use Rattle.std.proofs.lemmas.Bool.{cases_Bool, false≢true, true≢false, and_parts}
use Rattle.timing_defs.specs.declared.kinds.Split.{Split}
use Rattle.timing_defs.specs.declared.kinds.Split.TheVariants.{Early, Late}
use Rattle.timing_defs.specs.declared.kinds.Tran.{Tran}
use Rattle.timing_defs.specs.declared.library.CellArc.{CellArc}
use Rattle.timing_defs.specs.declared.netlist.Inst.{Inst}
use Rattle.timing_defs.specs.declared.design.Design.{Design}
use Rattle.timing_defs.specs.Netlist.{Node, same_tran, cell_of, is_driver}
use Rattle.timing_defs.specs.Kinds.{is_comb}
use Rattle.timing_rules.specs.Clocking.{cell_arcs, is_network}
use Rattle.timing_rules.specs.Rows.{joins, library_arcs}
use Rattle.timing_defs.specs.Edits.{same_arc}
use Rattle.timing_defs.proofs.ListLemmas.{list_any_filter}
use Rattle.timing_defs.proofs.SameNames.{same_is}
use Rattle.timing_defs.proofs.Members.{any_in, any_back, all_in}
use Rattle.calm_laws.proofs.Calm.{IsArcPair, IsCalm}
use Rattle.calm_laws.proofs.PairLaws.{filter_agree}
use Rattle.calm_laws.proofs.AlikeLaws.{none_too, twin_of, own_same, owner_same, cell_same}
use Rattle.calm_laws.proofs.CellNodes.{tran_is}

-- an arc between pins and transitions
abbrev is_between : List ℕ → Tran → List ℕ → Tran → CellArc → Bool
is_between from turned to tran arc = bytes_eq arc.from from && same_tran arc.from_tran turned && bytes_eq arc.to to && same_tran arc.to_tran tran

-- arcs, with those of registers or without them
module _ (fits : CellArc → Bool) where
  abbrev among : Bool → CellArc → Bool
  among registers arc = fits arc && (is_comb arc || registers)

  abbrev of_register : CellArc → Bool
  of_register arc = fits arc && not (is_comb arc)

  one_more : (a comb c rest : Bool) → (((a && (comb || c)) && not comb) || (rest && c)) ≡ (((a && not comb) || rest) && c)
  one_more false comb c rest = refl
  one_more true true c rest = refl
  one_more true false true rest = refl
  one_more true false false true = refl
  one_more true false false false = refl

  told : (c : Bool) (arcs : List CellArc) → list_any (λ arc. not (is_comb arc)) (filter (among c) arcs) ≡ (list_any of_register arcs && c)
  told c arcs = list_any_filter (λ arc. not (is_comb arc)) (among c) arcs ∙ by arcs
    where
      by : (xs : List CellArc) → list_any (λ arc. among c arc && not (is_comb arc)) xs ≡ (list_any of_register xs && c)
      by [] = refl
      by (x ∷ xs) =
          ap (λ b. (among c x && not (is_comb x)) || b) (by xs) ∙ one_more (fits x) (is_comb x) c (list_any of_register xs)

  none_either : (a comb c c2 : Bool) → (a && not comb) ≡ false → (a && (comb || c)) ≡ (a && (comb || c2))
  none_either false comb c c2 h = refl
  none_either true true c c2 h = refl
  none_either true false c c2 h = absurd (true≢false h)

  pub arcs_either : (c c2 : Bool) (late arcs : List CellArc)
      → list_any (λ arc. not (is_comb arc)) (filter (among c) late) ≡ list_any (λ arc. not (is_comb arc)) (filter (among c2) late)
      → ((arc : CellArc) → Contains arcs arc → of_register arc ≡ true → list_any of_register late ≡ true) → filter (among c) arcs ≡ filter (among c2) arcs
  arcs_either c c2 late arcs same found = elim (cases_Bool (list_any of_register late)) [
    | inl e ↦
        let f : (list_any of_register late && c) ≡ (list_any of_register late && c2) = sym (told c late) ∙ same ∙ told c2 late in
        let g : c ≡ c2 = rw e at f in
        ap (λ b. filter (among b) arcs) g
    | inr e ↦
        filter_agree (among c) (among c2) arcs
        (λ arc m. none_either (fits arc) (is_comb arc) c c2
        (elim (cases_Bool (of_register arc)) [ inl f ↦ absurd (true≢false (sym (found arc m f) ∙ e)) | inr f ↦ f ]))
  ]

-- arcs that are the same but for their tables
combs : (a b : Bool) → ((a && b) || (not a && not b)) ≡ true → a ≡ b
combs true true e = refl
combs true false e = absurd (false≢true e)
combs false true e = absurd (false≢true e)
combs false false e = refl

module _ (from : List ℕ) (turned : Tran) (to : List ℕ) (tran : Tran) where
  alike_arcs : (a b : CellArc) → same_arc a b ≡ true → of_register (is_between from turned to tran) a ≡ of_register (is_between from turned to tran) b
  alike_arcs a b e =
      let p5 = and_parts (bytes_eq a.from b.from && same_tran a.from_tran b.from_tran && bytes_eq a.to b.to && same_tran a.to_tran b.to_tran)
      ((is_comb a && is_comb b) || (not (is_comb a) && not (is_comb b))) e in
      let p4 = and_parts (bytes_eq a.from b.from && same_tran a.from_tran b.from_tran && bytes_eq a.to b.to) (same_tran a.to_tran b.to_tran) p5.0 in
      let p3 = and_parts (bytes_eq a.from b.from && same_tran a.from_tran b.from_tran) (bytes_eq a.to b.to) p4.0 in
      let p2 = and_parts (bytes_eq a.from b.from) (same_tran a.from_tran b.from_tran) p3.0 in
      let e1 = same_is a.from b.from p2.0 in
      let e2 = tran_is a.from_tran b.from_tran p2.1 in
      let e3 = same_is a.to b.to p3.1 in
      let e4 = tran_is a.to_tran b.to_tran p4.1 in
      let e5 = combs (is_comb a) (is_comb b) p5.1 in
      λ k. (bytes_eq (e1 k) from && same_tran (e2 k) turned && bytes_eq (e3 k) to && same_tran (e4 k) tran) && not (e5 k)

  in_late : (early late : List CellArc) → list_all (λ x. list_any (same_arc x) late) early ≡ true
      → (arc : CellArc) → Contains early arc → of_register (is_between from turned to tran) arc ≡ true
      → list_any (of_register (is_between from turned to tran)) late ≡ true
  in_late early late agree arc c e =
      let r = any_back (same_arc arc) late (all_in (λ x. list_any (same_arc x) late) early arc agree c) in
      any_in (of_register (is_between from turned to tran)) late r.item r.within (sym (alike_arcs arc r.item r.passes) ∙ e)

module _ (d d2 : Design) (n n2 : Node) (calm : IsCalm d d2 n n2) (from from2 : Node) (pair : IsArcPair d d2 n n2 from from2)
    (drives : is_driver n.pin ≡ true) (drives2 : is_driver n2.pin ≡ true) where
  abbrev fits_here : CellArc → Bool
  fits_here = is_between from.pin.own from.tran n.pin.own n.tran

  abbrev register_old : Bool
  register_old = is_network d from.pin && not (is_network d n.pin)

  abbrev register_new : Bool
  register_new = is_network d2 from2.pin && not (is_network d2 n2.pin)

  -- by the instance
  module _ (inst twin : Inst) (owner : n.pin.owner ≡ Some inst) (owner2 : n2.pin.owner ≡ Some twin) (cell : twin.cell ≡ inst.cell) where
    arcs_were : (split : Split) → library_arcs d split from n ≡ filter (among fits_here register_old) (cell_arcs (cell_of d split inst))
    arcs_were split = ap (λ o. option_map_or (λ i. filter (joins d from n) (cell_arcs (cell_of d split i))) o []) owner

    arcs_now : (split : Split) → library_arcs d2 split from2 n2 ≡ filter (among fits_here register_new) (cell_arcs (cell_of d split inst))
    arcs_now split =
        ap (λ o. option_map_or (λ i. filter (joins d2 from2 n2) (cell_arcs (cell_of d2 split i))) o []) owner2
        ∙ sym (λ k. filter (λ arc. is_between (own_same from from2 pair.alike k) (sym pair.alike.tran k) (own_same n n2 calm.kept.alike k) (sym calm.kept.alike.tran k) arc
        && (is_comb arc || register_new)) (cell_arcs (cell_same d d2 calm.framed split inst twin cell k)))

    register_too : list_any (λ arc. not (is_comb arc)) (library_arcs d Late from n) ≡ list_any (λ arc. not (is_comb arc)) (library_arcs d2 Late from2 n2)
    register_too =
        sym (ap (λ b. b && list_any (λ arc. not (is_comb arc)) (library_arcs d Late from n)) drives)
        ∙ pair.register ∙ ap (λ b. b && list_any (λ arc. not (is_comb arc)) (library_arcs d2 Late from2 n2)) drives2

    found : (split : Split) (arc : CellArc) → Contains (cell_arcs (cell_of d split inst)) arc → of_register fits_here arc ≡ true
        → list_any (of_register fits_here) (cell_arcs (cell_of d Late inst)) ≡ true
    found Early arc c e =
        in_late from.pin.own from.tran n.pin.own n.tran (cell_arcs (cell_of d Early inst)) (cell_arcs (cell_of d Late inst)) (calm.cells inst owner).agree arc c e
    found Late arc c e = any_in (of_register fits_here) (cell_arcs (cell_of d Late inst)) arc c e

    same_arcs_of : (split : Split) → library_arcs d split from n ≡ library_arcs d2 split from2 n2
    same_arcs_of split =
        arcs_were split
        ∙ arcs_either fits_here register_old register_new (cell_arcs (cell_of d Late inst)) (cell_arcs (cell_of d split inst))
        (sym (ap (list_any (λ arc. not (is_comb arc))) (arcs_were Late)) ∙ register_too ∙ ap (list_any (λ arc. not (is_comb arc))) (arcs_now Late)) (found split)
        ∙ sym (arcs_now split)

  pub library_arcs_kept : (split : Split) → library_arcs d split from n ≡ library_arcs d2 split from2 n2
  library_arcs_kept split = by n.pin.owner refl
    where
      by : (o : Option Inst) → n.pin.owner ≡ o → library_arcs d split from n ≡ library_arcs d2 split from2 n2
      by None e =
          ap (λ o. option_map_or (λ i. filter (joins d from n) (cell_arcs (cell_of d split i))) o []) e
          ∙ sym (ap (λ o. option_map_or (λ i. filter (joins d2 from2 n2) (cell_arcs (cell_of d2 split i))) o []) (none_too n.pin.owner n2.pin.owner (owner_same n n2 calm.kept.alike) e))
      by (Some inst) e =
          let t = twin_of n.pin.owner n2.pin.owner (owner_same n n2 calm.kept.alike) inst e in
          same_arcs_of inst t.twin e t.owner t.cell split
