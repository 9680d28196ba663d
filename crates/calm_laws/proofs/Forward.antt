-- A node of a design that an ECO made, which is no forward one, has the row that it has in the base, and stays fine.

use Rattle.std.proofs.Common.{◌≡◌, ℕ, true, false, List, Option, None, Some, refl, sym, ap, ◌∙◌, inl, inr}
use Rattle.std.specs.Prelude.{Contains, not}
use Rattle.std.specs.List.{list_any}
use Rattle.std.specs.Option.{option_map_or}
use Rattle.std.specs.Str.{bytes_eq}
use Rattle.std.proofs.lemmas.Bool.{cases_Bool, true≢false}
use Rattle.timing_defs.specs.declared.kinds.Split.{Split}
use Rattle.timing_defs.specs.declared.kinds.Tran.{Tran}
use Rattle.timing_defs.specs.declared.design.Design.{Design}
use Rattle.timing_defs.specs.Netlist.{Pin, Node, name_of, pins}
use Rattle.timing_rules.specs.Rows.{arcs_in, row, delay}
use Rattle.timing_defs.specs.RowTimes.{slew_in}
use Rattle.timing_rules.specs.Range.{is_forward_origin}
use Rattle.timing_rules.specs.Paths.{named, node_named}
use Rattle.timing_defs.specs.Touches.{Touch}
use Rattle.timing_rules.specs.Cones.{same_row, row_differs, is_seed, is_forward}
use Rattle.timing_rules.proofs.RowLaws.{ArePlacedNodes, row_is}
use Rattle.timing_defs.proofs.SameNames.{same_is}
use Rattle.timing_defs.proofs.Members.{any_in, found_passes}
use Rattle.netlist_store.specs.Numbering.{Stored}
use Rattle.netlist_store.specs.Applying.{IsEditOf}
use Rattle.node_rows.proofs.FineLaws.{IsFine, IsCarried}
use Rattle.eco_laws.proofs.EditOf.{base_linked}
use Rattle.calm_laws.proofs.Calm.{AreAlike, IsArcPair}
use Rattle.calm_laws.proofs.AlikeLaws.{name_same}
use Rattle.calm_laws.proofs.CalmStep.{delay_kept, calm_step}
use Rattle.calm_laws.proofs.FineKept.{fine_kept, origin_kept}
use Rattle.calm_laws.proofs.InDesign.{one_node, from_within}
use Rattle.calm_laws.proofs.NoSeeds.{either_none, not_false}
use Rattle.calm_laws.proofs.NoSeedCalm.{HasCalm, named_node, no_seed_calm}
use Rattle.calm_laws.proofs.SameRows.{row_told}

module _ (base : Stored) (touch : Touch) (edited : Stored) (made : IsEditOf base touch edited) where
  abbrev d : Design
  d = base.design

  abbrev d2 : Design
  d2 = edited.design

  -- alike nodes have the name of one in the base
  pub alike_base : (n n2 : Node) → Contains (pins d) n.pin → AreAlike n n2 → (m : Node) → node_named d (named n2) ≡ Some m → m ≡ n
  alike_base n n2 within alike m told =
      let is = named_node d (name_of n2.pin) n2.tran m told in
      one_node d (base_linked base touch edited made) m n is.within within
      (same_name m (name_of n2.pin) n2.tran told ∙ sym (name_same n n2 alike)) (is.turned ∙ alike.tran)
    where
      same_name : (x : Node) (name : List ℕ) (tran : Tran) → node_named d (name, tran) ≡ Some x → name_of x.pin ≡ name
      same_name x name tran e =
          same_is (name_of x.pin) name (found_passes (λ (q : Pin). bytes_eq (name_of q) name) (pins d) x.pin (named_node d name tran x e).pin)

  -- where no row of a node differs it is that of the base
  pub same_as_base : (n2 m : Node) → node_named d (named n2) ≡ Some m → row_differs d d2 n2 ≡ false → row d m ≡ row d2 n2
  same_as_base n2 m told same =
      (row_told (row d m) (row d2 n2)).0
      (not_false (same_row (row d m) (row d2 n2)) (sym (ap (λ o. option_map_or (λ before. not (same_row (row d before) (row d2 n2))) o true) told) ∙ same))

  module _ (n2 : Node) (there : Contains (pins d2) n2.pin) (none : is_forward d d2 touch n2 ≡ false) where
    parts : (is_seed d d2 touch n2 ≡ false) × (list_any (row_differs d d2) (arcs_in d2 n2) ≡ false)
    parts = either_none (is_seed d d2 touch n2) (list_any (row_differs d d2) (arcs_in d2 n2)) none

    pub has_calm : HasCalm d d2 n2
    has_calm = no_seed_calm base touch edited made n2 there parts.0

    -- the rows before it are those of the base
    pub rows_before : (from from2 : Node) → IsArcPair d d2 has_calm.node n2 from from2 → row d from ≡ row d2 from2
    rows_before from from2 pair = by (node_named d (named from2)) refl
      where
        same : row_differs d d2 from2 ≡ false
        same = elim (cases_Bool (row_differs d d2 from2)) [
          | inl e ↦ absurd (true≢false (sym (any_in (row_differs d d2) (arcs_in d2 n2) from2 pair.after e) ∙ parts.1))
          | inr e ↦ e
        ]

        by : (o : Option Node) → node_named d (named from2) ≡ o → row d from ≡ row d2 from2
        by None e = absurd (true≢false (sym (ap (λ o. option_map_or (λ before. not (same_row (row d before) (row d2 from2))) o true) e) ∙ same))
        by (Some m) e =
            let within = from_within d (base_linked base touch edited made) has_calm.node has_calm.within from pair.before in
            ap (row d) (sym (alike_base from from2 within pair.alike m e)) ∙ same_as_base from2 m e same

    -- and so are the delays of the arcs into it
    pub delays_before : (split : Split) (from from2 : Node) → IsArcPair d d2 has_calm.node n2 from from2 → delay d split from has_calm.node ≡ delay d2 split from2 n2
    delays_before split from from2 pair =
        delay_kept d d2 has_calm.node n2 has_calm.calm from from2 pair split (row d from) (row d2 from2) (ap (slew_in split) (rows_before from from2 pair))

    module _ (Stands : Node → Type 0) (place : Node → ℕ) (placed : ArePlacedNodes d Stands place) (stands : Stands has_calm.node)
        (Stands2 : Node → Type 0) (place2 : Node → ℕ) (placed2 : ArePlacedNodes d2 Stands2 place2) (stands2 : Stands2 n2) where
      pub row_kept : row d has_calm.node ≡ row d2 n2
      row_kept =
          row_is d Stands place placed has_calm.node stands
          ∙ calm_step d d2 has_calm.node n2 has_calm.calm (row d) (row d2) rows_before
          ∙ sym (row_is d2 Stands2 place2 placed2 n2 stands2)

      -- and over fine nodes it is fine
      module _ (split : Split) (fine : (from : Node) → Contains (arcs_in d has_calm.node) from → IsFine d split from)
          (fine2 : (from : Node) → Contains (arcs_in d2 n2) from → IsFine d2 split from)
          (carried : IsCarried d split has_calm.node) (near : is_forward_origin d split has_calm.node ≡ false) where
        pub stays_fine : IsFine d2 split n2
        stays_fine =
            fine_kept d d2 has_calm.node n2 has_calm.calm split Stands place placed stands Stands2 place2 placed2 stands2 rows_before fine fine2 carried near

        pub stays_near : is_forward_origin d2 split n2 ≡ false
        stays_near =
            origin_kept d d2 has_calm.node n2 has_calm.calm split Stands place placed stands Stands2 place2 placed2 stands2 rows_before fine fine2 carried near
