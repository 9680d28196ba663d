-- A node of a design that an ECO made, which is no backward one, has the required times that it has in the base.

use Rattle.std.proofs.Common.{◌≡◌, ℕ, suc, Bool, true, false, not, List, [], ◌∷◌, length, Option, None, Some, refl, sym, ap, subst, ◌∙◌, inl, inr, arith}
use Rattle.std.specs.Prelude.{Contains, is_some, is_none, ◌&&◌, ◌||◌, if◌then◌else◌}
use Rattle.std.specs.List.{list_any, list_all}
use Rattle.std.specs.Option.{option_map_or}
use Rattle.std.proofs.lemmas.Bool.{cases_Bool, true≢false, and_parts}
use Rattle.timing_defs.specs.declared.kinds.Split.{Split}
use Rattle.timing_defs.specs.declared.kinds.Tran.{Tran}
use Rattle.timing_defs.specs.declared.kinds.Kind.{Kind}
use Rattle.timing_defs.specs.declared.rows.NodeRow.{NodeRow}
use Rattle.timing_defs.specs.declared.rows.BackRow.{BackRow}
use Rattle.timing_defs.specs.declared.design.Design.{Design}
use Rattle.timing_defs.specs.Netlist.{Node, pins, nodes}
use Rattle.timing_rules.specs.Rows.{launch_edges, row}
use Rattle.timing_defs.specs.RowTimes.{time_on, times_in}
use Rattle.timing_rules.specs.Checks.{clock_not_tree}
use Rattle.timing_rules.specs.Tests.{tests_at, is_endpoint}
use Rattle.timing_defs.specs.Kinds.{kind_of}
use Rattle.timing_rules.specs.Required.{arcs_out, back_row, required}
use Rattle.timing_defs.specs.RowTimes.{back_times}
use Rattle.timing_rules.specs.Range.{within_some, fine_delay, fine_test, required_inputs, fine_required_within, fine_required, fine_slew, is_required_origin, is_need_origin, is_back_origin}
use Rattle.timing_rules.specs.Paths.{named, node_named}
use Rattle.timing_defs.specs.Touches.{Touch}
use Rattle.timing_rules.specs.Cones.{same_back, is_seed, row_differs, back_differs, leads_to_seed, has_changed_clock, is_backward}
use Rattle.timing_rules.proofs.RowLaws.{back_is, stable}
use Rattle.timing_defs.proofs.Members.{first_in, later_in, any_in}
use Rattle.netlist_store.specs.Numbering.{Stored}
use Rattle.netlist_store.specs.Applying.{IsEditOf}
use Rattle.eco_laws.proofs.EditOf.{base_linked, edited_linked}
use Rattle.calm_laws.proofs.AlikeLaws.{edges_same}
use Rattle.calm_laws.proofs.InDesign.{pin_within, out_in, ArePlaces, height_of, high_nodes}
use Rattle.calm_laws.proofs.NoSeeds.{either_none, not_false}
use Rattle.calm_laws.proofs.NoSeedCalm.{HasCalm, no_seed_calm}
use Rattle.calm_laws.proofs.SameRows.{back_told}
use Rattle.calm_laws.proofs.Forward.{alike_base, same_as_base}
use Rattle.calm_laws.proofs.BackStep.{IsOutPair, IsBackCalm, back_step_kept}
use Rattle.calm_laws.proofs.OutsKept.{outs_kept}
use Rattle.back_laws.proofs.TestsKept.{end_same, tests_kept, need_kept}

-- what it says of a node that it is no backward one
pub record IsNoBack (base edited : Design) (touch : Touch) (node : Node) : Type 0 where
  pub seed : is_seed base edited touch node ≡ false
  pub rows : row_differs base edited node ≡ false
  pub leads : leads_to_seed base edited touch node ≡ false
  pub backs : list_any (back_differs base edited) (arcs_out edited node) ≡ false
  pub clocks : has_changed_clock base edited touch node ≡ false

pub no_back : (base edited : Design) (touch : Touch) (node : Node) → is_backward base edited touch node ≡ false → IsNoBack base edited touch node
no_back base edited touch node none =
    let four = either_none
    (is_seed base edited touch node || row_differs base edited node || leads_to_seed base edited touch node || list_any (back_differs base edited) (arcs_out edited node))
    (has_changed_clock base edited touch node) none in
    let three = either_none (is_seed base edited touch node || row_differs base edited node || leads_to_seed base edited touch node)
    (list_any (back_differs base edited) (arcs_out edited node)) four.0 in
    let two = either_none (is_seed base edited touch node || row_differs base edited node) (leads_to_seed base edited touch node) three.0 in
    let one = either_none (is_seed base edited touch node) (row_differs base edited node) two.0 in
    record { seed = one.0; rows = one.1; leads = two.1; backs = three.1; clocks = four.1 }

module _ (base : Stored) (touch : Touch) (edited : Stored) (made : IsEditOf base touch edited)
    (place place2 : Node → ℕ) (places : ArePlaces base.design place) (places2 : ArePlaces edited.design place2)
    (tree : clock_not_tree base.design ≡ None) (tree2 : clock_not_tree edited.design ≡ None)
    (n2 : Node) (there : Contains (pins edited.design) n2.pin) (none : is_backward base.design edited.design touch n2 ≡ false) where
  abbrev d : Design
  d = base.design

  abbrev d2 : Design
  d2 = edited.design

  parts : IsNoBack d d2 touch n2
  parts = no_back d d2 touch n2 none

  -- the node of the base
  pub back_calm_of : HasCalm d d2 n2
  back_calm_of = no_seed_calm base touch edited made n2 there parts.seed

  pub base_row : row d back_calm_of.node ≡ row d2 n2
  base_row = same_as_base base touch edited made n2 back_calm_of.node back_calm_of.told parts.rows

  -- what its required times are computed from is that of the base
  pub back_inputs : IsBackCalm d d2 back_calm_of.node n2
  back_inputs = record {
    framed = back_calm_of.calm.framed;
    ends = end_same base touch edited made place place2 places places2 tree tree2 n2 there back_calm_of base_row;
    arrive = λ split edge. ap (λ (r : NodeRow). is_some (time_on (times_in split r) edge)) base_row;
    tests = λ e split. tests_kept base touch edited made place place2 places places2 tree tree2 n2 there back_calm_of base_row parts.clocks (kind_of split);
    outs = λ e. outs_kept base touch edited made n2 there back_calm_of parts.leads base_row;
  }

  -- and so are the required times after it
  pub backs_after : (to to2 : Node) → IsOutPair d d2 back_calm_of.node n2 to to2 → back_row d to ≡ back_row d2 to2
  backs_after to to2 pair = by (node_named d (named to2)) refl
    where
      same : back_differs d d2 to2 ≡ false
      same = elim (cases_Bool (back_differs d d2 to2)) [
        | inl e ↦ absurd (true≢false (sym (any_in (back_differs d d2) (arcs_out d2 n2) to2 pair.after e) ∙ parts.backs))
        | inr e ↦ e
      ]

      by : (o : Option Node) → node_named d (named to2) ≡ o → back_row d to ≡ back_row d2 to2
      by None e = absurd (true≢false (sym (ap (λ o. option_map_or (λ before. not (same_back (back_row d before) (back_row d2 to2))) o true) e) ∙ same))
      by (Some m) e =
          let within = pin_within d to (out_in d (base_linked base touch edited made) back_calm_of.node to back_calm_of.within pair.before).0 in
          ap (back_row d) (sym (alike_base base touch edited made to to2 within pair.alike m e))
          ∙ (back_told (back_row d m) (back_row d2 to2)).0
          (not_false (same_back (back_row d m) (back_row d2 to2))
          (sym (ap (λ o. option_map_or (λ before. not (same_back (back_row d before) (back_row d2 to2))) o true) e) ∙ same))

  -- its required times
  pub back_row_kept : back_row d back_calm_of.node ≡ back_row d2 n2
  back_row_kept =
      back_is d (λ x. Contains (pins d) x.pin) (height_of d (base_linked base touch edited made) place places)
      (high_nodes d (base_linked base touch edited made) place places) back_calm_of.node back_calm_of.within
      ∙ back_step_kept d d2 back_calm_of.node n2 back_inputs (back_row d) (back_row d2) backs_after
      ∙ sym (back_is d2 (λ x. Contains (pins d2) x.pin) (height_of d2 (edited_linked base touch edited made) place2 places2)
      (high_nodes d2 (edited_linked base touch edited made) place2 places2) n2 there)

  -- no required time leaves its limit where none does in the base
  pub within_kept : (split : Split) (edge : ℕ × Tran) → within_some (required d split back_calm_of.node edge) ≡ within_some (required d2 split n2 edge)
  within_kept split edge = ap (λ (r : BackRow). within_some (time_on (back_times split r) edge)) back_row_kept

  fine_told : (split : Split) (edge : ℕ × Tran) → fine_required d split edge back_calm_of.node
      ≡ (required_inputs d split edge (fine_required d split edge) back_calm_of.node && within_some (required d split back_calm_of.node edge))
  unfolding fine_required
  fine_told split edge =
      let high = high_nodes d (base_linked base touch edited made) place places in
      let low = high.low back_calm_of.node back_calm_of.within in
      stable (λ f m. required_inputs d split edge f m && within_some (required d split m edge)) (arcs_out d) (λ x. Contains (pins d) x.pin)
      (height_of d (base_linked base touch edited made) place places)
      (λ f h m same. ap (λ b. b && within_some (required d split m edge)) (inputs_agree f h m same))
      high.closed high.rising (fine_required_within d split edge) (λ k m. refl) (suc (length (nodes d))) back_calm_of.node back_calm_of.within (omega (arith, low))
    where
      all_agree : (f g : Node → Bool) (xs : List Node) → ((x : Node) → Contains xs x → f x ≡ g x) → list_all f xs ≡ list_all g xs
      all_agree f g [] same = refl
      all_agree f g (x ∷ xs) same = λ k. same x (first_in x xs) k && all_agree f g xs (λ y c. same y (later_in x xs y c)) k

      inputs_agree : (f h : Node → Bool) (m : Node) → ((to : Node) → Contains (arcs_out d m) to → f to ≡ h to) → required_inputs d split edge f m ≡ required_inputs d split edge h m
      inputs_agree f h m same =
          ap (λ b. if is_endpoint d m.pin then list_all (fine_test d (kind_of split) m) (tests_at d (kind_of split) m) else b)
          (all_agree (λ to. is_none (required d split to edge) || (f to && fine_delay d split m to))
          (λ to. is_none (required d split to edge) || (h to && fine_delay d split m to)) (arcs_out d m)
          (λ to c. ap (λ b. is_none (required d split to edge) || (b && fine_delay d split m to)) (same to c)))

  pub near_kept : (split : Split) → ((edge : ℕ × Tran) → Contains (launch_edges d) edge → fine_required d split edge back_calm_of.node ≡ true)
      → list_any (is_required_origin d2 split n2) (launch_edges d2) ≡ false
  near_kept split fine = none_from (is_required_origin d2 split n2) (launch_edges d2) (λ edge c. at edge (subst (λ es. Contains es edge) (sym (edges_same d d2 back_calm_of.calm.framed)) c))
    where
      none_from : {X : Type 0} (f : X → Bool) (xs : List X) → ((x : X) → Contains xs x → f x ≡ false) → list_any f xs ≡ false
      none_from f [] each = refl
      none_from f (x ∷ xs) each = let e = each x (first_in x xs) in rw e (none_from f xs (λ y c. each y (later_in x xs y c)))

      never : (a b : Bool) → b ≡ true → (a && not b) ≡ false
      never true b e = ap not e
      never false b e = refl

      at : (edge : ℕ × Tran) → Contains (launch_edges d) edge → is_required_origin d2 split n2 edge ≡ false
      at edge c =
          never (required_inputs d2 split edge (fine_required d2 split edge) n2) (within_some (required d2 split n2 edge))
          (sym (within_kept split edge)
          ∙ (and_parts (required_inputs d split edge (fine_required d split edge) back_calm_of.node) (within_some (required d split back_calm_of.node edge))
          (sym (fine_told split edge) ∙ fine edge c)).1)

  -- no setup or hold time leaves its limit where none does in the base, whose slews are fine
  pub needs_kept : (kind : Kind) → ((split : Split) (x : Node) → Contains (pins d) x.pin → fine_slew d split x ≡ true)
      → is_need_origin d kind back_calm_of.node ≡ false → is_need_origin d2 kind n2 ≡ false
  needs_kept kind fine near = need_kept base touch edited made place place2 places places2 tree tree2 n2 there back_calm_of base_row parts.clocks kind fine near

  pub origins_kept : (split : Split) → ((of : Split) (x : Node) → Contains (pins d) x.pin → fine_slew d of x ≡ true)
      → ((edge : ℕ × Tran) → Contains (launch_edges d) edge → fine_required d split edge back_calm_of.node ≡ true)
      → is_need_origin d (kind_of split) back_calm_of.node ≡ false → is_back_origin d2 split n2 ≡ false
  origins_kept split fine times near = λ k. needs_kept (kind_of split) fine near k || near_kept split times k
