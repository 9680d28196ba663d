-- Where no name is an origin of an overflow, no setup or hold time and no required time leaves its limit.

use Rattle.std.proofs.Common.{◌≡◌, false, sym, ◌∙◌, inl, inr}
use Rattle.std.specs.Prelude.{Contains, ◌&&◌, ◌||◌}
use Rattle.std.specs.Str.{bytes_eq}
use Rattle.std.proofs.lemmas.Bool.{cases_Bool, true≢false, or_parts, and_from}
use Rattle.timing_defs.specs.declared.kinds.Split.{Split}
use Rattle.timing_defs.specs.declared.kinds.Split.TheVariants.{Early, Late}
use Rattle.timing_defs.specs.declared.faults.Place.TheVariants.{Pin as at_pin}
use Rattle.timing_defs.specs.declared.design.Design.{Design}
use Rattle.timing_defs.specs.Netlist.{Node, name_of, nodes}
use Rattle.timing_rules.specs.Range.{is_forward_origin, is_back_origin, is_node_origin, NoOrigin}
use Rattle.pin_graph.specs.RowTables.{AreBacksFine}
use Rattle.timing_defs.proofs.Members.{any_in}
use Rattle.timing_defs.proofs.SameNames.{same_self}

module _ (d : Design) (none : NoOrigin d) where
  node_calm : (node : Node) → Contains (nodes d) node → is_node_origin d node ≡ false
  node_calm node c = elim (cases_Bool (is_node_origin d node)) [
    | inl e ↦
        let found =
        any_in (λ (m : Node). bytes_eq (name_of m.pin) (name_of node.pin) && is_node_origin d m) (nodes d) node c
        (and_from (bytes_eq (name_of node.pin) (name_of node.pin)) (is_node_origin d node) (same_self (name_of node.pin)) e) in
        absurd (true≢false (sym found ∙ none (at_pin (name_of node.pin))))
    | inr e ↦ e
  ]

  pub backs_fine : AreBacksFine d
  backs_fine node c split =
      let both = or_parts (is_forward_origin d Early node || is_back_origin d Early node) (is_forward_origin d Late node || is_back_origin d Late node) (node_calm node c) in
      by split both.0 both.1
    where
      by : (t : Split) → (is_forward_origin d Early node || is_back_origin d Early node) ≡ false → (is_forward_origin d Late node || is_back_origin d Late node) ≡ false
          → is_back_origin d t node ≡ false
      by Early e l = (or_parts (is_forward_origin d Early node) (is_back_origin d Early node) e).1
      by Late e l = (or_parts (is_forward_origin d Late node) (is_back_origin d Late node) l).1
