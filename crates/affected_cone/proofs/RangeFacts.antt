-- Where no quantity of rows and of required times leaves its limit, no name is an origin.

use Rattle.std.proofs.Common.{◌≡◌, Bool, true, false, List, [], ◌∷◌, refl, inl, inr}
use Rattle.std.specs.Prelude.{Contains, ◌&&◌, ◌||◌}
use Rattle.std.specs.List.{list_any}
use Rattle.std.specs.Str.{bytes_eq}
use Rattle.std.proofs.lemmas.Bool.{cases_Bool}
use Rattle.timing_defs.specs.declared.kinds.Split.TheVariants.{Early, Late}
use Rattle.timing_defs.specs.declared.faults.Place.TheVariants.{Pin as at_pin, Net as at_net}
use Rattle.timing_defs.specs.declared.design.Design.{Design}
use Rattle.timing_defs.specs.Netlist.{Node, name_of, nodes}
use Rattle.timing_rules.specs.Range.{is_forward_origin, is_back_origin, is_node_origin, NoOrigin}
use Rattle.pin_graph.specs.RowTables.{AreRowsFine, AreBacksFine}
use Rattle.timing_defs.proofs.Members.{first_in, later_in}

none_any : {X : Type 0} (p : X → Bool) (xs : List X) → ((x : X) → Contains xs x → p x ≡ false) → list_any p xs ≡ false
none_any p [] none = refl
none_any p (x ∷ xs) none = rw (none x (first_in x xs)) (none_any p xs (λ y c. none y (later_in x xs y c)))

neither : (a b c e : Bool) → a ≡ false → b ≡ false → c ≡ false → e ≡ false → ((a || b) || (c || e)) ≡ false
neither a b c e f g h k = rw (f, g, h, k) refl

and_none : (a b : Bool) → b ≡ false → (a && b) ≡ false
and_none true b h = h
and_none false b h = refl

pub no_origin : (d : Design) → AreRowsFine d → AreBacksFine d → NoOrigin d
no_origin d rows backs (at_net name) = elim (cases_Bool (list_any (bytes_eq name) d.nets)) [
  | inl e ↦ rw e (rows.nets name e)
  | inr e ↦ rw e refl
]
no_origin d rows backs (at_pin name) =
    none_any (λ (node : Node). bytes_eq (name_of node.pin) name && is_node_origin d node) (nodes d)
    (λ node c. and_none (bytes_eq (name_of node.pin) name) (is_node_origin d node)
    (neither (is_forward_origin d Early node) (is_back_origin d Early node) (is_forward_origin d Late node) (is_back_origin d Late node)
    (rows.nodes node c Early) (backs node c Early) (rows.nodes node c Late) (backs node c Late)))
