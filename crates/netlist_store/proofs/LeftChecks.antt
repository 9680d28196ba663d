-- The checks of a net that an ECO does not touch: they say the same before and after it.

use Rattle.std.proofs.Common.{◌≡◌, ℕ, Bool, true, false, List, [], ◌∷◌, ◌++◌, map, filter, length, Option, None, Some, refl, sym, ap, ◌∙◌, inl, inr, not}
use Rattle.std.specs.Prelude.{find, option_map, is_some, nat_lt, ◌||◌, ◌&&◌, if◌then◌else◌}
use Rattle.std.specs.List.{list_any, list_all}
use Rattle.std.specs.Option.{option_map_or}
use Rattle.std.specs.Str.{bytes_eq}
use Rattle.std.proofs.lemmas.Bool.{cases_Bool, true≢false, and_parts, not-true}
use Rattle.std.proofs.lemmas.List.{length-map}
use Rattle.timing_defs.specs.declared.kinds.Dir.{Dir}
use Rattle.timing_defs.specs.declared.kinds.Dir.TheVariants.{Input, Output}
use Rattle.timing_defs.specs.declared.netlist.Inst.{Inst}
use Rattle.timing_defs.specs.declared.parasitics.RcNode.{RcNode}
use Rattle.timing_defs.specs.declared.parasitics.RcNode.TheVariants.{Pin as rc_pin, Inner as rc_inner}
use Rattle.timing_defs.specs.declared.parasitics.NetRc.{NetRc}
use Rattle.timing_defs.specs.declared.design.Design.{Design}
use Rattle.timing_defs.specs.Netlist.{Pin, name_of, full_name, is_on, is_driver, drives_as, drivers, driver, same_dir, pins, is_listed, are_distinct}
use Rattle.timing_defs.specs.Wires.{same_rc, is_lumped, root_node, path_between}
use Rattle.timing_defs.specs.NetChecks.{named_nodes, is_large_net, different, has_cycle, reaches_all, is_tree, is_pin_of, has_resistor, pins_agree}
use Rattle.netlist_store.specs.Linked.{IsLinked}
use Rattle.netlist_store.proofs.ShardLaws.{same_is}
use Rattle.netlist_store.proofs.ListLaws.{apart_sym}
use Rattle.netlist_store.proofs.FitLaws.{fits}
use Rattle.netlist_store.proofs.SeenPins.{Seen, seen, seen_owner, seen_on}
use Rattle.netlist_store.proofs.Untouched.{IsLeft}

-- what a pin's net sees tells its name, and whether it drives
abbrev seen_name_by : Option (List ℕ × List ℕ) → List ℕ → List ℕ
seen_name_by None own = own
seen_name_by (Some inst) own = inst.0 ++ 58 ∷ own

abbrev seen_name : Seen → List ℕ
seen_name s = seen_name_by s.owner s.own

abbrev seen_node : Seen → RcNode
seen_node s = rc_pin (seen_name s)

abbrev drives_by : Option (List ℕ × List ℕ) → Dir → Bool
drives_by None dir = same_dir dir Input
drives_by (Some inst) dir = same_dir dir Output

abbrev drives_seen : Seen → Bool
drives_seen s = drives_by s.owner s.dir

name_told : (owner : Option Inst) (own : List ℕ) → full_name owner own ≡ seen_name_by (seen_owner owner) own
name_told None own = refl
name_told (Some inst) own = refl

drives_told : (owner : Option Inst) (dir : Dir) → drives_as owner dir ≡ drives_by (seen_owner owner) dir
drives_told None dir = refl
drives_told (Some inst) dir = refl

node_told : (p : Pin) → root_node p ≡ seen_node (seen p)
node_told p = ap rc_pin (name_told p.owner p.own)

is_told : (p : Pin) → is_driver p ≡ drives_seen (seen p)
is_told p = drives_told p.owner p.dir

nodes_told : (ps : List Pin) → map root_node ps ≡ map seen_node (map seen ps)
nodes_told [] = refl
nodes_told (p ∷ ps) = λ k. node_told p k ∷ nodes_told ps k

module _ (net : List ℕ) where
  drivers_told : (ps : List Pin) → map seen (filter (λ p. is_driver p && is_on net p) ps) ≡ filter drives_seen (map seen (filter (is_on net) ps))
  drivers_told [] = refl
  drivers_told (p ∷ ps) = elim (cases_Bool (is_on net p)) [
    | inl e ↦ elim (cases_Bool (is_driver p)) [
      | inl f ↦ let g : drives_seen (seen p) ≡ true = sym (is_told p) ∙ f in rw f (rw e (rw g (ap (λ xs. seen p ∷ xs) (drivers_told ps))))
      | inr f ↦ let g : drives_seen (seen p) ≡ false = sym (is_told p) ∙ f in rw f (rw e (rw g (drivers_told ps)))
    ]
    | inr e ↦ elim (cases_Bool (is_driver p)) [
      | inl f ↦ rw f (rw e (drivers_told ps))
      | inr f ↦ rw f (rw e (drivers_told ps))
    ]
  ]

  driver_told : (ps : List Pin) → option_map root_node (find (λ p. is_driver p && is_on net p) ps) ≡ option_map seen_node (find drives_seen (map seen (filter (is_on net) ps)))
  driver_told [] = refl
  driver_told (p ∷ ps) = elim (cases_Bool (is_on net p)) [
    | inl e ↦ elim (cases_Bool (is_driver p)) [
      | inl f ↦ let g : drives_seen (seen p) ≡ true = sym (is_told p) ∙ f in rw f (rw e (rw g (ap Some (node_told p))))
      | inr f ↦ let g : drives_seen (seen p) ≡ false = sym (is_told p) ∙ f in rw f (rw e (rw g (driver_told ps)))
    ]
    | inr e ↦ elim (cases_Bool (is_driver p)) [
      | inl f ↦ rw f (rw e (driver_told ps))
      | inr f ↦ rw f (rw e (driver_told ps))
    ]
  ]

  all_told : (test : RcNode → Bool) (ps : List Pin) → list_all (λ p. test (root_node p)) ps ≡ list_all (λ s. test (seen_node s)) (map seen ps)
  all_told test [] = refl
  all_told test (p ∷ ps) = λ k. test (node_told p k) && all_told test ps k

  -- a named pin is on the net where the net has a pin of the name
  none_named : (ps : List Pin) (name : List ℕ) → is_listed (map name_of ps) name ≡ false
      → list_any (λ s. bytes_eq (seen_name s) name) (map seen (filter (is_on net) ps)) ≡ false
  none_named [] name h = refl
  none_named (p ∷ ps) name h = elim (cases_Bool (bytes_eq name (name_of p))) [
    | inl e ↦ let f : true ≡ false = rw e at h in absurd (true≢false f)
    | inr e ↦
        let rest = none_named ps name (rw e at h) in
        let other : bytes_eq (seen_name (seen p)) name ≡ false = ap (λ z. bytes_eq z name) (sym (name_told p.owner p.own)) ∙ apart_sym name (name_of p) e in
        elim (cases_Bool (is_on net p)) [ inl f ↦ rw f (rw other rest) | inr f ↦ rw f rest ]
  ]

  named_on : (ps : List Pin) (name : List ℕ) → are_distinct (map name_of ps) ≡ true
      → option_map_or (is_on net) (find (λ p. bytes_eq (name_of p) name) ps) false ≡ list_any (λ s. bytes_eq (seen_name s) name) (map seen (filter (is_on net) ps))
  named_on [] name d = refl
  named_on (p ∷ ps) name d =
      let parts = and_parts (not (is_listed (map name_of ps) (name_of p))) (are_distinct (map name_of ps)) d in
      elim (cases_Bool (bytes_eq (name_of p) name)) [
        | inl e ↦
            let same : bytes_eq (seen_name (seen p)) name ≡ true = ap (λ z. bytes_eq z name) (sym (name_told p.owner p.own)) ∙ e in
            let none = none_named ps name (ap (is_listed (map name_of ps)) (sym (same_is (name_of p) name e)) ∙ not-true (is_listed (map name_of ps) (name_of p)) parts.0) in
            elim (cases_Bool (is_on net p)) [ inl f ↦ rw e (rw f (rw same refl)) | inr f ↦ rw e (rw f (sym none)) ]
        | inr e ↦
            let other : bytes_eq (seen_name (seen p)) name ≡ false = ap (λ z. bytes_eq z name) (sym (name_told p.owner p.own)) ∙ e in
            elim (cases_Bool (is_on net p)) [ inl f ↦ rw e (rw f (rw other (named_on ps name parts.1))) | inr f ↦ rw e (rw f (named_on ps name parts.1)) ]
      ]

module _ (net : List ℕ) (d d2 : Design) (left : IsLeft net d d2) where
  pub crowded_left : nat_lt 1 (length (drivers d2 net)) ≡ nat_lt 1 (length (drivers d net))
  crowded_left =
      ap (nat_lt 1)
      (sym (length-map (drivers d2 net) seen) ∙ ap length (drivers_told net (pins d2)) ∙ ap (λ xs. length (filter drives_seen xs)) left.seen
      ∙ sym (ap length (drivers_told net (pins d))) ∙ length-map (drivers d net) seen)

  -- the parasitics of the net
  module _ (rc : NetRc) (same : rc.net ≡ net) where
    seen_same : seen_on d2 rc.net ≡ seen_on d rc.net
    seen_same = ap (seen_on d2) same ∙ left.seen ∙ sym (ap (seen_on d) same)

    nodes_same : map root_node (filter (is_on rc.net) (pins d2)) ≡ map root_node (filter (is_on rc.net) (pins d))
    nodes_same = nodes_told (filter (is_on rc.net) (pins d2)) ∙ ap (map seen_node) seen_same ∙ sym (nodes_told (filter (is_on rc.net) (pins d)))

    pub large_left : is_large_net d2 rc ≡ is_large_net d rc
    large_left = ap (λ ns. nat_lt 65535 (different [] (if is_lumped rc then ns ++ named_nodes rc else named_nodes rc))) nodes_same

    abbrev tree_from : Option RcNode → Bool
    tree_from root =
        option_map_or (λ r. is_lumped rc || (not (has_cycle rc) && list_all (λ node. is_some (path_between rc.ress r node)) (named_nodes rc))) root false

    tree_by : (o : Option Pin) → option_map_or (λ root. is_lumped rc || (not (has_cycle rc) && reaches_all rc root)) o false ≡ tree_from (option_map root_node o)
    tree_by None = refl
    tree_by (Some p) = refl

    pub tree_left : is_tree d2 rc ≡ is_tree d rc
    tree_left =
        tree_by (driver d2 rc.net) ∙ ap tree_from (driver_told rc.net (pins d2)) ∙ ap (λ xs. tree_from (option_map seen_node (find drives_seen xs))) seen_same
        ∙ sym (ap tree_from (driver_told rc.net (pins d))) ∙ sym (tree_by (driver d rc.net))

    module _ (linked : IsLinked d) (linked2 : IsLinked d2) where
      named_same : (node : RcNode) → is_pin_of d2 rc.net node ≡ is_pin_of d rc.net node
      named_same (rc_pin name) =
          named_on rc.net (pins d2) name (fits d2 linked2).pin_names
          ∙ ap (list_any (λ s. bytes_eq (seen_name s) name)) seen_same
          ∙ sym (named_on rc.net (pins d) name (fits d linked).pin_names)
      named_same (rc_inner k) = refl

      all_same : (nodes : List RcNode) → list_all (is_pin_of d2 rc.net) nodes ≡ list_all (is_pin_of d rc.net) nodes
      all_same [] = refl
      all_same (n ∷ ns) = λ k. named_same n k && all_same ns k

      abbrev at_resistor : RcNode → Bool
      at_resistor node = list_any (λ r. same_rc r.a node || same_rc r.b node) rc.ress

      joined_same : list_all (has_resistor rc) (filter (is_on rc.net) (pins d2)) ≡ list_all (has_resistor rc) (filter (is_on rc.net) (pins d))
      joined_same =
          all_told net at_resistor (filter (is_on rc.net) (pins d2)) ∙ ap (list_all (λ s. at_resistor (seen_node s))) seen_same
          ∙ sym (all_told net at_resistor (filter (is_on rc.net) (pins d)))

      pub agree_left : pins_agree d2 rc ≡ pins_agree d rc
      agree_left = λ k. all_same (named_nodes rc) k && (is_lumped rc || joined_same k)
