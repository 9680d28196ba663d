-- A linked design, list by list: what its instances, nets and parasitics keep.

use Rattle.std.proofs.Common.{◌≡◌, ℕ, Bool, true, false, List, [], ◌∷◌, ◌++◌, map, Option, None, Some, refl, sym, ap, ◌∙◌}
use Rattle.std.specs.Prelude.{◌&&◌, is_none}
use Rattle.std.specs.List.{list_all}
use Rattle.std.specs.Option.{option_map_or}
use Rattle.std.proofs.lemmas.Bool.{false≢true, true≢false, and_parts, and_from}
use Rattle.timing_defs.specs.declared.library.Library.{Library}
use Rattle.timing_defs.specs.declared.netlist.Port.{Port}
use Rattle.timing_defs.specs.declared.netlist.Inst.{Inst}
use Rattle.timing_defs.specs.declared.netlist.Conn.{Conn}
use Rattle.timing_defs.specs.declared.parasitics.NetRc.{NetRc}
use Rattle.timing_defs.specs.declared.design.Design.{Design}
use Rattle.timing_defs.specs.declared.faults.Fault.{Fault}
use Rattle.timing_defs.specs.Netlist.{is_listed, are_distinct}
use Rattle.timing_defs.specs.Edits.{unless, first_fault, link_inst, link_net}
use Rattle.timing_defs.specs.Wires.{first_some}
use Rattle.netlist_store.specs.Linked.{IsLinked}
use Rattle.timing_defs.specs.Documents.{is_net_rc}
use Rattle.netlist_store.proofs.ListLaws.{all_both, all_weaker}

-- the first of several faults, where there is none
pub no_fault : (fault : Option Fault) (faults : List (Option Fault)) → first_fault (fault ∷ faults) ≡ None → (fault ≡ None) × (first_fault faults ≡ None)
no_fault None faults e = (refl, e)
no_fault (Some f) faults e = absurd (cc)

pub no_faults : (one two : List (Option Fault)) → first_fault (one ++ two) ≡ None → (first_fault one ≡ None) × (first_fault two ≡ None)
no_faults [] two e = (refl, e)
no_faults (None ∷ rest) two e = no_faults rest two e
no_faults (Some f ∷ rest) two e = absurd (cc)

pub holds_unless : (holds : Bool) (fault : Fault) → unless holds fault ≡ None → holds ≡ true
holds_unless true fault e = refl
holds_unless false fault e = absurd (cc)

is_fault : (fault : Option Fault) → option_map_or (λ (f : Fault). true) fault false ≡ false → fault ≡ None
is_fault None e = refl
is_fault (Some f) e = absurd (true≢false e)

first_of_two : (a b : Option Fault) → a ≡ None → b ≡ None → option_map_or (λ (f : Fault). true) (first_fault (a ∷ b ∷ [])) false ≡ false
first_of_two a b e f = rw e (rw f refl)

module _ {X : Type 0} (fault : X → Option Fault) where
  pub none_of_all : (xs : List X) → first_some fault xs ≡ None → list_all (λ x. is_none (fault x)) xs ≡ true
  none_of_all [] e = refl
  none_of_all (x ∷ xs) e = by (fault x) refl (none_of_all xs)
    where
      by : (o : Option Fault) → fault x ≡ o → (first_some fault xs ≡ None → list_all (λ x. is_none (fault x)) xs ≡ true)
          → list_all (λ x. is_none (fault x)) (x ∷ xs) ≡ true
      by None h rest = and_from (is_none (fault x)) _ (ap is_none h) (rest (rw h at e))
      by (Some f) h rest = let k = rw h at e in absurd (cc)

  pub all_of_none : (xs : List X) → list_all (λ x. is_none (fault x)) xs ≡ true → first_some fault xs ≡ None
  all_of_none [] e = refl
  all_of_none (x ∷ xs) e =
      let h = and_parts (is_none (fault x)) (list_all (λ x. is_none (fault x)) xs) e in
      by (fault x) refl h.0 (all_of_none xs h.1)
    where
      by : (o : Option Fault) → fault x ≡ o → is_none (fault x) ≡ true → first_some fault xs ≡ None → first_some fault (x ∷ xs) ≡ None
      by None h k rest = rw h rest
      by (Some f) h k rest = absurd (false≢true (sym (ap is_none h) ∙ k))

-- the pins of an instance are connected once each, to nets that are there, and its cell has them
abbrev pub joins : List (List ℕ) → Conn → Bool
joins nets conn = option_map_or (is_listed nets) conn.net true

abbrev pub is_linked_inst : Library → Library → List (List ℕ) → Inst → Bool
is_linked_inst early late nets inst =
    are_distinct (map (λ conn. conn.pin) inst.conns) && list_all (joins nets) inst.conns && is_none (link_inst early late inst)

-- parasitics are those of a net that is there
abbrev pub is_linked_rc : List (List ℕ) → NetRc → Bool
is_linked_rc nets rc = is_net_rc rc && is_none (link_net nets rc)

-- what the lists of a linked design keep
pub record KeepsLists (early late : Library) (ports : List Port) (nets : List (List ℕ)) (insts : List Inst) (rcs : List NetRc) : Type 0 where
  pub inst_names : are_distinct (map (λ inst. inst.name) insts) ≡ true
  pub net_names : are_distinct nets ≡ true
  pub rc_names : are_distinct (map (λ rc. rc.net) rcs) ≡ true
  pub port_nets : list_all (λ port. is_listed nets port.name) ports ≡ true
  pub inst_links : list_all (is_linked_inst early late nets) insts ≡ true
  pub rc_links : list_all (is_linked_rc nets) rcs ≡ true

abbrev pub IsKept : Design → Type 0
IsKept d = KeepsLists d.early d.late d.ports d.nets d.insts d.rcs

module _ (d : Design) where
  pub kept_of : IsLinked d → IsKept d
  kept_of linked =
      let names = and_parts _ (list_all (λ inst. are_distinct (map (λ conn. conn.pin) inst.conns)) d.insts) linked.names in
      let nets = and_parts _ (are_distinct d.nets) names.0 in
      let insts = and_parts (are_distinct (map (λ port. port.name) d.ports)) (are_distinct (map (λ inst. inst.name) d.insts)) nets.0 in
      let rcs = and_parts (are_distinct (map (λ rc. rc.net) d.rcs)) (list_all is_net_rc d.rcs) linked.parasitics in
      let none : first_fault (first_some (link_inst d.early d.late) d.insts ∷ first_some (link_net d.nets) d.rcs ∷ []) ≡ None = is_fault _ linked.linked in
      let one = no_fault (first_some (link_inst d.early d.late) d.insts) (first_some (link_net d.nets) d.rcs ∷ []) none in
      let two = no_fault (first_some (link_net d.nets) d.rcs) [] one.1 in
      record {
        inst_names = insts.1;
        net_names = nets.1;
        rc_names = rcs.0;
        port_nets = linked.port_nets;
        inst_links =
            all_both (λ inst. are_distinct (map (λ conn. conn.pin) inst.conns) && list_all (joins d.nets) inst.conns) (λ inst. is_none (link_inst d.early d.late inst)) d.insts
            (all_both (λ inst. are_distinct (map (λ conn. conn.pin) inst.conns)) (λ inst. list_all (joins d.nets) inst.conns) d.insts names.1 linked.nets)
            (none_of_all (link_inst d.early d.late) d.insts one.0);
        rc_links = all_both is_net_rc (λ rc. is_none (link_net d.nets rc)) d.rcs rcs.1 (none_of_all (link_net d.nets) d.rcs two.0);
      }

  -- the lists may change, where they keep what they kept
  pub linked_from : (nets : List (List ℕ)) (insts : List Inst) (rcs : List NetRc) → IsLinked d → KeepsLists d.early d.late d.ports nets insts rcs
      → IsLinked (record d { nets = nets; insts = insts; rcs = rcs })
  linked_from nets insts rcs linked kept =
      let names = and_parts _ (list_all (λ inst. are_distinct (map (λ conn. conn.pin) inst.conns)) d.insts) linked.names in
      let old_nets = and_parts _ (are_distinct d.nets) names.0 in
      let old_insts = and_parts (are_distinct (map (λ port. port.name) d.ports)) (are_distinct (map (λ inst. inst.name) d.insts)) old_nets.0 in
      record {
        early = linked.early;
        late = linked.late;
        constraints = linked.constraints;
        parasitics = and_from _ _ kept.rc_names (all_weaker is_net_rc (is_linked_rc nets) rcs (λ rc h. (and_parts (is_net_rc rc) _ h).0) kept.rc_links);
        names =
            and_from _ _ (and_from _ _ (and_from _ _ old_insts.0 kept.inst_names) kept.net_names)
            (all_weaker (λ inst. are_distinct (map (λ conn. conn.pin) inst.conns)) (is_linked_inst d.early d.late nets) insts
            (λ inst h. (and_parts (are_distinct (map (λ conn. conn.pin) inst.conns)) _ (and_parts _ (is_none (link_inst d.early d.late inst)) h).0).0) kept.inst_links);
        ports = linked.ports;
        port_nets = kept.port_nets;
        nets =
            all_weaker (λ inst. list_all (joins nets) inst.conns) (is_linked_inst d.early d.late nets) insts
            (λ inst h. (and_parts _ (list_all (joins nets) inst.conns) (and_parts _ (is_none (link_inst d.early d.late inst)) h).0).1) kept.inst_links;
        linked =
            first_of_two _ _
            (all_of_none (link_inst d.early d.late) insts
            (all_weaker (λ inst. is_none (link_inst d.early d.late inst)) (is_linked_inst d.early d.late nets) insts
            (λ inst h. (and_parts _ (is_none (link_inst d.early d.late inst)) h).1) kept.inst_links))
            (all_of_none (link_net nets) rcs
            (all_weaker (λ rc. is_none (link_net nets rc)) (is_linked_rc nets) rcs (λ rc h. (and_parts _ (is_none (link_net nets rc)) h).1) kept.rc_links));
      }
