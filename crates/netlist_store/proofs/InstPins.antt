-- The rows of the pins of one instance, and the nets that they are on.

use Rattle.std.proofs.Common.{◌≡◌, ℕ, true, false, List, [], ◌∷◌, Option, None, Some, refl, sym, ap, ◌∙◌, inl, inr}
use Rattle.std.specs.Prelude.{nat_eq, find, option_and_then, option_map, is_some, is_none}
use Rattle.std.specs.List.{list_all}
use Rattle.std.specs.Option.{option_map_or}
use Rattle.std.specs.Str.{bytes_eq}
use Rattle.std.proofs.lemmas.Bool.{cases_Bool, false≢true, and_parts}
use Rattle.timing_defs.specs.declared.library.Cell.{Cell}
use Rattle.timing_defs.specs.declared.library.CellPin.{CellPin}
use Rattle.timing_defs.specs.declared.netlist.Inst.{Inst}
use Rattle.timing_defs.specs.declared.netlist.Conn.{Conn}
use Rattle.timing_defs.specs.declared.design.Design.{Design}
use Rattle.timing_defs.specs.Netlist.{cell_pin, cell_pins, cell_named, conn_net}
use Rattle.timing_defs.specs.Edits.{inst_named, has_colon, before_last, after_last, direction_in, on_inst}
use Rattle.netlist_store.specs.declared.tables.Frame.{Frame}
use Rattle.netlist_store.specs.Numbering.{number_of}
use Rattle.netlist_store.specs.Linked.{IsLinked}
use Rattle.netlist_store.proofs.ShardLaws.{same_is}
use Rattle.netlist_store.proofs.ListLaws.{found_passes, found_keeps}
use Rattle.netlist_store.proofs.LinkLaws.{kept_of, is_linked_inst}
use Rattle.netlist_store.proofs.ConnLaws.{usable_late, has_pin_of, inst_parts}
use Rattle.netlist_store.proofs.InUse.{then_some}
use Rattle.netlist_store.proofs.InstEdits.{of_inst}
use Rattle.netlist_store.proofs.PinsOfInst.{has_own}
use Rattle.netlist_store.proofs.Sound.{on_row, row_by, row_of, own_pin, look_in}

-- the pins of an open instance are on no net
pub open_net : (conns : List Conn) → list_all (λ conn. is_none conn.net) conns ≡ true → (own : List ℕ) → conn_net conns own ≡ None
open_net [] all own = refl
open_net (c ∷ cs) all own =
    let k = and_parts (is_none c.net) (list_all (λ conn. is_none conn.net) cs) all in
    elim (cases_Bool (bytes_eq c.pin own)) [
      | inl e ↦ rw e (none_there c.net k.0)
      | inr e ↦ rw e (open_net cs k.1 own)
    ]
  where
    none_there : (o : Option (List ℕ)) → is_none o ≡ true → o ≡ None
    none_there None h = refl
    none_there (Some n) h = absurd (false≢true h)

-- a connected pin is among those of the cell
pub conn_owned : (c : Cell) (conns : List Conn) → list_all (has_pin_of c) conns ≡ true → (own net : List ℕ) → conn_net conns own ≡ Some net
    → has_own own c.pins ≡ true
conn_owned c conns all own net on =
    let conn = then_some (λ (x : Conn). x.net) (find (λ x. bytes_eq x.pin own) conns) net on in
    let called : conn.0.pin ≡ own = same_is conn.0.pin own (found_passes (λ x. bytes_eq x.pin own) conns conn.0 conn.1) in
    let has : is_some (direction_in c conn.0.pin) ≡ true = found_keeps (λ x. bytes_eq x.pin own) (has_pin_of c) conns conn.0 all conn.1 in
    sym (is_mapped (find (λ p. bytes_eq p.name own) c.pins)) ∙ ap (λ o. is_some (direction_in c o)) (sym called) ∙ has
  where
    is_mapped : (o : Option CellPin) → is_some (option_map (λ p. p.dir) o) ≡ is_some o
    is_mapped None = refl
    is_mapped (Some p) = refl

pub inst_owned : (d : Design) → IsLinked d → (q : List ℕ) (i : Inst) → inst_named d.insts q ≡ Some i → (own net : List ℕ) → conn_net i.conns own ≡ Some net
    → has_own own (cell_pins (cell_named d.late.cells i.cell)) ≡ true
inst_owned d linked q i found own net on =
    let l =
    inst_parts d.early d.late d.nets i
    (found_keeps (λ x. bytes_eq x.name q) (is_linked_inst d.early d.late d.nets) d.insts i (kept_of d linked).inst_links found) in
    ap (λ o. has_own own (cell_pins o)) (usable_late d.early d.late i.cell l.links.its_cell l.links.usable)
    ∙ conn_owned l.links.its_cell i.conns l.links.its_pins own net on

-- the instance of a name after a change of it
pub on_found : (x : List ℕ) (change : Inst → Inst) → ((i : Inst) → (change i).name ≡ i.name) → (insts : List Inst)
    → inst_named (on_inst x change insts) x ≡ option_map change (inst_named insts x)
on_found x change same [] = refl
on_found x change same (i ∷ is) = elim (cases_Bool (bytes_eq i.name x)) [
  | inl e ↦ let f : bytes_eq (change i).name x ≡ true = ap (λ z. bytes_eq z x) (same i) ∙ e in rw e (rw f refl)
  | inr e ↦ rw e (rw e (on_found x change same is))
]

-- whether a pin is on a net, by its connection
pub on_own : (insts nets : List (Option (List ℕ))) (j : Inst) (own : List ℕ) (k : ℕ) (ps : List CellPin)
    → ((net : List ℕ) → conn_net j.conns own ≡ Some net → has_own own ps ≡ true)
    → on_row k (option_map (row_of insts nets) (option_map (cell_pin j) (find (λ p. bytes_eq p.name own) ps)))
    ≡ option_map_or (nat_eq k) (option_and_then (number_of nets) (conn_net j.conns own)) false
on_own insts nets j own k ps has = by (find (λ p. bytes_eq p.name own) ps) refl
  where
    off : find (λ p. bytes_eq p.name own) ps ≡ None → (o : Option (List ℕ)) → conn_net j.conns own ≡ o
        → false ≡ option_map_or (nat_eq k) (option_and_then (number_of nets) o) false
    off e None f = refl
    off e (Some net) f = absurd (false≢true (sym (ap is_some e) ∙ has net f))

    by : (o : Option CellPin) → find (λ p. bytes_eq p.name own) ps ≡ o
        → on_row k (option_map (row_of insts nets) (option_map (cell_pin j) o)) ≡ option_map_or (nat_eq k) (option_and_then (number_of nets) (conn_net j.conns own)) false
    by None e = off e (conn_net j.conns own) refl
    by (Some p) e =
        ap (λ z. option_map_or (nat_eq k) (option_and_then (number_of nets) (conn_net j.conns z)) false)
        (same_is p.name own (found_passes (λ p. bytes_eq p.name own) ps p e))

-- the row of a pin of an instance
pub row_was : (frame : Frame) (insts nets : List (Option (List ℕ))) (table : List (Option Inst)) (x : List ℕ) (i : Inst) → look_in insts table x ≡ Some i
    → (q : List ℕ) → of_inst x q ≡ true
    → row_by frame insts nets table q ≡ option_map (row_of insts nets) (own_pin frame.late.cells (after_last q) i)
row_was frame insts nets table x i found q h =
    let k = and_parts (has_colon q) (bytes_eq (before_last q) x) h in
    rw k.0 (ap (λ o. option_map (row_of insts nets) (option_and_then (own_pin frame.late.cells (after_last q)) o))
    (ap (look_in insts table) (same_is (before_last q) x k.1) ∙ found))
