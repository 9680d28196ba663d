-- Stores in which a pin joins a net or leaves it, as the code has their tables.

use Rattle.std.proofs.Common.{◌≡◌, ◌≢◌, ℕ, ◌<◌, true, false, List, length, filter, Option, None, Some, refl, sym, ap, subst, ◌∙◌, not}
use Rattle.std.specs.Prelude.{nat_eq, find, option_and_then, option_map, is_some, slice_get, if◌then◌else◌}
use Rattle.std.specs.List.{filter_map}
use Rattle.std.specs.Str.{bytes_eq}
use Rattle.std.proofs.lemmas.Bool.{false≢true}
use Rattle.std.proofs.lemmas.Option.{slice_get_within}
use Rattle.timing_defs.specs.declared.kinds.Split.TheVariants.{Late}
use Rattle.timing_defs.specs.declared.library.Cell.{Cell}
use Rattle.timing_defs.specs.declared.library.CellPin.{CellPin}
use Rattle.timing_defs.specs.declared.netlist.Inst.{Inst}
use Rattle.timing_defs.specs.declared.netlist.Conn.{Conn}
use Rattle.timing_defs.specs.declared.design.Design.{Design}
use Rattle.timing_defs.specs.Netlist.{Pin, cell_pin, cell_pins, cell_of, conn_net, pin_at, pin_named, is_listed, are_distinct}
use Rattle.timing_defs.specs.Edits.{inst_named, has_colon, before_last, after_last, direction_in, on_inst, with_conns, connected, is_conn_of}
use Rattle.netlist_store.specs.declared.tables.Frame.{Frame}
use Rattle.netlist_store.specs.declared.tables.Names.{Names}
use Rattle.netlist_store.specs.declared.tables.Orders.{Orders}
use Rattle.netlist_store.specs.declared.tables.PinRow.{PinRow}
use Rattle.netlist_store.specs.declared.tables.Rows.{Rows}
use Rattle.netlist_store.specs.Numbering.{Stored, number_of, inst_numbered, pin_numbered, owner_number, IsNumbered}
use Rattle.netlist_store.specs.Linked.{IsLinked}
use Rattle.netlist_store.specs.Drafts.{joined_list, left_list, with_insts}
use Rattle.netlist_store.specs.Stores.{at, design_in, stored_in, AreTables}
use Rattle.netlist_store.proofs.ShardLaws.{same_is}
use Rattle.netlist_store.proofs.NumberLaws.{number_at, some_is}
use Rattle.netlist_store.proofs.ListLaws.{found_passes, all_kept, distinct_filter}
use Rattle.netlist_store.proofs.LinkLaws.{kept_of, linked_from, joins}
use Rattle.netlist_store.proofs.ConnLaws.{some_of, has_pin_of, usable_late, connected_all, connected_distinct}
use Rattle.netlist_store.proofs.EditLaws.{names_on, links_on}
use Rattle.netlist_store.proofs.PinsByWord.{pin_by_word}
use Rattle.netlist_store.proofs.InUse.{then_some, map_some}
use Rattle.netlist_store.proofs.ConnNets.{connected_net, left_net}
use Rattle.netlist_store.proofs.InstEdits.{insts_changed}
use Rattle.netlist_store.proofs.Joins.{rejoined}
use Rattle.netlist_store.proofs.Sound.{tables_sound, sound_tables, inst_is}

-- the instance of a numbered pin word, and the cell's pin
pub record Stands (d : Design) (w : List ℕ) : Type 0 where
  pub inst : Inst
  pub own : CellPin
  pub named : inst_named d.insts (before_last w) ≡ Some inst
  pub found : find (λ p. bytes_eq p.name (after_last w)) (cell_pins (cell_of d Late inst)) ≡ Some own
  pub pin : pin_named d w ≡ Some (cell_pin inst own)
  pub name : inst.name ≡ before_last w

pub stands : (s : Stored) → IsNumbered s → IsLinked s.design → (w : List ℕ) (p : ℕ) → has_colon w ≡ true → number_of s.pins w ≡ Some p → Stands s.design w
stands s numbered linked w p colon e =
    let pin = some_of (pin_named s.design w) (sym (numbered.pin_names w) ∙ ap is_some e) in
    let i = then_some (λ i. pin_at s.design i (after_last w)) (inst_named s.design.insts (before_last w)) pin.0 (sym (pin_by_word s.design linked w colon) ∙ pin.1) in
    let cp = map_some (cell_pin i.0) (find (λ p. bytes_eq p.name (after_last w)) (cell_pins (cell_of s.design Late i.0))) pin.0 i.2 in
    record {
      inst = i.0;
      own = cp.0;
      named = i.1;
      found = cp.1;
      pin = pin.1 ∙ ap Some (sym cp.2);
      name = same_is i.0.name (before_last w) (found_passes (λ i. bytes_eq i.name (before_last w)) s.design.insts i.0 i.1);
    }

-- its number is that of the pin's owner
pub owner_is : (s : Stored) → IsNumbered s → (w : List ℕ) (p : ℕ) → number_of s.pins w ≡ Some p → (st : Stands s.design w)
    → owner_number s p ≡ number_of s.insts (before_last w)
owner_is s numbered w p e st =
    let row : pin_numbered s p ≡ Some (cell_pin st.inst st.own) = ap (option_and_then (pin_named s.design)) (number_at s.pins w p e) ∙ st.pin in
    ap (λ o. option_and_then (λ (i : Inst). number_of s.insts i.name) (option_and_then (λ (p : Pin). p.owner) o)) row ∙ ap (number_of s.insts) st.name

pub has_owner : (s : Stored) → IsNumbered s → (w : List ℕ) (p : ℕ) → number_of s.pins w ≡ Some p → (st : Stands s.design w)
    → owner_number s p ≡ None → ⊥
has_owner s numbered w p e st none =
    let there : is_some (number_of s.insts (before_last w)) ≡ true = numbered.inst_names (before_last w) ∙ ap is_some st.named in
    let f : is_some (number_of s.insts (before_last w)) ≡ false = ap is_some (sym (owner_is s numbered w p e st) ∙ none) in
    false≢true (sym f ∙ there)

-- the cell of its number has the pin
pub own_found : (s : Stored) (w : List ℕ) (st : Stands s.design w) (n : ℕ) (cell : Cell) → number_of s.insts (before_last w) ≡ Some n
    → option_and_then (cell_of s.design Late) (inst_numbered s n) ≡ Some cell → find (λ p. bytes_eq p.name (after_last w)) cell.pins ≡ Some st.own
own_found s w st n cell e found =
    let inst : inst_numbered s n ≡ Some st.inst = ap (option_and_then (inst_named s.design.insts)) (number_at s.insts (before_last w) n e) ∙ st.named in
    let late : cell_of s.design Late st.inst ≡ Some cell = sym (ap (option_and_then (cell_of s.design Late)) inst) ∙ found in
    sym (ap (λ o. find (λ p. bytes_eq p.name (after_last w)) (cell_pins o)) late) ∙ st.found

pub own_named : (d : Design) (w : List ℕ) (st : Stands d w) → st.own.name ≡ after_last w
own_named d w st =
    same_is st.own.name (after_last w) (found_passes (λ p. bytes_eq p.name (after_last w)) (cell_pins (cell_of d Late st.inst)) st.own st.found)

-- a design stays linked as a pin joins a net or leaves it
module _ (d : Design) (linked : IsLinked d) (w : List ℕ) (st : Stands d w) where
  has_own : (c : Cell) → cell_of d Late st.inst ≡ Some c → is_some (direction_in c (after_last w)) ≡ true
  has_own c e =
      ap (λ o. is_some (option_map (λ (p : CellPin). p.dir) o))
      (sym (ap (λ o. find (λ p. bytes_eq p.name (after_last w)) (cell_pins o)) e) ∙ st.found)

  pub linked_join : (net : List ℕ) → is_listed d.nets net ≡ true
      → IsLinked (record d { insts = on_inst (before_last w) (with_conns (connected (after_last w) net)) d.insts })
  linked_join net there =
      let kept = kept_of d linked in
      linked_from d d.nets (on_inst (before_last w) (with_conns (connected (after_last w) net)) d.insts) d.rcs linked (record {
        inst_names = ap are_distinct (names_on (before_last w) (with_conns (connected (after_last w) net)) d.insts (λ i. refl)) ∙ kept.inst_names;
        net_names = kept.net_names;
        rc_names = kept.rc_names;
        port_nets = kept.port_nets;
        inst_links =
            links_on d.early d.late d.nets (before_last w) (with_conns (connected (after_last w) net)) d.insts kept.inst_names kept.inst_links
            (λ i found old. record {
              distinct = connected_distinct (after_last w) net i.conns old.distinct;
              joined = connected_all (after_last w) net i.conns (joins d.nets) old.joined (λ conn h. there) there;
              links = record {
                its_cell = old.links.its_cell;
                usable = old.links.usable;
                its_pins =
                    connected_all (after_last w) net i.conns (has_pin_of old.links.its_cell) old.links.its_pins (λ conn h. h)
                    (has_own old.links.its_cell (ap (cell_of d Late) (some_is (sym st.named ∙ found)) ∙ usable_late d.early d.late i.cell old.links.its_cell old.links.usable));
              };
            });
        rc_links = kept.rc_links;
      })

  pub linked_leave : IsLinked (record d { insts = on_inst (before_last w) (with_conns (filter (λ conn. not (is_conn_of (after_last w) conn)))) d.insts })
  linked_leave =
      let kept = kept_of d linked in
      let stays = λ (conn : Conn). not (is_conn_of (after_last w) conn) in
      linked_from d d.nets (on_inst (before_last w) (with_conns (filter (λ conn. not (is_conn_of (after_last w) conn)))) d.insts) d.rcs linked (record {
        inst_names = ap are_distinct (names_on (before_last w) (with_conns (filter (λ conn. not (is_conn_of (after_last w) conn)))) d.insts (λ i. refl)) ∙ kept.inst_names;
        net_names = kept.net_names;
        rc_names = kept.rc_names;
        port_nets = kept.port_nets;
        inst_links =
            links_on d.early d.late d.nets (before_last w) (with_conns (filter (λ conn. not (is_conn_of (after_last w) conn)))) d.insts kept.inst_names kept.inst_links
            (λ i found old. record {
              distinct = distinct_filter (λ conn. conn.pin) (λ conn. not (is_conn_of (after_last w) conn)) i.conns old.distinct;
              joined = all_kept (joins d.nets) (joins d.nets) (λ conn. not (is_conn_of (after_last w) conn)) i.conns (λ conn h k. h) old.joined;
              links = record {
                its_cell = old.links.its_cell;
                usable = old.links.usable;
                its_pins =
                    all_kept (has_pin_of old.links.its_cell) (has_pin_of old.links.its_cell) (λ conn. not (is_conn_of (after_last w) conn)) i.conns
                    (λ conn h k. h) old.links.its_pins;
              };
            });
        rc_links = kept.rc_links;
      })

-- the tables
module _ (frame : Frame) (names : Names) (rows : Rows) (orders : Orders) (t : AreTables (stored_in frame names rows orders) rows orders)
    (w : List ℕ) (colon : has_colon w ≡ true) (p : ℕ) (numbered : number_of names.pins w ≡ Some p)
    (n : ℕ) (here : number_of names.insts (before_last w) ≡ Some n) (i : Inst) (found : inst_numbered (stored_in frame names rows orders) n ≡ Some i)
    (change : List Conn → List Conn) (new : Option (List ℕ))
    (nets : (q : List ℕ) → conn_net (change i.conns) q ≡ (if bytes_eq q (after_last w) then new else conn_net i.conns q))
    (to : Option ℕ) (its_net : to ≡ option_and_then (number_of names.nets) new)
    (linked : IsLinked (record (design_in frame names rows orders) { insts = on_inst (before_last w) (with_conns change) (design_in frame names rows orders).insts }))
    (row : Inst) (same : row ≡ with_conns change i) (rows' : Rows)
    (insts_put : (k : ℕ) → at rows'.insts k ≡ (if nat_eq n k then Some row else at rows.insts k)) (rcs_same : rows'.rcs ≡ rows.rcs)
    (pin_put : (r : PinRow) → slice_get rows.pins p ≡ Some r → slice_get rows'.pins p ≡ Some (record { owner = r.owner; net = to; dir = r.dir }))
    (pins_kept : (k : ℕ) (r : PinRow) → k ≢ p → slice_get rows.pins k ≡ Some r → slice_get rows'.pins k ≡ Some r)
    (nets_put : (r : PinRow) → slice_get rows.pins p ≡ Some r → (k : ℕ) (xs : List ℕ) → slice_get rows.net_pins k ≡ Some xs
    → slice_get rows'.net_pins k ≡ Some (joined_list to p k (left_list r.net p k xs))) where
  its_inst : at rows.insts n ≡ Some i
  its_inst =
      sym (ap (option_and_then (at rows.insts)) here) ∙ sym (inst_is frame names rows orders (tables_sound frame names rows orders t) (before_last w))
      ∙ sym (ap (option_and_then (inst_named (design_in frame names rows orders).insts)) (number_at names.insts (before_last w) n here)) ∙ found

  put_now : (k : ℕ) → at rows'.insts k ≡ (if nat_eq n k then Some (record { name = i.name; cell = i.cell; conns = change i.conns }) else at rows.insts k)
  put_now k = insts_put k ∙ ap (λ r. if nat_eq n k then Some r else at rows.insts k) same

  list_now : filter_map (at rows'.insts) orders.insts ≡ on_inst (before_last w) (with_conns change) (design_in frame names rows orders).insts
  list_now =
      insts_changed frame names rows orders (tables_sound frame names rows orders t) (before_last w) n here rows'.insts
      (Some (record { name = i.name; cell = i.cell; conns = change i.conns })) put_now (with_conns change) i its_inst refl

  rows_are : rows' ≡ record rows { insts = rows'.insts; net_pins = rows'.net_pins; pins = rows'.pins }
  rows_are = ap (λ x. record rows' { rcs = x }) rcs_same

  pub moved_design : stored_in frame names rows' orders
      ≡ with_insts (stored_in frame names rows orders) (on_inst (before_last w) (with_conns change) (design_in frame names rows orders).insts)
  moved_design =
      ap (λ r. stored_in frame names r orders) rows_are ∙ ap (with_insts (stored_in frame names rows orders)) list_now

  pub moved_tables : AreTables (stored_in frame names rows' orders) rows' orders
  moved_tables =
      let s = tables_sound frame names rows orders t in
      let r = some_of (slice_get rows.pins p) (s.filled p (ap is_some (number_at names.pins w p numbered))) in
      subst (λ r. AreTables (stored_in frame names r orders) r orders) (sym rows_are)
      (sound_tables frame names (record rows { insts = rows'.insts; net_pins = rows'.net_pins; pins = rows'.pins }) orders
      (rejoined frame names rows orders s w colon n here i its_inst (change i.conns) new nets rows'.insts put_now p numbered r.0 r.1 to its_net rows'.pins
      (pin_put r.0 r.1) pins_kept rows'.net_pins (nets_put r.0 r.1)
      (subst (λ xs. IsLinked (record (design_in frame names rows orders) { insts = xs })) (sym list_now) linked)))

pub pin_within : (frame : Frame) (names : Names) (rows : Rows) (orders : Orders) → AreTables (stored_in frame names rows orders) rows orders
    → (w : List ℕ) (p : ℕ) → number_of names.pins w ≡ Some p → p < length rows.pins
pin_within frame names rows orders t w p e =
    let r = some_of (slice_get rows.pins p) ((tables_sound frame names rows orders t).filled p (ap is_some (number_at names.pins w p e))) in
    slice_get_within rows.pins p r.0 r.1

-- a pin joins a net
module _ (frame : Frame) (names : Names) (rows : Rows) (orders : Orders) (t : AreTables (stored_in frame names rows orders) rows orders)
    (s : Stored) (view : stored_in frame names rows orders ≡ s)
    (w : List ℕ) (colon : has_colon w ≡ true) (p : ℕ) (numbered : number_of s.pins w ≡ Some p)
    (n : ℕ) (here : number_of s.insts (before_last w) ≡ Some n) (i : Inst) (found : inst_numbered s n ≡ Some i)
    (own : List ℕ) (own_is : own ≡ after_last w) (conns : List Conn) (row : Inst)
    (same : (i : Inst) → inst_numbered s n ≡ Some i → row ≡ record { name = i.name; cell = i.cell; conns = conns }) (rows' : Rows)
    (insts_put : (k : ℕ) → at rows'.insts k ≡ (if nat_eq n k then Some row else at rows.insts k)) (rcs_same : rows'.rcs ≡ rows.rcs)
    (pins_kept : (k : ℕ) (r : PinRow) → k ≢ p → slice_get rows.pins k ≡ Some r → slice_get rows'.pins k ≡ Some r) where
  numbered_in : number_of names.pins w ≡ Some p
  numbered_in = ap (λ (s : Stored). number_of s.pins w) view ∙ numbered

  here_in : number_of names.insts (before_last w) ≡ Some n
  here_in = ap (λ (s : Stored). number_of s.insts (before_last w)) view ∙ here

  found_in : inst_numbered (stored_in frame names rows orders) n ≡ Some i
  found_in = ap (λ (s : Stored). inst_numbered s n) view ∙ found

  stands_in : Stands (design_in frame names rows orders) w
  stands_in = stands (stored_in frame names rows orders) t.numbered t.linked w p colon numbered_in

  module _ (net : List ℕ) (to : ℕ) (its_net : number_of s.nets net ≡ Some to) (conns_are : conns ≡ connected own net i.conns)
      (pin_put : (r : PinRow) → slice_get rows.pins p ≡ Some r → slice_get rows'.pins p ≡ Some (record { owner = r.owner; net = Some to; dir = r.dir }))
      (nets_put : (r : PinRow) → slice_get rows.pins p ≡ Some r → (k : ℕ) (xs : List ℕ) → slice_get rows.net_pins k ≡ Some xs
      → slice_get rows'.net_pins k ≡ Some (joined_list (Some to) p k (left_list r.net p k xs))) where
    row_joined : row ≡ with_conns (connected (after_last w) net) i
    row_joined =
        same i found ∙ ap (λ cs. record { name = i.name; cell = i.cell; conns = cs }) (conns_are ∙ ap (λ o. connected o net i.conns) own_is)

    net_in : number_of names.nets net ≡ Some to
    net_in = ap (λ (s : Stored). number_of s.nets net) view ∙ its_net

    linked_in : IsLinked (record (design_in frame names rows orders) { insts = on_inst (before_last w) (with_conns (connected (after_last w) net)) (design_in frame names rows orders).insts })
    linked_in = linked_join (design_in frame names rows orders) t.linked w stands_in net (sym (t.numbered.net_names net) ∙ ap is_some net_in)

    pub join_tables : AreTables (stored_in frame names rows' orders) rows' orders
    join_tables =
        moved_tables frame names rows orders t w colon p numbered_in n here_in i found_in (connected (after_last w) net) (Some net) (connected_net (after_last w) net i.conns)
        (Some to) (sym net_in) linked_in row row_joined rows' insts_put rcs_same pin_put pins_kept nets_put

    pub join_design : stored_in frame names rows' orders ≡ with_insts s (on_inst (before_last w) (with_conns (connected (after_last w) net)) s.design.insts)
    join_design =
        moved_design frame names rows orders t w colon p numbered_in n here_in i found_in (connected (after_last w) net) (Some net) (connected_net (after_last w) net i.conns)
        (Some to) (sym net_in) linked_in row row_joined rows' insts_put rcs_same pin_put pins_kept nets_put
        ∙ ap (λ (s : Stored). with_insts s (on_inst (before_last w) (with_conns (connected (after_last w) net)) s.design.insts)) view

  -- a pin leaves its net
  module _ (conns_are : conns ≡ filter (λ conn. not (is_conn_of own conn)) i.conns)
      (pin_put : (r : PinRow) → slice_get rows.pins p ≡ Some r → slice_get rows'.pins p ≡ Some (record { owner = r.owner; net = None; dir = r.dir }))
      (nets_put : (r : PinRow) → slice_get rows.pins p ≡ Some r → (k : ℕ) (xs : List ℕ) → slice_get rows.net_pins k ≡ Some xs
      → slice_get rows'.net_pins k ≡ Some (joined_list None p k (left_list r.net p k xs))) where
    row_left : row ≡ with_conns (filter (λ conn. not (is_conn_of (after_last w) conn))) i
    row_left =
        same i found
        ∙ ap (λ cs. record { name = i.name; cell = i.cell; conns = cs }) (conns_are ∙ ap (λ o. filter (λ conn. not (is_conn_of o conn)) i.conns) own_is)

    pub leave_tables : AreTables (stored_in frame names rows' orders) rows' orders
    leave_tables =
        moved_tables frame names rows orders t w colon p numbered_in n here_in i found_in (filter (λ conn. not (is_conn_of (after_last w) conn))) None
        (left_net (after_last w) i.conns) None refl (linked_leave (design_in frame names rows orders) t.linked w stands_in) row row_left rows' insts_put rcs_same pin_put pins_kept nets_put

    pub leave_design : stored_in frame names rows' orders
        ≡ with_insts s (on_inst (before_last w) (with_conns (filter (λ conn. not (is_conn_of (after_last w) conn)))) s.design.insts)
    leave_design =
        moved_design frame names rows orders t w colon p numbered_in n here_in i found_in (filter (λ conn. not (is_conn_of (after_last w) conn))) None
        (left_net (after_last w) i.conns) None refl (linked_leave (design_in frame names rows orders) t.linked w stands_in) row row_left rows' insts_put rcs_same pin_put pins_kept nets_put
        ∙ ap (λ (s : Stored). with_insts s (on_inst (before_last w) (with_conns (filter (λ conn. not (is_conn_of (after_last w) conn)))) s.design.insts)) view
