-- Edits that connect pins: one connection, and a buffer that takes sinks over. Each keeps the lists of a linked design.

use Rattle.std.proofs.Common.{◌≡◌, ℕ, Bool, true, false, List, [], ◌∷◌, ◌++◌, map, length, Option, None, Some, refl, sym, ap, ◌∙◌, inl, inr}
use Rattle.std.specs.Prelude.{nat_eq, is_none, is_some, option_and_then, option_map, if◌then◌else◌}
use Rattle.std.specs.List.{list_all}
use Rattle.std.specs.Option.{option_map_or}
use Rattle.std.specs.Str.{bytes_eq}
use Rattle.std.proofs.lemmas.Bool.{cases_Bool, false≢true, and_parts, and_from}
use Rattle.timing_defs.specs.declared.kinds.Dir.{Dir}
use Rattle.timing_defs.specs.declared.kinds.Dir.TheVariants.{Input, Output}
use Rattle.timing_defs.specs.declared.library.Library.{Library}
use Rattle.timing_defs.specs.declared.library.Cell.{Cell}
use Rattle.timing_defs.specs.declared.netlist.Inst.{Inst}
use Rattle.timing_defs.specs.declared.netlist.Conn.{Conn}
use Rattle.timing_defs.specs.declared.design.Design.{Design}
use Rattle.timing_defs.specs.declared.edits.Edit.TheVariants.{Connect, InsertBuffer}
use Rattle.timing_defs.specs.declared.faults.Fault.TheVariants.{UnknownNet, UnknownPin, PinsDiffer, AlreadyConnected}
use Rattle.timing_defs.specs.Netlist.{same_dir, is_listed, are_distinct, cell_named}
use Rattle.timing_defs.specs.Edits.{inst_named, before_last, after_last, cell_for, direction_in, need_net, need_cell, need_pin_inst, need_pin, need_sink, word_direction, free_inst, free_net, word_net, pins_of_dir, is_buffer, sink_faults, edit_faults, on_inst, without_rc, with_conns, connected, moved_sinks, first_pin, buffer_inst, changed, first_fault, unless}
use Rattle.netlist_store.specs.Linked.{IsLinked}
use Rattle.timing_defs.specs.Documents.{is_cell, is_cell_arc, is_cell_test}
use Rattle.netlist_store.proofs.ShardLaws.{same_is}
use Rattle.netlist_store.proofs.ListLaws.{all_push, all_weaker, listed_push, listed_last, distinct_push, names_push, found_by_name, found_passes, found_keeps, one_found}
use Rattle.netlist_store.proofs.LinkLaws.{no_fault, no_faults, holds_unless, joins, is_linked_inst, is_linked_rc, kept_of, linked_from}
use Rattle.netlist_store.proofs.ConnLaws.{usable_late, has_pin_of, InstLinks, inst_from, connected_all, connected_distinct}
use Rattle.netlist_store.proofs.EditLaws.{wider_insts, wider_rcs, wider_ports, names_without, links_without, names_on, links_on, word_found, free_name, cell_found, free_is_unlisted}

-- the cell of a name among instances, and the direction of a pin of that cell
abbrev cell_at : List Inst → List ℕ → Option (List ℕ)
cell_at insts name = option_map (λ i. i.cell) (inst_named insts name)

abbrev pin_in : Library → Option (List ℕ) → List ℕ → Option Dir
pin_in late cell pin = option_and_then (λ c. direction_in c pin) (option_and_then (cell_named late.cells) cell)

abbrev has_word : Library → List Inst → List ℕ → Bool
has_word late insts word = is_some (pin_in late (cell_at insts (before_last word)) (after_last word))

word_in : (late : Library) (o : Option Inst) (pin : List ℕ)
    → option_and_then (λ i. option_and_then (λ cell. direction_in cell pin) (cell_named late.cells i.cell)) o ≡ pin_in late (option_map (λ i. i.cell) o) pin
word_in late None pin = refl
word_in late (Some i) pin = refl

pub word_there : (d : Design) (word : List ℕ) → is_some (word_direction d word) ≡ true → has_word d.late d.insts word ≡ true
word_there d word h = ap is_some (sym (word_in d.late (inst_named d.insts (before_last word)) (after_last word))) ∙ word_found d word h

-- a sink moves to a net: its instance keeps its name and its cell
abbrev moving : List ℕ → List ℕ → Inst → Inst
moving sink net i = (if bytes_eq i.name (before_last sink) then with_conns (connected (after_last sink) net) i else i)

moving_name : (sink net : List ℕ) (i : Inst) → (moving sink net i).name ≡ i.name
moving_name sink net i = elim (cases_Bool (bytes_eq i.name (before_last sink))) [ inl e ↦ rw e refl | inr e ↦ rw e refl ]

moving_cell : (sink net : List ℕ) (i : Inst) → (moving sink net i).cell ≡ i.cell
moving_cell sink net i = elim (cases_Bool (bytes_eq i.name (before_last sink))) [ inl e ↦ rw e refl | inr e ↦ rw e refl ]

-- a change that keeps names and cells
module _ (change : Inst → Inst) (names : (i : Inst) → (change i).name ≡ i.name) (cells : (i : Inst) → (change i).cell ≡ i.cell) where
  same_cells : (insts : List Inst) (q : List ℕ) → cell_at (map change insts) q ≡ cell_at insts q
  same_cells [] q = refl
  same_cells (i ∷ is) q = elim (cases_Bool (bytes_eq i.name q)) [
    | inl e ↦ let f : bytes_eq (change i).name q ≡ true = ap (λ n. bytes_eq n q) (names i) ∙ e in rw f (rw e (ap Some (cells i)))
    | inr e ↦ let f : bytes_eq (change i).name q ≡ false = ap (λ n. bytes_eq n q) (names i) ∙ e in rw f (rw e (same_cells is q))
  ]

module _ (early late : Library) (nets : List (List ℕ)) where
  connect_links : (pin net : List ℕ) (i : Inst) → is_listed nets net ≡ true → is_some (pin_in late (Some i.cell) pin) ≡ true
      → InstLinks early late nets i → InstLinks early late nets (with_conns (connected pin net) i)
  connect_links pin net i there has old =
      let c = old.links.its_cell in
      let its : is_some (direction_in c pin) ≡ true =
      sym (ap (λ o. is_some (option_and_then (λ c. direction_in c pin) o)) (usable_late early late i.cell c old.links.usable)) ∙ has in
      record {
        distinct = connected_distinct pin net i.conns old.distinct;
        joined = connected_all pin net i.conns (joins nets) old.joined (λ conn h. there) there;
        links = record {
          its_cell = c;
          usable = old.links.usable;
          its_pins = connected_all pin net i.conns (has_pin_of c) old.links.its_pins (λ conn h. h) its;
        };
      }

  moved_one : (word net : List ℕ) (insts : List Inst) → are_distinct (map (λ i. i.name) insts) ≡ true
      → list_all (is_linked_inst early late nets) insts ≡ true → is_listed nets net ≡ true → has_word late insts word ≡ true
      → list_all (is_linked_inst early late nets) (on_inst (before_last word) (with_conns (connected (after_last word) net)) insts) ≡ true
  moved_one word net insts distinct all there has =
      links_on early late nets (before_last word) (with_conns (connected (after_last word) net)) insts distinct all
      (λ i found old.
      let its : is_some (pin_in late (Some i.cell) (after_last word)) ≡ true =
      sym (ap (λ o. is_some (pin_in late (option_map (λ i. i.cell) o) (after_last word))) found) ∙ has in
      connect_links (after_last word) net i there its old)

  moved_all : (fresh : List ℕ) (sinks : List (List ℕ)) (insts : List Inst) → are_distinct (map (λ i. i.name) insts) ≡ true
      → list_all (is_linked_inst early late nets) insts ≡ true → is_listed nets fresh ≡ true → list_all (has_word late insts) sinks ≡ true
      → list_all (is_linked_inst early late nets) (moved_sinks fresh sinks insts) ≡ true
  moved_all fresh [] insts distinct all there has = all
  moved_all fresh (s ∷ ss) insts distinct all there has =
      let k = and_parts (has_word late insts s) (list_all (has_word late insts) ss) has in
      let insts2 = on_inst (before_last s) (with_conns (connected (after_last s) fresh)) insts in
      moved_all fresh ss insts2
      (ap are_distinct (names_on (before_last s) (with_conns (connected (after_last s) fresh)) insts (λ i. refl)) ∙ distinct)
      (moved_one s fresh insts distinct all there k.0) there
      (all_weaker (has_word late insts2) (has_word late insts) ss
      (λ w h. ap (λ o. is_some (pin_in late o (after_last w))) (same_cells (moving s fresh) (moving_name s fresh) (moving_cell s fresh) insts (before_last w)) ∙ h) k.1)

moved_names : (fresh : List ℕ) (sinks : List (List ℕ)) (insts : List Inst) → map (λ i. i.name) (moved_sinks fresh sinks insts) ≡ map (λ i. i.name) insts
moved_names fresh [] insts = refl
moved_names fresh (s ∷ ss) insts =
    moved_names fresh ss (on_inst (before_last s) (with_conns (connected (after_last s) fresh)) insts)
    ∙ names_on (before_last s) (with_conns (connected (after_last s) fresh)) insts (λ i. refl)

-- a cell with one input and one output: its two pins are not the same
pub record FirstPin (c : Cell) (dir : Dir) : Type 0 where
  pub its_dir : Dir
  pub known : direction_in c (first_pin dir c) ≡ Some its_dir
  pub same : same_dir its_dir dir ≡ true

module _ (c : Cell) (distinct : are_distinct (map (λ p. p.name) c.pins) ≡ true) where
  pub first_is : (dir : Dir) → nat_eq (length (pins_of_dir dir c)) 1 ≡ true → FirstPin c dir
  first_is dir h =
      let found = one_found (λ p. same_dir p.dir dir) c.pins h in
      let called : first_pin dir c ≡ found.0.name = ap (λ o. option_map_or (λ p. p.name) o []) found.1 in
      record {
        its_dir = found.0.dir;
        known =
            ap (direction_in c) called
            ∙ ap (option_map (λ p. p.dir)) (found_by_name (λ p. p.name) (λ p. same_dir p.dir dir) c.pins found.0 distinct found.1);
        same = found_passes (λ p. same_dir p.dir dir) c.pins found.0 found.1;
      }

one_way : (dir : Dir) → same_dir dir Input ≡ true → same_dir dir Output ≡ true → ⊥
one_way Input h k = false≢true k
one_way Output h k = false≢true h

pub apart_pins : (c : Cell) → FirstPin c Input → FirstPin c Output → bytes_eq (first_pin Input c) (first_pin Output c) ≡ false
apart_pins c one two = elim (cases_Bool (bytes_eq (first_pin Input c) (first_pin Output c))) [
  | inl e ↦
      let names = same_is (first_pin Input c) (first_pin Output c) e in
      let dirs : one.its_dir ≡ two.its_dir = given (sym one.known ∙ ap (direction_in c) names ∙ two.known) in
      absurd (one_way two.its_dir (sym (ap (λ x. same_dir x Input) dirs) ∙ one.same) two.same)
  | inr e ↦ e
]
  where
    given : {x y : Dir} → Some x ≡ Some y → x ≡ y
    given h = cc

two_distinct : (a b : List ℕ) → bytes_eq a b ≡ false → are_distinct (a ∷ b ∷ []) ≡ true
two_distinct a b h = rw h refl

-- a buffer stands between its net and a new one
abbrev buffer_conns : List ℕ → List ℕ → Cell → List Conn
buffer_conns net fresh c = record { pin = first_pin Input c; net = Some net } ∷ record { pin = first_pin Output c; net = Some fresh } ∷ []

abbrev buffer_with : List ℕ → List ℕ → List ℕ → List ℕ → Option Cell → Inst
buffer_with net inst fresh cell o = record { name = inst; cell = cell; conns = option_map_or (buffer_conns net fresh) o [] }

module _ (d : Design) (linked : IsLinked d) where
  pub distinct_pins : (cell : List ℕ) (c : Cell) → cell_for d cell ≡ Some c → are_distinct (map (λ p. p.name) c.pins) ≡ true
  distinct_pins cell c usable =
      let cells = and_parts _ (list_all is_cell d.late.cells) linked.late in
      let ok : is_cell c ≡ true = found_keeps (λ x. bytes_eq x.name cell) is_cell d.late.cells c cells.1 (usable_late d.early d.late cell c usable) in
      let one = and_parts _ (list_all (is_cell_test c) c.tests) ok in
      let two = and_parts _ (list_all (is_cell_arc c) c.arcs) one.0 in
      let three = and_parts _ _ two.0 in
      (and_parts _ (are_distinct (map (λ p. p.name) c.pins)) three.0).1

  buffer_links : (nets : List (List ℕ)) (net inst fresh cell : List ℕ) (c : Cell) → cell_for d cell ≡ Some c → is_buffer c ≡ true
      → is_listed nets net ≡ true → is_listed nets fresh ≡ true → InstLinks d.early d.late nets (buffer_with net inst fresh cell (Some c))
  buffer_links nets net inst fresh cell c usable ok there new =
      let k = and_parts (nat_eq (length (pins_of_dir Input c)) 1) (nat_eq (length (pins_of_dir Output c)) 1) ok in
      let one = first_is c (distinct_pins cell c usable) Input k.0 in
      let two = first_is c (distinct_pins cell c usable) Output k.1 in
      record {
        distinct = two_distinct (first_pin Input c) (first_pin Output c) (apart_pins c one two);
        joined = and_from (is_listed nets net) _ there (and_from (is_listed nets fresh) true new refl);
        links = record {
          its_cell = c;
          usable = usable;
          its_pins =
              and_from (is_some (direction_in c (first_pin Input c))) _ (ap is_some one.known)
              (and_from (is_some (direction_in c (first_pin Output c))) true (ap is_some two.known) refl);
        };
      }

  sink_there : (o : Option Dir) → option_map_or (same_dir Input) o false ≡ true → is_some o ≡ true
  sink_there None h = absurd (false≢true h)
  sink_there (Some dir) h = refl

  sinks_there : (sinks : List (List ℕ)) → first_fault (map (need_sink d) sinks) ≡ None → list_all (has_word d.late d.insts) sinks ≡ true
  sinks_there [] h = refl
  sinks_there (s ∷ ss) h =
      let k = no_fault (need_sink d s) (map (need_sink d) ss) h in
      let held = holds_unless (option_map_or (same_dir Input) (word_direction d s) false) (UnknownPin s) k.0 in
      and_from (has_word d.late d.insts s) (list_all (has_word d.late d.insts) ss) (word_there d s (sink_there (word_direction d s) held)) (sinks_there ss k.1)

  pub linked_connect : (pin net : List ℕ) → first_fault (edit_faults d (Connect pin net)) ≡ None → IsLinked (changed d (Connect pin net))
  linked_connect pin net none =
      let kept = kept_of d linked in
      let free = unless (is_none (word_net d pin)) (AlreadyConnected pin) in
      let one = no_fault (need_pin_inst d pin) (need_net d net ∷ need_pin d pin ∷ free ∷ []) none in
      let two = no_fault (need_net d net) (need_pin d pin ∷ free ∷ []) one.1 in
      let three = no_fault (need_pin d pin) (free ∷ []) two.1 in
      let there = holds_unless (is_listed d.nets net) (UnknownNet net) two.0 in
      let has = word_there d pin (holds_unless (is_some (word_direction d pin)) (UnknownPin pin) three.0) in
      linked_from d d.nets (on_inst (before_last pin) (with_conns (connected (after_last pin) net)) d.insts) (without_rc net d.rcs) linked (record {
        inst_names = ap are_distinct (names_on (before_last pin) (with_conns (connected (after_last pin) net)) d.insts (λ i. refl)) ∙ kept.inst_names;
        net_names = kept.net_names;
        rc_names = names_without net d.rcs kept.rc_names;
        port_nets = kept.port_nets;
        inst_links = moved_one d.early d.late d.nets pin net d.insts kept.inst_names kept.inst_links there has;
        rc_links = links_without (is_linked_rc d.nets) net d.rcs kept.rc_links;
      })

  pub linked_insert_buffer : (net inst fresh cell : List ℕ) (sinks : List (List ℕ)) → first_fault (edit_faults d (InsertBuffer net inst fresh cell sinks)) ≡ None
      → IsLinked (changed d (InsertBuffer net inst fresh cell sinks))
  linked_insert_buffer net inst fresh cell sinks none =
      let kept = kept_of d linked in
      let fits = unless (option_map_or is_buffer (cell_for d cell) true) (PinsDiffer inst) in
      let ends = free_inst d inst ∷ free_net d fresh ∷ fits ∷ sink_faults d net [] sinks in
      let parts = no_faults (map (need_pin_inst d) sinks ++ need_net d net ∷ need_cell d cell ∷ map (need_sink d) sinks) ends none in
      let heads = no_faults (map (need_pin_inst d) sinks) (need_net d net ∷ need_cell d cell ∷ map (need_sink d) sinks) parts.0 in
      let one = no_fault (need_net d net) (need_cell d cell ∷ map (need_sink d) sinks) heads.1 in
      let two = no_fault (need_cell d cell) (map (need_sink d) sinks) one.1 in
      let three = no_fault (free_inst d inst) (free_net d fresh ∷ fits ∷ sink_faults d net [] sinks) parts.1 in
      let four = no_fault (free_net d fresh) (fits ∷ sink_faults d net [] sinks) three.1 in
      let five = no_fault fits (sink_faults d net [] sinks) four.1 in
      let usable = cell_found d linked cell two.0 in
      let there = holds_unless (is_listed d.nets net) (UnknownNet net) one.0 in
      let ok : is_buffer usable.0 ≡ true =
      sym (ap (λ o. option_map_or is_buffer o true) usable.1) ∙ holds_unless (option_map_or is_buffer (cell_for d cell) true) (PinsDiffer inst) five.0 in
      let after = d.nets ++ fresh ∷ [] in
      let wider = λ (q : List ℕ) (h : is_listed d.nets q ≡ true). listed_push d.nets fresh q h in
      let new = listed_last d.nets fresh in
      let moved = moved_sinks fresh sinks d.insts in
      let names = moved_names fresh sinks d.insts in
      linked_from d after (moved ++ buffer_inst d net inst fresh cell ∷ []) (without_rc net d.rcs) linked (record {
        inst_names =
            ap are_distinct (names_push (λ i. i.name) moved (buffer_inst d net inst fresh cell))
            ∙ distinct_push (map (λ i. i.name) moved) inst (ap are_distinct names ∙ kept.inst_names)
            (ap (λ ns. is_listed ns inst) names ∙ free_name d linked inst three.0);
        net_names = distinct_push d.nets fresh kept.net_names (free_is_unlisted d linked fresh four.0);
        rc_names = names_without net d.rcs kept.rc_names;
        port_nets = wider_ports d.nets after wider d.ports kept.port_nets;
        inst_links =
            all_push (is_linked_inst d.early d.late after) moved (buffer_inst d net inst fresh cell)
            (moved_all d.early d.late after fresh sinks d.insts kept.inst_names
            (wider_insts d.nets after wider d.early d.late d.insts kept.inst_links) new (sinks_there sinks two.1))
            (ap (λ o. is_linked_inst d.early d.late after (buffer_with net inst fresh cell o)) usable.1
            ∙ inst_from d.early d.late after (buffer_with net inst fresh cell (Some usable.0))
            (buffer_links after net inst fresh cell usable.0 usable.1 ok (wider net there) new));
        rc_links = links_without (is_linked_rc after) net d.rcs (wider_rcs d.nets after wider d.rcs kept.rc_links);
      })
