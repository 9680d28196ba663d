-- The tables of a store, name by name: what they keep, with nothing of the design but that it is linked.

use Rattle.std.proofs.Common.{◌≡◌, ℕ, Bool, true, false, List, [], ◌∷◌, Option, None, Some, refl, sym, ap, subst, ◌∙◌, inl, inr}
use Rattle.std.specs.Prelude.{nat_eq, find, option_and_then, option_map, is_some, count_by, slice_get, if◌then◌else◌}
use Rattle.std.specs.List.{list_any}
use Rattle.std.specs.Option.{option_map_or}
use Rattle.std.specs.Str.{bytes_eq}
use Rattle.std.proofs.lemmas.Bool.{cases_Bool, false≢true, true≢false}
use Rattle.timing_defs.specs.declared.kinds.Dir.{Dir}
use Rattle.timing_defs.specs.declared.kinds.Split.TheVariants.{Early, Late}
use Rattle.timing_defs.specs.declared.library.Cell.{Cell}
use Rattle.timing_defs.specs.declared.netlist.Port.{Port}
use Rattle.timing_defs.specs.declared.netlist.Inst.{Inst}
use Rattle.timing_defs.specs.declared.netlist.Conn.{Conn}
use Rattle.timing_defs.specs.declared.parasitics.NetRc.{NetRc}
use Rattle.timing_defs.specs.declared.design.Design.{Design}
use Rattle.timing_defs.specs.Netlist.{Pin, net_of, port_pin, cell_pin, cell_pins, cell_of, cell_named, pin_named, conn_net, is_listed}
use Rattle.timing_defs.specs.Wires.{rc_of}
use Rattle.timing_defs.specs.Edits.{inst_named, has_colon, before_last, after_last, cells_agree}
use Rattle.netlist_store.specs.declared.tables.Frame.{Frame}
use Rattle.netlist_store.specs.declared.tables.Names.{Names}
use Rattle.netlist_store.specs.declared.tables.Orders.{Orders}
use Rattle.netlist_store.specs.declared.tables.PinRow.{PinRow}
use Rattle.netlist_store.specs.declared.tables.Rows.{Rows}
use Rattle.netlist_store.specs.Numbering.{name_at, number_of, is_number, pin_numbered, is_on_number, AreNumbers}
use Rattle.netlist_store.specs.Linked.{IsLinked}
use Rattle.netlist_store.specs.Stores.{at, design_in, stored_in, IsNetRow, IsPinRow, IsInstRow, AreTables}
use Rattle.netlist_store.specs.Drafts.{row_named}
use Rattle.netlist_store.proofs.ShardLaws.{same_is, same_self}
use Rattle.netlist_store.proofs.NumberLaws.{number_at, some_is}
use Rattle.netlist_store.proofs.ListLaws.{found_passes, found_keeps, apart_sym}
use Rattle.netlist_store.proofs.LinkLaws.{kept_of, is_linked_inst, joins}
use Rattle.netlist_store.proofs.ConnLaws.{some_of, usable_late, InstLinks, inst_parts}
use Rattle.netlist_store.proofs.InOrder.{find_in_order}
use Rattle.netlist_store.proofs.PinsByWord.{pin_by_word, pin_by_port}
use Rattle.netlist_store.proofs.InUse.{then_some, map_some}

-- what a table has under a name
abbrev pub look_in : {X : Type 0} → List (Option (List ℕ)) → List (Option X) → List ℕ → Option X
look_in names rows q = option_and_then (at rows) (number_of names q)

-- the pin of a name, by the instances of their names
abbrev pub own_pin : List Cell → List ℕ → Inst → Option Pin
own_pin cells own i = option_map (cell_pin i) (find (λ pin. bytes_eq pin.name own) (cell_pins (cell_named cells i.cell)))

abbrev pub pin_by : List Port → List Cell → (List ℕ → Option Inst) → List ℕ → Option Pin
pin_by ports cells look q =
    (if has_colon q then option_and_then (own_pin cells (after_last q)) (look (before_last q))
    else option_map port_pin (find (λ p. bytes_eq p.name q) ports))

abbrev pub row_of : List (Option (List ℕ)) → List (Option (List ℕ)) → Pin → PinRow
row_of insts nets pin =
    record {
      owner = option_and_then (λ inst. number_of insts inst.name) pin.owner;
      net = option_and_then (number_of nets) (net_of pin);
      dir = pin.dir;
    }

-- the row that a pin of a name has
abbrev pub row_by : Frame → List (Option (List ℕ)) → List (Option (List ℕ)) → List (Option Inst) → List ℕ → Option PinRow
row_by frame insts nets table q = option_map (row_of insts nets) (pin_by frame.ports frame.late.cells (look_in insts table) q)

abbrev pub on_row : ℕ → Option PinRow → Bool
on_row net row = option_map_or (λ r. option_map_or (nat_eq net) r.net false) row false

abbrev pub HasPins : (ℕ → Bool) → Option (List ℕ) → Type 0
HasPins on None = ⊥
HasPins on (Some pins) = (pin : ℕ) → count_by (nat_eq pin) pins ≡ (if on pin then 1 else 0)

pub record AreSound (frame : Frame) (names : Names) (rows : Rows) (orders : Orders) : Type 0 where
  pub inst_names : (n : ℕ) (i : Inst) → at rows.insts n ≡ Some i → name_at names.insts n ≡ Some i.name
  pub inst_numbers : (n : ℕ) → is_number names.insts n ≡ is_some (at rows.insts n)
  pub rc_names : (n : ℕ) (rc : NetRc) → at rows.rcs n ≡ Some rc → name_at names.nets n ≡ Some rc.net
  pub insts_ordered : (n : ℕ) → list_any (nat_eq n) orders.insts ≡ is_number names.insts n
  pub nets_ordered : (n : ℕ) → list_any (nat_eq n) orders.nets ≡ is_number names.nets n
  pub rcs_ordered : (n : ℕ) → list_any (nat_eq n) orders.rcs ≡ is_some (at rows.rcs n)
  pub insts : AreNumbers names.insts
  pub nets : AreNumbers names.nets
  pub pins : AreNumbers names.pins
  pub pin_rows : (q : List ℕ) → row_named names.pins rows.pins q ≡ row_by frame names.insts names.nets rows.insts q
  pub filled : (n : ℕ) → is_number names.pins n ≡ true → is_some (slice_get rows.pins n) ≡ true
  pub net_rows : (m : ℕ) → is_number names.nets m ≡ true
      → HasPins (λ p. on_row m (option_and_then (row_by frame names.insts names.nets rows.insts) (name_at names.pins p))) (slice_get rows.net_pins m)
  pub linked : IsLinked (design_in frame names rows orders)

-- the pin of a name in a linked design
pub pin_is : (d : Design) → IsLinked d → (q : List ℕ) → pin_named d q ≡ pin_by d.ports d.late.cells (inst_named d.insts) q
pin_is d linked q = elim (cases_Bool (has_colon q)) [
  | inl colon ↦ pin_by_word d linked q colon ∙ rw colon refl
  | inr plain ↦ pin_by_port q plain d ∙ rw plain refl
]

pub pin_alike : (ports : List Port) (cells : List Cell) (look after : List ℕ → Option Inst) (q : List ℕ)
    → (has_colon q ≡ true → after (before_last q) ≡ look (before_last q)) → pin_by ports cells after q ≡ pin_by ports cells look q
pin_alike ports cells look after q same = elim (cases_Bool (has_colon q)) [
  | inl colon ↦ rw colon (ap (option_and_then (own_pin cells (after_last q))) (same colon))
  | inr plain ↦ rw plain refl
]

is_same : {X : Type 0} (a b : Option X) → a ≡ b → is_some a ≡ is_some b
is_same a b e = ap is_some e

-- whether a pin is on a net, by its row
on_by : (insts nets : List (Option (List ℕ))) (m : ℕ) (o : Option Pin)
    → option_map_or (nat_eq m) (option_and_then (number_of nets) (option_and_then net_of o)) false ≡ on_row m (option_map (row_of insts nets) o)
on_by insts nets m None = refl
on_by insts nets m (Some pin) = refl

pub row_from : (row : PinRow) (owner net : Option ℕ) (dir : Dir) → row.owner ≡ owner → row.net ≡ net → row.dir ≡ dir
    → row ≡ record { owner = owner; net = net; dir = dir }
row_from row owner net dir e f g =
    ap (λ o. record { owner = o; net = row.net; dir = row.dir }) e ∙ ap (λ o. record { owner = owner; net = o; dir = row.dir }) f
    ∙ ap (λ o. record { owner = owner; net = net; dir = o }) g

-- a name is listed where it has a number that the order has
listed_by : (names : List (List ℕ)) (q : List ℕ) → is_some (find (λ x. bytes_eq x q) names) ≡ is_listed names q
listed_by [] q = refl
listed_by (x ∷ xs) q = elim (cases_Bool (bytes_eq x q)) [
  | inl e ↦ let f : bytes_eq q x ≡ true = ap (bytes_eq q) (same_is x q e) ∙ same_self q in rw (e, f) refl
  | inr e ↦ rw (e, apart_sym x q e) (listed_by xs q)
]

is_after : {X Y : Type 0} (f : X → Option Y) (o : Option X) → ((x : X) → o ≡ Some x → is_some (f x) ≡ true) → is_some (option_and_then f o) ≡ is_some o
is_after f None all = refl
is_after f (Some x) all = all x refl

-- both libraries have the cell of an instance that is found
usable_early : (agree : Cell → Cell → Bool) (a b : Option Cell) (c : Cell)
    → option_and_then (λ x. option_and_then (λ y. if agree x y then Some y else None) b) a ≡ Some c → is_some a ≡ true
usable_early agree None b c e = absurd (cc)
usable_early agree (Some x) b c e = refl

module _ (d : Design) (linked : IsLinked d) (q : List ℕ) (i : Inst) (found : inst_named d.insts q ≡ Some i) where
  links_of : InstLinks d.early d.late d.nets i
  links_of =
      inst_parts d.early d.late d.nets i
      (found_keeps (λ x. bytes_eq x.name q) (is_linked_inst d.early d.late d.nets) d.insts i (kept_of d linked).inst_links found)

  has_early : is_some (cell_of d Early i) ≡ true
  has_early = let l = links_of in usable_early cells_agree (cell_named d.early.cells i.cell) (cell_named d.late.cells i.cell) l.links.its_cell l.links.usable

  has_late : is_some (cell_of d Late i) ≡ true
  has_late = let l = links_of in ap is_some (usable_late d.early d.late i.cell l.links.its_cell l.links.usable)

  pub its_net : (own net : List ℕ) → conn_net i.conns own ≡ Some net → is_listed d.nets net ≡ true
  its_net own net on =
      let l = links_of in
      let conn = then_some (λ (c : Conn). c.net) (find (λ c. bytes_eq c.pin own) i.conns) net on in
      sym (ap (λ o. option_map_or (is_listed d.nets) o true) conn.2)
      ∙ found_keeps (λ c. bytes_eq c.pin own) (joins d.nets) i.conns conn.0 l.joined conn.1

-- the tables of a store from what they keep name by name
module _ (frame : Frame) (names : Names) (rows : Rows) (orders : Orders) (s : AreSound frame names rows orders) where
  pub inst_is : (q : List ℕ) → inst_named (design_in frame names rows orders).insts q ≡ look_in names.insts rows.insts q
  inst_is q =
      find_in_order (at rows.insts) (λ i. i.name) names.insts s.inst_names s.insts.distinct q orders.insts
      (λ n i e. s.insts_ordered n ∙ s.inst_numbers n ∙ ap is_some e)

  pub rc_is : (q : List ℕ) → rc_of (design_in frame names rows orders) q ≡ look_in names.nets rows.rcs q
  rc_is q =
      find_in_order (at rows.rcs) (λ rc. rc.net) names.nets s.rc_names s.nets.distinct q orders.rcs (λ n rc e. s.rcs_ordered n ∙ ap is_some e)

  pub net_is : (q : List ℕ) → is_listed (design_in frame names rows orders).nets q ≡ is_some (number_of names.nets q)
  net_is q =
      sym (listed_by (design_in frame names rows orders).nets q)
      ∙ ap is_some (find_in_order (name_at names.nets) (λ x. x) names.nets (λ n x e. e) s.nets.distinct q orders.nets (λ n x e. s.nets_ordered n ∙ ap is_some e))
      ∙ is_after (name_at names.nets) (number_of names.nets q) (λ n e. ap is_some (number_at names.nets q n e))

  pub pin_found : (q : List ℕ) → pin_named (design_in frame names rows orders) q ≡ pin_by frame.ports frame.late.cells (look_in names.insts rows.insts) q
  pin_found q =
      pin_is (design_in frame names rows orders) s.linked q
      ∙ pin_alike frame.ports frame.late.cells (look_in names.insts rows.insts) (inst_named (design_in frame names rows orders).insts) q
      (λ colon. inst_is (before_last q))

  row_found : (q : List ℕ) → row_named names.pins rows.pins q ≡ option_map (row_of names.insts names.nets) (pin_named (design_in frame names rows orders) q)
  row_found q = s.pin_rows q ∙ ap (option_map (row_of names.insts names.nets)) (sym (pin_found q))

  -- an instance by its number
  told_inst : (n : ℕ) → IsInstRow (stored_in frame names rows orders) n (at rows.insts n)
  told_inst n = by (at rows.insts n) refl
    where
      by : (o : Option Inst) → at rows.insts n ≡ o → IsInstRow (stored_in frame names rows orders) n o
      by None e = s.inst_numbers n ∙ ap is_some e
      by (Some i) e =
          let named : name_at names.insts n ≡ Some i.name = s.inst_names n i e in
          let found : inst_named (design_in frame names rows orders).insts i.name ≡ Some i =
          inst_is i.name ∙ ap (option_and_then (at rows.insts)) (s.insts.distinct n i.name named) ∙ e in
          record {
            named = named;
            numbered = ap (option_and_then (inst_named (design_in frame names rows orders).insts)) named ∙ found;
            early = has_early (design_in frame names rows orders) s.linked i.name i found;
            late = has_late (design_in frame names rows orders) s.linked i.name i found;
          }

  told_rc : (n : ℕ) → option_and_then (rc_of (design_in frame names rows orders)) (name_at names.nets n) ≡ at rows.rcs n
  told_rc n = by (name_at names.nets n) (at rows.rcs n) refl refl
    where
      by : (o : Option (List ℕ)) (r : Option NetRc) → name_at names.nets n ≡ o → at rows.rcs n ≡ r
          → option_and_then (rc_of (design_in frame names rows orders)) (name_at names.nets n) ≡ at rows.rcs n
      by None None e f = ap (option_and_then (rc_of (design_in frame names rows orders))) e ∙ sym f
      by None (Some rc) e f = let g = s.rc_names n rc f in absurd (cc)
      by (Some q) r e f =
          ap (option_and_then (rc_of (design_in frame names rows orders))) e ∙ rc_is q ∙ ap (option_and_then (at rows.rcs)) (s.nets.distinct n q e)

  told_on : (m p : ℕ) → is_on_number (stored_in frame names rows orders) m p
      ≡ on_row m (option_and_then (row_by frame names.insts names.nets rows.insts) (name_at names.pins p))
  told_on m p = by (name_at names.pins p)
    where
      by : (o : Option (List ℕ)) → option_map_or (nat_eq m) (option_and_then (number_of names.nets) (option_and_then net_of (option_and_then (pin_named (design_in frame names rows orders)) o))) false
          ≡ on_row m (option_and_then (row_by frame names.insts names.nets rows.insts) o)
      by None = refl
      by (Some q) =
          on_by names.insts names.nets m (pin_named (design_in frame names rows orders) q)
          ∙ ap (λ o. on_row m (option_map (row_of names.insts names.nets) o)) (pin_found q)

  told_net : (m : ℕ) → is_number names.nets m ≡ true → IsNetRow (stored_in frame names rows orders) m (slice_get rows.net_pins m)
  told_net m there = by (slice_get rows.net_pins m) (s.net_rows m there)
    where
      by : (o : Option (List ℕ)) → HasPins (λ p. on_row m (option_and_then (row_by frame names.insts names.nets rows.insts) (name_at names.pins p))) o
          → IsNetRow (stored_in frame names rows orders) m o
      by None h = h
      by (Some pins) h = λ p. h p ∙ ap (λ b. if b then 1 else 0) (sym (told_on m p))

  -- the owner and the net of a pin have numbers
  pub owner_there : (q : List ℕ) (pin : Pin) → pin_named (design_in frame names rows orders) q ≡ Some pin
      → is_some (option_and_then (λ i. number_of names.insts i.name) pin.owner) ≡ is_some pin.owner
  owner_there q pin found = elim (cases_Bool (has_colon q)) [
    | inl colon ↦
        let f : option_and_then (own_pin frame.late.cells (after_last q)) (look_in names.insts rows.insts (before_last q)) ≡ Some pin = rw colon at (sym (pin_found q) ∙ found) in
        let i = then_some (own_pin frame.late.cells (after_last q)) (look_in names.insts rows.insts (before_last q)) pin f in
        let n = then_some (at rows.insts) (number_of names.insts (before_last q)) i.0 i.1 in
        let cp = map_some (cell_pin i.0) (find (λ pin. bytes_eq pin.name (after_last q)) (cell_pins (cell_named frame.late.cells i.0.cell))) pin i.2 in
        let own : pin.owner ≡ Some i.0 = sym (ap (λ (p : Pin). p.owner) cp.2) in
        let numbered : number_of names.insts i.0.name ≡ Some n.0 = s.insts.distinct n.0 i.0.name (s.inst_names n.0 i.0 n.2) in
        ap (λ o. is_some (option_and_then (λ (i : Inst). number_of names.insts i.name) o)) own ∙ ap is_some numbered ∙ sym (ap is_some own)
    | inr plain ↦
        let f : option_map port_pin (find (λ p. bytes_eq p.name q) frame.ports) ≡ Some pin = rw plain at (sym (pin_found q) ∙ found) in
        let port = map_some port_pin (find (λ p. bytes_eq p.name q) frame.ports) pin f in
        let own : pin.owner ≡ None = sym (ap (λ (p : Pin). p.owner) port.2) in
        ap (λ o. is_some (option_and_then (λ (i : Inst). number_of names.insts i.name) o)) own ∙ sym (ap is_some own)
  ]

  pub net_there : (q : List ℕ) (pin : Pin) → pin_named (design_in frame names rows orders) q ≡ Some pin
      → is_some (option_and_then (number_of names.nets) (net_of pin)) ≡ is_some (net_of pin)
  net_there q pin found = is_after (number_of names.nets) (net_of pin) (λ net on. sym (net_is net) ∙ listed net on)
    where
      listed : (net : List ℕ) → net_of pin ≡ Some net → is_listed (design_in frame names rows orders).nets net ≡ true
      listed net on = elim (cases_Bool (has_colon q)) [
        | inl colon ↦
            let f : option_and_then (own_pin frame.late.cells (after_last q)) (inst_named (design_in frame names rows orders).insts (before_last q)) ≡ Some pin =
            rw colon at (sym (pin_is (design_in frame names rows orders) s.linked q) ∙ found) in
            let i = then_some (own_pin frame.late.cells (after_last q)) (inst_named (design_in frame names rows orders).insts (before_last q)) pin f in
            let cp = map_some (cell_pin i.0) (find (λ pin. bytes_eq pin.name (after_last q)) (cell_pins (cell_named frame.late.cells i.0.cell))) pin i.2 in
            its_net (design_in frame names rows orders) s.linked (before_last q) i.0 i.1 cp.0.name net (ap net_of cp.2 ∙ on)
        | inr plain ↦
            let f : option_map port_pin (find (λ p. bytes_eq p.name q) frame.ports) ≡ Some pin = rw plain at (sym (pin_found q) ∙ found) in
            let port = map_some port_pin (find (λ p. bytes_eq p.name q) frame.ports) pin f in
            let same : port.0.name ≡ net = some_is (ap net_of port.2 ∙ on) in
            ap (is_listed (design_in frame names rows orders).nets) (sym same)
            ∙ found_keeps (λ p. bytes_eq p.name q) (λ port. is_listed (design_in frame names rows orders).nets port.name) frame.ports port.0 s.linked.port_nets port.1
      ]

  told_pin : (n : ℕ) → is_number names.pins n ≡ true → IsPinRow (stored_in frame names rows orders) n (slice_get rows.pins n)
  told_pin n there = by (slice_get rows.pins n) refl
    where
      by : (o : Option PinRow) → slice_get rows.pins n ≡ o → IsPinRow (stored_in frame names rows orders) n o
      by None e = absurd (false≢true (sym (ap is_some e) ∙ s.filled n there))
      by (Some row) e =
          let q = some_of (name_at names.pins n) there in
          let number : number_of names.pins q.0 ≡ Some n = s.pins.distinct n q.0 q.1 in
          let f : option_map (row_of names.insts names.nets) (pin_named (design_in frame names rows orders) q.0) ≡ Some row =
          sym (row_found q.0) ∙ ap (option_and_then (slice_get rows.pins)) number ∙ e in
          let pin = map_some (row_of names.insts names.nets) (pin_named (design_in frame names rows orders) q.0) row f in
          let numbered : pin_numbered (stored_in frame names rows orders) n ≡ Some pin.0 =
          ap (option_and_then (pin_named (design_in frame names rows orders))) q.1 ∙ pin.1 in
          record {
            owner =
                sym (ap (λ (r : PinRow). r.owner) pin.2)
                ∙ sym (ap (λ o. option_and_then (λ (i : Inst). number_of names.insts i.name) (option_and_then (λ (p : Pin). p.owner) o)) numbered);
            net = sym (ap (λ (r : PinRow). r.net) pin.2) ∙ sym (ap (λ o. option_and_then (number_of names.nets) (option_and_then net_of o)) numbered);
            dir = ap (option_map (λ (p : Pin). p.dir)) numbered ∙ ap (λ (r : PinRow). Some r.dir) pin.2;
            owned =
                sym (ap (λ (r : PinRow). is_some r.owner) pin.2) ∙ owner_there q.0 pin.0 pin.1
                ∙ sym (ap (λ o. is_some (option_and_then (λ (p : Pin). p.owner) o)) numbered);
            joined =
                sym (ap (λ (r : PinRow). is_some r.net) pin.2) ∙ net_there q.0 pin.0 pin.1
                ∙ sym (ap (λ o. is_some (option_and_then net_of o)) numbered);
          }

  is_pin : (q : List ℕ) → is_some (number_of names.pins q) ≡ is_some (pin_named (design_in frame names rows orders) q)
  is_pin q =
      sym (is_after (slice_get rows.pins) (number_of names.pins q) (λ n e. s.filled n (ap is_some (number_at names.pins q n e))))
      ∙ ap is_some (row_found q) ∙ is_row (pin_named (design_in frame names rows orders) q)
    where
      is_row : (o : Option Pin) → is_some (option_map (row_of names.insts names.nets) o) ≡ is_some o
      is_row None = refl
      is_row (Some pin) = refl

  is_inst : (q : List ℕ) → is_some (number_of names.insts q) ≡ is_some (inst_named (design_in frame names rows orders).insts q)
  is_inst q =
      sym (is_after (at rows.insts) (number_of names.insts q) (λ n e. sym (s.inst_numbers n) ∙ ap is_some (number_at names.insts q n e)))
      ∙ ap is_some (sym (inst_is q))

  pub sound_tables : AreTables (stored_in frame names rows orders) rows orders
  sound_tables = record {
    inst_rows = told_inst;
    rc_rows = told_rc;
    net_rows = told_net;
    pin_rows = told_pin;
    insts_ordered = s.insts_ordered;
    nets_ordered = s.nets_ordered;
    rcs_ordered = s.rcs_ordered;
    numbered = record {
      insts = s.insts;
      nets = s.nets;
      pins = s.pins;
      inst_names = is_inst;
      net_names = λ q. sym (net_is q);
      pin_names = is_pin;
    };
    linked = s.linked;
  }

-- what they keep name by name, from the tables
module _ (frame : Frame) (names : Names) (rows : Rows) (orders : Orders) (t : AreTables (stored_in frame names rows orders) rows orders) where
  back_inst : (n : ℕ) (o : Option Inst) → at rows.insts n ≡ o → IsInstRow (stored_in frame names rows orders) n o → is_number names.insts n ≡ is_some o
  back_inst n None e h = h
  back_inst n (Some i) e h = ap is_some h.named

  back_name : (n : ℕ) (i : Inst) → at rows.insts n ≡ Some i → name_at names.insts n ≡ Some i.name
  back_name n i e = let h : IsInstRow (stored_in frame names rows orders) n (Some i) = subst (IsInstRow (stored_in frame names rows orders) n) e (t.inst_rows n) in h.named

  back_rc : (n : ℕ) (rc : NetRc) → at rows.rcs n ≡ Some rc → name_at names.nets n ≡ Some rc.net
  back_rc n rc e =
      let q = then_some (rc_of (design_in frame names rows orders)) (name_at names.nets n) rc (t.rc_rows n ∙ e) in
      q.1 ∙ ap Some (sym (same_is rc.net q.0 (found_passes (λ rc. bytes_eq rc.net q.0) (design_in frame names rows orders).rcs rc q.2)))

  back_look : (q : List ℕ) → inst_named (design_in frame names rows orders).insts q ≡ look_in names.insts rows.insts q
  back_look q =
      find_in_order (at rows.insts) (λ i. i.name) names.insts back_name t.numbered.insts.distinct q orders.insts
      (λ n i e. t.insts_ordered n ∙ ap is_some (back_name n i e))

  back_pin : (q : List ℕ) → pin_named (design_in frame names rows orders) q ≡ pin_by frame.ports frame.late.cells (look_in names.insts rows.insts) q
  back_pin q =
      pin_is (design_in frame names rows orders) t.linked q
      ∙ pin_alike frame.ports frame.late.cells (look_in names.insts rows.insts) (inst_named (design_in frame names rows orders).insts) q
      (λ colon. back_look (before_last q))

  back_filled : (n : ℕ) → is_number names.pins n ≡ true → is_some (slice_get rows.pins n) ≡ true
  back_filled n there = by (slice_get rows.pins n) (t.pin_rows n there)
    where
      by : (o : Option PinRow) → IsPinRow (stored_in frame names rows orders) n o → is_some o ≡ true
      by None h = absurd h
      by (Some row) h = refl

  -- the row of a number is that of its pin
  back_row_at : (n : ℕ) (q : List ℕ) → name_at names.pins n ≡ Some q → (o : Option PinRow) → IsPinRow (stored_in frame names rows orders) n o
      → o ≡ option_map (row_of names.insts names.nets) (pin_named (design_in frame names rows orders) q)
  back_row_at n q e None h = absurd h
  back_row_at n q e (Some row) h =
      let there : is_some (pin_named (design_in frame names rows orders) q) ≡ true =
      sym (t.numbered.pin_names q) ∙ ap is_some (t.numbered.pins.distinct n q e) in
      let pin = some_of (pin_named (design_in frame names rows orders) q) there in
      let numbered : pin_numbered (stored_in frame names rows orders) n ≡ Some pin.0 =
      ap (option_and_then (pin_named (design_in frame names rows orders))) e ∙ pin.1 in
      let owner : row.owner ≡ option_and_then (λ inst. number_of names.insts inst.name) pin.0.owner =
      h.owner ∙ ap (λ o. option_and_then (λ (i : Inst). number_of names.insts i.name) (option_and_then (λ (p : Pin). p.owner) o)) numbered in
      let net : row.net ≡ option_and_then (number_of names.nets) (net_of pin.0) =
      h.net ∙ ap (λ o. option_and_then (number_of names.nets) (option_and_then net_of o)) numbered in
      let dir : row.dir ≡ pin.0.dir = some_is (sym h.dir ∙ ap (option_map (λ (p : Pin). p.dir)) numbered) in
      ap Some (row_from row (option_and_then (λ inst. number_of names.insts inst.name) pin.0.owner) (option_and_then (number_of names.nets) (net_of pin.0)) pin.0.dir owner net dir)
      ∙ ap (option_map (row_of names.insts names.nets)) (sym pin.1)

  back_row : (q : List ℕ) → row_named names.pins rows.pins q ≡ row_by frame names.insts names.nets rows.insts q
  back_row q = by (number_of names.pins q) refl ∙ ap (option_map (row_of names.insts names.nets)) (back_pin q)
    where
      none_row : (o : Option Pin) → is_some o ≡ false → None ≡ option_map (row_of names.insts names.nets) o
      none_row None h = refl
      none_row (Some pin) h = absurd (true≢false h)

      by : (o : Option ℕ) → number_of names.pins q ≡ o
          → option_and_then (slice_get rows.pins) o ≡ option_map (row_of names.insts names.nets) (pin_named (design_in frame names rows orders) q)
      by None e = none_row (pin_named (design_in frame names rows orders) q) (sym (t.numbered.pin_names q) ∙ ap is_some e)
      by (Some n) e =
          let stands : name_at names.pins n ≡ Some q = number_at names.pins q n e in
          back_row_at n q stands (slice_get rows.pins n) (t.pin_rows n (ap is_some stands))

  back_on : (m p : ℕ) → is_on_number (stored_in frame names rows orders) m p
      ≡ on_row m (option_and_then (row_by frame names.insts names.nets rows.insts) (name_at names.pins p))
  back_on m p = by (name_at names.pins p)
    where
      by : (o : Option (List ℕ)) → option_map_or (nat_eq m) (option_and_then (number_of names.nets) (option_and_then net_of (option_and_then (pin_named (design_in frame names rows orders)) o))) false
          ≡ on_row m (option_and_then (row_by frame names.insts names.nets rows.insts) o)
      by None = refl
      by (Some q) =
          on_by names.insts names.nets m (pin_named (design_in frame names rows orders) q)
          ∙ ap (λ o. on_row m (option_map (row_of names.insts names.nets) o)) (back_pin q)

  back_net : (m : ℕ) → is_number names.nets m ≡ true
      → HasPins (λ p. on_row m (option_and_then (row_by frame names.insts names.nets rows.insts) (name_at names.pins p))) (slice_get rows.net_pins m)
  back_net m there = by (slice_get rows.net_pins m) (t.net_rows m there)
    where
      by : (o : Option (List ℕ)) → IsNetRow (stored_in frame names rows orders) m o
          → HasPins (λ p. on_row m (option_and_then (row_by frame names.insts names.nets rows.insts) (name_at names.pins p))) o
      by None h = h
      by (Some pins) h = λ p. h p ∙ ap (λ b. if b then 1 else 0) (back_on m p)

  pub tables_sound : AreSound frame names rows orders
  tables_sound = record {
    inst_names = back_name;
    inst_numbers = λ n. back_inst n (at rows.insts n) refl (t.inst_rows n);
    rc_names = back_rc;
    insts_ordered = t.insts_ordered;
    nets_ordered = t.nets_ordered;
    rcs_ordered = t.rcs_ordered;
    insts = t.numbered.insts;
    nets = t.numbered.nets;
    pins = t.numbered.pins;
    pin_rows = back_row;
    filled = back_filled;
    net_rows = back_net;
    linked = t.linked;
  }
