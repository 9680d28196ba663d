-- The tables of a new store tell its design.

use Rattle.std.proofs.Common.{◌≡◌, ℕ, zero, suc, ◌<◌, true, false, List, [], ◌∷◌, map, length, Option, None, Some, refl, sym, ap, subst, ◌∙◌, inl, inr, if◌then◌else◌, le-ltb}
use Rattle.std.specs.Prelude.{option_and_then, option_map, is_some, nat_eq, nat_lt, ◌&&◌}
use Rattle.std.specs.List.{slice_get, list_any, list_all, filter_map}
use Rattle.std.specs.Option.{option_map_or}
use Rattle.std.specs.Str.{bytes_eq}
use Rattle.std.proofs.lemmas.Bool.{cases_Bool, cases_lt, false≢true}
use Rattle.std.proofs.lemmas.Bool.Decides.{eqb_tells}
use Rattle.std.proofs.lemmas.List.{length-map}
use Rattle.std.proofs.lemmas.Option.{slice_get-map, slice_get-get_or}
use Rattle.timing_defs.specs.declared.kinds.Split.TheVariants.{Early, Late}
use Rattle.timing_defs.specs.declared.library.Library.{Library}
use Rattle.timing_defs.specs.declared.constraints.Constraints.{Constraints}
use Rattle.timing_defs.specs.declared.netlist.Port.{Port}
use Rattle.timing_defs.specs.declared.netlist.Inst.{Inst}
use Rattle.timing_defs.specs.declared.parasitics.NetRc.{NetRc}
use Rattle.timing_defs.specs.declared.design.Design.{Design}
use Rattle.timing_defs.specs.Netlist.{Pin, name_of, net_of, pins, pin_named, cell_of, is_listed, are_distinct}
use Rattle.timing_defs.specs.Edits.{inst_named}
use Rattle.netlist_store.specs.declared.tables.Frame.{Frame}
use Rattle.netlist_store.specs.declared.tables.Names.{Names}
use Rattle.netlist_store.specs.declared.tables.Orders.{Orders}
use Rattle.netlist_store.specs.declared.tables.PinRow.{PinRow}
use Rattle.netlist_store.specs.declared.tables.Rows.{Rows}
use Rattle.netlist_store.specs.Numbering.{Stored, name_at, number_of, is_number, pin_numbered, is_on_number, IsNumbered, AreNumbers}
use Rattle.netlist_store.specs.Linked.{IsLinked}
use Rattle.netlist_store.specs.Stores.{at, design_in, stored_in, IsNetRow, TellsPin, IsPinRow, TellsInst, IsInstRow, AreTables}
use Rattle.netlist_store.specs.Building.{row_of, first_numbers, is_on_row, of_pins, AreNetPins, rc_named, AreRcRows}
use Rattle.netlist_store.proofs.NumberLaws.{number_at, some_is}
use Rattle.netlist_store.proofs.PinLists.{and_left, and_right, each_at, is_joined, of_pins_is}
use Rattle.netlist_store.proofs.PlaceLaws.{name_in, is_below, numbers_listed, found_listed, found_at, first_below, all_rows}
use Rattle.netlist_store.proofs.ShardLaws.{same_is, same_self}

abbrev made : Library → Library → List Port → List (List ℕ) → List Inst → Constraints → List NetRc → Design
made early late ports nets insts constraints rcs =
    record { early = early; late = late; ports = ports; nets = nets; insts = insts; constraints = constraints; rcs = rcs }

-- what all rows have
pub row_in : {X : Type 0} (xs : List X) (n : ℕ) → at (map Some xs) n ≡ slice_get xs n
row_in [] n = refl
row_in (x ∷ xs) zero = refl
row_in (x ∷ xs) (suc n) = row_in xs n

-- rows at the numbers of names, in the order of the names
pub back_again : {X : Type 0} (number : X → Option ℕ) (look : ℕ → Option X) (xs : List X)
    → ((n : ℕ) (x : X) → slice_get xs n ≡ Some x → option_and_then look (number x) ≡ Some x) → filter_map look (filter_map number xs) ≡ xs
back_again number look [] each = refl
back_again {X} number look (x ∷ xs) each = by (number x) refl (back_again number look xs (λ n y e. each (suc n) y e))
  where
    by : (o : Option ℕ) → number x ≡ o → filter_map look (filter_map number xs) ≡ xs → filter_map look (filter_map number (x ∷ xs)) ≡ x ∷ xs
    by None e rest = let f : option_and_then look (number x) ≡ None = ap (option_and_then look) e in absurd (clash (sym f ∙ each 0 x refl))
      where
        clash : None ≡ Some x → ⊥
        clash h = absurd (cc)
    by (Some m) e rest =
        let f : look m ≡ Some x = sym (ap (option_and_then look) e) ∙ each 0 x refl in
        rw (e, f) (ap (λ ys. x ∷ ys) rest)

-- the tables of a new store, made of its design
pub record IsNew (d : Design) (frame : Frame) (names : Names) (rows : Rows) (orders : Orders) : Type 0 where
  pub early : frame.early ≡ d.early
  pub late : frame.late ≡ d.late
  pub ports : frame.ports ≡ d.ports
  pub constraints : frame.constraints ≡ d.constraints
  pub insts : names.insts ≡ map Some (map (λ i. i.name) d.insts)
  pub nets : names.nets ≡ map Some d.nets
  pub pins : names.pins ≡ map Some (of_pins name_of d.ports d.late.cells d.insts)
  pub inst_rows : rows.insts ≡ map Some d.insts
  pub rc_rows : AreRcRows names.nets d.rcs rows.rcs
  pub pin_rows : rows.pins ≡ of_pins (row_of names.insts names.nets) d.ports d.late.cells d.insts
  pub net_len : length rows.net_pins ≡ length names.nets
  pub net_pins : AreNetPins rows.pins (length rows.pins) rows.net_pins
  pub inst_order : orders.insts ≡ first_numbers (length names.insts)
  pub net_order : orders.nets ≡ first_numbers (length names.nets)
  pub rc_order : orders.rcs ≡ filter_map (λ rc. number_of names.nets rc.net) d.rcs

module _ (d : Design) (frame : Frame) (names : Names) (rows : Rows) (orders : Orders) (new : IsNew d frame names rows orders) where
  abbrev s : Stored
  s = record { design = d; insts = names.insts; nets = names.nets; pins = names.pins }

  inst_name : (n : ℕ) → name_at names.insts n ≡ option_map (λ i. i.name) (slice_get d.insts n)
  inst_name n = ap (λ ns. name_at ns n) new.insts ∙ name_in (map (λ i. i.name) d.insts) n ∙ slice_get-map (λ i. i.name) d.insts n

  net_name : (n : ℕ) → name_at names.nets n ≡ slice_get d.nets n
  net_name n = ap (λ ns. name_at ns n) new.nets ∙ name_in d.nets n

  pin_list : names.pins ≡ map Some (map name_of (pins d))
  pin_list = new.pins ∙ ap (map Some) (of_pins_is name_of d.late.cells d.ports d.insts)

  pin_name : (n : ℕ) → name_at names.pins n ≡ option_map name_of (slice_get (pins d) n)
  pin_name n = ap (λ ns. name_at ns n) pin_list ∙ name_in (map name_of (pins d)) n ∙ slice_get-map name_of (pins d) n

  inst_count : length names.insts ≡ length d.insts
  inst_count = ap length new.insts ∙ length-map (map (λ i. i.name) d.insts) Some ∙ length-map d.insts (λ i. i.name)

  net_count : length names.nets ≡ length d.nets
  net_count = ap length new.nets ∙ length-map d.nets Some

  -- the design of the tables
  inst_list : filter_map (at rows.insts) orders.insts ≡ d.insts
  inst_list =
      ap (filter_map (at rows.insts)) new.inst_order
      ∙ all_rows (at rows.insts) d.insts (length names.insts) inst_count (λ n. ap (λ rs. at rs n) new.inst_rows ∙ row_in d.insts n)

  net_list : filter_map (name_at names.nets) orders.nets ≡ d.nets
  net_list = ap (filter_map (name_at names.nets)) new.net_order ∙ all_rows (name_at names.nets) d.nets (length names.nets) net_count net_name

  number_listed : (q : List ℕ) → is_listed d.nets q ≡ true → (n : ℕ) × (number_of names.nets q ≡ Some n)
  number_listed q h = some (number_of names.nets q) (ap (λ ns. is_some (number_of ns q)) new.nets ∙ numbers_listed d.nets q ∙ h)
    where
      some : (o : Option ℕ) → is_some o ≡ true → (n : ℕ) × (o ≡ Some n)
      some None g = absurd (false≢true g)
      some (Some n) g = (n, refl)

  rc_list : are_distinct (map (λ rc. rc.net) d.rcs) ≡ true → list_all (λ rc. is_listed d.nets rc.net) d.rcs ≡ true → filter_map (at rows.rcs) orders.rcs ≡ d.rcs
  rc_list distinct listed =
      ap (filter_map (at rows.rcs)) new.rc_order
      ∙ back_again (λ rc. number_of names.nets rc.net) (at rows.rcs) d.rcs (λ n rc e.
      let m = number_listed rc.net (each_at (λ r. is_listed d.nets r.net) d.rcs n rc listed e) in
      ap (option_and_then (at rows.rcs)) m.1
      ∙ new.rc_rows.told m.0
      ∙ ap (option_and_then (rc_named d.rcs)) (number_at names.nets rc.net m.0 m.1)
      ∙ found_at (λ r. r.net) d.rcs n rc distinct e)

  pub same_design : are_distinct (map (λ rc. rc.net) d.rcs) ≡ true → list_all (λ rc. is_listed d.nets rc.net) d.rcs ≡ true
      → design_in frame names rows orders ≡ d
  same_design distinct listed =
      fields frame.early frame.late frame.ports (filter_map (name_at names.nets) orders.nets) (filter_map (at rows.insts) orders.insts) frame.constraints (filter_map (at rows.rcs) orders.rcs)
      new.early new.late new.ports net_list inst_list new.constraints (rc_list distinct listed)
    where
      fields : (early late : Library) (ports : List Port) (nets : List (List ℕ)) (insts : List Inst) (constraints : Constraints) (rcs : List NetRc) → early ≡ d.early → late ≡ d.late → ports ≡ d.ports → nets ≡ d.nets → insts ≡ d.insts
          → constraints ≡ d.constraints → rcs ≡ d.rcs
          → made early late ports nets insts constraints rcs ≡ d
      fields early late ports nets insts constraints rcs a b c e f g h =
          ap (λ x. made x late ports nets insts constraints rcs) a
          ∙ ap (λ x. made d.early x ports nets insts constraints rcs) b
          ∙ ap (λ x. made d.early d.late x nets insts constraints rcs) c
          ∙ ap (λ x. made d.early d.late d.ports x insts constraints rcs) e
          ∙ ap (λ x. made d.early d.late d.ports d.nets x constraints rcs) f
          ∙ ap (λ x. made d.early d.late d.ports d.nets d.insts x rcs) g
          ∙ ap (λ x. made d.early d.late d.ports d.nets d.insts d.constraints x) h

  -- the pins
  pin_at : are_distinct (map name_of (pins d)) ≡ true → (n : ℕ) → pin_numbered s n ≡ slice_get (pins d) n
  pin_at distinct n = ap (option_and_then (pin_named d)) (pin_name n) ∙ by (slice_get (pins d) n) refl
    where
      by : (o : Option Pin) → slice_get (pins d) n ≡ o → option_and_then (pin_named d) (option_map name_of o) ≡ o
      by None e = refl
      by (Some p) e = found_at name_of (pins d) n p distinct e

  pin_row : (n : ℕ) → slice_get rows.pins n ≡ option_map (row_of names.insts names.nets) (slice_get (pins d) n)
  pin_row n = ap (λ rs. slice_get rs n) (new.pin_rows ∙ of_pins_is (row_of names.insts names.nets) d.late.cells d.ports d.insts) ∙ slice_get-map (row_of names.insts names.nets) (pins d) n

  module _ (distinct : are_distinct (map name_of (pins d)) ≡ true) (joined : list_all (is_joined (map (λ i. i.name) d.insts) d.nets) (pins d) ≡ true) where
    owner_known : (p : Pin) → is_joined (map (λ i. i.name) d.insts) d.nets p ≡ true
        → is_some (option_and_then (λ inst. number_of names.insts inst.name) p.owner) ≡ is_some p.owner
    owner_known p h = by p.owner (and_left (option_map_or (λ i. is_listed (map (λ j. j.name) d.insts) i.name) p.owner true) (option_map_or (is_listed d.nets) (net_of p) true) h)
      where
        by : (o : Option Inst) → option_map_or (λ i. is_listed (map (λ j. j.name) d.insts) i.name) o true ≡ true
            → is_some (option_and_then (λ inst. number_of names.insts inst.name) o) ≡ is_some o
        by None g = refl
        by (Some i) g = ap (λ ns. is_some (number_of ns i.name)) new.insts ∙ numbers_listed (map (λ j. j.name) d.insts) i.name ∙ g

    net_known : (p : Pin) → is_joined (map (λ i. i.name) d.insts) d.nets p ≡ true
        → is_some (option_and_then (number_of names.nets) (net_of p)) ≡ is_some (net_of p)
    net_known p h = by (net_of p) (and_right (option_map_or (λ i. is_listed (map (λ j. j.name) d.insts) i.name) p.owner true) (option_map_or (is_listed d.nets) (net_of p) true) h)
      where
        by : (o : Option (List ℕ)) → option_map_or (is_listed d.nets) o true ≡ true → is_some (option_and_then (number_of names.nets) o) ≡ is_some o
        by None g = refl
        by (Some q) g = ap (λ ns. is_some (number_of ns q)) new.nets ∙ numbers_listed d.nets q ∙ g

    told_pin : (n : ℕ) (p : Pin) → slice_get (pins d) n ≡ Some p → TellsPin s n (row_of names.insts names.nets p)
    told_pin n p e =
        let here : pin_numbered s n ≡ Some p = pin_at distinct n ∙ e in
        let known : is_joined (map (λ i. i.name) d.insts) d.nets p ≡ true = each_at (is_joined (map (λ i. i.name) d.insts) d.nets) (pins d) n p joined e in
        record {
          owner = sym (ap (λ o. option_and_then (λ inst. number_of names.insts inst.name) (option_and_then (λ q. q.owner) o)) here);
          net = sym (ap (λ o. option_and_then (number_of names.nets) (option_and_then net_of o)) here);
          dir = ap (option_map (λ q. q.dir)) here;
          owned = owner_known p known ∙ sym (ap (λ o. is_some (option_and_then (λ q. q.owner) o)) here);
          joined = net_known p known ∙ sym (ap (λ o. is_some (option_and_then net_of o)) here);
        }

    its_pin_row : (n : ℕ) → is_number names.pins n ≡ true → IsPinRow s n (slice_get rows.pins n)
    its_pin_row n h = subst (IsPinRow s n) (sym (pin_row n)) (by (slice_get (pins d) n) refl)
      where
        by : (o : Option Pin) → slice_get (pins d) n ≡ o → IsPinRow s n (option_map (row_of names.insts names.nets) o)
        by None e = absurd (false≢true (sym (ap is_some (pin_name n ∙ ap (option_map name_of) e)) ∙ h))
        by (Some p) e = told_pin n p e

    -- the nets
    on_row : (net n : ℕ) → is_on_row rows.pins net n ≡ is_on_number s net n
    on_row net n =
        ap (λ o. option_map_or (λ row. option_map_or (nat_eq net) row.net false) o false) (pin_row n)
        ∙ by (slice_get (pins d) n)
        ∙ ap (λ o. option_map_or (nat_eq net) (option_and_then (number_of names.nets) (option_and_then net_of o)) false) (sym (pin_at distinct n))
      where
        by : (o : Option Pin) → option_map_or (λ row. option_map_or (nat_eq net) row.net false) (option_map (row_of names.insts names.nets) o) false
            ≡ option_map_or (nat_eq net) (option_and_then (number_of names.nets) (option_and_then net_of o)) false
        by None = refl
        by (Some p) = refl

    past_row : (net n : ℕ) → (nat_lt n (length rows.pins) && is_on_row rows.pins net n) ≡ is_on_row rows.pins net n
    past_row net n = ap (λ b. b && is_on_row rows.pins net n) (sym (is_below rows.pins n)) ∙ by (slice_get rows.pins n)
      where
        by : (o : Option PinRow) → (is_some o && option_map_or (λ row. option_map_or (nat_eq net) row.net false) o false)
            ≡ option_map_or (λ row. option_map_or (nat_eq net) row.net false) o false
        by None = refl
        by (Some row) = refl

    its_net_row : (n : ℕ) → is_number names.nets n ≡ true → IsNetRow s n (slice_get rows.net_pins n)
    its_net_row n h =
        subst (IsNetRow s n) (sym (slice_get-get_or rows.net_pins n [] low))
        (λ pin. new.net_pins n pin low ∙ ap (λ b. if b then 1 else 0) (past_row n pin ∙ on_row n pin))
      where
        within : nat_lt n (length d.nets) ≡ true
        within = sym (is_below d.nets n) ∙ sym (ap is_some (net_name n)) ∙ h

        low : n < length rows.net_pins
        low = subst (λ k. n < k) (sym (new.net_len ∙ net_count)) (below n (length d.nets) within)
          where
            below : (a b : ℕ) → nat_lt a b ≡ true → a < b
            below a b e = elim (cases_lt a b) [ inl g ↦ g | inr g ↦ absurd (false≢true (sym (le-ltb a b g) ∙ e)) ]

  -- the instances
  module _ (distinct : are_distinct (map (λ i. i.name) d.insts) ≡ true)
      (early : list_all (λ i. is_some (cell_of d Early i)) d.insts ≡ true) (late : list_all (λ i. is_some (cell_of d Late i)) d.insts ≡ true) where
    told_inst : (n : ℕ) (i : Inst) → slice_get d.insts n ≡ Some i → TellsInst s n i
    told_inst n i e =
        let called : name_at names.insts n ≡ Some i.name = inst_name n ∙ ap (option_map (λ j. j.name)) e in
        record {
          named = called;
          numbered = ap (option_and_then (inst_named d.insts)) called ∙ found_at (λ j. j.name) d.insts n i distinct e;
          early = each_at (λ j. is_some (cell_of d Early j)) d.insts n i early e;
          late = each_at (λ j. is_some (cell_of d Late j)) d.insts n i late e;
        }

    its_inst_row : (n : ℕ) → IsInstRow s n (at rows.insts n)
    its_inst_row n = subst (IsInstRow s n) (sym (ap (λ rs. at rs n) new.inst_rows ∙ row_in d.insts n)) (by (slice_get d.insts n) refl)
      where
        by : (o : Option Inst) → slice_get d.insts n ≡ o → IsInstRow s n o
        by None e = ap is_some (inst_name n ∙ ap (option_map (λ i. i.name)) e)
        by (Some i) e = told_inst n i e

  -- the orders
  inst_ordered : (n : ℕ) → list_any (nat_eq n) orders.insts ≡ is_number names.insts n
  inst_ordered n =
      ap (list_any (nat_eq n)) new.inst_order ∙ first_below (length names.insts) n ∙ ap (nat_lt n) inst_count ∙ sym (is_below d.insts n)
      ∙ sym (ap is_some (inst_name n) ∙ mapped (slice_get d.insts n))
    where
      mapped : (o : Option Inst) → is_some (option_map (λ i. i.name) o) ≡ is_some o
      mapped None = refl
      mapped (Some i) = refl

  net_ordered : (n : ℕ) → list_any (nat_eq n) orders.nets ≡ is_number names.nets n
  net_ordered n = ap (list_any (nat_eq n)) new.net_order ∙ first_below (length names.nets) n ∙ ap (nat_lt n) net_count ∙ sym (is_below d.nets n) ∙ sym (ap is_some (net_name n))

  module _ (numbers : AreNumbers names.nets) where
    -- a number is that of the net of some parasitics
    its_rc : (n : ℕ) (q : List ℕ) → name_at names.nets n ≡ Some q → (rcs : List NetRc)
        → list_any (nat_eq n) (filter_map (λ rc. number_of names.nets rc.net) rcs) ≡ is_some (rc_named rcs q)
    its_rc n q here [] = refl
    its_rc n q here (r ∷ rs) = by (number_of names.nets r.net) refl (its_rc n q here rs)
      where
        by : (o : Option ℕ) → number_of names.nets r.net ≡ o
            → list_any (nat_eq n) (filter_map (λ rc. number_of names.nets rc.net) rs) ≡ is_some (rc_named rs q)
            → list_any (nat_eq n) (filter_map (λ rc. number_of names.nets rc.net) (r ∷ rs)) ≡ is_some (rc_named (r ∷ rs) q)
        by None e rest = elim (cases_Bool (bytes_eq r.net q)) [
          | inl h ↦
              let f : number_of names.nets r.net ≡ Some n = ap (number_of names.nets) (same_is r.net q h) ∙ numbers.distinct n q here in
              absurd (cc)
          | inr h ↦ rw (e, h) rest
        ]
        by (Some m) e rest = elim (eqb_tells n m) [
          | inl h ↦
              let same : r.net ≡ q = some_is (sym (number_at names.nets r.net m e) ∙ ap (name_at names.nets) (sym h.1) ∙ here) in
              rw (e, h.0, ap (λ k. bytes_eq k q) same ∙ same_self q) refl
          | inr h ↦
              let other : bytes_eq r.net q ≡ false = elim (cases_Bool (bytes_eq r.net q)) [
                | inl g ↦ absurd (h.1 (some_is (sym (numbers.distinct n q here) ∙ ap (number_of names.nets) (sym (same_is r.net q g)) ∙ e)))
                | inr g ↦ g
              ] in
              rw (e, h.0, other) rest
        ]

    no_rc : (n : ℕ) → name_at names.nets n ≡ None → (rcs : List NetRc) → list_any (nat_eq n) (filter_map (λ rc. number_of names.nets rc.net) rcs) ≡ false
    no_rc n gap [] = refl
    no_rc n gap (r ∷ rs) = by (number_of names.nets r.net) refl (no_rc n gap rs)
      where
        by : (o : Option ℕ) → number_of names.nets r.net ≡ o → list_any (nat_eq n) (filter_map (λ rc. number_of names.nets rc.net) rs) ≡ false
            → list_any (nat_eq n) (filter_map (λ rc. number_of names.nets rc.net) (r ∷ rs)) ≡ false
        by None e rest = rw e rest
        by (Some m) e rest = elim (eqb_tells n m) [
          | inl h ↦
              let f : name_at names.nets n ≡ Some r.net = ap (name_at names.nets) h.1 ∙ number_at names.nets r.net m e in
              absurd (cc)
          | inr h ↦ rw (e, h.0) rest
        ]

    rc_ordered : (n : ℕ) → list_any (nat_eq n) orders.rcs ≡ is_some (at rows.rcs n)
    rc_ordered n = ap (list_any (nat_eq n)) new.rc_order ∙ by (name_at names.nets n) refl ∙ sym (ap is_some (new.rc_rows.told n))
      where
        by : (o : Option (List ℕ)) → name_at names.nets n ≡ o
            → list_any (nat_eq n) (filter_map (λ rc. number_of names.nets rc.net) d.rcs) ≡ is_some (option_and_then (rc_named d.rcs) (name_at names.nets n))
        by None e = no_rc n e d.rcs ∙ sym (ap (λ o. is_some (option_and_then (rc_named d.rcs) o)) e)
        by (Some q) e = its_rc n q e d.rcs ∙ sym (ap (λ o. is_some (option_and_then (rc_named d.rcs) o)) e)

  numbered : AreNumbers names.insts → AreNumbers names.nets → AreNumbers names.pins → IsNumbered s
  numbered insts nets pins_numbered = record {
    insts = insts;
    nets = nets;
    pins = pins_numbered;
    inst_names = λ q. ap (λ ns. is_some (number_of ns q)) new.insts ∙ numbers_listed (map (λ i. i.name) d.insts) q ∙ sym (found_listed (λ i. i.name) d.insts q);
    net_names = λ q. ap (λ ns. is_some (number_of ns q)) new.nets ∙ numbers_listed d.nets q;
    pin_names = λ q. ap (λ ns. is_some (number_of ns q)) pin_list ∙ numbers_listed (map name_of (pins d)) q ∙ sym (found_listed name_of (pins d) q);
  }

-- what follows of a linked design for its store
pub record IsFit (d : Design) : Type 0 where
  pub rcs : are_distinct (map (λ rc. rc.net) d.rcs) ≡ true
  pub rc_nets : list_all (λ rc. is_listed d.nets rc.net) d.rcs ≡ true
  pub insts : are_distinct (map (λ i. i.name) d.insts) ≡ true
  pub early : list_all (λ i. is_some (cell_of d Early i)) d.insts ≡ true
  pub late : list_all (λ i. is_some (cell_of d Late i)) d.insts ≡ true
  pub pin_names : are_distinct (map name_of (pins d)) ≡ true
  pub joined : list_all (is_joined (map (λ i. i.name) d.insts) d.nets) (pins d) ≡ true

pub new_stored : (d : Design) (frame : Frame) (names : Names) (rows : Rows) (orders : Orders) → IsNew d frame names rows orders → IsFit d
    → stored_in frame names rows orders ≡ record { design = d; insts = names.insts; nets = names.nets; pins = names.pins }
new_stored d frame names rows orders new fit =
    ap (λ (e : Design). record { design = e; insts = names.insts; nets = names.nets; pins = names.pins })
    (same_design d frame names rows orders new fit.rcs fit.rc_nets)

pub new_tables : (d : Design) (frame : Frame) (names : Names) (rows : Rows) (orders : Orders) → IsNew d frame names rows orders → IsFit d → IsLinked d
    → AreNumbers names.insts → AreNumbers names.nets → AreNumbers names.pins → AreTables (stored_in frame names rows orders) rows orders
new_tables d frame names rows orders new fit linked insts nets pin_numbers =
    subst (λ (s : Stored). AreTables s rows orders) (sym (new_stored d frame names rows orders new fit))
    record {
      inst_rows = its_inst_row d frame names rows orders new fit.insts fit.early fit.late;
      rc_rows = λ n. sym (new.rc_rows.told n);
      net_rows = its_net_row d frame names rows orders new fit.pin_names fit.joined;
      pin_rows = its_pin_row d frame names rows orders new fit.pin_names fit.joined;
      insts_ordered = inst_ordered d frame names rows orders new;
      nets_ordered = net_ordered d frame names rows orders new;
      rcs_ordered = rc_ordered d frame names rows orders new nets;
      numbered = numbered d frame names rows orders new insts nets pin_numbers;
      linked = linked;
    }
