-- Stores in which a net comes or goes, as the code has their tables.

use Rattle.std.proofs.Common.{◌≡◌, ◌≢◌, ℕ, ◌<◌, ◌≤◌, true, false, List, [], ◌∷◌, ◌++◌, length, set, filter, None, Some, refl, sym, ap, subst, ◌∙◌, not}
use Rattle.std.specs.Prelude.{nat_eq, option_and_then, is_some, slice_get}
use Rattle.std.specs.List.{filter_map}
use Rattle.std.specs.Str.{bytes_eq}
use Rattle.std.proofs.lemmas.Option.{slice_get_within}
use Rattle.timing_defs.specs.declared.edits.Edit.TheVariants.{InsertNet, RemoveNet}
use Rattle.timing_defs.specs.Netlist.{is_listed}
use Rattle.timing_defs.specs.Wires.{rc_of}
use Rattle.timing_defs.specs.Edits.{net_in_use, first_fault, edit_faults}
use Rattle.netlist_store.specs.declared.tables.Frame.{Frame}
use Rattle.netlist_store.specs.declared.tables.Names.{Names}
use Rattle.netlist_store.specs.declared.tables.Orders.{Orders}
use Rattle.netlist_store.specs.declared.tables.Rows.{Rows}
use Rattle.netlist_store.specs.Numbering.{name_at, number_of, with_name, AreNumbers}
use Rattle.netlist_store.specs.Linked.{IsLinked}
use Rattle.netlist_store.specs.Drafts.{with_nets}
use Rattle.netlist_store.specs.Stores.{at, design_in, stored_in, AreTables}
use Rattle.netlist_store.proofs.NumberLaws.{number_at}
use Rattle.netlist_store.proofs.NumberEdits.{at_with, at_gone}
use Rattle.netlist_store.proofs.EditLaws.{linked_insert_net, linked_remove_net}
use Rattle.netlist_store.proofs.InUse.{then_some}
use Rattle.netlist_store.proofs.RcEdits.{none_without}
use Rattle.netlist_store.proofs.Sound.{sound_tables, tables_sound}
use Rattle.netlist_store.proofs.NetEdits.{nets_pushed, net_added, nets_left, net_left}

module _ (frame : Frame) (names : Names) (rows : Rows) (orders : Orders) (t : AreTables (stored_in frame names rows orders) rows orders)
    (net : List ℕ) (m : ℕ) where
  -- a net comes
  module _ (names' : Names) (put : names' ≡ record names { nets = with_name names.nets m net }) (gap : name_at names.nets m ≡ None) (low : m ≤ length names.nets)
      (fresh : number_of names.nets net ≡ None) (still : AreNumbers names'.nets) (orders' : Orders) (e : orders' ≡ record orders { nets = orders.nets ++ m ∷ [] }) where
    numbers_now : AreNumbers (with_name names.nets m net)
    numbers_now = subst AreNumbers (ap (λ (n : Names). n.nets) put) still

    nets_now : filter_map (name_at (with_name names.nets m net)) (orders.nets ++ m ∷ []) ≡ (design_in frame names rows orders).nets ++ net ∷ []
    nets_now =
        nets_pushed frame names rows orders (tables_sound frame names rows orders t) (with_name names.nets m net) numbers_now net m (at_with names.nets m net low) gap fresh

    pub net_added_design : (lists : List (List ℕ)) → stored_in frame names' (record rows { net_pins = lists }) orders'
        ≡ with_nets (stored_in frame names rows orders) ((design_in frame names rows orders).nets ++ net ∷ []) names'.nets
    net_added_design lists =
        ap (λ n. stored_in frame n (record rows { net_pins = lists }) orders') put
        ∙ ap (λ o. stored_in frame (record names { nets = with_name names.nets m net }) (record rows { net_pins = lists }) o) e
        ∙ ap (λ xs. with_nets (stored_in frame names rows orders) xs (with_name names.nets m net)) nets_now
        ∙ ap (λ (n : Names). with_nets (stored_in frame names rows orders) ((design_in frame names rows orders).nets ++ net ∷ []) n.nets) (sym put)

    pub net_added_tables : (lists : List (List ℕ)) → slice_get lists m ≡ Some []
        → ((k : ℕ) (xs : List ℕ) → k ≢ m → slice_get rows.net_pins k ≡ Some xs → slice_get lists k ≡ Some xs)
        → AreTables (stored_in frame names' (record rows { net_pins = lists }) orders') (record rows { net_pins = lists }) orders'
    net_added_tables lists empty kept =
        let d = design_in frame names rows orders in
        let listed : is_listed d.nets net ≡ false = sym (t.numbered.net_names net) ∙ ap is_some fresh in
        let free : first_fault (edit_faults d (InsertNet net)) ≡ None = rw listed refl in
        let linked : IsLinked (record d { nets = filter_map (name_at (with_name names.nets m net)) (orders.nets ++ m ∷ []) }) =
        subst (λ xs. IsLinked (record d { nets = xs })) (sym nets_now) (linked_insert_net d t.linked net free) in
        subst (λ n. AreTables (stored_in frame n (record rows { net_pins = lists }) orders') (record rows { net_pins = lists }) orders') (sym put)
        (subst (λ o. AreTables (stored_in frame (record names { nets = with_name names.nets m net }) (record rows { net_pins = lists }) o) (record rows { net_pins = lists }) o) (sym e)
        (sound_tables frame (record names { nets = with_name names.nets m net }) (record rows { net_pins = lists }) (record orders { nets = orders.nets ++ m ∷ [] })
        (net_added frame names rows orders (tables_sound frame names rows orders t) (with_name names.nets m net) numbers_now net m (at_with names.nets m net low) gap fresh lists empty kept linked)))

  -- a net goes
  module _ (names' : Names) (put : names' ≡ record names { nets = set names.nets m None }) (still : AreNumbers names'.nets) (here : number_of names.nets net ≡ Some m)
      (unused : net_in_use (design_in frame names rows orders) net ≡ false) (bare : rc_of (design_in frame names rows orders) net ≡ None)
      (orders' : Orders) (e : orders' ≡ record orders { nets = filter (λ k. not (nat_eq m k)) orders.nets }) where
    left_numbers : AreNumbers (set names.nets m None)
    left_numbers = subst AreNumbers (ap (λ (n : Names). n.nets) put) still

    within : m < length names.nets
    within =
        let x = then_some (λ name. name) (slice_get names.nets m) net (number_at names.nets net m here) in
        slice_get_within names.nets m x.0 x.1

    no_rc : at rows.rcs m ≡ None
    no_rc = sym (t.rc_rows m) ∙ ap (option_and_then (rc_of (design_in frame names rows orders))) (number_at names.nets net m here) ∙ bare

    left_now : filter_map (name_at (set names.nets m None)) (filter (λ k. not (nat_eq m k)) orders.nets)
        ≡ filter (λ n. not (bytes_eq n net)) (design_in frame names rows orders).nets
    left_now =
        nets_left frame names rows orders (tables_sound frame names rows orders t) (set names.nets m None) left_numbers net m (at_gone names.nets m within) here unused no_rc

    pub net_left_design : stored_in frame names' rows orders'
        ≡ with_nets (stored_in frame names rows orders) (filter (λ n. not (bytes_eq n net)) (design_in frame names rows orders).nets) (set names.nets m None)
    net_left_design =
        ap (λ n. stored_in frame n rows orders') put
        ∙ ap (λ o. stored_in frame (record names { nets = set names.nets m None }) rows o) e
        ∙ ap (λ xs. with_nets (stored_in frame names rows orders) xs (set names.nets m None)) left_now

    pub net_left_tables : AreTables (stored_in frame names' rows orders') rows orders'
    net_left_tables =
        let d = design_in frame names rows orders in
        let listed : is_listed d.nets net ≡ true = sym (t.numbered.net_names net) ∙ ap is_some here in
        let free : first_fault (edit_faults d (RemoveNet net)) ≡ None = rw (listed, unused) refl in
        let one : IsLinked (record d { nets = filter (λ n. not (bytes_eq n net)) d.nets; rcs = d.rcs }) =
        subst (λ xs. IsLinked (record d { nets = filter (λ n. not (bytes_eq n net)) d.nets; rcs = xs })) (none_without net d.rcs bare)
        (linked_remove_net d t.linked net free) in
        let linked : IsLinked (record d { nets = filter_map (name_at (set names.nets m None)) (filter (λ k. not (nat_eq m k)) orders.nets) }) =
        subst (λ xs. IsLinked (record d { nets = xs })) (sym left_now) one in
        subst (λ n. AreTables (stored_in frame n rows orders') rows orders') (sym put)
        (subst (λ o. AreTables (stored_in frame (record names { nets = set names.nets m None }) rows o) rows o) (sym e)
        (sound_tables frame (record names { nets = set names.nets m None }) rows (record orders { nets = filter (λ k. not (nat_eq m k)) orders.nets })
        (net_left frame names rows orders (tables_sound frame names rows orders t) (set names.nets m None) left_numbers net m (at_gone names.nets m within) here unused no_rc linked)))
