-- Stores into which a buffer comes, step by step, and their designs.

use Rattle.std.proofs.Common.{◌≡◌, ℕ, zero, suc, ◌+◌, ◌<◌, ◌≤◌, Bool, true, false, List, [], ◌∷◌, ◌++◌, map, take, drop, filter, length, get_or, Option, None, Some, Result, Ok, Err, refl, sym, ap, subst, ◌∙◌, inl, inr, not, arith}
use Rattle.std.specs.Prelude.{IfOk, nat_eq, find, option_and_then, option_map, is_some, is_none}
use Rattle.std.specs.List.{list_all}
use Rattle.std.specs.Option.{option_map_or}
use Rattle.std.specs.Str.{bytes_eq}
use Rattle.std.proofs.lemmas.List.{drop_more, take-append-drop}
use Rattle.std.proofs.lemmas.Bool.{cases_Bool, false≢true, and_parts, and_from, not-true}
use Rattle.timing_defs.specs.declared.kinds.Dir.{Dir}
use Rattle.timing_defs.specs.declared.kinds.Dir.TheVariants.{Input, Output}
use Rattle.timing_defs.specs.declared.kinds.Split.TheVariants.{Late}
use Rattle.timing_defs.specs.declared.library.Cell.{Cell}
use Rattle.timing_defs.specs.declared.library.CellPin.{CellPin}
use Rattle.timing_defs.specs.declared.netlist.Inst.{Inst}
use Rattle.timing_defs.specs.declared.design.Design.{Design}
use Rattle.timing_defs.specs.declared.edits.Edit.TheVariants.{InsertBuffer}
use Rattle.timing_defs.specs.declared.faults.Fault.TheVariants.{UnknownNet, UnknownCell, UnknownPin, NameTaken, PinsDiffer}
use Rattle.timing_defs.specs.Netlist.{same_dir, cell_pin, cell_pins, cell_of, pin_at, pin_named, is_listed, are_distinct}
use Rattle.timing_defs.specs.Edits.{inst_named, has_colon, before_last, after_last, cell_for, word_direction, need_pin_inst, need_net, need_cell, need_sink, free_inst, free_net, sink_faults, unless, first_fault, edit_faults, pins_of_dir, is_buffer, on_inst, with_conns, connected, moved_sinks, first_pin, buffer_inst, without_rc, changed}
use Rattle.netlist_store.specs.Numbering.{Stored, number_of, IsNumbered}
use Rattle.netlist_store.specs.Linked.{IsLinked}
use Rattle.netlist_store.specs.Drafts.{Follows, FollowsAll, is_pin_word, with_insts, with_nets, with_rcs}
use Rattle.netlist_store.proofs.ShardLaws.{same_is, same_self}
use Rattle.netlist_store.proofs.ListLaws.{all_weaker, found_passes, found_keeps, listed_push, listed_last}
use Rattle.netlist_store.proofs.LinkLaws.{no_fault, no_faults, holds_unless}
use Rattle.netlist_store.proofs.ConnLaws.{some_of, usable_late}
use Rattle.netlist_store.proofs.NamedLaws.{no_inst}
use Rattle.netlist_store.proofs.PinsByWord.{is_plain, plain_pins, colon_in, before_is, after_is, pin_by_word, found_in}
use Rattle.netlist_store.proofs.PinLaws.{FirstPin, first_is, apart_pins, distinct_pins}
use Rattle.netlist_store.proofs.EditFacts.{none_of, word_colon, word_pin}

-- what the checks of a buffer have found
pub record BufferFacts (d : Design) (net inst fresh cell : List ℕ) (sinks : List (List ℕ)) : Type 0 where
  pub there : is_listed d.nets net ≡ true
  pub buffer : option_map_or is_buffer (cell_for d cell) false ≡ true
  pub words : list_all (λ s. is_some (word_direction d s)) sinks ≡ true
  pub new_inst : inst_named d.insts inst ≡ None
  pub new_net : is_listed d.nets fresh ≡ false

sink_known : (o : Option Dir) → option_map_or (same_dir Input) o false ≡ true → is_some o ≡ true
sink_known None h = absurd (false≢true h)
sink_known (Some dir) h = refl

words_known : (d : Design) (sinks : List (List ℕ)) → first_fault (map (need_sink d) sinks) ≡ None → list_all (λ s. is_some (word_direction d s)) sinks ≡ true
words_known d [] h = refl
words_known d (s ∷ ss) h =
    let k = no_fault (need_sink d s) (map (need_sink d) ss) h in
    let held = holds_unless (option_map_or (same_dir Input) (word_direction d s) false) (UnknownPin s) k.0 in
    and_from (is_some (word_direction d s)) (list_all (λ s. is_some (word_direction d s)) ss) (sink_known (word_direction d s) held) (words_known d ss k.1)

is_found : (o : Option Cell) → is_some o ≡ true → option_map_or is_buffer o true ≡ true → option_map_or is_buffer o false ≡ true
is_found None h k = absurd (false≢true h)
is_found (Some c) h k = k

pub buffer_facts : (d : Design) (net inst fresh cell : List ℕ) (sinks : List (List ℕ)) → first_fault (edit_faults d (InsertBuffer net inst fresh cell sinks)) ≡ None
    → BufferFacts d net inst fresh cell sinks
buffer_facts d net inst fresh cell sinks none =
    let fits = unless (option_map_or is_buffer (cell_for d cell) true) (PinsDiffer inst) in
    let ends = free_inst d inst ∷ free_net d fresh ∷ fits ∷ sink_faults d net [] sinks in
    let parts = no_faults (map (need_pin_inst d) sinks ++ need_net d net ∷ need_cell d cell ∷ map (need_sink d) sinks) ends none in
    let heads = no_faults (map (need_pin_inst d) sinks) (need_net d net ∷ need_cell d cell ∷ map (need_sink d) sinks) parts.0 in
    let one = no_fault (need_net d net) (need_cell d cell ∷ map (need_sink d) sinks) heads.1 in
    let two = no_fault (need_cell d cell) (map (need_sink d) sinks) one.1 in
    let three = no_fault (free_inst d inst) (free_net d fresh ∷ fits ∷ sink_faults d net [] sinks) parts.1 in
    let four = no_fault (free_net d fresh) (fits ∷ sink_faults d net [] sinks) three.1 in
    let five = no_fault fits (sink_faults d net [] sinks) four.1 in
    record {
      there = holds_unless (is_listed d.nets net) (UnknownNet net) one.0;
      buffer =
          is_found (cell_for d cell) (holds_unless (is_some (cell_for d cell)) (UnknownCell cell) two.0)
          (holds_unless (option_map_or is_buffer (cell_for d cell) true) (PinsDiffer inst) five.0);
      words = words_known d sinks two.1;
      new_inst = none_of (inst_named d.insts inst) (holds_unless (is_none (inst_named d.insts inst)) (NameTaken inst) three.0);
      new_net = not-true (is_listed d.nets fresh) (holds_unless (not (is_listed d.nets fresh)) (NameTaken fresh) four.0);
    }

pub words_numbered : (s : Stored) → IsNumbered s → IsLinked s.design → (sinks : List (List ℕ)) → list_all (λ w. is_some (word_direction s.design w)) sinks ≡ true
    → list_all (is_pin_word s.pins) sinks ≡ true
words_numbered s numbered linked sinks all =
    all_weaker (is_pin_word s.pins) (λ w. is_some (word_direction s.design w)) sinks
    (λ w h. and_from (has_colon w) (is_some (number_of s.pins w)) (word_colon s.design w h) (numbered.pin_names w ∙ word_pin s.design linked w h)) all

-- the sinks move, one by one
pub all_at : {X : Type 0} (p : X → Bool) (xs : List X) (i : ℕ) (x : X) → list_all p xs ≡ true → i < length xs → x ≡ get_or xs i x → p x ≡ true
all_at p [] i x all low e = absurd (omega arith)
all_at p (y ∷ ys) zero x all low e = ap p e ∙ (and_parts (p y) (list_all p ys) all).0
all_at p (y ∷ ys) (suc i) x all low e = all_at p ys i x (and_parts (p y) (list_all p ys) all).1 (omega arith) e

pub drop_end : {X : Type 0} (xs : List X) (i : ℕ) → length xs ≤ i → drop i xs ≡ []
drop_end [] zero low = refl
drop_end [] (suc i) low = refl
drop_end (x ∷ xs) zero low = absurd (omega arith)
drop_end (x ∷ xs) (suc i) low = drop_end xs i (omega arith)

-- one sink is moved by its own step
pub one_sink : (net : List ℕ) (sinks : List (List ℕ)) (w : List ℕ) (insts : List Inst) → 1 ≤ length sinks → length sinks < 2 → w ≡ get_or sinks 0 w
    → on_inst (before_last w) (with_conns (connected (after_last w) net)) insts ≡ moved_sinks net sinks insts
one_sink net [] w insts some few is = let no : ⊥ = omega (arith, some) in absurd no
one_sink net (s ∷ []) w insts some few is = ap (λ v. on_inst (before_last v) (with_conns (connected (after_last v) net)) insts) is
one_sink net (s ∷ t ∷ ts) w insts some few is = let no : ⊥ = omega (arith, few) in absurd no

-- sinks in two parts are moved part by part
two_parts : (net : List ℕ) (front back : List (List ℕ)) (insts : List Inst) → moved_sinks net (front ++ back) insts ≡ moved_sinks net back (moved_sinks net front insts)
two_parts net [] back insts = refl
two_parts net (s ∷ ss) back insts = two_parts net ss back (on_inst (before_last s) (with_conns (connected (after_last s) net)) insts)

pub cut_parts : (net : List ℕ) (sinks front back : List (List ℕ)) (mid : ℕ) (insts : List Inst) → front ≡ take mid sinks → back ≡ drop mid sinks
    → moved_sinks net back (moved_sinks net front insts) ≡ moved_sinks net sinks insts
cut_parts net sinks front back mid insts e d =
    sym (two_parts net front back insts)
    ∙ ap (λ zs. moved_sinks net zs insts) ((ap (λ ys. ys ++ back) e ∙ ap (λ ys. take mid sinks ++ ys) d) ∙ take-append-drop mid sinks)

-- a value that is one is each value that is the same
pub ok_as : {X E : Type 0} (r : Result X E) (a b : X) → a ≡ b → IfOk r (λ x. x ≡ a) → IfOk r (λ x. x ≡ b)
ok_as (Ok x) a b e h = h ∙ e
ok_as (Err y) a b e h = tt

-- the last instance alone has its name
pub on_last : (x : List ℕ) (change : Inst → Inst) (insts : List Inst) (g : Inst) → inst_named insts x ≡ None → bytes_eq g.name x ≡ true
    → on_inst x change (insts ++ g ∷ []) ≡ insts ++ change g ∷ []
on_last x change [] g none same = rw same refl
on_last x change (i ∷ is) g none same = elim (cases_Bool (bytes_eq i.name x)) [
  | inl e ↦ let f : Some i ≡ None = rw e at none in absurd (cc)
  | inr e ↦ rw e (ap (λ zs. i ∷ zs) (on_last x change is g (rw e at none) same))
]

has_cell : (o : Option Cell) → option_map_or is_buffer o false ≡ true → (c : Cell) × (o ≡ Some c) × (is_buffer c ≡ true)
has_cell None h = absurd (false≢true h)
has_cell (Some c) h = (c, refl, h)

pub cell_there : (d : Design) (cell : List ℕ) → option_map_or is_buffer (cell_for d cell) false ≡ true → is_some (cell_for d cell) ≡ true
cell_there d cell h = ap is_some (has_cell (cell_for d cell) h).1

-- the pins of the buffer's cell
pub first_named : (dir : Dir) (c : Cell) → nat_eq (length (pins_of_dir dir c)) 1 ≡ true → is_some (find (λ p. same_dir p.dir dir) c.pins) ≡ true
first_named dir c h = by c.pins h
  where
    by : (ps : List CellPin) → nat_eq (length (filter (λ p. same_dir p.dir dir) ps)) 1 ≡ true → is_some (find (λ p. same_dir p.dir dir) ps) ≡ true
    by [] h = absurd (false≢true h)
    by (p ∷ ps) h = elim (cases_Bool (same_dir p.dir dir)) [ inl e ↦ rw e refl | inr e ↦ rw e (by ps (rw e at h)) ]

pub one_of_dir : (dir : Dir) (c : Cell) → is_buffer c ≡ true → nat_eq (length (pins_of_dir dir c)) 1 ≡ true
one_of_dir Input c h = (and_parts (nat_eq (length (pins_of_dir Input c)) 1) (nat_eq (length (pins_of_dir Output c)) 1) h).0
one_of_dir Output c h = (and_parts (nat_eq (length (pins_of_dir Input c)) 1) (nat_eq (length (pins_of_dir Output c)) 1) h).1

-- its name is that of the first of its direction
pub first_is_named : (dir : Dir) (c : Cell) (p : CellPin) → find (λ p. same_dir p.dir dir) c.pins ≡ Some p → first_pin dir c ≡ p.name
first_is_named dir c p e = ap (λ o. option_map_or (λ (p : CellPin). p.name) o []) e

module _ (s gate : Stored) (s_numbered : IsNumbered s) (s_linked : IsLinked s.design) (numbered : IsNumbered gate) (linked : IsLinked gate.design)
    (x cell : List ℕ) (new : number_of s.insts x ≡ None) (buffer : option_map_or is_buffer (cell_for s.design cell) false ≡ true)
    (made : gate.design ≡ record s.design { insts = s.design.insts ++ record { name = x; cell = cell; conns = [] } ∷ [] }) where
  pub its : (c : Cell) × (cell_for s.design cell ≡ Some c) × (is_buffer c ≡ true)
  its = has_cell (cell_for s.design cell) buffer

  abbrev gate_inst : Inst
  gate_inst = record { name = x; cell = cell; conns = [] }

  absent : inst_named s.design.insts x ≡ None
  absent = no_inst s x s_numbered new

  gate_found : inst_named gate.design.insts x ≡ Some gate_inst
  gate_found =
      ap (λ (d : Design). inst_named d.insts x) made ∙ found_in (λ i. bytes_eq i.name x) s.design.insts (gate_inst ∷ []) absent ∙ last (same_self x)
    where
      last : bytes_eq x x ≡ true → find (λ i. bytes_eq i.name x) (gate_inst ∷ []) ≡ Some gate_inst
      last e = rw e refl

  late_is : cell_of gate.design Late gate_inst ≡ Some (its).0
  late_is = ap (λ (d : Design). cell_of d Late gate_inst) made ∙ usable_late s.design.early s.design.late cell (its).0 (its).1

  cell_distinct : are_distinct (map (λ p. p.name) (its).0.pins) ≡ true
  cell_distinct = distinct_pins s.design s_linked cell (its).0 (its).1

  cell_plain : list_all is_plain (its).0.pins ≡ true
  cell_plain = sym (ap (λ o. list_all is_plain (cell_pins o)) late_is) ∙ plain_pins gate.design linked gate_inst

  first_of : (dir : Dir) → FirstPin (its).0 dir
  first_of dir = first_is (its).0 cell_distinct dir (one_of_dir dir (its).0 (its).2)

  first_found : (dir : Dir) → is_some (find (λ p. bytes_eq p.name (first_pin dir (its).0)) (its).0.pins) ≡ true
  first_found dir =
      let f = first_of dir in
      sym (is_mapped (find (λ p. bytes_eq p.name (first_pin dir (its).0)) (its).0.pins)) ∙ ap is_some f.known
    where
      is_mapped : (o : Option CellPin) → is_some (option_map (λ p. p.dir) o) ≡ is_some o
      is_mapped None = refl
      is_mapped (Some p) = refl

  first_plain : (dir : Dir) → has_colon (first_pin dir (its).0) ≡ false
  first_plain dir =
      let p = some_of (find (λ p. bytes_eq p.name (first_pin dir (its).0)) (its).0.pins) (first_found dir) in
      let called = same_is p.0.name (first_pin dir (its).0) (found_passes (λ p. bytes_eq p.name (first_pin dir (its).0)) (its).0.pins p.0 p.1) in
      ap has_colon (sym called)
      ∙ not-true (has_colon p.0.name) (found_keeps (λ p. bytes_eq p.name (first_pin dir (its).0)) is_plain (its).0.pins p.0 cell_plain p.1)

  -- the word of a pin of the buffer
  module _ (dir : Dir) (w : List ℕ) (told : (c : Cell) → cell_for s.design cell ≡ Some c → w ≡ x ++ 58 ∷ first_pin dir c) where
    w_is : w ≡ x ++ 58 ∷ first_pin dir (its).0
    w_is = told (its).0 (its).1

    w_colon : has_colon w ≡ true
    w_colon = ap has_colon w_is ∙ colon_in x (first_pin dir (its).0)

    pub w_before : before_last w ≡ x
    w_before = ap before_last w_is ∙ before_is x (first_pin dir (its).0) (first_plain dir)

    pub w_after : after_last w ≡ first_pin dir (its).0
    w_after = ap after_last w_is ∙ after_is x (first_pin dir (its).0) (first_plain dir)

    w_pin : is_some (pin_named gate.design w) ≡ true
    w_pin =
        ap is_some
        (pin_by_word gate.design linked w w_colon
        ∙ ap (λ z. option_and_then (λ i. pin_at gate.design i (after_last w)) (inst_named gate.design.insts z)) w_before
        ∙ ap (option_and_then (λ i. pin_at gate.design i (after_last w))) gate_found
        ∙ ap (pin_at gate.design gate_inst) w_after
        ∙ ap (λ o. option_map (cell_pin gate_inst) (find (λ p. bytes_eq p.name (first_pin dir (its).0)) (cell_pins o))) late_is)
        ∙ is_pin (find (λ p. bytes_eq p.name (first_pin dir (its).0)) (its).0.pins) ∙ first_found dir
      where
        is_pin : (o : Option CellPin) → is_some (option_map (cell_pin gate_inst) o) ≡ is_some o
        is_pin None = refl
        is_pin (Some p) = refl

    pub pin_ready : is_pin_word gate.pins w ≡ true
    pin_ready = and_from (has_colon w) (is_some (number_of gate.pins w)) w_colon (numbered.pin_names w ∙ w_pin)

  -- its input joins one net, its output the other
  module _ (net fresh a b : List ℕ) (a_told : (c : Cell) → cell_for s.design cell ≡ Some c → a ≡ x ++ 58 ∷ first_pin Input c)
      (b_told : (c : Cell) → cell_for s.design cell ≡ Some c → b ≡ x ++ 58 ∷ first_pin Output c) (fed done : Stored)
      (fed_is : fed ≡ with_insts gate (on_inst (before_last a) (with_conns (connected (after_last a) net)) gate.design.insts))
      (done_is : done ≡ with_insts fed (on_inst (before_last b) (with_conns (connected (after_last b) fresh)) fed.design.insts)) where
    abbrev fed_inst : Inst
    fed_inst = record { name = x; cell = cell; conns = record { pin = first_pin Input (its).0; net = Some net } ∷ [] }

    fed_insts : fed.design.insts ≡ s.design.insts ++ fed_inst ∷ []
    fed_insts =
        ap (λ (z : Stored). z.design.insts) fed_is
        ∙ ap (λ z. on_inst z (with_conns (connected (after_last a) net)) gate.design.insts) (w_before Input a a_told)
        ∙ ap (λ o. on_inst x (with_conns (connected o net)) gate.design.insts) (w_after Input a a_told)
        ∙ ap (λ (d : Design). on_inst x (with_conns (connected (first_pin Input (its).0) net)) d.insts) made
        ∙ on_last x (with_conns (connected (first_pin Input (its).0) net)) s.design.insts gate_inst absent (same_self x)

    second : connected (first_pin Output (its).0) fresh (record { pin = first_pin Input (its).0; net = Some net } ∷ [])
        ≡ record { pin = first_pin Input (its).0; net = Some net } ∷ record { pin = first_pin Output (its).0; net = Some fresh } ∷ []
    second = by (apart_pins (its).0 (first_of Input) (first_of Output))
      where
        by : bytes_eq (first_pin Input (its).0) (first_pin Output (its).0) ≡ false
            → connected (first_pin Output (its).0) fresh (record { pin = first_pin Input (its).0; net = Some net } ∷ [])
            ≡ record { pin = first_pin Input (its).0; net = Some net } ∷ record { pin = first_pin Output (its).0; net = Some fresh } ∷ []
        by e = rw e refl

    done_insts : on_inst (before_last b) (with_conns (connected (after_last b) fresh)) fed.design.insts ≡ s.design.insts ++ buffer_inst s.design net x fresh cell ∷ []
    done_insts =
        ap (λ z. on_inst z (with_conns (connected (after_last b) fresh)) fed.design.insts) (w_before Output b b_told)
        ∙ ap (λ o. on_inst x (with_conns (connected o fresh)) fed.design.insts) (w_after Output b b_told)
        ∙ ap (on_inst x (with_conns (connected (first_pin Output (its).0) fresh))) fed_insts
        ∙ on_last x (with_conns (connected (first_pin Output (its).0) fresh)) s.design.insts fed_inst absent (same_self x)
        ∙ ap (λ cs. s.design.insts ++ record { name = x; cell = cell; conns = cs } ∷ []) second
        ∙ sym (ap (λ o. s.design.insts ++ record { name = x; cell = cell; conns = option_map_or (λ c. record { pin = first_pin Input c; net = Some net } ∷ record { pin = first_pin Output c; net = Some fresh } ∷ []) o [] } ∷ []) (its).1)

    pub buffer_design : done.design ≡ record s.design { insts = s.design.insts ++ buffer_inst s.design net x fresh cell ∷ [] }
    buffer_design =
        ap (λ (z : Stored). z.design) done_is
        ∙ ap (λ (z : Stored). record z.design { insts = on_inst (before_last b) (with_conns (connected (after_last b) fresh)) fed.design.insts }) fed_is
        ∙ ap (λ (d : Design). record d { insts = on_inst (before_last b) (with_conns (connected (after_last b) fresh)) fed.design.insts }) made
        ∙ ap (λ xs. record s.design { insts = xs }) done_insts

    pub same_insts : done.insts ≡ gate.insts
    same_insts = ap (λ (z : Stored). z.insts) done_is ∙ ap (λ (z : Stored). z.insts) fed_is

    pub same_nets : done.nets ≡ gate.nets
    same_nets = ap (λ (z : Stored). z.nets) done_is ∙ ap (λ (z : Stored). z.nets) fed_is

    pub same_pins : done.pins ≡ gate.pins
    same_pins = ap (λ (z : Stored). z.pins) done_is ∙ ap (λ (z : Stored). z.pins) fed_is

-- the new net is there
pub wide_has : (s bare wide : Stored) (net fresh : List ℕ) → bare ≡ with_rcs s (without_rc net s.design.rcs)
    → wide ≡ with_nets bare (bare.design.nets ++ fresh ∷ []) wide.nets → is_listed wide.design.nets fresh ≡ true
wide_has s bare wide net fresh bare_is wide_is =
    ap (λ (z : Stored). is_listed z.design.nets fresh) wide_is ∙ listed_last bare.design.nets fresh

-- all of it
module _ (s bare wide moved : Stored) (net fresh : List ℕ) (sinks : List (List ℕ)) (bare_is : bare ≡ with_rcs s (without_rc net s.design.rcs))
    (wide_is : wide ≡ with_nets bare (bare.design.nets ++ fresh ∷ []) wide.nets) (moved_is : moved ≡ with_insts wide (moved_sinks fresh sinks wide.design.insts)) where
  wide_now : wide ≡ with_nets (with_rcs s (without_rc net s.design.rcs)) (s.design.nets ++ fresh ∷ []) wide.nets
  wide_now = wide_is ∙ ap (λ (z : Stored). with_nets z (z.design.nets ++ fresh ∷ []) wide.nets) bare_is

  wide_pins : wide.pins ≡ s.pins
  wide_pins = ap (λ (z : Stored). z.pins) wide_now

  pub moved_design : moved.design ≡ record s.design { nets = s.design.nets ++ fresh ∷ []; insts = moved_sinks fresh sinks s.design.insts; rcs = without_rc net s.design.rcs }
  moved_design =
      ap (λ (z : Stored). z.design) moved_is
      ∙ ap (λ (z : Stored). record z.design { insts = moved_sinks fresh sinks z.design.insts }) wide_now

  pub moved_insts : moved.insts ≡ s.insts
  moved_insts = ap (λ (z : Stored). z.insts) moved_is ∙ ap (λ (z : Stored). z.insts) wide_now

  pub moved_nets : moved.nets ≡ wide.nets
  moved_nets = ap (λ (z : Stored). z.nets) moved_is

  pub moved_pins : moved.pins ≡ s.pins
  moved_pins = ap (λ (z : Stored). z.pins) moved_is ∙ wide_pins

  pub net_stays : is_listed s.design.nets net ≡ true → is_listed moved.design.nets net ≡ true
  net_stays there = ap (λ (d : Design). is_listed d.nets net) moved_design ∙ listed_push s.design.nets fresh net there

  pub fresh_there : is_listed moved.design.nets fresh ≡ true
  fresh_there = ap (λ (d : Design). is_listed d.nets fresh) moved_design ∙ listed_last s.design.nets fresh

  pub buffer_stays : (cell : List ℕ) → option_map_or is_buffer (cell_for s.design cell) false ≡ true → option_map_or is_buffer (cell_for moved.design cell) false ≡ true
  buffer_stays cell h = ap (λ (d : Design). option_map_or is_buffer (cell_for d cell) false) moved_design ∙ h

  pub whole_design : (inst cell : List ℕ) (done : Design) → done ≡ record moved.design { insts = moved.design.insts ++ buffer_inst moved.design net inst fresh cell ∷ [] }
      → done ≡ changed s.design (InsertBuffer net inst fresh cell sinks)
  whole_design inst cell done e =
      e ∙ ap (λ (d : Design). record d { insts = d.insts ++ buffer_inst d net inst fresh cell ∷ [] }) moved_design

-- numberings that are the same
pub follows_same : (base a b : Stored) → b.insts ≡ a.insts → b.nets ≡ a.nets → b.pins ≡ a.pins → FollowsAll base a → FollowsAll base b
follows_same base a b e f g h = record {
  insts = subst (Follows base.insts) (sym e) h.insts;
  nets = subst (Follows base.nets) (sym f) h.nets;
  pins = subst (Follows base.pins) (sym g) h.pins;
}
