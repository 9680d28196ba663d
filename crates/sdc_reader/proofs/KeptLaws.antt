-- Constraints that are read are as engines ask of them.
use Rattle.std.proofs.Common.{◌≡◌, ℕ, ◌+◌, ◌<◌, ◌≤◌, Bool, true, false, List, [], ◌∷◌, ◌++◌, map, length, ◌&&◌, ◌||◌, not, cond, refl, sym, ap, subst, ◌∙◌, arith, length-append, append-nil}
use Rattle.std.specs.Prelude.{Option, Some, None, option_map, Result, Ok, Err, IfOk, MatchResult, ℤ, pos, negsuc, ◌+ℤ◌, int_le, int_lt, nat_le, nat_lt, unsigned_abs}
use Rattle.std.specs.Bool.{beq}
use Rattle.std.specs.Int.{int_div_euclid}
use Rattle.std.specs.List.{list_all, list_any, filter_map, cons_option}
use Rattle.std.specs.Option.{option_map_or}
use Rattle.std.specs.Str.{bytes_eq}
use Rattle.std.proofs.lemmas.Bool.{cond_both, and_parts, and_from, or_parts, le-leb, false≢true}
use Rattle.std.proofs.lemmas.Bool.Decides.{nat_tests}
use Rattle.std.proofs.lemmas.List.{map-append, length-map}
use Rattle.std.proofs.lemmas.List.Folds.{list_all-append}
use Rattle.std.proofs.lemmas.List.Elements.{filter_map-append}
use Rattle.sta_units.specs.Numbers.{is_within}
use Rattle.sta_units.specs.Decimal.{decimal_of}
use Rattle.sta_units.specs.declared.decimals.DecFault.{DecFault}
use Rattle.sta_units.specs.declared.units.Fs.{Fs}
use Rattle.timing_defs.specs.declared.kinds.Split.TheVariants.{Early, Late}
use Rattle.timing_defs.specs.declared.kinds.Tran.TheVariants.{Rise, Fall}
use Rattle.timing_defs.specs.declared.library.Units.{Units}
use Rattle.timing_defs.specs.declared.constraints.Clock.{Clock}
use Rattle.timing_defs.specs.declared.constraints.Effect.{Effect}
use Rattle.timing_defs.specs.declared.constraints.Effect.TheVariants.{FalseSetup, FalseHold}
use Rattle.timing_defs.specs.declared.constraints.Exception.{Exception}
use Rattle.timing_defs.specs.declared.constraints.Derates.{Derates}
use Rattle.timing_defs.specs.declared.constraints.Constraints.{Constraints}
use Rattle.timing_defs.specs.declared.codes.ReadFault.{ReadFault}
use Rattle.sta_text.specs.Faults.{Fails}
use Rattle.sdc_reader.specs.Faults.{faults_of}
use Rattle.timing_defs.specs.declared.texts.Style.TheVariants.{Tcl}
use Rattle.timing_defs.specs.Netlist.{is_listed, are_distinct, same_split, same_tran}
use Rattle.timing_defs.specs.Documents.{is_amount, is_clock, differ, is_port_delay, same_delay, same_slew, same_load, is_effect, are_derates, are_constraints}
use Rattle.timing_defs.proofs.SameNames.{same-sym}
use Rattle.sta_text.specs.Names.{stands}
use Rattle.sta_text.specs.Tokens.{tokens_of}
use Rattle.sta_text.proofs.NamesLemmas.{stands_push}
use Rattle.sta_text.proofs.DecimalLemmas.{IfWithin, decimal_kept}
use Rattle.sdc_reader.specs.declared.commands.Command.{Command}
use Rattle.sdc_reader.specs.declared.commands.Command.TheVariants.{CreateClock, InputDelay, OutputDelay, InputTransition, Load, Uncertainty, FalsePath, Multicycle, Units as set_units, Derate}
use Rattle.sdc_reader.specs.declared.commands.Quantity.{Quantity}
use Rattle.sdc_reader.specs.declared.commands.Quantity.TheVariants.{Period, WaveRise, WaveFall, Time as a_time, Slew as a_slew, Load as a_load, Cycles, Factor}
use Rattle.sdc_reader.specs.declared.commands.Role.{Role}
use Rattle.sdc_reader.specs.declared.commands.Role.TheVariants.{Ports, Clocks, Clock as One_clock, From, To}
use Rattle.sdc_reader.specs.declared.commands.Getter.{Getter}
use Rattle.sdc_reader.specs.declared.draft.Figure.{Figure}
use Rattle.sdc_reader.specs.declared.draft.Figure.TheVariants.{Absent, Faulty, Value}
use Rattle.sdc_reader.specs.declared.draft.Flags.{Flags}
use Rattle.sdc_reader.specs.declared.draft.Draft.{Draft}
use Rattle.sdc_reader.specs.declared.tables.Corner.{Corner}
use Rattle.sdc_reader.specs.declared.tables.Amount.{Amount}
use Rattle.sdc_reader.specs.declared.interpreter.Interpreter.{Interpreter}
use Rattle.sdc_reader.specs.declared.events.Event.{Event}
use Rattle.sdc_reader.specs.declared.events.Event.TheVariants.{Begin, Flag as Option_, Number, Waveform, Named, Objects, Object as An_object, TimeUnit, CapacitanceUnit, End, Fault}
use Rattle.sdc_reader.specs.Numbers.{scale, fits, figure, number_of, edges, edges_of, is_waveform, are_cycles}
use Rattle.sdc_reader.specs.Tables.{same_corner, written, meant, corner, written_if, at_split, at_split_if, at_port, load_at, at_ports, loads_at, delay_of, slew_of, load_of}
use Rattle.sdc_reader.specs.Grammar.{events_of}
use Rattle.sdc_reader.specs.Meaning.{empty_draft, with_flag, with_number, with_objects, with_object, named, first, clock_name, is_clock_named, is_clock_at, is_created, is_second, is_spread, fs, clock_with, clock_of_period, clock_limit, new_clock, with_clock, place_from, clock_place, amount_with, delay_amount, plain_amount, set_ports, set_loads, uncertain, uncertain_if, uncertain_clocks, exception, exception_if, false_paths, cycles_effect, multicycles, factor_if, derated, derates_with, ended, after, last, start, constraints, constraints_of}
use Rattle.sdc_reader.proofs.SuitLaws.{is_sized, is_size, suits, Suiting, text_suits}

-- a number that was read meets a test
abbrev IfValue : (ℤ → Bool) → Figure → Type 0
IfValue p Absent = Unit {0}
IfValue p Faulty = Unit {0}
IfValue p (Value value) = p value ≡ true

abbrev of_quantity : Quantity → ℤ → Bool
of_quantity quantity value = fits quantity value && is_within value

figure_kept : (quantity : Quantity) (r : Result ℤ DecFault) → IfWithin r → IfValue (of_quantity quantity) (figure quantity r)
figure_kept quantity (Ok value) h =
    cond_both (fits quantity value) (Value value) Faulty (IfValue (of_quantity quantity)) (λ fit. and_from (fits quantity value) (is_within value) fit h) (λ _. tt)
figure_kept quantity (Err fault) h = tt

number_kept : (units : Units) (quantity : Quantity) (word : List ℕ) → IfValue (of_quantity quantity) (number_of units quantity word)
unfolding number_of
number_kept units quantity word = figure_kept quantity (decimal_of word (scale units quantity)) (decimal_kept word (scale units quantity))

each_value : (p q : ℤ → Bool) (number : Figure) → ((value : ℤ) → p value ≡ true → q value ≡ true) → IfValue p number → IfValue q number
each_value p q Absent step h = tt
each_value p q Faulty step h = tt
each_value p q (Value value) step h = step value h

in_range : (quantity : Quantity) (value : ℤ) → of_quantity quantity value ≡ true → is_within value ≡ true
in_range quantity value h = (and_parts (fits quantity value) (is_within value) h).1

-- what a command has said so far
record IsDraft (d : Draft) : Type 0 where
  number : IfValue is_within d.number
  sized : is_sized d.command ≡ true → IfValue is_amount d.number
  period : IfValue (of_quantity Period) d.period
  rise : IfValue is_within d.wave.rise
  fall : IfValue is_within d.wave.fall

-- names of which none stands twice, with one more
push_distinct : (names : List (List ℕ)) (name : List ℕ) → are_distinct names ≡ true → stands names name ≡ false → are_distinct (names ++ name ∷ []) ≡ true
push_distinct [] name apart absent = refl
push_distinct (x ∷ xs) name apart absent =
    let here = and_parts (not (is_listed xs x)) (are_distinct xs) apart in
    let other = or_parts (bytes_eq name x) (stands xs name) absent in
    let not_last : is_listed (xs ++ name ∷ []) x ≡ is_listed xs x =
    stands_push xs name x ∙ ap (λ b. b || is_listed xs x) (same-sym x name ∙ other.0) in
    and_from (not (is_listed (xs ++ name ∷ []) x)) (are_distinct (xs ++ name ∷ [])) (ap not not_last ∙ here.0) (push_distinct xs name here.1 other.1)

-- tables of values: each corner once
abbrev has_corner : Corner → Corner × Amount → Bool
has_corner place entry = same_corner place entry.0

abbrev same_entry : Corner × Amount → Corner × Amount → Bool
same_entry a b = same_corner a.0 b.0

abbrev passes : (Corner → Bool) → (Amount → Bool) → Corner × Amount → Bool
passes r q entry = r entry.0 && q entry.1

record IsTable (r : Corner → Bool) (q : Amount → Bool) (table : List (Corner × Amount)) : Type 0 where
  keys : differ same_entry table ≡ true
  all : list_all (passes r q) table ≡ true

beq-sym : (a b : Bool) → beq a b ≡ beq b a
beq-sym true true = refl
beq-sym true false = refl
beq-sym false true = refl
beq-sym false false = refl

corner-sym : (a b : Corner) → same_corner a b ≡ same_corner b a
corner-sym a b = rw (same-sym a.port b.port, beq-sym a.late b.late, beq-sym a.fall b.fall) refl

absent_written : (key place : Corner) (amount : Amount) (table : List (Corner × Amount)) → same_corner key place ≡ false → list_any (has_corner key) table ≡ false → list_any (has_corner key) (written place amount table) ≡ false
absent_written key place amount [] other h = rw other refl
absent_written key place amount (entry ∷ table) other h =
    let parts = or_parts (same_corner key entry.0) (list_any (has_corner key) table) h in
    let rest = absent_written key place amount table other parts.1 in
    cond_both (same_corner place entry.0) ((entry.0, amount) ∷ table) (entry ∷ written place amount table) (λ ts. list_any (has_corner key) ts ≡ false)
    (λ _. rw (parts.0, parts.1) refl) (λ _. rw (parts.0, rest) refl)

keys_written : (place : Corner) (amount : Amount) (table : List (Corner × Amount)) → differ same_entry table ≡ true → differ same_entry (written place amount table) ≡ true
keys_written place amount [] h = refl
keys_written place amount (entry ∷ table) h =
    let parts = and_parts (not (list_any (same_entry entry) table)) (differ same_entry table) h in
    let rest = keys_written place amount table parts.1 in
    cond_both (same_corner place entry.0) ((entry.0, amount) ∷ table) (entry ∷ written place amount table) (λ ts. differ same_entry ts ≡ true)
    (λ _. h)
    (λ other. and_from (not (list_any (same_entry entry) (written place amount table))) (differ same_entry (written place amount table))
    (absent entry.0 (list_any (same_entry entry) table) refl parts.0 (corner-sym entry.0 place ∙ other)) rest)
  where
    absent : (key : Corner) (b : Bool) → list_any (has_corner key) table ≡ b → not b ≡ true → same_corner key place ≡ false → not (list_any (has_corner key) (written place amount table)) ≡ true
    absent key true e g other = absurd (false≢true g)
    absent key false e g other = ap not (absent_written key place amount table other e)

all_written : (r : Corner → Bool) (q : Amount → Bool) (place : Corner) (amount : Amount) (table : List (Corner × Amount)) → r place ≡ true → q amount ≡ true → list_all (passes r q) table ≡ true → list_all (passes r q) (written place amount table) ≡ true
all_written r q place amount [] at is h = rw (at, is) refl
all_written r q place amount (entry ∷ table) at is h =
    let parts = and_parts (passes r q entry) (list_all (passes r q) table) h in
    let mine = and_parts (r entry.0) (q entry.1) parts.0 in
    let rest = all_written r q place amount table at is parts.1 in
    cond_both (same_corner place entry.0) ((entry.0, amount) ∷ table) (entry ∷ written place amount table) (λ ts. list_all (passes r q) ts ≡ true)
    (λ _. rw (mine.0, is, parts.1) refl) (λ _. and_from (passes r q entry) (list_all (passes r q) (written place amount table)) parts.0 rest)

module _ (r : Corner → Bool) (q : Amount → Bool) (amount : Amount) (is : q amount ≡ true) where
  if_kept : (chosen : Bool) (place : Corner) (table : List (Corner × Amount)) → r place ≡ true → IsTable r q table → IsTable r q (written_if chosen place amount table)
  if_kept chosen place table at h =
      cond_both chosen (written place amount table) table (IsTable r q)
      (λ _. record { keys = keys_written place amount table h.keys; all = all_written r q place amount table at is h.all }) (λ _. h)

  split_kept : (flags : Flags) (late : Bool) (port : List ℕ) (table : List (Corner × Amount)) → ((place : Corner) → r place ≡ true) → IsTable r q table → IsTable r q (at_split flags late amount port table)
  split_kept flags late port table at h =
      if_kept (meant flags.fall flags.rise) (corner port late true) (written_if (meant flags.rise flags.fall) (corner port late false) amount table) (at (corner port late true))
      (if_kept (meant flags.rise flags.fall) (corner port late false) table (at (corner port late false)) h)

  chosen_kept : (chosen : Bool) (flags : Flags) (late : Bool) (port : List ℕ) (table : List (Corner × Amount)) → ((place : Corner) → r place ≡ true) → IsTable r q table → IsTable r q (at_split_if chosen flags late amount port table)
  chosen_kept chosen flags late port table at h =
      cond_both chosen (at_split flags late amount port table) table (IsTable r q) (λ _. split_kept flags late port table at h) (λ _. h)

  port_kept : (flags : Flags) (port : List ℕ) (table : List (Corner × Amount)) → ((place : Corner) → r place ≡ true) → IsTable r q table → IsTable r q (at_port flags amount port table)
  unfolding at_port
  port_kept flags port table at h =
      chosen_kept (meant flags.late flags.early) flags true port (at_split_if (meant flags.early flags.late) flags false amount port table) at
      (chosen_kept (meant flags.early flags.late) flags false port table at h)

  ports_kept : (flags : Flags) (ports : List (List ℕ)) (table : List (Corner × Amount)) → ((place : Corner) → r place ≡ true) → IsTable r q table → IsTable r q (at_ports flags amount ports table)
  unfolding at_ports
  ports_kept flags [] table at h = h
  ports_kept flags (port ∷ ports) table at h = ports_kept flags ports (at_port flags amount port table) at (port_kept flags port table at h)

  load_kept : (flags : Flags) (port : List ℕ) (table : List (Corner × Amount)) → ((late : Bool) → r (corner port late false) ≡ true) → IsTable r q table → IsTable r q (load_at flags amount port table)
  unfolding load_at
  load_kept flags port table at h =
      if_kept (meant flags.late flags.early) (corner port true false) (written_if (meant flags.early flags.late) (corner port false false) amount table) (at true)
      (if_kept (meant flags.early flags.late) (corner port false false) table (at false) h)

  loads_kept : (flags : Flags) (ports : List (List ℕ)) (table : List (Corner × Amount)) → ((port : List ℕ) (late : Bool) → r (corner port late false) ≡ true) → IsTable r q table → IsTable r q (loads_at flags amount ports table)
  unfolding loads_at
  loads_kept flags [] table at h = h
  loads_kept flags (port ∷ ports) table at h = loads_kept flags ports (load_at flags amount port table) at (load_kept flags port table (at port) h)

abbrev IfAmount : (Amount → Bool) → Option Amount → Type 0
IfAmount q None = Unit {0}
IfAmount q (Some amount) = q amount ≡ true

abbrev any_corner : Corner → Bool
any_corner place = true

abbrev no_fall : Corner → Bool
no_fall place = not place.fall

set_kept : (q : Amount → Bool) (d : Draft) (amount : Option Amount) (table : List (Corner × Amount)) → IfAmount q amount → IsTable any_corner q table → IsTable any_corner q (set_ports d amount table)
set_kept q d None table is h = h
set_kept q d (Some amount) table is h = ports_kept any_corner q amount is d.flags (named d) table (λ place. refl) h

set_loads_kept : (q : Amount → Bool) (d : Draft) (amount : Option Amount) (table : List (Corner × Amount)) → IfAmount q amount → IsTable no_fall q table → IsTable no_fall q (set_loads d amount table)
set_loads_kept q d None table is h = h
set_loads_kept q d (Some amount) table is h = loads_kept no_fall q amount is d.flags (named d) table (λ port late. refl) h

-- what the tables are as values of ports
split_same : (a b : Bool) → same_split (cond a Late Early) (cond b Late Early) ≡ beq a b
split_same true true = refl
split_same true false = refl
split_same false true = refl
split_same false false = refl

tran_same : (a b : Bool) → same_tran (cond a Fall Rise) (cond b Fall Rise) ≡ beq a b
tran_same true true = refl
tran_same true false = refl
tran_same false true = refl
tran_same false false = refl

and_past : (a b c : Bool) → (a && b && c) ≡ (a && (b && c))
and_past true b c = refl
and_past false b c = refl

delay_same : (a b : Corner × Amount) → same_delay (delay_of a) (delay_of b) ≡ same_entry a b
delay_same a b =
    rw (split_same a.0.late b.0.late, tran_same a.0.fall b.0.fall) (and_past (bytes_eq a.0.port b.0.port) (beq a.0.late b.0.late) (beq a.0.fall b.0.fall))

slew_same : (a b : Corner × Amount) → same_slew (slew_of a) (slew_of b) ≡ same_entry a b
slew_same a b =
    rw (split_same a.0.late b.0.late, tran_same a.0.fall b.0.fall) (and_past (bytes_eq a.0.port b.0.port) (beq a.0.late b.0.late) (beq a.0.fall b.0.fall))

-- entries that are the same as values of ports are the same in the table
module _ {X : Type 0} (to : Corner × Amount → X) (same : X → X → Bool) (alike : (a b : Corner × Amount) → same (to a) (to b) ≡ same_entry a b) where
  any_same : (a : Corner × Amount) (table : List (Corner × Amount)) → list_any (same (to a)) (map to table) ≡ list_any (same_entry a) table
  any_same a [] = refl
  any_same a (b ∷ table) = rw (alike a b, any_same a table) refl

  differ_same : (table : List (Corner × Amount)) → differ same (map to table) ≡ differ same_entry table
  differ_same [] = refl
  differ_same (a ∷ table) = rw (any_same a table, differ_same table) refl

load_same : (a b : Corner × Amount) → no_fall a.0 ≡ true → no_fall b.0 ≡ true → same_load (load_of a) (load_of b) ≡ same_entry a b
load_same a b h k = rw (split_same a.0.late b.0.late) (ap (λ c. bytes_eq a.0.port b.0.port && c) (low a.0.fall b.0.fall h k))
  where
    low : (x y : Bool) → not x ≡ true → not y ≡ true → beq a.0.late b.0.late ≡ (beq a.0.late b.0.late && beq x y)
    low true y h k = absurd (false≢true h)
    low false true h k = absurd (false≢true k)
    low false false h k = and_true (beq a.0.late b.0.late)
      where
        and_true : (c : Bool) → c ≡ (c && true)
        and_true true = refl
        and_true false = refl

any_load : (q : Amount → Bool) (a : Corner × Amount) (table : List (Corner × Amount)) → no_fall a.0 ≡ true → list_all (passes no_fall q) table ≡ true → list_any (same_load (load_of a)) (map load_of table) ≡ list_any (same_entry a) table
any_load q a [] h all = refl
any_load q a (b ∷ table) h all =
    let parts = and_parts (passes no_fall q b) (list_all (passes no_fall q) table) all in
    rw (load_same a b h (and_parts (no_fall b.0) (q b.1) parts.0).0, any_load q a table h parts.1) refl

differ_load : (q : Amount → Bool) (table : List (Corner × Amount)) → list_all (passes no_fall q) table ≡ true → differ same_load (map load_of table) ≡ differ same_entry table
differ_load q [] all = refl
differ_load q (a ∷ table) all =
    let parts = and_parts (passes no_fall q a) (list_all (passes no_fall q) table) all in
    rw (any_load q a table (and_parts (no_fall a.0) (q a.1) parts.0).0 parts.1, differ_load q table parts.1) refl

all_to : {X : Type 0} (to : Corner × Amount → X) (p : X → Bool) (r : Corner → Bool) (q : Amount → Bool) (table : List (Corner × Amount)) → ((e : Corner × Amount) → q e.1 ≡ true → p (to e) ≡ true) → list_all (passes r q) table ≡ true → list_all p (map to table) ≡ true
all_to to p r q [] step h = refl
all_to to p r q (e ∷ table) step h =
    let parts = and_parts (passes r q e) (list_all (passes r q) table) h in
    and_from (p (to e)) (list_all p (map to table)) (step e (and_parts (r e.0) (q e.1) parts.0).1) (all_to to p r q table step parts.1)

all_more : (r : Corner → Bool) (p q : Amount → Bool) (table : List (Corner × Amount)) → ((amount : Amount) → p amount ≡ true → q amount ≡ true) → list_all (passes r p) table ≡ true → list_all (passes r q) table ≡ true
all_more r p q [] step h = refl
all_more r p q (e ∷ table) step h =
    let parts = and_parts (passes r p e) (list_all (passes r p) table) h in
    let mine = and_parts (r e.0) (p e.1) parts.0 in
    and_from (passes r q e) (list_all (passes r q) table) (and_from (r e.0) (q e.1) mine.0 (step e.1 mine.1)) (all_more r p q table step parts.1)

-- the amounts of delays, and those of slews and loads
abbrev of_clocks : ℕ → Amount → Bool
of_clocks count amount = nat_lt amount.clock count && is_within amount.value

abbrev of_size : Amount → Bool
of_size amount = is_amount amount.value

more_clocks : (few many : ℕ) (table : List (Corner × Amount)) → few ≤ many → IsTable any_corner (of_clocks few) table → IsTable any_corner (of_clocks many) table
more_clocks few many table less h = record {
  keys = h.keys;
  all = all_more any_corner (of_clocks few) (of_clocks many) table (λ amount is.
      let parts = and_parts (nat_lt amount.clock few) (is_within amount.value) is in
      and_from (nat_lt amount.clock many) (is_within amount.value) (grind (arith, nat_tests, less, parts.0)) parts.1) h.all;
}

place_within : (n : ℕ) (name : List ℕ) (clocks : List Clock) (k : ℕ) → place_from n name clocks ≡ Some k → k < n + length clocks
unfolding place_from
place_within n name [] k h = absurd (cc)
place_within n name (clock ∷ clocks) k h = by_cases (is_clock_named name clock) h (λ g. place_within (n + 1) name clocks k g)
  where
    by_cases : (b : Bool) → cond b (Some n) (place_from (n + 1) name clocks) ≡ Some k → (place_from (n + 1) name clocks ≡ Some k → k < n + 1 + length clocks) → k < n + length (clock ∷ clocks)
    by_cases true g rest = let same : n ≡ k = cc in omega (arith, same)
    by_cases false g rest = omega (arith, rest g)

delay_kept : (clocks : List Clock) (number : Figure) (place : Option ℕ) → ((k : ℕ) → place ≡ Some k → k < length clocks) → IfValue is_within number → IfAmount (of_clocks (length clocks)) (amount_with number place)
delay_kept clocks Absent place within h = tt
delay_kept clocks Faulty place within h = tt
delay_kept clocks (Value value) None within h = tt
delay_kept clocks (Value value) (Some k) within h =
    and_from (nat_lt k (length clocks)) (is_within value) (grind (arith, nat_tests, within k refl)) h

place_of : (clocks : List Clock) (name : Option (List ℕ)) (k : ℕ) → option_map_or (clock_place clocks) name None ≡ Some k → k < length clocks
place_of clocks None k h = absurd (cc)
place_of clocks (Some name) k h = let found = place_within 0 name clocks k h in omega (arith, found)

plain_kept : (number : Figure) → IfValue is_amount number → IfAmount of_size (amount_with number (Some 0))
plain_kept Absent h = tt
plain_kept Faulty h = tt
plain_kept (Value value) h = h

-- clocks
record AreClocks (clocks : List Clock) : Type 0 where
  few : length clocks ≤ 8
  names : are_distinct (map (λ clock. clock.name) clocks) ≡ true
  ports : are_distinct (filter_map (λ clock. clock.port) clocks) ≡ true
  each : list_all is_clock clocks ≡ true

-- a clock that is created
abbrev IsNew : Draft → Option (List ℕ) → Option Clock → Type 0
IsNew d name None = Unit {0}
IsNew d name (Some clock) = (is_clock clock ≡ true) × (name ≡ Some clock.name) × (clock.port ≡ first (named d))

half_kept : (name : List ℕ) (port : Option (List ℕ)) (period : ℤ) → of_quantity Period period ≡ true → is_clock (clock_with name port period (pos 0, int_div_euclid period (pos 2))) ≡ true
half_kept name port (pos n) h = grind (arith, nat_tests)
half_kept name port (negsuc n) h = absurd (false≢true h)

waved : (name : List ℕ) (port : Option (List ℕ)) (period rise fall : ℤ) → of_quantity Period period ≡ true → is_within rise ≡ true → is_within fall ≡ true → is_waveform period rise fall ≡ true → is_clock (clock_with name port period (rise, fall)) ≡ true
waved name port period rise fall h r f wave =
    let whole = and_parts (int_le (pos 2) period) (is_within period) h in
    let inner = and_parts (int_le (pos 0) rise && int_lt rise fall) (int_lt fall (rise +ℤ period)) wave in
    let outer = and_parts (int_le (pos 0) rise) (int_lt rise fall) inner.0 in
    rw (whole.0, whole.1, outer.0, outer.1, inner.1, r, f) refl

made : (d : Draft) (name : List ℕ) (period : ℤ) (times : Option (ℤ × ℤ)) → ((pair : ℤ × ℤ) → times ≡ Some pair → is_clock (clock_with name (first (named d)) period pair) ≡ true) → IsNew d (Some name) (option_map (clock_with name (first (named d)) period) times)
made d name period None h = tt
made d name period (Some pair) h = (h pair refl, refl, refl)

edges_kept : (d : Draft) (name : List ℕ) (port : Option (List ℕ)) (period : ℤ) (at : Option ℕ) (rise fall : Figure) → of_quantity Period period ≡ true → IfValue is_within rise → IfValue is_within fall → (pair : ℤ × ℤ) → edges_of at period rise fall ≡ Some pair → is_clock (clock_with name port period pair) ≡ true
edges_kept d name port period None rise fall h r f pair e =
    let same : (pos 0, int_div_euclid period (pos 2)) ≡ pair = cc in
    subst (λ (p : ℤ × ℤ). is_clock (clock_with name port period p) ≡ true) same (half_kept name port period h)
edges_kept d name port period (Some at) Absent fall h r f pair e = absurd (cc)
edges_kept d name port period (Some at) Faulty fall h r f pair e = absurd (cc)
edges_kept d name port period (Some at) (Value rise) Absent h r f pair e = absurd (cc)
edges_kept d name port period (Some at) (Value rise) Faulty h r f pair e = absurd (cc)
edges_kept d name port period (Some at) (Value rise) (Value fall) h r f pair e = by_cases (is_waveform period rise fall) refl e
  where
    by_cases : (b : Bool) → is_waveform period rise fall ≡ b → cond b (Some (rise, fall)) None ≡ Some pair → is_clock (clock_with name port period pair) ≡ true
    by_cases true wave g =
        let same : (rise, fall) ≡ pair = cc in
        subst (λ (p : ℤ × ℤ). is_clock (clock_with name port period p) ≡ true) same (waved name port period rise fall h r f wave)
    by_cases false wave g = absurd (cc)

period_kept : (d : Draft) (name : Option (List ℕ)) (period : Figure) → IsDraft d → IfValue (of_quantity Period) period → IsNew d name (clock_of_period d name period)
period_kept d None period h p = tt
period_kept d (Some name) Absent h p = (refl, refl, refl)
period_kept d (Some name) Faulty h p = tt
period_kept d (Some name) (Value period) h p =
    made d name period (edges period d.wave) (edges_kept d name (first (named d)) period d.wave.at d.wave.rise d.wave.fall p h.rise h.fall)

created_is : (clocks : List Clock) (name : List ℕ) → is_created clocks name ≡ stands (map (λ clock. clock.name) clocks) name
created_is [] name = refl
created_is (clock ∷ clocks) name = rw (same-sym clock.name name, created_is clocks name) refl

at_port_is : (clocks : List Clock) (port : List ℕ) → list_any (is_clock_at port) clocks ≡ stands (filter_map (λ clock. clock.port) clocks) port
at_port_is [] port = refl
at_port_is (clock ∷ clocks) port = by_cases clock.port (at_port_is clocks port)
  where
    by_cases : (found : Option (List ℕ)) → list_any (is_clock_at port) clocks ≡ stands (filter_map (λ c. c.port) clocks) port
        → (option_map_or (bytes_eq port) found false || list_any (is_clock_at port) clocks) ≡ stands (cons_option found (filter_map (λ c. c.port) clocks)) port
    by_cases None rest = rest
    by_cases (Some x) rest = ap (λ b. bytes_eq port x || b) rest

-- a port of the new clock has no other
unused : (clocks : List Clock) (port : Option (List ℕ)) → option_map_or (λ p. list_any (is_clock_at p) clocks) port false ≡ false → are_distinct (filter_map (λ clock. clock.port) clocks) ≡ true → are_distinct (filter_map (λ clock. clock.port) clocks ++ cons_option port []) ≡ true
unused clocks None free h = subst (λ ports. are_distinct ports ≡ true) (sym (append-nil (filter_map (λ clock. clock.port) clocks))) h
unused clocks (Some port) free h = push_distinct (filter_map (λ clock. clock.port) clocks) port h (sym (at_port_is clocks port) ∙ free)

unnamed : (clocks : List Clock) (name : Option (List ℕ)) (word : List ℕ) → name ≡ Some word → option_map_or (is_created clocks) name false ≡ false → stands (map (λ clock. clock.name) clocks) word ≡ false
unnamed clocks name word same free =
    let other : option_map_or (is_created clocks) (Some word) false ≡ false = subst (λ (n : Option (List ℕ)). option_map_or (is_created clocks) n false ≡ false) same free in
    sym (created_is clocks word) ∙ other

one_more : (d : Draft) (clocks : List Clock) (found : Option Clock) → AreClocks clocks → is_second clocks d ≡ false → length clocks < 8 → IsNew d (clock_name d) found → AreClocks (with_clock clocks found)
one_more d clocks None h free room new = h
one_more d clocks (Some clock) h free room new =
    let parts = or_parts (option_map_or (is_created clocks) (clock_name d) false) (option_map_or (λ port. list_any (is_clock_at port) clocks) (first (named d)) false) free in
    record {
      few = omega (arith, length-append clocks (clock ∷ []), room);
      names = rw (map-append (λ (c : Clock). c.name) clocks (clock ∷ []))
          (push_distinct (map (λ c. c.name) clocks) clock.name h.names (unnamed clocks (clock_name d) clock.name new.1 parts.0));
      ports = rw (filter_map-append (λ (c : Clock). c.port) clocks (clock ∷ []))
          (unused clocks clock.port (subst (λ (port : Option (List ℕ)). option_map_or (λ p. list_any (is_clock_at p) clocks) port false ≡ false) (sym new.2) parts.1) h.ports);
      each = rw (list_all-append is_clock clocks (clock ∷ [])) (rw (h.each, new.0) refl);
    }

created : (d : Draft) (clocks : List Clock) → IsDraft d → AreClocks clocks → AreClocks (with_clock clocks (new_clock clocks d))
created d clocks draft h = by_cases (is_spread d) (is_second clocks d) (nat_lt (length clocks) clock_limit) refl refl
  where
    by_cases : (a b c : Bool) → is_second clocks d ≡ b → nat_lt (length clocks) clock_limit ≡ c → AreClocks (with_clock clocks (cond (a || b || not c) None (clock_of_period d (clock_name d) d.period)))
    by_cases true b c e g = h
    by_cases false true c e g = h
    by_cases false false false e g = h
    by_cases false false true e g =
        one_more d clocks (clock_of_period d (clock_name d) d.period) h e (grind (arith, nat_tests, g)) (period_kept d (clock_name d) d.period draft draft.period)

-- uncertainties change nothing else of clocks
certain_clock : (flags : Flags) (value : ℤ) (clock : Clock) → is_within value ≡ true → is_clock clock ≡ true → is_clock (uncertain flags value clock) ≡ true
certain_clock flags value clock v h =
    let outer = and_parts (int_le (pos 2) clock.period.0 && is_within clock.period.0 && int_le (pos 0) clock.rise.0 && int_lt clock.rise.0 clock.fall.0 && int_lt clock.fall.0 (clock.rise.0 +ℤ clock.period.0) && is_within clock.rise.0 && is_within clock.fall.0 && is_within clock.unc_setup.0) (is_within clock.unc_hold.0) h in
    let inner = and_parts (int_le (pos 2) clock.period.0 && is_within clock.period.0 && int_le (pos 0) clock.rise.0 && int_lt clock.rise.0 clock.fall.0 && int_lt clock.fall.0 (clock.rise.0 +ℤ clock.period.0) && is_within clock.rise.0 && is_within clock.fall.0) (is_within clock.unc_setup.0) outer.0 in
    let setup : is_within (cond (meant flags.setup flags.hold) (fs value) clock.unc_setup).0 ≡ true =
    cond_both (meant flags.setup flags.hold) (fs value) clock.unc_setup (λ (x : Fs). is_within x.0 ≡ true) (λ _. v) (λ _. inner.1) in
    let hold : is_within (cond (meant flags.hold flags.setup) (fs value) clock.unc_hold).0 ≡ true =
    cond_both (meant flags.hold flags.setup) (fs value) clock.unc_hold (λ (x : Fs). is_within x.0 ≡ true) (λ _. v) (λ _. outer.1) in
    and_from _ _ (and_from _ _ inner.0 setup) hold

module _ (d : Draft) (value : ℤ) where
  same_names : (clocks : List Clock) → map (λ clock. clock.name) (map (uncertain_if d value) clocks) ≡ map (λ clock. clock.name) clocks
  same_names [] = refl
  same_names (clock ∷ clocks) =
      rw (cond_both (stands (named d) clock.name) (uncertain d.flags value clock) clock (λ (c : Clock). c.name ≡ clock.name) (λ _. refl) (λ _. refl), same_names clocks) refl

  same_ports : (clocks : List Clock) → filter_map (λ clock. clock.port) (map (uncertain_if d value) clocks) ≡ filter_map (λ clock. clock.port) clocks
  same_ports [] = refl
  same_ports (clock ∷ clocks) =
      rw (cond_both (stands (named d) clock.name) (uncertain d.flags value clock) clock (λ (c : Clock). c.port ≡ clock.port) (λ _. refl) (λ _. refl), same_ports clocks) refl

  still_clocks : (clocks : List Clock) → is_within value ≡ true → list_all is_clock clocks ≡ true → list_all is_clock (map (uncertain_if d value) clocks) ≡ true
  still_clocks [] v h = refl
  still_clocks (clock ∷ clocks) v h =
      let parts = and_parts (is_clock clock) (list_all is_clock clocks) h in
      and_from (is_clock (uncertain_if d value clock)) (list_all is_clock (map (uncertain_if d value) clocks))
      (cond_both (stands (named d) clock.name) (uncertain d.flags value clock) clock (λ (c : Clock). is_clock c ≡ true) (λ _. certain_clock d.flags value clock v parts.0) (λ _. parts.0))
      (still_clocks clocks v parts.1)

uncertain_kept : (d : Draft) (number : Figure) (clocks : List Clock) → IfValue is_within number → AreClocks clocks → AreClocks (uncertain_clocks d number clocks)
uncertain_kept d Absent clocks v h = h
uncertain_kept d Faulty clocks v h = h
uncertain_kept d (Value value) clocks v h = record {
  few = rw (length-map clocks (uncertain_if d value)) h.few;
  names = rw (same_names d value clocks) h.names;
  ports = rw (same_ports d value clocks) h.ports;
  each = still_clocks d value clocks v h.each;
}

uncertain_many : (d : Draft) (number : Figure) (clocks : List Clock) → length clocks ≤ length (uncertain_clocks d number clocks)
uncertain_many d Absent clocks = omega arith
uncertain_many d Faulty clocks = omega arith
uncertain_many d (Value value) clocks = omega (arith, length-map clocks (uncertain_if d value))

created_many : (clocks : List Clock) (found : Option Clock) → length clocks ≤ length (with_clock clocks found)
created_many clocks None = omega arith
created_many clocks (Some clock) = omega (arith, length-append clocks (clock ∷ []))

-- exceptions
abbrev is_fine : Exception → Bool
is_fine e = is_effect e.effect

if_fine : (chosen : Bool) (d : Draft) (effect : Effect) → (chosen ≡ true → is_effect effect ≡ true) → list_all is_fine (exception_if chosen d effect) ≡ true
if_fine chosen d effect h =
    cond_both chosen (exception d effect ∷ []) [] (λ es. list_all is_fine es ≡ true) (λ is. and_from (is_effect effect) true (h is) refl) (λ _. refl)

false_fine : (d : Draft) → list_all is_fine (false_paths d) ≡ true
false_fine d =
    rw (list_all-append is_fine (exception_if (meant d.flags.setup d.flags.hold) d FalseSetup) (exception_if (meant d.flags.hold d.flags.setup) d FalseHold))
    (and_from _ _ (if_fine (meant d.flags.setup d.flags.hold) d FalseSetup (λ _. refl)) (if_fine (meant d.flags.hold d.flags.setup) d FalseHold (λ _. refl)))

cycles_fine : (hold : Bool) (value : ℤ) → are_cycles hold value ≡ true → is_effect (cycles_effect hold (unsigned_abs value)) ≡ true
cycles_fine true (pos n) h = (and_parts (int_le (pos 0) (pos n)) (int_le (pos n) (pos 1000)) h).1
cycles_fine true (negsuc n) h = absurd (false≢true h)
cycles_fine false (pos n) h = h
cycles_fine false (negsuc n) h = absurd (false≢true h)

multicycle_fine : (d : Draft) (number : Figure) → list_all is_fine (multicycles d number) ≡ true
multicycle_fine d Absent = refl
multicycle_fine d Faulty = refl
multicycle_fine d (Value value) =
    if_fine (are_cycles d.flags.hold value) d (cycles_effect d.flags.hold (unsigned_abs value)) (cycles_fine d.flags.hold value)

more_fine : (es fs : List Exception) → list_all is_fine es ≡ true → list_all is_fine fs ≡ true → list_all is_fine (es ++ fs) ≡ true
more_fine es fs h k = rw (list_all-append is_fine es fs) (rw (h, k) refl)

-- derates
abbrev is_factor : ℕ → Bool
is_factor n = nat_le n 10000000

record AreFactors (f : Derates) : Type 0 where
  early_cell : is_factor f.early_cell ≡ true
  late_cell : is_factor f.late_cell ≡ true
  early_net : is_factor f.early_net ≡ true
  late_net : is_factor f.late_net ≡ true

factor_kept : (split arcs : Bool) (factor before : ℕ) → is_factor factor ≡ true → is_factor before ≡ true → is_factor (factor_if split arcs factor before) ≡ true
factor_kept split arcs factor before f b = cond_both (split && arcs) factor before (λ n. is_factor n ≡ true) (λ _. f) (λ _. b)

derated_kept : (flags : Flags) (factor : ℕ) (before : Derates) → is_factor factor ≡ true → AreFactors before → AreFactors (derated flags factor before)
derated_kept flags factor before f h = record {
  early_cell = factor_kept (meant flags.early flags.late) (meant flags.cells flags.nets) factor before.early_cell f h.early_cell;
  late_cell = factor_kept (meant flags.late flags.early) (meant flags.cells flags.nets) factor before.late_cell f h.late_cell;
  early_net = factor_kept (meant flags.early flags.late) (meant flags.nets flags.cells) factor before.early_net f h.early_net;
  late_net = factor_kept (meant flags.late flags.early) (meant flags.nets flags.cells) factor before.late_net f h.late_net;
}

factor_fits : (value : ℤ) → fits Factor value ≡ true → is_factor (unsigned_abs value) ≡ true
factor_fits (pos n) h = (and_parts (int_le (pos 0) (pos n)) (int_le (pos n) (pos 10000000)) h).1
factor_fits (negsuc n) h = absurd (false≢true h)

derates_kept : (d : Draft) (number : Figure) (before : Derates) → AreFactors before → AreFactors (derates_with d number before)
derates_kept d Absent before h = h
derates_kept d Faulty before h = h
derates_kept d (Value value) before h =
    cond_both (fits Factor value) (derated d.flags (unsigned_abs value) before) before AreFactors (λ fit. derated_kept d.flags (unsigned_abs value) before (factor_fits value fit) h) (λ _. h)

-- what is set, and the command that is read
record IsSet (c : Command) (s : Interpreter) : Type 0 where
  reads : s.draft.command ≡ c
  draft : IsDraft s.draft
  clocks : AreClocks s.clocks
  inputs : IsTable any_corner (of_clocks (length s.clocks)) s.inputs
  outputs : IsTable any_corner (of_clocks (length s.clocks)) s.outputs
  slews : IsTable any_corner of_size s.slews
  loads : IsTable no_fall of_size s.loads
  exceptions : list_all is_fine s.exceptions ≡ true
  derates : AreFactors s.derates

delays_of : (c : Command) (s : Interpreter) → IsSet c s → IfAmount (of_clocks (length s.clocks)) (delay_amount s.clocks s.draft)
delays_of c s h = delay_kept s.clocks s.draft.number (option_map_or (clock_place s.clocks) s.draft.clock None) (place_of s.clocks s.draft.clock) h.draft.number

sizes_of : (c d : Command) (s : Interpreter) → IsSet c s → d ≡ s.draft.command → is_sized d ≡ true → IfAmount of_size (plain_amount s.draft)
sizes_of c d s h same is = plain_kept s.draft.number (h.draft.sized (subst (λ (x : Command). is_sized x ≡ true) same is))

ended_kept : (c d : Command) (s : Interpreter) → d ≡ s.draft.command → IsSet c s → IsSet c (ended d s)
ended_kept c CreateClock s same h =
    let next = new_clock s.clocks s.draft in
    record {
      reads = h.reads;
      draft = h.draft;
      clocks = created s.draft s.clocks h.draft h.clocks;
      inputs = more_clocks (length s.clocks) (length (with_clock s.clocks next)) s.inputs (created_many s.clocks next) h.inputs;
      outputs = more_clocks (length s.clocks) (length (with_clock s.clocks next)) s.outputs (created_many s.clocks next) h.outputs;
      slews = h.slews;
      loads = h.loads;
      exceptions = h.exceptions;
      derates = h.derates;
    }
ended_kept c InputDelay s same h = record {
  reads = h.reads;
  draft = h.draft;
  clocks = h.clocks;
  inputs = set_kept (of_clocks (length s.clocks)) s.draft (delay_amount s.clocks s.draft) s.inputs (delays_of c s h) h.inputs;
  outputs = h.outputs;
  slews = h.slews;
  loads = h.loads;
  exceptions = h.exceptions;
  derates = h.derates;
}
ended_kept c OutputDelay s same h = record {
  reads = h.reads;
  draft = h.draft;
  clocks = h.clocks;
  inputs = h.inputs;
  outputs = set_kept (of_clocks (length s.clocks)) s.draft (delay_amount s.clocks s.draft) s.outputs (delays_of c s h) h.outputs;
  slews = h.slews;
  loads = h.loads;
  exceptions = h.exceptions;
  derates = h.derates;
}
ended_kept c InputTransition s same h = record {
  reads = h.reads;
  draft = h.draft;
  clocks = h.clocks;
  inputs = h.inputs;
  outputs = h.outputs;
  slews = set_kept of_size s.draft (plain_amount s.draft) s.slews (sizes_of c InputTransition s h same refl) h.slews;
  loads = h.loads;
  exceptions = h.exceptions;
  derates = h.derates;
}
ended_kept c Load s same h = record {
  reads = h.reads;
  draft = h.draft;
  clocks = h.clocks;
  inputs = h.inputs;
  outputs = h.outputs;
  slews = h.slews;
  loads = set_loads_kept of_size s.draft (plain_amount s.draft) s.loads (sizes_of c Load s h same refl) h.loads;
  exceptions = h.exceptions;
  derates = h.derates;
}
ended_kept c Uncertainty s same h =
    let next = uncertain_clocks s.draft s.draft.number s.clocks in
    let many = uncertain_many s.draft s.draft.number s.clocks in
    record {
      reads = h.reads;
      draft = h.draft;
      clocks = uncertain_kept s.draft s.draft.number s.clocks h.draft.number h.clocks;
      inputs = more_clocks (length s.clocks) (length next) s.inputs many h.inputs;
      outputs = more_clocks (length s.clocks) (length next) s.outputs many h.outputs;
      slews = h.slews;
      loads = h.loads;
      exceptions = h.exceptions;
      derates = h.derates;
    }
ended_kept c FalsePath s same h = record {
  reads = h.reads;
  draft = h.draft;
  clocks = h.clocks;
  inputs = h.inputs;
  outputs = h.outputs;
  slews = h.slews;
  loads = h.loads;
  exceptions = more_fine s.exceptions (false_paths s.draft) h.exceptions (false_fine s.draft);
  derates = h.derates;
}
ended_kept c Multicycle s same h = record {
  reads = h.reads;
  draft = h.draft;
  clocks = h.clocks;
  inputs = h.inputs;
  outputs = h.outputs;
  slews = h.slews;
  loads = h.loads;
  exceptions = more_fine s.exceptions (multicycles s.draft s.draft.number) h.exceptions (multicycle_fine s.draft s.draft.number);
  derates = h.derates;
}
ended_kept c set_units s same h = h
ended_kept c Derate s same h = record {
  reads = h.reads;
  draft = h.draft;
  clocks = h.clocks;
  inputs = h.inputs;
  outputs = h.outputs;
  slews = h.slews;
  loads = h.loads;
  exceptions = h.exceptions;
  derates = derates_kept s.draft s.draft.number s.derates h.derates;
}

-- another draft of the same command
abbrev redrawn : Interpreter → Draft → Interpreter
redrawn s d = record s { draft = d }

draft_kept : (b c : Command) (s : Interpreter) (d : Draft) → d.command ≡ c → IsDraft d → IsSet b s → IsSet c (redrawn s d)
draft_kept b c s d reads draft h = record {
  reads = reads;
  draft = draft;
  clocks = h.clocks;
  inputs = h.inputs;
  outputs = h.outputs;
  slews = h.slews;
  loads = h.loads;
  exceptions = h.exceptions;
  derates = h.derates;
}

-- the number of a command
plain_number : (c : Command) (quantity : Quantity) (number : Figure) (at : ℕ) (d : Draft) → suits c quantity ≡ true → is_size quantity ≡ false → d.command ≡ c → IsDraft d → IfValue (of_quantity quantity) number → IsDraft (record d { number = number; number_at = at })
plain_number c quantity number at d suit other reads h v = record {
  number = each_value (of_quantity quantity) is_within number (in_range quantity) v;
  sized = λ is. absurd (false≢true (sym (unsized c quantity suit other) ∙ subst (λ (x : Command). is_sized x ≡ true) reads is));
  period = h.period;
  rise = h.rise;
  fall = h.fall;
}
  where
    unsized : (c : Command) (quantity : Quantity) → suits c quantity ≡ true → is_size quantity ≡ false → is_sized c ≡ false
    unsized c quantity suit other = by_cases (is_sized c) refl (subst (λ b. (b || not (is_sized c)) ≡ true) other suit)
      where
        by_cases : (b : Bool) → is_sized c ≡ b → not (is_sized c) ≡ true → b ≡ false
        by_cases true e g = absurd (false≢true (sym (ap not e) ∙ g))
        by_cases false e g = refl

sized_number : (number : Figure) (at : ℕ) (d : Draft) → IsDraft d → IfValue is_amount number → IsDraft (record d { number = number; number_at = at })
sized_number number at d h v = record {
  number = each_value is_amount is_within number (λ value is. (and_parts (int_le (pos 0) value) (is_within value) is).1) v;
  sized = λ _. v;
  period = h.period;
  rise = h.rise;
  fall = h.fall;
}

number_drawn : (c : Command) (quantity : Quantity) (number : Figure) (at : ℕ) (d : Draft) → suits c quantity ≡ true → d.command ≡ c → IsDraft d → IfValue (of_quantity quantity) number → IsDraft (with_number quantity number at d)
number_drawn c Period number at d suit reads h v = record { number = h.number; sized = h.sized; period = v; rise = h.rise; fall = h.fall }
number_drawn c WaveRise number at d suit reads h v =
    record { number = h.number; sized = h.sized; period = h.period; rise = each_value (of_quantity WaveRise) is_within number (in_range WaveRise) v; fall = h.fall }
number_drawn c WaveFall number at d suit reads h v =
    record { number = h.number; sized = h.sized; period = h.period; rise = h.rise; fall = each_value (of_quantity WaveFall) is_within number (in_range WaveFall) v }
number_drawn c a_time number at d suit reads h v = plain_number c a_time number at d suit refl reads h v
number_drawn c a_slew number at d suit reads h v = sized_number number at d h v
number_drawn c a_load number at d suit reads h v = sized_number number at d h v
number_drawn c Cycles number at d suit reads h v = plain_number c Cycles number at d suit refl reads h v
number_drawn c Factor number at d suit reads h v = plain_number c Factor number at d suit refl reads h v

number_reads : (quantity : Quantity) (number : Figure) (at : ℕ) (d : Draft) → (with_number quantity number at d).command ≡ d.command
number_reads Period number at d = refl
number_reads WaveRise number at d = refl
number_reads WaveFall number at d = refl
number_reads quantity number at d = refl

-- drafts with the same numbers
record IsLike (d e : Draft) : Type 0 where
  reads : e.command ≡ d.command
  number : e.number ≡ d.number
  period : e.period ≡ d.period
  rise : e.wave.rise ≡ d.wave.rise
  fall : e.wave.fall ≡ d.wave.fall

like : (d e : Draft) → IsLike d e → IsDraft d → IsDraft e
like d e same h = record {
  number = rw same.number h.number;
  sized = λ is. let mine : is_sized d.command ≡ true = subst (λ (x : Command). is_sized x ≡ true) same.reads is in rw same.number (h.sized mine);
  period = rw same.period h.period;
  rise = rw same.rise h.rise;
  fall = rw same.fall h.fall;
}

objects_like : (role : Role) (d : Draft) → IsLike d (with_objects role d)
objects_like Ports d = record { reads = refl; number = refl; period = refl; rise = refl; fall = refl }
objects_like Clocks d = record { reads = refl; number = refl; period = refl; rise = refl; fall = refl }
objects_like One_clock d = record { reads = refl; number = refl; period = refl; rise = refl; fall = refl }
objects_like From d = record { reads = refl; number = refl; period = refl; rise = refl; fall = refl }
objects_like To d = record { reads = refl; number = refl; period = refl; rise = refl; fall = refl }

object_like : (role : Role) (getter : Getter) (name : List ℕ) (d : Draft) → IsLike d (with_object role getter name d)
object_like Ports getter name d = record { reads = refl; number = refl; period = refl; rise = refl; fall = refl }
object_like Clocks getter name d = record { reads = refl; number = refl; period = refl; rise = refl; fall = refl }
object_like One_clock getter name d = record { reads = refl; number = refl; period = refl; rise = refl; fall = refl }
object_like From getter name d = record { reads = refl; number = refl; period = refl; rise = refl; fall = refl }
object_like To getter name d = record { reads = refl; number = refl; period = refl; rise = refl; fall = refl }

like_kept : (c : Command) (s : Interpreter) (d : Draft) → IsLike s.draft d → IsSet c s → IsSet c (redrawn s d)
like_kept c s d same h = draft_kept c c s d (same.reads ∙ h.reads) (like s.draft d same h.draft) h

units_kept : (c : Command) (s : Interpreter) (units : Units) → IsSet c s → IsSet c (record s { units = units })
units_kept c s units h = record {
  reads = h.reads;
  draft = h.draft;
  clocks = h.clocks;
  inputs = h.inputs;
  outputs = h.outputs;
  slews = h.slews;
  loads = h.loads;
  exceptions = h.exceptions;
  derates = h.derates;
}

all_set : (c : Command) (s : Interpreter) (es : List Event) → IsSet c s → Suiting c es → (d : Command) × IsSet d (last s es)
unfolding last
all_set c s [] h suit = (c, h)
all_set c s (Begin next at ∷ es) h suit =
    all_set next (after s (Begin next at)) es
    (draft_kept c next s (empty_draft next at) refl (record { number = tt; sized = λ _. tt; period = tt; rise = tt; fall = tt }) h) suit
all_set c s (Number quantity word at ∷ es) h suit =
    let number = number_of s.units quantity word in
    all_set c (after s (Number quantity word at)) es
    (draft_kept c c s (with_number quantity number at s.draft) (number_reads quantity number at s.draft ∙ h.reads)
    (number_drawn c quantity number at s.draft suit.0 h.reads h.draft (number_kept s.units quantity word)) h) suit.1
all_set c s (Option_ flag ∷ es) h suit =
    all_set c (after s (Option_ flag)) es
    (like_kept c s (record s.draft { flags = with_flag flag s.draft.flags }) (record { reads = refl; number = refl; period = refl; rise = refl; fall = refl }) h) suit
all_set c s (Waveform at ∷ es) h suit =
    all_set c (after s (Waveform at)) es
    (draft_kept c c s (record s.draft { wave = record { at = Some at; rise = Absent; fall = Absent } }) h.reads
    (record { number = h.draft.number; sized = h.draft.sized; period = h.draft.period; rise = tt; fall = tt }) h) suit
all_set c s (Named name ∷ es) h suit =
    all_set c (after s (Named name)) es
    (like_kept c s (record s.draft { name = Some name }) (record { reads = refl; number = refl; period = refl; rise = refl; fall = refl }) h) suit
all_set c s (Objects role ∷ es) h suit =
    all_set c (after s (Objects role)) es (like_kept c s (with_objects role s.draft) (objects_like role s.draft) h) suit
all_set c s (An_object role getter name at ∷ es) h suit =
    all_set c (after s (An_object role getter name at)) es (like_kept c s (with_object role getter name s.draft) (object_like role getter name s.draft) h) suit
all_set c s (TimeUnit ten ∷ es) h suit =
    all_set c (after s (TimeUnit ten)) es (units_kept c s (record { time = record { ten = ten }; cap = s.units.cap }) h) suit
all_set c s (CapacitanceUnit ten ∷ es) h suit =
    all_set c (after s (CapacitanceUnit ten)) es (units_kept c s (record { time = s.units.time; cap = record { ten = ten } }) h) suit
all_set c s (End ∷ es) h suit = all_set c (ended s.draft.command s) es (ended_kept c s.draft.command s refl h) suit
all_set c s (Fault w ∷ es) h suit = all_set c s es h suit

nothing_set : (units : Units) → IsSet set_units (start units)
nothing_set units = record {
  reads = refl;
  draft = record { number = tt; sized = λ _. tt; period = tt; rise = tt; fall = tt };
  clocks = record { few = omega arith; names = refl; ports = refl; each = refl };
  inputs = record { keys = refl; all = refl };
  outputs = record { keys = refl; all = refl };
  slews = record { keys = refl; all = refl };
  loads = record { keys = refl; all = refl };
  exceptions = refl;
  derates = record { early_cell = refl; late_cell = refl; early_net = refl; late_net = refl };
}

set_good : (c : Command) (s : Interpreter) → IsSet c s → are_constraints (constraints s) ≡ true
set_good c s h =
    let count = length s.clocks in
    let inputs : list_all (is_port_delay count) (map delay_of s.inputs) ≡ true =
    all_to delay_of (is_port_delay count) any_corner (of_clocks count) s.inputs (λ e is. is) h.inputs.all in
    let outputs : list_all (is_port_delay count) (map delay_of s.outputs) ≡ true =
    all_to delay_of (is_port_delay count) any_corner (of_clocks count) s.outputs (λ e is. is) h.outputs.all in
    let slews : list_all (λ x. is_amount x.slew.0) (map slew_of s.slews) ≡ true =
    all_to slew_of (λ x. is_amount x.slew.0) any_corner of_size s.slews (λ e is. is) h.slews.all in
    let loads : list_all (λ x. is_amount x.load.0) (map load_of s.loads) ≡ true =
    all_to load_of (λ x. is_amount x.load.0) no_fall of_size s.loads (λ e is. is) h.loads.all in
    let one_input = differ_same delay_of same_delay delay_same s.inputs ∙ h.inputs.keys in
    let one_output = differ_same delay_of same_delay delay_same s.outputs ∙ h.outputs.keys in
    let one_slew = differ_same slew_of same_slew slew_same s.slews ∙ h.slews.keys in
    let one_load = differ_load of_size s.loads h.loads.all ∙ h.loads.keys in
    let few : nat_le (length s.clocks) 8 ≡ true = le-leb (length s.clocks) 8 h.clocks.few in
    let f = h.derates in
    let derates : are_derates s.derates ≡ true = rw (f.early_cell, f.late_cell, f.early_net, f.late_net) refl in
    both (both (both (both (both (both (both (both (both (both (both (both (both few h.clocks.names) h.clocks.ports) h.clocks.each) inputs) one_input) outputs) one_output) slews) one_slew) loads) one_load) h.exceptions) derates
  where
    both : {a b : Bool} → a ≡ true → b ≡ true → (a && b) ≡ true
    both {a = a} {b = b} h k = and_from a b h k

-- the constraints of a text
kept : (units : Units) (bytes : List ℕ) → are_constraints (constraints_of units (events_of bytes)) ≡ true
kept units bytes =
    let found = all_set set_units (start units) (events_of bytes) (nothing_set units) (text_suits (length bytes) (tokens_of Tcl bytes) set_units) in
    set_good found.0 (last (start units) (events_of bytes)) found.1

pub told_kept : (r : Result Constraints ReadFault) (units : Units) (bytes : List ℕ) → MatchResult r (λ c. (faults_of (length bytes) units (events_of bytes) ≡ []) × (c ≡ constraints_of units (events_of bytes))) (λ e. Fails e (faults_of (length bytes) units (events_of bytes))) → IfOk r (λ c. are_constraints c ≡ true)
told_kept (Ok c) units bytes read = subst (λ (d : Constraints). are_constraints d ≡ true) (sym read.1) (kept units bytes)
told_kept (Err fault) units bytes read = tt
