-- A netlist that is read is as engines ask of netlists.
use Rattle.std.proofs.Common.{◌≡◌, inl, inr, ℕ, zero, suc, ◌+◌, ◌^◌, ◌<◌, ◌≤◌, Bool, true, false, List, [], ◌∷◌, ◌++◌, map, length, ◌||◌, not, cond, refl, sym, ap, subst, ◌∙◌, arith, append_assoc, append-nil}
use Rattle.std.specs.Prelude.{◌⊎◌, Result, Ok, Err, IfOk, MatchResult, Option, Some, None, option_map, nat_lt, nat_eq}
use Rattle.std.specs.Char.{is_ascii_digit}
use Rattle.std.specs.Fmt.{decimal}
use Rattle.std.specs.List.{list_all, list_any}
use Rattle.std.specs.Option.{option_map_or}
use Rattle.std.specs.Str.{bytes_eq}
use Rattle.std.proofs.lemmas.Bool.{cond_both, and_parts, and_from, or_parts, false≢true}
use Rattle.std.proofs.lemmas.Bool.Decides.{nat_tests}
use Rattle.std.proofs.lemmas.List.Folds.{list_all-append, list_any-append}
use Rattle.std.proofs.lemmas.Slice.Eq.{bytes_eq-Decides}
use Rattle.sta_units.specs.Decimal.{number_on}
use Rattle.timing_defs.specs.declared.codes.ReadFault.{ReadFault}
use Rattle.timing_defs.specs.declared.netlist.Port.{Port}
use Rattle.timing_defs.specs.declared.netlist.Inst.{Inst}
use Rattle.timing_defs.specs.declared.netlist.Conn.{Conn}
use Rattle.timing_defs.specs.declared.netlist.Module.{Module as Netlist}
use Rattle.timing_defs.specs.Netlist.{is_listed, are_distinct}
use Rattle.timing_defs.specs.Edits.{has_colon as with_colon}
use Rattle.timing_defs.specs.Documents.{joins, IsNetlist}
use Rattle.timing_defs.proofs.SameNames.{same-sym}
use Rattle.sta_text.specs.declared.faults.Wrong.{Wrong}
use Rattle.sta_text.specs.Faults.{Fails}
use Rattle.sta_text.specs.Names.{stands}
use Rattle.sta_text.specs.Tokens.{tokens_of}
use Rattle.sta_text.proofs.NamesLemmas.{stands_push}
use Rattle.sta_text.proofs.DistinctLemmas.{Lone, lone_distinct}
use Rattle.timing_defs.specs.declared.texts.Style.TheVariants.{Verilog}
use Rattle.timing_defs.specs.declared.codes.Code.TheVariants.{VerilogDoubleName, VerilogTooMany, VerilogLeftOut, VerilogUndeclared}
use Rattle.verilog_netlist.specs.declared.events.Role.{Role}
use Rattle.verilog_netlist.specs.declared.events.Span.{Span}
use Rattle.verilog_netlist.specs.declared.events.Kind.{Kind}
use Rattle.verilog_netlist.specs.declared.events.Net.TheVariants.{Alone, Bit}
use Rattle.verilog_netlist.specs.declared.events.Event.{Event}
use Rattle.verilog_netlist.specs.declared.events.Event.TheVariants.{Module, Header, Declared, CellWord, Instance, Pin, Connection, Fault}
use Rattle.verilog_netlist.specs.declared.known.Known.{Known}
use Rattle.verilog_netlist.specs.Nets.{bit_name, width, number_at, bits, nets_of}
use Rattle.verilog_netlist.specs.Lexicon.{is_colon, has_colon}
use Rattle.verilog_netlist.specs.Late.{SmallEnds}
use Rattle.verilog_netlist.specs.Grammar.{start, is_port, events_of}
use Rattle.verilog_netlist.specs.Faults.{limit, wrong, is_empty, with_name, with_names, clashes, alike, with_ports, with_wires, declaring, passes, is_wide, told, declaration_fault, declaration_faults, nothing, header_doubles, instance_doubles, instance_excess, pin_doubles, vectors_with, whole_vectors, all_vectors, all_directed, all_declared, undirected, undeclared_bits, with_implicit, all_nets, excess, net_excess, early_faults, net_faults, whole_faults, stops, faults_of}
use Rattle.verilog_netlist.specs.Modules.{dir_of, port_of, ports_of, conns_of, insts_of, module_name, module_nets, module_named, module_of}
use Rattle.verilog_netlist.proofs.BitLemmas.{inside, inside_bit, decimal_digits, decimal_number, absent, at_number, number_small, any_or, turned}
use Rattle.verilog_netlist.proofs.LateLemmas.{stands_one, stands_more}
use Rattle.verilog_netlist.proofs.FaultLemmas.{front, back, chosen, no_stop, no_net_fault}
use Rattle.verilog_netlist.proofs.FormLaws.{Due, free, named, joined, Formed, formed, AreDeclared, declarations}

or_true : (b : Bool) → (b || true) ≡ true
or_true true = refl
or_true false = refl

same : (a b : List ℕ) → bytes_eq a b ≡ true → a ≡ b
same a b = (bytes_eq-Decides a b).0

-- what a fault ends
untold : (fault : Option Wrong) (rest : List Wrong) → told fault rest ≡ [] → (fault ≡ None) × (rest ≡ [])
untold None rest h = (refl, h)
untold (Some w) rest h = absurd (cc)

-- names of which none stands before and none twice
distinct_lone : (before names : List (List ℕ)) → are_distinct names ≡ true → list_any (stands before) names ≡ false → Lone before names
distinct_lone before [] apart clash = tt
distinct_lone before (x ∷ xs) apart clash =
    let here = or_parts (stands before x) (list_any (stands before) xs) clash in
    let parts = and_parts (not (is_listed xs x)) (are_distinct xs) apart in
    (here.0, distinct_lone (before ++ x ∷ []) xs parts.1 (later (is_listed xs x) refl parts.0 here.1))
  where
    pushed : (ys : List (List ℕ)) → list_any (stands (before ++ x ∷ [])) ys ≡ list_any (λ (y : List ℕ). bytes_eq y x || stands before y) ys
    pushed [] = refl
    pushed (y ∷ ys) = rw (stands_push before x y, pushed ys) refl

    later : (b : Bool) → is_listed xs x ≡ b → not b ≡ true → list_any (stands before) xs ≡ false → list_any (stands (before ++ x ∷ [])) xs ≡ false
    later true e g rest = absurd (false≢true g)
    later false e g rest =
        pushed xs ∙ any_or (λ (y : List ℕ). bytes_eq y x) (stands before) xs
        ∙ rw (sym (turned x xs) ∙ e, rest) refl

lone_append : (before names rest : List (List ℕ)) → Lone before names → Lone (before ++ names) rest → Lone before (names ++ rest)
lone_append before [] rest h k = rw append-nil at k
lone_append before (x ∷ xs) rest h k =
    (h.0, lone_append (before ++ x ∷ []) xs rest h.1 (subst (λ ys. Lone ys rest) (sym (append_assoc before (x ∷ []) xs)) k))

with_lone : (before names : List (List ℕ)) → Lone before names → with_names before names ≡ before ++ names
unfolding with_names
with_lone before [] h = sym (append-nil before)
with_lone before (x ∷ xs) h = rw h.0 (with_lone (before ++ x ∷ []) xs h.1 ∙ append_assoc before (x ∷ []) xs)

-- the bits of a vector are distinct
bit_same : (name : List ℕ) (a b : ℕ) → a < 2 ^ 32 → b < 2 ^ 32 → bytes_eq (bit_name name a) (bit_name name b) ≡ true → a ≡ b
bit_same name a b first second h =
    sym (decimal_number a first) ∙ ap (number_on 0) (sym (inside_bit name a) ∙ (ap (inside name) (same (bit_name name a) (bit_name name b) h) ∙ inside_bit name b)) ∙ decimal_number b second

other_number : (span : Span) (i j : ℕ) → i < j → j < width span → number_at span i ≡ number_at span j → ⊥
other_number span i j less within h = grind (arith, nat_tests)

refute : (b : Bool) → (b ≡ true → ⊥) → b ≡ false
refute true f = absurd (f refl)
refute false f = refl

bit_apart : (span : Span) (name : List ℕ) (i n : ℕ) → SmallEnds (Some span) → i + suc n ≤ width span → stands (bits span name (i + 1) n) (bit_name name (number_at span i)) ≡ false
bit_apart span name i n ends within =
    absent span name (bit_name name (number_at span i)) (i + 1) n (λ j low high. refute _ (λ equal.
    let a = number_small span (number_at span i) ends.0 ends.1 (at_number span i (omega (arith, within))) in
    let b = number_small span (number_at span j) ends.0 ends.1 (at_number span j (omega (arith, within, low, high))) in
    other_number span i j (omega (arith, low)) (omega (arith, within, high)) (bit_same name (number_at span i) (number_at span j) a b equal)))

bits_distinct : (span : Span) (name : List ℕ) (i n : ℕ) → SmallEnds (Some span) → i + n ≤ width span → are_distinct (bits span name i n) ≡ true
unfolding bits
bits_distinct span name i zero ends within = refl
bits_distinct span name i (suc n) ends within =
    and_from (not (is_listed (bits span name (i + 1) n) (bit_name name (number_at span i)))) (are_distinct (bits span name (i + 1) n))
    (ap not (bit_apart span name i n ends within)) (bits_distinct span name (i + 1) n ends (omega (arith, within)))

nets_distinct : (span : Option Span) (name : List ℕ) → SmallEnds span → are_distinct (nets_of span name) ≡ true
unfolding nets_of
nets_distinct None name ends = refl
nets_distinct (Some span) name ends = bits_distinct span name 0 (width span) ends (omega arith)

-- no port stands twice
names_of_ports : (role : Role) (names : List (List ℕ)) (rest : List Port) → map (λ port. port.name) (map (port_of (dir_of role)) names ++ rest) ≡ names ++ map (λ port. port.name) rest
names_of_ports role [] rest = refl
names_of_ports role (x ∷ xs) rest = ap (λ ys. x ∷ ys) (names_of_ports role xs rest)

undoubled : (known : Known) (kind : Kind) (name : List ℕ) (at : ℕ) → declaration_fault known kind name at ≡ None → clashes (alike kind.role known) (nets_of kind.span name) ≡ false
undoubled known kind name at h = by_cases (clashes (alike kind.role known) (nets_of kind.span name)) h
  where
    by_cases : (b : Bool) → cond b (Some (wrong VerilogDoubleName at)) (cond (passes kind.span (with_names known.nets (nets_of kind.span name))) (Some (wrong VerilogTooMany at)) None) ≡ None → b ≡ false
    by_cases true g = absurd (cc)
    by_cases false g = refl

ports_lone : (known : Known) (es : List Event) → AreDeclared es → declaration_faults known es ≡ [] → Lone known.ports (map (λ port. port.name) (ports_of es))
unfolding declaration_faults ports_of
ports_lone known [] f h = tt
ports_lone known (Declared kind name at ∷ es) f h =
    let parts = untold (declaration_fault known kind name at) (declaration_faults (declaring kind.role known (nets_of kind.span name)) es) h in
    let clash = undoubled known kind name at parts.0 in
    declared (is_port kind.role) clash parts.1 (λ next g. ports_lone next es f.2 g)
  where
    declared : (b : Bool) → clashes (cond b known.ports known.wires) (nets_of kind.span name) ≡ false
        → declaration_faults (cond b (with_ports known (nets_of kind.span name)) (with_wires known (nets_of kind.span name))) es ≡ []
        → ((next : Known) → declaration_faults next es ≡ [] → Lone next.ports (map (λ port. port.name) (ports_of es)))
        → Lone known.ports (map (λ port. port.name) (cond b (map (port_of (dir_of kind.role)) (nets_of kind.span name) ++ ports_of es) (ports_of es)))
    declared true clash g rest =
        let nets = nets_of kind.span name in
        let lone : Lone known.ports nets = distinct_lone known.ports nets (nets_distinct kind.span name f.0) clash in
        let more : Lone (known.ports ++ nets) (map (λ port. port.name) (ports_of es)) =
        subst (λ ys. Lone ys (map (λ port. port.name) (ports_of es))) (with_lone known.ports nets lone) (rest (with_ports known nets) g) in
        subst (Lone known.ports) (sym (names_of_ports kind.role nets (ports_of es)))
        (lone_append known.ports nets (map (λ port. port.name) (ports_of es)) lone more)
    declared false clash g rest = rest (with_wires known (nets_of kind.span name)) g
ports_lone known (e ∷ es) f h = ports_lone known es f h

-- no instance stands twice
insts_lone : (before : List (List ℕ)) (es : List Event) → instance_doubles before es ≡ [] → Lone before (map (λ inst. inst.name) (insts_of es))
unfolding instance_doubles insts_of
insts_lone before [] h = tt
insts_lone before (Instance cell name at ∷ es) h = alone (stands before name) refl h (λ g. insts_lone (before ++ name ∷ []) es g)
  where
    alone : (b : Bool) → stands before name ≡ b
        → cond b (wrong VerilogDoubleName at ∷ instance_doubles before es) (instance_doubles (cond b before (before ++ name ∷ [])) es) ≡ []
        → (instance_doubles (before ++ name ∷ []) es ≡ [] → Lone (before ++ name ∷ []) (map (λ inst. inst.name) (insts_of es)))
        → Lone before (name ∷ map (λ inst. inst.name) (insts_of es))
    alone true e g rest = absurd (cc)
    alone false e g rest = (e, rest g)
insts_lone before (e ∷ es) h = insts_lone before es h

-- no pin stands twice in an instance
abbrev pins_of : List Event → List (List ℕ)
pins_of es = map (λ conn. conn.pin) (conns_of es)

once : (before : List (List ℕ)) (pin : List ℕ) (at : ℕ) (es : List Event) → pin_doubles before (Pin pin at ∷ es) ≡ [] → (stands before pin ≡ false) × (pin_doubles (before ++ pin ∷ []) es ≡ [])
unfolding pin_doubles
once before pin at es h = by_cases (stands before pin) refl h
  where
    by_cases : (b : Bool) → stands before pin ≡ b → cond b (wrong VerilogDoubleName at ∷ pin_doubles before es) (pin_doubles (cond b before (before ++ pin ∷ [])) es) ≡ []
        → (stands before pin ≡ false) × (pin_doubles (before ++ pin ∷ []) es ≡ [])
    by_cases true e g = absurd (cc)
    by_cases false e g = (e, g)

pins_lone : (before : List (List ℕ)) (es : List Event) → Formed free es → pin_doubles before es ≡ [] → Lone before (pins_of es)
unfolding pin_doubles conns_of
pins_lone before [] f h = tt
pins_lone before (Declared kind name at ∷ es) f h = pins_lone before es f.2 h
pins_lone before (Module name ∷ es) f h = pins_lone before es f h
pins_lone before (Header name at ∷ es) f h = pins_lone before es f h
pins_lone before (CellWord at ∷ []) f h = tt
pins_lone before (CellWord at ∷ Instance cell name place ∷ es) f h = tt
pins_lone before (CellWord at ∷ Fault w ∷ es) f h = rw f tt
pins_lone before (CellWord at ∷ e ∷ es) f h = absurd f
pins_lone before (Pin pin at ∷ []) f h = tt
pins_lone before (Pin pin at ∷ Connection word n ∷ es) f h =
    let parts = once before pin at (Connection word n ∷ es) h in
    let rest : Lone (before ++ pin ∷ []) (pins_of es) = pins_lone (before ++ pin ∷ []) es f.1 parts.1 in
    subst (λ (x : List ℕ). Lone before (x ∷ pins_of es)) (sym f.0) (parts.0, rest)
pins_lone before (Pin pin at ∷ Fault w ∷ es) f h = rw f tt
pins_lone before (Pin pin at ∷ e ∷ es) f h = absurd f
pins_lone before (Fault w ∷ es) f h = rw f tt
pins_lone before (e ∷ es) f h = absurd f

abbrev has_pins : Inst → Bool
has_pins inst = are_distinct (map (λ conn. conn.pin) inst.conns)

insts_apart : (before : List (List ℕ)) (due : Due) (es : List Event) → Formed due es → pin_doubles before es ≡ [] → list_all has_pins (insts_of es) ≡ true
unfolding pin_doubles insts_of
insts_apart before due [] f h = refl
insts_apart before free (Declared kind name at ∷ es) f h = insts_apart before free es f.2 h
insts_apart before free (Module name ∷ es) f h = insts_apart before free es f h
insts_apart before free (Header name at ∷ es) f h = insts_apart before free es f h
insts_apart before free (CellWord at ∷ es) f h = insts_apart before named es f h
insts_apart before free (Pin pin at ∷ es) f h = insts_apart (before ++ pin ∷ []) (joined pin) es f (once before pin at es h).1
insts_apart before free (Fault w ∷ es) f h = rw f refl
insts_apart before free (e ∷ es) f h = absurd f
insts_apart before named (Instance cell name at ∷ es) f h =
    and_from (are_distinct (pins_of es)) (list_all has_pins (insts_of es)) (lone_distinct [] (pins_of es) (pins_lone [] es f h)) (insts_apart [] free es f h)
insts_apart before named (Fault w ∷ es) f h = rw f refl
insts_apart before named (e ∷ es) f h = absurd f
insts_apart before (joined pin) (Connection word n ∷ es) f h = insts_apart before free es f.1 h
insts_apart before (joined pin) (Fault w ∷ es) f h = rw f refl
insts_apart before (joined pin) (e ∷ es) f h = absurd f

-- so many instances are due
abbrev owed : Due → ℕ
owed free = 0
owed named = 1
owed (joined pin) = 0

room : (count at : ℕ) (es : List Event) → instance_excess count (CellWord at ∷ es) ≡ [] → (count < limit) × (instance_excess (count + 1) es ≡ [])
unfolding instance_excess
room count at es h = by_cases (nat_lt count limit) refl h
  where
    by_cases : (b : Bool) → nat_lt count limit ≡ b → cond b (instance_excess (count + 1) es) (wrong VerilogTooMany at ∷ []) ≡ [] → (count < limit) × (instance_excess (count + 1) es ≡ [])
    by_cases true e g = (grind (arith, nat_tests, e), g)
    by_cases false e g = absurd (cc)

insts_few : (count : ℕ) (due : Due) (es : List Event) → Formed due es → instance_excess count es ≡ [] → count ≤ limit → length (insts_of es) + count ≤ limit + owed due
unfolding instance_excess insts_of
insts_few count due [] f h few = omega (arith, few)
insts_few count free (Declared kind name at ∷ es) f h few = insts_few count free es f.2 h few
insts_few count free (Module name ∷ es) f h few = insts_few count free es f h few
insts_few count free (Header name at ∷ es) f h few = insts_few count free es f h few
insts_few count free (CellWord at ∷ es) f h few =
    let more = room count at es h in
    let rest = insts_few (count + 1) named es f more.1 (omega (arith, more.0)) in
    omega (arith, rest)
insts_few count free (Pin pin at ∷ es) f h few = insts_few count (joined pin) es f h few
insts_few count free (Fault w ∷ es) f h few = rw f (omega (arith, few))
insts_few count free (e ∷ es) f h few = absurd f
insts_few count named (Instance cell name at ∷ es) f h few =
    let rest = insts_few count free es f h few in grind (arith, rest)
insts_few count named (Fault w ∷ es) f h few = rw f (omega (arith, few))
insts_few count named (e ∷ es) f h few = absurd f
insts_few count (joined pin) (Connection word n ∷ es) f h few = insts_few count free es f.1 h few
insts_few count (joined pin) (Fault w ∷ es) f h few = rw f (omega (arith, few))
insts_few count (joined pin) (e ∷ es) f h few = absurd f

-- each net stands once in a set of names
push_distinct : (names : List (List ℕ)) (name : List ℕ) → are_distinct names ≡ true → stands names name ≡ false → are_distinct (names ++ name ∷ []) ≡ true
push_distinct [] name apart absent = refl
push_distinct (x ∷ xs) name apart absent =
    let here = and_parts (not (is_listed xs x)) (are_distinct xs) apart in
    let other = or_parts (bytes_eq name x) (stands xs name) absent in
    let not_last : is_listed (xs ++ name ∷ []) x ≡ is_listed xs x =
    stands_push xs name x ∙ ap (λ b. b || is_listed xs x) (same-sym x name ∙ other.0) in
    and_from (not (is_listed (xs ++ name ∷ []) x)) (are_distinct (xs ++ name ∷ [])) (ap not not_last ∙ here.0) (push_distinct xs name here.1 other.1)

one_distinct : (names : List (List ℕ)) (name : List ℕ) → are_distinct names ≡ true → are_distinct (with_name names name) ≡ true
one_distinct names name apart =
    cond_both (stands names name) names (names ++ name ∷ []) (λ xs. are_distinct xs ≡ true) (λ _. apart) (λ absent. push_distinct names name apart absent)

more_distinct : (names more : List (List ℕ)) → are_distinct names ≡ true → are_distinct (with_names names more) ≡ true
unfolding with_names
more_distinct names [] apart = apart
more_distinct names (x ∷ xs) apart = more_distinct (with_name names x) xs (one_distinct names x apart)

implicit_distinct : (declared vectors nets : List (List ℕ)) (name : List ℕ) → are_distinct nets ≡ true → are_distinct (with_implicit declared vectors nets name) ≡ true
implicit_distinct declared vectors nets name apart =
    cond_both (stands declared name || stands vectors name) nets (with_name nets name) (λ xs. are_distinct xs ≡ true) (λ _. apart) (λ _. one_distinct nets name apart)

all_distinct : (declared vectors nets : List (List ℕ)) (es : List Event) → are_distinct nets ≡ true → are_distinct (all_nets declared vectors nets es) ≡ true
unfolding all_nets
all_distinct declared vectors nets [] apart = apart
all_distinct declared vectors nets (Declared kind name at ∷ es) apart =
    all_distinct declared vectors (with_names nets (nets_of kind.span name)) es (more_distinct nets (nets_of kind.span name) apart)
all_distinct declared vectors nets (Connection pin (Alone name at) ∷ es) apart =
    all_distinct declared vectors (with_implicit declared vectors nets name) es (implicit_distinct declared vectors nets name apart)
all_distinct declared vectors nets (e ∷ es) apart = all_distinct declared vectors nets es apart

-- at most 200,000 nets
unpassed : (span : Option Span) (nets : List (List ℕ)) (at : ℕ) (rest : List Wrong) → told (excess span nets at) rest ≡ [] → (length nets ≤ limit) × (rest ≡ [])
unpassed span nets at rest h = by_cases (is_wide span) (nat_lt limit (length nets)) refl h
  where
    by_cases : (a b : Bool) → nat_lt limit (length nets) ≡ b → told (cond (a || b) (Some (wrong VerilogTooMany at)) None) rest ≡ [] → (length nets ≤ limit) × (rest ≡ [])
    by_cases true b e g = absurd (cc)
    by_cases false true e g = absurd (cc)
    by_cases false false e g = (grind (arith, nat_tests, e), g)

nets_few : (declared vectors nets : List (List ℕ)) (es : List Event) → net_excess declared vectors nets es ≡ [] → length nets ≤ limit → length (all_nets declared vectors nets es) ≤ limit
unfolding net_excess all_nets
nets_few declared vectors nets [] h few = few
nets_few declared vectors nets (Declared kind name at ∷ es) h few =
    let next = with_names nets (nets_of kind.span name) in
    let more = unpassed kind.span next at (net_excess declared vectors next es) h in
    nets_few declared vectors next es more.1 more.0
nets_few declared vectors nets (Connection pin (Alone name at) ∷ es) h few =
    let next = with_implicit declared vectors nets name in
    let more = unpassed None next at (net_excess declared vectors next es) h in
    nets_few declared vectors next es more.1 more.0
nets_few declared vectors nets (e ∷ es) h few = nets_few declared vectors nets es h few

-- which names stand in a set stand in another
abbrev Within : List (List ℕ) → List (List ℕ) → Type 0
Within names others = (q : List ℕ) → stands names q ≡ true → stands others q ≡ true

left_of : (a b : Bool) → a ≡ true → (a || b) ≡ true
left_of a b h = ap (λ c. c || b) h

right_of : (a b : Bool) → b ≡ true → (a || b) ≡ true
right_of a b h = ap (λ c. a || c) h ∙ or_true a

one_within : (names : List (List ℕ)) (name : List ℕ) → Within names (with_name names name)
one_within names name q h = stands_one names name q ∙ left_of (stands names q) (bytes_eq q name) h

one_there : (names : List (List ℕ)) (name : List ℕ) → stands (with_name names name) name ≡ true
one_there names name = stands_one names name name ∙ right_of (stands names name) (bytes_eq name name) ((bytes_eq-Decides name name).1 refl)

more_within : (names more : List (List ℕ)) → Within names (with_names names more)
more_within names more q h = stands_more names more q ∙ left_of (stands names q) (stands more q) h

more_there : (names more : List (List ℕ)) → Within more (with_names names more)
more_there names more q h = stands_more names more q ∙ right_of (stands names q) (stands more q) h

-- sets with the same names more
more_both : (names others more : List (List ℕ)) → Within names others → Within (with_names names more) (with_names others more)
more_both names others more w q h = stands_more others more q ∙ by_cases (stands names q) refl (sym (stands_more names more q) ∙ h)
  where
    by_cases : (b : Bool) → stands names q ≡ b → (b || stands more q) ≡ true → (stands others q || stands more q) ≡ true
    by_cases true e g = left_of (stands others q) (stands more q) (w q e)
    by_cases false e g = right_of (stands others q) (stands more q) g

one_both : (names others : List (List ℕ)) (name : List ℕ) → Within names others → Within (with_name names name) (with_name others name)
one_both names others name w q h = stands_one others name q ∙ by_cases (stands names q) refl (sym (stands_one names name q) ∙ h)
  where
    by_cases : (b : Bool) → stands names q ≡ b → (b || bytes_eq q name) ≡ true → (stands others q || bytes_eq q name) ≡ true
    by_cases true e g = left_of (stands others q) (bytes_eq q name) (w q e)
    by_cases false e g = right_of (stands others q) (bytes_eq q name) g

implicit_within : (declared vectors nets : List (List ℕ)) (name : List ℕ) → Within nets (with_implicit declared vectors nets name)
implicit_within declared vectors nets name =
    cond_both (stands declared name || stands vectors name) nets (with_name nets name) (Within nets) (λ _ q h. h) (λ _. one_within nets name)

-- all nets hold those before them, and all that are declared
nets_within : (declared vectors nets : List (List ℕ)) (es : List Event) → Within nets (all_nets declared vectors nets es)
unfolding all_nets
nets_within declared vectors nets [] q h = h
nets_within declared vectors nets (Declared kind name at ∷ es) q h =
    nets_within declared vectors (with_names nets (nets_of kind.span name)) es q (more_within nets (nets_of kind.span name) q h)
nets_within declared vectors nets (Connection pin (Alone name at) ∷ es) q h =
    nets_within declared vectors (with_implicit declared vectors nets name) es q (implicit_within declared vectors nets name q h)
nets_within declared vectors nets (e ∷ es) q h = nets_within declared vectors nets es q h

declared_within : (declared vectors before nets : List (List ℕ)) (es : List Event) → Within before nets → Within (all_declared before es) (all_nets declared vectors nets es)
unfolding all_declared all_nets
declared_within declared vectors before nets [] w q h = w q h
declared_within declared vectors before nets (Declared kind name at ∷ es) w q h =
    let more = nets_of kind.span name in
    declared_within declared vectors (with_names before more) (with_names nets more) es (more_both before nets more w) q h
declared_within declared vectors before nets (Connection pin (Alone name at) ∷ es) w q h =
    declared_within declared vectors before (with_implicit declared vectors nets name) es (λ x g. implicit_within declared vectors nets name x (w x g)) q h
declared_within declared vectors before nets (e ∷ es) w q h = declared_within declared vectors before nets es w q h

before_within : (before : List (List ℕ)) (es : List Event) → Within before (all_declared before es)
unfolding all_declared
before_within before [] q h = h
before_within before (Declared kind name at ∷ es) q h =
    before_within (with_names before (nets_of kind.span name)) es q (more_within before (nets_of kind.span name) q h)
before_within before (e ∷ es) q h = before_within before es q h

-- each port is a net
abbrev is_held : List (List ℕ) → Port → Bool
is_held nets port = is_listed nets port.name

each_held : (nets names : List (List ℕ)) (role : Role) → Within names nets → list_all (is_held nets) (map (port_of (dir_of role)) names) ≡ true
each_held nets [] role w = refl
each_held nets (x ∷ xs) role w =
    and_from (is_listed nets x) (list_all (is_held nets) (map (port_of (dir_of role)) xs))
    (w x (left_of (bytes_eq x x) (stands xs x) ((bytes_eq-Decides x x).1 refl)))
    (each_held nets xs role (λ q h. w q (right_of (bytes_eq q x) (stands xs q) h)))

ports_held : (nets before : List (List ℕ)) (es : List Event) → Within (all_declared before es) nets → list_all (is_held nets) (ports_of es) ≡ true
unfolding all_declared ports_of
ports_held nets before [] w = refl
ports_held nets before (Declared kind name at ∷ es) w =
    let more = nets_of kind.span name in
    let rest = ports_held nets (with_names before more) es w in
    let here = each_held nets more kind.role (λ q h. w q (before_within (with_names before more) es q (more_there before more q h))) in
    cond_both (is_port kind.role) (map (port_of (dir_of kind.role)) more ++ ports_of es) (ports_of es) (λ ports. list_all (is_held nets) ports ≡ true)
    (λ _. list_all-append (is_held nets) (map (port_of (dir_of kind.role)) more) (ports_of es)
    ∙ and_from (list_all (is_held nets) (map (port_of (dir_of kind.role)) more)) (list_all (is_held nets) (ports_of es)) here rest) (λ _. rest)
ports_held nets before (e ∷ es) w = ports_held nets before es w

-- no vector is connected as a whole
vectors_grow : (vectors : List (List ℕ)) (span : Option Span) (name : List ℕ) → Within vectors (vectors_with vectors span name)
vectors_grow vectors None name q h = h
vectors_grow vectors (Some span) name q h = one_within vectors name q h

unvectored : (vectors : List (List ℕ)) (name : List ℕ) (at : ℕ) (rest : List Wrong) → cond (stands vectors name) (wrong VerilogLeftOut at ∷ rest) rest ≡ [] → (stands vectors name ≡ false) × (rest ≡ [])
unvectored vectors name at rest h = by_cases (stands vectors name) h
  where
    by_cases : (b : Bool) → cond b (wrong VerilogLeftOut at ∷ rest) rest ≡ [] → (b ≡ false) × (rest ≡ [])
    by_cases true g = absurd (cc)
    by_cases false g = (refl, g)

undeclared : (declared : List (List ℕ)) (name : List ℕ) (at : ℕ) (rest : List Wrong) → cond (stands declared name) rest (wrong VerilogUndeclared at ∷ rest) ≡ [] → (stands declared name ≡ true) × (rest ≡ [])
undeclared declared name at rest h = by_cases (stands declared name) h
  where
    by_cases : (b : Bool) → cond b rest (wrong VerilogUndeclared at ∷ rest) ≡ [] → (b ≡ true) × (rest ≡ [])
    by_cases true g = (refl, g)
    by_cases false g = absurd (cc)

-- a name alone is declared, or a net of its own
alone_held : (declared vectors nets : List (List ℕ)) (name : List ℕ) → stands vectors name ≡ false → (stands declared name ≡ true) ⊎ (stands (with_implicit declared vectors nets name) name ≡ true)
alone_held declared vectors nets name h = by_cases (stands declared name) (stands vectors name) refl h
  where
    by_cases : (a b : Bool) → stands declared name ≡ a → b ≡ false → (stands declared name ≡ true) ⊎ (stands (cond (a || b) nets (with_name nets name)) name ≡ true)
    by_cases true b e g = inl e
    by_cases false true e g = absurd (false≢true (sym g))
    by_cases false false e g = inr (one_there nets name)

absent_in : (names others : List (List ℕ)) (name : List ℕ) → Within names others → stands others name ≡ false → stands names name ≡ false
absent_in names others name w h = by_cases (stands names name) refl
  where
    by_cases : (b : Bool) → stands names name ≡ b → b ≡ false
    by_cases true e = absurd (false≢true (sym h ∙ w name e))
    by_cases false e = refl

-- each connected net is a net
abbrev is_joined : List (List ℕ) → Conn → Bool
is_joined nets conn = option_map_or (is_listed nets) conn.net true

-- what is known while connections are read
record Reading (declared vectors seen nets all : List (List ℕ)) (es : List Event) : Type 0 where
  known : Within declared all
  wide : Within vectors seen
  rest : Within (all_nets declared vectors nets es) all
  whole : whole_vectors seen es ≡ []
  bits : undeclared_bits declared es ≡ []

read_declared : (declared vectors seen nets all : List (List ℕ)) (kind : Kind) (name : List ℕ) (at : ℕ) (es : List Event) → Reading declared vectors seen nets all (Declared kind name at ∷ es) → Reading declared vectors (vectors_with seen kind.span name) (with_names nets (nets_of kind.span name)) all es
unfolding all_nets whole_vectors undeclared_bits
read_declared declared vectors seen nets all kind name at es r =
    record { known = r.known; wide = λ q h. vectors_grow seen kind.span name q (r.wide q h); rest = r.rest; whole = r.whole; bits = r.bits }

read_alone : (declared vectors seen nets all : List (List ℕ)) (pin name : List ℕ) (at : ℕ) (es : List Event) → Reading declared vectors seen nets all (Connection pin (Alone name at) ∷ es) → (stands seen name ≡ false) × Reading declared vectors seen (with_implicit declared vectors nets name) all es
unfolding all_nets whole_vectors undeclared_bits
read_alone declared vectors seen nets all pin name at es r =
    let parts = unvectored seen name at (whole_vectors seen es) r.whole in
    (parts.0, record { known = r.known; wide = r.wide; rest = r.rest; whole = parts.1; bits = r.bits })

read_bit : (declared vectors seen nets all : List (List ℕ)) (pin name : List ℕ) (at : ℕ) (es : List Event) → Reading declared vectors seen nets all (Connection pin (Bit name at) ∷ es) → (stands declared name ≡ true) × Reading declared vectors seen nets all es
unfolding all_nets whole_vectors undeclared_bits
read_bit declared vectors seen nets all pin name at es r =
    let parts = undeclared declared name at (undeclared_bits declared es) r.bits in
    (parts.0, record { known = r.known; wide = r.wide; rest = r.rest; whole = r.whole; bits = parts.1 })

alone_net : (declared vectors seen nets all : List (List ℕ)) (name : List ℕ) (es : List Event) → stands seen name ≡ false → Reading declared vectors seen (with_implicit declared vectors nets name) all es → is_listed all name ≡ true
alone_net declared vectors seen nets all name es absent r =
    elim (alone_held declared vectors nets name (absent_in vectors seen name r.wide absent)) [
      | inl h ↦ r.known name h
      | inr h ↦ r.rest name (nets_within declared vectors (with_implicit declared vectors nets name) es name h)
    ]

conns_held : (declared vectors seen nets all : List (List ℕ)) (es : List Event) → Reading declared vectors seen nets all es → list_all (is_joined all) (conns_of es) ≡ true
unfolding conns_of all_nets whole_vectors undeclared_bits
conns_held declared vectors seen nets all [] r = refl
conns_held declared vectors seen nets all (Declared kind name at ∷ es) r =
    conns_held declared vectors (vectors_with seen kind.span name) (with_names nets (nets_of kind.span name)) all es (read_declared declared vectors seen nets all kind name at es r)
conns_held declared vectors seen nets all (Connection pin (Alone name at) ∷ es) r =
    let next = read_alone declared vectors seen nets all pin name at es r in
    and_from (is_listed all name) (list_all (is_joined all) (conns_of es)) (alone_net declared vectors seen nets all name es next.0 next.1)
    (conns_held declared vectors seen (with_implicit declared vectors nets name) all es next.1)
conns_held declared vectors seen nets all (Connection pin (Bit name at) ∷ es) r =
    let next = read_bit declared vectors seen nets all pin name at es r in
    and_from (is_listed all name) (list_all (is_joined all) (conns_of es)) (r.known name next.0)
    (conns_held declared vectors seen nets all es next.1)
conns_held declared vectors seen nets all (Instance cell name at ∷ es) r = refl
conns_held declared vectors seen nets all (e ∷ es) r =
    conns_held declared vectors seen nets all es (record { known = r.known; wide = r.wide; rest = r.rest; whole = r.whole; bits = r.bits })

insts_held : (declared vectors seen nets all : List (List ℕ)) (es : List Event) → Reading declared vectors seen nets all es → list_all (joins all) (insts_of es) ≡ true
unfolding insts_of all_nets whole_vectors undeclared_bits
insts_held declared vectors seen nets all [] r = refl
insts_held declared vectors seen nets all (Declared kind name at ∷ es) r =
    insts_held declared vectors (vectors_with seen kind.span name) (with_names nets (nets_of kind.span name)) all es (read_declared declared vectors seen nets all kind name at es r)
insts_held declared vectors seen nets all (Connection pin (Alone name at) ∷ es) r =
    insts_held declared vectors seen (with_implicit declared vectors nets name) all es (read_alone declared vectors seen nets all pin name at es r).1
insts_held declared vectors seen nets all (Connection pin (Bit name at) ∷ es) r =
    insts_held declared vectors seen nets all es (read_bit declared vectors seen nets all pin name at es r).1
insts_held declared vectors seen nets all (Instance cell name at ∷ es) r =
    let next : Reading declared vectors seen nets all es = record { known = r.known; wide = r.wide; rest = r.rest; whole = r.whole; bits = r.bits } in
    and_from (list_all (is_joined all) (conns_of es)) (list_all (joins all) (insts_of es)) (conns_held declared vectors seen nets all es next)
    (insts_held declared vectors seen nets all es next)
insts_held declared vectors seen nets all (e ∷ es) r =
    insts_held declared vectors seen nets all es (record { known = r.known; wide = r.wide; rest = r.rest; whole = r.whole; bits = r.bits })

-- names of ports have no colon
colon_is : (b : ℕ) → nat_eq 58 b ≡ is_colon b
colon_is b = grind (arith, nat_tests)

colons : (word : List ℕ) → with_colon word ≡ has_colon word
colons [] = refl
colons (b ∷ bs) = rw (colon_is b, colons bs) refl

digit_plain : (b : ℕ) → is_ascii_digit b ≡ true → is_colon b ≡ false
digit_plain b h = grind (arith, nat_tests)

digits_plain : (ds : List ℕ) → list_all is_ascii_digit ds ≡ true → has_colon ds ≡ false
digits_plain [] h = refl
digits_plain (b ∷ bs) h =
    let parts = and_parts (is_ascii_digit b) (list_all is_ascii_digit bs) h in rw (digit_plain b parts.0, digits_plain bs parts.1) refl

bit_plain : (name : List ℕ) (k : ℕ) → has_colon name ≡ false → k < 2 ^ 32 → has_colon (bit_name name k) ≡ false
bit_plain name k h few =
    list_any-append is_colon name (91 ∷ (decimal k ++ (93 ∷ [])))
    ∙ rw (h, list_any-append is_colon (decimal k) (93 ∷ [])) (rw (digits_plain (decimal k) (decimal_digits k few)) refl)

abbrev is_plain : List ℕ → Bool
is_plain name = not (with_colon name)

plain : (name : List ℕ) → has_colon name ≡ false → is_plain name ≡ true
plain name h = ap not (colons name ∙ h)

bits_plain : (span : Span) (name : List ℕ) (i n : ℕ) → SmallEnds (Some span) → i + n ≤ width span → has_colon name ≡ false → list_all is_plain (bits span name i n) ≡ true
unfolding bits
bits_plain span name i zero ends within h = refl
bits_plain span name i (suc n) ends within h =
    let few = number_small span (number_at span i) ends.0 ends.1 (at_number span i (omega (arith, within))) in
    and_from (is_plain (bit_name name (number_at span i))) (list_all is_plain (bits span name (i + 1) n))
    (plain (bit_name name (number_at span i)) (bit_plain name (number_at span i) h few))
    (bits_plain span name (i + 1) n ends (omega (arith, within)) h)

nets_plain : (span : Option Span) (name : List ℕ) → SmallEnds span → has_colon name ≡ false → list_all is_plain (nets_of span name) ≡ true
unfolding nets_of
nets_plain None name ends h = and_from (is_plain name) true (plain name h) refl
nets_plain (Some span) name ends h = bits_plain span name 0 (width span) ends (omega arith) h

abbrev is_plain_port : Port → Bool
is_plain_port port = is_plain port.name

each_plain : (names : List (List ℕ)) (role : Role) → list_all is_plain names ≡ true → list_all is_plain_port (map (port_of (dir_of role)) names) ≡ true
each_plain [] role h = refl
each_plain (x ∷ xs) role h =
    let parts = and_parts (is_plain x) (list_all is_plain xs) h in
    and_from (is_plain x) (list_all is_plain_port (map (port_of (dir_of role)) xs)) parts.0 (each_plain xs role parts.1)

ports_plain : (es : List Event) → AreDeclared es → list_all is_plain_port (ports_of es) ≡ true
unfolding ports_of
ports_plain [] f = refl
ports_plain (Declared kind name at ∷ es) f =
    let more = nets_of kind.span name in
    let rest = ports_plain es f.2 in
    cond_both (is_port kind.role) (map (port_of (dir_of kind.role)) more ++ ports_of es) (ports_of es) (λ ports. list_all is_plain_port ports ≡ true)
    (λ is. list_all-append is_plain_port (map (port_of (dir_of kind.role)) more) (ports_of es)
    ∙ and_from (list_all is_plain_port (map (port_of (dir_of kind.role)) more)) (list_all is_plain_port (ports_of es))
    (each_plain more kind.role (nets_plain kind.span name f.0 (f.1 is))) rest) (λ _. rest)
ports_plain (e ∷ es) f = ports_plain es f

-- the module of events that are formed, without faults
netlist : (es : List Event) (name : List ℕ) → Formed free es → faults_of es ≡ [] → IsNetlist (module_named es name)
netlist es name f h =
    let early : early_faults es ≡ [] =
    back (stops es) (early_faults es) (front (stops es ++ early_faults es) (cond (is_empty (stops es)) (whole_faults es) (whole_vectors [] es)) h) in
    let all : whole_faults es ≡ [] =
    chosen (stops es) (whole_faults es) (whole_vectors [] es) (no_stop es h)
    (back (stops es ++ early_faults es) (cond (is_empty (stops es)) (whole_faults es) (whole_vectors [] es)) h) in
    let nets : net_faults es ≡ [] = no_net_fault es h in
    let declared = all_declared [] es in
    let vectors = all_vectors [] es in
    let to_excess = front (header_doubles [] es ++ declaration_faults nothing es ++ instance_doubles [] es ++ instance_excess 0 es) (pin_doubles [] es) early in
    let to_insts = front (header_doubles [] es ++ declaration_faults nothing es ++ instance_doubles [] es) (instance_excess 0 es) to_excess in
    let to_ports = front (header_doubles [] es ++ declaration_faults nothing es) (instance_doubles [] es) to_insts in
    let owned = declarations free es f in
    let held : Within declared (module_nets es) = declared_within declared vectors [] [] es (λ q g. g) in
    let reading : Reading declared vectors vectors [] (module_nets es) es = record {
      known = held;
      wide = λ q g. g;
      rest = λ q g. g;
      whole = front (whole_vectors vectors es) (undirected (all_directed [] es) es) (front (whole_vectors vectors es ++ undirected (all_directed [] es) es) (net_faults es) all);
      bits = front (undeclared_bits declared es) (net_excess declared vectors [] es) nets;
    } in
    let few = insts_few 0 free es f (back (header_doubles [] es ++ declaration_faults nothing es ++ instance_doubles [] es) (instance_excess 0 es) to_excess) (omega arith) in
    record {
      ports = lone_distinct [] (map (λ port. port.name) (ports_of es)) (ports_lone nothing es owned (back (header_doubles [] es) (declaration_faults nothing es) to_ports));
      insts = lone_distinct [] (map (λ inst. inst.name) (insts_of es)) (insts_lone [] es (back (header_doubles [] es ++ declaration_faults nothing es) (instance_doubles [] es) to_insts));
      nets = all_distinct declared vectors [] es refl;
      conns = insts_apart [] free es f (back (header_doubles [] es ++ declaration_faults nothing es ++ instance_doubles [] es ++ instance_excess 0 es) (pin_doubles [] es) early);
      plain = ports_plain es owned;
      port_nets = ports_held (module_nets es) [] es held;
      conn_nets = insts_held declared vectors vectors [] (module_nets es) es reading;
      few_insts = omega (arith, few);
      few_nets = nets_few declared vectors [] es (back (undeclared_bits declared es) (net_excess declared vectors [] es) nets) (omega arith);
    }

module_kept : (es : List Event) (name : Option (List ℕ)) (m : Netlist) → ((word : List ℕ) → IsNetlist (module_named es word)) → option_map (module_named es) name ≡ Some m → IsNetlist m
module_kept es None m h read = absurd (cc)
module_kept es (Some name) m h read =
    let same_module : module_named es name ≡ m = cc in subst IsNetlist same_module (h name)

-- the module of a text without faults
kept : (bytes : List ℕ) (m : Netlist) → faults_of (events_of bytes) ≡ [] → module_of (events_of bytes) ≡ Some m → IsNetlist m
kept bytes m h read =
    let f = (formed (length bytes) start (tokens_of Verilog bytes) tt).held in
    module_kept (events_of bytes) (module_name (events_of bytes)) m (λ name. netlist (events_of bytes) name f h) read

pub told_kept : (r : Result Netlist ReadFault) (bytes : List ℕ) → MatchResult r (λ m. (faults_of (events_of bytes) ≡ []) × (module_of (events_of bytes) ≡ Some m)) (λ e. Fails e (faults_of (events_of bytes))) → IfOk r IsNetlist
told_kept (Ok m) bytes read = kept bytes m read.0 read.1
told_kept (Err fault) bytes read = tt
