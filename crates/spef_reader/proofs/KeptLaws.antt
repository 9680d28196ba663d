-- Parasitics that are read have each net once, and numbers of their form.
use Rattle.std.proofs.Common.{◌≡◌, ℕ, zero, suc, Bool, true, false, List, [], ◌∷◌, ◌++◌, map, take, length, cond, refl, arith}
use Rattle.std.specs.Prelude.{Option, Some, None, is_some, Result, Ok, Err, ℤ, pos, negsuc, int_le, nat_le, nat_lt, codes, ◌&&◌, ◌||◌, not, option_and_then}
use Rattle.std.specs.List.{list_all, list_any, prefix_len}
use Rattle.std.proofs.lemmas.Bool.{cond_both, and_parts, and_from, le-leb}
use Rattle.std.proofs.lemmas.List.Folds.{list_all-append}
use Rattle.sta_units.specs.Numbers.{limit, is_within}
use Rattle.sta_units.specs.Decimal.{decimal_of, is_whole}
use Rattle.sta_units.specs.declared.decimals.DecFault.{DecFault}
use Rattle.sta_units.specs.declared.units.Unit.{Unit as Power}
use Rattle.timing_defs.specs.declared.codes.Code.TheVariants.{SpefDoubleNet}
use Rattle.timing_defs.specs.declared.parasitics.RcCap.{RcCap}
use Rattle.timing_defs.specs.declared.parasitics.RcRes.{RcRes}
use Rattle.timing_defs.specs.declared.texts.Style.TheVariants.{Spef}
use Rattle.timing_defs.specs.Netlist.{are_distinct}
use Rattle.timing_defs.specs.Documents.{is_amount, is_net_rc, are_parasitics}
use Rattle.sta_text.specs.Names.{stands}
use Rattle.sta_text.specs.Tokens.{Tok, is_bad, tokens_of}
use Rattle.sta_text.specs.declared.faults.Wrong.{Wrong}
use Rattle.sta_text.proofs.DistinctLemmas.{Lone, lone_distinct, lone_less, stands_still}
use Rattle.sta_text.proofs.DecimalLemmas.{IfWithin, decimal_kept}
use Rattle.spef_reader.specs.declared.context.Context.{Context}
use Rattle.spef_reader.specs.declared.context.Measure.TheVariants.{Capacitance, Resistance, Other}
use Rattle.spef_reader.specs.declared.events.Event.{Event}
use Rattle.spef_reader.specs.declared.events.Event.TheVariants.{Net, Total, Connection, Ground, Coupling, Resistor, End}
use Rattle.spef_reader.specs.Words.{is_index, index_of, is_spelled, is_reference, is_node, written, size_of, size_in, value_of, is_no_value, power_of, mark_of, delimiter_of, is_text_word, is_other_unit, is_passed, is_port_word, is_left_out, is_section, is_net_word, is_direction, is_pin_row}
use Rattle.spef_reader.specs.Nodes.{name_of, node_of, is_unknown}
use Rattle.spef_reader.specs.Grammar.{Place, start, title, header, first_text, next_text, divider, delimiter, bus_open, bus_close, factor, unit, name_map, mapped, passed, section, net_name, total, behind_total, width, parts, conn_row, conn_node, direction, cap_row, cap_node, cap_next, cap_value, res_row, res_first, res_second, res_value, is_text, is_word, is_string, is_unit, noted, unknown_name, bad_number, with_delimiter, with_open, with_close, with_unit, with_name, power_in, at_section, at_header, at_part, may_end, is_complete, events, fresh, events_of}
use Rattle.spef_reader.specs.Faults.{double_nets, wrong, is_of_net, rows_of, is_resistance, lump_of, pins_on, token_faults, nets_faults, faults_of}
use Rattle.spef_reader.specs.Parasitics.{caps_of, ress_of, small, net_of, nets_of, parasitics_of}

-- a size that is known is within the limit
abbrev fits : Option ℕ → Bool
fits None = true
fits (Some n) = nat_le n limit

abbrev is_sized : Event → Bool
is_sized (Total size) = fits size
is_sized (Ground a size) = fits size
is_sized (Coupling at a b size) = fits size
is_sized (Resistor a b size) = fits size
is_sized e = true

-- all sizes that are known are within the limit
record AreSized (es : List Event) : Type 0 where
  all : list_all is_sized es ≡ true

size_fits : (r : Result ℤ DecFault) → IfWithin r → fits (size_of r) ≡ true
size_fits (Ok (pos n)) h = h
size_fits (Ok (negsuc n)) h = refl
size_fits (Err fault) h = refl

said_fits : (power : Option Power) (decimal : Option (List ℕ)) → fits (option_and_then (size_in power) decimal) ≡ true
said_fits power None = refl
said_fits None (Some decimal) = refl
said_fits (Some power) (Some decimal) = size_fits (decimal_of decimal power.ten) (decimal_kept decimal power.ten)

value_fits : (power : Option Power) (word : List ℕ) → fits (value_of power word) ≡ true
value_fits power word = said_fits power (written word)

more : (e : Event) (es : List Event) → is_sized e ≡ true → AreSized es → AreSized (e ∷ es)
more e es here there = record { all = and_from (is_sized e) (list_all is_sized es) here there.all }

done : (es : List Event) → list_all is_sized es ≡ true → AreSized es
done es h = record { all = h }

pick : (b : Bool) (xs ys : List Event) → AreSized xs → AreSized ys → AreSized (cond b xs ys)
pick b xs ys h k = cond_both b xs ys AreSized (λ _. h) (λ _. k)

note : (b : Bool) (e : Event) (es : List Event) → is_sized e ≡ true → AreSized es → AreSized (noted b e es)
note b e es here there = pick b (e ∷ es) es (more e es here there) there

sized_section : (c : Context) (t : Tok) (names over net : List Event) → AreSized names → AreSized over → AreSized net → AreSized (at_section c t names over net)
sized_section c t names over net hn ho hd =
    pick (is_text t (codes "*NAME_MAP")) _ _ hn
    (pick (is_text t (codes "*D_NET")) _ _ hd (pick (is_passed t.text) _ _ ho (pick (is_left_out t.text) _ _ (done _ refl) (done _ refl))))

sized_header : (t : Tok) (texts divides delimits buses caps ress others sections : List Event) → AreSized texts → AreSized divides → AreSized delimits → AreSized buses → AreSized caps → AreSized ress → AreSized others → AreSized sections → AreSized (at_header t texts divides delimits buses caps ress others sections)
sized_header t texts divides delimits buses caps ress others sections h1 h2 h3 h4 h5 h6 h7 h8 =
    pick (is_text_word t.text) _ _ h1
    (pick (is_text t (codes "*DIVIDER")) _ _ h2
    (pick (is_text t (codes "*DELIMITER")) _ _ h3
    (pick (is_text t (codes "*BUS_DELIMITER")) _ _ h4
    (pick (is_text t (codes "*C_UNIT")) _ _ h5 (pick (is_text t (codes "*R_UNIT")) _ _ h6 (pick (is_other_unit t.text) _ _ h7 h8))))))

sized_part : (c : Context) (past : ℕ) (t : Tok) (conns caps ress behind : List Event) → AreSized conns → AreSized caps → AreSized ress → AreSized behind → AreSized (at_part c past t conns caps ress behind)
sized_part c past t conns caps ress behind h1 h2 h3 h4 =
    pick (nat_lt past 1 && is_text t (codes "*CONN")) _ _ h1
    (pick (nat_lt past 2 && is_text t (codes "*CAP")) _ _ h2
    (pick (nat_lt past 3 && is_text t (codes "*RES")) _ _ h3
    (pick (is_text t (codes "*END")) _ _ (more End behind refl h4) (pick (is_text t (codes "*INDUC")) _ _ (done _ refl) (done _ refl)))))

-- all sizes that a text writes are within the limit
sized : (c : Context) (place : Place) (ts : List Tok) → AreSized (events c place ts)
unfolding events
sized c place [] = pick (may_end place && is_complete c.header) _ _ (done _ refl) (done _ refl)
sized c start (t ∷ ts) = pick (is_text t (codes "*SPEF")) _ _ (sized c title ts) (done _ refl)
sized c title (t ∷ ts) = pick (is_string t) _ _ (sized c header ts) (done _ refl)
sized c header (t ∷ ts) =
    sized_header t _ _ _ _ _ _ _ _ (sized c first_text ts) (sized c divider ts) (sized c delimiter ts) (sized c bus_open ts)
    (sized c (factor Capacitance) ts) (sized c (factor Resistance) ts) (sized c (factor Other) ts)
    (sized_section c t _ _ _ (sized c name_map ts) (sized c passed ts) (sized c (net_name t.start) ts))
sized c first_text (t ∷ ts) = pick (is_string t) _ _ (sized c next_text ts) (done _ refl)
sized c next_text (t ∷ ts) =
    pick (is_string t) _ _ (sized c next_text ts)
    (pick (is_bad t.sort) _ _ (done _ refl)
    (sized_header t _ _ _ _ _ _ _ _ (sized c first_text ts) (sized c divider ts) (sized c delimiter ts) (sized c bus_open ts)
    (sized c (factor Capacitance) ts) (sized c (factor Resistance) ts) (sized c (factor Other) ts)
    (sized_section c t _ _ _ (sized c name_map ts) (sized c passed ts) (sized c (net_name t.start) ts))))
sized c divider (t ∷ ts) = pick (is_word t) _ _ (sized c header ts) (done _ refl)
sized c delimiter (t ∷ ts) = pick (is_some (delimiter_of t.text)) _ _ (sized (with_delimiter c (delimiter_of t.text)) header ts) (done _ refl)
sized c bus_open (t ∷ ts) = pick (is_word t && is_some (mark_of t.text)) _ _ (sized (with_open c (mark_of t.text)) bus_close ts) (done _ refl)
sized c bus_close (t ∷ ts) =
    pick (is_word t && is_some (mark_of t.text)) _ _ (sized (with_close c (mark_of t.text)) header ts)
    (sized_header t _ _ _ _ _ _ _ _ (sized c first_text ts) (sized c divider ts) (sized c delimiter ts) (sized c bus_open ts)
    (sized c (factor Capacitance) ts) (sized c (factor Resistance) ts) (sized c (factor Other) ts)
    (sized_section c t _ _ _ (sized c name_map ts) (sized c passed ts) (sized c (net_name t.start) ts)))
sized c (factor m) (t ∷ ts) = pick (is_some (power_of t.text)) _ _ (sized c (unit m (power_in (power_of t.text))) ts) (done _ refl)
sized c (unit m k) (t ∷ ts) = pick (is_word t && is_unit m t.text) _ _ (sized (with_unit c m k t.text) header ts) (done _ refl)
sized c name_map (t ∷ ts) =
    pick (is_index t.text) _ _ (sized c (mapped (index_of t.text)) ts)
    (sized_section c t _ _ _ (sized c name_map ts) (sized c passed ts) (sized c (net_name t.start) ts))
sized c (mapped index) (t ∷ ts) = pick (is_word t && is_spelled t.text) _ _ (sized (with_name c index t.text) name_map ts) (done _ refl)
sized c passed (t ∷ ts) =
    pick (is_section t.text) _ _ (sized_section c t _ _ _ (sized c name_map ts) (sized c passed ts) (sized c (net_name t.start) ts))
    (pick (is_bad t.sort || not (is_port_word c.header.delimiter t.text)) _ _ (done _ refl) (sized c passed ts))
sized c section (t ∷ ts) = sized_section c t _ _ _ (sized c name_map ts) (sized c passed ts) (sized c (net_name t.start) ts)
sized c (net_name at) (t ∷ ts) =
    pick (is_word t && is_reference t.text) _ _
    (note (not (is_some (name_of c t.text))) (unknown_name t.start) _ refl
    (more (Net at (name_of c t.text) t.start) _ refl (sized c (total (name_of c t.text)) ts))) (done _ refl)
sized c (total net) (t ∷ ts) =
    pick (is_word t) _ _
    (note (is_no_value c.header.farad t.text) (bad_number t.start) _ refl
    (more (Total (value_of c.header.farad t.text)) _ (value_fits c.header.farad t.text) (sized c (behind_total net) ts))) (done _ refl)
sized c (behind_total net) (t ∷ ts) =
    pick (is_text t (codes "*V")) _ _ (sized c (width net) ts)
    (pick (is_text t (codes "*SC")) _ _ (done _ refl)
    (sized_part c 0 t _ _ _ _ (sized c (conn_row net false) ts) (sized c (cap_row net false) ts) (sized c (res_row net false) ts) (sized c section ts)))
sized c (width net) (t ∷ ts) = pick (is_whole t.text) _ _ (sized c (parts net 0) ts) (done _ refl)
sized c (parts net past) (t ∷ ts) =
    sized_part c past t _ _ _ _ (sized c (conn_row net false) ts) (sized c (cap_row net false) ts) (sized c (res_row net false) ts) (sized c section ts)
sized c (conn_row net passes) (t ∷ ts) =
    pick (is_pin_row t.text) _ _ (sized c (conn_node net true) ts)
    (pick (is_text t (codes "*N")) _ _ (sized c (conn_node net false) ts)
    (pick (passes && not (is_net_word t.text || is_section t.text)) _ _ (pick (is_bad t.sort) _ _ (done _ refl) (sized c (conn_row net true) ts))
    (sized_part c 1 t _ _ _ _ (sized c (conn_row net false) ts) (sized c (cap_row net false) ts) (sized c (res_row net false) ts) (sized c section ts))))
sized c (conn_node net directed) (t ∷ ts) =
    pick (is_word t && is_node c.header.delimiter t.text) _ _
    (note (is_unknown c (node_of c net t.text)) (unknown_name t.start) _ refl
    (more (Connection (node_of c net t.text)) _ refl (sized c (cond directed (direction net) (conn_row net true)) ts))) (done _ refl)
sized c (direction net) (t ∷ ts) = pick (is_direction t.text) _ _ (sized c (conn_row net true) ts) (done _ refl)
sized c (cap_row net valued) (t ∷ ts) =
    pick (is_whole t.text) _ _ (sized c (cap_node net t.start) ts)
    (pick (valued && is_text t (codes "*SC")) _ _ (done _ refl)
    (sized_part c 2 t _ _ _ _ (sized c (conn_row net false) ts) (sized c (cap_row net false) ts) (sized c (res_row net false) ts) (sized c section ts)))
sized c (cap_node net at) (t ∷ ts) =
    pick (is_word t && is_node c.header.delimiter t.text) _ _
    (note (is_unknown c (node_of c net t.text)) (unknown_name t.start) _ refl (sized c (cap_next net at (node_of c net t.text)) ts)) (done _ refl)
sized c (cap_next net at a) (t ∷ ts) =
    pick (is_word t && is_some (written t.text)) _ _
    (note (is_no_value c.header.farad t.text) (bad_number t.start) _ refl
    (more (Ground a (value_of c.header.farad t.text)) _ (value_fits c.header.farad t.text) (sized c (cap_row net true) ts)))
    (pick (is_word t && is_node c.header.delimiter t.text) _ _
    (note (is_unknown c (node_of c net t.text)) (unknown_name t.start) _ refl (sized c (cap_value net at a (node_of c net t.text)) ts)) (done _ refl))
sized c (cap_value net at a b) (t ∷ ts) =
    pick (is_word t) _ _
    (note (is_no_value c.header.farad t.text) (bad_number t.start) _ refl
    (more (Coupling at a b (value_of c.header.farad t.text)) _ (value_fits c.header.farad t.text) (sized c (cap_row net true) ts))) (done _ refl)
sized c (res_row net valued) (t ∷ ts) =
    pick (is_whole t.text) _ _ (sized c (res_first net) ts)
    (pick (valued && is_text t (codes "*SC")) _ _ (done _ refl)
    (sized_part c 3 t _ _ _ _ (sized c (conn_row net false) ts) (sized c (cap_row net false) ts) (sized c (res_row net false) ts) (sized c section ts)))
sized c (res_first net) (t ∷ ts) =
    pick (is_word t && is_node c.header.delimiter t.text) _ _
    (note (is_unknown c (node_of c net t.text)) (unknown_name t.start) _ refl (sized c (res_second net (node_of c net t.text)) ts)) (done _ refl)
sized c (res_second net a) (t ∷ ts) =
    pick (is_word t && is_node c.header.delimiter t.text) _ _
    (note (is_unknown c (node_of c net t.text)) (unknown_name t.start) _ refl (sized c (res_value net a (node_of c net t.text)) ts)) (done _ refl)
sized c (res_value net a b) (t ∷ ts) =
    pick (is_word t) _ _
    (note (is_no_value c.header.ohm t.text) (bad_number t.start) _ refl
    (more (Resistor a b (value_of c.header.ohm t.text)) _ (value_fits c.header.ohm t.text) (sized c (res_row net true) ts))) (done _ refl)

amount : (n : ℕ) → nat_le n limit ≡ true → is_amount (pos n) ≡ true
amount n h = and_from (int_le (pos 0) (pos n)) (is_within (pos n)) (le-leb 0 n (omega arith)) h

behind : (e : Event) (es : List Event) → AreSized (e ∷ es) → AreSized es
behind e es h = record { all = (and_parts (is_sized e) (list_all is_sized es) h.all).1 }

abbrev is_cap : RcCap → Bool
is_cap c = is_amount c.cap.0

abbrev is_res : RcRes → Bool
is_res r = is_amount r.res.0

caps_kept : (pins : List (List ℕ)) (es : List Event) → AreSized es → list_all is_cap (caps_of pins es) ≡ true
unfolding caps_of
caps_kept pins [] h = refl
caps_kept pins (Ground (Some a) (Some size) ∷ es) h =
    let both = and_parts (nat_le size limit) (list_all is_sized es) h.all in
    and_from (is_amount (pos size)) (list_all is_cap (caps_of pins es)) (amount size both.0) (caps_kept pins es (done es both.1))
caps_kept pins (Coupling at (Some a) (Some b) (Some size) ∷ es) h =
    let both = and_parts (nat_le size limit) (list_all is_sized es) h.all in
    and_from (is_amount (pos size)) (list_all is_cap (caps_of pins es)) (amount size both.0) (caps_kept pins es (done es both.1))
caps_kept pins (e ∷ es) h = caps_kept pins es (behind e es h)

ress_kept : (es : List Event) → AreSized es → list_all is_res (ress_of es) ≡ true
unfolding ress_of
ress_kept [] h = refl
ress_kept (Resistor (Some a) (Some b) (Some size) ∷ es) h =
    let both = and_parts (nat_le size limit) (list_all is_sized es) h.all in
    and_from (is_amount (pos size)) (list_all is_res (ress_of es)) (amount size both.0) (ress_kept es (done es both.1))
ress_kept (e ∷ es) h = ress_kept es (behind e es h)

some_sized : (n : ℕ) (es : List Event) → AreSized es → AreSized (take n es)
some_sized zero es h = done [] refl
some_sized (suc n) [] h = done [] refl
some_sized (suc n) (e ∷ es) h =
    let both = and_parts (is_sized e) (list_all is_sized es) h.all in
    more e (take n es) both.0 (some_sized n es (done es both.1))

small_fits : (sum : Option ℕ) → fits (small sum) ≡ true
small_fits None = refl
small_fits (Some sum) = cond_both (nat_le sum limit) (Some sum) None (λ lump. fits lump ≡ true) (λ h. h) (λ _. refl)

net_kept : (name : Option (List ℕ)) (rows : List Event) (lump : Option ℕ) → AreSized rows → fits lump ≡ true → list_all is_net_rc (net_of name rows lump) ≡ true
net_kept None rows lump h few = refl
net_kept (Some name) rows None h few = refl
net_kept (Some name) rows (Some lump) h few =
    let caps : list_all is_cap (cond (list_any is_resistance rows) (caps_of (pins_on [] rows) rows) []) ≡ true =
    cond_both (list_any is_resistance rows) (caps_of (pins_on [] rows) rows) [] (λ cs. list_all is_cap cs ≡ true)
    (λ _. caps_kept (pins_on [] rows) rows h) (λ _. refl) in
    rw (caps, ress_kept rows h, amount lump few) refl

nets_kept : (es : List Event) → AreSized es → list_all is_net_rc (nets_of es) ≡ true
unfolding nets_of
nets_kept [] h = refl
nets_kept (Net at name place ∷ es) h =
    let one = net_of name (rows_of es) (small (lump_of (rows_of es))) in
    rw (list_all-append is_net_rc one (nets_of es))
    (and_from (list_all is_net_rc one) (list_all is_net_rc (nets_of es))
    (net_kept name (rows_of es) (small (lump_of (rows_of es))) (some_sized (prefix_len is_of_net es) es (behind (Net at name place) es h)) (small_fits (lump_of (rows_of es))))
    (nets_kept es (behind (Net at name place) es h)))
nets_kept (e ∷ es) h = nets_kept es (behind e es h)

-- no net stands twice
nets_lone : (before : List (List ℕ)) (es : List Event) → double_nets before es ≡ [] → Lone before (map (λ rc. rc.net) (nets_of es))
unfolding nets_of double_nets
nets_lone before [] h = tt
nets_lone before (Net at (Some name) place ∷ es) h = at_net (stands before name) refl h (λ g. nets_lone (before ++ name ∷ []) es g)
  where
    unlumped : (lump : Option ℕ) → stands before name ≡ false → Lone (before ++ name ∷ []) (map (λ rc. rc.net) (nets_of es)) → Lone before (map (λ rc. rc.net) (net_of (Some name) (rows_of es) lump ++ nets_of es))
    unlumped None e rest = lone_less before (before ++ name ∷ []) (map (λ rc. rc.net) (nets_of es)) (stands_still before name) rest
    unlumped (Some n) e rest = (e, rest)

    at_net : (b : Bool) → stands before name ≡ b → cond b (wrong SpefDoubleNet place ∷ double_nets before es) (double_nets (cond b before (before ++ name ∷ [])) es) ≡ [] → (double_nets (before ++ name ∷ []) es ≡ [] → Lone (before ++ name ∷ []) (map (λ rc. rc.net) (nets_of es))) → Lone before (map (λ rc. rc.net) (net_of (Some name) (rows_of es) (small (lump_of (rows_of es))) ++ nets_of es))
    at_net true e g rest = absurd (cc)
    at_net false e g rest = unlumped (small (lump_of (rows_of es))) e (rest g)
nets_lone before (e ∷ es) h = nets_lone before es h

parts_none : (xs ys : List Wrong) → xs ++ ys ≡ [] → (xs ≡ []) × (ys ≡ [])
parts_none [] ys h = (refl, h)
parts_none (x ∷ xs) ys h = absurd (cc)

-- a text without faults gives such parasitics
pub good : (bytes : List ℕ) → faults_of (events_of bytes) ≡ [] → are_parasitics (parasitics_of (events_of bytes)).nets ≡ true
good bytes h =
    let es = events_of bytes in
    let tokens = (parts_none (token_faults es ++ double_nets [] es) (nets_faults es) h).0 in
    let doubles = (parts_none (token_faults es) (double_nets [] es) tokens).1 in
    and_from (are_distinct (map (λ rc. rc.net) (nets_of es))) (list_all is_net_rc (nets_of es))
    (lone_distinct [] (map (λ rc. rc.net) (nets_of es)) (nets_lone [] es doubles))
    (nets_kept es (sized (fresh (length bytes)) start (tokens_of Spef bytes)))
