-- The grammar of a text of parasitics (IEEE 1481, "SPEF syntax"): what a text writes, as a list of
-- events in the order of the text. A place tells what may stand next, a context what the header and
-- the name map have said so far.
use Rattle.std.specs.Prelude.{ℕ, ◌+◌, List, [], ◌∷◌, Bool, true, false, ◌&&◌, ◌||◌, not, nat_lt, codes, length, if◌then◌else◌, Option, Some, None, is_some, pos}
use Rattle.std.specs.Str.{bytes_eq}
use Rattle.sta_units.specs.Decimal.{is_whole}
use Rattle.sta_units.specs.declared.units.Unit.{Unit}
use Rattle.timing_defs.specs.declared.codes.Code.{Code}
use Rattle.timing_defs.specs.declared.codes.Code.TheVariants.{SpefBadHeader, SpefUnknownName, SpefLeftOut, SpefBadNumber}
use Rattle.timing_defs.specs.declared.parasitics.RcNode.{RcNode}
use Rattle.timing_defs.specs.declared.texts.Sort.{Sort}
use Rattle.timing_defs.specs.declared.texts.Sort.TheVariants.{Word, Quoted}
use Rattle.timing_defs.specs.declared.texts.Style.TheVariants.{Spef}
use Rattle.sta_text.specs.Bytes.{begins}
use Rattle.sta_text.specs.Tokens.{Tok, is_bad, is_unclosed, tokens_of}
use Rattle.spef_reader.specs.declared.context.Header.{Header}
use Rattle.spef_reader.specs.declared.context.Measure.{Measure}
use Rattle.spef_reader.specs.declared.context.Measure.TheVariants.{Capacitance, Resistance, Other}
use Rattle.spef_reader.specs.declared.context.Context.{Context}
use Rattle.spef_reader.specs.declared.events.Event.{Event}
use Rattle.spef_reader.specs.declared.events.Event.TheVariants.{Net, Total, Connection, Ground, Coupling, Resistor, End, Fault}
use Rattle.spef_reader.specs.Names.{with_row}
use Rattle.spef_reader.specs.Words.{is_index, index_of, is_spelled, is_reference, is_node, written, value_of, is_no_value, power_of, mark_of, delimiter_of, is_text_word, is_other_unit, is_passed, is_port_word, is_left_out, is_section, is_net_word, is_direction, is_pin_row}
use Rattle.spef_reader.specs.Nodes.{name_of, node_of, is_unknown}

abbrev pub is_text : Tok → List ℕ → Bool
is_text t text = bytes_eq t.text text

abbrev pub is_word_sort : Sort → Bool
is_word_sort Word = true
is_word_sort sort = false

abbrev pub is_string_sort : Sort → Bool
is_string_sort Quoted = true
is_string_sort sort = false

abbrev pub is_word : Tok → Bool
is_word t = is_word_sort t.sort

abbrev pub is_string : Tok → Bool
is_string t = is_string_sort t.sort

abbrev pub fault : Code → ℕ → Event
fault code at = Fault (record { code = code; at = at })

-- a construct that is left out
abbrev pub left_out : ℕ → List Event
left_out at = fault SpefLeftOut at ∷ []

-- where a token does not fit: at its begin. A comment without its end, and a string without it where
-- a string may stand, are an end of the text that comes too early
abbrev pub misfit_at : Context → Bool → Tok → ℕ
misfit_at c strings t = (if is_unclosed t && (strings || not (begins 34 t.text)) then c.size else t.start)

abbrev pub unexpected : Context → Bool → Tok → List Event
unexpected c strings t = fault SpefBadHeader (misfit_at c strings t) ∷ []

-- an index that is not in the name map, a word that is no value
abbrev pub noted : Bool → Event → List Event → List Event
noted flawed event rest = (if flawed then event ∷ rest else rest)

abbrev pub unknown_name : ℕ → Event
unknown_name at = fault SpefUnknownName at

abbrev pub bad_number : ℕ → Event
bad_number at = fault SpefBadNumber at

-- what may stand next. Within a net a place has the net's name, where it is known, and what was read
-- of a row
pub data Place : Type 0 where
  start : Place
  title : Place
  header : Place
  first_text : Place
  next_text : Place
  divider : Place
  delimiter : Place
  bus_open : Place
  bus_close : Place
  factor : Measure → Place
  unit : Measure → ℕ → Place
  name_map : Place
  mapped : List ℕ → Place
  passed : Place
  section : Place
  net_name : ℕ → Place
  total : Option (List ℕ) → Place
  behind_total : Option (List ℕ) → Place
  width : Option (List ℕ) → Place
  parts : Option (List ℕ) → ℕ → Place
  conn_row : Option (List ℕ) → Bool → Place
  conn_node : Option (List ℕ) → Bool → Place
  direction : Option (List ℕ) → Place
  cap_row : Option (List ℕ) → Bool → Place
  cap_node : Option (List ℕ) → ℕ → Place
  cap_next : Option (List ℕ) → ℕ → Option RcNode → Place
  cap_value : Option (List ℕ) → ℕ → Option RcNode → Option RcNode → Place
  res_row : Option (List ℕ) → Bool → Place
  res_first : Option (List ℕ) → Place
  res_second : Option (List ℕ) → Option RcNode → Place
  res_value : Option (List ℕ) → Option RcNode → Option RcNode → Place

-- the header and the name map with one thing more
abbrev pub with_header : Context → Header → Context
with_header c h = record c { header = h }

abbrev pub with_delimiter : Context → Option ℕ → Context
with_delimiter c mark = with_header c (record c.header { delimiter = mark })

-- with one mark alone only [ is replaced
abbrev pub with_open : Context → Option ℕ → Context
with_open c mark = with_header c (record c.header { bus = record { opening = mark; closing = None } })

abbrev pub with_close : Context → Option ℕ → Context
with_close c mark =
    with_header c (record c.header { bus = record { opening = c.header.bus.opening; closing = mark } })

abbrev pub power_in : Option ℕ → ℕ
power_in None = 0
power_in (Some k) = k

abbrev pub ten_to : ℕ → Option Unit
ten_to k = Some (record { ten = pos k })

-- a unit of which a thousand times the factor is ten to this power: PF and FF in aF, KOHM and OHM in
-- mΩ. Those of time and inductance measure nothing that is read
abbrev pub is_unit : Measure → List ℕ → Bool
is_unit Capacitance word = bytes_eq word (codes "PF") || bytes_eq word (codes "FF")
is_unit Resistance word = bytes_eq word (codes "KOHM") || bytes_eq word (codes "OHM")
is_unit Other word = true

abbrev pub with_unit : Context → Measure → ℕ → List ℕ → Context
with_unit c Capacitance k word =
    with_header c (record c.header { farad = ten_to (if bytes_eq word (codes "PF") then k + 3 else k) })
with_unit c Resistance k word =
    with_header c (record c.header { ohm = ten_to (if bytes_eq word (codes "KOHM") then k + 3 else k) })
with_unit c Other k word = c

abbrev pub with_name : Context → List ℕ → List ℕ → Context
with_name c index word = record c { names = with_row c.names index word }

-- what begins a section, and what is read behind it
abbrev pub at_section : Context → Tok → List Event → List Event → List Event → List Event
at_section c t names over net =
    (if is_text t (codes "*NAME_MAP") then names else
    (if is_text t (codes "*D_NET") then net else
    (if is_passed t.text then over else
    (if is_left_out t.text then left_out t.start else unexpected c false t))))

-- a header word, or the first section
abbrev pub at_header : Tok → List Event → List Event → List Event → List Event → List Event → List Event → List Event → List Event → List Event
at_header t texts divides delimits buses caps ress others sections =
    (if is_text_word t.text then texts else
    (if is_text t (codes "*DIVIDER") then divides else
    (if is_text t (codes "*DELIMITER") then delimits else
    (if is_text t (codes "*BUS_DELIMITER") then buses else
    (if is_text t (codes "*C_UNIT") then caps else
    (if is_text t (codes "*R_UNIT") then ress else
    (if is_other_unit t.text then others else sections)))))))

-- *CONN, *CAP and *RES, each at most once and in this order, of which so many are past; then *END
abbrev pub at_part : Context → ℕ → Tok → List Event → List Event → List Event → List Event → List Event
at_part c past t conns caps ress behind =
    (if nat_lt past 1 && is_text t (codes "*CONN") then conns else
    (if nat_lt past 2 && is_text t (codes "*CAP") then caps else
    (if nat_lt past 3 && is_text t (codes "*RES") then ress else
    (if is_text t (codes "*END") then End ∷ behind else
    (if is_text t (codes "*INDUC") then left_out t.start else unexpected c false t)))))

-- the places where a text may end; its header has a delimiter and the units
abbrev pub may_end : Place → Bool
may_end header = true
may_end next_text = true
may_end bus_close = true
may_end name_map = true
may_end passed = true
may_end section = true
may_end place = false

abbrev pub is_complete : Header → Bool
is_complete h = is_some h.delimiter && is_some h.farad && is_some h.ohm

abbrev pub at_end : Context → Place → List Event
at_end c place = (if may_end place && is_complete c.header then [] else fault SpefBadHeader c.size ∷ [])

-- the events that tokens write from a place on
unfoldable pub events : Context → Place → List Tok → List Event
events c place [] = at_end c place
events c start (t ∷ ts) = (if is_text t (codes "*SPEF") then events c title ts else unexpected c false t)
events c title (t ∷ ts) = (if is_string t then events c header ts else unexpected c true t)
events c header (t ∷ ts) =
    at_header t (events c first_text ts) (events c divider ts) (events c delimiter ts) (events c bus_open ts)
    (events c (factor Capacitance) ts) (events c (factor Resistance) ts) (events c (factor Other) ts)
    (at_section c t (events c name_map ts) (events c passed ts) (events c (net_name t.start) ts))
events c first_text (t ∷ ts) = (if is_string t then events c next_text ts else unexpected c true t)
events c next_text (t ∷ ts) =
    (if is_string t then events c next_text ts else
    (if is_bad t.sort then unexpected c true t else
    at_header t (events c first_text ts) (events c divider ts) (events c delimiter ts) (events c bus_open ts)
    (events c (factor Capacitance) ts) (events c (factor Resistance) ts) (events c (factor Other) ts)
    (at_section c t (events c name_map ts) (events c passed ts) (events c (net_name t.start) ts))))
events c divider (t ∷ ts) = (if is_word t then events c header ts else unexpected c false t)
events c delimiter (t ∷ ts) =
    (if is_some (delimiter_of t.text) then events (with_delimiter c (delimiter_of t.text)) header ts
    else unexpected c false t)
events c bus_open (t ∷ ts) =
    (if is_word t && is_some (mark_of t.text) then events (with_open c (mark_of t.text)) bus_close ts
    else unexpected c false t)
events c bus_close (t ∷ ts) =
    (if is_word t && is_some (mark_of t.text) then events (with_close c (mark_of t.text)) header ts else
    at_header t (events c first_text ts) (events c divider ts) (events c delimiter ts) (events c bus_open ts)
    (events c (factor Capacitance) ts) (events c (factor Resistance) ts) (events c (factor Other) ts)
    (at_section c t (events c name_map ts) (events c passed ts) (events c (net_name t.start) ts)))
events c (factor m) (t ∷ ts) =
    (if is_some (power_of t.text) then events c (unit m (power_in (power_of t.text))) ts else unexpected c false t)
events c (unit m k) (t ∷ ts) =
    (if is_word t && is_unit m t.text then events (with_unit c m k t.text) header ts else unexpected c false t)
events c name_map (t ∷ ts) =
    (if is_index t.text then events c (mapped (index_of t.text)) ts else
    at_section c t (events c name_map ts) (events c passed ts) (events c (net_name t.start) ts))
events c (mapped index) (t ∷ ts) =
    (if is_word t && is_spelled t.text then events (with_name c index t.text) name_map ts else unexpected c false t)
events c passed (t ∷ ts) =
    (if is_section t.text then at_section c t (events c name_map ts) (events c passed ts) (events c (net_name t.start) ts)
    else
    (if is_bad t.sort || not (is_port_word c.header.delimiter t.text) then unexpected c true t
    else events c passed ts))
events c section (t ∷ ts) =
    at_section c t (events c name_map ts) (events c passed ts) (events c (net_name t.start) ts)
events c (net_name at) (t ∷ ts) =
    (if is_word t && is_reference t.text
    then noted (not (is_some (name_of c t.text))) (unknown_name t.start)
    (Net at (name_of c t.text) t.start ∷ events c (total (name_of c t.text)) ts)
    else unexpected c false t)
events c (total net) (t ∷ ts) =
    (if is_word t
    then noted (is_no_value c.header.farad t.text) (bad_number t.start)
    (Total (value_of c.header.farad t.text) ∷ events c (behind_total net) ts)
    else unexpected c false t)
events c (behind_total net) (t ∷ ts) =
    (if is_text t (codes "*V") then events c (width net) ts else
    (if is_text t (codes "*SC") then left_out t.start else
    at_part c 0 t (events c (conn_row net false) ts) (events c (cap_row net false) ts)
    (events c (res_row net false) ts) (events c section ts)))
events c (width net) (t ∷ ts) = (if is_whole t.text then events c (parts net 0) ts else unexpected c false t)
events c (parts net past) (t ∷ ts) =
    at_part c past t (events c (conn_row net false) ts) (events c (cap_row net false) ts)
    (events c (res_row net false) ts) (events c section ts)
events c (conn_row net passes) (t ∷ ts) =
    (if is_pin_row t.text then events c (conn_node net true) ts else
    (if is_text t (codes "*N") then events c (conn_node net false) ts else
    (if passes && not (is_net_word t.text || is_section t.text)
    then (if is_bad t.sort then unexpected c true t else events c (conn_row net true) ts)
    else
    at_part c 1 t (events c (conn_row net false) ts) (events c (cap_row net false) ts)
    (events c (res_row net false) ts) (events c section ts))))
events c (conn_node net directed) (t ∷ ts) =
    (if is_word t && is_node c.header.delimiter t.text
    then noted (is_unknown c (node_of c net t.text)) (unknown_name t.start)
    (Connection (node_of c net t.text) ∷ events c (if directed then direction net else conn_row net true) ts)
    else unexpected c false t)
events c (direction net) (t ∷ ts) =
    (if is_direction t.text then events c (conn_row net true) ts else unexpected c false t)
events c (cap_row net valued) (t ∷ ts) =
    (if is_whole t.text then events c (cap_node net t.start) ts else
    (if valued && is_text t (codes "*SC") then left_out t.start else
    at_part c 2 t (events c (conn_row net false) ts) (events c (cap_row net false) ts)
    (events c (res_row net false) ts) (events c section ts)))
events c (cap_node net at) (t ∷ ts) =
    (if is_word t && is_node c.header.delimiter t.text
    then noted (is_unknown c (node_of c net t.text)) (unknown_name t.start)
    (events c (cap_next net at (node_of c net t.text)) ts)
    else unexpected c false t)
-- behind the first node a word in the form of a value is the value, another one the second node
events c (cap_next net at a) (t ∷ ts) =
    (if is_word t && is_some (written t.text)
    then noted (is_no_value c.header.farad t.text) (bad_number t.start)
    (Ground a (value_of c.header.farad t.text) ∷ events c (cap_row net true) ts)
    else
    (if is_word t && is_node c.header.delimiter t.text
    then noted (is_unknown c (node_of c net t.text)) (unknown_name t.start)
    (events c (cap_value net at a (node_of c net t.text)) ts)
    else unexpected c false t))
events c (cap_value net at a b) (t ∷ ts) =
    (if is_word t
    then noted (is_no_value c.header.farad t.text) (bad_number t.start)
    (Coupling at a b (value_of c.header.farad t.text) ∷ events c (cap_row net true) ts)
    else unexpected c false t)
events c (res_row net valued) (t ∷ ts) =
    (if is_whole t.text then events c (res_first net) ts else
    (if valued && is_text t (codes "*SC") then left_out t.start else
    at_part c 3 t (events c (conn_row net false) ts) (events c (cap_row net false) ts)
    (events c (res_row net false) ts) (events c section ts)))
events c (res_first net) (t ∷ ts) =
    (if is_word t && is_node c.header.delimiter t.text
    then noted (is_unknown c (node_of c net t.text)) (unknown_name t.start)
    (events c (res_second net (node_of c net t.text)) ts)
    else unexpected c false t)
events c (res_second net a) (t ∷ ts) =
    (if is_word t && is_node c.header.delimiter t.text
    then noted (is_unknown c (node_of c net t.text)) (unknown_name t.start)
    (events c (res_value net a (node_of c net t.text)) ts)
    else unexpected c false t)
events c (res_value net a b) (t ∷ ts) =
    (if is_word t
    then noted (is_no_value c.header.ohm t.text) (bad_number t.start)
    (Resistor a b (value_of c.header.ohm t.text) ∷ events c (res_row net true) ts)
    else unexpected c false t)

-- nothing is known where a text begins
abbrev pub fresh : ℕ → Context
fresh size = record { size = size; header = record { delimiter = None; bus = record { opening = None; closing = None }; farad = None; ohm = None }; names = [] }

-- the events of a whole text
abbrev pub events_of : List ℕ → List Event
events_of bytes = events (fresh (length bytes)) start (tokens_of Spef bytes)
