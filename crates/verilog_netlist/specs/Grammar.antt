-- The grammar of a structural netlist (IEEE 1364, "Module definition", "Module instantiation"): what
-- a text writes, as a list of events in the order of the text.
use Rattle.std.specs.Prelude.{ℕ, List, [], ◌∷◌, Bool, false, true, ◌&&◌, codes, length, if◌then◌else◌, Option, Some, None}
use Rattle.std.specs.Str.{bytes_eq}
use Rattle.sta_units.specs.Decimal.{number_on}
use Rattle.timing_defs.specs.declared.codes.Code.{Code}
use Rattle.timing_defs.specs.declared.codes.Code.TheVariants.{VerilogBadToken, VerilogLeftOut, VerilogNoModule}
use Rattle.timing_defs.specs.declared.texts.Style.TheVariants.{Verilog}
use Rattle.sta_text.specs.Tokens.{Tok, is_unclosed, tokens_of}
use Rattle.verilog_netlist.specs.declared.events.Role.{Role}
use Rattle.verilog_netlist.specs.declared.events.Role.TheVariants.{HeaderInput, HeaderOutput, Input, Output, Wire}
use Rattle.verilog_netlist.specs.declared.events.Kind.{Kind}
use Rattle.verilog_netlist.specs.declared.events.Net.TheVariants.{Tied, Alone, Bit}
use Rattle.verilog_netlist.specs.declared.events.Event.{Event}
use Rattle.verilog_netlist.specs.declared.events.Event.TheVariants.{Module, Header, Declared, CellWord, Instance, Pin, Connection, Fault}
use Rattle.verilog_netlist.specs.Nets.{bit_name}
use Rattle.verilog_netlist.specs.Lexicon.{spelled, is_identifier, is_number, is_constant, is_variable_type, is_left_out_item, has_colon, begins_expression}

-- declarations in the header, of ports, of outputs
abbrev pub is_header : Role → Bool
is_header HeaderInput = true
is_header HeaderOutput = true
is_header role = false

abbrev pub is_port : Role → Bool
is_port Wire = false
is_port role = true

abbrev pub is_output : Role → Bool
is_output HeaderOutput = true
is_output Output = true
is_output role = false

-- the word or the mark
abbrev pub is_text : Tok → List ℕ → Bool
is_text t text = bytes_eq t.text text

abbrev pub fault : Code → ℕ → Event
fault code at = Fault (record { code = code; at = at })

-- a construct that is left out
abbrev pub left_out : ℕ → List Event
left_out at = fault VerilogLeftOut at ∷ []

-- a token that does not fit; a comment without its end is an end of the text that comes too early
abbrev pub unexpected : ℕ → Tok → List Event
unexpected size t = fault VerilogBadToken (if is_unclosed t then size else t.start) ∷ []

-- what may stand next. A place carries what was read of its construct
pub data State : Type 0 where
  start : State
  module_name : State
  ports_open : State
  first_port : State
  port : Option Kind → State
  port_next : Option Kind → State
  head_end : State
  type_of : Role → State
  range_of : Role → State
  range_first : Role → State
  range_colon : Role → ℕ → State
  range_last : Role → ℕ → State
  range_close : Kind → State
  declared_name : Kind → State
  declared_next : Kind → State
  item : State
  inst_name : List ℕ → State
  inst_open : State
  first_conn : State
  conn : State
  pin_name : State
  net_open : List ℕ → State
  net : List ℕ → State
  net_next : List ℕ → List ℕ → ℕ → State
  bit_number : List ℕ → List ℕ → ℕ → State
  bit_close : List ℕ → List ℕ → ℕ → ℕ → State
  net_close : State
  conn_next : State
  inst_end : State
  behind : State

-- what follows a declared name: in the header a comma may begin a port of another kind
abbrev pub next_of : Kind → State
next_of kind = (if is_header kind.role then port_next (Some kind) else declared_next kind)

abbrev pub scalar : Role → Kind
scalar role = record { role = role; span = None }

abbrev pub vector : Role → ℕ → ℕ → Kind
vector role first last = record { role = role; span = Some (record { first = first; last = last }) }

abbrev pub declared : Kind → List ℕ → ℕ → Event
declared kind name at = Declared kind name at

-- a port of the header: a name alone, or one of the kind that was declared before it
abbrev pub port_event : Option Kind → List ℕ → ℕ → Event
port_event None name at = Header name at
port_event (Some kind) name at = Declared kind name at

-- a name that is declared, and what is read behind it; the name of a port has no colon
abbrev pub at_name : ℕ → Bool → Tok → Event → List Event → List Event
at_name size is_of_port t event rest =
    (if is_identifier t.text then
    (if is_of_port && has_colon (spelled t.text) then left_out t.start else event ∷ rest)
    else unexpected size t)

-- a port of the header: a name, or a direction
abbrev pub at_port : ℕ → Option Kind → Tok → List Event → List Event → List Event → List Event
at_port size kind t named inputs outputs =
    (if is_text t (codes "input") then inputs else
    (if is_text t (codes "output") then outputs else
    (if is_text t (codes "inout") then left_out t.start else
    (if is_text t (codes "{") then left_out t.start else
    at_name size true t (port_event kind (spelled t.text) t.start) named))))

-- a connection by name begins with a point; one by position is left out
abbrev pub at_conn : ℕ → Tok → List Event → List Event
at_conn size t pins =
    (if is_text t (codes ".") then pins else
    (if begins_expression t.text then left_out t.start else unexpected size t))

-- where the text ends: only behind the module it may
abbrev pub at_end : ℕ → State → List Event
at_end size start = fault VerilogNoModule size ∷ []
at_end size behind = []
at_end size place = fault VerilogBadToken size ∷ []

-- the events of a text of this size that tokens write from a place on
unfoldable pub events : ℕ → State → List Tok → List Event
events size place [] = at_end size place
events size start (t ∷ ts) = (if is_text t (codes "module") then events size module_name ts else unexpected size t)
events size module_name (t ∷ ts) =
    (if is_identifier t.text then Module (spelled t.text) ∷ events size ports_open ts else unexpected size t)
events size ports_open (t ∷ ts) =
    (if is_text t (codes "(") then events size first_port ts else
    (if is_text t (codes "#") then left_out t.start else unexpected size t))
events size first_port (t ∷ ts) =
    (if is_text t (codes ")") then events size head_end ts else
    at_port size None t (events size (port_next None) ts) (events size (type_of HeaderInput) ts) (events size (type_of HeaderOutput) ts))
events size (port kind) (t ∷ ts) =
    at_port size kind t (events size (port_next kind) ts) (events size (type_of HeaderInput) ts) (events size (type_of HeaderOutput) ts)
events size (port_next kind) (t ∷ ts) =
    (if is_text t (codes ",") then events size (port kind) ts else
    (if is_text t (codes ")") then events size head_end ts else unexpected size t))
events size head_end (t ∷ ts) = (if is_text t (codes ";") then events size item ts else unexpected size t)
events size (type_of role) (t ∷ ts) =
    (if is_header role && is_text t (codes "wire") then events size (range_of role) ts else
    (if is_output role && is_variable_type t.text then left_out t.start else
    (if is_text t (codes "[") then events size (range_first role) ts else
    at_name size (is_port role) t (declared (scalar role) (spelled t.text) t.start) (events size (next_of (scalar role)) ts))))
events size (range_of role) (t ∷ ts) =
    (if is_text t (codes "[") then events size (range_first role) ts else
    at_name size (is_port role) t (declared (scalar role) (spelled t.text) t.start) (events size (next_of (scalar role)) ts))
events size (range_first role) (t ∷ ts) =
    (if is_number t.text then events size (range_colon role (number_on 0 t.text)) ts else unexpected size t)
events size (range_colon role first) (t ∷ ts) =
    (if is_text t (codes ":") then events size (range_last role first) ts else unexpected size t)
events size (range_last role first) (t ∷ ts) =
    (if is_number t.text then events size (range_close (vector role first (number_on 0 t.text))) ts else unexpected size t)
events size (range_close kind) (t ∷ ts) =
    (if is_text t (codes "]") then events size (declared_name kind) ts else unexpected size t)
events size (declared_name kind) (t ∷ ts) =
    at_name size (is_port kind.role) t (declared kind (spelled t.text) t.start) (events size (next_of kind) ts)
events size (declared_next kind) (t ∷ ts) =
    (if is_text t (codes ",") then events size (declared_name kind) ts else
    (if is_text t (codes ";") then events size item ts else unexpected size t))
events size item (t ∷ ts) =
    (if is_text t (codes "input") then events size (type_of Input) ts else
    (if is_text t (codes "output") then events size (type_of Output) ts else
    (if is_text t (codes "wire") then events size (type_of Wire) ts else
    (if is_text t (codes "endmodule") then events size behind ts else
    (if is_left_out_item t.text then left_out t.start else
    (if is_identifier t.text then CellWord t.start ∷ events size (inst_name (spelled t.text)) ts else unexpected size t))))))
events size (inst_name cell) (t ∷ ts) =
    (if is_identifier t.text then Instance cell (spelled t.text) t.start ∷ events size inst_open ts else
    (if is_text t (codes "#") then left_out t.start else unexpected size t))
events size inst_open (t ∷ ts) = (if is_text t (codes "(") then events size first_conn ts else unexpected size t)
events size first_conn (t ∷ ts) =
    (if is_text t (codes ")") then events size inst_end ts else at_conn size t (events size pin_name ts))
events size conn (t ∷ ts) = at_conn size t (events size pin_name ts)
events size pin_name (t ∷ ts) =
    (if is_identifier t.text then Pin (spelled t.text) t.start ∷ events size (net_open (spelled t.text)) ts else unexpected size t)
events size (net_open pin) (t ∷ ts) = (if is_text t (codes "(") then events size (net pin) ts else unexpected size t)
events size (net pin) (t ∷ ts) =
    (if is_text t (codes ")") then Connection pin Tied ∷ events size conn_next ts else
    (if is_constant t.text then Connection pin Tied ∷ events size net_close ts else
    (if is_text t (codes "{") then left_out t.start else
    (if is_identifier t.text then events size (net_next pin (spelled t.text) t.start) ts else unexpected size t))))
events size (net_next pin name at) (t ∷ ts) =
    (if is_text t (codes ")") then Connection pin (Alone name at) ∷ events size conn_next ts else
    (if is_text t (codes "[") then events size (bit_number pin name at) ts else unexpected size t))
events size (bit_number pin name at) (t ∷ ts) =
    (if is_number t.text then events size (bit_close pin name at (number_on 0 t.text)) ts else unexpected size t)
events size (bit_close pin name at k) (t ∷ ts) =
    (if is_text t (codes "]") then Connection pin (Bit (bit_name name k) at) ∷ events size net_close ts else
    (if is_text t (codes ":") then left_out at else unexpected size t))
events size net_close (t ∷ ts) = (if is_text t (codes ")") then events size conn_next ts else unexpected size t)
events size conn_next (t ∷ ts) =
    (if is_text t (codes ",") then events size conn ts else
    (if is_text t (codes ")") then events size inst_end ts else unexpected size t))
events size inst_end (t ∷ ts) = (if is_text t (codes ";") then events size item ts else unexpected size t)
events size behind (t ∷ ts) = (if is_text t (codes "module") then left_out t.start else unexpected size t)

-- the events of a whole text
abbrev pub events_of : List ℕ → List Event
events_of bytes = events (length bytes) start (tokens_of Verilog bytes)
