-- The faults of a netlist, each with its place. Of two things that clash the second is at fault. The
-- names and bits of a module are those of all its declarations (IEEE 1364, "Nets and variables");
-- what the limits are is own.
use Rattle.std.specs.Prelude.{ℕ, ◌+◌, List, [], ◌∷◌, ◌++◌, Bool, true, false, ◌&&◌, ◌||◌, not, nat_lt, length, if◌then◌else◌, Option, Some, None}
use Rattle.std.specs.List.{list_any}
use Rattle.timing_defs.specs.declared.codes.Code.{Code}
use Rattle.timing_defs.specs.declared.codes.Code.TheVariants.{VerilogBadToken, VerilogLeftOut, VerilogUndeclared, VerilogDoubleName, VerilogTooMany}
use Rattle.sta_text.specs.declared.faults.Wrong.{Wrong}
use Rattle.sta_text.specs.Names.{stands}
use Rattle.verilog_netlist.specs.declared.events.Role.{Role}
use Rattle.verilog_netlist.specs.declared.events.Span.{Span}
use Rattle.verilog_netlist.specs.declared.events.Kind.{Kind}
use Rattle.verilog_netlist.specs.declared.events.Net.TheVariants.{Alone, Bit}
use Rattle.verilog_netlist.specs.declared.events.Event.{Event}
use Rattle.verilog_netlist.specs.declared.events.Event.TheVariants.{Header, Declared, CellWord, Instance, Pin, Connection, Fault}
use Rattle.verilog_netlist.specs.declared.known.Known.{Known}
use Rattle.verilog_netlist.specs.Nets.{width, nets_of}
use Rattle.verilog_netlist.specs.Grammar.{is_header, is_port}

-- at most so many nets, and so many instances
abbrev pub limit : ℕ
limit = 200000

abbrev pub wrong : Code → ℕ → Wrong
wrong code at = record { code = code; at = at }

abbrev pub is_empty : List Wrong → Bool
is_empty [] = true
is_empty (w ∷ ws) = false

-- a set of names with one more, with some more
abbrev pub with_name : List (List ℕ) → List ℕ → List (List ℕ)
with_name names name = (if stands names name then names else names ++ name ∷ [])

unfoldable pub with_names : List (List ℕ) → List (List ℕ) → List (List ℕ)
with_names names [] = names
with_names names (name ∷ more) = with_names (with_name names name) more

-- what ended the reading
unfoldable pub wrongs : List Event → List Wrong
wrongs [] = []
wrongs (Fault w ∷ es) = w ∷ wrongs es
wrongs (e ∷ es) = wrongs es

-- a direction for a name that the header does not have: that name does not fit
unfoldable pub strays : List (List ℕ) → List Event → List Wrong
strays header [] = []
strays header (Header name at ∷ es) = strays (with_name header name) es
strays header (Declared kind name at ∷ es) =
    (if is_header kind.role then strays (with_name header name) es else
    (if is_port kind.role && not (stands header name) then wrong VerilogBadToken at ∷ strays header es else strays header es))
strays header (e ∷ es) = strays header es

-- a port twice in the header, where its name stands alone
unfoldable pub header_doubles : List (List ℕ) → List Event → List Wrong
header_doubles names [] = []
header_doubles names (Header name at ∷ es) =
    (if stands names name then wrong VerilogDoubleName at ∷ header_doubles names es else header_doubles (with_name names name) es)
header_doubles names (Declared kind name at ∷ es) =
    (if is_header kind.role && stands names name then wrong VerilogDoubleName at ∷ header_doubles names es else header_doubles names es)
header_doubles names (e ∷ es) = header_doubles names es

-- one of these nets stands among the others
abbrev pub clashes : List (List ℕ) → List (List ℕ) → Bool
clashes names nets = list_any (stands names) nets

-- the nets that were declared as this one is: the ports, or the wires. A wire may have a port's name
abbrev pub alike : Role → Known → List (List ℕ)
alike role known = (if is_port role then known.ports else known.wires)

-- what is declared, with these nets
abbrev pub with_ports : Known → List (List ℕ) → Known
with_ports known names =
    record { ports = with_names known.ports names; wires = known.wires; nets = with_names known.nets names }

abbrev pub with_wires : Known → List (List ℕ) → Known
with_wires known names =
    record { ports = known.ports; wires = with_names known.wires names; nets = with_names known.nets names }

abbrev pub declaring : Role → Known → List (List ℕ) → Known
declaring role known names = (if is_port role then with_ports known names else with_wires known names)

-- a range that passes the limit alone
abbrev pub is_wide : Option Span → Bool
is_wide None = false
is_wide (Some span) = nat_lt limit (width span)

-- the nets, or a range alone, pass the limit
abbrev pub passes : Option Span → List (List ℕ) → Bool
passes span nets = is_wide span || nat_lt limit (length nets)

-- a fault that ends its check, or what follows where there is none
abbrev pub told : Option Wrong → List Wrong → List Wrong
told None rest = rest
told (Some w) rest = w ∷ []

-- a net of the declared name is declared already, or the declared nets pass the limit with it
abbrev pub declaration_fault : Known → Kind → List ℕ → ℕ → Option Wrong
declaration_fault known kind name at =
    (if clashes (alike kind.role known) (nets_of kind.span name) then Some (wrong VerilogDoubleName at) else
    (if passes kind.span (with_names known.nets (nets_of kind.span name)) then Some (wrong VerilogTooMany at) else None))

-- the first such name
unfoldable pub declaration_faults : Known → List Event → List Wrong
declaration_faults known [] = []
declaration_faults known (Declared kind name at ∷ es) =
    told (declaration_fault known kind name at) (declaration_faults (declaring kind.role known (nets_of kind.span name)) es)
declaration_faults known (e ∷ es) = declaration_faults known es

abbrev pub nothing : Known
nothing = record { ports = []; wires = []; nets = [] }

-- an instance twice
unfoldable pub instance_doubles : List (List ℕ) → List Event → List Wrong
instance_doubles names [] = []
instance_doubles names (Instance cell name at ∷ es) =
    (if stands names name then wrong VerilogDoubleName at ∷ instance_doubles names es else instance_doubles (with_name names name) es)
instance_doubles names (e ∷ es) = instance_doubles names es

-- the cell word of the instance with which the instances pass the limit; so many stand before
unfoldable pub instance_excess : ℕ → List Event → List Wrong
instance_excess count [] = []
instance_excess count (CellWord at ∷ es) =
    (if nat_lt count limit then instance_excess (count + 1) es else wrong VerilogTooMany at ∷ [])
instance_excess count (e ∷ es) = instance_excess count es

-- a pin twice in an instance
unfoldable pub pin_doubles : List (List ℕ) → List Event → List Wrong
pin_doubles names [] = []
pin_doubles names (Instance cell name at ∷ es) = pin_doubles [] es
pin_doubles names (Pin name at ∷ es) =
    (if stands names name then wrong VerilogDoubleName at ∷ pin_doubles names es else pin_doubles (with_name names name) es)
pin_doubles names (e ∷ es) = pin_doubles names es

-- the names that are declared with a range
abbrev pub vectors_with : List (List ℕ) → Option Span → List ℕ → List (List ℕ)
vectors_with vectors None name = vectors
vectors_with vectors (Some span) name = with_name vectors name

-- a whole vector on a pin, where these vectors are known already
unfoldable pub whole_vectors : List (List ℕ) → List Event → List Wrong
whole_vectors vectors [] = []
whole_vectors vectors (Declared kind name at ∷ es) = whole_vectors (vectors_with vectors kind.span name) es
whole_vectors vectors (Connection pin (Alone name at) ∷ es) =
    (if stands vectors name then wrong VerilogLeftOut at ∷ whole_vectors vectors es else whole_vectors vectors es)
whole_vectors vectors (e ∷ es) = whole_vectors vectors es

-- all vectors, all ports with a direction, and all declared nets, behind those that are known
unfoldable pub all_vectors : List (List ℕ) → List Event → List (List ℕ)
all_vectors vectors [] = vectors
all_vectors vectors (Declared kind name at ∷ es) = all_vectors (vectors_with vectors kind.span name) es
all_vectors vectors (e ∷ es) = all_vectors vectors es

unfoldable pub all_directed : List (List ℕ) → List Event → List (List ℕ)
all_directed names [] = names
all_directed names (Declared kind name at ∷ es) =
    (if is_port kind.role then all_directed (with_name names name) es else all_directed names es)
all_directed names (e ∷ es) = all_directed names es

unfoldable pub all_declared : List (List ℕ) → List Event → List (List ℕ)
all_declared nets [] = nets
all_declared nets (Declared kind name at ∷ es) = all_declared (with_names nets (nets_of kind.span name)) es
all_declared nets (e ∷ es) = all_declared nets es

-- a port of the header to which no declaration gives a direction
unfoldable pub undirected : List (List ℕ) → List Event → List Wrong
undirected directed [] = []
undirected directed (Header name at ∷ es) =
    (if stands directed name then undirected directed es else wrong VerilogUndeclared at ∷ undirected directed es)
undirected directed (e ∷ es) = undirected directed es

-- a bit that no declaration has
unfoldable pub undeclared_bits : List (List ℕ) → List Event → List Wrong
undeclared_bits declared [] = []
undeclared_bits declared (Connection pin (Bit name at) ∷ es) =
    (if stands declared name then undeclared_bits declared es else wrong VerilogUndeclared at ∷ undeclared_bits declared es)
undeclared_bits declared (e ∷ es) = undeclared_bits declared es

-- a name alone that is neither declared nor a vector is a net of its own (IEEE 1364, "Implicit
-- declarations")
abbrev pub with_implicit : List (List ℕ) → List (List ℕ) → List (List ℕ) → List ℕ → List (List ℕ)
with_implicit declared vectors nets name =
    (if stands declared name || stands vectors name then nets else with_name nets name)

-- all nets in the order of the text: those of a declared name there, the others where they are
-- connected first
unfoldable pub all_nets : List (List ℕ) → List (List ℕ) → List (List ℕ) → List Event → List (List ℕ)
all_nets declared vectors nets [] = nets
all_nets declared vectors nets (Declared kind name at ∷ es) =
    all_nets declared vectors (with_names nets (nets_of kind.span name)) es
all_nets declared vectors nets (Connection pin (Alone name at) ∷ es) =
    all_nets declared vectors (with_implicit declared vectors nets name) es
all_nets declared vectors nets (e ∷ es) = all_nets declared vectors nets es

-- the nets pass the limit
abbrev pub excess : Option Span → List (List ℕ) → ℕ → Option Wrong
excess span nets at = (if passes span nets then Some (wrong VerilogTooMany at) else None)

-- the first name with which all nets do
unfoldable pub net_excess : List (List ℕ) → List (List ℕ) → List (List ℕ) → List Event → List Wrong
net_excess declared vectors nets [] = []
net_excess declared vectors nets (Declared kind name at ∷ es) =
    told (excess kind.span (with_names nets (nets_of kind.span name)) at) (net_excess declared vectors (with_names nets (nets_of kind.span name)) es)
net_excess declared vectors nets (Connection pin (Alone name at) ∷ es) =
    told (excess None (with_implicit declared vectors nets name) at) (net_excess declared vectors (with_implicit declared vectors nets name) es)
net_excess declared vectors nets (e ∷ es) = net_excess declared vectors nets es

-- faults that stand between tokens that were read, however the text goes on
abbrev pub early_faults : List Event → List Wrong
early_faults es =
    header_doubles [] es ++ declaration_faults nothing es ++ instance_doubles [] es ++ instance_excess 0 es ++ pin_doubles [] es

-- faults that need all declarations
abbrev pub net_faults : List Event → List Wrong
net_faults es =
    undeclared_bits (all_declared [] es) es ++ net_excess (all_declared [] es) (all_vectors [] es) [] es

-- faults that need the whole text
abbrev pub whole_faults : List Event → List Wrong
whole_faults es =
    whole_vectors (all_vectors [] es) es ++ undirected (all_directed [] es) es ++ net_faults es

-- a token that does not fit ends the reading
abbrev pub stops : List Event → List Wrong
stops es = wrongs es ++ strays [] es

-- all faults of a text; those that need the whole text count where the grammar accepts it all
abbrev pub faults_of : List Event → List Wrong
faults_of es =
    stops es ++ early_faults es ++ (if is_empty (stops es) then whole_faults es else whole_vectors [] es)
