-- What the events of a text are: how they follow each other, and what declarations write.
use Rattle.std.proofs.Common.{◌≡◌, ℕ, ◌^◌, ◌<◌, Bool, true, false, List, [], ◌∷◌, ◌&&◌, cond, refl, subst, arith}
use Rattle.std.specs.Prelude.{Option, Some, None, codes}
use Rattle.std.proofs.lemmas.Bool.{cond_both}
use Rattle.sta_units.specs.Decimal.{number_on}
use Rattle.sta_text.specs.declared.faults.Wrong.{Wrong}
use Rattle.sta_text.specs.Tokens.{Tok}
use Rattle.verilog_netlist.specs.declared.events.Role.{Role}
use Rattle.verilog_netlist.specs.declared.events.Role.TheVariants.{HeaderInput, HeaderOutput, Input, Output, Wire}
use Rattle.verilog_netlist.specs.declared.events.Kind.{Kind}
use Rattle.verilog_netlist.specs.declared.events.Net.{Net}
use Rattle.verilog_netlist.specs.declared.events.Net.TheVariants.{Tied, Alone, Bit}
use Rattle.verilog_netlist.specs.declared.events.Event.{Event}
use Rattle.verilog_netlist.specs.declared.events.Event.TheVariants.{Module, Header, Declared, CellWord, Instance, Pin, Connection, Fault}
use Rattle.verilog_netlist.specs.Nets.{bit_name}
use Rattle.verilog_netlist.specs.Lexicon.{spelled, is_identifier, is_number, is_constant, is_variable_type, is_left_out_item, has_colon, begins_expression}
use Rattle.verilog_netlist.specs.Late.{SmallEnds}
use Rattle.verilog_netlist.specs.Grammar.{State, start, module_name, ports_open, first_port, port, port_next, head_end, type_of, range_of, range_first, range_colon, range_last, range_close, declared_name, declared_next, item, inst_name, inst_open, first_conn, conn, pin_name, net_open, net, net_next, bit_number, bit_close, net_close, conn_next, inst_end, behind, is_header, is_port, is_output, is_text, left_out, scalar, vector, port_event, at_name, at_port, at_conn, at_end, events}
use Rattle.verilog_netlist.proofs.LexiconLemmas.{number_small}

-- the name of a port has no colon
abbrev pub IfPort : Role → List ℕ → Type 0
IfPort role name = is_port role ≡ true → has_colon name ≡ false

-- behind the word of a cell the instance is due, behind a pin its connection
pub data Due : Type 0 where
  free : Due
  named : Due
  joined : List ℕ → Due

abbrev pub Formed : Due → List Event → Type 0
Formed due [] = Unit {0}
Formed free (Declared kind name at ∷ es) = SmallEnds kind.span × IfPort kind.role name × Formed free es
Formed free (Module name ∷ es) = Formed free es
Formed free (Header name at ∷ es) = Formed free es
Formed free (CellWord at ∷ es) = Formed named es
Formed free (Pin pin at ∷ es) = Formed (joined pin) es
Formed free (Fault w ∷ es) = es ≡ []
Formed free (e ∷ es) = ⊥
Formed named (Instance cell name at ∷ es) = Formed free es
Formed named (Fault w ∷ es) = es ≡ []
Formed named (e ∷ es) = ⊥
Formed (joined due) (Connection pin n ∷ es) = (pin ≡ due) × Formed free es
Formed (joined due) (Fault w ∷ es) = es ≡ []
Formed (joined due) (e ∷ es) = ⊥

pub record IsFormed (due : Due) (es : List Event) : Type 0 where
  pub held : Formed due es

failed : (due : Due) (w : Wrong) → IsFormed due (Fault w ∷ [])
failed free w = record { held = refl }
failed named w = record { held = refl }
failed (joined pin) w = record { held = refl }

pick : (due : Due) (b : Bool) (xs ys : List Event) → IsFormed due xs → IsFormed due ys → IsFormed due (cond b xs ys)
pick due b xs ys h k = cond_both b xs ys (IsFormed due) (λ _. h) (λ _. k)

module_formed : (name : List ℕ) (rest : List Event) → IsFormed free rest → IsFormed free (Module name ∷ rest)
module_formed name rest h = record { held = h.held }

cell_formed : (at : ℕ) (rest : List Event) → IsFormed named rest → IsFormed free (CellWord at ∷ rest)
cell_formed at rest h = record { held = h.held }

inst_formed : (cell name : List ℕ) (at : ℕ) (rest : List Event) → IsFormed free rest → IsFormed named (Instance cell name at ∷ rest)
inst_formed cell name at rest h = record { held = h.held }

pin_formed : (pin : List ℕ) (at : ℕ) (rest : List Event) → IsFormed (joined pin) rest → IsFormed free (Pin pin at ∷ rest)
pin_formed pin at rest h = record { held = h.held }

conn_formed : (pin : List ℕ) (n : Net) (rest : List Event) → IsFormed free rest → IsFormed (joined pin) (Connection pin n ∷ rest)
conn_formed pin n rest h = record { held = (refl, h.held) }

-- what is due at a place, and what was read there
abbrev due_of : State → Due
due_of (inst_name cell) = named
due_of (net_open pin) = joined pin
due_of (net pin) = joined pin
due_of (net_next pin name at) = joined pin
due_of (bit_number pin name at) = joined pin
due_of (bit_close pin name at k) = joined pin
due_of place = free

abbrev OfKind : Option Kind → Type 0
OfKind None = Unit {0}
OfKind (Some kind) = SmallEnds kind.span

abbrev Ready : State → Type 0
Ready (port kind) = OfKind kind
Ready (port_next kind) = OfKind kind
Ready (range_colon role first) = first < 2 ^ 32
Ready (range_last role first) = first < 2 ^ 32
Ready (range_close kind) = SmallEnds kind.span
Ready (declared_name kind) = SmallEnds kind.span
Ready (declared_next kind) = SmallEnds kind.span
Ready place = Unit {0}

small : (word : List ℕ) → is_number word ≡ true → number_on 0 word < 2 ^ 32
small word h = omega (arith, number_small word h)

end_formed : (size : ℕ) (place : State) → IsFormed (due_of place) (at_end size place)
end_formed size behind = record { held = tt }
end_formed size place = failed (due_of place) _

name_formed : (size : ℕ) (is_of_port : Bool) (t : Tok) (e : Event) (rest : List Event) → ((is_of_port && has_colon (spelled t.text)) ≡ false → IsFormed free (e ∷ rest)) → IsFormed free (at_name size is_of_port t e rest)
name_formed size is_of_port t e rest h =
    cond_both (is_identifier t.text) _ _ (IsFormed free)
    (λ _. cond_both (is_of_port && has_colon (spelled t.text)) (left_out t.start) (e ∷ rest) (IsFormed free) (λ _. failed free _) h) (λ _. failed free _)

declared_formed : (kind : Kind) (name : List ℕ) (at : ℕ) (rest : List Event) → SmallEnds kind.span → IfPort kind.role name → IsFormed free rest → IsFormed free (Declared kind name at ∷ rest)
declared_formed kind name at rest ends plain h = record { held = (ends, plain, h.held) }

port_formed : (kind : Option Kind) (name : List ℕ) (at : ℕ) (rest : List Event) → OfKind kind → has_colon name ≡ false → IsFormed free rest → IsFormed free (port_event kind name at ∷ rest)
port_formed None name at rest ends plain h = record { held = h.held }
port_formed (Some kind) name at rest ends plain h = declared_formed kind name at rest ends (λ _. plain) h

at_port_formed : (size : ℕ) (kind : Option Kind) (t : Tok) (rest inputs outputs : List Event) → OfKind kind → IsFormed free rest → IsFormed free inputs → IsFormed free outputs → IsFormed free (at_port size kind t rest inputs outputs)
at_port_formed size kind t rest inputs outputs ends h i o =
    pick free (is_text t (codes "input")) _ _ i
    (pick free (is_text t (codes "output")) _ _ o
    (pick free (is_text t (codes "inout")) _ _ (failed free _)
    (pick free (is_text t (codes "{")) _ _ (failed free _)
    (name_formed size true t (port_event kind (spelled t.text) t.start) rest
    (λ plain. port_formed kind (spelled t.text) t.start rest ends plain h)))))

-- a declared name, of a port or a wire
at_declared : (size : ℕ) (kind : Kind) (t : Tok) (rest : List Event) → SmallEnds kind.span → IsFormed free rest → IsFormed free (at_name size (is_port kind.role) t (Declared kind (spelled t.text) t.start) rest)
at_declared size kind t rest ends h =
    name_formed size (is_port kind.role) t (Declared kind (spelled t.text) t.start) rest
    (λ plain. declared_formed kind (spelled t.text) t.start rest ends
    (λ is. subst (λ b. (b && has_colon (spelled t.text)) ≡ false) is plain) h)

at_conn_formed : (size : ℕ) (t : Tok) (rest : List Event) → IsFormed free rest → IsFormed free (at_conn size t rest)
at_conn_formed size t rest h =
    pick free (is_text t (codes ".")) _ _ h (pick free (begins_expression t.text) _ _ (failed free _) (failed free _))

pub formed : (size : ℕ) (place : State) (ts : List Tok) → Ready place → IsFormed (due_of place) (events size place ts)
unfolding events
formed size place [] r = end_formed size place
formed size start (t ∷ ts) r = pick free (is_text t (codes "module")) _ _ (formed size module_name ts tt) (failed free _)
formed size module_name (t ∷ ts) r =
    pick free (is_identifier t.text) _ _ (module_formed (spelled t.text) _ (formed size ports_open ts tt)) (failed free _)
formed size ports_open (t ∷ ts) r =
    pick free (is_text t (codes "(")) _ _ (formed size first_port ts tt)
    (pick free (is_text t (codes "#")) _ _ (failed free _) (failed free _))
formed size first_port (t ∷ ts) r =
    pick free (is_text t (codes ")")) _ _ (formed size head_end ts tt)
    (at_port_formed size None t _ _ _ tt (formed size (port_next None) ts tt) (formed size (type_of HeaderInput) ts tt) (formed size (type_of HeaderOutput) ts tt))
formed size (port kind) (t ∷ ts) r =
    at_port_formed size kind t _ _ _ r (formed size (port_next kind) ts r) (formed size (type_of HeaderInput) ts tt) (formed size (type_of HeaderOutput) ts tt)
formed size (port_next kind) (t ∷ ts) r =
    pick free (is_text t (codes ",")) _ _ (formed size (port kind) ts r)
    (pick free (is_text t (codes ")")) _ _ (formed size head_end ts tt) (failed free _))
formed size head_end (t ∷ ts) r = pick free (is_text t (codes ";")) _ _ (formed size item ts tt) (failed free _)
formed size (type_of role) (t ∷ ts) r =
    pick free (is_header role && is_text t (codes "wire")) _ _ (formed size (range_of role) ts tt)
    (pick free (is_output role && is_variable_type t.text) _ _ (failed free _)
    (pick free (is_text t (codes "[")) _ _ (formed size (range_first role) ts tt)
    (at_declared size (scalar role) t _ tt
    (cond_both (is_header role) (port_next (Some (scalar role))) (declared_next (scalar role)) (λ place. IsFormed free (events size place ts))
    (λ _. formed size (port_next (Some (scalar role))) ts tt) (λ _. formed size (declared_next (scalar role)) ts tt)))))
formed size (range_of role) (t ∷ ts) r =
    pick free (is_text t (codes "[")) _ _ (formed size (range_first role) ts tt)
    (at_declared size (scalar role) t _ tt
    (cond_both (is_header role) (port_next (Some (scalar role))) (declared_next (scalar role)) (λ place. IsFormed free (events size place ts))
    (λ _. formed size (port_next (Some (scalar role))) ts tt) (λ _. formed size (declared_next (scalar role)) ts tt)))
formed size (range_first role) (t ∷ ts) r =
    cond_both (is_number t.text) _ _ (IsFormed free) (λ h. formed size (range_colon role (number_on 0 t.text)) ts (small t.text h)) (λ _. failed free _)
formed size (range_colon role first) (t ∷ ts) r =
    pick free (is_text t (codes ":")) _ _ (formed size (range_last role first) ts r) (failed free _)
formed size (range_last role first) (t ∷ ts) r =
    cond_both (is_number t.text) _ _ (IsFormed free)
    (λ h. formed size (range_close (vector role first (number_on 0 t.text))) ts (r, small t.text h)) (λ _. failed free _)
formed size (range_close kind) (t ∷ ts) r =
    pick free (is_text t (codes "]")) _ _ (formed size (declared_name kind) ts r) (failed free _)
formed size (declared_name kind) (t ∷ ts) r =
    at_declared size kind t _ r
    (cond_both (is_header kind.role) (port_next (Some kind)) (declared_next kind) (λ place. IsFormed free (events size place ts))
    (λ _. formed size (port_next (Some kind)) ts r) (λ _. formed size (declared_next kind) ts r))
formed size (declared_next kind) (t ∷ ts) r =
    pick free (is_text t (codes ",")) _ _ (formed size (declared_name kind) ts r)
    (pick free (is_text t (codes ";")) _ _ (formed size item ts tt) (failed free _))
formed size item (t ∷ ts) r =
    pick free (is_text t (codes "input")) _ _ (formed size (type_of Input) ts tt)
    (pick free (is_text t (codes "output")) _ _ (formed size (type_of Output) ts tt)
    (pick free (is_text t (codes "wire")) _ _ (formed size (type_of Wire) ts tt)
    (pick free (is_text t (codes "endmodule")) _ _ (formed size behind ts tt)
    (pick free (is_left_out_item t.text) _ _ (failed free _)
    (pick free (is_identifier t.text) _ _ (cell_formed t.start _ (formed size (inst_name (spelled t.text)) ts tt)) (failed free _))))))
formed size (inst_name cell) (t ∷ ts) r =
    pick named (is_identifier t.text) _ _ (inst_formed cell (spelled t.text) t.start _ (formed size inst_open ts tt))
    (pick named (is_text t (codes "#")) _ _ (failed named _) (failed named _))
formed size inst_open (t ∷ ts) r = pick free (is_text t (codes "(")) _ _ (formed size first_conn ts tt) (failed free _)
formed size first_conn (t ∷ ts) r =
    pick free (is_text t (codes ")")) _ _ (formed size inst_end ts tt) (at_conn_formed size t _ (formed size pin_name ts tt))
formed size conn (t ∷ ts) r = at_conn_formed size t _ (formed size pin_name ts tt)
formed size pin_name (t ∷ ts) r =
    pick free (is_identifier t.text) _ _ (pin_formed (spelled t.text) t.start _ (formed size (net_open (spelled t.text)) ts tt)) (failed free _)
formed size (net_open pin) (t ∷ ts) r =
    pick (joined pin) (is_text t (codes "(")) _ _ (formed size (net pin) ts tt) (failed (joined pin) _)
formed size (net pin) (t ∷ ts) r =
    pick (joined pin) (is_text t (codes ")")) _ _ (conn_formed pin Tied _ (formed size conn_next ts tt))
    (pick (joined pin) (is_constant t.text) _ _ (conn_formed pin Tied _ (formed size net_close ts tt))
    (pick (joined pin) (is_text t (codes "{")) _ _ (failed (joined pin) _)
    (pick (joined pin) (is_identifier t.text) _ _ (formed size (net_next pin (spelled t.text) t.start) ts tt) (failed (joined pin) _))))
formed size (net_next pin name at) (t ∷ ts) r =
    pick (joined pin) (is_text t (codes ")")) _ _ (conn_formed pin (Alone name at) _ (formed size conn_next ts tt))
    (pick (joined pin) (is_text t (codes "[")) _ _ (formed size (bit_number pin name at) ts tt) (failed (joined pin) _))
formed size (bit_number pin name at) (t ∷ ts) r =
    pick (joined pin) (is_number t.text) _ _ (formed size (bit_close pin name at (number_on 0 t.text)) ts tt) (failed (joined pin) _)
formed size (bit_close pin name at k) (t ∷ ts) r =
    pick (joined pin) (is_text t (codes "]")) _ _ (conn_formed pin (Bit (bit_name name k) at) _ (formed size net_close ts tt))
    (pick (joined pin) (is_text t (codes ":")) _ _ (failed (joined pin) _) (failed (joined pin) _))
formed size net_close (t ∷ ts) r = pick free (is_text t (codes ")")) _ _ (formed size conn_next ts tt) (failed free _)
formed size conn_next (t ∷ ts) r =
    pick free (is_text t (codes ",")) _ _ (formed size conn ts tt)
    (pick free (is_text t (codes ")")) _ _ (formed size inst_end ts tt) (failed free _))
formed size inst_end (t ∷ ts) r = pick free (is_text t (codes ";")) _ _ (formed size item ts tt) (failed free _)
formed size behind (t ∷ ts) r = pick free (is_text t (codes "module")) _ _ (failed free _) (failed free _)

-- what the declarations write
abbrev pub AreDeclared : List Event → Type 0
AreDeclared [] = Unit {0}
AreDeclared (Declared kind name at ∷ es) = SmallEnds kind.span × IfPort kind.role name × AreDeclared es
AreDeclared (e ∷ es) = AreDeclared es

pub declarations : (due : Due) (es : List Event) → Formed due es → AreDeclared es
declarations due [] h = tt
declarations free (Declared kind name at ∷ es) h = (h.0, h.1, declarations free es h.2)
declarations free (Module name ∷ es) h = declarations free es h
declarations free (Header name at ∷ es) h = declarations free es h
declarations free (CellWord at ∷ es) h = declarations named es h
declarations free (Pin pin at ∷ es) h = declarations (joined pin) es h
declarations free (Fault w ∷ es) h = rw h tt
declarations free (e ∷ es) h = absurd h
declarations named (Instance cell name at ∷ es) h = declarations free es h
declarations named (Fault w ∷ es) h = rw h tt
declarations named (e ∷ es) h = absurd h
declarations (joined pin) (Connection word n ∷ es) h = declarations free es h.1
declarations (joined pin) (Fault w ∷ es) h = rw h tt
declarations (joined pin) (e ∷ es) h = absurd h
