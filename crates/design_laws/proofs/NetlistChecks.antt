-- How each check of a netlist goes over written instances.
use Rattle.std.proofs.Common.{◌≡◌, ℕ, ◌+◌, Bool, true, false, not, List, [], ◌∷◌, ◌++◌, length, refl, ap, sym, ◌∙◌, append_assoc}
use Rattle.std.specs.Prelude.{Option, nat_lt}
use Rattle.timing_defs.specs.declared.netlist.Conn.{Conn}
use Rattle.sta_text.specs.Names.{stands}
use Rattle.verilog_netlist.specs.Grammar.{events, conn_next}
use Rattle.verilog_netlist.specs.Faults.{wrongs, strays, header_doubles, declaration_faults, instance_doubles, instance_excess, pin_doubles, whole_vectors, undirected, undeclared_bits, with_implicit, net_excess, all_vectors, all_directed, all_declared, all_nets}
use Rattle.verilog_netlist.specs.Modules.{ports_of, conns_of, insts_of}
use Rattle.design_maker.specs.Written.{net_text}
use Rattle.design_laws.proofs.Walks.{Turns, still, TurnsAtConns, TurnsAtCells, TurnsAtNames}

not_true : (b : Bool) → not b ≡ true → b ≡ false
not_true true h = sym h
not_true false h = refl

-- what instances do not touch
abbrev pub alone : {E X : Type 0} → (List E → X) → Unit {0} → List E → X
alone f u es = f es

pub wrong_conns : TurnsAtConns events (alone wrongs) still
unfolding events wrongs
wrong_conns size c ok a fine a0 a1 a2 a3 a4 ts =
    rw (ok.pin.identifier, ok.pin.same, ok.net.no_end, ok.net.no_constant, ok.net.no_brace, ok.net.word.identifier, ok.net.word.same) refl

pub wrong_cells : TurnsAtCells events (alone wrongs) still
unfolding events wrongs
wrong_cells size w ok a fine at ts = rw (ok.no_input, ok.no_output, ok.no_wire, ok.no_end, ok.no_item, ok.word.identifier, ok.word.same) refl

pub wrong_names : TurnsAtNames events (alone wrongs) still
unfolding events wrongs
wrong_names size cell w ok a fine at ts = rw (ok.identifier, ok.same) refl

pub stray_conns : TurnsAtConns events strays still
unfolding events strays
stray_conns size c ok a fine a0 a1 a2 a3 a4 ts =
    rw (ok.pin.identifier, ok.pin.same, ok.net.no_end, ok.net.no_constant, ok.net.no_brace, ok.net.word.identifier, ok.net.word.same) refl

pub stray_cells : TurnsAtCells events strays still
unfolding events strays
stray_cells size w ok a fine at ts = rw (ok.no_input, ok.no_output, ok.no_wire, ok.no_end, ok.no_item, ok.word.identifier, ok.word.same) refl

pub stray_names : TurnsAtNames events strays still
unfolding events strays
stray_names size cell w ok a fine at ts = rw (ok.identifier, ok.same) refl

pub header_conns : TurnsAtConns events header_doubles still
unfolding events header_doubles
header_conns size c ok a fine a0 a1 a2 a3 a4 ts =
    rw (ok.pin.identifier, ok.pin.same, ok.net.no_end, ok.net.no_constant, ok.net.no_brace, ok.net.word.identifier, ok.net.word.same) refl

pub header_cells : TurnsAtCells events header_doubles still
unfolding events header_doubles
header_cells size w ok a fine at ts = rw (ok.no_input, ok.no_output, ok.no_wire, ok.no_end, ok.no_item, ok.word.identifier, ok.word.same) refl

pub header_names : TurnsAtNames events header_doubles still
unfolding events header_doubles
header_names size cell w ok a fine at ts = rw (ok.identifier, ok.same) refl

pub declaration_conns : TurnsAtConns events declaration_faults still
unfolding events declaration_faults
declaration_conns size c ok a fine a0 a1 a2 a3 a4 ts =
    rw (ok.pin.identifier, ok.pin.same, ok.net.no_end, ok.net.no_constant, ok.net.no_brace, ok.net.word.identifier, ok.net.word.same) refl

pub declaration_cells : TurnsAtCells events declaration_faults still
unfolding events declaration_faults
declaration_cells size w ok a fine at ts = rw (ok.no_input, ok.no_output, ok.no_wire, ok.no_end, ok.no_item, ok.word.identifier, ok.word.same) refl

pub declaration_names : TurnsAtNames events declaration_faults still
unfolding events declaration_faults
declaration_names size cell w ok a fine at ts = rw (ok.identifier, ok.same) refl

pub whole_conns : TurnsAtConns events (alone (whole_vectors [])) still
unfolding events whole_vectors
whole_conns size c ok a fine a0 a1 a2 a3 a4 ts =
    rw (ok.pin.identifier, ok.pin.same, ok.net.no_end, ok.net.no_constant, ok.net.no_brace, ok.net.word.identifier) refl

pub whole_cells : TurnsAtCells events (alone (whole_vectors [])) still
unfolding events whole_vectors
whole_cells size w ok a fine at ts = rw (ok.no_input, ok.no_output, ok.no_wire, ok.no_end, ok.no_item, ok.word.identifier, ok.word.same) refl

pub whole_names : TurnsAtNames events (alone (whole_vectors [])) still
unfolding events whole_vectors
whole_names size cell w ok a fine at ts = rw (ok.identifier, ok.same) refl

pub undirected_conns : TurnsAtConns events undirected still
unfolding events undirected
undirected_conns size c ok a fine a0 a1 a2 a3 a4 ts =
    rw (ok.pin.identifier, ok.pin.same, ok.net.no_end, ok.net.no_constant, ok.net.no_brace, ok.net.word.identifier, ok.net.word.same) refl

pub undirected_cells : TurnsAtCells events undirected still
unfolding events undirected
undirected_cells size w ok a fine at ts = rw (ok.no_input, ok.no_output, ok.no_wire, ok.no_end, ok.no_item, ok.word.identifier, ok.word.same) refl

pub undirected_names : TurnsAtNames events undirected still
unfolding events undirected
undirected_names size cell w ok a fine at ts = rw (ok.identifier, ok.same) refl

pub bit_conns : TurnsAtConns events undeclared_bits still
unfolding events undeclared_bits
bit_conns size c ok a fine a0 a1 a2 a3 a4 ts =
    rw (ok.pin.identifier, ok.pin.same, ok.net.no_end, ok.net.no_constant, ok.net.no_brace, ok.net.word.identifier, ok.net.word.same) refl

pub bit_cells : TurnsAtCells events undeclared_bits still
unfolding events undeclared_bits
bit_cells size w ok a fine at ts = rw (ok.no_input, ok.no_output, ok.no_wire, ok.no_end, ok.no_item, ok.word.identifier, ok.word.same) refl

pub bit_names : TurnsAtNames events undeclared_bits still
unfolding events undeclared_bits
bit_names size cell w ok a fine at ts = rw (ok.identifier, ok.same) refl

pub vector_conns : TurnsAtConns events all_vectors still
unfolding events all_vectors
vector_conns size c ok a fine a0 a1 a2 a3 a4 ts =
    rw (ok.pin.identifier, ok.pin.same, ok.net.no_end, ok.net.no_constant, ok.net.no_brace, ok.net.word.identifier, ok.net.word.same) refl

pub vector_cells : TurnsAtCells events all_vectors still
unfolding events all_vectors
vector_cells size w ok a fine at ts = rw (ok.no_input, ok.no_output, ok.no_wire, ok.no_end, ok.no_item, ok.word.identifier, ok.word.same) refl

pub vector_names : TurnsAtNames events all_vectors still
unfolding events all_vectors
vector_names size cell w ok a fine at ts = rw (ok.identifier, ok.same) refl

pub directed_conns : TurnsAtConns events all_directed still
unfolding events all_directed
directed_conns size c ok a fine a0 a1 a2 a3 a4 ts =
    rw (ok.pin.identifier, ok.pin.same, ok.net.no_end, ok.net.no_constant, ok.net.no_brace, ok.net.word.identifier, ok.net.word.same) refl

pub directed_cells : TurnsAtCells events all_directed still
unfolding events all_directed
directed_cells size w ok a fine at ts = rw (ok.no_input, ok.no_output, ok.no_wire, ok.no_end, ok.no_item, ok.word.identifier, ok.word.same) refl

pub directed_names : TurnsAtNames events all_directed still
unfolding events all_directed
directed_names size cell w ok a fine at ts = rw (ok.identifier, ok.same) refl

pub declared_conns : TurnsAtConns events all_declared still
unfolding events all_declared
declared_conns size c ok a fine a0 a1 a2 a3 a4 ts =
    rw (ok.pin.identifier, ok.pin.same, ok.net.no_end, ok.net.no_constant, ok.net.no_brace, ok.net.word.identifier, ok.net.word.same) refl

pub declared_cells : TurnsAtCells events all_declared still
unfolding events all_declared
declared_cells size w ok a fine at ts = rw (ok.no_input, ok.no_output, ok.no_wire, ok.no_end, ok.no_item, ok.word.identifier, ok.word.same) refl

pub declared_names : TurnsAtNames events all_declared still
unfolding events all_declared
declared_names size cell w ok a fine at ts = rw (ok.identifier, ok.same) refl

pub port_conns : TurnsAtConns events (alone ports_of) still
unfolding events ports_of
port_conns size c ok a fine a0 a1 a2 a3 a4 ts =
    rw (ok.pin.identifier, ok.pin.same, ok.net.no_end, ok.net.no_constant, ok.net.no_brace, ok.net.word.identifier, ok.net.word.same) refl

pub port_cells : TurnsAtCells events (alone ports_of) still
unfolding events ports_of
port_cells size w ok a fine at ts = rw (ok.no_input, ok.no_output, ok.no_wire, ok.no_end, ok.no_item, ok.word.identifier, ok.word.same) refl

pub port_names : TurnsAtNames events (alone ports_of) still
unfolding events ports_of
port_names size cell w ok a fine at ts = rw (ok.identifier, ok.same) refl

-- no instance twice
abbrev pub naming : Turns (List (List ℕ))
naming = record still { name = λ names w. names ++ w ∷ []; name_ok = λ names w. not (stands names w) }

pub double_conns : TurnsAtConns events instance_doubles naming
unfolding events instance_doubles
double_conns size c ok a fine a0 a1 a2 a3 a4 ts =
    rw (ok.pin.identifier, ok.pin.same, ok.net.no_end, ok.net.no_constant, ok.net.no_brace, ok.net.word.identifier, ok.net.word.same) refl

pub double_cells : TurnsAtCells events instance_doubles naming
unfolding events instance_doubles
double_cells size w ok a fine at ts = rw (ok.no_input, ok.no_output, ok.no_wire, ok.no_end, ok.no_item, ok.word.identifier, ok.word.same) refl

pub double_names : TurnsAtNames events instance_doubles naming
unfolding events instance_doubles
double_names size cell w ok a fine at ts = rw (ok.identifier, ok.same) (rw (not_true (stands a w) fine) refl)

-- few instances
abbrev pub counting : Turns ℕ
counting = record still { cell = λ n. n + 1; cell_ok = λ n. nat_lt n 200000 }

pub excess_conns : TurnsAtConns events instance_excess counting
unfolding events instance_excess
excess_conns size c ok a fine a0 a1 a2 a3 a4 ts =
    rw (ok.pin.identifier, ok.pin.same, ok.net.no_end, ok.net.no_constant, ok.net.no_brace, ok.net.word.identifier, ok.net.word.same) refl

pub excess_cells : TurnsAtCells events instance_excess counting
unfolding events instance_excess
excess_cells size w ok a fine at ts = rw (ok.no_input, ok.no_output, ok.no_wire, ok.no_end, ok.no_item, ok.word.identifier, ok.word.same) (rw fine refl)

pub excess_names : TurnsAtNames events instance_excess counting
unfolding events instance_excess
excess_names size cell w ok a fine at ts = rw (ok.identifier, ok.same) refl

-- no pin twice in an instance
abbrev pub pinning : Turns (List (List ℕ))
pinning = record still { name = λ names w. []; conn = λ names c. names ++ c.pin ∷ []; conn_ok = λ names c. not (stands names c.pin) }

pub pin_conns : TurnsAtConns events pin_doubles pinning
unfolding events pin_doubles
pin_conns size c ok a fine a0 a1 a2 a3 a4 ts =
    rw (ok.pin.identifier, ok.pin.same, ok.net.no_end, ok.net.no_constant, ok.net.no_brace, ok.net.word.identifier) (rw (not_true (stands a c.pin) fine) refl)

pub pin_cells : TurnsAtCells events pin_doubles pinning
unfolding events pin_doubles
pin_cells size w ok a fine at ts = rw (ok.no_input, ok.no_output, ok.no_wire, ok.no_end, ok.no_item, ok.word.identifier, ok.word.same) refl

pub pin_names : TurnsAtNames events pin_doubles pinning
unfolding events pin_doubles
pin_names size cell w ok a fine at ts = rw (ok.identifier, ok.same) refl

-- nets beside these that are declared, and few of them
abbrev pub netting : List (List ℕ) → Turns (List (List ℕ))
netting declared =
    record still {
      conn = λ nets c. with_implicit declared [] nets (net_text c.net);
      conn_ok = λ nets c. not (nat_lt 200000 (length (with_implicit declared [] nets (net_text c.net))));
    }

abbrev pub listing : List (List ℕ) → Turns (List (List ℕ))
listing declared = record still { conn = λ nets c. with_implicit declared [] nets (net_text c.net) }

pub net_conns : (declared : List (List ℕ)) → TurnsAtConns events (net_excess declared []) (netting declared)
unfolding events net_excess
net_conns declared size c ok a fine a0 a1 a2 a3 a4 ts =
    rw (ok.pin.identifier, ok.pin.same, ok.net.no_end, ok.net.no_constant, ok.net.no_brace, ok.net.word.identifier, ok.net.word.same) (rw (not_true (nat_lt 200000 (length (with_implicit declared [] a (net_text c.net)))) fine) refl)

pub net_cells : (declared : List (List ℕ)) → TurnsAtCells events (net_excess declared []) (netting declared)
unfolding events net_excess
net_cells declared size w ok a fine at ts = rw (ok.no_input, ok.no_output, ok.no_wire, ok.no_end, ok.no_item, ok.word.identifier, ok.word.same) refl

pub net_names : (declared : List (List ℕ)) → TurnsAtNames events (net_excess declared []) (netting declared)
unfolding events net_excess
net_names declared size cell w ok a fine at ts = rw (ok.identifier, ok.same) refl

pub list_conns : (declared : List (List ℕ)) → TurnsAtConns events (all_nets declared []) (listing declared)
unfolding events all_nets
list_conns declared size c ok a fine a0 a1 a2 a3 a4 ts =
    rw (ok.pin.identifier, ok.pin.same, ok.net.no_end, ok.net.no_constant, ok.net.no_brace, ok.net.word.identifier, ok.net.word.same) refl

pub list_cells : (declared : List (List ℕ)) → TurnsAtCells events (all_nets declared []) (listing declared)
unfolding events all_nets
list_cells declared size w ok a fine at ts = rw (ok.no_input, ok.no_output, ok.no_wire, ok.no_end, ok.no_item, ok.word.identifier, ok.word.same) refl

pub list_names : (declared : List (List ℕ)) → TurnsAtNames events (all_nets declared []) (listing declared)
unfolding events all_nets
list_names declared size cell w ok a fine at ts = rw (ok.identifier, ok.same) refl

-- the connections of an instance
abbrev pub behind_those : {E : Type 0} → (List E → List Conn) → List Conn → List E → List Conn
behind_those f conns es = conns ++ f es

abbrev pub joining : Turns (List Conn)
joining = record still { conn = λ conns c. conns ++ c ∷ [] }

pub conn_conns : TurnsAtConns events (behind_those conns_of) joining
unfolding events conns_of
conn_conns size c ok a fine a0 a1 a2 a3 a4 ts =
    rw (ok.pin.identifier, ok.pin.same, ok.net.no_end, ok.net.no_constant, ok.net.no_brace, ok.net.word.identifier, ok.net.word.same)
    (ap (λ (net : Option (List ℕ)). a ++ (record { pin = c.pin; net = net } ∷ conns_of (events size conn_next ts))) (sym ok.there)
    ∙ sym (append_assoc a (c ∷ []) (conns_of (events size conn_next ts))))

pub inst_conns : TurnsAtConns events (alone insts_of) still
unfolding events insts_of
inst_conns size c ok a fine a0 a1 a2 a3 a4 ts =
    rw (ok.pin.identifier, ok.pin.same, ok.net.no_end, ok.net.no_constant, ok.net.no_brace, ok.net.word.identifier, ok.net.word.same) refl

pub inst_cells : TurnsAtCells events (alone insts_of) still
unfolding events insts_of
inst_cells size w ok a fine at ts = rw (ok.no_input, ok.no_output, ok.no_wire, ok.no_end, ok.no_item, ok.word.identifier, ok.word.same) refl

pub conn_cells : TurnsAtCells events (alone conns_of) still
unfolding events conns_of
conn_cells size w ok a fine at ts = rw (ok.no_input, ok.no_output, ok.no_wire, ok.no_end, ok.no_item, ok.word.identifier, ok.word.same) refl
