-- Instances that a netlist can write by words alone.
use Rattle.std.specs.Prelude.{◌≡◌, ℕ, ◌+◌, ◌≤◌, map, List, [], ◌∷◌, ◌++◌, true, false, Some, codes, length, if◌then◌else◌}
use Rattle.std.specs.Str.{bytes_eq}
use Rattle.timing_defs.specs.declared.netlist.Conn.{Conn}
use Rattle.timing_defs.specs.declared.netlist.Inst.{Inst}
use Rattle.timing_defs.specs.declared.kinds.Dir.TheVariants.{Input}
use Rattle.timing_defs.specs.declared.netlist.Module.{Module}
use Rattle.timing_defs.specs.declared.texts.Sort.TheVariants.{Word}
use Rattle.timing_defs.specs.declared.texts.Style.TheVariants.{Verilog}
use Rattle.sta_text.specs.declared.pieces.Context.{Context}
use Rattle.sta_text.specs.declared.pieces.Context.TheVariants.{Within}
use Rattle.sta_text.specs.Bytes.{begins, is_identifier_byte}
use Rattle.sta_text.specs.Tokens.{tok, tokens}
use Rattle.sta_text.specs.Names.{stands}
use Rattle.verilog_netlist.specs.Lexicon.{is_identifier, is_constant, is_left_out_item, spelled}
use Rattle.design_maker.specs.Written.{net_text}

-- a word that is one token and spells itself
pub record IsWord (w : List ℕ) : Type 0 where
  pub cut : (context : Context) (at b : ℕ) (rest : List ℕ) → is_identifier_byte b ≡ false
      → tokens Verilog 0 context at (w ++ b ∷ rest) ≡ tok w at Word ∷ tokens Verilog 0 Within (at + length w) (b ∷ rest)
  pub identifier : is_identifier w ≡ true
  pub same : spelled w ≡ w

-- a word that stands for a net
pub record IsNet (w : List ℕ) : Type 0 where
  pub word : IsWord w
  pub no_star : (more : List ℕ) → begins 42 (w ++ more) ≡ false
  pub no_end : bytes_eq w (codes ")") ≡ false
  pub no_constant : is_constant w ≡ false
  pub no_brace : bytes_eq w (codes "{") ≡ false

-- a word that begins an instance
pub record IsCell (w : List ℕ) : Type 0 where
  pub word : IsWord w
  pub no_input : bytes_eq w (codes "input") ≡ false
  pub no_output : bytes_eq w (codes "output") ≡ false
  pub no_wire : bytes_eq w (codes "wire") ≡ false
  pub no_end : bytes_eq w (codes "endmodule") ≡ false
  pub no_item : is_left_out_item w ≡ false

pub record IsConn (conn : Conn) : Type 0 where
  pub pin : IsWord conn.pin
  pub net : IsNet (net_text conn.net)
  pub there : conn.net ≡ Some (net_text conn.net)

abbrev pub AreConns : List Conn → Type 0
AreConns [] = Unit {0}
AreConns (conn ∷ conns) = IsConn conn × AreConns conns

pub record IsInst (i : Inst) : Type 0 where
  pub cell : IsCell i.cell
  pub name : IsWord i.name
  pub conns : AreConns i.conns

abbrev pub AreInsts : List Inst → Type 0
AreInsts [] = Unit {0}
AreInsts (i ∷ is) = IsInst i × AreInsts is

-- no name of these stands before, or twice
abbrev pub Lone : List (List ℕ) → List (List ℕ) → Type 0
Lone before [] = Unit {0}
Lone before (name ∷ names) = (stands before name ≡ false) × Lone (before ++ name ∷ []) names

abbrev pub names_of : List Inst → List (List ℕ)
names_of is = map (λ (i : Inst). i.name) is

abbrev pub pins_of : List Conn → List (List ℕ)
pins_of cs = map (λ (c : Conn). c.pin) cs

-- no pin stands twice in an instance
abbrev pub PinsLone : List Inst → Type 0
PinsLone [] = Unit {0}
PinsLone (i ∷ is) = Lone [] (pins_of i.conns) × PinsLone is

abbrev pub conn_count : List Inst → ℕ
conn_count [] = 0
conn_count (i ∷ is) = length i.conns + conn_count is

-- instances of one netlist: names of words, none twice, and few
pub record IsWritable (is : List Inst) : Type 0 where
  pub words : AreInsts is
  pub lone : Lone [] (names_of is)
  pub pins : PinsLone is
  pub few : length is ≤ 200000
  pub few_nets : 2 + conn_count is ≤ 200000

-- the names of the inputs, which are nets too
abbrev pub inputs : List (List ℕ)
inputs = codes "clk" ∷ codes "d" ∷ []

-- nets, and those of connections where they are not there yet
abbrev pub with_net : List (List ℕ) → List ℕ → List (List ℕ)
with_net nets net = (if stands nets net then nets else nets ++ net ∷ [])

abbrev pub with_conns : List (List ℕ) → List Conn → List (List ℕ)
with_conns nets [] = nets
with_conns nets (conn ∷ conns) = with_conns (with_net nets (net_text conn.net)) conns

abbrev pub with_insts : List (List ℕ) → List Inst → List (List ℕ)
with_insts nets [] = nets
with_insts nets (inst ∷ insts) = with_insts (with_conns nets inst.conns) insts

-- the module of these instances: its nets are the inputs, and each other net where it is connected first
abbrev pub module_of_insts : List Inst → Module
module_of_insts insts =
    record {
      name = codes "generated";
      ports = record { name = codes "clk"; dir = Input } ∷ record { name = codes "d"; dir = Input } ∷ [];
      nets = with_insts inputs insts;
      insts = insts;
    }
