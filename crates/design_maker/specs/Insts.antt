-- The instances of a generated netlist: four lanes of gates in blocks of 32, the last perhaps shorter (own).
use Rattle.std.specs.Prelude.{ℕ, zero, suc, ◌+◌, ◌*◌, ◌/◌, ◌%◌, List, [], ◌∷◌, ◌++◌, ◌==◌, min, if◌then◌else◌, Some, codes, decimal}
use Rattle.timing_defs.specs.declared.netlist.Conn.{Conn}
use Rattle.timing_defs.specs.declared.netlist.Inst.{Inst}
use Rattle.design_maker.specs.Draws.{drawn, drawn_on, chosen}

-- a name of a letter, the lane and a number, as g0_12
abbrev pub name_of : ℕ → ℕ → ℕ → List ℕ
name_of letter lane number = letter ∷ (decimal lane ++ (95 ∷ decimal number))

abbrev pub gate_name : ℕ → ℕ → List ℕ
gate_name lane number = name_of 103 lane number

abbrev pub net_name : ℕ → ℕ → List ℕ
net_name lane number = name_of 110 lane number

abbrev pub joined : List ℕ → List ℕ → Conn
joined pin net = record { pin = pin; net = Some net }

-- the register from which the nets of a lane start
abbrev pub first_register : ℕ → Inst
first_register lane =
    record {
      name = 102 ∷ decimal lane;
      cell = codes "DFF";
      conns = joined (codes "D") (codes "d") ∷ joined (codes "CK") (codes "clk") ∷ joined (codes "Q") (net_name lane 0) ∷ [];
    }

-- the number of a net of a block: its net 0 is that of the lane, each other one is of a gate of the block
abbrev pub block_net : ℕ → ℕ → ℕ
block_net block at = (if at == 0 then 0 else 32 * block + at)

-- the gate behind so many gates of a lane: one input on the net before, the other on a drawn net of the block
abbrev pub gate : ℕ → ℕ → ℕ → Inst
gate lane before x =
    record {
      name = gate_name lane (before + 1);
      cell = codes "AND2_X1";
      conns = joined (codes "A") (net_name lane (block_net (before / 32) (before % 32)))
          ∷ joined (codes "B") (net_name lane (block_net (before / 32) (chosen x (before % 32 + 1))))
          ∷ joined (codes "Z") (net_name lane (before + 1)) ∷ [];
    }

-- the register behind a block of a lane of so many gates, on the net of the block's last gate
abbrev pub last_register : ℕ → ℕ → ℕ → Inst
last_register lane gates block =
    record {
      name = name_of 101 lane block;
      cell = codes "DFF";
      conns = joined (codes "D") (net_name lane (min (32 * block + 32) gates)) ∷ joined (codes "CK") (codes "clk") ∷ [];
    }

-- so many more gates of a lane
unfoldable pub gates_from : ℕ → ℕ → ℕ → ℕ → List Inst
gates_from lane before zero x = []
gates_from lane before (suc more) x = gate lane before (drawn x) ∷ gates_from lane (before + 1) more (drawn x)

-- the registers of so many more blocks
unfoldable pub registers_from : ℕ → ℕ → ℕ → ℕ → List Inst
registers_from lane gates block zero = []
registers_from lane gates block (suc more) = last_register lane gates block ∷ registers_from lane gates (block + 1) more

-- how many blocks a lane has
abbrev pub blocks_of : ℕ → ℕ
blocks_of gates = (gates + 31) / 32

-- a lane of so many gates
abbrev pub lane_of : ℕ → ℕ → ℕ → List Inst
lane_of lane gates x = first_register lane ∷ (gates_from lane 0 gates x ++ registers_from lane gates 0 (blocks_of gates))

-- so many more lanes
unfoldable pub lanes_from : ℕ → ℕ → ℕ → ℕ → List Inst
lanes_from lane zero gates x = []
lanes_from lane (suc more) gates x = lane_of lane gates x ++ lanes_from (lane + 1) more gates (drawn_on gates x)

-- the number behind all draws of so many lanes
unfoldable pub behind_lanes : ℕ → ℕ → ℕ → ℕ
behind_lanes zero draws x = x
behind_lanes (suc more) draws x = behind_lanes more draws (drawn_on draws x)

-- the instances of a netlist of so many gates, in its order
abbrev pub insts_of : ℕ → ℕ → List Inst
insts_of start gates = lanes_from 0 4 (gates / 4) start
