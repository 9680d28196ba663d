-- The generated netlist and scripts are read back.
use Rattle.std.proofs.Common.{◌≡◌, ℕ, ◌*◌, ◌/◌, ◌≤◌, List, length, map, arith}
use Rattle.std.specs.Prelude.{Some, []}
use Rattle.timing_defs.specs.declared.netlist.Inst.{Inst}
use Rattle.verilog_netlist.specs.Grammar.{events_of}
use Rattle.verilog_netlist.specs.Faults.{faults_of}
use Rattle.verilog_netlist.specs.Modules.{module_of}
use Rattle.design_maker.specs.Insts.{insts_of, lanes_from, behind_lanes}
use Rattle.design_maker.specs.Sessions.{scripts_of}
use Rattle.design_maker.specs.Written.{module_text}
use Rattle.design_laws.specs.Netlists.{IsWritable, conn_count, module_of_insts}
use Rattle.design_laws.specs.Scripts.{read_of, made_of}
use Rattle.design_laws.proofs.GeneratedWords.{AreFine, lanes_fine, fine_insts, fine_pins, fine_few}
use Rattle.design_laws.proofs.GeneratedNames.{lanes_lone, lanes_count}
use Rattle.design_laws.proofs.ModuleBack.{no_faults, module_back}
use Rattle.design_laws.proofs.ScriptsBack.{scripts_back}

pub insts_writable : (start gates : ℕ) → gates ≤ 40000 → IsWritable (insts_of start gates)
insts_writable start gates few =
    let n : ℕ = gates / 4 in
    let is : List Inst = lanes_from 0 4 n start in
    let low : n ≤ 10000 = omega (arith, few) in
    let fine : AreFine is = lanes_fine 0 4 n start (omega arith) low in
    let count : length is ≤ 10400 * 4 = lanes_count 0 4 n start low in
    let conns : conn_count is ≤ 3 * length is = fine_few is fine in
    record {
      words = fine_insts is fine;
      lone = lanes_lone n start low;
      pins = fine_pins is fine;
      few = omega (arith, count);
      few_nets = omega (arith, count, conns);
    }

pub netlist_faults : (start gates : ℕ) → gates ≤ 40000 → faults_of (events_of (module_text (insts_of start gates))) ≡ []
netlist_faults start gates few = no_faults (insts_of start gates) (insts_writable start gates few)

pub netlist_back : (start gates : ℕ) → gates ≤ 40000
    → module_of (events_of (module_text (insts_of start gates))) ≡ Some (module_of_insts (insts_of start gates))
netlist_back start gates few = module_back (insts_of start gates) (insts_writable start gates few)

pub all_scripts_back : (start gates edits : ℕ) → 4 ≤ gates → gates ≤ 40000 → edits ≤ 4000
    → map read_of (scripts_of start gates edits) ≡ map made_of (scripts_of start gates edits)
all_scripts_back start gates edits some few less =
    scripts_back 0 4 (gates / 4) (edits / 4) (behind_lanes 4 (gates / 4) start) (omega arith) (omega (arith, some)) (omega (arith, few)) (omega (arith, less))
