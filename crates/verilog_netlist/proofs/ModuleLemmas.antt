-- The instance that has begun where the events end.
use Rattle.std.proofs.Common.{◌≡◌, ℕ, List, [], ◌∷◌, Option, length, refl, arith}
use Rattle.timing_defs.specs.declared.netlist.Inst.{Inst}
use Rattle.verilog_netlist.specs.declared.events.Event.{Event}
use Rattle.verilog_netlist.specs.Modules.{begun_insts}

-- no event changes nothing
pub begun_last : (begun : Option Inst) (es : List Event) → length es ≡ 0 → begun_insts begun es ≡ begun_insts begun []
begun_last begun [] h = refl
begun_last begun (e ∷ es) h = absurd (omega arith)
