use Rattle.std.proofs.Common.{◌≡◌, ◌||◌, ℕ, List, drop}
use Rattle.std.specs.List.{list_any}
use Rattle.sta_text.specs.Names.{stands}
use Rattle.verilog_netlist.specs.Late.{declares_alone}
use Rattle.verilog_netlist.proofs.late.alone.Given as goal

abbrev pub invariant-loop-event : goal.invariant-loop-event
invariant-loop-event l =
    (net : List ℕ) → (stands l.names net || list_any (declares_alone net) (drop l.event-index l.events)) ≡ list_any (declares_alone net) l.events
