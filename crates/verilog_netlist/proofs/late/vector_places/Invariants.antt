use Rattle.std.proofs.Common.{◌≡◌, ℕ, List, None, drop}
use Rattle.sta_text.specs.Names.{said}
use Rattle.verilog_netlist.specs.Late.{vector_place, AreSmall}
use Rattle.verilog_netlist.proofs.late.vector_places.Given as goal

abbrev pub invariant-loop-place : goal.invariant-loop-place
invariant-loop-place l =
    ((vector : List ℕ) → vector_place l.place (said l.places vector) (drop l.place l.events) vector ≡ vector_place 0 None l.events vector)
    × (AreSmall (drop l.place l.events) → AreSmall l.events)
