-- A sort keeps which numbers stand in a stretch.
use Rattle.std.proofs.Common.{sym}
use Rattle.std.proofs.lemmas.List.Sorted.{list_any-IsPermutation}
use Rattle.verilog_netlist.specs.Late.{holds}
use Rattle.verilog_netlist.proofs.covers.Cover.of.Goals as goal

pub returns : goal.returns
returns c = λ k. sym (list_any-IsPermutation (holds k) c.args.stretches.items c.in_ok-stretches.stretches.items c.in_ok-stretches.ensures.same)
