use Rattle.verilog_netlist.proofs.BracketLemmas.{bracket_told}
use Rattle.verilog_netlist.proofs.late.last_bracket.Goals as goal

pub returns : goal.returns
returns c = bracket_told c.args.net.now c.loop-place.last c.loop-place.place c.loop-place-test.false c.loop-place.invariant
