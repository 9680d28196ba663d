use Rattle.std.proofs.Common.{◌≡◌, drop}
use Rattle.sta_units.specs.Decimal.{number_on}
use Rattle.verilog_netlist.proofs.lexicon.digits_value.Given as goal

abbrev pub invariant-loop-digit : goal.invariant-loop-digit
invariant-loop-digit l = number_on l.number (drop l.digit-index l.digits) ≡ number_on 0 l.digits
