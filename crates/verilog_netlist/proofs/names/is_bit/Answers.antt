-- The number that the net's name gives decides.
use Rattle.std.proofs.Common.{◌≡◌, Bool, IfOk, sym, subst, arith}
use Rattle.verilog_netlist.proofs.BitLemmas.{stands_picked}
use Rattle.verilog_netlist.proofs.names.is_bit.Goals as goal

pub returns : goal.returns
returns c =
    subst (λ (b : Bool). IfOk c.is_picked.result (λ (found : Bool). found ≡ b))
    (sym (stands_picked c.args.span c.args.name.now c.args.net.now c.number_in.result (omega arith) (omega arith) c.number_in.ensures))
    c.is_picked.ensures
