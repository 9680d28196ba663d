use Rattle.std.proofs.Common.{◌∙◌, rules, FitsSigned, w64}
use Rattle.std.proofs.lemmas.Int.{to_z-of_z}
use Rattle.node_rows.proofs.PortLaws.{slew_told}
use Rattle.node_rows.proofs.ports.Ports.slew.Goals as goal

pub returns : goal.returns
returns c =
    λ k are.
    let fit : FitsSigned w64 c.time_or_zero.result = search rules in
    simp to_z-of_z (c.time_or_zero.ensures ∙ slew_told k c.args.self.now are c.args.split c.args.tran c.args.port.now c.get.result c.get.ensures)
