use Rattle.std.proofs.Common.{◌∙◌, rules, FitsSigned, w64}
use Rattle.std.proofs.lemmas.Int.{to_z-of_z}
use Rattle.timing_defs.specs.declared.kinds.Tran.TheVariants.{Rise}
use Rattle.node_rows.proofs.PortLaws.{load_told}
use Rattle.node_rows.proofs.ports.Ports.load.Goals as goal

pub returns : goal.returns
returns c =
    λ k are.
    let fit : FitsSigned w64 c.cap_or_zero.result = search rules in
    simp to_z-of_z (c.cap_or_zero.ensures ∙ load_told k c.args.self.now are c.args.split Rise c.args.port.now c.get.result c.get.ensures)
