use Rattle.std.proofs.Common.{◌∙◌}
use Rattle.node_rows.proofs.PortLaws.{start_told}
use Rattle.node_rows.proofs.ports.Ports.input_delay.Goals as goal

pub returns : goal.returns
returns c = λ k are fit. c.delay_from.ensures ∙ start_told k c.args.self.now are c.args.split c.args.tran c.args.port.now c.args.clock c.get.result fit c.get.ensures
