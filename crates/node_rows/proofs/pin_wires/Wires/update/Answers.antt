use Rattle.node_rows.proofs.EcoNets.{nets_left}
use Rattle.node_rows.proofs.RenewLaws.{every_fine, every_wire}
use Rattle.node_rows.proofs.pin_wires.Wires.update.Goals as goal

pub renew_nets-requires-clause-before : goal.renew_nets-requires-clause-before
renew_nets-requires-clause-before c =
    nets_left c.args.base.now c.args.store.now c.laws.ensures.numbered c.laws.ensures.linked c.laws-2.ensures.numbered c.laws-2.ensures.linked
    (record { insts = c.args.touched.now.insts; nets = c.args.touched.now.nets }) c.requires.made c.args.self.now c.in_ok-wires.wires c.requires.wires c.requires.fine
    c.in_ok-wires.ensures.loads c.in_ok-wires.ensures.pins c.as_slice.result.now c.as_slice.ensures

pub returns-clause-wires : goal.returns-clause-wires
returns-clause-wires c = every_wire c.args.store.now c.renew_nets.new.wires c.in_ok-renew_nets.ensures.after c.laws-2.ensures.numbered c.laws-2.ensures.linked

pub returns-clause-fine : goal.returns-clause-fine
returns-clause-fine c = every_fine c.args.store.now c.renew_nets.new.wires c.in_ok-renew_nets.ensures.after
