-- Up to the first fault all declared nets are known; what is declared from there on is kept as it stands.
use Rattle.std.proofs.Common.{◌∙◌, ap}
use Rattle.verilog_netlist.specs.Faults.{all_declared}
use Rattle.verilog_netlist.proofs.LateLemmas.{kept_from, whole_rest}
use Rattle.verilog_netlist.proofs.declarations.declared_nets.Goals as goal

pub returns-in-Some-clause-nets : goal.returns-in-Some-clause-nets
returns-in-Some-clause-nets c =
    c.in_ok-of.ensures
    ∙ (ap (all_declared c.declare_event.new.known.nets) (whole_rest c.args.events.now c.loop-at.at)
    ∙ (kept_from _ _ c.args.events.now c.loop-at.at _ c.loop-at-test.true c.index-events-at.is c.in_ok-wrong.ensures.kept ∙ c.loop-at.invariant.1))
