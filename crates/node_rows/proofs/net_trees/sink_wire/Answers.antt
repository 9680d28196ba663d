use Rattle.std.proofs.Common.{sym, ◌∙◌}
use Rattle.std.proofs.lemmas.Bool.{false≢true}
use Rattle.node_rows.proofs.TreePins.{sink_told}
use Rattle.node_rows.proofs.net_trees.sink_wire.Goals as goal

pub returns-in-Some : goal.returns-in-Some
returns-in-Some c =
    λ net root caps is.
    sink_told net root caps c.args.tree.now is c.args.pin.now c.in-Some.node c.in-Some.ensures.0 c.in-Some.ensures.1 (record { delay = c.delay.result; impulse = c.impulse.result })
    c.delay.ensures c.impulse.ensures

pub returns-in-None : goal.returns-in-None
returns-in-None c = λ net root caps is. absurd (false≢true (sym c.in-None.ensures ∙ c.requires))
