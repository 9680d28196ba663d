use Rattle.std.proofs.Common.{◌≡◌, ◌+◌, ap, ◌∙◌}
use Rattle.node_rows.specs.NetTrees.{AreUpTo}
use Rattle.node_rows.specs.FoundNets.{with_wires}
use Rattle.node_rows.proofs.FoundLaws.{found_more}
use Rattle.node_rows.proofs.ResultLaws.{ok_more}
use Rattle.node_rows.proofs.found_nets.put_found.Goals as goal

pub returns : goal.returns
returns c =
    ok_more c.put_wires.result (λ _. c.put_wires.new.table ≡ with_wires c.args.wires.now.pins c.as_slice.result.now)
    (λ _. AreUpTo c.args.store.now (record { loads = c.push.new.self; pins = c.put_wires.new.table }) (c.args.net + 1))
    (λ _ e. found_more c.args.store.now c.args.net c.args.found.now c.requires.found c.args.wires.now (record { loads = c.push.new.self; pins = c.put_wires.new.table }) c.requires.before c.in_ok-push.ensures.ok
    (e ∙ ap (with_wires c.args.wires.now.pins) c.as_slice.ensures)) c.put_wires.ensures
