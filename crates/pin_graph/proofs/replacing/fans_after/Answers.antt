use Rattle.std.proofs.Common.{◌≡◌, ◌*◌, refl}
use Rattle.std.proofs.lemmas.Result.{IfOk-at_ok}
use Rattle.pin_graph.specs.HeldFans.{longer}
use Rattle.pin_graph.proofs.NodesAfter.{both_longer}
use Rattle.pin_graph.proofs.replacing.fans_after.Goals as goal

pub relink-requires-clause-both : goal.relink-requires-clause-both
relink-requires-clause-both c =
    both_longer c.args.tables.now.ins c.args.tables.now.outs c.args.tables.now.ins c.args.tables.now.outs c.in_ok-ins.field-0.one c.in_ok-ins.field-0.other _ _
    c.requires.both c.requires.longer refl refl
    (IfOk-at_ok (λ copy. copy ≡ longer c.args.tables.now.ins (2 * c.pin_bound-n.result)) c.in_ok-ins.ensures.one c.longer.ensures)
    (IfOk-at_ok (λ copy. copy ≡ longer c.args.tables.now.outs (2 * c.pin_bound-n.result)) c.in_ok-ins.ensures.other c.longer-2.ensures) c.pin_bound-n.ensures.bound
