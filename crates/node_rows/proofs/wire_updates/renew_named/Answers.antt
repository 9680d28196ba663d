use Rattle.std.proofs.Common.{ℕ, List, ◌∷◌, sym, ◌∙◌}
use Rattle.node_rows.specs.RenewedNets.{IsRenewed, HaveNetsBut}
use Rattle.node_rows.proofs.ResultLaws.{ok_more}
use Rattle.node_rows.proofs.RenewLaws.{told_number, renewed_one, gone_one}
use Rattle.node_rows.proofs.wire_updates.renew_named.Goals as goal

pub renew_net-requires-clause-net : goal.renew_net-requires-clause-net
renew_net-requires-clause-net c = told_number c.args.store.now.nets c.args.name.now c.in-Some.net (sym c.net.ensures ∙ c.in-Some.is)

pub returns-in-Some-clause-renewed : goal.returns-in-Some-clause-renewed
returns-in-Some-clause-renewed c =
    ok_more c.renew_net.result (λ _. IsRenewed c.args.store.now c.in-Some.net c.args.wires.now c.renew_net.new.wires)
    (λ _. (rest : List (List ℕ)) → HaveNetsBut c.args.store.now (c.args.name.now ∷ rest) c.args.wires.now → HaveNetsBut c.args.store.now rest c.renew_net.new.wires)
    (λ _ r rest had. renewed_one c.args.store.now c.laws.ensures.numbered c.args.name.now rest c.in-Some.net (sym c.net.ensures ∙ c.in-Some.is)
    c.args.wires.now c.renew_net.new.wires r had) c.renew_net.ensures.renewed

pub returns-in-None-clause-renewed : goal.returns-in-None-clause-renewed
returns-in-None-clause-renewed c =
    λ rest had. gone_one c.args.store.now c.laws.ensures.numbered c.args.name.now rest (sym c.net.ensures ∙ c.in-None.is) c.args.wires.now had
