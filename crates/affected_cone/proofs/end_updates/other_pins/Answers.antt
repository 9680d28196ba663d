use Rattle.std.proofs.Common.{sym, subst}
use Rattle.netlist_store.specs.Applying.{IsEditOf}
use Rattle.affected_cone.proofs.RenewedEnds.{clean_at}
use Rattle.affected_cone.proofs.SearchLaws.{ok_more}
use Rattle.affected_cone.proofs.end_updates.other_pins.Goals as goal

pub gone_pins-requires : goal.gone_pins-requires
gone_pins-requires c = subst (IsEditOf c.args.base.now.stored _) (sym c.requires.search.graph) c.requires.made

pub returns-in-Ok : goal.returns-in-Ok
returns-in-Ok c =
    ok_more c.with_numbers.result
    (λ all put.
    clean_at c.args.base.now c.args.search.now.graph.now c.args.search.now.store.now c.requires.search.graph _ c.requires.made c.requires.numbered c.laws-3.ensures.numbered
    c.laws.ensures c.laws-2.ensures c.args.seeds.now c.args.nodes.now c.in_ok-dirty.dirty.keys c.requires.seeds c.requires.behind c.in_ok-dirty.ensures
    c.in-Ok.gone all c.in-Ok.ensures put)
    c.with_numbers.ensures
