use Rattle.std.proofs.Common.{subst, arith}
use Rattle.std.proofs.lemmas.Option.{IfSome_then}
use Rattle.std.proofs.lemmas.Result.{IfOk-weaker}
use Rattle.netlist_store.specs.Numbering.{Stored, IsNumbered}
use Rattle.carried_times.proofs.Orderings.{below_all}
use Rattle.carried_times.proofs.WalkTimes.{walk_joined}
use Rattle.carried_times.proofs.walking.carried_times.Goals as goal

pub new-old-requires : goal.new-old-requires
new-old-requires g c =
    let a = c.requires.rows_before.count in let b = c.requires.delays_before.count in let e = c.count.ensures in
    (omega (arith, a, e), omega (arith, b, e))

pub new-new-requires : goal.new-new-requires
new-new-requires g c =
    let a = c.requires.rows.count in let b = c.requires.delays.count in let e = c.count-2.ensures in
    (omega (arith, a, e), omega (arith, b, e))

pub walked-times-requires : goal.walked-times-requires
walked-times-requires g c = below_all c.args.graph.now c.args.seeds.now c.args.nodes.now c.in_ok-nodes.nodes.keys c.requires.behind c.in_ok-nodes.ensures

pub returns : goal.returns
returns g c =
    let num = subst (λ (s : Stored). IsNumbered s) c.store.ensures c.laws-3.ensures.numbered in
    let num2 = subst (λ (s : Stored). IsNumbered s) c.store-2.ensures c.laws-4.ensures.numbered in
    IfOk-weaker c.with_times.result _ _
    (λ found h. IfSome_then found h
    (λ made is.
    walk_joined c.args.base.now c.args.graph.now _ c.requires.made num num2 c.laws-2.ensures c.args.seeds.now c.args.nodes.now c.requires.seeds c.requires.behind
    _ _ _ _ c.requires.rows_before c.requires.rows c.requires.delays_before c.requires.delays c.new-old.result c.new-new.result c.count.result c.count-2.result
    c.new-old.ensures c.count.ensures c.new-new.ensures c.count-2.ensures c.in_ok-seeds.seeds.keys c.in_ok-nodes.nodes.keys c.in_ok-seeds.ensures c.in_ok-nodes.ensures
    c.walked-times.result c.walked-times.ensures made is))
    c.with_times.ensures
