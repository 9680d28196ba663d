use Rattle.std.proofs.Common.{sym, subst}
use Rattle.timing_defs.specs.declared.kinds.Split.{Split}
use Rattle.netlist_store.specs.Numbering.{Stored, IsNumbered}
use Rattle.eco_laws.proofs.EditOf.{framed_of}
use Rattle.carried_times.specs.KeptPins.{IsKeptPin}
use Rattle.affected_cone.proofs.BoundLaws.{kept_with, told_some, pin_low}
use Rattle.affected_cone.proofs.SearchLaws.{ok_more}
use Rattle.affected_cone.proofs.bounds.keeps.Goals as goal

pub keeps_tests-requires-clause-low : goal.keeps_tests-requires-clause-low
keeps_tests-requires-clause-low c =
    pin_low c.args.weighed.now.search.now.store.now c.args.pin c.pin_bound.result c.pin_bound.ensures.bound c.pin_bound.ensures.below c.requires.there

pub returns-then-keeps_tests : goal.returns-then-keeps_tests
returns-then-keeps_tests c =
    let num = subst (λ (s : Stored). IsNumbered s) c.store.ensures c.laws-3.ensures.numbered in
    ok_more c.has_rooms.result
    (λ is h yes.
    kept_with c.args.weighed.now.base.now.graph.now c.args.weighed.now.search.now.graph.now c.args.weighed.now.search.now.store.now c.requires.weighed.search.graph c.requires.weighed.touch
    c.requires.weighed.made num c.laws-4.ensures.numbered c.laws.ensures c.laws-2.ensures c.requires.weighed.seeds c.requires.weighed.nodes c.requires.weighed.has c.requires.weighed.behind
    c.in-Some.carried (told_some _ c.args.weighed.now.carried c.in-Some.carried c.in-Some.is c.requires.weighed.carried) c.args.kind c.args.pin
    (subst (λ (t : Split). IsKeptPin c.args.weighed.now.base.now.graph.now.stored c.args.weighed.now.search.now.graph.now c.in-Some.carried.seeds.keys c.in-Some.carried.nodes.keys t c.args.pin)
    c.data_split.ensures (c.keeps_tests.ensures c.if-keeps_tests.true))
    c.args.slack.0 (h yes))
    c.has_rooms.ensures

pub keeps_tests-requires-clause-alone : goal.keeps_tests-requires-clause-alone
keeps_tests-requires-clause-alone c = λ yes. told_some _ c.args.weighed.now.carried c.in-Some.carried c.in-Some.is (c.requires.alone yes)

pub has_rooms-requires-clause-same : goal.has_rooms-requires-clause-same
has_rooms-requires-clause-same c =
    sym (framed_of c.args.weighed.now.base.now.graph.now.stored c.requires.weighed.touch c.args.weighed.now.search.now.store.now c.requires.weighed.made).constraints

pub has_rooms-requires-clause-low : goal.has_rooms-requires-clause-low
has_rooms-requires-clause-low c =
    pin_low c.args.weighed.now.search.now.store.now c.args.pin c.pin_bound.result c.pin_bound.ensures.bound c.pin_bound.ensures.below c.requires.there
