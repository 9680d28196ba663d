use Rattle.std.proofs.Common.{List, ℕ, length, sym, subst}
use Rattle.levelizer.specs.declared.links.Link.{Link}
use Rattle.levelizer.specs.Levels.{AreWithin, HasNoCycle}
use Rattle.pin_graph.proofs.LoopLaws.{all_within, no_loop}
use Rattle.pin_graph.proofs.loops.pin_levels.Goals as goal

pub levels-requires : goal.levels-requires
levels-requires c =
    subst (λ (n : ℕ). AreWithin n c.args.links.now) (sym c.pin_bound.ensures.bound)
    (subst (λ (ls : List Link). AreWithin (length c.args.store.now.pins) ls) (sym c.requires.links)
    (all_within c.args.store.now c.laws.ensures.numbered c.laws.ensures.linked))

pub returns-in-Ok-clause-no_loop : goal.returns-in-Ok-clause-no_loop
returns-in-Ok-clause-no_loop c =
    no_loop c.args.store.now c.laws.ensures.numbered c.laws.ensures.linked c.requires.fault
    (subst (λ (ls : List Link). HasNoCycle ls) c.requires.links c.in-Ok.ensures.no_cycle)
