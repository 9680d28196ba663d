use Rattle.std.proofs.Common.{◌≡◌, ◌<◌, ℕ, ℤ, Option, sym, subst, ◌∙◌}
use Rattle.std.specs.Prelude.{IfSome}
use Rattle.sta_units.specs.Numbers.{Within}
use Rattle.timing_defs.specs.declared.kinds.Split.{Split}
use Rattle.timing_defs.specs.Kinds.{data_split}
use Rattle.arc_delays.specs.Delays.{delay_numbered}
use Rattle.path_cones.proofs.Growing.{from_low}
use Rattle.path_cones.proofs.delays.delay_along.Goals as goal

pub along-requires : goal.along-requires
along-requires c =
    subst (λ (n : ℕ). c.args.arc.now.to < n) (sym c.requires.delays.count)
    (from_low c.args.graph.now.stored c.args.arc.now.to c.requires.arc.to c.requires.arc.to_number)

pub returns-clause-delay : goal.returns-clause-delay
returns-clause-delay c =
    subst (λ (split : Split). c.along.result ≡ delay_numbered c.args.graph.now.stored split c.args.arc.now.from c.args.arc.now.to) c.data_split.ensures
    (c.along.ensures ∙ c.requires.delays.each c.data_split.result c.args.arc.now c.requires.arc)

pub returns-clause-within : goal.returns-clause-within
returns-clause-within c =
    subst (λ (o : Option ℤ). IfSome o Within) (sym (returns-clause-delay c))
    (c.requires.delays.within (data_split c.args.kind) c.args.arc.now c.requires.arc)
