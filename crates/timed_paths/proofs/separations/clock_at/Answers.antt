use Rattle.std.proofs.Common.{ap, ◌∙◌}
use Rattle.timing_defs.specs.declared.constraints.Constraints.{Constraints}
use Rattle.path_search.proofs.SlackBounds.{clock_read}
use Rattle.timed_paths.proofs.separations.clock_at.Goals as goal

pub returns-clause-clock : goal.returns-clause-clock
returns-clause-clock c =
    (clock_read c.args.store.now.design c.laws.ensures.linked c.as_slice.result.now (c.as_slice.ensures ∙ ap (λ (k : Constraints). k.clocks) c.constraints.ensures) c.args.clock
    c.requires c.index-as_slice-clock.result c.index-as_slice-clock.is).clock_is

pub returns-clause-setup : goal.returns-clause-setup
returns-clause-setup c =
    (clock_read c.args.store.now.design c.laws.ensures.linked c.as_slice.result.now (c.as_slice.ensures ∙ ap (λ (k : Constraints). k.clocks) c.constraints.ensures) c.args.clock
    c.requires c.index-as_slice-clock.result c.index-as_slice-clock.is).setup

pub returns-clause-hold : goal.returns-clause-hold
returns-clause-hold c =
    (clock_read c.args.store.now.design c.laws.ensures.linked c.as_slice.result.now (c.as_slice.ensures ∙ ap (λ (k : Constraints). k.clocks) c.constraints.ensures) c.args.clock
    c.requires c.index-as_slice-clock.result c.index-as_slice-clock.is).hold
