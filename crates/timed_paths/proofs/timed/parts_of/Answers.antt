use Rattle.std.proofs.Common.{◌<◌, length, sym, subst, ◌∙◌}
use Rattle.timing_defs.specs.declared.constraints.Constraints.{Constraints}
use Rattle.timing_rules.specs.Paths.{path_named}
use Rattle.timed_paths.proofs.PartLaws.{launch_low, moved_as, slack_is, parts_are}
use Rattle.timed_paths.proofs.WantedLaws.{need_fine, early_fine, late_fine}
use Rattle.timed_paths.proofs.timed.parts_of.Goals as goal

pub rule-rule-requires-clause-launch : goal.rule-rule-requires-clause-launch
rule-rule-requires-clause-launch g c =
    subst (λ (k : Constraints). c.args.course.now.launch.clock < length k.clocks) (sym c.constraints.ensures)
    (launch_low c.args.sources.now.store.now c.args.sources.now.kind c.args.path.now c.args.course.now c.requires.course c.args.test.now c.requires.test)

pub moved_between-apart-requires-clause-launch : goal.moved_between-apart-requires-clause-launch
moved_between-apart-requires-clause-launch g c =
    launch_low c.args.sources.now.store.now c.args.sources.now.kind c.args.path.now c.args.course.now c.requires.course c.args.test.now c.requires.test

pub parts_by-requires-clause-need : goal.parts_by-requires-clause-need
parts_by-requires-clause-need g c = need_fine c.args.sources.now.store.now c.args.test.now c.requires.test.known

pub parts_by-requires-clause-early : goal.parts_by-requires-clause-early
parts_by-requires-clause-early g c = early_fine c.args.sources.now.store.now c.args.test.now c.requires.test.known

pub parts_by-requires-clause-late : goal.parts_by-requires-clause-late
parts_by-requires-clause-late g c = late_fine c.args.sources.now.store.now c.args.test.now c.requires.test.known

pub parts_by-requires-clause-slack : goal.parts_by-requires-clause-slack
parts_by-requires-clause-slack g c =
    slack_is c.args.sources.now.store.now c.args.sources.now.kind c.args.path.now c.args.course.now c.requires.course c.args.test.now c.requires.test
    c.moved_between-apart.result.0 c.uncertainty_of-uncertainty.result.0 c.in_ok-credit.credit.0
    (moved_as c.args.sources.now.store.now c.args.sources.now.kind c.args.path.now c.args.course.now c.requires.course c.args.test.now c.requires.test c.moved_between-apart.result.0
    c.in_ok-capture.capture c.in_ok-capture.ensures c.moved_between-apart.ensures.value)
    c.uncertainty_of-uncertainty.ensures.value (c.in_ok-credit.ensures.value (path_named c.args.path.now) (c.as_slice-numbers.ensures ∙ c.requires.course.numbers))

pub returns : goal.returns
returns g c =
    parts_are c.args.sources.now.store.now c.args.sources.now.kind c.args.path.now c.args.course.now c.requires.course c.args.test.now c.requires.test
    c.moved_between-apart.result.0 c.uncertainty_of-uncertainty.result.0 c.in_ok-credit.credit.0
    (moved_as c.args.sources.now.store.now c.args.sources.now.kind c.args.path.now c.args.course.now c.requires.course c.args.test.now c.requires.test c.moved_between-apart.result.0
    c.in_ok-capture.capture c.in_ok-capture.ensures c.moved_between-apart.ensures.value)
    c.uncertainty_of-uncertainty.ensures.value (c.in_ok-credit.ensures.value (path_named c.args.path.now) (c.as_slice-numbers.ensures ∙ c.requires.course.numbers))
    c.parts_by.result c.parts_by.ensures
