use Rattle.std.proofs.Common.{refl, sym, ap, ◌∙◌}
use Rattle.std.specs.Cmp.{signed_Decides}
use Rattle.timing_rules.specs.Paths.{path_named}
use Rattle.timed_paths.proofs.WantedLaws.{not_captured, other_credit, launch_low, judged, need_fine, early_fine, late_fine}
use Rattle.timed_paths.proofs.choosing.is_wanted.Goals as goal

pub returns-then-not-captures : goal.returns-then-not-captures
returns-then-not-captures g c =
    not_captured c.args.sources.now.store.now c.args.sources.now.kind c.args.path.now c.args.course.now c.requires.course c.args.test.now (sym c.captures-2.ensures ∙ c.if-not-captures.true)

pub returns-then-not-has_credit : goal.returns-then-not-has_credit
returns-then-not-has_credit g c =
    other_credit c.args.sources.now.store.now c.args.sources.now.kind c.args.path.now c.args.course.now c.requires.course c.args.test.now c.in_ok-credit.credit.0
    (sym c.captures-2.ensures ∙ c.if-not-captures.false)
    (c.in_ok-credit.ensures.value (path_named c.args.path.now) (c.as_slice-numbers.ensures ∙ c.requires.course.numbers)) (sym c.has_credit.ensures ∙ c.if-not-has_credit.true)

pub required_where-required-requires-clause-launch : goal.required_where-required-requires-clause-launch
required_where-required-requires-clause-launch g c =
    launch_low c.args.sources.now.store.now c.args.sources.now.kind c.args.path.now c.args.course.now c.requires.course c.args.test.now

pub required_where-required-requires-clause-need : goal.required_where-required-requires-clause-need
required_where-required-requires-clause-need g c = need_fine c.args.sources.now.store.now c.args.test.now c.requires.test

pub required_where-required-requires-clause-early : goal.required_where-required-requires-clause-early
required_where-required-requires-clause-early g c = early_fine c.args.sources.now.store.now c.args.test.now c.requires.test

pub required_where-required-requires-clause-late : goal.required_where-required-requires-clause-late
required_where-required-requires-clause-late g c = late_fine c.args.sources.now.store.now c.args.test.now c.requires.test

pub returns : goal.returns
returns g c =
    judged c.args.sources.now.store.now c.args.sources.now.kind c.args.path.now c.args.course.now c.requires.course c.args.test.now c.in_ok-credit.credit.0
    (sym c.captures-2.ensures ∙ c.if-not-captures.false)
    (c.in_ok-credit.ensures.value (path_named c.args.path.now) (c.as_slice-numbers.ensures ∙ c.requires.course.numbers)) (sym c.has_credit.ensures ∙ c.if-not-has_credit.false)
    ((signed_Decides c.in_ok-credit.credit.0 c.args.path.now.credit.0).0 (sym c.has_credit.ensures ∙ c.if-not-has_credit.false))
    c.in_ok-capture.capture c.in_ok-capture.ensures _ c.required_where-required.ensures c.leaves.result c.leaves.ensures
