use Rattle.std.proofs.Common.{◌≡◌, List, map, ap, ◌∙◌}
use Rattle.timing_defs.specs.declared.closing.PathStage.{PathStage}
use Rattle.timing_rules.specs.Stages.{stages, capture_stages}
use Rattle.path_search.proofs.Forms.{ok_then}
use Rattle.timed_paths.specs.TestNumbers.{test_of, node_numbered}
use Rattle.timed_paths.proofs.CaptureLaws.{capture_are, test_walked}
use Rattle.timed_paths.proofs.captures.capture_stages.Goals as goal

pub walk_to-requires-clause-clock : goal.walk_to-requires-clause-clock
walk_to-requires-clause-clock g c = test_walked c.args.sources.now.store.now c.args.test.now c.requires.test

pub returns : goal.returns
returns g c =
    ok_then c.stages_of.result
    (λ (made : List PathStage). made ≡ stages c.args.sources.now.store.now.design c.clock_split-split.result c.as_slice-2.result.now)
    (λ (made : List PathStage). made ≡ capture_stages c.args.sources.now.store.now.design c.args.sources.now.kind (test_of c.args.sources.now.store.now c.args.test.now))
    c.stages_of.ensures
    (λ made e. e ∙ capture_are c.args.sources.now.store.now c.args.sources.now.kind c.args.test.now c.clock_split-split.result c.clock_split-split.ensures c.in_ok-numbers.numbers
    c.in_ok-numbers.ensures.walk c.as_slice-2.result.now
    (c.as_slice-2.ensures ∙ c.in_ok-nodes.ensures
    ∙ ap (map (node_numbered c.args.sources.now.store.now c.clock_split-split.result (c.args.test.now.capture_clock, c.args.test.now.capture_tran))) c.as_slice.ensures))
