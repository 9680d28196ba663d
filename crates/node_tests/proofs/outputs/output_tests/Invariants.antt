use Rattle.std.proofs.Common.{◌≡◌, take, map, filter}
use Rattle.timing_defs.specs.Kinds.{data_split}
use Rattle.node_tests.specs.Outputs.{is_delay_of, delay_test}
use Rattle.node_tests.proofs.outputs.output_tests.Given as goal

abbrev pub invariant-loop-delay : goal.invariant-loop-delay
invariant-loop-delay l = l.tests ≡ map (delay_test l.kind) (filter (is_delay_of l.port (data_split l.kind) l.tran) (take l.delay-index l.delays))
