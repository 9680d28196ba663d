use Rattle.std.proofs.Common.{◌≡◌, ◌≤◌, drop, length}
use Rattle.through_paths.specs.Passing.{pass_all}
use Rattle.through_paths.proofs.begun.pass_all.Given as goal

abbrev pub invariant-loop-number : goal.invariant-loop-number
invariant-loop-number l =
    (pass_all l.nodes l.wanted l.passed (drop l.number-index l.numbers) ≡ pass_all l.nodes l.wanted 0 l.numbers) × (l.passed ≤ length l.wanted)
