use Rattle.std.proofs.Common.{◌≡◌, drop}
use Rattle.path_rules.specs.Ranges.{range_over, range_of}
use Rattle.path_rules.proofs.ranges.range_of.Given as goal

-- the range so far, with what is left, is that of all
abbrev pub invariant-loop-x : goal.invariant-loop-x
invariant-loop-x l = range_over l.kind l.range (drop l.x-index l.exceptions) ≡ range_of l.fn.c l.kind
