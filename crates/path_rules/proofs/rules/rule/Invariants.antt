use Rattle.std.proofs.Common.{◌≡◌, take}
use Rattle.path_rules.proofs.Later.{rule_by}
use Rattle.path_rules.proofs.rules.rule.Given as goal

abbrev pub invariant-loop-x : goal.invariant-loop-x
invariant-loop-x l = l.found ≡ rule_by l.c l.launch l.capture (take l.x-index l.exceptions)
