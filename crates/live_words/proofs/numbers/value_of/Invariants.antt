use Rattle.std.proofs.Common.{◌≡◌, drop}
use Rattle.command_words.specs.Numbers.{number_behind}
use Rattle.live_words.proofs.numbers.value_of.Given as goal

abbrev pub invariant-loop-digit : goal.invariant-loop-digit
invariant-loop-digit l = number_behind l.number (drop l.digit-index l.digits) ≡ number_behind 0 l.digits
