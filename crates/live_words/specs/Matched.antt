-- The names of documents among matches, and names in turns as pairs.
use Rattle.std.specs.Prelude.{ℕ, List, ◌++◌, Option, option_map}
use Rattle.command_words.specs.Command.{Names}
use Rattle.live_words.specs.Command.{pairs_of}
use Rattle.live_words.specs.declared.matched.Documents.{Documents}

abbrev pub names_words : Documents → Names
names_words d = record { early = d.early.now; late = d.late.now; netlist = d.netlist.now; sdc = d.sdc.now; spef = d.spef.now }

-- pairs, and behind them the names in turns as pairs
abbrev pub pairs_behind : List (List ℕ × List ℕ) → List (List ℕ) → Option (List (List ℕ × List ℕ))
pairs_behind pairs names = option_map (λ more. pairs ++ more) (pairs_of names)
