use Rattle.std.proofs.Common.{◌≡◌, drop, None}
use Rattle.netlist_store.proofs.WordLaws.{colon_from}
use Rattle.netlist_store.proofs.words.last_colon.Given as goal

abbrev pub invariant-loop-place : goal.invariant-loop-place
invariant-loop-place l = colon_from l.place l.last (drop l.place l.word) ≡ colon_from 0 None l.word
