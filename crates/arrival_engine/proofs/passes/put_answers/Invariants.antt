use Rattle.std.proofs.Common.{◌≡◌, ◌+◌, drop, length}
use Rattle.std.specs.Vec.Iter.{into_iter_items, into_iter_len}
use Rattle.level_workers.specs.Mapped.{IsMap}
use Rattle.arrival_engine.specs.Analysed.{IsLevelAnswer}
use Rattle.arrival_engine.proofs.PassLaws.{AreDoneBut}
use Rattle.arrival_engine.proofs.passes.put_answers.Given as goal

abbrev pub invariant-loop-counted : goal.invariant-loop-counted
invariant-loop-counted g l =
    (l.at + length (into_iter_items l.counted-iterator) ≡ length l.nodes)
    × IsMap (IsLevelAnswer l.graph l.level) (drop l.at l.nodes) (into_iter_items l.counted-iterator)
    × AreDoneBut l.graph l.level (drop l.at l.nodes) l.rows l.delays
    × (into_iter_len l.counted-iterator ≡ length (into_iter_items l.counted-iterator))
