use Rattle.std.proofs.Common.{◌≡◌, ◌++◌, take, drop}
use Rattle.size_advice.specs.Keeping.{found_first, put_by}
use Rattle.size_advice.proofs.kept.place_of.Given as goal

abbrev pub invariant-loop-place : goal.invariant-loop-place
invariant-loop-place l =
    take l.place l.kept ++ put_by (found_first l.target.kind l.target.aim) l.found (drop l.place l.kept)
    ≡ put_by (found_first l.target.kind l.target.aim) l.found l.kept
