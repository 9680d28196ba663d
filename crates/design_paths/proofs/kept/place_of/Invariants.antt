use Rattle.std.proofs.Common.{◌≡◌, ◌++◌, take, drop}
use Rattle.design_paths.specs.Kept.{put}
use Rattle.design_paths.proofs.kept.place_of.Given as goal

abbrev pub invariant-loop-place : goal.invariant-loop-place
invariant-loop-place l = take l.place l.paths ++ put l.path (drop l.place l.paths) ≡ put l.path l.paths
