use Rattle.std.proofs.Common.{◌≡◌, length, map, zip}
use Rattle.std.specs.String.{string_bytes}
use Rattle.std.specs.Vec.{vec_items}
use Rattle.sta_outside.specs.Shelf.{held}
use Rattle.sta_outside.proofs.mem_shelf.find.Given as goal

-- the documents that are left answer as all of them do
abbrev pub invariant-loop-names : goal.invariant-loop-names
invariant-loop-names l =
    held (zip (map string_bytes l.names) (map vec_items l.docs)) l.wanted
    ≡ held (zip (map string_bytes l.fn.names) (map vec_items l.fn.docs)) l.wanted

abbrev pub decreases-loop-names : goal.decreases-loop-names
decreases-loop-names l = length l.names
