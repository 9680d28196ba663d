use Rattle.std.proofs.Common.{◌≡◌, drop}
use Rattle.std.specs.Prelude.{option_map}
use Rattle.std.specs.List.{last_or}
use Rattle.liberty_cells.specs.Statements.{told, last}
use Rattle.liberty_cells.proofs.arcs.last_tree.Given as goal

abbrev pub invariant-loop-next : goal.invariant-loop-next
invariant-loop-next l =
    last_or (option_map (λ t. t.now) l.tree) (told (drop l.next-index l.found)) ≡ last (told l.found)
