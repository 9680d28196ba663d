use Rattle.std.proofs.Common.{rules}
use Rattle.version_board.proofs.Steps.{mark, leaves}
use Rattle.version_board.proofs.turns.add.Goals as goal

pub fetch_add-requires : goal.fetch_add-requires
fetch_add-requires g c = let e = c.requires.next in
    (search rules, search rules, mark _ _ _ _ _ _ _ c.args.next e.0 (search rules) (search rules) (search rules) (search rules) (search rules) (search rules) (search rules))

pub fetch_add-requires-2 : goal.fetch_add-requires-2
fetch_add-requires-2 g c = let e = c.requires.next in let did = c.fetch_add.ensures.2 c.args.next e.0 (search rules) (search rules) in
    (search rules, search rules, leaves _ _ _ _ _ _ _ c.args.next (search rules) (search rules) (search rules) (search rules) (search rules))
