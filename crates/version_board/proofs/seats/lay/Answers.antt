use Rattle.std.proofs.Common.{rules, ◌≡◌, [], ◌∷◌, Some, sym, ap, ◌∙◌, arith}
use Rattle.version_board.proofs.Opening.{starts}
use Rattle.version_board.proofs.seats.lay.Goals as goal

pub new-requires : goal.new-requires
new-requires g c = let items : c.push_reserved.new.self.items ≡ Some c.args.value ∷ [] = search rules in let same : c.of.result.value ≡ c.args.value.value = search rules in
    let from : c.args.first ≡ g.T.Stands.from c.of.result.value = sym c.requires.value.1 ∙ ap g.T.Stands.from (sym same) in
    rw items (rw from (starts _ _ _ _ c.args.value (search rules) (let h = c.requires.room.1 in omega (arith, from, h)) c.requires.value.0 (ap g.T.Stands.from (sym same)) (ap g.T.Stands.origin (sym same))))
