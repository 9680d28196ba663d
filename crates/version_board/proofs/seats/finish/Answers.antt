use Rattle.std.proofs.Common.{rules, ◌≡◌, Some, sym, ◌∙◌, subst}
use mathlib.Core.Option.{some-injective}
use Rattle.version_board.specs.Closed.{Closes}
use Rattle.version_board.specs.History.{shared}
use Rattle.version_board.proofs.Closing.{ends}
use Rattle.version_board.proofs.seats.finish.Goals as goal

pub unwrap-value-requires : goal.unwrap-value-requires
unwrap-value-requires g c = let e = ends _ _ _ _ _ _ _ _ c.requires.whole.0 c.requires.whole.1 c.requires.whole.2 c.close_with-closed.ensures.values.2 in
    let is : c.take.result ≡ Some e.0 = some-injective c.take.result (Some e.0) (sym c.take.ensures.value ∙ e.1) in search rules

pub returns : goal.returns
returns g c = let e = ends _ _ _ _ _ _ _ _ c.requires.whole.0 c.requires.whole.1 c.requires.whole.2 c.close_with-closed.ensures.values.2 in
    let is : c.take.result ≡ Some e.0 = some-injective c.take.result (Some e.0) (sym c.take.ensures.value ∙ e.1) in
    let same : Some e.0 ≡ Some c.unwrap-value.result = sym is ∙ c.unwrap-value.ensures in let it : e.0 ≡ c.unwrap-value.result = cc in
    subst (Closes (shared g.T.Stands.entries g.T.Stands.from g.T.Stands.origin g.T.Stands.by) (g.T.Stands.from c.args.table.shared.key.0.value) (g.T.Stands.origin c.args.table.shared.key.0.value) c.args.whole.me.0) it e.2
