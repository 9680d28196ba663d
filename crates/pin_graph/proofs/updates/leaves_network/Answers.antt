use Rattle.std.proofs.Common.{ℕ, List, subst}
use Rattle.std.specs.Prelude.{All}
use Rattle.pin_graph.specs.Renewed.{IsOff}
use Rattle.pin_graph.proofs.AfterLaws.{off_all}
use Rattle.pin_graph.proofs.updates.leaves_network.Goals as goal

pub returns : goal.returns
returns c =
    λ yes.
    off_all c.args.tables.now.network c.args.pins.now c.args.dirty.now (c.are_off.ensures c.if-not-are_off.false)
    (subst (λ (xs : List ℕ). All (IsOff c.args.tables.now.network c.args.pins.now) xs) c.as_slice.ensures (c.are_off-2.ensures c.if-not-are_off-2.false))
    (subst (λ (xs : List ℕ). All (IsOff c.args.tables.now.network c.args.pins.now) xs) c.as_slice-2.ensures (c.are_off-3.ensures yes))
