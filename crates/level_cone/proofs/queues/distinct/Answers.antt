use Rattle.std.proofs.Common.{List, ℕ, sym, subst}
use Rattle.level_cone.specs.Waiting.{IsRisingOf}
use Rattle.level_cone.proofs.WaitingLaws.{rising_of}
use Rattle.level_cone.proofs.queues.distinct.Goals as goal

pub returns : goal.returns
returns c =
    subst (λ (xs : List ℕ). IsRisingOf xs c.from_vec.result) c.into_vec-nodes.ensures
    (subst (λ (xs : List ℕ). IsRisingOf c.into_vec-nodes.result.items xs) (sym c.from_vec.ensures)
    (rising_of c.into_vec-nodes.result.items c.sort_unstable.new.self.items c.dedup.new.self.items c.sort_unstable.ensures.permutation c.sort_unstable.ensures.sorted c.dedup.ensures.filtered))
