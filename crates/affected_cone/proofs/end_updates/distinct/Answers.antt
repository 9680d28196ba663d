use Rattle.std.proofs.Common.{◌∙◌, List, ℕ, sym, ap, subst}
use Rattle.std.specs.Prelude.{nat_eq}
use Rattle.std.specs.List.{list_any}
use Rattle.std.specs.List.Sorted.{IsStrictlyIncreasing}
use Rattle.pin_graph.proofs.SeedLaws.{distinct_rising, distinct_same}
use Rattle.affected_cone.proofs.end_updates.distinct.Goals as goal

pub returns : goal.returns
returns c = record {
  rising =
      subst (λ (xs : List ℕ). IsStrictlyIncreasing xs) (sym c.from_vec.ensures)
      (distinct_rising c.sort_unstable.new.self.items c.dedup.new.self.items c.sort_unstable.ensures.sorted c.dedup.ensures.filtered);
  same = λ n.
      ap (list_any (nat_eq n)) c.from_vec.ensures
      ∙ distinct_same c.into_vec-numbers.result.items c.sort_unstable.new.self.items c.dedup.new.self.items c.sort_unstable.ensures.permutation c.dedup.ensures.filtered n
      ∙ ap (list_any (nat_eq n)) c.into_vec-numbers.ensures;
}
