use Rattle.std.proofs.Common.{List, sym, subst, ◌∙◌}
use Rattle.std.specs.Prelude.{IsPermutation}
use Rattle.std.proofs.lemmas.List.Sorted.{ranks_by}
use Rattle.itertools.specs.Extremes.{IsKLeast, by_cmp}
use Rattle.affected_cone.proofs.RankLaws.{first_least}
use Rattle.affected_cone.proofs.ranking.first_sorted.Goals as goal

pub returns : goal.returns
returns g c =
    subst (λ (v : List g.row.T.Denot). IsKLeast (by_cmp g.T.Ord.cmp) c.args.count c.args.items.now v) (sym (c.into_iter.ensures.rest ∙ c.truncate.ensures.items))
    (first_least (by_cmp g.T.Ord.cmp) (ranks_by g.met.T.Ord.total (λ (x : g.row.T.Denot). x)) c.sort.new.self.items c.in_ok-sort.ensures.sorted c.args.count c.args.items.now
    (subst (λ (v : List g.row.T.Denot). IsPermutation v c.sort.new.self.items) c.in_ok-sorted.ensures.items c.in_ok-sort.ensures.permutation))
