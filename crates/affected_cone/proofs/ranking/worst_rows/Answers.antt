use Rattle.std.proofs.Common.{◌≡◌, List, map, sym, subst}
use Rattle.std.specs.Vec.Iter.{into_iter_items}
use Rattle.itertools.specs.Extremes.{IsKLeast}
use Rattle.timing_defs.specs.declared.reports.EndRow.{EndRow}
use Rattle.timing_rules.specs.Reports.{goes_before}
use Rattle.affected_cone.specs.Ranks.{end_row}
use Rattle.affected_cone.proofs.RankLaws.{ok_more, least_mapped}
use Rattle.affected_cone.proofs.ranking.worst_rows.Goals as goal

pub returns : goal.returns
returns c =
    ok_more c.end_rows.result (λ (rows : List EndRow). rows ≡ map end_row (into_iter_items c.in_ok-worst.worst)) (IsKLeast goes_before c.args.count (map end_row c.args.ends.now))
    (λ rows e. subst (λ (xs : List EndRow). IsKLeast goes_before c.args.count (map end_row c.args.ends.now) xs) (sym e)
    (least_mapped end_row goes_before c.args.count c.args.ends.now (into_iter_items c.in_ok-worst.worst) c.in_ok-worst.ensures))
    c.end_rows.ensures
