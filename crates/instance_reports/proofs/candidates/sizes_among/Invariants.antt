use Rattle.std.proofs.Common.{◌≡◌, ◌++◌, map, filter, drop}
use Rattle.timing_rules.specs.SizeAdvice.{is_candidate}
use Rattle.instance_reports.specs.Resizes.{candidate_by}
use Rattle.instance_reports.proofs.candidates.sizes_among.Given as goal

abbrev pub invariant-loop-cell : goal.invariant-loop-cell
invariant-loop-cell l =
    l.made ++ map (λ cell. candidate_by l.inst.name cell.name) (filter (is_candidate l.store.design l.inst) (drop l.cell-index l.cells))
    ≡ map (λ cell. candidate_by l.inst.name cell.name) (filter (is_candidate l.store.design l.inst) l.cells)
