use Rattle.std.proofs.Common.{subst}
use Rattle.timing_rules.specs.Summaries.{IsSummary}
use Rattle.netlist_store.specs.Numbering.{Stored}
use Rattle.level_workers.specs.Mapped.{IsMap}
use Rattle.affected_cone.specs.Analysed.{ends_of}
use Rattle.clock_summaries.specs.Captures.{IsCapturedAt}
use Rattle.clock_summaries.proofs.SummaryLaws.{summary_told}
use Rattle.clock_summaries.proofs.summing.clock_totals.Goals as goal

pub returns : goal.returns
returns c =
    subst (λ (s : Stored). IsSummary s.design c.args.kind c.in_ok-summary.summary) c.requires
    (summary_told c.args.store.now c.laws.ensures.numbered c.laws.ensures.linked c.args.kind c.in_ok-captured.captured c.as_slice.result.now c.in_ok-summary.summary
    (subst (λ (s : Stored). IsMap (IsCapturedAt s c.args.kind) (ends_of s) c.in_ok-captured.captured) c.search-search.ensures.store c.in_ok-captured.ensures) c.as_slice.ensures
    c.in_ok-summary.ensures)
