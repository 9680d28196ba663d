use Rattle.std.proofs.Common.{None, map, refl, ap, ◌∙◌}
use Rattle.timing_rules.specs.Reports.{fs_value, least_slack}
use Rattle.affected_cone.specs.Analysed.{slack_in}
use Rattle.affected_cone.proofs.TotalLaws.{least_told}
use Rattle.affected_cone.proofs.asking.least_slack.Goals as goal

pub returns : goal.returns
returns c = (
  refl,
  (
    least_slack None (map (slack_in c.args.kind) c.args.known.now.ends.now),
    least_told c.args.known.now.store.now c.laws.ensures.numbered c.laws.ensures.linked c.args.kind c.args.known.now.ends.now c.requires.analysis.ends,
    c.value_report.ensures ∙ ap fs_value c.worst_slack_of.ensures,
  ),
)
