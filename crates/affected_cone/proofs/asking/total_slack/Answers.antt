use Rattle.std.proofs.Common.{pos, map, refl, ap, ◌∙◌}
use Rattle.timing_rules.specs.Reports.{fs_value}
use Rattle.affected_cone.specs.Analysed.{slack_in}
use Rattle.affected_cone.specs.Floors.{floored}
use Rattle.affected_cone.proofs.TotalLaws.{total_told}
use Rattle.affected_cone.proofs.asking.total_slack.Goals as goal

pub returns : goal.returns
returns c = (
  refl,
  (
    floored (pos 0) (map (slack_in c.args.kind) c.args.known.now.ends.now),
    total_told c.args.known.now.store.now c.laws.ensures.numbered c.laws.ensures.linked c.args.kind c.args.known.now.ends.now c.requires.analysis.ends,
    c.value_report.ensures ∙ ap fs_value c.total_of.ensures,
  ),
)
