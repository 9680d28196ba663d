use Rattle.std.proofs.Common.{ℕ, List, sym, subst, ◌∙◌}
use Rattle.std.specs.Prelude.{option_map}
use Rattle.timing_rules.specs.Paths.{IsSlack}
use Rattle.timing_defs.proofs.Members.{some_is}
use Rattle.affected_cone.proofs.BoundLaws.{told_some}
use Rattle.affected_cone.proofs.EndNumbers.{end_named}
use Rattle.affected_cone.proofs.RenewedEnds.{end_known}
use Rattle.affected_cone.proofs.SearchLaws.{ok_more}
use Rattle.affected_cone.proofs.bounds.slack_after.Goals as goal

pub kept_slack-requires-clause-there : goal.kept_slack-requires-clause-there
kept_slack-requires-clause-there c = end_known c.args.weighed.now.search.now.store.now c.args.pin c.requires.pin

pub worst_slack-requires-clause-endpoint : goal.worst_slack-requires-clause-endpoint
worst_slack-requires-clause-endpoint c =
    end_named c.args.weighed.now.search.now.store.now c.laws.ensures.numbered c.laws.ensures.linked c.args.pin c.pin_name-name.result.now c.requires.pin c.pin_name-name.ensures

pub returns : goal.returns
returns c =
    ok_more c.worst_slack.result
    (λ slack h word name.
    subst (λ (w : List ℕ). IsSlack c.args.weighed.now.search.now.store.now.design c.args.kind w (option_map (λ s. s.0) slack)) (some_is (sym c.pin_name-name.ensures ∙ name)) h)
    c.worst_slack.ensures

pub returns-in-Some : goal.returns-in-Some
returns-in-Some c = told_some _ c.in_ok-slack.field-0 c.in-Some.slack c.in-Some.is c.in_ok-slack.ensures
