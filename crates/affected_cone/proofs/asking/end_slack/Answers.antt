use Rattle.std.proofs.Common.{◌≡◌, ℕ, None, Some, refl, sym, ap, subst, ◌∙◌}
use Rattle.timing_rules.specs.Reports.{fs_value}
use Rattle.timing_defs.proofs.Members.{some_is}
use Rattle.affected_cone.specs.declared.ends.EndSlacks.{EndSlacks}
use Rattle.affected_cone.specs.Analysed.{ends_of, slack_in, IsEnd}
use Rattle.affected_cone.proofs.EndNumbers.{end_listed}
use Rattle.affected_cone.proofs.EndOrder.{ends_rise}
use Rattle.affected_cone.proofs.MapLaws.{found_at}
use Rattle.affected_cone.proofs.asking.end_slack.Goals as goal

pub find_end-requires : goal.find_end-requires
find_end-requires c = ends_rise c.args.known.now.store.now c.args.known.now.ends.now c.args.known.now.ends.now refl c.requires.analysis.ends

pub unreachable-requires : goal.unreachable-requires
unreachable-requires c =
    let found =
    found_at (IsEnd c.args.known.now.store.now) (λ (e : EndSlacks). e.pin) (λ (n : ℕ) (e : EndSlacks) (is : IsEnd c.args.known.now.store.now n e). is.number)
    (ends_of c.args.known.now.store.now) c.args.known.now.ends.now c.requires.analysis.ends c.in_ok-number.number
    (end_listed c.args.known.now.store.now c.laws.ensures.numbered c.laws.ensures.linked c.in_ok-number.number c.in_ok-number.ensures.end.end) in
    let bad : None ≡ Some found.0 = sym c.in-None.is ∙ c.find_end.ensures ∙ found.1 in
    absurd (cc)

pub returns-clause-told : goal.returns-clause-told
returns-clause-told c =
    let found =
    found_at (IsEnd c.args.known.now.store.now) (λ (e : EndSlacks). e.pin) (λ (n : ℕ) (e : EndSlacks) (is : IsEnd c.args.known.now.store.now n e). is.number)
    (ends_of c.args.known.now.store.now) c.args.known.now.ends.now c.requires.analysis.ends c.in_ok-number.number
    (end_listed c.args.known.now.store.now c.laws.ensures.numbered c.laws.ensures.linked c.in_ok-number.number c.in_ok-number.ensures.end.end) in
    let same : found.0 ≡ c.in-Some.end = some_is (sym found.1 ∙ sym c.find_end.ensures ∙ c.in-Some.is) in
    let is : IsEnd c.args.known.now.store.now c.in_ok-number.number c.in-Some.end =
    subst (λ (e : EndSlacks). IsEnd c.args.known.now.store.now c.in_ok-number.number e) same found.2 in (
      c.in_ok-number.ensures.end.free,
      (
        slack_in c.args.kind c.in-Some.end,
        is.slack c.args.kind c.args.pin.now c.in_ok-number.ensures.end.told,
        c.value_report.ensures ∙ ap fs_value c.slack_in.ensures,
      ),
    )
