use Rattle.std.proofs.Common.{◌≡◌, ◌<◌, ◌||◌, ◌∙◌, ℕ, true, false, ap, sym, subst}
use Rattle.std.specs.Prelude.{nat_eq, All}
use Rattle.std.specs.List.{list_any}
use Rattle.pin_graph.specs.Marks.{flag_of}
use Rattle.pin_graph.specs.Networks.{clock_ports}
use Rattle.pin_graph.specs.Pulls.{network_tails}
use Rattle.pin_graph.specs.PinValues.{is_set}
use Rattle.pin_graph.proofs.PinRules.{tails_within}
use Rattle.pin_graph.proofs.pin_rules.FedRule.value.Goals as goal

pub any_set-requires : goal.any_set-requires
any_set-requires c =
    subst (λ (n : ℕ). All (λ pin. pin < n) c.as_slice.result.now) (sym c.requires.count)
    (tails_within c.args.self.now.store.now c.laws.ensures.numbered c.laws.ensures.linked c.args.at c.as_slice.result.now (c.as_slice.ensures ∙ c.in_ok-tails.ensures))

pub returns-then-is_among : goal.returns-then-is_among
returns-then-is_among c =
    let told : list_any (nat_eq c.args.at) (clock_ports c.args.self.now.store.now) ≡ true =
    sym (c.is_among.ensures ∙ ap (list_any (nat_eq c.args.at)) c.requires.ready.1) ∙ c.if-is_among.true in
    sym (ap (λ b. flag_of (b || list_any (is_set c.args.values.now) (network_tails c.args.self.now.store.now c.args.at))) told)

pub returns : goal.returns
returns c =
    let told : list_any (nat_eq c.args.at) (clock_ports c.args.self.now.store.now) ≡ false =
    sym (c.is_among.ensures ∙ ap (list_any (nat_eq c.args.at)) c.requires.ready.1) ∙ c.if-is_among.false in
    c.flag_of.ensures
    ∙ ap flag_of (c.any_set.ensures ∙ ap (list_any (is_set c.args.values.now)) (c.as_slice.ensures ∙ c.in_ok-tails.ensures))
    ∙ sym (ap (λ b. flag_of (b || list_any (is_set c.args.values.now) (network_tails c.args.self.now.store.now c.args.at))) told)
