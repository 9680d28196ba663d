use Rattle.std.proofs.Common.{◌≡◌, ◌<◌, ◌||◌, ◌∙◌, ℕ, true, false, ap, sym, subst}
use Rattle.std.specs.Prelude.{nat_eq, All}
use Rattle.std.specs.List.{list_any}
use Rattle.pin_graph.specs.Marks.{flag_of}
use Rattle.pin_graph.specs.Networks.{clock_pins}
use Rattle.pin_graph.specs.Pulls.{network_heads}
use Rattle.pin_graph.specs.PinValues.{is_set}
use Rattle.pin_graph.proofs.RuleLists.{any_same}
use Rattle.pin_graph.proofs.PinRules.{heads_within}
use Rattle.pin_graph.proofs.pin_rules.FeedsRule.value.Goals as goal

pub any_set-requires : goal.any_set-requires
any_set-requires c =
    subst (λ (n : ℕ). All (λ pin. pin < n) c.as_slice.result.now) (sym c.requires.count)
    (heads_within c.args.self.now.store.now c.laws.ensures.numbered c.laws.ensures.linked c.args.at c.as_slice.result.now
    (λ q. ap (list_any (nat_eq q)) c.as_slice.ensures ∙ c.in_ok-heads.ensures q))

pub returns-then-clock : goal.returns-then-clock
returns-then-clock c =
    let told : list_any (nat_eq c.args.at) (clock_pins c.args.self.now.store.now) ≡ true = sym c.in_ok-clock.ensures ∙ c.if-clock.true in
    sym (ap (λ b. flag_of (b || list_any (is_set c.args.values.now) (network_heads c.args.self.now.store.now c.args.at))) told)

pub returns : goal.returns
returns c =
    let told : list_any (nat_eq c.args.at) (clock_pins c.args.self.now.store.now) ≡ false = sym c.in_ok-clock.ensures ∙ c.if-clock.false in
    c.flag_of.ensures
    ∙ ap flag_of (c.any_set.ensures ∙ any_same (is_set c.args.values.now) c.as_slice.result.now (network_heads c.args.self.now.store.now c.args.at)
    (λ q. ap (list_any (nat_eq q)) c.as_slice.ensures ∙ c.in_ok-heads.ensures q))
    ∙ sym (ap (λ b. flag_of (b || list_any (is_set c.args.values.now) (network_heads c.args.self.now.store.now c.args.at))) told)
