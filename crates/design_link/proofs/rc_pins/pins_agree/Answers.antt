use Rattle.std.proofs.Common.{◌≡◌, ◌∙◌, ℕ, List, Some, filter, sym}
use Rattle.std.specs.List.{list_all}
use Rattle.timing_defs.specs.Netlist.{pins, is_on}
use Rattle.timing_defs.specs.NetChecks.{has_resistor, pins_agree}
use Rattle.netlist_store.specs.Numbering.{name_at}
use Rattle.design_link.proofs.NetNodeLaws.{rc_net}
use Rattle.design_link.proofs.RcPinLaws.{not_agree, lumped_agree, ends_agree}
use Rattle.design_link.proofs.Results.{if_ok}
use Rattle.design_link.proofs.rc_pins.pins_agree.Goals as goal

pub returns-then-not-are_named_on : goal.returns-then-not-are_named_on
returns-then-not-are_named_on c =
    not_agree c.args.store.now.design c.args.rc.now
    (sym (c.are_named_on.ensures c.args.rc.now.net (rc_net c.args.store.now c.args.net c.args.rc.now c.requires.rc).here) ∙ c.if-not-are_named_on.true)

pub returns-then-len-eq0 : goal.returns-then-len-eq0
returns-then-len-eq0 c =
    lumped_agree c.args.store.now.design c.args.rc.now
    (sym (c.are_named_on.ensures c.args.rc.now.net (rc_net c.args.store.now c.args.net c.args.rc.now c.requires.rc).here) ∙ c.if-not-are_named_on.false) (sym c.len.ensures ∙ c.if-len-eq0.true)

pub returns : goal.returns
returns c =
    if_ok c.are_pins_at_ends.result
    (λ x. (word : List ℕ) → name_at c.args.store.now.nets c.args.net ≡ Some word → x ≡ list_all (has_resistor c.args.rc.now) (filter (is_on word) (pins c.args.store.now.design)))
    (λ x. x ≡ pins_agree c.args.store.now.design c.args.rc.now)
    (λ x f. f c.args.rc.now.net (rc_net c.args.store.now c.args.net c.args.rc.now c.requires.rc).here
    ∙ ends_agree c.args.store.now.design c.args.rc.now
    (sym (c.are_named_on.ensures c.args.rc.now.net (rc_net c.args.store.now c.args.net c.args.rc.now c.requires.rc).here) ∙ c.if-not-are_named_on.false)
    (λ e. c.if-len-eq0.false (c.len.ensures ∙ e))) c.are_pins_at_ends.ensures
