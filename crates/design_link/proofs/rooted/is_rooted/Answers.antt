use Rattle.std.proofs.Common.{◌≡◌, ◌∙◌, Some, sym, subst}
use Rattle.rc_tree.specs.Trees.{IsMeasured}
use Rattle.design_link.specs.Rooted.{is_rooted, rooted_by}
use Rattle.design_link.proofs.RootedLaws.{measured, few_rooted, some_lumped, made_rooted, refused_rooted}
use Rattle.design_link.proofs.Results.{if_ok}
use Rattle.design_link.proofs.rooted.is_rooted.Goals as goal

pub of-requires : goal.of-requires
of-requires c = subst (IsMeasured c.args.rc.now c.args.root.now) (sym c.in_ok-pins.ensures) (measured c.args.rc.now c.args.root.now c.requires)

pub returns-then-len-eq0 : goal.returns-then-len-eq0
returns-then-len-eq0 c = few_rooted c.args.rc.now c.args.root.now (sym c.len.ensures ∙ c.if-len-eq0.true)

pub returns-then-is_walk : goal.returns-then-is_walk
returns-then-is_walk c = sym (c.is_walk.ensures c.if-is_walk.true)

pub returns-in-Ok : goal.returns-in-Ok
returns-in-Ok c = made_rooted c.args.rc.now c.args.root.now c.in_ok-pins.pins (some_lumped c.args.rc.now (λ e. c.if-len-eq0.false (c.len.ensures ∙ e))) c.in-Ok.ensures.fine

pub returns : goal.returns
returns c =
    if_ok c.rooted_by.result (λ x. Some x ≡ rooted_by c.in-Err.fault) (λ x. x ≡ is_rooted c.args.rc.now c.args.root.now)
    (λ x e. refused_rooted c.args.rc.now c.args.root.now c.in_ok-pins.pins (some_lumped c.args.rc.now (λ e. c.if-len-eq0.false (c.len.ensures ∙ e))) c.in-Err.fault x c.in-Err.ensures.fault e) c.rooted_by.ensures
