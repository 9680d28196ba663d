use Rattle.std.proofs.Common.{◌∙◌, ap, length, subst, sym}
use Rattle.std.specs.List.{list_all}
use Rattle.timing_defs.specs.declared.parasitics.RcCap.{RcCap}
use Rattle.design_link.specs.Walks.{is_met, IsWalkTo}
use Rattle.design_link.proofs.WalkLaws.{walk_rooted}
use Rattle.design_link.proofs.walks.is_walk.Goals as goal

pub returns : goal.returns
returns c = λ told.
    walk_rooted c.args.rc.now c.args.root.now
    (subst (λ rs. IsWalkTo c.args.root.now rs (length rs)) c.as_slice-ress.ensures (c.are_walked.ensures c.if-not-are_walked.false))
    (sym (ap (λ rs. list_all (λ (x : RcCap). is_met c.args.root.now rs x.node) c.args.rc.now.caps) c.as_slice-ress.ensures)
    ∙ sym (ap (list_all (λ (x : RcCap). is_met c.args.root.now c.as_slice-ress.result.now x.node)) c.as_slice.ensures)
    ∙ sym c.are_caps_met.ensures ∙ told)
