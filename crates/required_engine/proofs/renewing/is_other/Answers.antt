use Rattle.std.proofs.Common.{not, ap, sym, ◌∙◌, arith}
use Rattle.std.proofs.lemmas.List.{get_or_past}
use Rattle.std.proofs.lemmas.Option.{get_or_from_slice_get}
use Rattle.timing_rules.specs.Required.{empty_back}
use Rattle.timing_rules.specs.Cones.{same_back}
use Rattle.required_engine.specs.Updated.{back_at}
use Rattle.required_engine.proofs.renewing.is_other.Goals as goal

pub returns : goal.returns
returns c =
    let past = sym (get_or_past c.args.before.now c.args.node empty_back (omega (arith, c.if-node-len.false, c.len.ensures))) in
    let here = sym (get_or_from_slice_get c.args.rows.now c.args.node c.get-2.result.now empty_back c.get-2.ensures) in
    ap not (c.same_back-2.ensures ∙ ap (λ r. same_back r c.get-2.result.now) (c.empty_back.ensures ∙ past) ∙ ap (same_back (back_at c.args.before.now c.args.node)) here)
