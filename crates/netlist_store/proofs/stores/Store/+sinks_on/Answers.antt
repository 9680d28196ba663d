use Rattle.std.proofs.Common.{ap, ◌∙◌}
use Rattle.timing_defs.specs.Edits.{moved_sinks}
use Rattle.netlist_store.specs.Numbering.{Stored}
use Rattle.netlist_store.specs.Drafts.{with_insts}
use Rattle.netlist_store.proofs.BufferSteps.{one_sink, cut_parts, ok_as}
use Rattle.netlist_store.proofs.stores.Store.+sinks_on.Goals as goal

pub returns-in-len1 : goal.returns-in-len1
returns-in-len1 t c =
    ok_as c.with_pin_on.result _ (with_insts c.args.self (moved_sinks c.args.net.now c.args.sinks.now c.args.self.design.insts))
    (ap (with_insts c.args.self) (one_sink c.args.net.now c.args.sinks.now c.sink-item.result c.args.self.design.insts c.in-len1.len_at_least c.in-len1.len_below c.sink-item.is))
    c.with_pin_on.ensures

pub returns-in_ok-half-in_default : goal.returns-in_ok-half-in_default
returns-in_ok-half-in_default t c =
    let net = c.args.net.now in
    let store = c.args.self in
    let front = c.split_at.result.0.now in
    let back = c.split_at.result.1.now in
    let half = c.in_ok-half-in_default.ensures in
    ok_as c.with_sinks_on-in_default.result _ (with_insts store (moved_sinks net c.args.sinks.now store.design.insts))
    (
    ap (λ (s : Stored). with_insts s (moved_sinks net back s.design.insts)) half
    ∙ ap (with_insts store) (cut_parts net c.args.sinks.now front back _ store.design.insts c.split_at.ensures.front c.split_at.ensures.back)
    )
    c.with_sinks_on-in_default.ensures
