use Rattle.std.proofs.Common.{◌≡◌, ap, subst, ◌∙◌, not}
use Rattle.timing_defs.specs.Edits.{without_rc}
use Rattle.netlist_store.specs.Numbering.{Stored, number_of}
use Rattle.netlist_store.specs.Drafts.{with_rcs}
use Rattle.netlist_store.specs.Stores.{at}
use Rattle.netlist_store.proofs.RcEdits.{rc_absent, rc_gone_design, rc_gone_tables, no_row}
use Rattle.netlist_store.proofs.stores.Store.without_rc.Goals as goal

pub invariant_of-result : goal.invariant_of-result
invariant_of-result c =
    rc_gone_tables c.self.inside.frame c.self.inside.names c.self.inside.rows c.self.inside.orders c.self.invariant c.args.name.now c.args.net
    (ap (λ (s : Stored). number_of s.nets c.args.name.now) c.self.view_is ∙ c.requires)
    c.set_row.new.rows c.in-Ok.ensures c.in-Ok-without_rc.orders c.in-Ok-without_rc.ensures

pub returns-in-Ok-without_rc : goal.returns-in-Ok-without_rc
returns-in-Ok-without_rc c =
    rc_gone_design c.self.inside.frame c.self.inside.names c.self.inside.rows c.self.inside.orders c.self.invariant c.args.name.now c.args.net
    (ap (λ (s : Stored). number_of s.nets c.args.name.now) c.self.view_is ∙ c.requires)
    c.set_row.new.rows c.in-Ok.ensures c.in-Ok-without_rc.orders c.in-Ok-without_rc.ensures
    ∙ ap (λ (s : Stored). with_rcs s (without_rc c.args.name.now s.design.rcs)) c.self.view_is

pub returns-then-is_none : goal.returns-then-is_none
returns-then-is_none c =
    subst (λ (s : Stored). s ≡ with_rcs s (without_rc c.args.name.now s.design.rcs)) c.self.view_is
    (rc_absent c.self.inside.frame c.self.inside.names c.self.inside.rows c.self.inside.orders c.self.invariant c.args.name.now c.args.net
    (ap (λ (s : Stored). number_of s.nets c.args.name.now) c.self.view_is ∙ c.requires)
    (no_row c.row_at.result (at c.self.inside.rows.rcs c.args.net) c.row_at.ensures (c.is_none.ensures ∙ ap not c.if-is_none.true)))
