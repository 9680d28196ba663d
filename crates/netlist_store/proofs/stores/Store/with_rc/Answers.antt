use Rattle.std.proofs.Common.{ap, refl, sym, ◌∙◌}
use Rattle.std.specs.Prelude.{is_some}
use Rattle.netlist_store.specs.Numbering.{Stored, number_of}
use Rattle.timing_defs.specs.Edits.{with_rc}
use Rattle.netlist_store.specs.Drafts.{with_rcs}
use Rattle.netlist_store.proofs.RcEdits.{rc_put_design, rc_put_tables, some_copied}
use Rattle.netlist_store.proofs.stores.Store.with_rc.Goals as goal

pub with_rc_place-requires : goal.with_rc_place-requires
with_rc_place-requires c =
    c.self.invariant.rcs_ordered c.args.net
    ∙ sym (c.is_some-known.ensures ∙ some_copied c.row_at.result ∙ ap is_some c.row_at.ensures)

pub invariant_of-result : goal.invariant_of-result
invariant_of-result c =
    rc_put_tables c.self.inside.frame c.self.inside.names c.self.inside.rows c.self.inside.orders c.self.invariant c.args.rc.net c.args.net (ap (λ (s : Stored). number_of s.nets c.args.rc.net) c.self.view_is ∙ c.requires.number)
    c.args.rc refl c.requires.amounts c.put_rc.new.rows c.in-Ok.ensures c.is_some-known.result
    (c.is_some-known.ensures ∙ some_copied c.row_at.result ∙ ap is_some c.row_at.ensures) c.in-Ok-with_rc_place.orders c.in-Ok-with_rc_place.ensures

pub returns-in-Ok-with_rc_place : goal.returns-in-Ok-with_rc_place
returns-in-Ok-with_rc_place c =
    rc_put_design c.self.inside.frame c.self.inside.names c.self.inside.rows c.self.inside.orders c.self.invariant c.args.rc.net c.args.net (ap (λ (s : Stored). number_of s.nets c.args.rc.net) c.self.view_is ∙ c.requires.number)
    c.args.rc refl c.requires.amounts c.put_rc.new.rows c.in-Ok.ensures c.is_some-known.result
    (c.is_some-known.ensures ∙ some_copied c.row_at.result ∙ ap is_some c.row_at.ensures) c.in-Ok-with_rc_place.orders c.in-Ok-with_rc_place.ensures
    ∙ ap (λ (s : Stored). with_rcs s (with_rc c.args.rc s.design.rcs)) c.self.view_is
