use Rattle.std.proofs.Common.{ℕ, ◌≡◌, ◌∙◌, not, ◌&&◌, sym, subst}
use Rattle.std.specs.Prelude.{nat_eq, IfOk}
use Rattle.std.specs.List.{list_any}
use Rattle.netlist_store.specs.Numbering.{Stored, is_number}
use Rattle.netlist_store.specs.Applying.{IsEditOf}
use Rattle.pin_graph.proofs.seeding.gone_pins.Goals as goal

pub gone-requires : goal.gone-requires
gone-requires c =
    subst (λ (s : Stored). IsEditOf s (record { insts = c.args.touched.now.insts; nets = c.args.touched.now.nets }) c.store-2.result.now) (sym c.store.ensures)
    (subst (λ (s : Stored). IsEditOf c.args.base.now.stored (record { insts = c.args.touched.now.insts; nets = c.args.touched.now.nets }) s) (sym c.store-2.ensures) c.requires)

pub returns : goal.returns
returns c =
    subst (λ (s : Stored). IfOk c.gone.result (λ gone. (pin : ℕ) → list_any (nat_eq pin) gone ≡ (is_number s.pins pin && not (is_number c.args.graph.now.stored.pins pin)))) c.store.ensures
    (subst (λ (s : Stored). IfOk c.gone.result (λ gone. (pin : ℕ) → list_any (nat_eq pin) gone ≡ (is_number c.store.result.now.pins pin && not (is_number s.pins pin)))) c.store-2.ensures
    c.gone.ensures)
