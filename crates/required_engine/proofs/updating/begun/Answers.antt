use Rattle.std.proofs.Common.{ap, subst, ◌∙◌}
use Rattle.netlist_store.specs.Linked.{IsLinked}
use Rattle.netlist_store.specs.Numbering.{Stored, IsNumbered}
use Rattle.required_engine.specs.Worked.{sized_rows}
use Rattle.required_engine.proofs.BackCount.{begun_rows}
use Rattle.required_engine.proofs.updating.begun.Goals as goal

pub returns-clause-rows : goal.returns-clause-rows
returns-clause-rows c =
    begun_rows c.args.base.now.stored c.args.graph.now.stored
    (subst (λ (x : Stored). IsNumbered x) c.store.ensures c.laws.ensures.numbered) (subst (λ (x : Stored). IsLinked x.design) c.store.ensures c.laws.ensures.linked)
    (subst (λ (x : Stored). IsNumbered x) c.store-2.ensures c.laws-2.ensures.numbered) (subst (λ (x : Stored). IsLinked x.design) c.store-2.ensures c.laws-2.ensures.linked)
    c.args.before.now c.requires.was c.in_ok-rows.rows c.clear_pins.new.rows c.in_ok-gone.gone
    (c.in_ok-rows.ensures ∙ ap (sized_rows c.args.before.now) c.count.ensures) c.in_ok-gone.ensures
    (rw c.as_slice.ensures at c.in_ok-clear_pins.ensures.rows)
