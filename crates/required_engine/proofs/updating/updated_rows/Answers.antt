use Rattle.std.proofs.Common.{sym, subst, arith}
use Rattle.netlist_store.specs.Numbering.{Stored, IsNumbered}
use Rattle.required_engine.specs.Updated.{AreFirst, touch_of}
use Rattle.required_engine.proofs.PassLaws.{full_told, near_told}
use Rattle.required_engine.proofs.FirstLaws.{are_first, changed_low}
use Rattle.required_engine.proofs.BackCount.{backward_all}
use Rattle.required_engine.proofs.updating.updated_rows.Goals as goal

pub first_nodes-requires-clause-changed : goal.first_nodes-requires-clause-changed
first_nodes-requires-clause-changed g c =
    changed_low c.args.base.now c.args.graph.now (touch_of c.args.touched.now) c.requires.made (subst (λ (x : Stored). IsNumbered x) c.store.ensures c.laws-4.ensures.numbered)
    (subst (λ (x : Stored). IsNumbered x) (sym c.requires.graph) c.laws.ensures.numbered) c.laws-3.ensures c.laws-2.ensures
    c.args.seeds.now c.args.changed.now c.requires.seeds c.requires.changed

pub renew-requires-clause-first : goal.renew-requires-clause-first
renew-requires-clause-first g c κs within =
    rw c.as_slice-nodes.ensures (are_first c.args.base.now c.args.graph.now (touch_of c.args.touched.now) c.requires.made (subst (λ (x : Stored). IsNumbered x) c.store.ensures c.laws-4.ensures.numbered)
    (subst (λ (x : Stored). IsNumbered x) (sym c.requires.graph) c.laws.ensures.numbered) c.laws-3.ensures c.laws-2.ensures
    c.args.seeds.now c.args.changed.now c.requires.seeds c.requires.changed c.in_ok-first.first c.in_ok-first.ensures)

pub returns-in_err-renew-clause-steps : goal.returns-in_err-renew-clause-steps
returns-in_err-renew-clause-steps g c =
    let firsts : AreFirst c.args.base.now.stored c.args.graph.now.stored (touch_of c.args.touched.now) c.as_slice-nodes.result.now =
    rw c.as_slice-nodes.ensures (are_first c.args.base.now c.args.graph.now (touch_of c.args.touched.now) c.requires.made (subst (λ (x : Stored). IsNumbered x) c.store.ensures c.laws-4.ensures.numbered)
    (subst (λ (x : Stored). IsNumbered x) (sym c.requires.graph) c.laws.ensures.numbered) c.laws-3.ensures c.laws-2.ensures
    c.args.seeds.now c.args.changed.now c.requires.seeds c.requires.changed c.in_ok-first.first c.in_ok-first.ensures) in
    let all = backward_all c.args.base.now c.args.graph.now (touch_of c.args.touched.now) c.requires.made (subst (λ (x : Stored). IsNumbered x) c.store.ensures c.laws-4.ensures.numbered)
    (subst (λ (x : Stored). IsNumbered x) (sym c.requires.graph) c.laws.ensures.numbered) c.laws-3.ensures c.laws-2.ensures
    c.as_slice-nodes.result.now firsts in
    omega (arith, all, c.in_err-renew.ensures.steps)

pub returns-clause-fine : goal.returns-clause-fine
returns-clause-fine g c =
    (full_told c.args.graph.now c.args.store.now c.requires.graph c.laws.ensures.numbered c.laws.ensures.linked c.renew.new.rows c.in_ok-renew.ensures.done).1

pub returns-clause-within : goal.returns-clause-within
returns-clause-within g c =
    near_told c.args.graph.now c.args.store.now c.requires.graph c.laws.ensures.numbered c.laws.ensures.linked c.laws-2.ensures c.renew.new.rows c.in_ok-renew.ensures.done

pub returns-clause-steps : goal.returns-clause-steps
returns-clause-steps g c =
    let firsts : AreFirst c.args.base.now.stored c.args.graph.now.stored (touch_of c.args.touched.now) c.as_slice-nodes.result.now =
    rw c.as_slice-nodes.ensures (are_first c.args.base.now c.args.graph.now (touch_of c.args.touched.now) c.requires.made (subst (λ (x : Stored). IsNumbered x) c.store.ensures c.laws-4.ensures.numbered)
    (subst (λ (x : Stored). IsNumbered x) (sym c.requires.graph) c.laws.ensures.numbered) c.laws-3.ensures c.laws-2.ensures
    c.args.seeds.now c.args.changed.now c.requires.seeds c.requires.changed c.in_ok-first.first c.in_ok-first.ensures) in
    let all = backward_all c.args.base.now c.args.graph.now (touch_of c.args.touched.now) c.requires.made (subst (λ (x : Stored). IsNumbered x) c.store.ensures c.laws-4.ensures.numbered)
    (subst (λ (x : Stored). IsNumbered x) (sym c.requires.graph) c.laws.ensures.numbered) c.laws-3.ensures c.laws-2.ensures
    c.as_slice-nodes.result.now firsts in
    omega (arith, all, c.in_ok-renew.ensures.steps)

pub returns-clause-exact : goal.returns-clause-exact
returns-clause-exact g c =
    let firsts : AreFirst c.args.base.now.stored c.args.graph.now.stored (touch_of c.args.touched.now) c.as_slice-nodes.result.now =
    rw c.as_slice-nodes.ensures (are_first c.args.base.now c.args.graph.now (touch_of c.args.touched.now) c.requires.made (subst (λ (x : Stored). IsNumbered x) c.store.ensures c.laws-4.ensures.numbered)
    (subst (λ (x : Stored). IsNumbered x) (sym c.requires.graph) c.laws.ensures.numbered) c.laws-3.ensures c.laws-2.ensures
    c.args.seeds.now c.args.changed.now c.requires.seeds c.requires.changed c.in_ok-first.first c.in_ok-first.ensures) in
    let all = backward_all c.args.base.now c.args.graph.now (touch_of c.args.touched.now) c.requires.made (subst (λ (x : Stored). IsNumbered x) c.store.ensures c.laws-4.ensures.numbered)
    (subst (λ (x : Stored). IsNumbered x) (sym c.requires.graph) c.laws.ensures.numbered) c.laws-3.ensures c.laws-2.ensures
    c.as_slice-nodes.result.now firsts in
    omega (arith, all, c.in_ok-renew.ensures.exact)
