use Rattle.std.proofs.Common.{◌+◌, ◌≤◌, length, sym, subst, arith}
use Rattle.netlist_store.specs.Numbering.{Stored, IsNumbered}
use Rattle.pin_graph.specs.RowTables.{AreRowsFine}
use Rattle.required_engine.specs.Updated.{touch_of}
use Rattle.required_engine.proofs.BackPass.{first_low, pass_begins, turn_done, turn_level, turn_within, turn_more, turn_smaller, pass_ends, steps_within, steps_are}
use Rattle.required_engine.proofs.renewing.renew.Goals as goal

pub wait_all-requires : goal.wait_all-requires
wait_all-requires g c =
    first_low c.args.base.now c.args.graph.now (touch_of c.args.touched.now) c.requires.made (subst (λ (x : Stored). IsNumbered x) (sym c.requires.graph) c.laws.ensures.numbered)
    c.laws-3.ensures c.laws-2.ensures c.args.before.now c.requires.was (subst (λ (x : Stored). AreRowsFine x.design) (sym c.requires.graph) c.requires.found.fine) c.args.first.now c.requires.first

pub loop-queue-init : goal.loop-queue-init
loop-queue-init g c =
    pass_begins c.args.base.now c.args.graph.now (touch_of c.args.touched.now) c.requires.made (subst (λ (x : Stored). IsNumbered x) (sym c.requires.graph) c.laws.ensures.numbered)
    c.laws-3.ensures c.laws-2.ensures c.args.before.now c.requires.was (subst (λ (x : Stored). AreRowsFine x.design) (sym c.requires.graph) c.requires.found.fine) c.args.first.now c.requires.first
    c.args.rows.now c.new-queue.result c.wait_all.new.queue c.args.steps.now c.requires.count c.requires.rows c.new-queue.ensures c.in_ok-wait_all.ensures

pub returns-in_err-taken-clause-steps : goal.returns-in_err-taken-clause-steps
returns-in_err-taken-clause-steps g c =
    steps_within c.args.base.now c.args.graph.now (touch_of c.args.touched.now) c.requires.made (subst (λ (x : Stored). IsNumbered x) (sym c.requires.graph) c.laws.ensures.numbered)
    c.laws-3.ensures c.laws-2.ensures c.args.before.now c.requires.was (subst (λ (x : Stored). AreRowsFine x.design) (sym c.requires.graph) c.requires.found.fine) c.args.first.now c.requires.first
    c.loop-queue.rows c.loop-queue.queue c.args.steps.now c.loop-queue.steps c.loop-queue.invariant

pub renew_level-requires-clause-nodes : goal.renew_level-requires-clause-nodes
renew_level-requires-clause-nodes g c κs within =
    let turn = rw c.in-Some.is at c.in_ok-taken.ensures.some in
    rw (c.as_slice-nodes.ensures, c.from_top-level.ensures) (turn_level c.args.base.now c.args.graph.now (touch_of c.args.touched.now) c.requires.made (subst (λ (x : Stored). IsNumbered x) (sym c.requires.graph) c.laws.ensures.numbered)
    c.laws-3.ensures c.laws-2.ensures c.args.before.now c.requires.was (subst (λ (x : Stored). AreRowsFine x.design) (sym c.requires.graph) c.requires.found.fine) c.args.first.now c.requires.first
    c.loop-queue.rows c.loop-queue.queue c.take_level.new.self c.args.steps.now c.loop-queue.steps c.in-Some.taken.level c.in-Some.taken.nodes c.loop-queue.invariant turn)

pub renew_level-requires-clause-done : goal.renew_level-requires-clause-done
renew_level-requires-clause-done g c κs within =
    let turn = rw c.in-Some.is at c.in_ok-taken.ensures.some in
    rw c.from_top-level.ensures (turn_done c.args.base.now c.args.graph.now (touch_of c.args.touched.now) c.requires.made (subst (λ (x : Stored). IsNumbered x) (sym c.requires.graph) c.laws.ensures.numbered)
    c.laws-3.ensures c.laws-2.ensures c.args.before.now c.requires.was (subst (λ (x : Stored). AreRowsFine x.design) (sym c.requires.graph) c.requires.found.fine) c.args.first.now c.requires.first
    c.loop-queue.rows c.loop-queue.queue c.take_level.new.self c.args.steps.now c.loop-queue.steps c.in-Some.taken.level c.in-Some.taken.nodes c.loop-queue.invariant turn)

pub returns-in_err-renew_level-clause-steps : goal.returns-in_err-renew_level-clause-steps
returns-in_err-renew_level-clause-steps g c =
    let turn = rw c.in-Some.is at c.in_ok-taken.ensures.some in
    let few = turn_within c.args.base.now c.args.graph.now (touch_of c.args.touched.now) c.requires.made (subst (λ (x : Stored). IsNumbered x) (sym c.requires.graph) c.laws.ensures.numbered)
    c.laws-3.ensures c.laws-2.ensures c.args.before.now c.requires.was (subst (λ (x : Stored). AreRowsFine x.design) (sym c.requires.graph) c.requires.found.fine) c.args.first.now c.requires.first
    c.loop-queue.rows c.loop-queue.queue c.take_level.new.self c.args.steps.now c.loop-queue.steps c.in-Some.taken.level c.in-Some.taken.nodes c.loop-queue.invariant turn in
    let start = c.loop-queue.invariant.told in
    let told : c.renew_level.new.steps ≤ c.loop-queue.steps + length c.in-Some.taken.nodes = rw c.as_slice-nodes.ensures at c.in_err-renew_level.ensures.few in
    omega (arith, few, start, told)

pub loop-queue-smaller : goal.loop-queue-smaller
loop-queue-smaller g c =
    let turn = rw c.in-Some.is at c.in_ok-taken.ensures.some in
    turn_smaller c.args.base.now c.args.graph.now (touch_of c.args.touched.now) c.requires.made (subst (λ (x : Stored). IsNumbered x) (sym c.requires.graph) c.laws.ensures.numbered)
    c.laws-3.ensures c.laws-2.ensures c.args.before.now c.requires.was (subst (λ (x : Stored). AreRowsFine x.design) (sym c.requires.graph) c.requires.found.fine) c.args.first.now c.requires.first
    c.loop-queue.rows c.loop-queue.queue c.take_level.new.self c.args.steps.now c.loop-queue.steps c.in-Some.taken.level c.in-Some.taken.nodes c.loop-queue.invariant turn
    c.renew_level.new.rows c.renew_level.new.queue c.renew_level.new.steps (rw c.as_slice-nodes.ensures at c.in_ok-renew_level.ensures.rows) (rw c.as_slice-nodes.ensures at c.in_ok-renew_level.ensures.marks)
    (rw c.as_slice-nodes.ensures at c.in_ok-renew_level.ensures.steps) (rw c.as_slice-nodes.ensures at c.in_ok-renew_level.ensures.fine)

pub loop-queue-preserved : goal.loop-queue-preserved
loop-queue-preserved g c =
    let turn = rw c.in-Some.is at c.in_ok-taken.ensures.some in
    turn_more c.args.base.now c.args.graph.now (touch_of c.args.touched.now) c.requires.made (subst (λ (x : Stored). IsNumbered x) (sym c.requires.graph) c.laws.ensures.numbered)
    c.laws-3.ensures c.laws-2.ensures c.args.before.now c.requires.was (subst (λ (x : Stored). AreRowsFine x.design) (sym c.requires.graph) c.requires.found.fine) c.args.first.now c.requires.first
    c.loop-queue.rows c.loop-queue.queue c.take_level.new.self c.args.steps.now c.loop-queue.steps c.in-Some.taken.level c.in-Some.taken.nodes c.loop-queue.invariant turn
    c.renew_level.new.rows c.renew_level.new.queue c.renew_level.new.steps (rw c.as_slice-nodes.ensures at c.in_ok-renew_level.ensures.rows) (rw c.as_slice-nodes.ensures at c.in_ok-renew_level.ensures.marks)
    (rw c.as_slice-nodes.ensures at c.in_ok-renew_level.ensures.steps) (rw c.as_slice-nodes.ensures at c.in_ok-renew_level.ensures.fine)

pub returns-clause-done : goal.returns-clause-done
returns-clause-done g c =
    pass_ends c.args.base.now c.args.graph.now (touch_of c.args.touched.now) c.requires.made (subst (λ (x : Stored). IsNumbered x) (sym c.requires.graph) c.laws.ensures.numbered)
    c.laws-3.ensures c.laws-2.ensures c.args.before.now c.requires.was (subst (λ (x : Stored). AreRowsFine x.design) (sym c.requires.graph) c.requires.found.fine) c.args.first.now c.requires.first
    c.loop-queue.rows c.loop-queue.queue c.args.steps.now c.loop-queue.steps c.loop-queue.invariant (rw c.in_default.is at c.in_ok-taken.ensures.none)

pub returns-clause-steps : goal.returns-clause-steps
returns-clause-steps g c =
    steps_within c.args.base.now c.args.graph.now (touch_of c.args.touched.now) c.requires.made (subst (λ (x : Stored). IsNumbered x) (sym c.requires.graph) c.laws.ensures.numbered)
    c.laws-3.ensures c.laws-2.ensures c.args.before.now c.requires.was (subst (λ (x : Stored). AreRowsFine x.design) (sym c.requires.graph) c.requires.found.fine) c.args.first.now c.requires.first
    c.loop-queue.rows c.loop-queue.queue c.args.steps.now c.loop-queue.steps c.loop-queue.invariant

pub returns-in_err-taken-clause-least : goal.returns-in_err-taken-clause-least
returns-in_err-taken-clause-least g c = omega (arith, c.loop-queue.invariant.told)

pub returns-in_err-renew_level-clause-least : goal.returns-in_err-renew_level-clause-least
returns-in_err-renew_level-clause-least g c = omega (arith, c.loop-queue.invariant.told, c.in_err-renew_level.ensures.least)

pub returns-clause-least : goal.returns-clause-least
returns-clause-least g c = omega (arith, c.loop-queue.invariant.told)

pub returns-clause-exact : goal.returns-clause-exact
returns-clause-exact g c =
    steps_are c.args.base.now c.args.graph.now (touch_of c.args.touched.now) c.requires.made (subst (λ (x : Stored). IsNumbered x) (sym c.requires.graph) c.laws.ensures.numbered)
    c.laws-3.ensures c.laws-2.ensures c.args.before.now c.requires.was (subst (λ (x : Stored). AreRowsFine x.design) (sym c.requires.graph) c.requires.found.fine) c.args.first.now c.requires.first
    c.loop-queue.rows c.loop-queue.queue c.args.steps.now c.loop-queue.steps c.loop-queue.invariant (rw c.in_default.is at c.in_ok-taken.ensures.none)
