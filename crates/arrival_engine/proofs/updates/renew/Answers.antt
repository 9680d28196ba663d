use Rattle.std.proofs.Common.{◌+◌, length, refl, ap, ◌∙◌, arith}
use Rattle.arrival_engine.proofs.RenewLaws.{done_below, nodes_told}
use Rattle.arrival_engine.proofs.UpdateEnds.{edit_there, begins, goes_on, goes_few, goes_down, ends}
use Rattle.arrival_engine.proofs.updates.renew.Goals as goal

pub loop-waiting-init : goal.loop-waiting-init
loop-waiting-init g c = (
  0,
  omega arith,
  omega arith,
  λ edit.
      begins c.args.base.now c.args.graph.now (record { insts = c.args.touched.now.insts; nets = c.args.touched.now.nets }) edit c.args.seeds.now c.args.tables.now.rows c.args.tables.now.delays c.new-waiting.result c.wait_all.new.waiting
      c.requires.seeds c.requires.begun c.new-waiting.ensures c.in_ok-wait_all.ensures,
)

pub renew_level-requires-clause-nodes : goal.renew_level-requires-clause-nodes
renew_level-requires-clause-nodes g c κs within = λ k d low.
    let edit = (edit_there c.args.base.now c.args.graph.now (record { insts = c.args.touched.now.insts; nets = c.args.touched.now.nets }) c.store.result.now c.args.setting.now.store.now c.store.ensures c.requires.plan.same
    c.requires.made c.laws-2.ensures.numbered c.laws.ensures.numbered c.laws-3.ensures c.laws-4.ensures c.args.was.now c.requires.was) in
    let turn = rw c.in-Some.is at c.in_ok-turn.ensures.some in
    let renewed = c.loop-waiting.invariant.3 edit in
    let told = nodes_told c.args.base.now c.args.graph.now (record { insts = c.args.touched.now.insts; nets = c.args.touched.now.nets }) edit c.loop-waiting.tables.rows c.loop-waiting.tables.delays c.loop-waiting.waiting c.take_level.new.self c.loop-waiting.invariant.0 c.in-Some.turn.level c.in-Some.turn.nodes renewed turn k d low in
    (told.0, told.1)

pub renew_level-requires-clause-done : goal.renew_level-requires-clause-done
renew_level-requires-clause-done g c κs within =
    let edit = (edit_there c.args.base.now c.args.graph.now (record { insts = c.args.touched.now.insts; nets = c.args.touched.now.nets }) c.store.result.now c.args.setting.now.store.now c.store.ensures c.requires.plan.same
    c.requires.made c.laws-2.ensures.numbered c.laws.ensures.numbered c.laws-3.ensures c.laws-4.ensures c.args.was.now c.requires.was) in
    let turn = rw c.in-Some.is at c.in_ok-turn.ensures.some in
    let renewed = c.loop-waiting.invariant.3 edit in
    done_below c.args.base.now c.args.graph.now (record { insts = c.args.touched.now.insts; nets = c.args.touched.now.nets }) edit c.loop-waiting.tables.rows c.loop-waiting.tables.delays c.loop-waiting.waiting c.take_level.new.self c.loop-waiting.invariant.0 c.in-Some.turn.level c.in-Some.turn.nodes renewed turn

pub renew_level-requires-clause-delays : goal.renew_level-requires-clause-delays
renew_level-requires-clause-delays g c κs within =
    let edit = (edit_there c.args.base.now c.args.graph.now (record { insts = c.args.touched.now.insts; nets = c.args.touched.now.nets }) c.store.result.now c.args.setting.now.store.now c.store.ensures c.requires.plan.same
    c.requires.made c.laws-2.ensures.numbered c.laws.ensures.numbered c.laws-3.ensures c.laws-4.ensures c.args.was.now c.requires.was) in
    (c.loop-waiting.invariant.3 edit).1.delay_count

pub returns-in_err-renew_level-clause-few : goal.returns-in_err-renew_level-clause-few
returns-in_err-renew_level-clause-few g c =
    let edit = (edit_there c.args.base.now c.args.graph.now (record { insts = c.args.touched.now.insts; nets = c.args.touched.now.nets }) c.store.result.now c.args.setting.now.store.now c.store.ensures c.requires.plan.same
    c.requires.made c.laws-2.ensures.numbered c.laws.ensures.numbered c.laws-3.ensures c.laws-4.ensures c.args.was.now c.requires.was) in
    let turn = rw c.in-Some.is at c.in_ok-turn.ensures.some in
    let renewed = c.loop-waiting.invariant.3 edit in
    let few = goes_few c.args.base.now c.args.graph.now (record { insts = c.args.touched.now.insts; nets = c.args.touched.now.nets }) edit c.loop-waiting.tables.rows c.loop-waiting.tables.delays c.loop-waiting.waiting c.take_level.new.self c.loop-waiting.invariant.0 c.in-Some.turn.level c.in-Some.turn.nodes renewed turn in
    let was = c.loop-waiting.invariant.1 in
    let more = c.in_err-renew_level.ensures.few in
    omega (arith, few, was, more)

pub loop-waiting-smaller : goal.loop-waiting-smaller
loop-waiting-smaller g c =
    let edit = (edit_there c.args.base.now c.args.graph.now (record { insts = c.args.touched.now.insts; nets = c.args.touched.now.nets }) c.store.result.now c.args.setting.now.store.now c.store.ensures c.requires.plan.same
    c.requires.made c.laws-2.ensures.numbered c.laws.ensures.numbered c.laws-3.ensures c.laws-4.ensures c.args.was.now c.requires.was) in
    let turn = rw c.in-Some.is at c.in_ok-turn.ensures.some in
    let renewed = c.loop-waiting.invariant.3 edit in
    goes_down c.args.base.now c.args.graph.now (record { insts = c.args.touched.now.insts; nets = c.args.touched.now.nets }) edit c.loop-waiting.tables.rows c.loop-waiting.tables.delays c.loop-waiting.waiting c.take_level.new.self c.renew_level.new.waiting c.loop-waiting.invariant.0 c.in-Some.turn.level c.in-Some.turn.nodes renewed turn
    c.in_ok-renew_level.ensures.waits

pub loop-waiting-preserved : goal.loop-waiting-preserved
loop-waiting-preserved g c =
    let edit = (edit_there c.args.base.now c.args.graph.now (record { insts = c.args.touched.now.insts; nets = c.args.touched.now.nets }) c.store.result.now c.args.setting.now.store.now c.store.ensures c.requires.plan.same
    c.requires.made c.laws-2.ensures.numbered c.laws.ensures.numbered c.laws-3.ensures c.laws-4.ensures c.args.was.now c.requires.was) in
    let turn = rw c.in-Some.is at c.in_ok-turn.ensures.some in
    let renewed = c.loop-waiting.invariant.3 edit in
    let few = goes_few c.args.base.now c.args.graph.now (record { insts = c.args.touched.now.insts; nets = c.args.touched.now.nets }) edit c.loop-waiting.tables.rows c.loop-waiting.tables.delays c.loop-waiting.waiting c.take_level.new.self c.loop-waiting.invariant.0 c.in-Some.turn.level c.in-Some.turn.nodes renewed turn in
    let was = c.loop-waiting.invariant.1 in
    let more = c.in_ok-renew_level.ensures.steps in (
      c.loop-waiting.invariant.0 + length c.in-Some.turn.nodes,
      omega (arith, was, more),
      few,
      λ e.
          goes_on c.args.base.now c.args.graph.now (record { insts = c.args.touched.now.insts; nets = c.args.touched.now.nets }) e c.loop-waiting.tables.rows c.renew_level.new.tables.rows c.loop-waiting.tables.delays c.renew_level.new.tables.delays c.loop-waiting.waiting c.take_level.new.self c.renew_level.new.waiting
          c.loop-waiting.invariant.0 (c.loop-waiting.invariant.0 + length c.in-Some.turn.nodes) c.in-Some.turn.level c.in-Some.turn.nodes (c.loop-waiting.invariant.3 e) turn c.in_ok-renew_level.ensures.put refl c.in_ok-renew_level.ensures.waits,
    )

pub returns-clause-found : goal.returns-clause-found
returns-clause-found g c =
    let edit = (edit_there c.args.base.now c.args.graph.now (record { insts = c.args.touched.now.insts; nets = c.args.touched.now.nets }) c.store.result.now c.args.setting.now.store.now c.store.ensures c.requires.plan.same
    c.requires.made c.laws-2.ensures.numbered c.laws.ensures.numbered c.laws-3.ensures c.laws-4.ensures c.args.was.now c.requires.was) in
    (ends c.args.base.now c.args.graph.now (record { insts = c.args.touched.now.insts; nets = c.args.touched.now.nets }) edit c.loop-waiting.tables.rows c.loop-waiting.tables.delays c.loop-waiting.waiting c.loop-waiting.invariant.0 (c.loop-waiting.invariant.3 edit) (rw c.in_default.is at c.in_ok-turn.ensures.none)).0

pub returns-clause-steps : goal.returns-clause-steps
returns-clause-steps g c =
    let edit = (edit_there c.args.base.now c.args.graph.now (record { insts = c.args.touched.now.insts; nets = c.args.touched.now.nets }) c.store.result.now c.args.setting.now.store.now c.store.ensures c.requires.plan.same
    c.requires.made c.laws-2.ensures.numbered c.laws.ensures.numbered c.laws-3.ensures c.laws-4.ensures c.args.was.now c.requires.was) in
    let all = (ends c.args.base.now c.args.graph.now (record { insts = c.args.touched.now.insts; nets = c.args.touched.now.nets }) edit c.loop-waiting.tables.rows c.loop-waiting.tables.delays c.loop-waiting.waiting c.loop-waiting.invariant.0 (c.loop-waiting.invariant.3 edit) (rw c.in_default.is at c.in_ok-turn.ensures.none)).1 in
    c.loop-waiting.invariant.1 ∙ ap (λ k. c.args.steps.now + k) all
