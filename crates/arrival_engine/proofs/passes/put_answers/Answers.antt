use Rattle.std.proofs.Common.{◌≡◌, ◌<◌, ◌≤◌, ◌+◌, List, length, slice_index_or, sym, ap, subst, ◌∙◌, rules, arith}
use Rattle.std.proofs.lemmas.List.{get_or_default}
use Rattle.level_workers.specs.Mapped.{IsMap}
use Rattle.arrival_engine.specs.declared.passes.Counted.{Counted}
use Rattle.arrival_engine.specs.Analysed.{IsLevelAnswer}
use Rattle.arrival_engine.proofs.BeforeLaws.{map_length}
use Rattle.arrival_engine.proofs.PassLaws.{none_put, next_node, next_fails, next_put, all_put}
use Rattle.arrival_engine.proofs.passes.put_answers.Goals as goal

pub loop-counted-init : goal.loop-counted-init
loop-counted-init g c =
    let items = c.into_iter-counted-iterator.ensures.into_iter_gives.0 ∙ c.into_vec-counted-items.ensures in
    let long = ap length items in
    let many = map_length (IsLevelAnswer c.args.graph.now c.args.level) c.args.nodes.now c.args.answers c.requires.answers in (
      omega (arith, long, many),
      subst (λ (rs : List (Counted _)). IsMap (IsLevelAnswer c.args.graph.now c.args.level) c.args.nodes.now rs) (sym items) c.requires.answers,
      none_put c.args.graph.now c.args.level c.args.nodes.now c.requires.nodes c.args.rows.now c.args.delays.now c.requires.rows c.requires.delays,
      search rules,
    )

pub put_answer-requires-clause-row : goal.put_answer-requires-clause-row
put_answer-requires-clause-row g c =
    let size = ap length c.in-Some.ensures.steps.0 in
    let low : c.loop-counted.at < length c.args.nodes.now = omega (arith, size, c.loop-counted.invariant.0) in
    let under =
    (next_node c.args.graph.now c.args.level c.args.nodes.now c.requires.nodes c.loop-counted.at (slice_index_or c.args.nodes.now c.loop-counted.at 0) c.in-Some.counted
    c.loop-counted.counted-iterator.rest.items c.next.new.self.rest.items c.in-Some.ensures.steps.0 low (get_or_default c.args.nodes.now c.loop-counted.at 0 _ low)
    c.loop-counted.invariant.1).0 in
    let count = c.loop-counted.invariant.2.row_count in
    omega (arith, under, count)

pub put_answer-requires-clause-delay : goal.put_answer-requires-clause-delay
put_answer-requires-clause-delay g c =
    let size = ap length c.in-Some.ensures.steps.0 in
    let low : c.loop-counted.at < length c.args.nodes.now = omega (arith, size, c.loop-counted.invariant.0) in
    let under =
    (next_node c.args.graph.now c.args.level c.args.nodes.now c.requires.nodes c.loop-counted.at (slice_index_or c.args.nodes.now c.loop-counted.at 0) c.in-Some.counted
    c.loop-counted.counted-iterator.rest.items c.next.new.self.rest.items c.in-Some.ensures.steps.0 low (get_or_default c.args.nodes.now c.loop-counted.at 0 _ low)
    c.loop-counted.invariant.1).0 in
    let count = c.loop-counted.invariant.2.delay_count in
    omega (arith, under, count)

pub returns-in-Err-clause-err : goal.returns-in-Err-clause-err
returns-in-Err-clause-err g c =
    let size = ap length c.in-Some.ensures.steps.0 in
    let low : c.loop-counted.at < length c.args.nodes.now = omega (arith, size, c.loop-counted.invariant.0) in
    next_fails c.args.graph.now c.args.level c.args.nodes.now c.requires.nodes c.loop-counted.at (slice_index_or c.args.nodes.now c.loop-counted.at 0) c.in-Some.counted
    c.loop-counted.counted-iterator.rest.items c.next.new.self.rest.items c.in-Some.ensures.steps.0 low (get_or_default c.args.nodes.now c.loop-counted.at 0 _ low)
    c.loop-counted.invariant.1 c.in-Err.fault c.in-Err.is

pub loop-counted-preserved : goal.loop-counted-preserved
loop-counted-preserved g c =
    let size = ap length c.in-Some.ensures.steps.0 in
    let low : c.loop-counted.at < length c.args.nodes.now = omega (arith, size, c.loop-counted.invariant.0) in
    let more : c.loop-counted.at + 1 + length c.next.new.self.rest.items ≡ length c.args.nodes.now = omega (arith, size, c.loop-counted.invariant.0) in
    let put =
    next_put c.args.graph.now c.args.level c.args.nodes.now c.requires.nodes c.loop-counted.at (slice_index_or c.args.nodes.now c.loop-counted.at 0) c.in-Some.counted
    c.loop-counted.counted-iterator.rest.items c.next.new.self.rest.items c.in-Some.ensures.steps.0 low (get_or_default c.args.nodes.now c.loop-counted.at 0 _ low)
    c.loop-counted.invariant.1 c.in-Ok.answer c.in-Ok.is c.loop-counted.rows c.put_answer.new.rows c.loop-counted.delays c.put_answer.new.delays
    c.in_ok-put_answer-in-Ok.ensures.rows c.in_ok-put_answer-in-Ok.ensures.delays c.loop-counted.invariant.2 in
    let was = c.loop-counted.invariant.3 in
    let gone = c.in-Some.ensures.steps.1 in
    (more, put.0, put.1, omega (arith, was, gone, size))

pub returns-clause-rows : goal.returns-clause-rows
returns-clause-rows g c =
    let was = c.loop-counted.invariant.3 in
    let none = c.in-None.ensures.steps.0 in
    let past : length c.args.nodes.now ≤ c.loop-counted.at = omega (arith, c.loop-counted.invariant.0, was, none) in
    (all_put c.args.graph.now c.args.level c.args.nodes.now c.requires.nodes c.loop-counted.at c.loop-counted.rows c.loop-counted.delays past c.loop-counted.invariant.2).0

pub returns-clause-delays : goal.returns-clause-delays
returns-clause-delays g c =
    let was = c.loop-counted.invariant.3 in
    let none = c.in-None.ensures.steps.0 in
    let past : length c.args.nodes.now ≤ c.loop-counted.at = omega (arith, c.loop-counted.invariant.0, was, none) in
    (all_put c.args.graph.now c.args.level c.args.nodes.now c.requires.nodes c.loop-counted.at c.loop-counted.rows c.loop-counted.delays past c.loop-counted.invariant.2).1
