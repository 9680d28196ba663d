use Rattle.std.proofs.Common.{◌<◌, List, length, ap, ◌∙◌, refl, rules, arith}
use Rattle.std.proofs.lemmas.List.{length-set}
use Rattle.level_cone.specs.Cone.{put_all}
use Rattle.arrival_engine.specs.declared.nodes.NodeAnswer.{NodeAnswer}
use Rattle.arrival_engine.specs.Updated.{rows_told, delays_told}
use Rattle.arrival_engine.proofs.TurnLaws.{put_next, put_done}
use Rattle.arrival_engine.proofs.updates.put_each.Goals as goal

pub loop-answer-init : goal.loop-answer-init
loop-answer-init c =
    let items = c.into_iter-answer-iterator.ensures.into_iter_gives.0 ∙ c.into_vec-answer-items.ensures in
    let size = ap length items in
    let many = c.requires.answers in
    record {
      many = omega (arith, size, many);
      rows_long = refl;
      delays_long = refl;
      rows = ap (λ (xs : List NodeAnswer). put_all c.args.tables.now.rows c.args.nodes.now (rows_told xs)) items;
      delays = ap (λ (xs : List NodeAnswer). put_all c.args.tables.now.delays c.args.nodes.now (delays_told xs)) items;
      left = search rules;
    }

pub put-requires-clause-row : goal.put-requires-clause-row
put-requires-clause-row c =
    let size = ap length c.in-Some.ensures.steps.0 in
    let many = c.loop-answer.invariant.many in
    let low : c.loop-answer.at < length c.args.nodes.now = omega (arith, size, many) in
    let under = c.requires.rows c.loop-answer.at 0 low in
    let long = c.loop-answer.invariant.rows_long in
    omega (arith, under, long)

pub put-requires-clause-delay : goal.put-requires-clause-delay
put-requires-clause-delay c =
    let size = ap length c.in-Some.ensures.steps.0 in
    let many = c.loop-answer.invariant.many in
    let low : c.loop-answer.at < length c.args.nodes.now = omega (arith, size, many) in
    let under = c.requires.delays c.loop-answer.at 0 low in
    let long = c.loop-answer.invariant.delays_long in
    omega (arith, under, long)

pub loop-answer-preserved : goal.loop-answer-preserved
loop-answer-preserved c =
    let e = c.in-Some.ensures.steps.0 in
    let size = ap length e in
    let many = c.loop-answer.invariant.many in
    let low : c.loop-answer.at < length c.args.nodes.now = omega (arith, size, many) in
    let was = c.loop-answer.invariant.left in
    let gone = c.in-Some.ensures.steps.1 in
    record {
      many = omega (arith, size, many);
      rows_long = ap length c.in_ok-put.ensures.rows ∙ length-set _ _ _ ∙ c.loop-answer.invariant.rows_long;
      delays_long = ap length c.in_ok-put.ensures.delays ∙ length-set _ _ _ ∙ c.loop-answer.invariant.delays_long;
      rows = put_next (λ a. a.row) c.loop-answer.tables.rows c.put.new.tables.rows c.args.nodes.now c.loop-answer.at 0 c.loop-answer.answer-iterator.rest.items c.next.new.self.rest.items c.in-Some.answer _
          low e c.in_ok-put.ensures.rows c.loop-answer.invariant.rows;
      delays = put_next (λ a. a.delays) c.loop-answer.tables.delays c.put.new.tables.delays c.args.nodes.now c.loop-answer.at 0 c.loop-answer.answer-iterator.rest.items c.next.new.self.rest.items c.in-Some.answer _
          low e c.in_ok-put.ensures.delays c.loop-answer.invariant.delays;
      left = omega (arith, was, gone, size);
    }

pub returns-clause-rows : goal.returns-clause-rows
returns-clause-rows c =
    let was = c.loop-answer.invariant.left in
    let none = c.in-None.ensures.steps.0 in
    put_done (λ a. a.row) c.loop-answer.tables.rows _ c.loop-answer.answer-iterator.rest.items _ (omega (arith, was, none)) c.loop-answer.invariant.rows

pub returns-clause-delays : goal.returns-clause-delays
returns-clause-delays c =
    let was = c.loop-answer.invariant.left in
    let none = c.in-None.ensures.steps.0 in
    put_done (λ a. a.delays) c.loop-answer.tables.delays _ c.loop-answer.answer-iterator.rest.items _ (omega (arith, was, none)) c.loop-answer.invariant.delays
