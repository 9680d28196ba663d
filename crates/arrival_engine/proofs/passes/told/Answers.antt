use Rattle.std.proofs.Common.{List, length, sym, ap, subst, ◌∙◌, rules, arith}
use Rattle.level_workers.specs.Mapped.{IsMap}
use Rattle.arrival_engine.specs.declared.passes.Counted.{Counted}
use Rattle.arrival_engine.specs.Analysed.{IsLevelAnswer}
use Rattle.arrival_engine.proofs.BeforeLaws.{map_length}
use Rattle.arrival_engine.proofs.TurnLaws.{told_fails, told_counts, told_many, told_left, told_done, longer}
use Rattle.arrival_engine.proofs.passes.told.Goals as goal

pub loop-counted-init : goal.loop-counted-init
loop-counted-init g c =
    let items = c.into_iter-counted-iterator.ensures.into_iter_gives.0 ∙ c.into_vec-counted-items.ensures in
    let none = c.new-found.ensures in
    let size = ap length items in
    let empty = ap length none in
    let many = map_length (IsLevelAnswer c.args.graph.now c.args.level) c.args.nodes.now c.args.answers c.requires.answers in
    record {
      many = omega (arith, size, empty, many);
      rest = rw none (subst (λ (rs : List (Counted _)). IsMap (IsLevelAnswer c.args.graph.now c.args.level) c.args.nodes.now rs) (sym items) c.requires.answers);
      done = rw none tt;
      counted = omega (arith, empty);
      left = search rules;
    }

pub loop-counted-preserved : goal.loop-counted-preserved
loop-counted-preserved g c =
    let e = c.in-Some.ensures.steps.0 in
    let size = ap length e in
    let was = c.loop-counted.invariant.left in
    let gone = c.in-Some.ensures.steps.1 in
    let one = told_counts c.args.graph.now c.args.level c.args.nodes.now c.requires.nodes c.loop-counted.found c.loop-counted.counted-iterator.rest.items c.next.new.self.rest.items c.in-Some.counted
    c.loop-counted.invariant.many c.loop-counted.invariant.rest c.loop-counted.invariant.done e c.args.steps.now c.loop-counted.steps c.add.new.self c.loop-counted.invariant.counted c.add.ensures in
    let long = longer c.args.graph.now c.args.level c.args.nodes.now c.requires.nodes c.loop-counted.found c.loop-counted.counted-iterator.rest.items c.next.new.self.rest.items c.in-Some.counted
    c.loop-counted.invariant.many c.loop-counted.invariant.rest c.loop-counted.invariant.done e c.in-Ok.answer c.in-Ok.is c.push.new.self c.in_ok-push-in-Ok.ensures.ok in
    record {
      many = told_many c.args.graph.now c.args.level c.args.nodes.now c.requires.nodes c.loop-counted.found c.loop-counted.counted-iterator.rest.items c.next.new.self.rest.items c.in-Some.counted
          c.loop-counted.invariant.many c.loop-counted.invariant.rest c.loop-counted.invariant.done e c.in-Ok.answer c.in-Ok.is c.push.new.self c.in_ok-push-in-Ok.ensures.ok;
      rest = told_left c.args.graph.now c.args.level c.args.nodes.now c.requires.nodes c.loop-counted.found c.loop-counted.counted-iterator.rest.items c.next.new.self.rest.items c.in-Some.counted
          c.loop-counted.invariant.many c.loop-counted.invariant.rest c.loop-counted.invariant.done e c.in-Ok.answer c.in-Ok.is c.push.new.self c.in_ok-push-in-Ok.ensures.ok;
      done = told_done c.args.graph.now c.args.level c.args.nodes.now c.requires.nodes c.loop-counted.found c.loop-counted.counted-iterator.rest.items c.next.new.self.rest.items c.in-Some.counted
          c.loop-counted.invariant.many c.loop-counted.invariant.rest c.loop-counted.invariant.done e c.in-Ok.answer c.in-Ok.is c.push.new.self c.in_ok-push-in-Ok.ensures.ok;
      counted = omega (arith, one.0, long);
      left = omega (arith, was, gone, size);
    }

pub returns-in-Err-clause-err : goal.returns-in-Err-clause-err
returns-in-Err-clause-err g c =
    told_fails c.args.graph.now c.args.level c.args.nodes.now c.requires.nodes c.loop-counted.found c.loop-counted.counted-iterator.rest.items c.next.new.self.rest.items c.in-Some.counted
    c.loop-counted.invariant.many c.loop-counted.invariant.rest c.loop-counted.invariant.done c.in-Some.ensures.steps.0 c.in-Err.refused c.in-Err.is

pub returns-in_err-push-in-Ok-clause-few : goal.returns-in_err-push-in-Ok-clause-few
returns-in_err-push-in-Ok-clause-few g c =
    (told_counts c.args.graph.now c.args.level c.args.nodes.now c.requires.nodes c.loop-counted.found c.loop-counted.counted-iterator.rest.items c.next.new.self.rest.items c.in-Some.counted
    c.loop-counted.invariant.many c.loop-counted.invariant.rest c.loop-counted.invariant.done c.in-Some.ensures.steps.0 c.args.steps.now c.loop-counted.steps c.add.new.self c.loop-counted.invariant.counted c.add.ensures).1

pub returns-in-Err-clause-few : goal.returns-in-Err-clause-few
returns-in-Err-clause-few g c =
    (told_counts c.args.graph.now c.args.level c.args.nodes.now c.requires.nodes c.loop-counted.found c.loop-counted.counted-iterator.rest.items c.next.new.self.rest.items c.in-Some.counted
    c.loop-counted.invariant.many c.loop-counted.invariant.rest c.loop-counted.invariant.done c.in-Some.ensures.steps.0 c.args.steps.now c.loop-counted.steps c.add.new.self c.loop-counted.invariant.counted c.add.ensures).1
