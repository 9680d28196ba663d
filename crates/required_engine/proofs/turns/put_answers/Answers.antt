use Rattle.std.proofs.Common.{◌≡◌, ◌+◌, ◌<◌, List, length, slice_index_or, Result, ap, sym, subst, refl, ◌∙◌, rules, arith}
use Rattle.std.proofs.lemmas.List.{get_or_default, length-map, length-set}
use Rattle.timing_defs.specs.declared.faults.Fault.{Fault}
use Rattle.timing_defs.specs.declared.rows.BackRow.{BackRow}
use Rattle.cow_table.specs.Writes.{first_refused, written}
use Rattle.cow_table.proofs.Moving.{refused_now, refused_later, moved_step, moved_end, none_refused as none_left}
use Rattle.level_workers.specs.Mapped.{IsMap}
use Rattle.required_engine.specs.declared.turns.Counted.{Counted}
use Rattle.required_engine.specs.Worked.{IsCountedAt, answers_of}
use Rattle.required_engine.proofs.PassLaws.{as_many, none_refused, refused_among}
use Rattle.required_engine.proofs.PutBacks.{put_told, fines_told, range_told, place_low, answers_told, counted_left, counts_one}
use Rattle.required_engine.proofs.turns.put_answers.Goals as goal

pub loop-counted-init : goal.loop-counted-init
loop-counted-init g c =
    let items = c.into_iter-counted-iterator.ensures.into_iter_gives.0 ∙ c.into_vec-counted-items.ensures in
    let size = ap length items in
    let many = as_many (IsCountedAt c.args.graph.now c.args.level) c.args.nodes.now c.args.found c.requires.found in
    record {
      many = omega (arith, size, many);
      long = refl;
      rest = subst (λ (rs : List (Counted _)). IsMap (IsCountedAt c.args.graph.now c.args.level) c.args.nodes.now rs) (sym items) c.requires.found;
      refused = ap (λ (rs : List (Counted _)). first_refused (answers_of rs)) items;
      put = ap (λ (rs : List (Counted _)). written 0 c.args.rows.now c.args.nodes.now (answers_of rs)) items;
      ticks = omega arith;
      left = search rules;
    }

pub put_row-requires : goal.put_row-requires
put_row-requires g c =
    let size = ap length c.in-Some.ensures.steps.0 in
    let low : c.loop-counted.at < length c.args.nodes.now = omega (arith, size, c.loop-counted.invariant.many) in
    let under = place_low c.args.graph.now c.args.level c.args.nodes.now c.requires.nodes c.loop-counted.at 0 low in
    omega (arith, under, c.loop-counted.invariant.long, c.requires.count)

pub loop-counted-preserved : goal.loop-counted-preserved
loop-counted-preserved g c =
    let e = c.in-Some.ensures.steps.0 in
    let size = ap length e in
    let low : c.loop-counted.at < length c.args.nodes.now = omega (arith, size, c.loop-counted.invariant.many) in
    let was = c.loop-counted.invariant.left in
    let gone = c.in-Some.ensures.steps.1 in
    let put = c.in_ok-put_row-in-Ok.ensures in
    let answers = ap (λ (rs : List (Counted _)). answers_of rs) e in
    let one = counts_one c.args.graph.now c.args.level c.args.nodes.now c.requires.nodes c.loop-counted.at c.loop-counted.counted-iterator.rest.items c.next.new.self.rest.items c.in-Some.counted
    low c.loop-counted.invariant.rest e c.args.steps.now c.loop-counted.steps c.add.new.self c.loop-counted.invariant.ticks c.add.ensures in
    record {
      many = omega (arith, size, c.loop-counted.invariant.many);
      long = ap length put ∙ length-set _ _ _ ∙ c.loop-counted.invariant.long;
      rest = counted_left c.args.graph.now c.args.level c.args.nodes.now c.requires.nodes c.loop-counted.at c.loop-counted.counted-iterator.rest.items c.next.new.self.rest.items c.in-Some.counted
          low c.loop-counted.invariant.rest e;
      refused = refused_later (answers_of c.loop-counted.counted-iterator.rest.items) (answers_of c.next.new.self.rest.items) c.in-Some.counted.answer c.in-Ok.row answers c.in-Ok.is ∙ c.loop-counted.invariant.refused;
      put = moved_step c.loop-counted.rows c.put_row.new.rows c.args.nodes.now (answers_of c.loop-counted.counted-iterator.rest.items) (answers_of c.next.new.self.rest.items)
          c.loop-counted.at (slice_index_or c.args.nodes.now c.loop-counted.at 0) c.in-Some.counted.answer c.in-Ok.row answers c.in-Ok.is low
          (get_or_default c.args.nodes.now c.loop-counted.at 0 _ low) put
          ∙ c.loop-counted.invariant.put;
      ticks = let z = one.0 in omega (arith, z);
      left = omega (arith, was, gone, size);
    }

pub returns-in_err-put_row-in-Ok-clause-few : goal.returns-in_err-put_row-in-Ok-clause-few
returns-in_err-put_row-in-Ok-clause-few g c =
    let e = c.in-Some.ensures.steps.0 in
    let size = ap length e in
    let low : c.loop-counted.at < length c.args.nodes.now = omega (arith, size, c.loop-counted.invariant.many) in
    (
    counts_one c.args.graph.now c.args.level c.args.nodes.now c.requires.nodes c.loop-counted.at c.loop-counted.counted-iterator.rest.items c.next.new.self.rest.items c.in-Some.counted
    low c.loop-counted.invariant.rest e c.args.steps.now c.loop-counted.steps c.add.new.self c.loop-counted.invariant.ticks c.add.ensures
    ).1

pub returns-in-Err-clause-few : goal.returns-in-Err-clause-few
returns-in-Err-clause-few g c =
    let e = c.in-Some.ensures.steps.0 in
    let size = ap length e in
    let low : c.loop-counted.at < length c.args.nodes.now = omega (arith, size, c.loop-counted.invariant.many) in
    (
    counts_one c.args.graph.now c.args.level c.args.nodes.now c.requires.nodes c.loop-counted.at c.loop-counted.counted-iterator.rest.items c.next.new.self.rest.items c.in-Some.counted
    low c.loop-counted.invariant.rest e c.args.steps.now c.loop-counted.steps c.add.new.self c.loop-counted.invariant.ticks c.add.ensures
    ).1

pub returns-in-Err-clause-err : goal.returns-in-Err-clause-err
returns-in-Err-clause-err g c =
    let answers = ap (λ (rs : List (Counted _)). answers_of rs) c.in-Some.ensures.steps.0 in
    let first = refused_now (answers_of c.loop-counted.counted-iterator.rest.items) (answers_of c.next.new.self.rest.items) c.in-Some.counted.answer c.in-Err.fault answers c.in-Err.is in
    range_told c.args.graph.now c.args.level c.args.nodes.now (answers_of c.args.found) c.requires.nodes
    (answers_told c.args.graph.now c.args.level c.args.nodes.now c.args.found c.requires.found) c.in-Err.fault
    (refused_among (answers_of c.args.found) c.in-Err.fault (sym c.loop-counted.invariant.refused ∙ sym first))

pub returns-clause-rows : goal.returns-clause-rows
returns-clause-rows g c =
    let was = c.loop-counted.invariant.left in
    let none = c.in-None.ensures.steps.0 in
    let end : length c.loop-counted.counted-iterator.rest.items ≡ 0 = omega (arith, was, none) in
    let nothing : length (answers_of c.loop-counted.counted-iterator.rest.items) ≡ 0 = length-map c.loop-counted.counted-iterator.rest.items (λ (k : Counted _). k.answer) ∙ end in
    let all = sym c.loop-counted.invariant.refused ∙ sym (none_left (answers_of c.loop-counted.counted-iterator.rest.items) nothing) in
    let given = answers_told c.args.graph.now c.args.level c.args.nodes.now c.args.found c.requires.found in
    moved_end c.loop-counted.rows _ (answers_of c.loop-counted.counted-iterator.rest.items) c.args.nodes.now c.loop-counted.at nothing
    (let many = c.loop-counted.invariant.many in omega (arith, nothing, end, many)) c.loop-counted.invariant.put
    ∙ put_told c.args.graph.now c.args.level c.args.rows.now c.args.nodes.now (answers_of c.args.found) (none_refused (answers_of c.args.found) all) c.requires.nodes given

pub returns-clause-fine : goal.returns-clause-fine
returns-clause-fine g c =
    let was = c.loop-counted.invariant.left in
    let none = c.in-None.ensures.steps.0 in
    let end : length c.loop-counted.counted-iterator.rest.items ≡ 0 = omega (arith, was, none) in
    let nothing : length (answers_of c.loop-counted.counted-iterator.rest.items) ≡ 0 = length-map c.loop-counted.counted-iterator.rest.items (λ (k : Counted _). k.answer) ∙ end in
    let all = sym c.loop-counted.invariant.refused ∙ sym (none_left (answers_of c.loop-counted.counted-iterator.rest.items) nothing) in
    let given = answers_told c.args.graph.now c.args.level c.args.nodes.now c.args.found c.requires.found in
    fines_told c.args.graph.now c.args.level c.args.nodes.now (answers_of c.args.found) (none_refused (answers_of c.args.found) all) c.requires.nodes given

pub returns-clause-steps : goal.returns-clause-steps
returns-clause-steps g c =
    let was = c.loop-counted.invariant.left in
    let none = c.in-None.ensures.steps.0 in
    let many = c.loop-counted.invariant.many in
    let ticks = c.loop-counted.invariant.ticks in
    omega (arith, was, none, many, ticks)
