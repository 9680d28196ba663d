use Rattle.std.proofs.Common.{◌≡◌, ◌<◌, ◌+◌, length, flat_map, slice_index_or, ap, ◌∙◌, arith}
use Rattle.std.specs.Arc.{arc_value}
use Rattle.std.proofs.lemmas.List.{get_or_default}
use Rattle.cow_table.proofs.Moving.{refused_now, refused_later, moved_step, moved_end, none_refused}
use Rattle.cow_table.proofs.moves.move_all.Goals as goal

pub returns-in-Err-clause-refused : goal.returns-in-Err-clause-refused
returns-in-Err-clause-refused g c =
    refused_now c.loop-value.value-iterator.rest.items c.next.new.self.rest.items c.in-Some.value c.in-Err.refused c.in-Some.ensures.steps.0 c.in-Err.is
    ∙ c.loop-value.invariant.3

pub loop-value-preserved : goal.loop-value-preserved
loop-value-preserved g c =
    let size = ap length c.in-Some.ensures.steps.0 in
    let low : c.loop-value.at < length c.args.places.now = omega (arith, size, c.loop-value.invariant.2) in
    let more : c.loop-value.at + 1 + length c.next.new.self.rest.items ≡ length c.args.places.now = omega (arith, size, c.loop-value.invariant.2) in (
      c.move_one.ensures.cut,
      c.move_one.ensures.len,
      more,
      refused_later c.loop-value.value-iterator.rest.items c.next.new.self.rest.items c.in-Some.value c.in-Ok.value c.in-Some.ensures.steps.0 c.in-Ok.is ∙ c.loop-value.invariant.3,
      moved_step (flat_map arc_value c.loop-value.pages) (flat_map arc_value c.move_one.new.pages) c.args.places.now c.loop-value.value-iterator.rest.items c.next.new.self.rest.items
          c.loop-value.at (slice_index_or c.args.places.now c.loop-value.at 0) c.in-Some.value c.in-Ok.value c.in-Some.ensures.steps.0 c.in-Ok.is low
          (get_or_default c.args.places.now c.loop-value.at 0 _ low) c.in_ok-move_one-in-Ok.ensures.ok
          ∙ c.loop-value.invariant.4,
      let was = c.loop-value.invariant.5 in
          let gone = c.in-Some.ensures.steps.1 in
          omega (arith, was, gone, size),
    )

pub returns-clause-refused : goal.returns-clause-refused
returns-clause-refused g c =
    let was = c.loop-value.invariant.5 in
    let none = c.in-None.ensures.steps.0 in
    none_refused c.loop-value.value-iterator.rest.items (omega (arith, was, none)) ∙ c.loop-value.invariant.3

pub returns-clause-ok : goal.returns-clause-ok
returns-clause-ok g c _ =
    let was = c.loop-value.invariant.5 in
    let none = c.in-None.ensures.steps.0 in
    moved_end (flat_map arc_value c.loop-value.pages) _ c.loop-value.value-iterator.rest.items c.args.places.now c.loop-value.at (omega (arith, was, none))
    c.loop-value.invariant.2 c.loop-value.invariant.4
