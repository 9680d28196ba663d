use Rattle.std.proofs.Common.{ap, length, arith, ◌∙◌}
use Rattle.cow_table.proofs.Moving.{refused_now, refused_later, none_refused}
use Rattle.cow_table.proofs.moves.first_refused.Goals as goal

pub returns-in-Err : goal.returns-in-Err
returns-in-Err g c =
    refused_now c.loop-value.value-iterator.rest.items c.next.new.self.rest.items c.in-Some.value c.in-Err.refused c.in-Some.ensures.steps.0 c.in-Err.is
    ∙ c.loop-value.invariant.0

pub loop-value-preserved-in_default : goal.loop-value-preserved-in_default
loop-value-preserved-in_default g c =
    let was = c.loop-value.invariant.1 in
    let gone = c.in-Some.ensures.steps.1 in
    let short = ap length c.in-Some.ensures.steps.0 in (
      refused_later c.loop-value.value-iterator.rest.items c.next.new.self.rest.items c.in-Some.value c.in_default.field-0 c.in-Some.ensures.steps.0 c.in_default.is
          ∙ c.loop-value.invariant.0,
      omega (arith, was, gone, short),
    )

pub returns : goal.returns
returns g c =
    let was = c.loop-value.invariant.1 in
    let none = c.in-None.ensures.steps.0 in
    none_refused c.loop-value.value-iterator.rest.items (omega (arith, was, none)) ∙ c.loop-value.invariant.0
