use Rattle.std.proofs.Common.{arith, ap, ◌∙◌, set, ◌-◌, flat_map}
use Rattle.std.specs.Arc.{arc_value}
use Rattle.std.proofs.lemmas.Result.{on_ok_weaker}
use Rattle.cow_table.proofs.Writing.{before_first, past_last, no_value, at_place}
use Rattle.cow_table.proofs.writes.put_one.Goals as goal

pub returns-in_ok-again-in-Ok-clause-ok : goal.returns-in_ok-again-in-Ok-clause-ok
returns-in_ok-again-in-Ok-clause-ok g c =
    let items = flat_map arc_value c.args.pages.now in
    let copied = ap (λ v. set items (c.args.place - c.args.first) v) c.in_ok-again-in-Ok.ensures in
    let there = at_place c.args.first items c.args.place c.args.value.now c.in-Ok.value c.in-Ok.is c.if-first-place.true in
    on_ok_weaker c.set_at.result (λ h. h ∙ copied ∙ there) c.set_at.ensures.ok

pub returns-in_default-clause-ok : goal.returns-in_default-clause-ok
returns-in_default-clause-ok g c =
    past_last c.args.first _ c.args.place c.args.value.now (omega (arith, c.if-place-first.false, c.requires.counted))

pub returns-in_default-2-clause-ok : goal.returns-in_default-2-clause-ok
returns-in_default-2-clause-ok g c =
    before_first c.args.first _ c.args.place c.args.value.now c.if-first-place.false

pub returns-in_default-3-clause-ok : goal.returns-in_default-3-clause-ok
returns-in_default-3-clause-ok g c =
    no_value c.args.first _ c.args.place c.args.value.now c.in_default.field-0 c.in_default.is
