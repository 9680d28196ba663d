use Rattle.std.proofs.Common.{rules, ap, sym, ◌∙◌, FitsSigned, w64}
use Rattle.std.specs.Option.{option_copied}
use Rattle.std.proofs.lemmas.Int.{to_z-of_z}
use Rattle.required_engine.proofs.ClockLaws.{clock_there, separation_is}
use Rattle.required_engine.proofs.limits.separation_on.Goals as goal

pub separation-requires-clause-launch : goal.separation-requires-clause-launch
separation-requires-clause-launch c =
    clock_there c.args.store.now.design.constraints c.laws.ensures.linked.constraints c.args.launch c.in-Some.launch.now
    (sym c.clock_at.ensures ∙ ap option_copied c.in-Some.is)

pub separation-requires-clause-capture : goal.separation-requires-clause-capture
separation-requires-clause-capture c =
    clock_there c.args.store.now.design.constraints c.laws.ensures.linked.constraints c.args.capture c.in-Some-clock_at.capture.now
    (sym c.clock_at-2.ensures ∙ ap option_copied c.in-Some-clock_at.is)

pub returns : goal.returns
returns c =
    let f : FitsSigned w64 c.separation.result.0 = search rules in
    simp to_z-of_z
    (c.separation.ensures
    ∙ separation_is c.args.store.now.design c.args.kind c.args.launch c.args.capture c.args.from c.args.to c.in-Some.launch.now c.in-Some-clock_at.capture.now
    (sym c.clock_at.ensures ∙ ap option_copied c.in-Some.is) (sym c.clock_at-2.ensures ∙ ap option_copied c.in-Some-clock_at.is))
