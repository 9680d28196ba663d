use Rattle.std.proofs.Common.{ap, length, sym, ◌∙◌}
use Rattle.cow_table.specs.Writes.{first_refused}
use Rattle.required_engine.specs.Worked.{IsAnswerAt}
use Rattle.required_engine.proofs.PassLaws.{as_many, level_written, fault_is_range, none_refused, refused_among}
use Rattle.required_engine.proofs.passes.put_rows.Goals as goal

pub put_all-requires-after_bounds : goal.put_all-requires-after_bounds
put_all-requires-after_bounds g c κs within =
    as_many (IsAnswerAt c.args.graph.now c.args.level) c.args.nodes.now c.args.found c.requires.found ∙ sym (ap length c.into_vec.ensures)

pub returns-in-None-clause-done : goal.returns-in-None-clause-done
returns-in-None-clause-done g c =
    let none = sym (ap first_refused c.into_vec.ensures) ∙ sym c.in_ok-fault.ensures.refused ∙ c.in-None.is in
    level_written c.args.graph.now c.args.level c.args.rows.now c.put_all.new.self c.args.nodes.now c.args.found c.into_vec.result.items c.requires.nodes
    c.requires.found c.requires.done c.into_vec.ensures (c.in_ok-fault.ensures.ok c.in-None.is) (none_refused c.args.found none)

pub returns-in-Some-clause-err : goal.returns-in-Some-clause-err
returns-in-Some-clause-err g c =
    let first = sym (ap first_refused c.into_vec.ensures) ∙ sym c.in_ok-fault.ensures.refused ∙ c.in-Some.is in
    fault_is_range c.args.graph.now c.args.level c.args.nodes.now c.args.found c.requires.nodes c.requires.found c.in-Some.fault
    (refused_among c.args.found c.in-Some.fault first)
