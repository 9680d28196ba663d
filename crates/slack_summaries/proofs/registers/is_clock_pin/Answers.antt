use Rattle.std.proofs.Common.{sym, ◌∙◌}
use Rattle.slack_summaries.proofs.RegisterLaws.{inst_clocks}
use Rattle.slack_summaries.proofs.registers.is_clock_pin.Goals as goal

pub returns-in-Some : goal.returns-in-Some
returns-in-Some c =
    inst_clocks c.args.store.now c.laws.ensures.numbered c.laws.ensures.linked c.args.pin c.requires c.in-Some.inst c.cell_at.result.now c.own_name.result.now c.clocks_by.result
    c.in-Some.ensures.value c.cell_at.ensures c.own_name.ensures c.clocks_by.ensures
