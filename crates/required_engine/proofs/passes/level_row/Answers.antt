use Rattle.required_engine.proofs.passes.level_row.Goals as goal

pub returns : goal.returns
returns g c = λ low here. (c.level_answer.ensures low here).0
