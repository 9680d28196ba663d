use Rattle.sta_text.proofs.NamesLemmas.{stands_ok}
use Rattle.sta_text.proofs.names.Names.add.Goals as goal

pub returns-clause-any : goal.returns-clause-any
returns-clause-any c = rw (← c.self.view_is) (stands_ok c.set_add.result _ _ _ c.set_add.ensures.found c.set_add.ensures.list)
