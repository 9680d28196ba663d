use Rattle.std.proofs.Common.{◌∙◌, ap}
use Rattle.sta_text.specs.Names.{pairs, said}
use Rattle.sta_text.proofs.PlacesLemmas.{on_ok, said_set, pairs_new}
use Rattle.sta_text.proofs.places.map_set.Goals as goal

pub returns-clause-any : goal.returns-clause-any
returns-clause-any c =
    on_ok c.insert.result
    (λ e q. ap (λ es. said (pairs es) q) e ∙ said_set c.args.numbers.now.entries c.args.name c.args.number q)
    c.insert.ensures.entries

pub returns-clause-list : goal.returns-clause-list
returns-clause-list c =
    on_ok c.insert.result
    (λ e absent. ap (λ es. pairs es) e ∙ pairs_new c.args.numbers.now.entries c.args.name c.args.number absent)
    c.insert.ensures.entries
