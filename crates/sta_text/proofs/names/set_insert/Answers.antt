use Rattle.std.proofs.Common.{◌≡◌, Bool, not, IfOk, subst}
use Rattle.sta_text.proofs.NamesLemmas.{any_texts}
use Rattle.sta_text.proofs.names.set_insert.Goals as goal

pub returns-clause-found : goal.returns-clause-found
returns-clause-found c =
    subst (λ (b : Bool). IfOk c.insert.result (λ (new : Bool). new ≡ not b))
    (any_texts c.args.names.now.keys c.args.name.now) c.insert.ensures.added
