use Rattle.std.proofs.Common.{◌∙◌}
use Rattle.std.specs.Ordering.{ordering_then}
use Rattle.path_search.proofs.CountForms.{cmp_told}
use Rattle.timed_paths.proofs.choosing.node_cmp.Goals as goal

pub returns : goal.returns
returns c = λ x y ax by_.
    c.then.ensures ∙ (λ k. ordering_then (c.cmp-names.ensures k) (c.tran_cmp.ensures k))
    ∙ cmp_told c.args.store.now c.laws.ensures.numbered c.laws.ensures.linked c.args.a c.args.b c.pin_name.result.now c.pin_name-2.result.now c.tran_of.result c.tran_of-2.result
    c.pin_name.ensures c.pin_name-2.ensures c.tran_of.ensures c.tran_of-2.ensures x y ax by_
