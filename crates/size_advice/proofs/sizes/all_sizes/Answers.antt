use Rattle.size_advice.proofs.SizeLaws.{told_apart}
use Rattle.size_advice.proofs.sizes.all_sizes.Goals as goal

pub returns-clause-apart : goal.returns-clause-apart
returns-clause-apart c =
    told_apart c.args.store.now.design c.in_ok-names.names c.as_slice.result.now c.sizes_of_all-sizes.result c.laws.ensures.linked
    c.as_slice.ensures c.in_ok-names.ensures.apart c.sizes_of_all-sizes.ensures
