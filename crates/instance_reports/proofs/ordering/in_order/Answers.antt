use Rattle.std.proofs.Common.{◌≡◌, rules, ap}
use Rattle.std.specs.Cmp.Lexicographic.{slice_cmp}
use Rattle.std.specs.Ordering.{nat_cmp, is_lt}
use Rattle.std.proofs.lemmas.List.Sorted.{answers_always}
use Rattle.instance_reports.specs.Orders.{by_name}
use Rattle.instance_reports.proofs.OrderLaws.{orders, sorted_rows}
use Rattle.instance_reports.proofs.ordering.in_order.Goals as goal

pub returns : goal.returns
returns g c =
    sorted_rows g.T.Row.called c.args.rows c.into_vec-rows.result.items c.sort_unstable_by.new.self.items c.from_vec.result
    c.into_vec-rows.ensures c.sort_unstable_by.ensures.permutation
    (c.sort_unstable_by.ensures.sorted (by_name g.T.Row.called) (orders g.T.Row.called)
    (answers_always _ _ _
    (λ f a r q k. ap is_lt (let e : r ≡ slice_cmp nat_cmp (g.T.Row.called a.0.now) (g.T.Row.called a.1.0.now) = search rules in e))))
    c.from_vec.ensures
