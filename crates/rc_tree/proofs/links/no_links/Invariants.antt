use Rattle.std.proofs.Common.{◌≡◌, length, []}
use Rattle.std.specs.List.{AllByRecursion}
use Rattle.rc_tree.proofs.links.no_links.Given as goal

abbrev pub invariant-loop : goal.invariant-loop
invariant-loop l = (length l.links.items ≡ l.counter) × AllByRecursion (λ x. x ≡ []) l.links.items
