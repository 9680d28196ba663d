use Rattle.std.proofs.Common.{◌+◌, ◌==◌, cond, length, get_or, refl, inl, inr, arith}
use Rattle.std.proofs.lemmas.Bool.{cases_lt, eq-eqb}
use Rattle.std.proofs.lemmas.List.{get_or_past}
use Rattle.std.proofs.lemmas.List.Sums.{sum_by-take-le}
use Rattle.levelizer.proofs.Counting.{count_more, one_if}
use Rattle.levelizer.proofs.sweeping.free.Goals as goal

pub free_one-requires-clause-waits : goal.free_one-requires-clause-waits
free_one-requires-clause-waits c =
    let more = count_more (λ x. x == get_or c.args.heads.now c.loop-head.head-index 0) c.args.heads.now c.loop-head.head-index 0 c.loop-head-test.true in
    let one = one_if (get_or c.args.heads.now c.loop-head.head-index 0 == get_or c.args.heads.now c.loop-head.head-index 0) (eq-eqb _ _ refl) in
    let part = sum_by-take-le (λ x. cond (x == get_or c.args.heads.now c.loop-head.head-index 0) 1 0) c.args.heads.now (c.loop-head.head-index + 1) in
    let most = c.requires (get_or c.args.heads.now c.loop-head.head-index 0) in
    let taken = c.loop-head.invariant.taken (get_or c.args.heads.now c.loop-head.head-index 0) in
    omega arith

pub free_one-requires-clause-node : goal.free_one-requires-clause-node
free_one-requires-clause-node c =
    let some = free_one-requires-clause-waits c in
    elim (cases_lt (get_or c.args.heads.now c.loop-head.head-index 0) (length c.loop-head.waiting)) [
      | inl low ↦ low
      | inr high ↦ let none = get_or_past c.loop-head.waiting (get_or c.args.heads.now c.loop-head.head-index 0) 0 high in absurd (omega arith)
    ]
