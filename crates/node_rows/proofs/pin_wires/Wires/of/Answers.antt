use Rattle.std.proofs.Common.{◌≡◌, ◌<◌, List, Result, length, sym, ap, subst, ◌∙◌, arith}
use Rattle.std.specs.List.{range_with_len}
use Rattle.level_workers.specs.Mapped.{IsMap}
use Rattle.node_rows.specs.declared.found_nets.FoundNet.{FoundNet}
use Rattle.node_rows.specs.declared.unfit.Unfit.{Unfit}
use Rattle.node_rows.specs.FoundNets.{IsNetAnswer}
use Rattle.node_rows.proofs.FoundLaws.{answer_long, answer_told}
use Rattle.node_rows.proofs.UpToLaws.{all_fine, all_wires}
use Rattle.node_rows.proofs.pin_wires.Wires.of.Goals as goal

pub bounds-answers-net : goal.bounds-answers-net
bounds-answers-net g c =
    let low : c.loop-net.net < length c.args.store.now.nets = omega (arith, c.loop-net-test.true, c.loop-net.auto.net-end, c.net_bound-net-end.ensures.bound) in
    let long : length c.as_slice-answers.result.now ≡ length c.args.store.now.nets =
    ap length c.as_slice-answers.ensures ∙ answer_long c.args.store.now (length c.args.store.now.nets) c.in_ok-found.found c.in_ok-found.ensures in
    omega (arith, low, long)

pub put_answer-requires-clause-answer : goal.put_answer-requires-clause-answer
put_answer-requires-clause-answer g c =
    let low : c.loop-net.net < length c.args.store.now.nets = omega (arith, c.loop-net-test.true, c.loop-net.auto.net-end, c.net_bound-net-end.ensures.bound) in
    answer_told c.args.store.now (length c.args.store.now.nets) c.loop-net.net c.as_slice-answers.result.now c.index-answers-net.result
    (subst (λ (xs : List (Result FoundNet Unfit)). IsMap (IsNetAnswer c.args.store.now) (range_with_len 0 (length c.args.store.now.nets)) xs) (sym c.as_slice-answers.ensures) c.in_ok-found.ensures)
    low c.index-answers-net.is

pub returns-clause-wires : goal.returns-clause-wires
returns-clause-wires g c =
    let end : c.loop-net.net ≡ length c.args.store.now.nets = omega (arith, c.loop-net-test.false, c.loop-net.auto.net-end, c.net_bound-net-end.ensures.bound) in
    all_wires c.args.store.now c.laws.ensures.numbered c.laws.ensures.linked c.loop-net.wires c.loop-net.net end c.loop-net.invariant

pub returns-clause-fine : goal.returns-clause-fine
returns-clause-fine g c =
    let end : c.loop-net.net ≡ length c.args.store.now.nets = omega (arith, c.loop-net-test.false, c.loop-net.auto.net-end, c.net_bound-net-end.ensures.bound) in
    all_fine c.args.store.now c.loop-net.wires c.loop-net.net end c.loop-net.invariant
