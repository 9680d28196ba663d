use Rattle.std.proofs.Common.{List, get_or, sym, ap, subst, ◌∙◌, rules}
use Rattle.netlist_store.specs.Linked.{IsLinked}
use Rattle.netlist_store.specs.Numbering.{Stored, IsNumbered}
use Rattle.arrival_engine.specs.declared.nodes.NodeAnswer.{NodeAnswer}
use Rattle.arrival_engine.specs.Updated.{rows_told}
use Rattle.arrival_engine.proofs.UpdateLaws.{heads_low}
use Rattle.arrival_engine.proofs.TurnLaws.{told_rows, told_length}
use Rattle.arrival_engine.proofs.updates.renew_level.Goals as goal

pub wait_after_all-requires-clause-heads : goal.wait_after_all-requires-clause-heads
wait_after_all-requires-clause-heads g c = λ k d within.
    heads_low c.args.graph.now (subst (λ (x : Stored). IsNumbered x) (sym c.requires.plan.same) c.laws.ensures.numbered)
    (subst (λ (x : Stored). IsLinked x.design) (sym c.requires.plan.same) c.laws.ensures.linked) c.laws-2.ensures
    (get_or c.as_slice-nodes.result.now k d) (search rules)

pub wait_after_all-requires-clause-rows : goal.wait_after_all-requires-clause-rows
wait_after_all-requires-clause-rows g c =
    ap (λ (xs : List NodeAnswer). rows_told xs) c.as_slice.ensures ∙ told_rows c.args.graph.now c.as_slice-nodes.result.now c.in_ok-answers.answers c.in_ok-answers.ensures.told

pub put_each-requires-clause-answers : goal.put_each-requires-clause-answers
put_each-requires-clause-answers g c = told_length c.args.graph.now c.as_slice-nodes.result.now c.in_ok-answers.answers c.in_ok-answers.ensures.told
