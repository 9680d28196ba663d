use Rattle.std.proofs.Common.{rules, sym, subst, true≢false, FitsSigned, w64}
use Rattle.std.proofs.lemmas.Int.{to_z-of_z}
use Rattle.bounded_slack.specs.Cuts.{HasPopped}
use Rattle.bounded_slack.proofs.Keys.{sums_of, map_popped, none_popped}
use Rattle.bounded_slack.proofs.reached.Reached.pop.Goals as goal

pub returns-in-Some : goal.returns-in-Some
returns-in-Some c =
    let fits : FitsSigned w64 c.in-Some.sum = search rules in
    subst (HasPopped (sums_of c.args.self.now.sums) (sums_of c.pop_last.new.self) c.in-Some.level c.in-Some.node) (sym (to_z-of_z w64 c.in-Some.sum fits))
    (map_popped c.args.self.now.sums c.pop_last.new.self c.in-Some.level c.in-Some.node c.in-Some.sum c.in-Some.ensures.value c.in-Some.ensures.updates c.in-Some.ensures.all_below)

pub returns-in-None : goal.returns-in-None
returns-in-None c =
    none_popped c.args.self.now.sums c.pop_last.new.self (λ low. true≢false (sym (c.in-None.ensures.variant.1 low))) c.in-None.ensures.unchanged
