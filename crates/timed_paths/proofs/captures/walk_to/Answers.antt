use Rattle.std.proofs.Common.{◌≡◌, ℕ, List, [], ◌∷◌, ◌++◌, map, Option, Some, sym, ap, subst, ◌∙◌}
use Rattle.pin_graph.specs.Nodes.{node_at}
use Rattle.timed_paths.specs.TestNumbers.{walk_of, MayBeWalked}
use Rattle.timed_paths.proofs.CaptureLaws.{walked_is, all_low, all_there, before_none}
use Rattle.timed_paths.proofs.captures.walk_to.Goals as goal

pub returns-clause-walk : goal.returns-clause-walk
returns-clause-walk c =
    walked_is c.args.graph.now c.args.store.now c.requires.graph c.laws.ensures.numbered c.laws.ensures.linked c.laws-2.ensures c.in-Some.clock
    (subst (λ (o : Option ℕ). MayBeWalked c.args.store.now o) c.in-Some.is c.requires.clock) c.push.new.self
    (c.in_ok-push.ensures.ok ∙ ap (λ (xs : List ℕ). xs ++ c.in-Some.clock ∷ []) (c.in_ok-numbers.ensures.value ∙ before_none c.args.graph.now c.in-Some.clock))
    ∙ ap (λ (o : Option ℕ). map Some (walk_of c.args.store.now o)) (sym c.in-Some.is)

pub returns-clause-below : goal.returns-clause-below
returns-clause-below c =
    all_low c.args.store.now c.push.new.self (walk_of c.args.store.now (Some c.in-Some.clock))
    (walked_is c.args.graph.now c.args.store.now c.requires.graph c.laws.ensures.numbered c.laws.ensures.linked c.laws-2.ensures c.in-Some.clock
    (subst (λ (o : Option ℕ). MayBeWalked c.args.store.now o) c.in-Some.is c.requires.clock) c.push.new.self
    (c.in_ok-push.ensures.ok ∙ ap (λ (xs : List ℕ). xs ++ c.in-Some.clock ∷ []) (c.in_ok-numbers.ensures.value ∙ before_none c.args.graph.now c.in-Some.clock)))

pub returns-clause-there : goal.returns-clause-there
returns-clause-there c =
    all_there c.args.store.now c.push.new.self (walk_of c.args.store.now (Some c.in-Some.clock))
    (walked_is c.args.graph.now c.args.store.now c.requires.graph c.laws.ensures.numbered c.laws.ensures.linked c.laws-2.ensures c.in-Some.clock
    (subst (λ (o : Option ℕ). MayBeWalked c.args.store.now o) c.in-Some.is c.requires.clock) c.push.new.self
    (c.in_ok-push.ensures.ok ∙ ap (λ (xs : List ℕ). xs ++ c.in-Some.clock ∷ []) (c.in_ok-numbers.ensures.value ∙ before_none c.args.graph.now c.in-Some.clock)))
