use Rattle.std.proofs.Common.{ℕ, ◌≡◌, ◌||◌, take}
use Rattle.required_engine.specs.Updated.{is_in}
use Rattle.required_engine.proofs.first_nodes.add_all.Given as goal

abbrev pub invariant-loop-node : goal.invariant-loop-node
invariant-loop-node l = (n : ℕ) → is_in l.nodes n ≡ (is_in l.initial.nodes n || is_in (take l.node-index l.others) n)
