use Rattle.std.proofs.Common.{ℕ, ◌≡◌, ◌||◌, take}
use Rattle.required_engine.specs.Updated.{is_in, is_clocked_of}
use Rattle.required_engine.proofs.first_nodes.add_clocked_of.Given as goal

abbrev pub invariant-loop-clock : goal.invariant-loop-clock
invariant-loop-clock l = (n : ℕ) → is_in l.nodes n ≡ (is_in l.initial.nodes n || is_clocked_of l.graph.stored (take l.clock-index l.clocks) n)
