use Rattle.std.proofs.Common.{ℕ, ◌≡◌, ◌||◌, take}
use Rattle.std.specs.List.{list_any}
use Rattle.required_engine.specs.Updated.{is_in, is_data}
use Rattle.required_engine.proofs.first_nodes.add_inst_data.Given as goal

abbrev pub invariant-loop-test : goal.invariant-loop-test
invariant-loop-test l = (n : ℕ) → is_in l.nodes n ≡ (is_in l.initial.nodes n || list_any (is_data l.graph.stored l.inst l.clock n) (take l.test-index l.tests))
