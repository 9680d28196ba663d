use Rattle.std.proofs.Common.{◌≡◌, ◌+◌, take}
use Rattle.std.specs.Arc.{arc_value}
use Rattle.session_engine.proofs.replaying.steps.Given as goal

-- the version of the entries so far
abbrev pub invariant-loop-entry : goal.invariant-loop-entry
invariant-loop-entry g l = record {
  at : l.place ≡ l.entry-index + 1;
  origin : (arc_value l.held).origin ≡ (arc_value l.fn.version).origin;
  journal : (arc_value l.held).journal ≡ take l.entry-index l.entries;
}
