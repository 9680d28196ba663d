-- Faults that are planned by the numbers of calls, counted from 1.
use Rattle.std.specs.Prelude.{◌==◌, ◌||◌, Bool, cond}
use Rattle.std.specs.List.{list_any}
use Rattle.sta_outside.specs.Shelf.{raised}
use Rattle.sta_outside.specs.declared.plan.Plan.{Plan}

-- whether the next call is one that fails
abbrev pub next_fails : Plan → Bool
next_fails p = list_any (λ n. n == raised p.calls) p.fails.items

-- the plan with one more fault
abbrev pub with_fault : Plan → Plan
with_fault p = record { fails = p.fails; calls = p.calls; faults = raised p.faults }

-- the plan after the next call has begun
abbrev pub after_call : Plan → Plan
after_call p = record { fails = p.fails; calls = raised p.calls; faults = cond (next_fails p) (raised p.faults) p.faults }

-- the plan after a put: one that is not planned to fail, and whose piece does not fit, is a fault of its own
abbrev pub after_put : Plan → Bool → Plan
after_put p fits = cond (next_fails p || fits) (after_call p) (with_fault (after_call p))
