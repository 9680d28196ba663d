use Rattle.std.proofs.Common.{◌≡◌, ℕ, length, get_or, ap, sym, ◌∙◌, inl, inr, arith}
use Rattle.std.proofs.lemmas.Bool.{cases_lt}
use Rattle.std.proofs.lemmas.List.{get_or_past}
use Rattle.levelizer.proofs.Walks.{all_levels, no_cycle}
use Rattle.levelizer.proofs.leveling.levels.Goals as goal

pub returns-in-None-clause-levels : goal.returns-in-None-clause-levels
returns-in-None-clause-levels c =
    let none : (m : ℕ) → get_or c.in_ok-levels.field-0.waiting.items m 0 ≡ 0 = λ m.
    elim (cases_lt m (length c.in_ok-levels.field-0.waiting.items)) [
      | inl low ↦ ap (λ xs. get_or xs m 0) (sym c.as_slice.ensures.value) ∙ c.in-None.ensures m (omega (arith, ap length c.as_slice.ensures.value))
      | inr high ↦ get_or_past c.in_ok-levels.field-0.waiting.items m 0 high
    ] in
    rw c.from_vec.ensures (all_levels c.args.n c.args.arcs.now c.in_ok-levels.field-0.levels.items c.in_ok-levels.field-0.waiting.items c.in_ok-levels.ensures none)

pub returns-in-None-clause-no_cycle : goal.returns-in-None-clause-no_cycle
returns-in-None-clause-no_cycle c = no_cycle c.args.n c.args.arcs.now c.from_vec.result c.requires (returns-in-None-clause-levels c)
