use Rattle.std.proofs.Common.{sym, ap, ◌∙◌, ◌<◌, ◌≤◌, ◌-◌, ◌^◌, length, arith, subst, refl, List, Option, ℕ}
use Rattle.netlist_store.specs.Numbering.{with_name}
use Rattle.netlist_store.specs.Shards.{number_under}
use Rattle.netlist_store.proofs.NumberLaws.{added, added_short, added_kept}
use Rattle.netlist_store.proofs.numberings.Numbering.with.Goals as goal

pub invariant_of-made : goal.invariant_of-made
invariant_of-made c = (
  added (number_under c.self.inside.numbers) (number_under c.put_name.new.numbers) c.self.inside.slots c.put_name.new.slots c.args.self c.choice-choice.result.number c.args.name c.args.name
      c.self.invariant.0 c.self.view_is c.requires.fresh c.choice-choice.ensures.gap c.choice-choice.ensures.within refl c.in-Ok.ensures.numbers
      c.in-Ok.ensures.slots,
  (let most : c.choice-choice.result.number < 2 ^ 31 - 1 = omega arith in
      added_short c.self.inside.slots c.put_name.new.slots c.choice-choice.result.number c.args.name
      c.in-Ok.ensures.slots
      (subst (λ (xs : List (Option (List ℕ))). c.choice-choice.result.number ≤ length xs) (sym c.self.view_is) c.choice-choice.ensures.within) most c.self.invariant.1),
)

pub returns-in-Ok-clause-kept : goal.returns-in-Ok-clause-kept
returns-in-Ok-clause-kept c =
    added_kept (number_under c.self.inside.numbers) (number_under c.put_name.new.numbers) c.args.base.now c.self.inside.slots c.put_name.new.slots c.args.self c.choice-choice.result.number c.args.name c.args.name
    c.self.invariant.0 c.self.view_is c.requires.fresh c.choice-choice.ensures.gap c.choice-choice.ensures.within refl c.in-Ok.ensures.numbers
    c.in-Ok.ensures.slots
    c.requires.kept c.choice-choice.ensures.number c.choice-choice.ensures.name
