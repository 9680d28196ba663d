use Rattle.std.proofs.Common.{sym, ap, subst, ◌∙◌, List, Option, ℕ}
use Rattle.netlist_store.specs.Numbering.{is_number, Agrees}
use Rattle.netlist_store.specs.Shards.{number_under}
use Rattle.netlist_store.proofs.NumberLaws.{slots_regap, still_short, waits_none, waits_within}
use Rattle.netlist_store.specs.declared.numberings.Slot.TheVariants.{Gap}
use Rattle.netlist_store.proofs.numberings.Numbering.release.Goals as goal

pub set-requires : goal.set-requires
set-requires c = waits_within c.self.inside.slots c.args.number (sym c.waits.ensures ∙ c.if-not-waits.false)

pub returns : goal.returns
returns c =
    slots_regap c.self.inside.slots c.set.new.self c.args.self.now c.args.number c.self.inside.free c.self.view_is
    (ap (λ (ns : List (Option (List ℕ))). is_number ns c.args.number) (sym c.self.view_is) ∙ waits_none c.self.inside.slots c.args.number (sym c.waits.ensures ∙ c.if-not-waits.false)) c.in_ok-set.ensures.ok

pub invariant_of-self-2 : goal.invariant_of-self-2
invariant_of-self-2 c = (
  subst (Agrees (number_under c.self.inside.numbers)) (c.self.view_is ∙ sym (returns c)) c.self.invariant.0,
  still_short c.self.inside.slots c.set.new.self c.args.number (Gap c.self.inside.free) c.in_ok-set.ensures.ok c.self.invariant.1,
)
