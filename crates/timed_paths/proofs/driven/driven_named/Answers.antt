use Rattle.std.proofs.Common.{◌≡◌, Option, sym, ap, subst, ◌∙◌}
use Rattle.std.specs.Prelude.{is_some, option_and_then}
use Rattle.timing_defs.specs.declared.closing.DrivenNet.{DrivenNet}
use Rattle.timing_rules.specs.Stages.{driven_by}
use Rattle.timing_defs.specs.Netlist.{pin_named}
use Rattle.netlist_store.specs.Numbering.{pin_numbered}
use Rattle.store_pins.proofs.PinLaws.{told_at}
use Rattle.path_search.proofs.Forms.{ok_then}
use Rattle.timed_paths.proofs.NumberLaws.{numbered_pin}
use Rattle.timed_paths.proofs.driven.driven_named.Goals as goal

pub driven_by-requires-clause-pin : goal.driven_by-requires-clause-pin
driven_by-requires-clause-pin c =
    ap is_some (told_at c.args.store.now.pins c.args.pin.now c.in-Some.number (sym c.pin.ensures ∙ c.in-Some.is))

pub returns-in-Some : goal.returns-in-Some
returns-in-Some c =
    ok_then c.driven_by.result
    (λ (made : Option DrivenNet). option_and_then (driven_by c.args.store.now.design c.args.split) (pin_numbered c.args.store.now c.in-Some.number) ≡ made)
    (λ (made : Option DrivenNet). made ≡ option_and_then (driven_by c.args.store.now.design c.args.split) (pin_named c.args.store.now.design c.args.pin.now))
    c.driven_by.ensures
    (λ made e. sym e ∙ ap (option_and_then (driven_by c.args.store.now.design c.args.split)) (numbered_pin c.args.store.now c.args.pin.now c.in-Some.number (sym c.pin.ensures ∙ c.in-Some.is)))
