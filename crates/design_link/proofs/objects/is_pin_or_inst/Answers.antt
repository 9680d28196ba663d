use Rattle.std.proofs.Common.{◌∙◌, ap, sym}
use Rattle.std.specs.Prelude.{◌||◌}
use Rattle.std.proofs.lemmas.Bool.{or_left}
use Rattle.timing_defs.specs.Names.{as_pin}
use Rattle.timing_rules.specs.Checks.{is_pin, is_inst}
use Rattle.design_link.proofs.objects.is_pin_or_inst.Goals as goal

pub returns-then-is_pin : goal.returns-then-is_pin
returns-then-is_pin c =
    sym (or_left (is_pin c.args.store.now.design (as_pin c.args.word.now)) (is_inst c.args.store.now.design c.args.word.now)
    (ap (is_pin c.args.store.now.design) (sym c.in_ok-pin.ensures) ∙ sym c.is_pin.ensures ∙ c.if-is_pin.true))

pub returns : goal.returns
returns c =
    c.is_inst.ensures
    ∙ sym (ap (λ b. b || is_inst c.args.store.now.design c.args.word.now) (ap (is_pin c.args.store.now.design) (sym c.in_ok-pin.ensures) ∙ sym c.is_pin.ensures ∙ c.if-is_pin.false))
