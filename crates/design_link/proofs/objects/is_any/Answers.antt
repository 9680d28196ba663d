use Rattle.std.proofs.Common.{◌≡◌, ◌∙◌, ap, sym}
use Rattle.std.specs.Prelude.{◌||◌}
use Rattle.timing_defs.specs.Names.{as_pin}
use Rattle.timing_rules.specs.Rules.{is_clock_name}
use Rattle.timing_rules.specs.Checks.{is_pin, is_inst, is_any}
use Rattle.design_link.proofs.DanglingLaws.{any_clock, any_port, any_other}
use Rattle.design_link.proofs.Results.{if_ok}
use Rattle.design_link.proofs.objects.is_any.Goals as goal

pub returns-then-is_clock : goal.returns-then-is_clock
returns-then-is_clock c =
    any_clock c.args.store.now.design c.args.dir c.args.word.now
    (ap (λ cs. is_clock_name cs.clocks c.args.word.now) (sym c.constraints.ensures) ∙ ap (λ xs. is_clock_name xs c.args.word.now) (sym c.as_slice.ensures) ∙ sym c.is_clock.ensures ∙ c.if-is_clock.true)

pub returns-in-Some : goal.returns-in-Some
returns-in-Some c =
    c.is.ensures
    ∙ any_port c.args.store.now.design c.args.dir c.in-Some.its c.args.word.now
    (ap (λ cs. is_clock_name cs.clocks c.args.word.now) (sym c.constraints.ensures) ∙ ap (λ xs. is_clock_name xs c.args.word.now) (sym c.as_slice.ensures) ∙ sym c.is_clock.ensures ∙ c.if-is_clock.false)
    c.in-Some.ensures

pub returns-in-None : goal.returns-in-None
returns-in-None c =
    if_ok c.is_pin_or_inst.result (λ x. x ≡ (is_pin c.args.store.now.design (as_pin c.args.word.now) || is_inst c.args.store.now.design c.args.word.now))
    (λ x. x ≡ is_any c.args.store.now.design c.args.dir c.args.word.now)
    (λ x e. e ∙ any_other c.args.store.now.design c.args.dir c.args.word.now
    (ap (λ cs. is_clock_name cs.clocks c.args.word.now) (sym c.constraints.ensures) ∙ ap (λ xs. is_clock_name xs c.args.word.now) (sym c.as_slice.ensures) ∙ sym c.is_clock.ensures ∙ c.if-is_clock.false)
    c.in-None.ensures) c.is_pin_or_inst.ensures
