use Rattle.std.proofs.Common.{◌∙◌, ◌∷◌, ◌++◌, Some, sym, ap, inr}
use Rattle.std.specs.List.{list_any}
use Rattle.std.specs.Str.{bytes_eq}
use Rattle.timing_defs.specs.declared.faults.Fault.TheVariants.{UnknownPin}
use Rattle.timing_defs.specs.Edits.{unless}
use Rattle.design_link.proofs.LinkLaws.{pin_there}
use Rattle.design_link.proofs.linking.check_conn.Goals as goal

pub returns-then-has_pin : goal.returns-then-has_pin
returns-then-has_pin c =
    pin_there c.args.inst.now c.args.cell.now c.args.conn.now c.has_pin.result
    (c.has_pin.ensures ∙ ap (list_any (λ p. bytes_eq p.name c.args.conn.now.pin)) c.as_slice.ensures)
    ∙ ap (λ b. unless b (UnknownPin (c.args.inst.now ++ 58 ∷ c.args.conn.now.pin))) c.if-has_pin.true

pub returns : goal.returns
returns c =
    inr (pin_there c.args.inst.now c.args.cell.now c.args.conn.now c.has_pin.result
    (c.has_pin.ensures ∙ ap (list_any (λ p. bytes_eq p.name c.args.conn.now.pin)) c.as_slice.ensures)
    ∙ ap (λ b. unless b (UnknownPin (c.args.inst.now ++ 58 ∷ c.args.conn.now.pin))) c.if-has_pin.false ∙ ap (λ n. Some (UnknownPin n)) (sym c.in_ok-pin.ensures))
