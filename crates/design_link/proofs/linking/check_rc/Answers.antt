use Rattle.std.proofs.Common.{◌∙◌, Some, ap, sym, inr}
use Rattle.timing_defs.specs.declared.faults.Fault.TheVariants.{UnknownNet}
use Rattle.timing_defs.specs.Edits.{unless}
use Rattle.design_link.proofs.linking.check_rc.Goals as goal

pub returns-then-contains : goal.returns-then-contains
returns-then-contains c = ap (λ b. unless b (UnknownNet c.args.rc.now.net)) (sym c.contains.ensures ∙ c.if-contains.true)

pub returns : goal.returns
returns c =
    inr (ap (λ b. unless b (UnknownNet c.args.rc.now.net)) (sym c.contains.ensures ∙ c.if-contains.false) ∙ ap (λ n. Some (UnknownNet n)) (sym c.in_ok-net.ensures))
