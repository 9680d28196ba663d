use Rattle.std.proofs.Common.{◌++◌, ◌∙◌, ap, sym, append-nil}
use Rattle.std.specs.List.{flat_map}
use Rattle.std.proofs.lemmas.Grind.{flat_map-append}
use Rattle.timing_rules.specs.Checks.{dangling_exception}
use Rattle.design_link.proofs.DanglingLaws.{grown}
use Rattle.design_link.proofs.dangling.add_exceptions.Goals as goal

pub loop-exception-preserved : goal.loop-exception-preserved
loop-exception-preserved c =
    grown (flat_map (dangling_exception c.args.store.now.design)) (flat_map-append (dangling_exception c.args.store.now.design)) c.args.names.now c.loop-exception.names c.add_exception.new.names c.args.exceptions.now c.loop-exception.exception-index c.exception-item.result c.loop-exception-test.true c.exception-item.is
    c.loop-exception.invariant
    (c.in_ok-add_exception.ensures ∙ ap (λ xs. c.loop-exception.names ++ xs) (sym (append-nil (dangling_exception c.args.store.now.design c.exception-item.result))))
