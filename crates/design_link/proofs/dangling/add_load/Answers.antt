use Rattle.std.proofs.Common.{◌∙◌, ap, sym}
use Rattle.std.specs.Prelude.{is_none, is_some}
use Rattle.timing_rules.specs.Checks.{port_named}
use Rattle.design_link.proofs.DanglingLaws.{name_added, is_unnamed}
use Rattle.design_link.proofs.dangling.add_load.Goals as goal

pub returns : goal.returns
returns c =
    name_added (λ name. is_none (port_named c.args.store.now.design name)) c.args.load.now.port c.is_none.result c.args.names.now c.add_if.new.names
    (is_unnamed (port_named c.args.store.now.design c.args.load.now.port) c.is_none.result (ap is_some (sym c.port_dir.ensures) ∙ c.is_none.ensures)) c.in_ok-add_if.ensures
