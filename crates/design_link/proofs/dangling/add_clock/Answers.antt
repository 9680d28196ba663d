use Rattle.std.proofs.Common.{◌≡◌, ◌++◌, ◌∷◌, [], not}
use Rattle.std.specs.List.{filter_map}
use Rattle.timing_defs.specs.declared.kinds.Dir.TheVariants.{Input}
use Rattle.timing_rules.specs.Checks.{is_port, not_ports}
use Rattle.design_link.proofs.DanglingLaws.{clock_added, no_clock_port}
use Rattle.design_link.proofs.Results.{on_ok}
use Rattle.design_link.proofs.dangling.add_clock.Goals as goal

pub returns-in-Some : goal.returns-in-Some
returns-in-Some c =
    on_ok c.add_port.result (c.add_port.new.names ≡ c.args.names.now ++ not_ports c.args.store.now.design Input (c.in-Some.port ∷ []))
    (c.add_port.new.names ≡ c.args.names.now ++ not_ports c.args.store.now.design Input (filter_map (λ x. x.port) (c.args.clock.now ∷ [])))
    (clock_added (λ name. not (is_port c.args.store.now.design Input name)) c.args.clock.now c.in-Some.port c.args.names.now c.add_port.new.names c.in-Some.is) c.add_port.ensures

pub returns-in-None : goal.returns-in-None
returns-in-None c = no_clock_port (λ name. not (is_port c.args.store.now.design Input name)) c.args.clock.now c.args.names.now c.in-None.is
