use Rattle.std.proofs.Common.{ap, sym}
use Rattle.std.specs.Prelude.{is_some}
use Rattle.store_pins.proofs.PinLaws.{told_at}
use Rattle.design_link.proofs.DanglingLaws.{no_pin_no_port}
use Rattle.design_link.proofs.objects.port_dir.Goals as goal

pub port_dir_at-requires : goal.port_dir_at-requires
port_dir_at-requires c = ap is_some (told_at c.args.store.now.pins c.args.name.now c.in-Some.pin (sym c.in-Some.ensures))

pub returns-in-Some : goal.returns-in-Some
returns-in-Some c = c.port_dir_at.ensures c.args.name.now (sym c.in-Some.ensures)

pub returns-in-None : goal.returns-in-None
returns-in-None c = sym (no_pin_no_port c.args.store.now c.laws.ensures.numbered c.args.name.now (sym c.in-None.ensures))
