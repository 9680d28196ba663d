-- A power of more than 30 rounds each mantissa to 0.
use Rattle.sta_units.proofs.Scaling.{rounds_away}
use Rattle.sta_units.proofs.decimals.scaled_down.Goals as goal

pub returns-then-power-gt30 : goal.returns-then-power-gt30
returns-then-power-gt30 c = rounds_away c.args.mantissa c.args.power c.requires c.if-power-gt30.true
