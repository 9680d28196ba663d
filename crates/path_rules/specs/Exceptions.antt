-- The rule that the exceptions of constraints make for a launch and a capture (SDC).

use Rattle.std.specs.Prelude.{◌&&◌, not, if◌then◌else◌}
use Rattle.std.specs.Option.{unwrap_or}
use Rattle.timing_defs.specs.declared.kinds.Kind.TheVariants.{Setup, Hold}
use Rattle.timing_defs.specs.declared.constraints.Constraints.{Constraints}
use Rattle.timing_defs.specs.declared.constraints.Effect.{Effect}
use Rattle.timing_defs.specs.declared.constraints.Exception.{Exception}
use Rattle.timing_defs.specs.declared.rows.Launch.{Launch}
use Rattle.timing_defs.specs.declared.rows.Capture.{Capture}
use Rattle.timing_rules.specs.Rules.{is_tested, cycles, applies, removes, cycles_in}
use Rattle.path_rules.specs.declared.overrides.Rule.{Rule}

-- which kinds are tested, and how many cycles each kind has
abbrev pub rule_of : Constraints → Launch → Capture → Rule
rule_of c launch capture = record {
  setup_tested = is_tested c Setup launch capture;
  hold_tested = is_tested c Hold launch capture;
  setup_cycles = cycles c Setup launch capture;
  hold_cycles = cycles c Hold launch capture;
}

-- a rule after an effect that applies
abbrev pub after_effect : Rule → Effect → Rule
after_effect r effect = record {
  setup_tested = r.setup_tested && not (removes Setup effect);
  hold_tested = r.hold_tested && not (removes Hold effect);
  setup_cycles = unwrap_or (cycles_in Setup effect) r.setup_cycles;
  hold_cycles = unwrap_or (cycles_in Hold effect) r.hold_cycles;
}

-- a rule after an exception, which may not apply
abbrev pub after : Constraints → Launch → Capture → Rule → Exception → Rule
after c launch capture r x = (if applies c launch capture x then after_effect r x.effect else r)
