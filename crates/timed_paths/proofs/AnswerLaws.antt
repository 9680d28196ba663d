-- A path that a search gives holds by some test, and is timed where it is told so.

use Rattle.std.proofs.Common.{◌≡◌, ℕ, List, Option, None, Some, sym, subst}
use Rattle.timing_defs.specs.declared.kinds.Kind.{Kind}
use Rattle.timing_defs.specs.declared.rows.Path.{Path}
use Rattle.timing_defs.specs.declared.closing.TimedPath.{TimedPath}
use Rattle.timing_rules.specs.Paths.{IsShown}
use Rattle.timing_rules.specs.Stages.{IsTimed, IsTiming, IsTimingThrough}
use Rattle.timing_rules.specs.Through.{IsThrough}
use Rattle.netlist_store.specs.Numbering.{Stored}
use Rattle.timed_paths.specs.Found.{IsHeld}

module _ (s : Stored) (kind : Kind) (pin : List ℕ) (o : Option Path) where
  module _ (shown : IsShown s.design kind pin o) where
    pub shown_none : o ≡ None → IsTiming s.design kind pin None
    shown_none e = subst (λ (q : Option Path). IsShown s.design kind pin q) e shown

    module _ (p : Path) (e : o ≡ Some p) where
      its_shown : IsShown s.design kind pin (Some p)
      its_shown = subst (λ (q : Option Path). IsShown s.design kind pin q) e shown

      pub shown_held : IsHeld s kind p
      shown_held = record { test = its_shown.1.0; holds = its_shown.1.1 }

      pub shown_timed : (t : TimedPath) → t.path ≡ p → IsTimed s.design kind t → IsTiming s.design kind pin (Some t)
      shown_timed t same timed = (subst (λ (q : Path). IsShown s.design kind pin (Some q)) (sym same) its_shown, timed)

  module _ (pins : List (List ℕ)) (led : IsThrough s.design kind pin pins o) where
    pub led_none : o ≡ None → IsTimingThrough s.design kind pin pins None
    led_none e = subst (λ (q : Option Path). IsThrough s.design kind pin pins q) e led

    module _ (p : Path) (e : o ≡ Some p) where
      its_led : IsThrough s.design kind pin pins (Some p)
      its_led = subst (λ (q : Option Path). IsThrough s.design kind pin pins q) e led

      pub led_held : IsHeld s kind p
      led_held = record { test = its_led.2.0; holds = its_led.2.1 }

      pub led_timed : (t : TimedPath) → t.path ≡ p → IsTimed s.design kind t → IsTimingThrough s.design kind pin pins (Some t)
      led_timed t same timed = (subst (λ (q : Path). IsThrough s.design kind pin pins (Some q)) (sym same) its_led, timed)
