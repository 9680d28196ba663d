-- What an ECO makes of a store that is analysed.

use Rattle.std.proofs.Common.{◌≡◌, ℕ, List, sym, subst}
use Rattle.timing_defs.specs.declared.design.Design.{Design}
use Rattle.timing_defs.specs.declared.edits.Eco.{Eco}
use Rattle.timing_rules.specs.Checks.{Accepts, IsSound}
use Rattle.timing_defs.specs.Touches.{Touch}
use Rattle.netlist_store.specs.Applying.{IsApplied, IsEditOf}
use Rattle.netlist_store.specs.Numbering.{Stored}
use Rattle.netlist_store.specs.Linked.{IsSized}
use Rattle.design_link.specs.After.{IsMadeOf}
use Rattle.affected_cone.specs.Analysed.{Analysed, IsAnalysis}
use Rattle.eco_analysis.specs.Soundness.{IsFaultless, IsSoundEdit}
use Rattle.eco_analysis.proofs.SoundLaws.{sound_faultless, sound_sized}

-- the design of a store that is analysed is sound
module _ (s : Stored) (a : Analysed) (same : s ≡ a.stored) (is : IsAnalysis a) where
  base_sound : IsSound s.design
  base_sound = subst (λ (t : Stored). IsSound t.design) (sym same) is.sound

  pub base_sized : IsSized s.design
  base_sized = sound_sized s.design base_sound

  pub base_edit : (eco : Eco) (nets : List (List ℕ)) (d : Design) → IsMadeOf s.design eco nets d → IsSoundEdit nets d
  base_edit eco nets d made = record { base = s.design; eco = eco; made = made; sound = base_sound }

-- what an ECO makes of the store it makes of the analysis's
pub base_applied : (s base after : Stored) (eco : Eco) (touch : Touch) → s ≡ base → IsApplied s eco after touch → IsEditOf base touch after
base_applied s base after eco touch same made = (eco, subst (λ (t : Stored). IsApplied t eco after touch) same made)

-- an ECO whose design is analysed is accepted
pub analysed_accepted : (base : Design) (eco : Eco) (nets : List (List ℕ)) (stored : Stored) (a : Analysed)
    → IsMadeOf base eco nets stored.design → a.stored ≡ stored → IsAnalysis a → Accepts base eco stored.design
analysed_accepted base eco nets stored a made same analysis =
    (made.made, subst (λ (s : Stored). IsFaultless s.design) same (sound_faultless a.stored.design analysis.sound analysis.fine))
