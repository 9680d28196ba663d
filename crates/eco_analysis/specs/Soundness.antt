-- Why a design is not analysed and an ECO not accepted, and designs that edits made of sound ones.

use Rattle.std.specs.Prelude.{ℕ, ◌≡◌, ◌⊎◌, List}
use Rattle.timing_defs.specs.declared.design.Design.{Design}
use Rattle.timing_defs.specs.declared.edits.Eco.{Eco}
use Rattle.timing_defs.specs.declared.faults.Fault.{Fault}
use Rattle.timing_defs.specs.declared.faults.Fault.TheVariants.{Memory as no_room}
use Rattle.timing_rules.specs.Checks.{Faulty, IsSound, Refuses}
use Rattle.design_link.specs.After.{IsMadeOf}

-- a fault stands in the design, or memory is wanting
abbrev pub IsUnsound : Design → Fault → Type 0
IsUnsound d x = (x ≡ no_room) ⊎ Faulty d x

-- nothing stands in the design
abbrev pub IsFaultless : Design → Type 0
IsFaultless d = (x : Fault) → Faulty d x → ⊥

-- an ECO made the design of a sound one, and touched these nets
pub record IsSoundEdit (nets : List (List ℕ)) (d : Design) : Type 0 where
  pub base : Design
  pub eco : Eco
  pub made : IsMadeOf base eco nets d
  pub sound : IsSound base

-- an ECO is refused for a fault of its edits or of the design after them, or memory is wanting
abbrev pub IsRefusal : Design → Eco → Fault → Type 0
IsRefusal d eco x = (x ≡ no_room) ⊎ Refuses d eco x
