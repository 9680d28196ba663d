-- Which fault a tree of resistors has, where it has neither a loop nor a node that is not reached, and is small.

use Rattle.std.proofs.Common.{◌≡◌, ◌⊎◌, ℕ, List, Bool, true, false, Option, None, Some, refl, sym, inl, inr, if◌then◌else◌}
use Rattle.std.proofs.lemmas.Bool.{false≢true}
use Rattle.timing_defs.specs.declared.parasitics.NetRc.{NetRc}
use Rattle.timing_defs.specs.declared.rows.PinCap.{PinCap}
use Rattle.timing_defs.specs.NetChecks.{has_cycle}
use Rattle.rc_tree.specs.declared.faults.RcFault.{RcFault}
use Rattle.rc_tree.specs.declared.faults.RcFault.TheVariants.{Loop, Unreached, TooLarge, OutOfRange, Memory}
use Rattle.rc_tree.specs.Trees.{is_unreached, is_too_large, is_out_of_range, rc_fault, IsFaultOf}

module _ (net : NetRc) (root : List ℕ) (pins : List PinCap) where
  pub none_out : rc_fault net root pins ≡ None → is_out_of_range net root pins ≡ false
  none_out e = by (has_cycle net) (is_unreached net root) (is_too_large net root pins) (is_out_of_range net root pins) e
    where
      by : (a b c d : Bool) → ◌≡◌ {A = Option RcFault} (if a then Some Loop else (if b then Some Unreached else (if c then Some TooLarge else (if d then Some OutOfRange else None)))) None → d ≡ false
      by true b c d e = absurd (cc)
      by false true c d e = absurd (cc)
      by false false true d e = absurd (cc)
      by false false false true e = absurd (cc)
      by false false false false e = refl

  pub fault_large : has_cycle net ≡ false → is_unreached net root ≡ false → is_too_large net root pins ≡ false → (fault : RcFault) → IsFaultOf net root pins fault
      → (fault ≡ Memory) ⊎ (is_out_of_range net root pins ≡ true)
  fault_large acyclic reached small fault (inl m) = inl m
  fault_large acyclic reached small fault (inr e) =
      inr (by (has_cycle net) (is_unreached net root) (is_too_large net root pins) (is_out_of_range net root pins) acyclic reached small e)
    where
      by : (a b c d : Bool) → a ≡ false → b ≡ false → c ≡ false
          → ◌≡◌ {A = Option RcFault} (if a then Some Loop else (if b then Some Unreached else (if c then Some TooLarge else (if d then Some OutOfRange else None)))) (Some fault) → d ≡ true
      by true b c d h k m e = absurd (false≢true (sym h))
      by false true c d h k m e = absurd (false≢true (sym k))
      by false false true d h k m e = absurd (false≢true (sym m))
      by false false false true h k m e = refl
      by false false false false h k m e = absurd (cc)
