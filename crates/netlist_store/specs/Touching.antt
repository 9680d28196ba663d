-- What an ECO touches, gathered edit by edit.

use Rattle.std.specs.Prelude.{ℕ, ◌≡◌, true, List, is_some}
use Rattle.timing_defs.specs.declared.design.Design.{Design}
use Rattle.timing_defs.specs.declared.edits.Edit.{Edit}
use Rattle.timing_defs.specs.Edits.{inst_named, has_colon, before_last}
use Rattle.timing_defs.specs.Touches.{Touch, both_touches, touched_list}
use Rattle.netlist_store.specs.declared.touched.Touched.{Touched}

-- the word of a pin whose instance is there
pub record IsWord (d : Design) (word : List ℕ) : Type 0 where
  pub colon : has_colon word ≡ true
  pub inst : is_some (inst_named d.insts (before_last word)) ≡ true

-- what was gathered, and after it what the edits that are left touch, the first of them in this design
abbrev pub touched_with : Touched → Design → List Edit → Touch
touched_with touched d edits = both_touches (record { insts = touched.insts; nets = touched.nets }) (touched_list d edits)
