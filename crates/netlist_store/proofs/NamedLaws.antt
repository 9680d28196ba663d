-- Instances by their names and by their numbers.

use Rattle.std.proofs.Common.{◌≡◌, ℕ, true, false, List, Option, None, Some, refl, sym, ap, ◌∙◌}
use Rattle.std.specs.Prelude.{option_and_then, is_some}
use Rattle.std.proofs.lemmas.Bool.{true≢false}
use Rattle.timing_defs.specs.declared.netlist.Inst.{Inst}
use Rattle.timing_defs.specs.Edits.{inst_named}
use Rattle.netlist_store.specs.Numbering.{Stored, number_of, is_number, inst_numbered, IsNumbered}
use Rattle.netlist_store.proofs.NumberLaws.{number_at}

pub number_is : (names : List (Option (List ℕ))) (name : List ℕ) (n : ℕ) → number_of names name ≡ Some n → is_number names n ≡ true
number_is names name n e = ap is_some (number_at names name n e)

pub found_inst : (s : Stored) (name : List ℕ) (n : ℕ) (i : Inst) → number_of s.insts name ≡ Some n → inst_numbered s n ≡ Some i
    → inst_named s.design.insts name ≡ Some i
found_inst s name n i e f = sym (ap (option_and_then (inst_named s.design.insts)) (number_at s.insts name n e)) ∙ f

pub none_is : {X : Type 0} (o : Option X) → is_some o ≡ false → o ≡ None
none_is None h = refl
none_is (Some x) h = absurd (true≢false h)

pub no_inst : (s : Stored) (name : List ℕ) → IsNumbered s → number_of s.insts name ≡ None → inst_named s.design.insts name ≡ None
no_inst s name numbered e = none_is (inst_named s.design.insts name) (sym (numbered.inst_names name) ∙ ap is_some e)
