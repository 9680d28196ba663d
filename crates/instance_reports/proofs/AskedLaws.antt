-- The candidates of an instance by its name.

use Rattle.std.proofs.Common.{◌≡◌, ℕ, List, [], map, filter, Option, Some, sym, ap, ◌∙◌}
use Rattle.std.specs.Prelude.{Result, Ok, Err, IfOk, option_and_then}
use Rattle.std.specs.Option.{option_map_or}
use Rattle.timing_defs.specs.declared.library.Cell.{Cell}
use Rattle.timing_defs.specs.declared.netlist.Inst.{Inst}
use Rattle.timing_defs.specs.declared.reports.Candidate.{Candidate}
use Rattle.timing_defs.specs.Edits.{inst_named}
use Rattle.timing_rules.specs.SizeAdvice.{is_candidate, sizes_of}
use Rattle.netlist_store.specs.Numbering.{Stored, name_at, inst_numbered}
use Rattle.instance_reports.specs.Resizes.{candidate_by}

pub ok_more : {T E : Type 0} (r : Result T E) (P Q : T → Type 0) → ((x : T) → P x → Q x) → IfOk r P → IfOk r Q
ok_more (Ok x) P Q f h = f x h
ok_more (Err e) P Q f h = tt

module _ (s : Stored) (name : List ℕ) (n : ℕ) (inst : Inst) (at : name_at s.insts n ≡ Some name) (is : inst_numbered s n ≡ Some inst) where
  named : inst_named s.design.insts name ≡ Some inst
  named = sym (ap (option_and_then (inst_named s.design.insts)) at) ∙ is

  pub told_candidates : (cells : List Cell) (made : List Candidate) → cells ≡ s.design.late.cells
      → made ≡ map (λ cell. candidate_by inst.name cell.name) (filter (is_candidate s.design inst) cells)
      → made ≡ option_map_or (sizes_of s.design) (inst_named s.design.insts name) []
  told_candidates cells made same told =
      told ∙ ap (λ (cs : List Cell). map (λ cell. candidate_by inst.name cell.name) (filter (is_candidate s.design inst) cs)) same
      ∙ sym (ap (λ (o : Option Inst). option_map_or (sizes_of s.design) o []) named)
