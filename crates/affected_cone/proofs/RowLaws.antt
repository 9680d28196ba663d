-- The rows of endpoints, one by one.

use Rattle.std.proofs.Common.{◌≡◌, ℕ, suc, ◌+◌, ◌<◌, ℤ, List, [], ◌∷◌, ◌++◌, map, drop, length, get_or, None, Some, append_assoc, sym, ap, ◌∙◌, arith}
use Rattle.std.specs.Prelude.{option_map}
use Rattle.std.specs.List.{cons_option}
use Rattle.std.specs.Option.{unwrap_or}
use Rattle.std.proofs.Math.Seq.{drop-cons}
use Rattle.std.proofs.lemmas.List.{map-append}
use Rattle.timing_defs.specs.declared.kinds.Kind.{Kind}
use Rattle.timing_defs.specs.declared.reports.EndRow.{EndRow}
use Rattle.netlist_store.specs.Numbering.{Stored, name_at}
use Rattle.affected_cone.specs.declared.ends.EndSlacks.{EndSlacks}
use Rattle.affected_cone.specs.declared.ranking.Ranked.{Ranked}
use Rattle.affected_cone.specs.Analysed.{slack_in}
use Rattle.affected_cone.specs.Ranks.{end_row, row_with, row_of, rows_of}

pub row_made : (s : Stored) (kind : Kind) (end : EndSlacks) (name : List ℕ) (x : ℤ) → name_at s.pins end.pin ≡ Some name → slack_in kind end ≡ Some x
    → Some (row_with name x) ≡ row_of s kind end
row_made s kind end name x at is =
    sym (ap (option_map (row_with (unwrap_or (name_at s.pins end.pin) []))) is ∙ ap (λ o. Some (row_with (unwrap_or o []) x)) at)

pub row_none : (s : Stored) (kind : Kind) (end : EndSlacks) → slack_in kind end ≡ None → None ≡ row_of s kind end
row_none s kind end is = sym (ap (option_map (row_with (unwrap_or (name_at s.pins end.pin) []))) is)

-- while rows are gathered: those so far, and those of the endpoints that are left
abbrev pub AreGathered : Stored → Kind → List EndSlacks → List Ranked → ℕ → List EndRow → Type 0
AreGathered s kind ends found i all = map end_row found ++ rows_of s kind (drop i ends) ≡ all

module _ (s : Stored) (kind : Kind) (ends : List EndSlacks) (i : ℕ) (end : EndSlacks) (low : i < length ends) (is : end ≡ get_or ends i end) (found : List Ranked) (all : List EndRow) where
  cut : rows_of s kind (drop i ends) ≡ cons_option (row_of s kind end) (rows_of s kind (drop (i + 1) ends))
  cut =
      let one : i + 1 ≡ suc i = omega arith in
      ap (rows_of s kind) (drop-cons ends i end low ∙ ap (λ e. e ∷ drop (suc i) ends) (sym is) ∙ ap (λ n. end ∷ drop n ends) (sym one))

  pub gathered_one : (more : List Ranked) (r : Ranked) → Some (end_row r) ≡ row_of s kind end → more ≡ found ++ r ∷ [] → AreGathered s kind ends found i all → AreGathered s kind ends more (i + 1) all
  gathered_one more r row e before =
      ap (λ rs. map end_row rs ++ rows_of s kind (drop (i + 1) ends)) e
      ∙ ap (λ rs. rs ++ rows_of s kind (drop (i + 1) ends)) (map-append end_row found (r ∷ []))
      ∙ append_assoc (map end_row found) (end_row r ∷ []) (rows_of s kind (drop (i + 1) ends))
      ∙ ap (λ o. map end_row found ++ cons_option o (rows_of s kind (drop (i + 1) ends))) row
      ∙ sym (ap (λ rs. map end_row found ++ rs) cut)
      ∙ before

  pub gathered_none : None ≡ row_of s kind end → AreGathered s kind ends found i all → AreGathered s kind ends found (i + 1) all
  gathered_none row before =
      ap (λ o. map end_row found ++ cons_option o (rows_of s kind (drop (i + 1) ends))) row
      ∙ sym (ap (λ rs. map end_row found ++ rs) cut)
      ∙ before
