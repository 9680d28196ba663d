-- Words that several questions of a script have.
use Rattle.std.specs.Prelude.{ℕ, List, [], ◌∷◌, Bool, true, false, ◌==◌, ◌&&◌, length, if◌then◌else◌, codes, Option, Some, None, option_map}
use Rattle.std.specs.Str.{bytes_eq}
use Rattle.timing_defs.specs.declared.kinds.Kind.{Kind}
use Rattle.timing_defs.specs.declared.kinds.Kind.TheVariants.{Setup, Hold}
use Rattle.timing_defs.specs.declared.reports.Candidate.{Candidate}
use Rattle.timing_defs.specs.declared.reports.Query.{Query}
use Rattle.timing_defs.specs.declared.reports.Query.TheVariants.{WhatIf'}
use Rattle.eco_journal.specs.Lines.{Part}
use Rattle.eco_journal.specs.Words.{text, is_word}
use Rattle.eco_journal.specs.EditLines.{names}

abbrev pub kind_of : List ℕ → Option Kind
kind_of word = (if bytes_eq word (codes "setup") then Some Setup else (if bytes_eq word (codes "hold") then Some Hold else None))

-- PIN KIND behind a command
abbrev pub endpoint_of : List Part → Option (List ℕ × Kind)
endpoint_of words =
    (if length words == 3 && names words 1 then option_map (λ (kind : Kind). (text words 1, kind)) (kind_of (text words 2)) else None)

-- KIND behind a command
abbrev pub only_kind : List Part → Option Kind
only_kind words = (if length words == 2 then kind_of (text words 1) else None)

-- names in pairs, the one of an instance and that of a cell
abbrev pub are_pairs : List Part → Bool
are_pairs [] = true
are_pairs (inst ∷ []) = false
are_pairs (inst ∷ cell ∷ words) = is_word inst && is_word cell && are_pairs words

abbrev pub candidates_of : List Part → List Candidate
candidates_of [] = []
candidates_of (inst ∷ []) = []
candidates_of (inst ∷ cell ∷ words) = record { inst = inst.text; cell = cell.text } ∷ candidates_of words

-- whether a draft may be asked a question: any but one about a draft
abbrev pub may_be_tried : Query → Bool
may_be_tried (WhatIf' shape trials) = false
may_be_tried q = true
