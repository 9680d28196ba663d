-- The questions that closing timing needs, by the words of a line (own; the reports are those of OpenSTA).
use Rattle.std.specs.Prelude.{ℕ, List, Bool, ◌==◌, ◌&&◌, nat_le, length, drop, if◌then◌else◌, codes, Option, Some, None, option_map, option_and_then}
use Rattle.std.specs.List.{list_all}
use Rattle.std.specs.Str.{bytes_eq}
use Rattle.timing_defs.specs.declared.kinds.Kind.{Kind}
use Rattle.timing_defs.specs.declared.closing.Aim.{Aim}
use Rattle.timing_defs.specs.declared.closing.Aim.TheVariants.{Wns, Tns}
use Rattle.timing_defs.specs.declared.closing.ClosingQuery.{ClosingQuery}
use Rattle.timing_defs.specs.declared.closing.ClosingQuery.TheVariants.{Net, Instance, Sizes, Timing, TimingThrough, WorstPaths, Failing, Summary, Skew, AdviseTns, AdviseSizes}
use Rattle.timing_defs.specs.declared.reports.Candidate.{Candidate}
use Rattle.eco_journal.specs.Lines.{Part}
use Rattle.eco_journal.specs.Words.{text, says, is_word, number_of, within}
use Rattle.eco_journal.specs.EditLines.{names, texts_of}
use Rattle.script_reader.specs.Words.{kind_of, endpoint_of, only_kind, are_pairs, candidates_of}

-- N or I behind a command
abbrev pub one_name : List Part → Option (List ℕ)
one_name words = (if length words == 2 && names words 1 then Some (text words 1) else None)

abbrev pub name_asked : List Part → List ℕ → Option ClosingQuery
name_asked words name =
    (if says words 0 (codes "report_net") then Some (Net name) else
    (if says words 0 (codes "report_instance") then Some (Instance name) else
    (if says words 0 (codes "report_sizes") then Some (Sizes name) else None)))

abbrev pub name_query : List Part → Option ClosingQuery
name_query words = option_and_then (name_asked words) (one_name words)

-- PIN KIND behind a command
abbrev pub timing_asked : List Part → List ℕ × Kind → Option ClosingQuery
timing_asked words e = (if says words 0 (codes "report_timing") then Some (Timing e.0 e.1) else None)

abbrev pub timing_query : List Part → Option ClosingQuery
timing_query words = option_and_then (timing_asked words) (endpoint_of words)

-- PIN KIND and 1 to 16 names behind a command
abbrev pub timed_through_at : List ℕ → List (List ℕ) → Option Kind → Option ClosingQuery
timed_through_at pin pins None = None
timed_through_at pin pins (Some kind) = Some (TimingThrough pin kind pins)

abbrev pub timed_through_of : List Part → Option ClosingQuery
timed_through_of words =
    (if nat_le 4 (length words) && nat_le (length words) 19 && names words 1 && list_all is_word (drop 3 words)
    then timed_through_at (text words 1) (texts_of (drop 3 words)) (kind_of (text words 2))
    else None)

-- KIND K, or KIND K each M, behind a command: K from 1 to 100, M from 1 to K
abbrev pub each_of : List Part → ℕ → Option ℕ
each_of words count =
    (if length words == 3 then Some 1 else
    (if length words == 5 && says words 3 (codes "each") then within 1 count (number_of (text words 4)) else None))

abbrev pub worst_paths_at : List Part → Option Kind → Option ℕ → Option ClosingQuery
worst_paths_at words None count = None
worst_paths_at words (Some kind) None = None
worst_paths_at words (Some kind) (Some count) = option_map (λ (each : ℕ). WorstPaths kind count each) (each_of words count)

abbrev pub worst_paths_of : List Part → Option ClosingQuery
worst_paths_of words = worst_paths_at words (kind_of (text words 1)) (within 1 100 (number_of (text words 2)))

-- KIND behind a command
abbrev pub kind_asked : List Part → Kind → Option ClosingQuery
kind_asked words kind =
    (if says words 0 (codes "report_failing") then Some (Failing kind) else
    (if says words 0 (codes "report_summary") then Some (Summary kind) else None))

abbrev pub kind_query : List Part → Option ClosingQuery
kind_query words = option_and_then (kind_asked words) (only_kind words)

-- nothing behind a command
abbrev pub skew_of : List Part → Option ClosingQuery
skew_of words = (if length words == 1 then Some Skew else None)

-- KIND and 1 to 100 pairs of names behind a command
abbrev pub advise_tns_at : List Candidate → Option Kind → Option ClosingQuery
advise_tns_at candidates None = None
advise_tns_at candidates (Some kind) = Some (AdviseTns kind candidates)

abbrev pub advise_tns_of : List Part → Option ClosingQuery
advise_tns_of words =
    (if nat_le 4 (length words) && nat_le (length words) 202 && are_pairs (drop 2 words)
    then advise_tns_at (candidates_of (drop 2 words)) (kind_of (text words 1))
    else None)

-- KIND, what is aimed at, and names behind a command
abbrev pub aim_of : List ℕ → Option Aim
aim_of word = (if bytes_eq word (codes "wns") then Some Wns else (if bytes_eq word (codes "tns") then Some Tns else None))

abbrev pub sizes_at : List (List ℕ) → Option Kind → Option Aim → Option ClosingQuery
sizes_at insts None aim = None
sizes_at insts (Some kind) None = None
sizes_at insts (Some kind) (Some aim) = Some (AdviseSizes kind aim insts)

abbrev pub advise_sizes_of : List Part → Option ClosingQuery
advise_sizes_of words =
    (if nat_le 4 (length words) && list_all is_word (drop 3 words)
    then sizes_at (texts_of (drop 3 words)) (kind_of (text words 1)) (aim_of (text words 2))
    else None)

-- the first of two that is there
abbrev pub first_closing : Option ClosingQuery → Option ClosingQuery → Option ClosingQuery
first_closing None other = other
first_closing (Some q) other = Some q

-- the question of a line that its first word alone does not tell
abbrev pub other_of : List Part → Option ClosingQuery
other_of words = first_closing (name_query words) (first_closing (timing_query words) (kind_query words))

-- the question of a line
abbrev pub closing_of : List Part → Option ClosingQuery
closing_of words =
    (if says words 0 (codes "report_timing_through") then timed_through_of words else
    (if says words 0 (codes "report_worst_paths") then worst_paths_of words else
    (if says words 0 (codes "report_skew") then skew_of words else
    (if says words 0 (codes "advise_tns") then advise_tns_of words else
    (if says words 0 (codes "advise_sizes") then advise_sizes_of words else
    other_of words)))))
