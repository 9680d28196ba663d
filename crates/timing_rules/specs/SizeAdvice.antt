-- The best of some resizes by the worst or by the total negative slack (own: sizing by trying each move, as `Advice`): those
-- with which it is greater than now, the greatest first. Nothing is free.

use Rattle.std.specs.Prelude.{ℕ, ◌≡◌, ℤ, int_lt, Bool, false, not, ◌&&◌, is_none, if◌then◌else◌, List, [], ◌∷◌, map, filter, length, Option, Some, None, option_map, ⊤}
use Rattle.std.specs.List.{Contains, flat_map, filter_map, list_any}
use Rattle.std.specs.Option.{option_map_or}
use Rattle.std.specs.Ordering.{nat_cmp, int_cmp, ordering_then, is_lt}
use Rattle.std.specs.declared.cmp.Ordering.{Ordering}
use Rattle.std.specs.declared.cmp.Ordering.TheVariants.{Equal}
use Rattle.std.specs.Cmp.Lexicographic.{slice_cmp}
use Rattle.std.specs.Str.{bytes_eq}
use Rattle.timing_defs.specs.declared.kinds.Kind.{Kind}
use Rattle.timing_defs.specs.declared.kinds.Kind.TheVariants.{Setup, Hold}
use Rattle.timing_defs.specs.declared.closing.Aim.{Aim}
use Rattle.timing_defs.specs.declared.closing.Aim.TheVariants.{Wns, Tns}
use Rattle.timing_defs.specs.declared.closing.SizeAdvice.{SizeAdvice}
use Rattle.timing_defs.specs.declared.closing.SlackTotals.{SlackTotals}
use Rattle.timing_defs.specs.declared.closing.AdviceReport.{AdviceReport}
use Rattle.timing_defs.specs.declared.faults.Fault.{Fault}
use Rattle.timing_defs.specs.declared.library.Cell.{Cell}
use Rattle.timing_defs.specs.declared.netlist.Inst.{Inst}
use Rattle.timing_defs.specs.Edits.{inst_named}
use Rattle.timing_defs.specs.declared.reports.Candidate.{Candidate}
use Rattle.timing_defs.specs.declared.design.Design.{Design}
use Rattle.timing_defs.specs.Firsts.{AreFirst}
use Rattle.timing_rules.specs.Advice.{candidate_eco}
use Rattle.timing_rules.specs.Checks.{Accepts, Refuses}
use Rattle.timing_rules.specs.Connections.{may_be, is_alike}
use Rattle.timing_rules.specs.Reports.{IsWns, IsTns}
use Rattle.timing_rules.specs.Rows.{as_fs}

-- the totals of a design
abbrev pub AreSlackTotals : Design → SlackTotals → Type 0
AreSlackTotals d t =
    ((wns : Option ℤ) × IsWns d Setup wns × (t.setup_wns ≡ as_fs wns)) × IsTns d Setup t.setup_tns.0
    × ((wns : Option ℤ) × IsWns d Hold wns × (t.hold_wns ≡ as_fs wns)) × IsTns d Hold t.hold_tns.0

-- what is aimed at
abbrev pub aimed : Kind → Aim → SlackTotals → Option ℤ
aimed Setup Wns t = option_map (λ x. x.0) t.setup_wns
aimed Setup Tns t = Some t.setup_tns.0
aimed Hold Wns t = option_map (λ x. x.0) t.hold_wns
aimed Hold Tns t = Some t.hold_tns.0

-- the design after a candidate's ECO has these totals, or the ECO is refused
abbrev pub IsOutcome : Design → Candidate → Option SlackTotals → Type 0
IsOutcome d c None = (x : Fault) × Refuses d (candidate_eco c) x
IsOutcome d c (Some t) = (d2 : Design) × Accepts d (candidate_eco c) d2 × AreSlackTotals d2 t

abbrev pub AreOutcomes : Design → List Candidate → List (Option SlackTotals) → Type 0
AreOutcomes d [] [] = ⊤
AreOutcomes d [] (o ∷ os) = ⊥
AreOutcomes d (c ∷ cs) [] = ⊥
AreOutcomes d (c ∷ cs) (o ∷ os) = IsOutcome d c o × AreOutcomes d cs os

-- one value improves another where both are there and it is greater
abbrev pub improves : Option ℤ → Option ℤ → Bool
improves None after = false
improves (Some now) after = option_map_or (int_lt now) after false

abbrev pub value_cmp : Option ℤ → Option ℤ → Ordering
value_cmp a b = option_map_or (λ x. option_map_or (int_cmp x) b Equal) a Equal

-- the resizes that improve, in the order of the candidates
abbrev pub advice_by : Candidate → SlackTotals → SizeAdvice
advice_by c t = record { inst = c.inst; cell = c.cell; after = t }

abbrev pub improving : Kind → Aim → SlackTotals → List Candidate → List (Option SlackTotals) → List SizeAdvice
improving kind aim now [] outcomes = []
improving kind aim now (c ∷ cs) [] = []
improving kind aim now (c ∷ cs) (None ∷ os) = improving kind aim now cs os
improving kind aim now (c ∷ cs) (Some t ∷ os) =
    (if improves (aimed kind aim now) (aimed kind aim t)
    then advice_by c t ∷ improving kind aim now cs os
    else improving kind aim now cs os)

-- the greater value comes first, of equals the first by the instance's name, then by the cell's
abbrev pub advised_before : Kind → Aim → SizeAdvice → SizeAdvice → Bool
advised_before kind aim a b =
    is_lt
    (ordering_then (value_cmp (aimed kind aim b.after) (aimed kind aim a.after))
    (ordering_then (slice_cmp nat_cmp a.inst b.inst) (slice_cmp nat_cmp a.cell b.cell)))

-- the five best of those that improve
abbrev pub IsAdviceReport : Design → Kind → Aim → List Candidate → AdviceReport → Type 0
IsAdviceReport d kind aim cs r =
    AreSlackTotals d r.now × (r.tried ≡ length cs)
    × ((outcomes : List (Option SlackTotals)) × AreOutcomes d cs outcomes × (r.refused ≡ length (filter is_none outcomes))
    × AreFirst (advised_before kind aim) 5 (Contains (improving kind aim r.now cs outcomes)) r.rows)

-- each item once, where it is first
abbrev pub once : {X : Type 0} → (X → X → Bool) → List X → List X → List X
once same before [] = []
once same before (x ∷ xs) = (if list_any (same x) before then once same before xs else x ∷ once same (x ∷ before) xs)

abbrev pub same_candidate : Candidate → Candidate → Bool
same_candidate a b = bytes_eq a.inst b.inst && bytes_eq a.cell b.cell

-- the sizes of instances as candidates: the other cells that are alike, each instance once; a cell with other arcs or tests is
-- no size, though an edit is not refused by it
abbrev pub is_candidate : Design → Inst → Cell → Bool
is_candidate d inst cell =
    may_be d inst.name cell.name && is_alike d inst cell && not (bytes_eq cell.name inst.cell)

abbrev pub sizes_of : Design → Inst → List Candidate
sizes_of d inst = map (λ cell. record { inst = inst.name; cell = cell.name }) (filter (is_candidate d inst) d.late.cells)

abbrev pub all_sizes : Design → List (List ℕ) → List Candidate
all_sizes d insts = flat_map (sizes_of d) (filter_map (inst_named d.insts) (once bytes_eq [] insts))
