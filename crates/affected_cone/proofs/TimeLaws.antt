-- Times on launch edges are within their limits where all times are; and the clocks one by one.

use Rattle.std.proofs.Common.{◌≡◌, ℕ, suc, ◌+◌, ◌<◌, ℤ, true, List, [], ◌∷◌, length, drop, get_or, Option, refl, sym, ap, ◌∙◌, inl, inr, arith}
use Rattle.std.specs.Prelude.{nat_eq, ◌&&◌}
use Rattle.std.specs.List.{list_all}
use Rattle.std.proofs.Math.Seq.{drop-cons}
use Rattle.std.proofs.lemmas.Bool.{cases_Bool, and_parts}
use Rattle.sta_units.specs.Numbers.{is_within}
use Rattle.timing_defs.specs.declared.kinds.Tran.{Tran}
use Rattle.timing_defs.specs.declared.kinds.Tran.TheVariants.{Rise, Fall}
use Rattle.timing_defs.specs.declared.kinds.Split.TheVariants.{Early}
use Rattle.timing_defs.specs.declared.edge_times.EdgeTime.{EdgeTime}
use Rattle.timing_defs.specs.declared.constraints.Clock.{Clock}
use Rattle.timing_defs.specs.declared.rows.NodeRow.{NodeRow}
use Rattle.timing_defs.specs.declared.rows.BackRow.{BackRow}
use Rattle.timing_defs.specs.Netlist.{same_tran}
use Rattle.timing_defs.specs.RowTimes.{time_on}
use Rattle.timing_rules.specs.Rows.{outermost, clock_edges}
use Rattle.timing_rules.specs.Range.{within_some}
use Rattle.node_rows.specs.Evaluation.{is_row_within}
use Rattle.required_engine.specs.Worked.{is_back_within}

abbrev pub are_within : List EdgeTime → Type 0
are_within times = list_all (λ (t : EdgeTime). is_within t.time.0) times ≡ true

time_within : (times : List EdgeTime) (edge : ℕ × Tran) → are_within times → within_some (time_on times edge) ≡ true
time_within [] edge h = refl
time_within (t ∷ ts) edge h =
    let parts = and_parts (is_within t.time.0) (list_all (λ (u : EdgeTime). is_within u.time.0) ts) h in
    elim (cases_Bool (nat_eq t.clock edge.0 && same_tran t.tran edge.1)) [
      | inl e ↦ rw e parts.0
      | inr e ↦ rw e (time_within ts edge parts.1)
    ]

pub time_low : (all times : List EdgeTime) → are_within all → times ≡ all → (edge : ℕ × Tran) (r : Option ℤ) → r ≡ time_on times edge → within_some r ≡ true
time_low all times h same edge r e = ap within_some (e ∙ ap (λ (ts : List EdgeTime). time_on ts edge) same) ∙ time_within all edge h

pub late_row : (row : NodeRow) → is_row_within row ≡ true → are_within row.late
late_row row h = (and_parts _ (list_all (λ (t : EdgeTime). is_within t.time.0) row.late) h).1

pub early_row : (row : NodeRow) → is_row_within row ≡ true → are_within row.early
early_row row h =
    (and_parts _ (list_all (λ (t : EdgeTime). is_within t.time.0) row.early)
    (and_parts (_ && list_all (λ (t : EdgeTime). is_within t.time.0) row.early) (list_all (λ (t : EdgeTime). is_within t.time.0) row.late) h).0).1

pub late_back : (row : BackRow) → is_back_within row ≡ true → are_within row.late
late_back row h = (and_parts (list_all (λ (t : EdgeTime). is_within t.time.0) row.early) (list_all (λ (t : EdgeTime). is_within t.time.0) row.late) h).1

pub early_back : (row : BackRow) → is_back_within row ≡ true → are_within row.early
early_back row h = (and_parts (list_all (λ (t : EdgeTime). is_within t.time.0) row.early) (list_all (λ (t : EdgeTime). is_within t.time.0) row.late) h).0

-- the edges of one clock more
over_rest : (f : ℕ × Tran → Option ℤ) (best : Option ℤ) (at : ℕ) (c : Clock) (cs : List Clock)
    → outermost Early f best (clock_edges at (c ∷ cs)) ≡ outermost Early f (outermost Early f best ((at, Rise) ∷ (at, Fall) ∷ [])) (clock_edges (at + 1) cs)
over_rest f best at c cs = refl

pub clock_more : (f : ℕ × Tran → Option ℤ) (best next all : Option ℤ) (clocks : List Clock) (at : ℕ) (c : Clock) → at < length clocks
    → outermost Early f best (clock_edges at (drop at clocks)) ≡ all → next ≡ outermost Early f best ((at, Rise) ∷ (at, Fall) ∷ [])
    → outermost Early f next (clock_edges (at + 1) (drop (at + 1) clocks)) ≡ all
clock_more f best next all clocks at c low before e =
    let one : at + 1 ≡ suc at = omega arith in
    let cut : drop at clocks ≡ get_or clocks at c ∷ drop (at + 1) clocks = drop-cons clocks at c low ∙ ap (λ n. get_or clocks at c ∷ drop n clocks) (sym one) in
    ap (λ b. outermost Early f b (clock_edges (at + 1) (drop (at + 1) clocks))) e
    ∙ sym (over_rest f best at (get_or clocks at c) (drop (at + 1) clocks))
    ∙ sym (ap (λ cs. outermost Early f best (clock_edges at cs)) cut)
    ∙ before
