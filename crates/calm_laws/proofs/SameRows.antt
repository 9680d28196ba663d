-- Rows that compare as the same are equal, and the other way round.

use Rattle.std.proofs.Common.{◌≡◌, true, List, Option, None, Some, refl, sym, ap, ◌∙◌}
use Rattle.std.specs.Prelude.{Decides, nat_eq, ◌&&◌}
use Rattle.std.specs.Cmp.Lexicographic.{pointwise}
use Rattle.std.proofs.lemmas.Bool.{false≢true, and_parts, and_from}
use Rattle.std.proofs.lemmas.Bool.Decides.{Decides-int_eq, Decides-eqb}
use Rattle.std.proofs.lemmas.Slice.Eq.{slice_eq-Decides}
use Rattle.sta_units.specs.declared.units.Fs.{Fs}
use Rattle.timing_defs.specs.declared.edge_times.EdgeTime.{EdgeTime}
use Rattle.timing_defs.specs.declared.rows.NodeRow.{NodeRow}
use Rattle.timing_defs.specs.declared.rows.BackRow.{BackRow}
use Rattle.timing_defs.specs.Netlist.{same_tran}
use Rattle.timing_rules.specs.Cones.{same_option, same_fs, same_time, same_row, same_back}
use Rattle.calm_laws.proofs.CellNodes.{tran_is}
use Rattle.calm_laws.proofs.InDesign.{self_tran}

fs_told : (a b : Fs) → Decides (same_fs a b) (a ≡ b)
fs_told a b = (λ e. (let time : a.0 ≡ b.0 = (Decides-int_eq a.0 b.0).0 e in λ k. record { 0 = time k }), λ e. (Decides-int_eq a.0 b.0).1 (ap (λ (t : Fs). t.0) e))

option_told : (a b : Option Fs) → Decides (same_option same_fs a b) (a ≡ b)
option_told None None = (λ e. refl, λ e. refl)
option_told None (Some y) = (λ e. absurd (false≢true e), λ e. absurd (cc))
option_told (Some x) None = (λ e. absurd (false≢true e), λ e. absurd (cc))
option_told (Some x) (Some y) = (λ e. ap Some ((fs_told x y).0 e), λ e. (fs_told x y).1 (let f : x ≡ y = cc in f))

time_told : (a b : EdgeTime) → Decides (same_time a b) (a ≡ b)
time_told a b = (there, back)
  where
    there : same_time a b ≡ true → a ≡ b
    there e =
        let two = and_parts (nat_eq a.clock b.clock && same_tran a.tran b.tran) (same_fs a.time b.time) e in
        let one = and_parts (nat_eq a.clock b.clock) (same_tran a.tran b.tran) two.0 in
        let clock = (Decides-eqb a.clock b.clock).0 one.0 in
        let tran = tran_is a.tran b.tran one.1 in
        let time = (fs_told a.time b.time).0 two.1 in
        λ k. record { clock = clock k; tran = tran k; time = time k }

    back : a ≡ b → same_time a b ≡ true
    back e =
        and_from (nat_eq a.clock b.clock && same_tran a.tran b.tran) (same_fs a.time b.time)
        (and_from (nat_eq a.clock b.clock) (same_tran a.tran b.tran) ((Decides-eqb a.clock b.clock).1 (ap (λ (t : EdgeTime). t.clock) e))
        (ap (same_tran a.tran) (ap (λ (t : EdgeTime). t.tran) (sym e)) ∙ self_tran a.tran)) ((fs_told a.time b.time).1 (ap (λ (t : EdgeTime). t.time) e))

times_told : (a b : List EdgeTime) → Decides (pointwise same_time a b) (a ≡ b)
times_told a b = slice_eq-Decides time_told a b (pointwise same_time a b) refl

pub row_told : (a b : NodeRow) → Decides (same_row a b) (a ≡ b)
row_told a b = (there, back)
  where
    there : same_row a b ≡ true → a ≡ b
    there e =
        let three = and_parts (same_option same_fs a.early_slew b.early_slew && same_option same_fs a.late_slew b.late_slew && pointwise same_time a.early b.early)
        (pointwise same_time a.late b.late) e in
        let two = and_parts (same_option same_fs a.early_slew b.early_slew && same_option same_fs a.late_slew b.late_slew) (pointwise same_time a.early b.early) three.0 in
        let one = and_parts (same_option same_fs a.early_slew b.early_slew) (same_option same_fs a.late_slew b.late_slew) two.0 in
        let early_slew = (option_told a.early_slew b.early_slew).0 one.0 in
        let late_slew = (option_told a.late_slew b.late_slew).0 one.1 in
        let early = (times_told a.early b.early).0 two.1 in
        let late = (times_told a.late b.late).0 three.1 in
        λ k. record { early_slew = early_slew k; late_slew = late_slew k; early = early k; late = late k }

    back : a ≡ b → same_row a b ≡ true
    back e =
        and_from (same_option same_fs a.early_slew b.early_slew && same_option same_fs a.late_slew b.late_slew && pointwise same_time a.early b.early)
        (pointwise same_time a.late b.late)
        (and_from (same_option same_fs a.early_slew b.early_slew && same_option same_fs a.late_slew b.late_slew) (pointwise same_time a.early b.early)
        (and_from (same_option same_fs a.early_slew b.early_slew) (same_option same_fs a.late_slew b.late_slew)
        ((option_told a.early_slew b.early_slew).1 (ap (λ (r : NodeRow). r.early_slew) e)) ((option_told a.late_slew b.late_slew).1 (ap (λ (r : NodeRow). r.late_slew) e)))
        ((times_told a.early b.early).1 (ap (λ (r : NodeRow). r.early) e))) ((times_told a.late b.late).1 (ap (λ (r : NodeRow). r.late) e))

pub back_told : (a b : BackRow) → Decides (same_back a b) (a ≡ b)
back_told a b = (there, back)
  where
    there : same_back a b ≡ true → a ≡ b
    there e =
        let one = and_parts (pointwise same_time a.early b.early) (pointwise same_time a.late b.late) e in
        let early = (times_told a.early b.early).0 one.0 in
        let late = (times_told a.late b.late).0 one.1 in
        λ k. record { early = early k; late = late k }

    back : a ≡ b → same_back a b ≡ true
    back e =
        and_from (pointwise same_time a.early b.early) (pointwise same_time a.late b.late) ((times_told a.early b.early).1 (ap (λ (r : BackRow). r.early) e))
        ((times_told a.late b.late).1 (ap (λ (r : BackRow). r.late) e))
