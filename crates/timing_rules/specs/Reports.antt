-- What each plain question is answered, and when it is refused: the questions about one node, one endpoint or a
-- whole design. The others stand in `Singles` and `Questions`.

use Rattle.std.specs.Prelude.{ℕ, ◌≡◌, ◌^◌, ◌-◌, ℤ, pos, negsuc, ◌+ℤ◌, int_lt, nat_lt, Bool, true, false, not, if◌then◌else◌, List, [], ◌∷◌, map, filter, length, Option, Some, None, option_map, is_some, ⊤}
use Rattle.std.specs.List.{Contains}
use Rattle.std.specs.Option.{option_map_or}
use Rattle.std.specs.Int.{int_max}
use Rattle.std.specs.Ordering.{nat_cmp, int_cmp, ordering_then, is_lt}
use Rattle.std.specs.Cmp.Lexicographic.{slice_cmp}
use Rattle.timing_defs.specs.declared.kinds.Split.TheVariants.{Early}
use Rattle.timing_defs.specs.declared.kinds.Tran.{Tran}
use Rattle.timing_defs.specs.declared.kinds.Kind.{Kind}
use Rattle.timing_defs.specs.declared.kinds.Kind.TheVariants.{Setup, Hold}
use Rattle.timing_defs.specs.declared.rows.Path.{Path}
use Rattle.timing_defs.specs.declared.reports.Query.{Query}
use Rattle.timing_defs.specs.declared.reports.Query.TheVariants.{Slew, At, Rat, Slack, Endpoint, WorstPath, Wns, Tns, Worst}
use Rattle.timing_defs.specs.declared.reports.EndRow.{EndRow}
use Rattle.timing_defs.specs.declared.reports.Report.{Report}
use Rattle.timing_defs.specs.declared.reports.Report.TheVariants.{Value, Times, Shown, Ends}
use Rattle.timing_defs.specs.declared.scripts.Totals.{Totals}
use Rattle.timing_defs.specs.declared.faults.QueryFault.{QueryFault}
use Rattle.timing_defs.specs.declared.faults.QueryFault.TheVariants.{UnknownPin, NotEndpoint, NotClocked}
use Rattle.timing_defs.specs.declared.design.Design.{Design}
use Rattle.timing_defs.specs.Netlist.{Pin, Node, name_of, pins, pin_named}
use Rattle.timing_defs.specs.RowTimes.{times_in, back_times}
use Rattle.timing_rules.specs.Paths.{IsSlack, IsShown}
use Rattle.timing_rules.specs.Required.{back_row, graph_slack}
use Rattle.timing_rules.specs.Rows.{as_fs, slew, row, outer_some}
use Rattle.timing_rules.specs.Tests.{is_endpoint, is_clocked}

abbrev pub endpoints : Design → List (List ℕ)
endpoints d = map name_of (filter (is_endpoint d) (pins d))

-- the slacks of pins, one by one
abbrev pub AreSlacks : Design → Kind → List (List ℕ) → List (Option ℤ) → Type 0
AreSlacks d kind [] [] = ⊤
AreSlacks d kind [] (s ∷ slacks) = ⊥
AreSlacks d kind (e ∷ ends) [] = ⊥
AreSlacks d kind (e ∷ ends) (s ∷ slacks) = IsSlack d kind e s × AreSlacks d kind ends slacks

-- worst negative slack: the least slack of all endpoints, or none
abbrev pub least_slack : Option ℤ → List (Option ℤ) → Option ℤ
least_slack best [] = best
least_slack best (s ∷ slacks) = least_slack (outer_some Early best s) slacks

-- total negative slack: the sum of the negative slacks, or -(2^63 - 1) where that is less
abbrev pub negative_part : Option ℤ → ℤ
negative_part None = pos 0
negative_part (Some s) = (if int_lt s (pos 0) then s else pos 0)

abbrev pub negative_sum : List (Option ℤ) → ℤ
negative_sum [] = pos 0
negative_sum (s ∷ slacks) = negative_part s +ℤ negative_sum slacks

abbrev pub total_slack : List (Option ℤ) → ℤ
total_slack slacks = int_max (negsuc (2 ^ 63 - 2)) (negative_sum slacks)

abbrev pub IsWns : Design → Kind → Option ℤ → Type 0
IsWns d kind wns = (slacks : List (Option ℤ)) × AreSlacks d kind (endpoints d) slacks × (wns ≡ least_slack None slacks)

abbrev pub IsTns : Design → Kind → ℤ → Type 0
IsTns d kind tns = (slacks : List (Option ℤ)) × AreSlacks d kind (endpoints d) slacks × (tns ≡ total_slack slacks)

abbrev pub fs_value : Option ℤ → Report
fs_value value = Value (as_fs value)

-- rows of endpoints are ordered by slack, then by name
abbrev pub goes_before : EndRow → EndRow → Bool
goes_before a b = is_lt (ordering_then (int_cmp a.slack.0 b.slack.0) (slice_cmp nat_cmp a.pin b.pin))

abbrev pub IsEndRow : Design → Kind → EndRow → Type 0
IsEndRow d kind row = Contains (endpoints d) row.pin × IsSlack d kind row.pin (Some row.slack.0)

abbrev pub AreInOrder : List EndRow → Type 0
AreInOrder [] = ⊤
AreInOrder (r ∷ []) = ⊤
AreInOrder (r ∷ s ∷ rows) = (goes_before r s ≡ true) × AreInOrder (s ∷ rows)

-- at most so many endpoints that have a slack, the worst first: one that is left out comes after all
-- that are listed, and none is left out where there are fewer
abbrev pub AreWorst : Design → Kind → ℕ → List EndRow → Type 0
AreWorst d kind count rows =
    ((r : EndRow) → Contains rows r → IsEndRow d kind r)
    × AreInOrder rows
    × (nat_lt count (length rows) ≡ false)
    × ((r : EndRow) → IsEndRow d kind r → (Contains rows r → ⊥) →
    (length rows ≡ count) × ((s : EndRow) → Contains rows s → goes_before s r ≡ true))

-- a report on a node or pin that is there
abbrev pub at_node : (Node → Report) → Tran → Pin → Report
at_node report tran pin = report (record { pin = pin; tran = tran })

abbrev pub IsAt : Design → List ℕ → Tran → (Node → Report) → Report → Type 0
IsAt d name tran report r = Some r ≡ option_map (at_node report tran) (pin_named d name)

-- the report that a plain question is answered; another one has none here
abbrev pub IsPlainReport : Design → Query → Report → Type 0
IsPlainReport d (Slew pin split tran) r = IsAt d pin tran (λ node. fs_value (slew d split node)) r
IsPlainReport d (At pin split tran) r = IsAt d pin tran (λ node. Times (times_in split (row d node))) r
IsPlainReport d (Rat pin split tran) r = IsAt d pin tran (λ node. Times (back_times split (back_row d node))) r
IsPlainReport d (Slack pin split tran) r = IsAt d pin tran (λ node. fs_value (graph_slack d split node)) r
IsPlainReport d (Endpoint pin kind) r = (slack : Option ℤ) × IsSlack d kind pin slack × (r ≡ fs_value slack)
IsPlainReport d (WorstPath pin kind) r = (path : Option Path) × IsShown d kind pin path × (r ≡ Shown path)
IsPlainReport d (Wns kind) r = (wns : Option ℤ) × IsWns d kind wns × (r ≡ fs_value wns)
IsPlainReport d (Tns kind) r = (tns : ℤ) × IsTns d kind tns × (r ≡ fs_value (Some tns))
IsPlainReport d (Worst kind count) r = (rows : List EndRow) × AreWorst d kind count rows × (r ≡ Ends rows)
IsPlainReport d q r = ⊥

-- a question is refused where its pin is not there, else where it is no endpoint, else where no test
-- of the kind at that register pin has a network clock pin
abbrev pub unknown_pin : Design → List ℕ → Option QueryFault
unknown_pin d pin = (if is_some (pin_named d pin) then None else Some (UnknownPin pin))

abbrev pub end_fault : Design → Kind → Pin → List ℕ → Option QueryFault
end_fault d kind pin name =
    (if not (is_endpoint d pin) then Some (NotEndpoint name) else
    (if is_clocked d kind pin then None else Some (NotClocked name)))

abbrev pub endpoint_fault : Design → Kind → List ℕ → Option QueryFault
endpoint_fault d kind name = option_map_or (λ pin. end_fault d kind pin name) (pin_named d name) (Some (UnknownPin name))

abbrev pub plain_fault : Design → Query → Option QueryFault
plain_fault d (Slew pin split tran) = unknown_pin d pin
plain_fault d (At pin split tran) = unknown_pin d pin
plain_fault d (Rat pin split tran) = unknown_pin d pin
plain_fault d (Slack pin split tran) = unknown_pin d pin
plain_fault d (Endpoint pin kind) = endpoint_fault d kind pin
plain_fault d (WorstPath pin kind) = endpoint_fault d kind pin
plain_fault d (Wns kind) = None
plain_fault d (Tns kind) = None
plain_fault d (Worst kind count) = None
plain_fault d q = None

-- the totals of a design
abbrev pub AreTotals : Design → ℕ → Totals → Type 0
AreTotals d number t =
    (t.number ≡ number)
    × ((wns : Option ℤ) × IsWns d Setup wns × (t.setup_wns ≡ as_fs wns))
    × IsTns d Setup t.setup_tns.0
    × ((wns : Option ℤ) × IsWns d Hold wns × (t.hold_wns ≡ as_fs wns))
    × IsTns d Hold t.hold_tns.0
