-- What each question that closing timing needs is answered, and when it is refused.

use Rattle.std.specs.Prelude.{ℕ, ◌≡◌, nat_lt, is_some, if◌then◌else◌, List, [], ◌∷◌, length, Option, Some, None}
use Rattle.std.specs.Option.{option_map_or}
use Rattle.timing_defs.specs.declared.kinds.Kind.{Kind}
use Rattle.timing_defs.specs.declared.rows.Path.{Path}
use Rattle.timing_defs.specs.declared.closing.Aim.TheVariants.{Tns}
use Rattle.timing_defs.specs.declared.closing.ClosingQuery.{ClosingQuery}
use Rattle.timing_defs.specs.declared.closing.ClosingQuery.TheVariants.{Net, Instance, Sizes, Timing, TimingThrough, WorstPaths, Failing, Summary, Skew, AdviseTns, AdviseSizes}
use Rattle.timing_defs.specs.declared.closing.ClosingReport.{ClosingReport}
use Rattle.timing_defs.specs.declared.closing.ClosingReport.TheVariants.{Net as net_report, Instance as instance_report, Sizes as sizes_report, Timing as timing_report, WorstPaths as worst_report, Failing as failing_report, Summary as summary_report, Skew as skew_report, Advices}
use Rattle.timing_defs.specs.declared.closing.NetReport.{NetReport}
use Rattle.timing_defs.specs.declared.closing.InstanceReport.{InstanceReport}
use Rattle.timing_defs.specs.declared.closing.SizesReport.{SizesReport}
use Rattle.timing_defs.specs.declared.closing.TimedPath.{TimedPath}
use Rattle.timing_defs.specs.declared.closing.FailingEndpoints.{FailingEndpoints}
use Rattle.timing_defs.specs.declared.closing.TimingSummary.{TimingSummary}
use Rattle.timing_defs.specs.declared.closing.SkewReport.{SkewReport}
use Rattle.timing_defs.specs.declared.closing.AdviceReport.{AdviceReport}
use Rattle.timing_defs.specs.declared.reports.Candidate.{Candidate}
use Rattle.timing_defs.specs.declared.faults.QueryFault.{QueryFault}
use Rattle.timing_defs.specs.declared.faults.QueryFault.TheVariants.{UnknownName, TooMany}
use Rattle.timing_defs.specs.declared.faults.Many.TheVariants.{Instances, Candidates}
use Rattle.timing_defs.specs.declared.design.Design.{Design}
use Rattle.timing_defs.specs.Edits.{inst_named, cell_for}
use Rattle.timing_defs.specs.Netlist.{is_listed}
use Rattle.timing_defs.specs.Wires.{first_some}
use Rattle.timing_rules.specs.Connections.{IsNet, IsInstance, AreSizes}
use Rattle.timing_rules.specs.Reports.{unknown_pin, endpoint_fault}
use Rattle.timing_rules.specs.SizeAdvice.{IsAdviceReport, once, same_candidate, all_sizes}
use Rattle.timing_rules.specs.Stages.{IsTiming, IsTimingThrough}
use Rattle.timing_rules.specs.Summaries.{AreDesignPaths, AreFailing, IsSummary, AreSkews}

-- the report that a question is answered
abbrev pub IsClosing : Design → ClosingQuery → ClosingReport → Type 0
IsClosing d (Net net) r = (report : NetReport) × IsNet d net report × (r ≡ net_report report)
IsClosing d (Instance inst) r = (report : InstanceReport) × IsInstance d inst report × (r ≡ instance_report report)
IsClosing d (Sizes inst) r = (report : SizesReport) × AreSizes d inst report × (r ≡ sizes_report report)
IsClosing d (Timing pin kind) r = (path : Option TimedPath) × IsTiming d kind pin path × (r ≡ timing_report path)
IsClosing d (TimingThrough pin kind pins) r =
    (path : Option TimedPath) × IsTimingThrough d kind pin pins path × (r ≡ timing_report path)
IsClosing d (WorstPaths kind count each) r =
    (paths : List Path) × AreDesignPaths d kind count each paths × (r ≡ worst_report paths)
IsClosing d (Failing kind) r = (report : FailingEndpoints) × AreFailing d kind report × (r ≡ failing_report report)
IsClosing d (Summary kind) r = (report : TimingSummary) × IsSummary d kind report × (r ≡ summary_report report)
IsClosing d Skew r = (skews : List SkewReport) × AreSkews d skews × (r ≡ skew_report skews)
IsClosing d (AdviseTns kind candidates) r =
    (report : AdviceReport) × IsAdviceReport d kind Tns (once same_candidate [] candidates) report × (r ≡ Advices report)
IsClosing d (AdviseSizes kind aim insts) r =
    (report : AdviceReport) × IsAdviceReport d kind aim (all_sizes d insts) report × (r ≡ Advices report)

-- of the endpoint and the pins the first that is not there, in the order written; then what the endpoint is not
abbrev pub through_fault : Design → Kind → List ℕ → List (List ℕ) → Option QueryFault
through_fault d kind pin pins =
    option_map_or Some (first_some (unknown_pin d) (pin ∷ pins)) (endpoint_fault d kind pin)

abbrev pub unknown_net : Design → List ℕ → Option QueryFault
unknown_net d net = (if is_listed d.nets net then None else Some (UnknownName net))

abbrev pub unknown_inst : Design → List ℕ → Option QueryFault
unknown_inst d inst = (if is_some (inst_named d.insts inst) then None else Some (UnknownName inst))

abbrev pub unknown_cell : Design → List ℕ → Option QueryFault
unknown_cell d name = (if is_some (cell_for d name) then None else Some (UnknownName name))

abbrev pub unknown_candidate : Design → Candidate → Option QueryFault
unknown_candidate d c = option_map_or Some (unknown_inst d c.inst) (unknown_cell d c.cell)

-- all instances are there, at most 20, and at most 200 sizes of them together
abbrev pub many_sizes : Design → List (List ℕ) → Option QueryFault
many_sizes d insts =
    (if nat_lt 20 (length insts) then Some (TooMany Instances) else
    (if nat_lt 200 (length (all_sizes d insts)) then Some (TooMany Candidates) else None))

abbrev pub sizes_fault : Design → List (List ℕ) → Option QueryFault
sizes_fault d insts = option_map_or Some (first_some (unknown_inst d) insts) (many_sizes d insts)

-- why a question is refused
abbrev pub closing_fault : Design → ClosingQuery → Option QueryFault
closing_fault d (Net net) = unknown_net d net
closing_fault d (Instance inst) = unknown_inst d inst
closing_fault d (Sizes inst) = unknown_inst d inst
closing_fault d (Timing pin kind) = endpoint_fault d kind pin
closing_fault d (TimingThrough pin kind pins) = through_fault d kind pin pins
closing_fault d (WorstPaths kind count each) = None
closing_fault d (Failing kind) = None
closing_fault d (Summary kind) = None
closing_fault d Skew = None
closing_fault d (AdviseTns kind candidates) = first_some (unknown_candidate d) candidates
closing_fault d (AdviseSizes kind aim insts) = sizes_fault d insts
