-- The bytes that a run writes: the journal, the rows of each session, and the totals. Each line ends
-- with a line feed; words are separated by one blank.

use Rattle.std.specs.Prelude.{ℕ, ◌+◌, ◌-◌, Bool, true, false, List, [], ◌∷◌, ◌++◌, length, slice_get, Option, Some, None, ℤ, nat_abs, decimal, codes}
use Rattle.std.specs.List.{flat_map}
use Rattle.std.specs.Option.{option_map_or}
use Rattle.sta_units.specs.declared.units.Fs.{Fs}
use Rattle.sta_units.specs.Picoseconds.{ps_text}
use Rattle.timing_defs.specs.declared.kinds.Tran.{Tran}
use Rattle.timing_defs.specs.declared.kinds.Tran.TheVariants.{Rise, Fall}
use Rattle.timing_defs.specs.declared.kinds.Kind.{Kind}
use Rattle.timing_defs.specs.declared.kinds.Kind.TheVariants.{Setup, Hold}
use Rattle.timing_defs.specs.declared.constraints.Clock.{Clock}
use Rattle.timing_defs.specs.declared.parasitics.RcNode.{RcNode}
use Rattle.timing_defs.specs.declared.parasitics.RcNode.TheVariants.{Pin as rc_pin, Inner as rc_inner}
use Rattle.timing_defs.specs.declared.parasitics.RcCap.{RcCap}
use Rattle.timing_defs.specs.declared.parasitics.RcRes.{RcRes}
use Rattle.timing_defs.specs.declared.parasitics.NetRc.{NetRc}
use Rattle.timing_defs.specs.declared.edge_times.EdgeTime.{EdgeTime}
use Rattle.timing_defs.specs.declared.rows.PathNode.{PathNode}
use Rattle.timing_defs.specs.declared.rows.Path.{Path}
use Rattle.timing_defs.specs.declared.edits.Edit.{Edit}
use Rattle.timing_defs.specs.declared.edits.Edit.TheVariants.{Repower, InsertGate, RemoveGate, InsertNet, RemoveNet, Connect, Disconnect, InsertBuffer, SetParasitics}
use Rattle.timing_defs.specs.declared.edits.Entry.{Entry}
use Rattle.timing_defs.specs.declared.reports.Query.{Query}
use Rattle.timing_defs.specs.declared.reports.Query.TheVariants.{Slew, At, Rat, Slack, Endpoint, WorstPath, Wns, Tns, Worst, Through, Paths as ranked_paths, WhatIf', Advise, Closing as closing_query}
use Rattle.timing_defs.specs.declared.reports.EndRow.{EndRow}
use Rattle.timing_defs.specs.declared.reports.Report.{Report}
use Rattle.timing_defs.specs.declared.reports.Report.TheVariants.{Value, Times, Shown, Ends, Paths, Drafted', Advised, Closing}
use Rattle.timing_defs.specs.declared.reports.Advice.{Advice}
use Rattle.timing_defs.specs.declared.reports.TrialRow.{TrialRow}
use Rattle.timing_defs.specs.declared.reports.TrialAnswer.{TrialAnswer}
use Rattle.timing_defs.specs.declared.reports.TrialAnswer.TheVariants.{Tried, Refused as refused_trial, Dropped, NoDraft, No as no_trial, Told as told_trial}
use Rattle.timing_defs.specs.declared.scripts.Answer.{Answer}
use Rattle.timing_defs.specs.declared.scripts.Answer.TheVariants.{Taken, Reached, NotYet, Accepted, Refused, No, Told}
use Rattle.timing_defs.specs.declared.scripts.Row.{Row}
use Rattle.timing_defs.specs.declared.scripts.Transcript.{Transcript}
use Rattle.timing_defs.specs.declared.scripts.Totals.{Totals}
use Rattle.timing_defs.specs.declared.faults.Place.{Place}
use Rattle.timing_defs.specs.declared.faults.Place.TheVariants.{Pin as pin_place, Net as net_place}
use Rattle.timing_defs.specs.declared.faults.Large.{Large}
use Rattle.timing_defs.specs.declared.faults.Large.TheVariants.{Pins, Insts, Nets, Net as large_net}
use Rattle.timing_defs.specs.declared.faults.Fault.{Fault}
use Rattle.timing_defs.specs.declared.faults.Fault.TheVariants.{UnknownInstance, UnknownNet, UnknownCell, UnknownPin as unknown_pin, NameTaken, PinsDiffer, AlreadyConnected, NotConnected, InUse, ManyDrivers, Loop, ClockNotTree, ConstraintDangling, RcNotTree, RcPinsDiffer, OutOfRange, TooLarge, Memory}
use Rattle.timing_defs.specs.declared.faults.QueryFault.{QueryFault}
use Rattle.timing_defs.specs.declared.faults.QueryFault.TheVariants.{UnknownPin, NotEndpoint, NotClocked, UnknownName, TooMany, Memory as no_memory}
use Rattle.timing_defs.specs.declared.faults.Many.TheVariants.{Instances, Candidates}
use Rattle.timing_defs.specs.declared.closing.ClosingQuery.{ClosingQuery}
use Rattle.timing_defs.specs.declared.closing.ClosingQuery.TheVariants.{Net as net_query, Instance as instance_query, Sizes as sizes_query, Timing as timing_query, TimingThrough as through_query, WorstPaths as worst_query, Failing as failing_query, Summary as summary_query, Skew as skew_query, AdviseTns, AdviseSizes}
use Rattle.timing_defs.specs.declared.closing.ClosingReport.{ClosingReport}
use Rattle.timing_defs.specs.declared.closing.ClosingReport.TheVariants.{Net as net_report, Instance as instance_report, Sizes as sizes_report, Timing as timing_report, WorstPaths as worst_report, Failing as failing_report, Summary as summary_report, Skew as skew_report, Advices}
use Rattle.timing_defs.specs.declared.closing.WireModel.{WireModel}
use Rattle.timing_defs.specs.declared.closing.WireModel.TheVariants.{Ideal, Lumped, Tree}
use Rattle.timing_defs.specs.declared.closing.SinkReport.{SinkReport}
use Rattle.timing_defs.specs.declared.closing.NetReport.{NetReport}
use Rattle.timing_defs.specs.declared.closing.Junction.{Junction}
use Rattle.timing_defs.specs.declared.closing.Junction.TheVariants.{Net as joined_net, Tied, Open}
use Rattle.timing_defs.specs.declared.closing.PinReport.{PinReport}
use Rattle.timing_defs.specs.declared.closing.InstanceReport.{InstanceReport}
use Rattle.timing_defs.specs.declared.closing.SizeChoice.{SizeChoice}
use Rattle.timing_defs.specs.declared.closing.SizesReport.{SizesReport}
use Rattle.timing_defs.specs.declared.closing.DrivenNet.{DrivenNet}
use Rattle.timing_defs.specs.declared.closing.PathStage.{PathStage}
use Rattle.timing_defs.specs.declared.closing.RequiredParts.{RequiredParts}
use Rattle.timing_defs.specs.declared.closing.TimedPath.{TimedPath}
use Rattle.timing_defs.specs.declared.closing.FailingEndpoints.{FailingEndpoints}
use Rattle.timing_defs.specs.declared.closing.ClockSummary.{ClockSummary}
use Rattle.timing_defs.specs.declared.closing.TimingSummary.{TimingSummary}
use Rattle.timing_defs.specs.declared.closing.SkewReport.{SkewReport}
use Rattle.timing_defs.specs.declared.closing.SizeAdvice.{SizeAdvice}
use Rattle.timing_defs.specs.declared.closing.SlackTotals.{SlackTotals}
use Rattle.timing_defs.specs.declared.closing.AdviceReport.{AdviceReport}
use Rattle.timing_defs.specs.declared.closing.TestSort.{TestSort}
use Rattle.timing_defs.specs.declared.closing.TestSort.TheVariants.{SetupTime, HoldTime, OutputDelay}
use Rattle.timing_defs.specs.declared.rows.PinCap.{PinCap}
use Rattle.timing_defs.specs.declared.kinds.Dir.{Dir}
use Rattle.timing_defs.specs.declared.kinds.Dir.TheVariants.{Input, Output}
use Rattle.timing_defs.specs.Trials.{rows_in}

-- a blank and a word
abbrev pub word : List ℕ → List ℕ
word text = 32 ∷ text

abbrev pub number : ℕ → List ℕ
number n = word (decimal n)

abbrev pub tran_text : Tran → List ℕ
tran_text Rise = codes "rise"
tran_text Fall = codes "fall"

abbrev pub kind_text : Kind → List ℕ
kind_text Setup = codes "setup"
kind_text Hold = codes "hold"

-- a time in picoseconds with three decimals, or `none`
abbrev pub time_text : Option Fs → List ℕ
time_text None = codes "none"
time_text (Some t) = ps_text t.0

abbrev pub clock_text : List Clock → ℕ → List ℕ
clock_text clocks place = option_map_or (λ clock. clock.name) (slice_get clocks place) []

-- a launch or capture edge
abbrev pub edge_text : List Clock → ℕ → Tran → List ℕ
edge_text clocks clock tran = word (clock_text clocks clock) ++ word (tran_text tran)

-- a whole number; what is written so is never negative
abbrev pub whole_text : ℤ → List ℕ
whole_text n = decimal (nat_abs n)

-- parasitics: the capacitances first, then the resistors
abbrev pub rc_node_text : RcNode → List ℕ
rc_node_text (rc_pin name) = name
rc_node_text (rc_inner k) = 35 ∷ decimal k

abbrev pub cap_text : RcCap → List ℕ
cap_text c = codes " c" ++ word (rc_node_text c.node) ++ word (whole_text c.cap.0)

abbrev pub res_text : RcRes → List ℕ
res_text r = codes " r" ++ word (rc_node_text r.a) ++ word (rc_node_text r.b) ++ word (whole_text r.res.0)

abbrev pub rc_text : Option NetRc → List ℕ
rc_text None = codes " none"
rc_text (Some rc) = flat_map cap_text rc.caps ++ flat_map res_text rc.ress

abbrev pub edit_text : Edit → List ℕ
edit_text (Repower inst cell) = codes "repower_gate" ++ word inst ++ word cell
edit_text (InsertGate inst cell) = codes "insert_gate" ++ word inst ++ word cell
edit_text (RemoveGate inst) = codes "remove_gate" ++ word inst
edit_text (InsertNet net) = codes "insert_net" ++ word net
edit_text (RemoveNet net) = codes "remove_net" ++ word net
edit_text (Connect pin net) = codes "connect_pin" ++ word pin ++ word net
edit_text (Disconnect pin) = codes "disconnect_pin" ++ word pin
edit_text (InsertBuffer net inst fresh cell sinks) =
    codes "insert_buffer" ++ word net ++ word inst ++ word fresh ++ word cell ++ flat_map word sinks
edit_text (SetParasitics net rc) = codes "set_parasitics" ++ word net ++ rc_text rc

abbrev pub line : List ℕ → List ℕ
line text = text ++ 10 ∷ []

-- an entry by its number: its session and its edits, a line each
abbrev pub entry_text : ℕ → Entry → List ℕ
entry_text n entry =
    line (codes "entry" ++ number n ++ codes " session" ++ number entry.session ++ codes " edits" ++ number (length entry.eco.edits))
    ++ flat_map (λ edit. line (edit_text edit)) entry.eco.edits

abbrev pub entries_text : ℕ → List Entry → List ℕ
entries_text n [] = []
entries_text n (entry ∷ entries) = entry_text n entry ++ entries_text (n + 1) entries

abbrev pub journal_text : List Entry → List ℕ
journal_text journal = line (codes "journal 1" ++ number (length journal)) ++ entries_text 1 journal

abbrev pub place_text : Place → List ℕ
place_text (pin_place name) = codes " pin" ++ word name
place_text (net_place name) = codes " net" ++ word name

abbrev pub large_text : Large → List ℕ
large_text Pins = codes " pins"
large_text Insts = codes " insts"
large_text Nets = codes " nets"
large_text (large_net name) = codes " net" ++ word name

-- a fault is its code and its names
abbrev pub fault_text : Fault → List ℕ
fault_text (UnknownInstance name) = codes "E1" ++ word name
fault_text (UnknownNet name) = codes "E2" ++ word name
fault_text (UnknownCell name) = codes "E3" ++ word name
fault_text (unknown_pin name) = codes "E4" ++ word name
fault_text (NameTaken name) = codes "E5" ++ word name
fault_text (PinsDiffer name) = codes "E6" ++ word name
fault_text (AlreadyConnected name) = codes "E7" ++ word name
fault_text (NotConnected name) = codes "E8" ++ word name
fault_text (InUse name) = codes "E9" ++ word name
fault_text (ManyDrivers name) = codes "E10" ++ word name
fault_text (Loop names) = codes "E11" ++ flat_map word names
fault_text (ClockNotTree name) = codes "E12" ++ word name
fault_text (ConstraintDangling name) = codes "E13" ++ word name
fault_text (RcNotTree name) = codes "E14" ++ word name
fault_text (RcPinsDiffer name) = codes "E15" ++ word name
fault_text (OutOfRange place) = codes "E16" ++ place_text place
fault_text (TooLarge large) = codes "E17" ++ large_text large
fault_text Memory = []

abbrev pub query_fault_text : QueryFault → List ℕ
query_fault_text (UnknownPin name) = codes "Q1" ++ word name
query_fault_text (NotEndpoint name) = codes "Q2" ++ word name
query_fault_text (NotClocked name) = codes "Q3" ++ word name
query_fault_text (UnknownName name) = codes "Q4" ++ word name
query_fault_text (TooMany Instances) = codes "Q5 instances"
query_fault_text (TooMany Candidates) = codes "Q5 candidates"
query_fault_text no_memory = []

abbrev pub query_word : Query → List ℕ
query_word (Slew pin split tran) = codes "slew"
query_word (At pin split tran) = codes "at"
query_word (Rat pin split tran) = codes "rat"
query_word (Slack pin split tran) = codes "slack"
query_word (Endpoint pin kind) = codes "endpoint"
query_word (WorstPath pin kind) = codes "path"
query_word (Wns kind) = codes "wns"
query_word (Tns kind) = codes "tns"
query_word (Worst kind count) = codes "worst"
query_word (Through pin kind pins) = codes "path"
query_word (ranked_paths pin kind count) = codes "paths"
query_word (WhatIf' shape trials) = codes "what_if"
query_word (Advise kind candidates) = codes "advice"
query_word (closing_query query) = []

abbrev pub edge_time_text : List Clock → EdgeTime → List ℕ
edge_time_text clocks t = edge_text clocks t.clock t.tran ++ word (ps_text t.time.0)

abbrev pub path_node_text : PathNode → List ℕ
path_node_text n = line (n.pin ++ word (tran_text n.tran) ++ word (ps_text n.time.0))

-- a path by the question that it answers, its head and then its nodes, a line each
abbrev pub path_head : List Clock → Path → List ℕ
path_head clocks p =
    codes " slack" ++ word (ps_text p.slack.0) ++ codes " credit" ++ word (ps_text p.credit.0)
    ++ codes " from" ++ edge_text clocks p.launch_clock p.launch_tran
    ++ codes " to" ++ edge_text clocks p.capture_clock p.capture_tran
    ++ codes " nodes" ++ number (length p.nodes)

abbrev pub path_of : Query → List ℕ
path_of (WorstPath pin kind) = word (kind_text kind) ++ word pin
path_of (Through pin kind pins) = word (kind_text kind) ++ word pin
path_of (ranked_paths pin kind count) = word (kind_text kind) ++ word pin
path_of (Slew pin split tran) = []
path_of (At pin split tran) = []
path_of (Rat pin split tran) = []
path_of (Slack pin split tran) = []
path_of (Endpoint pin kind) = []
path_of (Wns kind) = []
path_of (Tns kind) = []
path_of (Worst kind count) = []
path_of (WhatIf' shape trials) = []
path_of (Advise kind candidates) = []
path_of (closing_query query) = []

abbrev pub end_text : EndRow → List ℕ
end_text row = line (row.pin ++ word (ps_text row.slack.0))

-- a path by its question: a line, and then its nodes
abbrev pub path_text : List Clock → Query → Path → List ℕ
path_text clocks q p = line (codes "path" ++ path_of q ++ path_head clocks p) ++ flat_map path_node_text p.nodes

abbrev pub advice_text : Option Advice → List ℕ
advice_text None = line (codes "advice none")
advice_text (Some a) = line (codes "advice" ++ word a.inst ++ word a.cell ++ word (ps_text a.wns.0))

-- a name, or `none`
abbrev pub name_text : Option (List ℕ) → List ℕ
name_text None = codes "none"
name_text (Some name) = name

abbrev pub dir_text : Dir → List ℕ
dir_text Input = codes "input"
dir_text Output = codes "output"

-- a net, its sinks, and the edit of its parasitics: capacitances in femtofarads and resistances in ohms have three decimals, as
-- times have
abbrev pub wires_text : WireModel → List ℕ
wires_text Ideal = codes " none"
wires_text Lumped = codes " lumped"
wires_text (Tree nodes resistance) =
    codes " tree nodes" ++ number nodes ++ codes " resistance" ++ word (ps_text resistance.0)

abbrev pub sink_text : SinkReport → List ℕ
sink_text s =
    line
    (s.pin ++ word (ps_text s.early_cap.0) ++ word (ps_text s.late_cap.0)
    ++ word (time_text s.early_delay) ++ word (time_text s.late_delay))

abbrev pub net_text : List ℕ → NetReport → List ℕ
net_text net r =
    line
    (codes "net" ++ word net ++ codes " driver" ++ word (name_text r.driver)
    ++ codes " load" ++ word (ps_text r.early_load.0) ++ word (ps_text r.late_load.0)
    ++ codes " parasitics" ++ wires_text r.wires ++ codes " sinks" ++ number (length r.sinks) ++ codes " edits 1")
    ++ flat_map sink_text r.sinks ++ line (edit_text (SetParasitics net r.rc))

-- an instance, and a line for each pin
abbrev pub junction_text : Junction → List ℕ
junction_text (joined_net net) = codes " net" ++ word net
junction_text Tied = codes " tied"
junction_text Open = codes " open"

abbrev pub pin_report_text : PinReport → List ℕ
pin_report_text p = line (p.pin ++ word (dir_text p.dir) ++ junction_text p.joined)

abbrev pub instance_text : List ℕ → InstanceReport → List ℕ
instance_text inst r =
    line (codes "instance" ++ word inst ++ word r.cell ++ codes " pins" ++ number (length r.pins))
    ++ flat_map pin_report_text r.pins

-- the sizes of an instance, a line for each cell
abbrev pub input_text : PinCap → List ℕ
input_text c = word c.pin ++ word (ps_text c.cap.0)

abbrev pub likeness_text : Bool → List ℕ
likeness_text true = codes " alike"
likeness_text false = codes " other"

abbrev pub choice_text : SizeChoice → List ℕ
choice_text c =
    line (c.cell ++ likeness_text c.alike ++ codes " inputs" ++ number (length c.inputs) ++ flat_map input_text c.inputs)

abbrev pub sizes_text : List ℕ → SizesReport → List ℕ
sizes_text inst r =
    line (codes "sizes" ++ word inst ++ word r.cell ++ codes " cells" ++ number (length r.choices))
    ++ flat_map choice_text r.choices

-- a path stage by stage: its head, its nodes, those of the capture clock, and the parts of the required time
abbrev pub driven_text : Option DrivenNet → List ℕ
driven_text None = []
driven_text (Some n) =
    codes " net" ++ word n.net ++ word (ps_text n.load.0) ++ number n.fanout

abbrev pub stage_text : PathStage → List ℕ
stage_text s =
    line
    (s.pin ++ word (tran_text s.tran) ++ word (ps_text s.time.0)
    ++ word (time_text s.delay) ++ word (time_text s.slew) ++ driven_text s.drives)

abbrev pub part_text : List ℕ → Fs → List ℕ
part_text name time = line (name ++ word (ps_text time.0))

abbrev pub sort_text : TestSort → List ℕ
sort_text SetupTime = codes "setup_time"
sort_text HoldTime = codes "hold_time"
sort_text OutputDelay = codes "output_delay"

abbrev pub edge_part : List Clock → Path → Fs → List ℕ
edge_part clocks p time =
    line (codes "capture_edge" ++ edge_text clocks p.capture_clock p.capture_tran ++ word (ps_text time.0))

abbrev pub parts_text : RequiredParts → List ℕ
parts_text p =
    part_text (codes "capture_arrival") p.clock ++ part_text (sort_text p.sort) p.test
    ++ part_text (codes "uncertainty") p.uncertainty ++ part_text (codes "credit") p.credit
    ++ part_text (codes "required") p.required ++ part_text (codes "arrival") p.arrival
    ++ part_text (codes "slack") p.slack

abbrev pub timed_head : List Clock → List ℕ → List ℕ → TimedPath → List ℕ
timed_head clocks kind pin t =
    line
    (codes "timing" ++ word kind ++ word pin ++ path_head clocks t.path
    ++ codes " capture" ++ number (length t.capture) ++ codes " parts 8")

abbrev pub timed_text : List Clock → List ℕ → List ℕ → Option TimedPath → List ℕ
timed_text clocks kind pin None = line (codes "timing none")
timed_text clocks kind pin (Some t) =
    timed_head clocks kind pin t ++ flat_map stage_text t.stages ++ flat_map stage_text t.capture ++ edge_part clocks t.path t.parts.separation ++ parts_text t.parts

-- paths of several endpoints: each with the pin of its last node
abbrev pub last_pin : List PathNode → List ℕ
last_pin nodes = option_map_or (λ n. n.pin) (slice_get nodes (length nodes - 1)) []

abbrev pub ended_text : List Clock → List ℕ → Path → List ℕ
ended_text clocks kind p =
    line (codes "path" ++ word kind ++ word (last_pin p.nodes) ++ path_head clocks p) ++ flat_map path_node_text p.nodes

abbrev pub worst_paths_text : List Clock → List ℕ → List Path → List ℕ
worst_paths_text clocks kind paths =
    line (codes "worst_paths" ++ number (length paths)) ++ flat_map (ended_text clocks kind) paths

abbrev pub failing_text : FailingEndpoints → List ℕ
failing_text r =
    line (codes "failing" ++ number r.count ++ codes " listed" ++ number (length r.rows)) ++ flat_map end_text r.rows

-- the totals by clock, and the skews of launch edges
abbrev pub clock_summary_text : List Clock → ClockSummary → List ℕ
clock_summary_text clocks s =
    line
    (clock_text clocks s.clock ++ codes " tested" ++ number s.tested ++ codes " failing" ++ number s.failing
    ++ codes " worst" ++ word (time_text s.wns) ++ codes " total" ++ word (ps_text s.tns.0))

abbrev pub summary_text : List Clock → List ℕ → TimingSummary → List ℕ
summary_text clocks kind r =
    line (codes "summary" ++ word kind ++ codes " clocks" ++ number (length r.clocks) ++ codes " untested" ++ number r.untested)
    ++ flat_map (clock_summary_text clocks) r.clocks

abbrev pub extreme_text : PathNode → List ℕ
extreme_text n = word n.pin ++ word (tran_text n.tran) ++ word (ps_text n.time.0)

abbrev pub skew_text : List Clock → SkewReport → List ℕ
skew_text clocks s =
    line
    (clock_text clocks s.clock ++ word (tran_text s.tran) ++ word (ps_text s.skew.0)
    ++ codes " late" ++ extreme_text s.late ++ codes " early" ++ extreme_text s.early)

abbrev pub skews_text : List Clock → List SkewReport → List ℕ
skews_text clocks rows = line (codes "skew" ++ number (length rows)) ++ flat_map (skew_text clocks) rows

-- both kinds' worst and total slack, as in the last line of a run
abbrev pub totals_text : SlackTotals → List ℕ
totals_text t =
    codes " setup" ++ word (time_text t.setup_wns) ++ word (ps_text t.setup_tns.0)
    ++ codes " hold" ++ word (time_text t.hold_wns) ++ word (ps_text t.hold_tns.0)

abbrev pub size_advice_text : SizeAdvice → List ℕ
size_advice_text a = line (a.inst ++ word a.cell ++ totals_text a.after)

abbrev pub advices_text : AdviceReport → List ℕ
advices_text r =
    line
    (codes "resizes" ++ number (length r.rows) ++ codes " tried" ++ number r.tried ++ codes " refused" ++ number r.refused
    ++ totals_text r.now)
    ++ flat_map size_advice_text r.rows

-- the name and the kind that a question has
abbrev pub asked_name : ClosingQuery → List ℕ
asked_name (net_query net) = net
asked_name (instance_query inst) = inst
asked_name (sizes_query inst) = inst
asked_name (timing_query pin kind) = pin
asked_name (through_query pin kind pins) = pin
asked_name (worst_query kind count each) = []
asked_name (failing_query kind) = []
asked_name (summary_query kind) = []
asked_name skew_query = []
asked_name (AdviseTns kind candidates) = []
asked_name (AdviseSizes kind aim insts) = []

abbrev pub asked_kind : ClosingQuery → List ℕ
asked_kind (net_query net) = []
asked_kind (instance_query inst) = []
asked_kind (sizes_query inst) = []
asked_kind (timing_query pin kind) = kind_text kind
asked_kind (through_query pin kind pins) = kind_text kind
asked_kind (worst_query kind count each) = kind_text kind
asked_kind (failing_query kind) = kind_text kind
asked_kind (summary_query kind) = kind_text kind
asked_kind skew_query = []
asked_kind (AdviseTns kind candidates) = kind_text kind
asked_kind (AdviseSizes kind aim insts) = kind_text kind

-- the answer to a question that closing timing needs, by the question
abbrev pub closing_text : List Clock → ClosingQuery → ClosingReport → List ℕ
closing_text clocks q (net_report r) = net_text (asked_name q) r
closing_text clocks q (instance_report r) = instance_text (asked_name q) r
closing_text clocks q (sizes_report r) = sizes_text (asked_name q) r
closing_text clocks q (timing_report t) = timed_text clocks (asked_kind q) (asked_name q) t
closing_text clocks q (worst_report paths) = worst_paths_text clocks (asked_kind q) paths
closing_text clocks q (failing_report r) = failing_text r
closing_text clocks q (summary_report r) = summary_text clocks (asked_kind q) r
closing_text clocks q (skew_report rows) = skews_text clocks rows
closing_text clocks q (Advices r) = advices_text r

abbrev pub closing_told : List Clock → Query → ClosingReport → List ℕ
closing_told clocks (closing_query query) r = closing_text clocks query r
closing_told clocks q r = []

-- a report by its question, with the line feed of its first line; the rows of a draft have no such text
abbrev pub single_text : List Clock → Query → Report → List ℕ
single_text clocks q (Value time) = line (query_word q ++ word (time_text time))
single_text clocks q (Times times) =
    line (query_word q ++ number (length times) ++ flat_map (edge_time_text clocks) times)
single_text clocks q (Shown None) = line (codes "path none")
single_text clocks q (Shown (Some p)) = path_text clocks q p
single_text clocks q (Ends rows) = line (codes "worst" ++ number (length rows)) ++ flat_map end_text rows
single_text clocks q (Paths paths) =
    line (codes "paths" ++ number (length paths)) ++ flat_map (path_text clocks q) paths
single_text clocks q (Drafted' shape rows) = []
single_text clocks q (Advised advice) = advice_text advice
single_text clocks q (Closing report) = closing_told clocks q report

abbrev pub singly_told : List Clock → Option Query → Report → List ℕ
singly_told clocks None report = []
singly_told clocks (Some q) report = single_text clocks q report

-- the row of a trial, with the line feed of its first line
abbrev pub trial_text : List Clock → Option Query → TrialAnswer → List ℕ
trial_text clocks query Tried = line (codes "tried")
trial_text clocks query (refused_trial fault) = line (codes "refused" ++ word (fault_text fault))
trial_text clocks query Dropped = line (codes "dropped")
trial_text clocks query NoDraft = line (codes "no_draft")
trial_text clocks query (no_trial fault) = line (codes "no" ++ word (query_fault_text fault))
trial_text clocks query (told_trial report) = singly_told clocks query report

abbrev pub trial_row_text : List Clock → TrialRow → List ℕ
trial_row_text clocks row = trial_text clocks row.query row.answer

-- a report by its question, the rows of a draft too
abbrev pub report_text : List Clock → Query → Report → List ℕ
report_text clocks q (Drafted' shape rows) =
    line (codes "what_if" ++ number (length (rows_in rows))) ++ flat_map (trial_row_text clocks) (rows_in rows)
report_text clocks q report = single_text clocks q report

abbrev pub told_text : List Clock → Option Query → Report → List ℕ
told_text clocks None report = []
told_text clocks (Some q) report = report_text clocks q report

abbrev pub answer_text : List Clock → Option Query → Answer → List ℕ
answer_text clocks query Taken = line (codes "taken")
answer_text clocks query Reached = line (codes "reached")
answer_text clocks query (NotYet looks) = line (codes "not_yet" ++ number (length looks))
answer_text clocks query Accepted = line (codes "accepted")
answer_text clocks query (Refused fault) = line (codes "refused" ++ word (fault_text fault))
answer_text clocks query (No fault) = line (codes "no" ++ word (query_fault_text fault))
answer_text clocks query (Told report) = told_text clocks query report

-- a row: its command and its number, then its answer
abbrev pub row_text : List Clock → Row → List ℕ
row_text clocks row = decimal row.command ++ number row.number ++ word (answer_text clocks row.query row.answer)

abbrev pub session_text : List Clock → ℕ → Transcript → List ℕ
session_text clocks n t =
    line (codes "session" ++ number n ++ codes " rows" ++ number (length t.rows)) ++ flat_map (row_text clocks) t.rows

abbrev pub sessions_text : List Clock → ℕ → List Transcript → List ℕ
sessions_text clocks n [] = []
sessions_text clocks n (t ∷ ts) = session_text clocks n t ++ sessions_text clocks (n + 1) ts

abbrev pub final_text : Totals → List ℕ
final_text t =
    line
    (codes "final" ++ number t.number
    ++ codes " setup" ++ word (time_text t.setup_wns) ++ word (ps_text t.setup_tns.0)
    ++ codes " hold" ++ word (time_text t.hold_wns) ++ word (ps_text t.hold_tns.0))

abbrev pub output_text : List Entry → List Transcript → List Clock → Totals → List ℕ
output_text journal ts clocks totals = journal_text journal ++ sessions_text clocks 1 ts ++ final_text totals

-- the line of a generated run: gates, edits, those that were accepted, and the totals
abbrev pub generated_text : ℕ → ℕ → ℕ → Totals → List ℕ
generated_text gates edits accepted t =
    line
    (codes "generated" ++ number gates ++ number edits ++ codes " accepted" ++ number accepted
    ++ codes " setup" ++ word (time_text t.setup_wns) ++ word (ps_text t.setup_tns.0)
    ++ codes " hold" ++ word (time_text t.hold_wns) ++ word (ps_text t.hold_tns.0))
