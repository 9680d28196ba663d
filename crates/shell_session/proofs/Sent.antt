-- What a session leaves may go from thread to thread: each type in its turn, since one search through all of them is too long.
use denote.Param.Send.{IsSend, IsSync, sendable}
use Rattle.std.proofs.Crossing.{crosses}
use Rattle.sta_units.proofs.units.Fs.TheSendSync as fs_sent
use Rattle.sta_units.proofs.units.Memory.TheSendSync as memory_sent
use Rattle.timing_defs.proofs.names.Name.TheSendSync as name_sent
use Rattle.timing_defs.proofs.items.Items.TheSendSync as items_sent
use Rattle.timing_defs.proofs.kinds.Split.TheSendSync as split_sent
use Rattle.timing_defs.proofs.kinds.Tran.TheSendSync as tran_sent
use Rattle.timing_defs.proofs.kinds.Kind.TheSendSync as kind_sent
use Rattle.timing_defs.proofs.edits.Eco.TheSendSync as eco_sent
use Rattle.timing_defs.proofs.edge_times.EdgeTime.TheSendSync as time_sent
use Rattle.timing_defs.proofs.rows.Path.TheSendSync as path_sent
use Rattle.timing_defs.proofs.reports.Candidate.TheSendSync as candidate_sent
use Rattle.timing_defs.proofs.reports.EndRow.TheSendSync as end_sent
use Rattle.timing_defs.proofs.reports.Advice.TheSendSync as advice_sent
use Rattle.timing_defs.proofs.closing.ClosingQuery.TheSendSync as closing_query_sent
use Rattle.timing_defs.proofs.closing.ClosingReport.TheSendSync as closing_report_sent
use Rattle.timing_defs.proofs.faults.Fault.TheSendSync as fault_sent
use Rattle.timing_defs.proofs.faults.QueryFault.TheSendSync as query_fault_sent
use Rattle.timing_defs.specs.contracts.reports.Query as query
use Rattle.timing_defs.specs.contracts.reports.Report as report
use Rattle.timing_defs.specs.contracts.scripts.Answer as answer
use Rattle.timing_defs.specs.contracts.scripts.Command as command
use Rattle.timing_defs.specs.contracts.scripts.Script as script
use Rattle.timing_defs.specs.contracts.scripts.Row as row
use Rattle.timing_defs.specs.contracts.scripts.Transcript as transcript
use Rattle.timing_defs.proofs.reports.Query.TheLaws.TheKnot as query_knot
use Rattle.timing_defs.proofs.reports.Report.TheLaws.TheKnot as report_knot
use Rattle.timing_defs.specs.contracts.edits.Entry as entry
use Rattle.timing_defs.specs.contracts.design.Design as design
use Rattle.version_board.specs.contracts.boards.Board as board
use Rattle.version_board.specs.contracts.boards.Seat as seat
use Rattle.session_engine.specs.contracts.versions.Version as version
use Rattle.session_engine.specs.contracts.versions.VersionStands.TheImpl as stands
use Rattle.version_board.proofs.boards.Board.TheSendSync as board_sent
use Rattle.version_board.proofs.boards.Seat.TheSendSync as seat_sent
use Rattle.session_engine.proofs.versions.Version.TheSendSync as version_sent
use Rattle.shell_session.specs.contracts.sessions.Ended as ended

ruleset parts = (name_sent.the_send, items_sent.the_send, split_sent.the_send, split_sent.the_field_send, tran_sent.the_send, tran_sent.the_field_send, kind_sent.the_send, kind_sent.the_field_send, eco_sent.the_send, eco_sent.the_field_send, time_sent.the_send, time_sent.the_field_send, path_sent.the_send, path_sent.the_field_send, candidate_sent.the_send, candidate_sent.the_field_send, end_sent.the_send, end_sent.the_field_send, advice_sent.the_send, advice_sent.the_field_send, closing_query_sent.the_send, closing_query_sent.the_field_send, closing_report_sent.the_send, closing_report_sent.the_field_send, fault_sent.the_send, fault_sent.the_field_send, query_fault_sent.the_send, query_fault_sent.the_field_send, fs_sent.the_send, fs_sent.the_field_send, memory_sent.the_send, memory_sent.the_field_send)

query_send : IsSend query.the_row
query_send = search (query_knot.crosses, parts, crosses, sendable) depth 64 fits 20000

query_field_send : IsSend query.the_field.row
query_field_send = search (query_knot.crosses, parts, crosses, sendable) depth 64 fits 20000

report_send : IsSend report.the_row
report_send = let a = query_send in let b = query_field_send in search (report_knot.crosses, parts, crosses, sendable) depth 64 fits 20000

report_field_send : IsSend report.the_field.row
report_field_send = let a = query_send in let b = query_field_send in search (report_knot.crosses, parts, crosses, sendable) depth 64 fits 20000

answer_send : IsSend answer.the_row
answer_send = let a = report_send in let b = report_field_send in search (parts, crosses, sendable) depth 64 fits 20000

answer_field_send : IsSend answer.the_field.row
answer_field_send = let a = report_send in let b = report_field_send in search (parts, crosses, sendable) depth 64 fits 20000

row_send : IsSend row.the_row
row_send = let a = query_send in let b = query_field_send in let c = answer_send in let d = answer_field_send in search (parts, crosses, sendable) depth 64 fits 20000

row_field_send : IsSend row.the_field.row
row_field_send = let a = query_send in let b = query_field_send in let c = answer_send in let d = answer_field_send in search (parts, crosses, sendable) depth 64 fits 20000

transcript_send : IsSend transcript.the_row
transcript_send = let a = row_send in let b = row_field_send in search (parts, crosses, sendable) depth 64 fits 20000

transcript_field_send : IsSend transcript.the_field.row
transcript_field_send = let a = row_send in let b = row_field_send in search (parts, crosses, sendable) depth 64 fits 20000

pub ended_send : IsSend ended.the_row
ended_send = let a = transcript_send in let b = transcript_field_send in search (seat_sent.the_send, version_sent.the_send, version_sent.the_sync, parts, crosses, sendable) depth 64 fits 20000

ruleset shared_parts = (name_sent.the_sync, items_sent.the_sync, split_sent.the_sync, split_sent.the_field_sync, tran_sent.the_sync, tran_sent.the_field_sync, kind_sent.the_sync, kind_sent.the_field_sync, eco_sent.the_sync, eco_sent.the_field_sync, time_sent.the_sync, time_sent.the_field_sync, path_sent.the_sync, path_sent.the_field_sync, candidate_sent.the_sync, candidate_sent.the_field_sync, end_sent.the_sync, end_sent.the_field_sync, advice_sent.the_sync, advice_sent.the_field_sync, closing_query_sent.the_sync, closing_query_sent.the_field_sync, fault_sent.the_sync, fault_sent.the_field_sync, query_fault_sent.the_sync, query_fault_sent.the_field_sync, fs_sent.the_sync, fs_sent.the_field_sync, memory_sent.the_sync, memory_sent.the_field_sync)

query_sync : IsSync query.the_row
query_sync = search (query_knot.crosses, shared_parts, crosses, sendable) depth 64 fits 20000

query_field_sync : IsSync query.the_field.row
query_field_sync = search (query_knot.crosses, shared_parts, crosses, sendable) depth 64 fits 20000

command_sync : IsSync command.the_row
command_sync = let a = query_sync in let b = query_field_sync in search (shared_parts, crosses, sendable) depth 64 fits 20000

command_field_sync : IsSync command.the_field.row
command_field_sync = let a = query_sync in let b = query_field_sync in search (shared_parts, crosses, sendable) depth 64 fits 20000

pub script_sync : IsSync script.the_row
script_sync = let a = command_sync in let b = command_field_sync in search (shared_parts, crosses, sendable) depth 64 fits 20000

pub board_sync : IsSync (board.the_row version.the_row entry.the_row design.the_row stands.ghosts)
board_sync = search (board_sent.the_sync, version_sent.the_send, version_sent.the_sync, crosses, sendable) depth 64 fits 20000

pub seat_send : IsSend (seat.the_row version.the_row entry.the_row design.the_row stands.ghosts)
seat_send = search (seat_sent.the_send, version_sent.the_send, version_sent.the_sync, crosses, sendable) depth 64 fits 20000
