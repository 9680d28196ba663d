-- The printed codes of the faults of reading.

use Rattle.std.specs.Prelude.{ℕ, List, codes}
use Rattle.timing_defs.specs.declared.codes.Code.{Code}
use Rattle.timing_defs.specs.declared.codes.Code.TheVariants.{LibertyUnbalanced, LibertyBadToken, LibertyEncoding, LibertyBadUnit, LibertyUnknownTemplate, LibertyBadTable, LibertyDoubleName, LibertyIndexNotRising, LibertyOtherDelayModel, LibertyTooMany, VerilogBadToken, VerilogLeftOut, VerilogUndeclared, VerilogDoubleName, VerilogNoModule, VerilogTooMany, SdcBadWord, SdcUnknownCommand, SdcLeftOut, SdcBadNumber, SdcUnknownClock, SdcTooManyClocks, SpefBadHeader, SpefUnknownName, SpefLeftOut, SpefBadNumber, SpefDoubleNet, ScriptBadCommand, ScriptTooLong, JournalBadLine, JournalBadNumber, JournalVersion, JournalOtherDerates}

-- The bytes that are printed for a code.
abbrev pub code_text : Code → List ℕ
code_text LibertyUnbalanced = codes "L1"
code_text LibertyBadToken = codes "L2"
code_text LibertyEncoding = codes "L3"
code_text LibertyBadUnit = codes "L4"
code_text LibertyUnknownTemplate = codes "L5"
code_text LibertyBadTable = codes "L6"
code_text LibertyDoubleName = codes "L7"
code_text LibertyIndexNotRising = codes "L8"
code_text LibertyOtherDelayModel = codes "L9"
code_text LibertyTooMany = codes "L10"
code_text VerilogBadToken = codes "V1"
code_text VerilogLeftOut = codes "V2"
code_text VerilogUndeclared = codes "V3"
code_text VerilogDoubleName = codes "V4"
code_text VerilogNoModule = codes "V5"
code_text VerilogTooMany = codes "V6"
code_text SdcBadWord = codes "S1"
code_text SdcUnknownCommand = codes "S2"
code_text SdcLeftOut = codes "S3"
code_text SdcBadNumber = codes "S4"
code_text SdcUnknownClock = codes "S5"
code_text SdcTooManyClocks = codes "S6"
code_text SpefBadHeader = codes "P1"
code_text SpefUnknownName = codes "P2"
code_text SpefLeftOut = codes "P3"
code_text SpefBadNumber = codes "P4"
code_text SpefDoubleNet = codes "P5"
code_text ScriptBadCommand = codes "C1"
code_text ScriptTooLong = codes "C2"
code_text JournalBadLine = codes "J1"
code_text JournalBadNumber = codes "J2"
code_text JournalVersion = codes "J3"
code_text JournalOtherDerates = codes "J5"
