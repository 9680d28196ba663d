-- The fault of a text: of all its faults the one of least place, and at one place the one of lowest
-- code (own).
use Rattle.std.specs.Prelude.{◌≡◌, ℕ, List, [], ◌∷◌, Bool, ◌==◌, ◌&&◌, ◌||◌, nat_lt, Option, Some, None, if◌then◌else◌}
use Rattle.timing_defs.specs.declared.codes.Code.{Code}
use Rattle.timing_defs.specs.declared.codes.Code.TheVariants.{LibertyUnbalanced, LibertyBadToken, LibertyEncoding, LibertyBadUnit, LibertyUnknownTemplate, LibertyBadTable, LibertyDoubleName, LibertyIndexNotRising, LibertyOtherDelayModel, LibertyTooMany, VerilogBadToken, VerilogLeftOut, VerilogUndeclared, VerilogDoubleName, VerilogNoModule, VerilogTooMany, SdcBadWord, SdcUnknownCommand, SdcLeftOut, SdcBadNumber, SdcUnknownClock, SdcTooManyClocks, SpefBadHeader, SpefUnknownName, SpefLeftOut, SpefBadNumber, SpefDoubleNet, ScriptBadCommand, ScriptTooLong, JournalBadLine, JournalBadNumber, JournalVersion, JournalOtherDerates}
use Rattle.timing_defs.specs.declared.codes.ReadFault.{ReadFault}
use Rattle.timing_defs.specs.declared.codes.ReadFault.TheVariants.{At, Memory}
use Rattle.sta_text.specs.declared.faults.Wrong.{Wrong}

-- the number of a code among those of its reader, as it is printed
abbrev pub rank : Code → ℕ
rank LibertyUnbalanced = 1
rank LibertyBadToken = 2
rank LibertyEncoding = 3
rank LibertyBadUnit = 4
rank LibertyUnknownTemplate = 5
rank LibertyBadTable = 6
rank LibertyDoubleName = 7
rank LibertyIndexNotRising = 8
rank LibertyOtherDelayModel = 9
rank LibertyTooMany = 10
rank VerilogBadToken = 1
rank VerilogLeftOut = 2
rank VerilogUndeclared = 3
rank VerilogDoubleName = 4
rank VerilogNoModule = 5
rank VerilogTooMany = 6
rank SdcBadWord = 1
rank SdcUnknownCommand = 2
rank SdcLeftOut = 3
rank SdcBadNumber = 4
rank SdcUnknownClock = 5
rank SdcTooManyClocks = 6
rank SpefBadHeader = 1
rank SpefUnknownName = 2
rank SpefLeftOut = 3
rank SpefBadNumber = 4
rank SpefDoubleNet = 5
rank ScriptBadCommand = 1
rank ScriptTooLong = 2
rank JournalBadLine = 1
rank JournalBadNumber = 2
rank JournalVersion = 3
rank JournalOtherDerates = 5

-- at a lower place, or at the same place with a lower code
abbrev pub is_before : Wrong → Wrong → Bool
is_before x y = nat_lt x.at y.at || (x.at == y.at && nat_lt (rank x.code) (rank y.code))

-- the lesser of two faults, the first of equal ones
abbrev pub lesser : Option Wrong → Wrong → Option Wrong
lesser None x = Some x
lesser (Some y) x = (if is_before x y then Some x else Some y)

-- the least of a list of faults and one that is known already
unfoldable pub least_from : Option Wrong → List Wrong → Option Wrong
least_from best [] = best
least_from best (x ∷ xs) = least_from (lesser best x) xs

-- a fault as a reader tells it
abbrev pub told_fault : Wrong → ReadFault
told_fault x = At x.code x.at

-- a fault that is told is the least of the list; want of memory may come at any time
abbrev pub Fails : ReadFault → List Wrong → Type 0
Fails Memory faults = Unit {0}
Fails (At code offset) faults = least_from None faults ≡ Some (record { code = code; at = offset })
