-- The entries that a journal can hold: edits of names and numbers that an edit line can write.
use Rattle.std.specs.Prelude.{◌≡◌, ◌<◌, ◌≤◌, ◌+◌, ℕ, ℤ, pos, negsuc, List, [], ◌∷◌, true, length, Option, Some, None}
use Rattle.std.specs.List.{list_all, flat_map}
use Rattle.timing_defs.specs.Names.{is_name}
use Rattle.timing_defs.specs.Output.{line, edit_text}
use Rattle.timing_defs.specs.declared.parasitics.RcNode.{RcNode}
use Rattle.timing_defs.specs.declared.parasitics.RcNode.TheVariants.{Pin, Inner}
use Rattle.timing_defs.specs.declared.parasitics.RcCap.{RcCap}
use Rattle.timing_defs.specs.declared.parasitics.RcRes.{RcRes}
use Rattle.timing_defs.specs.declared.parasitics.NetRc.{NetRc}
use Rattle.timing_defs.specs.declared.edits.Edit.{Edit}
use Rattle.timing_defs.specs.declared.edits.Edit.TheVariants.{Repower, InsertGate, RemoveGate, InsertNet, RemoveNet, Connect, Disconnect, InsertBuffer, SetParasitics}
use Rattle.timing_defs.specs.declared.edits.Eco.{Eco}
use Rattle.timing_defs.specs.declared.edits.Entry.{Entry}
use Rattle.eco_journal.specs.Items.{most, inner}

abbrev pub IsName : List ℕ → Type 0
IsName name = is_name name ≡ true

-- a pin word that does not begin with `#`, or an inner node
abbrev pub IsNode : RcNode → Type 0
IsNode (Pin name) = IsName name × (inner name ≡ None)
IsNode (Inner k) = k ≤ 4294967295

-- a number of aF or mΩ
abbrev pub IsSize : ℤ → Type 0
IsSize (pos n) = n ≤ most
IsSize (negsuc n) = ⊥

abbrev pub AreCaps : List RcCap → Type 0
AreCaps [] = Unit {0}
AreCaps (c ∷ cs) = IsNode c.node × IsSize c.cap.0 × AreCaps cs

abbrev pub AreRess : List RcRes → Type 0
AreRess [] = Unit {0}
AreRess (r ∷ rs) = IsNode r.a × IsNode r.b × IsSize r.res.0 × AreRess rs

-- parasitics of this net, of which at least one item stands
abbrev pub IsRc : List ℕ → Option NetRc → Type 0
IsRc net None = Unit {0}
IsRc net (Some rc) =
    (rc.net ≡ net) × (rc.lump.0 ≡ pos 0) × AreCaps rc.caps × AreRess rc.ress × (0 < length rc.caps + length rc.ress)

abbrev pub IsEdit : Edit → Type 0
IsEdit (Repower inst cell) = IsName inst × IsName cell
IsEdit (InsertGate inst cell) = IsName inst × IsName cell
IsEdit (RemoveGate inst) = IsName inst
IsEdit (InsertNet net) = IsName net
IsEdit (RemoveNet net) = IsName net
IsEdit (Connect pin net) = IsName pin × IsName net
IsEdit (Disconnect pin) = IsName pin
IsEdit (InsertBuffer net inst fresh cell sinks) =
    IsName net × IsName inst × IsName fresh × IsName cell × (list_all is_name sinks ≡ true) × (0 < length sinks)
IsEdit (SetParasitics net rc) = IsName net × IsRc net rc

abbrev pub AreEdits : List Edit → Type 0
AreEdits [] = Unit {0}
AreEdits (e ∷ es) = IsEdit e × AreEdits es

-- edits, a line each
abbrev pub edits_text : List Edit → List ℕ
edits_text edits = flat_map (λ (e : Edit). line (edit_text e)) edits

-- 1 to 1,000 edits
abbrev pub IsEco : Eco → Type 0
IsEco eco = (1 ≤ length eco.edits) × (length eco.edits ≤ 1000) × AreEdits eco.edits

-- an entry of a session from 1 to 16
abbrev pub IsEntry : Entry → Type 0
IsEntry entry = (1 ≤ entry.session) × (entry.session ≤ 16) × IsEco entry.eco

abbrev pub AreEntries : List Entry → Type 0
AreEntries [] = Unit {0}
AreEntries (entry ∷ entries) = IsEntry entry × AreEntries entries
