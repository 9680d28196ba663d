-- Versions of a design: what a journal of accepted ECOs makes of an origin, and its analysis.

use Rattle.std.specs.Prelude.{ℕ, ◌≡◌, ◌+◌, ◌^◌, ◌≤◌, true, List, [], ◌∷◌, ◌++◌, length}
use Rattle.std.specs.List.{list_all}
use Rattle.timing_defs.specs.declared.design.Design.{Design}
use Rattle.timing_defs.specs.declared.edits.Eco.{Eco}
use Rattle.timing_defs.specs.declared.edits.Entry.{Entry}
use Rattle.timing_defs.specs.Documents.{is_eco}
use Rattle.timing_rules.specs.Checks.{Accepts}
use Rattle.timing_rules.specs.Sessions.{DesignAfter}
use Rattle.netlist_store.specs.Numbering.{Stored}
use Rattle.affected_cone.specs.Analysed.{Analysed, IsAnalysis}
use Rattle.eco_analysis.specs.Soundness.{IsFaultless}

-- what contracts see of a version: the number of its origin and its own, the origin's design, the accepted ECOs
-- with their sessions, the store after them and its analysis
pub record Versioned : Type 0 where
  pub first : ℕ
  pub number : ℕ
  pub origin : Design
  pub journal : List Entry
  pub stored : Stored
  pub analysed : Analysed

-- the version of a journal, which is numbered by its entries
abbrev pub version_of : ℕ → Design → List Entry → Stored → Analysed → Versioned
version_of first origin journal stored analysed =
    record {
      first = first;
      number = first + length journal;
      origin = origin;
      journal = journal;
      stored = stored;
      analysed = analysed;
    }

-- nothing stands in the origin, each ECO is accepted in turn, and the analysis is that of the store after all
pub record IsVersion (v : Versioned) : Type 0 where
  pub first : v.first ≤ 2 ^ 62
  pub number : v.number ≡ v.first + length v.journal
  pub many : length v.journal ≤ 2 ^ 62
  pub origin : IsFaultless v.origin
  pub accepted : DesignAfter v.origin v.journal (length v.journal) v.stored.design
  pub ecos : list_all (λ entry. is_eco entry.eco) v.journal ≡ true
  pub analysed : v.analysed.stored ≡ v.stored
  pub analysis : IsAnalysis v.analysed

-- the entry of an accepted ECO
abbrev pub entry_of : ℕ → Eco → Entry
entry_of who eco = record { session = who; eco = eco }

-- the version that a session's ECO makes of a base: one entry more, and the design that the ECO is accepted with
pub record IsNext (base : Versioned) (who : ℕ) (eco : Eco) (next : Versioned) : Type 0 where
  pub first : next.first ≡ base.first
  pub number : next.number ≡ base.number + 1
  pub origin : next.origin ≡ base.origin
  pub journal : next.journal ≡ base.journal ++ entry_of who eco ∷ []
  pub accepts : Accepts base.stored.design eco next.stored.design
