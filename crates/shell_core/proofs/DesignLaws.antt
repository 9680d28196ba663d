-- How the reading stops of the documents of a design, of a saved journal and of the scripts behind them.
use Rattle.std.proofs.Common.{◌≡◌, ℕ, Bool, true, false, List, [], ◌∷◌, ◌++◌, Option, Some, None, inl, inr, refl, sym, ap, ◌∙◌, subst}
use Rattle.std.specs.Prelude.{if◌then◌else◌, unwrap_or, IsSomeAnd, ⊤}
use Rattle.std.proofs.lemmas.List.{append_assoc}
use Rattle.timing_defs.specs.declared.constraints.Constraints.{Constraints}
use Rattle.timing_defs.specs.declared.constraints.Derates.{Derates}
use Rattle.timing_defs.specs.declared.edits.Entry.{Entry}
use Rattle.timing_defs.specs.declared.parasitics.Parasitics.{Parasitics}
use Rattle.sta_text.specs.declared.faults.Wrong.{Wrong}
use Rattle.sta_text.specs.Faults.{least_from}
use Rattle.command_words.specs.Asked.{RunWords}
use Rattle.shell_core.specs.declared.documents.Role.{Role}
use Rattle.shell_core.specs.declared.documents.Role.TheVariants.{Early, Late, Netlist, Sdc, Spef, Journal}
use Rattle.shell_core.specs.declared.documents.Stop.{Stop}
use Rattle.shell_core.specs.declared.documents.Stop.TheVariants.{Refused, Missing, Memory}
use Rattle.shell_core.specs.declared.documents.How.{How}
use Rattle.shell_core.specs.declared.documents.DesignDocuments.{DesignDocuments}
use Rattle.shell_core.specs.Documents.{Docs, behind_journal, script_sources, journal_sources, sources, fault_told, journal_faults, Gives, IsRead, FirstRefused, ShelfFails, Stops, AreConstraints, AreParasitics, AreSaved}
use Rattle.shell_core.specs.Designs.{spef_sources, design_sources, fetched_journal, IsNoFault, AreDesign, IsFetched, DesignStops, AreEntriesOf, JournalStops}
use Rattle.shell_core.proofs.Stopping.{stops_behind}

-- the documents of a run are those of its design, a saved journal and the scripts
behind_spef : (none : Bool) (roles : List Role) → (if none then [] else Spef ∷ []) ++ roles ≡ (if none then roles else Spef ∷ roles)
behind_spef true roles = refl
behind_spef false roles = refl

behind_fetched : (name : Option (List ℕ)) (roles : List Role) → behind_journal name [] ++ roles ≡ behind_journal name roles
behind_fetched None roles = refl
behind_fetched (Some name) roles = refl

all_sources : (run : RunWords) → design_sources run ++ journal_sources run ≡ sources run
all_sources run = ap (λ roles. Early ∷ Late ∷ Netlist ∷ Sdc ∷ roles) (behind_spef _ (journal_sources run))

all_fetched : (run : RunWords) → (design_sources run ++ fetched_journal run) ++ script_sources 1 run.scripts ≡ sources run
all_fetched run =
    append_assoc (design_sources run) (fetched_journal run) (script_sources 1 run.scripts)
    ∙ ap (λ roles. design_sources run ++ roles) (behind_fetched run.journal (script_sources 1 run.scripts))
    ∙ all_sources run

-- the entries of the text that was fetched are those of the journal
pub are_saved : (docs : Docs) (named text : Option (List ℕ)) (derates : Derates) (saved : Option (List Entry)) → IsFetched docs named text
    → AreEntriesOf derates text saved → AreSaved docs named derates saved
are_saved docs None None derates None fetched said = tt
are_saved docs None None derates (Some entries) fetched said = absurd said
are_saved docs None (Some text) derates saved fetched said = absurd fetched
are_saved docs (Some name) None derates saved fetched said = absurd fetched
are_saved docs (Some name) (Some text) derates None fetched said = absurd said
are_saved docs (Some name) (Some text) derates (Some entries) fetched said = (text, fetched, said)

module _ (docs : Docs) (run : RunWords) where
  -- documents that are there, and without a fault
  abbrev AreAllRead : List Role → Type 0
  AreAllRead [] = ⊤
  AreAllRead (role ∷ roles) = IsRead docs run role × AreAllRead roles

  -- what stops the first documents stops them all
  refused_in : (first rest : List Role) (r : Role) (wrong : Wrong) → FirstRefused docs run first r wrong → FirstRefused docs run (first ++ rest) r wrong
  refused_in [] rest r wrong why = absurd why
  refused_in (role ∷ first) rest r wrong (inl here) = inl here
  refused_in (role ∷ first) rest r wrong (inr behind) = inr (behind.0, refused_in first rest r wrong behind.1)

  missing_in : (old new : ℕ) (first rest : List Role) (r : Role) (how : How) → ShelfFails docs run old new first r how → ShelfFails docs run old new (first ++ rest) r how
  missing_in old new [] rest r how why = absurd why
  missing_in old new (role ∷ first) rest r how (inl here) = inl here
  missing_in old new (role ∷ first) rest r how (inr behind) = inr (behind.0, missing_in old new first rest r how behind.1)

  -- what stops those behind documents that were read stops them all
  stops_past : (old new : ℕ) (first rest : List Role) (stop : Stop) → AreAllRead first → Stops docs run old new rest stop → Stops docs run old new (first ++ rest) stop
  stops_past old new [] rest stop read why = why
  stops_past old new (role ∷ first) rest stop read why = stops_behind docs run old new role (first ++ rest) stop read.0 (stops_past old new first rest stop read.1 why)

  spef_read : (p : Parasitics) → AreParasitics docs run p → AreAllRead (spef_sources run)
  spef_read p (inl none) = subst (λ (b : Bool). AreAllRead (if b then [] else Spef ∷ [])) (sym none.0) tt
  spef_read p (inr named) = subst (λ (b : Bool). AreAllRead (if b then [] else Spef ∷ [])) (sym named.0) ((named.1.0, named.1.1, named.1.2.0), tt)

  -- the documents of a design that are there were read
  design_read : (d : DesignDocuments) → AreDesign docs run d → AreAllRead (design_sources run)
  design_read d are =
      let sdc = are.3 in (
        (are.0.0, are.0.1, are.0.2.0),
        (
          (are.1.0, are.1.1, are.1.2.0),
          ((are.2.0, are.2.1, are.2.2.0), ((sdc.2.0, sdc.2.1, (sdc.0, sdc.1, sdc.2.2.0)), spef_read d.spef are.4)),
        ),
      )

  -- and so was a saved journal whose entries are there
  journal_read : (named : Option (List ℕ)) (c : Constraints) (saved : Option (List Entry)) → run.journal ≡ named → AreConstraints docs run c
      → AreSaved docs named c.derates saved → AreAllRead (behind_journal named [])
  journal_read None c saved is are said = tt
  journal_read (Some name) c None is are said = absurd said
  journal_read (Some name) c (Some entries) is are said =
      ((said.0, subst (λ n. Gives docs (unwrap_or n []) said.0) (sym is) said.1, (c, are, ap fault_told said.2)), tt)

  -- what stops a design stops it with its journal
  pub stops_in_design : (old new : ℕ) (stop : Stop) → Stops docs run old new (design_sources run) stop → DesignStops docs run old new stop
  stops_in_design old new (Refused r code place) why = why
  stops_in_design old new (Missing r how) why = missing_in old new (design_sources run) (fetched_journal run) r how why
  stops_in_design old new Memory why = tt

  -- what keeps the text of a journal away, behind a design that was read
  pub stops_at_journal : (old new : ℕ) (d : DesignDocuments) (stop : Stop) → AreDesign docs run d → Stops docs run old new (fetched_journal run) stop → IsNoFault stop
      → DesignStops docs run old new stop
  stops_at_journal old new d (Refused r code place) are why none = absurd none
  stops_at_journal old new d (Missing r how) are why none = stops_past old new (design_sources run) (fetched_journal run) (Missing r how) (design_read d are) why
  stops_at_journal old new d Memory are why none = tt

  -- what stops a design or its journal stops all documents
  pub stops_before_scripts : (old new : ℕ) (stop : Stop) → DesignStops docs run old new stop → Stops docs run old new (sources run) stop
  stops_before_scripts old new (Refused r code place) why =
      let wrong : Wrong = record { code = code; at = place } in
      (subst (λ roles. FirstRefused docs run roles r wrong) (all_sources run) (refused_in (design_sources run) (journal_sources run) r wrong why.0), why.1)
  stops_before_scripts old new (Missing r how) why =
      subst (λ roles. ShelfFails docs run old new roles r how) (all_fetched run)
      (missing_in old new (design_sources run ++ fetched_journal run) (script_sources 1 run.scripts) r how why)
  stops_before_scripts old new Memory why = tt

  -- the fault of the text of a journal is that of the document
  journal_refused_at : (named text : Option (List ℕ)) (rest : List Role) (c : Constraints) (wrong : Wrong) → run.journal ≡ named → AreConstraints docs run c
      → IsFetched docs named text → IsSomeAnd text (λ t. least_from None (journal_faults c.derates t) ≡ Some wrong)
      → FirstRefused docs run (behind_journal named rest) Journal wrong
  journal_refused_at None None rest c wrong is are fetched least = absurd least
  journal_refused_at None (Some text) rest c wrong is are fetched least = absurd fetched
  journal_refused_at (Some name) None rest c wrong is are fetched least = absurd fetched
  journal_refused_at (Some name) (Some text) rest c wrong is are fetched least =
      inl (refl, (text, journal_faults c.derates text, subst (λ n. Gives docs (unwrap_or n []) text) (sym is) fetched, (c, are, refl), least))

  -- what stops the reading of a journal's text stops all documents
  pub stops_in_journal : (old : ℕ) (d : DesignDocuments) (text : Option (List ℕ)) (stop : Stop) → AreDesign docs run d → IsFetched docs run.journal text
      → JournalStops d.sdc.derates text stop → Stops docs run old old (sources run) stop
  stops_in_journal old d text (Refused r code place) are fetched why =
      let wrong : Wrong = record { code = code; at = place } in
      let here : FirstRefused docs run (journal_sources run) r wrong =
      subst (λ (x : Role). FirstRefused docs run (journal_sources run) x wrong) (sym why.0)
      (journal_refused_at run.journal text (script_sources 1 run.scripts) d.sdc wrong refl are.3 fetched why.1) in
      subst (λ roles. Stops docs run old old roles (Refused r code place)) (all_sources run)
      (stops_past old old (design_sources run) (journal_sources run) (Refused r code place) (design_read d are) (here, refl))
  stops_in_journal old d text (Missing r how) are fetched why = absurd why
  stops_in_journal old d text Memory are fetched why = tt

  -- what stops the scripts stops all documents
  pub stops_at_scripts : (old new : ℕ) (d : DesignDocuments) (saved : Option (List Entry)) (stop : Stop) → AreDesign docs run d → AreSaved docs run.journal d.sdc.derates saved
      → Stops docs run old new (script_sources 1 run.scripts) stop → Stops docs run old new (sources run) stop
  stops_at_scripts old new d saved stop are said why =
      let scripts : List Role = script_sources 1 run.scripts in
      let behind : Stops docs run old new (fetched_journal run ++ scripts) stop =
      stops_past old new (fetched_journal run) scripts stop (journal_read run.journal d.sdc saved refl are.3 said) why in
      subst (λ roles. Stops docs run old new roles stop) (all_fetched run)
      (subst (λ roles. Stops docs run old new roles stop) (sym (append_assoc (design_sources run) (fetched_journal run) scripts))
      (stops_past old new (design_sources run) (fetched_journal run ++ scripts) stop (design_read d are) behind))
