-- How the reading of documents stops, one document after the other.
use Rattle.std.proofs.Common.{◌≡◌, ℕ, List, [], ◌∷◌, Result, Ok, Err, inl, inr, sym, subst}
use Rattle.std.specs.Prelude.{IfErr}
use Rattle.std.specs.Result.{IsErrAnd}
use Rattle.timing_defs.specs.declared.library.Library.{Library}
use Rattle.timing_defs.specs.declared.netlist.Module.{Module}
use Rattle.sta_text.specs.declared.faults.Wrong.{Wrong}
use Rattle.command_words.specs.Asked.{RunWords}
use Rattle.shell_core.specs.declared.documents.Role.{Role}
use Rattle.shell_core.specs.declared.documents.Role.TheVariants.{Early, Late, Netlist}
use Rattle.shell_core.specs.declared.documents.Stop.{Stop}
use Rattle.shell_core.specs.declared.documents.Stop.TheVariants.{Refused, Missing, Memory}
use Rattle.shell_core.specs.declared.documents.How.{How}
use Rattle.shell_core.specs.Documents.{Docs, IsRead, FirstRefused, ShelfFails, Stops, Says, SaysLibrary, SaysModule}

-- an error that is handed up
pub handed_up : {T E : Type 0} (r : Result T E) (e : E) (P : E → Type 0) → IsErrAnd r (λ y. y ≡ e) → P e → IfErr r P
handed_up (Ok x) e P is h = absurd is
handed_up (Err y) e P is h = subst P (sym is) h

module _ (docs : Docs) (run : RunWords) where
  first_refused : (role : Role) (roles : List Role) (r : Role) (wrong : Wrong) → FirstRefused docs run (role ∷ []) r wrong → FirstRefused docs run (role ∷ roles) r wrong
  first_refused role roles r wrong (inl here) = inl here
  first_refused role roles r wrong (inr behind) = absurd behind.1

  first_missing : (old new : ℕ) (role : Role) (roles : List Role) (r : Role) (how : How) → ShelfFails docs run old new (role ∷ []) r how → ShelfFails docs run old new (role ∷ roles) r how
  first_missing old new role roles r how (inl here) = inl here
  first_missing old new role roles r how (inr behind) = absurd behind.1

  -- what stops the first document stops them all
  pub stops_first : (old new : ℕ) (role : Role) (roles : List Role) (stop : Stop) → Stops docs run old new (role ∷ []) stop → Stops docs run old new (role ∷ roles) stop
  stops_first old new role roles (Refused r code place) why = (first_refused role roles r (record { code = code; at = place }) why.0, why.1)
  stops_first old new role roles (Missing r how) why = first_missing old new role roles r how why
  stops_first old new role roles Memory why = tt

  -- what stops those behind a document that was read stops them all
  pub stops_behind : (old new : ℕ) (role : Role) (roles : List Role) (stop : Stop) → IsRead docs run role → Stops docs run old new roles stop → Stops docs run old new (role ∷ roles) stop
  stops_behind old new role roles (Refused r code place) read why = (inr (read, why.0), why.1)
  stops_behind old new role roles (Missing r how) read why = inr (read, why)
  stops_behind old new role roles Memory read why = tt

  refused_more : (role : Role) (short long : List Role) (r : Role) (wrong : Wrong) → (FirstRefused docs run short r wrong → FirstRefused docs run long r wrong)
      → FirstRefused docs run (role ∷ short) r wrong → FirstRefused docs run (role ∷ long) r wrong
  refused_more role short long r wrong more (inl here) = inl here
  refused_more role short long r wrong more (inr behind) = inr (behind.0, more behind.1)

  missing_more : (old new : ℕ) (role : Role) (short long : List Role) (r : Role) (how : How) → (ShelfFails docs run old new short r how → ShelfFails docs run old new long r how)
      → ShelfFails docs run old new (role ∷ short) r how → ShelfFails docs run old new (role ∷ long) r how
  missing_more old new role short long r how more (inl here) = inl here
  missing_more old new role short long r how more (inr behind) = inr (behind.0, more behind.1)

  -- what stops the first two documents stops them all
  pub stops_both : (old new : ℕ) (a b : Role) (roles : List Role) (stop : Stop) → Stops docs run old new (a ∷ b ∷ []) stop → Stops docs run old new (a ∷ b ∷ roles) stop
  stops_both old new a b roles (Refused r code place) why =
      let wrong : Wrong = record { code = code; at = place } in
      (refused_more a (b ∷ []) (b ∷ roles) r wrong (first_refused b roles r wrong) why.0, why.1)
  stops_both old new a b roles (Missing r how) why = missing_more old new a (b ∷ []) (b ∷ roles) r how (first_missing old new b roles r how) why
  stops_both old new a b roles Memory why = tt

  -- what stops the first three documents stops them all
  pub stops_three : (old new : ℕ) (a b c : Role) (roles : List Role) (stop : Stop) → Stops docs run old new (a ∷ b ∷ c ∷ []) stop → Stops docs run old new (a ∷ b ∷ c ∷ roles) stop
  stops_three old new a b c roles (Refused r code place) why =
      let wrong : Wrong = record { code = code; at = place } in
      (refused_more a (b ∷ c ∷ []) (b ∷ c ∷ roles) r wrong (refused_more b (c ∷ []) (c ∷ roles) r wrong (first_refused c roles r wrong)) why.0, why.1)
  stops_three old new a b c roles (Missing r how) why =
      missing_more old new a (b ∷ c ∷ []) (b ∷ c ∷ roles) r how (missing_more old new b (c ∷ []) (c ∷ roles) r how (first_missing old new c roles r how)) why
  stops_three old new a b c roles Memory why = tt

  -- what stops those behind two documents that were read stops them all
  pub stops_third : (old new : ℕ) (a b : Role) (roles : List Role) (stop : Stop) → IsRead docs run a → IsRead docs run b → Stops docs run old new roles stop
      → Stops docs run old new (a ∷ b ∷ roles) stop
  stops_third old new a b roles stop first second why =
      stops_behind old new a (b ∷ roles) stop first (stops_behind old new b roles stop second why)

  -- what stops those behind three documents that were read stops them all
  pub stops_fourth : (old new : ℕ) (a b c : Role) (roles : List Role) (stop : Stop) → IsRead docs run a → IsRead docs run b → IsRead docs run c → Stops docs run old new roles stop
      → Stops docs run old new (a ∷ b ∷ c ∷ roles) stop
  stops_fourth old new a b c roles stop first second third why =
      stops_behind old new a (b ∷ c ∷ roles) stop first (stops_third old new b c roles stop second third why)

  -- what stops the netlist, behind both libraries, stops all three
  pub stops_netlist : (old mid new : ℕ) (early late : Library) (stop : Stop) → Says docs run.early (SaysLibrary early) → Says docs run.late (SaysLibrary late) → mid ≡ old
      → Stops docs run mid new (Netlist ∷ []) stop → Stops docs run old new (Early ∷ Late ∷ Netlist ∷ []) stop
  stops_netlist old mid new early late stop first second same why =
      let read_early : IsRead docs run Early = (first.0, first.1, first.2.0) in
      let read_late : IsRead docs run Late = (second.0, second.1, second.2.0) in
      stops_third old new Early Late (Netlist ∷ []) stop read_early read_late (subst (λ n. Stops docs run n new (Netlist ∷ []) stop) same why)

  -- what stops those behind libraries and netlist stops them all
  pub stops_rest : (old mid new : ℕ) (early late : Library) (netlist : Module) (roles : List Role) (stop : Stop) → Says docs run.early (SaysLibrary early) → Says docs run.late (SaysLibrary late)
      → Says docs run.netlist (SaysModule netlist) → mid ≡ old → Stops docs run mid new roles stop → Stops docs run old new (Early ∷ Late ∷ Netlist ∷ roles) stop
  stops_rest old mid new early late netlist roles stop first second third same why =
      let read_early : IsRead docs run Early = (first.0, first.1, first.2.0) in
      let read_late : IsRead docs run Late = (second.0, second.1, second.2.0) in
      let read_netlist : IsRead docs run Netlist = (third.0, third.1, third.2.0) in
      stops_fourth old new Early Late Netlist roles stop read_early read_late read_netlist (subst (λ n. Stops docs run n new roles stop) same why)
