-- Where nothing refuses a run it is answered, or memory is wanting.
use Rattle.std.proofs.Common.{◌≡◌, ◌⊎◌, ℕ, ◌<◌, ◌≤◌, Bool, true, false, if◌then◌else◌, List, [], ◌∷◌, length, Option, Some, None, Result, Ok, Err, refl, sym, ap, ◌∙◌, subst, inl, inr, arith}
use Rattle.std.specs.Prelude.{is_some, is_ok, unwrap_or, IsSomeAnd}
use Rattle.std.specs.List.{list_any}
use Rattle.std.proofs.lemmas.Bool.{false≢true}
use Rattle.sta_outside.specs.Shelf.{held, document_limit, Rose}
use Rattle.timing_defs.specs.declared.design.Design.{Design}
use Rattle.timing_defs.specs.declared.constraints.Constraints.{Constraints}
use Rattle.timing_defs.specs.declared.library.Units.{Units}
use Rattle.timing_defs.specs.declared.edits.Entry.{Entry}
use Rattle.timing_defs.specs.declared.faults.Fault.{Fault}
use Rattle.timing_defs.specs.declared.scripts.Script.{Script}
use Rattle.timing_rules.specs.Sessions.{IsInitial}
use Rattle.sta_text.specs.declared.faults.Wrong.{Wrong}
use Rattle.sta_text.specs.Faults.{least_from}
use Rattle.liberty_cells.specs.Faults.{units_of_text}
use Rattle.eco_analysis.specs.Soundness.{IsFaultless}
use Rattle.command_words.specs.Asked.{RunWords, Words}
use Rattle.command_words.specs.Asked.{run as run_asked, generate as generate_asked}
use Rattle.shell_core.specs.declared.documents.Role.{Role}
use Rattle.shell_core.specs.declared.documents.Role.TheVariants.{Early, Late, Netlist, Sdc, Spef, Journal, Session}
use Rattle.shell_core.specs.declared.documents.How.{How}
use Rattle.shell_core.specs.declared.documents.How.TheVariants.{Failed, Absent, TooLong}
use Rattle.shell_core.specs.declared.documents.Documents.{Documents}
use Rattle.shell_core.specs.Documents.{Docs, sources, name_of, constraint_faults, constraints_said, journal_faults, AreUnits, AreConstraints, HasFaults, FirstRefused, FetchFails, ShelfFails, AreDocuments}
use Rattle.shell_core.specs.Answers.{has_refusal}
use Rattle.shell_session.specs.Serving.{DesignEnds, SavedEnds, BegunEnds, DocumentsEnd, RunEnds, Written, HasText, HasTexts, AreAccepted, AreSound, NothingRefuses, IsAnswered}
use Rattle.shell_session.proofs.SavedLaws.{accepted_all}

some_is : {X : Type 0} (a b : X) → Some a ≡ Some b → a ≡ b
some_is a b same = ap (λ o. unwrap_or o a) same

least_of_none : least_from None [] ≡ None
unfolding least_from
least_of_none = refl

module _ (map : List (List ℕ × List ℕ)) (run : RunWords) where
  one_units : (a b : Units) → AreUnits (Some map) run a → AreUnits (Some map) run b → a ≡ b
  one_units a b left right =
      let texts : left.0 ≡ right.0 = some_is left.0 right.0 (sym left.1.0 ∙ right.1.0) in
      left.2 ∙ ap units_of_text texts ∙ sym right.2

  -- and the text of the constraints says one thing
  one_constraints : (a b : Constraints) → AreConstraints (Some map) run a → AreConstraints (Some map) run b → a ≡ b
  one_constraints a b left right =
      let units : left.0 ≡ right.0 = one_units left.0 right.0 left.1 right.1 in
      let texts : left.2.0 ≡ right.2.0 = some_is left.2.0 right.2.0 (sym left.2.1.0 ∙ right.2.1.0) in
      left.2.2.1 ∙ ap (λ u. constraints_said u left.2.0) units ∙ ap (λ t. constraints_said right.0 t) texts ∙ sym right.2.2.1

  -- a told text has one list of faults
  one_list : (role : Role) (text : List ℕ) (xs ys : List Wrong) → HasFaults (Some map) run role text xs → HasFaults (Some map) run role text ys → xs ≡ ys
  one_list Early text xs ys left right = sym left ∙ right
  one_list Late text xs ys left right = sym left ∙ right
  one_list Netlist text xs ys left right = sym left ∙ right
  one_list Sdc text xs ys left right =
      let units : left.0 ≡ right.0 = one_units left.0 right.0 left.1 right.1 in
      sym left.2 ∙ ap (λ u. constraint_faults u text) units ∙ right.2
  one_list Spef text xs ys left right = sym left ∙ right
  one_list Journal text xs ys left right =
      let same : left.0 ≡ right.0 = one_constraints left.0 right.0 left.1 right.1 in
      sym left.2 ∙ ap (λ (c : Constraints). journal_faults c.derates text) same ∙ right.2
  one_list (Session number) text xs ys left right = sym left ∙ right

  refused_here : (role : Role) (wrong : Wrong) → HasText map run role → (text : List ℕ) (faults : List Wrong) → held map (name_of run role) ≡ Some text
      → HasFaults (Some map) run role text faults → least_from None faults ≡ Some wrong → ⊥
  refused_here role wrong has text faults there faulty least =
      let same : text ≡ has.0 = some_is text has.0 (sym there ∙ has.1) in
      let none : faults ≡ [] = one_list role has.0 faults [] (subst (λ t. HasFaults (Some map) run role t faults) same faulty) has.3 in
      false≢true (ap is_some (sym least_of_none ∙ ap (least_from None) (sym none) ∙ least))

  refused_not : (roles : List Role) (role : Role) (wrong : Wrong) → HasTexts map run roles → FirstRefused (Some map) run roles role wrong → ⊥
  refused_not [] role wrong all refused = refused
  refused_not (r ∷ roles) role wrong all (inl here) = refused_here r wrong all.0 here.1.0 here.1.1 here.1.2.0 here.1.3 here.1.4
  refused_not (r ∷ roles) role wrong all (inr behind) = refused_not roles role wrong all.1 behind.1

  fetch_not : (old new : ℕ) (role : Role) (how : How) → HasText map run role → (Rose old new → ⊥) → FetchFails (Some map) old new (name_of run role) how → ⊥
  fetch_not old new role Failed has quiet fails = quiet fails
  fetch_not old new role Absent has quiet fails = false≢true (ap is_some (sym fails.0 ∙ has.1))
  fetch_not old new role TooLong has quiet fails =
      let reached : IsSomeAnd (Some has.0) (λ bytes. fails.0 ≤ length bytes) = subst (λ o. IsSomeAnd o (λ bytes. fails.0 ≤ length bytes)) has.1 fails.2 in
      let far : fails.0 ≤ length has.0 = reached in
      let short : length has.0 ≤ document_limit = has.2 in
      let long : document_limit < fails.0 = fails.1 in
      omega (arith, far, short, long)

  missing_not : (old new : ℕ) (roles : List Role) (role : Role) (how : How) → HasTexts map run roles → (Rose old new → ⊥) → ShelfFails (Some map) run old new roles role how → ⊥
  missing_not old new [] role how all quiet fails = fails
  missing_not old new (r ∷ roles) role how all quiet (inl here) = fetch_not old new r how all.0 quiet here.1
  missing_not old new (r ∷ roles) role how all quiet (inr behind) = missing_not old new roles role how all.1 quiet behind.1

-- 0, 1, or want of memory
abbrev IsRunAnswered : ℕ → Type 0
IsRunAnswered status = (status ≡ 0) ⊎ (status ≡ 1) ⊎ (status ≡ 6)

counted : (status : ℕ) (b : Bool) → status ≡ (if b then 1 else 0) → IsRunAnswered status
counted status true is = inr (inl is)
counted status false is = inl is

abbrev ok_design : Result Design Fault → Design → Design
ok_design (Ok d) other = d
ok_design (Err x) other = other

-- a design without a fault is answered
design_answers : (d : Design) (scripts : List Script) (status : ℕ) (text : List ℕ) → IsFaultless d → DesignEnds d scripts status text → IsRunAnswered status
design_answers d scripts status text sound (inl faulty) = absurd (sound faulty.1.0 faulty.1.1)
design_answers d scripts status text sound (inr answer) = counted status (list_any (λ t. has_refusal t.rows) answer.1.1) answer.1.4

saved_answers : (d initial : Design) (saved : List Entry) (scripts : List Script) (status : ℕ) (text : List ℕ) → IsFaultless d → IsInitial d saved initial
    → SavedEnds d saved scripts status text → IsRunAnswered status
saved_answers d initial saved scripts status text sound is (inl faulty) = absurd (sound faulty.1.0 faulty.1.1)
saved_answers d initial saved scripts status text sound is (inr (inl refused)) = absurd (accepted_all d saved initial refused.1.0 refused.1.1 is refused.1.2)
saved_answers d initial saved scripts status text sound is (inr (inr ended)) =
    let answer = ended.1.2 in counted status (list_any (λ t. has_refusal t.rows) answer.1) answer.4

begun_answers : (d : Design) (saved : Option (List Entry)) (scripts : List Script) (status : ℕ) (text : List ℕ) → IsFaultless d → AreAccepted d saved
    → BegunEnds d saved scripts status text → IsRunAnswered status
begun_answers d None scripts status text sound accepted ended = design_answers d scripts status text sound ended
begun_answers d (Some saved) scripts status text sound accepted ended = saved_answers d accepted.0 saved scripts status text sound accepted.1 ended

documents_answer : (docs : Documents) (status : ℕ) (text : List ℕ) → AreSound docs → DocumentsEnd docs status text → IsRunAnswered status
documents_answer docs status text sound (inl refused) = absurd (false≢true (ap is_ok (sym refused.1.1 ∙ sound.1)))
documents_answer docs status text sound (inr ended) =
    let same : sound.0 ≡ ended.0 = ap (λ (r : Result Design Fault). ok_design r ended.0) (sym sound.1 ∙ ended.1) in
    begun_answers ended.0 docs.saved docs.scripts status text (subst IsFaultless same sound.2) (subst (λ d. AreAccepted d docs.saved) same sound.3) ended.2

module _ (map : List (List ℕ × List ℕ)) (run : RunWords) (f f' : ℕ) (texts : HasTexts map run (sources run))
    (sound : (docs : Documents) → AreDocuments (Some map) run docs → AreSound docs) (quiet : Rose f f' → ⊥) where
  run_answers : (status : ℕ) (text : List ℕ) → RunEnds (Some map) f f' run status text → IsRunAnswered status
  run_answers status text (inl refused) = absurd (refused_not map run (sources run) refused.1.0 refused.1.1 texts refused.1.2)
  run_answers status text (inr (inl missing)) = absurd (missing_not map run f f' (sources run) missing.1.0 missing.1.1 texts quiet missing.1.2)
  run_answers status text (inr (inr ended)) = documents_answer ended.0 status text (sound ended.0 ended.1) ended.2

-- what stands at the sink where nothing refuses
pub completes : (old new : Option (List ℕ)) (faults faults' : ℕ) (holds : Docs) (f f' : ℕ) (asked : Option Words) (status : ℕ)
    → Written old new faults faults' holds f f' asked status → NothingRefuses holds f f' faults faults' asked → IsAnswered asked status
completes old new faults faults' holds f f' None status ends must = absurd must
completes old new faults faults' holds f f' (Some (run_asked run)) status (inl failed) must = absurd (must.5 failed.1)
completes old new faults faults' holds f f' (Some (run_asked run)) status (inr (inl wanting)) must = inr (inr wanting.0)
completes old new faults faults' holds f f' (Some (run_asked run)) status (inr (inr ended)) must =
    run_answers must.0 run f f' must.2 must.3 must.4 status ended.2.0 (subst (λ h. RunEnds h f f' run status ended.2.0) must.1 ended.2.1)
completes old new faults faults' holds f f' (Some (generate_asked g)) status (inl failed) must = absurd (must failed.1)
completes old new faults faults' holds f f' (Some (generate_asked g)) status (inr (inl wanting)) must = inr wanting.0
completes old new faults faults' holds f f' (Some (generate_asked g)) status (inr (inr ended)) must = inl ended.2.1.0
