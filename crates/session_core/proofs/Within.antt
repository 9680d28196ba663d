-- Each session stays within its script.
use Rattle.std.proofs.Common.{◌≡◌, ℕ, zero, suc, ◌+◌, ◌-◌, ◌<◌, ◌==◌, nat_lt, ◌&&◌, ◌^◌, true, false, IsTrue, List, length, Option, Some, None, is_none, IfSome, refl, sym, ap, ◌∙◌, arith}
use Rattle.std.specs.List.{slice_get, list_all}
use Rattle.std.specs.Option.{option_map, option_map_or}
use Rattle.std.proofs.lemmas.Bool.{cond_both}
use Rattle.std.proofs.lemmas.List.{length-set}
use Rattle.std.proofs.lemmas.Option.{slice_get_within}
use Rattle.timing_defs.specs.declared.scripts.Command.{Command}
use Rattle.timing_defs.specs.declared.scripts.Command.TheVariants.{Take as take_command, Await, Ask, Change}
use Rattle.timing_defs.specs.declared.scripts.Script.{Script}
use Rattle.session_core.specs.declared.events.Event.{Event}
use Rattle.session_core.specs.declared.events.Event.TheVariants.{Take, Level, Publish, Answer}
use Rattle.session_core.specs.declared.rows.CoreDraft.{CoreDraft}
use Rattle.session_core.specs.declared.rows.CoreSession.{CoreSession}
use Rattle.session_core.specs.declared.rows.RowSort.{RowSort}
use Rattle.session_core.specs.declared.rows.RowSort.TheVariants.{Accepted}
use Rattle.session_core.specs.Machine.{State, newest, next_command, with_look, draft_on, with_row, after_take, draft_after_level, after_publish, answer_to, after_answer, session_after, session_of, happens_at, happens_to, happens, is_change, is_runnable, IsWithin, AreWithin}
use Rattle.session_core.proofs.Places.{all_at, each_set}
use Rattle.session_core.proofs.Standing.{few_commands}

module _ (script : Script) (t : CoreSession) where
  -- without an ECO as the next command there is no draft
  no_draft : (d : Option CoreDraft) (P : CoreDraft → Type 0) → (is_change (next_command script t) ≡ true → ⊥)
      → IfSome d (λ draft. IsTrue (is_change (next_command script t)) × (t.held ≡ Some draft.base)) → IfSome d P
  no_draft None P other w = tt
  no_draft (Some draft) P other w = absurd (other w.0)

  within_looked : (n : ℕ) → (is_change (next_command script t) ≡ true → ⊥) → IsWithin script t → IsWithin script (record (with_look n t) { draft = t.draft })
  within_looked n other w =
      (w.0, w.1, λ some. refl, no_draft t.draft (λ draft. IsTrue (is_change (next_command script t)) × (Some n ≡ Some draft.base)) other w.3)

  within_drafted : (n : ℕ) → is_change (next_command script t) ≡ true → IsWithin script t → IsWithin script (record (with_look n t) { draft = draft_on n })
  within_drafted n change w = (w.0, w.1, λ some. refl, (change, refl))

  within_recorded : (command : Command) (number : ℕ) (sort : RowSort) → next_command script t ≡ Some command → IsWithin script t → IsWithin script (with_row number sort t)
  within_recorded command number sort e w =
      let near = slice_get_within script.commands (t.next - 1) command e in
      (omega arith, omega (arith, w.0), λ some. absurd (omega arith), tt)

  within_merged : (level : ℕ) (d : Option CoreDraft) → IfSome d (λ draft. IsTrue (is_change (next_command script t)) × (t.held ≡ Some draft.base))
      → IfSome (option_map (draft_after_level level) d) (λ draft. IsTrue (is_change (next_command script t)) × (t.held ≡ Some draft.base))
  within_merged level None w = tt
  within_merged level (Some draft) w =
      cond_both (draft.levels == level && nat_lt level (2 ^ 64 - 1)) (record draft { levels = level + 1 }) draft
      (λ (d : CoreDraft). IsTrue (is_change (next_command script t)) × (t.held ≡ Some d.base)) (λ b. w) (λ b. w)

  within_taken : (n : ℕ) (o : Option Command) → next_command script t ≡ o → IsWithin script t → IsWithin script (after_take n o t)
  within_taken n (Some take_command) e w = within_looked n (λ change. let no : false ≡ true = sym (ap is_change e) ∙ change in cc) w
  within_taken n (Some (Await number looks)) e w = within_looked n (λ change. let no : false ≡ true = sym (ap is_change e) ∙ change in cc) w
  within_taken n (Some (Change eco)) e w = within_drafted n (ap is_change e) w
  within_taken n (Some (Ask q)) e w =
      cond_both (is_none t.held) (record (with_look n t) { draft = t.draft }) t (IsWithin script)
      (λ b. within_looked n (λ change. let no : false ≡ true = sym (ap is_change e) ∙ change in cc) w) (λ b. w)
  within_taken n None e w =
      cond_both (is_none t.held) (record (with_look n t) { draft = t.draft }) t (IsWithin script)
      (λ b. within_looked n (λ change. let no : false ≡ true = sym (ap is_change e) ∙ change in cc) w) (λ b. w)

  within_published : (n : ℕ) (o : Option Command) (d : Option CoreDraft) → next_command script t ≡ o → IsWithin script t → IsWithin script (after_publish n o d t)
  within_published n None d e w = w
  within_published n (Some take_command) d e w = w
  within_published n (Some (Await number looks)) d e w = w
  within_published n (Some (Ask q)) d e w = w
  within_published n (Some (Change eco)) None e w = w
  within_published n (Some (Change eco)) (Some draft) e w =
      cond_both (draft.base == n) (with_row (n + 1) Accepted t) (record (with_look n t) { draft = draft_on n }) (IsWithin script)
      (λ b. within_recorded (Change eco) (n + 1) Accepted e w) (λ b. within_drafted n (ap is_change e) w)

  told : (o : Option RowSort) (command : Command) (held : ℕ) → next_command script t ≡ Some command → IsWithin script t
      → IsWithin script (option_map_or (λ sort. with_row held sort t) o t)
  told None command held e w = w
  told (Some sort) command held e w = within_recorded command held sort e w

  within_answered : (o : Option Command) (h : Option ℕ) → next_command script t ≡ o → IsWithin script t → IsWithin script (after_answer o h t)
  within_answered o None e w = w
  within_answered None (Some held) e w = w
  within_answered (Some command) (Some held) e w = told (answer_to (Some command) held t) command held e w

  within_after : (n : ℕ) (event : Event) → IsWithin script t → IsWithin script (session_after n (next_command script t) event t)
  within_after n (Take k) w = within_taken n (next_command script t) refl w
  within_after n (Level k level) w = (w.0, w.1, w.2, within_merged level t.draft w.3)
  within_after n (Publish k) w = within_published n (next_command script t) t.draft refl w
  within_after n (Answer k) w = within_answered (next_command script t) t.held refl w

-- what the type of a core keeps of its sessions
pub record Kept (s : State) : Type 0 where
  pub paired : length s.sessions ≡ length s.scripts
  pub within : AreWithin s.scripts s.sessions

kept_at : (s : State) (event : Event) (place : ℕ) (o : Option Script) (p : Option CoreSession) → slice_get s.scripts place ≡ o → slice_get s.sessions place ≡ p
    → Kept s → Kept (happens_at s event place o p)
kept_at s event place None p at_o at_p k = k
kept_at s event place (Some script) None at_o at_p k = k
kept_at s event place (Some script) (Some t) at_o at_p k =
    let u : CoreSession = session_after (newest s) (next_command script t) event t in
    record {
      paired = length-set s.sessions place u ∙ k.paired;
      within = each_set (λ p c v. IsWithin c v) s.scripts s.sessions place script t u at_o at_p
          (within_after script t (newest s) event (k.within place script t at_o at_p))
          (λ p c v ne at_c at_v. k.within p c v at_c at_v);
    }

kept_to : (s : State) (event : Event) (number : ℕ) → Kept s → Kept (happens_to s event number)
kept_to s event zero k = k
kept_to s event (suc place) k = kept_at s event place (slice_get s.scripts place) (slice_get s.sessions place) refl refl k

pub kept_after : (s : State) (event : Event) → Kept s → Kept (happens s event)
kept_after s event k = kept_to s event (session_of event) k

-- the place of a next command is low
pub next_low : (scripts : List Script) (sessions : List CoreSession) (place : ℕ) (script : Script) (t : CoreSession) → list_all is_runnable scripts ≡ true
    → AreWithin scripts sessions → slice_get scripts place ≡ Some script → slice_get sessions place ≡ Some t → t.next < 2 ^ 32 - 1
next_low scripts sessions place script t run within at_c at_t =
    let few = few_commands script (all_at is_runnable scripts place script run at_c) in
    let w = within place script t at_c at_t in
    omega (arith, few, w.1)
