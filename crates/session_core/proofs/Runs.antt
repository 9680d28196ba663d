-- Every list of events keeps the law.
use Rattle.std.proofs.Common.{◌≡◌, ◌≢◌, ℕ, zero, suc, ◌+◌, ◌≤◌, true, List, [], ◌∷◌, ◌++◌, length, map, Option, Some, None, Result, Ok, Err, OnOk, OnErr, slice_set, refl, sym, ap, subst, ◌∙◌, arith}
use Rattle.std.specs.List.{All, slice_get, list_all}
use Rattle.std.specs.Option.{option_map_or}
use Rattle.std.proofs.lemmas.List.Sums.{fold-append}
use Rattle.std.proofs.lemmas.List.Elements.{All-nil, All-push}
use Rattle.std.proofs.lemmas.Option.{none-some, same_Some, slice_get_within}
use Rattle.timing_defs.specs.declared.edits.Eco.{Eco}
use Rattle.timing_defs.specs.declared.edits.Entry.{Entry}
use Rattle.timing_defs.specs.declared.scripts.Command.{Command}
use Rattle.timing_defs.specs.declared.scripts.Script.{Script}
use Rattle.session_core.specs.declared.events.Event.{Event}
use Rattle.session_core.specs.declared.events.Event.TheVariants.{Take, Level, Publish, Answer}
use Rattle.session_core.specs.declared.rows.CoreSession.{CoreSession}
use Rattle.session_core.specs.Machine.{State, state, newest, next_command, published_eco, after_publish, after_level, session_after, entries_after, session_of, happens_at, happens_to, happens, unstarted, opening, after_all, is_runnable}
use Rattle.session_core.specs.Law.{AreLawful, IsReached}
use Rattle.session_core.proofs.Places.{all_at, each_set}
use Rattle.session_core.proofs.Standing.{Stands, stands_draft, stands_taken, stands_published, stands_answered, stands_beside, stands_unstarted}

-- every session of a state of runnable scripts stands
pub record Stand (s : State) : Type 0 where
  pub runnable : list_all is_runnable s.scripts ≡ true
  pub each : (place : ℕ) (script : Script) (t : CoreSession) → slice_get s.scripts place ≡ Some script → slice_get s.sessions place ≡ Some t
      → Stands s.entries s.first (suc place) script t
  pub whose : All (λ (e : Entry). (1 ≤ e.session) × (e.session ≤ length s.scripts)) s.entries

-- an event adds no entry but of its session
whose_added : (entries : List Entry) (count k : ℕ) (o : Option Eco) → 1 ≤ k → k ≤ count
    → All (λ (e : Entry). (1 ≤ e.session) × (e.session ≤ count)) entries
    → All (λ (e : Entry). (1 ≤ e.session) × (e.session ≤ count)) (option_map_or (λ eco. entries ++ record { session = k; eco = eco } ∷ []) o entries)
whose_added entries count k None low high h = h
whose_added entries count k (Some eco) low high h =
    All-push (λ (e : Entry). (1 ≤ e.session) × (e.session ≤ count)) entries (record { session = k; eco = eco }) h (low, high)

whose_after : (entries : List Entry) (count n : ℕ) (o : Option Command) (event : Event) (u : CoreSession) → 1 ≤ session_of event → session_of event ≤ count
    → All (λ (e : Entry). (1 ≤ e.session) × (e.session ≤ count)) entries
    → All (λ (e : Entry). (1 ≤ e.session) × (e.session ≤ count)) (entries_after n o event u entries)
whose_after entries count n o (Take k) u low high h = h
whose_after entries count n o (Level k level) u low high h = h
whose_after entries count n o (Publish k) u low high h = whose_added entries count k (published_eco n o u.draft) low high h
whose_after entries count n o (Answer k) u low high h = h

module _ (entries : List Entry) (first : ℕ) (script : Script) (t : CoreSession) where
  -- the session of an event
  stands_after : (n : ℕ) (event : Event) (session : ℕ) → session_of event ≡ session → n ≡ first + length entries → is_runnable script ≡ true
      → Stands entries first session script t
      → Stands (entries_after n (next_command script t) event t entries) first session script (session_after n (next_command script t) event t)
  stands_after n (Take k) session same newest run s = stands_taken entries first session script t n (next_command script t) newest refl s
  stands_after n (Level k level) session same newest run s = stands_draft entries first session script t (after_level level t).draft s
  stands_after n (Publish k) session same newest run s =
      subst (λ (j : ℕ). Stands (option_map_or (λ eco. entries ++ record { session = j; eco = eco } ∷ []) (published_eco n (next_command script t) t.draft) entries) first session script
      (after_publish n (next_command script t) t.draft t)) (sym same)
      (stands_published entries first session script t n (next_command script t) t.draft newest refl s)
  stands_after n (Answer k) session same newest run s = stands_answered entries first session script t (next_command script t) t.held run refl refl s

  -- every other session
  beside : (k session : ℕ) (o : Option Eco) → k ≢ session → Stands entries first session script t
      → Stands (option_map_or (λ eco. entries ++ record { session = k; eco = eco } ∷ []) o entries) first session script t
  beside k session None ne s = s
  beside k session (Some eco) ne s = stands_beside entries first session script t (record { session = k; eco = eco }) ne s

  beside_after : (n : ℕ) (o : Option Command) (event : Event) (u : CoreSession) (session : ℕ) → session_of event ≢ session
      → Stands entries first session script t → Stands (entries_after n o event u entries) first session script t
  beside_after n o (Take k) u session ne s = s
  beside_after n o (Level k level) u session ne s = s
  beside_after n o (Publish k) u session ne s = beside k session (published_eco n o u.draft) ne s
  beside_after n o (Answer k) u session ne s = s

stand_at : (s : State) (event : Event) (place : ℕ) (o : Option Script) (p : Option CoreSession) → session_of event ≡ suc place
    → slice_get s.scripts place ≡ o → slice_get s.sessions place ≡ p → Stand s → Stand (happens_at s event place o p)
stand_at s event place None p same at_o at_p h = h
stand_at s event place (Some script) None same at_o at_p h = h
stand_at s event place (Some script) (Some t) same at_o at_p h =
    let n : ℕ = newest s in
    let command : Option Command = next_command script t in
    let more : List Entry = entries_after n command event t s.entries in
    record {
      runnable = h.runnable;
      each = each_set (λ p c v. Stands more s.first (suc p) c v) s.scripts s.sessions place script t (session_after n command event t) at_o at_p
          (stands_after s.entries s.first script t n event (suc place) same refl (all_at is_runnable s.scripts place script h.runnable at_o) (h.each place script t at_o at_p))
          (λ p c v ne at_c at_v. beside_after s.entries s.first c v n command event t (suc p) (λ e. ne (omega (arith, same, e))) (h.each p c v at_c at_v));
      whose =
          let near = slice_get_within s.scripts place script at_o in
          whose_after s.entries (length s.scripts) n command event t (omega (arith, same)) (omega (arith, same, near)) h.whose;
    }

stand_to : (s : State) (event : Event) (number : ℕ) → session_of event ≡ number → Stand s → Stand (happens_to s event number)
stand_to s event zero same h = h
stand_to s event (suc place) same h = stand_at s event place (slice_get s.scripts place) (slice_get s.sessions place) same refl refl h

stand_after : (s : State) (event : Event) → Stand s → Stand (happens s event)
stand_after s event h = stand_to s event (session_of event) refl h

stand_all : (s : State) (events : List Event) → Stand s → Stand (after_all s events)
stand_all s [] h = h
stand_all s (event ∷ events) h = stand_all (happens s event) events (stand_after s event h)

unstarted_at : (scripts : List Script) (place : ℕ) (t : CoreSession) → slice_get (map (λ (c : Script). unstarted) scripts) place ≡ Some t → unstarted ≡ t
unstarted_at [] place t e = absurd (none-some t e)
unstarted_at (c ∷ cs) zero t e = same_Some unstarted t e
unstarted_at (c ∷ cs) (suc place) t e = unstarted_at cs place t e

stand_opening : (first : ℕ) (scripts : List Script) → list_all is_runnable scripts ≡ true → Stand (opening first scripts)
stand_opening first scripts run = record {
  runnable = run;
  each = λ place script t at_c at_t. subst (λ (u : CoreSession). Stands [] first (suc place) script u) (unstarted_at scripts place t at_t) (stands_unstarted first (suc place) script);
  whose = All-nil (λ (e : Entry). (1 ≤ e.session) × (e.session ≤ length scripts));
}

pub lawful_reached : (s : State) → list_all is_runnable s.scripts ≡ true → IsReached s → AreLawful s
lawful_reached s run reached =
    let all : Stand s = subst Stand (sym reached.1) (stand_all (opening s.first s.scripts) reached.0 (stand_opening s.first s.scripts run)) in
    (λ place script t at_c at_t. (all.each place script t at_c at_t).lawful, all.whose)

pub reached_opening : (s : State) (first : ℕ) (scripts : List Script) → s ≡ opening first scripts → IsReached s
reached_opening s first scripts same = subst IsReached (sym same) ([], refl)

-- the first number and the scripts stay
first_at : (s : State) (event : Event) (place : ℕ) (o : Option Script) (p : Option CoreSession) → (happens_at s event place o p).first ≡ s.first
first_at s event place None p = refl
first_at s event place (Some script) None = refl
first_at s event place (Some script) (Some t) = refl

scripts_at : (s : State) (event : Event) (place : ℕ) (o : Option Script) (p : Option CoreSession) → (happens_at s event place o p).scripts ≡ s.scripts
scripts_at s event place None p = refl
scripts_at s event place (Some script) None = refl
scripts_at s event place (Some script) (Some t) = refl

first_to : (s : State) (event : Event) (number : ℕ) → (happens_to s event number).first ≡ s.first
first_to s event zero = refl
first_to s event (suc place) = first_at s event place (slice_get s.scripts place) (slice_get s.sessions place)

scripts_to : (s : State) (event : Event) (number : ℕ) → (happens_to s event number).scripts ≡ s.scripts
scripts_to s event zero = refl
scripts_to s event (suc place) = scripts_at s event place (slice_get s.scripts place) (slice_get s.sessions place)

pub reached_after : (s : State) (event : Event) → IsReached s → IsReached (happens s event)
reached_after s event reached =
    let first : (happens s event).first ≡ s.first = first_to s event (session_of event) in
    let scripts : (happens s event).scripts ≡ s.scripts = scripts_to s event (session_of event) in (
      reached.0 ++ event ∷ [],
      ap (λ (x : State). happens x event) reached.1
          ∙ sym (fold-append happens (opening s.first s.scripts) reached.0 (event ∷ []))
          ∙ (λ i. after_all (opening (sym first i) (sym scripts i)) (reached.0 ++ event ∷ [])),
    )

-- what holds after a call that makes an event happen or is refused
pub either : {A E : Type 0} (r : Result A E) (s u : State) (event : Event) (P : State → Type 0) → OnOk r (u ≡ happens s event) → OnErr r (u ≡ s)
    → P s → P (happens s event) → P u
either (Ok x) s u event P ok err before after = subst P (sym ok) after
either (Err e) s u event P ok err before after = subst P (sym err) before

-- an event at a session that is there
pub happens_there : (s : State) (event : Event) (place : ℕ) (script : Script) (t : CoreSession) → session_of event ≡ suc place
    → slice_get s.scripts place ≡ Some script → slice_get s.sessions place ≡ Some t
    → happens s event ≡ happens_at s event place (Some script) (Some t)
happens_there s event place script t same at_c at_t =
    ap (happens_to s event) same ∙ (λ i. happens_at s event place (at_c i) (at_t i))

-- what a call makes of the session and of the journal is what the event makes of the state
pub stepped : {A E : Type 0} (r : Result A E) (s : State) (event : Event) (place : ℕ) (script : Script) (t u : CoreSession) (n : ℕ) (entries : List Entry)
    → session_of event ≡ suc place → slice_get s.scripts place ≡ Some script → slice_get s.sessions place ≡ Some t → n ≡ newest s
    → OnOk r (u ≡ session_after n (next_command script t) event t) → OnOk r (entries ≡ entries_after n (next_command script t) event t s.entries)
    → OnOk r (state s.first entries s.scripts (slice_set s.sessions place u) ≡ happens s event)
stepped (Ok x) s event place script t u n entries same at_c at_t number session journal =
    let session' : u ≡ session_after (newest s) (next_command script t) event t = session ∙ ap (λ m. session_after m (next_command script t) event t) number in
    let journal' : entries ≡ entries_after (newest s) (next_command script t) event t s.entries = journal ∙ ap (λ m. entries_after m (next_command script t) event t s.entries) number in
    (λ i. state s.first (journal' i) s.scripts (slice_set s.sessions place (session' i))) ∙ sym (happens_there s event place script t same at_c at_t)
stepped (Err e) s event place script t u n entries same at_c at_t number session journal = tt
