-- Where a session stands in every run: its rows are lawful, and what it looked at since its last row goes on from there.
use Rattle.std.proofs.Common.{◌≡◌, ◌≢◌, ℕ, ◌+◌, ◌-◌, ◌<◌, ◌≤◌, ◌==◌, nat_lt, nat_le, ◌&&◌, Bool, true, false, if◌then◌else◌, List, [], ◌∷◌, ◌++◌, length, map, Option, Some, None, is_some, is_none, IsSomeAnd, refl, sym, ap, subst, ◌∙◌, ⊎_elim, arith, append-nil}
use borrow.Author.Tests.{ltb-true, leb-true}
use Rattle.std.specs.List.{slice_get, list_all}
use Rattle.std.specs.Option.{option_to_list, option_map_or}
use Rattle.std.proofs.lemmas.Bool.{and_parts, cases_Bool, cond_both}
use Rattle.std.proofs.lemmas.List.{map_push, length_push, length-map}
use Rattle.std.proofs.lemmas.Option.{same_Some}
use Rattle.timing_defs.specs.declared.edits.Entry.{Entry}
use Rattle.timing_defs.specs.declared.scripts.Command.{Command}
use Rattle.timing_defs.specs.declared.scripts.Command.TheVariants.{Take as take_command, Await, Ask, Change}
use Rattle.timing_defs.specs.declared.scripts.Script.{Script}
use Rattle.timing_rules.specs.Sessions.{Mark, Suits, Ordered, ecos_of}
use Rattle.session_core.specs.declared.rows.CoreRow.{CoreRow}
use Rattle.session_core.specs.declared.rows.CoreDraft.{CoreDraft}
use Rattle.session_core.specs.declared.rows.CoreSession.{CoreSession}
use Rattle.session_core.specs.declared.rows.RowSort.{RowSort}
use Rattle.session_core.specs.declared.rows.RowSort.TheVariants.{Taken, Reached, NotYet, Accepted, Refused, Asked}
use Rattle.session_core.specs.Machine.{next_command, with_look, draft_on, with_row, after_take, published_eco, after_publish, last_of, await_answer, after_answer, may_end, is_runnable, unstarted}
use Rattle.session_core.specs.Law.{sort_of_row, mark_of_row, accepted_by, accepted_of, IsLawful}
use Rattle.session_core.proofs.Places.{all_at, get_end}
use Rattle.timing_rules.proofs.LongerJournals.{ordered_longer}
use Rattle.session_core.proofs.Ordering.{last_number, has_row, last_number-push, has_row-push, ordered_push, accepted_of-push, ecos_of-own, ecos_of-other, accepted_none}
use Rattle.session_core.proofs.Looks.{Seen, seen_push, seen_more, seen_within, seen_held, seen_some, last_short, length-last_of}

abbrev pub marks : CoreSession → List Mark
marks t = map mark_of_row t.rows

abbrev pub is_ask : Option Command → Bool
is_ask (Some (Ask q)) = true
is_ask (Some take_command) = false
is_ask (Some (Await number looks)) = false
is_ask (Some (Change eco)) = false
is_ask None = false

pub record Stands (entries : List Entry) (first session : ℕ) (script : Script) (t : CoreSession) : Type 0 where
  pub lawful : IsLawful entries first session script t
  pub next : t.next ≡ length t.rows + 1
  pub seen : Seen (first + length entries) (has_row false (marks t)) (last_number first (marks t)) t.held t.looks
  pub asked : is_ask (next_command script t) ≡ true → has_row false (marks t) ≡ true → t.looks ≡ []

-- an `await` of a script asks for one look or more
pub one_look : (script : Script) (i number looks : ℕ) → is_runnable script ≡ true → slice_get script.commands i ≡ Some (Await number looks) → 0 < looks
one_look script i number looks run e =
    ltb-true 0 looks (all_at may_end script.commands i (Await number looks) (and_parts (nat_le (length script.commands) 10000) (list_all may_end script.commands) run).1 e)

pub few_commands : (script : Script) → is_runnable script ≡ true → length script.commands ≤ 10000
few_commands script run = leb-true (length script.commands) 10000 (and_parts (nat_le (length script.commands) 10000) (list_all may_end script.commands) run).0

-- the three answers that an `await` may have
awaited_by : (P : Option RowSort → Type 0) (number looks held : ℕ) (seen : List ℕ) → (number ≤ held → P (Some Reached))
    → (looks ≤ length seen → list_all (λ n. nat_lt n number) seen ≡ true → P (Some (NotYet (last_of looks seen)))) → P None → P (await_answer number looks held seen)
awaited_by P number looks held seen reach fall none =
    let end : P (if nat_le looks (length seen) && list_all (λ n. nat_lt n number) seen then Some (NotYet (last_of looks seen)) else None) =
    cond_both (nat_le looks (length seen) && list_all (λ n. nat_lt n number) seen) (Some (NotYet (last_of looks seen))) None P
    (λ b. let parts = and_parts (nat_le looks (length seen)) (list_all (λ n. nat_lt n number) seen) b in fall (leb-true looks (length seen) parts.0) parts.1)
    (λ b. none) in
    cond_both (nat_lt 0 (length seen) && nat_le number held) (Some Reached)
    (if nat_le looks (length seen) && list_all (λ n. nat_lt n number) seen then Some (NotYet (last_of looks seen)) else None) P
    (λ b. reach (leb-true number held (and_parts (nat_lt 0 (length seen)) (nat_le number held) b).1))
    (λ b. end)

module _ (entries : List Entry) (first session : ℕ) (script : Script) (t : CoreSession) where
  -- another draft changes nothing of it
  pub stands_draft : (draft : Option CoreDraft) → Stands entries first session script t → Stands entries first session script (record t { draft = draft })
  stands_draft draft s = record { lawful = s.lawful; next = s.next; seen = s.seen; asked = s.asked }

  -- a look at the newest version
  pub stands_looked : (n : ℕ) (draft : Option CoreDraft) → n ≡ first + length entries
      → (is_ask (next_command script t) ≡ true → has_row false (marks t) ≡ true → ⊥)
      → Stands entries first session script t → Stands entries first session script (record (with_look n t) { draft = draft })
  stands_looked n draft newest free s = record {
    lawful = s.lawful;
    next = s.next;
    seen = seen_push (first + length entries) n (has_row false (marks t)) (last_number first (marks t)) t.held t.looks (sym newest) s.seen;
    asked = λ ask begun. absurd (free ask begun);
  }

  -- a row, over a journal that may have one entry more
  pub stands_row : (longer : List Entry) (command : Command) (number : ℕ) (sort : RowSort)
      → Stands entries first session script t → next_command script t ≡ Some command
      → Ordered longer first session script (marks t)
      → ecos_of session longer ≡ accepted_of script.commands t.rows ++ option_to_list (accepted_by command sort)
      → last_number first (marks t) ≤ number → number ≤ first + length longer
      → Suits longer first session (has_row false (marks t)) (last_number first (marks t)) command number (sort_of_row sort)
      → Stands longer first session script (with_row number sort t)
  stands_row longer command number sort s e ordered ecos low high suits =
      let row : CoreRow = record { command = t.next; number = number; sort = sort } in
      let place : t.next - 1 ≡ length t.rows = omega (arith, s.next) in
      let here : slice_get script.commands (length t.rows) ≡ Some command = ap (slice_get script.commands) (sym place) ∙ e in
      let long : length (marks t) ≡ length t.rows = length-map t.rows mark_of_row in
      let marked : slice_get script.commands (length (marks t)) ≡ Some command = ap (slice_get script.commands) long ∙ here in
      let more : map mark_of_row (t.rows ++ row ∷ []) ≡ marks t ++ mark_of_row row ∷ [] = map_push mark_of_row t.rows row in
      let begun : has_row false (map mark_of_row (t.rows ++ row ∷ [])) ≡ true = ap (has_row false) more ∙ has_row-push false (marks t) (mark_of_row row) in
      let last : last_number first (map mark_of_row (t.rows ++ row ∷ [])) ≡ number = ap (last_number first) more ∙ last_number-push first (marks t) (mark_of_row row) in
      record {
        lawful = (
          subst (λ (ms : List Mark). Ordered longer first session script ms) (sym more)
              (ordered_push longer first session false 1 first script.commands (marks t) command (mark_of_row row) ordered marked (omega (arith, s.next, long)) low high suits),
          ecos ∙ sym (accepted_of-push script.commands t.rows command row here),
        );
        next = omega (arith, s.next, length_push t.rows row);
        seen = rw (last, begun) (high, refl);
        asked = λ ask some. refl;
      }

  -- a row over the same journal that publishes nothing
  stands_told : (command : Command) (held : ℕ) (sort : RowSort) → Stands entries first session script t → next_command script t ≡ Some command → t.held ≡ Some held
      → accepted_by command sort ≡ None
      → Suits entries first session (has_row false (marks t)) (last_number first (marks t)) command held (sort_of_row sort)
      → Stands entries first session script (with_row held sort t)
  stands_told command held sort s e h none suits =
      let seen : Seen (first + length entries) (has_row false (marks t)) (last_number first (marks t)) (Some held) t.looks =
      subst (λ (o : Option ℕ). Seen (first + length entries) (has_row false (marks t)) (last_number first (marks t)) o t.looks) h s.seen in
      let within = seen_held (first + length entries) (has_row false (marks t)) (last_number first (marks t)) held t.looks seen in
      stands_row entries command held sort s e s.lawful.0
      (s.lawful.1 ∙ sym (append-nil (accepted_of script.commands t.rows)) ∙ ap (λ o. accepted_of script.commands t.rows ++ option_to_list o) (sym none))
      within.0 within.1 suits

  -- a report row has the number before, where a row stands there
  told_before : (held : ℕ) → Stands entries first session script t → is_ask (next_command script t) ≡ true → t.held ≡ Some held
      → has_row false (marks t) ≡ true → held ≡ last_number first (marks t)
  told_before held s ask h begun =
      let none : t.looks ≡ [] = s.asked ask begun in
      let seen : Seen (first + length entries) true (last_number first (marks t)) (Some held) [] =
      subst (λ (x : Bool × Option ℕ × List ℕ). Seen (first + length entries) x.0 (last_number first (marks t)) x.1 x.2) (λ i. (begun i, h i, none i)) s.seen in
      same_Some held (last_number first (marks t)) seen.1

  pub stands_answered : (o : Option Command) (h : Option ℕ) → is_runnable script ≡ true → next_command script t ≡ o → t.held ≡ h
      → Stands entries first session script t → Stands entries first session script (after_answer o h t)
  stands_answered o None run e h s = s
  stands_answered None (Some held) run e h s = s
  stands_answered (Some take_command) (Some held) run e h s =
      cond_both (nat_lt 0 (length t.looks)) (Some Taken) None (λ o. Stands entries first session script (option_map_or (λ sort. with_row held sort t) o t))
      (λ b. stands_told take_command held Taken s e h refl tt) (λ b. s)
  stands_answered (Some (Await number looks)) (Some held) run e h s =
      let seen : Seen (first + length entries) (has_row false (marks t)) (last_number first (marks t)) (Some held) t.looks =
      subst (λ (o : Option ℕ). Seen (first + length entries) (has_row false (marks t)) (last_number first (marks t)) o t.looks) h s.seen in
      let some : 0 < looks = one_look script (t.next - 1) number looks run e in
      awaited_by (λ o. Stands entries first session script (option_map_or (λ sort. with_row held sort t) o t)) number looks held t.looks
      (λ reach. stands_told (Await number looks) held Reached s e h refl reach)
      (λ few below. stands_told (Await number looks) held (NotYet (last_of looks t.looks)) s e h refl
      (length-last_of looks t.looks few, some, last_short (first + length entries) (has_row false (marks t)) (last_number first (marks t)) number held looks t.looks seen some few below))
      s
  stands_answered (Some (Ask q)) (Some held) run e h s = stands_told (Ask q) held Asked s e h refl (λ begun. told_before held s (ap is_ask e) h begun)
  stands_answered (Some (Change eco)) (Some held) run e h s =
      cond_both (is_some t.draft) (Some Refused) None (λ o. Stands entries first session script (option_map_or (λ sort. with_row held sort t) o t))
      (λ b. stands_told (Change eco) held Refused s e h refl tt) (λ b. s)

  -- once a row stands there, a version is held
  held_some : Stands entries first session script t → t.held ≡ None → has_row false (marks t) ≡ true → ⊥
  held_some s h begun =
      seen_some (first + length entries) (last_number first (marks t)) t.looks
      (subst (λ (x : Bool × Option ℕ). Seen (first + length entries) x.0 (last_number first (marks t)) x.1 t.looks) (λ i. (begun i, h i)) s.seen)

  none_held : (h : Option ℕ) → is_none h ≡ true → h ≡ None
  none_held None e = refl
  none_held (Some k) e = cc

  pub stands_taken : (n : ℕ) (o : Option Command) → n ≡ first + length entries → next_command script t ≡ o
      → Stands entries first session script t → Stands entries first session script (after_take n o t)
  stands_taken n (Some take_command) newest e s = stands_looked n t.draft newest (λ ask begun. let no : false ≡ true = sym (ap is_ask e) ∙ ask in cc) s
  stands_taken n (Some (Await number looks)) newest e s = stands_looked n t.draft newest (λ ask begun. let no : false ≡ true = sym (ap is_ask e) ∙ ask in cc) s
  stands_taken n (Some (Change eco)) newest e s = stands_looked n (draft_on n) newest (λ ask begun. let no : false ≡ true = sym (ap is_ask e) ∙ ask in cc) s
  stands_taken n (Some (Ask q)) newest e s =
      cond_both (is_none t.held) (record (with_look n t) { draft = t.draft }) t (Stands entries first session script)
      (λ b. stands_looked n t.draft newest (λ ask begun. held_some s (none_held t.held b) begun) s) (λ b. s)
  stands_taken n None newest e s =
      cond_both (is_none t.held) (record (with_look n t) { draft = t.draft }) t (Stands entries first session script)
      (λ b. stands_looked n t.draft newest (λ ask begun. held_some s (none_held t.held b) begun) s) (λ b. s)

  pub stands_published : (n : ℕ) (o : Option Command) (d : Option CoreDraft) → n ≡ first + length entries → next_command script t ≡ o
      → Stands entries first session script t
      → Stands (option_map_or (λ eco. entries ++ record { session = session; eco = eco } ∷ []) (published_eco n o d) entries) first session script (after_publish n o d t)
  stands_published n None d newest e s = s
  stands_published n (Some take_command) d newest e s = s
  stands_published n (Some (Await number looks)) d newest e s = s
  stands_published n (Some (Ask q)) d newest e s = s
  stands_published n (Some (Change eco)) None newest e s = s
  stands_published n (Some (Change eco)) (Some draft) newest e s =
      let entry : Entry = record { session = session; eco = eco } in
      let longer : List Entry = entries ++ entry ∷ [] in
      let long : length longer ≡ length entries + 1 = length_push entries entry in
      let before = seen_within (first + length entries) (has_row false (marks t)) (last_number first (marks t)) t.held t.looks s.seen in
      let place : n + 1 - first - 1 ≡ length entries = omega (arith, newest) in
      let added : IsSomeAnd (slice_get longer (n + 1 - first - 1)) (λ x. (x.session ≡ session) × (x.eco ≡ eco)) =
      subst (λ (o : Option Entry). IsSomeAnd o (λ x. (x.session ≡ session) × (x.eco ≡ eco))) (sym (ap (slice_get longer) place ∙ get_end entries entry)) (refl, refl) in
      ⊎_elim
      (λ (same : (draft.base == n) ≡ true). rw same
      (stands_row longer (Change eco) (n + 1) Accepted s e
      (ordered_longer entries (entry ∷ []) first session false 1 first script.commands (marks t) s.lawful.0)
      (ecos_of-own session entries entry refl ∙ ap (λ ecos. ecos ++ eco ∷ []) s.lawful.1)
      (omega (arith, newest, before)) (omega (arith, newest, long)) (omega (arith, newest, before), added)))
      (λ (other : (draft.base == n) ≡ false). rw other
      (stands_looked n (draft_on n) newest (λ ask begun. let no : false ≡ true = sym (ap is_ask e) ∙ ask in cc) s))
      (cases_Bool (draft.base == n))

  -- an entry of another session changes nothing of it
  pub stands_beside : (entry : Entry) → entry.session ≢ session → Stands entries first session script t → Stands (entries ++ entry ∷ []) first session script t
  stands_beside entry other s = record {
    lawful = (ordered_longer entries (entry ∷ []) first session false 1 first script.commands (marks t) s.lawful.0, ecos_of-other session entries entry other ∙ s.lawful.1);
    next = s.next;
    seen = seen_more (first + length entries) (first + length (entries ++ entry ∷ [])) (has_row false (marks t)) (last_number first (marks t)) t.held t.looks
        (omega (arith, length_push entries entry)) s.seen;
    asked = s.asked;
  }

-- a session before its first command
pub stands_unstarted : (first session : ℕ) (script : Script) → Stands [] first session script unstarted
stands_unstarted first session script = record {
  lawful = (tt, sym (accepted_none script.commands));
  next = refl;
  seen = (omega arith, refl);
  asked = λ ask begun. refl;
}
