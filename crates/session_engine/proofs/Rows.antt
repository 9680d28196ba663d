-- A session with one command more: its row stands behind the others.

use Rattle.std.proofs.Common.{◌≡◌, ℕ, suc, ◌+◌, ◌-◌, ◌<◌, ◌≤◌, Bool, true, false, List, [], ◌∷◌, ◌++◌, map, length, Option, Some, None, Result, Ok, Err, OnErr, refl, sym, ap, subst, ◌∙◌, arith, append_assoc, append-nil, length-append}
use Rattle.std.specs.Prelude.{slice_get, IsSomeAnd, if◌then◌else◌}
use Rattle.std.specs.List.{cons_option}
use Rattle.std.proofs.lemmas.Bool.{leb-true, false≢true}
use Rattle.std.proofs.lemmas.List.{map-append}
use mathlib.Core.List.{IsPrefix}
use Rattle.timing_defs.specs.declared.design.Design.{Design}
use Rattle.timing_defs.specs.declared.edits.Eco.{Eco}
use Rattle.timing_defs.specs.declared.edits.Entry.{Entry}
use Rattle.timing_defs.specs.declared.reports.Query.{Query}
use Rattle.timing_defs.specs.declared.scripts.Command.{Command}
use Rattle.timing_defs.specs.declared.scripts.Command.TheVariants.{Take, Await, Ask, Change}
use Rattle.timing_defs.specs.declared.scripts.Answer.{Answer}
use Rattle.timing_defs.specs.declared.scripts.Answer.TheVariants.{Taken, Reached, NotYet, Accepted, Refused, No, Told}
use Rattle.timing_defs.specs.declared.scripts.Row.{Row}
use Rattle.timing_defs.specs.declared.scripts.Script.{Script}
use Rattle.timing_rules.specs.Sessions.{DesignAfter, sort_of, mark_of, query_of, Suits, OrderedFrom, IsTrueAnswer, IsTrueRow, AreTrue, asked as of_question, accepted_eco, accepted_ecos, entry_by, added_entries, shown_looks, row_looks, StandIn, GrewBy}
use Rattle.timing_rules.proofs.LongerJournals.{entry_behind}
use Rattle.timing_defs.proofs.Members.{some_is}
use Rattle.session_engine.specs.Versions.{Versioned, IsVersion}
use Rattle.session_engine.specs.Looking.{Sight, Holds, Saw, Looked, Adds, Waits, Changes, Answers}
use Rattle.session_engine.specs.Running.{is_runnable, begun_after, last_number, IsRun, Ran, Stopped}
use Rattle.session_engine.proofs.Numbers.{prefix_self, prefix_end, prefix_trans, prefix_length, stand_self, stand_behind, grew_more, grew_front, looks_lower}
use Rattle.session_engine.proofs.Kept.{ordered_kept, true_kept}

module _ (J : List Entry) (first session : ℕ) (c : Command) (row : Row) where
  -- the new row stands behind those before it
  ordered_more : (begun : Bool) (place before : ℕ) (commands : List Command) (rows : List Row)
      → OrderedFrom J first session begun place before commands (map mark_of rows) → length rows ≡ length commands
      → row.command ≡ place + length commands → last_number before rows ≤ row.number → row.number ≤ first + length J
      → Suits J first session (begun_after begun rows) (last_number before rows) c row.number (sort_of row.answer)
      → OrderedFrom J first session begun place before (commands ++ c ∷ []) (map mark_of (rows ++ row ∷ []))
  ordered_more begun place before [] [] h even at low high suits = (omega (arith, at), low, high, suits, tt)
  ordered_more begun place before [] (r ∷ rows) h even at low high suits = absurd h
  ordered_more begun place before (d ∷ commands) [] h even at low high suits = absurd (let no : 0 ≡ suc (length commands) = even in omega (arith, no))
  ordered_more begun place before (d ∷ commands) (r ∷ rows) h even at low high suits = (
    h.0,
    h.1,
    h.2,
    h.3,
    ordered_more true (place + 1) r.number commands rows h.4
        (let even' : suc (length rows) ≡ suc (length commands) = even in omega (arith, even'))
        (let at' : row.command ≡ place + suc (length commands) = at in omega (arith, at')) low high suits,
  )

  true_more : (origin : Design) (commands : List Command) (rows : List Row) → AreTrue origin J first commands rows → IsTrueRow origin J first c row
      → AreTrue origin J first (commands ++ c ∷ []) (rows ++ row ∷ [])
  true_more origin [] [] h is = (is, tt)
  true_more origin [] (r ∷ rows) h is = absurd h
  true_more origin (d ∷ commands) [] h is = absurd h
  true_more origin (d ∷ commands) (r ∷ rows) h is = (h.0, true_more origin commands rows h.1 is)

-- rows of as many commands
pub one_each : (J : List Entry) (first : ℕ) (origin : Design) (commands : List Command) (rows : List Row) → AreTrue origin J first commands rows → length rows ≡ length commands
one_each J first origin [] [] h = refl
one_each J first origin [] (r ∷ rows) h = absurd h
one_each J first origin (d ∷ commands) [] h = absurd h
one_each J first origin (d ∷ commands) (r ∷ rows) h = ap suc (one_each J first origin commands rows h.1)

last_is : (before : ℕ) (rows : List Row) (row : Row) → last_number before (rows ++ row ∷ []) ≡ row.number
last_is before [] row = refl
last_is before (r ∷ rows) row = last_is r.number rows row

begun_is : (begun : Bool) (rows : List Row) (row : Row) → begun_after begun (rows ++ row ∷ []) ≡ true
begun_is begun [] row = refl
begun_is begun (r ∷ rows) row = begun_is true rows row

looks_is : (begun : Bool) (rows : List Row) (row : Row) → row_looks begun (rows ++ row ∷ []) ≡ row_looks begun rows ++ shown_looks (begun_after begun rows) row.number (sort_of row.answer)
looks_is begun [] row = append-nil (shown_looks begun row.number (sort_of row.answer))
looks_is begun (r ∷ rows) row =
    let here = shown_looks begun r.number (sort_of r.answer) in
    ap (λ x. here ++ x) (looks_is true rows row)
    ∙ sym (append_assoc here (row_looks true rows) (shown_looks (begun_after true rows) row.number (sort_of row.answer)))

cons_append : (o : Option Eco) (xs ys : List Eco) → cons_option o (xs ++ ys) ≡ cons_option o xs ++ ys
cons_append None xs ys = refl
cons_append (Some x) xs ys = refl

accepted_more : (c : Command) (row : Row) (commands : List Command) (rows : List Row) → length rows ≡ length commands
    → accepted_ecos (commands ++ c ∷ []) (rows ++ row ∷ []) ≡ accepted_ecos commands rows ++ cons_option (accepted_eco c row.answer) []
accepted_more c row [] [] even = refl
accepted_more c row [] (r ∷ rows) even = absurd (let no : suc (length rows) ≡ 0 = even in omega (arith, no))
accepted_more c row (d ∷ commands) [] even = absurd (let no : 0 ≡ suc (length commands) = even in omega (arith, no))
accepted_more c row (d ∷ commands) (r ∷ rows) even =
    ap (cons_option (accepted_eco d r.answer)) (accepted_more c row commands rows (let even' : suc (length rows) ≡ suc (length commands) = even in omega (arith, even')))
    ∙ cons_append (accepted_eco d r.answer) (accepted_ecos commands rows) (cons_option (accepted_eco c row.answer) [])

-- the row of a command at its place
abbrev row_at : ℕ → Command → Versioned → Answer → Row
row_at place c after answer = record { command = place; query = query_of c; number = after.number; answer = answer }

module _ (origin : Design) (first who : ℕ) (v : Sight) (commands : List Command) (w : Sight) (held : Versioned) (rows : List Row)
    (run : IsRun origin first who v commands w held rows) (is : IsVersion held) (holds : Holds w held) (from : w.first ≡ first) (over : w.origin ≡ Some origin)
    (x : Sight) (after : Versioned) (sound : IsVersion after) (has : Holds x after) (still : x.first ≡ w.first) (same : x.origin ≡ w.origin) where
  number_is : held.number ≡ first + length w.seen
  number_is = is.number ∙ ap (λ n. n + length held.journal) (holds.0 ∙ from) ∙ ap (λ (es : List Entry). first + length es) holds.2

  then_number : after.number ≡ first + length x.seen
  then_number = sound.number ∙ ap (λ n. n + length after.journal) (has.0 ∙ still ∙ from) ∙ ap (λ (es : List Entry). first + length es) has.2

  even : length rows ≡ length commands
  even = one_each w.seen first origin commands rows run.told

  -- the design that is held then
  design : DesignAfter origin x.seen (after.number - first) after.stored.design
  design =
      subst (λ n. DesignAfter origin x.seen n after.stored.design) (let n : after.number ≡ first + length x.seen = then_number in omega (arith, n))
      (subst (λ (es : List Entry). DesignAfter origin es (length es) after.stored.design) has.2
      (subst (λ d. DesignAfter d after.journal (length after.journal) after.stored.design) (some_is (has.1 ∙ same ∙ over)) sound.accepted))

  module _ (place : ℕ) (at : place ≡ length commands + 1) where
    -- a row that suits its command
    one_row : (c : Command) (a : Answer) → IsPrefix w.seen x.seen → Suits x.seen first who (begun_after false rows) (last_number first rows) c after.number (sort_of a)
        → IsTrueAnswer after.stored.design c a → x.mine ≡ w.mine ++ map (entry_by who) (cons_option (accepted_eco c a) [])
        → GrewBy v.looks x.looks (row_looks false rows ++ shown_looks (begun_after false rows) after.number (sort_of a))
        → IsRun origin first who v (commands ++ c ∷ []) x after (rows ++ row_at place c after a ∷ [])
    one_row c a p suits answer mine looks =
        record {
          ordered =
              ordered_more x.seen first who c (row_at place c after a) false 1 first commands rows
              (ordered_kept w.seen x.seen p first who false 1 first commands (map mark_of rows) run.ordered) even (omega (arith, at))
              (let l = run.low in let n = number_is in let m = then_number in let s = prefix_length w.seen x.seen p in omega (arith, l, n, m, s))
              (let m = then_number in omega (arith, m)) suits;
          told =
              true_more x.seen first who c (row_at place c after a) origin commands rows (true_kept w.seen x.seen p origin first commands rows run.told)
              (refl, (after.stored.design, design, answer));
          mine =
              mine
              ∙ ap (λ es. es ++ map (entry_by who) (cons_option (accepted_eco c a) [])) run.mine
              ∙ append_assoc v.mine (added_entries who commands rows) (map (entry_by who) (cons_option (accepted_eco c a) []))
              ∙ ap (λ es. v.mine ++ es) (sym (ap (map (entry_by who)) (accepted_more c (row_at place c after a) commands rows even) ∙ map-append (entry_by who) (accepted_ecos commands rows) (cons_option (accepted_eco c a) [])));
          low = let e = last_is first rows (row_at place c after a) in omega (arith, e);
          last = λ begun. last_is first rows (row_at place c after a);
          looks =
              subst (GrewBy v.looks x.looks)
              (sym (append-nil (row_looks false rows ++ shown_looks (begun_after false rows) after.number (sort_of a)))
              ∙ ap (λ ns. ns ++ []) (sym (looks_is false rows (row_at place c after a)))
              ∙ ap (λ b. row_looks false (rows ++ row_at place c after a ∷ []) ++ (if b then [] else after.number ∷ [])) (sym (begun_is false rows (row_at place c after a))))
              looks;
        }

    -- a row of looks that end at its number, and of no entry
    looked : (c : Command) (a : Answer) (ns more : List ℕ) → Saw w ns x → StandIn more ns → shown_looks (begun_after false rows) after.number (sort_of a) ≡ more
        → accepted_eco c a ≡ None → Suits x.seen first who (begun_after false rows) (last_number first rows) c after.number (sort_of a)
        → IsTrueAnswer after.stored.design c a
        → IsRun origin first who v (commands ++ c ∷ []) x after (rows ++ row_at place c after a ∷ [])
    looked c a ns more saw stand shows none suits answer =
        one_row c a saw.1 suits answer
        (saw.2 ∙ sym (append-nil w.mine) ∙ ap (λ (o : Option Eco). w.mine ++ map (entry_by who) (cons_option o [])) (sym none))
        (subst (λ m. GrewBy v.looks x.looks (row_looks false rows ++ m)) (sym shows)
        (grew_more v.looks w.looks x.looks (row_looks false rows) (if begun_after false rows then [] else held.number ∷ []) ns more run.looks saw.0 stand))

    once : (n : ℕ) (before : List ℕ) → StandIn (n ∷ []) (before ++ n ∷ [])
    once n before = stand_behind before (n ∷ []) (n ∷ []) (stand_self (n ∷ []))

    waited : (number looks : ℕ) (a : Answer) → is_runnable (Await number looks) ≡ true → Waits w held number looks x after a
        → IsRun origin first who v (commands ++ Await number looks ∷ []) x after (rows ++ row_at place (Await number looks) after a ∷ [])
    waited number looks Reached some h =
        looked (Await number looks) Reached (h.0 ++ after.number ∷ []) (after.number ∷ []) h.2 (once after.number h.0) refl refl h.6 tt
    waited number looks (NotYet seen) some h =
        let many : 0 < looks = leb-true 1 looks some in
        looked (Await number looks) (NotYet seen) seen seen h.0 (stand_self seen) refl refl
        (h.1, many, looks_lower (last_number first rows) held.number number after.number seen run.low h.2 (let l = h.1 in omega (arith, l, many))) tt
    waited number looks a some h = absurd h

    -- an ECO that is accepted
    added : (eco : Eco) → Adds w (entry_by who eco) x → IsRun origin first who v (commands ++ Change eco ∷ []) x after (rows ++ row_at place (Change eco) after Accepted ∷ [])
    added eco h =
        let long : length x.seen ≡ length h.1 + 1 = ap length h.4 ∙ length-append h.1 (entry_by who eco ∷ []) in
        let low : length w.seen ≤ length h.1 = prefix_length w.seen h.1 h.3 in
        let l : last_number first rows ≤ held.number = run.low in
        let n : held.number ≡ first + length w.seen = number_is in
        let m : after.number ≡ first + length x.seen = then_number in
        let before : x.first + length h.1 ≡ after.number - 1 = (let f : x.first ≡ first = still ∙ from in omega (arith, f, m, long)) in
        one_row (Change eco) Accepted
        (prefix_trans w.seen h.1 x.seen h.3 (subst (IsPrefix h.1) (sym h.4) (prefix_end h.1 (entry_by who eco ∷ [])))) (
          omega (arith, l, n, m, long, low),
          subst (λ k. IsSomeAnd (slice_get x.seen k) (λ (d : Entry). (d.session ≡ who) × (d.eco ≡ eco))) (let k : length h.1 ≡ after.number - first - 1 = omega (arith, m, long) in k)
              (subst (λ (j : List Entry). IsSomeAnd (slice_get j (length h.1)) (λ (d : Entry). (d.session ≡ who) × (d.eco ≡ eco))) (sym h.4)
              (entry_behind h.1 [] (entry_by who eco) (λ (d : Entry). (d.session ≡ who) × (d.eco ≡ eco)) (refl, refl))),
        )
        tt h.5
        (grew_more v.looks w.looks x.looks (row_looks false rows) (if begun_after false rows then [] else held.number ∷ [])
        (h.0 ++ (x.first + length h.1) ∷ []) ((after.number - 1) ∷ []) run.looks h.2
        (subst (λ k. StandIn ((after.number - 1) ∷ []) (h.0 ++ k ∷ [])) (sym before) (once (after.number - 1) h.0)))

    changed : (eco : Eco) (a : Answer) → Changes who w eco x after a → IsRun origin first who v (commands ++ Change eco ∷ []) x after (rows ++ row_at place (Change eco) after a ∷ [])
    changed eco Accepted h = added eco h
    changed eco (Refused y) h =
        looked (Change eco) (Refused y) (h.0.0 ++ after.number ∷ []) (after.number ∷ []) h.0.1 (once after.number h.0.0) refl refl tt h.1
    changed eco a h = absurd h

    -- a question at the version that is held
    asked : (q : Query) (a : Answer) → sort_of a ≡ of_question → accepted_eco (Ask q) a ≡ None → x ≡ w → after ≡ held → IsTrueAnswer after.stored.design (Ask q) a
        → IsRun origin first who v (commands ++ Ask q ∷ []) x after (rows ++ row_at place (Ask q) after a ∷ [])
    asked q a sort none here there answer =
        let number : after.number ≡ held.number = ap (λ (u : Versioned). u.number) there in
        one_row (Ask q) a (subst (λ (u : Sight). IsPrefix w.seen u.seen) (sym here) (prefix_self w.seen))
        (subst (λ s. Suits x.seen first who (begun_after false rows) (last_number first rows) (Ask q) after.number s) (sym sort) (λ begun. number ∙ sym (run.last begun)))
        answer
        (ap (λ (u : Sight). u.mine) here ∙ sym (append-nil w.mine) ∙ ap (λ (o : Option Eco). w.mine ++ map (entry_by who) (cons_option o [])) (sym none))
        (subst (λ s. GrewBy v.looks x.looks (row_looks false rows ++ shown_looks (begun_after false rows) after.number s)) (sym sort)
        (subst (λ (u : Sight). GrewBy v.looks u.looks (row_looks false rows ++ shown_looks (begun_after false rows) after.number of_question)) (sym here)
        (subst (λ n. GrewBy v.looks w.looks (row_looks false rows ++ (if begun_after false rows then [] else n ∷ []))) (sym number) run.looks)))

    answered : (c : Command) (a : Answer) → is_runnable c ≡ true → Answers who w held c x after a
        → IsRun origin first who v (commands ++ c ∷ []) x after (rows ++ row_at place c after a ∷ [])
    answered Take a some h =
        subst (λ b. IsRun origin first who v (commands ++ Take ∷ []) x after (rows ++ row_at place Take after b ∷ [])) (sym h.1)
        (looked Take Taken (h.0.0 ++ after.number ∷ []) (after.number ∷ []) h.0.1 (once after.number h.0.0) refl refl tt tt)
    answered (Await number looks) a some h = waited number looks a some h
    answered (Ask q) (Told r) some h = asked q (Told r) refl refl h.0 h.1 h.2
    answered (Ask q) (No y) some h = asked q (No y) refl refl h.0 h.1 h.2
    answered (Ask q) a some h = absurd h.2
    answered (Change eco) a some h = changed eco a h

-- a row as it is made: `held0`, `after0` and `after1` are the versions as they are read
pub run_step : (origin : Design) (first who : ℕ) (v : Sight) (commands : List Command) (w : Sight) (held : Versioned) (rows : List Row)
    → (x : Sight) (after : Versioned) (place : ℕ) (c : Command) (a : Answer) (held0 after0 after1 : Versioned) (query : Option Query) (number : ℕ) (more : List Row)
    → held0 ≡ held → IsVersion held0 → Holds w held → after0 ≡ after → IsVersion after0 → Holds x after → x.first ≡ w.first → x.origin ≡ w.origin
    → is_runnable c ≡ true → Answers who w held c x after a → query ≡ query_of c → after1 ≡ after → number ≡ after1.number
    → more ≡ rows ++ record { command = place; query = query; number = number; answer = a } ∷ []
    → w.first ≡ first → w.origin ≡ Some origin → place ≡ length commands + 1 → IsRun origin first who v commands w held rows
    → IsRun origin first who v (commands ++ c ∷ []) x after more
run_step origin first who v commands w held rows x after place c a held0 after0 after1 query number more is_held is holds is_after sound has still same runnable h asks is_read numbered grown from over at run =
    let numbered' : number ≡ after.number = numbered ∙ ap (λ (u : Versioned). u.number) is_read in
    subst (IsRun origin first who v (commands ++ c ∷ []) x after)
    (sym (grown
    ∙ ap (λ q. rows ++ record { command = place; query = q; number = number; answer = a } ∷ []) asks
    ∙ ap (λ n. rows ++ record { command = place; query = query_of c; number = n; answer = a } ∷ []) numbered'))
    (answered origin first who v commands w held rows run (subst IsVersion is_held is) holds from over x after (subst IsVersion is_after sound) has still same place at c a runnable h)

-- no rows behind the first taking
pub run_none : (origin : Design) (first who : ℕ) (v w : Sight) (held : Versioned) (held0 : Versioned) → held0 ≡ held → IsVersion held0 → Holds w held → w.first ≡ first
    → Saw v (held.number ∷ []) w → IsRun origin first who v [] w held []
run_none origin first who v w held held0 is_held is holds from saw =
    let here : IsVersion held = subst IsVersion is_held is in
    record {
      ordered = tt;
      told = tt;
      mine = saw.2 ∙ sym (append-nil v.mine);
      low = (let n = here.number in let f : held.first ≡ first = holds.0 ∙ from in omega (arith, n, f));
      last = λ begun. absurd (false≢true begun);
      looks = (held.number ∷ [], saw.0, stand_self (held.number ∷ []));
    }

-- the rows of all commands are a transcript
pub ran_all : (origin : Design) (first who : ℕ) (script : Script) (v w : Sight) (held : Versioned) (commands : List Command) (rows listed : List Row)
    → commands ≡ script.commands → listed ≡ rows → IsRun origin first who v commands w held rows → Ran origin first who script v w (record { rows = listed })
ran_all origin first who script v w held commands rows listed all same run =
    let t : IsRun origin first who v script.commands w held listed =
    subst (λ rs. IsRun origin first who v script.commands w held rs) (sym same) (subst (λ cs. IsRun origin first who v cs w held rows) all run) in
    record {
      legal = (t.ordered, t.told);
      mine = t.mine;
      looks = grew_front v.looks w.looks (row_looks false listed) (if begun_after false listed then [] else held.number ∷ []) t.looks;
    }

-- a run that stopped in its first taking
pub stopped_first : (origin : Design) (first who : ℕ) (commands : List Command) (v w : Sight) → Looked v w → Stopped origin first who commands v w
stopped_first origin first who commands v w looked = (
  [],
  [],
  (commands, refl),
  record {
    legal = (tt, tt);
    mine = looked.1.2 ∙ sym (append-nil v.mine);
    looks = (looked.0, looked.1.0, tt);
  },
)

-- a run that stopped behind the rows of some commands
pub stopped_behind : (origin : Design) (first who : ℕ) (done commands : List Command) (v w x : Sight) (held : Versioned) (rows : List Row)
    → IsPrefix done commands → IsRun origin first who v done w held rows → Looked w x → Stopped origin first who commands v x
stopped_behind origin first who done commands v w x held rows begins run looked = (
  done,
  rows,
  begins,
  record {
    legal = (
      ordered_kept w.seen x.seen looked.1.1 first who false 1 first done (map mark_of rows) run.ordered,
      true_kept w.seen x.seen looked.1.1 origin first done rows run.told,
    );
    mine = looked.1.2 ∙ run.mine;
    looks =
        grew_front v.looks x.looks (row_looks false rows) []
        (grew_more v.looks w.looks x.looks (row_looks false rows) (if begun_after false rows then [] else held.number ∷ []) looked.0 [] run.looks looked.1.0 tt);
  },
)

-- what holds stands where there is an error
pub on_error : {T E P : Type 0} (r : Result T E) → P → OnErr r P
on_error (Ok x) p = tt
on_error (Err e) p = p
