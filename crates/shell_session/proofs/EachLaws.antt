-- Sessions at the seats of a board, one seat after the other.
use Rattle.std.proofs.Common.{◌≡◌, ◌<◌, ◌+◌, ◌++◌, ◌∷◌, [], ℕ, suc, true, ◌||◌, List, length, take, map, Result, Ok, Err, Some, refl, sym, ap, ◌∙◌, subst, arith, length-append}
use Rattle.std.specs.Prelude.{IfOk, IfSome, slice_get, get_or, unwrap_or}
use Rattle.std.specs.List.{All}
use Rattle.std.proofs.lemmas.List.{take_more, map-append}
use Rattle.std.proofs.lemmas.List.Elements.{All-head, All-tail}
use Rattle.timing_defs.specs.declared.design.Design.{Design}
use Rattle.timing_defs.specs.declared.edits.Entry.{Entry}
use Rattle.timing_defs.specs.declared.reports.Query.{Query}
use Rattle.timing_defs.specs.declared.reports.Query.TheVariants.{Slew, At, Rat, Slack, Endpoint, WorstPath, Wns, Tns, Worst, Through, Paths, WhatIf', Advise, Closing}
use Rattle.timing_defs.specs.declared.scripts.Command.{Command}
use Rattle.timing_defs.specs.declared.scripts.Command.TheVariants.{Take, Await, Ask, Change}
use Rattle.timing_defs.specs.declared.scripts.Script.{Script}
use Rattle.timing_defs.specs.declared.scripts.Transcript.{Transcript}
use Rattle.timing_defs.specs.Documents.{is_plain}
use Rattle.version_board.specs.Callers.{Standing, Sitting, IsSeatOf, IsSame, IsNew}
use Rattle.session_engine.specs.Versions.{Versioned}
use Rattle.session_engine.specs.Looking.{meant}
use Rattle.session_engine.specs.Running.{Ran, IsRunnable, is_further, is_runnable}
use Rattle.session_engine.proofs.Scripts.{runnable_all}
use Rattle.script_reader.specs.Answerable.{is_answerable}
use Rattle.shell_core.specs.Scripts.{has_looks, IsScript}
use Rattle.shell_session.specs.declared.sessions.Ended.{Ended}
use Rattle.shell_session.specs.Each.{HandsBack, EachHandsBack, AreNew, AreTold}

abbrev Seated : Type 0
Seated = Sitting Entry Design

then_ok : {X Y : Type 0} (r : Result X Y) (P Q : X → Type 0) → ((x : X) → P x → Q x) → IfOk r P → IfOk r Q
then_ok (Ok x) P Q more h = more x h
then_ok (Err y) P Q more h = tt

some_is : {X : Type 0} (a b : X) → Some a ≡ Some b → a ≡ b
some_is a b same = ap (λ o. unwrap_or o a) same

-- a question that is answered in a script is plain or further
asks : (q : Query) → is_answerable (Ask q) ≡ true → (is_plain q || is_further q) ≡ true
asks (Slew pin split tran) k = refl
asks (At pin split tran) k = refl
asks (Rat pin split tran) k = refl
asks (Slack pin split tran) k = refl
asks (Endpoint pin kind) k = refl
asks (WorstPath pin kind) k = refl
asks (Wns kind) k = refl
asks (Tns kind) k = refl
asks (Worst kind count) k = refl
asks (Through pin kind pins) k = k
asks (Paths pin kind count) k = k
asks (WhatIf' shape trials) k = k
asks (Advise kind candidates) k = k
asks (Closing query) k = k

runs : (c : Command) → has_looks c ≡ true → is_answerable c ≡ true → is_runnable c ≡ true
runs Take h k = refl
runs (Await number looks) h k = h
runs (Ask q) h k = asks q k
runs (Change eco) h k = k

-- a script that was read can be run
pub runnable : (script : Script) → IsScript script → IsRunnable script
runnable script is =
    record { commands = runnable_all has_looks is_answerable runs script.commands is.looks is.answerable; few = is.few }

-- what a session leaves of its seat and its script
pub hands_back : (b : Standing Versioned) (s : Sitting Entry Design) (who : ℕ) (script : Script) (e : Ended)
    → IsSeatOf meant b s → s.view.number ≡ who → IsSame s e.seat
    → IfOk e.outcome (Ran b.opening.origin b.opening.first who script s.view e.seat.view) → HandsBack s script e
hands_back b s who script e at is same ran = (
  same,
  then_ok e.outcome (Ran b.opening.origin b.opening.first who script s.view e.seat.view)
      (λ t. (o : Design) → s.view.origin ≡ Some o → Ran o s.view.first s.view.number script s.view e.seat.view t)
      (λ t r o there.
      subst (λ x. Ran x s.view.first s.view.number script s.view e.seat.view t) (some_is b.opening.origin o (sym at.2 ∙ there))
      (subst (λ n. Ran b.opening.origin n s.view.number script s.view e.seat.view t) (sym at.1)
      (subst (λ n. Ran b.opening.origin b.opening.first n script s.view e.seat.view t) (sym is) r)))
      ran,
)

-- the last of new seats
pub new_popped : (b : Standing Versioned) (n : ℕ) (seats : List (Sitting Entry Design)) (s : Sitting Entry Design)
    → AreNew b n (seats ++ s ∷ []) → AreNew b n seats × IsNew (n + length seats) s × IsSeatOf meant b s
new_popped b n [] s h = (tt, subst (λ k. IsNew k s) (omega arith) h.0, h.1)
new_popped b n (x ∷ seats) s h =
    let rest = new_popped b (n + 1) seats s h.2 in
    ((h.0, h.1, rest.0), subst (λ k. IsNew k s) (omega arith) rest.1, rest.2)

each_more : (seats : List (Sitting Entry Design)) (scripts : List Script) (ended : List Ended) (s : Sitting Entry Design) (c : Script) (e : Ended)
    → EachHandsBack seats scripts ended → HandsBack s c e → EachHandsBack (seats ++ s ∷ []) (scripts ++ c ∷ []) (ended ++ e ∷ [])
each_more [] [] [] s c e h one = (one, tt)
each_more (x ∷ seats) (d ∷ scripts) (f ∷ ended) s c e h one = (h.0, each_more seats scripts ended s c e h.1 one)
each_more [] [] (f ∷ ended) s c e h one = absurd h
each_more [] (d ∷ scripts) ended s c e h one = absurd h
each_more (x ∷ seats) [] ended s c e h one = absurd h
each_more (x ∷ seats) (d ∷ scripts) [] s c e h one = absurd h

-- one session behind others that handed back their seats
pub each_popped : (all seats : List (Sitting Entry Design)) (scripts : List Script) (ended more : List Ended) (s : Sitting Entry Design) (c : Script) (e : Ended)
    → all ≡ seats ++ s ∷ [] → length seats < length scripts → c ≡ get_or scripts (length seats) c → more ≡ ended ++ e ∷ []
    → EachHandsBack seats (take (length seats) scripts) ended → HandsBack s c e → EachHandsBack all (take (length all) scripts) more
each_popped all seats scripts ended more s c e parts within at is h one =
    let long : length all ≡ length seats + 1 = ap length parts ∙ length-append seats (s ∷ []) in
    let longer : take (length seats + 1) scripts ≡ take (length seats) scripts ++ c ∷ [] =
    take_more scripts (length seats) c within ∙ ap (λ d. take (length seats) scripts ++ d ∷ []) (sym at) in
    subst (λ l. EachHandsBack l (take (length all) scripts) more) (sym parts)
    (subst (λ k. EachHandsBack (seats ++ s ∷ []) (take k scripts) more) (sym long)
    (subst (λ cs. EachHandsBack (seats ++ s ∷ []) cs more) (sym longer)
    (subst (λ es. EachHandsBack (seats ++ s ∷ []) (take (length seats) scripts ++ c ∷ []) es) (sym is)
    (each_more seats (take (length seats) scripts) ended s c e h one))))

-- the seats of those that ended, with one more
pub seats_more : (all ended : List Ended) (e : Ended) (seats more : List (Sitting Entry Design)) → all ≡ ended ++ e ∷ []
    → seats ≡ map (λ (x : Ended). x.seat) ended → more ≡ seats ++ e.seat ∷ [] → more ≡ map (λ (x : Ended). x.seat) all
seats_more all ended e seats more parts are is =
    is
    ∙ ap (λ l. l ++ e.seat ∷ []) are
    ∙ sym (map-append (λ (x : Ended). x.seat) ended (e ∷ []))
    ∙ sym (ap (map (λ (x : Ended). x.seat)) parts)

told_behind : (ended : List Ended) (ts : List Transcript) (e : Ended) (t : Transcript) → AreTold ended ts → e.outcome ≡ Ok t → AreTold (ended ++ e ∷ []) (ts ++ t ∷ [])
told_behind [] [] e t h one = (one, tt)
told_behind (x ∷ ended) (u ∷ ts) e t h one = (h.0, told_behind ended ts e t h.1 one)
told_behind [] (u ∷ ts) e t h one = absurd h
told_behind (x ∷ ended) [] e t h one = absurd h

-- and their transcripts
pub told_more : (all ended : List Ended) (e : Ended) (t : Transcript) (ts more : List Transcript) → all ≡ ended ++ e ∷ []
    → e.outcome ≡ Ok t → AreTold ended ts → more ≡ ts ++ t ∷ [] → AreTold all more
told_more all ended e t ts more parts one h is =
    subst (λ l. AreTold l more) (sym parts) (subst (AreTold (ended ++ e ∷ [])) (sym is) (told_behind ended ts e t h one))

-- the seats of a board that was begun
pub all_new : (b : Standing Versioned) (n : ℕ) (seats : List (Sitting Entry Design)) → All (IsSeatOf meant b) seats
    → ((k : ℕ) → k < length seats → IfSome (slice_get seats k) (IsNew (k + n))) → AreNew b n seats
all_new b n [] all new = tt
all_new b n (s ∷ seats) all new = (
  (let here : IsNew (0 + n) s = new 0 (omega arith) in subst (λ k. IsNew k s) (omega arith) here),
  All-head (IsSeatOf meant b) s seats all,
  all_new b (n + 1) seats (All-tail (IsSeatOf meant b) s seats all)
      (λ k within. subst (λ j. IfSome (slice_get seats k) (IsNew j)) (omega arith) (new (suc k) (omega (arith, within)))),
)
