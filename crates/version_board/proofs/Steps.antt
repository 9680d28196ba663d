-- Each step on the board's words keeps the rule, whatever other seats did before it.
use Rattle.std.proofs.Common.{◌≡◌, ℕ, ◌+◌, ◌%◌, ◌^◌, ◌<◌, ◌≤◌, eqb, true, false, List, [], ◌∷◌, ◌++◌, length, get_or, set, sym, refl, ap, ◌∙◌, subst, ⊎_elim, inl, inr, arith, Option, Some, None, length-set, length-append, get_or-set_other, get_or-set_same}
use mathlib.Core.Logic.{dite}
use mathlib.Core.Option.{none, some, some-injective, some-ne-none}
use mathlib.Core.List.{IsPrefix}
use native.Mathlib.Decide.{ℕ_discrete}
use lib.ListN.{get_elem?}
use lib.Seq.{set-get_or}
use prog.Atomic.{either}
use Rattle.atomic_table.specs.Table.{State, Act, step, keeps, takes, gives, Valid, stepped, carried_after, Allows, Splits, Joins}
use Rattle.atomic_table.proofs.Lists.{exchanged, set_here, set_else}
use Rattle.version_board.specs.declared.views.View.{View}
use Rattle.version_board.specs.Turns.{Homes, Turns}
use Rattle.version_board.specs.History.{Meaning, Rising, SomeMarked, Fits, History}
use Rattle.version_board.specs.Steps.{Sat, drew, looked, tallies, marks, left, waiting, entered, tallied, marked, away}
use Rattle.version_board.specs.Seats.{Seats, stays, comes, joined, spent}
use Rattle.version_board.specs.Orderly.{Orderly}
use Rattle.version_board.proofs.ViewLists.{unmoved}
use Rattle.version_board.proofs.Logs.{prefix_self, last_same, rising_more}
use Rattle.version_board.proofs.Lifted.{holds_one}
use Rattle.version_board.proofs.TurnsKept.{drawn, rests, lifted, goes_in, goes_out, comes_in}
use Rattle.version_board.proofs.SeatsKept.{same_seats, made_seats, joined_seats, added, taken_in}
use Rattle.version_board.proofs.HistoryKept.{marked_set, changed, follows_of, grown}

module _ {A E O : Type 0} (m : Meaning A E O) (f : ℕ) (o : O) (whole : ℕ) where
  abbrev Law : State (Option A) (View E O) → Type 0
  Law = Orderly m f o whole

  -- the rule from its parts, at the numbers that the words have
  kept : (words : List ℕ) (homes : Homes A) (views : List (View E O)) (log : List E) (seats serving ticket : ℕ) → length words ≡ 3 → length homes ≡ 1 → f ≤ 2 ^ 62
      → get_or words 0 0 ≡ ticket → get_or words 1 0 ≡ serving → get_or words 2 0 ≡ f + length log
      → Turns serving ticket homes views → History m f o serving log seats homes views → Seats whole seats views → Law record { words = words; homes = homes; views = views }
  kept words homes views log seats serving ticket wide deep small is_ticket is_serving counted turns history seated = record {
    log = log;
    seats = seats;
    wide = wide;
    deep = deep;
    small = small;
    counted = counted;
    turns = subst (λ (x : ℕ × ℕ). Turns x.0 x.1 homes views) (λ i. (sym is_serving i, sym is_ticket i)) turns;
    history = subst (λ x. History m f o x log seats homes views) (sym is_serving) history;
    seated = seated;
  }

  -- the count has room below 2^63
  roomy : (s : State (Option A) (View E O)) (r : Law s) → f + length r.log < 2 ^ 63 + 2
  roomy s r = let low = r.turns.low in let high = r.turns.high in let small = r.small in
      ⊎_elim (λ (h : length r.log ≤ get_or s.words 1 0). omega arith) (λ (h : (length r.log ≤ get_or s.words 1 0 + 1) × SomeMarked s.views). let k = h.0 in omega arith) r.history.room

  pub draws : (slots id : ℕ) (me : Sat A E O) (n : ℕ) → me.0.turn ≡ None → me.0.spent ≡ false → n < 2 ^ 62
      → Allows Law slots id me 0 (λ x. either (eqb x n) (n + 1) x) (drew (step slots 0 n (n + 1) none) me)
  draws slots id me n idle live room s r deep at fits = let found = get_or s.words 0 0 in let serving = get_or s.words 1 0 in let w = waiting n me.0 in
      exchanged found n (n + 1) (λ x. (v : View E O) × (a : Act (Option A)) × Valid s.homes me.1 a × Law (stepped s 0 x id me.1 v a) × drew (step slots 0 n (n + 1) none) me found (v, carried_after me.1 a))
      (λ e. (
        w,
        keeps,
        tt,
        kept (set s.words 0 (n + 1)) s.homes (set s.views id w) r.log r.seats serving (n + 1) (length-set s.words 0 (n + 1) ∙ r.wide) r.deep r.small
            (get_or-set_same s.words 0 (n + 1) 0 (let h = r.wide in omega arith)) (get_or-set_other s.words 0 1 (n + 1) 0 (λ c. omega arith)) (get_or-set_other s.words 0 2 (n + 1) 0 (λ c. omega arith) ∙ r.counted)
            (drawn serving n s.homes s.views (subst (λ x. Turns serving x s.homes s.views) e r.turns) id me.0 at idle room)
            (changed m f o serving serving r.log r.seats s.homes s.homes s.views r.history id me.0 w at live live refl refl (λ k. record { looks = k.looks; origin = k.origin; first = k.first; held = k.held }) (λ k. k) (λ k. k)
            (⊎_elim (λ (h : length r.log ≤ serving). inl h) (λ (h : (length r.log ≤ serving + 1) × SomeMarked s.views). inr (h.0, marked_set s.views id me.0 w at (λ a b. (a, b)) h.1)) r.history.room) r.history.home) (same_seats whole r.seats s.views r.seated id me.0 w at live refl),
        ((λ _. refl), λ ne. absurd (ne e)),
      ))
      (λ ne. (me.0, keeps, tt, unmoved Law s 0 id me.1 me.0 at r, ((λ e. absurd (ne e)), λ _. refl)))

  pub looks : (slots id : ℕ) (me : Sat A E O) (ticket : ℕ) → me.0.turn ≡ Some ticket → me.0.inside ≡ false → me.0.spent ≡ false
      → Allows Law slots id me 1 (λ n. n) (looked m (step slots 1 0 0 none) me)
  looks slots id me ticket on out live s r deep at fits = let serving = get_or s.words 1 0 in dite (ℕ_discrete ticket serving)
      (λ e. let on' : me.0.turn ≡ Some serving = on ∙ ap (λ k. Some k) e in let a = lifted serving (get_or s.words 0 0) s.homes s.views r.turns id me.0 at on' out in let home = r.history.home a.0 a.1 in
      let knows = r.history.each id me.0 at live in let w = entered (m.entries a.0) me.0 in (
        w,
        takes 0 (Some a.0),
        a.1,
        subst (λ ws. Law record { words = ws; homes = set s.homes 0 none; views = set s.views id w }) (sym (set-get_or s.words 1 0))
            (kept s.words (set s.homes 0 none) (set s.views id w) r.log r.seats serving (get_or s.words 0 0) r.wide (length-set s.homes 0 none ∙ r.deep) r.small refl refl r.counted
            (goes_in serving (get_or s.words 0 0) s.homes s.views r.turns r.deep id me.0 w at on' refl refl)
            (changed m f o serving serving r.log r.seats s.homes (set s.homes 0 none) s.views r.history id me.0 w at live live refl refl (λ k. record { looks = k.looks; origin = k.origin; first = k.first; held = λ _. home.0 }) (λ k. k) (λ k. k)
            (⊎_elim (λ (h : length r.log ≤ serving). inl h) (λ (h : (length r.log ≤ serving + 1) × SomeMarked s.views). inr (h.0, marked_set s.views id me.0 w at (λ _ b. (refl, b)) h.1)) r.history.room)
            (λ b here. let gone : some none ≡ some (some (Some b)) = sym (set_here s.homes 0 none (let h = r.deep in omega arith)) ∙ here in absurd (some-ne-none (Some b) (sym (some-injective none (some (Some b)) gone))))) (same_seats whole r.seats s.views r.seated id me.0 w at live refl)),
        ((λ _. (a.0, refl, (home.1 ∙ sym knows.first, ap (λ z. Some z) home.2 ∙ sym knows.origin))), λ ne. absurd (ne on')),
      ))
      (λ ne. (me.0, keeps, tt, unmoved Law s 1 id me.1 me.0 at r, ((λ e. let h : Some ticket ≡ Some serving = sym on ∙ e in absurd (ne (cc))), λ _. refl)))

  pub tally : (slots id : ℕ) (me : Sat A E O) → me.0.inside ≡ true → me.0.spent ≡ false → Allows Law slots id me 2 (λ n. n) (tallies (step slots 2 0 0 none) me)
  tally slots id me in_v live s r deep at fits = let serving = get_or s.words 1 0 in let ticket = get_or s.words 0 0 in let found = get_or s.words 2 0 in let w = tallied found me.0 in
      let knows = r.history.each id me.0 at live in let held = knows.held in_v in let follows = follows_of m f o serving r.log r.seats s.homes s.views r.history id me.0 at live in (
        w,
        keeps,
        tt,
        subst (λ ws. Law record { words = ws; homes = s.homes; views = set s.views id w }) (sym (set-get_or s.words 2 0))
            (kept s.words s.homes (set s.views id w) r.log r.seats serving ticket r.wide r.deep r.small refl refl r.counted (rests serving ticket s.homes s.views r.turns id me.0 w at refl refl)
            (changed m f o serving serving r.log r.seats s.homes s.homes s.views r.history id me.0 w at live live refl refl
            (λ k. record { looks = subst (λ n. Rising f (f + length r.log) (me.0.looks ++ n ∷ [])) (sym r.counted) (rising_more f (f + length r.log) me.0.looks k.looks); origin = k.origin; first = k.first; held = k.held })
            (λ k. (subst (λ l. IsPrefix l r.log) (sym held) (prefix_self r.log), k.1)) (λ _. held)
            (⊎_elim (λ (h : length r.log ≤ serving). inl h) (λ (h : (length r.log ≤ serving + 1) × SomeMarked s.views). inr (h.0, marked_set s.views id me.0 w at (λ a b. (a, b)) h.1)) r.history.room) r.history.home) (same_seats whole r.seats s.views r.seated id me.0 w at live refl)),
        (refl, r.counted ∙ (λ i. sym knows.first i + length (sym held i)), subst (λ l. IsPrefix me.0.seen l) (sym held) follows.0),
      )

  pub mark : (slots id : ℕ) (me : Sat A E O) (a : A) (e : E) → me.0.inside ≡ true → me.0.spent ≡ false → me.0.marked ≡ false → me.0.seen ≡ me.0.held → me.1 ≡ (0, Some a) ∷ [] → m.entries a ≡ me.0.seen ++ e ∷ []
      → m.by e ≡ me.0.number → Allows Law slots id me 2 (λ n. (n + 1) % 2 ^ 64) (marks m (step slots 2 1 0 none) me)
  mark slots id me a e in_v live unmarked all holds entries mine s r deep at fits = let serving = get_or s.words 1 0 in let ticket = get_or s.words 0 0 in let w = marked e me.0 in
      let knows = r.history.each id me.0 at live in let all' : me.0.seen ≡ r.log = all ∙ knows.held in_v in let x = (get_or s.words 2 0 + 1) % 2 ^ 64 in let room = roomy s r in let counted = r.counted in
      let longer : length (r.log ++ e ∷ []) ≡ length r.log + 1 = length-append r.log (e ∷ []) in (
        w,
        keeps,
        tt,
        kept (set s.words 2 x) s.homes (set s.views id w) (r.log ++ e ∷ []) r.seats serving ticket (length-set s.words 2 x ∙ r.wide) r.deep r.small
            (get_or-set_other s.words 2 0 x 0 (λ c. omega arith)) (get_or-set_other s.words 2 1 x 0 (λ c. omega arith)) (get_or-set_same s.words 2 x 0 (let h = r.wide in omega arith) ∙ omega arith)
            (rests serving ticket s.homes s.views r.turns id me.0 w at refl refl) (grown m f o serving ticket r.log r.seats s.homes s.views r.turns r.history id me.0 e at live in_v unmarked all' mine) (same_seats whole r.seats s.views r.seated id me.0 w at live refl),
        (λ b d holds' entries'. let same : b ≡ a = holds_one me.1 b a holds' holds in
            let it : e ≡ d = last_same me.0.seen e d (sym entries ∙ (ap m.entries (sym same) ∙ entries')) in ap (λ z. (marked z me.0, me.1)) it),
      )

  pub leaves : (slots id : ℕ) (me : Sat A E O) (a : A) → me.0.inside ≡ true → me.0.spent ≡ false → me.1 ≡ (0, Some a) ∷ [] → m.entries a ≡ me.0.held → Fits m me.0 a
      → Allows Law slots id me 1 (λ n. (n + 1) % 2 ^ 64) (left (step slots 1 1 0 none) me)
  leaves slots id me a in_v live holds entries agrees s r deep at fits = let serving = get_or s.words 1 0 in let ticket = get_or s.words 0 0 in let w = away me.0 in let low = r.turns.low in let high = r.turns.high in
      let knows = r.history.each id me.0 at live in let x = (serving + 1) % 2 ^ 64 in let same : serving + 1 ≡ x = omega arith in let origin : Some (m.origin a) ≡ Some o = agrees.1 ∙ knows.origin in
      let home : (m.entries a ≡ r.log) × (m.from a ≡ f) × (m.origin a ≡ o) = (entries ∙ knows.held in_v, agrees.0 ∙ knows.first, cc) in (
        w,
        gives,
        tt,
        subst (λ cs. Law (stepped s 1 x id cs w gives)) (sym holds)
            (kept (set s.words 1 x) (set s.homes 0 (some (Some a))) (set s.views id w) r.log r.seats (serving + 1) ticket (length-set s.words 1 x ∙ r.wide) (length-set s.homes 0 (some (Some a)) ∙ r.deep) r.small
            (get_or-set_other s.words 1 0 x 0 (λ c. omega arith)) (get_or-set_same s.words 1 x 0 (let h = r.wide in omega arith) ∙ sym same) (get_or-set_other s.words 1 2 x 0 (λ c. omega arith) ∙ r.counted)
            (goes_out serving ticket s.homes s.views r.turns r.deep id me.0 w at in_v refl refl a)
            (changed m f o serving (serving + 1) r.log r.seats s.homes (set s.homes 0 (some (Some a))) s.views r.history id me.0 w at live live refl refl
            (λ k. record { looks = k.looks; origin = k.origin; first = k.first; held = λ c. absurd (let h : false ≡ true = c in cc) }) (λ k. k) (λ k. k)
            (inl (⊎_elim (λ (h : length r.log ≤ serving). omega arith) (λ (h : (length r.log ≤ serving + 1) × SomeMarked s.views). let k = h.0 in omega arith) r.history.room))
            (λ b here. let there : some (some (Some a)) ≡ some (some (Some b)) = sym (set_here s.homes 0 (some (Some a)) (let h = r.deep in omega arith)) ∙ here in
            let it : a ≡ b = cc in subst (λ z. (m.entries z ≡ r.log) × (m.from z ≡ f) × (m.origin z ≡ o)) it home)) (same_seats whole r.seats s.views r.seated id me.0 w at live refl)),
        ap (λ cs. (w, carried_after cs gives)) holds,
      )

  pub splits : (id : ℕ) (v : View E O) → v.spent ≡ false → v.turn ≡ None → v.maker ≡ true → 2 ≤ v.parts → Splits Law id v (stays v) (comes v)
  splits id v live idle maker parts s r at = let serving = get_or s.words 1 0 in let ticket = get_or s.words 0 0 in let follows = follows_of m f o serving r.log r.seats s.homes s.views r.history id v at live in
      let knows = r.history.each id v at live in let made : v.made ≡ r.seats = r.seated.made id v at maker in let w = stays v in
      let history = changed m f o serving serving r.log r.seats s.homes s.homes s.views r.history id v w at live live refl refl (λ k. record { looks = k.looks; origin = k.origin; first = k.first; held = k.held }) (λ k. k) (λ k. k)
      (⊎_elim (λ (h : length r.log ≤ serving). inl h) (λ (h : (length r.log ≤ serving + 1) × SomeMarked s.views). inr (h.0, marked_set s.views id v w at (λ a b. (a, b)) h.1)) r.history.room) r.history.home in
      kept s.words s.homes (set s.views id w ++ comes v ∷ []) r.log (r.seats + 1) serving ticket r.wide r.deep r.small refl refl r.counted
      (comes_in serving ticket s.homes (set s.views id w) (rests serving ticket s.homes s.views r.turns id v w at refl refl) (comes v) refl refl)
      (added m f o serving r.log r.seats s.homes (set s.views id w) history (comes v) live (ap (λ n. n + 1) made) refl refl refl refl knows.origin knows.first follows.0)
      (made_seats whole r.seats s.views r.seated id v at live maker parts)

  pub joins : (id other : ℕ) (v w : View E O) → v.spent ≡ false → w.spent ≡ false → w.turn ≡ None → w.inside ≡ false → Joins Law id v other w (joined v w) spent
  joins id other v w live live' idle outside s r at apart there = let serving = get_or s.words 1 0 in let ticket = get_or s.words 0 0 in let mid = set s.views id (joined v w) in
      let at' : get_elem? s.views other ≡ some w = sym (set_else s.views id other (joined v w) apart) ∙ there in
      kept s.words s.homes (set mid other spent) r.log r.seats serving ticket r.wide r.deep r.small refl refl r.counted
      (rests serving ticket s.homes mid (rests serving ticket s.homes s.views r.turns id v (joined v w) at refl refl) other w spent there (sym idle) (sym outside))
      (taken_in m f o serving r.log r.seats s.homes s.views r.history id other v w apart at at' live live' outside)
      (joined_seats whole r.seats s.views r.seated id other v w apart at at' live live' outside)
