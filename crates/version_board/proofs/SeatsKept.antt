-- Each step keeps what the rule says of which seats there are, and a seat that is made or taken in keeps the history.
use Rattle.std.proofs.Common.{◌≡◌, ◌≢◌, ℕ, ◌+◌, ◌-◌, ◌<◌, ◌≤◌, ◌==◌, Bool, true, false, cond, List, [], ◌∷◌, ◌++◌, length, set, sym, refl, ap, ◌∙◌, subst, ⊎_elim, inl, inr, arith, Some, eq-eqb, ne_eqb}
use mathlib.Core.Logic.{dite}
use mathlib.Core.Option.{some, some-injective}
use mathlib.Core.List.{IsPrefix}
use native.Mathlib.Decide.{ℕ_discrete}
use lib.ListN.{get_elem?}
use Rattle.std.specs.List.{All, count_by, sum_by}
use Rattle.std.proofs.lemmas.List.Elements.{All-cons, All-nil, All-append, All-weaker}
use Rattle.std.proofs.lemmas.List.Sums.{sum_by-cons, sum_by-append}
use Rattle.atomic_table.proofs.Lists.{set_else, at_longer}
use Rattle.version_board.specs.declared.views.View.{View}
use Rattle.version_board.specs.declared.views.Old.{Old}
use Rattle.version_board.specs.Turns.{Homes}
use Rattle.version_board.specs.History.{Meaning, Rising, itself, told, holders, SomeMarked, HasSeen, Knows, Follows, History}
use Rattle.version_board.specs.Seats.{parts_of, Seats, stays, comes, joined, spent}
use Rattle.version_board.proofs.ViewLists.{each_set, each_more, set_there}
use Rattle.version_board.proofs.Logs.{sum_two, sum_set, own_none}
use Rattle.version_board.proofs.HistoryKept.{told_live, marked_set}

module _ {E : Type 0} where
  -- what one of a list has seen, one of a longer list has
  seen_right : (log : List E) (ts us : List (Old E)) → HasSeen log us → HasSeen log (ts ++ us)
  seen_right log [] us h = h
  seen_right log (t ∷ ts) us h = inr (seen_right log ts us h)

  seen_left : (log : List E) (ts us : List (Old E)) → HasSeen log ts → HasSeen log (ts ++ us)
  seen_left log [] us h = absurd h
  seen_left log (t ∷ ts) us h = ⊎_elim (λ (e : t.seen ≡ log). inl e) (λ (k : HasSeen log ts). inr (seen_left log ts us k)) h

module _ {E O : Type 0} where
  abbrev base : View E O → Bool × ℕ × Bool × ℕ × List (Old E)
  base v = (v.spent, v.parts, v.maker, v.made, v.olds)

  abbrev counted : View E O → ℕ
  counted v = cond v.maker 1 0

  -- a step of a live seat that leaves what it counts for
  pub same_seats : (all seats : ℕ) (views : List (View E O)) → Seats all seats views → (id : ℕ) (v w : View E O) → get_elem? views id ≡ some v → v.spent ≡ false → base w ≡ base v → Seats all seats (set views id w)
  same_seats all seats views r id v w at live same = let live' : w.spent ≡ false = ap (λ b. b.0) same ∙ live in record {
    parts = let s = sum_set parts_of views id v w at in let e : parts_of w ≡ parts_of v = ap (λ b. cond b.0 0 b.1) same in let h = r.parts in omega arith;
    live = each_set (λ _ u. u.spent ≡ false → 0 < u.parts) views id w (λ _. let h = r.live id v at live in let e : w.parts ≡ v.parts = ap (λ b. b.1) same in omega arith) (λ j u _ at_j. r.live j u at_j);
    inside = each_set (λ _ u. u.inside ≡ true → u.spent ≡ false) views id w (λ _. live') (λ j u _ at_j. r.inside j u at_j);
    gone = each_set (λ _ u. u.spent ≡ true → u.olds ≡ []) views id w (λ e. let h : true ≡ false = sym e ∙ live' in absurd cc) (λ j u _ at_j. r.gone j u at_j);
    makers = let s = sum_set counted views id v w at in let e : counted w ≡ counted v = ap (λ b. cond b.2 1 0) same in let h = r.makers in omega arith;
    made = each_set (λ _ u. u.maker ≡ true → u.made ≡ seats) views id w (λ e. ap (λ b. b.3) same ∙ r.made id v at (sym (ap (λ b. b.2) same) ∙ e)) (λ j u _ at_j. r.made j u at_j);
  }

  -- a maker makes the next seat
  pub made_seats : (all seats : ℕ) (views : List (View E O)) → Seats all seats views → (id : ℕ) (v : View E O) → get_elem? views id ≡ some v → v.spent ≡ false → v.maker ≡ true → 2 ≤ v.parts
      → Seats all (seats + 1) (set views id (stays v) ++ comes v ∷ [])
  made_seats all seats views r id v at live maker two = let w = stays v in let z = comes v in let mid = set views id w in let made = r.made id v at maker in
      let one : counted v ≡ 1 = ap (λ b. let n : ℕ = cond b 1 0 in n) maker in let of_v : parts_of v ≡ v.parts = ap (λ b. cond b 0 v.parts) live in
      let of_w : parts_of w ≡ 1 = ap (λ b. let n : ℕ = cond b 0 1 in n) live in let of_z : parts_of z ≡ v.parts - 1 = ap (λ b. cond b 0 (v.parts - 1)) live in record {
        parts = let s = sum_set parts_of views id v w at in let t = sum_by-append parts_of mid (z ∷ []) in let u = sum_by-cons parts_of z [] in let h = r.parts in omega arith;
        live = each_more (λ _ u. u.spent ≡ false → 0 < u.parts) mid z (λ _. omega arith) (each_set (λ _ u. u.spent ≡ false → 0 < u.parts) views id w (λ _. omega arith) (λ j u _ at_j. r.live j u at_j));
        inside = each_more (λ _ u. u.inside ≡ true → u.spent ≡ false) mid z (λ _. live) (each_set (λ _ u. u.inside ≡ true → u.spent ≡ false) views id w (λ _. live) (λ j u _ at_j. r.inside j u at_j));
        gone = each_more (λ _ u. u.spent ≡ true → u.olds ≡ []) mid z (λ _. refl)
            (each_set (λ _ u. u.spent ≡ true → u.olds ≡ []) views id w (λ e. let h : true ≡ false = sym e ∙ live in absurd cc) (λ j u _ at_j. r.gone j u at_j));
        makers = let s = sum_set counted views id v w at in let t = sum_by-append counted mid (z ∷ []) in let u = sum_by-cons counted z [] in let h = r.makers in omega arith;
        made = each_more (λ _ u. u.maker ≡ true → u.made ≡ seats + 1) mid z (λ _. ap (λ n. n + 1) made)
            (each_set (λ _ u. u.maker ≡ true → u.made ≡ seats + 1) views id w (λ e. let h : false ≡ true = e in absurd cc)
            (λ j u other at_j e. let two_of = sum_two counted views j id u v other at_j at in let h = r.makers in let mine : counted u ≡ 1 = ap (λ b. let n : ℕ = cond b 1 0 in n) e in absurd (omega arith)));
      }

  -- one seat takes in another
  pub joined_seats : (all seats : ℕ) (views : List (View E O)) → Seats all seats views → (id other : ℕ) (v w : View E O) → other ≢ id → get_elem? views id ≡ some v → get_elem? views other ≡ some w
      → v.spent ≡ false → w.spent ≡ false → w.inside ≡ false → Seats all seats (set (set views id (joined v w)) other spent)
  joined_seats all seats views r id other v w apart at at_w live live' outside = let z = joined v w in let mid = set views id z in let there : get_elem? mid other ≡ some w = set_else views id other z apart ∙ at_w in
      let of_v : parts_of v ≡ v.parts = ap (λ b. cond b 0 v.parts) live in let of_w : parts_of w ≡ w.parts = ap (λ b. cond b 0 w.parts) live' in let of_z : parts_of z ≡ v.parts + w.parts = ap (λ b. cond b 0 (v.parts + w.parts)) live in
      let no_false : false ≡ true → ⊥ = λ e. cc in record {
        parts = let s = sum_set parts_of views id v z at in let t = sum_set parts_of mid other w spent there in let h = r.parts in omega arith;
        live = each_set (λ _ u. u.spent ≡ false → 0 < u.parts) mid other spent (λ e. let h : true ≡ false = e in absurd cc)
            (λ j u _ at_j. each_set (λ _ x. x.spent ≡ false → 0 < x.parts) views id z (λ _. let h = r.live id v at live in omega arith) (λ k x _ at_k. r.live k x at_k) j u at_j);
        inside = each_set (λ _ u. u.inside ≡ true → u.spent ≡ false) mid other spent (λ e. absurd (no_false e))
            (λ j u _ at_j. each_set (λ _ x. x.inside ≡ true → x.spent ≡ false) views id z (λ _. live) (λ k x _ at_k. r.inside k x at_k) j u at_j);
        gone = each_set (λ _ u. u.spent ≡ true → u.olds ≡ []) mid other spent (λ _. refl)
            (λ j u _ at_j. each_set (λ _ x. x.spent ≡ true → x.olds ≡ []) views id z (λ e. let h : true ≡ false = sym e ∙ live in absurd cc) (λ k x _ at_k. r.gone k x at_k) j u at_j);
        makers = let s = sum_set counted views id v z at in let t = sum_set counted mid other w spent there in let h = r.makers in omega arith;
        made = each_set (λ _ u. u.maker ≡ true → u.made ≡ seats) mid other spent (λ e. absurd (no_false e))
            (λ j u _ at_j. each_set (λ _ x. x.maker ≡ true → x.made ≡ seats) views id z (λ e. absurd (no_false e)) (λ k x _ at_k. r.made k x at_k) j u at_j);
      }

  -- how often the number n is told of: by a new seat, and by a seat that took in another
  alone_holds : (n : ℕ) (w : View E O) → w.spent ≡ false → w.olds ≡ [] → holders n w ≡ cond (w.number == n) 1 0
  alone_holds n w live bare = ap (count_by (λ t. t.number == n)) (told_live w live ∙ ap (λ ts. itself w ∷ ts) bare) ∙ omega (arith, sum_by-cons (λ (t : Old E). cond (t.number == n) 1 0) (itself w) [])

  pub joined_told : (v w : View E O) → v.spent ≡ false → w.spent ≡ false → told (joined v w) ≡ told v ++ told w
  joined_told v w live live' = told_live (joined v w) live ∙ (λ i. sym (told_live v live) i ++ sym (told_live w live') i)

  joined_holds : (n : ℕ) (v w : View E O) → v.spent ≡ false → w.spent ≡ false → holders n (joined v w) ≡ holders n v + holders n w
  joined_holds n v w live live' = ap (count_by (λ t. t.number == n)) (joined_told v w live live') ∙ sum_by-append (λ (t : Old E). cond (t.number == n) 1 0) (told v) (told w)

  hits : (n : ℕ) (w : View E O) → w.number ≡ n → ◌≡◌ {A = ℕ} (cond (w.number == n) 1 0) 1
  hits n w e = ap (λ b. let k : ℕ = cond b 1 0 in k) (eq-eqb w.number n e)

  misses : (n : ℕ) (w : View E O) → w.number ≢ n → ◌≡◌ {A = ℕ} (cond (w.number == n) 1 0) 0
  misses n w e = ap (λ b. let k : ℕ = cond b 1 0 in k) (ne_eqb w.number n e)

module _ {A E O : Type 0} (m : Meaning A E O) (f : ℕ) (o : O) where
  -- a new seat, which has seen a beginning and added nothing
  pub added : (serving : ℕ) (log : List E) (seats : ℕ) (homes : Homes A) (views : List (View E O)) → History m f o serving log seats homes views
      → (w : View E O) → w.spent ≡ false → w.number ≡ seats + 1 → w.olds ≡ [] → w.mine ≡ [] → w.looks ≡ [] → w.inside ≡ false → w.origin ≡ Some o → w.first ≡ f → IsPrefix w.seen log
      → History m f o serving log (seats + 1) homes (views ++ w ∷ [])
  added serving log seats homes views r w live number bare mine looks outside origin first seen = let holds : (n : ℕ) → holders n w ≡ cond (w.number == n) 1 0 = λ n. alone_holds n w live bare in
      let sum : (n : ℕ) → sum_by (holders n) (views ++ w ∷ []) ≡ sum_by (holders n) views + cond (w.number == n) 1 0 =
      λ n. let t = sum_by-append (holders n) views (w ∷ []) in let u = sum_by-cons (holders n) w [] in let h = holds n in omega (arith, t, u, h) in record {
        room = ⊎_elim (λ (h : length log ≤ serving). inl h) (λ (h : (length log ≤ serving + 1) × SomeMarked views). inr (h.0, (let k = h.1 in (k.0, k.1, at_longer views (w ∷ []) k.0 k.1 k.2, k.3, k.4)))) r.room;
        home = r.home;
        each = each_more (λ _ u. u.spent ≡ false → Knows f o log u) views w
            (λ _. record { looks = subst (Rising f (f + length log)) (sym looks) (omega arith); origin = origin; first = first; held = λ e. let h : false ≡ true = sym outside ∙ e in absurd cc }) r.each;
        follows = each_more (λ _ u. All (Follows m.by log) (told u)) views w
            (subst (All (Follows m.by log)) (sym (told_live w live ∙ ap (λ ts. itself w ∷ ts) bare))
            (All-cons (Follows m.by log) (itself w) []
            (seen, mine ∙ sym (own_none m.by w.number log (All-weaker (λ e. (0 < m.by e) × (m.by e ≤ seats)) (λ e. m.by e ≢ w.number) (λ e h same. let k = h.1 in omega arith) log r.whose)))
            (All-nil (Follows m.by log)))) r.follows;
        seen = let h = r.seen in (h.0, h.1, at_longer views (w ∷ []) h.0 h.1 h.2, h.3);
        numbers = record {
          once = λ n lo hi. dite (ℕ_discrete w.number n) (λ e. let s = sum n in let one = hits n w e in let none = r.numbers.no_other n (inr (omega arith)) in omega (arith, s, one, none))
              (λ ne. let s = sum n in let zero_more = misses n w ne in let one = r.numbers.once n lo (omega arith) in omega (arith, s, zero_more, one));
          no_other = λ n out. let s = sum n in ⊎_elim (λ (e : n ≡ 0). let zero_more = misses n w (λ c. omega arith) in let none = r.numbers.no_other n (inl e) in omega (arith, s, zero_more, none))
              (λ (l : seats + 1 < n). let zero_more = misses n w (λ c. omega arith) in let none = r.numbers.no_other n (inr (omega arith)) in omega (arith, s, zero_more, none)) out;
        };
        whose = All-weaker (λ e. (0 < m.by e) × (m.by e ≤ seats)) (λ e. (0 < m.by e) × (m.by e ≤ seats + 1)) (λ e h. let k = h.1 in (h.0, omega arith)) log r.whose;
      }

  -- a seat takes in another, and tells of it from then on
  pub taken_in : (serving : ℕ) (log : List E) (seats : ℕ) (homes : Homes A) (views : List (View E O)) → History m f o serving log seats homes views
      → (id other : ℕ) (v w : View E O) → other ≢ id → get_elem? views id ≡ some v → get_elem? views other ≡ some w → v.spent ≡ false → w.spent ≡ false → w.inside ≡ false
      → History m f o serving log seats homes (set (set views id (joined v w)) other spent)
  taken_in serving log seats homes views r id other v w apart at at_w live live' outside = let z = joined v w in let mid = set views id z in let there : get_elem? mid other ≡ some w = set_else views id other z apart ∙ at_w in
      let P : Old E → Type 0 = Follows m.by log in
      let sum : (n : ℕ) → sum_by (holders n) (set mid other spent) ≡ sum_by (holders n) views = λ n. let s = sum_set (holders n) views id v z at in let t = sum_set (holders n) mid other w spent there in let h = joined_holds n v w live live' in omega (arith, s, t, h) in
      let here : get_elem? (set mid other spent) id ≡ some z = set_else mid other id spent (λ e. apart (sym e)) ∙ set_there views id v z at in record {
        room = ⊎_elim (λ (h : length log ≤ serving). inl h)
            (λ (h : (length log ≤ serving + 1) × SomeMarked views). inr (h.0, marked_set mid other w spent there (λ e _. let k : false ≡ true = sym outside ∙ e in absurd cc) (marked_set views id v z at (λ a b. (a, b)) h.1))) r.room;
        home = r.home;
        each = each_set (λ _ u. u.spent ≡ false → Knows f o log u) mid other spent (λ e. let k : true ≡ false = e in absurd cc)
            (λ j u _ at_j. each_set (λ _ x. x.spent ≡ false → Knows f o log x) views id z (λ _. let k = r.each id v at live in record { looks = k.looks; origin = k.origin; first = k.first; held = k.held }) (λ k x _ at_k. r.each k x at_k) j u at_j);
        follows = each_set (λ _ u. All P (told u)) mid other spent (All-nil P)
            (λ j u _ at_j. each_set (λ _ x. All P (told x)) views id z
            (subst (All P) (sym (joined_told v w live live')) (All-append P (told v) (told w) (r.follows id v at) (r.follows other w at_w)))
            (λ k x _ at_k. r.follows k x at_k) j u at_j);
        seen = let h = r.seen in dite (ℕ_discrete h.0 id)
            (λ e. let it : h.1 ≡ v = some-injective h.1 v (sym h.2 ∙ (ap (get_elem? views) e ∙ at)) in
            (id, z, here, subst (HasSeen log) (sym (joined_told v w live live')) (seen_left log (told v) (told w) (subst (HasSeen log) (ap (λ (x : View E O). told x) it) h.3))))
            (λ ne. dite (ℕ_discrete h.0 other)
            (λ e. let it : h.1 ≡ w = some-injective h.1 w (sym h.2 ∙ (ap (get_elem? views) e ∙ at_w)) in
            (id, z, here, subst (HasSeen log) (sym (joined_told v w live live')) (seen_right log (told v) (told w) (subst (HasSeen log) (ap (λ (x : View E O). told x) it) h.3))))
            (λ ne'. (h.0, h.1, set_else mid other h.0 spent ne' ∙ (set_else views id h.0 z ne ∙ h.2), h.3)));
        numbers = record { once = λ n lo hi. sum n ∙ r.numbers.once n lo hi; no_other = λ n out. sum n ∙ r.numbers.no_other n out };
        whose = r.whose;
      }
