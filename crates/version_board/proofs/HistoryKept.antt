-- Each step keeps what the rule says of the history.
use Rattle.std.proofs.Common.{◌≡◌, ◌≢◌, ◌⊎◌, ℕ, ◌+◌, ◌<◌, ◌≤◌, ◌==◌, true, false, cond, List, [], ◌∷◌, ◌++◌, length, set, sym, refl, ap, ◌∙◌, subst, ⊎_elim, inl, inr, arith, Some, eq-eqb, length-append}
use mathlib.Core.Option.{none, some, some-injective, some-ne-none}
use mathlib.Core.List.{IsPrefix}
use lib.ListN.{get_elem?}
use Rattle.std.specs.List.{All, count_by, sum_by}
use Rattle.std.proofs.lemmas.List.Elements.{All-head, All-tail, All-cons, All-push, All-weaker}
use Rattle.std.proofs.lemmas.List.Sums.{sum_by-cons}
use Rattle.version_board.specs.declared.views.View.{View}
use Rattle.version_board.specs.declared.views.Old.{Old}
use Rattle.version_board.specs.Turns.{Homes, Turns}
use Rattle.version_board.specs.History.{Meaning, itself, told, holders, SomeMarked, HasSeen, Knows, Follows, Numbered, History}
use Rattle.version_board.specs.Steps.{marked}
use Rattle.version_board.proofs.ViewLists.{each_set, set_there}
use Rattle.version_board.proofs.Logs.{prefix_self, prefix_longer, sum_one, sum_two, sum_set, none_has, own_more, own_same, rising_longer}
use Rattle.version_board.proofs.TurnsKept.{some_set, alone}

module _ {E O : Type 0} where
  -- a seat that is not spent is told of first
  pub told_live : (v : View E O) → v.spent ≡ false → told v ≡ itself v ∷ v.olds
  told_live v live = ap (λ b. cond b v.olds (itself v ∷ v.olds)) live

  same_olds : (v w : View E O) → v.spent ≡ false → w.spent ≡ false → w.olds ≡ v.olds → told w ≡ itself w ∷ v.olds
  same_olds v w live live' olds = told_live w live' ∙ ap (λ ts. itself w ∷ ts) olds

  -- another fact of each seat that is told of
  retold : (P Q : Old E → Type 0) (v w : View E O) → v.spent ≡ false → w.spent ≡ false → w.olds ≡ v.olds → Q (itself w) → ((t : Old E) → P t → Q t) → All P (told v) → All Q (told w)
  retold P Q v w live live' olds mine weaker h = let h' : All P (itself v ∷ v.olds) = subst (All P) (told_live v live) h in
      subst (All Q) (sym (same_olds v w live live' olds)) (All-cons Q (itself w) v.olds mine (All-weaker P Q weaker v.olds (All-tail P (itself v) v.olds h')))

  -- the seats that are told of keep their numbers
  same_holders : (n : ℕ) (v w : View E O) → v.spent ≡ false → w.spent ≡ false → w.number ≡ v.number → w.olds ≡ v.olds → holders n w ≡ holders n v
  same_holders n v w live live' number olds = ap (count_by (λ t. t.number == n)) (same_olds v w live live' olds)
      ∙ (sum_by-cons (λ (t : Old E). cond (t.number == n) 1 0) (itself w) v.olds
      ∙ (ap (λ k. cond (k == n) 1 0 + count_by (λ (t : Old E). t.number == n) v.olds) number
      ∙ (sym (sum_by-cons (λ (t : Old E). cond (t.number == n) 1 0) (itself v) v.olds) ∙ ap (count_by (λ t. t.number == n)) (sym (told_live v live)))))

  -- a live seat holds its own number
  pub holds_own : (v : View E O) → v.spent ≡ false → holders v.number v ≡ 1 + count_by (λ (t : Old E). t.number == v.number) v.olds
  holds_own v live = ap (count_by (λ t. t.number == v.number)) (told_live v live) ∙ (sum_by-cons (λ (t : Old E). cond (t.number == v.number) 1 0) (itself v) v.olds
      ∙ ap (λ b. cond b 1 0 + count_by (λ (t : Old E). t.number == v.number) v.olds) (eq-eqb v.number v.number refl))

  same_numbers : (seats : ℕ) (views : List (View E O)) → Numbered seats views → (id : ℕ) (v w : View E O) → get_elem? views id ≡ some v → ((n : ℕ) → holders n w ≡ holders n v) → Numbered seats (set views id w)
  same_numbers seats views r id v w at same = record {
    once = λ n lo hi. let h = r.once n lo hi in let s = sum_set (holders n) views id v w at in let e = same n in omega arith;
    no_other = λ n out. let h = r.no_other n out in let s = sum_set (holders n) views id v w at in let e = same n in omega arith;
  }

  -- its number is that of a seat that was made
  pub named : (seats : ℕ) (views : List (View E O)) → Numbered seats views → (id : ℕ) (v : View E O) → get_elem? views id ≡ some v → v.spent ≡ false → (0 < v.number) × (v.number ≤ seats)
  named seats views r id v at live = let one = sum_one (holders v.number) views id v at in let h = holds_own v live in
      let some_one : sum_by (holders v.number) views ≢ 0 = λ e. omega arith in
      let low : v.number ≢ 0 = λ e. some_one (r.no_other v.number (inl e)) in let high : ¬ (seats < v.number) = λ e. some_one (r.no_other v.number (inr e)) in (omega arith, omega arith)

  -- no other seat has its number: none that it took in, and none that another view tells of
  pub apart_olds : (seats : ℕ) (views : List (View E O)) → Numbered seats views → (id : ℕ) (v : View E O) → get_elem? views id ≡ some v → v.spent ≡ false → All (λ (t : Old E). t.number ≢ v.number) v.olds
  apart_olds seats views r id v at live = let k = named seats views r id v at live in let one = r.once v.number k.0 k.1 in let part = sum_one (holders v.number) views id v at in let h = holds_own v live in
      none_has (λ (t : Old E). t.number) v.number v.olds (omega arith)

  pub apart_told : (seats : ℕ) (views : List (View E O)) → Numbered seats views → (id j : ℕ) (v u : View E O) → j ≢ id → get_elem? views id ≡ some v → get_elem? views j ≡ some u → v.spent ≡ false
      → All (λ (t : Old E). t.number ≢ v.number) (told u)
  apart_told seats views r id j v u other at at_j live = let k = named seats views r id v at live in let one = r.once v.number k.0 k.1 in
      let part = sum_two (holders v.number) views j id u v other at_j at in let h = holds_own v live in none_has (λ (t : Old E). t.number) v.number (told u) (omega arith)

  seen_stays : (log : List E) (v w : View E O) → v.spent ≡ false → w.spent ≡ false → w.olds ≡ v.olds → (v.seen ≡ log → w.seen ≡ log) → HasSeen log (told v) → HasSeen log (told w)
  seen_stays log v w live live' olds stays h = let h' : HasSeen log (itself v ∷ v.olds) = subst (HasSeen log) (told_live v live) h in
      subst (HasSeen log) (sym (same_olds v w live live' olds)) (⊎_elim (λ (e : v.seen ≡ log). inl (stays e)) (λ (t : HasSeen log v.olds). inr t) h')

  pub marked_set : (views : List (View E O)) (id : ℕ) (v w : View E O) → get_elem? views id ≡ some v → (v.inside ≡ true → v.marked ≡ true → (w.inside ≡ true) × (w.marked ≡ true)) → SomeMarked views → SomeMarked (set views id w)
  marked_set views id v w at stays h = let t = some_set (λ u. (u.inside ≡ true) × (u.marked ≡ true)) views id v w at (λ k. stays k.0 k.1) (h.0, h.1, h.2, (h.3, h.4)) in (t.0, t.1, t.2, t.3.0, t.3.1)

module _ {A E O : Type 0} (m : Meaning A E O) (f : ℕ) (o : O) where
  -- a step of one seat that leaves the list
  pub changed : (serving after : ℕ) (log : List E) (seats : ℕ) (homes homes' : Homes A) (views : List (View E O)) → History m f o serving log seats homes views
      → (id : ℕ) (v w : View E O) → get_elem? views id ≡ some v → v.spent ≡ false → w.spent ≡ false → w.number ≡ v.number → w.olds ≡ v.olds
      → (Knows f o log v → Knows f o log w) → (Follows m.by log (itself v) → Follows m.by log (itself w)) → (v.seen ≡ log → w.seen ≡ log)
      → (length log ≤ after) ⊎ ((length log ≤ after + 1) × SomeMarked (set views id w))
      → ((a : A) → get_elem? homes' 0 ≡ some (some (Some a)) → (m.entries a ≡ log) × (m.from a ≡ f) × (m.origin a ≡ o))
      → History m f o after log seats homes' (set views id w)
  changed serving after log seats homes homes' views r id v w at live live' number olds knows follows stays room home = record {
    room = room;
    home = home;
    each = each_set (λ _ u. u.spent ≡ false → Knows f o log u) views id w (λ _. knows (r.each id v at live)) (λ j u _ at_j. r.each j u at_j);
    follows = each_set (λ _ u. All (Follows m.by log) (told u)) views id w
        (let before = r.follows id v at in retold (Follows m.by log) (Follows m.by log) v w live live' olds (follows (All-head (Follows m.by log) (itself v) v.olds (subst (All (Follows m.by log)) (told_live v live) before))) (λ _ k. k) before)
        (λ j u _ at_j. r.follows j u at_j);
    seen = some_set (λ u. HasSeen log (told u)) views id v w at (seen_stays log v w live live' olds stays) r.seen;
    numbers = same_numbers seats views r.numbers id v w at (λ n. same_holders n v w live live' number olds);
    whose = r.whose;
  }

  -- what a live seat has seen and has added
  pub follows_of : (serving : ℕ) (log : List E) (seats : ℕ) (homes : Homes A) (views : List (View E O)) → History m f o serving log seats homes views
      → (id : ℕ) (v : View E O) → get_elem? views id ≡ some v → v.spent ≡ false → Follows m.by log (itself v)
  follows_of serving log seats homes views r id v at live = All-head (Follows m.by log) (itself v) v.olds (subst (All (Follows m.by log)) (told_live v live) (r.follows id v at))

  -- the step that adds an entry
  pub grown : (serving ticket : ℕ) (log : List E) (seats : ℕ) (homes : Homes A) (views : List (View E O)) → Turns serving ticket homes views → History m f o serving log seats homes views
      → (id : ℕ) (v : View E O) (e : E) → get_elem? views id ≡ some v → v.spent ≡ false → v.inside ≡ true → v.marked ≡ false → v.seen ≡ log → m.by e ≡ v.number
      → History m f o serving (log ++ e ∷ []) seats homes (set views id (marked e v))
  grown serving ticket log seats homes views turns r id v e at live in_v unmarked all mine = let w = marked e v in let on = (turns.sits id v at).served in_v in
      let longer : length (log ++ e ∷ []) ≡ length log + 1 = length-append log (e ∷ []) in
      let other_out : (j : ℕ) (u : View E O) → j ≢ id → get_elem? views j ≡ some u → u.inside ≡ true → ⊥ = λ j u other at_j in_u. other (alone serving ticket homes views turns j id u v at_j at in_u on) in
      let fits : length log ≤ serving = ⊎_elim (λ (h : length log ≤ serving). h)
      (λ (h : (length log ≤ serving + 1) × SomeMarked views). let some_one = h.1 in let same : some_one.0 ≡ id = alone serving ticket homes views turns some_one.0 id some_one.1 v some_one.2 at some_one.3 on in
      let it : some_one.1 ≡ v = some-injective some_one.1 v (sym some_one.2 ∙ (ap (get_elem? views) same ∙ at)) in
      let t_f : true ≡ false = sym some_one.4 ∙ (ap (λ (x : View E O). x.marked) it ∙ unmarked) in absurd cc) r.room in
      let all' : v.seen ++ e ∷ [] ≡ log ++ e ∷ [] = ap (λ l. l ++ e ∷ []) all in
      let follow : (t : Old E) → (t.number ≢ v.number) × Follows m.by log t → Follows m.by (log ++ e ∷ []) t =
      λ t k. (prefix_longer t.seen log (e ∷ []) k.1.0, k.1.1 ∙ sym (own_same m.by t.number log e (λ same. k.0 (sym same ∙ mine)))) in
      let pair : (ts : List (Old E)) → All (λ (t : Old E). t.number ≢ v.number) ts → All (Follows m.by log) ts → All (Follows m.by (log ++ e ∷ [])) ts =
      λ ts x y. All-weaker (λ (t : Old E). (t.number ≢ v.number) × Follows m.by log t) (Follows m.by (log ++ e ∷ [])) follow ts (λ k d lt. (x k d lt, y k d lt)) in
      let number = named seats views r.numbers id v at live in record {
        room = inr (omega arith, (id, w, set_there views id v w at, in_v, refl));
        home = λ a here. let gone : some none ≡ some (some (Some a)) = sym (turns.out id v at in_v) ∙ here in absurd (some-ne-none (Some a) (sym (some-injective none (some (Some a)) gone)));
        each = each_set (λ _ u. u.spent ≡ false → Knows f o (log ++ e ∷ []) u) views id w
            (λ _. let k = r.each id v at live in record { looks = rising_longer f (f + length log) (f + length (log ++ e ∷ [])) v.looks (omega arith) k.looks; origin = k.origin; first = k.first; held = λ _. all' })
            (λ j u other at_j alive. let k = r.each j u at_j alive in record { looks = rising_longer f (f + length log) (f + length (log ++ e ∷ [])) u.looks (omega arith) k.looks; origin = k.origin; first = k.first; held = λ in_u. absurd (other_out j u other at_j in_u) });
        follows = each_set (λ _ u. All (Follows m.by (log ++ e ∷ [])) (told u)) views id w
            (let before : All (Follows m.by log) (itself v ∷ v.olds) = subst (All (Follows m.by log)) (told_live v live) (r.follows id v at) in let mine_was = All-head (Follows m.by log) (itself v) v.olds before in
            subst (All (Follows m.by (log ++ e ∷ []))) (sym (told_live w live)) (All-cons (Follows m.by (log ++ e ∷ [])) (itself w) v.olds
            (subst (λ l. IsPrefix l (log ++ e ∷ [])) (sym all') (prefix_self (log ++ e ∷ [])), ap (λ l. l ++ e ∷ []) mine_was.1 ∙ sym (own_more m.by v.number log e mine))
            (pair v.olds (apart_olds seats views r.numbers id v at live) (All-tail (Follows m.by log) (itself v) v.olds before))))
            (λ j u other at_j. pair (told u) (apart_told seats views r.numbers id j v u other at at_j live) (r.follows j u at_j));
        seen = (id, w, set_there views id v w at, subst (HasSeen (log ++ e ∷ [])) (sym (told_live w live)) (inl all'));
        numbers = same_numbers seats views r.numbers id v w at (λ n. same_holders n v w live live refl refl);
        whose = All-push (λ x. (0 < m.by x) × (m.by x ≤ seats)) log e r.whose (omega (arith, number.0), omega (arith, number.1));
      }
