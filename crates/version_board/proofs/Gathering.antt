-- Seats that are made one after another, and one seat that takes in all others, the last first.
use Rattle.std.proofs.Common.{◌≡◌, ◌≢◌, ℕ, zero, suc, ◌+◌, ◌<◌, ◌==◌, false, cond, List, [], ◌∷◌, ◌++◌, length, map, reverse, sym, refl, ap, ◌∙◌, subst, arith, append_assoc, IfSome, slice_get, ne_eqb}
use mathlib.Core.Logic.{dite}
use mathlib.Core.List.{map-append}
use native.Mathlib.Decide.{ℕ_discrete}
use Rattle.std.specs.List.{All, Contains, count_by, sum_by}
use Rattle.std.proofs.lemmas.List.{reverse-append}
use Rattle.std.proofs.lemmas.List.Elements.{All-head, All-tail, All-cons, All-nil, All-push}
use Rattle.std.proofs.lemmas.List.Sums.{sum_by-cons, sum_by-append}
use Rattle.std.proofs.lemmas.Grind.{reverse_onto}
use Rattle.version_board.specs.declared.views.View.{View}
use Rattle.version_board.specs.declared.views.Old.{Old}
use Rattle.version_board.specs.History.{itself, told, holders, Follows}
use Rattle.version_board.specs.Seats.{joined}
use Rattle.version_board.specs.Callers.{Sitting, AgreesWith, number}
use Rattle.version_board.specs.Gathered.{tells}
use Rattle.version_board.proofs.HistoryKept.{told_live}
use Rattle.version_board.proofs.SeatsKept.{joined_told}

-- a fact of each place, after one more
pub more_at : {X : Type 0} (P : ℕ → X → Type 0) (xs : List X) (x : X) → ((k : ℕ) → k < length xs → IfSome (slice_get xs k) (P k)) → P (length xs) x
    → (k : ℕ) → k < length xs + 1 → IfSome (slice_get (xs ++ x ∷ []) k) (P k)
more_at P [] x old here zero lt = here
more_at P [] x old here (suc k) lt = absurd (omega arith)
more_at P (y ∷ ys) x old here zero lt = old zero (omega arith)
more_at {X} P (y ∷ ys) x old here (suc k) lt = let Q : ℕ → X → Type 0 = λ j. P (suc j) in let here' : P (suc (length ys)) x = subst (λ n. P n x) (omega arith) here in
    more_at Q ys x (λ j l. old (suc j) (omega arith)) here' k (omega arith)

module _ {X : Type 0} where
  all_reversed : (P : X → Type 0) (xs : List X) → All P xs → All P (reverse xs)
  all_reversed P [] h = h
  all_reversed P (x ∷ xs) h = subst (All P) (sym (reverse_onto xs x [])) (All-push P (reverse xs) x (all_reversed P xs (All-tail P x xs h)) (All-head P x xs h))

  sum_reversed : (f : X → ℕ) (xs : List X) → sum_by f (reverse xs) ≡ sum_by f xs
  sum_reversed f [] = refl
  sum_reversed f (x ∷ xs) = let h = sum_reversed f xs in let s = sum_by-append f (reverse xs) (x ∷ []) in let t = sum_by-cons f x [] in let u = sum_by-cons f x xs in
      ap (sum_by f) (reverse_onto xs x []) ∙ omega (arith, h, s, t, u)

  all_unmapped : {Y : Type 0} (P : Y → Type 0) (f : X → Y) (xs : List X) → All P (map f xs) → All (λ x. P (f x)) xs
  all_unmapped P f [] h = All-nil (λ x. P (f x))
  all_unmapped P f (x ∷ xs) h = All-cons (λ y. P (f y)) x xs (All-head P (f x) (map f xs) h) (all_unmapped P f xs (All-tail P (f x) (map f xs) h))

module _ {E O : Type 0} where
  told_alone : (p : View E O) → p.spent ≡ false → p.olds ≡ [] → told p ≡ itself p ∷ []
  told_alone p live bare = told_live p live ∙ ap (λ ts. itself p ∷ ts) bare

  pub first_one : (xs ys : List (Sitting E O)) (s : Sitting E O) (p : View E O) → xs ≡ ys ++ s ∷ [] → p ≡ s.view → p.spent ≡ false → p.olds ≡ [] → map tells xs ≡ map tells ys ++ reverse (told p)
  first_one xs ys s p items is live bare = ap (map tells) items ∙ (map-append tells ys (s ∷ []) ∙ (ap (λ v. map tells ys ++ itself v ∷ []) (sym is) ∙ ap (λ ts. map tells ys ++ reverse ts) (sym (told_alone p live bare))))

  pub one_more : (all xs ys : List (Sitting E O)) (s : Sitting E O) (w p : View E O) → map tells all ≡ map tells xs ++ reverse (told w) → xs ≡ ys ++ s ∷ [] → p ≡ s.view
      → w.spent ≡ false → p.spent ≡ false → p.olds ≡ [] → map tells all ≡ map tells ys ++ reverse (told (joined w p))
  one_more all xs ys s w p before items is live live' bare = before ∙ (ap (λ ts. ts ++ reverse (told w)) (first_one xs ys s p items is live' bare)
      ∙ (append_assoc (map tells ys) (reverse (told p)) (reverse (told w)) ∙ ap (λ ts. map tells ys ++ ts) (sym (ap reverse (joined_told w p live live') ∙ reverse-append (told w) (told p)))))

  found : (n : ℕ) (xs : List (Sitting E O)) → count_by (λ (t : Old E). t.number == n) (map tells xs) ≢ 0 → Contains (map number xs) n
  found n [] h = absurd (h refl)
  found n (s ∷ xs) h = dite (ℕ_discrete s.view.number n) (λ e. (0, omega arith, e))
      (λ ne. let t = sum_by-cons (λ (t : Old E). cond (t.number == n) 1 0) (tells s) (map tells xs) in let miss : ◌≡◌ {A = ℕ} (cond (s.view.number == n) 1 0) 0 = ap (λ b. let k : ℕ = cond b 1 0 in k) (ne_eqb s.view.number n ne) in
      let k = found n xs (λ z. h (omega arith)) in let lt = k.1 in (suc k.0, omega arith, k.2))

  pub all_agree : (by : E → ℕ) (log : List E) (items : List (Sitting E O)) (v : View E O) → map tells items ≡ reverse (told v) → All (Follows by log) (told v) → All (AgreesWith by log) items
  all_agree by log items v told_all h = all_unmapped (Follows by log) tells items (subst (All (Follows by log)) (sym told_all) (all_reversed (Follows by log) (told v) h))

  pub contained : (items : List (Sitting E O)) (v : View E O) → map tells items ≡ reverse (told v) → (n : ℕ) → holders n v ≡ 1 → Contains (map number items) n
  contained items v told_all n one = let f : Old E → ℕ = λ t. cond (t.number == n) 1 0 in let same : sum_by f (map tells items) ≡ sum_by f (told v) = ap (sum_by f) told_all ∙ sum_reversed f (told v) in
      found n items (λ z. omega (arith, same, one, z))
