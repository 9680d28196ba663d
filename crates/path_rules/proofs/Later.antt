-- A rule after one exception more.
use Rattle.std.proofs.Common.{◌≡◌, ℕ, ◌+◌, ◌<◌, Bool, true, false, not, ◌&&◌, ◌||◌, List, [], ◌∷◌, ◌++◌, length, get_or, take, Option, None, refl, ap, sym, ◌∙◌, inl, inr}
use Rattle.std.specs.Prelude.{if◌then◌else◌}
use Rattle.std.specs.List.{list_any}
use Rattle.std.specs.Option.{unwrap_or}
use Rattle.std.proofs.lemmas.Bool.{cases_Bool}
use Rattle.std.proofs.lemmas.List.{take_more}
use Rattle.std.proofs.lemmas.List.Folds.{list_any_more}
use Rattle.timing_defs.specs.declared.kinds.Kind.{Kind}
use Rattle.timing_defs.specs.declared.kinds.Kind.TheVariants.{Setup, Hold}
use Rattle.timing_defs.specs.declared.constraints.Constraints.{Constraints}
use Rattle.timing_defs.specs.declared.constraints.Exception.{Exception}
use Rattle.timing_defs.specs.declared.rows.Launch.{Launch}
use Rattle.timing_defs.specs.declared.rows.Capture.{Capture}
use Rattle.timing_rules.specs.Rules.{applies, removes, cycles_in, last_some}
use Rattle.path_rules.specs.declared.overrides.Rule.{Rule}
use Rattle.path_rules.specs.Exceptions.{after, after_effect}

-- one value more of a list: the last that is there wins
last_push : {X : Type 0} (f : X → Option ℕ) (n : ℕ) (xs : List X) (x : X) → last_some f n (xs ++ x ∷ []) ≡ unwrap_or (f x) (last_some f n xs)
last_push f n [] x = refl
last_push f n (y ∷ xs) x = last_push f (unwrap_or (f y) n) xs x

abbrev pub tested_by : Constraints → Kind → Launch → Capture → List Exception → Bool
tested_by c kind launch capture xs = not (list_any (λ x. removes kind x.effect && applies c launch capture x) xs)

abbrev pub cycles_by : Constraints → Kind → ℕ → Launch → Capture → List Exception → ℕ
cycles_by c kind n launch capture xs = last_some (λ x. if applies c launch capture x then cycles_in kind x.effect else None) n xs

-- the rule that some exceptions make
abbrev pub rule_by : Constraints → Launch → Capture → List Exception → Rule
rule_by c launch capture xs = record {
  setup_tested = tested_by c Setup launch capture xs;
  hold_tested = tested_by c Hold launch capture xs;
  setup_cycles = cycles_by c Setup 1 launch capture xs;
  hold_cycles = cycles_by c Hold 0 launch capture xs;
}

not-or : (a b : Bool) → not (a || b) ≡ (not a && not b)
not-or true b = refl
not-or false b = refl

and-right : (a : Bool) → (a && true) ≡ a
and-right true = refl
and-right false = refl

tested_more : (c : Constraints) (kind : Kind) (launch : Launch) (capture : Capture) (xs : List Exception) (i : ℕ) (d : Exception) → i < length xs
    → tested_by c kind launch capture (take (i + 1) xs) ≡ (tested_by c kind launch capture (take i xs) && not (removes kind ((get_or xs i d).effect) && applies c launch capture (get_or xs i d)))
tested_more c kind launch capture xs i d low =
    ap not (list_any_more (λ x. removes kind x.effect && applies c launch capture x) xs i d low)
    ∙ not-or (list_any (λ x. removes kind x.effect && applies c launch capture x) (take i xs)) (removes kind ((get_or xs i d).effect) && applies c launch capture (get_or xs i d))

cycles_more : (c : Constraints) (kind : Kind) (n : ℕ) (launch : Launch) (capture : Capture) (xs : List Exception) (i : ℕ) (d : Exception) → i < length xs
    → cycles_by c kind n launch capture (take (i + 1) xs) ≡ unwrap_or (if applies c launch capture (get_or xs i d) then cycles_in kind ((get_or xs i d).effect) else None) (cycles_by c kind n launch capture (take i xs))
cycles_more c kind n launch capture xs i d low =
    ap (last_some (λ x. if applies c launch capture x then cycles_in kind x.effect else None) n) (take_more xs i d low)
    ∙ last_push (λ x. if applies c launch capture x then cycles_in kind x.effect else None) n (take i xs) (get_or xs i d)

and-none : (a : Bool) → (a && false) ≡ false
and-none true = refl
and-none false = refl

same_fields : (a a' b b' : Bool) (m m' n n' : ℕ) → a ≡ a' → b ≡ b' → m ≡ m' → n ≡ n' → (λ (r : Rule). r) (record { setup_tested = a; hold_tested = b; setup_cycles = m; hold_cycles = n }) ≡ record { setup_tested = a'; hold_tested = b'; setup_cycles = m'; hold_cycles = n' }
same_fields a a' b b' m m' n n' p q r s =
    ap (λ (x : Bool). (λ (w : Rule). w) (record { setup_tested = x; hold_tested = b; setup_cycles = m; hold_cycles = n })) p
    ∙ ap (λ (x : Bool). (λ (w : Rule). w) (record { setup_tested = a'; hold_tested = x; setup_cycles = m; hold_cycles = n })) q
    ∙ ap (λ (x : ℕ). (λ (w : Rule). w) (record { setup_tested = a'; hold_tested = b'; setup_cycles = x; hold_cycles = n })) r
    ∙ ap (λ (x : ℕ). (λ (w : Rule). w) (record { setup_tested = a'; hold_tested = b'; setup_cycles = m'; hold_cycles = x })) s

module _ (c : Constraints) (launch : Launch) (capture : Capture) (xs : List Exception) (i : ℕ) (x : Exception) (low : i < length xs) (is : x ≡ get_or xs i x) where
  tested_here : (kind : Kind) → applies c launch capture x ≡ true
      → tested_by c kind launch capture (take (i + 1) xs) ≡ (tested_by c kind launch capture (take i xs) && not (removes kind x.effect))
  tested_here kind here =
      tested_more c kind launch capture xs i x low
      ∙ ap (λ (y : Exception). tested_by c kind launch capture (take i xs) && not (removes kind y.effect && applies c launch capture y)) (sym is)
      ∙ ap (λ b. tested_by c kind launch capture (take i xs) && not (removes kind x.effect && b)) here
      ∙ ap (λ b. tested_by c kind launch capture (take i xs) && not b) (and-right (removes kind x.effect))

  tested_else : (kind : Kind) → applies c launch capture x ≡ false
      → tested_by c kind launch capture (take (i + 1) xs) ≡ tested_by c kind launch capture (take i xs)
  tested_else kind none =
      tested_more c kind launch capture xs i x low
      ∙ ap (λ (y : Exception). tested_by c kind launch capture (take i xs) && not (removes kind y.effect && applies c launch capture y)) (sym is)
      ∙ ap (λ b. tested_by c kind launch capture (take i xs) && not (removes kind x.effect && b)) none
      ∙ ap (λ b. tested_by c kind launch capture (take i xs) && not b) (and-none (removes kind x.effect))
      ∙ and-right (tested_by c kind launch capture (take i xs))

  cycles_here : (kind : Kind) (n : ℕ) → applies c launch capture x ≡ true
      → cycles_by c kind n launch capture (take (i + 1) xs) ≡ unwrap_or (cycles_in kind x.effect) (cycles_by c kind n launch capture (take i xs))
  cycles_here kind n here =
      cycles_more c kind n launch capture xs i x low
      ∙ ap (λ (y : Exception). unwrap_or (if applies c launch capture y then cycles_in kind y.effect else None) (cycles_by c kind n launch capture (take i xs))) (sym is)
      ∙ ap (λ b. unwrap_or (if b then cycles_in kind x.effect else None) (cycles_by c kind n launch capture (take i xs))) here

  cycles_else : (kind : Kind) (n : ℕ) → applies c launch capture x ≡ false
      → cycles_by c kind n launch capture (take (i + 1) xs) ≡ cycles_by c kind n launch capture (take i xs)
  cycles_else kind n none =
      cycles_more c kind n launch capture xs i x low
      ∙ ap (λ (y : Exception). unwrap_or (if applies c launch capture y then cycles_in kind y.effect else None) (cycles_by c kind n launch capture (take i xs))) (sym is)
      ∙ ap (λ b. unwrap_or (if b then cycles_in kind x.effect else None) (cycles_by c kind n launch capture (take i xs))) none

  -- one exception more
  pub rule_more : (found found' : Rule) → found ≡ rule_by c launch capture (take i xs) → found' ≡ after c launch capture found x
      → found' ≡ rule_by c launch capture (take (i + 1) xs)
  rule_more found found' e f =
      f ∙ ap (λ (r : Rule). after c launch capture r x) e
      ∙ elim (cases_Bool (applies c launch capture x)) [
        | inl here ↦
            (let first : after c launch capture (rule_by c launch capture (take i xs)) x ≡ after_effect (rule_by c launch capture (take i xs)) x.effect = rw here refl in
            first ∙ same_fields _ _ _ _ _ _ _ _ (sym (tested_here Setup here)) (sym (tested_here Hold here)) (sym (cycles_here Setup 1 here)) (sym (cycles_here Hold 0 here)))
        | inr none ↦
            (let first : after c launch capture (rule_by c launch capture (take i xs)) x ≡ rule_by c launch capture (take i xs) = rw none refl in
            first ∙ same_fields _ _ _ _ _ _ _ _ (sym (tested_else Setup none)) (sym (tested_else Hold none)) (sym (cycles_else Setup 1 none)) (sym (cycles_else Hold 0 none)))
      ]
