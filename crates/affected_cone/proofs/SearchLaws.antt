-- The slacks of endpoints, found one by one.

use Rattle.std.proofs.Common.{◌≡◌, ℕ, true, List, [], ◌∷◌, length, Option, Some, Result, Ok, Err, refl, sym, subst, ◌∙◌}
use Rattle.std.specs.Prelude.{Contains, option_map, IfOk}
use Rattle.std.specs.List.{range_with_len}
use Rattle.sta_units.specs.declared.units.Fs.{Fs}
use Rattle.timing_defs.specs.declared.kinds.Kind.{Kind}
use Rattle.timing_defs.specs.declared.kinds.Kind.TheVariants.{Setup, Hold}
use Rattle.timing_rules.specs.Paths.{IsSlack}
use Rattle.netlist_store.specs.Numbering.{Stored, name_at}
use Rattle.level_workers.specs.Mapped.{IsMap}
use Rattle.timing_defs.proofs.Members.{some_is, first_in, later_in, passes_in}
use Rattle.affected_cone.specs.Analysed.{is_end, ends_of, slack_in, IsEnd}

-- the slacks that two searches give are those of the endpoint
pub end_told : (s : Stored) (pin : ℕ) (word : List ℕ) → name_at s.pins pin ≡ Some word → (setup hold : Option Fs) → IsSlack s.design Setup word (option_map (λ t. t.0) setup)
    → IsSlack s.design Hold word (option_map (λ t. t.0) hold) → IsEnd s pin (record { pin = pin; setup = setup; hold = hold })
end_told s pin word at setup hold a b = record { number = refl; slack = by }
  where
    by : (kind : Kind) (name : List ℕ) → name_at s.pins pin ≡ Some name → IsSlack s.design kind name (slack_in kind (record { pin = pin; setup = setup; hold = hold }))
    by Setup name e = subst (λ (w : List ℕ). IsSlack s.design Setup w (option_map (λ t. t.0) setup)) (some_is (sym at ∙ e)) a
    by Hold name e = subst (λ (w : List ℕ). IsSlack s.design Hold w (option_map (λ t. t.0) hold)) (some_is (sym at ∙ e)) b

pub is_listed_end : (s : Stored) (ends : List ℕ) → ends ≡ ends_of s → (n : ℕ) → Contains ends n → is_end s n ≡ true
is_listed_end s ends e n c = passes_in (is_end s) (range_with_len 0 (length s.pins)) n (subst (λ (xs : List ℕ). Contains xs n) e c)

pub map_weaker : {I R : Type 0} (P Q : I → R → Type 0) (xs : List I) (rs : List R) → ((x : I) → Contains xs x → (r : R) → P x r → Q x r) → IsMap P xs rs → IsMap Q xs rs
map_weaker P Q [] [] f m = tt
map_weaker P Q [] (r ∷ rs) f m = absurd m
map_weaker P Q (x ∷ xs) [] f m = absurd m
map_weaker P Q (x ∷ xs) (r ∷ rs) f m = (f x (first_in x xs) r m.0, map_weaker P Q xs rs (λ y c. f y (later_in x xs y c)) m.1)

pub ok_more : {T E : Type 0} {P Q : T → Type 0} (r : Result T E) → ((x : T) → P x → Q x) → IfOk r P → IfOk r Q
ok_more (Ok x) f h = f x h
ok_more (Err e) f h = tt
