-- Values that are written one after the other, up to the first that is an error.
use Rattle.std.specs.Prelude.{◌≡◌, ℕ, ◌+◌, ◌-◌, ◌<◌, ◌≤◌, List, [], ◌∷◌, length, set, get_or, drop, None, Some, Result, Ok, Err, refl}
use Rattle.std.proofs.Common.{arith, sym, ap, ◌∙◌}
use Rattle.std.proofs.lemmas.List.{drop_more, drop_all}
use Rattle.cow_table.specs.Writes.{put_at, written, first_refused}
use Rattle.cow_table.proofs.Writing.{at_place, written_next, written_none}

module _ {A E : Type 0} where
  -- an error is the first
  pub refused_now : (values rest : List (Result A E)) (value : Result A E) (e : E) → values ≡ value ∷ rest → value ≡ Err e → Some e ≡ first_refused values
  unfolding first_refused
  refused_now values rest value e first err =
      sym (ap first_refused first ∙ ap (λ (v : Result A E). first_refused (v ∷ rest)) err)

  -- a value that is there is passed by
  pub refused_later : (values rest : List (Result A E)) (value : Result A E) (v : A) → values ≡ value ∷ rest → value ≡ Ok v → first_refused rest ≡ first_refused values
  unfolding first_refused
  refused_later values rest value v first ok =
      sym (ap first_refused first ∙ ap (λ (r : Result A E). first_refused (r ∷ rest)) ok)

  -- one value more is written
  pub moved_step : (items items' : List A) (places : List ℕ) (values rest : List (Result A E)) (i place : ℕ) (value : Result A E) (v : A)
      → values ≡ value ∷ rest → value ≡ Ok v → i < length places → place ≡ get_or places i place → items' ≡ set items place v
      → written 0 items' (drop (i + 1) places) rest ≡ written 0 items (drop i places) values
  moved_step items items' places values rest i place value v first ok low p e =
      let bare : place ≡ place - 0 = omega arith in
      let put : items' ≡ put_at 0 items place (Ok v) = e ∙ ap (λ k. set items k v) bare ∙ at_place 0 items place (Ok v) v refl (omega arith) in
      let from : drop i places ≡ place ∷ drop (i + 1) places = drop_more places i place low ∙ ap (λ q. q ∷ drop (i + 1) places) (sym p) in
      written_next 0 items items' place (drop (i + 1) places) (Ok v) rest put
      ∙ ap (λ l. written 0 items l (Ok v ∷ rest)) (sym from)
      ∙ ap (λ (r : Result A E). written 0 items (drop i places) (r ∷ rest)) (sym ok)
      ∙ ap (λ l. written 0 items (drop i places) l) (sym first)

  -- at the end no value is left
  pub moved_end : (items whole : List A) (rest : List (Result A E)) (places : List ℕ) (i : ℕ) → length rest ≡ 0 → i + length rest ≡ length places
      → written 0 items (drop i places) rest ≡ whole → items ≡ whole
  moved_end items whole rest places i end past e =
      let all : length places ≤ i = omega (arith, past, end) in
      sym (written_none 0 items rest) ∙ ap (λ l. written 0 items l rest) (sym (drop_all i places all)) ∙ e

  -- no error is among no values
  pub none_refused : (values : List (Result A E)) → length values ≡ 0 → None ≡ first_refused values
  unfolding first_refused
  none_refused [] e = refl
  none_refused (v ∷ values) e = absurd (omega (arith, e))
