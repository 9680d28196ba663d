-- The last bracket of a name, as it is read from the front.
use Rattle.std.proofs.Common.{◌≡◌, ℕ, zero, suc, ◌+◌, ◌<◌, ◌≤◌, true, false, List, [], ◌∷◌, ◌++◌, ◌==◌, length, take, drop, Option, None, Some, refl, sym, ap, subst, ◌∙◌, inl, inr, arith}
use Rattle.std.specs.Prelude.{if◌then◌else◌, MatchOption}
use Rattle.std.specs.List.{list_any}
use Rattle.std.proofs.lemmas.Bool.{cases_Bool, false≢true, or_parts, eqb-true}
use Rattle.verilog_netlist.specs.Late.{vector_of}

-- the place of the last bracket so far, and of the last one after all
abbrev pub bracket_from : ℕ → Option ℕ → List ℕ → Option ℕ
bracket_from n last [] = last
bracket_from n last (b ∷ bs) = bracket_from (n + 1) (if b == 91 then Some n else last) bs

none_later : (n : ℕ) (last : Option ℕ) (bs : List ℕ) → list_any (λ b. b == 91) bs ≡ false → bracket_from n last bs ≡ last
none_later n last [] h = refl
none_later n last (b ∷ bs) h =
    let k = or_parts (b == 91) (list_any (λ b. b == 91) bs) h in
    rw k.0 (none_later (n + 1) last bs k.1)

-- where there is a bracket, it stands behind the vector's name
record Parts (n : ℕ) (last : Option ℕ) (bs : List ℕ) : Type 0 where
  pub behind : List ℕ
  pub whole : vector_of bs ++ 91 ∷ behind ≡ bs
  pub place : bracket_from n last bs ≡ Some (n + length (vector_of bs))

parts : (n : ℕ) (last : Option ℕ) (bs : List ℕ) → list_any (λ b. b == 91) bs ≡ true → Parts n last bs
parts n last [] h = absurd (false≢true h)
parts n last (b ∷ bs) h = elim (cases_Bool (list_any (λ b. b == 91) bs)) [
  | inl e ↦
      let rest = parts (n + 1) (if b == 91 then Some n else last) bs e in
      record {
        behind = rest.behind;
        whole = rw e (ap (λ xs. b ∷ xs) rest.whole);
        place = rw e (rest.place ∙ ap Some (omega arith));
      }
  | inr e ↦ elim (cases_Bool (b == 91)) [
    | inl f ↦ record {
      behind = bs;
      whole = rw e (rw f (ap (λ x. x ∷ bs) (sym (eqb-true b 91 f))));
      place = rw e (rw f (none_later (n + 1) (Some n) bs e ∙ ap Some (omega arith)));
    }
    | inr f ↦ absurd (false≢true (sym (none f e) ∙ h))
  ]
]
  where
    none : (b == 91) ≡ false → list_any (λ b. b == 91) bs ≡ false → list_any (λ b. b == 91) (b ∷ bs) ≡ false
    none f e = rw (f, e) refl

take_before : (xs ys : List ℕ) → take (length xs) (xs ++ ys) ≡ xs
take_before [] ys = refl
take_before (x ∷ xs) ys = ap (λ zs. x ∷ zs) (take_before xs ys)

shorter : (xs : List ℕ) (y : ℕ) (ys : List ℕ) → length xs < length (xs ++ y ∷ ys)
shorter [] y ys = omega arith
shorter (x ∷ xs) y ys = let rest = shorter xs y ys in omega arith

found : (net : List ℕ) (last : Option ℕ) → last ≡ bracket_from 0 None net
    → MatchOption last (list_any (λ b. b == 91) net ≡ false) (λ at. (at < length net) × (take at net ≡ vector_of net))
found net last e = elim (cases_Bool (list_any (λ b. b == 91) net)) [
  | inl h ↦
      let p = parts 0 None net h in
      let place : last ≡ Some (length (vector_of net)) = e ∙ p.place ∙ ap Some (omega arith) in
      rw place (
        subst (λ xs. length (vector_of net) < length xs) p.whole (shorter (vector_of net) 91 p.behind),
        sym (ap (take (length (vector_of net))) p.whole) ∙ take_before (vector_of net) (91 ∷ p.behind),
      )
  | inr h ↦ let place : last ≡ None = e ∙ none_later 0 None net h in rw place h
]

drop_past : (net : List ℕ) (place : ℕ) → length net ≤ place → drop place net ≡ []
drop_past [] zero low = refl
drop_past [] (suc n) low = refl
drop_past (b ∷ bs) zero low = absurd (omega arith)
drop_past (b ∷ bs) (suc n) low = drop_past bs n (omega arith)

pub bracket_told : (net : List ℕ) (last : Option ℕ) (place : ℕ) → length net ≤ place → bracket_from place last (drop place net) ≡ bracket_from 0 None net
    → MatchOption last (list_any (λ b. b == 91) net ≡ false) (λ at. (at < length net) × (take at net ≡ vector_of net))
bracket_told net last place low e = found net last (sym (ap (bracket_from place last) (drop_past net place low)) ∙ e)
