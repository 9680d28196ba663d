-- Lists of required times: the edges on which a node has them, and which of them leave their limit.

use Rattle.std.proofs.Common.{◌≡◌, ℕ, ◌+◌, ◌<◌, ℤ, pos, Bool, true, false, not, List, [], ◌∷◌, ◌++◌, map, filter, take, length, get_or, Option, None, Some, refl, sym, ap, ◌∙◌, inl, inr, arith}
use Rattle.std.specs.Prelude.{Contains, is_some, option_map, ◌||◌, if◌then◌else◌}
use Rattle.std.specs.List.{list_all, list_any, filter_map, cons_option}
use Rattle.std.specs.Option.{option_to_list}
use Rattle.std.proofs.lemmas.Bool.{cases_Bool, and_from}
use Rattle.std.proofs.lemmas.List.{take_more, take_all}
use Rattle.std.proofs.lemmas.List.Elements.{All-contains_itself}
use Rattle.sta_units.specs.Numbers.{is_within}
use Rattle.timing_defs.specs.declared.kinds.Tran.{Tran}
use Rattle.timing_defs.specs.declared.kinds.Tran.TheVariants.{Rise}
use Rattle.timing_defs.specs.declared.edge_times.EdgeTime.{EdgeTime}
use Rattle.timing_rules.specs.Rows.{edge_time}
use Rattle.timing_rules.specs.Range.{within_some}
use Rattle.timing_rules.proofs.RowLaws.{first_in, later_in}
use Rattle.node_rows.specs.Evaluation.{times_on, are_wide_times}
use Rattle.timing_defs.proofs.Members.{in_map, any_in}
use Rattle.required_engine.specs.declared.unfit.Unfit.{Unfit}
use Rattle.required_engine.specs.declared.unfit.Unfit.TheVariants.{Range, Memory}
use Rattle.required_engine.specs.Behinds.{edge_of}
use Rattle.required_engine.specs.Worked.{IsUnfit}

-- the edges of times
pub edges_kept : (a : ℕ × Tran → Option ℤ) (edges : List (ℕ × Tran)) → map edge_of (filter_map (λ e. option_map (edge_time e) (a e)) edges) ≡ filter (λ e. is_some (a e)) edges
edges_kept a [] = refl
edges_kept a (e ∷ es) = by (a e) refl (edges_kept a es)
  where
    by : (o : Option ℤ) → a e ≡ o → map edge_of (filter_map (λ e. option_map (edge_time e) (a e)) es) ≡ filter (λ e. is_some (a e)) es
        → map edge_of (filter_map (λ e. option_map (edge_time e) (a e)) (e ∷ es)) ≡ filter (λ e. is_some (a e)) (e ∷ es)
    by None f rest = rw f rest
    by (Some t) f rest = rw f (ap (λ xs. e ∷ xs) rest)

pub filter_agree : {X : Type 0} (p q : X → Bool) (xs : List X) → ((x : X) → Contains xs x → p x ≡ q x) → filter p xs ≡ filter q xs
filter_agree p q [] same = refl
filter_agree p q (x ∷ xs) same = elim (cases_Bool (p x)) [
  | inl h ↦
      let k : q x ≡ true = sym (same x (first_in x xs)) ∙ h in
      rw (h, k) (ap (λ ys. x ∷ ys) (filter_agree p q xs (λ y c. same y (later_in x xs y c))))
  | inr h ↦
      let k : q x ≡ false = sym (same x (first_in x xs)) ∙ h in
      rw (h, k) (filter_agree p q xs (λ y c. same y (later_in x xs y c)))
]

-- over the edges that pass a test: the times, and whether one leaves its limit
pub times_kept : (p : ℕ × Tran → Bool) (r : ℕ × Tran → Option ℤ) (edges : List (ℕ × Tran))
    → filter_map (λ e. option_map (edge_time e) (r e)) (filter p edges) ≡ filter_map (λ e. option_map (edge_time e) (if p e then r e else None)) edges
times_kept p r [] = refl
times_kept p r (e ∷ es) = elim (cases_Bool (p e)) [
  | inl h ↦ rw h (ap (cons_option (option_map (edge_time e) (r e))) (times_kept p r es))
  | inr h ↦ rw h (times_kept p r es)
]

pub wide_kept : (p : ℕ × Tran → Bool) (r : ℕ × Tran → Option ℤ) (edges : List (ℕ × Tran))
    → list_any (λ e. not (within_some (r e))) (filter p edges) ≡ list_any (λ e. not (within_some (if p e then r e else None))) edges
wide_kept p r [] = refl
wide_kept p r (e ∷ es) = elim (cases_Bool (p e)) [
  | inl h ↦ rw h (ap (λ b. not (within_some (r e)) || b) (wide_kept p r es))
  | inr h ↦ rw h (wide_kept p r es)
]

pub any_agree_in : {X : Type 0} (p q : X → Bool) (xs : List X) → ((x : X) → Contains xs x → p x ≡ q x) → list_any p xs ≡ list_any q xs
any_agree_in p q [] same = refl
any_agree_in p q (x ∷ xs) same =
    ap (λ b. b || list_any p xs) (same x (first_in x xs)) ∙ ap (λ b. q x || b) (any_agree_in p q xs (λ y c. same y (later_in x xs y c)))

-- times that are each within their limit
abbrev pub is_near : EdgeTime → Bool
is_near t = is_within t.time.0

pub all_near : (a : ℕ × Tran → Option ℤ) (edges : List (ℕ × Tran)) → ((e : ℕ × Tran) → Contains edges e → within_some (a e) ≡ true)
    → list_all is_near (filter_map (λ e. option_map (edge_time e) (a e)) edges) ≡ true
all_near a [] each = refl
all_near a (e ∷ es) each = by (a e) refl (all_near a es (λ x c. each x (later_in e es x c)))
  where
    by : (o : Option ℤ) → a e ≡ o → list_all is_near (filter_map (λ x. option_map (edge_time x) (a x)) es) ≡ true
        → list_all is_near (filter_map (λ x. option_map (edge_time x) (a x)) (e ∷ es)) ≡ true
    by None f rest = rw f rest
    by (Some t) f rest =
        rw f (and_from (is_within t) (list_all is_near (filter_map (λ x. option_map (edge_time x) (a x)) es))
        (ap within_some (sym f) ∙ each e (first_in e es)) rest)

-- while the times of arrivals are found one by one
times_last : (f : ℕ × Tran → Option ℤ) (xs : List EdgeTime) (t : EdgeTime)
    → times_on f (map edge_of (xs ++ t ∷ [])) ≡ times_on f (map edge_of xs) ++ option_to_list (option_map (edge_time (edge_of t)) (f (edge_of t)))
times_last f [] t = by (option_map (edge_time (edge_of t)) (f (edge_of t)))
  where
    by : (o : Option EdgeTime) → cons_option o [] ≡ option_to_list o
    by None = refl
    by (Some x) = refl
times_last f (x ∷ xs) t =
    ap (cons_option (option_map (edge_time (edge_of x)) (f (edge_of x)))) (times_last f xs t)
    ∙ by (option_map (edge_time (edge_of x)) (f (edge_of x))) (times_on f (map edge_of xs)) (option_to_list (option_map (edge_time (edge_of t)) (f (edge_of t))))
  where
    by : (o : Option EdgeTime) (ys zs : List EdgeTime) → cons_option o (ys ++ zs) ≡ cons_option o ys ++ zs
    by None ys zs = refl
    by (Some y) ys zs = refl

wide_last : (f : ℕ × Tran → Option ℤ) (xs : List EdgeTime) (t : EdgeTime)
    → are_wide_times f (map edge_of (xs ++ t ∷ [])) ≡ (are_wide_times f (map edge_of xs) || not (within_some (f (edge_of t))))
wide_last f [] t = by (not (within_some (f (edge_of t))))
  where
    by : (b : Bool) → (b || false) ≡ (false || b)
    by true = refl
    by false = refl
wide_last f (x ∷ xs) t =
    ap (λ b. not (within_some (f (edge_of x))) || b) (wide_last f xs t)
    ∙ by (not (within_some (f (edge_of x)))) (are_wide_times f (map edge_of xs)) (not (within_some (f (edge_of t))))
  where
    by : (a b c : Bool) → (a || (b || c)) ≡ ((a || b) || c)
    by true b c = refl
    by false b c = refl

pub record AreTimed (f : ℕ × Tran → Option ℤ) (arrived : List EdgeTime) (times : List EdgeTime) (i : ℕ) : Type 0 where
  pub told : times ≡ times_on f (map edge_of (take i arrived))
  pub near : are_wide_times f (map edge_of (take i arrived)) ≡ false

pub none_timed : (f : ℕ × Tran → Option ℤ) (arrived times : List EdgeTime) → times ≡ [] → AreTimed f arrived times 0
none_timed f arrived times e = record { told = e; near = refl }

-- what stands past the end of a list
abbrev pub no_edge : EdgeTime
no_edge = record { clock = 0; tran = Rise; time = record { 0 = pos 0 } }

module _ (f : ℕ × Tran → Option ℤ) (arrived times : List EdgeTime) (i : ℕ) (d : EdgeTime) (low : i < length arrived) where
  abbrev at : EdgeTime
  at = get_or arrived i d

  pub timed : (next : List EdgeTime) → AreTimed f arrived times i → next ≡ times ++ option_to_list (option_map (edge_time (edge_of at)) (f (edge_of at)))
      → within_some (f (edge_of at)) ≡ true → AreTimed f arrived next (i + 1)
  timed next had e fine = record {
    told = e ∙ ap (λ ts. ts ++ option_to_list (option_map (edge_time (edge_of at)) (f (edge_of at)))) had.told
        ∙ sym (ap (λ xs. times_on f (map edge_of xs)) (take_more arrived i d low) ∙ times_last f (take i arrived) at);
    near = ap (λ xs. are_wide_times f (map edge_of xs)) (take_more arrived i d low) ∙ wide_last f (take i arrived) at
        ∙ both (are_wide_times f (map edge_of (take i arrived))) (within_some (f (edge_of at))) had.near fine;
  }
    where
      both : (a b : Bool) → a ≡ false → b ≡ true → (a || not b) ≡ false
      both a b g h = rw (g, h) refl

pub wide_at : (f : ℕ × Tran → Option ℤ) (arrived : List EdgeTime) (i : ℕ) (d : EdgeTime) → i < length arrived
    → not (within_some (f (edge_of (get_or arrived i d)))) ≡ true → are_wide_times f (map edge_of arrived) ≡ true
wide_at f arrived i d low wide =
    any_in (λ edge. not (within_some (f edge))) (map edge_of arrived) (edge_of (get_or arrived i d)) (in_map edge_of arrived (get_or arrived i d) there) wide
  where
    there : Contains arrived (get_or arrived i d)
    there = All-contains_itself arrived i d low

pub all_timed : (f : ℕ × Tran → Option ℤ) (arrived times : List EdgeTime) → AreTimed f arrived times (length arrived)
    → (times ≡ times_on f (map edge_of arrived)) × (are_wide_times f (map edge_of arrived) ≡ false)
all_timed f arrived times had = (
  had.told ∙ ap (λ xs. times_on f (map edge_of xs)) (take_all (length arrived) arrived (omega arith)),
  sym (ap (λ xs. are_wide_times f (map edge_of xs)) (take_all (length arrived) arrived (omega arith))) ∙ had.near,
)

pub unfit_if : (a b : Bool) (u : Unfit) → (a ≡ true → b ≡ true) → IsUnfit a u → IsUnfit b u
unfit_if a b Range more h = more h
unfit_if a b Memory more h = tt
