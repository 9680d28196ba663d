-- The lowest offers on the launch edges of one clock more.

use Rattle.std.proofs.Common.{◌≡◌, ℕ, suc, ◌+◌, ◌<◌, List, [], ◌∷◌, ◌++◌, drop, length, get_or, Option, None, Some, refl, sym, ap, ◌∙◌, append_assoc, add-one, drop-cons}
use Rattle.std.specs.Prelude.{slice_get}
use Rattle.std.specs.List.{filter_map, cons_option}
use Rattle.std.specs.Option.{option_to_list}
use Rattle.std.proofs.Math.Seq.{drop-length}
use Rattle.std.proofs.lemmas.List.{append-nil}
use Rattle.timing_defs.specs.declared.constraints.Clock.{Clock}
use Rattle.timing_defs.specs.declared.edge_times.EdgeTime.{EdgeTime}
use Rattle.timing_defs.specs.declared.kinds.Tran.{Tran}
use Rattle.timing_defs.specs.declared.kinds.Tran.TheVariants.{Rise, Fall}
use Rattle.timing_rules.specs.Rows.{clock_edges}
use Rattle.path_search.proofs.ConeCourses.{past}

cons_is : (o : Option EdgeTime) (xs : List EdgeTime) → cons_option o xs ≡ option_to_list o ++ xs
cons_is None xs = refl
cons_is (Some x) xs = refl

module _ (f : ℕ × Tran → Option EdgeTime) (clocks : List Clock) (all : List EdgeTime) where
  cut : (i : ℕ) → i < length clocks → clock_edges i (drop i clocks) ≡ (i, Rise) ∷ (i, Fall) ∷ clock_edges (i + 1) (drop (i + 1) clocks)
  cut i low = by (slice_get clocks i) refl
    where
      by : (o : Option Clock) → slice_get clocks i ≡ o → clock_edges i (drop i clocks) ≡ (i, Rise) ∷ (i, Fall) ∷ clock_edges (i + 1) (drop (i + 1) clocks)
      by None e = absurd (past i clocks low e)
      by (Some c) e =
          ap (clock_edges i) (drop-cons clocks i c low)
          ∙ ap (λ j. (i, Rise) ∷ (i, Fall) ∷ clock_edges (i + 1) (drop j clocks)) (sym (add-one i))

  pub lows_more : (i : ℕ) → i < length clocks → (xs ys zs : List EdgeTime) → ys ≡ xs ++ option_to_list (f (i, Rise)) → zs ≡ ys ++ option_to_list (f (i, Fall))
      → xs ++ filter_map f (clock_edges i (drop i clocks)) ≡ all → zs ++ filter_map f (clock_edges (i + 1) (drop (i + 1) clocks)) ≡ all
  lows_more i low xs ys zs rise fall before =
      ap (λ ls. ls ++ filter_map f (clock_edges (i + 1) (drop (i + 1) clocks))) (fall ∙ ap (λ ls. ls ++ option_to_list (f (i, Fall))) rise)
      ∙ append_assoc (xs ++ option_to_list (f (i, Rise))) (option_to_list (f (i, Fall))) (filter_map f (clock_edges (i + 1) (drop (i + 1) clocks)))
      ∙ append_assoc xs (option_to_list (f (i, Rise))) (option_to_list (f (i, Fall)) ++ filter_map f (clock_edges (i + 1) (drop (i + 1) clocks)))
      ∙ ap (λ ls. xs ++ (option_to_list (f (i, Rise)) ++ ls)) (sym (cons_is (f (i, Fall)) (filter_map f (clock_edges (i + 1) (drop (i + 1) clocks)))))
      ∙ ap (λ ls. xs ++ ls) (sym (cons_is (f (i, Rise)) (cons_option (f (i, Fall)) (filter_map f (clock_edges (i + 1) (drop (i + 1) clocks))))))
      ∙ ap (λ es. xs ++ filter_map f es) (sym (cut i low))
      ∙ before

  pub lows_done : (i : ℕ) → i ≡ length clocks → (xs : List EdgeTime) → xs ++ filter_map f (clock_edges i (drop i clocks)) ≡ all → xs ≡ all
  lows_done i end xs before =
      sym (append-nil xs)
      ∙ ap (λ cs. xs ++ filter_map f (clock_edges i cs)) (sym (ap (λ n. drop n clocks) end ∙ drop-length clocks))
      ∙ before
