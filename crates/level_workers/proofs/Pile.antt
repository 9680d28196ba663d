-- Runs in a list.
use Rattle.std.proofs.Common.{◌≡◌, ℕ, ◌≤◌, List, [], ◌∷◌, ◌++◌, length, take, sym, subst, ◌∙◌, Some, arith}
use Rattle.std.specs.List.Sorted.{IsPermutation}
use Rattle.std.proofs.lemmas.List.Sorted.{All-permutation}
use Rattle.std.proofs.lemmas.List.Elements.{All-append, All-push, All-pop, All-same, All-head, All-tail}
use Rattle.level_workers.specs.Mapped.{IsMap}
use Rattle.level_workers.specs.Parts.{IsMapOf, AreRuns}
use Rattle.level_workers.specs.declared.runs.Run.{Run}
use Rattle.level_workers.proofs.Joins.{of-next}

module _ {I R : Type 0} (gives : I → R → Type 0) (items : List I) where
  -- the run has the results of its items
  abbrev HasItems : Run R → Type 0
  HasItems run = IsMapOf gives items run.from run.to run.results

  -- the results of the items before a place, and the runs that are left
  abbrev pub IsFar : ℕ → List R → List (Run R) → Type 0
  IsFar at rs runs = (at ≤ length items) × IsMap gives (take at items) rs × AreRuns gives items runs

  -- the last run, with more
  pub runs-longer : (runs left : List (Run R)) (last it : Run R) (all : List (Run R)) → runs ≡ left ++ last ∷ []
      → AreRuns gives items runs → IsMapOf gives items it.from it.to it.results → all ≡ left ++ it ∷ [] → AreRuns gives items all
  runs-longer runs left last it all e are is a =
      let rest = All-pop HasItems runs left (Some last) e are in
      rw a (All-push HasItems left it rest.0 is)

  -- the last run again, and one more
  pub runs-more : (runs left mid : List (Run R)) (last it : Run R) (all : List (Run R)) → runs ≡ left ++ last ∷ []
      → mid ≡ left ++ last ∷ [] → AreRuns gives items runs → IsMapOf gives items it.from it.to it.results
      → all ≡ mid ++ it ∷ [] → AreRuns gives items all
  runs-more runs left mid last it all e m are is a =
      rw a (All-push HasItems mid it (All-same HasItems mid runs (m ∙ sym e) are) is)

  -- two lists of runs end to end
  pub runs-both : (front back all : List (Run R)) → AreRuns gives items front → AreRuns gives items back → all ≡ front ++ back
      → AreRuns gives items all
  runs-both front back all p q e = rw e (All-append HasItems front back p q)

  -- no results yet, and the runs in any order
  pub far-start : (runs sorted left : List (Run R)) (rs : List R) → IsPermutation runs sorted → left ≡ sorted → rs ≡ []
      → AreRuns gives items runs → IsFar 0 rs left
  far-start runs sorted left rs p e none are =
      let low : 0 ≤ length items = omega arith in
      let nothing : IsMap gives (take 0 items) rs = rw none tt in
      let all = All-permutation HasItems runs sorted p are in
      (low, nothing, All-same HasItems left sorted e all)

  -- a run that goes on where the results end
  pub far-more : (at : ℕ) (rs all : List R) (runs left : List (Run R)) (run : Run R) → runs ≡ run ∷ left → run.from ≡ at
      → all ≡ rs ++ run.results → IsFar at rs runs → IsFar run.to all left
  far-more at rs all runs left run e here a far =
      let both = All-same HasItems (run ∷ left) runs (sym e) far.2 in
      let first = All-head HasItems run left both in
      let this : IsMapOf gives items at run.to run.results = subst (λ (n : ℕ). IsMapOf gives items n run.to run.results) here first in
      let results = of-next gives items at run.to rs run.results all far.1 this a in
      (this.1, results, All-tail HasItems run left both)

  -- a run that is passed over
  pub far-same : (at : ℕ) (rs : List R) (runs left : List (Run R)) (run : Run R) → runs ≡ run ∷ left → IsFar at rs runs
      → IsFar at rs left
  far-same at rs runs left run e far =
      (far.0, far.1, All-tail HasItems run left (All-same HasItems (run ∷ left) runs (sym e) far.2))
