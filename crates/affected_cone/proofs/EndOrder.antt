-- The endpoints of a store stand in the order of their numbers.

use Rattle.std.proofs.Common.{◌≡◌, ℕ, zero, suc, ◌<◌, ◌≤◌, List, [], ◌∷◌, length, get_or, sym, subst, arith}
use Rattle.std.proofs.lemmas.List.{get_or_default}
use Rattle.netlist_store.specs.Numbering.{Stored}
use Rattle.level_workers.specs.Mapped.{IsMap}
use Rattle.affected_cone.specs.declared.ends.EndSlacks.{EndSlacks}
use Rattle.affected_cone.specs.Analysed.{is_end, ends_of, IsEnd}
use Rattle.affected_cone.specs.Rising.{number_at, AreRising}
use Rattle.affected_cone.proofs.MapLaws.{item_of}
use Rattle.affected_cone.proofs.RisingLists.{Rises, rises}

module _ (s : Stored) where
  up : (ns : List ℕ) (ends : List EndSlacks) → Rises ns → IsMap (IsEnd s) ns ends → (i j : ℕ) (other : EndSlacks) → i ≤ j → j < length ends
      → number_at ends i other ≤ number_at ends j other
  up [] [] r m i j other order low = absurd (omega (arith, low))
  up [] (e ∷ ends) r m i j other order low = absurd m
  up (n ∷ ns) [] r m i j other order low = absurd m
  up (n ∷ ns) (e ∷ ends) r m zero zero other order low = omega arith
  up (n ∷ ns) (e ∷ ends) r m zero (suc j) other order low =
      let under : j < length ends = omega (arith, low) in
      let o = item_of (IsEnd s) ns ends m.1 (get_or ends j other) (j, under, get_or_default ends j (get_or ends j other) other under) in
      let above = r.0 o.item o.within in
      let mine = m.0.number in
      let theirs = o.gives.number in
      omega (arith, above, mine, theirs)
  up (n ∷ ns) (e ∷ ends) r m (suc i) zero other order low = absurd (omega (arith, order))
  up (n ∷ ns) (e ∷ ends) r m (suc i) (suc j) other order low = up ns ends r.1 m.1 i j other (omega (arith, order)) (omega (arith, low))

  pub ends_rise : (ends told : List EndSlacks) → told ≡ ends → IsMap (IsEnd s) (ends_of s) ends → AreRising told
  ends_rise ends told same m = record {
    rise = subst (λ (es : List EndSlacks). (i j : ℕ) (other : EndSlacks) → i ≤ j → j < length es → number_at es i other ≤ number_at es j other) (sym same)
        (up (ends_of s) ends (rises (is_end s) 0 (length s.pins)) m);
  }
