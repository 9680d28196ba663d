-- Levels by numbers are below the number of numbers.

use Rattle.std.proofs.Common.{◌≡◌, ℕ, suc, ◌+◌, ◌<◌, ◌==◌, List, map, filter, get_or, sym, subst, ◌∙◌, arith}
use Rattle.std.specs.List.{range_with_len}
use Rattle.std.proofs.lemmas.List.Elements.{All-contains}
use Rattle.std.proofs.lemmas.List.FromFn.{length-range_with_len}
use Rattle.levelizer.specs.declared.links.Link.{Link}
use Rattle.levelizer.specs.Levels.{greatest, fan_in, AreLevels, AreWithin}
use Rattle.pin_graph.specs.declared.arcs.GraphArc.{GraphArc}
use Rattle.pin_graph.specs.Kept.{AreTurned}
use Rattle.timing_defs.proofs.Members.{number_in, in_map_back, kept_in}
use Rattle.pin_graph.proofs.GraphRows.{greatest_at}
use Rattle.pin_graph.proofs.LevelBound.{level_low}

-- a table in which each number above 0 comes from one below
module _ (n : ℕ) (levels : List ℕ) (lower : (x k : ℕ) → x < n → get_or levels x 0 ≡ suc k → (y : ℕ) × ((y < n) × (get_or levels y 0 ≡ k))) where
  pub low_numbers : (x : ℕ) → x < n → get_or levels x 0 < n
  low_numbers x low =
      let short = level_low (range_with_len 0 n) (λ k. k < n) (λ k below. number_in n k below) (λ k. get_or levels k 0) lower x low in
      omega (arith, short, length-range_with_len 0 n)

-- levels of nodes
pub node_levels_low : (n : ℕ) (levels : List ℕ) (ins outs : ℕ → List GraphArc) → AreTurned n ins outs
    → ((node : ℕ) → node < n → get_or levels node 0 ≡ greatest (map (λ arc. get_or levels arc.from 0 + 1) (ins node)))
    → (node : ℕ) → node < n → get_or levels node 0 < n
node_levels_low n levels ins outs outward level = low_numbers n levels (λ x k low e.
    let r = greatest_at (λ (arc : GraphArc). get_or levels arc.from 0 + 1) (ins x) k (sym (level x low) ∙ e) in
    let h = outward.all x low r.0 r.1.0 in
    let same = r.1.1 in
    (r.0.from, (h.1, (let z : get_or levels r.0.from 0 ≡ k = omega (arith, same) in z))))

-- levels of pins
pub levels_low : (n : ℕ) (links : List Link) (levels : List ℕ) → AreWithin n links → AreLevels n links levels → (pin : ℕ) → pin < n → get_or levels pin 0 < n
levels_low n links levels within are = low_numbers n levels (λ x k low e.
    let r = greatest_at (λ (from : ℕ). get_or levels from 0 + 1) (fan_in links x) k (sym (are.level x low) ∙ e) in
    let m = in_map_back (λ (l : Link). l.from) (filter (λ l. l.to == x) links) r.0 r.1.0 in
    let h = All-contains (λ (l : Link). (l.from < n) × (l.to < n)) links m.item within (kept_in (λ (l : Link). l.to == x) links m.item m.within) in
    let same = r.1.1 in
    (r.0, (subst (λ (y : ℕ). y < n) m.same h.0, (let z : get_or levels r.0 0 ≡ k = omega (arith, same) in z))))
