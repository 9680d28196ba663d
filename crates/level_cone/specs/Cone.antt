-- How an update goes over the nodes that an edit affects, level by level, over any rows.

use Rattle.std.specs.Prelude.{◌≡◌, ℕ, ◌<◌, ◌≤◌, ◌==◌, ◌&&◌, ◌||◌, Bool, false, not, nat_lt, List, [], ◌∷◌, All, slice_set}
use Rattle.std.specs.List.{list_any, count_by, range_with_len}

-- Nodes are the numbers below a count. Each has a level, nodes before it (its fan-in, or its fan-out where the
-- pass goes back), and two rows: before an edit and after it. `seed` tells the nodes that the edit touches,
-- `differs` at least those whose row changes.
pub record Cone (R : Type 0) : Type 0 where
  pub count : ℕ
  pub level : ℕ → ℕ
  pub fan : ℕ → List ℕ
  pub seed : ℕ → Bool
  pub differs : ℕ → Bool
  pub was : ℕ → R
  pub now : ℕ → R

-- a node waits at a level as one of these, each of which waits at its own
abbrev pub stands_in : (ℕ → ℕ) → List ℕ → ℕ → ℕ → Bool
stands_in level nodes k n = list_any (λ y. (level y == k) && (y == n)) nodes

module _ {R : Type 0} (c : Cone R) where
  -- a node is affected where it is touched or a node before it differs
  abbrev pub affected : ℕ → Bool
  affected n = c.seed n || list_any c.differs (c.fan n)

  -- the same, as far as the nodes below a level tell
  abbrev pub reached : ℕ → ℕ → Bool
  reached l n = c.seed n || list_any (λ m. nat_lt (c.level m) l && c.differs m) (c.fan n)

  -- how many nodes are affected
  abbrev pub affected_count : ℕ
  affected_count = count_by affected (range_with_len 0 c.count)

  -- how many nodes below a level are affected
  abbrev pub affected_below : ℕ → ℕ
  affected_below l = count_by (λ n. nat_lt (c.level n) l && affected n) (range_with_len 0 c.count)

  -- a node is before `n`, differs, and is among some
  abbrev pub marked : List ℕ → ℕ → Bool
  marked nodes n = list_any (λ m. c.differs m && list_any (λ y. y == m) (c.fan n)) nodes

  -- what a turn marks: the nodes behind those of its nodes that differ, each at its own level
  abbrev pub marks : (ℕ → List ℕ) → List ℕ → ℕ → ℕ → Bool
  marks outs nodes k n = list_any (λ m. c.differs m && stands_in c.level (outs m) k n) nodes

  -- levels rise from the nodes before; a node that is not affected keeps its row, and does not differ
  pub record IsCone : Type 0 where
    pub low : (n : ℕ) → n < c.count → All (λ m. m < c.count) (c.fan n)
    pub rising : (n : ℕ) → n < c.count → All (λ m. c.level m < c.level n) (c.fan n)
    pub calm : (n : ℕ) → n < c.count → affected n ≡ false → c.was n ≡ c.now n
    pub still : (n : ℕ) → n < c.count → affected n ≡ false → c.differs n ≡ false

  -- lists of the nodes behind each node: the turned round lists of those before
  pub record AreOuts (outs : ℕ → List ℕ) : Type 0 where
    pub low : (m : ℕ) → m < c.count → All (λ n. n < c.count) (outs m)
    pub back : (m n : ℕ) → m < c.count → n < c.count → list_any (λ y. y == n) (outs m) ≡ list_any (λ y. y == m) (c.fan n)

  -- Before level `l`: rows below it are those after the edit, the others those before it; what is reached so far
  -- waits, each at its own level; and each affected node below it was counted once.
  pub record IsCut (l : ℕ) (row : ℕ → R) (waiting : ℕ → ℕ → Bool) (ticks : ℕ) : Type 0 where
    pub below : (n : ℕ) → n < c.count → c.level n < l → row n ≡ c.now n
    pub above : (n : ℕ) → n < c.count → l ≤ c.level n → row n ≡ c.was n
    pub flagged : (k n : ℕ) → waiting k n ≡ (nat_lt n c.count && ((c.level n == k) && (not (nat_lt k l) && reached l n)))
    pub counted : ticks ≡ affected_below l

  -- a pass is before some level
  abbrev pub IsPass : (ℕ → R) → (ℕ → ℕ → Bool) → ℕ → Type 0
  IsPass row waiting ticks = (l : ℕ) × IsCut l row waiting ticks

-- rows that are put to their places in turn
abbrev pub put_all : {R : Type 0} → List R → List ℕ → List R → List R
put_all rows [] news = rows
put_all rows (n ∷ nodes) [] = rows
put_all rows (n ∷ nodes) (r ∷ news) = put_all (slice_set rows n r) nodes news
