-- Which seats there are. A live view counts for one seat or more, and all live views count for all seats.
-- A view that another took in is spent. One view may make the next seat, and knows how many were made.
use Rattle.std.specs.Prelude.{◌≡◌, ℕ, ◌+◌, ◌-◌, ◌<◌, ◌≤◌, true, false, cond, List, [], ◌∷◌, ◌++◌, None}
use Rattle.std.specs.List.{count_by, sum_by}
use mathlib.Core.Option.{some}
use lib.ListN.{get_elem?}
use Rattle.version_board.specs.declared.views.View.{View}
use Rattle.version_board.specs.History.{itself}

module _ {E O : Type 0} where
  abbrev pub parts_of : View E O → ℕ
  parts_of v = cond v.spent 0 v.parts

  pub record Seats (all seats : ℕ) (views : List (View E O)) : Type 0 where
    pub parts : sum_by parts_of views ≡ all
    pub live : (i : ℕ) (v : View E O) → get_elem? views i ≡ some v → v.spent ≡ false → 0 < v.parts
    pub inside : (i : ℕ) (v : View E O) → get_elem? views i ≡ some v → v.inside ≡ true → v.spent ≡ false
    pub gone : (i : ℕ) (v : View E O) → get_elem? views i ≡ some v → v.spent ≡ true → v.olds ≡ []
    pub makers : count_by (λ v. v.maker) views ≤ 1
    pub made : (i : ℕ) (v : View E O) → get_elem? views i ≡ some v → v.maker ≡ true → v.made ≡ seats

  -- the seat that stays behind, where a maker makes the next one
  abbrev pub stays : View E O → View E O
  stays v = record v { parts = 1; maker = false }

  -- the next seat, which is the maker from then on
  abbrev pub comes : View E O → View E O
  comes v = record v {
    number = v.made + 1;
    turn = None;
    inside = false;
    marked = false;
    mine = [];
    looks = [];
    parts = v.parts - 1;
    maker = true;
    made = v.made + 1;
    olds = [];
  }

  -- the seat v after it took in w
  abbrev pub joined : View E O → View E O → View E O
  joined v w = record v { parts = v.parts + w.parts; maker = false; olds = v.olds ++ itself w ∷ w.olds }

  -- what is left of w
  abbrev pub spent : View E O
  spent = record {
    number = 0;
    turn = None;
    inside = false;
    marked = false;
    spent = true;
    held = [];
    seen = [];
    mine = [];
    looks = [];
    origin = None;
    first = 0;
    parts = 0;
    maker = false;
    made = 0;
    olds = [];
  }
