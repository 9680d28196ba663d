-- The seats of a board are made one after another.
use Rattle.std.proofs.Common.{◌≡◌, ℕ, true, false, [], Some, None}
use Rattle.version_board.specs.declared.views.View.{View}

-- the n-th seat, which makes the next one
pub record IsMaker {E O : Type 0} (f : ℕ) (o : O) (n : ℕ) (v : View E O) : Type 0 where
  pub spent : v.spent ≡ false
  pub turn : v.turn ≡ None
  pub inside : v.inside ≡ false
  pub marked : v.marked ≡ false
  pub maker : v.maker ≡ true
  pub number : v.number ≡ n
  pub made : v.made ≡ n
  pub first : v.first ≡ f
  pub origin : v.origin ≡ Some o
  pub seen : v.seen ≡ []
  pub mine : v.mine ≡ []
  pub looks : v.looks ≡ []
  pub olds : v.olds ≡ []
