-- What a seat that took in all others knows of the last value.
use Rattle.std.specs.Prelude.{◌≡◌, ℕ}
use Rattle.std.specs.List.{All}
use Rattle.version_board.specs.declared.views.View.{View}
use Rattle.version_board.specs.History.{Meaning, told, holders, Follows}

-- each seat that it tells of has seen a beginning of the list and has its own entries, and each entry is of exactly one of them
abbrev pub Closes : {A E O : Type 0} → Meaning A E O → ℕ → O → View E O → A → Type 0
Closes m f o v a = (m.from a ≡ f) × (m.origin a ≡ o) × All (Follows m.by (m.entries a)) (told v) × All (λ e. holders (m.by e) v ≡ 1) (m.entries a)
