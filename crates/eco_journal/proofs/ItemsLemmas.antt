-- Words from a place on, and items behind a flawed word.
use Rattle.std.proofs.Common.{◌≡◌, ◌+◌, ◌<◌, ◌≤◌, ℕ, zero, suc, List, [], ◌∷◌, length, get_or, drop, map, refl, arith}
use Rattle.std.proofs.lemmas.Grind.{common_steps}
use Rattle.eco_journal.specs.declared.lines.Span.{Span}
use Rattle.eco_journal.specs.Lines.{part_of}
use Rattle.std.specs.Prelude.{Err}
use Rattle.eco_journal.specs.declared.stops.Stop.{Stop}
use Rattle.eco_journal.specs.Items.{ItemWords, with_items}

pub stopped : (stop : Stop) (items : List ItemWords) → with_items (Err stop) items ≡ Err stop
unfolding with_items
stopped stop [] = refl
stopped stop (i ∷ is) = stopped stop is

-- the words from a place on are the word there and those behind it
pub word_and_rest : (k : ℕ) (words : List Span) (d : Span) → k < length words
    → drop k (map part_of words) ≡ part_of (get_or words k d) ∷ drop (k + 1) (map part_of words)
word_and_rest k [] d h = grind arith
word_and_rest zero (w ∷ ws) d h = refl
word_and_rest (suc k) (w ∷ ws) d h = grind (arith, common_steps, word_and_rest k ws d)

-- from the end on there is no word
pub no_word : (k : ℕ) (words : List Span) → length words ≤ k → drop k (map part_of words) ≡ []
no_word k [] h = grind (arith, common_steps)
no_word zero (w ∷ ws) h = grind arith
no_word (suc k) (w ∷ ws) h = grind (arith, common_steps, no_word k ws)
