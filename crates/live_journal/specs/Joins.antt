-- The law of the text of blocks of one entry each.
use Rattle.std.proofs.Common.{◌≡◌, ℕ, ◌+◌, List, [], ◌∷◌, ◌++◌, length, sym, ap, ◌∙◌, arith, append_assoc}
use Rattle.timing_defs.specs.declared.constraints.Derates.{Derates}
use Rattle.timing_defs.specs.declared.edits.Entry.{Entry}
use Rattle.timing_defs.specs.Saved.{block_text}
use Rattle.eco_journal.specs.Blocks.{blocks_text}
use Rattle.live_journal.specs.Desk.{single}

-- blocks of one entry each, one behind another
pub single_joins : (d : Derates) (n : ℕ) (xs ys : List Entry)
    → blocks_text d n (single (xs ++ ys)) ≡ blocks_text d n (single xs) ++ blocks_text d (n + length xs) (single ys)
single_joins d n [] ys = let same : n ≡ n + length {A = Entry} [] = omega arith in ap (λ m. blocks_text d m (single ys)) same
single_joins d n (e ∷ es) ys =
    let here = n + length (e ∷ []) in
    let same : here + length es ≡ n + length (e ∷ es) = omega arith in
    ap (λ w. block_text n d (e ∷ []) ++ w) (single_joins d here es ys ∙ ap (λ m. blocks_text d here (single es) ++ blocks_text d m (single ys)) same)
    ∙ sym (append_assoc (block_text n d (e ∷ [])) (blocks_text d here (single es)) (blocks_text d (n + length (e ∷ es)) (single ys)))
