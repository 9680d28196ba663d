-- Names in turns, read as pairs from the front.
use Rattle.std.proofs.Common.{◌≡◌, List, [], ◌∷◌, ◌++◌, Some, None, map, refl, ap, sym, ◌∙◌, append_assoc, append-nil}
use Rattle.std.proofs.lemmas.List.{map-append}
use Rattle.std.specs.Prelude.{Option, option_map}
use Rattle.clap.specs.Walk.{Text}
use Rattle.live_words.specs.declared.asked.Pair.{Pair}
use Rattle.live_words.specs.Asked.{pair_words}
use Rattle.live_words.specs.Command.{pairs_of}
use Rattle.live_words.specs.Matched.{pairs_behind}

joined : (pairs : List (Text × Text)) (p : Text × Text) (found : Option (List (Text × Text)))
    → option_map (λ more. (pairs ++ p ∷ []) ++ more) found ≡ option_map (λ more. pairs ++ more) (option_map (λ more. p ∷ more) found)
joined pairs p None = refl
joined pairs p (Some more) = ap Some (append_assoc pairs (p ∷ []) more)

-- a pair more
pub pair_behind : (pairs : List (Text × Text)) (input output : Text) (names : List Text)
    → pairs_behind (pairs ++ (input, output) ∷ []) names ≡ pairs_behind pairs (input ∷ output ∷ names)
pair_behind pairs input output names = joined pairs (input, output) (pairs_of names)

-- no name is left
pub pairs_ended : (pairs : List (Text × Text)) → pairs_behind pairs [] ≡ Some pairs
pairs_ended pairs = ap Some (append-nil pairs)

-- no name is left, and a pair more, of pairs as they are kept
pub no_names : (pairs : List Pair) → Some (map pair_words pairs) ≡ pairs_behind (map pair_words pairs) []
no_names pairs = sym (pairs_ended (map pair_words pairs))

pub pair_more : (pairs more : List Pair) (p : Pair) (rest : List Text) (found : Option (List (Text × Text))) → more ≡ pairs ++ p ∷ []
    → found ≡ pairs_behind (map pair_words more) rest → found ≡ pairs_behind (map pair_words pairs) (p.input.now ∷ p.output.now ∷ rest)
pair_more pairs more p rest found is so =
    so ∙ ap (λ l. pairs_behind (map pair_words l) rest) is ∙ ap (λ l. pairs_behind l rest) (map-append pair_words pairs (p ∷ []))
    ∙ pair_behind (map pair_words pairs) p.input.now p.output.now rest
