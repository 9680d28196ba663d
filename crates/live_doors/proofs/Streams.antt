-- What writes in a row do to the bytes that a writer holds.
use Rattle.std.proofs.Common.{◌≡◌, ℕ, ◌+◌, le_refl, ◌-◌, List, ◌++◌, None, Some, sym, ap, ◌∙◌, length, take, drop, append_assoc, subst}
use Rattle.std.proofs.Math.Seq.{take-add}
use Rattle.std.proofs.lemmas.List.{take_rest, take_all}
use Rattle.std.specs.declared.option.Option.{Option}
use Rattle.std.specs.Io.KnownBytes.{Appends}
use Rattle.sta_outside.specs.Sink.{AppendsPrefix}

-- the first bytes of a piece were written, and then more of what is left of it
pub written_more : (a b c : Option (List ℕ)) (piece : List ℕ) (at count : ℕ) → Appends a b (take at piece) → Appends b c (take count (take (length piece - at) (drop at piece))) → Appends a c (take (at + count) piece)
written_more None b c piece at count first second = tt
written_more (Some x) None c piece at count first second = absurd first
written_more (Some x) (Some y) None piece at count first second = absurd second
written_more (Some x) (Some y) (Some z) piece at count first second =
    second ∙ ap (λ l. y ++ take count l) (take_rest piece at)
    ∙ ap (λ l. l ++ take count (drop at piece)) first
    ∙ append_assoc x (take at piece) (take count (drop at piece))
    ∙ ap (λ l. x ++ l) (sym (take-add at count piece))

-- all of a piece is a prefix of it
pub all_taken : (piece : List ℕ) → take (length piece) piece ≡ piece
all_taken piece = take_all (length piece) piece (le_refl (length piece))

pub all_written : (a b : Option (List ℕ)) (piece : List ℕ) → Appends a b piece → Appends a b (take (length piece) piece)
all_written a b piece whole = subst (Appends a b) (sym (all_taken piece)) whole

pub part_told : (before after : List ℕ) (count : ℕ) (piece : List ℕ) → after ≡ before ++ take count piece → AppendsPrefix (Some before) (Some after) piece
part_told before after count piece is = (count, is)
