-- What a shelf in memory holds, and its exact answers.
use Rattle.std.specs.Prelude.{◌≡◌, ℕ, ◌<◌, ◌≤◌, List, Bool, true, false, length, map, zip, IsSomeAnd}
use Rattle.std.specs.String.{string_bytes}
use Rattle.std.specs.Vec.{vec_items}
use Rattle.std.specs.Global.{Vec}
use Rattle.std.specs.declared.option.Option.{Option}
use Rattle.std.specs.declared.option.Option.TheVariants.{None, Some}
use Rattle.std.specs.declared.result.Result.{Result}
use Rattle.std.specs.declared.result.Result.TheVariants.{Ok, Err}
use Rattle.sta_outside.specs.Shelf.{document_limit}
use Rattle.sta_outside.specs.declared.shelf.Fetch.{Fetch}
use Rattle.sta_outside.specs.declared.shelf.Fetch.TheVariants.{Failed, Absent, TooLong, Memory}
use Rattle.sta_outside.specs.declared.mem_shelf.MemShelf.{MemShelf}

-- the documents by name
abbrev pub documents : MemShelf → List (List ℕ × List ℕ)
documents s = zip (map string_bytes s.names.items) (map vec_items s.docs.items)

-- the answer of a call that a plan fails or not, where the map has this document or none
abbrev pub Answers : Result (Vec ℕ) Fetch → Bool → Option (List ℕ) → Type 0
Answers (Ok doc) fails found = (fails ≡ false) × (found ≡ Some doc.items) × (length doc.items ≤ document_limit)
Answers (Err Failed) fails found = fails ≡ true
Answers (Err Absent) fails found = (fails ≡ false) × (found ≡ None)
Answers (Err (TooLong seen)) fails found = (fails ≡ false) × IsSomeAnd found (λ bytes. (document_limit < length bytes) × (seen ≡ length bytes))
Answers (Err Memory) fails found = (fails ≡ false) × IsSomeAnd found (λ bytes. length bytes ≤ document_limit)
