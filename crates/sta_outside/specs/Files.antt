-- What reading to one byte past the limit answers.
use Rattle.std.specs.Prelude.{◌≡◌, ℕ, ◌+◌, ◌≤◌, List, length, IfSome, ⊤}
use Rattle.std.specs.declared.option.Option.{Option}
use Rattle.sta_outside.specs.Shelf.{document_limit}
use Rattle.sta_outside.specs.declared.shelf.Fetch.{Fetch}
use Rattle.sta_outside.specs.declared.shelf.Fetch.TheVariants.{Failed, Absent, TooLong, Memory}

-- where a source's bytes are known, the document is all of them
abbrev pub AllOf : Option (List ℕ) → List ℕ → Type 0
AllOf source doc = IfSome source (λ bytes. bytes ≡ doc)

-- a fault of one read: the source failed, or want of memory
abbrev pub IsReadFault : Fetch → Type 0
IsReadFault Failed = ⊤
IsReadFault Absent = ⊥
IsReadFault (TooLong seen) = ⊥
IsReadFault Memory = ⊤

-- a source that is too long was read to one byte past the limit, and has that many bytes where they are known
abbrev pub StopsPastLimit : Fetch → Option (List ℕ) → Type 0
StopsPastLimit Failed source = ⊤
StopsPastLimit Absent source = ⊥
StopsPastLimit (TooLong seen) source = (seen ≡ document_limit + 1) × IfSome source (λ bytes. seen ≤ length bytes)
StopsPastLimit Memory source = ⊤
