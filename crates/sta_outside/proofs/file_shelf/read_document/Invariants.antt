use Rattle.std.proofs.Common.{◌≤◌, vec_len}
use Rattle.std.specs.Io.KnownBytes.{Consumes}
use Rattle.sta_outside.specs.Shelf.{document_limit}
use Rattle.sta_outside.proofs.file_shelf.read_document.Given as goal

-- the document so far is what the source gave
abbrev pub invariant-loop : goal.invariant-loop
invariant-loop g l =
    (vec_len l.doc ≤ document_limit) × Consumes (g.F.Read.remaining l.initial.source) (g.F.Read.remaining l.source) l.doc.items
