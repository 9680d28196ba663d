-- The line that a session is told in place of a row, where a line of its input asks for nothing.

use Rattle.std.specs.Prelude.{ℕ, List, ◌++◌, codes}
use Rattle.timing_defs.specs.declared.codes.Code.{Code}
use Rattle.timing_defs.specs.Codes.{code_text}
use Rattle.timing_defs.specs.Output.{line, word, number}

-- what is wrong with a line, and its number in the input, from 1
abbrev pub error_text : Code → ℕ → List ℕ
error_text code at = line (codes "error" ++ word (code_text code) ++ number at)
