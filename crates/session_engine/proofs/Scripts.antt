-- Scripts that can be run, by two tests of their commands.

use Rattle.std.proofs.Common.{◌≡◌, Bool, true, List, [], ◌∷◌, refl}
use Rattle.std.specs.List.{list_all}
use Rattle.std.proofs.lemmas.Bool.{and_parts}
use Rattle.timing_defs.specs.declared.scripts.Command.{Command}
use Rattle.session_engine.specs.Running.{is_runnable}

-- commands that pass both tests can be run, where each such command can
pub runnable_all : (p q : Command → Bool) → ((c : Command) → p c ≡ true → q c ≡ true → is_runnable c ≡ true)
    → (commands : List Command) → list_all p commands ≡ true → list_all q commands ≡ true → list_all is_runnable commands ≡ true
runnable_all p q each [] h k = refl
runnable_all p q each (c ∷ commands) h k =
    let a = and_parts (p c) (list_all p commands) h in
    let b = and_parts (q c) (list_all q commands) k in
    let here : is_runnable c ≡ true = each c a.0 b.0 in
    rw here (runnable_all p q each commands a.1 b.1)
