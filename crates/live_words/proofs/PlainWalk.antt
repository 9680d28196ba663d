-- How `clap` goes over plain words: none is empty or begins with a hyphen.
use Rattle.std.proofs.Common.{◌≡◌, ℕ, false, List, [], ◌∷◌, refl}
use Rattle.std.specs.Prelude.{None}
use Rattle.std.specs.Option.{option_map_or}
use Rattle.clap.specs.Walk.{Rule, Text, Names, Walk, Waiting, idle, positional, Held, walked, to_positional, arg_by_index}
use Rattle.clap.specs.Simple.{Shape}
use Rattle.clap.specs.Faults.{walk_fault, turn_fault, positional_fault, stray_fault}
use Rattle.clap.proofs.OnLiterals.{clap_on_literals}
use Rattle.command_words.specs.Plain.{IsPlain}

-- where a walk stands between positional words
abbrev pub standing : Held → Waiting → ℕ → Walk
standing held waiting position = record { held = held; waiting = waiting; position = position; is_trailing = false; stopped = None }

-- a plain word goes to the next positional
pub word_idle : (c : List Rule) (word : Text) → IsPlain word → (held : Held) (position : ℕ)
    → walked c [] (standing held idle position) word ≡ to_positional c (arg_by_index c position) word (standing held idle position) held
unfolding clap_on_literals
word_idle c [] plain held position = absurd plain
word_idle c (b ∷ bs) plain held position = rw (plain, plain) refl

pub word_more : (c : List Rule) (word : Text) → IsPlain word → (held : Held) (position : ℕ)
    → walked c [] (standing held positional position) word ≡ to_positional c (arg_by_index c position) word (standing held positional position) held
unfolding clap_on_literals
word_more c [] plain held position = absurd plain
word_more c (b ∷ bs) plain held position = rw (plain, plain) refl

-- and is at fault only where the positional before it is, or none is left
pub turn_idle : (s : Shape) (word : Text) → IsPlain word → (held : Held) (position : ℕ)
    → option_map_or (λ a. positional_fault s.rules s.args_override_self a held) (arg_by_index s.rules position) (stray_fault s) ≡ []
    → turn_fault s [] (standing held idle position) word ≡ []
unfolding clap_on_literals
turn_idle s [] plain held position ok = absurd plain
turn_idle s (b ∷ bs) plain held position ok = rw (plain, plain, ok) refl

pub turn_more : (s : Shape) (word : Text) → IsPlain word → (held : Held) (position : ℕ)
    → option_map_or (λ a. positional_fault s.rules s.args_override_self a held) (arg_by_index s.rules position) (stray_fault s) ≡ []
    → turn_fault s [] (standing held positional position) word ≡ []
unfolding clap_on_literals
turn_more s [] plain held position ok = absurd plain
turn_more s (b ∷ bs) plain held position ok = rw (plain, plain, ok) refl

pub fault_behind : (s : Shape) (names : Names) (w : Walk) (word : Text) (rest : List Text)
    → turn_fault s names w word ≡ [] → walk_fault s names w (word ∷ rest) ≡ walk_fault s names (walked s.rules names w word) rest
unfolding walk_fault
fault_behind s names w word rest none = rw none refl
