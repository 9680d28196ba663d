-- What is known of a plain command.
use Rattle.std.proofs.Common.{◌≡◌, ◌≢◌, ℕ, suc, Bool, true, false, not, sym, ◌∙◌, refl, ap, inl, inr, length, arith}
use Rattle.std.specs.Prelude.{Option, None, option_and_then, List, [], ◌∷◌, ◌==◌}
use Rattle.std.proofs.lemmas.Bool.{and_parts}
use Rattle.clap.specs.Walk.{Text, Row, is_empty}
use Rattle.clap.specs.Simple.{App, app_of, is_simple, subcommand_of}
use Rattle.clap.specs.Faults.{fault_of, is_simple_and_free}
use Rattle.clap.specs.Kinds.{Kinds, HasKind, IsAmong}
use Rattle.clap.specs.Values.{kind_of}
use Rattle.clap.specs.declared.error.Error.{Error}
use Rattle.clap.specs.declared.error.kind.ErrorKind.{ErrorKind}
use Rattle.clap.specs.declared.error.kind.ErrorKind.TheVariants.{OutOfMemory}
use Rattle.clap.proofs.OnLiterals.{clap_on_literals}
use Rattle.live_words.specs.Command.{lizdrog_app, asked_in, words_of}
use Rattle.clap.specs.declared.builder.command.Command.{Command}
use Rattle.clap.specs.declared.builder.command.Command.TheViews.{out-Command}

not_true : (b : Bool) → not b ≡ true → b ≡ false
not_true true h = sym h
not_true false h = refl

-- it has no global arguments
pub plain_local : (c : Command) → (app_of c).top.is_plain ≡ true → (out-Command c).has_globals ≡ false
plain_local c plain =
    let one = and_parts (is_empty (out-Command c).groups.items) _ plain in
    let two = and_parts (not (out-Command c).allow_external_subcommands) _ one.1 in
    let three = and_parts (not (out-Command c).has_globals) _ two.1 in
    not_true (out-Command c).has_globals three.0

-- the command is simple, and no argument has a rule on another
pub is_free : is_simple_and_free lizdrog_app ≡ true
unfolding clap_on_literals
is_free = refl

pub simple : is_simple lizdrog_app ≡ true
unfolding clap_on_literals
simple = refl

-- what matches ask for is what the words do
pub matched : (app : App) (words : List Text) (found : Option (Text × List Row)) → app ≡ lizdrog_app
    → fault_of app words ≡ [] → found ≡ subcommand_of app words → option_and_then asked_in found ≡ words_of words
unfolding words_of
matched app words found same none rows =
    let none_here : fault_of lizdrog_app words ≡ [] = ap (λ a. fault_of a words) (sym same) ∙ none in
    rw (none_here, rows, same) refl

no_zero : (n : ℕ) → (suc n == 0) ≡ false
no_zero n = grind arith

some_kind : (k : ErrorKind) (kinds : Kinds) → IsAmong k kinds → is_empty kinds ≡ false
some_kind k [] among = absurd among
some_kind k (x ∷ xs) among = no_zero (length xs)

-- words that are refused for another cause than memory ask for nothing
pub refused : (app : App) (words : List Text) (e : Error) → app ≡ lizdrog_app → HasKind (fault_of app words) e → kind_of e ≢ OutOfMemory → words_of words ≡ None
unfolding words_of
refused app words e same (inl wanting) not_wanting = absurd (not_wanting wanting)
refused app words e same (inr among) not_wanting =
    let some : is_empty (fault_of lizdrog_app words) ≡ false = ap (λ a. is_empty (fault_of a words)) (sym same) ∙ some_kind (kind_of e) (fault_of app words) among in
    rw some refl
