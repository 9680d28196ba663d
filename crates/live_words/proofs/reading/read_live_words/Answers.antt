use Rattle.std.proofs.Common.{◌≡◌, ◌≢◌, ◌∙◌, ap, sym, map, [], rules}
use Rattle.std.specs.Prelude.{List}
use Rattle.std.specs.String.{string_bytes}
use Rattle.clap.specs.Walk.{Text}
use Rattle.clap.specs.Simple.{App, app_of, is_simple, subcommand_rows_of}
use Rattle.clap.specs.Faults.{fault_of, is_simple_and_free}
use Rattle.clap.specs.Kinds.{HasKind}
use Rattle.clap.specs.Values.{kind_of}
use Rattle.clap.specs.declared.error.kind.ErrorKind.TheVariants.{OutOfMemory}
use Rattle.live_words.specs.Command.{lizdrog_app}
use Rattle.live_words.proofs.AppLemmas.{is_free, simple, matched, refused}
use Rattle.live_words.proofs.reading.read_live_words.Goals as goal

pub returns-in-Ok-clause-asked : goal.returns-in-Ok-clause-asked
returns-in-Ok-clause-asked c =
    let app : App = app_of c.in_ok-command.command in
    let words : List Text = map string_bytes c.args.words.now in
    let same : app ≡ lizdrog_app = c.in_ok-command.ensures in
    let parse = c.try_get_matches_from in
    let none : fault_of app words ≡ [] = rw c.in-Ok.is at (parse.ensures.kinds (ap is_simple_and_free same ∙ is_free)) in
    let rows = (rw c.in-Ok.is at parse.ensures.matches) (ap is_simple same ∙ simple) in
    c.in_ok-asked_of-in-Ok.ensures.asked ∙ matched app words (subcommand_rows_of c.in-Ok.matches) same none rows.1

pub returns : goal.returns
returns c =
    let app : App = app_of c.in_ok-command.command in
    let words : List Text = map string_bytes c.args.words.now in
    let same : app ≡ lizdrog_app = c.in_ok-command.ensures in
    let parse = c.try_get_matches_from in
    let has : HasKind (fault_of app words) c.in-Err.error = rw c.in-Err.is at (parse.ensures.kinds (ap is_simple_and_free same ∙ is_free)) in
    let other : kind_of c.in-Err.error ≢ OutOfMemory = search rules in
    record { asked = sym (refused app words c.in-Err.error same has other); ranges = tt }
