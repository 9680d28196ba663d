-- How the scripts of a run are read, one after the other.
use Rattle.std.proofs.Common.{◌≡◌, ℕ, ◌+◌, ◌-◌, ◌<◌, ◌≤◌, List, [], ◌∷◌, ◌++◌, Result, Ok, Err, length, take, drop, get_or, refl, sym, ap, ◌∙◌, subst, arith}
use Rattle.std.specs.Prelude.{IfOk, MatchResult}
use Rattle.std.proofs.Math.Numerals.{add-one}
use Rattle.std.proofs.Math.Seq.{drop-cons}
use Rattle.std.proofs.lemmas.List.{take_more, take_all, length-append}
use Rattle.std.proofs.lemmas.List.Elements.{All-nil, All-cons, All-append}
use Rattle.timing_defs.specs.declared.scripts.Script.{Script}
use Rattle.command_words.specs.Asked.{RunWords}
use Rattle.shell_core.specs.declared.documents.Role.TheVariants.{Session}
use Rattle.shell_core.specs.declared.documents.Stop.{Stop}
use Rattle.shell_core.specs.declared.documents.Stop.TheVariants.{Memory}
use Rattle.shell_core.specs.Scripts.{IsScript}
use Rattle.shell_core.specs.Documents.{Docs, name_of, script_sources, IsRead, Stops, Says, SaysScript, SayScripts}
use Rattle.shell_core.specs.Reading.{AreRead}
use Rattle.shell_core.proofs.ScriptLaws.{script_faultless}
use Rattle.shell_core.proofs.Stopping.{stops_first, stops_behind}

module _ (docs : Docs) where
  -- one more script behind others
  say_more : (names : List (List ℕ)) (name : List ℕ) (scripts : List Script) (script : Script) → SayScripts docs names scripts → Says docs name (SaysScript script)
      → SayScripts docs (names ++ name ∷ []) (scripts ++ script ∷ [])
  say_more [] name [] script said one = (one, tt)
  say_more [] name (s ∷ ss) script said one = absurd said
  say_more (n ∷ ns) name [] script said one = absurd said
  say_more (n ∷ ns) name (s ∷ ss) script said one = (said.0, say_more ns name ss script said.1 one)

module _ (docs : Docs) (run : RunWords) where
  pub read_none : AreRead docs run 0 []
  read_none = record { many = refl; said = tt; known = All-nil IsScript; stops = λ old new stop why. why }

  -- a script that was read is there, and without a fault
  script_there : (number : ℕ) (script : Script) → Says docs (name_of run (Session number)) (SaysScript script) → IsRead docs run (Session number)
  script_there number script said = (said.0, said.1, script_faultless said.0 script said.2)

  -- the first of those left
  next : (count : ℕ) → count < length run.scripts
      → script_sources (count + 1) (drop count run.scripts) ≡ Session (count + 1) ∷ script_sources (count + 1 + 1) (drop (count + 1) run.scripts)
  next count more =
      ap (script_sources (count + 1))
      (drop-cons run.scripts count [] more ∙ ap (λ n. get_or run.scripts count [] ∷ drop n run.scripts) (sym (add-one count)))

  pub stops_here : (count : ℕ) (scripts : List Script) (old new : ℕ) (stop : Stop) → AreRead docs run count scripts → count < length run.scripts
      → Stops docs run old new (Session (count + 1) ∷ []) stop → Stops docs run old new (script_sources 1 run.scripts) stop
  stops_here count scripts old new stop read more why =
      read.stops old new stop
      (subst (λ roles. Stops docs run old new roles stop) (sym (next count more))
      (stops_first docs run old new (Session (count + 1)) (script_sources (count + 1 + 1) (drop (count + 1) run.scripts)) stop why))

  read_more : (count : ℕ) (scripts : List Script) (script : Script) (all : List Script) → AreRead docs run count scripts → count < length run.scripts
      → Says docs (name_of run (Session (count + 1))) (SaysScript script) → IsScript script → all ≡ scripts ++ script ∷ [] → AreRead docs run (count + 1) all
  read_more count scripts script all read more said known same =
      let before : count + 1 - 1 ≡ count = omega arith in
      subst (AreRead docs run (count + 1)) (sym same)
      (record {
        many = length-append scripts (script ∷ []) ∙ ap (λ n. n + 1) read.many;
        said =
            subst (λ names. SayScripts docs names (scripts ++ script ∷ [])) (sym (take_more run.scripts count [] more))
            (say_more docs (take count run.scripts) (get_or run.scripts count []) scripts script read.said
            (subst (λ n. Says docs (get_or run.scripts n []) (SaysScript script)) before said));
        known = All-append IsScript scripts (script ∷ []) read.known (All-cons IsScript script [] known (All-nil IsScript));
        stops = λ old new stop why.
            read.stops old new stop
            (subst (λ roles. Stops docs run old new roles stop) (sym (next count more))
            (stops_behind docs run old new (Session (count + 1)) (script_sources (count + 1 + 1) (drop (count + 1) run.scripts)) stop
            (script_there (count + 1) script said) why));
      })

  -- the same of what gives one more, or wants memory
  pub read_joined : (count : ℕ) (scripts : List Script) (script : Script) (r : Result (List Script) Stop) (Quiet : Type 0) → AreRead docs run count scripts
      → count < length run.scripts → Says docs (name_of run (Session (count + 1))) (SaysScript script) → IsScript script
      → MatchResult r (λ all. all ≡ scripts ++ script ∷ []) (λ stop. stop ≡ Memory) → Quiet → IfOk r (λ got. AreRead docs run (count + 1) got × Quiet)
  read_joined count scripts script (Ok all) Quiet read more said known same quiet = (read_more count scripts script all read more said known same, quiet)
  read_joined count scripts script (Err stop) Quiet read more said known same quiet = tt

  pub all_said : (count : ℕ) (scripts : List Script) → AreRead docs run count scripts → length run.scripts ≤ count → SayScripts docs run.scripts scripts
  all_said count scripts read past = subst (λ names. SayScripts docs names scripts) (take_all count run.scripts past) read.said
