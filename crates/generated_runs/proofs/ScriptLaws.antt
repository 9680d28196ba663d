-- The scripts of generated runs.
use Rattle.std.proofs.Common.{◌≡◌, ℕ, zero, suc, ◌+◌, ◌*◌, ◌/◌, ◌^◌, ◌%◌, ◌<◌, ◌≤◌, true, false, List, [], ◌∷◌, length, map, drop, get_or, refl, ap, sym, subst, ◌∙◌, arith, append_assoc}
use Rattle.std.specs.Prelude.{Result, Ok, Err, decimal, codes, ◌==◌, ◌++◌}
use Rattle.std.proofs.lemmas.List.Folds.{list_all-append}
use Rattle.eco_journal.proofs.NumbersBack.{decimal_graphic}
use Rattle.std.specs.List.{All, list_all}
use Rattle.std.proofs.lemmas.Bool.{cond_both}
use Rattle.std.proofs.lemmas.Nat.{mod_below}
use Rattle.std.proofs.lemmas.List.Elements.{All-nil, All-cons, All-head, All-tail}
use Rattle.std.proofs.lemmas.List.{drop_more, map-append}
use Rattle.script_reader.specs.Scripts.{script_of}
use Rattle.timing_defs.specs.Names.{is_name, is_graphic}
use Rattle.timing_defs.specs.declared.codes.ReadFault.{ReadFault}
use Rattle.timing_defs.specs.declared.reports.Query.TheVariants.{Wns}
use Rattle.timing_defs.specs.declared.kinds.Kind.TheVariants.{Setup}
use Rattle.timing_defs.specs.declared.scripts.Command.{Command}
use Rattle.timing_defs.specs.declared.scripts.Command.TheVariants.{Ask}
use Rattle.timing_defs.specs.declared.scripts.Script.{Script}
use Rattle.script_reader.specs.Answerable.{is_answerable}
use Rattle.shell_core.specs.Scripts.{IsScript, CanStand, has_looks}
use Rattle.design_maker.specs.Draws.{drawn, drawn_on, chosen}
use Rattle.design_maker.specs.Insts.{gate_name}
use Rattle.design_maker.specs.Sessions.{drawn_cell, resize, commands_from, scripts_from}
use Rattle.design_maker.specs.Written.{commands_text}
use Rattle.design_laws.specs.Scripts.{read_of, made_of}
use Rattle.generated_runs.specs.Generated.{IsFine}

-- scripts by what holds them
abbrev unmade : List (Result Script ReadFault) → List Script
unmade [] = []
unmade (Ok s ∷ rs) = s ∷ unmade rs
unmade (Err e ∷ rs) = unmade rs

unmade_made : (xs : List Script) → unmade (map made_of xs) ≡ xs
unmade_made [] = refl
unmade_made (x ∷ xs) = ap (λ ys. x ∷ ys) (unmade_made xs)

pub same_made : (xs ys : List Script) → map made_of xs ≡ map made_of ys → xs ≡ ys
same_made xs ys e = sym (unmade_made xs) ∙ ap unmade e ∙ unmade_made ys

abbrev head_or : {X : Type 0} → X → List X → X
head_or d [] = d
head_or d (x ∷ xs) = x

abbrev pub text_of : Script → List ℕ
text_of script = commands_text script.commands

pub all_fine : (scripts : List Script) → map read_of scripts ≡ map made_of scripts → All IsFine (map text_of scripts)
all_fine [] e = All-nil IsFine
all_fine (s ∷ ss) e =
    All-cons IsFine (text_of s) (map text_of ss) (s, ap (head_or (made_of s)) e) (all_fine ss (ap (λ xs. drop 1 xs) e))

-- the commands of a script
commands_look : (lane gates k x : ℕ) → list_all has_looks (commands_from lane gates k x) ≡ true
unfolding commands_from
commands_look lane gates zero x = refl
commands_look lane gates (suc k) x = commands_look lane gates k (drawn x)

commands_answer : (lane gates k x : ℕ) → list_all is_answerable (commands_from lane gates k x) ≡ true
unfolding commands_from
commands_answer lane gates zero x = refl
commands_answer lane gates (suc k) x = commands_answer lane gates k (drawn x)

commands_count : (lane gates k x : ℕ) → length (commands_from lane gates k x) ≡ 2 * k
unfolding commands_from
commands_count lane gates zero x = refl
commands_count lane gates (suc k) x = omega (arith, commands_count lane gates k (drawn x))

none_zero : (n : ℕ) → (suc n == 0) ≡ false
none_zero n = grind arith

gate_is_name : (lane n : ℕ) → lane < 2 ^ 64 → n < 2 ^ 64 → is_name (gate_name lane n) ≡ true
gate_is_name lane n a b =
    rw (none_zero (length (decimal lane ++ (95 ∷ decimal n))), list_all-append is_graphic (decimal lane) (95 ∷ decimal n), decimal_graphic lane a, decimal_graphic n b) refl

cell_is_name : (x : ℕ) → is_name (drawn_cell x) ≡ true
unfolding drawn_cell
cell_is_name x = cond_both (x / 2 ^ 16 % 2 == 1) (codes "AND2_X2") (codes "AND2_X1") (λ cell. is_name cell ≡ true) (λ _. refl) (λ _. refl)

commands_stand : (lane gates k x : ℕ) → lane < 2 ^ 64 → 0 < gates → gates < 2 ^ 32 → All CanStand (commands_from lane gates k x)
unfolding commands_from
commands_stand lane gates zero x low some few = All-nil CanStand
commands_stand lane gates (suc k) x low some few =
    let below : chosen (drawn x) gates < gates = mod_below (drawn x / 2 ^ 33) gates some in
    let name : is_name (gate_name lane (1 + chosen (drawn x) gates)) ≡ true = gate_is_name lane (1 + chosen (drawn x) gates) low (omega (arith, below, few)) in
    let more : List Command = commands_from lane gates k (drawn x) in
    All-cons CanStand (resize lane gates (drawn x)) (Ask (Wns Setup) ∷ more)
    (omega arith, omega arith, ((name, cell_is_name (drawn x)), tt))
    (All-cons CanStand (Ask (Wns Setup)) more tt (commands_stand lane gates k (drawn x) low some few))

pub scripts_kept : (lane more gates k x : ℕ) → lane + more ≤ 4 → 0 < gates → gates < 2 ^ 32 → k ≤ 5000 → All IsScript (scripts_from lane more gates k x)
unfolding scripts_from
scripts_kept lane zero gates k x low some few edits = All-nil IsScript
scripts_kept lane (suc more) gates k x low some few edits =
    All-cons IsScript (record { commands = commands_from lane gates k x }) (scripts_from (lane + 1) more gates k (drawn_on k x))
    (record {
      looks = commands_look lane gates k x;
      written = commands_stand lane gates k x (omega (arith, low)) some few;
      answerable = commands_answer lane gates k x;
      few = omega (arith, commands_count lane gates k x, edits);
    })
    (scripts_kept (lane + 1) more gates k (drawn_on k x) (omega (arith, low)) some few edits)

-- the text at a place, and those behind it
pub text_fine : (texts : List (List ℕ)) (i : ℕ) (x : List ℕ) → All IsFine (drop i texts) → i < length texts → x ≡ get_or texts i x → IsFine x
text_fine texts i x fine low is =
    subst IsFine (sym is) (All-head IsFine (get_or texts i x) (drop (i + 1) texts) (subst (All IsFine) (drop_more texts i x low) fine))

more_fine : (texts : List (List ℕ)) (i : ℕ) (x : List ℕ) → All IsFine (drop i texts) → i < length texts → All IsFine (drop (i + 1) texts)
more_fine texts i x fine low = All-tail IsFine (get_or texts i x) (drop (i + 1) texts) (subst (All IsFine) (drop_more texts i x low) fine)

-- what is read so far, and what the texts that are left say
pub record IsReading (texts : List (List ℕ)) (i : ℕ) (all : List Script) : Type 0 where
  pub read : map made_of all ++ map script_of (drop i texts) ≡ map script_of texts
  pub fine : All IsFine (drop i texts)

pub reading_more : (texts : List (List ℕ)) (i : ℕ) (x : List ℕ) (all : List Script) (s : Script) → IsReading texts i all → i < length texts → x ≡ get_or texts i x
    → script_of x ≡ Ok s → IsReading texts (i + 1) (all ++ s ∷ [])
reading_more texts i x all s old low is told =
    let rest : List (Result Script ReadFault) = map script_of (drop (i + 1) texts) in
    let here : script_of (get_or texts i x) ≡ Ok s = ap script_of (sym is) ∙ told in
    record {
      read =
          ap (λ m. m ++ rest) (map-append made_of all (s ∷ []))
          ∙ (append_assoc (map made_of all) (made_of s ∷ []) rest
          ∙ (ap (λ r. map made_of all ++ (r ∷ rest)) (sym here)
          ∙ (ap (λ ds. map made_of all ++ map script_of ds) (sym (drop_more texts i x low))
          ∙ old.read)));
      fine = more_fine texts i x old.fine low;
    }

reads : (scripts : List Script) → map script_of (map text_of scripts) ≡ map read_of scripts
reads [] = refl
reads (s ∷ ss) = ap (λ rs. read_of s ∷ rs) (reads ss)

pub scripts_same : (texts : List (List ℕ)) (found made : List Script) → texts ≡ map text_of made → map read_of made ≡ map made_of made
    → map script_of texts ≡ map made_of found → found ≡ made
scripts_same texts found made are law told =
    same_made found made (sym told ∙ (ap (map script_of) are ∙ (reads made ∙ law)))
