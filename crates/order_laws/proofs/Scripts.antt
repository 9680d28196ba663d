-- A whole journal with as many entries as its scripts have ECOs: where the ECOs of different sessions commute,
-- the scripts one behind the other give its last design.
use Rattle.std.proofs.Common.{◌≡◌, ℕ, ◌+◌, ◌≤◌, List, [], ◌∷◌, ◌++◌, map, length, Ok, refl, sym, ap, ap₂, ◌∙◌, arith, length-append}
use Rattle.std.specs.List.{AllByRecursion, cons_option}
use Rattle.std.proofs.lemmas.List.{length-map}
use Rattle.timing_defs.specs.declared.design.Design.{Design}
use Rattle.timing_defs.specs.declared.edits.Eco.{Eco}
use Rattle.timing_defs.specs.declared.edits.Entry.{Entry}
use Rattle.timing_defs.specs.declared.scripts.Command.{Command}
use Rattle.timing_defs.specs.declared.scripts.Command.TheVariants.{Take, Await, Ask, Change}
use Rattle.timing_defs.specs.declared.scripts.Script.{Script}
use Rattle.timing_defs.specs.declared.scripts.Answer.{Answer}
use Rattle.timing_defs.specs.declared.scripts.Answer.TheVariants.{Accepted}
use Rattle.timing_defs.specs.declared.scripts.Row.{Row}
use Rattle.timing_defs.specs.declared.scripts.Transcript.{Transcript}
use Rattle.timing_defs.specs.Edits.{edited}
use Rattle.timing_rules.specs.Sessions.{DesignAfter, AreLegal, IsWhole, accepted_eco, accepted_ecos}
use Rattle.order_laws.specs.Orders.{folded, asked_eco, ecos_asked, scripts_ecos, edited_by_scripts}
use Rattle.order_laws.proofs.Folds.{Between, Commute, by_key, by_key_length, key_by_key}
use Rattle.order_laws.proofs.Journals.{session_of, eco_of, entry_step, after_all, steps_of_ecos, ecos_by_session, ecos_by_key, each_of}

-- ECOs that are some of others, in order: all of them where they are as many
record Within (xs ys : List Eco) : Type 0 where
  shorter : length xs ≤ length ys
  whole : length ys ≤ length xs → xs ≡ ys

none_within : (ys : List Eco) → Within [] ys
none_within [] = record { shorter = omega arith; whole = λ h. refl }
none_within (y ∷ ys) = record { shorter = omega arith; whole = λ h. absurd (omega (arith, h)) }

both_within : (eco : Eco) (xs ys : List Eco) → Within xs ys → Within (eco ∷ xs) (eco ∷ ys)
both_within eco xs ys w = record { shorter = omega (arith, w.shorter); whole = λ h. ap (λ rest. eco ∷ rest) (w.whole (omega (arith, h))) }

one_more : (eco : Eco) (xs ys : List Eco) → Within xs ys → Within xs (eco ∷ ys)
one_more eco xs ys w = record { shorter = omega (arith, w.shorter); whole = λ h. absurd (omega (arith, h, w.shorter)) }

joined_within : (xs ys vs ws : List Eco) → Within xs ys → Within vs ws → Within (xs ++ vs) (ys ++ ws)
joined_within xs ys vs ws a b =
    let left = length-append xs vs in
    let right = length-append ys ws in
    record {
      shorter = omega (arith, left, right, a.shorter, b.shorter);
      whole = λ h. ap₂ (λ front rest. front ++ rest)
          (a.whole (omega (arith, h, left, right, a.shorter, b.shorter)))
          (b.whole (omega (arith, h, left, right, a.shorter, b.shorter)));
    }

step_within : (command : Command) (answer : Answer) (xs ys : List Eco) → Within xs ys
    → Within (cons_option (accepted_eco command answer) xs) (cons_option (asked_eco command) ys)
step_within (Change eco) Accepted xs ys w = both_within eco xs ys w
step_within (Change eco) answer xs ys w = one_more eco xs ys w
step_within Take answer xs ys w = w
step_within (Await number looks) answer xs ys w = w
step_within (Ask q) answer xs ys w = w

accepted_within : (commands : List Command) (rows : List Row) → Within (accepted_ecos commands rows) (ecos_asked commands)
accepted_within [] rows = none_within []
accepted_within (c ∷ commands) [] = none_within (ecos_asked (c ∷ commands))
accepted_within (c ∷ commands) (row ∷ rows) =
    step_within c row.answer (accepted_ecos commands rows) (ecos_asked commands) (accepted_within commands rows)

-- what holds of the ECOs of a script holds of those that were accepted
step_holds : (P : Eco → Type 0) (command : Command) (answer : Answer) (xs ys : List Eco)
    → AllByRecursion P (cons_option (asked_eco command) ys) → (AllByRecursion P ys → AllByRecursion P xs)
    → AllByRecursion P (cons_option (accepted_eco command answer) xs)
step_holds P (Change eco) Accepted xs ys h rest = (h.0, rest h.1)
step_holds P (Change eco) answer xs ys h rest = rest h.1
step_holds P Take answer xs ys h rest = rest h
step_holds P (Await number looks) answer xs ys h rest = rest h
step_holds P (Ask q) answer xs ys h rest = rest h

pub accepted_hold : (P : Eco → Type 0) (commands : List Command) (rows : List Row)
    → AllByRecursion P (ecos_asked commands) → AllByRecursion P (accepted_ecos commands rows)
accepted_hold P [] rows h = tt
accepted_hold P (c ∷ commands) [] h = tt
accepted_hold P (c ∷ commands) (row ∷ rows) h =
    step_holds P c row.answer (accepted_ecos commands rows) (ecos_asked commands) h (accepted_hold P commands rows)

-- the accepted ECOs of scripts, those of the first script first
abbrev accepted_all : List Script → List Transcript → List Eco
accepted_all [] ts = []
accepted_all (script ∷ scripts) [] = []
accepted_all (script ∷ scripts) (t ∷ ts) = accepted_ecos script.commands t.rows ++ accepted_all scripts ts

all_within : (scripts : List Script) (ts : List Transcript) → Within (accepted_all scripts ts) (scripts_ecos scripts)
all_within [] ts = none_within []
all_within (script ∷ scripts) [] = none_within (scripts_ecos (script ∷ scripts))
all_within (script ∷ scripts) (t ∷ ts) =
    joined_within (accepted_ecos script.commands t.rows) (ecos_asked script.commands) (accepted_all scripts ts) (scripts_ecos scripts)
    (accepted_within script.commands t.rows) (all_within scripts ts)

module _ (d : Design) (journal : List Entry) (first : ℕ) where
  legal_ecos : (session : ℕ) (scripts : List Script) (ts : List Transcript) → AreLegal d journal first session scripts ts
      → ecos_by_session session (length scripts) journal ≡ accepted_all scripts ts
  legal_ecos session [] ts h = refl
  legal_ecos session (script ∷ scripts) [] h = absurd h
  legal_ecos session (script ∷ scripts) (t ∷ ts) h = ap₂ (λ front rest. front ++ rest) h.1 (legal_ecos (session + 1) scripts ts h.2)

  -- each entry is of one of the sessions
  pub sessions_between : (scripts : List Script) (ts : List Transcript) → IsWhole d first scripts journal ts
      → AllByRecursion (Between session_of 1 (length scripts)) journal
  sessions_between scripts ts whole =
      each_of (Between session_of 1 (length scripts)) journal
      (λ e c. let k = whole.1 e c in (k.0, omega (arith, k.1)))

  -- the law for scripts of which the entries of different sessions commute
  pub scripts_in_order : (scripts : List Script) (ts : List Transcript) (last : Design)
      → (Q : Entry → Type 0) → ((a b : Entry) → Q a → Q b → (a.session ≡ b.session → ⊥) → Commute entry_step a b)
      → AllByRecursion Q journal → IsWhole d first scripts journal ts → length (scripts_ecos scripts) ≤ length journal
      → DesignAfter d journal (length journal) last → edited_by_scripts d scripts ≡ Ok last
  scripts_in_order scripts ts last Q commute each whole many after =
      let n : ℕ = length scripts in
      let between = sessions_between scripts ts whole in
      let sorted : List Entry = by_key session_of 1 n journal in
      let ecos : map eco_of sorted ≡ accepted_all scripts ts =
      ecos_by_key 1 n journal ∙ legal_ecos 1 scripts ts whole.0 in
      let long : length (accepted_all scripts ts) ≡ length journal =
      ap length (sym ecos) ∙ length-map sorted eco_of ∙ by_key_length session_of 1 n journal between in
      let all : accepted_all scripts ts ≡ scripts_ecos scripts = (all_within scripts ts).whole (omega (arith, long, many)) in
      ap (folded edited (Ok d)) (sym (ecos ∙ all)) ∙ sym (steps_of_ecos (Ok d) sorted)
      ∙ key_by_key entry_step session_of Q commute 1 n journal d last each between (after_all d journal last after)
