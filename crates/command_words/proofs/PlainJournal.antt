-- A plain run behind a saved journal: its words are taken, and are the values of the command's words in order.
use Rattle.std.proofs.Common.{◌≡◌, ◌≤◌, true, false, List, [], ◌∷◌, ◌++◌, length, refl, ap, ◌∙◌}
use Rattle.std.specs.Prelude.{Some, None, is_some, option_map, codes}
use Rattle.std.specs.List.{fold}
use Rattle.clap.specs.Walk.{Rule, Text, Walk, idle, positional, option, Held, Row, walked, walk_from, nothing_held, finished, rows_after}
use Rattle.clap.specs.Simple.{built, names_of, entered, subcommand_of}
use Rattle.clap.specs.Faults.{walk_fault, turn_fault, defaults_fault, level_fault, entered_fault, fault_of}
use Rattle.clap.proofs.OnLiterals.{clap_on_literals}
use Rattle.command_words.specs.Plain.{IsPlain, ArePlain}
use Rattle.command_words.specs.Numbers.{within}
use Rattle.command_words.specs.Asked.{run}
use Rattle.command_words.specs.Command.{lizdrog_app, run_with, few_scripts, words_of}
use Rattle.command_words.proofs.PlainWalk.{standing, word_idle, turn_idle, fault_behind}
use Rattle.command_words.proofs.PlainRun.{run_shape, given, held_at, level_none, scripts_walked, scripts_faultless, scripts_settle, top_shape, stopped_at, run_top, run_top_faultless, no_top_defaults}

abbrev option_word : Text
option_word = codes "--journal"

-- the option waits for its value
abbrev waits : Walk
waits =
    record {
      held = record { rows = []; pending = Some (codes "JOURNAL", []); skip = 0 };
      waiting = option (codes "JOURNAL");
      position = 1;
      is_trailing = false;
      stopped = None;
    }

-- and has it
abbrev named : Text → Held
named j = held_at [] (codes "JOURNAL") (j ∷ [])

option_walked : walked run_shape.rules [] (walk_from nothing_held) option_word ≡ waits
unfolding clap_on_literals
option_walked = refl

option_faultless : turn_fault run_shape [] (walk_from nothing_held) option_word ≡ []
unfolding clap_on_literals
option_faultless = refl

value_walked : (j : Text) → IsPlain j → walked run_shape.rules [] waits j ≡ standing (named j) idle 1
unfolding clap_on_literals
value_walked [] plain = absurd plain
value_walked (b ∷ bs) plain = rw (plain, plain) refl

value_faultless : (j : Text) → IsPlain j → turn_fault run_shape [] waits j ≡ []
unfolding clap_on_literals
value_faultless [] plain = absurd plain
value_faultless (b ∷ bs) plain = rw (plain, plain) refl

-- the rows of the journal and the first names
abbrev one_row : Text → List Row
one_row j = given (codes "JOURNAL") (j ∷ []) ∷ []

abbrev two_rows : Text → Text → List Row
two_rows j e = one_row j ++ given (codes "EARLY") (e ∷ []) ∷ []

abbrev three_rows : Text → Text → Text → List Row
three_rows j e l = two_rows j e ++ given (codes "LATE") (l ∷ []) ∷ []

abbrev four_rows : Text → Text → Text → Text → List Row
four_rows j e l n = three_rows j e l ++ given (codes "NETLIST") (n ∷ []) ∷ []

abbrev five_rows : Text → Text → Text → Text → Text → List Row
five_rows j e l n c = four_rows j e l n ++ given (codes "SDC") (c ∷ []) ∷ []

abbrev six_rows : Text → Text → Text → Text → Text → Text → List Row
six_rows j e l n c s = five_rows j e l n c ++ given (codes "SPEF") (s ∷ []) ∷ []

abbrev seven_rows : Text → Text → Text → Text → Text → Text → Text → List Row
seven_rows j e l n c s w = six_rows j e l n c s ++ given (codes "WORKERS") (w ∷ []) ∷ []

abbrev all_rows : Text → Text → Text → Text → Text → Text → Text → List Text → List Row
all_rows j e l n c s w scripts = seven_rows j e l n c s w ++ given (codes "SCRIPT") scripts ∷ []

module _ (j e l n c s w x : Text) (xs : List Text) (pj : IsPlain j) (pe : IsPlain e) (pl : IsPlain l) (pn : IsPlain n) (pc : IsPlain c) (ps : IsPlain s)
    (pw : IsPlain w) (px : IsPlain x) (pxs : ArePlain xs) where
  abbrev r : List Rule
  r = run_shape.rules

  abbrev all_words : List Text
  all_words = option_word ∷ j ∷ e ∷ l ∷ n ∷ c ∷ s ∷ w ∷ x ∷ xs

  abbrev h2 : Held
  h2 = held_at (one_row j) (codes "EARLY") (e ∷ [])

  abbrev h3 : Held
  h3 = held_at (two_rows j e) (codes "LATE") (l ∷ [])

  abbrev h4 : Held
  h4 = held_at (three_rows j e l) (codes "NETLIST") (n ∷ [])

  abbrev h5 : Held
  h5 = held_at (four_rows j e l n) (codes "SDC") (c ∷ [])

  abbrev h6 : Held
  h6 = held_at (five_rows j e l n c) (codes "SPEF") (s ∷ [])

  abbrev h7 : Held
  h7 = held_at (six_rows j e l n c s) (codes "WORKERS") (w ∷ [])

  abbrev the_end : Walk
  the_end = standing (held_at (seven_rows j e l n c s w) (codes "SCRIPT") (x ∷ xs)) positional 7

  all_walked : fold (walked r []) (walk_from nothing_held) all_words ≡ the_end
  all_walked =
      ap (λ st. fold (walked r []) st (j ∷ e ∷ l ∷ n ∷ c ∷ s ∷ w ∷ x ∷ xs)) option_walked
      ∙ (ap (λ st. fold (walked r []) st (e ∷ l ∷ n ∷ c ∷ s ∷ w ∷ x ∷ xs)) (value_walked j pj)
      ∙ (ap (λ st. fold (walked r []) st (l ∷ n ∷ c ∷ s ∷ w ∷ x ∷ xs)) (word_idle r e pe (named j) 1)
      ∙ (ap (λ st. fold (walked r []) st (n ∷ c ∷ s ∷ w ∷ x ∷ xs)) (word_idle r l pl h2 2)
      ∙ (ap (λ st. fold (walked r []) st (c ∷ s ∷ w ∷ x ∷ xs)) (word_idle r n pn h3 3)
      ∙ (ap (λ st. fold (walked r []) st (s ∷ w ∷ x ∷ xs)) (word_idle r c pc h4 4)
      ∙ (ap (λ st. fold (walked r []) st (w ∷ x ∷ xs)) (word_idle r s ps h5 5)
      ∙ (ap (λ st. fold (walked r []) st (x ∷ xs)) (word_idle r w pw h6 6)
      ∙ (ap (λ st. fold (walked r []) st xs) (word_idle r x px h7 7)
      ∙ scripts_walked (seven_rows j e l n c s w) (x ∷ []) xs pxs))))))))

  all_faultless : walk_fault run_shape [] (walk_from nothing_held) all_words ≡ []
  all_faultless =
      fault_behind run_shape [] (walk_from nothing_held) option_word (j ∷ e ∷ l ∷ n ∷ c ∷ s ∷ w ∷ x ∷ xs) option_faultless
      ∙ (ap (λ st. walk_fault run_shape [] st (j ∷ e ∷ l ∷ n ∷ c ∷ s ∷ w ∷ x ∷ xs)) option_walked
      ∙ (fault_behind run_shape [] waits j (e ∷ l ∷ n ∷ c ∷ s ∷ w ∷ x ∷ xs) (value_faultless j pj)
      ∙ (ap (λ st. walk_fault run_shape [] st (e ∷ l ∷ n ∷ c ∷ s ∷ w ∷ x ∷ xs)) (value_walked j pj)
      ∙ (fault_behind run_shape [] (standing (named j) idle 1) e (l ∷ n ∷ c ∷ s ∷ w ∷ x ∷ xs) (turn_idle run_shape e pe (named j) 1 refl)
      ∙ (ap (λ st. walk_fault run_shape [] st (l ∷ n ∷ c ∷ s ∷ w ∷ x ∷ xs)) (word_idle r e pe (named j) 1)
      ∙ (fault_behind run_shape [] (standing h2 idle 2) l (n ∷ c ∷ s ∷ w ∷ x ∷ xs) (turn_idle run_shape l pl h2 2 refl)
      ∙ (ap (λ st. walk_fault run_shape [] st (n ∷ c ∷ s ∷ w ∷ x ∷ xs)) (word_idle r l pl h2 2)
      ∙ (fault_behind run_shape [] (standing h3 idle 3) n (c ∷ s ∷ w ∷ x ∷ xs) (turn_idle run_shape n pn h3 3 refl)
      ∙ (ap (λ st. walk_fault run_shape [] st (c ∷ s ∷ w ∷ x ∷ xs)) (word_idle r n pn h3 3)
      ∙ (fault_behind run_shape [] (standing h4 idle 4) c (s ∷ w ∷ x ∷ xs) (turn_idle run_shape c pc h4 4 refl)
      ∙ (ap (λ st. walk_fault run_shape [] st (s ∷ w ∷ x ∷ xs)) (word_idle r c pc h4 4)
      ∙ (fault_behind run_shape [] (standing h5 idle 5) s (w ∷ x ∷ xs) (turn_idle run_shape s ps h5 5 refl)
      ∙ (ap (λ st. walk_fault run_shape [] st (w ∷ x ∷ xs)) (word_idle r s ps h5 5)
      ∙ (fault_behind run_shape [] (standing h6 idle 6) w (x ∷ xs) (turn_idle run_shape w pw h6 6 refl)
      ∙ (ap (λ st. walk_fault run_shape [] st (x ∷ xs)) (word_idle r w pw h6 6)
      ∙ (fault_behind run_shape [] (standing h7 idle 7) x xs (turn_idle run_shape x px h7 7 refl)
      ∙ (ap (λ st. walk_fault run_shape [] st xs) (word_idle r x px h7 7)
      ∙ scripts_faultless (seven_rows j e l n c s w) (x ∷ []) xs pxs)))))))))))))))))

  no_defaults : defaults_fault (all_rows j e l n c s w (x ∷ xs)) run_shape.rules ≡ []
  unfolding clap_on_literals
  no_defaults = refl

  saved_faultless : length xs ≤ 100 → level_fault run_shape [] nothing_held all_words false [] ≡ []
  saved_faultless few =
      level_none run_shape [] all_words false the_end all_walked all_faultless (scripts_settle (seven_rows j e l n c s w) x xs few) no_defaults refl

  saved_rows : rows_after run_shape.rules [] all_words ≡ all_rows j e l n c s w (x ∷ xs)
  saved_rows = ap (λ (st : Walk). finished run_shape.rules st.held) all_walked

  -- these words are taken
  saved_taken : length xs ≤ 100 → fault_of lizdrog_app (codes "run" ∷ all_words) ≡ []
  saved_taken few =
      ap (λ (st : Walk). level_fault top_shape (names_of (built lizdrog_app)) nothing_held (codes "run" ∷ all_words) (is_some (entered (built lizdrog_app) st.stopped)) (entered_fault (built lizdrog_app) st.stopped))
      (run_top all_words)
      ∙ (ap (λ below. level_fault top_shape (names_of (built lizdrog_app)) nothing_held (codes "run" ∷ all_words) true below) (saved_faultless few)
      ∙ level_none top_shape (names_of (built lizdrog_app)) (codes "run" ∷ all_words) true (stopped_at (codes "run") all_words)
      (run_top all_words) (run_top_faultless all_words) refl no_top_defaults refl)

  saved_found : subcommand_of lizdrog_app (codes "run" ∷ all_words) ≡ Some (codes "run", all_rows j e l n c s w (x ∷ xs))
  saved_found =
      ap (λ (st : Walk). entered (built lizdrog_app) st.stopped) (run_top all_words)
      ∙ ap (λ rows. Some (codes "run", rows)) saved_rows

  -- and keep their meaning
  pub plain_journal : length xs ≤ 100
      → words_of (codes "run" ∷ all_words)
      ≡ option_map run (run_with (Some j) (Some (record { early = e; late = l; netlist = n; sdc = c; spef = s })) (within 1 32 w) (few_scripts (x ∷ xs)))
  unfolding words_of
  plain_journal few = rw (saved_taken few, saved_found) refl
