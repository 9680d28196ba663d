-- A plain live run with a journal: its words are taken, and are the values of the command's words in order.
use Rattle.std.proofs.Common.{◌≡◌, ◌≤◌, false, List, [], ◌∷◌, ◌++◌, length, refl, ap, ◌∙◌, arith}
use Rattle.std.specs.Prelude.{Some, None, codes}
use Rattle.std.specs.List.{fold}
use Rattle.clap.specs.Walk.{Rule, Text, Walk, idle, positional, option, Held, Row, walked, walk_from, nothing_held, finished, rows_after}
use Rattle.clap.specs.Faults.{walk_fault, turn_fault, defaults_fault, level_fault}
use Rattle.clap.proofs.OnLiterals.{clap_on_literals}
use Rattle.command_words.specs.Plain.{IsPlain, ArePlain}
use Rattle.command_words.specs.Numbers.{within}
use Rattle.live_words.specs.Command.{live_with, few_pairs, words_of}
use Rattle.live_words.proofs.PlainWalk.{standing, word_idle, turn_idle, fault_behind}
use Rattle.live_words.proofs.PlainLive.{live_shape, given, held_at, level_none, none_left, names_walked, names_faultless, names_settle, level_taken, level_found}

abbrev option_word : Text
option_word = codes "--journal"

-- the option waits for its value
abbrev waits : Walk
waits =
    record {
      held = record { rows = []; pending = Some (codes "JOURNAL", []); skip = 0 };
      waiting = option (codes "JOURNAL");
      position = 1;
      is_trailing = false;
      stopped = None;
    }

-- and has it
abbrev named : Text → Held
named j = held_at [] (codes "JOURNAL") (j ∷ [])

option_walked : walked live_shape.rules [] (walk_from nothing_held) option_word ≡ waits
unfolding clap_on_literals
option_walked = refl

option_faultless : turn_fault live_shape [] (walk_from nothing_held) option_word ≡ []
unfolding clap_on_literals
option_faultless = refl

value_walked : (j : Text) → IsPlain j → walked live_shape.rules [] waits j ≡ standing (named j) idle 1
unfolding clap_on_literals
value_walked [] plain = absurd plain
value_walked (b ∷ bs) plain = rw (plain, plain) refl

value_faultless : (j : Text) → IsPlain j → turn_fault live_shape [] waits j ≡ []
unfolding clap_on_literals
value_faultless [] plain = absurd plain
value_faultless (b ∷ bs) plain = rw (plain, plain) refl

-- the rows of the journal and the first names
abbrev one_row : Text → List Row
one_row j = given (codes "JOURNAL") (j ∷ []) ∷ []

abbrev two_rows : Text → Text → List Row
two_rows j e = one_row j ++ given (codes "EARLY") (e ∷ []) ∷ []

abbrev three_rows : Text → Text → Text → List Row
three_rows j e l = two_rows j e ++ given (codes "LATE") (l ∷ []) ∷ []

abbrev four_rows : Text → Text → Text → Text → List Row
four_rows j e l n = three_rows j e l ++ given (codes "NETLIST") (n ∷ []) ∷ []

abbrev five_rows : Text → Text → Text → Text → Text → List Row
five_rows j e l n c = four_rows j e l n ++ given (codes "SDC") (c ∷ []) ∷ []

abbrev six_rows : Text → Text → Text → Text → Text → Text → List Row
six_rows j e l n c s = five_rows j e l n c ++ given (codes "SPEF") (s ∷ []) ∷ []

abbrev seven_rows : Text → Text → Text → Text → Text → Text → Text → List Row
seven_rows j e l n c s w = six_rows j e l n c s ++ given (codes "WORKERS") (w ∷ []) ∷ []

-- the rows of all words, and where their walk ends
abbrev all_rows : Text → Text → Text → Text → Text → Text → Text → List Text → List Row
all_rows j e l n c s w [] = seven_rows j e l n c s w
all_rows j e l n c s w (x ∷ xs) = seven_rows j e l n c s w ++ given (codes "NAME") (x ∷ xs) ∷ []

abbrev the_end : Text → Text → Text → Text → Text → Text → Text → List Text → Walk
the_end j e l n c s w [] = standing (held_at (six_rows j e l n c s) (codes "WORKERS") (w ∷ [])) idle 7
the_end j e l n c s w (x ∷ xs) = standing (held_at (seven_rows j e l n c s w) (codes "NAME") (x ∷ xs)) positional 7

no_defaults : (j e l n c s w : Text) → defaults_fault (seven_rows j e l n c s w) live_shape.rules ≡ []
unfolding clap_on_literals
no_defaults j e l n c s w = refl

names_defaults : (j e l n c s w : Text) (names : List Text)
    → defaults_fault (seven_rows j e l n c s w ++ given (codes "NAME") names ∷ []) live_shape.rules ≡ []
unfolding clap_on_literals
names_defaults j e l n c s w names = refl

module _ (j e l n c s w : Text) (pj : IsPlain j) (pe : IsPlain e) (pl : IsPlain l) (pn : IsPlain n) (pc : IsPlain c) (ps : IsPlain s)
    (pw : IsPlain w) where
  abbrev r : List Rule
  r = live_shape.rules

  abbrev with_names : List Text → List Text
  with_names names = option_word ∷ j ∷ e ∷ l ∷ n ∷ c ∷ s ∷ w ∷ names

  abbrev h2 : Held
  h2 = held_at (one_row j) (codes "EARLY") (e ∷ [])

  abbrev h3 : Held
  h3 = held_at (two_rows j e) (codes "LATE") (l ∷ [])

  abbrev h4 : Held
  h4 = held_at (three_rows j e l) (codes "NETLIST") (n ∷ [])

  abbrev h5 : Held
  h5 = held_at (four_rows j e l n) (codes "SDC") (c ∷ [])

  abbrev h6 : Held
  h6 = held_at (five_rows j e l n c) (codes "SPEF") (s ∷ [])

  abbrev h7 : Held
  h7 = held_at (six_rows j e l n c s) (codes "WORKERS") (w ∷ [])

  eight_walked : (rest : List Text) → fold (walked r []) (walk_from nothing_held) (with_names rest) ≡ fold (walked r []) (standing h7 idle 7) rest
  eight_walked rest =
      ap (λ st. fold (walked r []) st (j ∷ e ∷ l ∷ n ∷ c ∷ s ∷ w ∷ rest)) option_walked
      ∙ (ap (λ st. fold (walked r []) st (e ∷ l ∷ n ∷ c ∷ s ∷ w ∷ rest)) (value_walked j pj)
      ∙ (ap (λ st. fold (walked r []) st (l ∷ n ∷ c ∷ s ∷ w ∷ rest)) (word_idle r e pe (named j) 1)
      ∙ (ap (λ st. fold (walked r []) st (n ∷ c ∷ s ∷ w ∷ rest)) (word_idle r l pl h2 2)
      ∙ (ap (λ st. fold (walked r []) st (c ∷ s ∷ w ∷ rest)) (word_idle r n pn h3 3)
      ∙ (ap (λ st. fold (walked r []) st (s ∷ w ∷ rest)) (word_idle r c pc h4 4)
      ∙ (ap (λ st. fold (walked r []) st (w ∷ rest)) (word_idle r s ps h5 5)
      ∙ ap (λ st. fold (walked r []) st rest) (word_idle r w pw h6 6)))))))

  eight_faultless : (rest : List Text) → walk_fault live_shape [] (walk_from nothing_held) (with_names rest) ≡ walk_fault live_shape [] (standing h7 idle 7) rest
  eight_faultless rest =
      fault_behind live_shape [] (walk_from nothing_held) option_word (j ∷ e ∷ l ∷ n ∷ c ∷ s ∷ w ∷ rest) option_faultless
      ∙ (ap (λ st. walk_fault live_shape [] st (j ∷ e ∷ l ∷ n ∷ c ∷ s ∷ w ∷ rest)) option_walked
      ∙ (fault_behind live_shape [] waits j (e ∷ l ∷ n ∷ c ∷ s ∷ w ∷ rest) (value_faultless j pj)
      ∙ (ap (λ st. walk_fault live_shape [] st (e ∷ l ∷ n ∷ c ∷ s ∷ w ∷ rest)) (value_walked j pj)
      ∙ (fault_behind live_shape [] (standing (named j) idle 1) e (l ∷ n ∷ c ∷ s ∷ w ∷ rest) (turn_idle live_shape e pe (named j) 1 refl)
      ∙ (ap (λ st. walk_fault live_shape [] st (l ∷ n ∷ c ∷ s ∷ w ∷ rest)) (word_idle r e pe (named j) 1)
      ∙ (fault_behind live_shape [] (standing h2 idle 2) l (n ∷ c ∷ s ∷ w ∷ rest) (turn_idle live_shape l pl h2 2 refl)
      ∙ (ap (λ st. walk_fault live_shape [] st (n ∷ c ∷ s ∷ w ∷ rest)) (word_idle r l pl h2 2)
      ∙ (fault_behind live_shape [] (standing h3 idle 3) n (c ∷ s ∷ w ∷ rest) (turn_idle live_shape n pn h3 3 refl)
      ∙ (ap (λ st. walk_fault live_shape [] st (c ∷ s ∷ w ∷ rest)) (word_idle r n pn h3 3)
      ∙ (fault_behind live_shape [] (standing h4 idle 4) c (s ∷ w ∷ rest) (turn_idle live_shape c pc h4 4 refl)
      ∙ (ap (λ st. walk_fault live_shape [] st (s ∷ w ∷ rest)) (word_idle r c pc h4 4)
      ∙ (fault_behind live_shape [] (standing h5 idle 5) s (w ∷ rest) (turn_idle live_shape s ps h5 5 refl)
      ∙ (ap (λ st. walk_fault live_shape [] st (w ∷ rest)) (word_idle r s ps h5 5)
      ∙ (fault_behind live_shape [] (standing h6 idle 6) w rest (turn_idle live_shape w pw h6 6 refl)
      ∙ ap (λ st. walk_fault live_shape [] st rest) (word_idle r w pw h6 6)))))))))))))))

  all_walked : (names : List Text) → ArePlain names → fold (walked r []) (walk_from nothing_held) (with_names names) ≡ the_end j e l n c s w names
  all_walked [] plain = eight_walked []
  all_walked (x ∷ xs) plain =
      eight_walked (x ∷ xs)
      ∙ (ap (λ st. fold (walked r []) st xs) (word_idle r x plain.0 h7 7)
      ∙ names_walked (seven_rows j e l n c s w) (x ∷ []) xs plain.1)

  all_faultless : (names : List Text) → ArePlain names → walk_fault live_shape [] (walk_from nothing_held) (with_names names) ≡ []
  all_faultless [] plain = eight_faultless [] ∙ none_left (standing h7 idle 7)
  all_faultless (x ∷ xs) plain =
      eight_faultless (x ∷ xs)
      ∙ (fault_behind live_shape [] (standing h7 idle 7) x xs (turn_idle live_shape x plain.0 h7 7 refl)
      ∙ (ap (λ st. walk_fault live_shape [] st xs) (word_idle r x plain.0 h7 7)
      ∙ names_faultless (seven_rows j e l n c s w) (x ∷ []) xs plain.1))

  kept_faultless : (names : List Text) → ArePlain names → length names ≤ 100 → level_fault live_shape [] nothing_held (with_names names) false [] ≡ []
  kept_faultless [] plain few =
      level_none live_shape [] (with_names []) false (standing h7 idle 7) (all_walked [] plain) (all_faultless [] plain) refl (no_defaults j e l n c s w) refl
  kept_faultless (x ∷ xs) plain few =
      level_none live_shape [] (with_names (x ∷ xs)) false (standing (held_at (seven_rows j e l n c s w) (codes "NAME") (x ∷ xs)) positional 7)
      (all_walked (x ∷ xs) plain) (all_faultless (x ∷ xs) plain) (names_settle (seven_rows j e l n c s w) x xs (omega (arith, few)))
      (names_defaults j e l n c s w (x ∷ xs)) refl

  kept_rows : (names : List Text) → ArePlain names → rows_after live_shape.rules [] (with_names names) ≡ all_rows j e l n c s w names
  kept_rows [] plain = ap (λ (st : Walk). finished live_shape.rules st.held) (all_walked [] plain)
  kept_rows (x ∷ xs) plain = ap (λ (st : Walk). finished live_shape.rules st.held) (all_walked (x ∷ xs) plain)

  -- these words are taken and keep their meaning
  pub plain_journal : (names : List Text) → ArePlain names → length names ≤ 100
      → words_of (codes "live" ∷ with_names names)
      ≡ live_with (Some j) (Some (record { early = e; late = l; netlist = n; sdc = c; spef = s })) (within 1 32 w) (few_pairs names)
  unfolding words_of
  plain_journal [] plain few =
      rw (level_taken (with_names []) (kept_faultless [] plain few), level_found (with_names []) (all_rows j e l n c s w []) (kept_rows [] plain)) refl
  plain_journal (x ∷ xs) plain few =
      rw (
        level_taken (with_names (x ∷ xs)) (kept_faultless (x ∷ xs) plain few),
        level_found (with_names (x ∷ xs)) (all_rows j e l n c s w (x ∷ xs)) (kept_rows (x ∷ xs) plain),
      ) refl
