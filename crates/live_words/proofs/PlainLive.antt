-- A plain live run: its words are taken, and are the values of the command's words in order.
use Rattle.std.proofs.Common.{◌≡◌, ℕ, suc, ◌≤◌, Bool, true, false, List, [], ◌∷◌, ◌++◌, length, refl, ap, sym, ◌∙◌, arith, append_assoc, append-nil}
use Rattle.std.specs.Prelude.{Some, None, is_some, ◌==◌, codes}
use Rattle.std.specs.List.{fold}
use Rattle.std.specs.Prelude.{nat_lt}
use Rattle.std.proofs.lemmas.Bool.{le-ltb}
use Rattle.clap.specs.Walk.{Rule, Text, Names, Walk, idle, positional, Held, Row, walked, walk_from, nothing_held, settled, finished, rows_after}
use Rattle.clap.specs.Simple.{Shape, built, new_shape, names_of, entered, subcommand_of}
use Rattle.clap.specs.Kinds.{values_kinds}
use Rattle.clap.specs.Faults.{walk_fault, settle_fault, defaults_fault, check_fault, level_fault, entered_fault, fault_of}
use Rattle.clap.specs.declared.builder.value_parser.ValueParser.TheVariants.{String}
use Rattle.clap.proofs.OnLiterals.{clap_on_literals}
use Rattle.clap.specs.declared.parser.matches.ValueSource.TheVariants.{CommandLine}
use Rattle.clap.specs.declared.builder.value_parser.Reading.TheVariants as reading
use Rattle.command_words.specs.Plain.{IsPlain, ArePlain}
use Rattle.command_words.specs.Numbers.{within}
use Rattle.live_words.specs.Command.{lizdrog_app, live_with, few_pairs, words_of}
use Rattle.live_words.proofs.PlainWalk.{standing, word_idle, word_more, turn_idle, turn_more, fault_behind}

abbrev pub first_shape : List Shape → Shape
first_shape [] = new_shape []
first_shape (s ∷ ss) = s

-- the subcommand `live` as it is built
abbrev pub live_shape : Shape
live_shape = first_shape (built lizdrog_app).subs

-- a word that was given
abbrev pub given : Text → List Text → Row
given id values = record { id = id; values = values; count = None; source = Some CommandLine; reading = reading.AsWritten }

-- these rows, and a positional whose words are being read
abbrev pub held_at : List Row → Text → List Text → Held
held_at rows id values = record { rows = rows; pending = Some (id, values); skip = 0 }

six_walked : (e l n c s w : Text) → IsPlain e → IsPlain l → IsPlain n → IsPlain c → IsPlain s → IsPlain w → (rest : List Text)
    → fold (walked live_shape.rules []) (walk_from nothing_held) (e ∷ l ∷ n ∷ c ∷ s ∷ w ∷ rest)
    ≡ fold (walked live_shape.rules [])
    (standing
    (held_at
    (given (codes "EARLY") (e ∷ []) ∷ given (codes "LATE") (l ∷ []) ∷ given (codes "NETLIST") (n ∷ []) ∷ given (codes "SDC") (c ∷ [])
    ∷ given (codes "SPEF") (s ∷ []) ∷ []) (codes "WORKERS") (w ∷ []))
    idle 7) rest
six_walked e l n c s w pe pl pn pc ps pw rest =
    let r : List Rule = live_shape.rules in
    let h1 : Held = held_at [] (codes "EARLY") (e ∷ []) in
    let r1 : List Row = given (codes "EARLY") (e ∷ []) ∷ [] in
    let h2 : Held = held_at r1 (codes "LATE") (l ∷ []) in
    let r2 : List Row = r1 ++ given (codes "LATE") (l ∷ []) ∷ [] in
    let h3 : Held = held_at r2 (codes "NETLIST") (n ∷ []) in
    let r3 : List Row = r2 ++ given (codes "NETLIST") (n ∷ []) ∷ [] in
    let h4 : Held = held_at r3 (codes "SDC") (c ∷ []) in
    let r4 : List Row = r3 ++ given (codes "SDC") (c ∷ []) ∷ [] in
    let h5 : Held = held_at r4 (codes "SPEF") (s ∷ []) in
    ap (λ x. fold (walked r []) x (l ∷ n ∷ c ∷ s ∷ w ∷ rest)) (word_idle r e pe nothing_held 1)
    ∙ (ap (λ x. fold (walked r []) x (n ∷ c ∷ s ∷ w ∷ rest)) (word_idle r l pl h1 2)
    ∙ (ap (λ x. fold (walked r []) x (c ∷ s ∷ w ∷ rest)) (word_idle r n pn h2 3)
    ∙ (ap (λ x. fold (walked r []) x (s ∷ w ∷ rest)) (word_idle r c pc h3 4)
    ∙ (ap (λ x. fold (walked r []) x (w ∷ rest)) (word_idle r s ps h4 5)
    ∙ ap (λ x. fold (walked r []) x rest) (word_idle r w pw h5 6)))))

abbrev five_rows : Text → Text → Text → Text → Text → List Row
five_rows e l n c s =
    given (codes "EARLY") (e ∷ []) ∷ given (codes "LATE") (l ∷ []) ∷ given (codes "NETLIST") (n ∷ []) ∷ given (codes "SDC") (c ∷ [])
    ∷ given (codes "SPEF") (s ∷ []) ∷ []

abbrev six_rows : Text → Text → Text → Text → Text → Text → List Row
six_rows e l n c s w = five_rows e l n c s ++ given (codes "WORKERS") (w ∷ []) ∷ []

pub names_walked : (rows : List Row) (found names : List Text) → ArePlain names
    → fold (walked live_shape.rules []) (standing (held_at rows (codes "NAME") found) positional 7) names
    ≡ standing (held_at rows (codes "NAME") (found ++ names)) positional 7
names_walked rows found [] plain = ap (λ ws. standing (held_at rows (codes "NAME") ws) positional 7) (sym (append-nil found))
names_walked rows found (x ∷ xs) plain =
    ap (λ st. fold (walked live_shape.rules []) st xs) (word_more live_shape.rules x plain.0 (held_at rows (codes "NAME") found) 7)
    ∙ (names_walked rows (found ++ x ∷ []) xs plain.1
    ∙ ap (λ ws. standing (held_at rows (codes "NAME") ws) positional 7) (append_assoc found (x ∷ []) xs))

-- the faults of these words: none
six_faultless : (e l n c s w : Text) → IsPlain e → IsPlain l → IsPlain n → IsPlain c → IsPlain s → IsPlain w → (rest : List Text)
    → walk_fault live_shape [] (walk_from nothing_held) (e ∷ l ∷ n ∷ c ∷ s ∷ w ∷ rest)
    ≡ walk_fault live_shape [] (standing (held_at (five_rows e l n c s) (codes "WORKERS") (w ∷ [])) idle 7) rest
six_faultless e l n c s w pe pl pn pc ps pw rest =
    let r : List Rule = live_shape.rules in
    let h1 : Held = held_at [] (codes "EARLY") (e ∷ []) in
    let r1 : List Row = given (codes "EARLY") (e ∷ []) ∷ [] in
    let h2 : Held = held_at r1 (codes "LATE") (l ∷ []) in
    let r2 : List Row = r1 ++ given (codes "LATE") (l ∷ []) ∷ [] in
    let h3 : Held = held_at r2 (codes "NETLIST") (n ∷ []) in
    let r3 : List Row = r2 ++ given (codes "NETLIST") (n ∷ []) ∷ [] in
    let h4 : Held = held_at r3 (codes "SDC") (c ∷ []) in
    let r4 : List Row = r3 ++ given (codes "SDC") (c ∷ []) ∷ [] in
    let h5 : Held = held_at r4 (codes "SPEF") (s ∷ []) in
    fault_behind live_shape [] (standing nothing_held idle 1) e (l ∷ n ∷ c ∷ s ∷ w ∷ rest) (turn_idle live_shape e pe nothing_held 1 refl)
    ∙ (ap (λ st. walk_fault live_shape [] st (l ∷ n ∷ c ∷ s ∷ w ∷ rest)) (word_idle r e pe nothing_held 1)
    ∙ (fault_behind live_shape [] (standing h1 idle 2) l (n ∷ c ∷ s ∷ w ∷ rest) (turn_idle live_shape l pl h1 2 refl)
    ∙ (ap (λ st. walk_fault live_shape [] st (n ∷ c ∷ s ∷ w ∷ rest)) (word_idle r l pl h1 2)
    ∙ (fault_behind live_shape [] (standing h2 idle 3) n (c ∷ s ∷ w ∷ rest) (turn_idle live_shape n pn h2 3 refl)
    ∙ (ap (λ st. walk_fault live_shape [] st (c ∷ s ∷ w ∷ rest)) (word_idle r n pn h2 3)
    ∙ (fault_behind live_shape [] (standing h3 idle 4) c (s ∷ w ∷ rest) (turn_idle live_shape c pc h3 4 refl)
    ∙ (ap (λ st. walk_fault live_shape [] st (s ∷ w ∷ rest)) (word_idle r c pc h3 4)
    ∙ (fault_behind live_shape [] (standing h4 idle 5) s (w ∷ rest) (turn_idle live_shape s ps h4 5 refl)
    ∙ (ap (λ st. walk_fault live_shape [] st (w ∷ rest)) (word_idle r s ps h4 5)
    ∙ (fault_behind live_shape [] (standing h5 idle 6) w rest (turn_idle live_shape w pw h5 6 refl)
    ∙ ap (λ st. walk_fault live_shape [] st rest) (word_idle r w pw h5 6)))))))))))

pub none_left : (st : Walk) → walk_fault live_shape [] st [] ≡ []
unfolding walk_fault
none_left st = refl

pub names_faultless : (rows : List Row) (found names : List Text) → ArePlain names
    → walk_fault live_shape [] (standing (held_at rows (codes "NAME") found) positional 7) names ≡ []
names_faultless rows found [] plain = none_left (standing (held_at rows (codes "NAME") found) positional 7)
names_faultless rows found (x ∷ xs) plain =
    fault_behind live_shape [] (standing (held_at rows (codes "NAME") found) positional 7) x xs (turn_more live_shape x plain.0 (held_at rows (codes "NAME") found) 7 refl)
    ∙ (ap (λ st. walk_fault live_shape [] st xs) (word_more live_shape.rules x plain.0 (held_at rows (codes "NAME") found) 7)
    ∙ names_faultless rows (found ++ x ∷ []) xs plain.1)

-- one level, where nothing is at fault
pub level_none : (s : Shape) (names : Names) (words : List Text) (has : Bool) (end : Walk)
    → fold (walked s.rules names) (walk_from nothing_held) words ≡ end
    → walk_fault s names (walk_from nothing_held) words ≡ []
    → settle_fault s.rules s.args_override_self end.held ≡ []
    → defaults_fault (settled s.rules end.held).rows s.rules ≡ []
    → check_fault s (finished s.rules end.held) has ≡ []
    → level_fault s names nothing_held words has [] ≡ []
level_none s names words has end ends walk settle defaults check = rw (ends, walk, settle, defaults, check) refl

no_zero : (n : ℕ) → (suc n == 0) ≡ false
no_zero n = grind arith

-- the names are some, and not too many
pub names_settle : (rows : List Row) (x : Text) (xs : List Text) → length xs ≤ 100
    → settle_fault live_shape.rules live_shape.args_override_self (held_at rows (codes "NAME") (x ∷ xs)) ≡ []
names_settle rows x xs few =
    let one : nat_lt (suc (length xs)) 1 ≡ false = le-ltb (suc (length xs)) 1 (omega arith) in
    let most : nat_lt 18446744073709551615 (suc (length xs)) ≡ false = le-ltb 18446744073709551615 (suc (length xs)) (omega (arith, few)) in
    rw (no_zero (length xs), one, most, all_pass xs) refl
  where
    all_pass : (ys : List Text) → values_kinds false String ys ≡ []
    all_pass [] = refl
    all_pass (y ∷ ys) = all_pass ys

-- the rows of these words, and where their walk ends
abbrev all_rows : Text → Text → Text → Text → Text → Text → List Text → List Row
all_rows e l n c s w [] = six_rows e l n c s w
all_rows e l n c s w (x ∷ xs) = six_rows e l n c s w ++ given (codes "NAME") (x ∷ xs) ∷ []

abbrev the_end : Text → Text → Text → Text → Text → Text → List Text → Walk
the_end e l n c s w [] = standing (held_at (five_rows e l n c s) (codes "WORKERS") (w ∷ [])) idle 7
the_end e l n c s w (x ∷ xs) = standing (held_at (six_rows e l n c s w) (codes "NAME") (x ∷ xs)) positional 7

no_defaults : (e l n c s w : Text) → defaults_fault (six_rows e l n c s w) live_shape.rules ≡ []
unfolding clap_on_literals
no_defaults e l n c s w = refl

names_defaults : (e l n c s w : Text) (names : List Text)
    → defaults_fault (six_rows e l n c s w ++ given (codes "NAME") names ∷ []) live_shape.rules ≡ []
unfolding clap_on_literals
names_defaults e l n c s w names = refl

module _ (e l n c s w : Text) (pe : IsPlain e) (pl : IsPlain l) (pn : IsPlain n) (pc : IsPlain c) (ps : IsPlain s) (pw : IsPlain w) where
  abbrev h6 : Held
  h6 = held_at (five_rows e l n c s) (codes "WORKERS") (w ∷ [])

  all_walked : (names : List Text) → ArePlain names
      → fold (walked live_shape.rules []) (walk_from nothing_held) (e ∷ l ∷ n ∷ c ∷ s ∷ w ∷ names) ≡ the_end e l n c s w names
  all_walked [] plain = six_walked e l n c s w pe pl pn pc ps pw []
  all_walked (x ∷ xs) plain =
      six_walked e l n c s w pe pl pn pc ps pw (x ∷ xs)
      ∙ (ap (λ st. fold (walked live_shape.rules []) st xs) (word_idle live_shape.rules x plain.0 h6 7)
      ∙ names_walked (six_rows e l n c s w) (x ∷ []) xs plain.1)

  all_faultless : (names : List Text) → ArePlain names → walk_fault live_shape [] (walk_from nothing_held) (e ∷ l ∷ n ∷ c ∷ s ∷ w ∷ names) ≡ []
  all_faultless [] plain = six_faultless e l n c s w pe pl pn pc ps pw [] ∙ none_left (standing h6 idle 7)
  all_faultless (x ∷ xs) plain =
      six_faultless e l n c s w pe pl pn pc ps pw (x ∷ xs)
      ∙ (fault_behind live_shape [] (standing h6 idle 7) x xs (turn_idle live_shape x plain.0 h6 7 refl)
      ∙ (ap (λ st. walk_fault live_shape [] st xs) (word_idle live_shape.rules x plain.0 h6 7)
      ∙ names_faultless (six_rows e l n c s w) (x ∷ []) xs plain.1))

  live_faultless : (names : List Text) → ArePlain names → length names ≤ 100
      → level_fault live_shape [] nothing_held (e ∷ l ∷ n ∷ c ∷ s ∷ w ∷ names) false [] ≡ []
  live_faultless [] plain few =
      level_none live_shape [] (e ∷ l ∷ n ∷ c ∷ s ∷ w ∷ []) false (standing h6 idle 7) (all_walked [] plain) (all_faultless [] plain) refl
      (no_defaults e l n c s w) refl
  live_faultless (x ∷ xs) plain few =
      level_none live_shape [] (e ∷ l ∷ n ∷ c ∷ s ∷ w ∷ x ∷ xs) false (standing (held_at (six_rows e l n c s w) (codes "NAME") (x ∷ xs)) positional 7)
      (all_walked (x ∷ xs) plain) (all_faultless (x ∷ xs) plain) (names_settle (six_rows e l n c s w) x xs (omega (arith, few)))
      (names_defaults e l n c s w (x ∷ xs)) refl

  -- what `live` is given
  live_rows : (names : List Text) → ArePlain names → rows_after live_shape.rules [] (e ∷ l ∷ n ∷ c ∷ s ∷ w ∷ names) ≡ all_rows e l n c s w names
  live_rows [] plain = ap (λ (st : Walk). finished live_shape.rules st.held) (all_walked [] plain)
  live_rows (x ∷ xs) plain = ap (λ (st : Walk). finished live_shape.rules st.held) (all_walked (x ∷ xs) plain)

-- the words behind a subcommand's name
abbrev pub top_shape : Shape
top_shape = (built lizdrog_app).top

abbrev pub stopped_at : Text → List Text → Walk
stopped_at name words = record (walk_from nothing_held) { stopped = Some (name, words) }

pub top_walked : (name : Text) (found words : List Text)
    → fold (walked top_shape.rules (names_of (built lizdrog_app))) (stopped_at name found) words ≡ stopped_at name (found ++ words)
unfolding clap_on_literals
top_walked name found [] = ap (λ ws. stopped_at name ws) (sym (append-nil found))
top_walked name found (w ∷ ws) =
    top_walked name (found ++ w ∷ []) ws ∙ ap (λ all. stopped_at name all) (append_assoc found (w ∷ []) ws)

pub top_faultless : (name : Text) (found words : List Text)
    → walk_fault top_shape (names_of (built lizdrog_app)) (stopped_at name found) words ≡ []
unfolding clap_on_literals
top_faultless name found [] = refl
top_faultless name found (w ∷ ws) = top_faultless name (found ++ w ∷ []) ws

pub live_top : (words : List Text) → fold (walked top_shape.rules (names_of (built lizdrog_app))) (walk_from nothing_held) (codes "live" ∷ words) ≡ stopped_at (codes "live") words
unfolding clap_on_literals
live_top words = top_walked (codes "live") [] words

pub live_top_faultless : (words : List Text) → walk_fault top_shape (names_of (built lizdrog_app)) (walk_from nothing_held) (codes "live" ∷ words) ≡ []
unfolding clap_on_literals
live_top_faultless words = top_faultless (codes "live") [] words

pub no_top_defaults : defaults_fault [] top_shape.rules ≡ []
unfolding clap_on_literals
no_top_defaults = refl

-- plain words are taken where their subcommand takes them
pub level_taken : (words : List Text) → level_fault live_shape [] nothing_held words false [] ≡ [] → fault_of lizdrog_app (codes "live" ∷ words) ≡ []
level_taken words none =
    ap (λ (st : Walk). level_fault top_shape (names_of (built lizdrog_app)) nothing_held (codes "live" ∷ words) (is_some (entered (built lizdrog_app) st.stopped)) (entered_fault (built lizdrog_app) st.stopped))
    (live_top words)
    ∙ (ap (λ below. level_fault top_shape (names_of (built lizdrog_app)) nothing_held (codes "live" ∷ words) true below) none
    ∙ level_none top_shape (names_of (built lizdrog_app)) (codes "live" ∷ words) true (stopped_at (codes "live") words)
    (live_top words) (live_top_faultless words) refl no_top_defaults refl)

-- and have its rows
pub level_found : (words : List Text) (rows : List Row) → rows_after live_shape.rules [] words ≡ rows
    → subcommand_of lizdrog_app (codes "live" ∷ words) ≡ Some (codes "live", rows)
level_found words rows is =
    ap (λ (st : Walk). entered (built lizdrog_app) st.stopped) (live_top words)
    ∙ ap (λ found. Some (codes "live", found)) is

-- a plain live run keeps its meaning
pub plain_live : (e l n c s w : Text) (names : List Text) → IsPlain e → IsPlain l → IsPlain n → IsPlain c → IsPlain s → IsPlain w → ArePlain names
    → length names ≤ 100
    → words_of (codes "live" ∷ e ∷ l ∷ n ∷ c ∷ s ∷ w ∷ names)
    ≡ live_with None (Some (record { early = e; late = l; netlist = n; sdc = c; spef = s })) (within 1 32 w) (few_pairs names)
unfolding words_of
plain_live e l n c s w [] pe pl pn pc ps pw plain few =
    let words : List Text = e ∷ l ∷ n ∷ c ∷ s ∷ w ∷ [] in
    rw (
      level_taken words (live_faultless e l n c s w pe pl pn pc ps pw [] plain few),
      level_found words (all_rows e l n c s w []) (live_rows e l n c s w pe pl pn pc ps pw [] plain),
    ) refl
plain_live e l n c s w (x ∷ xs) pe pl pn pc ps pw plain few =
    let words : List Text = e ∷ l ∷ n ∷ c ∷ s ∷ w ∷ x ∷ xs in
    rw (
      level_taken words (live_faultless e l n c s w pe pl pn pc ps pw (x ∷ xs) plain few),
      level_found words (all_rows e l n c s w (x ∷ xs)) (live_rows e l n c s w pe pl pn pc ps pw (x ∷ xs) plain),
    ) refl
