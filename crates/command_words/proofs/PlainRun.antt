-- A plain run: its words are taken, and are the values of the command's words in order.
use Rattle.std.proofs.Common.{◌≡◌, ℕ, suc, ◌≤◌, Bool, true, false, List, [], ◌∷◌, ◌++◌, length, refl, ap, sym, ◌∙◌, arith, append_assoc, append-nil}
use Rattle.std.specs.Prelude.{Some, None, is_some, option_map, ◌==◌, codes}
use Rattle.std.specs.List.{fold}
use Rattle.std.specs.Prelude.{nat_lt}
use Rattle.std.proofs.lemmas.Bool.{le-ltb}
use Rattle.clap.specs.Walk.{Rule, Text, Names, Walk, idle, positional, Held, Row, walked, walk_from, nothing_held, settled, finished, rows_after}
use Rattle.clap.specs.Simple.{Shape, built, new_shape, names_of, entered, subcommand_of}
use Rattle.clap.specs.Kinds.{values_kinds}
use Rattle.clap.specs.Faults.{walk_fault, settle_fault, defaults_fault, check_fault, level_fault, entered_fault, fault_of}
use Rattle.clap.specs.declared.builder.value_parser.ValueParser.TheVariants.{String}
use Rattle.clap.proofs.OnLiterals.{clap_on_literals}
use Rattle.clap.specs.declared.parser.matches.ValueSource.TheVariants.{CommandLine}
use Rattle.clap.specs.declared.builder.value_parser.Reading.TheVariants as reading
use Rattle.command_words.specs.Plain.{IsPlain, ArePlain}
use Rattle.command_words.specs.Numbers.{within}
use Rattle.command_words.specs.Asked.{run}
use Rattle.command_words.specs.Command.{lizdrog_app, run_with, few_scripts, words_of}
use Rattle.command_words.proofs.PlainWalk.{standing, word_idle, word_more, turn_idle, turn_more, fault_behind}

abbrev pub first_shape : List Shape → Shape
first_shape [] = new_shape []
first_shape (s ∷ ss) = s

-- the subcommand `run` as it is built
abbrev pub run_shape : Shape
run_shape = first_shape (built lizdrog_app).subs

-- a word that was given
abbrev pub given : Text → List Text → Row
given id values = record { id = id; values = values; count = None; source = Some CommandLine; reading = reading.AsWritten }

-- these rows, and a positional whose words are being read
abbrev pub held_at : List Row → Text → List Text → Held
held_at rows id values = record { rows = rows; pending = Some (id, values); skip = 0 }

six_walked : (e l n c s w : Text) → IsPlain e → IsPlain l → IsPlain n → IsPlain c → IsPlain s → IsPlain w → (rest : List Text)
    → fold (walked run_shape.rules []) (walk_from nothing_held) (e ∷ l ∷ n ∷ c ∷ s ∷ w ∷ rest)
    ≡ fold (walked run_shape.rules [])
    (standing
    (held_at
    (given (codes "EARLY") (e ∷ []) ∷ given (codes "LATE") (l ∷ []) ∷ given (codes "NETLIST") (n ∷ []) ∷ given (codes "SDC") (c ∷ [])
    ∷ given (codes "SPEF") (s ∷ []) ∷ []) (codes "WORKERS") (w ∷ []))
    idle 7) rest
six_walked e l n c s w pe pl pn pc ps pw rest =
    let r : List Rule = run_shape.rules in
    let h1 : Held = held_at [] (codes "EARLY") (e ∷ []) in
    let r1 : List Row = given (codes "EARLY") (e ∷ []) ∷ [] in
    let h2 : Held = held_at r1 (codes "LATE") (l ∷ []) in
    let r2 : List Row = r1 ++ given (codes "LATE") (l ∷ []) ∷ [] in
    let h3 : Held = held_at r2 (codes "NETLIST") (n ∷ []) in
    let r3 : List Row = r2 ++ given (codes "NETLIST") (n ∷ []) ∷ [] in
    let h4 : Held = held_at r3 (codes "SDC") (c ∷ []) in
    let r4 : List Row = r3 ++ given (codes "SDC") (c ∷ []) ∷ [] in
    let h5 : Held = held_at r4 (codes "SPEF") (s ∷ []) in
    ap (λ x. fold (walked r []) x (l ∷ n ∷ c ∷ s ∷ w ∷ rest)) (word_idle r e pe nothing_held 1)
    ∙ (ap (λ x. fold (walked r []) x (n ∷ c ∷ s ∷ w ∷ rest)) (word_idle r l pl h1 2)
    ∙ (ap (λ x. fold (walked r []) x (c ∷ s ∷ w ∷ rest)) (word_idle r n pn h2 3)
    ∙ (ap (λ x. fold (walked r []) x (s ∷ w ∷ rest)) (word_idle r c pc h3 4)
    ∙ (ap (λ x. fold (walked r []) x (w ∷ rest)) (word_idle r s ps h4 5)
    ∙ ap (λ x. fold (walked r []) x rest) (word_idle r w pw h5 6)))))

abbrev five_rows : Text → Text → Text → Text → Text → List Row
five_rows e l n c s =
    given (codes "EARLY") (e ∷ []) ∷ given (codes "LATE") (l ∷ []) ∷ given (codes "NETLIST") (n ∷ []) ∷ given (codes "SDC") (c ∷ [])
    ∷ given (codes "SPEF") (s ∷ []) ∷ []

abbrev six_rows : Text → Text → Text → Text → Text → Text → List Row
six_rows e l n c s w = five_rows e l n c s ++ given (codes "WORKERS") (w ∷ []) ∷ []

abbrev all_rows : Text → Text → Text → Text → Text → Text → List Text → List Row
all_rows e l n c s w scripts = six_rows e l n c s w ++ given (codes "SCRIPT") scripts ∷ []

pub scripts_walked : (rows : List Row) (found scripts : List Text) → ArePlain scripts
    → fold (walked run_shape.rules []) (standing (held_at rows (codes "SCRIPT") found) positional 7) scripts
    ≡ standing (held_at rows (codes "SCRIPT") (found ++ scripts)) positional 7
scripts_walked rows found [] plain = ap (λ ws. standing (held_at rows (codes "SCRIPT") ws) positional 7) (sym (append-nil found))
scripts_walked rows found (x ∷ xs) plain =
    ap (λ st. fold (walked run_shape.rules []) st xs) (word_more run_shape.rules x plain.0 (held_at rows (codes "SCRIPT") found) 7)
    ∙ (scripts_walked rows (found ++ x ∷ []) xs plain.1
    ∙ ap (λ ws. standing (held_at rows (codes "SCRIPT") ws) positional 7) (append_assoc found (x ∷ []) xs))

all_walked : (e l n c s w x : Text) (xs : List Text) → IsPlain e → IsPlain l → IsPlain n → IsPlain c → IsPlain s → IsPlain w → IsPlain x → ArePlain xs
    → fold (walked run_shape.rules []) (walk_from nothing_held) (e ∷ l ∷ n ∷ c ∷ s ∷ w ∷ x ∷ xs)
    ≡ standing (held_at (six_rows e l n c s w) (codes "SCRIPT") (x ∷ xs)) positional 7
all_walked e l n c s w x xs pe pl pn pc ps pw px pxs =
    six_walked e l n c s w pe pl pn pc ps pw (x ∷ xs)
    ∙ (ap (λ st. fold (walked run_shape.rules []) st xs) (word_idle run_shape.rules x px (held_at (five_rows e l n c s) (codes "WORKERS") (w ∷ [])) 7)
    ∙ scripts_walked (six_rows e l n c s w) (x ∷ []) xs pxs)

-- the faults of these words: none
six_faultless : (e l n c s w x : Text) (xs : List Text) → IsPlain e → IsPlain l → IsPlain n → IsPlain c → IsPlain s → IsPlain w → IsPlain x
    → walk_fault run_shape [] (walk_from nothing_held) (e ∷ l ∷ n ∷ c ∷ s ∷ w ∷ x ∷ xs)
    ≡ walk_fault run_shape [] (standing (held_at (six_rows e l n c s w) (codes "SCRIPT") (x ∷ [])) positional 7) xs
six_faultless e l n c s w x xs pe pl pn pc ps pw px =
    let r : List Rule = run_shape.rules in
    let h1 : Held = held_at [] (codes "EARLY") (e ∷ []) in
    let r1 : List Row = given (codes "EARLY") (e ∷ []) ∷ [] in
    let h2 : Held = held_at r1 (codes "LATE") (l ∷ []) in
    let r2 : List Row = r1 ++ given (codes "LATE") (l ∷ []) ∷ [] in
    let h3 : Held = held_at r2 (codes "NETLIST") (n ∷ []) in
    let r3 : List Row = r2 ++ given (codes "NETLIST") (n ∷ []) ∷ [] in
    let h4 : Held = held_at r3 (codes "SDC") (c ∷ []) in
    let r4 : List Row = r3 ++ given (codes "SDC") (c ∷ []) ∷ [] in
    let h5 : Held = held_at r4 (codes "SPEF") (s ∷ []) in
    let h6 : Held = held_at (five_rows e l n c s) (codes "WORKERS") (w ∷ []) in
    fault_behind run_shape [] (standing nothing_held idle 1) e (l ∷ n ∷ c ∷ s ∷ w ∷ x ∷ xs) (turn_idle run_shape e pe nothing_held 1 refl)
    ∙ (ap (λ st. walk_fault run_shape [] st (l ∷ n ∷ c ∷ s ∷ w ∷ x ∷ xs)) (word_idle r e pe nothing_held 1)
    ∙ (fault_behind run_shape [] (standing h1 idle 2) l (n ∷ c ∷ s ∷ w ∷ x ∷ xs) (turn_idle run_shape l pl h1 2 refl)
    ∙ (ap (λ st. walk_fault run_shape [] st (n ∷ c ∷ s ∷ w ∷ x ∷ xs)) (word_idle r l pl h1 2)
    ∙ (fault_behind run_shape [] (standing h2 idle 3) n (c ∷ s ∷ w ∷ x ∷ xs) (turn_idle run_shape n pn h2 3 refl)
    ∙ (ap (λ st. walk_fault run_shape [] st (c ∷ s ∷ w ∷ x ∷ xs)) (word_idle r n pn h2 3)
    ∙ (fault_behind run_shape [] (standing h3 idle 4) c (s ∷ w ∷ x ∷ xs) (turn_idle run_shape c pc h3 4 refl)
    ∙ (ap (λ st. walk_fault run_shape [] st (s ∷ w ∷ x ∷ xs)) (word_idle r c pc h3 4)
    ∙ (fault_behind run_shape [] (standing h4 idle 5) s (w ∷ x ∷ xs) (turn_idle run_shape s ps h4 5 refl)
    ∙ (ap (λ st. walk_fault run_shape [] st (w ∷ x ∷ xs)) (word_idle r s ps h4 5)
    ∙ (fault_behind run_shape [] (standing h5 idle 6) w (x ∷ xs) (turn_idle run_shape w pw h5 6 refl)
    ∙ (ap (λ st. walk_fault run_shape [] st (x ∷ xs)) (word_idle r w pw h5 6)
    ∙ (fault_behind run_shape [] (standing h6 idle 7) x xs (turn_idle run_shape x px h6 7 refl)
    ∙ ap (λ st. walk_fault run_shape [] st xs) (word_idle r x px h6 7)))))))))))))

none_left : (st : Walk) → walk_fault run_shape [] st [] ≡ []
unfolding walk_fault
none_left st = refl

pub scripts_faultless : (rows : List Row) (found scripts : List Text) → ArePlain scripts
    → walk_fault run_shape [] (standing (held_at rows (codes "SCRIPT") found) positional 7) scripts ≡ []
scripts_faultless rows found [] plain = none_left (standing (held_at rows (codes "SCRIPT") found) positional 7)
scripts_faultless rows found (x ∷ xs) plain =
    fault_behind run_shape [] (standing (held_at rows (codes "SCRIPT") found) positional 7) x xs (turn_more run_shape x plain.0 (held_at rows (codes "SCRIPT") found) 7 refl)
    ∙ (ap (λ st. walk_fault run_shape [] st xs) (word_more run_shape.rules x plain.0 (held_at rows (codes "SCRIPT") found) 7)
    ∙ scripts_faultless rows (found ++ x ∷ []) xs plain.1)

-- one level, where nothing is at fault
pub level_none : (s : Shape) (names : Names) (words : List Text) (has : Bool) (end : Walk)
    → fold (walked s.rules names) (walk_from nothing_held) words ≡ end
    → walk_fault s names (walk_from nothing_held) words ≡ []
    → settle_fault s.rules s.args_override_self end.held ≡ []
    → defaults_fault (settled s.rules end.held).rows s.rules ≡ []
    → check_fault s (finished s.rules end.held) has ≡ []
    → level_fault s names nothing_held words has [] ≡ []
level_none s names words has end ends walk settle defaults check = rw (ends, walk, settle, defaults, check) refl

no_zero : (n : ℕ) → (suc n == 0) ≡ false
no_zero n = grind arith

-- the scripts are one or more, and not too many
pub scripts_settle : (rows : List Row) (x : Text) (xs : List Text) → length xs ≤ 100
    → settle_fault run_shape.rules run_shape.args_override_self (held_at rows (codes "SCRIPT") (x ∷ xs)) ≡ []
scripts_settle rows x xs few =
    let one : nat_lt (suc (length xs)) 1 ≡ false = le-ltb (suc (length xs)) 1 (omega arith) in
    let most : nat_lt 18446744073709551615 (suc (length xs)) ≡ false = le-ltb 18446744073709551615 (suc (length xs)) (omega (arith, few)) in
    rw (no_zero (length xs), one, most, all_pass xs) refl
  where
    all_pass : (ys : List Text) → values_kinds false String ys ≡ []
    all_pass [] = refl
    all_pass (y ∷ ys) = all_pass ys

scripts_defaults : (e l n c s w : Text) (scripts : List Text) → defaults_fault (all_rows e l n c s w scripts) run_shape.rules ≡ []
unfolding clap_on_literals
scripts_defaults e l n c s w scripts = refl

run_faultless : (e l n c s w x : Text) (xs : List Text) → IsPlain e → IsPlain l → IsPlain n → IsPlain c → IsPlain s → IsPlain w → IsPlain x → ArePlain xs
    → length xs ≤ 100 → level_fault run_shape [] nothing_held (e ∷ l ∷ n ∷ c ∷ s ∷ w ∷ x ∷ xs) false [] ≡ []
run_faultless e l n c s w x xs pe pl pn pc ps pw px pxs few =
    level_none run_shape [] (e ∷ l ∷ n ∷ c ∷ s ∷ w ∷ x ∷ xs) false (standing (held_at (six_rows e l n c s w) (codes "SCRIPT") (x ∷ xs)) positional 7)
    (all_walked e l n c s w x xs pe pl pn pc ps pw px pxs)
    (six_faultless e l n c s w x xs pe pl pn pc ps pw px ∙ scripts_faultless (six_rows e l n c s w) (x ∷ []) xs pxs)
    (scripts_settle (six_rows e l n c s w) x xs few)
    (scripts_defaults e l n c s w (x ∷ xs))
    refl

-- what `run` is given
run_rows : (e l n c s w x : Text) (xs : List Text) → IsPlain e → IsPlain l → IsPlain n → IsPlain c → IsPlain s → IsPlain w → IsPlain x → ArePlain xs
    → rows_after run_shape.rules [] (e ∷ l ∷ n ∷ c ∷ s ∷ w ∷ x ∷ xs) ≡ all_rows e l n c s w (x ∷ xs)
run_rows e l n c s w x xs pe pl pn pc ps pw px pxs =
    ap (λ st. finished run_shape.rules st.held) (all_walked e l n c s w x xs pe pl pn pc ps pw px pxs)

-- the words behind a subcommand's name
abbrev pub top_shape : Shape
top_shape = (built lizdrog_app).top

abbrev pub stopped_at : Text → List Text → Walk
stopped_at name words = record (walk_from nothing_held) { stopped = Some (name, words) }

pub top_walked : (name : Text) (found words : List Text)
    → fold (walked top_shape.rules (names_of (built lizdrog_app))) (stopped_at name found) words ≡ stopped_at name (found ++ words)
unfolding clap_on_literals
top_walked name found [] = ap (λ ws. stopped_at name ws) (sym (append-nil found))
top_walked name found (w ∷ ws) =
    top_walked name (found ++ w ∷ []) ws ∙ ap (λ all. stopped_at name all) (append_assoc found (w ∷ []) ws)

pub top_faultless : (name : Text) (found words : List Text)
    → walk_fault top_shape (names_of (built lizdrog_app)) (stopped_at name found) words ≡ []
unfolding clap_on_literals
top_faultless name found [] = refl
top_faultless name found (w ∷ ws) = top_faultless name (found ++ w ∷ []) ws

pub run_top : (words : List Text) → fold (walked top_shape.rules (names_of (built lizdrog_app))) (walk_from nothing_held) (codes "run" ∷ words) ≡ stopped_at (codes "run") words
unfolding clap_on_literals
run_top words = top_walked (codes "run") [] words

pub run_top_faultless : (words : List Text) → walk_fault top_shape (names_of (built lizdrog_app)) (walk_from nothing_held) (codes "run" ∷ words) ≡ []
unfolding clap_on_literals
run_top_faultless words = top_faultless (codes "run") [] words

pub no_top_defaults : defaults_fault [] top_shape.rules ≡ []
unfolding clap_on_literals
no_top_defaults = refl

-- a plain run is taken
run_taken : (e l n c s w x : Text) (xs : List Text) → IsPlain e → IsPlain l → IsPlain n → IsPlain c → IsPlain s → IsPlain w → IsPlain x → ArePlain xs
    → length xs ≤ 100 → fault_of lizdrog_app (codes "run" ∷ e ∷ l ∷ n ∷ c ∷ s ∷ w ∷ x ∷ xs) ≡ []
run_taken e l n c s w x xs pe pl pn pc ps pw px pxs few =
    let words : List Text = e ∷ l ∷ n ∷ c ∷ s ∷ w ∷ x ∷ xs in
    ap (λ (st : Walk). level_fault top_shape (names_of (built lizdrog_app)) nothing_held (codes "run" ∷ words) (is_some (entered (built lizdrog_app) st.stopped)) (entered_fault (built lizdrog_app) st.stopped))
    (run_top words)
    ∙ (ap (λ below. level_fault top_shape (names_of (built lizdrog_app)) nothing_held (codes "run" ∷ words) true below)
    (run_faultless e l n c s w x xs pe pl pn pc ps pw px pxs few)
    ∙ level_none top_shape (names_of (built lizdrog_app)) (codes "run" ∷ words) true (stopped_at (codes "run") words)
    (run_top words) (run_top_faultless words) refl no_top_defaults refl)

run_found : (e l n c s w x : Text) (xs : List Text) → IsPlain e → IsPlain l → IsPlain n → IsPlain c → IsPlain s → IsPlain w → IsPlain x → ArePlain xs
    → subcommand_of lizdrog_app (codes "run" ∷ e ∷ l ∷ n ∷ c ∷ s ∷ w ∷ x ∷ xs) ≡ Some (codes "run", all_rows e l n c s w (x ∷ xs))
run_found e l n c s w x xs pe pl pn pc ps pw px pxs =
    let words : List Text = e ∷ l ∷ n ∷ c ∷ s ∷ w ∷ x ∷ xs in
    ap (λ (st : Walk). entered (built lizdrog_app) st.stopped) (run_top words)
    ∙ ap (λ rows. Some (codes "run", rows)) (run_rows e l n c s w x xs pe pl pn pc ps pw px pxs)

-- and keeps its meaning
pub plain_run : (e l n c s w x : Text) (xs : List Text) → IsPlain e → IsPlain l → IsPlain n → IsPlain c → IsPlain s → IsPlain w → IsPlain x → ArePlain xs
    → length xs ≤ 100
    → words_of (codes "run" ∷ e ∷ l ∷ n ∷ c ∷ s ∷ w ∷ x ∷ xs)
    ≡ option_map run (run_with None (Some (record { early = e; late = l; netlist = n; sdc = c; spef = s })) (within 1 32 w) (few_scripts (x ∷ xs)))
unfolding words_of
plain_run e l n c s w x xs pe pl pn pc ps pw px pxs few =
    rw (run_taken e l n c s w x xs pe pl pn pc ps pw px pxs few, run_found e l n c s w x xs pe pl pn pc ps pw px pxs) refl
