-- A plain generated run: its words are taken, and are the values of the command's words in order.
use Rattle.std.proofs.Common.{◌≡◌, true, false, List, [], ◌∷◌, ◌++◌, refl, ap, ◌∙◌}
use Rattle.std.specs.Prelude.{Some, is_some, option_map, codes}
use Rattle.std.specs.List.{fold}
use Rattle.clap.specs.Walk.{Rule, Text, Walk, idle, Held, Row, walked, walk_from, nothing_held, finished, rows_after}
use Rattle.clap.specs.Simple.{Shape, built, names_of, entered, subcommand_of}
use Rattle.clap.specs.Faults.{walk_fault, defaults_fault, level_fault, entered_fault, fault_of}
use Rattle.clap.proofs.OnLiterals.{clap_on_literals}
use Rattle.command_words.specs.Plain.{IsPlain}
use Rattle.command_words.specs.Numbers.{within, multiple_within}
use Rattle.command_words.specs.Asked.{generate}
use Rattle.command_words.specs.Command.{lizdrog_app, generate_with, words_of}
use Rattle.command_words.proofs.PlainWalk.{standing, word_idle, turn_idle, fault_behind}
use Rattle.command_words.proofs.PlainRun.{first_shape, given, held_at, level_none, top_shape, stopped_at, top_walked, top_faultless, no_top_defaults}

abbrev behind_first : List Shape → List Shape
behind_first [] = []
behind_first (s ∷ ss) = ss

-- the subcommand `generate` as it is built
abbrev generate_shape : Shape
generate_shape = first_shape (behind_first (built lizdrog_app).subs)

abbrev two_rows : Text → Text → List Row
two_rows n g = given (codes "NUMBER") (n ∷ []) ∷ given (codes "GATES") (g ∷ []) ∷ []

three_walked : (n g e : Text) → IsPlain n → IsPlain g → IsPlain e
    → fold (walked generate_shape.rules []) (walk_from nothing_held) (n ∷ g ∷ e ∷ []) ≡ standing (held_at (two_rows n g) (codes "EDITS") (e ∷ [])) idle 4
three_walked n g e pn pg pe =
    let r : List Rule = generate_shape.rules in
    let h1 : Held = held_at [] (codes "NUMBER") (n ∷ []) in
    let h2 : Held = held_at (given (codes "NUMBER") (n ∷ []) ∷ []) (codes "GATES") (g ∷ []) in
    ap (λ x. fold (walked r []) x (g ∷ e ∷ [])) (word_idle r n pn nothing_held 1)
    ∙ (ap (λ x. fold (walked r []) x (e ∷ [])) (word_idle r g pg h1 2)
    ∙ word_idle r e pe h2 3)

none_left : (st : Walk) → walk_fault generate_shape [] st [] ≡ []
unfolding walk_fault
none_left st = refl

three_faultless : (n g e : Text) → IsPlain n → IsPlain g → IsPlain e → walk_fault generate_shape [] (walk_from nothing_held) (n ∷ g ∷ e ∷ []) ≡ []
three_faultless n g e pn pg pe =
    let r : List Rule = generate_shape.rules in
    let h1 : Held = held_at [] (codes "NUMBER") (n ∷ []) in
    let h2 : Held = held_at (given (codes "NUMBER") (n ∷ []) ∷ []) (codes "GATES") (g ∷ []) in
    fault_behind generate_shape [] (standing nothing_held idle 1) n (g ∷ e ∷ []) (turn_idle generate_shape n pn nothing_held 1 refl)
    ∙ (ap (λ st. walk_fault generate_shape [] st (g ∷ e ∷ [])) (word_idle r n pn nothing_held 1)
    ∙ (fault_behind generate_shape [] (standing h1 idle 2) g (e ∷ []) (turn_idle generate_shape g pg h1 2 refl)
    ∙ (ap (λ st. walk_fault generate_shape [] st (e ∷ [])) (word_idle r g pg h1 2)
    ∙ (fault_behind generate_shape [] (standing h2 idle 3) e [] (turn_idle generate_shape e pe h2 3 refl)
    ∙ none_left (walked r [] (standing h2 idle 3) e)))))

abbrev three_rows : Text → Text → Text → List Row
three_rows n g e = two_rows n g ++ given (codes "EDITS") (e ∷ []) ∷ []

no_defaults : (n g e : Text) → defaults_fault (three_rows n g e) generate_shape.rules ≡ []
unfolding clap_on_literals
no_defaults n g e = refl

generate_faultless : (n g e : Text) → IsPlain n → IsPlain g → IsPlain e → level_fault generate_shape [] nothing_held (n ∷ g ∷ e ∷ []) false [] ≡ []
generate_faultless n g e pn pg pe =
    level_none generate_shape [] (n ∷ g ∷ e ∷ []) false (standing (held_at (two_rows n g) (codes "EDITS") (e ∷ [])) idle 4)
    (three_walked n g e pn pg pe) (three_faultless n g e pn pg pe) refl (no_defaults n g e) refl

generate_top : (words : List Text)
    → fold (walked top_shape.rules (names_of (built lizdrog_app))) (walk_from nothing_held) (codes "generate" ∷ words) ≡ stopped_at (codes "generate") words
unfolding clap_on_literals
generate_top words = top_walked (codes "generate") [] words

generate_top_faultless : (words : List Text) → walk_fault top_shape (names_of (built lizdrog_app)) (walk_from nothing_held) (codes "generate" ∷ words) ≡ []
unfolding clap_on_literals
generate_top_faultless words = top_faultless (codes "generate") [] words

generate_taken : (n g e : Text) → IsPlain n → IsPlain g → IsPlain e → fault_of lizdrog_app (codes "generate" ∷ n ∷ g ∷ e ∷ []) ≡ []
generate_taken n g e pn pg pe =
    let words : List Text = n ∷ g ∷ e ∷ [] in
    ap (λ (st : Walk). level_fault top_shape (names_of (built lizdrog_app)) nothing_held (codes "generate" ∷ words) (is_some (entered (built lizdrog_app) st.stopped)) (entered_fault (built lizdrog_app) st.stopped))
    (generate_top words)
    ∙ (ap (λ below. level_fault top_shape (names_of (built lizdrog_app)) nothing_held (codes "generate" ∷ words) true below) (generate_faultless n g e pn pg pe)
    ∙ level_none top_shape (names_of (built lizdrog_app)) (codes "generate" ∷ words) true (stopped_at (codes "generate") words)
    (generate_top words) (generate_top_faultless words) refl no_top_defaults refl)

generate_rows : (n g e : Text) → IsPlain n → IsPlain g → IsPlain e → rows_after generate_shape.rules [] (n ∷ g ∷ e ∷ []) ≡ three_rows n g e
generate_rows n g e pn pg pe = ap (λ st. finished generate_shape.rules st.held) (three_walked n g e pn pg pe)

generate_found : (n g e : Text) → IsPlain n → IsPlain g → IsPlain e
    → subcommand_of lizdrog_app (codes "generate" ∷ n ∷ g ∷ e ∷ []) ≡ Some (codes "generate", three_rows n g e)
generate_found n g e pn pg pe =
    ap (λ (st : Walk). entered (built lizdrog_app) st.stopped) (generate_top (n ∷ g ∷ e ∷ []))
    ∙ ap (λ rows. Some (codes "generate", rows)) (generate_rows n g e pn pg pe)

-- and keeps its meaning
pub plain_generate : (n g e : Text) → IsPlain n → IsPlain g → IsPlain e
    → words_of (codes "generate" ∷ n ∷ g ∷ e ∷ [])
    ≡ option_map generate (generate_with (within 0 18446744073709551615 n) (multiple_within 4 40000 g) (multiple_within 0 4000 e))
unfolding words_of
plain_generate n g e pn pg pe = rw (generate_taken n g e pn pg pe, generate_found n g e pn pg pe) refl
