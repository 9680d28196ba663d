-- The rounds of a session, one behind the other.
use Rattle.std.proofs.Common.{◌≡◌, ℕ, ◌+◌, ◌++◌, List, [], ◌∷◌, length, true, false, refl, sym, ap, ◌∙◌, arith, append_assoc}
use Rattle.std.specs.Prelude.{Option, Some, None}
use Rattle.std.proofs.lemmas.List.{append-nil}
use Rattle.live_doors.specs.Doors.{heard}
use Rattle.script_reader.specs.declared.live.Item.{Item}
use Rattle.script_reader.specs.declared.live.Item.TheVariants.{Asked, Faulty}
use Rattle.script_reader.specs.Live.{LivePlace, live_line, live_end, item_list, items, place_behind}
use Rattle.live_session.specs.declared.replies.Manner.{Manner}
use Rattle.live_session.specs.declared.replies.Reply.{Reply}
use Rattle.live_session.specs.declared.replies.Reply.TheVariants.{Row as row, Error as error}
use Rattle.live_session.specs.Talks.{Telling, AreReplies, commands_in, rows_in, told_of, rest_of, dialogue, AreKept}

pub commands_more : (a b : List Item) → commands_in (a ++ b) ≡ commands_in a ++ commands_in b
commands_more [] b = refl
commands_more (Asked c ∷ a) b = ap (λ l. c ∷ l) (commands_more a b)
commands_more (Faulty w ∷ a) b = commands_more a b

pub rows_more : (a b : List Reply) → rows_in (a ++ b) ≡ rows_in a ++ rows_in b
rows_more [] b = refl
rows_more (row r ∷ a) b = ap (λ l. r ∷ l) (rows_more a b)
rows_more (error w ∷ a) b = rows_more a b

pub replies_more : (a b : List Item) (r s : List Reply) → AreReplies a r → AreReplies b s → AreReplies (a ++ b) (r ++ s)
replies_more [] b [] s g h = h
replies_more [] b (x ∷ r) s g h = absurd g
replies_more (i ∷ a) b [] s g h = absurd g
replies_more (i ∷ a) b (x ∷ r) s g h = (g.0, replies_more a b r s g.1 h)

pub kept_more : (way : Telling) (a b : List Reply) → AreKept way a → AreKept way b → AreKept way (a ++ b)
kept_more way [] b g h = h
kept_more way (x ∷ a) b g h = (g.0, kept_more way a b g.1 h)

-- one line more
pub items_more : (p : LivePlace) (n : ℕ) (lines : List (List ℕ)) (line : List ℕ)
    → items p n (lines ++ line ∷ []) ≡ items p n lines ++ item_list (live_line (place_behind p n lines) (n + length lines) line).item
unfolding items place_behind
items_more p n [] line =
    let numbered : n ≡ n + length {A = List ℕ} [] = omega arith in
    append-nil (item_list (live_line p n line).item) ∙ ap (λ k. item_list (live_line p k line).item) numbered
items_more p n (x ∷ lines) line =
    let what = (live_line p n x).item in
    let next = (live_line p n x).place in
    let numbered : (n + 1) + length lines ≡ n + length (x ∷ lines) = omega arith in
    ap (λ l. item_list what ++ l) (items_more next (n + 1) lines line)
    ∙ ap (λ k. item_list what ++ (items next (n + 1) lines ++ item_list (live_line (place_behind next (n + 1) lines) k line).item)) numbered
    ∙ sym (append_assoc (item_list what) (items next (n + 1) lines) (item_list (live_line (place_behind next (n + 1) lines) (n + length (x ∷ lines)) line).item))

pub place_more : (p : LivePlace) (n : ℕ) (lines : List (List ℕ)) (line : List ℕ)
    → place_behind p n (lines ++ line ∷ []) ≡ (live_line (place_behind p n lines) (n + length lines) line).place
unfolding place_behind
place_more p n [] line = let numbered : n ≡ n + length {A = List ℕ} [] = omega arith in ap (λ k. (live_line p k line).place) numbered
place_more p n (x ∷ lines) line =
    let next = (live_line p n x).place in
    let numbered : (n + 1) + length lines ≡ n + length (x ∷ lines) = omega arith in
    place_more next (n + 1) lines line ∙ ap (λ k. (live_line (place_behind next (n + 1) lines) k line).place) numbered

-- replies that come later stand behind those of the first item
told_first : (way : Manner) (what : Option Item) (others : List Item) (r more : List Reply) → AreReplies (item_list what ++ others) r
    → (told_of way what (r ++ more) ≡ told_of way what r) × (rest_of what (r ++ more) ≡ rest_of what r ++ more) × AreReplies others (rest_of what r)
told_first way None others r more g = (refl, refl, g)
told_first way (Some item) others [] more g = absurd g
told_first way (Some item) others (x ∷ r) more g = (refl, refl, g.1)

-- one line more, with what it ends
pub dialogue_more : (way : Manner) (p : LivePlace) (n : ℕ) (lines : List (List ℕ)) (line : List ℕ) (r more : List Reply) → AreReplies (items p n lines) r
    → dialogue way false p n (lines ++ line ∷ []) (r ++ more)
    ≡ dialogue way false p n lines r ++ heard line ∷ told_of way (live_line (place_behind p n lines) (n + length lines) line).item more
unfolding items place_behind dialogue
dialogue_more way p n [] line [] more g =
    let numbered : n ≡ n + length {A = List ℕ} [] = omega arith in
    ap (λ l. heard line ∷ l) (append-nil (told_of way (live_line p n line).item more) ∙ ap (λ k. told_of way (live_line p k line).item more) numbered)
dialogue_more way p n [] line (x ∷ r) more g = absurd g
dialogue_more way p n (x ∷ lines) line r more g =
    let what = (live_line p n x).item in
    let next = (live_line p n x).place in
    let parts = told_first way what (items next (n + 1) lines) r more g in
    let later = dialogue_more way next (n + 1) lines line (rest_of what r) more parts.2 in
    let numbered : (n + 1) + length lines ≡ n + length (x ∷ lines) = omega arith in
    ap (λ l. heard x ∷ l)
    (ap (λ l. l ++ dialogue way false next (n + 1) (lines ++ line ∷ []) (rest_of what (r ++ more))) parts.0
    ∙ ap (λ l. told_of way what r ++ dialogue way false next (n + 1) (lines ++ line ∷ []) l) parts.1
    ∙ ap (λ l. told_of way what r ++ l) later
    ∙ ap (λ k. told_of way what r ++ (dialogue way false next (n + 1) lines (rest_of what r) ++ heard line ∷ told_of way (live_line (place_behind next (n + 1) lines) k line).item more)) numbered
    ∙ sym (append_assoc (told_of way what r) (dialogue way false next (n + 1) lines (rest_of what r))
    (heard line ∷ told_of way (live_line (place_behind next (n + 1) lines) (n + length (x ∷ lines)) line).item more)))

-- the input's end
pub dialogue_end : (way : Manner) (p : LivePlace) (n : ℕ) (lines : List (List ℕ)) (r more : List Reply) → AreReplies (items p n lines) r
    → dialogue way true p n lines (r ++ more) ≡ dialogue way false p n lines r ++ told_of way (live_end (place_behind p n lines)) more
unfolding items place_behind dialogue
dialogue_end way p n [] [] more g = refl
dialogue_end way p n [] (x ∷ r) more g = absurd g
dialogue_end way p n (x ∷ lines) r more g =
    let what = (live_line p n x).item in
    let next = (live_line p n x).place in
    let parts = told_first way what (items next (n + 1) lines) r more g in
    let later = dialogue_end way next (n + 1) lines (rest_of what r) more parts.2 in
    ap (λ l. heard x ∷ l)
    (ap (λ l. l ++ dialogue way true next (n + 1) lines (rest_of what (r ++ more))) parts.0
    ∙ ap (λ l. told_of way what r ++ dialogue way true next (n + 1) lines l) parts.1
    ∙ ap (λ l. told_of way what r ++ l) later
    ∙ sym (append_assoc (told_of way what r) (dialogue way false next (n + 1) lines (rest_of what r)) (told_of way (live_end (place_behind next (n + 1) lines)) more)))
