-- Beginnings of what is done at a door.
use Rattle.std.proofs.Common.{◌≡◌, ℕ, ◌+◌, ◌≤◌, ◌++◌, List, [], ◌∷◌, length, map, take, true, false, refl, sym, ap, ◌∙◌, subst, arith, append_assoc, length-append, inl, inr}
use Rattle.std.specs.Prelude.{Bool, Option, Some, None, ◌⊎◌}
use Rattle.std.proofs.lemmas.List.{append-nil, append_cancel_right, map-append}
use Rattle.live_doors.specs.Doors.{Deed, heard, kept, said, IsPartOf}
use Rattle.script_reader.specs.declared.live.Item.{Item}
use Rattle.script_reader.specs.Scripts.{outside}
use Rattle.script_reader.specs.Live.{LivePlace, stands, live_line, item_list, items, place_behind}
use Rattle.live_session.specs.declared.replies.Manner.{Manner}
use Rattle.live_session.specs.declared.replies.Reply.{Reply}
use Rattle.live_session.specs.declared.replies.Reply.TheVariants.{Row as row, Error as error}
use Rattle.live_session.specs.Talks.{reply_text, marks_of, deeds_of, AreReplies, told_of, rest_of, end_item, dialogue, heard_items, IsCut}
use Rattle.live_session.specs.Moments.{heard_in, said_in, heard_count, Begins, IsMoment, IsTold, SaysUpTo}

heard_more : (a b : List Deed) → heard_in (a ++ b) ≡ heard_in a ++ heard_in b
heard_more [] b = refl
heard_more (heard x ∷ a) b = ap (λ l. x ∷ l) (heard_more a b)
heard_more (kept n ∷ a) b = heard_more a b
heard_more (said t ∷ a) b = heard_more a b

said_more : (a b : List Deed) → said_in (a ++ b) ≡ said_in a ++ said_in b
said_more [] b = refl
said_more (heard x ∷ a) b = said_more a b
said_more (kept n ∷ a) b = said_more a b
said_more (said t ∷ a) b = ap (λ l. t ∷ l) (said_more a b)

head_is : {X : Type 0} (x y : X) (xs ys : List X) → x ∷ xs ≡ y ∷ ys → x ≡ y
head_is x y xs ys e = cc

tail_is : {X : Type 0} (x y : X) (xs ys : List X) → x ∷ xs ≡ y ∷ ys → xs ≡ ys
tail_is x y xs ys e = cc

-- the item of one more deed lies in the first part, or behind it
parted : {X : Type 0} (a b now more : List X) (x : X) → a ++ b ≡ now ++ x ∷ more
    → ((rest : List X) × (a ≡ now ++ x ∷ rest)) ⊎ ((rest : List X) × (now ≡ a ++ rest) × (b ≡ rest ++ x ∷ more))
parted [] b now more x e = inr (now, refl, e)
parted (y ∷ a) b [] more x e = inl (a, ap (λ z. z ∷ a) (head_is y x (a ++ b) more e))
parted (y ∷ a) b (z ∷ now) more x e = elim (parted a b now more x (tail_is y z (a ++ b) (now ++ x ∷ more) e)) [
  | inl h ↦ inl (h.0, ap (λ l. y ∷ l) h.1 ∙ ap (λ w. w ∷ (now ++ x ∷ h.0)) (head_is y z (a ++ b) (now ++ x ∷ more) e))
  | inr h ↦ inr (h.0, ap (λ l. z ∷ l) h.1 ∙ ap (λ w. w ∷ (a ++ h.0)) (sym (head_is y z (a ++ b) (now ++ x ∷ more) e)), h.2)
]

-- of a reply that is told, no line is heard, and its text is said behind its mark
marked_hears : (keeps : Bool) (reply : Reply) (t : List ℕ) → heard_in (marks_of keeps reply ++ said t ∷ []) ≡ []
marked_hears true (row x) t = refl
marked_hears true (error w) t = refl
marked_hears false reply t = refl

marked_says : (keeps : Bool) (reply : Reply) (t : List ℕ) → said_in (marks_of keeps reply ++ said t ∷ []) ≡ t ∷ []
marked_says true (row x) t = refl
marked_says true (error w) t = refl
marked_says false reply t = refl

-- what was done before the text
marked_before : (keeps : Bool) (reply : Reply) (t text : List ℕ) (before after : List Deed)
    → marks_of keeps reply ++ said t ∷ [] ≡ before ++ said text ∷ after
    → (before ≡ marks_of keeps reply) × (text ≡ t) × (said_in before ≡ [])
marked_before true (row x) t text [] after e = absurd (cc)
marked_before true (row x) t text (b ∷ []) after e =
    let b_is : kept x.number ≡ b = head_is (kept x.number) b (said t ∷ []) (said text ∷ after) e in
    let same : said t ≡ said text = head_is (said t) (said text) [] after (tail_is (kept x.number) b (said t ∷ []) (said text ∷ after) e) in
    (ap (λ d. d ∷ []) (sym b_is), (cc), ap (λ d. said_in (d ∷ [])) (sym b_is))
marked_before true (row x) t text (b ∷ c ∷ []) after e = absurd (cc)
marked_before true (row x) t text (b ∷ c ∷ d ∷ before) after e = absurd (cc)
marked_before true (error w) t text [] after e = (refl, (cc), refl)
marked_before true (error w) t text (b ∷ []) after e = absurd (cc)
marked_before true (error w) t text (b ∷ c ∷ before) after e = absurd (cc)
marked_before false reply t text [] after e = (refl, (cc), refl)
marked_before false reply t text (b ∷ []) after e = absurd (cc)
marked_before false reply t text (b ∷ c ∷ before) after e = absurd (cc)

told_hears : (way : Manner) (what : Option Item) (r : List Reply) → heard_in (told_of way what r) ≡ []
told_hears way None r = refl
told_hears way (Some item) [] = refl
told_hears way (Some item) (reply ∷ r) = marked_hears way.keeps reply (reply_text way.clocks reply)

-- each item has one text, that of its reply
told_says : (way : Manner) (what : Option Item) (others : List Item) (r : List Reply) → AreReplies (item_list what ++ others) r
    → (map (reply_text way.clocks) r ≡ said_in (told_of way what r) ++ map (reply_text way.clocks) (rest_of what r))
    × (length (said_in (told_of way what r)) ≡ length (item_list what)) × AreReplies others (rest_of what r)
told_says way None others r g = (refl, refl, g)
told_says way (Some item) others [] g = absurd g
told_says way (Some item) others (reply ∷ r) g =
    let one = marked_says way.keeps reply (reply_text way.clocks reply) in
    (ap (λ l. l ++ map (reply_text way.clocks) r) (sym one), ap length one, g.1)

-- the replies that suit what is heard from a place on
abbrev Suit : Bool → LivePlace → ℕ → List (List ℕ) → List Reply → Type 0
Suit ended p n lines r = AreReplies (items p n lines ++ item_list (end_item ended (place_behind p n lines))) r

suit_on : (ended : Bool) (p : LivePlace) (n : ℕ) (x : List ℕ) (lines : List (List ℕ)) (r : List Reply) → Suit ended p n (x ∷ lines) r
    → AreReplies (item_list (live_line p n x).item ++ (items (live_line p n x).place (n + 1) lines
    ++ item_list (end_item ended (place_behind (live_line p n x).place (n + 1) lines)))) r
unfolding items place_behind
suit_on ended p n x lines r g =
    let next = (live_line p n x).place in
    subst (λ l. AreReplies l r) (append_assoc (item_list (live_line p n x).item) (items next (n + 1) lines) (item_list (end_item ended (place_behind next (n + 1) lines)))) g

nothing_left : (what : Option Item) (r : List Reply) → AreReplies (item_list what) r → rest_of what r ≡ []
nothing_left None [] g = refl
nothing_left None (x ∷ r) g = absurd g
nothing_left (Some item) [] g = absurd g
nothing_left (Some item) (x ∷ []) g = refl
nothing_left (Some item) (x ∷ y ∷ r) g = absurd g.1

all_said : (way : Manner) (ended : Bool) (p : LivePlace) (n : ℕ) (lines : List (List ℕ)) (r : List Reply) → Suit ended p n lines r
    → said_in (dialogue way ended p n lines r) ≡ map (reply_text way.clocks) r
unfolding items place_behind dialogue
all_said way ended p n [] r g =
    let what = end_item ended p in
    let one = told_says way what [] r (subst (λ l. AreReplies l r) (sym (append-nil (item_list what))) g) in
    sym (one.0 ∙ ap (λ l. said_in (told_of way what r) ++ map (reply_text way.clocks) l) (nothing_left what r g) ∙ append-nil (said_in (told_of way what r)))
all_said way ended p n (x ∷ lines) r g =
    let what = (live_line p n x).item in
    let next = (live_line p n x).place in
    let one = told_says way what (items next (n + 1) lines ++ item_list (end_item ended (place_behind next (n + 1) lines))) r (suit_on ended p n x lines r g) in
    said_more (told_of way what r) (dialogue way ended next (n + 1) lines (rest_of what r))
    ∙ ap (λ l. said_in (told_of way what r) ++ l) (all_said way ended next (n + 1) lines (rest_of what r) one.2)
    ∙ sym one.0

all_heard : (way : Manner) (ended : Bool) (p : LivePlace) (n : ℕ) (lines : List (List ℕ)) (r : List Reply) → heard_in (dialogue way ended p n lines r) ≡ lines
unfolding dialogue
all_heard way ended p n [] r = told_hears way (end_item ended p) r
all_heard way ended p n (x ∷ lines) r =
    let what = (live_line p n x).item in
    let next = (live_line p n x).place in
    ap (λ l. x ∷ l)
    (heard_more (told_of way what r) (dialogue way ended next (n + 1) lines (rest_of what r))
    ∙ ap (λ l. l ++ heard_in (dialogue way ended next (n + 1) lines (rest_of what r))) (told_hears way what r)
    ∙ all_heard way ended next (n + 1) lines (rest_of what r))

-- no line is heard among deeds of which none is a line
no_line : (a b more : List Deed) (line : List ℕ) → heard_in a ≡ [] → a ≡ b ++ heard line ∷ more → ⊥
no_line a b more line none e =
    let parts : heard_in a ≡ heard_in b ++ line ∷ heard_in more = ap heard_in e ∙ heard_more b (heard line ∷ more) in
    let long : length (heard_in b ++ line ∷ heard_in more) ≡ length (heard_in b) + length (line ∷ heard_in more) = length-append (heard_in b) (line ∷ heard_in more) in
    let short : length (heard_in b ++ line ∷ heard_in more) ≡ 0 = ap length (sym parts ∙ none) in
    omega (arith, long, short)

-- where a line is heard, what was heard before is answered
answered : (way : Manner) (ended : Bool) (p : LivePlace) (n : ℕ) (lines : List (List ℕ)) (r : List Reply) (before after : List Deed) (line : List ℕ)
    → Suit ended p n lines r → dialogue way ended p n lines r ≡ before ++ heard line ∷ after → length (said_in before) ≡ length (items p n (heard_in before))
unfolding items place_behind dialogue
answered way ended p n [] r before after line g e = absurd (no_line (told_of way (end_item ended p) r) before after line (told_hears way (end_item ended p) r) e)
answered way ended p n (x ∷ lines) r [] after line g e = refl
answered way ended p n (x ∷ lines) r (b ∷ before) after line g e =
    let what = (live_line p n x).item in
    let next = (live_line p n x).place in
    let told = told_of way what r in
    let later = dialogue way ended next (n + 1) lines (rest_of what r) in
    let one = told_says way what (items next (n + 1) lines ++ item_list (end_item ended (place_behind next (n + 1) lines))) r (suit_on ended p n x lines r g) in
    let first : b ≡ heard x = sym (head_is (heard x) b (told ++ later) (before ++ heard line ∷ after) e) in
    elim (parted told later before after (heard line) (tail_is (heard x) b (told ++ later) (before ++ heard line ∷ after) e)) [
      | inl h ↦ absurd (no_line told before h.0 line (told_hears way what r) h.1)
      | inr h ↦
          let ih = answered way ended next (n + 1) lines (rest_of what r) h.0 after line one.2 h.2 in
          let says : said_in (b ∷ before) ≡ said_in told ++ said_in h.0 =
          ap (λ d. said_in (d ∷ before)) first ∙ ap said_in h.1 ∙ said_more told h.0 in
          let hears : heard_in (b ∷ before) ≡ x ∷ heard_in h.0 =
          ap (λ d. heard_in (d ∷ before)) first ∙ ap (λ l. x ∷ heard_in l) h.1 ∙ ap (λ l. x ∷ l) (heard_more told h.0 ∙ ap (λ l. l ++ heard_in h.0) (told_hears way what r)) in
          let count : length (items p n (heard_in (b ∷ before))) ≡ length (item_list what) + length (items next (n + 1) (heard_in h.0)) =
          ap (λ l. length (items p n l)) hears ∙ length-append (item_list what) (items next (n + 1) (heard_in h.0)) in
          ap length says ∙ length-append (said_in told) (said_in h.0) ∙ ap (λ k. k + length (said_in h.0)) one.1 ∙ ap (λ k. length (item_list what) + k) ih ∙ sym count
    ]

-- a beginning of two parts ends in the first, or behind it
split : {X : Type 0} (a b now more : List X) → a ++ b ≡ now ++ more
    → ((rest : List X) × (a ≡ now ++ rest)) ⊎ ((rest : List X) × (now ≡ a ++ rest) × (b ≡ rest ++ more))
split [] b now more e = inr (now, refl, e)
split (y ∷ a) b [] more e = inl (y ∷ a, refl)
split (y ∷ a) b (z ∷ now) more e = elim (split a b now more (tail_is y z (a ++ b) (now ++ more) e)) [
  | inl h ↦ inl (h.0, ap (λ l. y ∷ l) h.1 ∙ ap (λ w. w ∷ (now ++ h.0)) (head_is y z (a ++ b) (now ++ more) e))
  | inr h ↦ inr (h.0, ap (λ l. z ∷ l) h.1 ∙ ap (λ w. w ∷ (a ++ h.0)) (sym (head_is y z (a ++ b) (now ++ more) e)), h.2)
]

none_heard : (a b more : List Deed) → heard_in a ≡ [] → a ≡ b ++ more → heard_in b ≡ []
none_heard a b more none e = none_first (heard_in b) (heard_in more) (sym (ap heard_in e ∙ heard_more b more) ∙ none)
  where
    none_first : (x y : List (List ℕ)) → x ++ y ≡ [] → x ≡ []
    none_first [] y h = refl
    none_first (z ∷ x) y h = absurd (cc)

one_at_most : (what : Option Item) → length (item_list what) ≤ 1
one_at_most None = omega arith
one_at_most (Some item) = omega arith

-- at most one item is unanswered
near : (way : Manner) (ended : Bool) (p : LivePlace) (n : ℕ) (lines : List (List ℕ)) (r : List Reply) (now more : List Deed)
    → Suit ended p n lines r → dialogue way ended p n lines r ≡ now ++ more → length (items p n (heard_in now)) ≤ length (said_in now) + 1
unfolding items place_behind dialogue
near way ended p n [] r now more g e =
    let none = none_heard (told_of way (end_item ended p) r) now more (told_hears way (end_item ended p) r) e in
    let few : length (items p n (heard_in now)) ≡ 0 = ap (λ l. length (items p n l)) none in
    omega (arith, few)
near way ended p n (x ∷ lines) r [] more g e = omega arith
near way ended p n (x ∷ lines) r (b ∷ now) more g e =
    let what = (live_line p n x).item in
    let next = (live_line p n x).place in
    let told = told_of way what r in
    let later = dialogue way ended next (n + 1) lines (rest_of what r) in
    let one = told_says way what (items next (n + 1) lines ++ item_list (end_item ended (place_behind next (n + 1) lines))) r (suit_on ended p n x lines r g) in
    let first : b ≡ heard x = sym (head_is (heard x) b (told ++ later) (now ++ more) e) in
    elim (split told later now more (tail_is (heard x) b (told ++ later) (now ++ more) e)) [
      | inl h ↦
          let hears : heard_in (b ∷ now) ≡ x ∷ [] = ap (λ d. heard_in (d ∷ now)) first ∙ ap (λ l. x ∷ l) (none_heard told now h.0 (told_hears way what r) h.1) in
          let count : length (items p n (heard_in (b ∷ now))) ≡ length (item_list what) + length {A = Item} [] =
          ap (λ l. length (items p n l)) hears ∙ length-append (item_list what) [] in
          let few = one_at_most what in
          omega (arith, count, few)
      | inr h ↦
          let ih = near way ended next (n + 1) lines (rest_of what r) h.0 more one.2 h.2 in
          let says : said_in (b ∷ now) ≡ said_in told ++ said_in h.0 =
          ap (λ d. said_in (d ∷ now)) first ∙ ap said_in h.1 ∙ said_more told h.0 in
          let hears : heard_in (b ∷ now) ≡ x ∷ heard_in h.0 =
          ap (λ d. heard_in (d ∷ now)) first ∙ ap (λ l. x ∷ heard_in l) h.1 ∙ ap (λ l. x ∷ l) (heard_more told h.0 ∙ ap (λ l. l ++ heard_in h.0) (told_hears way what r)) in
          let count : length (items p n (heard_in (b ∷ now))) ≡ length (item_list what) + length (items next (n + 1) (heard_in h.0)) =
          ap (λ l. length (items p n l)) hears ∙ length-append (item_list what) (items next (n + 1) (heard_in h.0)) in
          let many : length (said_in (b ∷ now)) ≡ length (said_in told) + length (said_in h.0) = ap length says ∙ length-append (said_in told) (said_in h.0) in
          let same = one.1 in
          omega (arith, ih, count, many, same)
    ]

-- the replies that are told of an item, in front of all others
front : (way : Manner) (what : Option Item) (r : List Reply)
    → (first : List Reply) × (r ≡ first ++ rest_of what r) × (said_in (told_of way what r) ≡ map (reply_text way.clocks) first)
front way None r = ([], refl, refl)
front way (Some item) [] = ([], refl, refl)
front way (Some item) (reply ∷ r) = (reply ∷ [], refl, marked_says way.keeps reply (reply_text way.clocks reply))

-- a text of what is told of an item
told_text : (way : Manner) (what : Option Item) (r : List Reply) (before after : List Deed) (text : List ℕ) → told_of way what r ≡ before ++ said text ∷ after
    → (reply : Reply) × (others : List Reply) × (r ≡ reply ∷ others) × (text ≡ reply_text way.clocks reply)
    × (before ≡ marks_of way.keeps reply) × (said_in before ≡ [])
told_text way None r [] after text e = absurd (cc)
told_text way None r (b ∷ before) after text e = absurd (cc)
told_text way (Some item) [] [] after text e = absurd (cc)
told_text way (Some item) [] (b ∷ before) after text e = absurd (cc)
told_text way (Some item) (reply ∷ r) before after text e =
    let m = marked_before way.keeps reply (reply_text way.clocks reply) text before after e in (reply, r, refl, m.1, m.0, m.2)

told : (way : Manner) (ended : Bool) (p : LivePlace) (n : ℕ) (lines : List (List ℕ)) (r : List Reply) (before after : List Deed) (text : List ℕ)
    → dialogue way ended p n lines r ≡ before ++ said text ∷ after → IsTold way r before text
unfolding dialogue
told way ended p n [] r before after text e =
    let t = told_text way (end_item ended p) r before after text e in ([], t.0, t.1, [], t.2, t.5, t.3, t.4)
told way ended p n (x ∷ lines) r [] after text e = absurd (cc)
told way ended p n (x ∷ lines) r (b ∷ before) after text e =
    let what = (live_line p n x).item in
    let next = (live_line p n x).place in
    let told_now = told_of way what r in
    let later = dialogue way ended next (n + 1) lines (rest_of what r) in
    let first : b ≡ heard x = sym (head_is (heard x) b (told_now ++ later) (before ++ said text ∷ after) e) in
    elim (parted told_now later before after (said text) (tail_is (heard x) b (told_now ++ later) (before ++ said text ∷ after) e)) [
      | inl h ↦
          let t = told_text way what r before h.0 text h.1 in
          ([], t.0, t.1, b ∷ [], t.2, ap (λ d. said_in (d ∷ before)) first ∙ t.5, t.3, ap (λ l. b ∷ l) t.4)
      | inr h ↦
          let t = told way ended next (n + 1) lines (rest_of what r) h.0 after text h.2 in
          let f = front way what r in (
            f.0 ++ t.0,
            t.1,
            t.2,
            b ∷ (told_now ++ t.3),
            f.1 ∙ ap (λ l. f.0 ++ l) t.4 ∙ sym (append_assoc f.0 t.0 (t.1 ∷ t.2)),
            ap (λ d. said_in (d ∷ before)) first ∙ ap said_in h.1 ∙ said_more told_now h.0 ∙ ap (λ l. l ++ said_in h.0) f.2
                ∙ ap (λ l. map (reply_text way.clocks) f.0 ++ l) t.5 ∙ sym (map-append (reply_text way.clocks) f.0 t.0),
            t.6,
            ap (λ l. b ∷ l) (h.1 ∙ ap (λ l. told_now ++ l) t.7 ∙ sym (append_assoc told_now t.3 (marks_of way.keeps t.1))),
          )
    ]

suited : (ended : Bool) (lines : List (List ℕ)) (r : List Reply) → AreReplies (heard_items ended lines) r → Suit ended (stands outside) 1 lines r
suited true lines r g = g
suited false lines r g = subst (λ l. AreReplies l r) (sym (append-nil (items (stands outside) 1 lines))) g

pub moment : (way : Manner) (ended : Bool) (lines : List (List ℕ)) (r : List Reply) (now more : List Deed) → Begins way ended lines r now more → IsMoment way lines r now
moment way ended lines r now more b =
    let suits = suited ended lines r b.0 in
    record {
      told = (said_in more, sym (said_more now more) ∙ sym (ap said_in b.1) ∙ all_said way ended (stands outside) 1 lines r suits);
      came = (heard_in more, sym (heard_more now more) ∙ sym (ap heard_in b.1) ∙ all_heard way ended (stands outside) 1 lines r);
      near = near way ended (stands outside) 1 lines r now more suits b.1;
    }

pub kept_before : (way : Manner) (ended : Bool) (lines : List (List ℕ)) (r : List Reply) (before after : List Deed) (text : List ℕ)
    → Begins way ended lines r before (said text ∷ after) → IsTold way r before text
kept_before way ended lines r before after text b = told way ended (stands outside) 1 lines r before after text b.1

pub answered_before : (way : Manner) (ended : Bool) (lines : List (List ℕ)) (r : List Reply) (before after : List Deed) (line : List ℕ)
    → Begins way ended lines r before (heard line ∷ after) → length (said_in before) ≡ heard_count before
answered_before way ended lines r before after line b =
    answered way ended (stands outside) 1 lines r before after line (suited ended lines r b.0) b.1

-- where the last reply is not told whole
pub before_last : (way : Manner) (ended : Bool) (lines : List (List ℕ)) (r : List Reply) (last : Reply) (before : List Deed)
    → Begins way ended lines (r ++ last ∷ []) before (deeds_of way last) → said_in before ≡ map (reply_text way.clocks) r
before_last way ended lines r last before b =
    let text = reply_text way.clocks last in
    let all = all_said way ended (stands outside) 1 lines (r ++ last ∷ []) (suited ended lines (r ++ last ∷ []) b.0) in
    append_cancel_right (said_in before) (map (reply_text way.clocks) r) (text ∷ [])
    (ap (λ l. said_in before ++ l) (sym (marked_says way.keeps last text))
    ∙ sym (said_more before (deeds_of way last))
    ∙ sym (ap said_in b.1)
    ∙ all
    ∙ map-append (reply_text way.clocks) r (last ∷ []))

says_part : (keeps : Bool) (last : Reply) (text : List ℕ) (piece : List Deed) → IsPartOf text piece
    → (said_in (marks_of keeps last ++ piece) ≡ []) ⊎ ((n : ℕ) × (said_in (marks_of keeps last ++ piece) ≡ take n text ∷ []))
says_part true (row x) text piece (inl is) = inl (ap said_in is)
says_part true (row x) text piece (inr (n, is)) = inr (n, ap said_in is)
says_part true (error w) text piece (inl is) = inl (ap said_in is)
says_part true (error w) text piece (inr (n, is)) = inr (n, ap said_in is)
says_part false last text piece (inl is) = inl (ap said_in is)
says_part false last text piece (inr (n, is)) = inr (n, ap said_in is)

pub cut_last : (way : Manner) (ended : Bool) (lines : List (List ℕ)) (r : List Reply) (last : Reply) (before part : List Deed)
    → Begins way ended lines (r ++ last ∷ []) before (deeds_of way last) → IsCut way last part → SaysUpTo way r last (before ++ part)
cut_last way ended lines r last before part b (piece, of, is) =
    let first = before_last way ended lines r last before b in
    let both : said_in (before ++ part) ≡ map (reply_text way.clocks) r ++ said_in (marks_of way.keeps last ++ piece) =
    said_more before part ∙ ap (λ l. l ++ said_in part) first ∙ ap (λ l. map (reply_text way.clocks) r ++ said_in l) is in
    elim (says_part way.keeps last (reply_text way.clocks last) piece of) [
      | inl h ↦ inl (both ∙ ap (λ l. map (reply_text way.clocks) r ++ l) h ∙ append-nil (map (reply_text way.clocks) r))
      | inr h ↦ inr (h.0, both ∙ ap (λ l. map (reply_text way.clocks) r ++ l) h.1)
    ]
