-- The words of an edit are read back as the edit.
use Rattle.std.proofs.Common.{◌≡◌, ℕ, ◌+◌, ◌^◌, ◌<◌, ◌≤◌, Bool, true, false, List, [], ◌∷◌, ◌++◌, length, refl, ap, sym, arith, append_assoc, append-nil, ◌∙◌}
use Rattle.std.specs.Prelude.{Option, Some, None, is_some, Result, Ok, Err, codes, decimal, pos, negsuc, nat_abs, ℤ, ◌==◌, nat_le}
use Rattle.std.specs.List.{list_all, flat_map}
use Rattle.std.proofs.lemmas.Bool.{and_from, and_parts, le-leb, ne_eqb}
use Rattle.std.proofs.lemmas.List.Folds.{list_all-append}
use Rattle.timing_defs.specs.Names.{is_name}
use Rattle.timing_defs.specs.Output.{word, edit_text, cap_text, res_text, rc_text, rc_node_text, whole_text}
use Rattle.timing_defs.specs.declared.parasitics.RcNode.{RcNode}
use Rattle.timing_defs.specs.declared.parasitics.RcNode.TheVariants.{Pin, Inner}
use Rattle.timing_defs.specs.declared.parasitics.RcCap.{RcCap}
use Rattle.timing_defs.specs.declared.parasitics.RcRes.{RcRes}
use Rattle.timing_defs.specs.declared.parasitics.NetRc.{NetRc}
use Rattle.timing_defs.specs.declared.edits.Edit.{Edit}
use Rattle.timing_defs.specs.declared.edits.Edit.TheVariants.{Repower, InsertGate, RemoveGate, InsertNet, RemoveNet, Connect, Disconnect, InsertBuffer, SetParasitics}
use Rattle.eco_journal.specs.declared.stops.Stop.{Stop}
use Rattle.eco_journal.specs.Lines.{placed}
use Rattle.eco_journal.specs.Words.{number_of, is_word}
use Rattle.eco_journal.specs.Items.{ItemWords, cap, res, item, cut_items, node_of, is_node, size_of, cap_of, res_of, with_item, with_items, built, rc_of, bare, most}
use Rattle.eco_journal.specs.EditLines.{texts_of, buffer, parasitics, edit_of}
use Rattle.eco_journal.specs.Written.{IsName, IsNode, IsSize, AreCaps, AreRess, IsRc, IsEdit}
use Rattle.eco_journal.proofs.Joined.{graphic, joined, name_graphic}
use Rattle.eco_journal.proofs.NumbersBack.{decimal_graphic, decimal_name, number_back}

-- the words of items
abbrev pub cap_words : RcCap → List (List ℕ)
cap_words c = codes "c" ∷ rc_node_text c.node ∷ whole_text c.cap.0 ∷ []

abbrev pub res_words : RcRes → List (List ℕ)
res_words r = codes "r" ∷ rc_node_text r.a ∷ rc_node_text r.b ∷ whole_text r.res.0 ∷ []

abbrev pub items_words : List RcCap → List RcRes → List (List ℕ)
items_words caps ress = flat_map cap_words caps ++ flat_map res_words ress

abbrev pub rc_words : Option NetRc → List (List ℕ)
rc_words None = codes "none" ∷ []
rc_words (Some rc) = items_words rc.caps rc.ress

-- the first word of an edit, and the others
abbrev pub verb_of : Edit → List ℕ
verb_of (Repower inst cell) = codes "repower_gate"
verb_of (InsertGate inst cell) = codes "insert_gate"
verb_of (RemoveGate inst) = codes "remove_gate"
verb_of (InsertNet net) = codes "insert_net"
verb_of (RemoveNet net) = codes "remove_net"
verb_of (Connect pin net) = codes "connect_pin"
verb_of (Disconnect pin) = codes "disconnect_pin"
verb_of (InsertBuffer net inst fresh cell sinks) = codes "insert_buffer"
verb_of (SetParasitics net rc) = codes "set_parasitics"

abbrev pub args_of : Edit → List (List ℕ)
args_of (Repower inst cell) = inst ∷ cell ∷ []
args_of (InsertGate inst cell) = inst ∷ cell ∷ []
args_of (RemoveGate inst) = inst ∷ []
args_of (InsertNet net) = net ∷ []
args_of (RemoveNet net) = net ∷ []
args_of (Connect pin net) = pin ∷ net ∷ []
args_of (Disconnect pin) = pin ∷ []
args_of (InsertBuffer net inst fresh cell sinks) = net ∷ inst ∷ fresh ∷ cell ∷ sinks
args_of (SetParasitics net rc) = net ∷ rc_words rc

-- the text of an edit is its words, joined by single blanks
one : (verb a : List ℕ) → verb ++ word a ≡ joined verb (a ∷ [])
one verb a = rw (append-nil (word a)) refl

two : (verb a b : List ℕ) → verb ++ word a ++ word b ≡ joined verb (a ∷ b ∷ [])
two verb a b = rw (append-nil (word b), append_assoc verb (word a) (word b)) refl

pub more : (verb a b c d : List ℕ) (rest : List ℕ)
    → verb ++ word a ++ word b ++ word c ++ word d ++ rest ≡ verb ++ (word a ++ (word b ++ (word c ++ (word d ++ rest))))
more verb a b c d rest =
    rw (
      append_assoc (verb ++ word a ++ word b ++ word c) (word d) rest,
      append_assoc (verb ++ word a ++ word b) (word c) (word d ++ rest),
      append_assoc (verb ++ word a) (word b) (word c ++ (word d ++ rest)),
      append_assoc verb (word a) (word b ++ (word c ++ (word d ++ rest))),
    ) refl

flat_append : {X : Type 0} (f : X → List ℕ) → (xs ys : List X) → flat_map f (xs ++ ys) ≡ flat_map f xs ++ flat_map f ys
flat_append f [] ys = refl
flat_append f (x ∷ xs) ys = rw (flat_append f xs ys) (sym (append_assoc (f x) (flat_map f xs) (flat_map f ys)))

cap_line : (c : RcCap) → cap_text c ≡ flat_map word (cap_words c)
cap_line c =
    rw (
      append-nil (word (whole_text c.cap.0)),
      append_assoc (codes " c") (word (rc_node_text c.node)) (word (whole_text c.cap.0)),
    ) refl

res_line : (r : RcRes) → res_text r ≡ flat_map word (res_words r)
res_line r =
    rw (
      append-nil (word (whole_text r.res.0)),
      append_assoc (codes " r" ++ word (rc_node_text r.a)) (word (rc_node_text r.b)) (word (whole_text r.res.0)),
      append_assoc (codes " r") (word (rc_node_text r.a)) (word (rc_node_text r.b) ++ word (whole_text r.res.0)),
    ) refl

caps_line : (cs : List RcCap) → flat_map cap_text cs ≡ flat_map word (flat_map cap_words cs)
caps_line [] = refl
caps_line (c ∷ cs) =
    ap (λ (text : List ℕ). text ++ flat_map cap_text cs) (cap_line c)
    ∙ (ap (λ (text : List ℕ). flat_map word (cap_words c) ++ text) (caps_line cs)
    ∙ sym (flat_append word (cap_words c) (flat_map cap_words cs)))

ress_line : (rs : List RcRes) → flat_map res_text rs ≡ flat_map word (flat_map res_words rs)
ress_line [] = refl
ress_line (r ∷ rs) =
    ap (λ (text : List ℕ). text ++ flat_map res_text rs) (res_line r)
    ∙ (ap (λ (text : List ℕ). flat_map word (res_words r) ++ text) (ress_line rs)
    ∙ sym (flat_append word (res_words r) (flat_map res_words rs)))

rc_line : (rc : Option NetRc) → rc_text rc ≡ flat_map word (rc_words rc)
rc_line None = refl
rc_line (Some rc) =
    rw (flat_append word (flat_map cap_words rc.caps) (flat_map res_words rc.ress), caps_line rc.caps, ress_line rc.ress) refl

pub edit_line : (e : Edit) → edit_text e ≡ joined (verb_of e) (args_of e)
edit_line (Repower inst cell) = two (codes "repower_gate") inst cell
edit_line (InsertGate inst cell) = two (codes "insert_gate") inst cell
edit_line (RemoveGate inst) = one (codes "remove_gate") inst
edit_line (InsertNet net) = one (codes "insert_net") net
edit_line (RemoveNet net) = one (codes "remove_net") net
edit_line (Connect pin net) = two (codes "connect_pin") pin net
edit_line (Disconnect pin) = one (codes "disconnect_pin") pin
edit_line (InsertBuffer net inst fresh cell sinks) = more (codes "insert_buffer") net inst fresh cell (flat_map word sinks)
edit_line (SetParasitics net rc) = rw (rc_line rc, append_assoc (codes "set_parasitics") (word net) (flat_map word (rc_words rc))) refl

-- numbers of aF and mΩ, and nodes
size_small : (z : ℤ) → IsSize z → nat_abs z < 2 ^ 64
size_small (pos n) h = omega (arith, h)
size_small (negsuc n) h = absurd h

size_same : (z : ℤ) → IsSize z → pos (nat_abs z) ≡ z
size_same (pos n) h = refl
size_same (negsuc n) h = absurd h

size_most : (z : ℤ) → IsSize z → nat_abs z ≤ most
size_most (pos n) h = h
size_most (negsuc n) h = absurd h

size_is : (z : ℤ) (at : ℕ) → IsSize z → is_word (record { text = whole_text z; at = at }) ≡ true
size_is z at h = decimal_name (nat_abs z) (size_small z h)

size_back : (z : ℤ) (at : ℕ) → IsSize z → size_of (record { text = whole_text z; at = at }) ≡ Ok (nat_abs z)
size_back z at h = grind (arith, number_back (nat_abs z) (size_small z h), size_most z h)

node_is : (node : RcNode) (at : ℕ) → IsNode node → is_node (record { text = rc_node_text node; at = at }) ≡ true
node_is (Pin name) at h = rw (h.0, h.1) refl
node_is (Inner k) at h =
    let small : k < 2 ^ 64 = omega (arith, h) in
    let named : is_name (35 ∷ decimal k) ≡ true = grind (arith, decimal_graphic k small) in
    let numbered : is_some (number_of (decimal k)) ≡ true = rw (number_back k small) refl in
    and_from (is_name (35 ∷ decimal k)) (is_some (number_of (decimal k))) named numbered

node_back : (node : RcNode) (at : ℕ) → IsNode node → node_of (record { text = rc_node_text node; at = at }) ≡ Ok node
node_back (Pin name) at h = rw (h.1, h.0) refl
node_back (Inner k) at h = grind (arith, number_back k (omega (arith, h)))

cap_back : (c : RcCap) (i j : ℕ) → IsNode c.node → IsSize c.cap.0
    → cap_of (record { text = rc_node_text c.node; at = i }) (record { text = whole_text c.cap.0; at = j }) ≡ Ok c
cap_back c i j node size =
    rw (node_back c.node i node, size_back c.cap.0 j size) (ap (λ (z : ℤ). Ok (record c { cap = record { 0 = z } })) (size_same c.cap.0 size))

res_back : (r : RcRes) (i j k : ℕ) → IsNode r.a → IsNode r.b → IsSize r.res.0
    → res_of (record { text = rc_node_text r.a; at = i }) (record { text = rc_node_text r.b; at = j }) (record { text = whole_text r.res.0; at = k }) ≡ Ok r
res_back r i j k a b size =
    rw (node_back r.a i a, node_back r.b j b, size_back r.res.0 k size)
    (ap (λ (z : ℤ). Ok (record r { res = record { 0 = z } })) (size_same r.res.0 size))

items_append : (told : Result NetRc Stop) (xs ys : List ItemWords) → with_items told (xs ++ ys) ≡ with_items (with_items told xs) ys
unfolding with_items
items_append told [] ys = refl
items_append (Ok rc) (x ∷ xs) ys = items_append (with_item rc x) xs ys
items_append (Err stop) (x ∷ xs) ys = items_append (Err stop) xs ys

one_item : (told : Result NetRc Stop) (rc rc' : NetRc) (xs : List ItemWords) (x : ItemWords)
    → with_items told xs ≡ Ok rc → with_item rc x ≡ Ok rc' → with_items told (xs ++ x ∷ []) ≡ Ok rc'
unfolding with_items
one_item told rc rc' xs x before here = rw (items_append told xs (x ∷ []), before) here

-- the words of a capacitance
cap_step : (c : RcCap) (at : ℕ) (items : List ItemWords) (rest : List (List ℕ)) → IsNode c.node → IsSize c.cap.0
    → cut_items false (item true) items (placed at (codes "c" ∷ rc_node_text c.node ∷ whole_text c.cap.0 ∷ rest))
    ≡ cut_items false (item true)
    (items ++ cap (record { text = rc_node_text c.node; at = at + 1 + 1 })
    (record { text = whole_text c.cap.0; at = at + 1 + 1 + length (rc_node_text c.node) + 1 }) ∷ [])
    (placed (at + 1 + 1 + length (rc_node_text c.node) + 1 + length (whole_text c.cap.0) + 1) rest)
unfolding cut_items placed
cap_step c at items rest node size =
    rw (node_is c.node (at + 1 + 1) node, size_is c.cap.0 (at + 1 + 1 + length (rc_node_text c.node) + 1) size) refl

-- the words of a resistance
res_step : (r : RcRes) (at : ℕ) (caps : Bool) (items : List ItemWords) (rest : List (List ℕ)) → IsNode r.a → IsNode r.b → IsSize r.res.0
    → cut_items false (item caps) items (placed at (codes "r" ∷ rc_node_text r.a ∷ rc_node_text r.b ∷ whole_text r.res.0 ∷ rest))
    ≡ cut_items false (item false)
    (items ++ res (record { text = rc_node_text r.a; at = at + 1 + 1 })
    (record { text = rc_node_text r.b; at = at + 1 + 1 + length (rc_node_text r.a) + 1 })
    (record { text = whole_text r.res.0; at = at + 1 + 1 + length (rc_node_text r.a) + 1 + length (rc_node_text r.b) + 1 }) ∷ [])
    (placed (at + 1 + 1 + length (rc_node_text r.a) + 1 + length (rc_node_text r.b) + 1 + length (whole_text r.res.0) + 1) rest)
unfolding cut_items placed
res_step r at caps items rest a b size =
    rw (
      node_is r.a (at + 1 + 1) a,
      node_is r.b (at + 1 + 1 + length (rc_node_text r.a) + 1) b,
      size_is r.res.0 (at + 1 + 1 + length (rc_node_text r.a) + 1 + length (rc_node_text r.b) + 1) size,
    ) refl

-- the words from a place on make these parasitics, where the items before them make those
abbrev pub Makes : List ℕ → Bool → NetRc → List (List ℕ) → NetRc → Type 0
Makes net caps before words rc =
    (at : ℕ) (items : List ItemWords) → with_items (Ok (bare net)) items ≡ Ok before
    → built net (cut_items false (item caps) items (placed at words)) ≡ Ok rc

no_items : (net : List ℕ) (caps : Bool) (rc : NetRc) → Makes net caps rc [] rc
unfolding cut_items placed
no_items net caps rc = λ at items same. same

ress_back : (net : List ℕ) (caps : Bool) (before : NetRc) (rs : List RcRes) → AreRess rs
    → Makes net caps before (flat_map res_words rs) (record before { ress = before.ress ++ rs })
ress_back net caps before [] h = λ at items same. rw (append-nil before.ress) (no_items net caps before at items same)
ress_back net caps before (r ∷ rs) h = λ at items same.
    let here = res_back r (at + 1 + 1) (at + 1 + 1 + length (rc_node_text r.a) + 1)
    (at + 1 + 1 + length (rc_node_text r.a) + 1 + length (rc_node_text r.b) + 1) h.0 h.1 h.2 in
    rw (res_step r at caps items (flat_map res_words rs) h.0 h.1 h.2, ← append_assoc before.ress (r ∷ []) rs)
    (ress_back net false (record before { ress = before.ress ++ r ∷ [] }) rs h.3 _ _ (one_item _ before _ items _ same (rw here refl)))

caps_back : (net : List ℕ) (before : NetRc) (cs : List RcCap) (rest : List (List ℕ)) (rc : NetRc) → AreCaps cs
    → Makes net true (record before { caps = before.caps ++ cs }) rest rc
    → Makes net true before (flat_map cap_words cs ++ rest) rc
caps_back net before [] rest rc h behind = λ at items same. behind at items (rw (append-nil before.caps) same)
caps_back net before (c ∷ cs) rest rc h behind = λ at items same.
    let here = cap_back c (at + 1 + 1) (at + 1 + 1 + length (rc_node_text c.node) + 1) h.0 h.1 in
    rw (append_assoc (cap_words c) (flat_map cap_words cs) rest, cap_step c at items (flat_map cap_words cs ++ rest) h.0 h.1)
    (caps_back net (record before { caps = before.caps ++ c ∷ [] }) cs rest rc h.2
    (rw (append_assoc before.caps (c ∷ []) cs) behind) _ _ (one_item _ before _ items _ same (rw here refl)))

-- the parasitics of a net without lumped capacitance, by their parts
same_rc : (rc : NetRc) (net : List ℕ) → rc.net ≡ net → rc.lump.0 ≡ pos 0
    → record { net = net; caps = rc.caps; ress = rc.ress; lump = record { 0 = pos 0 } } ≡ rc
same_rc rc net named unlumped = λ i. record { net = sym named i; caps = rc.caps; ress = rc.ress; lump = record { 0 = sym unlumped i } }

items_back : (net : List ℕ) (rc : NetRc) (at : ℕ) → rc.net ≡ net → rc.lump.0 ≡ pos 0 → AreCaps rc.caps → AreRess rc.ress
    → rc_of false net (placed at (items_words rc.caps rc.ress)) ≡ Ok rc
unfolding with_items
items_back net rc at named unlumped caps ress =
    caps_back net (bare net) rc.caps (flat_map res_words rc.ress)
    (record { net = net; caps = rc.caps; ress = rc.ress; lump = record { 0 = pos 0 } }) caps
    (ress_back net true (record (bare net) { caps = rc.caps }) rc.ress ress) at [] refl
    ∙ ap (λ (x : NetRc). Ok x) (same_rc rc net named unlumped)

placed_many : (words : List (List ℕ)) (at : ℕ) → length (placed at words) ≡ length words
unfolding placed
placed_many [] at = refl
placed_many (w ∷ ws) at = grind (arith, placed_many ws (at + length w + 1))

-- parasitics of three words or more behind the net
many_back : (net a b c : List ℕ) (rest : List (List ℕ)) (rc : NetRc) (at : ℕ) → IsName net
    → ((i : ℕ) → rc_of false net (placed i (a ∷ b ∷ c ∷ rest)) ≡ Ok rc)
    → parasitics false (placed at (codes "set_parasitics" ∷ net ∷ a ∷ b ∷ c ∷ rest)) ≡ Ok (SetParasitics net (Some rc))
unfolding placed
many_back net a b c rest rc at named read =
    let words = codes "set_parasitics" ∷ net ∷ a ∷ b ∷ c ∷ rest in
    let many = placed_many words at in
    let long : nat_le 3 (length (placed at words)) ≡ true = le-leb 3 (length (placed at words)) (omega (arith, many)) in
    let other : (length (placed at words) == 3) ≡ false = ne_eqb (length (placed at words)) 3 (λ same. omega (arith, many, same)) in
    rw (long, named, other, read (at + 14 + 1 + length net + 1)) refl

some_back : (net : List ℕ) (rc : NetRc) (at : ℕ) (caps : List RcCap) (ress : List RcRes) → IsName net → 0 < length caps + length ress
    → ((i : ℕ) → rc_of false net (placed i (items_words caps ress)) ≡ Ok rc)
    → parasitics false (placed at (codes "set_parasitics" ∷ net ∷ items_words caps ress)) ≡ Ok (SetParasitics net (Some rc))
some_back net rc at [] [] named some read = absurd (omega (arith, some))
some_back net rc at [] (r ∷ rs) named some read =
    many_back net (codes "r") (rc_node_text r.a) (rc_node_text r.b) (whole_text r.res.0 ∷ flat_map res_words rs) rc at named read
some_back net rc at (c ∷ cs) ress named some read =
    many_back net (codes "c") (rc_node_text c.node) (whole_text c.cap.0) (flat_map cap_words cs ++ flat_map res_words ress) rc at named read

parasitics_back : (net : List ℕ) (rc : Option NetRc) (at : ℕ) → IsName net → IsRc net rc
    → parasitics false (placed at (codes "set_parasitics" ∷ net ∷ rc_words rc)) ≡ Ok (SetParasitics net rc)
unfolding placed
parasitics_back net None at named h = rw named refl
parasitics_back net (Some rc) at named h =
    some_back net rc at rc.caps rc.ress named h.4 (λ i. items_back net rc i h.0 h.1 h.2 h.3)

-- names at places
names_are : (names : List (List ℕ)) (at : ℕ) → list_all is_name names ≡ true → list_all is_word (placed at names) ≡ true
unfolding placed
names_are [] at h = refl
names_are (n ∷ ns) at h =
    let parts = and_parts (is_name n) (list_all is_name ns) h in
    and_from (is_name n) _ parts.0 (names_are ns (at + length n + 1) parts.1)

texts_back : (names : List (List ℕ)) (at : ℕ) → texts_of (placed at names) ≡ names
unfolding placed
texts_back [] at = refl
texts_back (n ∷ ns) at = ap (λ (rest : List (List ℕ)). n ∷ rest) (texts_back ns (at + length n + 1))

buffer_back : (net inst fresh cell sink : List ℕ) (sinks : List (List ℕ)) (at : ℕ) → IsName net → IsName inst → IsName fresh → IsName cell
    → list_all is_name (sink ∷ sinks) ≡ true
    → buffer (placed at (codes "insert_buffer" ∷ net ∷ inst ∷ fresh ∷ cell ∷ sink ∷ sinks)) ≡ Ok (InsertBuffer net inst fresh cell (sink ∷ sinks))
unfolding placed
buffer_back net inst fresh cell sink sinks at hn hi hf hc hs =
    let end = at + 13 + 1 + length net + 1 + length inst + 1 + length fresh + 1 + length cell + 1 in
    let words = codes "insert_buffer" ∷ net ∷ inst ∷ fresh ∷ cell ∷ sink ∷ sinks in
    let long : nat_le 6 (length (placed at words)) ≡ true = le-leb 6 (length (placed at words)) (omega (arith, placed_many words at)) in
    let are : list_all is_word (placed end (sink ∷ sinks)) ≡ true = names_are (sink ∷ sinks) end hs in
    let same : texts_of (placed end (sink ∷ sinks)) ≡ sink ∷ sinks = texts_back (sink ∷ sinks) end in
    rw (long, hn, hi, hf, hc, are, same) refl

-- the words of a lawful edit are read back as the edit
pub edit_back : (e : Edit) (at : ℕ) → IsEdit e → edit_of false (placed at (verb_of e ∷ args_of e)) ≡ Ok e
unfolding edit_of placed
edit_back (Repower inst cell) at h = rw (h.0, h.1) refl
edit_back (InsertGate inst cell) at h = rw (h.0, h.1) refl
edit_back (RemoveGate inst) at h = rw h refl
edit_back (InsertNet net) at h = rw h refl
edit_back (RemoveNet net) at h = rw h refl
edit_back (Connect pin net) at h = rw (h.0, h.1) refl
edit_back (Disconnect pin) at h = rw h refl
edit_back (InsertBuffer net inst fresh cell []) at h = absurd (omega (arith, h.5))
edit_back (InsertBuffer net inst fresh cell (sink ∷ sinks)) at h = buffer_back net inst fresh cell sink sinks at h.0 h.1 h.2 h.3 h.4
edit_back (SetParasitics net rc) at h = parasitics_back net rc at h.0 h.1

-- these words are graphic
node_graphic : (node : RcNode) → IsNode node → graphic (rc_node_text node) ≡ true
node_graphic (Pin name) h = name_graphic name h.0
node_graphic (Inner k) h = grind (arith, decimal_graphic k (omega (arith, h)))

caps_graphic : (cs : List RcCap) → AreCaps cs → list_all graphic (flat_map cap_words cs) ≡ true
caps_graphic [] h = refl
caps_graphic (c ∷ cs) h =
    rw (node_graphic c.node h.0, decimal_graphic (nat_abs c.cap.0) (size_small c.cap.0 h.1)) (caps_graphic cs h.2)

ress_graphic : (rs : List RcRes) → AreRess rs → list_all graphic (flat_map res_words rs) ≡ true
ress_graphic [] h = refl
ress_graphic (r ∷ rs) h =
    rw (node_graphic r.a h.0, node_graphic r.b h.1, decimal_graphic (nat_abs r.res.0) (size_small r.res.0 h.2)) (ress_graphic rs h.3)

names_graphic : (names : List (List ℕ)) → list_all is_name names ≡ true → list_all graphic names ≡ true
names_graphic [] h = refl
names_graphic (n ∷ ns) h =
    let parts = and_parts (is_name n) (list_all is_name ns) h in
    and_from (graphic n) _ (name_graphic n parts.0) (names_graphic ns parts.1)

rc_graphic : (net : List ℕ) (rc : Option NetRc) → IsRc net rc → list_all graphic (rc_words rc) ≡ true
rc_graphic net None h = refl
rc_graphic net (Some rc) h =
    rw (list_all-append graphic (flat_map cap_words rc.caps) (flat_map res_words rc.ress))
    (and_from _ _ (caps_graphic rc.caps h.2) (ress_graphic rc.ress h.3))

pub verb_graphic : (e : Edit) → graphic (verb_of e) ≡ true
verb_graphic (Repower inst cell) = refl
verb_graphic (InsertGate inst cell) = refl
verb_graphic (RemoveGate inst) = refl
verb_graphic (InsertNet net) = refl
verb_graphic (RemoveNet net) = refl
verb_graphic (Connect pin net) = refl
verb_graphic (Disconnect pin) = refl
verb_graphic (InsertBuffer net inst fresh cell sinks) = refl
verb_graphic (SetParasitics net rc) = refl

pub args_graphic : (e : Edit) → IsEdit e → list_all graphic (args_of e) ≡ true
args_graphic (Repower inst cell) h = rw (name_graphic inst h.0, name_graphic cell h.1) refl
args_graphic (InsertGate inst cell) h = rw (name_graphic inst h.0, name_graphic cell h.1) refl
args_graphic (RemoveGate inst) h = rw (name_graphic inst h) refl
args_graphic (InsertNet net) h = rw (name_graphic net h) refl
args_graphic (RemoveNet net) h = rw (name_graphic net h) refl
args_graphic (Connect pin net) h = rw (name_graphic pin h.0, name_graphic net h.1) refl
args_graphic (Disconnect pin) h = rw (name_graphic pin h) refl
args_graphic (InsertBuffer net inst fresh cell sinks) h =
    rw (name_graphic net h.0, name_graphic inst h.1, name_graphic fresh h.2, name_graphic cell h.3) (names_graphic sinks h.4)
args_graphic (SetParasitics net rc) h = rw (name_graphic net h.0) (rc_graphic net rc h.1)
