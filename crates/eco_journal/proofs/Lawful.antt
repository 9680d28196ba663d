-- What lines of edits are read as can be written.
use Rattle.std.proofs.Common.{◌≡◌, ℕ, ◌+◌, ◌<◌, ◌≤◌, Bool, true, false, List, [], ◌∷◌, ◌++◌, length, drop, refl, subst, arith, length-append}
use Rattle.std.specs.Prelude.{Option, Some, None, Result, Ok, Err, codes, pos, if◌then◌else◌, ◌==◌, ◌&&◌, nat_le}
use Rattle.std.specs.Str.{bytes_eq}
use Rattle.std.specs.List.{list_all}
use Rattle.std.proofs.lemmas.Bool.{cond_both, and_parts, leb-true}
use Rattle.std.proofs.lemmas.Grind.{common_steps}
use Rattle.timing_defs.specs.Names.{is_name}
use Rattle.timing_defs.specs.declared.codes.ReadFault.{ReadFault}
use Rattle.timing_defs.specs.declared.parasitics.RcNode.{RcNode}
use Rattle.timing_defs.specs.declared.parasitics.RcCap.{RcCap}
use Rattle.timing_defs.specs.declared.parasitics.RcRes.{RcRes}
use Rattle.timing_defs.specs.declared.parasitics.NetRc.{NetRc}
use Rattle.timing_defs.specs.declared.edits.Edit.{Edit}
use Rattle.timing_defs.specs.declared.edits.Edit.TheVariants.{Repower, InsertGate, RemoveGate, InsertNet, RemoveNet, Connect, Disconnect}
use Rattle.timing_defs.specs.declared.edits.Eco.{Eco}
use Rattle.eco_journal.specs.declared.stops.Stop.{Stop}
use Rattle.eco_journal.specs.Lines.{Part, words_of, lines_of}
use Rattle.eco_journal.specs.Words.{text, says, is_word, number_of, within}
use Rattle.eco_journal.specs.Stops.{then_make, or_flawed}
use Rattle.eco_journal.specs.Items.{ItemWords, cap, res, Place, item, cap_node, cap_size, res_from, res_to, res_size, cut_items, inner, inner_node, node_from, node_of, size_of, cap_of, cap_on, cap_at, res_of, res_from_node, res_to_node, res_at, with_cap, with_res, with_item, with_items, bare, built, rc_of, most, is_node}
use Rattle.eco_journal.specs.EditLines.{names, one_name, two_names, pair_of, texts_of, buffer, is_dropped, replaced, parasitics, edit_of}
use Rattle.eco_journal.specs.Journal.{edit_at, at_line, eco_edits, eco_step, eco_more, eco_whole, eco_of}
use Rattle.eco_journal.specs.Written.{IsName, IsNode, IsSize, AreCaps, AreRess, IsRc, IsEdit, AreEdits, IsEco}

-- a value that is there meets a condition
abbrev pub IfThere : {X E : Type 0} → (X → Type 0) → Result X E → Type 0
IfThere P (Ok x) = P x
IfThere P (Err e) = Unit {0}

-- a test
test : {X E : Type 0} (P : X → Type 0) (b : Bool) (x : X) (e : E) → (b ≡ true → P x) → IfThere P (if b then Ok x else Err e)
test P b x e good = cond_both b (Ok x) (Err e) (IfThere P) good (λ _. tt)

made : {X Y : Type 0} (P : X → Type 0) (Q : Y → Type 0) (f : X → Y) (r : Result X Stop) → ((x : X) → P x → Q (f x)) → IfThere P r → IfThere Q (then_make f r)
made P Q f (Ok x) step h = step x h
made P Q f (Err stop) step h = tt

one_named : (words : List Part) → IfThere IsName (one_name words)
one_named words =
    test IsName (length words == 2 && names words 1) (text words 1) _ (λ h. (and_parts (length words == 2) (names words 1) h).1)

abbrev AreTwo : List ℕ × List ℕ → Type 0
AreTwo pair = IsName pair.0 × IsName pair.1

two_named : (words : List Part) → IfThere AreTwo (two_names words)
two_named words =
    test AreTwo (length words == 3 && names words 1 && names words 2) (text words 1, text words 2) _ (λ h.
    let outer = and_parts (length words == 3 && names words 1) (names words 2) h in
    ((and_parts (length words == 3) (names words 1) outer.0).1, outer.1))

-- nodes, sizes and items
inner_lawful : (text digits : List ℕ) (at : ℕ) (k : Option ℕ) → IfThere IsNode (inner_node at (within 0 4294967295 k))
inner_lawful text digits at None = tt
inner_lawful text digits at (Some k) =
    cond_both (nat_le 0 k && nat_le k 4294967295) (Some k) None (λ found. IfThere IsNode (inner_node at found))
    (λ h. leb-true k 4294967295 (and_parts (nat_le 0 k) (nat_le k 4294967295) h).1) (λ _. tt)

from_lawful : (word : Part) (digits : Option (List ℕ)) → inner word.text ≡ digits → IfThere IsNode (node_from word digits)
from_lawful word None plain = test IsNode (is_name word.text) _ _ (λ h. (h, plain))
from_lawful word (Some digits) plain = inner_lawful word.text digits word.at (number_of digits)

node_lawful : (word : Part) → IfThere IsNode (node_of word)
node_lawful word = from_lawful word (inner word.text) refl

abbrev IsMost : ℕ → Type 0
IsMost n = n ≤ most

within_most : (at : ℕ) (n : Option ℕ) → IfThere IsMost (or_flawed at (within 0 most n))
within_most at None = tt
within_most at (Some n) =
    cond_both (nat_le 0 n && nat_le n most) (Some n) None (λ found. IfThere IsMost (or_flawed at found))
    (λ h. leb-true n most (and_parts (nat_le 0 n) (nat_le n most) h).1) (λ _. tt)

abbrev IsCap : RcCap → Type 0
IsCap c = IsNode c.node × IsSize c.cap.0

abbrev IsRes : RcRes → Type 0
IsRes r = IsNode r.a × IsNode r.b × IsSize r.res.0

cap_at_lawful : (node : RcNode) (size : Result ℕ Stop) → IsNode node → IfThere IsMost size → IfThere IsCap (cap_at node size)
cap_at_lawful node (Ok n) h few = (h, few)
cap_at_lawful node (Err stop) h few = tt

cap_on_lawful : (size : Part) (node : Result RcNode Stop) → IfThere IsNode node → IfThere IsCap (cap_on size node)
cap_on_lawful size (Ok node) h = cap_at_lawful node (size_of size) h (within_most size.at (number_of size.text))
cap_on_lawful size (Err stop) h = tt

res_at_lawful : (a b : RcNode) (size : Result ℕ Stop) → IsNode a → IsNode b → IfThere IsMost size → IfThere IsRes (res_at a b size)
res_at_lawful a b (Ok n) ha hb few = (ha, hb, few)
res_at_lawful a b (Err stop) ha hb few = tt

res_to_lawful : (size : Part) (a : RcNode) (b : Result RcNode Stop) → IsNode a → IfThere IsNode b → IfThere IsRes (res_to_node size a b)
res_to_lawful size a (Ok b) ha hb = res_at_lawful a b (size_of size) ha hb (within_most size.at (number_of size.text))
res_to_lawful size a (Err stop) ha hb = tt

res_from_lawful : (b size : Part) (a : Result RcNode Stop) → IfThere IsNode a → IfThere IsRes (res_from_node b size a)
res_from_lawful b size (Ok a) h = res_to_lawful size a (node_of b) h (node_lawful b)
res_from_lawful b size (Err stop) h = tt

-- parasitics of a net with so many items
abbrev Holds : List ℕ → ℕ → NetRc → Type 0
Holds net n rc = (rc.net ≡ net) × (rc.lump.0 ≡ pos 0) × AreCaps rc.caps × AreRess rc.ress × (length rc.caps + length rc.ress ≡ n)

caps_more : (cs : List RcCap) (c : RcCap) → AreCaps cs → IsCap c → AreCaps (cs ++ c ∷ [])
caps_more [] c hs h = (h.0, h.1, tt)
caps_more (d ∷ ds) c hs h = (hs.0, hs.1, caps_more ds c hs.2 h)

ress_more : (rs : List RcRes) (r : RcRes) → AreRess rs → IsRes r → AreRess (rs ++ r ∷ [])
ress_more [] r hs h = (h.0, h.1, h.2, tt)
ress_more (d ∷ ds) r hs h = (hs.0, hs.1, hs.2, ress_more ds r hs.3 h)

with_cap_holds : (net : List ℕ) (n : ℕ) (rc : NetRc) (c : Result RcCap Stop) → Holds net n rc → IfThere IsCap c → IfThere (Holds net (n + 1)) (with_cap rc c)
with_cap_holds net n rc (Ok c) h hc = (h.0, h.1, caps_more rc.caps c h.2 hc, h.3, grind (arith, length-append rc.caps (c ∷ []), h.4))
with_cap_holds net n rc (Err stop) h hc = tt

with_res_holds : (net : List ℕ) (n : ℕ) (rc : NetRc) (r : Result RcRes Stop) → Holds net n rc → IfThere IsRes r → IfThere (Holds net (n + 1)) (with_res rc r)
with_res_holds net n rc (Ok r) h hr = (h.0, h.1, h.2, ress_more rc.ress r h.3 hr, grind (arith, length-append rc.ress (r ∷ []), h.4))
with_res_holds net n rc (Err stop) h hr = tt

with_item_holds : (net : List ℕ) (n : ℕ) (rc : NetRc) (i : ItemWords) → Holds net n rc → IfThere (Holds net (n + 1)) (with_item rc i)
with_item_holds net n rc (cap node size) h = with_cap_holds net n rc (cap_of node size) h (cap_on_lawful size (node_of node) (node_lawful node))
with_item_holds net n rc (res a b size) h = with_res_holds net n rc (res_of a b size) h (res_from_lawful b size (node_of a) (node_lawful a))

with_items_hold : (net : List ℕ) (n : ℕ) (told : Result NetRc Stop) (items : List ItemWords)
    → IfThere (Holds net n) told → IfThere (Holds net (n + length items)) (with_items told items)
unfolding with_items
with_items_hold net n (Ok rc) [] h = let same : n + 0 ≡ n = omega arith in rw same h
with_items_hold net n (Err stop) [] h = tt
with_items_hold net n (Err stop) (i ∷ is) h =
    let same : n + length (i ∷ is) ≡ n + 1 + length is = omega arith in
    rw same (with_items_hold net (n + 1) (Err stop) is tt)
with_items_hold net n (Ok rc) (i ∷ is) h =
    let same : n + length (i ∷ is) ≡ n + 1 + length is = omega arith in
    rw same (with_items_hold net (n + 1) (with_item rc i) is (with_item_holds net n rc i h))

-- words that are there make an item
abbrev AreThere : Option (List ItemWords) → Type 0
AreThere None = Unit {0}
AreThere (Some items) = 0 < length items

abbrev Waits : Place → List ItemWords → List Part → Type 0
Waits (item caps) items words = 0 < length items + length words
Waits cap_node items words = Unit {0}
Waits (cap_size node) items words = Unit {0}
Waits res_from items words = Unit {0}
Waits (res_to a) items words = Unit {0}
Waits (res_size a b) items words = Unit {0}

some_items : (mixed : Bool) (place : Place) (items : List ItemWords) (words : List Part) → Waits place items words → AreThere (cut_items mixed place items words)
unfolding cut_items
some_items mixed (item caps) items [] h = omega (arith, h)
some_items mixed (item caps) items (w ∷ ws) h =
    cond_both (bytes_eq w.text (codes "c") && caps) _ _ AreThere (λ _. some_items mixed cap_node items ws tt)
    (λ _. cond_both (bytes_eq w.text (codes "r")) _ _ AreThere (λ _. some_items mixed res_from items ws tt) (λ _. tt))
some_items mixed cap_node items [] h = tt
some_items mixed cap_node items (w ∷ ws) h = cond_both (is_node w) _ _ AreThere (λ _. some_items mixed (cap_size w) items ws tt) (λ _. tt)
some_items mixed (cap_size node) items [] h = tt
some_items mixed (cap_size node) items (w ∷ ws) h =
    cond_both (is_word w) _ _ AreThere
    (λ _. some_items mixed (item true) (items ++ cap node w ∷ []) ws (grind (arith, length-append items (cap node w ∷ [])))) (λ _. tt)
some_items mixed res_from items [] h = tt
some_items mixed res_from items (w ∷ ws) h = cond_both (is_node w) _ _ AreThere (λ _. some_items mixed (res_to w) items ws tt) (λ _. tt)
some_items mixed (res_to a) items [] h = tt
some_items mixed (res_to a) items (w ∷ ws) h = cond_both (is_node w) _ _ AreThere (λ _. some_items mixed (res_size a w) items ws tt) (λ _. tt)
some_items mixed (res_size a b) items [] h = tt
some_items mixed (res_size a b) items (w ∷ ws) h =
    cond_both (is_word w) _ _ AreThere
    (λ _. some_items mixed (item mixed) (items ++ res a b w ∷ []) ws (grind (arith, length-append items (res a b w ∷ [])))) (λ _. tt)

abbrev IsRcOf : List ℕ → NetRc → Type 0
IsRcOf net rc = IsRc net (Some rc)

more_lawful : (net : List ℕ) (n : ℕ) (rc : NetRc) → 0 < n → Holds net n rc → IsRcOf net rc
more_lawful net n rc some h = (h.0, h.1, h.2, h.3, omega (arith, h.4, some))

each : {X E : Type 0} (P Q : X → Type 0) (r : Result X E) → ((x : X) → P x → Q x) → IfThere P r → IfThere Q r
each P Q (Ok x) step h = step x h
each P Q (Err e) step h = tt

built_lawful : (net : List ℕ) (items : Option (List ItemWords)) → AreThere items → IfThere (IsRcOf net) (built net items)
built_lawful net None h = tt
built_lawful net (Some items) h =
    each (Holds net (0 + length items)) (IsRcOf net) (with_items (Ok (bare net)) items) (λ rc holds. more_lawful net (0 + length items) rc (omega (arith, h)) holds)
    (with_items_hold net 0 (Ok (bare net)) items (refl, refl, tt, tt, refl))

parasitics_lawful : (mixed : Bool) (words : List Part) → IfThere IsEdit (parasitics mixed words)
parasitics_lawful mixed words =
    cond_both (nat_le 3 (length words) && names words 1) _ _ (IfThere IsEdit) (λ h.
    let parts = and_parts (nat_le 3 (length words)) (names words 1) h in
    let behind : 0 < 0 + length (drop 2 words) = grind (arith, common_steps, leb-true 3 (length words) parts.0) in
    cond_both (is_dropped words) _ _ (IfThere IsEdit) (λ _. (parts.1, tt)) (λ _.
    made (IsRcOf (text words 1)) IsEdit (replaced (text words 1)) (rc_of mixed (text words 1) (drop 2 words)) (λ rc lawful. (parts.1, lawful))
    (built_lawful (text words 1) (cut_items mixed (item true) [] (drop 2 words)) (some_items mixed (item true) [] (drop 2 words) behind)))) (λ _. tt)

texts_named : (words : List Part) → list_all is_word words ≡ true → list_all is_name (texts_of words) ≡ true
texts_named [] h = refl
texts_named (w ∷ ws) h =
    let parts = and_parts (is_word w) (list_all is_word ws) h in
    rw (parts.0, texts_named ws parts.1) refl

texts_many : (words : List Part) → length (texts_of words) ≡ length words
texts_many [] = refl
texts_many (w ∷ ws) = grind (arith, texts_many ws)

buffer_lawful : (words : List Part) → IfThere IsEdit (buffer words)
buffer_lawful words =
    cond_both (nat_le 6 (length words) && names words 1 && names words 2 && names words 3 && names words 4 && list_all is_word (drop 5 words)) _ _ (IfThere IsEdit) (λ h.
    let h5 = and_parts (nat_le 6 (length words) && names words 1 && names words 2 && names words 3 && names words 4) (list_all is_word (drop 5 words)) h in
    let h4 = and_parts (nat_le 6 (length words) && names words 1 && names words 2 && names words 3) (names words 4) h5.0 in
    let h3 = and_parts (nat_le 6 (length words) && names words 1 && names words 2) (names words 3) h4.0 in
    let h2 = and_parts (nat_le 6 (length words) && names words 1) (names words 2) h3.0 in
    let h1 = and_parts (nat_le 6 (length words)) (names words 1) h2.0 in
    let behind : 0 < length (drop 5 words) = grind (arith, common_steps, leb-true 6 (length words) h1.0) in
    (h1.1, h2.1, h3.1, h4.1, texts_named (drop 5 words) h5.1, grind (arith, texts_many (drop 5 words), behind))) (λ _. tt)

-- an edit that is read is lawful
pub edit_lawful : (mixed : Bool) (words : List Part) → IfThere IsEdit (edit_of mixed words)
unfolding edit_of
edit_lawful mixed words =
    cond_both (says words 0 (codes "repower_gate")) _ _ (IfThere IsEdit) (λ _. made AreTwo IsEdit (pair_of Repower) (two_names words) (λ pair h. h) (two_named words)) (λ _.
    cond_both (says words 0 (codes "insert_gate")) _ _ (IfThere IsEdit) (λ _. made AreTwo IsEdit (pair_of InsertGate) (two_names words) (λ pair h. h) (two_named words)) (λ _.
    cond_both (says words 0 (codes "remove_gate")) _ _ (IfThere IsEdit) (λ _. made IsName IsEdit RemoveGate (one_name words) (λ name h. h) (one_named words)) (λ _.
    cond_both (says words 0 (codes "insert_net")) _ _ (IfThere IsEdit) (λ _. made IsName IsEdit InsertNet (one_name words) (λ name h. h) (one_named words)) (λ _.
    cond_both (says words 0 (codes "remove_net")) _ _ (IfThere IsEdit) (λ _. made IsName IsEdit RemoveNet (one_name words) (λ name h. h) (one_named words)) (λ _.
    cond_both (says words 0 (codes "connect_pin")) _ _ (IfThere IsEdit) (λ _. made AreTwo IsEdit (pair_of Connect) (two_names words) (λ pair h. h) (two_named words)) (λ _.
    cond_both (says words 0 (codes "disconnect_pin")) _ _ (IfThere IsEdit) (λ _. made IsName IsEdit Disconnect (one_name words) (λ name h. h) (one_named words)) (λ _.
    cond_both (says words 0 (codes "insert_buffer")) _ _ (IfThere IsEdit) (λ _. buffer_lawful words) (λ _.
    cond_both (says words 0 (codes "set_parasitics")) _ _ (IfThere IsEdit) (λ _. parasitics_lawful mixed words) (λ _. tt)))))))))

pub edit_there : (mixed : Bool) (words : List Part) (e : Edit) → edit_of mixed words ≡ Ok e → IsEdit e
edit_there mixed words e read = subst (IfThere IsEdit) read (edit_lawful mixed words)

pub at_line_lawful : {X : Type 0} (P : X → Type 0) (line : Part) (r : Result X Stop) → IfThere P r → IfThere P (at_line line r)
at_line_lawful P line (Ok x) h = h
at_line_lawful P line (Err stop) h = tt

edits_more : (es : List Edit) (e : Edit) → AreEdits es → IsEdit e → AreEdits (es ++ e ∷ [])
edits_more [] e hs h = (h, tt)
edits_more (d ∷ ds) e hs h = (hs.0, edits_more ds e hs.1 h)

-- at most 1,000 lawful edits
abbrev AreFew : List Edit → Type 0
AreFew es = AreEdits es × (length es ≤ 1000)

eco_more_lawful : (es : List Edit) (r : Result Edit ReadFault) → AreEdits es → length es < 1000 → IfThere IsEdit r → IfThere AreFew (eco_more es r)
eco_more_lawful es (Ok e) hs few h = (edits_more es e hs h, grind (arith, length-append es (e ∷ []), few))
eco_more_lawful es (Err fault) hs few h = tt

eco_step_lawful : (told : Result (List Edit) ReadFault) (line : Part) → IfThere AreFew told → IfThere AreFew (eco_step told line)
eco_step_lawful (Err fault) line h = tt
eco_step_lawful (Ok es) line h =
    cond_both (length es == 1000) _ _ (IfThere AreFew) (λ _. tt) (λ other.
    eco_more_lawful es (edit_at line) h.0 (grind (arith, other, h.1)) (at_line_lawful IsEdit line (edit_of false (words_of line)) (edit_lawful false (words_of line))))

eco_edits_lawful : (told : Result (List Edit) ReadFault) (lines : List Part) → IfThere AreFew told → IfThere AreFew (eco_edits told lines)
unfolding eco_edits
eco_edits_lawful told [] h = h
eco_edits_lawful told (line ∷ lines) h = eco_edits_lawful (eco_step told line) lines (eco_step_lawful told line h)

eco_whole_lawful : (size : ℕ) (told : Result (List Edit) ReadFault) → IfThere AreFew told → IfThere IsEco (eco_whole size told)
eco_whole_lawful size (Ok []) h = tt
eco_whole_lawful size (Ok (e ∷ es)) h = (omega arith, h.1, h.0)
eco_whole_lawful size (Err fault) h = tt

-- what a text of edits is read as can stand in an entry
pub eco_there : (bytes : List ℕ) (eco : Eco) → eco_of bytes ≡ Ok eco → IsEco eco
eco_there bytes eco read =
    subst (IfThere IsEco) read (eco_whole_lawful (length bytes) (eco_edits (Ok []) (lines_of bytes)) (eco_edits_lawful (Ok []) (lines_of bytes) (tt, omega arith)))
