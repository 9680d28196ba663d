-- In a whole text without faults the units are known.
use Rattle.std.proofs.Common.{◌≡◌, ℕ, List, [], ◌∷◌, ◌++◌, Bool, true, false, ◌&&◌, ◌||◌, not, length, cond, refl, ap, sym, ◌∙◌}
use Rattle.std.specs.Prelude.{ℤ, pos, nat_lt, codes, ◌==◌, Option, Some, None, is_some, option_and_then, is_ok}
use Rattle.std.specs.List.{flat_map, last_or}
use Rattle.std.specs.Str.{bytes_eq}
use Rattle.std.proofs.lemmas.Bool.{cond_both, false≢true}
use Rattle.sta_units.specs.Decimal.{decimal_of}
use Rattle.sta_units.specs.declared.units.Unit.{Unit as Power}
use Rattle.timing_defs.specs.declared.codes.Code.TheVariants.{LibertyBadToken, LibertyBadUnit}
use Rattle.timing_defs.specs.declared.texts.Style.TheVariants.{Liberty}
use Rattle.timing_defs.specs.declared.liberty_tree.Lexeme.{Lexeme}
use Rattle.timing_defs.specs.declared.liberty_tree.Tree.{Tree}
use Rattle.timing_defs.specs.declared.liberty_tree.Item.{Item}
use Rattle.timing_defs.specs.declared.liberty_tree.Item.TheVariants as whole
use Rattle.timing_defs.specs.declared.liberty_tree.Item.TheOpen.{Item-F, Group, Complex, Simple}
use Rattle.timing_defs.specs.declared.liberty_tree.Item.TheViews.{out-Item, out-roll-Item}
use Rattle.sta_text.specs.declared.faults.Wrong.{Wrong}
use Rattle.sta_text.specs.Tokens.{Tok, tokens_of}
use Rattle.liberty_syntax.specs.declared.reading.Reading.{Reading}
use Rattle.liberty_syntax.specs.declared.reading.Reading.TheVariants.{Whole, Broken}
use Rattle.liberty_syntax.specs.Grammar.{Frame, done, add, is_inside, Place, body, named, listed, closed, valued, behind, Step, on, halt, stop, opened, shut, is_skip, is_mark, is_statement, is_library, is_line_end, is_lexeme, is_part, is_empty, wrong, body_step, top_step, named_step, listed_step, top_closed_step, closed_step, valued_step, behind_step, step, finish, grow, reading_of}
use Rattle.liberty_cells.specs.declared.attributes.Check.TheVariants.{TimeUnit}
use Rattle.liberty_cells.specs.Statements.{lists, value_in, values, last}
use Rattle.liberty_cells.specs.Units.{time_named, time_of, time_unit, cap_ten, power_of, cap_with, cap_of, last_cap, cap_unit, known}
use Rattle.liberty_cells.specs.Faults.{at, missing, only_if, value_faults, factor_faults, cap_word_faults, cap_unit_faults, cap_units_faults, time_faults, load_faults, model_faults, header_faults}
use Rattle.liberty_cells.proofs.EachLaws.{Each, each_append, each_both, each_none, each_last, IfLast, parts_none}
use Rattle.liberty_cells.proofs.FormLaws.{IsKnown}

-- a simple attribute has a value

abbrev pub full_in : Item-F Item Tree → Bool
full_in (Group tree) = true
full_in (Complex word args) = true
full_in (Simple word value) = not (is_empty value)

abbrev pub IsFull : Item → Type 0
IsFull item = full_in (out-Item item) ≡ true

abbrev pub AreFull : List Item → Type 0
AreFull items = Each IsFull items

abbrev FullFrames : List Frame → Type 0
FullFrames fs = Each (λ f. AreFull f.items) fs

abbrev FullPlace : Place → Type 0
FullPlace (behind tree) = AreFull tree.items
FullPlace place = Unit {0}

abbrev pub FullReading : Reading → Type 0
FullReading (Whole tree) = AreFull tree.items
FullReading (Broken items w) = Unit {0}

abbrev FullStep : Step → Type 0
FullStep (on fs place) = FullFrames fs × FullPlace place
FullStep (halt reading) = FullReading reading

group_full : (tree : Tree) → IsFull (whole.Group tree)
group_full tree = ap (λ item. full_in (out-Item item)) (sym (whole.rolls-Group tree)) ∙ ap full_in (out-roll-Item (Group tree))

complex_full : (word : Lexeme) (args : List Lexeme) → IsFull (whole.Complex word args)
complex_full word args =
    ap (λ item. full_in (out-Item item)) (sym (whole.rolls-Complex word args)) ∙ ap full_in (out-roll-Item (Complex word args))

simple_full : (word : Lexeme) (value : List Lexeme) → is_empty value ≡ false → IsFull (whole.Simple word value)
simple_full word value e =
    ap (λ item. full_in (out-Item item)) (sym (whole.rolls-Simple word value)) ∙ (ap full_in (out-roll-Item (Simple word value)) ∙ ap not e)

pick : (b : Bool) (x y : Step) → FullStep x → FullStep y → FullStep (cond b x y)
pick b x y h k = cond_both b x y FullStep (λ _. h) (λ _. k)

add_full : (f : Frame) (item : Item) → AreFull f.items → IsFull item → AreFull (add f item).items
add_full f item h k = each_append IsFull f.items (item ∷ []) h (k, tt)

opened_full : (fs : List Frame) (word : Lexeme) (args : List Lexeme) → FullFrames fs → FullStep (opened fs word args)
opened_full fs word args h = pick (nat_lt (length fs) 64) _ _ ((tt, h), tt) tt

shut_full : (f : Frame) (fs : List Frame) → AreFull f.items → FullFrames fs → FullStep (shut f fs)
shut_full f [] h hs = (tt, h)
shut_full f (g ∷ gs) h hs = ((add_full g (whole.Group (done f)) hs.0 (group_full (done f)), hs.1), tt)

body_full : (size : ℕ) (f : Frame) (fs : List Frame) (t : Tok) → AreFull f.items → FullFrames fs → FullStep (body_step size f fs t)
body_full size f fs t h hs =
    pick (is_skip t) _ _ ((h, hs), tt) (pick (is_mark t 125) _ _ (shut_full f fs h hs) (pick (is_statement t) _ _ ((h, hs), tt) tt))

top_full : (size : ℕ) (t : Tok) → FullStep (top_step size t)
top_full size t = pick (is_skip t) _ _ (tt, tt) (pick (is_library t) _ _ (tt, tt) tt)

named_full : (size : ℕ) (fs : List Frame) (word : Lexeme) (t : Tok) → FullFrames fs → FullStep (named_step size fs word t)
named_full size fs word t h =
    pick (is_line_end t) _ _ (h, tt) (pick (is_mark t 40) _ _ (h, tt) (pick (is_mark t 58 && is_inside fs) _ _ (h, tt) tt))

listed_full : (size : ℕ) (fs : List Frame) (word : Lexeme) (args : List Lexeme) (more end : Bool) (t : Tok) → FullFrames fs → FullStep (listed_step size fs word args more end t)
listed_full size fs word args more end t h =
    pick (is_lexeme t) _ _ (h, tt)
    (pick (is_mark t 44 && more) _ _ (h, tt) (pick (is_mark t 41 && end) _ _ (h, tt) (pick (is_line_end t) _ _ (h, tt) tt)))

top_closed_full : (size : ℕ) (word : Lexeme) (args : List Lexeme) (t : Tok) → FullStep (top_closed_step size word args t)
top_closed_full size word args t =
    pick (is_line_end t) _ _ (tt, tt) (pick (is_mark t 123) _ _ (opened_full [] word args tt) tt)

closed_full : (size : ℕ) (f : Frame) (fs : List Frame) (word : Lexeme) (args : List Lexeme) (ended : Bool) (t : Tok) → AreFull f.items → FullFrames fs → FullStep (closed_step size f fs word args ended t)
closed_full size f fs word args ended t h hs =
    pick (is_line_end t) _ _ ((h, hs), tt)
    (pick (is_mark t 123) _ _ (opened_full (f ∷ fs) word args (h, hs))
    (pick (ended || is_mark t 59 || is_mark t 125) _ _
    (body_full size (add f (whole.Complex word args)) fs t (add_full f (whole.Complex word args) h (complex_full word args)) hs) tt))

valued_full : (size : ℕ) (f : Frame) (fs : List Frame) (word : Lexeme) (value : List Lexeme) (t : Tok) → AreFull f.items → FullFrames fs → FullStep (valued_step size f fs word value t)
valued_full size f fs word value t h hs =
    pick (is_part t) _ _ ((h, hs), tt)
    (pick (is_skip t || is_mark t 125) _ _
    (cond_both (is_empty value) (stop (f ∷ fs) (wrong LibertyBadToken t.start)) (body_step size (add f (whole.Simple word value)) fs t) FullStep (λ _. tt)
    (λ e. body_full size (add f (whole.Simple word value)) fs t (add_full f (whole.Simple word value) h (simple_full word value e)) hs)) tt)

behind_full : (size : ℕ) (fs : List Frame) (tree : Tree) (t : Tok) → FullFrames fs → AreFull tree.items → FullStep (behind_step size fs tree t)
behind_full size fs tree t h k = pick (is_skip t) _ _ (h, k) tt

step_full : (size : ℕ) (fs : List Frame) (place : Place) (t : Tok) → FullFrames fs → FullPlace place → FullStep (step size fs place t)
step_full size [] body t h k = top_full size t
step_full size (f ∷ fs) body t h k = body_full size f fs t h.0 h.1
step_full size fs (named word) t h k = named_full size fs word t h
step_full size fs (listed word args more end) t h k = listed_full size fs word args more end t h
step_full size [] (closed word args ended) t h k = top_closed_full size word args t
step_full size (f ∷ fs) (closed word args ended) t h k = closed_full size f fs word args ended t h.0 h.1
step_full size [] (valued word value) t h k = tt
step_full size (f ∷ fs) (valued word value) t h k = valued_full size f fs word value t h.0 h.1
step_full size fs (behind tree) t h k = behind_full size fs tree t h k

finish_full : (size : ℕ) (fs : List Frame) (place : Place) → FullPlace place → FullReading (finish size fs place)
finish_full size fs body k = tt
finish_full size fs (named word) k = tt
finish_full size fs (listed word args more end) k = tt
finish_full size fs (closed word args ended) k = tt
finish_full size fs (valued word value) k = tt
finish_full size fs (behind tree) k = k

grow_full : (size : ℕ) (ts : List Tok) (fs : List Frame) (place : Place) → FullFrames fs → FullPlace place → FullReading (grow size fs place ts)
unfolding grow
grow_full size [] fs place h k = finish_full size fs place k
grow_full size (t ∷ ts) fs place h k = after (step size fs place t) (step_full size fs place t h k) (λ fs2 place2 h2 k2. grow_full size ts fs2 place2 h2 k2)
  where
    after : (s : Step) → FullStep s → ((fs2 : List Frame) (place2 : Place) → FullFrames fs2 → FullPlace place2 → FullReading (grow size fs2 place2 ts)) → FullReading (elim s [ on fs2 place2 ↦ grow size fs2 place2 ts | halt reading ↦ reading ])
    after (on fs2 place2) g rest = rest fs2 place2 g.0 g.1
    after (halt reading) g rest = g

-- each statement of a whole text has a value where it has a place for one
pub reading_full : (bytes : List ℕ) → FullReading (reading_of bytes)
reading_full bytes = grow_full (length bytes) (tokens_of Liberty bytes) [] body tt tt

abbrev IsValue : List Lexeme → Type 0
IsValue value = not (is_empty value) ≡ true

value_full : (name : List ℕ) (item : Item-F Item Tree) → full_in item ≡ true → Each IsValue (value_in name item)
value_full name (Group tree) h = tt
value_full name (Complex word args) h = tt
value_full name (Simple word value) h = cond_both (bytes_eq word.text name) (value ∷ []) [] (Each IsValue) (λ _. (h, tt)) (λ _. tt)

values_full : (name : List ℕ) (items : List Item) → AreFull items → Each IsValue (values name items)
unfolding values
values_full name [] h = tt
values_full name (item ∷ items) h =
    each_append IsValue (value_in name (out-Item item)) (values name items) (value_full name (out-Item item) h.0) (values_full name items h.1)

-- the unit of time

some_known : (u : Option Power) (w : Wrong) → cond (not (is_some u)) (w ∷ []) [] ≡ [] → IsKnown u
some_known None w h = absurd (cc)
some_known (Some u) w h = tt

time_last : (value : Option (List Lexeme)) → IfLast (λ v. IsValue v × (value_faults LibertyBadUnit TimeUnit v ≡ [])) value → IsKnown (time_of true value)
unfolding time_of
time_last None h = tt
time_last (Some []) h = absurd (false≢true h.0)
time_last (Some (x ∷ [])) h = some_known (time_named x.text) (record { code = LibertyBadUnit; at = x.offset }) h.1
time_last (Some (x ∷ y ∷ xs)) h = absurd (cc)

time_known : (items : List Item) → AreFull items → time_faults items ≡ [] → IsKnown (time_unit true items)
unfolding time_faults
time_known items h none =
    let found = values (codes "time_unit") items in
    time_last (last found)
    (each_last (λ v. IsValue v × (value_faults LibertyBadUnit TimeUnit v ≡ [])) found
    (each_both IsValue (λ v. value_faults LibertyBadUnit TimeUnit v ≡ []) found (values_full (codes "time_unit") items h) (each_none (value_faults LibertyBadUnit TimeUnit) found none)))

-- the unit of capacitance

power_known : (n : Lexeme) → factor_faults n ≡ [] → is_some (power_of n.text) ≡ true
power_known n = cond_both (is_ok (decimal_of n.text (pos 0))) _ _ (λ faults. faults ≡ [] → is_some (power_of n.text) ≡ true) (λ _ h. known_power (power_of n.text) h) (λ _ h. absurd (cc))
  where
    known_power : (p : Option ℤ) → cond (not (is_some p)) (at LibertyBadUnit n) [] ≡ [] → is_some p ≡ true
    known_power None h = absurd (cc)
    known_power (Some p) h = refl

ten_known : (word : Lexeme) → cap_word_faults word ≡ [] → is_some (cap_ten word.text) ≡ true
ten_known word h = known_ten (cap_ten word.text) h
  where
    known_ten : (p : Option ℤ) → cond (not (is_some p)) (at LibertyBadUnit word) [] ≡ [] → is_some p ≡ true
    known_ten None h = absurd (cc)
    known_ten (Some p) h = refl

with_known : (j k : Option ℤ) → is_some j ≡ true → is_some k ≡ true → IsKnown (cap_with j k)
with_known None k h g = absurd (false≢true h)
with_known (Some j) None h g = absurd (false≢true g)
with_known (Some j) (Some k) h g = tt

cap_args : (size : ℕ) (args : List Lexeme) → cap_unit_faults (record { size = size; whole = true }) args ≡ [] → IsKnown (cap_of args)
cap_args size [] h = absurd (cc)
cap_args size (n ∷ []) h = let both = parts_none (factor_faults n) (missing LibertyBadUnit (record { size = size; whole = true })) h in absurd (none both.1)
  where
    none : missing LibertyBadUnit (record { size = size; whole = true }) ≡ [] → ⊥
    none h = cc
cap_args size (n ∷ word ∷ []) h =
    let both = parts_none (factor_faults n) (cap_word_faults word ++ []) h in
    let units = parts_none (cap_word_faults word) [] both.1 in
    with_known (power_of n.text) (cap_ten word.text) (power_known n both.0) (ten_known word units.0)
cap_args size (n ∷ word ∷ x ∷ xs) h =
    let both = parts_none (factor_faults n) (cap_word_faults word ++ at LibertyBadToken x) h in
    let units = parts_none (cap_word_faults word) (at LibertyBadToken x) both.1 in absurd (none units.1)
  where
    none : at LibertyBadToken x ≡ [] → ⊥
    none h = cc

cap_last : (size : ℕ) (found : List (List Lexeme)) → only_if (length found == 0) (missing LibertyBadUnit (record { size = size; whole = true })) ≡ [] → Each (λ args. cap_unit_faults (record { size = size; whole = true }) args ≡ []) found → IsKnown (last_cap (last found))
unfolding last_cap
cap_last size [] h hs = absurd (cc)
cap_last size (args ∷ more) h hs = of_last (last (args ∷ more)) (each_last (λ args. cap_unit_faults (record { size = size; whole = true }) args ≡ []) (args ∷ more) hs) (some_last args more)
  where
    of_last : (value : Option (List Lexeme)) → IfLast (λ args. cap_unit_faults (record { size = size; whole = true }) args ≡ []) value → is_some value ≡ true → IsKnown (option_and_then cap_of value)
    of_last None g some = absurd (false≢true some)
    of_last (Some args) g some = cap_args size args g

    some_last : (args : List Lexeme) (more : List (List Lexeme)) → is_some (last_or (Some args) more) ≡ true
    some_last args [] = refl
    some_last args (next ∷ more) = some_last next more

cap_known : (size : ℕ) (items : List Item) → load_faults (record { size = size; whole = true }) items ≡ [] → IsKnown (cap_unit items)
unfolding load_faults cap_units_faults
cap_known size items h =
    let found = lists (codes "capacitive_load_unit") items in
    let both = parts_none (only_if (length found == 0) (missing LibertyBadUnit (record { size = size; whole = true }))) (flat_map (cap_unit_faults (record { size = size; whole = true })) found) h in
    cap_last size found both.0 (each_none (cap_unit_faults (record { size = size; whole = true })) found both.1)

pub units_known : (size : ℕ) (items : List Item) → AreFull items → header_faults (record { size = size; whole = true }) items ≡ [] → IsKnown (known true items).time × IsKnown (known true items).cap
unfolding header_faults
units_known size items full h =
    let both = parts_none (time_faults items) (load_faults (record { size = size; whole = true }) items ++ model_faults items) h in
    let units = parts_none (load_faults (record { size = size; whole = true }) items) (model_faults items) both.1 in
    (time_known items full both.0, cap_known size items units.0)
