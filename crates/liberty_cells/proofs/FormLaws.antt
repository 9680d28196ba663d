-- Tables that are read are well formed, where the units are known.
use Rattle.std.proofs.Common.{◌≡◌, ℕ, zero, suc, ◌+◌, ◌*◌, List, [], ◌∷◌, Bool, true, false, ◌&&◌, ◌||◌, not, length, get_or, refl, ap, ◌∙◌, arith, length-append}
use Rattle.std.specs.Prelude.{ℤ, pos, nat_le, codes, ◌==◌, Option, Some, None, option_map, option_and_then, Result, Ok, Err}
use Rattle.std.specs.List.{list_all}
use Rattle.std.specs.Option.{unwrap_or}
use Rattle.std.specs.Result.{result_ok}
use Rattle.std.specs.Str.{bytes_eq}
use Rattle.std.proofs.Math.Nat.{suc-mul}
use Rattle.std.proofs.lemmas.Bool.{cond_both, and_parts, and_from, eqb-true, eq-eqb, false≢true}
use Rattle.std.proofs.lemmas.List.Folds.{list_all-append}
use Rattle.sta_units.specs.Numbers.{is_within}
use Rattle.sta_units.specs.Decimal.{decimal_of}
use Rattle.sta_units.specs.declared.decimals.DecFault.{DecFault}
use Rattle.sta_units.specs.declared.units.Unit.{Unit as Power}
use Rattle.timing_defs.specs.Lookup.{is_rising, is_well_formed, is_axis as is_table_axis}
use Rattle.timing_defs.specs.declared.codes.Code.{Code}
use Rattle.timing_defs.specs.declared.library.Table.{Table}
use Rattle.timing_defs.specs.declared.liberty_tree.Lexeme.{Lexeme}
use Rattle.timing_defs.specs.declared.liberty_tree.Tree.{Tree}
use Rattle.timing_defs.specs.declared.liberty_tree.Item.{Item}
use Rattle.sta_text.proofs.DecimalLemmas.{IfWithin, decimal_kept}
use Rattle.liberty_cells.specs.declared.library_units.Known.{Known}
use Rattle.liberty_cells.specs.declared.axes.Purpose.{Purpose}
use Rattle.liberty_cells.specs.declared.axes.Purpose.TheVariants.{Delay, Constraint}
use Rattle.liberty_cells.specs.declared.axes.Form.{Form}
use Rattle.liberty_cells.specs.declared.axes.Side.{Side}
use Rattle.liberty_cells.specs.declared.axes.Side.TheVariants.{Xs, Ys}
use Rattle.liberty_cells.specs.declared.axes.Axes.{Axes}
use Rattle.liberty_cells.specs.declared.axes.Axes.TheVariants.{One, Two}
use Rattle.liberty_cells.specs.Statements.{groups, lists, last}
use Rattle.liberty_cells.specs.Units.{is_short_decimal, number_or_zero}
use Rattle.liberty_cells.specs.Tables.{numbers, all_rows, row, flat, unit_of, last_flat, axis, is_index, rises, is_axis, all_rise, has_values, is_row_of, is_row, has_rows, rows_of, last_rows, flatten, column, columns, lone, one_way, two_way, table_or, table_of_one, table_of_two, table_with, index, axes_of, table_in, scalar_in, stand_all, read_table, template_of}
use Rattle.liberty_cells.specs.Cells.{table_read, table_named, table_of}
use Rattle.liberty_cells.proofs.EachLaws.{Each, each_more, each_map, each_both, each_test, all_map, all_flat, same_length}

-- a unit that is known
abbrev pub IsKnown : Option Power → Type 0
IsKnown None = ⊥
IsKnown (Some u) = Unit {0}

abbrev pub form_of : Purpose → Known → Form
form_of p k = record { purpose = p; known = k }

unit_known : (p : Purpose) (k : Known) (s : Side) → IsKnown k.time → IsKnown k.cap → IsKnown (unit_of (form_of p k) s)
unit_known p k Xs time cap = time
unit_known Delay k Ys time cap = cap
unit_known Constraint k Ys time cap = time

-- all numbers lie within the limit

read_within : (r : Result ℤ DecFault) → IfWithin r → is_within (unwrap_or (result_ok r) (pos 0)) ≡ true
read_within (Ok z) h = h
read_within (Err fault) h = refl

pub number_within : (u : Option Power) (text : List ℕ) → is_within (number_or_zero u text) ≡ true
number_within None text =
    cond_both (is_short_decimal (decimal_of text (pos 0))) (Some (pos 0)) None (λ n. is_within (unwrap_or n (pos 0)) ≡ true) (λ _. refl) (λ _. refl)
number_within (Some u) text = read_within (decimal_of text u.ten) (decimal_kept text u.ten)

row_within : (u : Option Power) (text : List ℕ) → list_all is_within (row u text) ≡ true
row_within u text = all_map is_within (number_or_zero u) (number_within u) (numbers text)

flat_within : (u : Option Power) (args : List Lexeme) → list_all is_within (flat u args) ≡ true
flat_within u args = all_flat is_within (λ (x : Lexeme). row u x.text) (λ x. row_within u x.text) args

-- the last of the lists that stand

last_more : (P : List ℤ → Type 0) (u : Option Power) (found : List ℤ) (more : List (List Lexeme)) → P found → Each (λ args. P (flat u args)) more → P (last_flat u found more)
unfolding last_flat
last_more P u found [] h hs = h
last_more P u found (args ∷ more) h hs = last_more P u (flat u args) more hs.0 hs.1

last_kept : (P : List ℤ → Type 0) (u : Option Power) (found : List (List Lexeme)) → not (length found == 0) ≡ true → Each (λ args. P (flat u args)) found → P (last_flat u [] found)
unfolding last_flat
last_kept P u [] h hs = absurd (false≢true h)
last_kept P u (args ∷ more) h hs = last_more P u (flat u args) more hs.0 hs.1

rows_more : (P : List (List ℤ) → Type 0) (u : Option Power) (rows : List (List ℤ)) (more : List (List Lexeme)) → P rows → Each (λ args. P (rows_of u args)) more → P (last_rows u rows more)
unfolding last_rows
rows_more P u rows [] h hs = h
rows_more P u rows (args ∷ more) h hs = rows_more P u (rows_of u args) more hs.0 hs.1

rows_kept : (P : List (List ℤ) → Type 0) (u : Option Power) (found : List (List Lexeme)) → not (length found == 0) ≡ true → Each (λ args. P (rows_of u args)) found → P (last_rows u [] found)
unfolding last_rows
rows_kept P u [] h hs = absurd (false≢true h)
rows_kept P u (args ∷ more) h hs = rows_more P u (rows_of u args) more hs.0 hs.1

-- an axis

axis_from : (xs : List ℤ) → nat_le 1 (length xs) ≡ true → nat_le (length xs) 64 ≡ true → is_rising xs ≡ true → list_all is_within xs ≡ true → is_table_axis xs ≡ true
axis_from xs a b c d = rw (a, b, c, d) refl

rise_from : (a b : Bool) → a ≡ true → (not a || b) ≡ true → b ≡ true
rise_from true b h k = k
rise_from false b h k = absurd (false≢true h)

three : (a b c : Bool) → (a && b && c) ≡ true → (a ≡ true) × (b ≡ true) × (c ≡ true)
three true true true h = (refl, refl, refl)
three true true false h = absurd (false≢true h)
three true false c h = absurd (false≢true h)
three false b c h = absurd (false≢true h)

index_axis : (u : Power) (args : List Lexeme) → is_index (Some u) args ≡ true → rises (Some u) args ≡ true → is_table_axis (flat (Some u) args) ≡ true
index_axis u args h up =
    let some = three (all_rows (Some u) args) (nat_le 1 (length (flat (Some u) args))) (nat_le (length (flat (Some u) args)) 64) h in
    axis_from (flat (Some u) args) some.1 some.2 (rise_from (is_index (Some u) args) (is_rising (flat (Some u) args)) h up) (flat_within (Some u) args)

axis_kept : (u : Option Power) (found : List (List Lexeme)) → IsKnown u → is_axis u found ≡ true → all_rise u found ≡ true → is_table_axis (axis u found) ≡ true
axis_kept None found known h up = absurd known
axis_kept (Some u) found known h up =
    let some = and_parts (not (length found == 0)) (list_all (is_index (Some u)) found) h in
    last_kept (λ xs. is_table_axis xs ≡ true) (Some u) found some.0
    (each_more (λ args. (is_index (Some u) args ≡ true) × (rises (Some u) args ≡ true)) (λ args. is_table_axis (flat (Some u) args) ≡ true)
    (λ args both. index_axis u args both.0 both.1) found
    (each_both (λ args. is_index (Some u) args ≡ true) (λ args. rises (Some u) args ≡ true) found
    (each_test (is_index (Some u)) found some.1) (each_test (rises (Some u)) found up)))

-- values in a row

abbrev AreValues : ℕ → List ℤ → Type 0
AreValues n vs = (list_all is_within vs ≡ true) × (length vs ≡ n)

values_kept : (u : Option Power) (n : ℕ) (found : List (List Lexeme)) → stand_all (has_values u n) found ≡ true → AreValues n (last_flat u [] found)
values_kept u n found h =
    let some = and_parts (not (length found == 0)) (list_all (has_values u n) found) h in
    last_kept (AreValues n) u found some.0
    (each_more (λ args. has_values u n args ≡ true) (λ args. AreValues n (flat u args))
    (λ args e. (flat_within u args, eqb-true (length (flat u args)) n (and_parts (all_rows u args) (length (flat u args) == n) e).1)) found
    (each_test (has_values u n) found some.1))

-- rows of values

abbrev AreRows : ℕ → ℕ → List (List ℤ) → Type 0
AreRows n c rows = (length rows ≡ n) × Each (AreValues c) rows

row_values : (u : Option Power) (c : ℕ) (x : Lexeme) → is_row_of u c x ≡ true → AreValues c (row u x.text)
row_values u c x h = (row_within u x.text, eqb-true (length (row u x.text)) c (and_parts (is_row u x.text) (length (row u x.text) == c) h).1)

args_rows : (u : Option Power) (n c : ℕ) (args : List Lexeme) → has_rows u n c args ≡ true → AreRows n c (rows_of u args)
args_rows u n c args h =
    let both = and_parts (length args == n) (list_all (is_row_of u c) args) h in (
      same_length (λ (x : Lexeme). row u x.text) args ∙ eqb-true (length args) n both.0,
      each_map (λ x. is_row_of u c x ≡ true) (AreValues c) (λ (x : Lexeme). row u x.text) (λ x e. row_values u c x e) args
          (each_test (is_row_of u c) args both.1),
    )

all_rows_kept : (u : Option Power) (n c : ℕ) (found : List (List Lexeme)) → stand_all (has_rows u n c) found ≡ true → AreRows n c (last_rows u [] found)
all_rows_kept u n c found h =
    let some = and_parts (not (length found == 0)) (list_all (has_rows u n c) found) h in
    rows_kept (AreRows n c) u found some.0
    (each_more (λ args. has_rows u n c args ≡ true) (λ args. AreRows n c (rows_of u args)) (λ args e. args_rows u n c args e) found
    (each_test (has_rows u n c) found some.1))

flatten_within : (c : ℕ) (rows : List (List ℤ)) → Each (AreValues c) rows → list_all is_within (flatten rows) ≡ true
flatten_within c [] h = refl
flatten_within c (r ∷ rows) h =
    list_all-append is_within r (flatten rows)
    ∙ and_from (list_all is_within r) (list_all is_within (flatten rows)) h.0.0 (flatten_within c rows h.1)

flatten_length : (c : ℕ) (rows : List (List ℤ)) → Each (AreValues c) rows → length (flatten rows) ≡ length rows * c
flatten_length c [] h = omega arith
flatten_length c (r ∷ rows) h =
    let rest = flatten_length c rows h.1 in
    let one = h.0.1 in
    let sum = length-append r (flatten rows) in
    let product = suc-mul (length rows) c in omega (arith, rest, one, sum, product)

entry_within : (r : List ℤ) (c : ℕ) → list_all is_within r ≡ true → is_within (get_or r c (pos 0)) ≡ true
entry_within [] c h = refl
entry_within (z ∷ r) zero h = (and_parts (is_within z) (list_all is_within r) h).0
entry_within (z ∷ r) (suc c) h = entry_within r c (and_parts (is_within z) (list_all is_within r) h).1

column_within : (at c : ℕ) (rows : List (List ℤ)) → Each (AreValues c) rows → list_all is_within (column at rows) ≡ true
column_within at c [] h = refl
column_within at c (r ∷ rows) h =
    and_from (is_within (get_or r at (pos 0))) (list_all is_within (column at rows)) (entry_within r at h.0.0) (column_within at c rows h.1)

columns_within : (at n c : ℕ) (rows : List (List ℤ)) → Each (AreValues c) rows → list_all is_within (columns at n rows) ≡ true
unfolding columns
columns_within at zero c rows h = refl
columns_within at (suc n) c rows h =
    list_all-append is_within (column at rows) (columns (at + 1) n rows)
    ∙ and_from (list_all is_within (column at rows)) (list_all is_within (columns (at + 1) n rows)) (column_within at c rows h) (columns_within (at + 1) n c rows h)

columns_length : (at n : ℕ) (rows : List (List ℤ)) → length (columns at n rows) ≡ n * length rows
unfolding columns
columns_length at zero rows = omega arith
columns_length at (suc n) rows =
    let rest = columns_length (at + 1) n rows in
    let one = same_length (λ (r : List ℤ). get_or r at (pos 0)) rows in
    let sum = length-append (column at rows) (columns (at + 1) n rows) in
    let product = suc-mul n (length rows) in omega (arith, rest, one, sum, product)

-- tables

formed : (t : Table) → is_table_axis t.xs ≡ true → is_table_axis t.ys ≡ true → list_all is_within t.vals ≡ true → length t.vals ≡ length t.xs * length t.ys → is_well_formed t ≡ true
formed t a b c d = let e = eq-eqb (length t.vals) (length t.xs * length t.ys) d in rw (a, b, c, e) refl

lone_axis : is_table_axis lone ≡ true
lone_axis = refl

one_formed : (s : Side) (xs vs : List ℤ) → is_table_axis xs ≡ true → AreValues (length xs) vs → is_well_formed (one_way s xs vs) ≡ true
one_formed Xs xs vs a v = formed (one_way Xs xs vs) a lone_axis v.0 (omega (arith, v.1))
one_formed Ys xs vs a v = formed (one_way Ys xs vs) lone_axis a v.0 (omega (arith, v.1))

two_formed : (s : Side) (first second : List ℤ) (rows : List (List ℤ)) → is_table_axis first ≡ true → is_table_axis second ≡ true → AreRows (length first) (length second) rows → is_well_formed (two_way s first second rows) ≡ true
two_formed Xs first second rows a b v =
    formed (two_way Xs first second rows) a b (flatten_within (length second) rows v.1)
    (flatten_length (length second) rows v.1 ∙ ap (λ n. n * length second) v.0)
two_formed Ys first second rows a b v =
    formed (two_way Ys first second rows) b a (columns_within 0 (length second) (length second) rows v.1)
    (columns_length 0 (length second) rows ∙ ap (λ n. length second * n) v.0)

-- a table that is read is well formed
abbrev pub IfFormed : Option Table → Type 0
IfFormed None = Unit {0}
IfFormed (Some t) = is_well_formed t ≡ true

abbrev IfRead : Option (Result Table Code) → Type 0
IfRead read = IfFormed (table_read read)

or_formed : (fits rising : Bool) (t : Table) → (fits ≡ true → rising ≡ true → is_well_formed t ≡ true) → IfRead (Some (table_or fits rising t))
or_formed true true t h = h refl refl
or_formed true false t h = tt
or_formed false rising t h = tt

table_one : (form : Form) (s : Side) (first found : List (List Lexeme)) → IsKnown (unit_of form s) → IfRead (Some (table_of_one form s first found))
table_one form s first found known =
    let u = unit_of form s in
    let xs = axis (unit_of form s) first in
    let sizes = stand_all (has_values form.known.time (length (axis (unit_of form s) first))) found in
    or_formed (is_axis u first && sizes) (all_rise u first) (one_way s xs (last_flat form.known.time [] found))
    (λ fits rising. let both = and_parts (is_axis u first) sizes fits in
    one_formed s xs (last_flat form.known.time [] found) (axis_kept u first known both.0 rising) (values_kept form.known.time (length xs) found both.1))

table_two : (form : Form) (s r : Side) (first second found : List (List Lexeme)) → IsKnown (unit_of form s) → IsKnown (unit_of form r) → IfRead (Some (table_of_two form s r first second found))
table_two form s r first second found known_s known_r =
    let u = unit_of form s in
    let w = unit_of form r in
    let sizes = stand_all (has_rows form.known.time (length (axis (unit_of form s) first)) (length (axis (unit_of form r) second))) found in
    or_formed (is_axis u first && is_axis w second && sizes) (all_rise u first && all_rise w second)
    (two_way s (axis u first) (axis w second) (last_rows form.known.time [] found))
    (λ fits rising. let some = three (is_axis u first) (is_axis w second) sizes fits in
    let up = and_parts (all_rise u first) (all_rise w second) rising in
    two_formed s (axis u first) (axis w second) (last_rows form.known.time [] found)
    (axis_kept u first known_s some.0 up.0) (axis_kept w second known_r some.1 up.1)
    (all_rows_kept form.known.time (length (axis u first)) (length (axis w second)) found some.2))

table_axes : (p : Purpose) (k : Known) (axes : Option Axes) (table template : List Item) → IsKnown k.time → IsKnown k.cap → IfRead (Some (table_with (form_of p k) table template axes))
table_axes p k None table template time cap = tt
table_axes p k (Some (One s)) table template time cap =
    table_one (form_of p k) s (index (codes "index_1") table template) (lists (codes "values") table) (unit_known p k s time cap)
table_axes p k (Some (Two s r)) table template time cap =
    table_two (form_of p k) s r (index (codes "index_1") table template) (index (codes "index_2") table template) (lists (codes "values") table)
    (unit_known p k s time cap) (unit_known p k r time cap)

scalar_formed : (form : Form) (table : List Item) → IfRead (Some (scalar_in form table))
scalar_formed form table =
    let found = lists (codes "values") table in
    or_formed (stand_all (has_values form.known.time 1) found) true (one_way Xs lone (last_flat form.known.time [] found))
    (λ fits rising. one_formed Xs lone (last_flat form.known.time [] found) lone_axis (values_kept form.known.time 1 found fits))

in_template : (p : Purpose) (k : Known) (table : List Item) (template : Option (List Item)) → IsKnown k.time → IsKnown k.cap → IfRead (option_map (table_in (form_of p k) table) template)
in_template p k table None time cap = tt
in_template p k table (Some template) time cap = table_axes p k (axes_of p template) table template time cap

read_formed : (p : Purpose) (k : Known) (templates : List Tree) (name : List ℕ) (table : List Item) → IsKnown k.time → IsKnown k.cap → IfRead (read_table (form_of p k) templates name table)
read_formed p k templates name table time cap =
    cond_both (bytes_eq name (codes "scalar")) (Some (scalar_in (form_of p k) table)) (option_map (table_in (form_of p k) table) (template_of name templates)) IfRead
    (λ _. scalar_formed (form_of p k) table) (λ _. in_template p k table (template_of name templates) time cap)

named_formed : (p : Purpose) (k : Known) (templates : List Tree) (table : List Item) (args : List Lexeme) → IsKnown k.time → IsKnown k.cap → IfFormed (table_named (form_of p k) templates table args)
named_formed p k templates table [] time cap = tt
named_formed p k templates table (x ∷ xs) time cap = read_formed p k templates x.text table time cap

group_formed : (p : Purpose) (k : Known) (templates : List Tree) (group : Option Tree) → IsKnown k.time → IsKnown k.cap → IfFormed (option_and_then (λ (t : Tree). table_named (form_of p k) templates t.items t.args) group)
group_formed p k templates None time cap = tt
group_formed p k templates (Some t) time cap = named_formed p k templates t.items t.args time cap

-- the tables of a group
pub table_formed : (p : Purpose) (k : Known) (templates : List Tree) (name : List ℕ) (group : Tree) → IsKnown k.time → IsKnown k.cap → IfFormed (table_of (form_of p k) templates name group)
table_formed p k templates name group time cap = group_formed p k templates (last (groups name group.items)) time cap
