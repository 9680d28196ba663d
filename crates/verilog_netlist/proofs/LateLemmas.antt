-- What the declarations of some events have: names alone, and the bits of vectors.
use Rattle.std.proofs.Common.{◌≡◌, ℕ, ◌+◌, ◌^◌, ◌<◌, List, [], ◌∷◌, ◌++◌, Bool, true, false, ◌&&◌, ◌||◌, ◌==◌, if◌then◌else◌, Option, Some, None, take, drop, get_or, length, refl, sym, ap, subst, ◌-◌, length-drop, Result, Ok, Err, IfOk, ◌∙◌, arith, inl, inr}
use Rattle.std.specs.Prelude.{nat_lt, nat_le, is_some}
use Rattle.std.specs.Fmt.{decimal}
use Rattle.std.specs.List.{list_any, list_all}
use Rattle.std.specs.Option.{option_map_or}
use Rattle.std.specs.Str.{bytes_eq}
use Rattle.std.specs.Char.{is_ascii_digit}
use Rattle.std.proofs.lemmas.Bool.{false≢true, cases_order, lt-leb, and_parts, ltb-true, eq-eqb}
use Rattle.std.proofs.lemmas.Bool.Decides.{nat_tests}
use Rattle.std.proofs.lemmas.Slice.Eq.{bytes_eq-Decides}
use Rattle.std.proofs.lemmas.List.{take-append-drop, drop_more, take_all}
use Rattle.sta_text.specs.Names.{stands, said}
use Rattle.verilog_netlist.specs.declared.events.Span.{Span}
use Rattle.verilog_netlist.specs.declared.events.Event.{Event}
use Rattle.verilog_netlist.specs.declared.events.Event.TheVariants.{Module, Header, Declared, CellWord, Instance, Pin, Connection, Fault}
use Rattle.verilog_netlist.specs.declared.covers.Stretch.{Stretch}
use Rattle.verilog_netlist.specs.declared.late.Late.{Late}
use Rattle.verilog_netlist.specs.Bits.{picked}
use Rattle.verilog_netlist.specs.Nets.{bit_name, has_number, nets_of}
use Rattle.verilog_netlist.specs.Late.{declares, declares_alone, declares_bit, vector_of, vector_place, key, holds, stretch, stretches, SmallEnds, AreSmall, IsLate, IsBitTold, IsDeclared}
use Rattle.verilog_netlist.specs.Faults.{with_name, with_names, all_declared}
use Rattle.verilog_netlist.proofs.BitLemmas.{stands_picked, decimal_digits}
use Rattle.timing_defs.proofs.SameNames.{same-sym}

small_at : (span : Option Span) → SmallEnds span → (s : Span) → span ≡ Some s → (s.first < 2 ^ 32) × (s.last < 2 ^ 32)
small_at None small s e = absurd (cc)
small_at (Some t) small s e = let f : t ≡ s = inner e in subst (λ (x : Span). (x.first < 2 ^ 32) × (x.last < 2 ^ 32)) f small
  where
    inner : Some t ≡ Some s → t ≡ s
    inner e = cc

pub or_past : (a b c : Bool) → ((a || b) || c) ≡ (b || (a || c))
or_past true true c = refl
or_past true false c = refl
or_past false b c = refl

pub or_nothing : (a : Bool) → (a || false) ≡ a
or_nothing true = refl
or_nothing false = refl

or_four : (a b c d : Bool) → ((a || b) || (c || d)) ≡ ((a || c) || (b || d))
or_four true b c d = refl
or_four false true true d = refl
or_four false true false d = refl
or_four false false c d = refl

-- a net is declared alone or as a bit
either_span : (net name : List ℕ) (span : Option Span)
    → stands (nets_of span name) net ≡ ((if is_some span then false else bytes_eq net name) || option_map_or (λ (s : Span). stands (nets_of (Some s) name) net) span false)
unfolding nets_of
either_span net name None = refl
either_span net name (Some s) = refl

pub either_event : (net : List ℕ) (e : Event) → declares net e ≡ (declares_alone net e || declares_bit net e)
either_event net (Declared kind name at) = either_span net name kind.span
either_event net (Module name) = refl
either_event net (Header name at) = refl
either_event net (CellWord at) = refl
either_event net (Instance cell name at) = refl
either_event net (Pin name at) = refl
either_event net (Connection pin n) = refl
either_event net (Fault w) = refl

pub either : (net : List ℕ) (es : List Event) → list_any (declares net) es ≡ (list_any (declares_alone net) es || list_any (declares_bit net) es)
either net [] = refl
either net (e ∷ es) =
    ap (λ b. b || list_any (declares net) es) (either_event net e)
    ∙ (ap (λ b. (declares_alone net e || declares_bit net e) || b) (either net es)
    ∙ or_four (declares_alone net e) (declares_bit net e) (list_any (declares_alone net) es) (list_any (declares_bit net) es))

-- a bit's vector is what stands before its last bracket
is_open : ℕ → Bool
is_open b = b == 91

digits_closed : (ds : List ℕ) → list_all is_ascii_digit ds ≡ true → list_any (λ b. b == 91) (ds ++ 93 ∷ []) ≡ false
digits_closed [] h = refl
digits_closed (d ∷ ds) h =
    let parts = and_parts (is_ascii_digit d) (list_all is_ascii_digit ds) h in
    let digit : is_ascii_digit d ≡ true = parts.0 in
    let first : (d == 91) ≡ false = grind (arith, nat_tests) in
    rw first (digits_closed ds parts.1)

open_behind : (name rest : List ℕ) → list_any (λ b. b == 91) (name ++ 91 ∷ rest) ≡ true
open_behind [] rest = refl
open_behind (c ∷ name) rest = ap (λ b. (c == 91) || b) (open_behind name rest) ∙ or_true (c == 91)
  where
    or_true : (b : Bool) → (b || true) ≡ true
    or_true true = refl
    or_true false = refl

before_open : (name rest : List ℕ) → list_any (λ b. b == 91) rest ≡ false → vector_of (name ++ 91 ∷ rest) ≡ name
before_open [] rest h = rw h refl
before_open (c ∷ name) rest h = rw (open_behind name rest) (ap (λ xs. c ∷ xs) (before_open name rest h))

pub vector_of_bit : (name : List ℕ) (k : ℕ) → k < 2 ^ 32 → vector_of (bit_name name k) ≡ name
vector_of_bit name k small = before_open name (decimal k ++ 93 ∷ []) (digits_closed (decimal k) (decimal_digits k small))

pub bit_has_open : (name : List ℕ) (k : ℕ) → list_any (λ b. b == 91) (bit_name name k) ≡ true
bit_has_open name k = open_behind name (decimal k ++ 93 ∷ [])

same : (xs ys : List ℕ) → bytes_eq xs ys ≡ true → xs ≡ ys
same xs ys = (bytes_eq-Decides xs ys).0

equal : (xs : List ℕ) → bytes_eq xs xs ≡ true
equal xs = (bytes_eq-Decides xs xs).1 refl

-- a number that a net may give as a bit of a vector
abbrev Gives : List ℕ → List ℕ → Option ℕ → Type 0
Gives net vector found = (k : ℕ) → k < 2 ^ 32 → net ≡ bit_name vector k → found ≡ Some k

-- the bits of another vector than the net's are not the net
other_vector : (net name : List ℕ) (span : Span) → span.first < 2 ^ 32 → span.last < 2 ^ 32 → bytes_eq name (vector_of net) ≡ false
    → stands (nets_of (Some span) name) net ≡ false
other_vector net name span first last other =
    stands_picked span name net None first last (λ k small is.
    let e : vector_of net ≡ name = ap vector_of is ∙ vector_of_bit name k small in
    absurd (false≢true (sym other ∙ ap (bytes_eq name) e ∙ equal name)))

-- of its own vector it is a bit where the number says so
own_vector : (net name : List ℕ) (span : Span) (found : Option ℕ) → span.first < 2 ^ 32 → span.last < 2 ^ 32 → Gives net name found
    → stands (nets_of (Some span) name) net ≡ picked span name net found
own_vector net name span found first last gives = stands_picked span name net found first last gives

-- a declaration of the net's vector, in a range that has the number
abbrev has_it : List ℕ → ℕ → Option Span → List ℕ → Bool
has_it vector k None name = false
has_it vector k (Some span) name = bytes_eq vector name && has_number span k

abbrev it : List ℕ → ℕ → Event → Bool
it vector k (Declared kind name at) = has_it vector k kind.span name
it vector k e = false

bytes_turned : (xs ys : List ℕ) → bytes_eq xs ys ≡ bytes_eq ys xs
bytes_turned xs ys = same-sym xs ys

no_bit_span : (net name : List ℕ) (span : Option Span) (found : Option ℕ) → found ≡ None → Gives net (vector_of net) found
    → ((s : Span) → span ≡ Some s → (s.first < 2 ^ 32) × (s.last < 2 ^ 32))
    → option_map_or (λ (s : Span). stands (nets_of (Some s) name) net) span false ≡ false
no_bit_span net name None found e gives small = refl
no_bit_span net name (Some s) found e gives small = go (bytes_eq name (vector_of net)) refl
  where
    go : (b : Bool) → bytes_eq name (vector_of net) ≡ b → stands (nets_of (Some s) name) net ≡ false
    go false other = other_vector net name s (small s refl).0 (small s refl).1 other
    go true own =
        let is : name ≡ vector_of net = same name (vector_of net) own in
        ap (λ n. stands (nets_of (Some s) n) net) is
        ∙ (own_vector net (vector_of net) s found (small s refl).0 (small s refl).1 gives ∙ ap (picked s (vector_of net) net) e)

bit_span : (net name : List ℕ) (span : Option Span) (found : Option ℕ) (k : ℕ) → found ≡ Some k → Gives net (vector_of net) found
    → ((s : Span) → span ≡ Some s → (s.first < 2 ^ 32) × (s.last < 2 ^ 32))
    → option_map_or (λ (s : Span). stands (nets_of (Some s) name) net) span false
    ≡ (has_it (vector_of net) k span name && bytes_eq net (bit_name (vector_of net) k))
bit_span net name None found k e gives small = refl
bit_span net name (Some s) found k e gives small = go (bytes_eq name (vector_of net)) refl
  where
    go : (b : Bool) → bytes_eq name (vector_of net) ≡ b
        → stands (nets_of (Some s) name) net ≡ ((bytes_eq (vector_of net) name && has_number s k) && bytes_eq net (bit_name (vector_of net) k))
    go false other =
        rw (bytes_turned (vector_of net) name, other) (other_vector net name s (small s refl).0 (small s refl).1 other)
    go true own =
        let is : name ≡ vector_of net = same name (vector_of net) own in
        rw (bytes_turned (vector_of net) name, own)
        (ap (λ n. stands (nets_of (Some s) n) net) is
        ∙ (own_vector net (vector_of net) s found (small s refl).0 (small s refl).1 gives ∙ ap (picked s (vector_of net) net) e))

-- a number stands in the stretch of its own vector's range as in the range
key_own : (place k : ℕ) (span : Span) → holds (key place k) (stretch place span) ≡ has_number span k
key_own place k span = go (nat_lt span.last span.first) refl
  where
    go : (b : Bool) → nat_lt span.last span.first ≡ b → holds (key place k) (stretch place span) ≡ has_number span k
    go true e = rw e (grind (arith, nat_tests))
    go false e = rw e (grind (arith, nat_tests))

-- and in none of another vector
key_other : (place other k : ℕ) (span : Span) → (place ≡ other → ⊥) → k < 2 ^ 32 → span.first < 2 ^ 32 → span.last < 2 ^ 32
    → holds (key place k) (stretch other span) ≡ false
key_other place other k span apart small first last = go (nat_lt span.last span.first) refl
  where
    off : (low high : ℕ) → low < 2 ^ 32 → high < 2 ^ 32 → (nat_le (key other low) (key place k) && nat_le (key place k) (key other high)) ≡ false
    off low high l h = elim (cases_order place other) [
      | inl e ↦ absurd (apart e)
      | inr (inl before) ↦ let e : nat_le (key other low) (key place k) ≡ false = lt-leb (key other low) (key place k) (omega arith) in rw e refl
      | inr (inr after) ↦ let e : nat_le (key place k) (key other high) ≡ false = lt-leb (key place k) (key other high) (omega arith) in rw e (and_false (nat_le (key other low) (key place k)))
    ]
      where
        and_false : (b : Bool) → (b && false) ≡ false
        and_false true = refl
        and_false false = refl

    go : (b : Bool) → nat_lt span.last span.first ≡ b → holds (key place k) (stretch other span) ≡ false
    go true e = rw e (off span.last span.first last first)
    go false e = rw e (off span.first span.last first last)

-- the number is that of the net's vector alone
abbrev Alone : (List ℕ → Option ℕ) → List ℕ → ℕ → Type 0
Alone number vector place = (name : List ℕ) → number name ≡ Some place → name ≡ vector

-- one declaration more
one_more : (number : List ℕ → Option ℕ) (vector name : List ℕ) (place k : ℕ) (span : Option Span) (rest : List Stretch)
    → number vector ≡ Some place → Alone number vector place → k < 2 ^ 32
    → ((s : Span) → span ≡ Some s → (s.first < 2 ^ 32) × (s.last < 2 ^ 32))
    → list_any (holds (key place k)) (option_map_or (λ (p : ℕ). option_map_or (λ (s : Span). stretch p s ∷ rest) span rest) (number name) rest)
    ≡ (has_it vector k span name || list_any (holds (key place k)) rest)
one_more number vector name place k None rest here apart small ends = by (number name)
  where
    by : (o : Option ℕ) → list_any (holds (key place k)) (option_map_or (λ (p : ℕ). rest) o rest) ≡ list_any (holds (key place k)) rest
    by None = refl
    by (Some p) = refl
one_more number vector name place k (Some s) rest here apart small ends = go (bytes_eq vector name) refl (number name) refl
  where
    go : (b : Bool) → bytes_eq vector name ≡ b → (o : Option ℕ) → number name ≡ o
        → list_any (holds (key place k)) (option_map_or (λ (p : ℕ). stretch p s ∷ rest) o rest)
        ≡ ((bytes_eq vector name && has_number s k) || list_any (holds (key place k)) rest)
    go true own None e = let is : vector ≡ name = same vector name own in absurd (let f : Some place ≡ None = sym here ∙ ap number is ∙ e in none f)
      where
        none : Some place ≡ None → ⊥
        none f = absurd (cc)
    go true own (Some p) e =
        let is : vector ≡ name = same vector name own in
        let f : Some place ≡ Some p = sym here ∙ ap number is ∙ e in
        let g : place ≡ p = inner p f in
        rw own (ap (λ q. holds (key place k) (stretch q s) || list_any (holds (key place k)) rest) (sym g)
        ∙ ap (λ b. b || list_any (holds (key place k)) rest) (key_own place k s))
      where
        inner : (p : ℕ) → Some place ≡ Some p → place ≡ p
        inner p f = cc
    go false other None e = rw other refl
    go false other (Some p) e =
        rw other (ap (λ b. b || list_any (holds (key place k)) rest)
        (key_other place p k s (λ f. let is : name ≡ vector = apart name (e ∙ ap Some (sym f)) in absurd (false≢true (sym other ∙ ap (bytes_eq vector) is ∙ equal vector))) small (ends s refl).0 (ends s refl).1))

-- a number stands in the stretches where a declaration of the vector has it
pub held : (number : List ℕ → Option ℕ) (vector : List ℕ) (place k : ℕ) (es : List Event)
    → number vector ≡ Some place → Alone number vector place → k < 2 ^ 32 → AreSmall es
    → list_any (holds (key place k)) (stretches number es) ≡ list_any (it vector k) es
unfolding stretches
held number vector place k [] here apart small ends = refl
held number vector place k (Declared kind name at ∷ es) here apart small ends =
    one_more number vector name place k kind.span (stretches number es) here apart small (small_at kind.span ends.0)
    ∙ ap (λ b. has_it vector k kind.span name || b) (held number vector place k es here apart small ends.1)
held number vector place k (Module name ∷ es) here apart small ends = held number vector place k es here apart small ends.1
held number vector place k (Header name at ∷ es) here apart small ends = held number vector place k es here apart small ends.1
held number vector place k (CellWord at ∷ es) here apart small ends = held number vector place k es here apart small ends.1
held number vector place k (Instance cell name at ∷ es) here apart small ends = held number vector place k es here apart small ends.1
held number vector place k (Pin name at ∷ es) here apart small ends = held number vector place k es here apart small ends.1
held number vector place k (Connection pin n ∷ es) here apart small ends = held number vector place k es here apart small ends.1
held number vector place k (Fault w ∷ es) here apart small ends = held number vector place k es here apart small ends.1

and_over : (a b c : Bool) → ((a && c) || (b && c)) ≡ ((a || b) && c)
and_over true true c = or_same c
  where
    or_same : (c : Bool) → (c || c) ≡ c
    or_same true = refl
    or_same false = refl
and_over true false c = or_nothing c
and_over false b c = refl

-- a net that gives no number is no declared bit
pub no_bits : (net : List ℕ) (es : List Event) (found : Option ℕ) → found ≡ None → ((k : ℕ) → k < 2 ^ 32 → net ≡ bit_name (vector_of net) k → found ≡ Some k)
    → AreSmall es → list_any (declares_bit net) es ≡ false
no_bits net [] found e gives ends = refl
no_bits net (Declared kind name at ∷ es) found e gives ends =
    ap (λ b. b || list_any (declares_bit net) es) (no_bit_span net name kind.span found e gives (small_at kind.span ends.0)) ∙ no_bits net es found e gives ends.1
no_bits net (Module name ∷ es) found e gives ends = no_bits net es found e gives ends.1
no_bits net (Header name at ∷ es) found e gives ends = no_bits net es found e gives ends.1
no_bits net (CellWord at ∷ es) found e gives ends = no_bits net es found e gives ends.1
no_bits net (Instance cell name at ∷ es) found e gives ends = no_bits net es found e gives ends.1
no_bits net (Pin name at ∷ es) found e gives ends = no_bits net es found e gives ends.1
no_bits net (Connection pin n ∷ es) found e gives ends = no_bits net es found e gives ends.1
no_bits net (Fault w ∷ es) found e gives ends = no_bits net es found e gives ends.1

-- one that gives a number is one where a declaration of its vector has the number, and its name is that of the bit
pub bits_told : (net : List ℕ) (es : List Event) (found : Option ℕ) (k : ℕ) → found ≡ Some k → ((k : ℕ) → k < 2 ^ 32 → net ≡ bit_name (vector_of net) k → found ≡ Some k)
    → AreSmall es → list_any (declares_bit net) es ≡ (list_any (it (vector_of net) k) es && bytes_eq net (bit_name (vector_of net) k))
bits_told net [] found k e gives ends = refl
bits_told net (Declared kind name at ∷ es) found k e gives ends =
    ap (λ b. b || list_any (declares_bit net) es) (bit_span net name kind.span found k e gives (small_at kind.span ends.0))
    ∙ (ap (λ b. (has_it (vector_of net) k kind.span name && bytes_eq net (bit_name (vector_of net) k)) || b) (bits_told net es found k e gives ends.1)
    ∙ and_over (has_it (vector_of net) k kind.span name) (list_any (it (vector_of net) k) es) (bytes_eq net (bit_name (vector_of net) k)))
bits_told net (Module name ∷ es) found k e gives ends = bits_told net es found k e gives ends.1
bits_told net (Header name at ∷ es) found k e gives ends = bits_told net es found k e gives ends.1
bits_told net (CellWord at ∷ es) found k e gives ends = bits_told net es found k e gives ends.1
bits_told net (Instance cell name at ∷ es) found k e gives ends = bits_told net es found k e gives ends.1
bits_told net (Pin name at ∷ es) found k e gives ends = bits_told net es found k e gives ends.1
bits_told net (Connection pin n ∷ es) found k e gives ends = bits_told net es found k e gives ends.1
bits_told net (Fault w ∷ es) found k e gives ends = bits_told net es found k e gives ends.1

-- a range has no number from 2^32 on
pub no_great : (vector : List ℕ) (k : ℕ) (es : List Event) → nat_lt k (2 ^ 32) ≡ false → AreSmall es → list_any (it vector k) es ≡ false
no_great vector k [] great ends = refl
no_great vector k (Declared kind name at ∷ es) great ends =
    ap (λ b. b || list_any (it vector k) es) (one kind.span (small_at kind.span ends.0)) ∙ no_great vector k es great ends.1
  where
    off : (s : Span) → s.first < 2 ^ 32 → s.last < 2 ^ 32 → has_number s k ≡ false
    off s first last = grind (arith, nat_tests)

    one : (span : Option Span) → ((s : Span) → span ≡ Some s → (s.first < 2 ^ 32) × (s.last < 2 ^ 32)) → has_it vector k span name ≡ false
    one None small = refl
    one (Some s) small = rw (off s (small s refl).0 (small s refl).1) (and_false (bytes_eq vector name))
      where
        and_false : (b : Bool) → (b && false) ≡ false
        and_false true = refl
        and_false false = refl
no_great vector k (Module name ∷ es) great ends = no_great vector k es great ends.1
no_great vector k (Header name at ∷ es) great ends = no_great vector k es great ends.1
no_great vector k (CellWord at ∷ es) great ends = no_great vector k es great ends.1
no_great vector k (Instance cell name at ∷ es) great ends = no_great vector k es great ends.1
no_great vector k (Pin name at ∷ es) great ends = no_great vector k es great ends.1
no_great vector k (Connection pin n ∷ es) great ends = no_great vector k es great ends.1
no_great vector k (Fault w ∷ es) great ends = no_great vector k es great ends.1

-- a vector without a place has no declaration
some_stays : (n : ℕ) (m : ℕ) (es : List Event) (vector : List ℕ) → vector_place n (Some m) es vector ≡ None → ⊥
unfolding vector_place
some_stays n m [] vector h = absurd (cc)
some_stays n m (Declared kind name at ∷ es) vector h =
    by (is_some kind.span && bytes_eq vector name) (λ q f. some_stays (n + 1) q es vector f) h
  where
    by : (b : Bool) → ((q : ℕ) → vector_place (n + 1) (Some q) es vector ≡ None → ⊥) → vector_place (n + 1) (if b then Some n else Some m) es vector ≡ None → ⊥
    by true rest h = rest n h
    by false rest h = rest m h
some_stays n m (Module name ∷ es) vector h = some_stays (n + 1) m es vector h
some_stays n m (Header name at ∷ es) vector h = some_stays (n + 1) m es vector h
some_stays n m (CellWord at ∷ es) vector h = some_stays (n + 1) m es vector h
some_stays n m (Instance cell name at ∷ es) vector h = some_stays (n + 1) m es vector h
some_stays n m (Pin name at ∷ es) vector h = some_stays (n + 1) m es vector h
some_stays n m (Connection pin c ∷ es) vector h = some_stays (n + 1) m es vector h
some_stays n m (Fault w ∷ es) vector h = some_stays (n + 1) m es vector h

pub no_vector : (n : ℕ) (found : Option ℕ) (vector : List ℕ) (k : ℕ) (es : List Event) → vector_place n found es vector ≡ None → list_any (it vector k) es ≡ false
unfolding vector_place
no_vector n found vector k [] h = refl
no_vector n found vector k (Declared kind name at ∷ es) h =
    by kind.span (bytes_eq vector name) refl (λ f. no_vector (n + 1) found vector k es f) h
  where
    by : (span : Option Span) (b : Bool) → bytes_eq vector name ≡ b
        → (vector_place (n + 1) found es vector ≡ None → list_any (it vector k) es ≡ false)
        → vector_place (n + 1) (if is_some span && b then Some n else found) es vector ≡ None
        → (has_it vector k span name || list_any (it vector k) es) ≡ false
    by None b e rest h = rest h
    by (Some s) true e rest h = absurd (some_stays (n + 1) n es vector h)
    by (Some s) false e rest h = rw e (rest h)
no_vector n found vector k (Module name ∷ es) h = no_vector (n + 1) found vector k es h
no_vector n found vector k (Header name at ∷ es) h = no_vector (n + 1) found vector k es h
no_vector n found vector k (CellWord at ∷ es) h = no_vector (n + 1) found vector k es h
no_vector n found vector k (Instance cell name at ∷ es) h = no_vector (n + 1) found vector k es h
no_vector n found vector k (Pin name at ∷ es) h = no_vector (n + 1) found vector k es h
no_vector n found vector k (Connection pin c ∷ es) h = no_vector (n + 1) found vector k es h
no_vector n found vector k (Fault w ∷ es) h = no_vector (n + 1) found vector k es h

-- two vectors have two places
abbrev Below : Option ℕ → ℕ → Type 0
Below found n = (m : ℕ) → found ≡ Some m → m < n

pub apart : (n v : ℕ) (fa fb : Option ℕ) (a b : List ℕ) (es : List Event) → Below fa n → Below fb n → (fa ≡ Some v → fb ≡ Some v → a ≡ b)
    → vector_place n fa es a ≡ Some v → vector_place n fb es b ≡ Some v → a ≡ b
unfolding vector_place
apart n v fa fb a b [] la lb told ha hb = told ha hb
apart n v fa fb a b (Declared kind name at ∷ es) la lb told ha hb =
    by kind.span (bytes_eq a name) refl (bytes_eq b name) refl (λ f g lf lg h. apart (n + 1) v f g a b es lf lg h) ha hb
  where
    up : (f : Option ℕ) → Below f n → Below f (n + 1)
    up f l m e = let low = l m e in omega arith

    at_n : Below (Some n) (n + 1)
    at_n m e = let f : n ≡ m = inner e in omega arith
      where
        inner : Some n ≡ Some m → n ≡ m
        inner e = cc

    stays : {X : Type 0} (f : Option ℕ) → Below f n → Some n ≡ Some v → f ≡ Some v → X
    stays f l e h = let g : n ≡ v = inner e in let low = l v h in absurd (omega arith)
      where
        inner : Some n ≡ Some v → n ≡ v
        inner e = cc

    by : (span : Option Span) (x : Bool) → bytes_eq a name ≡ x → (y : Bool) → bytes_eq b name ≡ y
        → ((f g : Option ℕ) → Below f (n + 1) → Below g (n + 1) → (f ≡ Some v → g ≡ Some v → a ≡ b)
        → vector_place (n + 1) f es a ≡ Some v → vector_place (n + 1) g es b ≡ Some v → a ≡ b)
        → vector_place (n + 1) (if is_some span && x then Some n else fa) es a ≡ Some v
        → vector_place (n + 1) (if is_some span && y then Some n else fb) es b ≡ Some v → a ≡ b
    by None x ex y ey rest ha hb = rest fa fb (up fa la) (up fb lb) told ha hb
    by (Some s) true ex true ey rest ha hb = same a name ex ∙ sym (same b name ey)
    by (Some s) true ex false ey rest ha hb = rest (Some n) fb at_n (up fb lb) (λ e h. stays fb lb e h) ha hb
    by (Some s) false ex true ey rest ha hb = rest fa (Some n) (up fa la) at_n (λ h e. stays fa la e h) ha hb
    by (Some s) false ex false ey rest ha hb = rest fa fb (up fa la) (up fb lb) told ha hb
apart n v fa fb a b (Module name ∷ es) la lb told ha hb = apart (n + 1) v fa fb a b es (λ m e. let low = la m e in omega arith) (λ m e. let low = lb m e in omega arith) told ha hb
apart n v fa fb a b (Header name at ∷ es) la lb told ha hb = apart (n + 1) v fa fb a b es (λ m e. let low = la m e in omega arith) (λ m e. let low = lb m e in omega arith) told ha hb
apart n v fa fb a b (CellWord at ∷ es) la lb told ha hb = apart (n + 1) v fa fb a b es (λ m e. let low = la m e in omega arith) (λ m e. let low = lb m e in omega arith) told ha hb
apart n v fa fb a b (Instance cell name at ∷ es) la lb told ha hb = apart (n + 1) v fa fb a b es (λ m e. let low = la m e in omega arith) (λ m e. let low = lb m e in omega arith) told ha hb
apart n v fa fb a b (Pin name at ∷ es) la lb told ha hb = apart (n + 1) v fa fb a b es (λ m e. let low = la m e in omega arith) (λ m e. let low = lb m e in omega arith) told ha hb
apart n v fa fb a b (Connection pin c ∷ es) la lb told ha hb = apart (n + 1) v fa fb a b es (λ m e. let low = la m e in omega arith) (λ m e. let low = lb m e in omega arith) told ha hb
apart n v fa fb a b (Fault w ∷ es) la lb told ha hb = apart (n + 1) v fa fb a b es (λ m e. let low = la m e in omega arith) (λ m e. let low = lb m e in omega arith) told ha hb

-- what the declarations of a vector have is what its stretches have
number_told : (late : Late) (es : List Event) (vector : List ℕ) (place k : ℕ) → IsLate late es → said late.places vector ≡ Some place
    → list_any (it vector k) es ≡ (if nat_lt k (2 ^ 32) then list_any (holds (key place k)) late.cover else false)
number_told late es vector place k told here = go (nat_lt k (2 ^ 32)) refl
  where
    alone : Alone (said late.places) vector place
    alone name there =
        apart 0 place None None name vector es (λ m e. absurd (none m e)) (λ m e. absurd (none m e)) (λ e f. absurd (none place e))
        (sym (told.places name) ∙ there) (sym (told.places vector) ∙ here)
      where
        none : (m : ℕ) → None ≡ Some m → ⊥
        none m e = absurd (cc)

    go : (b : Bool) → nat_lt k (2 ^ 32) ≡ b → list_any (it vector k) es ≡ (if b then list_any (holds (key place k)) late.cover else false)
    go true e = sym (told.cover (key place k) ∙ held (said late.places) vector place k es here alone (ltb-true k (2 ^ 32) e) told.small)
    go false e = no_great vector k es e told.small

abbrev GivesAt : List ℕ → ℕ → Option ℕ → Type 0
GivesAt net at found = (k : ℕ) → k < 2 ^ 32 → net ≡ bit_name (take at net) k → found ≡ Some k

gives_own : (net : List ℕ) (at : ℕ) (found : Option ℕ) → take at net ≡ vector_of net → GivesAt net at found → Gives net (vector_of net) found
gives_own net at found cut gives k small is = gives k small (is ∙ ap (λ v. bit_name v k) (sym cut))

pub no_number : (late : Late) (net : List ℕ) (at : ℕ) (found : Option ℕ) → ((k : ℕ) → k < 2 ^ 32 → net ≡ bit_name (take at net) k → found ≡ Some k)
    → found ≡ None → IsBitTold late net at false
no_number late net at found gives none es told cut = sym (no_bits net es found none (gives_own net at found cut gives) told.small)

bit_at : (late : Late) (net : List ℕ) (at k : ℕ) (found : Option ℕ) (es : List Event) → IsLate late es → take at net ≡ vector_of net → GivesAt net at found → found ≡ Some k
    → list_any (declares_bit net) es ≡ (list_any (it (take at net) k) es && bytes_eq net (bit_name (take at net) k))
bit_at late net at k found es told cut gives some =
    rw cut (bits_told net es found k some (gives_own net at found cut gives) told.small)

pub no_place : (late : Late) (net : List ℕ) (at k : ℕ) (found : Option ℕ) → ((k : ℕ) → k < 2 ^ 32 → net ≡ bit_name (take at net) k → found ≡ Some k)
    → found ≡ Some k → said late.places (take at net) ≡ None → IsBitTold late net at false
no_place late net at k found gives some none es told cut =
    let off : list_any (it (take at net) k) es ≡ false = no_vector 0 None (take at net) k es (sym (told.places (take at net)) ∙ none) in
    sym (bit_at late net at k found es told cut gives some ∙ ap (λ b. b && bytes_eq net (bit_name (take at net) k)) off)

pub not_held : (late : Late) (net : List ℕ) (at k place : ℕ) (found : Option ℕ) → ((k : ℕ) → k < 2 ^ 32 → net ≡ bit_name (take at net) k → found ≡ Some k)
    → found ≡ Some k → said late.places (take at net) ≡ Some place
    → (if nat_lt k (2 ^ 32) then list_any (holds (key place k)) late.cover else false) ≡ false → IsBitTold late net at false
not_held late net at k place found gives some here off es told cut =
    sym (bit_at late net at k found es told cut gives some
    ∙ ap (λ b. b && bytes_eq net (bit_name (take at net) k)) (number_told late es (take at net) place k told here ∙ off))

-- a name that begins alike is told by its end
behind_alike : (xs ys zs : List ℕ) → bytes_eq (xs ++ ys) (xs ++ zs) ≡ bytes_eq ys zs
behind_alike [] ys zs = refl
behind_alike (x ∷ xs) ys zs = rw (eq-eqb x x refl) (behind_alike xs ys zs)

pub is_held : (late : Late) (net : List ℕ) (at k place : ℕ) (found : Option ℕ) (is : Bool) → ((k : ℕ) → k < 2 ^ 32 → net ≡ bit_name (take at net) k → found ≡ Some k)
    → found ≡ Some k → said late.places (take at net) ≡ Some place
    → (if nat_lt k (2 ^ 32) then list_any (holds (key place k)) late.cover else false) ≡ true
    → is ≡ bytes_eq (drop at net) (91 ∷ (decimal k ++ (93 ∷ []))) → IsBitTold late net at is
is_held late net at k place found is gives some here on text es told cut =
    text
    ∙ (sym (behind_alike (take at net) (drop at net) (91 ∷ (decimal k ++ (93 ∷ []))))
    ∙ (ap (λ n. bytes_eq n (bit_name (take at net) k)) (take-append-drop at net)
    ∙ sym (bit_at late net at k found es told cut gives some
    ∙ ap (λ b. b && bytes_eq net (bit_name (take at net) k)) (number_told late es (take at net) place k told here ∙ on))))

-- a net without a bracket is no bit
no_open_span : (net name : List ℕ) (span : Option Span) → list_any (λ b. b == 91) net ≡ false
    → ((s : Span) → span ≡ Some s → (s.first < 2 ^ 32) × (s.last < 2 ^ 32))
    → option_map_or (λ (s : Span). stands (nets_of (Some s) name) net) span false ≡ false
no_open_span net name None closed small = refl
no_open_span net name (Some s) closed small =
    stands_picked s name net None (small s refl).0 (small s refl).1 (λ k low is. absurd (false≢true (sym closed ∙ (ap (list_any (λ b. b == 91)) is ∙ bit_has_open name k))))

pub no_open : (net : List ℕ) (es : List Event) → list_any (λ b. b == 91) net ≡ false → AreSmall es → list_any (declares_bit net) es ≡ false
no_open net [] closed ends = refl
no_open net (Declared kind name at ∷ es) closed ends =
    ap (λ b. b || list_any (declares_bit net) es) (no_open_span net name kind.span closed (small_at kind.span ends.0)) ∙ no_open net es closed ends.1
no_open net (Module name ∷ es) closed ends = no_open net es closed ends.1
no_open net (Header name at ∷ es) closed ends = no_open net es closed ends.1
no_open net (CellWord at ∷ es) closed ends = no_open net es closed ends.1
no_open net (Instance cell name at ∷ es) closed ends = no_open net es closed ends.1
no_open net (Pin name at ∷ es) closed ends = no_open net es closed ends.1
no_open net (Connection pin n ∷ es) closed ends = no_open net es closed ends.1
no_open net (Fault w ∷ es) closed ends = no_open net es closed ends.1

-- the three ways in which a net is asked for
pub had_alone : (late : Late) (net : List ℕ) → stands late.alone net ≡ true → (es : List Event) → IsLate late es → true ≡ list_any (declares net) es
had_alone late net here es told =
    sym (either net es ∙ ap (λ b. b || list_any (declares_bit net) es) (sym (told.alone net) ∙ here))

pub had_none : (late : Late) (net : List ℕ) → stands late.alone net ≡ false → list_any (λ b. b == 91) net ≡ false
    → (es : List Event) → IsLate late es → false ≡ list_any (declares net) es
had_none late net off closed es told =
    sym (either net es ∙ (ap (λ b. b || list_any (declares_bit net) es) (sym (told.alone net) ∙ off) ∙ no_open net es closed told.small))

pub had_bit : (late : Late) (net : List ℕ) (at : ℕ) (is : Bool) → stands late.alone net ≡ false → take at net ≡ vector_of net → IsBitTold late net at is
    → (es : List Event) → IsLate late es → is ≡ list_any (declares net) es
had_bit late net at is off cut bit es told =
    bit es told cut ∙ sym (either net es ∙ ap (λ b. b || list_any (declares_bit net) es) (sym (told.alone net) ∙ off))

-- what follows of an answer follows where there is one
pub on_ok : {X E : Type 0} → (r : Result X E) (P Q : X → Type 0) → IfOk r P → ((x : X) → P x → Q x) → IfOk r Q
on_ok (Ok x) P Q p f = f x p
on_ok (Err e) P Q p f = tt

or_left : (a b c : Bool) → ((a || b) || c) ≡ (a || (b || c))
or_left true b c = refl
or_left false b c = refl

-- which names stand in a set with some more
pub stands_one : (names : List (List ℕ)) (name q : List ℕ) → stands (with_name names name) q ≡ (stands names q || bytes_eq q name)
stands_one names name q = go (stands names name) refl
  where
    push : (xs : List (List ℕ)) → stands (xs ++ name ∷ []) q ≡ (stands xs q || bytes_eq q name)
    push [] = or_nothing (bytes_eq q name)
    push (x ∷ xs) = ap (λ b. bytes_eq q x || b) (push xs) ∙ sym (or_left (bytes_eq q x) (stands xs q) (bytes_eq q name))

    again : (b : Bool) → bytes_eq q name ≡ b → stands names name ≡ true → stands names q ≡ (stands names q || b)
    again false e h = sym (or_nothing (stands names q))
    again true e h =
        let here : stands names q ≡ true = subst (λ (x : List ℕ). stands names x ≡ true) (sym (same q name e)) h in
        rw here refl

    go : (b : Bool) → stands names name ≡ b → stands (with_name names name) q ≡ (stands names q || bytes_eq q name)
    go true h = rw h (again (bytes_eq q name) refl h)
    go false h = rw h (push names)

pub stands_more : (names more : List (List ℕ)) (q : List ℕ) → stands (with_names names more) q ≡ (stands names q || stands more q)
unfolding with_names
stands_more names [] q = sym (or_nothing (stands names q))
stands_more names (x ∷ xs) q =
    stands_more (with_name names x) xs q
    ∙ (ap (λ b. b || stands xs q) (stands_one names x q) ∙ or_left (stands names q) (bytes_eq q x) (stands xs q))

-- a net is declared before some events, or in one of them
pub stands_declared : (nets : List (List ℕ)) (es : List Event) (q : List ℕ) → stands (all_declared nets es) q ≡ (stands nets q || list_any (declares q) es)
unfolding all_declared
stands_declared nets [] q = sym (or_nothing (stands nets q))
stands_declared nets (Declared kind name at ∷ es) q =
    stands_declared (with_names nets (nets_of kind.span name)) es q
    ∙ (ap (λ b. b || list_any (declares q) es) (stands_more nets (nets_of kind.span name) q)
    ∙ or_left (stands nets q) (stands (nets_of kind.span name) q) (list_any (declares q) es))
stands_declared nets (Module name ∷ es) q = stands_declared nets es q
stands_declared nets (Header name at ∷ es) q = stands_declared nets es q
stands_declared nets (CellWord at ∷ es) q = stands_declared nets es q
stands_declared nets (Instance cell name at ∷ es) q = stands_declared nets es q
stands_declared nets (Pin name at ∷ es) q = stands_declared nets es q
stands_declared nets (Connection pin n ∷ es) q = stands_declared nets es q
stands_declared nets (Fault w ∷ es) q = stands_declared nets es q

-- names that stand already change nothing
all_stand : (names more : List (List ℕ)) → ((q : List ℕ) → stands more q ≡ true → stands names q ≡ true) → with_names names more ≡ names
unfolding with_names
all_stand names [] h = refl
all_stand names (x ∷ xs) h =
    let here : stands names x ≡ true = h x (ap (λ b. b || stands xs x) (equal x)) in
    rw here (all_stand names xs (λ q e. h q (ap (λ b. bytes_eq q x || b) e ∙ or_true (bytes_eq q x))))
  where
    or_true : (b : Bool) → (b || true) ≡ true
    or_true true = refl
    or_true false = refl

twice : (names more : List (List ℕ)) → with_names (with_names names more) more ≡ with_names names more
twice names more = all_stand (with_names names more) more (λ q e. stands_more names more q ∙ (ap (λ b. stands names q || b) e ∙ or_true (stands names q)))
  where
    or_true : (b : Bool) → (b || true) ≡ true
    or_true true = refl
    or_true false = refl

-- a declaration whose nets may be there already declares the same
pub declared_again : (before names after : List (List ℕ)) → IsDeclared before names after → with_names after names ≡ with_names before names
declared_again before names after (inl e) = ap (λ xs. with_names xs names) e
declared_again before names after (inr e) = ap (λ xs. with_names xs names) e ∙ twice before names

-- the same from a place of a list of events
pub kept_from : (after before : List (List ℕ)) (es : List Event) (n : ℕ) (e : Event) → n < length es → e ≡ get_or es n e
    → ((rest : List Event) → all_declared after (e ∷ rest) ≡ all_declared before (e ∷ rest)) → all_declared after (drop n es) ≡ all_declared before (drop n es)
kept_from after before es n e low is kept =
    let cut : drop n es ≡ e ∷ drop (n + 1) es = drop_more es n e low ∙ ap (λ x. x ∷ drop (n + 1) es) (sym is) in
    rw cut (kept (drop (n + 1) es))

pub whole_rest : (es : List Event) (n : ℕ) → take (length es - n) (drop n es) ≡ drop n es
whole_rest es n = take_all (length es - n) (drop n es) (omega (arith, length-drop n es))
