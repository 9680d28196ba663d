-- Declared nets that are asked for one by one, and are not listed: those of the declarations from the
-- first that has a fault on. A net is declared alone, or it is a bit of a declared vector.
use Rattle.std.specs.Prelude.{◌≡◌, ◌⊎◌, ◌<◌, ℕ, ◌+◌, ◌*◌, ◌^◌, ◌==◌, take, List, [], ◌∷◌, Bool, false, ◌&&◌, nat_lt, nat_le, if◌then◌else◌, Option, Some, None, is_some}
use Rattle.std.specs.List.{list_any}
use Rattle.std.specs.Option.{option_map_or}
use Rattle.std.specs.Str.{bytes_eq}
use Rattle.sta_text.specs.Names.{stands, said}
use Rattle.verilog_netlist.specs.declared.events.Span.{Span}
use Rattle.verilog_netlist.specs.declared.events.Event.{Event}
use Rattle.verilog_netlist.specs.declared.events.Event.TheVariants.{Declared}
use Rattle.verilog_netlist.specs.declared.covers.Stretch.{Stretch}
use Rattle.verilog_netlist.specs.declared.late.Late.{Late}
use Rattle.verilog_netlist.specs.Nets.{nets_of}
use Rattle.verilog_netlist.specs.Faults.{with_names}

-- a declaration has the net
abbrev pub declares : List ℕ → Event → Bool
declares net (Declared kind name at) = stands (nets_of kind.span name) net
declares net e = false

-- it has it as a name alone, or as a bit of a vector
abbrev pub declares_alone : List ℕ → Event → Bool
declares_alone net (Declared kind name at) = (if is_some kind.span then false else bytes_eq net name)
declares_alone net e = false

abbrev pub declares_bit : List ℕ → Event → Bool
declares_bit net (Declared kind name at) = option_map_or (λ span. stands (nets_of (Some span) name) net) kind.span false
declares_bit net e = false

-- the vector of which a net may be a bit: what stands before its last bracket
abbrev pub vector_of : List ℕ → List ℕ
vector_of [] = []
vector_of (byte ∷ bytes) =
    (if list_any (λ b. b == 91) bytes then byte ∷ vector_of bytes else (if byte == 91 then [] else byte ∷ []))

-- the place of a vector's last declaration, counted from `n`
unfoldable pub vector_place : ℕ → Option ℕ → List Event → List ℕ → Option ℕ
vector_place n found [] vector = found
vector_place n found (Declared kind name at ∷ es) vector =
    vector_place (n + 1) (if is_some kind.span && bytes_eq vector name then Some n else found) es vector
vector_place n found (e ∷ es) vector = vector_place (n + 1) found es vector

-- the numbers of all vectors side by side: each vector has 2^32 of them
abbrev pub key : ℕ → ℕ → ℕ
key place k = place * 2 ^ 32 + k

-- the number stands in the stretch
abbrev pub holds : ℕ → Stretch → Bool
holds k stretch = nat_le stretch.low k && nat_le k stretch.high

-- the stretch of a vector's range
abbrev pub stretch : ℕ → Span → Stretch
stretch place span =
    (if nat_lt span.last span.first then record { low = key place span.last; high = key place span.first }
    else record { low = key place span.first; high = key place span.last })

-- the stretches of all declared ranges
unfoldable pub stretches : (List ℕ → Option ℕ) → List Event → List Stretch
stretches place [] = []
stretches place (Declared kind name at ∷ es) =
    option_map_or (λ p. option_map_or (λ span. stretch p span ∷ stretches place es) kind.span (stretches place es)) (place name) (stretches place es)
stretches place (e ∷ es) = stretches place es

-- the ends of declared ranges are numbers below 2^32
abbrev pub SmallEnds : Option Span → Type 0
SmallEnds None = Unit {0}
SmallEnds (Some span) = (span.first < 2 ^ 32) × (span.last < 2 ^ 32)

abbrev pub Small : Event → Type 0
Small (Declared kind name at) = SmallEnds kind.span
Small e = Unit {0}

abbrev pub AreSmall : List Event → Type 0
AreSmall [] = Unit {0}
AreSmall (e ∷ es) = Small e × AreSmall es

-- what is kept of some events tells what their declarations have
pub record IsLate (late : Late) (es : List Event) : Type 0 where
  pub alone : (net : List ℕ) → stands late.alone net ≡ list_any (declares_alone net) es
  pub places : (vector : List ℕ) → said late.places vector ≡ vector_place 0 None es vector
  pub cover : (k : ℕ) → list_any (holds k) late.cover ≡ list_any (holds k) (stretches (said late.places) es)
  pub small : AreSmall es

-- the answer tells whether the net, whose vector is named before a place, is a declared bit
abbrev pub IsBitTold : Late → List ℕ → ℕ → Bool → Type 0
IsBitTold late net at answer =
    (es : List Event) → IsLate late es → take at net ≡ vector_of net → answer ≡ list_any (declares_bit net) es

-- a set of nets has these too, or is as before
abbrev pub IsDeclared : List (List ℕ) → List (List ℕ) → List (List ℕ) → Type 0
IsDeclared before names after = (after ≡ before) ⊎ (after ≡ with_names before names)
