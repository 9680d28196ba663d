-- A design and the numbers of its instances, nets and pins: what contracts see of a store.

use Rattle.std.specs.Prelude.{nat_lt, if◌then◌else◌, [], ◌∷◌, ◌++◌, set, ℕ, ◌^◌, ◌<◌, ◌≡◌, nat_eq, Bool, false, List, length, slice_get, Option, Some, is_some, option_and_then}
use Rattle.std.specs.List.{position}
use Rattle.std.specs.Option.{option_map_or}
use Rattle.std.specs.Str.{bytes_eq}
use Rattle.timing_defs.specs.declared.netlist.Inst.{Inst}
use Rattle.timing_defs.specs.declared.design.Design.{Design}
use Rattle.timing_defs.specs.Netlist.{Pin, net_of, pin_named, is_listed}
use Rattle.timing_defs.specs.Edits.{inst_named}

-- a design, and for each kind the list of what its numbers stand for: the number `n` stands for the
-- name at the place `n`, or for nothing (a gap) (own)
pub record Stored : Type 0 where
  pub design : Design
  pub insts : List (Option (List ℕ))
  pub nets : List (Option (List ℕ))
  pub pins : List (Option (List ℕ))

-- the name that a number stands for; none for a gap and past the bound
abbrev pub name_at : List (Option (List ℕ)) → ℕ → Option (List ℕ)
name_at names n = option_and_then (λ name. name) (slice_get names n)

-- the number of a name
abbrev pub is_named : List ℕ → Option (List ℕ) → Bool
is_named name here = option_map_or (λ n. bytes_eq n name) here false

abbrev pub number_of : List (Option (List ℕ)) → List ℕ → Option ℕ
number_of names name = position (is_named name) names

-- whether a number stands for something
abbrev pub is_number : List (Option (List ℕ)) → ℕ → Bool
is_number names n = is_some (name_at names n)

-- the instance and the pin that a number stands for
abbrev pub inst_numbered : Stored → ℕ → Option Inst
inst_numbered s n = option_and_then (inst_named s.design.insts) (name_at s.insts n)

abbrev pub pin_numbered : Stored → ℕ → Option Pin
pin_numbered s n = option_and_then (pin_named s.design) (name_at s.pins n)

-- the number of the instance that owns a pin; none for a port
abbrev pub owner_number : Stored → ℕ → Option ℕ
owner_number s pin =
    option_and_then (λ inst. number_of s.insts inst.name) (option_and_then (λ p. p.owner) (pin_numbered s pin))

-- the number of the net that a pin is on
abbrev pub net_number : Stored → ℕ → Option ℕ
net_number s pin = option_and_then (number_of s.nets) (option_and_then net_of (pin_numbered s pin))

abbrev pub is_on_number : Stored → ℕ → ℕ → Bool
is_on_number s net pin = option_map_or (nat_eq net) (net_number s pin) false

-- no two numbers stand for one name, and numbers fit 31 bits
pub record AreNumbers (names : List (Option (List ℕ))) : Type 0 where
  pub distinct : (n : ℕ) (name : List ℕ) → name_at names n ≡ Some name → number_of names name ≡ Some n
  pub below : length names < 2 ^ 31

-- the instances, nets and pins of the design, and no others, have numbers
pub record IsNumbered (s : Stored) : Type 0 where
  pub insts : AreNumbers s.insts
  pub nets : AreNumbers s.nets
  pub pins : AreNumbers s.pins
  pub inst_names : (name : List ℕ) → is_some (number_of s.insts name) ≡ is_some (inst_named s.design.insts name)
  pub net_names : (name : List ℕ) → is_some (number_of s.nets name) ≡ is_listed s.design.nets name
  pub pin_names : (name : List ℕ) → is_some (number_of s.pins name) ≡ is_some (pin_named s.design name)

-- the numbers that a map gives to names are those of a numbering
pub record Agrees (number : List ℕ → Option ℕ) (names : List (Option (List ℕ))) : Type 0 where
  pub told : (name : List ℕ) (n : ℕ) → number name ≡ Some n → name_at names n ≡ Some name
  pub back : (n : ℕ) (name : List ℕ) → name_at names n ≡ Some name → number name ≡ Some n

-- a name at a gap, or after all numbers
abbrev pub with_name : List (Option (List ℕ)) → ℕ → List ℕ → List (Option (List ℕ))
with_name names n name = (if nat_lt n (length names) then set names n (Some name) else names ++ Some name ∷ [])

-- what two numberings have in common agrees: a name keeps its number, and a number its name
pub record AreKept (before after : List (Option (List ℕ))) : Type 0 where
  pub numbers : (name : List ℕ) (m n : ℕ) → number_of before name ≡ Some m → number_of after name ≡ Some n → m ≡ n
  pub names : (n : ℕ) (a b : List ℕ) → name_at before n ≡ Some a → name_at after n ≡ Some b → a ≡ b

pub record KeepsNumbers (before after : Stored) : Type 0 where
  pub insts : AreKept before.insts after.insts
  pub nets : AreKept before.nets after.nets
  pub pins : AreKept before.pins after.pins
