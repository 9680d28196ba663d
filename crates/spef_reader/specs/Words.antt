-- The words of a text of parasitics (IEEE 1481, "SPEF syntax"): names, nodes, values and factors.
use Rattle.std.specs.Prelude.{ℕ, ◌+◌, ◌^◌, List, [], ◌∷◌, ◌++◌, Bool, true, false, ◌==◌, ◌&&◌, ◌||◌, not, nat_lt, length, take, drop, codes, if◌then◌else◌, Option, Some, None, is_some, option_and_then, Result, Ok, Err, ℤ, pos, negsuc}
use Rattle.std.specs.Char.{is_ascii_digit, is_ascii_alphanumeric}
use Rattle.std.specs.List.{list_all, prefix_len}
use Rattle.std.specs.Str.{bytes_eq}
use Rattle.sta_units.specs.Decimal.{is_whole, number_on, decimal_of}
use Rattle.sta_units.specs.declared.decimals.DecFault.{DecFault}
use Rattle.sta_units.specs.declared.decimals.DecFault.TheVariants.{NotDecimal, TooLong, OutOfUnitRange}
use Rattle.sta_units.specs.declared.units.Unit.{Unit}
use Rattle.timing_defs.specs.Names.{is_graphic}
use Rattle.sta_text.specs.Bytes.{begins}
use Rattle.spef_reader.specs.declared.context.Bus.{Bus}
use Rattle.spef_reader.specs.declared.words.Reading.{Reading}
use Rattle.spef_reader.specs.declared.words.Reading.TheVariants.{Word, Name}
use Rattle.spef_reader.specs.declared.words.Sides.{Sides}
use Rattle.spef_reader.specs.declared.words.Sides.TheVariants.{Alone, Joined}

-- a mark is no letter and no digit
abbrev pub is_mark : ℕ → Bool
is_mark b = is_graphic b && not (is_ascii_alphanumeric b)

abbrev pub begins_mark : List ℕ → Bool
begins_mark [] = false
begins_mark (b ∷ bs) = is_mark b

-- a backslash (92) before a mark escapes it, unless it is escaped itself
abbrev pub escapes : Bool → ℕ → List ℕ → Bool
escapes escaped b bs = not escaped && b == 92 && begins_mark bs

abbrev pub is_this : Option ℕ → ℕ → Bool
is_this None b = false
is_this (Some mark) b = b == mark

-- the marks of buses read as [ (91) and ] (93)
abbrev pub unescaped : Bus → ℕ → ℕ
unescaped bus b = (if is_this bus.opening b then 91 else (if is_this bus.closing b then 93 else b))

-- a byte that stands for itself wherever it stands
abbrev pub is_plain : Bus → ℕ → Bool
is_plain bus b = not (b == 92) && unescaped bus b == b

-- the name that a word spells; its first byte may be escaped
unfoldable pub spelled : Bus → Bool → List ℕ → List ℕ
spelled bus escaped [] = []
spelled bus escaped (b ∷ bs) =
    (if escapes escaped b bs then [] else (if escaped then b else unescaped bus b) ∷ [])
    ++ spelled bus (escapes escaped b bs) bs

-- the name that is read: what a word spells, or a name that is spelled already
abbrev pub read_as : Bus → Reading → List ℕ
read_as bus (Word word) = spelled bus false word.now
read_as bus (Name name) = name.now

-- what stands behind the first byte
abbrev pub behind : List ℕ → List ℕ
behind [] = []
behind (b ∷ bs) = bs

abbrev pub is_zero : ℕ → Bool
is_zero b = b == 48

-- an index is a star (42) and decimal digits; leading zeros do not tell indexes apart
abbrev pub is_index : List ℕ → Bool
is_index word = begins 42 word && is_whole (behind word)

abbrev pub index_of : List ℕ → List ℕ
index_of word = drop (prefix_len is_zero (behind word)) (behind word)

-- a name is spelled, or given by its index; keywords begin with a star
abbrev pub is_spelled : List ℕ → Bool
is_spelled word = not (length word == 0) && not (begins 42 word)

abbrev pub is_reference : List ℕ → Bool
is_reference word = is_index word || is_spelled word

-- the place of the last delimiter that is not escaped, in a text before which `n` bytes stand
unfoldable pub last_at : ℕ → ℕ → Option ℕ → Bool → List ℕ → Option ℕ
last_at delimiter n found escaped [] = found
last_at delimiter n found escaped (b ∷ bs) =
    last_at delimiter (n + 1) (if b == delimiter && not escaped then Some n else found) (escapes escaped b bs) bs

-- the two sides of a node's word, or the word alone where no delimiter stands in it
pub data Parts : Type 0 where
  alone : List ℕ → Parts
  joined : List ℕ → List ℕ → Parts

abbrev pub parts_at : List ℕ → Option ℕ → Parts
parts_at word None = alone word
parts_at word (Some n) = joined (take n word) (drop (n + 1) word)

abbrev pub parts_of : ℕ → List ℕ → Parts
parts_of delimiter word = parts_at word (last_at delimiter 0 None false word)

abbrev pub sides_of : Sides → Parts
sides_of (Alone word) = alone word.now
sides_of (Joined left right) = joined left.now right.now

abbrev pub are_references : Parts → Bool
are_references (alone word) = is_reference word
are_references (joined left right) = is_reference left && is_reference right

abbrev pub begins_digit : List ℕ → Bool
begins_digit [] = false
begins_digit (b ∷ bs) = is_ascii_digit b

-- a port; an instance and its pin; or a net and the number of an inner node. Without a delimiter in
-- the header it is not cut
abbrev pub is_node : Option ℕ → List ℕ → Bool
is_node None word = is_spelled word || (begins 42 word && begins_digit (behind word))
is_node (Some delimiter) word = are_references (parts_of delimiter word)

-- the number of an inner node lies below 2^32
abbrev pub is_inner : List ℕ → Bool
is_inner word = is_whole word && nat_lt (number_on 0 word) (2 ^ 32)

-- a decimal has the form of one, whatever its size
abbrev pub has_form : Result ℤ DecFault → Bool
has_form (Ok number) = true
has_form (Err NotDecimal) = false
has_form (Err TooLong) = true
has_form (Err OutOfUnitRange) = true

abbrev pub is_decimal : List ℕ → Bool
is_decimal word = has_form (decimal_of word (pos 0))

-- what stands before the first colon (58), and behind it
abbrev pub is_no_colon : ℕ → Bool
is_no_colon b = not (b == 58)

abbrev pub before_colon : List ℕ → List ℕ
before_colon word = take (prefix_len is_no_colon word) word

abbrev pub behind_colon : List ℕ → List ℕ
behind_colon word = drop (prefix_len is_no_colon word + 1) word

-- three decimals with colons between: least, typical and greatest value
abbrev pub is_triplet : List ℕ → Bool
is_triplet word =
    is_decimal (before_colon word) && is_decimal (before_colon (behind_colon word))
    && is_decimal (behind_colon (behind_colon word))

-- the decimal that a value gives: of a triplet the typical one (own)
unfoldable pub written : List ℕ → Option (List ℕ)
written word =
    (if is_decimal word then Some word else
    (if is_triplet word then Some (before_colon (behind_colon word)) else None))

-- a size is no negative number
abbrev pub size_of : Result ℤ DecFault → Option ℕ
size_of (Ok (pos n)) = Some n
size_of (Ok (negsuc n)) = None
size_of (Err e) = None

-- the size of a value, rounded once in the unit; none where there is no unit
abbrev pub size_in : Option Unit → List ℕ → Option ℕ
size_in None decimal = None
size_in (Some unit) decimal = size_of (decimal_of decimal unit.ten)

abbrev pub value_of : Option Unit → List ℕ → Option ℕ
value_of unit word = option_and_then (size_in unit) (written word)

abbrev pub is_too_long : Result ℤ DecFault → Bool
is_too_long (Err TooLong) = true
is_too_long found = false

-- a decimal that gives no size; where there is no unit only its length is looked at
abbrev pub is_sizeless : Option Unit → List ℕ → Bool
is_sizeless None decimal = is_too_long (decimal_of decimal (pos 0))
is_sizeless (Some unit) decimal = not (is_some (size_of (decimal_of decimal unit.ten)))

abbrev pub lacks_size : Option Unit → Option (List ℕ) → Bool
lacks_size unit None = true
lacks_size unit (Some decimal) = is_sizeless unit decimal

-- a word that is no value
abbrev pub is_no_value : Option Unit → List ℕ → Bool
is_no_value unit word = lacks_size unit (written word)

-- bytes of a decimal that leave it a power of ten: 0, the point and the plus
abbrev pub is_nought : ℕ → Bool
is_nought b = b == 48 || b == 46 || b == 43

-- all bytes but e and E
abbrev pub is_of_mantissa : ℕ → Bool
is_of_mantissa b = not (b == 101 || b == 69)

abbrev pub is_one : List ℕ → Bool
is_one [] = false
is_one (b ∷ bs) = b == 49 && list_all is_nought bs

abbrev pub behind_noughts : List ℕ → List ℕ
behind_noughts mantissa = drop (prefix_len is_nought mantissa) mantissa

-- the digits of a power of ten are a 1 and zeros
abbrev pub has_one : List ℕ → Bool
has_one word = is_one (behind_noughts (take (prefix_len is_of_mantissa word) word))

-- the power of ten of a number from 1 to 10^6
abbrev pub power : ℕ → Option ℕ
power n =
    (if n == 1 then Some 0 else
    (if n == 10 then Some 1 else
    (if n == 100 then Some 2 else
    (if n == 1000 then Some 3 else
    (if n == 10000 then Some 4 else (if n == 100000 then Some 5 else (if n == 1000000 then Some 6 else None)))))))

-- the power of ten of a thousand times a factor that is a power of ten from 0.001 to 1000
unfoldable pub power_of : List ℕ → Option ℕ
power_of word = (if has_one word then option_and_then power (size_of (decimal_of word (pos 3))) else None)

-- one byte that is a mark, as the delimiters of buses are
abbrev pub mark_of : List ℕ → Option ℕ
mark_of [] = None
mark_of (b ∷ []) = (if is_mark b then Some b else None)
mark_of (b ∷ c ∷ cs) = None

-- the delimiters of pins: . / : |
abbrev pub is_pin_delimiter : ℕ → Bool
is_pin_delimiter b = b == 46 || b == 47 || b == 58 || b == 124

abbrev pub delimiter_of : List ℕ → Option ℕ
delimiter_of [] = None
delimiter_of (b ∷ []) = (if is_pin_delimiter b then Some b else None)
delimiter_of (b ∷ c ∷ cs) = None

-- header words with texts that are passed over
abbrev pub is_text_word : List ℕ → Bool
is_text_word word =
    bytes_eq word (codes "*DESIGN") || bytes_eq word (codes "*DATE") || bytes_eq word (codes "*VENDOR")
    || bytes_eq word (codes "*PROGRAM") || bytes_eq word (codes "*VERSION") || bytes_eq word (codes "*DESIGN_FLOW")

-- units of time and inductance, which measure nothing that is read
abbrev pub is_other_unit : List ℕ → Bool
is_other_unit word = bytes_eq word (codes "*T_UNIT") || bytes_eq word (codes "*L_UNIT")

-- a header word
unfoldable pub is_header_word : List ℕ → Bool
is_header_word word =
    is_text_word word || bytes_eq word (codes "*DIVIDER") || bytes_eq word (codes "*DELIMITER")
    || bytes_eq word (codes "*BUS_DELIMITER") || bytes_eq word (codes "*C_UNIT") || bytes_eq word (codes "*R_UNIT")
    || is_other_unit word

-- sections that are passed over
abbrev pub is_passed : List ℕ → Bool
is_passed word =
    bytes_eq word (codes "*PORTS") || bytes_eq word (codes "*PHYSICAL_PORTS")
    || bytes_eq word (codes "*POWER_NETS") || bytes_eq word (codes "*GROUND_NETS")

-- the attributes of a port: its place, load and slews, and the cell that drives it
abbrev pub is_attribute : List ℕ → Bool
is_attribute word =
    bytes_eq word (codes "*C") || bytes_eq word (codes "*L")
    || bytes_eq word (codes "*S") || bytes_eq word (codes "*D")

-- what stands in a section that is passed over. Of the words that begin with a star (42) these are
-- the ports and nets by their index, and attributes
unfoldable pub is_port_word : Option ℕ → List ℕ → Bool
is_port_word delimiter word = not (begins 42 word) || is_attribute word || is_node delimiter word

-- sections that are left out
abbrev pub is_left_out : List ℕ → Bool
is_left_out word =
    bytes_eq word (codes "*R_NET") || bytes_eq word (codes "*D_PNET") || bytes_eq word (codes "*R_PNET")
    || bytes_eq word (codes "*DEFINE") || bytes_eq word (codes "*PDEFINE")
    || bytes_eq word (codes "*VARIATION_PARAMETERS")

-- what begins a section
unfoldable pub is_section : List ℕ → Bool
is_section word =
    bytes_eq word (codes "*NAME_MAP") || bytes_eq word (codes "*D_NET") || is_passed word || is_left_out word

-- what begins a part of a net, or ends the net
unfoldable pub is_net_word : List ℕ → Bool
is_net_word word =
    bytes_eq word (codes "*CONN") || bytes_eq word (codes "*CAP") || bytes_eq word (codes "*RES")
    || bytes_eq word (codes "*INDUC") || bytes_eq word (codes "*END")

-- the directions of a connection: input, output, both
abbrev pub is_direction : List ℕ → Bool
is_direction word = bytes_eq word (codes "I") || bytes_eq word (codes "O") || bytes_eq word (codes "B")

-- a connection of a port or of an instance's pin
abbrev pub is_pin_row : List ℕ → Bool
is_pin_row word = bytes_eq word (codes "*P") || bytes_eq word (codes "*I")
