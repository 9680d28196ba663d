-- The words of a structural netlist (IEEE 1364, "Lexical conventions").
use Rattle.std.specs.Prelude.{ℕ, List, [], ◌∷◌, Bool, false, ◌==◌, ◌&&◌, ◌||◌, not, nat_le, nat_lt, length, codes, if◌then◌else◌}
use Rattle.std.specs.Char.{is_ascii_digit, is_ascii_alphabetic}
use Rattle.std.specs.List.{list_all, list_any}
use Rattle.std.specs.Str.{bytes_eq}
use Rattle.timing_defs.specs.Names.{is_name}

-- an escaped identifier begins with a backslash
abbrev pub is_escaped : List ℕ → Bool
is_escaped [] = false
is_escaped (byte ∷ bytes) = byte == 92

-- the name that a word spells; the backslash of an escaped identifier is not part of it
abbrev pub spelled : List ℕ → List ℕ
spelled [] = []
spelled (byte ∷ bytes) = (if byte == 92 then bytes else byte ∷ bytes)

abbrev pub begins_simple : List ℕ → Bool
begins_simple [] = false
begins_simple (byte ∷ bytes) = is_ascii_alphabetic byte || byte == 95

abbrev pub begins_number : List ℕ → Bool
begins_number [] = false
begins_number (byte ∷ bytes) = is_ascii_digit byte

-- the keywords of the constructs that are read
abbrev pub is_read_keyword : List ℕ → Bool
is_read_keyword word =
    bytes_eq word (codes "module") || bytes_eq word (codes "endmodule") || bytes_eq word (codes "input")
    || bytes_eq word (codes "output") || bytes_eq word (codes "wire")

-- the keywords that begin a declaration that is left out
abbrev pub is_left_out_declaration : List ℕ → Bool
is_left_out_declaration word =
    bytes_eq word (codes "inout") || bytes_eq word (codes "parameter") || bytes_eq word (codes "localparam")
    || bytes_eq word (codes "defparam") || bytes_eq word (codes "supply0") || bytes_eq word (codes "supply1")
    || bytes_eq word (codes "reg") || bytes_eq word (codes "integer") || bytes_eq word (codes "real")
    || bytes_eq word (codes "realtime") || bytes_eq word (codes "time") || bytes_eq word (codes "event")

-- the keywords that begin behaviour, which is left out
abbrev pub is_behaviour : List ℕ → Bool
is_behaviour word =
    bytes_eq word (codes "assign") || bytes_eq word (codes "always") || bytes_eq word (codes "initial")
    || bytes_eq word (codes "function") || bytes_eq word (codes "task") || bytes_eq word (codes "specify")
    || bytes_eq word (codes "generate") || bytes_eq word (codes "genvar")

-- the keywords that begin an item that is left out
unfoldable pub is_left_out_item : List ℕ → Bool
is_left_out_item word = is_left_out_declaration word || is_behaviour word

-- the types of a variable, which may stand behind `output` (IEEE 1364, "Port declarations")
abbrev pub is_variable_type : List ℕ → Bool
is_variable_type word = bytes_eq word (codes "reg") || bytes_eq word (codes "integer") || bytes_eq word (codes "time")

-- an identifier: escaped, or of letters, digits, _ and $ and no keyword. All other keywords of the
-- standard, gate primitives too, are names here
unfoldable pub is_identifier : List ℕ → Bool
is_identifier word =
    is_name (spelled word)
    && (is_escaped word || (begins_simple word && not (is_read_keyword word || is_left_out_item word)))

-- a number of a range or a bit: 1 to 9 decimal digits
unfoldable pub is_number : List ℕ → Bool
is_number word = nat_lt 0 (length word) && nat_le (length word) 9 && list_all is_ascii_digit word

-- the constants that tie a pin
abbrev pub is_constant : List ℕ → Bool
is_constant word =
    bytes_eq word (codes "1'b0") || bytes_eq word (codes "1'b1") || bytes_eq word (codes "1'h0")
    || bytes_eq word (codes "1'h1")

abbrev pub is_colon : ℕ → Bool
is_colon byte = byte == 58

-- a colon stands in the name
abbrev pub has_colon : List ℕ → Bool
has_colon name = list_any is_colon name

-- what begins a connection by position: a name, a number or a concatenation
unfoldable pub begins_expression : List ℕ → Bool
begins_expression word = is_identifier word || begins_number word || bytes_eq word (codes "{")
