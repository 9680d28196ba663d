-- Tests of bytes, and lengths of the parts of a text.
use Rattle.std.specs.Prelude.{ℕ, ◌+◌, ◌-◌, List, [], ◌∷◌, Bool, false, ◌==◌, ◌&&◌, ◌||◌, not, nat_lt, if◌then◌else◌, Option, Some, None}
use Rattle.std.specs.Char.{is_ascii_alphanumeric, is_ascii_alphabetic}
use Rattle.timing_defs.specs.Names.{is_graphic}
use Rattle.sta_text.specs.declared.bytes.WordSort.{WordSort}
use Rattle.sta_text.specs.declared.bytes.WordSort.TheVariants.{Attribute, Hierarchical, Command, Listed, Bracketed}

-- the text's first byte is this one
abbrev pub begins : ℕ → List ℕ → Bool
begins byte [] = false
begins byte (b ∷ bs) = b == byte

-- space or tab
abbrev pub is_blank : ℕ → Bool
is_blank b = b == 32 || b == 9

-- space, tab, line feed or carriage return
abbrev pub is_white : ℕ → Bool
is_white b = b == 32 || b == 9 || b == 10 || b == 13

-- how many bytes of a line's end the text begins with: a line feed, perhaps behind a carriage return
abbrev pub line_end_len : List ℕ → ℕ
line_end_len [] = 0
line_end_len (b ∷ bs) = (if b == 10 then 1 else (if b == 13 && begins 10 bs then 2 else 0))

-- a backslash at a line's end, which continues the line (Liberty, Tcl)
abbrev pub continues : ℕ → List ℕ → Bool
continues b bs = b == 92 && nat_lt 0 (line_end_len bs)

-- the marks of Liberty: ( ) { } : ; ,
abbrev pub is_liberty_mark : ℕ → Bool
is_liberty_mark b = b == 40 || b == 41 || b == 123 || b == 125 || b == 58 || b == 59 || b == 44

-- letters, digits, underscore and dollar sign (IEEE 1364, "Identifiers")
abbrev pub is_identifier_byte : ℕ → Bool
is_identifier_byte b = is_ascii_alphanumeric b || b == 95 || b == 36

-- those and the mark of a number's base (IEEE 1364, "Numbers")
abbrev pub is_number_byte : ℕ → Bool
is_number_byte b = is_identifier_byte b || b == 39

-- a letter or an underscore, as an identifier begins
abbrev pub is_identifier_start : ℕ → Bool
is_identifier_start b = is_ascii_alphabetic b || b == 95

-- all bytes but the quote
abbrev pub is_inside : ℕ → Bool
is_inside b = not (b == 34)

-- all bytes but the line feed
abbrev pub is_of_line : ℕ → Bool
is_of_line b = not (b == 10)

-- the brackets that a word has open behind this byte
abbrev pub deeper : ℕ → ℕ → ℕ
deeper depth b = (if b == 91 then depth + 1 else (if b == 93 then depth - 1 else depth))

-- a comment begins at byte `b` of the text `b ∷ bs`: /* in Liberty, // and /* in SPEF
abbrev pub opens_comment : WordSort → ℕ → List ℕ → Bool
opens_comment Attribute b bs = b == 47 && begins 42 bs
opens_comment Hierarchical b bs = b == 47 && (begins 47 bs || begins 42 bs)
opens_comment kind b bs = false

-- a graphic byte `b` of the text `b ∷ bs` ends a word, given the byte before and the brackets open
abbrev pub stops : WordSort → ℕ → ℕ → ℕ → List ℕ → Bool
stops Attribute depth before b bs =
    is_liberty_mark b || b == 34 || (opens_comment Attribute b bs && not (before == 92)) || continues b bs
stops Hierarchical depth before b bs = opens_comment Hierarchical b bs && not (before == 92)
stops Command depth before b bs = b == 59 || continues b bs
stops Listed depth before b bs = b == 59 || b == 123 || b == 125 || continues b bs
stops Bracketed depth before b bs = b == 59 || (b == 93 && depth == 0) || continues b bs

-- a word ends before this byte
abbrev pub ends_word : WordSort → ℕ → ℕ → ℕ → List ℕ → Bool
ends_word kind depth before b bs = not (is_graphic b) || stops kind depth before b bs

-- the length of a word of which `n` bytes stand before this text
unfoldable pub word_end : WordSort → ℕ → ℕ → ℕ → List ℕ → ℕ
word_end kind n depth before [] = n
word_end kind n depth before (b ∷ bs) =
    (if ends_word kind depth before b bs then n else word_end kind (n + 1) (deeper depth b) b bs)

-- where a comment ends that closes with a star and this byte, of which `n` bytes stand before
unfoldable pub closing : ℕ → ℕ → List ℕ → Option ℕ
closing last n [] = None
closing last n (b ∷ bs) = (if b == 42 && begins last bs then Some (n + 2) else closing last (n + 1) bs)

-- where a comment of Tcl ends, at a line's end without a backslash; `n` bytes and these two stand before
unfoldable pub comment_end : ℕ → ℕ → ℕ → List ℕ → ℕ
comment_end n second last [] = n
comment_end n second last (b ∷ bs) =
    (if b == 10 && not (last == 92 || (last == 13 && second == 92)) then n else comment_end (n + 1) last b bs)
