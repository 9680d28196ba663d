-- How a text is cut into pieces: tokens, and what is passed over between them.
use Rattle.std.specs.Prelude.{ℕ, ◌+◌, List, [], ◌∷◌, Bool, true, false, ◌==◌, ◌&&◌, ◌||◌, nat_lt, length, if◌then◌else◌, Option, Some, None}
use Rattle.std.specs.Char.{is_ascii_digit}
use Rattle.std.specs.List.{prefix_len}
use Rattle.timing_defs.specs.Names.{is_graphic}
use Rattle.timing_defs.specs.declared.texts.Sort.{Sort}
use Rattle.timing_defs.specs.declared.texts.Sort.TheVariants.{Word, Quoted, Mark, LineEnd, Bad}
use Rattle.timing_defs.specs.declared.texts.Style.{Style}
use Rattle.timing_defs.specs.declared.texts.Style.TheVariants.{Liberty, Verilog, Tcl, Spef, Script}
use Rattle.sta_text.specs.declared.bytes.WordSort.{WordSort}
use Rattle.sta_text.specs.declared.bytes.WordSort.TheVariants.{Attribute, Hierarchical, Command, Listed, Bracketed}
use Rattle.sta_text.specs.declared.pieces.Context.{Context}
use Rattle.sta_text.specs.declared.pieces.Context.TheVariants.{Fresh, Within, InList, InBrackets, InBracketList}
use Rattle.sta_text.specs.declared.pieces.Piece.{Piece}
use Rattle.sta_text.specs.Bytes.{begins, is_blank, is_white, line_end_len, continues, is_liberty_mark, is_identifier_byte, is_number_byte, is_identifier_start, is_inside, is_of_line, word_end, closing, comment_end}

-- at the begin of a line, or where a command of Tcl may begin
abbrev pub is_fresh : Context → Bool
is_fresh Fresh = true
is_fresh context = false

-- a piece that is no token, with so many bytes behind its first one
abbrev pub passed : ℕ → Context → Piece
passed more context = record { more = more; sort = None; context = context }

-- a token, with so many bytes behind its first one
abbrev pub made : Sort → ℕ → Context → Piece
made sort more context = record { more = more; sort = Some sort; context = context }

-- a string, behind its quote: up to the next quote; Bad where none follows
abbrev pub string_piece : List ℕ → Piece
string_piece bs =
    (if nat_lt (prefix_len is_inside bs) (length bs) then made Quoted (prefix_len is_inside bs + 1) Within else
    made Bad (length bs) Within)

abbrev pub closed : ℕ → Option ℕ → Piece
closed rest None = made Bad rest Within
closed rest (Some n) = passed (n + 1) Within

-- a comment, behind its first byte: up to a star and this byte; Bad where they do not follow
abbrev pub comment_piece : ℕ → List ℕ → Piece
comment_piece last [] = made Bad 0 Within
comment_piece last (b ∷ bs) = closed (length bs + 1) (closing last 0 bs)

abbrev pub word_piece : WordSort → ℕ → List ℕ → Context → Piece
word_piece kind b bs context = made Word (word_end kind 0 0 b bs) context

-- Liberty: words, strings in quotes, the marks ( ) { } : ; , and line ends. Comments are /* */. A
-- backslash at a line's end is passed over with that end.
unfoldable pub liberty_piece : ℕ → List ℕ → Piece
liberty_piece b bs =
    (if is_blank b || b == 13 then passed 0 Within else
    (if b == 10 then made LineEnd 0 Within else
    (if b == 34 then string_piece bs else
    (if b == 47 && begins 42 bs then comment_piece 47 bs else
    (if continues b bs then passed (line_end_len bs) Within else
    (if is_liberty_mark b then made Mark 0 Within else
    (if is_graphic b then word_piece Attribute b bs Within else made Bad 0 Within)))))))

-- Verilog: words, which are identifiers and keywords, escaped identifiers with their backslash, and
-- numbers with their base; every other graphic byte is a mark. Comments are // and /* */. Attributes
-- (* *) and lines whose first byte is a backquote are passed over.
unfoldable pub verilog_piece : Context → ℕ → List ℕ → Piece
verilog_piece context b bs =
    (if b == 10 then passed 0 Fresh else
    (if is_white b then passed 0 Within else
    (if b == 96 && is_fresh context then passed (prefix_len is_of_line bs) Within else
    (if b == 47 && begins 47 bs then passed (prefix_len is_of_line bs) Within else
    (if b == 47 && begins 42 bs then comment_piece 47 bs else
    (if b == 40 && begins 42 bs then comment_piece 41 bs else
    (if b == 92 && nat_lt 0 (prefix_len is_graphic bs) then made Word (prefix_len is_graphic bs) Within else
    (if is_identifier_start b then made Word (prefix_len is_identifier_byte bs) Within else
    (if is_ascii_digit b then made Word (prefix_len is_number_byte bs) Within else
    (if is_graphic b then made Mark 0 Within else made Bad 0 Within))))))))))

-- what stands where a word may begin in a list
abbrev pub tcl_listed : Context → Context → ℕ → List ℕ → Piece
tcl_listed here outside b bs =
    (if b == 125 then made Mark 0 outside else
    (if b == 123 || b == 93 then made Mark 0 here else word_piece Listed b bs here))

-- what stands where a word may begin in brackets
abbrev pub tcl_bracketed : ℕ → List ℕ → Piece
tcl_bracketed b bs =
    (if b == 93 then made Mark 0 Within else
    (if b == 123 then made Mark 0 InBracketList else
    (if b == 91 || b == 125 then made Mark 0 InBrackets else word_piece Bracketed b bs InBrackets)))

-- what stands where a word may begin in a command
abbrev pub tcl_plain : ℕ → List ℕ → Piece
tcl_plain b bs =
    (if b == 123 then made Mark 0 InList else
    (if b == 91 then made Mark 0 InBrackets else
    (if b == 93 || b == 125 then made Mark 0 Within else word_piece Command b bs Within)))

-- what stands where a word may begin
abbrev pub tcl_inner : Context → ℕ → List ℕ → Piece
tcl_inner Fresh b bs = tcl_plain b bs
tcl_inner Within b bs = tcl_plain b bs
tcl_inner InList b bs = tcl_listed InList Within b bs
tcl_inner InBrackets b bs = tcl_bracketed b bs
tcl_inner InBracketList b bs = tcl_listed InBracketList InBrackets b bs

-- Tcl: words, the marks { } [ ] where a word may begin, the mark ; and line ends, which are a line
-- feed or a carriage return and a line feed. A # where a command may begin is a comment to its
-- line's end. A backslash at a line's end is passed over with that end, and in a comment too.
unfoldable pub tcl_piece : Context → ℕ → List ℕ → Piece
tcl_piece context b bs =
    (if is_blank b then passed 0 context else
    (if b == 10 then made LineEnd 0 Fresh else
    (if b == 13 && begins 10 bs then made LineEnd 1 Fresh else
    (if continues b bs then passed (line_end_len bs) context else
    (if b == 35 && is_fresh context then passed (comment_end 0 0 b bs) Fresh else
    (if b == 59 then made Mark 0 Fresh else
    (if is_graphic b then tcl_inner context b bs else made Bad 0 context)))))))

-- SPEF: words and strings in quotes. Comments are // and /* */.
unfoldable pub spef_piece : ℕ → List ℕ → Piece
spef_piece b bs =
    (if is_white b then passed 0 Within else
    (if b == 34 then string_piece bs else
    (if b == 47 && begins 47 bs then passed (prefix_len is_of_line bs) Within else
    (if b == 47 && begins 42 bs then comment_piece 47 bs else
    (if is_graphic b then word_piece Hierarchical b bs Within else made Bad 0 Within)))))

-- scripts: words, and line feeds as line ends. Comments are the reader's.
unfoldable pub script_piece : ℕ → List ℕ → Piece
script_piece b bs =
    (if is_blank b then passed 0 Within else
    (if b == 10 then made LineEnd 0 Within else
    (if is_graphic b then made Word (prefix_len is_graphic bs) Within else made Bad 0 Within)))

-- the piece at the front of the text `b ∷ bs`
abbrev pub piece : Style → Context → ℕ → List ℕ → Piece
piece Liberty context b bs = liberty_piece b bs
piece Verilog context b bs = verilog_piece context b bs
piece Tcl context b bs = tcl_piece context b bs
piece Spef context b bs = spef_piece b bs
piece Script context b bs = script_piece b bs
