-- The words of a text of constraints (SDC 2.1, which follows the rules of Tcl).
use Rattle.std.specs.Prelude.{◌≡◌, ℕ, ◌<◌, ◌≤◌, List, [], ◌∷◌, Bool, true, false, ◌==◌, ◌&&◌, ◌||◌, not, ◌-◌, codes, drop, length, slice_get, slice_index, nat_eq}
use Rattle.std.specs.Char.{is_ascii_digit}
use Rattle.std.specs.List.{list_any, starts_with}
use Rattle.std.specs.Option.{option_map_or}
use Rattle.std.specs.Str.{bytes_eq}
use Rattle.timing_defs.specs.Names.{is_name}
use Rattle.timing_defs.specs.Names.{is_split}
use Rattle.timing_defs.specs.declared.texts.Sort.{Sort}
use Rattle.timing_defs.specs.declared.texts.Sort.TheVariants.{Word, Mark, LineEnd}
use Rattle.sta_text.specs.Bytes.{begins}
use Rattle.sta_text.specs.Tokens.{Tok}

abbrev pub is_word_sort : Sort → Bool
is_word_sort Word = true
is_word_sort sort = false

abbrev pub is_mark_sort : Sort → Bool
is_mark_sort Mark = true
is_mark_sort sort = false

abbrev pub is_line_end_sort : Sort → Bool
is_line_end_sort LineEnd = true
is_line_end_sort sort = false

abbrev pub is_word : Tok → Bool
is_word t = is_word_sort t.sort && is_name t.text

abbrev pub is_mark : Tok → List ℕ → Bool
is_mark t mark = is_mark_sort t.sort && bytes_eq t.text mark

-- a command ends at its line's end or at a semicolon
abbrev pub ends_command : Tok → Bool
ends_command t = is_line_end_sort t.sort || is_mark t (codes ";")

-- the word is this text
abbrev pub is_text : List ℕ → List ℕ → Bool
is_text word text = bytes_eq word text

-- a variable of Tcl: its value is asked for by a dollar sign
abbrev pub is_variable : List ℕ → Bool
is_variable word = begins 36 word

abbrev pub begins_number : List ℕ → Bool
begins_number [] = false
begins_number (byte ∷ bytes) = is_ascii_digit byte || byte == 46

-- an option begins with a minus; with a digit or a point behind it the word is a number
abbrev pub is_option : List ℕ → Bool
is_option [] = false
is_option (byte ∷ bytes) = byte == 45 && not (begins_number bytes)

abbrev pub is_wild_byte : ℕ → Bool
is_wild_byte byte = byte == 42 || byte == 63

-- a pattern that stands for many names
abbrev pub is_wild : List ℕ → Bool
is_wild word = list_any is_wild_byte word

-- the last byte is a mark that splits pins
abbrev pub ends_split : List ℕ → Bool
ends_split word = option_map_or is_split (slice_get word (length word - 1)) false

-- a pin's word: split at its last slash or colon, with something before it and behind it
abbrev pub is_pin : List ℕ → Bool
is_pin word = list_any is_split (drop 1 word) && not (ends_split word)

-- a command that gets objects from the netlist
abbrev pub gets_objects : List ℕ → Bool
gets_objects word = starts_with nat_eq word (codes "get_") || starts_with nat_eq word (codes "all_")

-- the place of the last mark that splits a word, or its length where it has none
pub record IsLastSplit (word : List ℕ) (place : ℕ) : Type 0 where
  pub within : place ≤ length word
  pub mark : place < length word → is_split (slice_index word place) ≡ true
  pub after : (k : ℕ) → place < k → k < length word → is_split (slice_index word k) ≡ false
  pub whole : place ≡ length word → (k : ℕ) → k < length word → is_split (slice_index word k) ≡ false
