-- The grammar of Liberty (Liberty Reference Manual, "Liberty format syntax"): a text is one group
-- called `library`; a group is `name ( args ) { statements }`; a statement is a group, a complex
-- attribute `name ( args )` or a simple attribute `name : value`. What may stand next is told by the
-- groups that are open and a place among their statements.
use Rattle.std.specs.Prelude.{ℕ, zero, suc, ◌-◌, List, [], ◌∷◌, ◌++◌, Bool, true, false, ◌&&◌, ◌||◌, not, nat_lt, length, take, codes, if◌then◌else◌}
use Rattle.std.specs.Str.{bytes_eq}
use Rattle.timing_defs.specs.declared.codes.Code.{Code}
use Rattle.timing_defs.specs.declared.codes.Code.TheVariants.{LibertyUnbalanced, LibertyBadToken, LibertyEncoding}
use Rattle.timing_defs.specs.declared.texts.Sort.{Sort}
use Rattle.timing_defs.specs.declared.texts.Sort.TheVariants.{Word, Quoted, Mark, LineEnd}
use Rattle.timing_defs.specs.declared.texts.Style.TheVariants.{Liberty}
use Rattle.timing_defs.specs.declared.liberty_tree.Lexeme.{Lexeme}
use Rattle.timing_defs.specs.declared.liberty_tree.Tree.{Tree}
use Rattle.timing_defs.specs.declared.liberty_tree.Item.{Item}
use Rattle.timing_defs.specs.declared.liberty_tree.Item.TheVariants.{Group, Complex, Simple}
use Rattle.sta_text.specs.declared.faults.Wrong.{Wrong}
use Rattle.sta_text.specs.Bytes.{begins, continues, line_end_len}
use Rattle.sta_text.specs.Tokens.{Tok, tokens_of, is_bad, is_unclosed}
use Rattle.liberty_syntax.specs.declared.reading.Reading.{Reading}
use Rattle.liberty_syntax.specs.declared.reading.Reading.TheVariants.{Whole, Broken}

abbrev pub is_quoted : Sort → Bool
is_quoted Quoted = true
is_quoted sort = false

abbrev pub is_lexeme_sort : Sort → Bool
is_lexeme_sort Word = true
is_lexeme_sort Quoted = true
is_lexeme_sort sort = false

abbrev pub is_mark_sort : Sort → Bool
is_mark_sort Mark = true
is_mark_sort sort = false

abbrev pub is_line_end_sort : Sort → Bool
is_line_end_sort LineEnd = true
is_line_end_sort sort = false

-- a word or a quoted string
abbrev pub is_lexeme : Tok → Bool
is_lexeme t = is_lexeme_sort t.sort

abbrev pub is_mark : Tok → ℕ → Bool
is_mark t byte = is_mark_sort t.sort && begins byte t.text

abbrev pub is_line_end : Tok → Bool
is_line_end t = is_line_end_sort t.sort

-- a semicolon or a line's end, which may stand between statements
abbrev pub is_skip : Tok → Bool
is_skip t = is_mark t 59 || is_line_end t

-- what stands between the quotes of a string
abbrev pub inside : List ℕ → List ℕ
inside [] = []
inside (b ∷ bs) = take (length bs - 1) bs

-- the bytes of a string without the continuations of its lines; the first `skip` belong to one
unfoldable pub joined : ℕ → List ℕ → List ℕ
joined skip [] = []
joined (suc n) (b ∷ bs) = joined n bs
joined zero (b ∷ bs) = (if continues b bs then joined (line_end_len bs) bs else b ∷ joined 0 bs)

-- a token as a part of the tree
abbrev pub lex : Tok → Lexeme
lex t =
    record {
      text = (if is_quoted t.sort then joined 0 (inside t.text) else t.text);
      quoted = is_quoted t.sort;
      offset = t.start;
    }

abbrev pub is_called : Lexeme → List ℕ → Bool
is_called word name = bytes_eq word.text name

-- the name of the text's group
abbrev pub is_library : Tok → Bool
is_library t = is_lexeme t && is_called (lex t) (codes "library")

-- the name of a statement; other files are not read
abbrev pub is_statement : Tok → Bool
is_statement t = is_lexeme t && not (is_called (lex t) (codes "include_file"))

-- a part of a simple attribute's value
abbrev pub is_part : Tok → Bool
is_part t = is_lexeme t || is_mark t 44 || is_mark t 58

abbrev pub wrong : Code → ℕ → Wrong
wrong code at = record { code = code; at = at }

-- the fault of a token that may not stand at its place, inside a group or not, where a string may
-- stand or not
abbrev pub unfit : ℕ → Bool → Bool → Tok → Wrong
unfit size within may_quote t =
    (if is_unclosed t
    then (if begins 34 t.text && not may_quote then wrong LibertyBadToken t.start else wrong LibertyUnbalanced size) else
    (if is_bad t.sort then wrong LibertyEncoding t.start else
    (if is_mark t 41 || (is_mark t 125 && not within) then wrong LibertyUnbalanced t.start else
    wrong LibertyBadToken t.start)))

-- the fault of a token that may not stand in a list
abbrev pub unfit_in_list : ℕ → Bool → Tok → Wrong
unfit_in_list size within t = (if is_mark t 41 then wrong LibertyBadToken t.start else unfit size within true t)

-- the fault of a text that ends inside a group, or before its group has begun
abbrev pub cut_off : ℕ → Bool → Wrong
cut_off size within = (if within then wrong LibertyUnbalanced size else wrong LibertyBadToken size)

-- an open group, with the statements that have ended in it
pub record Frame : Type 0 where
  pub word : Lexeme
  pub args : List Lexeme
  pub items : List Item

abbrev pub frame : Lexeme → List Lexeme → List Item → Frame
frame word args items = record { word = word; args = args; items = items }

abbrev pub done : Frame → Tree
done f = record { word = f.word; args = f.args; items = f.items }

abbrev pub add : Frame → Item → Frame
add f item = record f { items = f.items ++ item ∷ [] }

abbrev pub is_inside : List Frame → Bool
is_inside [] = false
is_inside (f ∷ fs) = true

-- the statements that have ended in the outermost group
abbrev pub outermost : List Frame → List Item
outermost [] = []
outermost (f ∷ []) = f.items
outermost (f ∷ g ∷ gs) = outermost (g ∷ gs)

-- where a token stands: between statements, behind a statement's name, in its list of arguments
-- (where a comma or the list's end may stand or not), behind that list (its line ended or not), in
-- a value, or behind the text's group
pub data Place : Type 0 where
  body : Place
  named : Lexeme → Place
  listed : Lexeme → List Lexeme → Bool → Bool → Place
  closed : Lexeme → List Lexeme → Bool → Place
  valued : Lexeme → List Lexeme → Place
  behind : Tree → Place

-- what a token leads to: open groups and a place, or the end of the reading
pub data Step : Type 0 where
  on : List Frame → Place → Step
  halt : Reading → Step

abbrev pub stop : List Frame → Wrong → Step
stop fs w = halt (Broken (outermost fs) w)

-- a group begins; at most 64 are open
abbrev pub opened : List Frame → Lexeme → List Lexeme → Step
opened fs word args =
    (if nat_lt (length fs) 64 then on (frame word args [] ∷ fs) body else stop fs (wrong LibertyBadToken word.offset))

-- the innermost group ends
abbrev pub shut : Frame → List Frame → Step
shut f [] = on [] (behind (done f))
shut f (g ∷ gs) = on (add g (Group (done f)) ∷ gs) body

abbrev pub body_step : ℕ → Frame → List Frame → Tok → Step
body_step size f fs t =
    (if is_skip t then on (f ∷ fs) body else
    (if is_mark t 125 then shut f fs else
    (if is_statement t then on (f ∷ fs) (named (lex t)) else stop (f ∷ fs) (unfit size true true t))))

abbrev pub top_step : ℕ → Tok → Step
top_step size t =
    (if is_skip t then on [] body else
    (if is_library t then on [] (named (lex t)) else stop [] (unfit size false true t)))

abbrev pub named_step : ℕ → List Frame → Lexeme → Tok → Step
named_step size fs word t =
    (if is_line_end t then on fs (named word) else
    (if is_mark t 40 then on fs (listed word [] false true) else
    (if is_mark t 58 && is_inside fs then on fs (valued word []) else stop fs (unfit size (is_inside fs) false t))))

abbrev pub listed_step : ℕ → List Frame → Lexeme → List Lexeme → Bool → Bool → Tok → Step
listed_step size fs word args more last t =
    (if is_lexeme t then on fs (listed word (args ++ lex t ∷ []) true true) else
    (if is_mark t 44 && more then on fs (listed word args false false) else
    (if is_mark t 41 && last then on fs (closed word args false) else
    (if is_line_end t then on fs (listed word args more last) else stop fs (unfit_in_list size (is_inside fs) t)))))

abbrev pub top_closed_step : ℕ → Lexeme → List Lexeme → Tok → Step
top_closed_step size word args t =
    (if is_line_end t then on [] (closed word args false) else
    (if is_mark t 123 then opened [] word args else stop [] (unfit size false false t)))

-- behind a list a group begins, or the attribute has ended; its line's end, a semicolon or the end
-- of the group around it ends it
abbrev pub closed_step : ℕ → Frame → List Frame → Lexeme → List Lexeme → Bool → Tok → Step
closed_step size f fs word args ended t =
    (if is_line_end t then on (f ∷ fs) (closed word args true) else
    (if is_mark t 123 then opened (f ∷ fs) word args else
    (if ended || is_mark t 59 || is_mark t 125 then body_step size (add f (Complex word args)) fs t else
    stop (f ∷ fs) (unfit size true false t))))

abbrev pub is_empty : List Lexeme → Bool
is_empty [] = true
is_empty (x ∷ xs) = false

abbrev pub valued_step : ℕ → Frame → List Frame → Lexeme → List Lexeme → Tok → Step
valued_step size f fs word value t =
    (if is_part t then on (f ∷ fs) (valued word (value ++ lex t ∷ [])) else
    (if is_skip t || is_mark t 125
    then (if is_empty value then stop (f ∷ fs) (wrong LibertyBadToken t.start) else
    body_step size (add f (Simple word value)) fs t) else stop (f ∷ fs) (unfit size true true t)))

abbrev pub behind_step : ℕ → List Frame → Tree → Tok → Step
behind_step size fs tree t =
    (if is_skip t then on fs (behind tree) else halt (Broken tree.items (unfit size false false t)))

-- what the next token leads to
abbrev pub step : ℕ → List Frame → Place → Tok → Step
step size [] body t = top_step size t
step size (f ∷ fs) body t = body_step size f fs t
step size fs (named word) t = named_step size fs word t
step size fs (listed word args more last) t = listed_step size fs word args more last t
step size [] (closed word args ended) t = top_closed_step size word args t
step size (f ∷ fs) (closed word args ended) t = closed_step size f fs word args ended t
step size [] (valued word value) t = stop [] (unfit size false true t)
step size (f ∷ fs) (valued word value) t = valued_step size f fs word value t
step size fs (behind tree) t = behind_step size fs tree t

-- an attribute behind whose list the line has ended has ended too
abbrev pub ended_frames : List Frame → Lexeme → List Lexeme → Bool → List Frame
ended_frames [] word args ended = []
ended_frames (f ∷ fs) word args ended = (if ended then add f (Complex word args) ∷ fs else f ∷ fs)

-- the text ends
abbrev pub finish : ℕ → List Frame → Place → Reading
finish size fs body = Broken (outermost fs) (cut_off size (is_inside fs))
finish size fs (named word) = Broken (outermost fs) (cut_off size (is_inside fs))
finish size fs (listed word args more last) = Broken (outermost fs) (wrong LibertyUnbalanced size)
finish size fs (closed word args ended) =
    Broken (outermost (ended_frames fs word args ended)) (cut_off size (is_inside fs))
finish size fs (valued word value) = Broken (outermost fs) (cut_off size (is_inside fs))
finish size fs (behind tree) = Whole tree

-- the tree that tokens write, with these groups open and from this place on
unfoldable pub grow : ℕ → List Frame → Place → List Tok → Reading
grow size fs place [] = finish size fs place
grow size fs place (t ∷ ts) =
    elim (step size fs place t) [ on fs2 place2 ↦ grow size fs2 place2 ts | halt reading ↦ reading ]

-- the tree of a text, or the library's statements that have ended before the first fault, with it
abbrev pub reading_of : List ℕ → Reading
reading_of bytes = grow (length bytes) [] body (tokens_of Liberty bytes)
