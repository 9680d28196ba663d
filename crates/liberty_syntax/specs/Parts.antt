-- What the parts of the reader say of the tokens that are left, for all groups that may be open.
use Rattle.std.specs.Prelude.{◌≡◌, ℕ, List, [], ◌∷◌, nat_lt, length, Option, Some, None, if◌then◌else◌}
use Rattle.timing_defs.specs.declared.codes.Code.TheVariants.{LibertyBadToken}
use Rattle.timing_defs.specs.declared.codes.ReadFault.{ReadFault}
use Rattle.timing_defs.specs.declared.codes.ReadFault.TheVariants.{At, Memory as NoRoom}
use Rattle.timing_defs.specs.declared.liberty_tree.Lexeme.{Lexeme}
use Rattle.timing_defs.specs.declared.liberty_tree.Item.TheVariants.{Group, Complex}
use Rattle.sta_text.specs.declared.token.Token.{Token}
use Rattle.sta_text.specs.Tokens.{Tok, tok_of}
use Rattle.liberty_syntax.specs.declared.reading.Reading.{Reading}
use Rattle.liberty_syntax.specs.declared.reading.Reading.TheVariants.{Whole, Broken}
use Rattle.liberty_syntax.specs.declared.reading.Stop.{Stop}
use Rattle.liberty_syntax.specs.declared.reading.Stop.TheVariants.{Memory, Fault}
use Rattle.liberty_syntax.specs.declared.reading.Tail.{Tail}
use Rattle.liberty_syntax.specs.declared.reading.Tail.TheVariants.{Begin, Ended}
use Rattle.liberty_syntax.specs.declared.reading.Statement.{Statement}
use Rattle.liberty_syntax.specs.declared.reading.Statement.TheVariants.{Opening, Attribute}
use Rattle.liberty_syntax.specs.Grammar.{Frame, frame, add, done, outermost, wrong, body, behind, grow}

-- the tokens that are left, with one that was taken and not used
abbrev pub left : Option Token → List Tok → List Tok
left None ts = ts
left (Some t) ts = tok_of t ∷ ts

-- a reading that stops ends with this fault; want of memory may come at any time
abbrev pub Stops : Stop → List Frame → Reading → Type 0
Stops Memory fs reading = Unit {0}
Stops (Fault w) fs reading = reading ≡ Broken (outermost fs) w

-- a group begins before these tokens, unless 64 are open
abbrev pub opening : ℕ → List Frame → Lexeme → List Lexeme → List Tok → Reading
opening size fs word args ts =
    (if nat_lt (length fs) 64 then grow size (frame word args [] ∷ fs) body ts else
    Broken (outermost fs) (wrong LibertyBadToken word.offset))

-- the innermost group has ended before these tokens
abbrev pub ending : ℕ → Frame → List Frame → List Tok → Reading
ending size f [] ts = grow size [] (behind (done f)) ts
ending size f (g ∷ gs) ts = grow size (add g (Group (done f)) ∷ gs) body ts

-- what follows a list of arguments
abbrev pub Follows : ℕ → Frame → List Frame → Lexeme → List Lexeme → Tail → List Tok → Reading → Type 0
Follows size f fs word args Begin ts reading = reading ≡ opening size (f ∷ fs) word args ts
Follows size f fs word args (Ended next) ts reading =
    reading ≡ grow size (add f (Complex word args) ∷ fs) body (left next ts)

abbrev pub left_behind : Tail → List Tok → List Tok
left_behind Begin ts = ts
left_behind (Ended next) ts = left next ts

-- what a statement is
abbrev pub Says : ℕ → Frame → List Frame → Statement → List Tok → Reading → Type 0
Says size f fs (Opening word args) ts reading = reading ≡ opening size (f ∷ fs) word args ts
Says size f fs (Attribute item next) ts reading = reading ≡ grow size (add f item ∷ fs) body (left next ts)

abbrev pub left_after : Statement → List Tok → List Tok
left_after (Opening word args) ts = ts
left_after (Attribute item next) ts = left next ts

-- a fault that is told is that of the reading
abbrev pub Tells : ReadFault → Reading → Type 0
Tells NoRoom reading = Unit {0}
Tells (At code offset) (Whole tree) = ⊥
Tells (At code offset) (Broken items w) = w ≡ record { code = code; at = offset }
