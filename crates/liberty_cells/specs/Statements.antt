-- The statements of a Liberty group: its groups and attributes by name. Of an attribute that stands
-- more than once each is checked, and the last one counts.
use Rattle.std.specs.Prelude.{ℕ, List, [], ◌∷◌, ◌++◌, map, Option, Some, None, option_and_then, if◌then◌else◌}
use Rattle.std.specs.List.{last_or}
use Rattle.std.specs.Str.{bytes_eq}
use denote.Ref.{Bor}
use Rattle.timing_defs.specs.declared.liberty_tree.Lexeme.{Lexeme}
use Rattle.timing_defs.specs.declared.liberty_tree.Tree.{Tree}
use Rattle.timing_defs.specs.declared.liberty_tree.Item.{Item}
use Rattle.timing_defs.specs.declared.liberty_tree.Item.TheOpen.{Item-F, Group, Complex, Simple}
use Rattle.timing_defs.specs.declared.liberty_tree.Item.TheViews.{out-Item}

abbrev pub group_in : List ℕ → Item-F Item Tree → List Tree
group_in name (Group tree) = (if bytes_eq tree.word.text name then tree ∷ [] else [])
group_in name (Complex word args) = []
group_in name (Simple word value) = []

abbrev pub list_in : List ℕ → Item-F Item Tree → List (List Lexeme)
list_in name (Group tree) = []
list_in name (Complex word args) = (if bytes_eq word.text name then args ∷ [] else [])
list_in name (Simple word value) = []

abbrev pub value_in : List ℕ → Item-F Item Tree → List (List Lexeme)
value_in name (Group tree) = []
value_in name (Complex word args) = []
value_in name (Simple word value) = (if bytes_eq word.text name then value ∷ [] else [])

-- the groups of a name among statements, in order
unfoldable pub groups : List ℕ → List Item → List Tree
groups name [] = []
groups name (item ∷ items) = group_in name (out-Item item) ++ groups name items

-- the lists of arguments of the complex attributes of a name
unfoldable pub lists : List ℕ → List Item → List (List Lexeme)
lists name [] = []
lists name (item ∷ items) = list_in name (out-Item item) ++ lists name items

-- the values of the simple attributes of a name
unfoldable pub values : List ℕ → List Item → List (List Lexeme)
values name [] = []
values name (item ∷ items) = value_in name (out-Item item) ++ values name items

-- the last of a list
abbrev pub last : {X : Type 0} → List X → Option X
last {X} xs = last_or None xs

-- the bytes of a value of one token
abbrev pub one_text : List Lexeme → Option (List ℕ)
one_text [] = None
one_text (x ∷ []) = Some x.text
one_text (x ∷ y ∷ xs) = None

-- the last value of a simple attribute, where it is one token
abbrev pub text_of : List ℕ → List Item → Option (List ℕ)
text_of name items = option_and_then one_text (last (values name items))

-- what references point to
abbrev pub told : {X : Type 0} → List (Bor X) → List X
told {X} found = map (λ (r : Bor X). r.now) found
