-- Inner nodes of a net whose name is spelled already.
use Rattle.std.proofs.Common.{◌≡◌, ℕ, ◌^◌, List, [], ◌∷◌, ◌++◌, Bool, true, false, ◌&&◌, not, ◌==◌, length, cond, arith, refl, ap, sym, ◌∙◌}
use Rattle.std.specs.Prelude.{Option, Some, None, option_and_then, nat_lt}
use Rattle.std.specs.Char.{is_ascii_digit}
use Rattle.std.specs.List.{list_all, prefix_len}
use Rattle.std.specs.Str.{bytes_eq}
use Rattle.std.proofs.lemmas.Slice.Eq.{bytes_eq-Decides}
use Rattle.std.proofs.lemmas.Bool.Decides.{nat_tests}
use Rattle.std.proofs.lemmas.Bool.{and_parts, and_from, cond-true}
use Rattle.sta_units.specs.Decimal.{is_whole, number_on}
use Rattle.sta_text.specs.Bytes.{begins}
use Rattle.timing_defs.specs.Names.{is_graphic, is_name}
use Rattle.timing_defs.specs.declared.parasitics.RcNode.TheVariants.{Pin, Inner}
use Rattle.spef_reader.specs.declared.context.Context.{Context}
use Rattle.spef_reader.specs.Names.{told}
use Rattle.spef_reader.specs.Words.{is_inner, is_plain, index_of}
use Rattle.spef_reader.specs.Nodes.{name_of, named, spelled_name, is_net, joined_node}
use Rattle.spef_reader.proofs.WordLemmas.{spelled_plain}

pub same_name : (net name : List ℕ) → is_name net ≡ true → bytes_eq net name ≡ true → is_name name ≡ true
same_name net name h same = ap is_name (sym ((bytes_eq-Decides net name).0 same)) ∙ h

pub no_inner : (own inner : Bool) → inner ≡ false → (own && inner) ≡ false
no_inner true inner h = h
no_inner false inner h = refl

digit_graphic : (b : ℕ) → is_ascii_digit b ≡ true → is_graphic b ≡ true
digit_graphic b h = grind (arith, nat_tests)

no_star : (b : ℕ) → is_ascii_digit b ≡ true → (b == 42) ≡ false
no_star b h = grind (arith, nat_tests)

digits_graphic : (bs : List ℕ) → list_all is_ascii_digit bs ≡ true → list_all is_graphic bs ≡ true
digits_graphic [] h = refl
digits_graphic (b ∷ bs) h =
    let parts = and_parts (is_ascii_digit b) (list_all is_ascii_digit bs) h in
    and_from (is_graphic b) (list_all is_graphic bs) (digit_graphic b parts.0) (digits_graphic bs parts.1)

digits_spelled : (bs : List ℕ) → list_all is_ascii_digit bs ≡ true → begins 42 bs ≡ false
digits_spelled [] h = refl
digits_spelled (b ∷ bs) h = no_star b (and_parts (is_ascii_digit b) (list_all is_ascii_digit bs) h).0

-- digits that stand for themselves are a name
digits_named : (c : Context) (word : List ℕ) → is_whole word ≡ true → prefix_len (is_plain c.header.bus) word ≡ length word → name_of c word ≡ Some word
digits_named c word whole plain =
    let parts = and_parts (not (length word == 0)) (list_all is_ascii_digit word) whole in
    let name : is_name word ≡ true = and_from (not (length word == 0)) (list_all is_graphic word) parts.0 (digits_graphic word parts.1) in
    ap (λ (b : Bool). option_and_then (spelled_name c) (cond b (told c.names (index_of word)) (Some word))) (digits_spelled word parts.1)
    ∙ (ap named (spelled_plain c.header.bus word plain)
    ∙ cond-true (is_name word) (Some word) None name)

-- the net's name and a number are an inner node
pub inner_there : (c : Context) (net : Option (List ℕ)) (name right : List ℕ) (number : ℕ) → is_name name ≡ true → (is_net net name && is_inner right) ≡ true → number ≡ number_on 0 right → prefix_len (is_plain c.header.bus) right ≡ length right → joined_node net right (named name) (name_of c right) ≡ Some (Inner number)
inner_there c net name right number e own h plain =
    let inner = (and_parts (is_net net name) (is_inner right) own).1 in
    let whole = (and_parts (is_whole right) (nat_lt (number_on 0 right) (2 ^ 32)) inner).0 in
    ap (λ (l : Option (List ℕ)). joined_node net right l (name_of c right)) (cond-true (is_name name) (Some name) None e)
    ∙ (ap (λ (r : Option (List ℕ)). joined_node net right (Some name) r) (digits_named c right whole plain)
    ∙ (ap (λ (b : Bool). Some (cond b (Inner (number_on 0 right)) (Pin (name ++ 58 ∷ right)))) own
    ∙ ap (λ (n : ℕ). Some (Inner n)) (sym h)))
