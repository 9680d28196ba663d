-- Words and marks of the text of a netlist.
use Rattle.std.proofs.Common.{◌≡◌, ℕ, suc, ◌+◌, Bool, true, false, List, [], ◌∷◌, ◌++◌, length, take, refl, ap, ◌∙◌, arith, add-zero}
use Rattle.std.specs.List.{list_all, prefix_len}
use Rattle.std.proofs.lemmas.Bool.{and_parts}
use Rattle.timing_defs.specs.declared.texts.Sort.TheVariants.{Word, Mark}
use Rattle.timing_defs.specs.declared.texts.Style.{Style}
use Rattle.timing_defs.specs.declared.texts.Style.TheVariants.{Verilog}
use Rattle.sta_text.specs.declared.pieces.Context.{Context}
use Rattle.sta_text.specs.declared.pieces.Context.TheVariants.{Fresh, Within}
use Rattle.sta_text.specs.Bytes.{begins, is_identifier_byte}
use Rattle.sta_text.specs.Pieces.{verilog_piece, made}
use Rattle.sta_text.specs.Tokens.{tok, tokens}

-- a byte with which a word of identifier bytes begins
abbrev pub Begins : ℕ → Type 0
Begins c = (context : Context) (bs : List ℕ) → verilog_piece context c bs ≡ made Word (prefix_len is_identifier_byte bs) Within

-- a word in front of a byte that is none of it
pub prefix_all : (p : ℕ → Bool) (cs : List ℕ) (b : ℕ) (rest : List ℕ) → list_all p cs ≡ true → p b ≡ false → prefix_len p (cs ++ b ∷ rest) ≡ length cs
prefix_all p [] b rest h stop = rw stop refl
prefix_all p (c ∷ cs) b rest h stop =
    let parts = and_parts (p c) (list_all p cs) h in
    rw parts.0 (omega (arith, prefix_all p cs b rest parts.1 stop))

pub skip_word : (style : Style) (cs rest : List ℕ) (at : ℕ) → tokens style (length cs) Within at (cs ++ rest) ≡ tokens style 0 Within (at + length cs) rest
unfolding tokens
skip_word style [] rest at = rw (add-zero at) refl
skip_word style (c ∷ cs) rest at =
    let e : at + 1 + length cs ≡ at + suc (length cs) = omega arith in
    skip_word style cs rest (at + 1) ∙ ap (λ k. tokens style 0 Within k rest) e

pub take_word : (cs rest : List ℕ) → take (length cs) (cs ++ rest) ≡ cs
take_word [] rest = refl
take_word (c ∷ cs) rest = ap (λ t. c ∷ t) (take_word cs rest)

-- a word ends before a byte that is none of it
pub word_cut : (c : ℕ) (cs : List ℕ) → Begins c → list_all is_identifier_byte cs ≡ true → (context : Context) (at b : ℕ) (rest : List ℕ)
    → is_identifier_byte b ≡ false
    → tokens Verilog 0 context at (c ∷ (cs ++ b ∷ rest)) ≡ tok (c ∷ cs) at Word ∷ tokens Verilog 0 Within (at + suc (length cs)) (b ∷ rest)
unfolding tokens
word_cut c cs begin h context at b rest stop =
    let one : length cs + 1 ≡ suc (length cs) = omega arith in
    let place : at + 1 + length cs ≡ at + suc (length cs) = omega arith in
    rw (begin context (cs ++ b ∷ rest))
    (rw (prefix_all is_identifier_byte cs b rest h stop)
    (rw one
    (rw (take_word cs (b ∷ rest))
    (ap (λ ts. tok (c ∷ cs) at Word ∷ ts) (skip_word Verilog cs (b ∷ rest) (at + 1) ∙ ap (λ k. tokens Verilog 0 Within k (b ∷ rest)) place)))))

-- marks, blanks and line feeds
pub dot : (context : Context) (at : ℕ) (bs : List ℕ) → tokens Verilog 0 context at (46 ∷ bs) ≡ tok (46 ∷ []) at Mark ∷ tokens Verilog 0 Within (at + 1) bs
unfolding tokens verilog_piece
dot context at bs = refl

pub comma : (context : Context) (at : ℕ) (bs : List ℕ) → tokens Verilog 0 context at (44 ∷ bs) ≡ tok (44 ∷ []) at Mark ∷ tokens Verilog 0 Within (at + 1) bs
unfolding tokens verilog_piece
comma context at bs = refl

pub close : (context : Context) (at : ℕ) (bs : List ℕ) → tokens Verilog 0 context at (41 ∷ bs) ≡ tok (41 ∷ []) at Mark ∷ tokens Verilog 0 Within (at + 1) bs
unfolding tokens verilog_piece
close context at bs = refl

pub semicolon : (context : Context) (at : ℕ) (bs : List ℕ) → tokens Verilog 0 context at (59 ∷ bs) ≡ tok (59 ∷ []) at Mark ∷ tokens Verilog 0 Within (at + 1) bs
unfolding tokens verilog_piece
semicolon context at bs = refl

pub opening : (context : Context) (at : ℕ) (bs : List ℕ) → begins 42 bs ≡ false
    → tokens Verilog 0 context at (40 ∷ bs) ≡ tok (40 ∷ []) at Mark ∷ tokens Verilog 0 Within (at + 1) bs
unfolding tokens verilog_piece
opening context at bs none = rw none refl

pub blank : (context : Context) (at : ℕ) (bs : List ℕ) → tokens Verilog 0 context at (32 ∷ bs) ≡ tokens Verilog 0 Within (at + 1) bs
unfolding tokens verilog_piece
blank context at bs = refl

pub feed : (context : Context) (at : ℕ) (bs : List ℕ) → tokens Verilog 0 context at (10 ∷ bs) ≡ tokens Verilog 0 Fresh (at + 1) bs
unfolding tokens verilog_piece
feed context at bs = refl
