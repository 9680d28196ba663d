-- Words that spell themselves.
use Rattle.std.proofs.Common.{◌≡◌, ℕ, suc, Bool, true, false, ◌&&◌, not, ◌==◌, ◌+◌, List, [], ◌∷◌, ◌++◌, length, take, drop, cond, arith, refl, sym, ap, ◌∙◌, append_assoc}
use Rattle.std.specs.List.{prefix_len}
use Rattle.std.proofs.lemmas.Bool.{and_parts, eqb-true}
use Rattle.std.proofs.lemmas.Bool.Decides.{nat_tests}
use Rattle.std.proofs.lemmas.List.{append-nil, take-append-drop, drop_all}
use Rattle.spef_reader.specs.declared.context.Bus.{Bus}
use Rattle.spef_reader.specs.Words.{begins_mark, escapes, unescaped, is_plain, spelled}

-- a byte that stands for itself does so escaped or not
plain_first : (bus : Bus) (escaped : Bool) (b : ℕ) (bs : List ℕ) → is_plain bus b ≡ true → spelled bus escaped (b ∷ bs) ≡ b ∷ spelled bus false bs
unfolding spelled
plain_first bus escaped b bs h =
    let byte = and_parts (not (b == 92)) (unescaped bus b == b) h in
    first escaped (b == 92) (begins_mark bs) (unescaped bus b) byte.0 (eqb-true (unescaped bus b) b byte.1)
  where
    first : (e back mark : Bool) (read : ℕ) → not back ≡ true → read ≡ b → cond (not e && back && mark) [] (cond e b read ∷ []) ++ spelled bus (not e && back && mark) bs ≡ b ∷ spelled bus false bs
    first true back mark read n same = refl
    first false true mark read n same = cc
    first false false mark read n same = ap (λ (c : ℕ). c ∷ spelled bus false bs) same

no_end : (e : Bool) → (e && false) ≡ false
no_end true = refl
no_end false = refl

some : (n : ℕ) → (suc n == 0) ≡ false
some n = grind (arith, nat_tests)

no_more : (e : Bool) (n : ℕ) → (e && suc n == 0) ≡ false
no_more e n = rw (some n) (no_end e)

count : (plain : Bool) (n : ℕ) → cond plain (suc n) 0 ≡ cond plain (1 + n) 0
count true n = omega arith
count false n = refl

as_is : (e : Bool) → (e && true) ≡ e
as_is true = refl
as_is false = refl

-- the plain bytes at the front, and what follows them
spelled_run : (bus : Bus) (escaped : Bool) (bs : List ℕ) → spelled bus escaped bs ≡ take (prefix_len (is_plain bus) bs) bs ++ spelled bus (escaped && prefix_len (is_plain bus) bs == 0) (drop (prefix_len (is_plain bus) bs) bs)
spelled_run bus escaped [] = ap (λ (e : Bool). spelled bus e []) (sym (as_is escaped))
spelled_run bus escaped (b ∷ bs) =
    by (is_plain bus b) refl (spelled_run bus false bs)
    ∙ ap (λ (k : ℕ). take k (b ∷ bs) ++ spelled bus (escaped && k == 0) (drop k (b ∷ bs))) (count (is_plain bus b) (prefix_len (is_plain bus) bs))
  where
    by : (plain : Bool) → is_plain bus b ≡ plain → spelled bus false bs ≡ take (prefix_len (is_plain bus) bs) bs ++ spelled bus false (drop (prefix_len (is_plain bus) bs) bs) → spelled bus escaped (b ∷ bs) ≡ take (cond plain (suc (prefix_len (is_plain bus) bs)) 0) (b ∷ bs) ++ spelled bus (escaped && cond plain (suc (prefix_len (is_plain bus) bs)) 0 == 0) (drop (cond plain (suc (prefix_len (is_plain bus) bs)) 0) (b ∷ bs))
    by true h more =
        plain_first bus escaped b bs h
        ∙ (ap (λ (rest : List ℕ). b ∷ rest) more
        ∙ ap (λ (e : Bool). b ∷ (take (prefix_len (is_plain bus) bs) bs ++ spelled bus e (drop (prefix_len (is_plain bus) bs) bs))) (sym (no_more escaped (prefix_len (is_plain bus) bs))))
    by false h more = ap (λ (e : Bool). spelled bus e (b ∷ bs)) (sym (as_is escaped))

-- behind a word nothing is spelled
pub spelled_whole : (bus : Bus) (escaped : Bool) (rest name whole : List ℕ) → rest ≡ [] → name ++ spelled bus escaped rest ≡ whole → name ≡ whole
unfolding spelled
spelled_whole bus escaped [] name whole e h = sym (append-nil name) ∙ h
spelled_whole bus escaped (b ∷ bs) name whole e h = cc

-- what a byte and the plain bytes behind it add to a name
pub spelled_piece : (bus : Bus) (escaped next : Bool) (b n : ℕ) (bs old one two : List ℕ) → one ≡ old ++ cond (escapes escaped b bs) [] (cond escaped b (unescaped bus b) ∷ []) → n ≡ prefix_len (is_plain bus) bs → two ≡ one ++ take n bs → next ≡ (escapes escaped b bs && n == 0) → two ++ spelled bus next (drop n bs) ≡ old ++ spelled bus escaped (b ∷ bs)
unfolding spelled
spelled_piece bus escaped next b n bs old one two first run more after =
    let read = cond (escapes escaped b bs) [] (cond escaped b (unescaped bus b) ∷ []) in
    let rest = spelled bus (escapes escaped b bs && prefix_len (is_plain bus) bs == 0) (drop (prefix_len (is_plain bus) bs) bs) in
    rw (more, first, after, run)
    (append_assoc (old ++ read) (take (prefix_len (is_plain bus) bs) bs) rest
    ∙ (append_assoc old read (take (prefix_len (is_plain bus) bs) bs ++ rest)
    ∙ ap (λ (end : List ℕ). old ++ (read ++ end)) (sym (spelled_run bus (escapes escaped b bs) bs))))

-- a word of plain bytes spells itself
pub spelled_plain : (bus : Bus) (word : List ℕ) → prefix_len (is_plain bus) word ≡ length word → spelled bus false word ≡ word
unfolding spelled
spelled_plain bus word h =
    let all : drop (length word) word ≡ [] = drop_all (length word) word (omega arith) in
    spelled_run bus false word
    ∙ (ap (λ (k : ℕ). take k word ++ spelled bus false (drop k word)) h
    ∙ (ap (λ (rest : List ℕ). take (length word) word ++ rest) (ap (spelled bus false) all ∙ sym all)
    ∙ take-append-drop (length word) word))
