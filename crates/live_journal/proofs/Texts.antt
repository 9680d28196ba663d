-- What a file has of the texts of a list that goes on.
use Rattle.std.proofs.Common.{◌≡◌, ℕ, ◌+◌, ◌≤◌, Bool, true, false, List, [], ◌++◌, length, take, drop, sym, ap, subst, ◌∙◌, arith, append_assoc, append-nil, length-append}
use Rattle.std.specs.Prelude.{min}
use Rattle.std.specs.declared.option.Option.{Option}
use Rattle.std.specs.declared.option.Option.TheVariants.{None, Some}
use mathlib.Core.List.{IsPrefix}
use Rattle.std.proofs.lemmas.List.{take-append-drop, take-append-le, drop-append-le, length-take-le, length-take, take_min}
use Rattle.std.proofs.Math.Seq.{take-length, take-append_seam, take-append-add}
use Rattle.timing_defs.specs.declared.constraints.Derates.{Derates}
use Rattle.timing_defs.specs.declared.edits.Entry.{Entry}
use Rattle.sta_outside.specs.Sink.{Appends, AppendsPrefix}
use Rattle.eco_journal.specs.Blocks.{blocks_text}
use Rattle.live_journal.specs.Desk.{single, HasText, HasFile}
use Rattle.live_journal.specs.Joins.{single_joins}

-- two pieces, one behind the other
appends_both : (a b c : Option (List ℕ)) (xs ys : List ℕ) → Appends a b xs → Appends b c ys → Appends a c (xs ++ ys)
appends_both None None None xs ys h k = tt
appends_both None None (Some c) xs ys h k = absurd k
appends_both None (Some b) c xs ys h k = absurd h
appends_both (Some a) None c xs ys h k = absurd h
appends_both (Some a) (Some b) None xs ys h k = absurd k
appends_both (Some a) (Some b) (Some c) xs ys h k = k ∙ ap (λ w. w ++ ys) h ∙ append_assoc a xs ys

appends_nothing : (a : Option (List ℕ)) → Appends a a []
appends_nothing None = tt
appends_nothing (Some a) = sym (append-nil a)

module _ {X : Type 0} where
  pub prefix_self : (xs : List X) → IsPrefix xs xs
  prefix_self xs = ([], append-nil xs)

  pub prefix_trans : (xs ys zs : List X) → IsPrefix xs ys → IsPrefix ys zs → IsPrefix xs zs
  prefix_trans xs ys zs p q = (p.0 ++ q.0, sym (append_assoc xs p.0 q.0) ∙ ap (λ w. w ++ q.0) p.1 ∙ q.1)

  pub prefix_length : (xs ys : List X) → IsPrefix xs ys → length xs ≤ length ys
  prefix_length xs ys p = let e = length-append xs p.0 in let f : length (xs ++ p.0) ≡ length ys = ap (λ w. length w) p.1 in omega (arith, e, f)

  -- the first ones of what was seen are those of a list that goes on
  take_seen : (n : ℕ) (seen all : List X) → n ≤ length seen → IsPrefix seen all → take n all ≡ take n seen
  take_seen n seen all few p = ap (take n) (sym p.1) ∙ take-append-le n seen p.0 few

  drop_seen : (n : ℕ) (seen all : List X) → n ≤ length seen → (p : IsPrefix seen all) → drop n all ≡ drop n seen ++ p.0
  drop_seen n seen all few p = ap (drop n) (sym p.1) ∙ drop-append-le n seen p.0 few

  -- a beginning of a text begins a longer one
  take_longer : (k : ℕ) (xs ys : List X) → take k xs ≡ take (length (take k xs)) (xs ++ ys)
  take_longer k xs ys =
      let long : length (take k xs) ≡ min k (length xs) = length-take k xs in
      let fits : length (take k xs) ≤ length xs = grind (arith, long) in
      sym (take-append-le (length (take k xs)) xs ys fits ∙ ap (λ m. take m xs) long ∙ take_min k xs)

module _ {E : Type 0} (text : ℕ → List E → List ℕ) (joins : (n : ℕ) (xs ys : List E) → text n (xs ++ ys) ≡ text n xs ++ text (n + length xs) ys) where
  -- the seat saw more
  pub longer : (old new : Option (List ℕ)) (first : ℕ) (seen all : List E) (n : ℕ) (sound : Bool) → n ≤ length seen → IsPrefix seen all
      → HasText text old new first seen n sound → HasText text old new first all n sound
  longer old new first seen all n true few p h = subst (λ es. Appends old new (text first es)) (sym (take_seen n seen all few p)) h
  longer old new first seen all n false few p h =
      let more = text (first + n) (drop n seen) in
      let behind = text (first + n + length (drop n seen)) p.0 in
      let grown : text (first + n) (drop n all) ≡ more ++ behind = ap (text (first + n)) (drop_seen n seen all few p) ∙ joins (first + n) (drop n seen) p.0 in
      let k = length (take h.0 more) in
      let same : take h.0 more ≡ take k (text (first + n) (drop n all)) = take_longer h.0 more behind ∙ ap (take k) (sym grown) in
      (k, subst (λ w. Appends old new w) (λ i. text first (sym (take_seen n seen all few p) i) ++ same i) h.1)

  both_parts : (first n : ℕ) (J : List E) → n ≤ length J → text first (take n J) ++ text (first + n) (drop n J) ≡ text first J
  both_parts first n J few =
      ap (λ m. text first (take n J) ++ text (first + m) (drop n J)) (sym (length-take-le n J few))
      ∙ sym (joins first (take n J) (drop n J)) ∙ ap (text first) (take-append-drop n J)

  -- a put of all that stood not there went well
  pub put_whole : (old file new : Option (List ℕ)) (first n : ℕ) (seen : List E) → n ≤ length seen
      → HasText text old file first seen n true → Appends file new (text (first + n) (drop n seen)) → HasText text old new first seen (length seen) true
  put_whole old file new first n seen few h k =
      subst (λ w. Appends old new w) (both_parts first n seen few ∙ ap (text first) (sym (take-length seen)))
      (appends_both old file new (text first (take n seen)) (text (first + n) (drop n seen)) h k)

  -- it failed
  pub put_partly : (old file new : Option (List ℕ)) (first n : ℕ) (seen : List E)
      → HasText text old file first seen n true → AppendsPrefix file new (text (first + n) (drop n seen)) → HasText text old new first seen n false
  put_partly old file new first n seen h k =
      (k.0, appends_both old file new (text first (take n seen)) (take k.0 (text (first + n) (drop n seen))) h k.1)

  -- what was put begins the text of all
  begins : (old new : Option (List ℕ)) (first : ℕ) (all : List E) (n : ℕ) (sound : Bool) → n ≤ length all
      → HasText text old new first all n sound → AppendsPrefix old new (text first all)
  begins old new first all n true few h =
      let start = text first (take n all) in
      let rest = text (first + n) (drop n all) in
      (length start, subst (λ w. Appends old new w) (sym (take-append_seam start rest) ∙ ap (take (length start)) (both_parts first n all few)) h)
  begins old new first all n false few h =
      let start = text first (take n all) in
      let rest = text (first + n) (drop n all) in
      (length start + h.0, subst (λ w. Appends old new w) (sym (take-append-add start rest h.0) ∙ ap (take (length start + h.0)) (both_parts first n all few)) h.1)

-- before anything is put
pub nothing_put : {E : Type 0} (text : ℕ → List E → List ℕ) → ((n : ℕ) → text n [] ≡ []) → (old : Option (List ℕ)) (first : ℕ) (seen : List E)
    → HasText text old old first seen 0 true
nothing_put text none old first seen = subst (λ w. Appends old old w) (sym (none first)) (appends_nothing old)

pub file_longer : (old new : Option (List ℕ)) (d : Derates) (first : ℕ) (seen all : List Entry) (n : ℕ) (sound : Bool) → n ≤ length seen
    → IsPrefix seen all → HasFile old new d first seen n sound → HasFile old new d first all n sound
file_longer old new d first seen all n sound few p h =
    longer (λ from es. blocks_text d from (single es)) (single_joins d) old new first seen all n sound few p h

pub file_prefix : (old new : Option (List ℕ)) (d : Derates) (first : ℕ) (all : List Entry) (n : ℕ) (sound : Bool) → n ≤ length all
    → HasFile old new d first all n sound → AppendsPrefix old new (blocks_text d first (single all))
file_prefix old new d first all n sound few h =
    begins (λ from es. blocks_text d from (single es)) (single_joins d) old new first all n sound few h

pub file_rest : (old file new : Option (List ℕ)) (d : Derates) (first : ℕ) (all : List Entry) (n : ℕ) → n ≤ length all
    → HasFile old file d first all n true → Appends file new (blocks_text d (first + n) (single (drop n all))) → HasFile old new d first all (length all) true
file_rest old file new d first all n few h k =
    put_whole (λ from es. blocks_text d from (single es)) (single_joins d) old file new first n all few h k

pub file_torn : (old file new : Option (List ℕ)) (d : Derates) (first : ℕ) (all : List Entry) (n : ℕ)
    → HasFile old file d first all n true → AppendsPrefix file new (blocks_text d (first + n) (single (drop n all))) → HasFile old new d first all n false
file_torn old file new d first all n h k =
    put_partly (λ from es. blocks_text d from (single es)) (single_joins d) old file new first n all h k
