-- The lists of arcs, as they grow.

use Rattle.std.proofs.Common.{◌≡◌, ℕ, ◌+◌, ◌<◌, false, List, [], ◌∷◌, ◌++◌, map, length, get_or, take, Option, None, Some, refl, sym, ap, ◌∙◌, arith, append_assoc}
use Rattle.std.specs.Prelude.{is_some, option_and_then}
use Rattle.std.specs.List.{filter_map, flat_map, range_with_len}
use Rattle.std.specs.Option.{option_map_or, option_to_list}
use Rattle.std.proofs.lemmas.Bool.{false≢true}
use Rattle.std.proofs.lemmas.List.{append-nil, take_more, map-id}
use Rattle.std.proofs.lemmas.List.Concat.{flat_map-append}
use Rattle.std.proofs.lemmas.List.Elements.{filter_map-append}
use Rattle.std.proofs.lemmas.List.FromFn.{map-range_with_len_more}
use Rattle.timing_defs.specs.declared.kinds.Split.TheVariants.{Late}
use Rattle.timing_defs.specs.declared.library.Cell.{Cell}
use Rattle.timing_defs.specs.declared.netlist.Inst.{Inst}
use Rattle.timing_defs.specs.Netlist.{cell_of}
use Rattle.timing_defs.specs.Edits.{inst_named}
use Rattle.timing_rules.specs.Clocking.{cell_arcs}
use Rattle.netlist_store.specs.Numbering.{Stored, name_at, is_number, inst_numbered}
use Rattle.pin_graph.specs.declared.pin_arcs.PinArc.{PinArc}
use Rattle.pin_graph.specs.Joins.{numbered_arc, inst_arcs, arcs_of}

module _ {X Y : Type 0} (f : X → Option Y) where
  one_mapped : (x : X) → filter_map f (x ∷ []) ≡ option_to_list (f x)
  one_mapped x = by (f x) refl
    where
      by : (o : Option Y) → f x ≡ o → filter_map f (x ∷ []) ≡ option_to_list o
      by None e = rw e refl
      by (Some y) e = rw e refl

  -- one item more
  pub mapped_more : (base ys ys' : List Y) (xs : List X) (i : ℕ) (x : X) (o : Option Y) → i < length xs → x ≡ get_or xs i x → o ≡ f x
      → ys ≡ base ++ filter_map f (take i xs) → ys' ≡ ys ++ option_to_list o → ys' ≡ base ++ filter_map f (take (i + 1) xs)
  mapped_more base ys ys' xs i x o low here is had put =
      let more : filter_map f (take (i + 1) xs) ≡ filter_map f (take i xs) ++ option_to_list o =
      ap (filter_map f) (take_more xs i x low) ∙ filter_map-append f (take i xs) (get_or xs i x ∷ [])
      ∙ ap (λ (z : X). filter_map f (take i xs) ++ filter_map f (z ∷ [])) (sym here)
      ∙ ap (λ zs. filter_map f (take i xs) ++ zs) (one_mapped x ∙ ap option_to_list (sym is)) in
      put ∙ ap (λ zs. zs ++ option_to_list o) had ∙ append_assoc base (filter_map f (take i xs)) (option_to_list o) ∙ ap (λ zs. base ++ zs) (sym more)

  pub first_mapped_more : (ys ys' : List Y) (xs : List X) (i : ℕ) (x : X) (o : Option Y) → i < length xs → x ≡ get_or xs i x → o ≡ f x
      → ys ≡ filter_map f (take i xs) → ys' ≡ ys ++ option_to_list o → ys' ≡ filter_map f (take (i + 1) xs)
  first_mapped_more ys ys' xs i x o low here is had put = mapped_more [] ys ys' xs i x o low here is had put

pub numbers_more : (n : ℕ) → range_with_len 0 (n + 1) ≡ range_with_len 0 n ++ n ∷ []
numbers_more n = sym (map-id (range_with_len 0 (n + 1))) ∙ map-range_with_len_more (λ (k : ℕ). k) 0 n n (omega arith) ∙ ap (λ ks. ks ++ n ∷ []) (map-id (range_with_len 0 n))

module _ {Y : Type 0} (f : ℕ → List Y) where
  -- one number more
  pub flat_numbers_more : (n : ℕ) (ys ys' : List Y) → ys ≡ flat_map f (range_with_len 0 n) → ys' ≡ ys ++ f n → ys' ≡ flat_map f (range_with_len 0 (n + 1))
  flat_numbers_more n ys ys' had put =
      put ∙ ap (λ zs. zs ++ f n) had
      ∙ ap (λ zs. flat_map f (range_with_len 0 n) ++ zs) (sym (append-nil (f n)))
      ∙ sym (flat_map-append f (range_with_len 0 n) (n ∷ [])) ∙ ap (flat_map f) (sym (numbers_more n))

  pub more_flat_numbers : (n : ℕ) (base ys ys' : List Y) → ys ≡ base ++ flat_map f (range_with_len 0 n) → ys' ≡ ys ++ f n → ys' ≡ base ++ flat_map f (range_with_len 0 (n + 1))
  more_flat_numbers n base ys ys' had put =
      put ∙ ap (λ zs. zs ++ f n) had ∙ append_assoc base (flat_map f (range_with_len 0 n)) (f n)
      ∙ ap (λ zs. base ++ zs) (flat_numbers_more n (flat_map f (range_with_len 0 n)) (flat_map f (range_with_len 0 n) ++ f n) refl refl)

module _ {Y : Type 0} (f : ℕ → Y) where
  pub listed_more : (n : ℕ) (ys ys' : List Y) (y : Y) → y ≡ f n → ys ≡ map f (range_with_len 0 n) → ys' ≡ ys ++ y ∷ [] → ys' ≡ map f (range_with_len 0 (n + 1))
  listed_more n ys ys' y is had put =
      put ∙ ap (λ zs. zs ++ y ∷ []) had ∙ ap (λ z. map f (range_with_len 0 n) ++ z ∷ []) is ∙ sym (map-range_with_len_more f 0 n n (omega arith))

module _ {Y : Type 0} (f : ℕ → Option Y) where
  pub mapped_numbers_more : (n : ℕ) (ys ys' : List Y) (o : Option Y) → o ≡ f n → ys ≡ filter_map f (range_with_len 0 n) → ys' ≡ ys ++ option_to_list o
      → ys' ≡ filter_map f (range_with_len 0 (n + 1))
  mapped_numbers_more n ys ys' o is had put =
      put ∙ ap (λ zs. zs ++ option_to_list o) had
      ∙ ap (λ zs. filter_map f (range_with_len 0 n) ++ zs) (ap option_to_list is ∙ sym (one_mapped f n))
      ∙ sym (filter_map-append f (range_with_len 0 n) (n ∷ [])) ∙ ap (filter_map f) (sym (numbers_more n))

pub gap_arcs : (s : Stored) (n : ℕ) (arcs : List PinArc) → is_number s.insts n ≡ false → arcs ≡ arcs ++ arcs_of s n
gap_arcs s n arcs e = by (name_at s.insts n) refl
  where
    by : (o : Option (List ℕ)) → name_at s.insts n ≡ o → arcs ≡ arcs ++ arcs_of s n
    by None h =
        let none : inst_numbered s n ≡ None = ap (option_and_then (inst_named s.design.insts)) h in
        sym (ap (λ o. arcs ++ option_map_or (inst_arcs s) o []) none ∙ append-nil arcs)
    by (Some name) h = absurd (false≢true (sym e ∙ ap is_some h))

pub arcs_at : (s : Stored) (n : ℕ) (inst : Inst) (cell : Cell) → inst_numbered s n ≡ Some inst
    → option_and_then (cell_of s.design Late) (inst_numbered s n) ≡ Some cell → arcs_of s n ≡ filter_map (numbered_arc s inst) cell.arcs
arcs_at s n inst cell e f =
    let g : cell_of s.design Late inst ≡ Some cell = sym (ap (option_and_then (cell_of s.design Late)) e) ∙ f in
    ap (λ o. option_map_or (inst_arcs s) o []) e ∙ ap (λ o. filter_map (numbered_arc s inst) (cell_arcs o)) g

pub arcs_put : (s : Stored) (n : ℕ) (inst : Inst) (cell : Cell) (old new : List PinArc) → inst_numbered s n ≡ Some inst
    → option_and_then (cell_of s.design Late) (inst_numbered s n) ≡ Some cell → new ≡ old ++ filter_map (numbered_arc s inst) cell.arcs
    → new ≡ old ++ arcs_of s n
arcs_put s n inst cell old new e f put = put ∙ ap (λ arcs. old ++ arcs) (sym (arcs_at s n inst cell e f))
