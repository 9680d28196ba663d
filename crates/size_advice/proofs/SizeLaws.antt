-- All sizes of instances, each once: they are made instance by instance, and none is there twice.

use Rattle.std.proofs.Common.{◌≡◌, ℕ, ◌+◌, ◌<◌, ◌≤◌, Bool, true, false, not, List, [], ◌∷◌, ◌++◌, drop, map, filter, length, get_or, append-nil, Option, None, Some, Result, Ok, Err, IfOk, refl, sym, ap, subst, ◌∙◌}
use Rattle.std.specs.List.{Contains, cons_option, list_any, flat_map, filter_map}
use Rattle.std.specs.Option.{option_map_or}
use Rattle.std.specs.Str.{bytes_eq}
use Rattle.std.proofs.lemmas.Bool.{false≢true, and_parts, or_from, not-true}
use Rattle.std.proofs.lemmas.List.{drop_all, append_assoc}
use Rattle.std.proofs.lemmas.List.Concat.{flat_map-cons}
use Rattle.std.proofs.lemmas.List.Folds.{list_any-append}
use Rattle.sta_units.specs.declared.units.Memory.{Memory}
use Rattle.timing_defs.specs.declared.design.Design.{Design}
use Rattle.timing_defs.specs.declared.library.Cell.{Cell}
use Rattle.timing_defs.specs.declared.netlist.Inst.{Inst}
use Rattle.timing_defs.specs.declared.reports.Candidate.{Candidate}
use Rattle.timing_defs.specs.Edits.{inst_named}
use Rattle.timing_defs.specs.Netlist.{is_listed, are_distinct}
use Rattle.timing_defs.proofs.Members.{first_in, later_in, in_map_back, in_flat_map_back, in_filter_map_back, any_in, listed_in, found_passes}
use Rattle.timing_defs.proofs.SameNames.{same_is, same_self}
use Rattle.timing_rules.specs.SizeAdvice.{is_candidate, sizes_of, same_candidate, once, all_sizes}
use Rattle.netlist_store.specs.Linked.{IsLinked}
use Rattle.instance_reports.proofs.CellLaws.{distinct_filter, cells_distinct}
use Rattle.size_advice.specs.Keeping.{EachApart, AreApart}
use Rattle.size_advice.specs.Sizes.{sizes_under, sizes_of_all}
use Rattle.size_advice.proofs.Placing.{at_place}

not_so : (b : Bool) → (b ≡ true → ⊥) → b ≡ false
not_so true never = absurd (never refl)
not_so false never = refl

module _ {X : Type 0} where
  none_any : (p : X → Bool) (xs : List X) → ((x : X) → Contains xs x → p x ≡ true → ⊥) → list_any p xs ≡ false
  none_any p [] never = refl
  none_any p (x ∷ xs) never =
      or_from (p x) (list_any p xs) (not_so (p x) (never x (first_in x xs))) (none_any p xs (λ y c. never y (later_in x xs y c)))

  -- lists of which no item of one is in the other
  apart_append : (same : X → X → Bool) (xs ys : List X) → EachApart same xs → EachApart same ys → ((x : X) → Contains xs x → list_any (same x) ys ≡ false)
      → EachApart same (xs ++ ys)
  apart_append same [] ys p q none = q
  apart_append same (x ∷ xs) ys p q none = (
    list_any-append (same x) xs ys ∙ or_from (list_any (same x) xs) (list_any (same x) ys) p.0 (none x (first_in x xs)),
    apart_append same xs ys p.1 q (λ y c. none y (later_in x xs y c)),
  )

  -- one after another
  joined : {Y : Type 0} (f : X → List Y) (o : Option X) (xs : List X) → option_map_or f o [] ++ flat_map f xs ≡ flat_map f (cons_option o xs)
  joined f None xs = refl
  joined f (Some x) xs = sym (flat_map-cons f x xs)

same_parts : (a b : Candidate) → same_candidate a b ≡ true → (a.inst ≡ b.inst) × (a.cell ≡ b.cell)
same_parts a b e =
    let parts = and_parts (bytes_eq a.inst b.inst) (bytes_eq a.cell b.cell) e in
    (same_is a.inst b.inst parts.0, same_is a.cell b.cell parts.1)

module _ (d : Design) where
  abbrev name_of : Cell → List ℕ
  name_of cell = cell.name

  abbrev size : Inst → Cell → Candidate
  size inst cell = record { inst = inst.name; cell = cell.name }

  -- cells of distinct names make candidates that are apart
  mapped_apart : (inst : Inst) (cells : List Cell) → are_distinct (map name_of cells) ≡ true → AreApart (map (size inst) cells)
  mapped_apart inst [] h = tt
  mapped_apart inst (c ∷ cs) h =
      let parts = and_parts (not (is_listed (map name_of cs) c.name)) (are_distinct (map name_of cs)) h in (
        none_any (same_candidate (size inst c)) (map (size inst) cs) (unlike (not-true (is_listed (map name_of cs) c.name) parts.0)),
        mapped_apart inst cs parts.1,
      )
    where
      unlike : is_listed (map name_of cs) c.name ≡ false → (x : Candidate) → Contains (map (size inst) cs) x → same_candidate (size inst c) x ≡ true → ⊥
      unlike new x within e =
          let m = in_map_back (size inst) cs x within in
          let called : c.name ≡ m.item.name = (same_parts (size inst c) x e).1 ∙ sym (ap (λ (y : Candidate). y.cell) m.same) in
          let twice : is_listed (map name_of cs) c.name ≡ true = ap (is_listed (map name_of cs)) called ∙ listed_in name_of cs m.item m.within in
          false≢true (sym new ∙ twice)

  -- a size names its instance
  its_name : (inst : Inst) (x : Candidate) → Contains (sizes_of d inst) x → inst.name ≡ x.inst
  its_name inst x within =
      let m = in_map_back (size inst) (filter (is_candidate d inst) d.late.cells) x within in ap (λ (y : Candidate). y.inst) m.same

  called : (name : List ℕ) (inst : Inst) → inst_named d.insts name ≡ Some inst → inst.name ≡ name
  called name inst e = same_is inst.name name (found_passes (λ (i : Inst). bytes_eq i.name name) d.insts inst e)

  among : (names : List (List ℕ)) (x : Candidate) → Contains (sizes_of_all d names) x → Contains names x.inst
  among names x within =
      let a = in_flat_map_back (sizes_of d) (filter_map (inst_named d.insts) names) x within in
      let b = in_filter_map_back (inst_named d.insts) names a.item a.within in
      subst (λ (n : List ℕ). Contains names n) (sym (called b.item a.item b.same) ∙ its_name a.item x a.inside) b.within

  module _ (linked : IsLinked d) where
    sizes_apart : (inst : Inst) → AreApart (sizes_of d inst)
    sizes_apart inst =
        mapped_apart inst (filter (is_candidate d inst) d.late.cells)
        (distinct_filter name_of (is_candidate d inst) d.late.cells (cells_distinct d linked))

    other_names : (name : List ℕ) (names : List (List ℕ)) (inst : Inst) → inst_named d.insts name ≡ Some inst → list_any (bytes_eq name) names ≡ false
        → (x : Candidate) → Contains (sizes_of d inst) x → list_any (same_candidate x) (sizes_of_all d names) ≡ false
    other_names name names inst e new x within = none_any (same_candidate x) (sizes_of_all d names) (λ y later same. twice y later (same_parts x y same).0)
      where
        twice : (y : Candidate) → Contains (sizes_of_all d names) y → x.inst ≡ y.inst → ⊥
        twice y later same =
            let one : name ≡ y.inst = sym (called name inst e) ∙ its_name inst x within ∙ same in
            let hit : bytes_eq name y.inst ≡ true = ap (bytes_eq name) (sym one) ∙ same_self name in
            false≢true (sym new ∙ any_in (bytes_eq name) names y.inst (among names y later) hit)

    -- sizes of instances of distinct names are apart
    pub all_apart : (names : List (List ℕ)) → EachApart bytes_eq names → AreApart (sizes_of_all d names)
    all_apart [] p = tt
    all_apart (n ∷ ns) p = by (inst_named d.insts n) refl (all_apart ns p.1)
      where
        by : (o : Option Inst) → inst_named d.insts n ≡ o → AreApart (sizes_of_all d ns)
            → AreApart (flat_map (sizes_of d) (cons_option o (filter_map (inst_named d.insts) ns)))
        by None e more = more
        by (Some inst) e more =
            apart_append same_candidate (sizes_of d inst) (sizes_of_all d ns) (sizes_apart inst) more (other_names n ns inst e p.0)

  -- one instance more
  pub sizes_more : (names : List (List ℕ)) (i : ℕ) (n : List ℕ) (made more : List Candidate) → i < length names → n ≡ get_or names i n
      → made ++ sizes_of_all d (drop i names) ≡ sizes_of_all d names → more ≡ made ++ sizes_under d n
      → more ++ sizes_of_all d (drop (i + 1) names) ≡ sizes_of_all d names
  sizes_more names i n made more low is before e =
      ap (λ (cs : List Candidate). cs ++ sizes_of_all d (drop (i + 1) names)) e
      ∙ append_assoc made (sizes_under d n) (sizes_of_all d (drop (i + 1) names))
      ∙ ap (λ (cs : List Candidate). made ++ cs) (joined (sizes_of d) (inst_named d.insts n) (filter_map (inst_named d.insts) (drop (i + 1) names)))
      ∙ ap (λ (ns : List (List ℕ)). made ++ sizes_of_all d ns) (sym (at_place names i n low is))
      ∙ before

  pub sizes_done : (names : List (List ℕ)) (i : ℕ) (made : List Candidate) → length names ≤ i → made ++ sizes_of_all d (drop i names) ≡ sizes_of_all d names
      → made ≡ sizes_of_all d names
  sizes_done names i made past before =
      sym (append-nil made) ∙ ap (λ (ns : List (List ℕ)). made ++ sizes_of_all d ns) (sym (drop_all i names past)) ∙ before

  -- the sizes of names that are instances, each once
  pub all_told : (names these insts : List (List ℕ)) (r : Result (List Candidate) Memory) → these ≡ names → names ≡ once bytes_eq [] insts
      → IfOk r (λ made. made ≡ sizes_of_all d these) → IfOk r (λ made. made ≡ all_sizes d insts)
  all_told names these insts (Ok made) same is told = told ∙ ap (sizes_of_all d) (same ∙ is)
  all_told names these insts (Err wanting) same is told = tt

  pub told_apart : (names these : List (List ℕ)) (r : Result (List Candidate) Memory) → IsLinked d → these ≡ names → EachApart bytes_eq names
      → IfOk r (λ made. made ≡ sizes_of_all d these) → IfOk r AreApart
  told_apart names these (Ok made) linked same each told =
      subst AreApart (sym (told ∙ ap (sizes_of_all d) same)) (all_apart linked names each)
  told_apart names these (Err wanting) linked same each told = tt
