-- What captures an endpoint, by its shown path, and lists of it.

use Rattle.std.proofs.Common.{◌≡◌, ℕ, ◌+◌, true, false, List, [], ◌∷◌, ◌++◌, filter, append-nil, Option, None, Some, refl, sym, ap, subst, ◌∙◌, inl, inr}
use Rattle.std.specs.Prelude.{if◌then◌else◌, option_map}
use Rattle.std.specs.List.{range_with_len}
use Rattle.std.proofs.lemmas.Bool.{cases_Bool}
use Rattle.timing_defs.specs.declared.kinds.Kind.{Kind}
use Rattle.timing_defs.specs.declared.rows.Path.{Path}
use Rattle.timing_defs.specs.declared.design.Design.{Design}
use Rattle.timing_defs.proofs.Members.{some_is}
use Rattle.timing_rules.specs.Paths.{IsShown}
use Rattle.timing_rules.specs.Summaries.{Captured, IsCaptured}
use Rattle.netlist_store.specs.Numbering.{Stored, name_at}
use Rattle.level_workers.specs.Mapped.{IsMap}
use Rattle.affected_cone.specs.Analysed.{is_end}
use Rattle.affected_cone.proofs.RisingLists.{passing_more, passing_same}
use Rattle.clock_summaries.specs.Captures.{captured_by, IsCapturedAt, IsWithPin}

by_path : (d : Design) (kind : Kind) (name : List ℕ) (path : Option Path) → IsShown d kind name path → IsCaptured d kind name (option_map captured_by path)
by_path d kind name None shown = shown
by_path d kind name (Some p) shown = (p, shown, refl, refl)

pub captured_told : (s : Stored) (kind : Kind) (pin : ℕ) (name : List ℕ) (path : Option Path) (c : Captured) → name_at s.pins pin ≡ Some name → IsShown s.design kind name path
    → c ≡ option_map captured_by path → IsCapturedAt s kind pin c
captured_told s kind pin name path c at shown e word told =
    let same : name ≡ word = some_is (sym at ∙ told) in
    subst (λ (w : List ℕ). IsCaptured s.design kind w c) same
    (subst (λ (x : Captured). IsCaptured s.design kind name x) (sym e) (by_path s.design kind name path shown))

-- a list with what captures one endpoint more, or with no more
pub put_end : (s : Stored) (kind : Kind) (pin : ℕ) (before after : List Captured) (c : Captured) → is_end s pin ≡ true → IsCapturedAt s kind pin c → after ≡ before ++ c ∷ []
    → IsWithPin s kind pin before after
put_end s kind pin before after c end is e = record {
  added = c ∷ [];
  are = subst (λ b. IsMap (IsCapturedAt s kind) (if b then pin ∷ [] else []) (c ∷ [])) (sym end) (is, tt);
  more = e;
}

pub put_none : (s : Stored) (kind : Kind) (pin : ℕ) (before after : List Captured) → is_end s pin ≡ false → after ≡ before → IsWithPin s kind pin before after
put_none s kind pin before after off e = record {
  added = [];
  are = subst (λ b. IsMap (IsCapturedAt s kind) (if b then pin ∷ [] else []) []) (sym off) tt;
  more = e ∙ sym (append-nil before);
}

joined : {I R : Type 0} (gives : I → R → Type 0) (xs ys : List I) (rs ss : List R) → IsMap gives xs rs → IsMap gives ys ss → IsMap gives (xs ++ ys) (rs ++ ss)
joined gives [] ys [] ss m n = n
joined gives [] ys (r ∷ rs) ss m n = absurd m
joined gives (x ∷ xs) ys [] ss m n = absurd m
joined gives (x ∷ xs) ys (r ∷ rs) ss m n = (m.0, joined gives xs ys rs ss m.1 n)

-- what captures the endpoints up to a number, with one number more
pub pin_put : (s : Stored) (kind : Kind) (pin : ℕ) (before after : List Captured) → IsMap (IsCapturedAt s kind) (filter (is_end s) (range_with_len 0 pin)) before
    → IsWithPin s kind pin before after → IsMap (IsCapturedAt s kind) (filter (is_end s) (range_with_len 0 (pin + 1))) after
pin_put s kind pin before after m w =
    subst (λ (cs : List Captured). IsMap (IsCapturedAt s kind) (filter (is_end s) (range_with_len 0 (pin + 1))) cs) (sym w.more)
    (subst (λ (ns : List ℕ). IsMap (IsCapturedAt s kind) ns (before ++ w.added)) one_more
    (joined (IsCapturedAt s kind) (filter (is_end s) (range_with_len 0 pin)) (if is_end s pin then pin ∷ [] else []) before w.added m w.are))
  where
    one_more : filter (is_end s) (range_with_len 0 pin) ++ (if is_end s pin then pin ∷ [] else []) ≡ filter (is_end s) (range_with_len 0 (pin + 1))
    one_more = elim (cases_Bool (is_end s pin)) [
      | inl h ↦ ap (λ b. filter (is_end s) (range_with_len 0 pin) ++ (if b then pin ∷ [] else [])) h ∙ passing_more (is_end s) pin (filter (is_end s) (range_with_len 0 pin)) (filter (is_end s) (range_with_len 0 pin) ++ pin ∷ []) refl h refl
      | inr h ↦ ap (λ b. filter (is_end s) (range_with_len 0 pin) ++ (if b then pin ∷ [] else [])) h ∙ append-nil (filter (is_end s) (range_with_len 0 pin)) ∙ passing_same (is_end s) pin (filter (is_end s) (range_with_len 0 pin)) refl h
    ]
