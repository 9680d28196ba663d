-- A turn of the search: a branch is taken out, its walk is given, and what is left of its class is split.

use Rattle.std.proofs.Common.{◌≡◌, ℕ, zero, suc, ◌<◌, ◌≤◌, Bool, false, ◌==◌, ◌||◌, inl, inr, List, [], ◌∷◌, ◌++◌, length, take, drop, Option, Some, refl, sym, ap, subst, ◌∙◌, arith}
use Rattle.std.specs.Prelude.{slice_get, slice_index}
use Rattle.std.specs.List.{AllByRecursion}
use Rattle.std.proofs.lemmas.Bool.{ne_eqb, eq-eqb, false≢true, or_parts}
use Rattle.worst_walks.specs.declared.cones.Cone.{Cone}
use Rattle.worst_walks.specs.declared.cones.Walk.{Walk}
use Rattle.worst_walks.specs.Best.{BestOf}
use Rattle.worst_walks.specs.Walks.{comes_before, IsWalk}
use Rattle.ranked_walks.specs.declared.branches.Branch.{Branch}
use Rattle.ranked_walks.specs.declared.branches.Tables.{Tables}
use Rattle.ranked_walks.specs.Branches.{is_barred, last_of, kept_of, nodes_in, InBranch, IsOf, IsShown, IsStem}
use Rattle.ranked_walks.specs.Outs.{rows_at}
use Rattle.ranked_walks.specs.Searching.{AreDisjoint, HasOne, IsOpen, WaitsIn, IsSearched, IsTaken}
use Rattle.ranked_walks.proofs.Firsts.{first_more, left_more, left_less}
use Rattle.ranked_walks.proofs.Splits.{given_before}

has_map : {X : Type 0} (R P Q : X → Type 0) → ((x : X) → R x → P x → Q x) → (xs : List X) → AllByRecursion R xs → HasOne P xs → HasOne Q xs
has_map R P Q f [] all h = h
has_map R P Q f (x ∷ xs) all h = elim h [ inl here ↦ inl (f x all.0 here) | inr later ↦ inr (has_map R P Q f xs all.1 later) ]

all_map : {X : Type 0} (P Q : X → Type 0) → ((x : X) → P x → Q x) → (xs : List X) → AllByRecursion P xs → AllByRecursion Q xs
all_map P Q f [] all = tt
all_map P Q f (x ∷ xs) all = (f x all.0, all_map P Q f xs all.1)

disjoint_map : (R : Branch → Type 0) (In In' : Branch → Walk → Type 0) → ((b : Branch) (w : Walk) → R b → In' b w → In b w) → (bs : List Branch) → AllByRecursion R bs → AreDisjoint In bs → AreDisjoint In' bs
disjoint_map R In In' f [] all h = tt
disjoint_map R In In' f (b ∷ bs) all h =
    (λ w i one. h.0 w (f b w all.0 i) (has_map R (λ c. In' c w) (λ c. In c w) (λ c. f c w) bs all.1 one), disjoint_map R In In' f bs all.1 h.1)

-- open branches when a walk more is given
module _ (rank : ℕ → ℕ) (before : ℕ → List ℕ) (cone : Cone) (tables : Tables) (given : List Walk) (walk : Walk) where
  pub kept_same : (b : Branch) → IsOpen rank before cone tables given b → kept_of (given ++ walk ∷ []) b ≡ kept_of given b
  kept_same b o = elim o.root [
    | inl none ↦ ap (λ k. take k (nodes_in (slice_get (given ++ walk ∷ []) b.source))) none ∙ sym (ap (λ k. take k (nodes_in (slice_get given b.source))) none)
    | inr r ↦ ap (λ x. take b.kept (nodes_in x)) (given_before given walk b.source r.source)
  ]

  forth : (b : Branch) (w : Walk) → IsOpen rank before cone tables given b → InBranch cone given b w → InBranch cone (given ++ walk ∷ []) b w
  forth b w o i = subst (λ ps. IsOf cone b.end b.launch ps b.barred w) (sym (kept_same b o)) i

  back : (b : Branch) (w : Walk) → IsOpen rank before cone tables given b → InBranch cone (given ++ walk ∷ []) b w → InBranch cone given b w
  back b w o i = subst (λ ps. IsOf cone b.end b.launch ps b.barred w) (kept_same b o) i

  longer : (ws : List Walk) (i : ℕ) → i < length ws → i < length (ws ++ walk ∷ [])
  longer [] i low = absurd (omega arith)
  longer (w ∷ ws) zero low = omega arith
  longer (w ∷ ws) (suc i) low = let rest = longer ws i (omega arith) in omega arith

  still : (b : Branch) → IsOpen rank before cone tables given b → IsOpen rank before cone tables (given ++ walk ∷ []) b
  still b o =
      let k = sym (kept_same b o) in
      record {
        end = o.end;
        launch = o.launch;
        there = o.there;
        at = o.at;
        root = elim o.root [
          | inl none ↦ inl none
          | inr r ↦ inr (record {
            source = longer given b.source r.source;
            long = subst (λ (x : Option Walk). b.kept ≤ length (nodes_in x)) (sym (given_before given walk b.source r.source)) r.long;
            some = r.some;
            node = r.node;
            stem = subst (λ ps. IsStem cone o.launch ps r.node b.room) k r.stem;
            apart = r.apart;
          })
        ];
        walk = o.walk;
        shown = subst (λ ps. IsShown (rows_at tables b.end) o.end.node ps b o.walk) k o.shown;
        best = subst (λ ps. BestOf (comes_before rank before) (IsOf cone b.end b.launch ps b.barred) (Some o.walk)) k o.best;
      }

  -- the walk is given
  pub given_step : (bs : List Branch) (b : Branch) → IsTaken rank before cone tables given bs b walk → IsSearched rank before cone tables (given ++ walk ∷ []) bs (WaitsIn cone given b walk)
  given_step bs b t =
      let s = t.searched in
      let to_old : (w : Walk) → HasOne (λ c. InBranch cone (given ++ walk ∷ []) c w) bs → HasOne (λ c. InBranch cone given c w) bs =
      λ w one. has_map (IsOpen rank before cone tables given) (λ c. InBranch cone (given ++ walk ∷ []) c w) (λ c. InBranch cone given c w) (λ c o i. back c w o i) bs s.each one in
      record {
        first = first_more (comes_before rank before) (IsWalk cone) given walk s.first t.in_class.is (t.left walk t.in_class) t.best;
        each = all_map (IsOpen rank before cone tables given) (IsOpen rank before cone tables (given ++ walk ∷ [])) still bs s.each;
        apart = disjoint_map (IsOpen rank before cone tables given) (InBranch cone given) (InBranch cone (given ++ walk ∷ [])) back bs s.each s.apart;
        left = λ w one. left_more given walk w (s.left w (to_old w one)) (λ e. s.alone w (to_old w one) (subst (InBranch cone given b) (sym e) t.in_class));
        alone = λ w one waits. s.alone w (to_old w one) waits.0;
        covers = λ w is left. (let l = left_less given walk w left in
            elim (s.covers w is l.0) [
              | inl old ↦ inl (has_map (IsOpen rank before cone tables given) (λ c. InBranch cone given c w) (λ c. InBranch cone (given ++ walk ∷ []) c w) (λ c o i. forth c w o i) bs s.each old)
              | inr waits ↦ inr (waits, l.1)
            ]);
      }

-- lists by their first nodes
pub at_seam : (ps : List ℕ) (m : ℕ) (ms : List ℕ) (k : ℕ) → length ps ≡ k → slice_index (ps ++ (m ∷ ms)) k ≡ m
at_seam [] m ms zero e = refl
at_seam [] m ms (suc k) e = absurd (omega arith)
at_seam (p ∷ ps) m ms zero e = absurd (omega arith)
at_seam (p ∷ ps) m ms (suc k) e = at_seam ps m ms k (omega arith)

pub behind_seam : (ps : List ℕ) (m : ℕ) (ms : List ℕ) (k : ℕ) → length ps ≡ k → drop (suc k) (ps ++ (m ∷ ms)) ≡ ms
behind_seam [] m ms zero e = refl
behind_seam [] m ms (suc k) e = absurd (omega arith)
behind_seam (p ∷ ps) m ms zero e = absurd (omega arith)
behind_seam (p ∷ ps) m ms (suc k) e = behind_seam ps m ms k (omega arith)

pub before_seam : (ps : List ℕ) (m : ℕ) (ms : List ℕ) (k : ℕ) → length ps ≡ k → take (suc k) (ps ++ (m ∷ ms)) ≡ ps ++ (m ∷ [])
before_seam [] m ms zero e = refl
before_seam [] m ms (suc k) e = absurd (omega arith)
before_seam (p ∷ ps) m ms zero e = absurd (omega arith)
before_seam (p ∷ ps) m ms (suc k) e = ap (λ xs. p ∷ xs) (before_seam ps m ms k (omega arith))

pub seam_long : (ps : List ℕ) (m : ℕ) (ms : List ℕ) (k : ℕ) → length ps ≡ k → k < length (ps ++ (m ∷ ms))
seam_long [] m ms k e = omega arith
seam_long (p ∷ ps) m ms zero e = absurd (omega arith)
seam_long (p ∷ ps) m ms (suc k) e = let rest = seam_long ps m ms k (omega arith) in omega arith

pub last_at : (n : ℕ) (ps xs : List ℕ) → slice_index (n ∷ (ps ++ xs)) (length ps) ≡ last_of n ps
last_at n [] xs = refl
last_at n (p ∷ ps) xs = last_at p ps xs

-- bars beside one more
pub barred_parts : (bars : List ℕ) (m n : ℕ) → is_barred (bars ++ m ∷ []) n ≡ false → (is_barred bars n ≡ false) × (n ≡ m → ⊥)
barred_parts [] m n e = (refl, λ same. (let parts = or_parts (m == n) false e in false≢true (sym parts.0 ∙ eq-eqb m n (sym same))))
barred_parts (b ∷ bars) m n e =
    let parts = or_parts (b == n) (is_barred (bars ++ m ∷ []) n) e in
    let rest = barred_parts bars m n parts.1 in
    (ap (λ (x : Bool). x || is_barred bars n) parts.0 ∙ rest.0, rest.1)

pub barred_both : (bars : List ℕ) (m n : ℕ) → is_barred bars n ≡ false → (n ≡ m → ⊥) → is_barred (bars ++ m ∷ []) n ≡ false
barred_both [] m n e off = let told : (m == n) ≡ false = ne_eqb m n (λ s. off (sym s)) in rw told refl
barred_both (b ∷ bars) m n e off =
    let parts = or_parts (b == n) (is_barred bars n) e in
    ap (λ (x : Bool). x || is_barred (bars ++ m ∷ []) n) parts.0 ∙ barred_both bars m n parts.1 off
