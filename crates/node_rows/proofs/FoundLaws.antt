-- What is found of nets, and how it is put into the tables of wires.

use Rattle.std.proofs.Common.{◌≡◌, ℕ, zero, suc, ◌+◌, ◌<◌, true, false, List, [], ◌∷◌, ◌++◌, map, length, get_or, Option, None, Some, Result, Ok, Err, refl, sym, ap, subst, ◌∙◌, arith}
use Rattle.std.specs.Prelude.{is_some, option_map, option_and_then, IfOk, IfErr}
use Rattle.std.specs.List.{range_with_len}
use Rattle.std.specs.Option.{option_map_or}
use Rattle.std.proofs.lemmas.Bool.{false≢true}
use Rattle.std.proofs.lemmas.List.Elements.{All-nil}
use Rattle.std.proofs.lemmas.List.FromFn.{length-range_with_len, get_or-range_with_len}
use Rattle.sta_units.specs.Numbers.{is_within}
use Rattle.timing_defs.specs.declared.kinds.Split.TheVariants.{Early, Late}
use Rattle.timing_defs.specs.declared.parasitics.NetRc.{NetRc}
use Rattle.timing_defs.specs.Wires.{net_load, rc_of, is_lumped}
use Rattle.timing_rules.specs.Range.{is_net_origin}
use Rattle.netlist_store.specs.Linked.{IsLinked}
use Rattle.netlist_store.specs.Numbering.{Stored, name_at, is_number, IsNumbered}
use Rattle.level_workers.specs.Mapped.{IsMap}
use Rattle.node_rows.specs.declared.pin_wires.NetLoad.{NetLoad}
use Rattle.node_rows.specs.declared.pin_wires.PinWire.{PinWire}
use Rattle.node_rows.specs.declared.pin_wires.Wires.{Wires}
use Rattle.node_rows.specs.declared.net_trees.NetTrees.{NetTrees}
use Rattle.node_rows.specs.declared.found_nets.WireTo.{WireTo}
use Rattle.node_rows.specs.declared.found_nets.FoundNet.{FoundNet}
use Rattle.node_rows.specs.declared.unfit.Unfit.{Unfit}
use Rattle.node_rows.specs.Evaluation.{IsUnfit}
use Rattle.node_rows.specs.NetPins.{IsOnNet, pin_cap_at}
use Rattle.node_rows.specs.NetTrees.{IsTreeNet, AreTrees, AreUpTo, is_wide_net, late_of, pin_word}
use Rattle.node_rows.specs.FoundNets.{with_wires, ArePut, AreWiresTo, AreNetWires, IsFoundNet, IsNetAnswer}
use Rattle.node_rows.proofs.NetSteps.{gap_load, gap_wires, plain_load, plain_wires, plain_fine_as}
use Rattle.node_rows.proofs.TreeSteps.{wide_as, tree_load, tree_wires}
use Rattle.node_rows.proofs.UpToLaws.{more_nets}

-- a number that is no net's
no_name : (s : Stored) (o : Option (List ℕ)) → is_some o ≡ false → option_map_or (is_net_origin s.design) o false ≡ false
no_name s None e = refl
no_name s (Some name) e = absurd (false≢true (sym e))

pub gap_found : (s : Stored) (net : ℕ) (load : NetLoad) (wires : List WireTo) → wires ≡ [] → is_number s.nets net ≡ false → IsFoundNet s net (record { load = load; wires = wires })
gap_found s net load wires empty none = subst (λ (ws : List WireTo). IsFoundNet s net (record { load = load; wires = ws })) (sym empty) (record {
  within = All-nil (λ (to : WireTo). to.pin < length s.pins);
  load = gap_load s net load none;
  wires = λ old len. gap_wires s net old none;
  fine = no_name s (name_at s.nets net) none;
})

-- a net without resistors
pub plain_found : (s : Stored) (net : ℕ) (load : NetLoad) (wires : List WireTo) → wires ≡ [] → is_number s.nets net ≡ true
    → (rc : Option NetRc) → rc ≡ option_and_then (rc_of s.design) (name_at s.nets net) → option_map_or is_lumped rc true ≡ true
    → option_map (net_load s.design Early) (name_at s.nets net) ≡ Some load.early.0 → option_map (net_load s.design Late) (name_at s.nets net) ≡ Some load.late.0
    → is_within load.early.0 ≡ true → is_within load.late.0 ≡ true → IsFoundNet s net (record { load = load; wires = wires })
plain_found s net load wires empty number rc is lumped early late fine_e fine_l = subst (λ (ws : List WireTo). IsFoundNet s net (record { load = load; wires = ws })) (sym empty) (record {
  within = All-nil (λ (to : WireTo). to.pin < length s.pins);
  load = plain_load s net load early late fine_e fine_l;
  wires = λ old len. plain_wires s net old rc is lumped;
  fine = plain_fine_as s net number rc is lumped load early late fine_e fine_l;
})

-- a net with resistors
pub tree_found : (s : Stored) → IsNumbered s → IsLinked s.design → (rc : NetRc) (root : ℕ) (items : List ℕ) → IsTreeNet s rc root items
    → (net : ℕ) → option_and_then (rc_of s.design) (name_at s.nets net) ≡ Some rc → IsOnNet s net items
    → (trees : NetTrees) → AreTrees s rc root items trees → is_net_origin s.design rc.net ≡ false
    → (load : NetLoad) → load.early.0 ≡ trees.early.load → load.late.0 ≡ (late_of trees).load
    → (wires : List WireTo) → AreWiresTo s trees items wires → IsFoundNet s net (record { load = load; wires = wires })
tree_found s num linked rc root items t net its each trees are fine load early late wires to = record {
  within = to.within;
  load = tree_load s num linked rc root items t net its each trees are fine load early late;
  wires = λ old len.
      (let p : ArePut s trees old (with_wires old wires) items = to.put old len in
      tree_wires s num linked rc root items t net its each trees are fine old (with_wires old wires) p.len
      (p.there rc (pin_word s root) (λ split. map (pin_cap_at s split) items) are.early are.late) p.kept);
  fine = wide_as s net rc its ∙ fine;
}

-- it is put into the tables of the nets below
pub found_more : (s : Stored) (net : ℕ) (found : FoundNet) → IsFoundNet s net found → (w next : Wires) → AreUpTo s w net
    → next.loads ≡ w.loads ++ found.load ∷ [] → next.pins ≡ with_wires w.pins found.wires → AreUpTo s next (net + 1)
found_more s net found f w next had pushed put =
    let p : AreNetWires s net w.pins next.pins = subst (λ (xs : List (Option PinWire)). AreNetWires s net w.pins xs) (sym put) (f.wires w.pins had.pins) in
    more_nets s w next net found.load had pushed p.len (λ split name named. (f.load.is split name named, f.load.within split name named))
    (p.wired (λ pin on. had.later pin net (omega arith) on)) p.kept

-- an answer
pub answered : (s : Stored) (net : ℕ) (answer : Result FoundNet Unfit) → IfOk answer (IsFoundNet s net) → IfErr answer (IsUnfit (is_wide_net s net)) → IsNetAnswer s net answer
answered s net (Ok found) h k = h
answered s net (Err unfit) h k = k

-- one more number
last_number : (a n j : ℕ) → a + n ≡ j → range_with_len a (suc n) ≡ range_with_len a n ++ j ∷ []
last_number a zero j e = let same : a ≡ j = omega arith in ap (λ k. k ∷ []) same
last_number a (suc n) j e = ap (λ xs. a ∷ xs) (last_number (a + 1) n j (omega arith))

pub numbers_more : (n : ℕ) (xs ys : List ℕ) → xs ≡ range_with_len 0 n → ys ≡ xs ++ n ∷ [] → ys ≡ range_with_len 0 (n + 1)
numbers_more n xs ys e f =
    let one : n + 1 ≡ suc n = omega arith in
    let same : 0 + n ≡ n = omega arith in
    f ∙ ap (λ zs. zs ++ n ∷ []) e ∙ sym (last_number 0 n n same) ∙ ap (range_with_len 0) (sym one)

-- the answers of some numbers
module _ {R : Type 0} (gives : ℕ → R → Type 0) where
  pub answers_long : (xs : List ℕ) (rs : List R) → IsMap gives xs rs → length rs ≡ length xs
  answers_long [] [] m = refl
  answers_long [] (r ∷ rs) m = absurd m
  answers_long (x ∷ xs) [] m = absurd m
  answers_long (x ∷ xs) (r ∷ rs) m = ap suc (answers_long xs rs m.1)

  pub answer_at : (xs : List ℕ) (rs : List R) (i n : ℕ) (r : R) → IsMap gives xs rs → i < length xs → get_or xs i n ≡ n → r ≡ get_or rs i r → gives n r
  answer_at [] rs i n r m low at is = absurd (omega (arith, low))
  answer_at (x ∷ xs) [] i n r m low at is = absurd m
  answer_at (x ∷ xs) (s ∷ rs) zero n r m low at is = subst (λ (y : R). gives n y) (sym is) (subst (λ (k : ℕ). gives k s) at m.0)
  answer_at (x ∷ xs) (s ∷ rs) (suc i) n r m low at is = answer_at xs rs i n r m.1 (omega (arith, low)) at is

  pub weaker : (p : ℕ → R → Type 0) → ((x : ℕ) (r : R) → p x r → gives x r) → (xs : List ℕ) (rs : List R) → IsMap p xs rs → IsMap gives xs rs
  weaker p more [] [] m = m
  weaker p more [] (r ∷ rs) m = absurd m
  weaker p more (x ∷ xs) [] m = absurd m
  weaker p more (x ∷ xs) (r ∷ rs) m = (more x r m.0, weaker p more xs rs m.1)

-- the answer of a number, of all of them
pub answer_long : (s : Stored) (bound : ℕ) (answers : List (Result FoundNet Unfit)) → IsMap (IsNetAnswer s) (range_with_len 0 bound) answers → length answers ≡ bound
answer_long s bound answers m = answers_long (IsNetAnswer s) (range_with_len 0 bound) answers m ∙ length-range_with_len 0 bound

pub answer_told : (s : Stored) (bound net : ℕ) (answers : List (Result FoundNet Unfit)) (answer : Result FoundNet Unfit) → IsMap (IsNetAnswer s) (range_with_len 0 bound) answers
    → net < bound → answer ≡ get_or answers net answer → IsNetAnswer s net answer
answer_told s bound net answers answer m low is =
    answer_at (IsNetAnswer s) (range_with_len 0 bound) answers net net answer m (omega (arith, low, length-range_with_len 0 bound)) (get_or-range_with_len 0 bound net net low ∙ zero_more) is
  where
    zero_more : 0 + net ≡ net
    zero_more = omega arith
