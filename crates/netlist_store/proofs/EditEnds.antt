-- Stores after an edit: their designs, and the numbers that they keep.

use Rattle.std.proofs.Common.{◌≡◌, ℕ, List, set, Option, None, Some, filter, not, sym, ap, subst, ◌∙◌, arith}
use Rattle.std.specs.Str.{bytes_eq}
use Rattle.timing_defs.specs.Edits.{without_rc}
use Rattle.netlist_store.specs.Numbering.{Stored, number_of, AreNumbers, KeepsNumbers}
use Rattle.netlist_store.specs.Drafts.{Follows, FollowsAll, with_nets, with_rcs}
use Rattle.netlist_store.proofs.NumberLaws.{some_is}
use Rattle.netlist_store.proofs.PinsOfInst.{part_follows}
use Rattle.netlist_store.proofs.GoneSteps.{gone_insts}

-- a net goes
pub net_left_follows : (base s after : Stored) (net : List ℕ) (n : ℕ) → number_of s.nets net ≡ Some n → AreNumbers s.nets → AreNumbers after.nets
    → after ≡ with_nets (with_rcs s (without_rc net s.design.rcs)) (filter (λ x. not (bytes_eq x net)) s.design.nets) (set s.nets n None) → FollowsAll base s → FollowsAll base after
net_left_follows base s after net n here are still is follows = record {
  insts = subst (λ (z : Stored). Follows base.insts z.insts) (sym is) follows.insts;
  nets = part_follows s.nets base.nets after.nets follows.nets (gone_insts s.nets after.nets net n here (ap (λ (z : Stored). z.nets) is) still are);
  pins = subst (λ (z : Stored). Follows base.pins z.pins) (sym is) follows.pins;
}

-- a base and its copy
pub follows_itself : (names : List (Option (List ℕ))) → Follows names names
follows_itself names = record {
  kept = record { numbers = λ q m n e f. some_is (sym e ∙ f); names = λ n a b e f. some_is (sym e ∙ f) };
  longer = omega arith;
}

pub follows_copy : (base copy : Stored) → copy ≡ base → FollowsAll base copy
follows_copy base copy e = subst (FollowsAll base) (sym e) (record {
  insts = follows_itself base.insts;
  nets = follows_itself base.nets;
  pins = follows_itself base.pins;
})

pub numbers_kept : (base after : Stored) → FollowsAll base after → KeepsNumbers base after
numbers_kept base after f = record { insts = f.insts.kept; nets = f.nets.kept; pins = f.pins.kept }
