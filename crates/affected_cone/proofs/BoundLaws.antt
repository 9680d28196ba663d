-- What tells that an endpoint keeps a slack, by what its pin and its nodes tell.

use Rattle.std.proofs.Common.{◌≡◌, ℕ, ◌+◌, ◌*◌, ◌<◌, ◌^◌, ℤ, Bool, true, false, not, List, [], length, get_or, Option, None, Some, refl, sym, ap, subst, ◌∙◌, inl, inr, arith}
use Rattle.std.specs.Prelude.{All, Contains, find, nat_eq, ◌||◌, option_map, IfSome}
use Rattle.std.specs.List.{list_any}
use Rattle.std.specs.Option.{option_map_or}
use Rattle.std.proofs.lemmas.List.Elements.{All-contains_itself}
use Rattle.std.proofs.lemmas.Bool.{cases_Bool, false≢true, true≢false, eqb-true, and_from}
use Rattle.sta_units.specs.declared.units.Fs.{Fs}
use Rattle.timing_defs.specs.declared.kinds.Kind.{Kind}
use Rattle.timing_defs.specs.declared.kinds.Kind.TheVariants.{Setup, Hold}
use Rattle.timing_defs.specs.declared.kinds.Split.{Split}
use Rattle.timing_defs.specs.declared.kinds.Split.TheVariants.{Late}
use Rattle.timing_defs.specs.declared.kinds.Tran.{Tran}
use Rattle.timing_defs.specs.declared.kinds.Tran.TheVariants.{Rise, Fall}
use Rattle.timing_defs.specs.declared.library.CellPin.{CellPin}
use Rattle.timing_defs.specs.declared.netlist.Inst.{Inst}
use Rattle.timing_defs.specs.Netlist.{cell_of, cell_pins}
use Rattle.timing_defs.specs.Touches.{Touch}
use Rattle.timing_defs.specs.Kinds.{data_split}
use Rattle.timing_defs.proofs.Members.{some_is, none_in, any_in, found_in, found_passes, in_filter_map_back}
use Rattle.netlist_store.specs.Linked.{IsLinked}
use Rattle.netlist_store.specs.Numbering.{Stored, name_at, is_number, inst_numbered, owner_number, IsNumbered}
use Rattle.netlist_store.specs.Applying.{IsEditOf}
use Rattle.store_pins.proofs.PinLaws.{told_at, below_bound, there}
use Rattle.level_workers.specs.Mapped.{IsMap}
use Rattle.pin_graph.specs.Joins.{own_number}
use Rattle.pin_graph.specs.Nodes.{node_number, pin_under, tran_under}
use Rattle.pin_graph.specs.Graphs.{Graphed, IsGraph}
use Rattle.pin_graph.proofs.NodeLaws.{number_again}
use Rattle.edit_reach.specs.Reach.{is_in, HasSeeds, AreBehind}
use Rattle.edit_reach.specs.Besides.{pins_of_cell, inst_pins_at}
use Rattle.edit_reach.proofs.Beside.{gap_owner, own_pins_at}
use Rattle.carried_times.specs.declared.walking.CarriedTimes.{CarriedTimes}
use Rattle.carried_times.specs.KeptPins.{IsKeptPin}
use Rattle.carried_times.specs.Ordered.{AreSame}
use Rattle.carried_times.specs.Carry.{time_of}
use Rattle.carried_times.specs.Sides.{time_at, AreCarriedTimes}
use Rattle.affected_cone.specs.declared.ends.EndSlacks.{EndSlacks}
use Rattle.affected_cone.specs.Analysed.{ends_of, slack_in, IsEnd}
use Rattle.affected_cone.specs.Bounds.{is_reached, is_other_reached, HasRoom, HasRooms, IsAlone, IsKeptSlack, IsLeftNode, AreLeftNodes, IsSlackAt}
use Rattle.affected_cone.proofs.BoundedEnds.{slack_kept}
use Rattle.affected_cone.proofs.MapLaws.{item_of}

-- the pins of an instance are pins of the store
pub own_low : (s : Stored) (n pin : ℕ) → Contains (inst_pins_at s n) pin → pin < length s.pins
own_low s n pin c = by (inst_numbered s n) c
  where
    by : (o : Option Inst) → Contains (option_map_or (λ inst. pins_of_cell s inst (cell_pins (cell_of s.design Late inst))) o []) pin → pin < length s.pins
    by None h = absurd (none_in pin h)
    by (Some inst) h =
        let m = in_filter_map_back (λ (q : CellPin). own_number s inst q.name) (cell_pins (cell_of s.design Late inst)) pin h in
        below_bound s.pins _ pin (told_at s.pins _ pin m.same)

or_true : (a : Bool) → (a || true) ≡ true
or_true true = refl
or_true false = refl

-- a node among some is of a pin of which some is there
reached : (nodes : List ℕ) (k : ℕ) → is_in nodes k ≡ true → is_reached nodes (pin_under k) ≡ true
reached nodes k h = by (tran_under k) (number_again k)
  where
    by : (t : Tran) → node_number (pin_under k) t ≡ k → is_reached nodes (pin_under k) ≡ true
    by Rise e =
        let z : 2 * pin_under k ≡ k = omega (arith, e) in
        ap (λ b. b || is_in nodes (2 * pin_under k + 1)) (ap (is_in nodes) z ∙ h)
    by Fall e =
        let z : 2 * pin_under k + 1 ≡ k = omega (arith, e) in
        ap (λ b. is_in nodes (2 * pin_under k) || b) (ap (is_in nodes) z ∙ h) ∙ or_true (is_in nodes (2 * pin_under k))

owned : (s : Stored) (pin inst : ℕ) → owner_number s pin ≡ Some inst → is_number s.pins pin ≡ true
owned s pin inst e = elim (cases_Bool (is_number s.pins pin)) [
  | inl h ↦ h
  | inr gap ↦ (let bad : None ≡ Some inst = sym (gap_owner s pin gap) ∙ e in absurd (cc))
]

module _ (s : Stored) (num : IsNumbered s) (linked : IsLinked s.design) (nodes : List ℕ) (pin : ℕ) where
  pub alone : (inst : ℕ) → owner_number s pin ≡ Some inst → list_any (is_other_reached nodes pin) (inst_pins_at s inst) ≡ false → IsAlone s nodes pin
  alone inst own none k other h ours theirs = elim (cases_Bool (nat_eq (pin_under k) pin)) [
    | inl same ↦ eqb-true (pin_under k) pin same
    | inr differs ↦
        let same : other ≡ inst = some_is (sym ours ∙ own) in
        let c = own_pins_at s num linked (pin_under k) inst (owned s (pin_under k) other theirs) (theirs ∙ ap Some same) in
        let bad = any_in (is_other_reached nodes pin) (inst_pins_at s inst) (pin_under k) c
        (and_from (not (nat_eq (pin_under k) pin)) (is_reached nodes (pin_under k)) (ap not differs) (reached nodes k h)) in
        absurd (true≢false (sym bad ∙ none))
  ]

  pub port_alone : owner_number s pin ≡ None → IsAlone s nodes pin
  port_alone own k other h ours theirs = let bad : None ≡ Some other = sym own ∙ ours in absurd (cc)

-- a kept pin by lists of the same numbers
pub same_kept : (base : Stored) (g : Graphed) (seeds found seeds2 found2 : List ℕ) → AreSame seeds seeds2 → AreSame found found2
    → (split : Split) (pin : ℕ) → IsKeptPin base g seeds2 found2 split pin → IsKeptPin base g seeds found split pin
same_kept base g seeds found seeds2 found2 same same2 split pin k = record {
  there = k.there;
  unseeded = λ tran. sym (same (node_number pin tran)) ∙ k.unseeded tran;
  off = k.off;
  slews = k.slews;
  alone = λ n inst h. k.alone n inst (same2 n ∙ h);
}

-- what holds of the numbers of both nodes of a pin
of_both : (P : ℕ → Type 0) (pin : ℕ) → P (2 * pin) → P (2 * pin + 1) → (tran : Tran) → P (node_number pin tran)
of_both P pin rise fall Rise = subst P (let z : 2 * pin ≡ 2 * pin + 0 = omega arith in z) rise
of_both P pin rise fall Fall = fall

pub both_left : (base : Stored) (g : Graphed) (seeds : List ℕ) (split : Split) (pin : ℕ) → IsLeftNode base g seeds split (2 * pin)
    → IsLeftNode base g seeds split (2 * pin + 1) → AreLeftNodes base g seeds split pin
both_left base g seeds split pin = of_both (IsLeftNode base g seeds split) pin

pub both_rooms : (base s : Stored) (c : CarriedTimes) (kind : Kind) (pin : ℕ) (slack : ℤ) (split : Split) → split ≡ data_split kind
    → (rise fall : Option ℤ) → rise ≡ time_of split (time_at c.nodes.keys c.times (2 * pin)) → fall ≡ time_of split (time_at c.nodes.keys c.times (2 * pin + 1))
    → HasRoom base s kind (2 * pin) rise slack → HasRoom base s kind (2 * pin + 1) fall slack → HasRooms base s c kind pin slack
both_rooms base s c kind pin slack split same rise fall at at2 room room2 =
    of_both (λ n. HasRoom base s kind n (time_of (data_split kind) (time_at c.nodes.keys c.times n)) slack) pin
    (subst (λ (o : Option ℤ). HasRoom base s kind (2 * pin) o slack) (at ∙ ap (λ (t : Split). time_of t (time_at c.nodes.keys c.times (2 * pin))) same) room)
    (subst (λ (o : Option ℤ). HasRoom base s kind (2 * pin + 1) o slack) (at2 ∙ ap (λ (t : Split). time_of t (time_at c.nodes.keys c.times (2 * pin + 1))) same) room2)

-- a pin is kept whose nodes are left and that is alone
pub kept_pin : (base : Stored) (g : Graphed) (s : Stored) → g.stored ≡ s → (seeds nodes : List ℕ) (split : Split) (pin : ℕ) → is_number s.pins pin ≡ true
    → AreLeftNodes base g seeds split pin → IsAlone s nodes pin → IsKeptPin base g seeds nodes split pin
kept_pin base g s same seeds nodes split pin is left one = record {
  there = subst (λ (t : Stored). is_number t.pins pin ≡ true) (sym same) is;
  unseeded = λ tran. (left tran).unseeded;
  off = λ tran. (left tran).off;
  slews = λ tran. (left tran).slew;
  alone = subst (λ (t : Stored). IsAlone t nodes pin) (sym same) one;
}

-- it keeps a slack where there is room
pub kept_with : (g g2 : Graphed) (s : Stored) → g2.stored ≡ s → (touch : Touch) → IsEditOf g.stored touch s → IsNumbered g.stored → IsNumbered s → IsGraph g → IsGraph g2
    → (seeds nodes : List ℕ) → HasSeeds g.stored s touch seeds → AreBehind g2 seeds nodes → (c : CarriedTimes) → AreCarriedTimes g.stored s seeds nodes c
    → (kind : Kind) (pin : ℕ) → IsKeptPin g.stored g2 c.seeds.keys c.nodes.keys (data_split kind) pin → (slack : ℤ) → HasRooms g.stored s c kind pin slack
    → IsKeptSlack g.stored s kind pin slack
kept_with g g2 s same touch made num num2 is is2 seeds nodes has behind c carried kind pin kept slack rooms =
    subst (λ (t : Stored). IsKeptSlack g.stored t kind pin slack) same
    (slack_kept g g2 touch (subst (IsEditOf g.stored touch) (sym same) made) num (subst IsNumbered (sym same) num2) is is2 seeds nodes
    (subst (λ (t : Stored). HasSeeds g.stored t touch seeds) (sym same) has) behind c
    (subst (λ (t : Stored). AreCarriedTimes g.stored t seeds nodes c) (sym same) carried) kind pin
    (same_kept g.stored g2 seeds nodes c.seeds.keys c.nodes.keys carried.seeds_are carried.nodes_are (data_split kind) pin kept) slack
    (subst (λ (t : Stored). HasRooms g.stored t c kind pin slack) (sym same) rooms))

-- an endpoint that is found by its pin's number has its slacks
pub found_slack : (s : Stored) (ends : List EndSlacks) → IsMap (IsEnd s) (ends_of s) ends → (pin : ℕ) (end : EndSlacks) → find (λ e. nat_eq e.pin pin) ends ≡ Some end
    → (kind : Kind) → IsSlackAt s kind pin (slack_in kind end)
found_slack s ends m pin end e kind word name =
    let it = item_of (IsEnd s) (ends_of s) ends m end (found_in (λ x. nat_eq x.pin pin) ends end e) in
    let same : it.item ≡ pin = sym it.gives.number ∙ eqb-true end.pin pin (found_passes (λ x. nat_eq x.pin pin) ends end e) in
    it.gives.slack kind word (ap (name_at s.pins) same ∙ name)

pub some_slack : (s : Stored) (kind : Kind) (pin : ℕ) (o : Option Fs) → IsSlackAt s kind pin (option_map (λ t. t.0) o) → IfSome o (λ slack. IsSlackAt s kind pin (Some slack.0))
some_slack s kind pin None h = tt
some_slack s kind pin (Some x) h = h

-- an endpoint by its slacks of both kinds
pub end_by : (s : Stored) (pin : ℕ) (setup hold : Option Fs) → IsSlackAt s Setup pin (option_map (λ t. t.0) setup) → IsSlackAt s Hold pin (option_map (λ t. t.0) hold)
    → IsEnd s pin (record { pin = pin; setup = setup; hold = hold })
end_by s pin setup hold a b = record { number = refl; slack = by }
  where
    by : (kind : Kind) → IsSlackAt s kind pin (slack_in kind (record { pin = pin; setup = setup; hold = hold }))
    by Setup = a
    by Hold = b

pub not_true : (b : Bool) → not b ≡ true → b ≡ false
not_true true e = absurd (false≢true e)
not_true false e = refl

-- what holds of a value that is there
pub told_some : {X : Type 0} (P : X → Type 0) (o : Option X) (x : X) → o ≡ Some x → IfSome o P → P x
told_some {X} P o x e h = subst (λ (p : Option X). IfSome p P) e h

pub some_told : {X : Type 0} (P : X → Type 0) (o : Option X) (x : X) → o ≡ Some x → P x → IfSome o P
some_told {X} P o x e h = subst (λ (p : Option X). IfSome p P) (sym e) h

-- the pins of an instance are in range
pub own_lows : (s : Stored) (n top : ℕ) → top ≡ length s.pins → top < 2 ^ 31 → (pins : List ℕ) → pins ≡ inst_pins_at s n → All (λ q. q < 2 ^ 31) pins
own_lows s n top is few pins e = λ i d l.
    (let low = own_low s n (get_or pins i d) (subst (λ (xs : List ℕ). Contains xs (get_or pins i d)) e (All-contains_itself pins i d l)) in omega (arith, low, is, few))

pub pin_low : (s : Stored) (pin top : ℕ) → top ≡ length s.pins → top < 2 ^ 31 → is_number s.pins pin ≡ true → pin < 2 ^ 31
pin_low s pin top is few there_is =
    let name = there (name_at s.pins pin) there_is in
    let low = below_bound s.pins name.0 pin name.1 in
    omega (arith, low, is, few)
