-- Nodes and tables after an ECO that changed links and left the clock network.

use Rattle.std.proofs.Common.{◌≡◌, ℕ, ◌*◌, ◌<◌, ◌≤◌, ◌==◌, ◌⊎◌, Bool, true, false, not, ◌&&◌, ◌||◌, List, [], ◌++◌, length, get_or, Option, None, Some, refl, sym, ap, subst, ◌∙◌, inl, inr, arith}
use Rattle.std.specs.Prelude.{All, Contains, slice_index, IsTrue, nat_eq}
use Rattle.std.specs.List.{list_any, flat_map}
use Rattle.std.specs.Option.{option_map_or}
use Rattle.std.proofs.lemmas.Bool.{cases_Bool, cases_lt, true≢false, false≢true, and_parts, eqb-true, eq-eqb}
use Rattle.std.proofs.lemmas.List.Folds.{list_any-append}
use Rattle.std.proofs.lemmas.List.Elements.{All-contains, Contains-get_or}
use Rattle.timing_defs.specs.NetChecks.{net_fault}
use Rattle.timing_defs.specs.Touches.{Touch}
use Rattle.timing_defs.specs.Netlist.{Pin}
use Rattle.netlist_store.specs.Applying.{IsEditOf}
use Rattle.netlist_store.specs.Linked.{IsLinked}
use Rattle.netlist_store.specs.Numbering.{Stored, IsNumbered, is_number, pin_numbered}
use Rattle.eco_laws.specs.Kept.{is_touched_pin}
use Rattle.settling.specs.Settled.{is_among, IsRule, IsSettled}
use Rattle.pin_graph.specs.declared.arcs.GraphArc.{GraphArc}
use Rattle.pin_graph.specs.declared.held_fans.Fans.{Fans}
use Rattle.pin_graph.specs.declared.tables.NodeTables.{NodeTables}
use Rattle.pin_graph.specs.declared.tables.Tables.{Tables}
use Rattle.pin_graph.specs.declared.updates.PinsAfter.{PinsAfter}
use Rattle.pin_graph.specs.Graphs.{fan_at}
use Rattle.pin_graph.specs.HeldFans.{longer}
use Rattle.pin_graph.specs.Kept.{graph_in, AreTables, IsKept}
use Rattle.pin_graph.specs.NodeArcs.{marked, node_arcs, raw_into, AreJoined}
use Rattle.pin_graph.specs.Nodes.{node_bound, pin_under}
use Rattle.pin_graph.specs.NodeValues.{node_level, nodes_behind, AreOpposite}
use Rattle.pin_graph.specs.Placing.{AreInOrder}
use Rattle.pin_graph.specs.PinValues.{IsLonger}
use Rattle.pin_graph.specs.Pulls.{is_left, is_gone}
use Rattle.pin_graph.specs.Relinking.{AreBothFans, AreRelinked}
use Rattle.pin_graph.specs.Renewed.{IsEdited, AreDirty, ArePinsAfter, IsOff, is_noted, IsRenewed, AreNodesAfter}
use Rattle.pin_graph.specs.Seeds.{is_touched_at, numbers_of}
use Rattle.pin_graph.proofs.AfterLaws.{left_of}
use Rattle.pin_graph.proofs.HeldLaws.{longer_old, longer_new}
use Rattle.pin_graph.proofs.KeptLaws.{kept_from, network_kept}
use Rattle.pin_graph.proofs.MergeLaws.{none_joined}
use Rattle.pin_graph.proofs.NodeLaws.{raw_within}
use Rattle.pin_graph.proofs.RuleLists.{nothing_in}
use Rattle.pin_graph.proofs.GonePins.{number_of_pin}
use Rattle.pin_graph.proofs.LinksLeft.{left_is, into_same, ports_left}
use Rattle.timing_defs.proofs.Members.{any_back, any_in, kept_in, passes_in}
use Rattle.pin_graph.proofs.NodeRules.{nodes_rule, nodes_settled, nodes_kept}
use Rattle.store_pins.proofs.PinLaws.{pin_at_number}
use Rattle.pin_graph.proofs.RawLeft.{raw_left}
use Rattle.pin_graph.proofs.RelinkLaws.{longer_both}
use Rattle.pin_graph.proofs.SeedLaws.{nodes_listed}
use Rattle.pin_graph.proofs.TablesAfter.{marks_each, entered, placed}

-- the pins at which links changed
either_true : (a b : Bool) → (a || b) ≡ true → (a ≡ true) ⊎ (b ≡ true)
either_true true b e = inl refl
either_true false b e = inr e

pub dirty_are : (s s2 : Stored) (touch : Touch) (touched gone pins pins2 : List ℕ) → ((pin : ℕ) → list_any (nat_eq pin) touched ≡ is_touched_at s2 touch pin)
    → ((pin : ℕ) → list_any (nat_eq pin) gone ≡ (is_number s.pins pin && not (is_number s2.pins pin))) → pins ≡ touched ++ gone
    → ((n : ℕ) → list_any (nat_eq n) pins2 ≡ list_any (nat_eq n) pins) → IsNumbered s → IsLinked s.design → IsNumbered s2 → IsLinked s2.design
    → length s.pins ≤ length s2.pins → AreDirty s s2 touch pins2
dirty_are s s2 touch touched gone pins pins2 each away put same num linked num2 linked2 grown = record {
  each = all;
  below = λ k d low.
      (let n = get_or pins2 k d in
      under n (sym (all n) ∙ any_in (nat_eq n) pins2 n (Contains-get_or pins2 k d low) (eq-eqb n n refl)));
}
  where
    all : (pin : ℕ) → is_among pins2 pin ≡ not (is_left s s2 touch pin)
    all pin =
        same pin ∙ ap (list_any (nat_eq pin)) put ∙ list_any-append (nat_eq pin) touched gone
        ∙ (λ k. each pin k || away pin k) ∙ sym (left_is s s2 touch pin)

    numbered : (z : Stored) → IsNumbered z → IsLinked z.design → (n : ℕ) → is_number z.pins n ≡ true → n < length z.pins
    numbered z nz lz n e = (pin_at_number z nz lz n e).1.below

    touched_number : (n : ℕ) (o : Option Pin) → pin_numbered s2 n ≡ o → is_touched_at s2 touch n ≡ true → is_number s2.pins n ≡ true
    touched_number n None e f = absurd (false≢true (sym (ap (λ o. option_map_or (is_touched_pin touch) o false) e) ∙ f))
    touched_number n (Some p) e f = number_of_pin s2 n p e

    under : (n : ℕ) → not (is_left s s2 touch n) ≡ true → n < length s2.pins
    under n e = elim (either_true (is_touched_at s2 touch n) (is_gone s s2 n) (sym (left_is s s2 touch n) ∙ e)) [
      | inl f ↦ numbered s2 num2 linked2 n (touched_number n (pin_numbered s2 n) refl f)
      | inr f ↦
          let l = numbered s num linked n (and_parts (is_number s.pins n) (not (is_number s2.pins n)) f).0 in
          omega (arith, l, grown)
    ]

module _ (s s2 : Stored) (touch : Touch) (t : Tables) (e : IsEdited s s2 touch t) (dirty : List ℕ) (d : AreDirty s s2 touch dirty) where
  pub fans_both : AreBothFans (length t.ins.later) t.ins t.outs
  fans_both =
      subst (λ (n : ℕ). AreBothFans n t.ins t.outs) (sym e.kept.tables.in_fan.count)
      (record { in_fan = e.kept.tables.in_fan; out_fan = e.kept.tables.out_fan; outward = e.kept.tables.outward })

  pub fans_longer : length t.ins.later ≤ node_bound s2
  fans_longer = let c = e.kept.tables.in_fan.count in let g = e.grown in omega (arith, c, g)

  -- arcs into nodes that are not dirty
  clean : (node : ℕ) → is_among dirty (pin_under node) ≡ false → is_left s s2 touch (pin_under node) ≡ true
  clean node out = left_of s s2 touch t e dirty d (pin_under node) out

  module _ (network : List Bool) (ins outs : Fans) (r : AreRelinked s2 network dirty (longer t.ins (node_bound s2)) ins outs) where
    pub fan_old : (node : ℕ) → node < node_bound s → is_among dirty (pin_under node) ≡ false → fan_at ins node ≡ fan_at t.ins node
    fan_old node low out = r.others node out ∙ longer_old t.ins (node_bound s2) node (let c = e.kept.tables.in_fan.count in omega (arith, c, low))

    pub fan_new : (node : ℕ) → node_bound s ≤ node → node < node_bound s2 → is_among dirty (pin_under node) ≡ false → fan_at ins node ≡ []
    fan_new node high low out = r.others node out ∙ longer_new t.ins (node_bound s2) node (let c = e.kept.tables.in_fan.count in omega (arith, c, high)) low

    -- levels of nodes are settled but at those of dirty pins
    pub nodes_wrong : (table : List ℕ) → IsLonger (node_bound s2) t.levels table → IsSettled (node_bound s2) (node_level ins) table (is_among (flat_map numbers_of dirty))
    nodes_wrong table is_longer =
        let few = e.numbered.pins.below in
        nodes_kept (node_bound s) (node_bound s2) t.ins ins t.levels table is_longer (is_among (flat_map numbers_of dirty))
        e.kept.tables.leveled.count (omega (arith, few))
        (λ node low arc c. (e.kept.tables.outward.all node low arc c).1)
        (λ node low. e.kept.tables.leveled.level node low)
        (λ node low under out. fan_old node low (sym (nodes_listed dirty node) ∙ out))
        (λ node high under out. fan_new node high under (sym (nodes_listed dirty node) ∙ out))

    pub nodes_opposite : (pin_levels : List ℕ) → length pin_levels ≡ length s2.pins → AreOpposite (length ins.later) ins outs pin_levels
    nodes_opposite pin_levels long =
        subst (λ (n : ℕ). AreOpposite n ins outs pin_levels) (sym r.both.in_fan.count)
        (record { in_fan = r.both.in_fan; out_fan = r.both.out_fan; turned = r.both.outward; levels = omega (arith, long) })

  pub dirty_nodes_low : All (λ a. a < node_bound s2) (flat_map numbers_of dirty)
  dirty_nodes_low = λ k x low.
      (let n = get_or (flat_map numbers_of dirty) k x in
      let listed = any_in (nat_eq n) (flat_map numbers_of dirty) n (Contains-get_or (flat_map numbers_of dirty) k x low) (eq-eqb n n refl) in
      let m = any_back (nat_eq (pin_under n)) dirty (sym (nodes_listed dirty n) ∙ listed) in
      let same = eqb-true (pin_under n) m.item m.passes in
      let under : m.item < length s2.pins = All-contains (λ pin. pin < length s2.pins) dirty m.item d.below m.within in
      omega (arith, same, under))

  module _ (network : List Bool) (ins outs : Fans) (r : AreRelinked s2 network dirty (longer t.ins (node_bound s2)) ins outs) (xs : List ℕ) (is : xs ≡ flat_map numbers_of dirty) where
    pub wrong_low : All (λ a. a < length ins.later) xs
    wrong_low =
        subst (λ (n : ℕ). All (λ a. a < n) xs) (sym r.both.in_fan.count) (subst (λ (ys : List ℕ). All (λ a. a < node_bound s2) ys) (sym is) dirty_nodes_low)

    pub wrong_settled : (table : List ℕ) → IsLonger (length ins.later) t.levels table → IsSettled (length ins.later) (node_level ins) table (is_among xs)
    wrong_settled table is_longer =
        subst (λ (n : ℕ). IsSettled n (node_level ins) table (is_among xs)) (sym r.both.in_fan.count)
        (subst (λ (ys : List ℕ). IsSettled (node_bound s2) (node_level ins) table (is_among ys)) (sym is)
        (nodes_wrong network ins outs r table (subst (λ (n : ℕ). IsLonger n t.levels table) r.both.in_fan.count is_longer)))

    pub its_rule : (pin_levels : List ℕ) → length pin_levels ≡ length s2.pins → IsRule (length ins.later) (node_level ins) (nodes_behind outs)
    its_rule pin_levels long = nodes_rule (length ins.later) ins outs pin_levels (nodes_opposite network ins outs r pin_levels long)

  -- the tables of the edited store
  module _ (pins : PinsAfter) (p : ArePinsAfter s2 t pins) (off : (pin : ℕ) → IsTrue (is_noted dirty pins pin) → IsOff t.network pins pin)
      (network : List Bool) (long : length network ≡ length s2.pins) (marks : (x : ℕ) → marked network x ≡ marked t.network x)
      (nodes : NodeTables) (n : AreNodesAfter s2 t network dirty nodes)
      (t2 : Tables) (is : t2 ≡ record { ins = nodes.ins; outs = nodes.outs; network = network; fed = pins.fed.values; feeds = pins.feeds.values; pin_levels = pins.levels; levels = nodes.levels; places = nodes.places; order = nodes.order }) where
    abbrev made : Tables
    made = record { ins = nodes.ins; outs = nodes.outs; network = network; fed = pins.fed.values; feeds = pins.feeds.values; pin_levels = pins.levels; levels = nodes.levels; places = nodes.places; order = nodes.order }

    or_parts : (a b c : Bool) → ((a || b) || c) ≡ false → (a ≡ false) × (b ≡ false) × (c ≡ false)
    or_parts true b c h = absurd (true≢false h)
    or_parts false true c h = absurd (true≢false h)
    or_parts false false c h = (refl, refl, h)

    parts : (pin : ℕ) → is_noted dirty pins pin ≡ false → (is_among dirty pin ≡ false) × (is_among pins.fed.changed pin ≡ false) × (is_among pins.feeds.changed pin ≡ false)
    parts pin h = or_parts (is_among dirty pin) (is_among pins.fed.changed pin) (is_among pins.feeds.changed pin) h

    renewed : IsRenewed s s2 t made (is_noted dirty pins)
    renewed = record {
      grown = e.grown;
      count = long;
      marks = marks;
      off = λ pin h. off pin h;
      fed = λ pin h. p.fed.kept pin (parts pin h).1;
      feeds = λ pin h. p.feeds.kept pin (parts pin h).2;
      arcs = λ pin h. into_same s touch s2 e.made e.numbered e.numbered2 pin (left_of s s2 touch t e dirty d pin (parts pin h).0);
      ports = ports_left s touch s2 e.made e.numbered e.numbered2;
      fans = λ node low h. fan_old network nodes.ins nodes.outs n.relinked node low (parts (pin_under node) h).0;
      place_count = n.place_count;
      places = n.places;
    }

    past : (node : ℕ) → node_bound s ≤ node → (r : GraphArc) → Contains (raw_into s t.network node) r → ⊥
    past node high r c =
        let low = (raw_within s e.numbered e.linked t.network (network_kept s e.numbered e.linked t e.kept.tables) r (kept_in (λ (arc : GraphArc). arc.to == node) (node_arcs s t.network) r c)).1 in
        let same = eqb-true r.to node (passes_in (λ (arc : GraphArc). arc.to == node) (node_arcs s t.network) r c) in
        omega (arith, low, same, high)

    joined : (node : ℕ) → node < node_bound s2 → AreJoined (raw_into s2 network node) (fan_at nodes.ins node)
    joined node low = elim (cases_Bool (is_among dirty (pin_under node))) [
      | inl h ↦ n.relinked.joined node h
      | inr h ↦ elim (cases_lt node (node_bound s)) [
        | inl old ↦
            subst (λ (xs : List GraphArc). AreJoined xs (fan_at nodes.ins node)) (sym (raw_left s touch s2 e.made e.numbered e.numbered2 t.network network marks node (clean node h)))
            (subst (λ (xs : List GraphArc). AreJoined (raw_into s t.network node) xs) (sym (fan_old network nodes.ins nodes.outs n.relinked node old h)) (e.kept.tables.joined node old))
        | inr new ↦
            let none = raw_left s touch s2 e.made e.numbered e.numbered2 t.network network marks node (clean node h) ∙ nothing_in (raw_into s t.network node) (λ r c. past node new r c) in
            subst (λ (xs : List GraphArc). AreJoined xs (fan_at nodes.ins node)) (sym none)
            (subst (λ (xs : List GraphArc). AreJoined [] xs) (sym (fan_new network nodes.ins nodes.outs n.relinked node new low h)) none_joined)
      ]
    ]

    tables : AreTables s2 made
    tables = record {
      fault = e.fault;
      rising = p.rising;
      flags = record {
        clocked = record { forth = p.fed.reached; back = p.feeds.reached; count = long; each = marks_each s s2 t made (is_noted dirty pins) e.kept.tables renewed };
        fed = p.fed.few;
        feeds = p.feeds.few;
      };
      entered = entered s s2 t made (is_noted dirty pins) e.kept.tables renewed;
      in_fan = n.relinked.both.in_fan;
      out_fan = n.relinked.both.out_fan;
      joined = joined;
      outward = n.relinked.both.outward;
      leveled = nodes_settled (graph_in s2 made) n.leveled;
      placed = placed s s2 t made (is_noted dirty pins) e.kept.tables renewed;
      ordered = record {
        told = λ q low. n.places (slice_index nodes.order q) ∙ ordered.told q low;
        there = λ node q at. ordered.there node q (sym (n.places node) ∙ at);
      };
    }
      where
        ordered : AreInOrder t.places nodes.order
        ordered = subst (λ (xs : List ℕ). AreInOrder t.places xs) (sym n.order) e.kept.tables.ordered

    pub tables_kept : IsKept s2 t2
    tables_kept = subst (IsKept s2) (sym is) (kept_from s2 e.numbered2 e.linked2 made tables)

-- as the calls have it
pub edited_of : (s s2 : Stored) (touch : Touch) (t : Tables) → IsKept s t → IsEditOf s touch s2 → net_fault s2.design ≡ None → IsNumbered s → IsLinked s.design → IsNumbered s2 → IsLinked s2.design
    → length s.pins ≤ length s2.pins → IsEdited s s2 touch t
edited_of s s2 touch t kept made fault num linked num2 linked2 grown = record {
  kept = kept;
  made = made;
  fault = fault;
  numbered = num;
  linked = linked;
  numbered2 = num2;
  linked2 = linked2;
  grown = grown;
}

pub both_longer : (ins outs ins2 outs2 ins3 outs3 : Fans) (m n : ℕ) → AreBothFans (length ins.later) ins outs → length ins.later ≤ 2 * n → ins2 ≡ ins → outs2 ≡ outs
    → ins3 ≡ longer ins2 (2 * m) → outs3 ≡ longer outs2 (2 * m) → m ≡ n → AreBothFans (2 * n) ins3 outs3
both_longer ins outs ins2 outs2 ins3 outs3 m n both more a b p q e =
    subst (λ (x : Fans). AreBothFans (2 * n) x outs3) (sym (p ∙ (λ k. longer (a k) (2 * e k))))
    (subst (λ (y : Fans). AreBothFans (2 * n) (longer ins (2 * n)) y) (sym (q ∙ (λ k. longer (b k) (2 * e k)))) (longer_both (length ins.later) (2 * n) ins outs both more))
