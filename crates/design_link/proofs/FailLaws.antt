-- The least net that fails a test, over the names that numbers stand for.

use Rattle.std.proofs.Common.{◌≡◌, ℕ, Bool, true, false, not, List, [], ◌∷◌, map, filter, length, Option, None, Some, Result, refl, sym, ap, subst, ◌∙◌, inl, inr}
use Rattle.std.specs.Prelude.{find, is_some, nat_lt, ◌⊎◌, option_map, ◌&&◌}
use Rattle.std.specs.List.{list_all}
use Rattle.std.specs.Option.{option_map_or}
use Rattle.std.specs.Str.{bytes_eq}
use Rattle.std.proofs.lemmas.Bool.{false≢true, and_parts, not-true}
use Rattle.timing_defs.specs.declared.parasitics.NetRc.{NetRc}
use Rattle.timing_defs.specs.declared.design.Design.{Design}
use Rattle.timing_defs.specs.declared.faults.Fault.{Fault}
use Rattle.timing_defs.specs.declared.faults.Fault.TheVariants.{UnknownNet, TooLarge, ManyDrivers, Memory}
use Rattle.timing_defs.specs.declared.faults.Large.{Large}
use Rattle.timing_defs.specs.declared.faults.Large.TheVariants.{Net as large_net}
use Rattle.timing_defs.specs.Netlist.{pins, is_listed, are_distinct}
use Rattle.timing_defs.specs.Edits.{first_fault, unless, link_inst, link_net}
use Rattle.timing_defs.specs.Wires.{first_some, rc_of}
use Rattle.timing_defs.specs.NetChecks.{most, is_large_net, is_tree, pins_agree, nets_where, least, large, many_drivers, first_of_two, net_fault}
use Rattle.netlist_store.specs.Linked.{IsLinked}
use Rattle.timing_defs.specs.Documents.{is_net_rc}
use Rattle.netlist_store.specs.Numbering.{Stored, IsNumbered}
use Rattle.netlist_store.specs.Applying.{IsChecked}
use Rattle.design_link.specs.declared.net_tests.NetTest.{NetTest}
use Rattle.design_link.specs.declared.net_tests.NetTest.TheVariants.{TooManyNodes, TooManyDrivers, NoTree, OtherPins}
use Rattle.design_link.specs.Counts.{names_below, large_count}
use Rattle.design_link.specs.After.{net_fault_among}
use Rattle.design_link.specs.Failing.{rc_that, is_crowded, fails, least_failing}
use Rattle.timing_defs.proofs.SameNames.{same_is}
use Rattle.design_link.proofs.Orders.{least_same}
use Rattle.design_link.proofs.Lists.{same_flips, listed_filter, unlisted_is, found_listed}
use Rattle.design_link.proofs.CountLaws.{nets_listed}

-- the nets whose parasitics pass a test
where_listed : (test : NetRc → Bool) (rcs : List NetRc) → are_distinct (map (λ rc. rc.net) rcs) ≡ true → (q : List ℕ)
    → is_listed (map (λ rc. rc.net) (filter test rcs)) q ≡ option_map_or test (find (λ rc. bytes_eq rc.net q) rcs) false
where_listed test [] d q = refl
where_listed test (r ∷ rs) d q = by (bytes_eq r.net q) refl (test r) refl (where_listed test rs parts.1 q)
  where
    parts : (not (is_listed (map (λ rc. rc.net) rs) r.net) ≡ true) × (are_distinct (map (λ rc. rc.net) rs) ≡ true)
    parts = and_parts (not (is_listed (map (λ rc. rc.net) rs) r.net)) (are_distinct (map (λ rc. rc.net) rs)) d

    none_left : bytes_eq r.net q ≡ true → is_listed (map (λ rc. rc.net) (filter test rs)) q ≡ false
    none_left e =
        unlisted_is (λ (rc : NetRc). rc.net) test rs q
        (ap (is_listed (map (λ rc. rc.net) rs)) (sym (same_is r.net q e)) ∙ not-true (is_listed (map (λ rc. rc.net) rs) r.net) parts.0)

    by : (b : Bool) → bytes_eq r.net q ≡ b → (t : Bool) → test r ≡ t
        → is_listed (map (λ rc. rc.net) (filter test rs)) q ≡ option_map_or test (find (λ rc. bytes_eq rc.net q) rs) false
        → is_listed (map (λ rc. rc.net) (filter test (r ∷ rs))) q ≡ option_map_or test (find (λ rc. bytes_eq rc.net q) (r ∷ rs)) false
    by true e true h rest = let f : bytes_eq q r.net ≡ true = same_flips q r.net ∙ e in rw (e, h, f) refl
    by true e false h rest = rw (e, h) (none_left e)
    by false e true h rest = let f : bytes_eq q r.net ≡ false = same_flips q r.net ∙ e in rw (e, h, f) rest
    by false e false h rest = rw (e, h) rest

-- each net with parasitics is there
no_first : (a b : Option Fault) → option_map_or (λ fault. true) (first_fault (a ∷ b ∷ [])) false ≡ false → b ≡ None
no_first None None e = refl
no_first None (Some f) e = absurd (false≢true (sym e))
no_first (Some f) b e = absurd (false≢true (sym e))

net_linked : (nets : List (List ℕ)) (rcs : List NetRc) (q : List ℕ) → first_some (link_net nets) rcs ≡ None → is_listed (map (λ rc. rc.net) rcs) q ≡ true → is_listed nets q ≡ true
net_linked nets [] q e h = absurd (false≢true h)
net_linked nets (r ∷ rs) q e h = by (is_listed nets r.net) refl (bytes_eq q r.net) refl (λ e2 h2. net_linked nets rs q e2 h2)
  where
    by : (t : Bool) → is_listed nets r.net ≡ t → (b : Bool) → bytes_eq q r.net ≡ b
        → (first_some (link_net nets) rs ≡ None → is_listed (map (λ rc. rc.net) rs) q ≡ true → is_listed nets q ≡ true) → is_listed nets q ≡ true
    by true f true g rest = ap (is_listed nets) (same_is q r.net g) ∙ f
    by true f false g rest =
        let e2 : first_some (link_net nets) rs ≡ None = rw f at e in
        let h2 : is_listed (map (λ rc. rc.net) rs) q ≡ true = rw g at h in
        rest e2 h2
    by false f b g rest = absurd (false≢true (ap is_some (sym e ∙ ap (λ t. option_map_or Some (unless t (UnknownNet r.net)) (first_some (link_net nets) rs)) f)))

-- the nets that fail a test of their parasitics are those that are there and fail
module _ (d : Design) (linked : IsLinked d) where
  rcs_apart : are_distinct (map (λ rc. rc.net) d.rcs) ≡ true
  rcs_apart = (and_parts (are_distinct (map (λ rc. rc.net) d.rcs)) (list_all is_net_rc d.rcs) linked.parasitics).0

  rc_listed : (q : List ℕ) → is_some (rc_of d q) ≡ true → is_listed d.nets q ≡ true
  rc_listed q e =
      net_linked d.nets d.rcs q
      (no_first (first_some (link_inst d.early d.late) d.insts) (first_some (link_net d.nets) d.rcs) linked.linked)
      (sym (found_listed (λ (rc : NetRc). rc.net) d.rcs q) ∙ e)

  pub where_fails : (test : NetRc → Bool) (q : List ℕ) → is_listed (nets_where test d) q ≡ (is_listed d.nets q && rc_that test d q)
  where_fails test q = where_listed test d.rcs rcs_apart q ∙ sym (inside (rc_of d q) refl)
    where
      inside : (o : Option NetRc) → rc_of d q ≡ o → (is_listed d.nets q && option_map_or test (rc_of d q) false) ≡ option_map_or test (rc_of d q) false
      inside None e = rw e (none (is_listed d.nets q))
        where
          none : (b : Bool) → (b && false) ≡ false
          none true = refl
          none false = refl
      inside (Some rc) e = ap (λ b. b && option_map_or test (rc_of d q) false) (rc_listed q (ap is_some e))

module _ (s : Stored) (num : IsNumbered s) (linked : IsLinked s.design) where
  least_where : (test : NetRc → Bool) → least (filter (rc_that test s.design) (names_below s.nets (length s.nets))) ≡ least (nets_where test s.design)
  least_where test =
      least_same (filter (rc_that test s.design) (names_below s.nets (length s.nets))) (nets_where test s.design) (λ q.
      listed_filter (rc_that test s.design) (names_below s.nets (length s.nets)) q
      ∙ ap (λ b. b && rc_that test s.design q) (nets_listed s num linked q)
      ∙ sym (where_fails s.design linked test q))

  least_of_nets : (test : List ℕ → Bool) → least (filter test (names_below s.nets (length s.nets))) ≡ least (filter test s.design.nets)
  least_of_nets test =
      least_same (filter test (names_below s.nets (length s.nets))) (filter test s.design.nets) (λ q.
      listed_filter test (names_below s.nets (length s.nets)) q ∙ ap (λ b. b && test q) (nets_listed s num linked q) ∙ sym (listed_filter test s.design.nets q))

  -- the least of the nets that fail
  pub least_found : (test : NetTest) → least (filter (fails test s.design) (names_below s.nets (length s.nets))) ≡ least_failing test s.design
  least_found TooManyNodes = least_where (is_large_net s.design)
  least_found TooManyDrivers = least_of_nets (is_crowded s.design)
  least_found NoTree = least_where (λ rc. not (is_tree s.design rc))
  least_found OtherPins = least_where (λ rc. not (pins_agree s.design rc))

-- too large by counts, or else by nodes
pub large_parts : (d : Design) → large d ≡ option_map_or Some (large_count d) (option_map large_net (least (nets_where (is_large_net d) d)))
large_parts d = by (nat_lt most (length (pins d))) refl (nat_lt most (length d.insts)) refl (nat_lt most (length d.nets)) refl
  where
    by : (a : Bool) → nat_lt most (length (pins d)) ≡ a → (b : Bool) → nat_lt most (length d.insts) ≡ b → (c : Bool) → nat_lt most (length d.nets) ≡ c
        → large d ≡ option_map_or Some (large_count d) (option_map large_net (least (nets_where (is_large_net d) d)))
    by true ea b eb c ec = rw ea refl
    by false ea true eb c ec = rw (ea, eb) refl
    by false ea false eb true ec = rw (ea, eb, ec) refl
    by false ea false eb false ec = rw (ea, eb, ec) refl

-- the checks of all nets give the fault of the nets
pub net_all : (d : Design) → net_fault_among None d ≡ net_fault d
net_all d =
    by (large_count d) ∙ ap (λ o. first_of_two (option_map TooLarge o) (option_map ManyDrivers (many_drivers d))) (sym (large_parts d))
  where
    by : (a : Option Large)
        → first_of_two (option_map TooLarge a)
        (first_of_two (option_map TooLarge (option_map large_net (least (nets_where (is_large_net d) d)))) (option_map ManyDrivers (many_drivers d)))
        ≡ first_of_two (option_map TooLarge (option_map_or Some a (option_map large_net (least (nets_where (is_large_net d) d))))) (option_map ManyDrivers (many_drivers d))
    by None = refl
    by (Some l) = refl

-- two checks, one after the other
pub first_of : (fault : Fault) (a b : Option Fault) → (fault ≡ Memory) ⊎ (a ≡ Some fault) → (fault ≡ Memory) ⊎ (first_of_two a b ≡ Some fault)
first_of fault a b (inl e) = inl e
first_of fault a b (inr e) = inr (ap (λ o. first_of_two o b) e)

pub second_of : (fault : Fault) (a b c : Option Fault) → a ≡ None → (fault ≡ Memory) ⊎ (b ≡ Some fault) → (fault ≡ Memory) ⊎ (first_of_two a (first_of_two b c) ≡ Some fault)
second_of fault a b c none (inl e) = inl e
second_of fault a b c none (inr e) = inr (ap (λ o. first_of_two o (first_of_two b c)) none ∙ ap (λ o. first_of_two o c) e)

pub last_of : (r : Result (Unit {0}) Fault) (a b c : Option Fault) → a ≡ None → b ≡ None → IsChecked r c → IsChecked r (first_of_two a (first_of_two b c))
last_of r a b c none also told =
    subst (λ o. IsChecked r o) (sym (ap (λ o. first_of_two o (first_of_two b c)) none ∙ ap (λ o. first_of_two o c) also)) told
