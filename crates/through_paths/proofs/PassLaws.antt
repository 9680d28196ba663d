-- The pins that a walk of a pin's cone passes, by stops at places, by numbers of pins and by names.

use Rattle.std.proofs.Common.{◌≡◌, ℕ, ◌+◌, ◌<◌, ◌==◌, Bool, true, false, inl, inr, if◌then◌else◌, List, [], ◌∷◌, ◌++◌, length, map, Option, Some, None, refl, sym, ap, subst, ◌∙◌}
use Rattle.std.specs.Prelude.{All, slice_get, slice_index, ◌||◌}
use Rattle.std.specs.Option.{option_map_or}
use Rattle.std.specs.Str.{bytes_eq}
use Rattle.std.proofs.lemmas.Bool.{cases_Bool, eq-eqb, eqb-true, or_cases, true≢false}
use Rattle.std.proofs.lemmas.List.{append_assoc}
use Rattle.std.proofs.lemmas.List.Elements.{All-head, All-tail}
use Rattle.timing_rules.specs.Through.{passes as path_passes}
use Rattle.timing_defs.proofs.Members.{some_is}
use Rattle.timing_defs.proofs.SameNames.{same_is, same_self}
use Rattle.netlist_store.specs.Numbering.{Stored, name_at, number_of, AreNumbers}
use Rattle.store_pins.proofs.PinLaws.{told_at}
use Rattle.pin_graph.specs.Nodes.{pin_under}
use Rattle.pin_graph.specs.Graphs.{Graphed}
use Rattle.worst_walks.specs.declared.cones.Walk.{Walk}
use Rattle.path_search.specs.declared.cones.PinCone.{PinCone}
use Rattle.path_search.specs.PinCones.{place_name}
use Rattle.path_search.specs.Ranks.{node_of, places_before}
use Rattle.path_search.specs.WalkPaths.{walk_names_of}
use Rattle.path_search.specs.WalkPlaces.{ArePlaces}
use Rattle.through_walks.specs.declared.stops.Stop.{Stop}
use Rattle.through_walks.specs.Through.{next_stop, passed, passes, stands_at}
use Rattle.through_paths.specs.Passing.{is_wanted, next_pass, pass_all, AreBegun, IsStop, AreStops}
use Rattle.through_paths.proofs.Greedy.{greedy, meets, all_by, alike_all, alike_length, AreAlike, Each}
use Rattle.through_paths.proofs.BegunLaws.{pass_append}

-- the same counts, as items met in order
pass_by : (nodes : List ℕ) (wanted : List (Option ℕ)) (s : ℕ) (ns : List ℕ) → pass_all nodes wanted s ns ≡ all_by (λ w n. is_wanted nodes n w) wanted s ns
pass_by nodes wanted s [] = refl
pass_by nodes wanted s (n ∷ ns) = pass_by nodes wanted (next_pass nodes wanted s n) ns

abbrev is_at : Stop → ℕ → Bool
is_at stop n = (stop.rise == n) || (stop.fall == n)

stop_same : (o : Option Stop) (n : ℕ) → stands_at o n ≡ option_map_or (λ (stop : Stop). is_at stop n) o false
stop_same None n = refl
stop_same (Some stop) n = refl

stop_by : (stops : List Stop) (s : ℕ) (ns : List ℕ) → passed stops s ns ≡ all_by is_at stops s ns
stop_by stops s [] = refl
stop_by stops s (n ∷ ns) =
    stop_by stops (next_stop stops s n) ns
    ∙ ap (λ (b : Bool). all_by is_at stops (if b then s + 1 else s) ns) (stop_same (slice_get stops s) n)

-- a stop stands where its pin is
stop_told : (nodes : List ℕ) (pin : Option ℕ) (stop : Stop) → IsStop nodes pin stop → (n : ℕ) → n < length nodes → is_at stop n ≡ is_wanted nodes n pin
stop_told nodes pin stop is n low = elim (cases_Bool (is_wanted nodes n pin)) [
  | inl here ↦ elim (is.at n low here) [
    | inl rise ↦ (let e : (stop.rise == n) ≡ true = eq-eqb stop.rise n rise in rw e (sym here))
    | inr fall ↦ (let e : (stop.fall == n) ≡ true = eq-eqb stop.fall n fall in rw e (or_true (stop.rise == n) ∙ sym here))
  ]
  | inr other ↦ elim (cases_Bool (is_at stop n)) [
    | inl stands ↦ absurd (true≢false (sym (wanted_there stands) ∙ other))
    | inr not ↦ not ∙ sym other
  ]
]
  where
    or_true : (b : Bool) → (b || true) ≡ true
    or_true true = refl
    or_true false = refl

    wanted_there : is_at stop n ≡ true → is_wanted nodes n pin ≡ true
    wanted_there e = elim (or_cases (stop.rise == n) (stop.fall == n) e) [
      | inl r ↦ (let same = eqb-true stop.rise n r in
          subst (λ (k : ℕ). is_wanted nodes k pin ≡ true) same (is.rise (subst (λ (k : ℕ). k < length nodes) (sym same) low)))
      | inr f ↦ (let same = eqb-true stop.fall n f in
          subst (λ (k : ℕ). is_wanted nodes k pin ≡ true) same (is.fall (subst (λ (k : ℕ). k < length nodes) (sym same) low)))
    ]

stops_alike : (nodes : List ℕ) (wanted : List (Option ℕ)) (stops : List Stop) → AreStops nodes wanted stops
    → AreAlike is_at (λ w n. is_wanted nodes n w) (λ n. n) (λ n. n < length nodes) stops wanted
stops_alike nodes [] [] a = tt
stops_alike nodes [] (stop ∷ stops) a = absurd a
stops_alike nodes (pin ∷ wanted) [] a = absurd a
stops_alike nodes (pin ∷ wanted) (stop ∷ stops) a = (stop_told nodes pin stop a.0, stops_alike nodes wanted stops a.1)

-- a place is of a wanted pin where its name is the pin's
wanted_by : (names : List (Option (List ℕ))) → AreNumbers names → (pin : List ℕ) (k : ℕ) (name : List ℕ) → name_at names k ≡ Some name
    → (o : Option ℕ) → number_of names pin ≡ o → option_map_or (λ (p : ℕ). k == p) o false ≡ bytes_eq pin name
wanted_by names is pin k name at None e = elim (cases_Bool (bytes_eq pin name)) [
  | inl same ↦
      (let there : None ≡ Some k = sym e ∙ ap (number_of names) (same_is pin name same) ∙ is.distinct k name at in absurd (cc))
  | inr other ↦ sym other
]
wanted_by names is pin k name at (Some p) e = elim (cases_Bool (bytes_eq pin name)) [
  | inl same ↦
      (let there : p ≡ k = some_is (sym e ∙ ap (number_of names) (same_is pin name same) ∙ is.distinct k name at) in
      eq-eqb k p (sym there) ∙ sym same)
  | inr other ↦ elim (cases_Bool (k == p)) [
    | inl here ↦
        (let told : Some pin ≡ Some name = sym (told_at names pin p e) ∙ ap (name_at names) (sym (eqb-true k p here)) ∙ at in
        let same : bytes_eq pin name ≡ true = ap (bytes_eq pin) (sym (some_is told)) ∙ same_self pin in
        absurd (true≢false (sym same ∙ other)))
    | inr not ↦ not ∙ sym other
  ]
]

abbrev IsNamedPlace : Stored → List ℕ → ℕ → Type 0
IsNamedPlace s nodes n = name_at s.pins (pin_under (node_of nodes n)) ≡ Some (place_name s nodes n).0

named_same : (nodes : List ℕ) (n : ℕ) (o : Option ℕ) → is_wanted nodes n o ≡ option_map_or (λ (p : ℕ). pin_under (node_of nodes n) == p) o false
named_same nodes n None = refl
named_same nodes n (Some p) = refl

names_alike : (s : Stored) → AreNumbers s.pins → (nodes : List ℕ) (pins : List (List ℕ))
    → AreAlike (λ w n. is_wanted nodes n w) meets (place_name s nodes) (IsNamedPlace s nodes) (map (number_of s.pins) pins) pins
names_alike s is nodes [] = tt
names_alike s is nodes (pin ∷ pins) = (
  λ n at.
      (named_same nodes n (number_of s.pins pin)
      ∙ wanted_by s.pins is pin (pin_under (node_of nodes n)) (place_name s nodes n).0 at (number_of s.pins pin) refl),
  names_alike s is nodes pins,
)

each_of : {X : Type 0} (P : X → Type 0) (xs : List X) → All P xs → Each P xs
each_of P [] all = tt
each_of P (x ∷ xs) all = (All-head P x xs all, each_of P xs (All-tail P x xs all))

same_list : (ns : List ℕ) → map (λ n. n) ns ≡ ns
same_list [] = refl
same_list (n ∷ ns) = ap (λ (ms : List ℕ). n ∷ ms) (same_list ns)

-- the pins of a path are passed exactly where its walk passes the stops
module _ (g : Graphed) (c : PinCone) (numbers : AreNumbers g.stored.pins) (pins : List (List ℕ)) (stops : List Stop) (begun : List ℕ)
    (are : AreStops c.nodes (map (number_of g.stored.pins) pins) stops) (told : AreBegun (places_before g c.nodes) c.cone c.nodes (map (number_of g.stored.pins) pins) begun) where
  abbrev wanted : List (Option ℕ)
  wanted = map (number_of g.stored.pins) pins

  stop_count : length stops ≡ length pins
  stop_count =
      alike_length is_at (λ w n. is_wanted c.nodes n w) (λ n. n) (λ n. n < length c.nodes) stops wanted (stops_alike c.nodes wanted stops are)
      ∙ alike_length (λ w n. is_wanted c.nodes n w) meets (place_name g.stored c.nodes) (IsNamedPlace g.stored c.nodes) wanted pins (names_alike g.stored numbers c.nodes pins)

  pub passes_told : (walk : Walk) → ArePlaces g c walk → passes stops begun walk.nodes ≡ path_passes pins (walk_names_of g c walk.nodes)
  passes_told walk p =
      let first : slice_index begun p.first ≡ pass_all c.nodes wanted 0 (places_before g c.nodes p.first ++ p.first ∷ []) = told.each p.first p.launched in
      let behind : passed stops (slice_index begun p.first) p.more ≡ pass_all c.nodes wanted (slice_index begun p.first) p.more =
      stop_by stops (slice_index begun p.first) p.more
      ∙ alike_all is_at (λ w n. is_wanted c.nodes n w) (λ n. n) (λ n. n < length c.nodes) stops wanted (stops_alike c.nodes wanted stops are) (slice_index begun p.first) p.more (each_of (λ n. n < length c.nodes) p.more p.low)
      ∙ ap (all_by (λ w n. is_wanted c.nodes n w) wanted (slice_index begun p.first)) (same_list p.more)
      ∙ sym (pass_by c.nodes wanted (slice_index begun p.first) p.more) in
      let whole : pass_all c.nodes wanted (slice_index begun p.first) p.more ≡ pass_all c.nodes wanted 0 (places_before g c.nodes p.first ++ p.first ∷ p.more) =
      ap (λ k. pass_all c.nodes wanted k p.more) first
      ∙ sym (pass_append c.nodes wanted 0 (places_before g c.nodes p.first ++ p.first ∷ []) p.more)
      ∙ ap (pass_all c.nodes wanted 0) (append_assoc (places_before g c.nodes p.first) (p.first ∷ []) p.more) in
      let named : pass_all c.nodes wanted 0 (places_before g c.nodes p.first ++ p.first ∷ p.more)
      ≡ all_by meets pins 0 (map (place_name g.stored c.nodes) (places_before g c.nodes p.first ++ p.first ∷ p.more)) =
      pass_by c.nodes wanted 0 (places_before g c.nodes p.first ++ p.first ∷ p.more)
      ∙ alike_all (λ w n. is_wanted c.nodes n w) meets (place_name g.stored c.nodes) (IsNamedPlace g.stored c.nodes) wanted pins (names_alike g.stored numbers c.nodes pins) 0
      (places_before g c.nodes p.first ++ p.first ∷ p.more) (each_of (IsNamedPlace g.stored c.nodes) (places_before g c.nodes p.first ++ p.first ∷ p.more) p.there) in
      let count = behind ∙ whole ∙ named in
      let many = stop_count in
      ap (passes stops begun) p.nodes
      ∙ (λ i. count i == many i)
      ∙ sym (greedy pins (map (place_name g.stored c.nodes) (places_before g c.nodes p.first ++ p.first ∷ p.more)))
      ∙ ap (path_passes pins) (sym p.names)
      ∙ ap (λ (ns : List ℕ). path_passes pins (walk_names_of g c ns)) (sym p.nodes)
