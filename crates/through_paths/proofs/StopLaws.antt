-- The places of a pin's nodes are a stop.

use Rattle.std.proofs.Common.{◌≡◌, ℕ, ◌+◌, ◌<◌, true, inl, inr, ◌⊎◌, List, [], ◌∷◌, ◌++◌, length, map, take, get_or, Option, Some, None, refl, sym, ap, subst, ◌∙◌, arith}
use Rattle.std.specs.Prelude.{slice_index, nat_eq, option_map}
use Rattle.std.specs.List.{position}
use Rattle.std.proofs.lemmas.Bool.{eq-eqb, eqb-true, false≢true}
use Rattle.std.proofs.lemmas.List.{take_more}
use Rattle.std.proofs.lemmas.List.Quantifiers.{position-Some}
use Rattle.timing_defs.specs.declared.kinds.Tran.{Tran}
use Rattle.timing_defs.specs.declared.kinds.Tran.TheVariants.{Rise, Fall}
use Rattle.netlist_store.specs.Numbering.{Stored, number_of}
use Rattle.pin_graph.specs.Nodes.{node_number, number_at, pin_under, tran_under}
use Rattle.pin_graph.proofs.NodeLaws.{number_again, under_number}
use Rattle.path_cones.specs.Reaching.{is_among, AreOnce}
use Rattle.path_cones.proofs.ConeLaws.{among_at}
use Rattle.path_search.specs.Ranks.{node_of}
use Rattle.path_search.proofs.NumberNames.{node_of_place}
use Rattle.path_search.proofs.PinEnds.{place_is, place_none}
use Rattle.through_walks.specs.declared.stops.Stop.{Stop}
use Rattle.through_paths.specs.Passing.{is_wanted, place_or_past, IsStop, AreStops}

place_low : (nodes : List ℕ) (node place : ℕ) → position (λ m. nat_eq node m) nodes ≡ Some place → place < length nodes
place_low nodes node place e = (position-Some (λ n. nat_eq node n) nodes place 0 e).0

module _ (nodes : List ℕ) (once : AreOnce nodes) where
  -- a node of the list is at its place
  past_at : (node n : ℕ) → n < length nodes → slice_index nodes n ≡ node → (o : Option ℕ) → position (λ m. nat_eq node m) nodes ≡ o → place_or_past nodes (Some node) ≡ n
  past_at node n low at None e =
      absurd (place_none nodes node (subst (λ m. is_among nodes m ≡ true) at (among_at nodes n low)) (sym e))
  past_at node n low at (Some place) e = rw e (once place n (place_low nodes node place e) low (place_is nodes node place (sym e) ∙ sym at))

  -- a place below the length has the node
  past_there : (node : ℕ) → place_or_past nodes (Some node) < length nodes → (o : Option ℕ) → position (λ m. nat_eq node m) nodes ≡ o → slice_index nodes (place_or_past nodes (Some node)) ≡ node
  past_there node low None e = absurd (let past : place_or_past nodes (Some node) ≡ length nodes = rw e refl in omega arith)
  past_there node low (Some place) e = rw e (place_is nodes node place (sym e))

  under_place : (n pin : ℕ) (tran : Tran) → n < length nodes → slice_index nodes n ≡ node_number pin tran → is_wanted nodes n (Some pin) ≡ true
  under_place n pin tran low at =
      eq-eqb (pin_under (node_of nodes n)) pin (ap pin_under (node_of_place nodes n low ∙ at) ∙ under_number pin tran)

  abbrev place_for : Option ℕ → Tran → ℕ
  place_for pin tran = place_or_past nodes (option_map (λ p. node_number p tran) pin)

  there : (pin : Option ℕ) (tran : Tran) → place_for pin tran < length nodes → is_wanted nodes (place_for pin tran) pin ≡ true
  there None tran low = absurd (omega arith)
  there (Some pin) tran low =
      under_place (place_for (Some pin) tran) pin tran low (past_there (node_number pin tran) low (position (λ m. nat_eq (node_number pin tran) m) nodes) refl)

  stands : (pin : Option ℕ) (n : ℕ) → n < length nodes → is_wanted nodes n pin ≡ true → (place_for pin Rise ≡ n) ⊎ (place_for pin Fall ≡ n)
  stands None n low e = absurd (false≢true e)
  stands (Some pin) n low e = by (tran_under (slice_index nodes n)) refl
    where
      under : pin_under (slice_index nodes n) ≡ pin
      under = ap pin_under (sym (node_of_place nodes n low)) ∙ eqb-true (pin_under (node_of nodes n)) pin e

      number : (tran : Tran) → tran_under (slice_index nodes n) ≡ tran → slice_index nodes n ≡ node_number pin tran
      number tran t = sym (number_again (slice_index nodes n)) ∙ (λ i. node_number (under i) (t i))

      by : (tran : Tran) → tran_under (slice_index nodes n) ≡ tran → (place_for (Some pin) Rise ≡ n) ⊎ (place_for (Some pin) Fall ≡ n)
      by Rise t = inl (past_at (node_number pin Rise) n low (number Rise t) (position (λ m. nat_eq (node_number pin Rise) m) nodes) refl)
      by Fall t = inr (past_at (node_number pin Fall) n low (number Fall t) (position (λ m. nat_eq (node_number pin Fall) m) nodes) refl)

  pub stop_told : (pin : Option ℕ) (stop : Stop) → stop.rise ≡ place_for pin Rise → stop.fall ≡ place_for pin Fall → IsStop nodes pin stop
  stop_told pin stop rise fall = record {
    at = λ n low e. elim (stands pin n low e) [ inl r ↦ inl (rise ∙ r) | inr f ↦ inr (fall ∙ f) ];
    rise = λ low. (subst (λ (k : ℕ). is_wanted nodes k pin ≡ true) (sym rise) (there pin Rise (subst (λ (k : ℕ). k < length nodes) rise low)));
    fall = λ low. (subst (λ (k : ℕ). is_wanted nodes k pin ≡ true) (sym fall) (there pin Fall (subst (λ (k : ℕ). k < length nodes) fall low)));
  }

-- a stop of a pin by the numbers of its nodes
pub stop_is : (s : Stored) (nodes : List ℕ) → AreOnce nodes → (pin : List ℕ) (r f : Option ℕ) (stop : Stop) → r ≡ number_at s pin Rise → f ≡ number_at s pin Fall
    → stop.rise ≡ place_or_past nodes r → stop.fall ≡ place_or_past nodes f → IsStop nodes (number_of s.pins pin) stop
stop_is s nodes once pin r f stop at to rise fall =
    stop_told nodes once (number_of s.pins pin) stop (rise ∙ ap (place_or_past nodes) at) (fall ∙ ap (place_or_past nodes) to)

stops_append : (nodes : List ℕ) (wanted : List (Option ℕ)) (stops : List Stop) (pin : Option ℕ) (stop : Stop) → AreStops nodes wanted stops → IsStop nodes pin stop
    → AreStops nodes (wanted ++ pin ∷ []) (stops ++ stop ∷ [])
stops_append nodes [] [] pin stop a is = (is, tt)
stops_append nodes (w ∷ ws) (x ∷ xs) pin stop a is = (a.0, stops_append nodes ws xs pin stop a.1 is)
stops_append nodes [] (x ∷ xs) pin stop a is = absurd a
stops_append nodes (w ∷ ws) [] pin stop a is = absurd a

map_append : (s : Stored) (pins : List (List ℕ)) (pin : List ℕ) → map (number_of s.pins) (pins ++ pin ∷ []) ≡ map (number_of s.pins) pins ++ number_of s.pins pin ∷ []
map_append s [] pin = refl
map_append s (p ∷ ps) pin = ap (λ (xs : List (Option ℕ)). number_of s.pins p ∷ xs) (map_append s ps pin)

-- one stop more
pub stops_more : (s : Stored) (nodes : List ℕ) (pins : List (List ℕ)) (i : ℕ) (pin : List ℕ) (stops more : List Stop) (stop : Stop) → i < length pins → pin ≡ get_or pins i pin
    → AreStops nodes (map (number_of s.pins) (take i pins)) stops → IsStop nodes (number_of s.pins pin) stop → more ≡ stops ++ stop ∷ []
    → AreStops nodes (map (number_of s.pins) (take (i + 1) pins)) more
stops_more s nodes pins i pin stops more stop low here a is put =
    subst (λ (xs : List Stop). AreStops nodes (map (number_of s.pins) (take (i + 1) pins)) xs) (sym put)
    (subst (λ (ws : List (Option ℕ)). AreStops nodes ws (stops ++ stop ∷ []))
    (sym (ap (map (number_of s.pins)) (take_more pins i pin low) ∙ map_append s (take i pins) (get_or pins i pin)))
    (stops_append nodes (map (number_of s.pins) (take i pins)) stops (number_of s.pins (get_or pins i pin)) stop a
    (subst (λ (w : List ℕ). IsStop nodes (number_of s.pins w) stop) here is)))
