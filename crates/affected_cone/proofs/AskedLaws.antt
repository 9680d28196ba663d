-- Nodes and endpoints by names.

use Rattle.std.proofs.Common.{◌≡◌, ℕ, ◌<◌, true, false, not, List, length, Option, None, Some, refl, sym, ap, subst, ◌∙◌, arith}
use Rattle.std.specs.Prelude.{is_some, option_map, option_and_then, if◌then◌else◌}
use Rattle.std.specs.Option.{option_map_or}
use Rattle.std.proofs.lemmas.Bool.{false≢true}
use Rattle.timing_defs.specs.declared.kinds.Tran.{Tran}
use Rattle.timing_defs.specs.declared.kinds.Tran.TheVariants.{Rise, Fall}
use Rattle.timing_defs.specs.declared.kinds.Kind.{Kind}
use Rattle.timing_defs.specs.declared.faults.QueryFault.{QueryFault}
use Rattle.timing_defs.specs.declared.faults.QueryFault.TheVariants.{UnknownPin, NotEndpoint, NotClocked}
use Rattle.timing_defs.specs.Netlist.{Pin, pin_named}
use Rattle.timing_rules.specs.Tests.{is_endpoint, is_clocked}
use Rattle.timing_rules.specs.Reports.{unknown_pin, end_fault, endpoint_fault}
use Rattle.netlist_store.specs.Numbering.{Stored, name_at, number_of, is_number, pin_numbered, IsNumbered}
use Rattle.pin_graph.specs.Nodes.{node_at, node_bound, node_number, number_at, tran_under}
use Rattle.timing_defs.proofs.Members.{some_is}
use Rattle.store_pins.proofs.PinLaws.{there, told_at, below_bound}
use Rattle.pin_graph.proofs.NodeLaws.{under_number, tran_of_number}
use Rattle.affected_cone.specs.Asked.{IsRefusal, IsNode, IsAskedPin, IsAskedEnd}

none_some : {X : Type 0} (o : Option X) → is_some o ≡ false → o ≡ None
none_some None e = refl
none_some (Some x) e = absurd (false≢true (sym e))

pub refusal_of : (a b : Option QueryFault) (r : QueryFault) → a ≡ b → IsRefusal a r → IsRefusal b r
refusal_of a b r e h = subst (λ (o : Option QueryFault). IsRefusal o r) e h

module _ (s : Stored) (num : IsNumbered s) where
  -- a name with a number is that of a pin
  pub pin_at_name : (name : List ℕ) (n : ℕ) → number_of s.pins name ≡ Some n → (p : Pin) × (pin_named s.design name ≡ Some p) × (name_at s.pins n ≡ Some name)
  pin_at_name name n e =
      let p = there (pin_named s.design name) (sym (num.pin_names name) ∙ ap is_some e) in
      (p.0, p.1, told_at s.pins name n e)

  pub no_pin : (name : List ℕ) → number_of s.pins name ≡ None → pin_named s.design name ≡ None
  no_pin name e = none_some (pin_named s.design name) (sym (num.pin_names name) ∙ ap is_some e)

  -- a name with a number is no unknown pin, and one without is
  pub asked_pin : (name : List ℕ) (n : ℕ) → number_of s.pins name ≡ Some n → IsAskedPin s name n
  asked_pin name n e =
      let p = pin_at_name name n e in
      record { told = p.2; free = ap (λ o. if is_some o then None else Some (UnknownPin name)) p.1 }

  pub unasked_pin : (name : List ℕ) → None ≡ number_of s.pins name → Some (UnknownPin name) ≡ unknown_pin s.design name
  unasked_pin name e = sym (ap (λ o. if is_some o then None else Some (UnknownPin name)) (no_pin name (sym e)))

  pub named_node : (g : Stored) → g ≡ s → (name : List ℕ) (tran : Tran) (node : ℕ) → Some node ≡ number_at g name tran → IsNode s name tran node
  named_node g same name tran node e = by (number_of s.pins name) refl
    where
      told : Some node ≡ number_at s name tran
      told = e ∙ ap (λ (z : Stored). number_at z name tran) same

      low : (n : ℕ) (t : Tran) → n < length s.pins → node_number n t < node_bound s
      low n Rise h = omega arith
      low n Fall h = omega arith

      by : (o : Option ℕ) → number_of s.pins name ≡ o → IsNode s name tran node
      by None h = let f : Some node ≡ None = told ∙ ap (option_map (λ pin. node_number pin tran)) h in absurd (cc)
      by (Some n) h =
          let is : node ≡ node_number n tran = some_is (told ∙ ap (option_map (λ pin. node_number pin tran)) h) in
          let p = pin_at_name name n h in
          let numbered : pin_numbered s n ≡ Some p.0 = ap (option_and_then (pin_named s.design)) p.2 ∙ p.1 in
          record {
            pin = p.0;
            named = p.1;
            told =
                ap (node_at s) is
                ∙ ap (λ k. option_map (λ pin. record { pin = pin; tran = tran_under (node_number n tran) }) (pin_numbered s k)) (under_number n tran)
                ∙ ap (option_map (λ pin. record { pin = pin; tran = tran_under (node_number n tran) })) numbered
                ∙ ap (λ (t : Tran). Some (record { pin = p.0; tran = t })) (tran_of_number n tran);
            below = subst (λ (k : ℕ). k < node_bound s) (sym is) (low n tran (below_bound s.pins name n p.2));
          }

  pub no_node : (g : Stored) → g ≡ s → (name : List ℕ) (tran : Tran) → None ≡ number_at g name tran → Some (UnknownPin name) ≡ unknown_pin s.design name
  no_node g same name tran e = by (number_of s.pins name) refl
    where
      told : None ≡ number_at s name tran
      told = e ∙ ap (λ (z : Stored). number_at z name tran) same

      by : (o : Option ℕ) → number_of s.pins name ≡ o → Some (UnknownPin name) ≡ unknown_pin s.design name
      by None h = sym (ap (λ o. if is_some o then None else Some (UnknownPin name)) (no_pin name h))
      by (Some n) h = let f : None ≡ Some (node_number n tran) = told ∙ ap (option_map (λ pin. node_number pin tran)) h in absurd (cc)

  -- the fault of an endpoint's question
  pub no_end : (name : List ℕ) (kind : Kind) → None ≡ number_of s.pins name → Some (UnknownPin name) ≡ endpoint_fault s.design kind name
  no_end name kind e = sym (ap (λ o. option_map_or (λ pin. end_fault s.design kind pin name) o (Some (UnknownPin name))) (no_pin name (sym e)))

  module _ (name : List ℕ) (kind : Kind) (n : ℕ) (at : name_at s.pins n ≡ Some name) where
    found : number_of s.pins name ≡ Some n
    found = num.pins.distinct n name at

    pub is_there : is_number s.pins n ≡ true
    is_there = ap is_some at

    pin_there : (p : Pin) × (pin_named s.design name ≡ Some p) × (pin_numbered s n ≡ Some p)
    pin_there =
        let p = pin_at_name name n found in
        (p.0, p.1, ap (option_and_then (pin_named s.design)) at ∙ p.1)

    fault_is : (p : Pin) → pin_named s.design name ≡ Some p → endpoint_fault s.design kind name ≡ end_fault s.design kind p name
    fault_is p e = ap (λ o. option_map_or (λ pin. end_fault s.design kind pin name) o (Some (UnknownPin name))) e

    its : {T : Type 0} (f : Pin → T) (p : Pin) (r : T) → pin_numbered s n ≡ Some p → option_map f (pin_numbered s n) ≡ Some r → f p ≡ r
    its f p r e h = some_is (sym (ap (option_map f) e) ∙ h)

    pub not_end : option_map (is_endpoint s.design) (pin_numbered s n) ≡ Some false → Some (NotEndpoint name) ≡ endpoint_fault s.design kind name
    not_end h =
        let p = pin_there in
        let e = its (is_endpoint s.design) p.0 false p.2 h in
        sym (fault_is p.0 p.1
        ∙ ap (λ b. if not b then Some (NotEndpoint name) else (if is_clocked s.design kind p.0 then None else Some (NotClocked name))) e)

    pub not_clocked : option_map (is_endpoint s.design) (pin_numbered s n) ≡ Some true → option_map (is_clocked s.design kind) (pin_numbered s n) ≡ Some false
        → Some (NotClocked name) ≡ endpoint_fault s.design kind name
    not_clocked h k =
        let p = pin_there in
        let e = its (is_endpoint s.design) p.0 true p.2 h in
        let f = its (is_clocked s.design kind) p.0 false p.2 k in
        sym (fault_is p.0 p.1
        ∙ ap (λ b. if not b then Some (NotEndpoint name) else (if is_clocked s.design kind p.0 then None else Some (NotClocked name))) e
        ∙ ap (λ b. if b then None else Some (NotClocked name)) f)

    pub asked_end : option_map (is_endpoint s.design) (pin_numbered s n) ≡ Some true → option_map (is_clocked s.design kind) (pin_numbered s n) ≡ Some true
        → IsAskedEnd s kind name n
    asked_end h k =
        let p = pin_there in
        let e = its (is_endpoint s.design) p.0 true p.2 h in
        let f = its (is_clocked s.design kind) p.0 true p.2 k in
        record {
          told = at;
          end = ap (λ o. option_map_or (is_endpoint s.design) o false) p.2 ∙ e;
          free =
              fault_is p.0 p.1
              ∙ ap (λ b. if not b then Some (NotEndpoint name) else (if is_clocked s.design kind p.0 then None else Some (NotClocked name))) e
              ∙ ap (λ b. if b then None else Some (NotClocked name)) f;
        }
