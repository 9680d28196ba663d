-- The net of each pin, as a connection is written.

use Rattle.std.proofs.Common.{◌≡◌, ℕ, true, false, List, [], ◌∷◌, ◌++◌, map, Some, refl, sym, ap, ◌∙◌, inl, inr}
use Rattle.std.specs.Prelude.{if◌then◌else◌}
use Rattle.std.specs.List.{list_any}
use Rattle.std.specs.Str.{bytes_eq}
use Rattle.std.proofs.lemmas.Bool.{cases_Bool, false≢true, true≢false}
use Rattle.timing_defs.specs.declared.netlist.Conn.{Conn}
use Rattle.timing_defs.specs.Netlist.{conn_net}
use Rattle.timing_defs.specs.Edits.{is_conn_of, connected}
use Rattle.timing_defs.proofs.SameNames.{same_is, same_self}

module _ (pin : List ℕ) where
  apart : (c q : List ℕ) → bytes_eq c q ≡ true → bytes_eq q pin ≡ false → bytes_eq c pin ≡ false
  apart c q same other = ap (λ z. bytes_eq z pin) (same_is c q same) ∙ other

  module _ (net : List ℕ) where
    abbrev written : Conn → Conn
    written conn = if is_conn_of pin conn then record { pin = conn.pin; net = Some net } else conn

    written_other : (conns : List Conn) (q : List ℕ) → bytes_eq q pin ≡ false → conn_net (map written conns) q ≡ conn_net conns q
    written_other [] q other = refl
    written_other (c ∷ cs) q other = elim (cases_Bool (bytes_eq c.pin q)) [
      | inl e ↦ let f : bytes_eq c.pin pin ≡ false = apart c.pin q e other in rw f (rw e refl)
      | inr e ↦ elim (cases_Bool (bytes_eq c.pin pin)) [
        | inl f ↦ rw f (rw e (written_other cs q other))
        | inr f ↦ rw f (rw e (written_other cs q other))
      ]
    ]

    written_here : (conns : List Conn) → list_any (is_conn_of pin) conns ≡ true → conn_net (map written conns) pin ≡ Some net
    written_here [] any = absurd (false≢true any)
    written_here (c ∷ cs) any = elim (cases_Bool (bytes_eq c.pin pin)) [
      | inl e ↦ rw e (rw e refl)
      | inr e ↦ rw e (rw e (written_here cs (rw e at any)))
    ]

    pushed_other : (conns : List Conn) (q : List ℕ) → bytes_eq q pin ≡ false
        → conn_net (conns ++ record { pin = pin; net = Some net } ∷ []) q ≡ conn_net conns q
    pushed_other [] q other =
        let f : bytes_eq pin q ≡ false = elim (cases_Bool (bytes_eq pin q)) [
          | inl e ↦ absurd (true≢false (sym (same_self q) ∙ ap (bytes_eq q) (sym (same_is pin q e)) ∙ other))
          | inr e ↦ e
        ] in
        rw f refl
    pushed_other (c ∷ cs) q other = elim (cases_Bool (bytes_eq c.pin q)) [
      | inl e ↦ rw e refl
      | inr e ↦ rw e (pushed_other cs q other)
    ]

    pushed_here : (conns : List Conn) → list_any (is_conn_of pin) conns ≡ false
        → conn_net (conns ++ record { pin = pin; net = Some net } ∷ []) pin ≡ Some net
    pushed_here [] none = rw (same_self pin) refl
    pushed_here (c ∷ cs) none = elim (cases_Bool (bytes_eq c.pin pin)) [
      | inl e ↦ let f : true ≡ false = rw e at none in absurd (true≢false f)
      | inr e ↦ rw e (pushed_here cs (rw e at none))
    ]

    pub connected_net : (conns : List Conn) (q : List ℕ) → conn_net (connected pin net conns) q ≡ (if bytes_eq q pin then Some net else conn_net conns q)
    connected_net conns q = elim (cases_Bool (list_any (is_conn_of pin) conns)) [
      | inl any ↦ elim (cases_Bool (bytes_eq q pin)) [
        | inl e ↦ rw any (rw e (ap (conn_net (map written conns)) (same_is q pin e) ∙ written_here conns any))
        | inr e ↦ rw any (rw e (written_other conns q e))
      ]
      | inr none ↦ elim (cases_Bool (bytes_eq q pin)) [
        | inl e ↦
            rw none (rw e (ap (conn_net (conns ++ record { pin = pin; net = Some net } ∷ [])) (same_is q pin e) ∙ pushed_here conns none))
        | inr e ↦ rw none (rw e (pushed_other conns q e))
      ]
    ]
