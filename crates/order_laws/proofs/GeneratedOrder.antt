-- The sessions of a generated run resize gates of different lanes, so its last design is that of its scripts in order.
use Rattle.std.proofs.Common.{◌≡◌, ℕ, zero, suc, ◌+◌, ◌*◌, ◌/◌, ◌<◌, ◌≤◌, true, false, nat_eq, List, [], ◌∷◌, length, decimal, Ok, refl, sym, ap, subst, ◌∙◌, inl, inr, arith, length-append}
use Rattle.std.specs.List.{AllByRecursion}
use Rattle.std.proofs.lemmas.Bool.{cases_Bool}
use Rattle.std.proofs.lemmas.Fmt.{decimal_digit}
use Rattle.timing_defs.specs.declared.design.Design.{Design}
use Rattle.timing_defs.specs.declared.edits.Eco.{Eco}
use Rattle.timing_defs.specs.declared.edits.Entry.{Entry}
use Rattle.timing_defs.specs.declared.scripts.Transcript.{Transcript}
use Rattle.timing_defs.specs.Edits.{edited}
use Rattle.timing_rules.specs.Sessions.{DesignAfter, AreLegal, IsWhole, ecos_of}
use Rattle.design_maker.specs.Draws.{drawn, drawn_on, chosen}
use Rattle.design_maker.specs.Insts.{gate_name, behind_lanes}
use Rattle.design_maker.specs.Sessions.{drawn_cell, commands_from, scripts_from, scripts_of}
use Rattle.order_laws.specs.Orders.{ecos_asked, scripts_ecos, edited_by_scripts}
use Rattle.order_laws.proofs.Folds.{Commute}
use Rattle.order_laws.proofs.Resizes.{resize_of, resizes_commute}
use Rattle.order_laws.proofs.Journals.{entry_step, entries_hold}
use Rattle.order_laws.proofs.Scripts.{accepted_hold, sessions_between, scripts_in_order}

-- an ECO of a session resizes a gate of the session's lane
record IsResize (session : ℕ) (eco : Eco) : Type 0 where
  lane : ℕ
  number : ℕ
  cell : List ℕ
  of_lane : session ≡ lane + 1
  low : lane < 4
  is : eco ≡ resize_of (gate_name lane number) cell

-- gates of different lanes have different names
second_of : List ℕ → ℕ
second_of (a ∷ b ∷ bs) = b
second_of bs = 0

lanes_apart : (l k n m : ℕ) → l < 4 → k < 4 → (l ≡ k → ⊥) → gate_name l n ≡ gate_name k m → ⊥
unfolding second_of
lanes_apart l k n m low_l low_k apart same =
    let dl : decimal l ≡ (48 + l) ∷ [] = decimal_digit l (omega (arith, low_l)) in
    let dk : decimal k ≡ (48 + k) ∷ [] = decimal_digit k (omega (arith, low_k)) in
    let plain : 103 ∷ (48 + l) ∷ 95 ∷ decimal n ≡ 103 ∷ (48 + k) ∷ 95 ∷ decimal m = rw (dl, dk) at same in
    let digits : 48 + l ≡ 48 + k = ap second_of plain in
    apart (omega (arith, digits))

sessions_commute : (a b : Entry) → IsResize a.session a.eco → IsResize b.session b.eco → (a.session ≡ b.session → ⊥) → Commute entry_step a b
sessions_commute a b p q apart x m end one two =
    let names : gate_name p.lane p.number ≡ gate_name q.lane q.number → ⊥ =
    lanes_apart p.lane q.lane p.number q.number p.low q.low (λ e. apart (omega (arith, p.of_lane, q.of_lane, e))) in
    let swap = resizes_commute (gate_name p.lane p.number) (gate_name q.lane q.number) p.cell q.cell names x m end
    (ap (edited x) (sym p.is) ∙ one) (ap (edited m) (sym q.is) ∙ two) in
    record { at = swap.at; first = ap (edited x) q.is ∙ swap.first; second = ap (edited swap.at) p.is ∙ swap.second }

-- the ECOs of a lane's script resize gates of the lane
commands_resize : (lane gates more x : ℕ) → lane < 4 → AllByRecursion (IsResize (lane + 1)) (ecos_asked (commands_from lane gates more x))
unfolding commands_from
commands_resize lane gates zero x low = tt
commands_resize lane gates (suc more) x low = (
  record { lane = lane; number = 1 + chosen (drawn x) gates; cell = drawn_cell (drawn x); of_lane = refl; low = low; is = refl },
  commands_resize lane gates more (drawn x) low,
)

commands_length : (lane gates more x : ℕ) → length (ecos_asked (commands_from lane gates more x)) ≡ more
unfolding commands_from
commands_length lane gates zero x = refl
commands_length lane gates (suc more) x = ap suc (commands_length lane gates more (drawn x))

scripts_length : (lane more gates edits x : ℕ) → length (scripts_ecos (scripts_from lane more gates edits x)) ≡ more * edits
unfolding scripts_from
scripts_length lane zero gates edits x = omega arith
scripts_length lane (suc more) gates edits x =
    length-append (ecos_asked (commands_from lane gates edits x)) (scripts_ecos (scripts_from (lane + 1) more gates edits (drawn_on edits x)))
    ∙ by (commands_length lane gates edits x) (scripts_length (lane + 1) more gates edits (drawn_on edits x))
  where
    by : {a b : ℕ} → a ≡ edits → b ≡ more * edits → a + b ≡ suc more * edits
    by p q = omega (arith, p, q)

scripts_count : (lane more gates edits x : ℕ) → length (scripts_from lane more gates edits x) ≡ more
unfolding scripts_from
scripts_count lane zero gates edits x = refl
scripts_count lane (suc more) gates edits x = ap suc (scripts_count (lane + 1) more gates edits (drawn_on edits x))

-- the ECOs of each session in the journal
ecos_resize : (d : Design) (journal : List Entry) (first lane more gates edits x : ℕ) (ts : List Transcript) → lane + more ≤ 4
    → AreLegal d journal first (lane + 1) (scripts_from lane more gates edits x) ts
    → (s : ℕ) → lane + 1 ≤ s → s < lane + 1 + more → AllByRecursion (IsResize s) (ecos_of s journal)
unfolding scripts_from
ecos_resize d journal first lane zero gates edits x ts few legal s low high = absurd (omega (arith, low, high))
ecos_resize d journal first lane (suc more) gates edits x [] few legal s low high = absurd legal
ecos_resize d journal first lane (suc more) gates edits x (t ∷ ts) few legal s low high = elim (cases_Bool (nat_eq s (lane + 1))) [
  | inl e ↦
      let here : AllByRecursion (IsResize (lane + 1)) (ecos_of (lane + 1) journal) =
      subst (AllByRecursion (IsResize (lane + 1))) (sym legal.1)
      (accepted_hold (IsResize (lane + 1)) (commands_from lane gates edits x) t.rows (commands_resize lane gates edits x (omega (arith, few)))) in
      subst (λ (k : ℕ). AllByRecursion (IsResize k) (ecos_of k journal)) (sym (same s (lane + 1) e)) here
  | inr e ↦ ecos_resize d journal first (lane + 1) more gates edits (drawn_on edits x) ts (omega (arith, few)) legal.2 s (above s e low) (omega (arith, high))
]
  where
    same : (m k : ℕ) → nat_eq m k ≡ true → m ≡ k
    same m k h = grind (arith, h)

    above : (m : ℕ) → nat_eq m (lane + 1) ≡ false → lane + 1 ≤ m → lane + 1 + 1 ≤ m
    above m h low = grind (arith, h)

-- Four scripts resize gates of their own lanes. Where all their ECOs were accepted, in any order between the sessions,
-- the last design is the design after the scripts, one behind the other.
pub generated_order : (first : ℕ) (d : Design) (start gates edits : ℕ) (journal : List Entry) (ts : List Transcript) (last : Design)
    → IsWhole d first (scripts_of start gates edits) journal ts → length journal ≡ edits → DesignAfter d journal (length journal) last
    → edited_by_scripts d (scripts_of start gates edits) ≡ Ok last
generated_order first d start gates edits journal ts last whole count after =
    let many : length (scripts_ecos (scripts_of start gates edits)) ≡ 4 * (edits / 4) =
    scripts_length 0 4 (gates / 4) (edits / 4) (behind_lanes 4 (gates / 4) start) in
    let four : length (scripts_of start gates edits) ≡ 4 =
    scripts_count 0 4 (gates / 4) (edits / 4) (behind_lanes 4 (gates / 4) start) in
    let between = sessions_between d journal first (scripts_of start gates edits) ts whole in
    let each = entries_hold IsResize 1 (length (scripts_of start gates edits)) journal
    (λ s low high. ecos_resize d journal first 0 4 (gates / 4) (edits / 4) (behind_lanes 4 (gates / 4) start) ts (omega arith) whole.0 s low (omega (arith, high, four)))
    between in
    scripts_in_order d journal first (scripts_of start gates edits) ts last (λ e. IsResize e.session e.eco) sessions_commute
    each whole (omega (arith, many, count)) after
