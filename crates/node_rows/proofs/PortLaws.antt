-- The first values of a port in the lists of constraints.

use Rattle.std.proofs.Common.{◌≡◌, ℕ, ◌+◌, ◌<◌, pos, Bool, true, false, ◌&&◌, ◌||◌, not, List, [], ◌∷◌, ◌++◌, length, get_or, take, Option, None, Some, refl, ap, sym, ◌∙◌, inl, inr}
use Rattle.std.specs.Prelude.{find, nat_eq, option_map, option_and_then}
use Rattle.std.specs.List.{list_any}
use Rattle.std.specs.Option.{option_or, option_map_or}
use Rattle.std.specs.Str.{bytes_eq}
use Rattle.std.proofs.lemmas.Bool.{cases_Bool, false≢true, and_parts, and_from, not-true}
use Rattle.std.proofs.lemmas.Slice.Eq.{bytes_eq-Decides}
use Rattle.std.proofs.lemmas.List.{take_more}
use Rattle.std.proofs.lemmas.List.Folds.{find-append}
use Rattle.timing_defs.specs.declared.kinds.Split.{Split}
use Rattle.timing_defs.specs.declared.kinds.Split.TheVariants.{Early, Late}
use Rattle.timing_defs.specs.declared.kinds.Tran.{Tran}
use Rattle.timing_defs.specs.declared.kinds.Tran.TheVariants.{Rise, Fall}
use Rattle.timing_defs.specs.declared.constraints.PortSlew.{PortSlew}
use Rattle.timing_defs.specs.declared.constraints.PortLoad.{PortLoad}
use Rattle.timing_defs.specs.declared.constraints.PortDelay.{PortDelay}
use Rattle.timing_defs.specs.declared.constraints.Constraints.{Constraints}
use Rattle.timing_defs.specs.Netlist.{same_split, same_tran}
use Rattle.timing_defs.specs.Wires.{port_load}
use Rattle.sta_units.specs.declared.units.Fs.{Fs}
use Rattle.sta_units.specs.declared.units.Af.{Af}
use Rattle.node_rows.specs.declared.ports.Start.{Start}
use Rattle.node_rows.specs.declared.ports.SlewTables.{SlewTables}
use Rattle.node_rows.specs.declared.ports.LoadTables.{LoadTables}
use Rattle.node_rows.specs.declared.ports.StartTables.{StartTables}
use Rattle.node_rows.specs.declared.ports.Ports.{Ports}
use Rattle.node_rows.specs.PortTables.{is_slew_at, slew_in, is_load_at, load_in, is_delay_at, start_of, start_in, same_start, are_apart, delay_from, slew_of_port, delay_of_port, slew_under, load_under, start_under, AreSlews, AreLoads, AreStarts, ArePorts}

-- the first that passes among one more
module _ {X V : Type 0} (p : X → Bool) (f : X → V) where
  mapped_or : (a b : Option X) → option_map f (option_or a b) ≡ option_or (option_map f a) (option_map f b)
  mapped_or None b = refl
  mapped_or (Some x) b = refl

  one_more : (xs : List X) (i : ℕ) (x : X) (old new : Option V) → i < length xs → x ≡ get_or xs i x
      → new ≡ option_or old (option_map f (find p (x ∷ []))) → old ≡ option_map f (find p (take i xs)) → new ≡ option_map f (find p (take (i + 1) xs))
  one_more xs i x old new h e put had =
      put ∙ ap (λ o. option_or o (option_map f (find p (x ∷ [])))) had
      ∙ sym (mapped_or (find p (take i xs)) (find p (x ∷ [])))
      ∙ ap (option_map f) (sym (find-append p (take i xs) (x ∷ [])))
      ∙ ap (λ ys. option_map f (find p ys)) (sym (take_more xs i x h ∙ ap (λ y. take i xs ++ y ∷ []) (sym e)))

pub more_slews : (split : Split) (tran : Tran) (xs : List PortSlew) (i : ℕ) (x : PortSlew) (q : List ℕ) (old new : Option Fs) → i < length xs → x ≡ get_or xs i x
    → new ≡ option_or old (slew_in (x ∷ []) split tran q) → old ≡ slew_in (take i xs) split tran q → new ≡ slew_in (take (i + 1) xs) split tran q
more_slews split tran xs i x q old new h e put had = one_more (is_slew_at split tran q) (λ s. s.slew) xs i x old new h e put had

pub more_loads : (split : Split) (xs : List PortLoad) (i : ℕ) (x : PortLoad) (q : List ℕ) (old new : Option Af) → i < length xs → x ≡ get_or xs i x
    → new ≡ option_or old (load_in (x ∷ []) split q) → old ≡ load_in (take i xs) split q → new ≡ load_in (take (i + 1) xs) split q
more_loads split xs i x q old new h e put had = one_more (is_load_at split q) (λ l. l.load) xs i x old new h e put had

pub more_starts : (split : Split) (tran : Tran) (xs : List PortDelay) (i : ℕ) (x : PortDelay) (q : List ℕ) (old new : Option Start) → i < length xs → x ≡ get_or xs i x
    → new ≡ option_or old (start_in (x ∷ []) split tran q) → old ≡ start_in (take i xs) split tran q → new ≡ start_in (take (i + 1) xs) split tran q
more_starts split tran xs i x q old new h e put had = one_more (is_delay_at split tran q) start_of xs i x old new h e put had

-- one delay for each port, split and transition
same_is : (a b : List ℕ) → bytes_eq a b ≡ true → a ≡ b
same_is a b = (bytes_eq-Decides a b).0

same_self : (a : List ℕ) → bytes_eq a a ≡ true
same_self a = (bytes_eq-Decides a a).1 refl

split_is : (a b : Split) → same_split a b ≡ true → a ≡ b
split_is Early Early e = refl
split_is Early Late e = absurd (false≢true e)
split_is Late Early e = absurd (false≢true e)
split_is Late Late e = refl

split_self : (a : Split) → same_split a a ≡ true
split_self Early = refl
split_self Late = refl

tran_is : (a b : Tran) → same_tran a b ≡ true → a ≡ b
tran_is Rise Rise e = refl
tran_is Rise Fall e = absurd (false≢true e)
tran_is Fall Rise e = absurd (false≢true e)
tran_is Fall Fall e = refl

tran_self : (a : Tran) → same_tran a a ≡ true
tran_self Rise = refl
tran_self Fall = refl

module _ (split : Split) (tran : Tran) (port : List ℕ) (clock : ℕ) where
  abbrev with_clock : PortDelay → Bool
  with_clock i = is_delay_at split tran port i && nat_eq i.clock clock

  -- two delays of one key are the same delay
  same_key : (x y : PortDelay) → is_delay_at split tran port x ≡ true → is_delay_at split tran port y ≡ true → same_start x y ≡ true
  same_key x y h k =
      let a = and_parts (bytes_eq x.port port && same_split x.split split) (same_tran x.tran tran) h in
      let b = and_parts (bytes_eq x.port port) (same_split x.split split) a.0 in
      let c = and_parts (bytes_eq y.port port && same_split y.split split) (same_tran y.tran tran) k in
      let d = and_parts (bytes_eq y.port port) (same_split y.split split) c.0 in
      let ports : x.port ≡ y.port = same_is x.port port b.0 ∙ sym (same_is y.port port d.0) in
      let splits : x.split ≡ y.split = split_is x.split split b.1 ∙ sym (split_is y.split split d.1) in
      let trans : x.tran ≡ y.tran = tran_is x.tran tran a.1 ∙ sym (tran_is y.tran tran c.1) in
      and_from (bytes_eq x.port y.port && same_split x.split y.split) (same_tran x.tran y.tran)
      (and_from (bytes_eq x.port y.port) (same_split x.split y.split)
      (ap (bytes_eq x.port) (sym ports) ∙ same_self x.port)
      (ap (same_split x.split) (sym splits) ∙ split_self x.split))
      (ap (same_tran x.tran) (sym trans) ∙ tran_self x.tran)

  no_more : (x : PortDelay) (xs : List PortDelay) → is_delay_at split tran port x ≡ true → list_any (same_start x) xs ≡ false → find with_clock xs ≡ None
  no_more x [] h none = refl
  no_more x (y ∷ ys) h none = elim (cases_Bool (is_delay_at split tran port y)) [
    | inl k ↦
        let same : same_start x y ≡ true = same_key x y h k in
        let bad : true ≡ false = rw same at none in
        absurd (false≢true (sym bad))
    | inr k ↦ rw k (no_more x ys h (rest (same_start x y) (list_any (same_start x) ys) none))
  ]
    where
      rest : (a b : Bool) → (a || b) ≡ false → b ≡ false
      rest true b h = absurd (false≢true (sym h))
      rest false b h = h

  one_delay : (xs : List PortDelay) → are_apart xs ≡ true
      → option_map (λ i. i.delay.0) (find with_clock xs) ≡ option_and_then (delay_from clock) (start_in xs split tran port)
  one_delay [] apart = refl
  one_delay (x ∷ xs) apart =
      let parts = and_parts (not (list_any (same_start x) xs)) (are_apart xs) apart in
      elim (cases_Bool (is_delay_at split tran port x)) [
        | inl h ↦ elim (cases_Bool (nat_eq x.clock clock)) [
          | inl k ↦ rw (h, k) refl
          | inr k ↦ rw (h, k) (ap (option_map (λ i. i.delay.0)) (no_more x xs h (not-true (list_any (same_start x) xs) parts.0)))
        ]
        | inr h ↦ rw h (one_delay xs parts.1)
      ]

  pub delay_is : (c : Constraints) → are_apart c.inputs ≡ true → delay_of_port c split tran port clock ≡ option_and_then (delay_from clock) (start_in c.inputs split tran port)
  delay_is c apart = one_delay c.inputs apart

-- what tables have for a port is what is written for it
slews_in : (slews : List PortSlew) (t : SlewTables) → AreSlews slews t → (split : Split) (tran : Tran) (port : List ℕ) → slew_under t split tran port ≡ slew_in slews split tran port
slews_in slews t are Early Rise port = are.early_rise port
slews_in slews t are Early Fall port = are.early_fall port
slews_in slews t are Late Rise port = are.late_rise port
slews_in slews t are Late Fall port = are.late_fall port

loads_in : (loads : List PortLoad) (t : LoadTables) → AreLoads loads t → (split : Split) (port : List ℕ) → load_under t split port ≡ load_in loads split port
loads_in loads t are Early port = are.early port
loads_in loads t are Late port = are.late port

starts_in : (inputs : List PortDelay) (t : StartTables) → AreStarts inputs t → (split : Split) (tran : Tran) (port : List ℕ) → start_under t split tran port ≡ start_in inputs split tran port
starts_in inputs t are Early Rise port = are.early_rise port
starts_in inputs t are Early Fall port = are.early_fall port
starts_in inputs t are Late Rise port = are.late_rise port
starts_in inputs t are Late Fall port = are.late_fall port

-- what the tables of ports give
module _ (c : Constraints) (p : Ports) (are : ArePorts c p) (split : Split) (tran : Tran) (port : List ℕ) where
  pub slew_told : (o : Option Fs) → o ≡ slew_under p.slews split tran port → option_map_or (λ s. s.0) o (pos 0) ≡ slew_of_port c split tran port
  slew_told o e =
      ap (λ w. option_map_or (λ (s : Fs). s.0) w (pos 0)) (e ∙ slews_in c.slews p.slews are.slews split tran port)
      ∙ mapped (find (is_slew_at split tran port) c.slews)
    where
      mapped : (w : Option PortSlew) → option_map_or (λ (s : Fs). s.0) (option_map (λ (s : PortSlew). s.slew) w) (pos 0) ≡ option_map_or (λ (s : PortSlew). s.slew.0) w (pos 0)
      mapped None = refl
      mapped (Some s) = refl

  pub load_told : (o : Option Af) → o ≡ load_under p.loads split port → option_map_or (λ l. l.0) o (pos 0) ≡ port_load c.loads split port
  load_told o e =
      ap (λ w. option_map_or (λ (l : Af). l.0) w (pos 0)) (e ∙ loads_in c.loads p.loads are.loads split port)
      ∙ mapped (find (is_load_at split port) c.loads)
    where
      mapped : (w : Option PortLoad) → option_map_or (λ (l : Af). l.0) (option_map (λ (l : PortLoad). l.load) w) (pos 0) ≡ option_map_or (λ (l : PortLoad). l.load.0) w (pos 0)
      mapped None = refl
      mapped (Some l) = refl

  pub start_told : (clock : ℕ) (o : Option Start) → are_apart c.inputs ≡ true → o ≡ start_under p.starts split tran port
      → option_and_then (delay_from clock) o ≡ delay_of_port c split tran port clock
  start_told clock o fit e =
      ap (option_and_then (delay_from clock)) (e ∙ starts_in c.inputs p.starts are.starts split tran port)
      ∙ sym (delay_is split tran port clock c fit)
