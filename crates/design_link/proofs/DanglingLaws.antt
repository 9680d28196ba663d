-- Names of constraints that stand for nothing.

use Rattle.std.proofs.Common.{◌≡◌, ℕ, ◌+◌, ◌<◌, Bool, true, false, not, List, [], ◌∷◌, ◌++◌, map, filter, length, get_or, take, Option, None, Some, refl, sym, ap, ◌∙◌, inl, inr, append_assoc}
use Rattle.std.specs.Prelude.{find, is_some, is_none, option_and_then, option_map, ◌||◌, if◌then◌else◌}
use Rattle.std.specs.List.{filter_map, flat_map}
use Rattle.std.specs.Option.{option_map_or}
use Rattle.std.specs.Str.{bytes_eq}
use Rattle.std.proofs.lemmas.Bool.{cases_Bool, false≢true, true≢false, or_left}
use Rattle.std.proofs.lemmas.List.{take_more, map-append, append-nil}
use Rattle.std.proofs.lemmas.List.Elements.{filter-append, filter_map-append}
use Rattle.timing_defs.specs.declared.kinds.Split.TheVariants.{Late}
use Rattle.timing_defs.specs.declared.kinds.Dir.{Dir}
use Rattle.timing_defs.specs.declared.constraints.Clock.{Clock}
use Rattle.timing_defs.specs.declared.constraints.Object.{Object}
use Rattle.timing_defs.specs.declared.constraints.Object.TheVariants.{Clock as clock_object, Port as port_object, Pin as pin_object, Cell as cell_object, Any}
use Rattle.timing_defs.specs.declared.netlist.Port.{Port}
use Rattle.timing_defs.specs.declared.design.Design.{Design}
use Rattle.timing_defs.specs.Netlist.{Pin, name_of, port_pin, cell_pin, cell_pins, cell_of, inst_pins, pin_named, same_dir}
use Rattle.timing_defs.specs.Names.{as_pin}
use Rattle.timing_rules.specs.Rules.{is_clock_name}
use Rattle.timing_rules.specs.Checks.{port_named, is_port, is_inst, is_pin, is_any, dangling_object}
use Rattle.netlist_store.specs.Numbering.{Stored, number_of, pin_numbered, IsNumbered}
use Rattle.design_link.specs.Dangling.{is_there, word_of}
use Rattle.timing_defs.proofs.Members.{some_is, in_flat_map_back, in_map_back, found_in}
use Rattle.store_pins.proofs.PinLaws.{told_at}

-- a pin of a name is first looked for among the ports
ports_first : (ports : List Port) (rest : List Pin) (name : List ℕ)
    → find (λ pin. bytes_eq (name_of pin) name) (map port_pin ports ++ rest)
    ≡ option_map_or (λ port. Some (port_pin port)) (find (λ port. bytes_eq port.name name) ports) (find (λ pin. bytes_eq (name_of pin) name) rest)
ports_first [] rest name = refl
ports_first (p ∷ ps) rest name = elim (cases_Bool (bytes_eq p.name name)) [
  | inl e ↦ rw e refl
  | inr e ↦ rw e (ports_first ps rest name)
]

-- a pin of an instance has an owner
owned : (d : Design) (p : Pin) (name : List ℕ) → find (λ pin. bytes_eq (name_of pin) name) (flat_map (inst_pins d) d.insts) ≡ Some p → is_some p.owner ≡ true
owned d p name e =
    let r = in_flat_map_back (inst_pins d) d.insts p (found_in (λ (pin : Pin). bytes_eq (name_of pin) name) (flat_map (inst_pins d) d.insts) p e) in
    let m = in_map_back (cell_pin r.item) (cell_pins (cell_of d Late r.item)) p r.inside in
    ap (λ (q : Pin). is_some q.owner) (sym m.same)

-- the port of a name, or what else goes by it
pub record IsPort (d : Design) (name : List ℕ) (port : Port) : Type 0 where
  pub named : port_named d name ≡ Some port
  pub pin : pin_named d name ≡ Some (port_pin port)

by_ports : (d : Design) (name : List ℕ) (o : Option Port) → port_named d name ≡ o
    → pin_named d name ≡ option_map_or (λ port. Some (port_pin port)) o (find (λ pin. bytes_eq (name_of pin) name) (flat_map (inst_pins d) d.insts))
by_ports d name o e =
    ports_first d.ports (flat_map (inst_pins d) d.insts) name
    ∙ ap (λ x. option_map_or (λ port. Some (port_pin port)) x (find (λ pin. bytes_eq (name_of pin) name) (flat_map (inst_pins d) d.insts))) e

module _ (s : Stored) (num : IsNumbered s) (name : List ℕ) where
  -- no pin has the name
  pub no_pin_no_port : number_of s.pins name ≡ None → option_map (λ port. port.dir) (port_named s.design name) ≡ None
  no_pin_no_port e = by (port_named s.design name) refl
    where
      by : (o : Option Port) → port_named s.design name ≡ o → option_map (λ port. port.dir) o ≡ None
      by None h = refl
      by (Some port) h =
          absurd (true≢false (ap is_some (sym (by_ports s.design name (Some port) h)) ∙ sym (num.pin_names name) ∙ ap is_some e))

  pin_is : (n : ℕ) → number_of s.pins name ≡ Some n → pin_numbered s n ≡ pin_named s.design name
  pin_is n e = ap (option_and_then (pin_named s.design)) (told_at s.pins name n e)

  -- a pin of an instance has it
  pub inst_no_port : (n : ℕ) → number_of s.pins name ≡ Some n → is_some (option_and_then (λ p. p.owner) (pin_numbered s n)) ≡ true
      → option_map (λ port. port.dir) (port_named s.design name) ≡ None
  inst_no_port n e some = by (port_named s.design name) refl
    where
      by : (o : Option Port) → port_named s.design name ≡ o → option_map (λ port. port.dir) o ≡ None
      by None h = refl
      by (Some port) h =
          let f : is_some (option_and_then (λ p. p.owner) (pin_numbered s n)) ≡ false =
          ap (λ o. is_some (option_and_then (λ p. p.owner) o)) (pin_is n e ∙ by_ports s.design name (Some port) h) in
          absurd (true≢false (sym some ∙ f))

  -- a port has it
  pub port_is : (n : ℕ) (dir : Dir) → number_of s.pins name ≡ Some n → is_some (option_and_then (λ p. p.owner) (pin_numbered s n)) ≡ false
      → option_map (λ p. p.dir) (pin_numbered s n) ≡ Some dir → option_map (λ port. port.dir) (port_named s.design name) ≡ Some dir
  port_is n dir e none its = by (port_named s.design name) refl
    where
      other : (o : Option Pin) → pin_named s.design name ≡ o → find (λ pin. bytes_eq (name_of pin) name) (flat_map (inst_pins s.design) s.design.insts) ≡ o → ⊥
      other None h g =
          let f : None ≡ Some dir = sym (ap (option_map (λ p. p.dir)) (pin_is n e ∙ h)) ∙ its in
          false≢true (ap is_some f)
      other (Some p) h g =
          let f : is_some p.owner ≡ false = sym (ap (λ o. is_some (option_and_then (λ q. q.owner) o)) (pin_is n e ∙ h)) ∙ none in
          false≢true (sym f ∙ owned s.design p name g)

      by : (o : Option Port) → port_named s.design name ≡ o → option_map (λ port. port.dir) o ≡ Some dir
      by None h =
          let whole = by_ports s.design name None h in
          absurd (other (find (λ pin. bytes_eq (name_of pin) name) (flat_map (inst_pins s.design) s.design.insts)) whole refl)
      by (Some port) h = sym (ap (option_map (λ p. p.dir)) (pin_is n e ∙ by_ports s.design name (Some port) h)) ∙ its

-- a port of a direction
pub port_told : (d : Design) (dir : Dir) (name : List ℕ) (its : Option Dir) → its ≡ option_map (λ port. port.dir) (port_named d name)
    → option_map_or (λ x. same_dir x dir) its false ≡ is_port d dir name
port_told d dir name its e = ap (λ o. option_map_or (λ x. same_dir x dir) o false) e ∙ by (port_named d name)
  where
    by : (o : Option Port) → option_map_or (λ x. same_dir x dir) (option_map (λ port. port.dir) o) false ≡ option_map_or (λ port. same_dir port.dir dir) o false
    by None = refl
    by (Some port) = refl

-- an object by whether it is there
object_is : (d : Design) (dir : Dir) (object : Object) → dangling_object d dir object ≡ (if is_there d dir object then None else Some (word_of object))
object_is d dir (clock_object name) = refl
object_is d dir (port_object name) = refl
object_is d dir (pin_object name) = refl
object_is d dir (cell_object name) = refl
object_is d dir (Any name) = refl

pub object_added : (d : Design) (dir : Dir) (object : Object) (there : Bool) (word : List ℕ) (names names2 : List (List ℕ)) → there ≡ is_there d dir object → word ≡ word_of object
    → names2 ≡ names ++ (if not there then word ∷ [] else []) → names2 ≡ names ++ filter_map (dangling_object d dir) (object ∷ [])
object_added d dir object there word names names2 is its put = put ∙ ap (λ xs. names ++ xs) (by there is)
  where
    by : (b : Bool) → b ≡ is_there d dir object → (if not b then word ∷ [] else []) ≡ filter_map (dangling_object d dir) (object ∷ [])
    by true e =
        let f : dangling_object d dir object ≡ None = object_is d dir object ∙ ap (λ t. if t then None else Some (word_of object)) (sym e) in
        rw f refl
    by false e =
        let f : dangling_object d dir object ≡ Some (word_of object) = object_is d dir object ∙ ap (λ t. if t then None else Some (word_of object)) (sym e) in
        rw f (ap (λ w. w ∷ []) its)

-- a name that fails a test
pub name_added : (test : List ℕ → Bool) (name : List ℕ) (wanting : Bool) (names names2 : List (List ℕ)) → wanting ≡ test name
    → names2 ≡ names ++ (if wanting then name ∷ [] else []) → names2 ≡ names ++ filter test (name ∷ [])
name_added test name wanting names names2 is put = put ∙ ap (λ xs. names ++ xs) (by wanting is)
  where
    by : (b : Bool) → b ≡ test name → (if b then name ∷ [] else []) ≡ filter test (name ∷ [])
    by true e = let f : test name ≡ true = sym e in rw f refl
    by false e = let f : test name ≡ false = sym e in rw f refl

-- one item more of a list that is gone through
module _ {X Y : Type 0} (f : List X → List Y) (both : (xs ys : List X) → f (xs ++ ys) ≡ f xs ++ f ys) where
  pub grown : (base ys ys2 : List Y) (xs : List X) (i : ℕ) (x : X) → i < length xs → x ≡ get_or xs i x → ys ≡ base ++ f (take i xs) → ys2 ≡ ys ++ f (x ∷ [])
      → ys2 ≡ base ++ f (take (i + 1) xs)
  grown base ys ys2 xs i x low here had put =
      put ∙ ap (λ zs. zs ++ f (x ∷ [])) had ∙ append_assoc base (f (take i xs)) (f (x ∷ [])) ∙ ap (λ zs. base ++ zs) (sym (both (take i xs) (x ∷ [])))
      ∙ ap (λ zs. base ++ f zs) (sym (take_more xs i x low ∙ ap (λ z. take i xs ++ z ∷ []) (sym here)))

pub mapped_filter : {X : Type 0} (test : List ℕ → Bool) (name : X → List ℕ) (xs ys : List X) → filter test (map name (xs ++ ys)) ≡ filter test (map name xs) ++ filter test (map name ys)
mapped_filter test name xs ys = ap (filter test) (map-append name xs ys) ∙ filter-append test (map name xs) (map name ys)

pub some_filter : {X : Type 0} (test : List ℕ → Bool) (name : X → Option (List ℕ)) (xs ys : List X)
    → filter test (filter_map name (xs ++ ys)) ≡ filter test (filter_map name xs) ++ filter test (filter_map name ys)
some_filter test name xs ys = ap (filter test) (filter_map-append name xs ys) ∙ filter-append test (filter_map name xs) (filter_map name ys)

pub five_parts : {X : Type 0} (n0 n1 n2 n3 n4 n5 a b c d e : List X) → n0 ≡ [] → n1 ≡ n0 ++ a → n2 ≡ n1 ++ b → n3 ≡ n2 ++ c → n4 ≡ n3 ++ d → n5 ≡ n4 ++ e
    → n5 ≡ a ++ b ++ c ++ d ++ e
five_parts n0 n1 n2 n3 n4 n5 a b c d e h0 h1 h2 h3 h4 h5 =
    h5 ∙ ap (λ xs. xs ++ e) (h4 ∙ ap (λ xs. xs ++ d) (h3 ∙ ap (λ xs. xs ++ c) (h2 ∙ ap (λ xs. xs ++ b) (h1 ∙ ap (λ xs. xs ++ a) h0))))

-- a word of no written kind
pub any_clock : (d : Design) (dir : Dir) (name : List ℕ) → is_clock_name d.constraints.clocks name ≡ true → true ≡ is_any d dir name
any_clock d dir name e = sym (or_left (is_clock_name d.constraints.clocks name) _ e)

pub any_port : (d : Design) (dir its : Dir) (name : List ℕ) → is_clock_name d.constraints.clocks name ≡ false → Some its ≡ option_map (λ port. port.dir) (port_named d name)
    → same_dir its dir ≡ is_any d dir name
any_port d dir its name e f = by (port_named d name) f ∙ sym (ap (λ b. b || option_map_or (λ port. same_dir port.dir dir) (port_named d name) (is_pin d (as_pin name) || is_inst d name)) e)
  where
    by : (o : Option Port) → Some its ≡ option_map (λ port. port.dir) o → same_dir its dir ≡ option_map_or (λ port. same_dir port.dir dir) o (is_pin d (as_pin name) || is_inst d name)
    by None g = absurd (true≢false (ap is_some g))
    by (Some port) g = ap (λ x. same_dir x dir) (some_is g)

pub any_other : (d : Design) (dir : Dir) (name : List ℕ) → is_clock_name d.constraints.clocks name ≡ false → None ≡ option_map (λ port. port.dir) (port_named d name)
    → (is_pin d (as_pin name) || is_inst d name) ≡ is_any d dir name
any_other d dir name e f = by (port_named d name) f ∙ sym (ap (λ b. b || option_map_or (λ port. same_dir port.dir dir) (port_named d name) (is_pin d (as_pin name) || is_inst d name)) e)
  where
    by : (o : Option Port) → None ≡ option_map (λ port. port.dir) o
        → (is_pin d (as_pin name) || is_inst d name) ≡ option_map_or (λ port. same_dir port.dir dir) o (is_pin d (as_pin name) || is_inst d name)
    by None g = refl
    by (Some port) g = absurd (true≢false (ap is_some (sym g)))

-- the port of a clock
pub clock_added : (test : List ℕ → Bool) (clock : Clock) (port : List ℕ) (names names2 : List (List ℕ)) → clock.port ≡ Some port
    → names2 ≡ names ++ filter test (port ∷ []) → names2 ≡ names ++ filter test (filter_map (λ (c : Clock). c.port) (clock ∷ []))
clock_added test clock port names names2 e put = put ∙ ap (λ xs. names ++ filter test xs) (sym one)
  where
    one : filter_map (λ (c : Clock). c.port) (clock ∷ []) ≡ port ∷ []
    one = rw e refl

pub no_clock_port : (test : List ℕ → Bool) (clock : Clock) (names : List (List ℕ)) → clock.port ≡ None
    → names ≡ names ++ filter test (filter_map (λ (c : Clock). c.port) (clock ∷ []))
no_clock_port test clock names e = sym (append-nil names) ∙ ap (λ xs. names ++ filter test xs) (sym none)
  where
    none : filter_map (λ (c : Clock). c.port) (clock ∷ []) ≡ []
    none = rw e refl

-- an exception's two lists
pub two_lists : {X : Type 0} (n0 n1 n2 a b : List X) → n1 ≡ n0 ++ a → n2 ≡ n1 ++ b → n2 ≡ n0 ++ (a ++ b)
two_lists n0 n1 n2 a b e f = f ∙ ap (λ xs. xs ++ b) e ∙ append_assoc n0 a b

pub is_unnamed : (o : Option Port) (b : Bool) → is_some (option_map (λ (p : Port). p.dir) o) ≡ not b → b ≡ is_none o
is_unnamed None true e = refl
is_unnamed None false e = absurd (false≢true e)
is_unnamed (Some p) true e = absurd (true≢false e)
is_unnamed (Some p) false e = refl
