-- The words of generated netlists.
use Rattle.std.proofs.Common.{◌≡◌, ℕ, zero, suc, ◌+◌, ◌*◌, ◌/◌, ◌%◌, ◌^◌, ◌<◌, ◌≤◌, true, false, List, [], ◌∷◌, ◌++◌, length, min, refl, arith, rules}
use Rattle.std.specs.Prelude.{codes, decimal, ◌==◌}
use Rattle.std.specs.Char.{is_ascii_digit}
use Rattle.std.specs.List.{list_all}
use Rattle.std.proofs.lemmas.Nat.{mod_below}
use Rattle.std.proofs.lemmas.Bool.{and_parts, and_from, cond_both}
use Rattle.std.proofs.lemmas.Str.Parse.{IsNumeralModel, numerals_by_fold}
use Rattle.std.proofs.lemmas.Fmt.{digits_decimal, decimal_digit}
use Rattle.sta_units.specs.Decimal.{number_on}
use Rattle.timing_defs.specs.Names.{is_graphic}
use Rattle.timing_defs.specs.declared.netlist.Inst.{Inst}
use Rattle.sta_text.specs.Bytes.{is_identifier_byte}
use Rattle.sta_text.specs.Pieces.{verilog_piece}
use Rattle.verilog_netlist.specs.Lexicon.{is_identifier, is_left_out_item, spelled}
use Rattle.design_maker.specs.Draws.{drawn, drawn_on, chosen}
use Rattle.design_maker.specs.Insts.{name_of, gate_name, net_name, joined, first_register, block_net, gate, last_register, gates_from, registers_from, blocks_of, lane_of, lanes_from}
use Rattle.design_laws.specs.Netlists.{IsWord, IsNet, IsCell, IsConn, IsInst, AreInsts, Lone, pins_of, PinsLone, conn_count}
use Rattle.design_laws.proofs.VerilogWords.{Begins, word_cut}

numeral : IsNumeralModel (λ ds. list_all is_ascii_digit ds ≡ true) (number_on 0)
numeral = numerals_by_fold _ (search rules) number_on (search rules)

-- digits are bytes of a word, and graphic
digits_pass : (ds : List ℕ) → list_all is_ascii_digit ds ≡ true → (list_all is_identifier_byte ds ≡ true) × (list_all is_graphic ds ≡ true)
digits_pass [] h = (refl, refl)
digits_pass (d ∷ ds) h =
    let parts = and_parts (is_ascii_digit d) (list_all is_ascii_digit ds) h in
    let more = digits_pass ds parts.1 in
    let one : is_identifier_byte d ≡ true = grind (arith, parts.0) in
    let two : is_graphic d ≡ true = grind (arith, parts.0) in
    (and_from (is_identifier_byte d) (list_all is_identifier_byte ds) one more.0, and_from (is_graphic d) (list_all is_graphic ds) two more.1)

pub decimal_pass : (n : ℕ) → n < 2 ^ 64 → (list_all is_identifier_byte (decimal n) ≡ true) × (list_all is_graphic (decimal n) ≡ true)
decimal_pass n small = digits_pass (decimal n) (digits_decimal numeral n small)

-- a word by its first byte and its others
pub word_by : (c : ℕ) (cs : List ℕ) → Begins c → list_all is_identifier_byte cs ≡ true → is_identifier (c ∷ cs) ≡ true → spelled (c ∷ cs) ≡ c ∷ cs
    → IsWord (c ∷ cs)
word_by c cs begin bytes identifier same = record { cut = word_cut c cs begin bytes; identifier = identifier; same = same }

pub by_lane : (P : ℕ → Type 0) → P 0 → P 1 → P 2 → P 3 → (lane : ℕ) → lane < 4 → P lane
by_lane P p0 p1 p2 p3 zero low = p0
by_lane P p0 p1 p2 p3 (suc zero) low = p1
by_lane P p0 p1 p2 p3 (suc (suc zero)) low = p2
by_lane P p0 p1 p2 p3 (suc (suc (suc zero))) low = p3
by_lane P p0 p1 p2 p3 (suc (suc (suc (suc n)))) low = absurd (omega (arith, low))

none_zero : (n : ℕ) → (suc n == 0) ≡ false
none_zero n = grind arith

-- names of nets, gates and registers
net_in : (digit : ℕ) (ds : List ℕ) → list_all is_identifier_byte (digit ∷ 95 ∷ ds) ≡ true → is_identifier (110 ∷ digit ∷ 95 ∷ ds) ≡ true → IsNet (110 ∷ digit ∷ 95 ∷ ds)
unfolding verilog_piece
net_in digit ds bytes identifier =
    record {
      word = word_by 110 (digit ∷ 95 ∷ ds) (λ context bs. refl) bytes identifier refl;
      no_star = λ more. refl;
      no_end = refl;
      no_constant = refl;
      no_brace = refl;
    }

pub net_word : (lane : ℕ) → lane < 4 → (n : ℕ) → n < 2 ^ 64 → IsNet (net_name lane n)
unfolding is_identifier is_left_out_item
net_word lane low n small =
    let pass = decimal_pass n small in
    rw (decimal_digit lane (omega (arith, low)))
    (by_lane (λ k. IsNet (110 ∷ (48 + k) ∷ 95 ∷ decimal n))
    (net_in 48 (decimal n) pass.0 (rw (pass.1, none_zero (suc (suc (length (decimal n))))) refl)) (net_in 49 (decimal n) pass.0 (rw (pass.1, none_zero (suc (suc (length (decimal n))))) refl))
    (net_in 50 (decimal n) pass.0 (rw (pass.1, none_zero (suc (suc (length (decimal n))))) refl)) (net_in 51 (decimal n) pass.0 (rw (pass.1, none_zero (suc (suc (length (decimal n))))) refl)) lane low)

pub gate_word : (lane : ℕ) → lane < 4 → (n : ℕ) → n < 2 ^ 64 → IsWord (gate_name lane n)
unfolding is_identifier is_left_out_item verilog_piece
gate_word lane low n small =
    let pass = decimal_pass n small in
    rw (decimal_digit lane (omega (arith, low)))
    (by_lane (λ k. IsWord (103 ∷ (48 + k) ∷ 95 ∷ decimal n))
    (word_by 103 (48 ∷ 95 ∷ decimal n) (λ context bs. refl) pass.0 (rw (pass.1, none_zero (suc (suc (length (decimal n))))) refl) refl)
    (word_by 103 (49 ∷ 95 ∷ decimal n) (λ context bs. refl) pass.0 (rw (pass.1, none_zero (suc (suc (length (decimal n))))) refl) refl)
    (word_by 103 (50 ∷ 95 ∷ decimal n) (λ context bs. refl) pass.0 (rw (pass.1, none_zero (suc (suc (length (decimal n))))) refl) refl)
    (word_by 103 (51 ∷ 95 ∷ decimal n) (λ context bs. refl) pass.0 (rw (pass.1, none_zero (suc (suc (length (decimal n))))) refl) refl) lane low)

last_word : (lane : ℕ) → lane < 4 → (n : ℕ) → n < 2 ^ 64 → IsWord (name_of 101 lane n)
unfolding is_identifier is_left_out_item verilog_piece
last_word lane low n small =
    let pass = decimal_pass n small in
    rw (decimal_digit lane (omega (arith, low)))
    (by_lane (λ k. IsWord (101 ∷ (48 + k) ∷ 95 ∷ decimal n))
    (word_by 101 (48 ∷ 95 ∷ decimal n) (λ context bs. refl) pass.0 (rw (pass.1, none_zero (suc (suc (length (decimal n))))) refl) refl)
    (word_by 101 (49 ∷ 95 ∷ decimal n) (λ context bs. refl) pass.0 (rw (pass.1, none_zero (suc (suc (length (decimal n))))) refl) refl)
    (word_by 101 (50 ∷ 95 ∷ decimal n) (λ context bs. refl) pass.0 (rw (pass.1, none_zero (suc (suc (length (decimal n))))) refl) refl)
    (word_by 101 (51 ∷ 95 ∷ decimal n) (λ context bs. refl) pass.0 (rw (pass.1, none_zero (suc (suc (length (decimal n))))) refl) refl) lane low)

first_word : (lane : ℕ) → lane < 4 → IsWord (102 ∷ decimal lane)
unfolding is_identifier is_left_out_item verilog_piece
first_word lane low =
    rw (decimal_digit lane (omega (arith, low)))
    (by_lane (λ k. IsWord (102 ∷ (48 + k) ∷ []))
    (word_by 102 (48 ∷ []) (λ context bs. refl) refl refl refl) (word_by 102 (49 ∷ []) (λ context bs. refl) refl refl refl)
    (word_by 102 (50 ∷ []) (λ context bs. refl) refl refl refl) (word_by 102 (51 ∷ []) (λ context bs. refl) refl refl refl) lane low)

-- the words that stand for themselves
d_net : IsNet (codes "d")
unfolding is_identifier is_left_out_item verilog_piece
d_net =
    record { word = word_by 100 [] (λ context bs. refl) refl refl refl; no_star = λ more. refl; no_end = refl; no_constant = refl; no_brace = refl }

clk_net : IsNet (codes "clk")
unfolding is_identifier is_left_out_item verilog_piece
clk_net =
    record {
      word = word_by 99 (108 ∷ 107 ∷ []) (λ context bs. refl) refl refl refl;
      no_star = λ more. refl;
      no_end = refl;
      no_constant = refl;
      no_brace = refl;
    }

d_pin : IsWord (codes "D")
unfolding is_identifier is_left_out_item verilog_piece
d_pin = word_by 68 [] (λ context bs. refl) refl refl refl

ck_pin : IsWord (codes "CK")
unfolding is_identifier is_left_out_item verilog_piece
ck_pin = word_by 67 (75 ∷ []) (λ context bs. refl) refl refl refl

q_pin : IsWord (codes "Q")
unfolding is_identifier is_left_out_item verilog_piece
q_pin = word_by 81 [] (λ context bs. refl) refl refl refl

a_pin : IsWord (codes "A")
unfolding is_identifier is_left_out_item verilog_piece
a_pin = word_by 65 [] (λ context bs. refl) refl refl refl

b_pin : IsWord (codes "B")
unfolding is_identifier is_left_out_item verilog_piece
b_pin = word_by 66 [] (λ context bs. refl) refl refl refl

z_pin : IsWord (codes "Z")
unfolding is_identifier is_left_out_item verilog_piece
z_pin = word_by 90 [] (λ context bs. refl) refl refl refl

register_cell : IsCell (codes "DFF")
unfolding is_identifier is_left_out_item verilog_piece
register_cell =
    record {
      word = word_by 68 (70 ∷ 70 ∷ []) (λ context bs. refl) refl refl refl;
      no_input = refl;
      no_output = refl;
      no_wire = refl;
      no_end = refl;
      no_item = refl;
    }

gate_cell : IsCell (codes "AND2_X1")
unfolding is_identifier is_left_out_item verilog_piece
gate_cell =
    record {
      word = word_by 65 (78 ∷ 68 ∷ 50 ∷ 95 ∷ 88 ∷ 49 ∷ []) (λ context bs. refl) refl refl refl;
      no_input = refl;
      no_output = refl;
      no_wire = refl;
      no_end = refl;
      no_item = refl;
    }

conn_by : (pin net : List ℕ) → IsWord pin → IsNet net → IsConn (joined pin net)
conn_by pin net p n = record { pin = p; net = n; there = refl }

-- an instance of words, with pins of which none stands twice, and at most three
pub record IsFine (i : Inst) : Type 0 where
  pub inst : IsInst i
  pub lone : Lone [] (pins_of i.conns)
  pub few : length i.conns ≤ 3

first_fine : (lane : ℕ) → lane < 4 → IsFine (first_register lane)
first_fine lane low =
    record {
      inst =
          record {
            cell = register_cell;
            name = first_word lane low;
            conns = (
              conn_by (codes "D") (codes "d") d_pin d_net,
              (
                conn_by (codes "CK") (codes "clk") ck_pin clk_net,
                (conn_by (codes "Q") (net_name lane 0) q_pin (net_word lane low 0 (omega arith)), tt),
              ),
            );
          };
      lone = (refl, (refl, (refl, tt)));
      few = omega arith;
    }

net_low : (block at : ℕ) → block < 2 ^ 40 → at < 64 → block_net block at < 2 ^ 64
net_low block at b a = cond_both (at == 0) 0 (32 * block + at) (λ n. n < 2 ^ 64) (λ _. omega arith) (λ _. omega (arith, a, b))

gate_fine : (lane before x : ℕ) → lane < 4 → before < 2 ^ 40 → IsFine (gate lane before x)
gate_fine lane before x low few =
    let place : before % 32 < 32 = mod_below before 32 (omega arith) in
    let drawn_place : chosen x (before % 32 + 1) < before % 32 + 1 = mod_below (x / 2 ^ 33) (before % 32 + 1) (omega arith) in
    let block : before / 32 < 2 ^ 40 = omega (arith, few) in
    let a : block_net (before / 32) (before % 32) < 2 ^ 64 = net_low (before / 32) (before % 32) block (omega (arith, place)) in
    let b : block_net (before / 32) (chosen x (before % 32 + 1)) < 2 ^ 64 = net_low (before / 32) (chosen x (before % 32 + 1)) block (omega (arith, place, drawn_place)) in
    let z : before + 1 < 2 ^ 64 = omega (arith, few) in
    record {
      inst =
          record {
            cell = gate_cell;
            name = gate_word lane low (before + 1) z;
            conns = (
              conn_by (codes "A") (net_name lane (block_net (before / 32) (before % 32))) a_pin (net_word lane low (block_net (before / 32) (before % 32)) a),
              (
                conn_by (codes "B") (net_name lane (block_net (before / 32) (chosen x (before % 32 + 1)))) b_pin (net_word lane low (block_net (before / 32) (chosen x (before % 32 + 1))) b),
                (conn_by (codes "Z") (net_name lane (before + 1)) z_pin (net_word lane low (before + 1) z), tt),
              ),
            );
          };
      lone = (refl, (refl, (refl, tt)));
      few = omega arith;
    }

last_fine : (lane gates block : ℕ) → lane < 4 → gates < 2 ^ 40 → block < 2 ^ 40 → IsFine (last_register lane gates block)
last_fine lane gates block low few b =
    let net : min (32 * block + 32) gates < 2 ^ 64 = omega (arith, few, b) in
    record {
      inst =
          record {
            cell = register_cell;
            name = last_word lane low block (omega (arith, b));
            conns = (
              conn_by (codes "D") (net_name lane (min (32 * block + 32) gates)) d_pin (net_word lane low (min (32 * block + 32) gates) net),
              (conn_by (codes "CK") (codes "clk") ck_pin clk_net, tt),
            );
          };
      lone = (refl, (refl, tt));
      few = omega arith;
    }

abbrev pub AreFine : List Inst → Type 0
AreFine [] = Unit {0}
AreFine (i ∷ is) = IsFine i × AreFine is

fine_joined : (is js : List Inst) → AreFine is → AreFine js → AreFine (is ++ js)
fine_joined [] js a b = b
fine_joined (i ∷ is) js a b = (a.0, fine_joined is js a.1 b)

gates_fine : (lane before more x : ℕ) → lane < 4 → before + more < 2 ^ 40 → AreFine (gates_from lane before more x)
unfolding gates_from
gates_fine lane before zero x low few = tt
gates_fine lane before (suc more) x low few =
    (gate_fine lane before (drawn x) low (omega (arith, few)), gates_fine lane (before + 1) more (drawn x) low (omega (arith, few)))

registers_fine : (lane gates block more : ℕ) → lane < 4 → gates < 2 ^ 40 → block + more < 2 ^ 40 → AreFine (registers_from lane gates block more)
unfolding registers_from
registers_fine lane gates block zero low few b = tt
registers_fine lane gates block (suc more) low few b =
    (last_fine lane gates block low few (omega (arith, b)), registers_fine lane gates (block + 1) more low few (omega (arith, b)))

lane_fine : (lane gates x : ℕ) → lane < 4 → gates ≤ 10000 → AreFine (lane_of lane gates x)
lane_fine lane gates x low few = (
  first_fine lane low,
  fine_joined (gates_from lane 0 gates x) (registers_from lane gates 0 (blocks_of gates))
      (gates_fine lane 0 gates x low (omega (arith, few))) (registers_fine lane gates 0 (blocks_of gates) low (omega (arith, few)) (omega (arith, few))),
)

pub lanes_fine : (lane more gates x : ℕ) → lane + more ≤ 4 → gates ≤ 10000 → AreFine (lanes_from lane more gates x)
unfolding lanes_from
lanes_fine lane zero gates x low few = tt
lanes_fine lane (suc more) gates x low few =
    fine_joined (lane_of lane gates x) (lanes_from (lane + 1) more gates (drawn_on gates x))
    (lane_fine lane gates x (omega (arith, low)) few) (lanes_fine (lane + 1) more gates (drawn_on gates x) (omega (arith, low)) few)

pub fine_insts : (is : List Inst) → AreFine is → AreInsts is
fine_insts [] h = tt
fine_insts (i ∷ is) h = (h.0.inst, fine_insts is h.1)

pub fine_pins : (is : List Inst) → AreFine is → PinsLone is
fine_pins [] h = tt
fine_pins (i ∷ is) h = (h.0.lone, fine_pins is h.1)

pub fine_few : (is : List Inst) → AreFine is → conn_count is ≤ 3 * length is
fine_few [] h = omega arith
fine_few (i ∷ is) h = omega (arith, h.0.few, fine_few is h.1)
