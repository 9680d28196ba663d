-- What the number, the place and the stretches of the net's vector say.
use Rattle.std.proofs.Common.{rules, ◌∙◌, sym, ap, ◌∷◌, ◌++◌, []}
use Rattle.std.specs.Fmt.{decimal}
use Rattle.std.specs.Str.{bytes_eq}
use Rattle.sta_text.specs.Names.{said}
use Rattle.verilog_netlist.specs.Nets.{bit_name}
use Rattle.verilog_netlist.specs.Late.{IsBitTold}
use Rattle.verilog_netlist.proofs.LateLemmas.{no_number, no_place, not_held, is_held, on_ok}
use Rattle.verilog_netlist.proofs.late.Late.has_bit.Goals as goal

pub returns-in_default : goal.returns-in_default
returns-in_default c =
    no_number c.args.self.now c.args.net.now c.args.at c.bit_number.result
    (λ k small is. c.bit_number.ensures k small (is ∙ ap (λ v. bit_name v k) (sym c.split_at.ensures.front))) c.in_default.is

pub returns-in_default-find : goal.returns-in_default-find
returns-in_default-find c =
    no_place c.args.self.now c.args.net.now c.args.at c.in-Some.k c.bit_number.result
    (λ k small is. c.bit_number.ensures k small (is ∙ ap (λ v. bit_name v k) (sym c.split_at.ensures.front))) c.in-Some.is
    (ap (said c.args.self.now.places) (sym c.split_at.ensures.front) ∙ sym c.find.ensures ∙ c.in_default-find.is)

pub returns-then-not-has_number : goal.returns-then-not-has_number
returns-then-not-has_number c =
    not_held c.args.self.now c.args.net.now c.args.at c.in-Some.k c.in-Some-find.place c.bit_number.result
    (λ k small is. c.bit_number.ensures k small (is ∙ ap (λ v. bit_name v k) (sym c.split_at.ensures.front))) c.in-Some.is
    (ap (said c.args.self.now.places) (sym c.split_at.ensures.front) ∙ sym c.find.ensures ∙ c.in-Some-find.is)
    (sym c.has_number.ensures ∙ search rules)

pub returns : goal.returns
returns c =
    on_ok c.is_place_text.result _ (IsBitTold c.args.self.now c.args.net.now c.args.at) c.is_place_text.ensures
    (λ is text. is_held c.args.self.now c.args.net.now c.args.at c.in-Some.k c.in-Some-find.place c.bit_number.result is
    (λ k small is. c.bit_number.ensures k small (is ∙ ap (λ v. bit_name v k) (sym c.split_at.ensures.front))) c.in-Some.is
    (ap (said c.args.self.now.places) (sym c.split_at.ensures.front) ∙ sym c.find.ensures ∙ c.in-Some-find.is)
    (sym c.has_number.ensures ∙ search rules)
    (text ∙ ap (λ b. bytes_eq b (91 ∷ (decimal c.in-Some.k ++ (93 ∷ [])))) c.split_at.ensures.back))
