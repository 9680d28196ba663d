-- A net is declared alone, or as a bit, or not.
use Rattle.std.proofs.Common.{◌∙◌, sym, subst, ◌≡◌, List, ℕ, true, false}
use Rattle.std.specs.List.{list_any}
use Rattle.verilog_netlist.specs.declared.events.Event.{Event}
use Rattle.verilog_netlist.specs.Late.{declares, IsLate, IsBitTold}
use Rattle.verilog_netlist.proofs.LateLemmas.{had_alone, had_none, had_bit, on_ok}
use Rattle.verilog_netlist.proofs.late.Late.has.Goals as goal

pub returns-then-has : goal.returns-then-has
returns-then-has c =
    subst (λ (n : List ℕ). (events : List Event) → IsLate c.args.self.now events → true ≡ list_any (declares n) events) c.as_bytes-net.ensures.value
    (had_alone c.args.self.now c.as_bytes-net.result.now (sym c.has.ensures ∙ c.if-has.true))

pub returns-in-Some : goal.returns-in-Some
returns-in-Some c =
    on_ok c.has_bit.result (IsBitTold c.args.self.now c.as_bytes-net.result.now c.in-Some.at) _ c.has_bit.ensures
    (λ is told. subst (λ (n : List ℕ). (events : List Event) → IsLate c.args.self.now events → is ≡ list_any (declares n) events) c.as_bytes-net.ensures.value
    (had_bit c.args.self.now c.as_bytes-net.result.now c.in-Some.at is (sym c.has.ensures ∙ c.if-has.false) c.in-Some.ensures.1 told))

pub returns-in-None : goal.returns-in-None
returns-in-None c =
    subst (λ (n : List ℕ). (events : List Event) → IsLate c.args.self.now events → false ≡ list_any (declares n) events) c.as_bytes-net.ensures.value
    (had_none c.args.self.now c.as_bytes-net.result.now (sym c.has.ensures ∙ c.if-has.false) c.in-None.ensures)
