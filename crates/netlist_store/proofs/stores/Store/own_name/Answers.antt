use Rattle.std.proofs.Common.{ap, subst, ◌≡◌, ◌∙◌, Some, None, List, ℕ}
use Rattle.std.specs.Prelude.{find, IfOk}
use Rattle.std.specs.Str.{bytes_eq}
use Rattle.timing_defs.specs.declared.library.CellPin.{CellPin}
use Rattle.timing_defs.specs.Edits.{before_last, after_last}
use Rattle.netlist_store.proofs.NumberLaws.{some_is}
use Rattle.netlist_store.proofs.NamedLaws.{number_is}
use Rattle.netlist_store.proofs.JoinSteps.{stands, own_found, own_named}
use Rattle.netlist_store.proofs.stores.Store.own_name.Goals as goal

pub cell_at-cell-requires : goal.cell_at-cell-requires
cell_at-cell-requires c = number_is c.args.self.now.insts (before_last c.args.word.now) c.args.inst c.requires.inst

pub returns : goal.returns
returns c =
    let st = stands c.args.self.now c.laws.ensures.numbered c.laws.ensures.linked c.args.word.now c.args.pin c.requires.colon c.requires.pin in
    let after : c.after_colon-after.result.now ≡ after_last c.args.word.now = c.after_colon-after.ensures ∙ ap after_last c.as_bytes.ensures.value in
    let own : Some c.in-Some.own.now ≡ Some st.own =
    c.in-Some.ensures ∙ ap (λ (q : List ℕ). find (λ (p : CellPin). bytes_eq p.name q) c.cell_at-cell.result.now.pins) after
    ∙ own_found c.args.self.now c.args.word.now st c.args.inst c.cell_at-cell.result.now c.requires.inst c.cell_at-cell.ensures in
    subst (λ (n : List ℕ). IfOk c.copied.result (λ (o : List ℕ). o ≡ n))
    (ap (λ (p : CellPin). p.name) (some_is own) ∙ own_named c.args.self.now.design c.args.word.now st) c.copied.ensures

pub unreachable-requires : goal.unreachable-requires
unreachable-requires c =
    let st = stands c.args.self.now c.laws.ensures.numbered c.laws.ensures.linked c.args.word.now c.args.pin c.requires.colon c.requires.pin in
    let after : c.after_colon-after.result.now ≡ after_last c.args.word.now = c.after_colon-after.ensures ∙ ap after_last c.as_bytes.ensures.value in
    let own : None ≡ Some st.own =
    c.in-None.ensures ∙ ap (λ (q : List ℕ). find (λ (p : CellPin). bytes_eq p.name q) c.cell_at-cell.result.now.pins) after
    ∙ own_found c.args.self.now c.args.word.now st c.args.inst c.cell_at-cell.result.now c.requires.inst c.cell_at-cell.ensures in
    absurd (cc)
