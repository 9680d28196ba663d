use Rattle.std.proofs.Common.{◌≡◌, Some, sym, ap, subst, ◌∙◌}
use Rattle.std.specs.Prelude.{slice_get, option_and_then}
use Rattle.timing_defs.specs.declared.library.Library.{Library}
use Rattle.timing_defs.specs.Netlist.{cell_named}
use Rattle.timing_defs.proofs.SameNames.{same_is}
use Rattle.netlist_store.specs.Places.{place_under}
use Rattle.netlist_store.proofs.cells.Cells.cell_near.Goals as goal

pub returns-in-Some : goal.returns-in-Some
returns-in-Some c =
    let same : c.in-Some.own.now ≡ c.args.name.now = same_is c.in-Some.own.now c.args.name.now (sym c.eq.ensures ∙ c.if-eq.true) in
    let at : place_under c.self.inside.places.entries c.args.name.now ≡ Some c.in-Some.place.now =
    subst (λ n. place_under c.self.inside.places.entries n ≡ Some c.in-Some.place.now) same c.in-Some.ensures.value in
    c.get.ensures.value ∙ sym (ap (option_and_then (slice_get c.self.inside.library.cells)) at) ∙ c.self.invariant c.args.name.now
    ∙ ap (λ (l : Library). cell_named l.cells c.args.name.now) c.self.view_is
