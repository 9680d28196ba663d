use Rattle.std.proofs.Common.{◌≡◌, List, [], map, filter, sym, ap}
use Rattle.std.specs.Prelude.{is_some}
use Rattle.std.specs.Option.{option_map_or}
use Rattle.timing_defs.specs.declared.reports.Candidate.{Candidate}
use Rattle.timing_defs.specs.Edits.{inst_named}
use Rattle.timing_rules.specs.SizeAdvice.{is_candidate, sizes_of}
use Rattle.store_pins.proofs.PinLaws.{told_at}
use Rattle.instance_reports.specs.Resizes.{candidate_by}
use Rattle.instance_reports.proofs.ResizeLaws.{sound_sized}
use Rattle.instance_reports.proofs.AskedLaws.{ok_more, told_candidates}
use Rattle.instance_reports.proofs.candidates.sizes_of.Goals as goal

pub cell_at-now-requires : goal.cell_at-now-requires
cell_at-now-requires c = ap is_some (told_at c.args.store.now.insts c.args.inst.now c.in-Some.number (sym c.in-Some.ensures))

pub sizes_among-requires-clause-sized : goal.sizes_among-requires-clause-sized
sizes_among-requires-clause-sized c = sound_sized c.args.store.now.design c.requires

pub returns-in-Some : goal.returns-in-Some
returns-in-Some c =
    ok_more c.sizes_among.result
    (λ (made : List Candidate). made
    ≡ map (λ cell. candidate_by c.inst_at.result.now.name cell.name) (filter (is_candidate c.args.store.now.design c.inst_at.result.now) c.late_cells-cells.result.now))
    (λ (made : List Candidate). made ≡ option_map_or (sizes_of c.args.store.now.design) (inst_named c.args.store.now.design.insts c.args.inst.now) [])
    (λ made told. told_candidates c.args.store.now c.args.inst.now c.in-Some.number c.inst_at.result.now
    (told_at c.args.store.now.insts c.args.inst.now c.in-Some.number (sym c.in-Some.ensures)) c.inst_at.ensures.value c.late_cells-cells.result.now made c.late_cells-cells.ensures told)
    c.sizes_among.ensures
