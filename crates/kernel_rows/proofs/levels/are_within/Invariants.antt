use Rattle.std.proofs.Common.{ℕ, ◌<◌, slice_index_or}
use Rattle.levelizer.specs.declared.links.Link.{Link}
use Rattle.kernel_rows.proofs.levels.are_within.Given as goal

abbrev pub invariant-loop-link : goal.invariant-loop-link
invariant-loop-link l = (k : ℕ) (d : Link) → k < l.link-index → ((slice_index_or l.links k d).from < l.nodes) × ((slice_index_or l.links k d).to < l.nodes)
