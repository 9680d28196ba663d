use Rattle.std.proofs.Common.{rules, of_calls}
use Rattle.std.specs.Prelude.{nat_le}
use Rattle.std.proofs.lemmas.List.Sorted.{IsPartitionPoint-from_clause, IsPartitionedBy-leb}
use Rattle.verilog_netlist.specs.declared.covers.Stretch.{Stretch}
use Rattle.verilog_netlist.proofs.CoverLemmas.{inside, outside}
use Rattle.verilog_netlist.proofs.covers.covers.Goals as goal

pub returns-then-below-gt0 : goal.returns-then-below-gt0
returns-then-below-gt0 c =
    let point = IsPartitionPoint-from_clause (λ (s : Stretch). nat_le s.low c.args.k) c.args.stretches.now c.partition_point-below.result c.partition_point-below.ensures.partitioned
    (IsPartitionedBy-leb (λ (s : Stretch). s.low) c.args.stretches.now c.args.k c.requires.rising) (λ a r q k. search (rules, of_calls)) in
    inside c.args.k c.partition_point-below.result c.args.stretches.now c.args.reaches.now c.partition_point-below.ensures.bound c.requires point (search rules)

pub returns-else-below-gt0 : goal.returns-else-below-gt0
returns-else-below-gt0 c =
    let point = IsPartitionPoint-from_clause (λ (s : Stretch). nat_le s.low c.args.k) c.args.stretches.now c.partition_point-below.result c.partition_point-below.ensures.partitioned
    (IsPartitionedBy-leb (λ (s : Stretch). s.low) c.args.stretches.now c.args.k c.requires.rising) (λ a r q k. search (rules, of_calls)) in
    outside c.args.k c.partition_point-below.result c.args.stretches.now point (search rules)
