use Rattle.std.proofs.Common.{ap}
use Rattle.std.specs.Option.{option_copied}
use Rattle.netlist_store.proofs.TouchLaws.{owner_named}
use Rattle.netlist_store.proofs.touched.owner_of.Goals as goal

pub returns : goal.returns
returns c =
    let here = c.in_ok-inst.ensures in
    let colon = c.in-Some.ensures in
    owner_named c.args.store.now.design.insts c.args.word.now c.as_bytes-word.result.now c.in-Some.colon (option_copied c.in_ok-inst.field-0)
    c.in-Some-2.inst.now c.as_bytes-word.ensures.value colon.before here (ap option_copied c.in-Some-2.is)
