use Rattle.std.proofs.Common.{◌<◌, ◌^◌, ◌-◌, arith, refl}
use Rattle.netlist_store.specs.Shards.{number_under}
use Rattle.netlist_store.proofs.NextNumbers.{next_agrees, next_short}
use Rattle.netlist_store.proofs.numberings.Numbering.pushed.Goals as goal

pub invariant_of-result : goal.invariant_of-result
invariant_of-result c =
    let most : c.bound-number.result < 2 ^ 31 - 1 = omega arith in (
      next_agrees (number_under c.self.inside.numbers) (number_under c.push_name.new.numbers) c.self.inside.slots c.push_name.new.slots c.args.self c.bound-number.result c.args.name
          c.args.name c.args.name c.self.invariant.0 c.self.invariant.1 c.self.view_is c.requires.fresh c.bound-number.ensures.bound most
          refl c.in-Ok.ensures.numbers refl c.in-Ok.ensures.slots,
      next_short (number_under c.self.inside.numbers) (number_under c.push_name.new.numbers) c.self.inside.slots c.push_name.new.slots c.args.self c.bound-number.result c.args.name
          c.args.name c.args.name c.self.invariant.0 c.self.invariant.1 c.self.view_is c.requires.fresh c.bound-number.ensures.bound most
          refl c.in-Ok.ensures.numbers refl c.in-Ok.ensures.slots,
    )
