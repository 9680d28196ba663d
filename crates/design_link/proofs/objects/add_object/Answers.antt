use Rattle.design_link.proofs.DanglingLaws.{object_added}
use Rattle.design_link.proofs.objects.add_object.Goals as goal

pub returns : goal.returns
returns c =
    object_added c.args.store.now.design c.args.dir c.args.object.now c.in_ok-there.there c.word_of.result.now c.args.names.now c.add_if.new.names c.in_ok-there.ensures
    c.word_of.ensures c.in_ok-add_if.ensures
