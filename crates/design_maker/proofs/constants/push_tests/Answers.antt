use Rattle.std.proofs.Common.{◌∙◌, codes, append_assoc}
use Rattle.std.proofs.lemmas.Result.{on_ok_weaker}
use Rattle.design_maker.specs.Constants.{test_text, tests_text}
use Rattle.design_maker.proofs.constants.push_tests.Goals as goal

pub returns : goal.returns
unfolding tests_text
returns c =
    on_ok_weaker c.push_test-2.result
    (λ e. e ∙ rw c.in_ok-push_test.ensures
    (append_assoc c.args.out.now.items (test_text (codes "setup_rising") (codes "15")) (test_text (codes "hold_rising") (codes "3"))))
    c.push_test-2.ensures
