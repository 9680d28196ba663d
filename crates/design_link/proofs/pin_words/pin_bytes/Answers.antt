use Rattle.std.proofs.Common.{◌∙◌, ap, sym}
use Rattle.timing_defs.specs.Names.{is_name}
use Rattle.timing_defs.specs.Names.{as_pin}
use Rattle.design_link.proofs.WordLaws.{pin_split, pin_name}
use Rattle.design_link.proofs.pin_words.pin_bytes.Goals as goal

pub returns-clause-bytes : goal.returns-clause-bytes
returns-clause-bytes c =
    c.in_ok-pin.ensures ∙ pin_split c.as_bytes-bytes.result.now c.last_split.result c.last_split.ensures ∙ ap as_pin c.as_bytes-bytes.ensures.value

pub returns-clause-name : goal.returns-clause-name
returns-clause-name c =
    ap is_name (c.in_ok-pin.ensures ∙ pin_split c.as_bytes-bytes.result.now c.last_split.result c.last_split.ensures ∙ ap as_pin c.as_bytes-bytes.ensures.value)
    ∙ pin_name c.args.word.now (ap is_name (sym c.as_bytes-bytes.ensures.value) ∙ c.as_bytes-bytes.ensures.name)
