-- The generated constraints are read back.
use Rattle.std.proofs.Common.{◌≡◌, refl, []}
use Rattle.std.specs.Prelude.{length}
use Rattle.sta_units.specs.Decimal.{written_of, decimal_of}
use Rattle.sta_units.specs.Numbers.{rounded}
use Rattle.sta_text.specs.Bytes.{word_end, comment_end}
use Rattle.sta_text.specs.Pieces.{tcl_piece}
use Rattle.sta_text.specs.Tokens.{tokens}
use Rattle.sdc_reader.specs.Commands.{command_of, is_passed_over, getter_of, is_left_out}
use Rattle.sdc_reader.specs.Grammar.{is_value, is_object, events, events_of}
use Rattle.sdc_reader.specs.Numbers.{number_of}
use Rattle.sdc_reader.specs.Tables.{at_port, at_ports}
use Rattle.sdc_reader.specs.Meaning.{place_from, last, constraints_of}
use Rattle.sdc_reader.specs.Faults.{faults, faults_of}
use Rattle.design_maker.specs.Constants.{constraints_text}
use Rattle.design_laws.specs.Constants.{ps_and_ff, generated_constraints}

pub no_faults : faults_of (length constraints_text) ps_and_ff (events_of constraints_text) ≡ []
unfolding tokens tcl_piece word_end comment_end command_of is_passed_over getter_of is_left_out is_value is_object events number_of at_port at_ports place_from last faults written_of decimal_of rounded
no_faults = refl

pub back : constraints_of ps_and_ff (events_of constraints_text) ≡ generated_constraints
unfolding tokens tcl_piece word_end comment_end command_of is_passed_over getter_of is_left_out is_value is_object events number_of at_port at_ports place_from last written_of decimal_of rounded
back = refl
