-- Where a line stands, as the reader of lines keeps it.
use Rattle.script_reader.specs.declared.places.Standing.{Standing}
use Rattle.script_reader.specs.declared.places.Standing.TheVariants.{Outside, InGroup, InDraft, InDraftGroup, PassingGroup, PassingDraft}
use Rattle.script_reader.specs.declared.places.Step.{Step}
use Rattle.script_reader.specs.Scripts.{outside}
use Rattle.script_reader.specs.Progress.{in_group, in_draft, in_draft_group}
use Rattle.script_reader.specs.Live.{LivePlace, stands, passing_eco, passing_draft, Behind}

-- the place that is kept
abbrev pub place_of : Standing → LivePlace
place_of Outside = stands outside
place_of (InGroup g) = stands (in_group g)
place_of (InDraft d) = stands (in_draft d)
place_of (InDraftGroup d g) = stands (in_draft_group d g)
place_of PassingGroup = passing_eco
place_of PassingDraft = passing_draft

-- what a line made of it
abbrev pub behind_step : Step → Behind
behind_step s = record { place = place_of s.place; item = s.item }
