-- What a seat tells of itself, where one seat takes in all others.
use Rattle.version_board.specs.declared.views.Old.{Old}
use Rattle.version_board.specs.History.{itself}
use Rattle.version_board.specs.Callers.{Sitting}

abbrev pub tells : {E O : Type 0} → Sitting E O → Old E
tells s = itself s.view
