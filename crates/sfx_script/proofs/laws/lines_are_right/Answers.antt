use Rattle.sfx_script.proofs.LinesAreRead.{either, never}
use Rattle.sfx_script.proofs.LineLemmas.{sound, whole}
use Rattle.sfx_script.proofs.WrongLemmas.{wrong_first}
use Rattle.sfx_script.proofs.laws.lines_are_right.Goals as goal

pub returns-clause-rows : goal.returns-clause-rows
returns-clause-rows c = sound

pub returns-clause-all : goal.returns-clause-all
returns-clause-all c = whole

pub returns-clause-never : goal.returns-clause-never
returns-clause-never c = never

pub returns-clause-either : goal.returns-clause-either
returns-clause-either c = either

pub returns-clause-first : goal.returns-clause-first
returns-clause-first c = wrong_first
