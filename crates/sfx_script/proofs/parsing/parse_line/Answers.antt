use Rattle.sfx_script.proofs.LimitsLemmas.{answer_limited}
use Rattle.sfx_script.proofs.LinesAreRead.{faults_are, lines_are_read}
use Rattle.sfx_script.proofs.WrongLemmas.{answer_place}
use Rattle.sfx_script.proofs.parsing.parse_line.Goals as goal

pub returns-clause-err : goal.returns-clause-err
returns-clause-err c = faults_are c.args.line.now c.read_line.result c.read_line.ensures

pub returns-clause-limits : goal.returns-clause-limits
returns-clause-limits c = answer_limited c.args.line.now c.read_line.result c.read_line.ensures

pub returns-clause-whole : goal.returns-clause-whole
returns-clause-whole c = lines_are_read c.args.line.now c.read_line.result c.read_line.ensures

pub returns-clause-place : goal.returns-clause-place
returns-clause-place c at is = answer_place c.args.line.now c.read_line.result at c.read_line.ensures is
