use Rattle.std.proofs.Common.{refl}
use Rattle.std.specs.Fmt.{digits}
use Rattle.std.specs.Fmt.Cut.{floor_char_boundary}
use Rattle.sfx_item.specs.Renamed.{renamed}
use Rattle.sfx_item.proofs.laws.new_names_on_examples.Goals as goal

pub returns-clause-plain : goal.returns-clause-plain
unfolding renamed floor_char_boundary digits
returns-clause-plain c = refl

pub returns-clause-marked : goal.returns-clause-marked
unfolding renamed floor_char_boundary digits
returns-clause-marked c = refl

pub returns-clause-mark_alone : goal.returns-clause-mark_alone
unfolding renamed floor_char_boundary digits
returns-clause-mark_alone c = refl

pub returns-clause-no_mark : goal.returns-clause-no_mark
unfolding renamed floor_char_boundary digits
returns-clause-no_mark c = refl

pub returns-clause-cut_short : goal.returns-clause-cut_short
unfolding renamed floor_char_boundary digits
returns-clause-cut_short c = refl

pub returns-clause-no_room : goal.returns-clause-no_room
unfolding renamed floor_char_boundary digits
returns-clause-no_room c = refl
