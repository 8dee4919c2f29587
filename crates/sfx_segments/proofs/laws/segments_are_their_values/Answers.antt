use Rattle.sfx_segments.proofs.PlaceValues.{never_empty, value_at-total, or_else}
use Rattle.sfx_segments.proofs.SegmentsLemmas.{one_form}
use Rattle.sfx_segments.proofs.laws.segments_are_their_values.Goals as goal

pub returns : goal.returns
returns g c = record { one_form = one_form; never_empty = never_empty; total = value_at-total; or_else = or_else }
