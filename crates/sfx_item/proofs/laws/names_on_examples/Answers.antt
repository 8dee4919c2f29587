use Rattle.std.proofs.Common.{refl}
use Rattle.std.proofs.Math.Utf8.{encode}
use Rattle.std.specs.Str.{chars, is_utf8}
use Rattle.std.specs.Str.Lossy.{utf8_valid_len}
use Rattle.sfx_item.specs.Decided.{is_wrong_at, name_fault, is_clash}
use Rattle.sfx_item.proofs.laws.names_on_examples.Goals as goal

pub returns-clause-empty : goal.returns-clause-empty
unfolding name_fault is_wrong_at utf8_valid_len is_utf8 chars encode
returns-clause-empty c = refl

pub returns-clause-first : goal.returns-clause-first
unfolding name_fault is_wrong_at utf8_valid_len is_utf8 chars encode
returns-clause-first c = refl

pub returns-clause-last : goal.returns-clause-last
unfolding name_fault is_wrong_at utf8_valid_len is_utf8 chars encode
returns-clause-last c = refl

pub returns-clause-middle : goal.returns-clause-middle
unfolding name_fault is_wrong_at utf8_valid_len is_utf8 chars encode
returns-clause-middle c = refl

pub returns-clause-dot : goal.returns-clause-dot
unfolding name_fault is_wrong_at utf8_valid_len is_utf8 chars encode
returns-clause-dot c = refl

pub returns-clause-long : goal.returns-clause-long
unfolding name_fault is_wrong_at utf8_valid_len is_utf8 chars encode
returns-clause-long c = refl

pub returns-clause-control : goal.returns-clause-control
unfolding name_fault is_wrong_at utf8_valid_len is_utf8 chars encode
returns-clause-control c = refl

pub returns-clause-no_text : goal.returns-clause-no_text
unfolding name_fault is_wrong_at utf8_valid_len is_utf8 chars encode
returns-clause-no_text c = refl

pub returns-clause-name : goal.returns-clause-name
unfolding name_fault is_wrong_at utf8_valid_len is_utf8 chars encode
returns-clause-name c = refl

pub returns-clause-within : goal.returns-clause-within
unfolding is_clash
returns-clause-within c = refl

pub returns-clause-beside : goal.returns-clause-beside
unfolding is_clash
returns-clause-beside c = refl
