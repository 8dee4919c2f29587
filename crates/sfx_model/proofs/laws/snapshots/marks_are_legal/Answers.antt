use Rattle.sfx_model.proofs.sessions.ClassLemmas.{known_here, newer_taken, new_taken, cleaned_taken, stamp_known, stamp_held, dropped_legal, range_listed, range_cleaned, range_unknown}
use Rattle.sfx_model.proofs.laws.snapshots.marks_are_legal.Goals as goal

pub returns-clause-known : goal.returns-clause-known
returns-clause-known c w s m snapshot i made_with seen v u ok meets small has = known_here w s m snapshot i made_with seen u ok meets small has

pub returns-clause-newer : goal.returns-clause-newer
returns-clause-newer c w s m snapshot i made_with seen held v u ok meets small at has = newer_taken w s m snapshot i made_with seen held u ok meets at small has

pub returns-clause-created : goal.returns-clause-created
returns-clause-created c w s m snapshot i made_with seen v u ok meets lacks = new_taken w s m snapshot i made_with seen u ok meets lacks

pub returns-clause-cleaned : goal.returns-clause-cleaned
returns-clause-cleaned c w s m snapshot i made_with seen v u ok meets small gone within = cleaned_taken w s m snapshot i made_with seen u ok meets gone small within

pub returns-clause-stamped : goal.returns-clause-stamped
returns-clause-stamped c w s m snapshot i made_with seen v u content ok meets fresh = stamp_known w s m snapshot i made_with seen v ok meets fresh

pub returns-clause-restamped : goal.returns-clause-restamped
returns-clause-restamped c w s m snapshot i made_with seen held v u content ok meets at fresh = stamp_held w s m snapshot i made_with seen held v ok meets at fresh

pub returns-clause-dropped : goal.returns-clause-dropped
returns-clause-dropped c w s m snapshot i made_with held v u ok meets small at has forgotten = dropped_legal w s m snapshot i made_with held u ok meets at small has forgotten

pub returns-clause-listed : goal.returns-clause-listed
returns-clause-listed c = range_listed

pub returns-clause-lacking : goal.returns-clause-lacking
returns-clause-lacking c = range_cleaned

pub returns-clause-uncreated : goal.returns-clause-uncreated
returns-clause-uncreated c = range_unknown
