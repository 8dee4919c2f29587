-- What holds where nothing refuses a session.
use Rattle.std.proofs.Common.{◌≡◌, ℕ, refl, Option, Some, None}
use Rattle.std.specs.Option.{option_map, option_or}
use Rattle.sfx_model.specs.declared.mode.Mode.{Mode}
use Rattle.sfx_model.specs.declared.mode.Mode.TheVariants.{Normal, Recover}
use Rattle.sfx_model.specs.sessions.Batch.{mode_of}
use Rattle.sfx_model.specs.sessions.MemberKnowledge.{ahead_of, laid_known}
use Rattle.sfx_model.specs.members.Members.{Member}
use Rattle.sfx_session.specs.declared.session_fault.SessionFault.{SessionFault}
use Rattle.sfx_session.specs.declared.session_fault.SessionFault.TheVariants.{Ahead}
use Rattle.sfx_session.specs.Refusals.{ahead, not_built, session_refusal, same_replica}

-- nothing is ahead of the destination, and the mode is normal
pub record IsFree (units : ℕ) (source destination : Member) : Type 0 where
  pub ahead : ahead_of destination (laid_known units source) source.forgotten ≡ None
  pub normal : mode_of units source.forgotten (laid_known units destination) ≡ Normal

none_first : (a b : Option SessionFault) → option_or a b ≡ None → a ≡ None
none_first None b none = refl
none_first (Some fault) b none = cc

none_next : (a b : Option SessionFault) → option_or a b ≡ None → b ≡ None
none_next None b none = none
none_next (Some fault) b none = cc

not_ahead : (clock : ℕ) (tick : Option ℕ) → option_map (λ t. Ahead t clock) tick ≡ None → tick ≡ None
not_ahead clock None none = refl
not_ahead clock (Some t) none = absurd (cc)

is_normal : (mode : Mode) → not_built mode ≡ None → mode ≡ Normal
is_normal Normal none = refl
is_normal Recover none = absurd (cc)

pub free : (units : ℕ) (source destination : Member) → session_refusal units source destination ≡ None → IsFree units source destination
free units source destination none =
    let mode = mode_of units source.forgotten (laid_known units destination) in
    let rest = none_next (same_replica source destination) (option_or (ahead units source destination) (not_built mode)) none in record {
      ahead = not_ahead destination.clock (ahead_of destination (laid_known units source) source.forgotten) (none_first (ahead units source destination) (not_built mode) rest);
      normal = is_normal mode (none_next (ahead units source destination) (not_built mode) rest);
    }
