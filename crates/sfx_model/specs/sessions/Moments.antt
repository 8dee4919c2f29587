-- The states of the destination in a session, one after another, and those of them that are committed.
use Rattle.std.specs.Prelude.{ℕ, ◌%◌, Bool, true, not, ◌&&◌, nat_eq, List, ◌∷◌, map}
use Rattle.std.specs.List.{filter}
use Rattle.sfx_model.specs.members.Members.{Member}

-- A moment of a session.
pub data Moment : Type 0 where
  -- after so many entries of a batch; whether further ones follow
  Applied : (count : ℕ) (more : Bool) (state : Member) → Moment
  -- after a batch's range was learned
  Learned : (state : Member) → Moment
  -- where a batch ended before an entry, so many having been applied
  Stopped : (count : ℕ) (state : Member) → Moment

-- The destination at the moment.
abbrev pub state_at : Moment → Member
state_at (Applied count more state) = state
state_at (Learned state) = state
state_at (Stopped count state) = state

-- So many entries are whole groups.
abbrev pub divides : ℕ → ℕ → Bool
divides group count = nat_eq (count % group) 0

-- The state is committed: after each group of entries that others follow, after a range was learned, and
-- where a batch ended, if entries came since.
abbrev pub is_committed : ℕ → Moment → Bool
is_committed group (Applied count more state) = more && divides group count
is_committed group (Learned state) = true
is_committed group (Stopped count state) = not (divides group count)

-- The states that are committed, where entries are committed in groups of this size.
abbrev pub committed : ℕ → List Moment → List Member
committed group moments = map state_at (filter (is_committed group) moments)

-- A storage that fails may have been left at the state: after each group of entries, after a range was
-- learned, and where a batch ended.
abbrev pub is_stop : ℕ → Moment → Bool
is_stop group (Applied count more state) = divides group count
is_stop group (Learned state) = true
is_stop group (Stopped count state) = true

-- The states that a storage may have been left at, the first of them that before the session.
abbrev pub stops : ℕ → Member → List Moment → List Member
stops group first moments = first ∷ map state_at (filter (is_stop group) moments)
