-- Commits that are made one after another.
use Rattle.std.specs.Prelude.{◌≡◌, ◌⊎◌, ℕ, List, [], ◌∷◌, ◌++◌}
use Rattle.sfx_model.specs.members.Members.{Member}
use Rattle.sfx_provider.specs.Commit.{CommitData, after_commit}
use Rattle.sfx_provider.specs.Fits.{FitsMember}

-- The state takes each of the commits in its turn.
abbrev pub CommitsFit : ℕ → List CommitData → Member → Type 0
CommitsFit units [] m = Unit {0}
CommitsFit units (c ∷ cs) m = FitsMember units c m × CommitsFit units cs (after_commit units c m)

-- The state after all of them.
abbrev pub after_commits : ℕ → List CommitData → Member → Member
after_commits units [] m = m
after_commits units (c ∷ cs) m = after_commits units cs (after_commit units c m)

-- The states after each of them.
abbrev pub states_after : ℕ → List CommitData → Member → List Member
states_after units [] m = []
states_after units (c ∷ cs) m = after_commit units c m ∷ states_after units cs (after_commit units c m)

-- What a fault leaves of a provider whose commits were to make these states: it came by the first of them,
-- or some value came so, and from that one it broke by the next.
abbrev pub CameInPart :
    {P : Type 0} → (P → P → List Member → Type 0) → (P → P → Member → Type 0) → P → P → List Member → Type 0
CameInPart {P} came broke old new states =
    ((made : List Member) × (left : List Member) × (made ++ left ≡ states) × came old new made)
    ⊎ ((between : P) × (made : List Member) × (next : Member) × (left : List Member) × (made ++ next ∷ left ≡ states) × came old between made × broke between new next)
