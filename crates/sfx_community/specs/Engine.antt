-- The replicas by the unit count of their items, seen as the state.
use Rattle.std.specs.Prelude.{[]}
use Rattle.sfx_community.specs.declared.state.Engine.{Engine}
use Rattle.sfx_community.specs.declared.state.Engine.TheVariants.{Unset, One, Two, Four, Eight}
use Rattle.sfx_community.specs.State.{State, state_among}

-- The unit count with the replicas; 0 and none before it is said.
abbrev pub engine_view : Engine → State
engine_view Unset = state_among 0 []
engine_view (One members) = state_among 1 members
engine_view (Two members) = state_among 2 members
engine_view (Four members) = state_among 4 members
engine_view (Eight members) = state_among 8 members
