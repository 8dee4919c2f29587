-- What a call leaves of a provider, in terms of its members: its state; the state that its storage keeps,
-- where it tells that; whether its storage is settled; and the states that it came by.
use Rattle.std.specs.Prelude.{◌≡◌, List, [], Option, IfSome, is_some}
use Rattle.sfx_model.specs.members.Members.{Member}
use Rattle.sfx_model.specs.world.Sets.{Has}
use Rattle.sfx_provider.specs.Course.{CameInPart}

-- The provider is as it was: its state and its kept state are the same, it came by no commit, and it is
-- settled where it was.
pub record Rests
    {P : Type 0} (state : P → Member) (kept : P → Option Member) (settled : P → Type 0)
    (came : P → P → List Member → Type 0) (old new : P) : Type 0 where
  pub same : state new ≡ state old
  pub stored : kept new ≡ kept old
  pub by : came old new []
  pub settles : settled old → settled new

-- The kept state is told before and after, or neither time.
abbrev pub TellsAlike : Option Member → Option Member → Type 0
TellsAlike before after = is_some after ≡ is_some before

-- The provider has come by these states to the last one: that is its state, and its storage is settled.
pub record Arrives
    {P : Type 0} (state : P → Member) (kept : P → Option Member) (settled : P → Type 0)
    (came : P → P → List Member → Type 0) (old new : P) (made : List Member) (last : Member) : Type 0 where
  pub at : state new ≡ last
  pub settles : settled new
  pub by : came old new made
  pub tells : TellsAlike (kept old) (kept new)

-- The provider came by the first of the states that were to be made, and perhaps broke off at the next; the
-- kept state, where it is told, is one of the stops.
pub record BreaksOff
    {P : Type 0} (kept : P → Option Member) (came : P → P → List Member → Type 0) (broke : P → P → Member → Type 0)
    (old new : P) (made stops : List Member) : Type 0 where
  pub part : CameInPart came broke old new made
  pub stored : IfSome (kept new) (λ k. Has k stops)
  pub tells : TellsAlike (kept old) (kept new)
