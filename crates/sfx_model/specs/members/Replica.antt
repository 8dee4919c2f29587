use Rattle.std.specs.Prelude.{◌≡◌, ◌≢◌, ℕ, ◌<◌, [], Some}
use Rattle.sfx_ids.specs.declared.cut.Cut.{Cut}
use Rattle.sfx_segments.specs.Segments.{IsPlace}
use Rattle.sfx_model.specs.world.World.{Site, World, WellFormed}
use Rattle.sfx_model.specs.world.Events.{Event, Units, Widen, Join, Make, Clean, Forget, Apply, Learn, site_of, after, Legal}
use Rattle.sfx_model.specs.members.Members.{Shown, Member, Represents, AreAscending, shown}

-- The replica with this id has a site, and the state represents it.
abbrev pub RepresentsReplica : World → ℕ → Shown → Type 0
RepresentsReplica w r m = (s : Site) × (site_of w.sites r ≡ Some s) × Represents w s m

-- The event is not of this replica. A unit count and a replica that joins are of no other replica,
-- more units are of all.
abbrev pub IsOfOthers : Event → ℕ → Type 0
IsOfOthers (Units units) r = Unit {0}
IsOfOthers (Widen more) r = ⊥
IsOfOthers (Join id) r = Unit {0}
IsOfOthers (Make maker i v contents) r = maker ≢ r
IsOfOthers (Clean cleaner i v lo hi) r = cleaner ≢ r
IsOfOthers (Forget forgetter snapshot lo hi) r = forgetter ≢ r
IsOfOthers (Apply receiver snapshot i v marks) r = receiver ≢ r
IsOfOthers (Learn learner snapshot lo hi left) r = learner ≢ r

-- The state of a replica that just joined under this id, where items have this many units: its clock is 0,
-- and it knows, holds and has forgotten nothing.
pub record IsNewMember (units id : ℕ) (m : Shown) : Type 0 where
  pub id_is : m.id ≡ id
  pub clock : m.clock ≡ 0
  pub vectors : (place : Cut) (u r : ℕ) → IsPlace place → u < units → m.vector_at place u r ≡ 0
  pub forgotten : (place : Cut) (r : ℕ) → IsPlace place → m.forgotten place r ≡ 0
  pub items : m.items ≡ []

-- The event may happen in the world, the world after it is well-formed, and there the replica with this
-- id has a site that the state represents, with its items in order.
pub record ActsIn (w : World) (event : Event) (r : ℕ) (m : Member) : Type 0 where
  pub legal : Legal w event
  pub well_formed : WellFormed (after w event)
  pub represents : RepresentsReplica (after w event) r (shown m)
  pub ascending : AreAscending m.items
