use Rattle.std.proofs.Common.{◌≡◌, ◌≢◌, ℕ, ◌<◌, ◌≤◌, ◌⊎◌, ◌↔◌, List}
use Rattle.sfx_ids.specs.declared.cut.Cut.{Cut}
use Rattle.sfx_ids.specs.declared.cut.Cut.TheVariants.{At}
use Rattle.sfx_ids.specs.declared.item_id.ItemId.{ItemId}
use Rattle.sfx_ids.specs.declared.version.Version.{Version}
use Rattle.sfx_ids.specs.ItemId.{creation_of}
use Rattle.sfx_segments.specs.Segments.{IsPlace}
use Rattle.sfx_model.specs.world.Sets.{Has, IsPart}
use Rattle.sfx_model.specs.world.World.{Record, Site, World, holding, IsAt, Made, IsContained, IsSoundItem, IsHistory}
use Rattle.sfx_model.specs.members.Members.{Shown, clock_among, state_of, ItemRepresents}

-- Both lists have the same elements.
pub record AreSame {A : Type 0} (xs ys : List A) : Type 0 where
  pub there : IsPart xs ys
  pub back : IsPart ys xs

-- Records only came, and each at a cell and version that had none.
pub record Grows (old new : List Record) : Type 0 where
  pub kept : (r : Record) → Has r old → Has r new
  pub was : (r : Record) (i : ItemId) (u : ℕ) (v : Version) → Has r new → IsAt r i u v → Made old i u v → Has r old

-- The same replica later: its id stays, and its clock does not fall.
pub record Follows (old new : Site) : Type 0 where
  pub id : new.id ≡ old.id
  pub clock : old.clock ≤ new.clock

-- What is asked of a record that an event of the changed site adds; rs are the records afterwards.
pub record IsMadeBy (w : World) (old new : Site) (rs : List Record) (r : Record) : Type 0 where
  pub maker : new.id ≡ r.version.replica
  pub newer : old.clock < r.version.tick
  pub most : r.version.tick ≤ new.clock
  pub unit : r.unit < w.units
  pub one_item : (q : Record) → Has q rs → q.version ≡ r.version → q.item ≡ r.item
  pub creation : (u : ℕ) → u < w.units → Made rs r.item u (creation_of r.item)
  pub known : Has r.version (new.known r.item r.unit)

-- What an event does with a world: the site old becomes new, and the records become rs.
pub record Step (w : World) (old new : Site) (rs : List Record) : Type 0 where
  pub follows : Follows old new
  pub grows : Grows w.records rs
  pub history : IsHistory rs
  pub news : (r : Record) → Has r rs → IsMadeBy w old new rs r ⊎ Has r w.records
  pub more : (i : ItemId) (u : ℕ) → IsPart (old.known i u) (new.known i u)
  pub sound : (i : ItemId) → IsSoundItem w.units rs i (holding new i)

-- What an event does with the member of the changed site; m is the member afterwards.
pub record Moves (w : World) (old new : Site) (rs : List Record) (m : Shown) : Type 0 where
  pub id : m.id ≡ new.id
  pub clock : m.clock ≡ new.clock
  pub own : (place : Cut) (u : ℕ) → IsPlace place → u < w.units → m.vector_at place u new.id ≡ new.clock
  pub others : (i : ItemId) (u : ℕ) (v : Version) → Made w.records i u v → v.replica ≢ new.id → IsContained (m.vector_at (At i) u) v ↔ Has v (new.known i u)
  pub items : (i : ItemId) → ItemRepresents w.units rs i (holding new i) (state_of m.items i)
  pub forgotten : (place : Cut) (r : ℕ) → IsPlace place → m.forgotten place r ≡ new.forgotten place r
  pub bounded : (place : Cut) (u r : ℕ) → IsPlace place → u < w.units → r ≢ new.id → m.vector_at place u r ≤ clock_among w.sites r
  pub forgotten_bounded : (place : Cut) (r : ℕ) → IsPlace place → m.forgotten place r ≤ clock_among w.sites r
