use Rattle.std.specs.Prelude.{◌≡◌, ℕ, ◌<◌, ◌≤◌, max, List, [], ◌∷◌}
use Rattle.sfx_ids.specs.declared.cut.Cut.{Cut}
use Rattle.sfx_ids.specs.declared.cut.Cut.TheVariants.{Start, At}
use Rattle.sfx_ids.specs.declared.item_id.ItemId.{ItemId}
use Rattle.sfx_ids.specs.declared.version.Version.{Version}
use Rattle.sfx_vector.specs.Clocks.{Clocks, AreClocks, tick_of, ChangesOnly}
use Rattle.sfx_segments.specs.Segments.{IsPlace, AreSegments, segment_at}
use Rattle.sfx_knowledge.specs.Knowledge.{Known, tick_at}

-- The forgotten deletions of a replica, as plain data: segments of the places, each with the place where
-- it begins and a clock vector.
abbrev pub Forgets : Type 0
Forgets = List (Cut × Clocks)

-- The forgotten deletions at the place.
abbrev pub fvec : Forgets → Cut → Clocks
fvec forgotten place = segment_at [] forgotten place

-- Nothing has been forgotten at any place.
abbrev pub nothing_forgotten : Forgets
nothing_forgotten = (Start, []) ∷ []

-- The version is forgotten at every place: its replica's tick there is at least the version's. All else is
-- as before.
abbrev pub Forgot : Forgets → Forgets → Version → Type 0
Forgot old new v =
    (place : Cut) → IsPlace place →
    ChangesOnly (fvec old place) (fvec new place) v.replica (max (tick_of (fvec old place) v.replica) v.tick)

-- At every place the new deletions are those of both.
abbrev pub ForgotBoth : Forgets → Forgets → Forgets → Type 0
ForgotBoth old other new =
    (place : Cut) (r : ℕ) → IsPlace place →
    tick_of (fvec new place) r ≡ max (tick_of (fvec old place) r) (tick_of (fvec other place) r)

-- At every place and unit the forgotten deletions are within the knowledge.
abbrev pub IsForgottenWithin : ℕ → Forgets → Known → Type 0
IsForgottenWithin units forgotten known =
    (place : Cut) (u r : ℕ) → IsPlace place → u < units →
    tick_of (fvec forgotten place) r ≤ tick_at known place u r

-- At the item, at every unit, the forgotten deletions are within the knowledge.
abbrev pub IsForgottenWithinAt : ℕ → Forgets → Known → ItemId → Type 0
IsForgottenWithinAt units forgotten known i =
    (u r : ℕ) → u < units → tick_of (fvec forgotten (At i)) r ≤ tick_at known (At i) u r

-- The list is forgotten deletions in their one form.
pub record AreForgets (forgotten : Forgets) : Type 0 where
  pub segments : AreSegments forgotten
  pub clocks : (place : Cut) → IsPlace place → AreClocks (fvec forgotten place)
